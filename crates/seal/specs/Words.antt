-- What is told of a word of hex digits that writes no bytes.
use Rattle.sealed.specs.declared.fault.WordFault.{WordFault}
use Rattle.sealed.specs.declared.fault.WordFault.TheVariants.{Hex as Digits, Memory as NoRoom}
use Rattle.seal.specs.declared.fault.Subject.{Subject}
use Rattle.seal.specs.declared.fault.Fault.{Fault}
use Rattle.seal.specs.declared.fault.Fault.TheVariants.{Hex, Memory}

abbrev pub told_of : Subject → WordFault → Fault
told_of subject (Digits fault) = Hex subject fault
told_of subject NoRoom = Memory
