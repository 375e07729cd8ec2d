-- What is printed of an end's fault, and of a byte that stands for no kind.
use Rattle.std.specs.Prelude.{ℕ, List, ◌++◌, codes, decimal}
use Rattle.session.specs.Texts as session
use Rattle.link.specs.declared.fault.LinkFault.{LinkFault}
use Rattle.link.specs.declared.fault.LinkFault.TheVariants.{Spent, Empty, UnknownKind, WrongLength, ShortBuffer, WrongNumber, Session}

abbrev pub fault_text : LinkFault → List ℕ
fault_text Spent = codes "the end has come to 1000000"
fault_text Empty = codes "the frame has no byte"
fault_text UnknownKind = codes "unknown kind"
fault_text (WrongLength length) = codes "not the length of its kind"
fault_text (ShortBuffer room) = codes "the buffer is too short"
fault_text WrongNumber = codes "the frame's number is not the end's"
fault_text (Session inner) = session.fault_text inner

abbrev pub no_kind_text : ℕ → List ℕ
no_kind_text byte = codes "no kind has the byte " ++ decimal byte
