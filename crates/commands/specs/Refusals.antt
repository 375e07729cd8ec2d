-- The refusals of the bench: number, layer and column of each.
use Rattle.refusals.specs.declared.Layer.TheVariants.{Bench}
use Rattle.refusals.specs.declared.Refusal.{Refusal}
use Rattle.refusals.specs.Tables.{refusal_of}
use Rattle.commands.specs.declared.terms.Fault.{Fault}
use Rattle.commands.specs.declared.terms.Fault.TheVariants.{Letter, Byte, Hex, Count, Length}

abbrev pub told : Fault → Refusal
told Letter = refusal_of Bench 9 1
told Byte = refusal_of Bench 9 2
told (Hex column) = refusal_of Bench 10 column
told Count = refusal_of Bench 11 3
told Length = refusal_of Bench 12 131
