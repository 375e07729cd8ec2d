-- The bits below j are read.
use Rattle.duplex.specs.State.{read_bit}
use Rattle.duplex.proofs.StepLaws.{Read}
use Rattle.plain.proofs.PlainEngine.read.Given as goal

abbrev pub invariant-loop-j : goal.invariant-loop-j
invariant-loop-j l = Read (read_bit l.self.cells) l.j l.out
