-- If appending what is left gives some bits, then so does appending the whole input to zeros.
use Rattle.std.proofs.Common.{List, ℕ}
use Rattle.duplex.specs.State.{zeros}
use Rattle.postponed.specs.Meaning.{meant}
use Rattle.digest.proofs.InputLaws.{Feeds}
use Rattle.digest.proofs.work.digest_input.Given as goal

abbrev pub invariant-loop : goal.invariant-loop
invariant-loop g l = (last : List ℕ) → Feeds (meant l.feeding.duplex.engine) (g.R.Read.remaining l.input) last → Feeds zeros (g.R.Read.remaining l.fn.input) last
