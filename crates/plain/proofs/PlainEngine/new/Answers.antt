-- Every cell of the new state is tested.
use Rattle.std.proofs.Common.{replicate, refl, arith}
use Rattle.duplex.proofs.Tables.{below_at}
use Rattle.plain.proofs.PlainEngine.new.Goals as goal

pub invariant_of-result : goal.invariant_of-result
invariant_of-result c = record { width = refl; binary = below_at 2 (replicate 257 _) (replicate 257 _) (omega arith) refl refl }
