-- The words moved up by one place so far.
use Rattle.std.proofs.Common.{◌≡◌, length}
use Rattle.words.proofs.RowLaws.{Laid}
use Rattle.words.proofs.doubled.Doubled.new.Given as goal

abbrev pub invariant-loop-m : goal.invariant-loop-m
invariant-loop-m l = (length l.array ≡ 18) × Laid l.w l.array l.m
