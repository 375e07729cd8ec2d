-- Zeros mean zeros, whatever is owed.
use Rattle.std.proofs.Common.{ap, ◌∙◌}
use Rattle.words.specs.Packing.{stretch}
use Rattle.words.proofs.StretchLaws.{stretch-zeros}
use Rattle.postponed.proofs.engine.PostponedEngine.new.Goals as goal

pub returns-clause-means : goal.returns-clause-means
returns-clause-means c = ap (stretch _) c.new.ensures ∙ stretch-zeros _
