-- No shuffle is owed.
use Rattle.std.proofs.Common.{◌∙◌}
use Rattle.words.specs.Packing.{state_of_words}
use Rattle.words.proofs.WordLaws.{length-words}
use Rattle.words.proofs.StretchLaws.{stretch_one}
use Rattle.postponed.proofs.engine.Postponed.from_bytes.Goals as goal

pub returns-clause-means : goal.returns-clause-means
returns-clause-means c = let w = c.from_bytes.result.array in stretch_one (state_of_words w) (length-words w) ∙ c.from_bytes.ensures
