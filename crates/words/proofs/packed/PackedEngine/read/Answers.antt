-- Factor 1 reads the state itself.
use Rattle.std.proofs.Common.{ap, ◌∙◌}
use Rattle.duplex.specs.State.{reading}
use Rattle.words.specs.Packing.{state_of_words}
use Rattle.words.proofs.StretchLaws.{stretch_one}
use Rattle.words.proofs.WordLaws.{length-words}
use Rattle.words.proofs.packed.PackedEngine.read.Goals as goal

pub returns : goal.returns
returns c = let w = c.args.self.now.words.array in c.read_by.ensures ∙ ap reading (stretch_one (state_of_words w) (length-words w))
