-- Factor 1, and then the shuffle, is the step of the state itself.
use Rattle.std.proofs.Common.{ap, ◌∙◌}
use Rattle.duplex.specs.State.{pi}
use Rattle.words.specs.Packing.{state_of_words}
use Rattle.words.proofs.FactorLaws.{step_one}
use Rattle.words.proofs.packed.PackedEngine.step.Goals as goal

pub returns : goal.returns
returns c =
    c.inject_by.ensures
    ∙ step_one (state_of_words c.args.self.now.words.array) _ c.args.block (c.shuffle-words.ensures ∙ ap pi c.round_by.ensures)
