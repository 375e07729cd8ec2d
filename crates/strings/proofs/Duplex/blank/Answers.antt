-- The turn and the end, at the bits of the engine.
use Rattle.std.proofs.Common.{◌∙◌}
use Rattle.strings.proofs.Readings.{blanked_turn, blanked_end}
use Rattle.strings.proofs.Duplex.blank.Goals as goal

pub loop-preserved : goal.loop-preserved
loop-preserved g c =
    let bits = g.E.Engine.bits in
    blanked_turn (bits c.loop.self.engine) (bits c.step.new.self.engine) c.args.times c.loop.counter c.loop-test.true c.step.ensures ∙ c.loop.invariant

pub returns : goal.returns
returns g c = blanked_end (g.E.Engine.bits c.loop.self.engine) c.args.times c.loop.counter c.loop-test.false ∙ c.loop.invariant
