-- Each turn adds one bit.
use Rattle.std.proofs.Common.{◌∙◌}
use Rattle.words.specs.Packing.{state_of_words, place_by}
use Rattle.words.proofs.AddLaws.{added_next}
use Rattle.words.proofs.vector.Words.add_eight.Goals as goal

pub loop-k-preserved : goal.loop-k-preserved
loop-k-preserved g c =
    let p = place_by (g.P.Places.factor c.args.places.now) in
    added_next p c.args.x 8 c.loop-k.k c.args.j (state_of_words c.loop-k.self.array) _ c.loop-k-test.true c.add_one.ensures ∙ c.loop-k.invariant
