-- Four times eight bits, one lot after the other.
use Rattle.words.specs.Packing.{place_by, add_word_by}
use Rattle.words.proofs.AddLaws.{added_more}
use Rattle.words.proofs.vector.Words.add_word_by.Goals as goal

pub returns : goal.returns
unfolding add_word_by
returns g c =
    let p = place_by (g.P.Places.factor c.args.places.now) in
    let x = c.args.x in
    added_more p x 24 8 0 _ _ _ (added_more p x 16 8 0 _ _ _ (added_more p x 8 8 0 _ _ _ c.add_eight.ensures c.add_eight-2.ensures) c.add_eight-3.ensures) c.add_eight-4.ensures
