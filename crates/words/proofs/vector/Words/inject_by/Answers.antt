-- One bit and lots of eight, one after the other; of a short block no bit is left for the later ones.
use Rattle.std.proofs.Common.{sym, ◌∙◌, arith}
use Rattle.std.proofs.Math.Nat.{div-eq_of_lt}
use Rattle.words.specs.Packing.{state_of_words, place_by, inject_by}
use Rattle.words.proofs.AddLaws.{added_more, add_bits-all}
use Rattle.words.proofs.vector.Words.inject_by.Goals as goal

pub returns-then-block-lt2 : goal.returns-then-block-lt2
unfolding inject_by
returns-then-block-lt2 g c =
    let x = c.args.block in
    let p = place_by (g.P.Places.factor c.args.places.now) in
    c.add_one.ensures ∙ sym (add_bits-all p x 1 32 0 (state_of_words c.args.self.now.array) (div-eq_of_lt (omega (arith, c.if-block-lt2.true))))

pub returns-then-block-lt512 : goal.returns-then-block-lt512
unfolding inject_by
returns-then-block-lt512 g c =
    let x = c.args.block in
    let p = place_by (g.P.Places.factor c.args.places.now) in
    added_more p x 1 8 0 _ _ _ c.add_one.ensures c.add_eight.ensures
    ∙ sym (add_bits-all p x 9 24 0 (state_of_words c.args.self.now.array) (div-eq_of_lt (omega (arith, c.if-block-lt512.true))))

pub returns : goal.returns
unfolding inject_by
returns g c =
    let x = c.args.block in
    let p = place_by (g.P.Places.factor c.args.places.now) in
    added_more p x 25 8 0 _ _ _ (added_more p x 17 8 0 _ _ _ (added_more p x 9 8 0 _ _ _
    (added_more p x 1 8 0 _ _ _ c.add_one.ensures c.add_eight.ensures) c.add_eight-2.ensures) c.add_eight-3.ensures) c.add_eight-4.ensures
