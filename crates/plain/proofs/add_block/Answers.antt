-- Each turn takes the first of the bits that are left.
use Rattle.std.proofs.Common.{◌+◌, ◌-◌, sym, refl, ap, ◌∙◌}
use Rattle.std.specs.List.{range_with_len}
use Rattle.duplex.specs.State.{position, bit, add_at, add_bits, inject}
use Rattle.duplex.proofs.StepLaws.{add_bits_more}
use Rattle.plain.proofs.add_block.Goals as goal

pub loop-j-init : goal.loop-j-init
unfolding inject
loop-j-init c = refl

pub loop-j-preserved : goal.loop-j-preserved
loop-j-preserved c =
    let x = c.args.block in
    let s = c.loop-j.cells in
    let j = c.loop-j.j in
    ap (λ p. add_bits position x (add_at s p (bit x j)) (range_with_len (j + 1) (33 - (j + 1)))) c.place.ensures.value
    ∙ (sym (add_bits_more position x s j c.loop-j-test.true) ∙ c.loop-j.invariant)
