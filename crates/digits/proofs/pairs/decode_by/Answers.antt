-- A pair of digits more, and the end.
use Rattle.std.proofs.Common.{◌+◌, ◌*◌, ◌<◌, ◌≤◌, length, sym, ◌∙◌, ⊎_elim, arith}
use Rattle.std.proofs.lemmas.Bool.{cases_lt}
use Rattle.std.proofs.lemmas.List.{length-take}
use Rattle.digits.proofs.HexLaws.{digit_at, laid_more, laid_full, laid_out}
use Rattle.digits.proofs.pairs.decode_by.Goals as goal

pub loop-i-preserved : goal.loop-i-preserved
loop-i-preserved c =
    let letters = c.args.letters in
    let xs = c.args.digits.now in
    let i = c.loop-i.i in
    let taken = length-take c.min-n.result c.as_chunks.result.0.now in
    let pairs = c.as_chunks.ensures in
    let fits = c.min-n.ensures in
    let ps = c.as_chunks.result.0.now in
    let n = c.min-n.result in
    let high = c.value_by.ensures.value ∙ digit_at letters xs ps n i 0 (2 * i) pairs.front (omega arith) (omega arith) (omega arith) (omega arith) in
    let low = c.value_by-in-loop-i.ensures.value ∙ digit_at letters xs ps n i 1 (2 * i + 1) pairs.front (omega arith) (omega arith) (omega arith) (omega arith) in
    laid_more letters xs c.loop-i.out i _ (omega arith) (omega arith) (cc) ∙ c.loop-i.invariant

pub returns : goal.returns
returns c =
    let letters = c.args.letters in
    let xs = c.args.digits.now in
    let out = c.loop-i.out in
    let i = c.loop-i.i in
    let taken = length-take c.min-n.result c.as_chunks.result.0.now in
    let pairs = c.as_chunks.ensures in
    let fits = c.min-n.ensures in
    sym (⊎_elim (λ (h : length xs < 2 * i + 2). laid_out letters xs out i h) (λ (h : 2 * i + 2 ≤ length xs). laid_full letters xs out i (omega arith)) (cases_lt (length xs) (2 * i + 2))) ∙ c.loop-i.invariant
