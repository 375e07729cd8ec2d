-- Each word written is a window of the row.
use Rattle.std.proofs.Common.{◌≡◌, ◌+◌, ◌*◌, ◌/◌, ◌%◌, ◌^◌, ◌<◌, get_or, ap, ◌∙◌, arith, length-set, rules}
use Rattle.words.specs.Packing.{word_bit}
use Rattle.words.proofs.RowLaws.{words_more, window_bit, read_from}
use Rattle.words.proofs.doubled.Doubled.rotate.Goals as goal

pub loop-k-preserved : goal.loop-k-preserved
loop-k-preserved c =
    let row = c.args.self.now.array in
    let d = c.args.d.value in
    let t = c.loop-k.array in
    let k = c.loop-k.k in
    let fits : get_or row (d / 32 + k) 0 < 2 ^ 32 = search rules in (
      length-set t k _ ∙ c.loop-k.invariant.0,
      words_more (λ m. word_bit row (m + (32 * (d / 32) + d % 32))) t k _ (omega arith) c.loop-k.invariant.1
          (λ m e. window_bit row (d / 32 + k) (d % 32) (m % 32) _ fits (omega arith) (omega arith) (omega arith)),
    )

pub returns : goal.returns
returns c =
    let row = c.args.self.now.array in
    let d = c.args.d.value in
    let e : 32 * (d / 32) + d % 32 ≡ d = omega arith in
    read_from row c.loop-k.array d (omega arith) c.loop-k.invariant.0 c.args.self.now.twice
    (λ m h. c.loop-k.invariant.1 m (omega arith) ∙ ap (λ n. word_bit row (m + n)) e)
