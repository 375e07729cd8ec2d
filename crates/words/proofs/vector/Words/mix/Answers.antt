-- The words are mixed place by place.
use Rattle.std.proofs.Common.{ap, ◌∙◌, arith, length-set}
use Rattle.words.specs.Packing.{word_bit, rotated}
use Rattle.words.proofs.WordLaws.{mixed_word, mixed_spare, words-mixed}
use Rattle.words.proofs.RowLaws.{words_more}
use Rattle.words.proofs.vector.Words.mix.Goals as goal

pub loop-k-preserved : goal.loop-k-preserved
loop-k-preserved g c =
    let rule = g.M.Mix.rule in
    let w = c.args.self.now in
    let x = c.rotate.result in
    let y = c.rotate-2.result in
    let t = c.loop-k.array in
    let k = c.loop-k.k in
    let v = c.word.result in (
      length-set t k v ∙ c.loop-k.invariant.0,
      words_more (λ m. rule (word_bit w.array m) (word_bit x.array m) (word_bit y.array m)) t k v (omega arith) c.loop-k.invariant.1
          (mixed_word w.array x.array y.array t k v rule c.word.ensures.places),
      mixed_spare w.array x.array y.array t k v c.loop-k-test.true c.loop-k.invariant.0 w.spare x.spare y.spare c.word.ensures.narrow,
    )

pub returns : goal.returns
returns g c =
    let d = c.args.d.value in
    let e = c.args.e.value in
    words-mixed g.M.Mix.rule c.args.self.now.array _ _ _ d e (c.rotate.ensures ∙ ap (rotated d) c.new-doubled.ensures.bits)
    (c.rotate-2.ensures ∙ ap (rotated e) c.new-doubled.ensures.bits) (λ m h. c.loop-k.invariant.1 m (omega arith))
