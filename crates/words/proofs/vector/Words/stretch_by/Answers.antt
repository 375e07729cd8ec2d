-- A word a turn, and then the last bit.
use Rattle.std.proofs.Common.{◌≡◌, ℕ, ◌+◌, ◌*◌, ◌%◌, ◌<◌, List, get_or, sym, ap, ◌∙◌, subst, arith, length-set}
use Rattle.std.proofs.lemmas.List.{get_or-set_same}
use Rattle.duplex.specs.State.{at, bit}
use Rattle.words.specs.Packing.{state_of_words}
use Rattle.words.proofs.ReadLaws.{bits_bit}
use Rattle.words.proofs.RowLaws.{words_more}
use Rattle.words.proofs.StretchLaws.{place-next, place_within, all_stretched}
use Rattle.words.specs.StateLaw.{words-state}
use Rattle.words.proofs.vector.Words.stretch_by.Goals as goal

pub loop-k-preserved : goal.loop-k-preserved
loop-k-preserved c =
    let s = state_of_words c.args.self.now.array in
    let d = c.args.c.value in
    let k = c.loop-k.k in
    let from = c.loop-k.from.0 in
    let is = c.loop-k.invariant.1 in
    let t = state_of_words c.new-row.result.array in
    let binary : (i : ℕ) → at t (from + d * i) < 2 = λ i. (words-state c.new-row.result.array).binary ((from + d * i) % 257) in
    let here : (i : ℕ) → i < 32 → bit c.gather-word.result.0 i ≡ at s (from + d * i) =
    λ i h. ap (λ w. bit w i) c.gather-word.ensures.bits ∙ (bits_bit (λ i. at t (from + d * i)) binary 32 0 i h
    ∙ (ap (λ i. at t (from + d * i)) (omega arith) ∙ ap (λ u. at u (from + d * i)) c.new-row.ensures.bits)) in (
      length-set c.loop-k.array k _ ∙ c.loop-k.invariant.0,
      c.gather-word.ensures.next ∙ place-next d k from is,
      words_more (λ m. at s (d * m)) c.loop-k.array k _ (omega arith) c.loop-k.invariant.2 (λ m e. here (m % 32) (omega arith) ∙ place_within d k from is s m e),
    )

bit_fits : (ws : List ℕ) (b p : ℕ) → b ≡ get_or (state_of_words ws) p 0 → b < 2
bit_fits ws b p e = subst (λ n. n < 2) (sym e) ((words-state ws).binary p)

pub invariant_of-result : goal.invariant_of-result
invariant_of-result c =
    let small = bit_fits c.args.self.now.array _ _ c.bit.ensures in
    record { width = length-set c.loop-k.array 8 _ ∙ c.loop-k.invariant.0; spare = subst (λ n. n < 2) (sym (get_or-set_same c.loop-k.array 8 _ 0 (omega arith))) small }

pub returns : goal.returns
returns c =
    let s = state_of_words c.args.self.now.array in
    let e : c.loop-k.k ≡ 8 = omega arith in
    all_stretched c.args.c.value s c.loop-k.array _ c.loop-k.invariant.0 (λ m h. c.loop-k.invariant.2 m (omega arith))
    (c.bit.ensures ∙ ap (λ n. get_or s n 0) (c.loop-k.invariant.1 ∙ ap (λ n. c.args.c.value * (32 * n) % 257) e)) (bit_fits c.args.self.now.array _ _ c.bit.ensures)
