-- A stretched state, every bit from c times its place: its bits, the stretches that change nothing, and how it is gathered word by word.
use Rattle.std.proofs.Common.{◌≡◌, ℕ, ◌+◌, ◌*◌, ◌/◌, ◌%◌, ◌<◌, List, length, get_or, set, sym, ap, ◌∙◌, ⊎_elim, mul-add, arith}
use Rattle.std.proofs.lemmas.List.{get_or-set_same, get_or-set_other, get_or-replicate, length-replicate}
use Rattle.std.proofs.lemmas.Bool.{cases_eq}
use Rattle.duplex.specs.State.{IsState, at, zeros, bit}
use Rattle.duplex.proofs.StateLaws.{at_state, state_all, state_ext, state_is}
use Rattle.words.specs.Packing.{word_bit, state_of_words, stretch}
use Rattle.words.proofs.ModLaws.{mod_cong, cut_left, cut_right}

-- at takes its index modulo 257
pub at_mod : (s : List ℕ) (i j : ℕ) → i % 257 ≡ j % 257 → at s i ≡ at s j
at_mod s i j e = ap (λ n. get_or s n 0) e

pub at_stretch : (c : ℕ) (s : List ℕ) (i : ℕ) → at (stretch c s) i ≡ at s (c * i)
unfolding stretch
at_stretch c s i = at_state (λ i. at s (c * i)) i ∙ at_mod s (c * (i % 257)) (c * i) (cut_right c i)

pub stretch-cut : (c : ℕ) (s : List ℕ) → stretch (c % 257) s ≡ stretch c s
unfolding stretch
stretch-cut c s = state_ext _ _ (λ i h. at_mod s (c % 257 * i) (c * i) (cut_left c i))

pub stretch-state : (c : ℕ) (s : List ℕ) → IsState s → IsState (stretch c s)
unfolding stretch
stretch-state c s w = state_is (λ i. at s (c * i)) (λ i h. w.binary (c * i % 257))

pub stretch_one : (s : List ℕ) → length s ≡ 257 → stretch 1 s ≡ s
unfolding stretch
stretch_one s w = sym (state_all s (λ i. at s (1 * i)) w (λ i h. ap (λ n. get_or s n 0) (omega arith)))

pub stretch-zeros : (c : ℕ) → stretch c zeros ≡ zeros
unfolding stretch
stretch-zeros c =
    sym (state_all zeros (λ i. at zeros (c * i)) (length-replicate {A = ℕ} 257 0)
    (λ i h. get_or-replicate {A = ℕ} 257 i 0 0 h ∙ sym (get_or-replicate {A = ℕ} 257 (c * i % 257) 0 0 (omega arith))))

module _ (c k from : ℕ) (is : from ≡ c * (32 * k) % 257) where
  -- the place of the next word's first bit
  pub place-next : (from + c * 32) % 257 ≡ c * (32 * (k + 1)) % 257
  place-next =
      let whole : c * (32 * (k + 1)) ≡ c * (32 * k) + c * 32 = ap (λ n. c * n) (omega arith) ∙ mul-add c (32 * k) 32 in
      sym (mod_cong (c * (32 * (k + 1))) (from + c * 32) (c * (32 * k) / 257) (omega arith))

  -- and of the bits within a word
  pub place_within : (s : List ℕ) (m : ℕ) → m / 32 ≡ k → at s (from + c * (m % 32)) ≡ at s (c * m)
  place_within s m e =
      let place : 32 * k + m % 32 ≡ m = omega arith in
      let whole : c * m ≡ c * (32 * k) + c * (m % 32) = ap (λ n. c * n) (sym place) ∙ mul-add c (32 * k) (m % 32) in
      ap (λ n. get_or s n 0) (sym (mod_cong (c * m) (from + c * (m % 32)) (c * (32 * k) / 257) (omega arith)))

-- eight words and a last bit
pub all_stretched : (c : ℕ) (s ws : List ℕ) (b : ℕ) → length ws ≡ 9 → ((m : ℕ) → m < 256 → word_bit ws m ≡ at s (c * m)) → b ≡ at s (c * 256) → b < 2
    → state_of_words (set ws 8 b) ≡ stretch c s
unfolding state_of_words stretch
all_stretched c s ws b long made last hb = state_ext _ _ (λ i h.
    ⊎_elim
    (λ e. let z : b / 1 % 2 ≡ b = omega arith in
    let i256 : i ≡ 256 = omega arith in
    ap (λ n. bit (get_or (set ws 8 b) (n / 32) 0) (n % 32)) i256 ∙ (ap (λ n. n / 1 % 2) (get_or-set_same ws 8 b 0 (omega arith)) ∙ (z ∙ (last ∙ ap (λ n. at s (c * n)) (sym i256)))))
    (λ ne. ap (λ n. bit n (i % 32)) (get_or-set_other ws 8 (i / 32) b 0 ne) ∙ made i (omega arith))
    (cases_eq (i / 32) 8))
