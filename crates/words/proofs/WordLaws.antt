-- The state that nine words hold: a bit added, every bit at once, and all zero.
use Rattle.std.specs.Prelude.{◌≡◌, ℕ, ◌+◌, ◌*◌, ◌/◌, ◌%◌, ◌^◌, ◌<◌, List, length, replicate, ◌≢◌, slice_index, slice_index_or, slice_set}
use Rattle.std.proofs.Common.{sym, ap, subst, ◌∙◌, ⊎_elim, arith, length-set}
use Rattle.std.specs.Int.Bits.{bit_xor, xor_zero_r}
use Rattle.std.proofs.lemmas.Nat.{xor_lt}
use Rattle.std.proofs.lemmas.List.{get_or-set_same, get_or-set_other, get_or-replicate, length-replicate}
use Rattle.std.proofs.lemmas.Bool.{cases_eq}
use Rattle.duplex.specs.State.{bit, at, zeros, add_at}
use Rattle.duplex.proofs.StateLaws.{at_state, state_ext, getD_state, state_all}
use Rattle.words.specs.Packing.{word_bit, state_of_words, rotated, mixed}
use Rattle.words.specs.StateLaw.{words-state}
use Rattle.words.proofs.BitLaws.{bit-bit_xor, bit_zero, single_here, single_other}
use Rattle.words.proofs.ModLaws.{mod_cong}

pub length-words : (ws : List ℕ) → length (state_of_words ws) ≡ 257
length-words ws = (words-state ws).width

pub getD_words : (ws : List ℕ) (i : ℕ) → i < 257 → slice_index (state_of_words ws) i ≡ word_bit ws i
unfolding state_of_words
getD_words ws i h = getD_state (word_bit ws) i h

pub at_rotated : (d : ℕ) (s : List ℕ) (i : ℕ) → at (rotated d s) i ≡ at s (i + d)
unfolding rotated
at_rotated d s i = at_state (λ i. at s (i + d)) i ∙ ap (λ n. slice_index s n) (omega arith)

-- a bit added at place p
abbrev added : List ℕ → ℕ → ℕ → List ℕ
added ws p b = slice_set ws (p / 32) (bit_xor (slice_index ws (p / 32)) (b * 2 ^ (p % 32) % 2 ^ 32))

added_here : (ws : List ℕ) (p b : ℕ) → p / 32 < length ws → b < 2 → word_bit (added ws p b) p ≡ bit_xor (word_bit ws p) b
added_here ws p b l hb =
    ap (λ n. bit n (p % 32)) (get_or-set_same ws (p / 32) _ 0 l)
    ∙ (bit-bit_xor (slice_index ws (p / 32)) _ (p % 32) ∙ ap (bit_xor (word_bit ws p)) (single_here b (p % 32) 32 hb (omega arith)))

added_other : (ws : List ℕ) (p b i : ℕ) → p / 32 < length ws → b < 2 → (i ≢ p) → word_bit (added ws p b) i ≡ word_bit ws i
added_other ws p b i l hb ne =
    let m = b * 2 ^ (p % 32) % 2 ^ 32 in
    ⊎_elim
    (λ e. ap (λ n. bit (slice_index (added ws p b) n) (i % 32)) e
    ∙ (ap (λ n. bit n (i % 32)) (get_or-set_same ws (p / 32) (bit_xor (slice_index ws (p / 32)) m) 0 l)
    ∙ (bit-bit_xor (slice_index ws (p / 32)) m (i % 32)
    ∙ (ap (bit_xor (bit (slice_index ws (p / 32)) (i % 32))) (single_other b (p % 32) 32 (i % 32) hb (omega arith) (λ q. ne (omega arith)))
    ∙ (xor_zero_r _ ∙ ap (λ n. bit (slice_index ws n) (i % 32)) (sym e))))))
    (λ far. ap (λ n. bit n (i % 32)) (get_or-set_other ws (p / 32) (i / 32) _ 0 far))
    (cases_eq (i / 32) (p / 32))

pub words_added : (ws : List ℕ) (p b : ℕ) → p < 257 → length ws ≡ 9 → b < 2 → state_of_words (added ws p b) ≡ add_at (state_of_words ws) p b
unfolding state_of_words
words_added ws p b hp w hb =
    let v = bit_xor (slice_index (state_of_words ws) p) b in
    sym (state_all (slice_set (state_of_words ws) p v) (word_bit (added ws p b)) (length-set (state_of_words ws) p v ∙ length-words ws)
    (λ i h. ⊎_elim
    (λ e. ap (λ n. slice_index (slice_set (state_of_words ws) p v) n) e ∙ (get_or-set_same (state_of_words ws) p v 0 (omega (arith, length-words ws))
    ∙ (ap (λ n. bit_xor n b) (getD_words ws p hp) ∙ (sym (added_here ws p b (omega arith) hb) ∙ ap (word_bit (added ws p b)) (sym e)))))
    (λ ne. get_or-set_other (state_of_words ws) p i v 0 ne ∙ (getD_words ws i h ∙ sym (added_other ws p b i (omega arith) hb ne)))
    (cases_eq i p)))

pub spare_added : (ws : List ℕ) (p b : ℕ) → p < 257 → length ws ≡ 9 → b < 2 → slice_index ws 8 < 2 → slice_index (added ws p b) 8 < 2
spare_added ws p b hp w hb s =
    ⊎_elim
    (λ e. let z : p % 32 ≡ 0 = omega arith in
    let one : b * 2 ^ (p % 32) % 2 ^ 32 ≡ b = ap (λ n. b * 2 ^ n % 2 ^ 32) z ∙ omega arith in
    let is : slice_index_or (added ws p b) 8 0 ≡ bit_xor (slice_index ws 8) b =
    ap (λ n. slice_index (slice_set ws n (bit_xor (slice_index ws n) (b * 2 ^ (p % 32) % 2 ^ 32))) 8) (sym e)
    ∙ (get_or-set_same ws 8 _ 0 (omega arith) ∙ ap (bit_xor (slice_index ws 8)) one) in
    subst (λ n. n < 2) (sym is) (xor_lt 1 (slice_index ws 8) b s hb))
    (λ ne. subst (λ n. n < 2) (sym (get_or-set_other ws (p / 32) 8 _ 0 ne)) s)
    (cases_eq 8 (p / 32))

module _ (w x y t : List ℕ) (k v : ℕ) where
  -- word k, made place by place by a rule
  pub mixed_word : (rule : ℕ → ℕ → ℕ → ℕ) → ((j : ℕ) → bit v j ≡ rule (bit (slice_index w k) j) (bit (slice_index x k) j) (bit (slice_index y k) j))
      → (m : ℕ) → m / 32 ≡ k → bit v (m % 32) ≡ rule (word_bit w m) (word_bit x m) (word_bit y m)
  mixed_word rule is m e =
      is (m % 32) ∙ ap (λ n. rule (bit (slice_index w n) (m % 32)) (bit (slice_index x n) (m % 32)) (bit (slice_index y n) (m % 32))) (sym e)

  -- the last word, as narrow as those it is made of
  pub mixed_spare : k < 9 → length t ≡ 9 → slice_index w 8 < 2 → slice_index x 8 < 2 → slice_index y 8 < 2
      → (slice_index w k < 2 → slice_index x k < 2 → slice_index y k < 2 → v < 2) → 8 < k + 1 → slice_index (slice_set t k v) 8 < 2
  mixed_spare h long sw sx sy narrow l =
      let e : 8 ≡ k = omega arith in
      let low : (z : List ℕ) → slice_index z 8 < 2 → slice_index z k < 2 = λ z. subst (λ n. slice_index z n < 2) e in
      subst (λ n. n < 2) (sym (ap (λ n. slice_index (slice_set t k v) n) e ∙ get_or-set_same t k v 0 (omega arith))) (narrow (low w sw) (low x sx) (low y sy))

-- words made place by place by a rule, of words and of them rotated by d and by e
pub words-mixed : (rule : ℕ → ℕ → ℕ → ℕ) (w x y t : List ℕ) (d e : ℕ) → state_of_words x ≡ rotated d (state_of_words w) → state_of_words y ≡ rotated e (state_of_words w)
    → ((m : ℕ) → m < 257 → word_bit t m ≡ rule (word_bit w m) (word_bit x m) (word_bit y m)) → state_of_words t ≡ mixed rule d e (state_of_words w)
unfolding state_of_words mixed
words-mixed rule w x y t d e hx hy made = state_ext _ _ (λ i h.
    let here : (z : List ℕ) → word_bit z i ≡ at (state_of_words z) i = λ z. sym (getD_words z i h) ∙ ap (λ n. slice_index (state_of_words z) n) (omega arith) in
    let there : (z : List ℕ) (f : ℕ) → state_of_words z ≡ rotated f (state_of_words w) → word_bit z i ≡ at (state_of_words w) (i + f) =
    λ z f q. here z ∙ (ap (λ s. at s i) q ∙ at_rotated f (state_of_words w) i) in
    made i h ∙ (ap (λ n. rule n (word_bit x i) (word_bit y i)) (here w)
    ∙ (ap (λ n. rule (at (state_of_words w) i) n (word_bit y i)) (there x d hx) ∙ ap (rule (at (state_of_words w) i) (at (state_of_words w) (i + d))) (there y e hy))))

-- a distance counts modulo 257
pub mixed-cut : (rule : ℕ → ℕ → ℕ → ℕ) (d d' e e' : ℕ) (s : List ℕ) → d ≡ d' % 257 → e ≡ e' % 257 → mixed rule d e s ≡ mixed rule d' e' s
unfolding mixed
mixed-cut rule d d' e e' s p q = state_ext _ _ (λ i h.
    ap (λ n. rule (at s i) n (at s (i + e))) (far i d d' p) ∙ ap (rule (at s i) (at s (i + d'))) (far i e e' q))
  where
    far : (i f g : ℕ) → f ≡ g % 257 → at s (i + f) ≡ at s (i + g)
    far i f g q = ap (λ n. slice_index s n) (ap (λ n. (i + n) % 257) q ∙ sym (mod_cong (i + g) (i + g % 257) (g / 257) (omega arith)))

-- words that are zero hold zeros
pub words-zeros : state_of_words (replicate 9 0) ≡ zeros
unfolding state_of_words
words-zeros =
    sym (state_all zeros (word_bit (replicate 9 0)) (length-replicate {A = ℕ} 257 0)
    (λ i h. get_or-replicate {A = ℕ} 257 i 0 0 h
    ∙ sym (ap (λ n. bit n (i % 32)) (get_or-replicate {A = ℕ} 9 (i / 32) 0 0 (omega arith)) ∙ bit_zero (i % 32))))
