-- Bits that are added: in another order, in several lots, and equal ones at equal places.
use Rattle.std.proofs.Common.{◌≡◌, ℕ, zero, suc, ◌+◌, ◌-◌, ◌/◌, ◌^◌, ◌<◌, List, [], ◌∷◌, length, get_or, set, sym, refl, ap, ◌∙◌, subst, ⊎_elim, arith}
use lib.Bits.{bit_xor, xor_assoc, xor_comm}
use Rattle.std.specs.List.{range_with_len}
use Rattle.std.proofs.lemmas.List.{set-set, set_comm, set_past, get_or-set_same, get_or-set_other}
use Rattle.std.proofs.lemmas.Bool.{cases_lt, cases_eq}
use Rattle.duplex.specs.State.{bit, add_at, add_bits}
use Rattle.duplex.proofs.StepLaws.{add_bits_none}

add_at-twice : (s : List ℕ) (p a b : ℕ) → add_at (add_at s p a) p b ≡ set s p (bit_xor (bit_xor (get_or s p 0) a) b)
add_at-twice s p a b =
    set-set s p _ _ ∙ ⊎_elim
    (λ l. ap (λ v. set s p (bit_xor v b)) (get_or-set_same s p _ 0 l))
    (λ l. set_past s p _ l ∙ sym (set_past s p _ l))
    (cases_lt p (length s))

add_at-comm : (s : List ℕ) (p q a b : ℕ) → add_at (add_at s p a) q b ≡ add_at (add_at s q b) p a
add_at-comm s p q a b =
    ⊎_elim
    (λ e. let x = get_or s p 0 in
    let turn : bit_xor (bit_xor x a) b ≡ bit_xor (bit_xor x b) a = xor_assoc x a b ∙ (ap (bit_xor x) (xor_comm a b) ∙ sym (xor_assoc x b a)) in
    let here : add_at (add_at s p a) p b ≡ add_at (add_at s p b) p a = add_at-twice s p a b ∙ (ap (set s p) turn ∙ sym (add_at-twice s p b a)) in
    subst (λ k. add_at (add_at s p a) k b ≡ add_at (add_at s k b) p a) e here)
    (λ ne. let far : get_or (add_at s p a) q 0 ≡ get_or s q 0 = get_or-set_other s p q _ 0 (λ e. ne (sym e)) in
    let near : get_or (add_at s q b) p 0 ≡ get_or s p 0 = get_or-set_other s q p _ 0 ne in
    ap (λ v. set (add_at s p a) q (bit_xor v b)) far ∙ (set_comm s p q _ _ ne ∙ ap (λ v. set (add_at s q b) p (bit_xor v a)) (sym near)))
    (cases_eq p q)

module _ (p : ℕ → ℕ) (x : ℕ) where
  add_bits-add_at : (js s : List ℕ) (q b : ℕ) → add_bits p x (add_at s q b) js ≡ add_at (add_bits p x s js) q b
  add_bits-add_at [] s q b = refl
  add_bits-add_at (j ∷ js) s q b = ap (λ t. add_bits p x t js) (add_at-comm s q (p j) b (bit x j)) ∙ add_bits-add_at js (add_at s (p j) (bit x j)) q b

  pub add_bits-comm : (ks js s : List ℕ) → add_bits p x (add_bits p x s ks) js ≡ add_bits p x (add_bits p x s js) ks
  add_bits-comm [] js s = refl
  add_bits-comm (k ∷ ks) js s = add_bits-comm ks js (add_at s (p k) (bit x k)) ∙ ap (λ t. add_bits p x t ks) (add_bits-add_at js s (p k) (bit x k))

  -- the first of the bits that are left
  pub added_next : (n k a : ℕ) (s t : List ℕ) → k < n → t ≡ add_at s (p (a + k)) (bit x (a + k))
      → add_bits p x t (range_with_len (a + (k + 1)) (n - (k + 1))) ≡ add_bits p x s (range_with_len (a + k) (n - k))
  added_next n k a s t h e =
      let more : suc (n - (k + 1)) ≡ n - k = omega arith in
      let next : a + (k + 1) ≡ a + k + 1 = omega arith in
      ap (λ b. add_bits p x t (range_with_len b (n - (k + 1)))) next
      ∙ (ap (λ u. add_bits p x u (range_with_len (a + k + 1) (n - (k + 1)))) e ∙ ap (λ m. add_bits p x s (range_with_len (a + k) m)) more)

  -- n bits, and m bits after them
  pub add_bits-join : (n m a : ℕ) (s : List ℕ) → add_bits p x s (range_with_len a (n + m)) ≡ add_bits p x (add_bits p x s (range_with_len a n)) (range_with_len (a + n) m)
  add_bits-join zero m a s =
      let e : zero + m ≡ m = omega arith in
      let z : a ≡ a + 0 = omega arith in
      ap (λ k. add_bits p x s (range_with_len a k)) e ∙ ap (λ k. add_bits p x s (range_with_len k m)) z
  add_bits-join (suc n) m a s =
      let e : suc n + m ≡ suc (n + m) = omega arith in
      let next : a + 1 + n ≡ a + suc n = omega arith in
      let t = add_at s (p a) (bit x a) in
      ap (λ k. add_bits p x s (range_with_len a k)) e
      ∙ (add_bits-join n m (a + 1) t ∙ ap (λ k. add_bits p x (add_bits p x t (range_with_len (a + 1) n)) (range_with_len k m)) next)

  -- the same of one lot that is added, and then another
  pub added_more : (n m a : ℕ) (s t u : List ℕ) → t ≡ add_bits p x s (range_with_len a n) → u ≡ add_bits p x t (range_with_len (a + n) m) → u ≡ add_bits p x s (range_with_len a (n + m))
  added_more n m a s t u first then = then ∙ (ap (λ k. add_bits p x k (range_with_len (a + n) m)) first ∙ sym (add_bits-join n m a s))

  -- where x has no bit past the first n
  pub add_bits-all : (n m a : ℕ) (s : List ℕ) → x / 2 ^ (a + n) ≡ 0 → add_bits p x s (range_with_len a (n + m)) ≡ add_bits p x s (range_with_len a n)
  add_bits-all n m a s h = add_bits-join n m a s ∙ add_bits_none p x (add_bits p x s (range_with_len a n)) m (a + n) h

-- n bits from a on, and n bits from b on
abbrev pub Agree : ℕ → ℕ → ℕ → (ℕ → ℕ) → (ℕ → ℕ) → Type 0
Agree n a b f g = (i : ℕ) → i < n → f (a + i) ≡ g (b + i)

agree_first : (n a b : ℕ) (f g : ℕ → ℕ) → Agree (suc n) a b f g → f a ≡ g b
agree_first n a b f g h = ap f (omega arith) ∙ (h 0 (omega arith) ∙ ap g (omega arith))

agree_later : (n a b : ℕ) (f g : ℕ → ℕ) → Agree (suc n) a b f g → Agree n (a + 1) (b + 1) f g
agree_later n a b f g h i l = ap f (omega arith) ∙ (h (1 + i) (omega arith) ∙ ap g (omega arith))

pub add_bits-same : (p q : ℕ → ℕ) (x y : ℕ) (n a b : ℕ) (s : List ℕ) → Agree n a b p q → Agree n a b (bit x) (bit y)
    → add_bits p x s (range_with_len a n) ≡ add_bits q y s (range_with_len b n)
add_bits-same p q x y zero a b s places bits = refl
add_bits-same p q x y (suc n) a b s places bits =
    ap (λ k. add_bits p x (add_at s k (bit x a)) (range_with_len (a + 1) n)) (agree_first n a b p q places)
    ∙ (ap (λ k. add_bits p x (add_at s (q b) k) (range_with_len (a + 1) n)) (agree_first n a b (bit x) (bit y) bits)
    ∙ add_bits-same p q x y n (a + 1) (b + 1) (add_at s (q b) (bit y b)) (agree_later n a b p q places) (agree_later n a b (bit x) (bit y) bits))
