-- The steps with every distance and position times c, on the state that is stretched by c.
use Rattle.std.specs.Prelude.{◌≡◌, ℕ, zero, suc, ◌+◌, ◌*◌, ◌%◌, ◌^◌, ◌<◌, cond, List, [], ◌∷◌, length, set, ◌==◌, bit_xor, nat_eq, slice_index, slice_set, refl}
use Rattle.std.proofs.Common.{sym, ap, ◌∙◌, ⊎_elim, mul_comm, mul_assoc, mul-add, arith, length-set}
use Rattle.std.proofs.Math.Nat.{mul-mul-mul_comm, pow-succ'}
use Rattle.std.specs.List.{range_with_len}
use Rattle.std.proofs.lemmas.List.{get_or-set_same, get_or-set_other}
use Rattle.std.proofs.lemmas.Bool.{cases_Bool, cases_eq, eqb-true, eqb-false, eq-eqb, ne_eqb}
use Rattle.duplex.specs.State.{at, chi_rule, theta_rule, chi, theta, iota, pi, round, bit, add_at, add_bits, position, inject, step}
use Rattle.duplex.proofs.StateLaws.{at_state, state_ext, getD_state, length-state, state_all}
use Rattle.words.specs.Packing.{stretch, mixed, chi_by, theta_by, round_by, place_by, inject_by}
use Rattle.words.proofs.ModLaws.{cut_left, cut_right}
use Rattle.words.proofs.AddLaws.{add_bits-same}
use Rattle.words.proofs.StretchLaws.{at_mod, at_stretch, stretch-cut}

-- bit i + d of the stretched state
at_shift : (c : ℕ) (s : List ℕ) (i d e : ℕ) → c * d ≡ e → at (stretch c s) (i + d) ≡ at s (c * i % 257 + e)
at_shift c s i d e q = at_stretch c s (i + d) ∙ at_mod s (c * (i + d)) (c * i % 257 + e) (omega (arith, mul-add c i d))

at_here : (c : ℕ) (s : List ℕ) (i : ℕ) → at (stretch c s) i ≡ at s (c * i % 257)
at_here c s i = at_stretch c s i ∙ at_mod s (c * i) (c * i % 257) (omega arith)

-- a rule at distances d and e, on the packed bits at c times those
mixed-stretch : (rule : ℕ → ℕ → ℕ → ℕ) (c d e d' e' : ℕ) (s : List ℕ) → c * d ≡ d' → c * e ≡ e'
    → mixed rule d e (stretch c s) ≡ stretch c (mixed rule d' e' s)
unfolding stretch mixed
mixed-stretch rule c d e d' e' s p q = state_ext _ _ (λ i h.
    ap (λ n. rule n (at (stretch c s) (i + d)) (at (stretch c s) (i + e))) (at_here c s i)
    ∙ (ap (λ n. rule (at s (c * i % 257)) n (at (stretch c s) (i + e))) (at_shift c s i d d' p)
    ∙ (ap (rule (at s (c * i % 257)) (at s (c * i % 257 + d'))) (at_shift c s i e e' q) ∙ sym (at_state _ (c * i)))))

chi-stretch : (c : ℕ) (s : List ℕ) → chi (stretch c s) ≡ stretch c (chi_by c s)
unfolding chi mixed
chi-stretch c s = mixed-stretch chi_rule c 1 2 c (2 * c) s (omega arith) (omega arith)

theta-stretch : (c : ℕ) (s : List ℕ) → theta (stretch c s) ≡ stretch c (theta_by c s)
unfolding theta mixed
theta-stretch c s = mixed-stretch theta_rule c 3 8 (3 * c) (8 * c) s (omega arith) (omega arith)

pi-stretch : (c : ℕ) (s : List ℕ) → pi (stretch c s) ≡ stretch (12 * c) s
unfolding stretch pi
pi-stretch c s = state_ext _ _ (λ i h.
    at_stretch c s (12 * i) ∙ at_mod s (c * (12 * i)) (12 * c * i) (ap (λ n. n % 257) (sym (mul_assoc c 12 i) ∙ ap (λ n. n * i) (mul_comm c 12))))

-- c has an inverse modulo 257
abbrev pub Invertible : ℕ → Type 0
Invertible c = (d : ℕ) × (c * d % 257 ≡ 1)

times_apart : (c i j : ℕ) → Invertible c → i < 257 → j < 257 → c * i % 257 ≡ c * j % 257 → i ≡ j
times_apart c i j (d, e) hi hj q =
    let again : d * (c * i % 257) % 257 ≡ d * (c * j % 257) % 257 = ap (λ n. d * n % 257) q in
    let bi = back i in
    let bj = back j in
    omega arith
  where
    back : (i : ℕ) → d * (c * i % 257) % 257 ≡ i % 257
    back i =
        let p : d * (c * i) ≡ c * d * i = sym (mul_assoc d c i) ∙ ap (λ n. n * i) (mul_comm d c) in
        cut_right d (c * i) ∙ (ap (λ n. n % 257) p ∙ (sym (cut_left (c * d) i) ∙ (ap (λ n. n * i % 257) e ∙ omega arith)))

invertible_more : (c : ℕ) → Invertible c → Invertible (12 * c)
invertible_more c (d, e) =
    let p : 12 * c * (150 * d) ≡ 1800 * (c * d) = mul-mul-mul_comm 12 c 150 d in
    (150 * d, ap (λ n. n % 257) p ∙ (sym (cut_right 1800 (c * d)) ∙ ap (λ n. 1800 * n % 257) e))

-- 12 times 150 is 1
pub invertible_power : (n : ℕ) → Invertible (12 ^ n)
invertible_power zero = (1, refl)
invertible_power (suc n) = rw pow-succ' (invertible_more (12 ^ n) (invertible_power n))

iota-stretch : (c : ℕ) (s : List ℕ) → Invertible c → iota (stretch c s) ≡ stretch c (iota s)
unfolding stretch iota
iota-stretch c s v = state_ext _ _ (λ i h.
    let z : nat_eq i 0 ≡ nat_eq (c * i % 257) 0 =
    ⊎_elim (λ t. let e = eqb-true i 0 t in t ∙ sym (eq-eqb (c * i % 257) 0 (ap (λ n. c * n % 257) e ∙ omega arith)))
    (λ t. t ∙ sym (ne_eqb (c * i % 257) 0 (λ q. eqb-false i 0 t (times_apart c i 0 v h (omega arith) (q ∙ omega arith)))))
    (cases_Bool (i == 0)) in
    (ap (λ n. bit_xor n (cond (i == 0) 1 0)) (at_here c s i) ∙ ap (λ t. bit_xor (at s (c * i % 257)) (cond t 1 0)) z)
    ∙ sym (at_state _ (c * i)))

round-stretch : (c : ℕ) (s : List ℕ) → Invertible c → round (stretch c s) ≡ stretch (12 * c) (round_by c s)
unfolding round round_by
round-stretch c s v =
    ap (λ t. pi (theta (iota t))) (chi-stretch c s)
    ∙ (ap (λ t. pi (theta t)) (iota-stretch c (chi_by c s) v)
    ∙ (ap pi (theta-stretch c (iota (chi_by c s)))
    ∙ pi-stretch c (theta_by c (iota (chi_by c s)))))

-- a bit of the stretched state is a bit of the packed one
add_at-stretch : (c : ℕ) (s : List ℕ) (p b : ℕ) → Invertible c → length s ≡ 257 → p < 257
    → add_at (stretch c s) p b ≡ stretch c (add_at s (c * p % 257) b)
unfolding stretch
add_at-stretch c s p b iv w hp =
    let q = c * p % 257 in
    let f : ℕ → ℕ = λ i. at s (c * i) in
    let v = bit_xor (slice_index s q) b in
    ap (λ n. set (stretch c s) p (bit_xor n b)) (getD_state f p hp)
    ∙ state_all (slice_set (stretch c s) p v) (λ i. at (slice_set s q v) (c * i)) (length-set (stretch c s) p v ∙ length-state f)
    (λ i h. ⊎_elim
    (λ e. ap (λ n. slice_index (slice_set (stretch c s) p v) n) e ∙ (get_or-set_same (stretch c s) p v 0 (omega (arith, length-state f))
    ∙ sym (ap (λ n. slice_index (slice_set s q v) (c * n % 257)) e ∙ get_or-set_same s q v 0 (omega arith))))
    (λ ne. get_or-set_other (stretch c s) p i v 0 ne ∙ (getD_state f i h
    ∙ sym (get_or-set_other s q (c * i % 257) v 0 (λ m. ne (times_apart c i p iv h hp m)))))
    (cases_eq i p))

add_bits-stretch : (js : List ℕ) (c : ℕ) (s : List ℕ) (x : ℕ) → Invertible c → length s ≡ 257
    → add_bits position x (stretch c s) js ≡ stretch c (add_bits (place_by c) x s js)
unfolding position
add_bits-stretch [] c s x iv w = refl
add_bits-stretch (j ∷ js) c s x iv w =
    let t = add_at s (place_by c j) (bit x j) in
    ap (λ u. add_bits position x u js) (add_at-stretch c s (position j) (bit x j) iv w (omega arith))
    ∙ add_bits-stretch js c t x iv (length-set s (place_by c j) _ ∙ w)

-- a step of the stretched state
step-stretch : (c : ℕ) (s : List ℕ) (x : ℕ) → Invertible c → step (stretch c s) x ≡ stretch (12 * c) (inject_by (12 * c) (round_by c s) x)
unfolding step inject inject_by round_by mixed
step-stretch c s x iv =
    ap (λ t. inject t x) (round-stretch c s iv)
    ∙ add_bits-stretch (range_with_len 0 33) (12 * c) (round_by c s) x (invertible_more c iv) (length-state _)

inject-cut : (c : ℕ) (s : List ℕ) (x : ℕ) → inject_by (c % 257) s x ≡ inject_by c s x
unfolding inject_by
inject-cut c s x = add_bits-same (place_by (c % 257)) (place_by c) x x 33 0 0 s (λ i h. cut_left c (position (0 + i))) (λ i h. refl)

-- a step at a factor that is c modulo 257, the next factor being 12 times it modulo 257
pub step_stretched : (k c k' : ℕ) (s : List ℕ) (x : ℕ) → Invertible k → c ≡ k % 257 → 12 * k % 257 ≡ k' % 257
    → stretch k' (inject_by k' (round_by c s) x) ≡ step (stretch k s) x
step_stretched k c k' s x (d, i) e next =
    let iv : Invertible c = (d, ap (λ n. n * d % 257) e ∙ (cut_left k d ∙ i)) in
    let same : 12 * c % 257 ≡ k' % 257 = ap (λ n. 12 * n % 257) e ∙ (cut_right 12 k ∙ next) in
    let at-factor : (n : ℕ) → stretch (n % 257) (inject_by (n % 257) (round_by c s) x) ≡ stretch n (inject_by n (round_by c s) x) =
    λ n. stretch-cut n _ ∙ ap (stretch n) (inject-cut n (round_by c s) x) in
    sym (at-factor k') ∙ (ap (λ n. stretch n (inject_by n (round_by c s) x)) (sym same)
    ∙ (at-factor (12 * c) ∙ (sym (step-stretch c s x iv) ∙ ap (λ u. step u x) (ap (λ n. stretch n s) e ∙ stretch-cut k s))))
