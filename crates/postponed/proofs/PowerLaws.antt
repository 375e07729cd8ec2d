-- The rules of the table of powers: tests over the whole table, carried to each entry; the ring of powers; the positions and their places among the powers.
use Rattle.std.proofs.Common.{◌≡◌, ℕ, zero, suc, ◌+◌, ◌-◌, ◌*◌, ◌%◌, ◌^◌, ◌<◌, Bool, true, cond, eqb, ltb, List, [], ◌∷◌, length, get_or, sym, refl, ap, ◌∙◌, subst, ⊎_elim, add-one, arith}
use native.Mathlib.Nat.{pow-succ'}
use Rattle.std.proofs.lemmas.Nat.{pow-add}
use Rattle.std.proofs.lemmas.Bool.{cases_lt, eqb-true, ltb-true}
use Rattle.duplex.specs.State.{position, positions}
use Rattle.duplex.proofs.StepLaws.{getD_positions}
use Rattle.duplex.proofs.Tables.{every, every_at, below_at}
use Rattle.words.specs.Packing.{place_by}
use Rattle.words.proofs.ModLaws.{cut_left, cut_right}
use Rattle.postponed.specs.Powers.{IsPowers, power_of_12, powers_of_12}

-- where a number first stands in a list
abbrev place_of : ℕ → List ℕ → ℕ
place_of x [] = 0
place_of x (y ∷ ys) = cond (eqb x y) 0 (suc (place_of x ys))

-- the entry after x, the table taken as a ring, is 12 times x
abbrev leads : List ℕ → ℕ → ℕ → Bool
leads t n x = eqb (get_or t ((n + 1) % 256) 0) (12 * x % 257)

abbrev first_here : List ℕ → ℕ → ℕ → Bool
first_here t n x = eqb (place_of x t) n

tested : (t : List ℕ) → length t ≡ 256 → get_or t 0 0 ≡ 1 → every (leads t) 0 t ≡ true → every (first_here t) 0 t ≡ true → IsPowers t
tested t long first ring places =
    let next : (n : ℕ) → n < 256 → get_or t ((n + 1) % 256) 0 ≡ 12 * get_or t n 0 % 257 = λ n h. eqb-true _ _ (every_at (leads t) t ring n (omega arith)) in
    let place : (n : ℕ) → n < 256 → place_of (get_or t n 0) t ≡ n = λ n h. eqb-true _ _ (every_at (first_here t) t places n (omega arith)) in
    record {
      long = long;
      first = first;
      next = λ n h. let e : n + 1 ≡ (n + 1) % 256 = omega arith in ap (λ m. get_or t m 0) e ∙ next n (omega arith);
      apart = λ m n hm hn e. sym (place m hm) ∙ (ap (λ x. place_of x t) e ∙ place n hn);
      back = sym (next 255 (omega arith)) ∙ first;
    }

pub powers_rules : IsPowers powers_of_12
unfolding powers_of_12
powers_rules = tested powers_of_12 refl refl refl refl

-- in the ring of powers each leads to the next
next_power : (n : ℕ) → n < 256 → get_or powers_of_12 ((n + 1) % 256) 0 ≡ 12 * get_or powers_of_12 n 0 % 257
next_power n h =
    ⊎_elim
    (λ l. let e : (n + 1) % 256 ≡ n + 1 = omega arith in ap (λ m. get_or powers_of_12 m 0) e ∙ powers_rules.next n l)
    (λ l. let last : n ≡ 255 = omega arith in
    let e : (n + 1) % 256 ≡ 0 = omega arith in
    ap (λ m. get_or powers_of_12 m 0) e ∙ (powers_rules.first ∙ (sym powers_rules.back ∙ ap (λ m. 12 * get_or powers_of_12 m 0 % 257) (sym last))))
    (cases_lt n 255)

-- so the ring has every power
pub ring_power : (m : ℕ) → get_or powers_of_12 (m % 256) 0 ≡ power_of_12 m
ring_power zero = powers_rules.first
ring_power (suc m) =
    let e : suc m % 256 ≡ (m % 256 + 1) % 256 = omega arith in
    ap (λ k. get_or powers_of_12 k 0) e ∙ (next_power (m % 256) (omega arith)
    ∙ (ap (λ x. 12 * x % 257) (ring_power m) ∙ (cut_right 12 (12 ^ m) ∙ ap (λ x. x % 257) (sym (pow-succ' 12 m)))))

pub getD_powers : (n : ℕ) → n < 256 → get_or powers_of_12 n 0 ≡ power_of_12 n
getD_powers n h = let e : n ≡ n % 256 = omega arith in ap (λ k. get_or powers_of_12 k 0) e ∙ ring_power n

pub turned : (m : ℕ) → power_of_12 (m % 256) ≡ power_of_12 m
turned m = sym (getD_powers (m % 256) (omega arith)) ∙ ring_power m

-- every entry of the table, and the 0 past its end
pub power_below : (t : List ℕ) (n : ℕ) → t ≡ powers_of_12 → get_or t n 0 < 257
unfolding powers_of_12
power_below t n e = below_at 257 powers_of_12 t (omega arith) refl e n

-- the count that wraps
pub next-count : (n : ℕ) → 12 * 12 ^ n % 257 ≡ power_of_12 ((n + 1) % 256)
next-count n = sym (turned (n + 1) ∙ ap (λ x. x % 257) (ap (λ m. 12 ^ m) (add-one n) ∙ pow-succ' 12 n))

-- none is 0
abbrev positive : ℕ → ℕ → Bool
positive n x = ltb 0 x

power_positive : (n : ℕ) → n < 256 → 0 < power_of_12 n
unfolding powers_of_12
power_positive n h = subst (λ x. 0 < x) (getD_powers n h) (ltb-true 0 _ (every_at positive powers_of_12 refl n h))

pub power_more : (m : ℕ) → 0 < power_of_12 m
power_more m = subst (λ x. 0 < x) (turned m) (power_positive (m % 256) (omega arith))

-- position j is 12 to the power 4 j
position_power : (j : ℕ) → position j ≡ power_of_12 (4 * j)
unfolding position
position_power zero = refl
position_power (suc j) =
    let e : 4 + 4 * j ≡ 4 * suc j = omega arith in
    ap (λ n. n % 257) (pow-succ' 176 j)
    ∙ (sym (cut_right 176 (176 ^ j)) ∙ (ap (λ n. 176 * n % 257) (position_power j) ∙ (cut_right 176 (12 ^ (4 * j))
    ∙ (cut_left (12 ^ 4) (12 ^ (4 * j)) ∙ ap (λ n. n % 257) (sym (pow-add 12 4 (4 * j)) ∙ ap (λ n. 12 ^ n) e)))))

-- so its place is a power of 12
pub place_power : (n j : ℕ) → place_by (12 ^ n) j ≡ power_of_12 (n + 4 * j)
place_power n j =
    ap (λ p. 12 ^ n * p % 257) (position_power j) ∙ (cut_right (12 ^ n) (12 ^ (4 * j)) ∙ ap (λ x. x % 257) (sym (pow-add 12 n (4 * j))))

-- the product of a power and of an entry of the table of positions
pub place_product : (n j i c r : ℕ) (t : List ℕ) → t ≡ positions → r ≡ c * get_or t i 0 % 257 → c ≡ power_of_12 n → i ≡ j → j < 33 → r ≡ place_by (12 ^ n) j
place_product n j i c r t table product power same h =
    let entry : get_or t i 0 ≡ position j = ap (λ k. get_or t k 0) same ∙ (ap (λ u. get_or u j 0) table ∙ getD_positions j h) in
    product ∙ (ap (λ x. x * get_or t i 0 % 257) power ∙ (cut_left (12 ^ n) (get_or t i 0) ∙ ap (λ p. 12 ^ n * p % 257) entry))

-- and 128 powers on is the place opposite to it
pub opposite_power : (m : ℕ) → power_of_12 (m + 128) ≡ 257 - power_of_12 m
opposite_power m =
    let p = power_of_12 m in
    let twice : p * 256 % 257 ≡ 257 - p = omega (arith, power_more m) in
    ap (λ x. x % 257) (pow-add 12 m 128) ∙ (sym (cut_right (12 ^ m) (12 ^ 128)) ∙ (sym (cut_left (12 ^ m) 256) ∙ twice))
