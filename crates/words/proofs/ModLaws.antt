-- Sums and products modulo 257.
use Rattle.std.specs.Prelude.{◌≡◌, ℕ, ◌+◌, ◌-◌, ◌*◌, ◌/◌, ◌%◌, ◌<◌}
use Rattle.std.proofs.Common.{sym, ap, ◌∙◌, mul_comm, mul_assoc, mul-add, add-mul, arith}
use Rattle.std.proofs.Math.Nat.{add-mul-mod_self_left}

-- omega does not find the quotient of a remainder that is taken twice: it is given here
pub mod_cong : (n m q : ℕ) → n ≡ m + 257 * q → n % 257 ≡ m % 257
mod_cong n m q e = ap (λ k. k % 257) e ∙ add-mul-mod_self_left m 257 q

pub sum_mod : (a b x y : ℕ) → x ≡ a % 257 → y ≡ b % 257 → (x + y) % 257 ≡ (a + b) % 257
sum_mod a b x y p q = sym (mod_cong (a + b) (x + y) (a / 257 + b / 257) (omega arith))

-- a factor cut at 257
pub cut_left : (c i : ℕ) → c % 257 * i % 257 ≡ c * i % 257
cut_left c i =
    let e : c ≡ c % 257 + 257 * (c / 257) = omega arith in
    let f : c * i ≡ c % 257 * i + 257 * (c / 257 * i) =
    ap (λ n. n * i) e ∙ (add-mul (c % 257) (257 * (c / 257)) i ∙ ap (λ n. c % 257 * i + n) (mul_assoc 257 (c / 257) i)) in
    sym (mod_cong (c * i) (c % 257 * i) (c / 257 * i) f)

pub cut_right : (c i : ℕ) → c * (i % 257) % 257 ≡ c * i % 257
cut_right c i = ap (λ n. n % 257) (mul_comm c (i % 257)) ∙ (cut_left i c ∙ ap (λ n. n % 257) (mul_comm i c))

-- the opposite of a product
pub opposite_mul : (c p : ℕ) → p < 257 → (257 - c * p % 257) % 257 ≡ c * (257 - p) % 257
opposite_mul c p h =
    let whole : c * p + c * (257 - p) ≡ 257 * c = sym (mul-add c p (257 - p)) ∙ (ap (λ n. c * n) (omega arith) ∙ mul_comm c 257) in
    sym (mod_cong (257 - c * p % 257 + 257 * c) (257 - c * p % 257) c (omega arith))
    ∙ mod_cong (257 - c * p % 257 + 257 * c) (c * (257 - p)) (c * p / 257 + 1) (omega arith)
