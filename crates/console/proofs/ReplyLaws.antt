-- A refusal's line fits into a buffer.
use Rattle.std.proofs.Common.{ℕ, ◌^◌, ◌<◌, ◌≤◌, [], ◌∷◌, ◌++◌, length, decimal, arith}
use Rattle.std.proofs.lemmas.List.{length-append}
use Rattle.std.proofs.lemmas.Fmt.{length-decimal-le}
use Rattle.refusals.specs.declared.Refusal.{Refusal}
use Rattle.console.specs.Replies.{refused, line_feed}

digits_20 : (n : ℕ) → n < 2 ^ 64 → length (decimal n) ≤ 20
digits_20 n h = length-decimal-le 20 n (omega arith) (omega arith) h

pub length-refused : (line : ℕ) (r : Refusal) → line < 2 ^ 64 → r.number < 2 ^ 64 → r.place < 2 ^ 64 → length (refused line r ++ line_feed ∷ []) ≤ 131
length-refused line r h n p =
    simp length-append (omega (arith, digits_20 line h, digits_20 r.number n, digits_20 r.place p))
