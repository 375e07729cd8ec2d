-- Place by place, (x + 1) × y is y + x × y.
use Rattle.std.proofs.Common.{◌≡◌, ℕ, ap, ◌∙◌, arith}
use lib.Bits.{bit_and, bit_xor}
use Rattle.duplex.specs.State.{bit}
use Rattle.duplex.specs.State.{chi_rule}
use Rattle.words.proofs.BitLaws.{bit-bit_xor, bit-bit_and, chi_form}
use Rattle.words.proofs.round.ChiMix.word.Goals as goal

placewise : (a x y j : ℕ) → bit (bit_xor (bit_xor a y) (bit_and x y)) j ≡ chi_rule (bit a j) (bit x j) (bit y j)
placewise a x y j =
    bit-bit_xor (bit_xor a y) (bit_and x y) j
    ∙ (ap (λ n. bit_xor n (bit (bit_and x y) j)) (bit-bit_xor a y j) ∙ (ap (bit_xor (bit_xor (bit a j) (bit y j))) (bit-bit_and x y j)
    ∙ chi_form (bit a j) (bit x j) (bit y j) (omega arith) (omega arith) (omega arith)))

pub returns-clause-places : goal.returns-clause-places
returns-clause-places c = placewise c.args.a c.args.x c.args.y
