-- Each step's equation put into the next.
use Rattle.std.proofs.Common.{◌≡◌, ℕ, List, ap, ◌∙◌, rules}
use Rattle.duplex.specs.State.{state, chi, chi_bit, theta, theta_bit, pi, pi_bit, round, add_at}
use Rattle.duplex.proofs.StateLaws.{length-state, iota_add}
use Rattle.plain.proofs.round.rounded.Goals as goal

in_turn : (s t u v : List ℕ) → t ≡ state (chi_bit s) → u ≡ state (theta_bit (add_at t 0 1)) → v ≡ state (pi_bit u) → v ≡ round s
unfolding chi theta pi round
in_turn s t u v p q r =
    let flipped = ap (λ t. add_at t 0 1) p ∙ iota_add (chi s) (length-state (chi_bit s)) in
    r ∙ ap pi (q ∙ ap theta flipped)

pub returns : goal.returns
returns c = search (rules, in_turn)
