-- chi and theta are mixes at distances modulo 257, and iota is a bit added at 0.
use Rattle.std.proofs.Common.{◌≡◌, ℕ, ◌*◌, ◌%◌, ap, ◌∙◌, mul_comm, arith}
use Rattle.duplex.specs.State.{iota}
use Rattle.duplex.proofs.StateLaws.{iota_add}
use Rattle.words.specs.Packing.{state_of_words, theta_by, round_by}
use Rattle.duplex.specs.State.{chi_rule, theta_rule}
use Rattle.words.proofs.WordLaws.{length-words, mixed-cut}
use Rattle.words.proofs.vector.Words.round_by.Goals as goal

turn : (d c n : ℕ) → d ≡ c * n % 257 → d ≡ n * c % 257
turn d c n e = e ∙ ap (λ m. m % 257) (mul_comm c n)

pub returns : goal.returns
unfolding round_by
returns c =
    let k = c.args.c.value in
    let t = c.mix-words.result.array in
    let chi-made = c.mix-words.ensures ∙ mixed-cut chi_rule _ k _ (2 * k) _ (omega arith) (turn _ k 2 c.times.ensures) in
    let iota-made = c.add_bit.ensures ∙ (iota_add (state_of_words t) (length-words t) ∙ ap iota chi-made) in
    c.mix.ensures ∙ (mixed-cut theta_rule _ (3 * k) _ (8 * k) _ (turn _ k 3 c.times-2.ensures) (turn _ k 8 c.times-3.ensures) ∙ ap (theta_by k) iota-made)
