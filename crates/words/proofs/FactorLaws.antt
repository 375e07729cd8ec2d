-- With factor 1 the steps are those of the state itself.
use Rattle.std.proofs.Common.{◌≡◌, ℕ, List, refl, ap, ◌∙◌, arith}
use Rattle.duplex.specs.State.{position, chi, theta, pi, round, inject, step}
use Rattle.words.proofs.AddLaws.{add_bits-same}
use Rattle.words.specs.Packing.{mixed, round_by, place_by, inject_by}

round_one : (s : List ℕ) → pi (round_by 1 s) ≡ round s
unfolding round round_by chi theta mixed
round_one s = refl

inject_one : (s : List ℕ) (x : ℕ) → inject_by 1 s x ≡ inject s x
unfolding inject inject_by position
inject_one s x = add_bits-same (place_by 1) position x x 33 0 0 s (λ i h. omega arith) (λ i h. refl)

pub step_one : (s t : List ℕ) (x : ℕ) → t ≡ pi (round_by 1 s) → inject_by 1 t x ≡ step s x
unfolding step
step_one s t x e = inject_one t x ∙ ap (λ u. inject u x) (e ∙ round_one s)
