-- Turns of steps and readings are a chain.
use Rattle.std.proofs.Common.{◌≡◌, ℕ, zero, suc, ◌+◌, ◌^◌, List, sym, ap, ap₂, ◌∙◌, arith}
use Rattle.duplex.specs.State.{step, reading}
use Rattle.load.specs.Turns.{Turned}
use Rattle.load.specs.Chains.{chained}

module _ {A : Type 0} (bits : A → List ℕ) (word : A → ℕ) (rule : A → A → Type 0) (moves : (a b : A) → rule a b → (bits b ≡ step (bits a) (2 ^ 32 + word a)) × (word b ≡ reading (bits b))) where
  -- what n turns leave of a chain of n + m
  chain_left : (n m : ℕ) (a c : A) → Turned rule n a c → chained (bits a) (word a) (n + m) ≡ chained (bits c) (word c) m
  unfolding Turned chained
  chain_left zero m a c e = let all : 0 + m ≡ m = omega arith in ap₂ (λ x k. chained (bits x) (word x) k) e all
  chain_left (suc n) m a c (b, turns, turn) =
      let one = moves b c turn in
      let later : suc n + m ≡ n + suc m = omega arith in
      ap (chained (bits a) (word a)) later ∙ chain_left n (suc m) a b turns
      ∙ ap₂ (λ s w. chained s w m) (sym one.0) (ap reading (sym one.0) ∙ sym one.1)

  pub chain_whole : (n : ℕ) (a c : A) → Turned rule n a c → word c ≡ chained (bits a) (word a) n
  unfolding chained
  chain_whole n a c turns = let all : n + 0 ≡ n = omega arith in sym (chain_left n 0 a c turns) ∙ ap (chained (bits a) (word a)) all
