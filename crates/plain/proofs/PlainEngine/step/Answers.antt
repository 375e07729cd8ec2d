-- The round and then the block are the step, which leaves 257 bits.
use Rattle.std.proofs.Common.{◌≡◌, ℕ, List, sym, ap, ◌∙◌, subst, rules}
use Rattle.duplex.specs.State.{IsState, inject, round, step}
use Rattle.duplex.proofs.StateLaws.{step-state}
use Rattle.plain.specs.declared.Plain.{Plain}
use Rattle.plain.proofs.PlainEngine.step.Goals as goal

stepped : (s t u : List ℕ) (x : ℕ) → t ≡ round s → u ≡ inject t x → u ≡ step s x
unfolding step
stepped s t u x p q = q ∙ ap (λ t. inject t x) p

kept : (e : Plain) (t u : List ℕ) (x : ℕ) → t ≡ round e.cells → u ≡ inject t x → IsState u
kept e t u x p q =
    subst IsState (sym (stepped e.cells t u x p q)) (step-state e.cells x (record { width = e.width; binary = e.binary }))

pub invariant_of-self : goal.invariant_of-self
invariant_of-self c =
    let w = kept c.args.self.now _ _ _ c.rounded-cells.ensures c.add_block.ensures in
    search rules

pub returns : goal.returns
returns c = search (rules, stepped)
