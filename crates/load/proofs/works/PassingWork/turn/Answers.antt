-- What was written is taken, and where nothing was written nothing changes.
use Rattle.std.proofs.Common.{◌≡◌, ℕ, ◌-◌, List, length, take, replicate, Some, Ok, Err, Option, Result, sym, refl, ap, ◌∙◌, subst, ap₂, arith}
use Rattle.link.specs.declared.fault.LinkFault.{LinkFault}
use Rattle.link.specs.Frames.{Standing}
use Rattle.link.specs.declared.kind.Kind.{Kind}
use Rattle.link.specs.Calls.{Checked, write_answer, write_standing, write_out, take_answer, take_standing, take_text}
use Rattle.load.specs.Turns.{sent, Took}
use Rattle.load.proofs.works.PassingWork.turn.Goals as goal

took : (m m' : Standing) (text text' out out' : List ℕ) (answer : Result (ℕ × ℕ) LinkFault) (k : Checked) (n i : ℕ) → answer ≡ Ok (n, i) → out' ≡ out →
    k ≡ take_answer m (take (n - 0) out') (length text) → m' ≡ take_standing m (take (n - 0) out') k → text' ≡ take_text m (take (n - 0) out') text k → Took m (sent answer out) text m' text'
took m m' text text' out out' answer k n i ea eo ek em et =
    let whole : n - 0 ≡ n = omega arith in
    let frame : Some (take (n - 0) out') ≡ sent answer out = ap (λ j. Some (take j out')) whole ∙ sym (ap₂ sent ea (sym eo)) in
    let P : Option (List ℕ) → Type 0 = λ f. Took m f text m' text' in
    subst P frame (em ∙ ap (take_standing m (take (n - 0) out')) ek, et ∙ ap (take_text m (take (n - 0) out') text) ek)

kept : (m : Standing) (text out : List ℕ) (answer : Result (ℕ × ℕ) LinkFault) (e : LinkFault) → answer ≡ Err e → Took m (sent answer out) text m text
kept m text out answer e ea =
    let P : Option (List ℕ) → Type 0 = λ f. Took m f text m text in subst P (sym (ap (λ a. sent a out) ea)) (refl, refl)

-- what a turn makes of both ends and the buffer, where the kind's byte is b
abbrev Passed : (panel panel' head head' : Standing) (text out out' : List ℕ) (kind kind' : Kind) → ℕ → Type 0
Passed panel panel' head head' text out out' kind kind' b =
    (panel' ≡ write_standing panel b text 53) × (kind' ≡ kind) × Took head (sent (write_answer panel b text 53) (write_out panel b text (replicate 53 0))) out head' out'

pub returns-in-Ok : goal.returns-in-Ok
returns-in-Ok g c =
    subst (Passed _ _ _ _ _ _ _ _ _) c.into.ensures (c.write.ensures.moved, refl, took _ _ _ _ _ _ _ _ _ _ (sym c.write.ensures.value ∙ c.in-Ok.is) c.write.ensures.out c.take.ensures.value c.take.ensures.moved c.take.ensures.text)

pub returns-in_default : goal.returns-in_default
returns-in_default g c = subst (Passed _ _ _ _ _ _ _ _ _) c.into.ensures (c.write.ensures.moved, refl, kept _ _ _ _ _ (sym c.write.ensures.value ∙ c.in_default.is))
