-- Turns one after the other, each by the same rule.
use Rattle.std.specs.Prelude.{◌≡◌, ℕ, zero, suc, List, length, take, Some, None, Ok, Err, Option, Result}
use Rattle.link.specs.declared.fault.LinkFault.{LinkFault}
use Rattle.link.specs.Frames.{Standing}
use Rattle.link.specs.Calls.{take_answer, take_standing, take_text}

-- n turns lead from a to b
unfoldable pub Turned : {A : Type 0} → (A → A → Type 0) → ℕ → A → A → Type 0
Turned rule zero a c = a ≡ c
Turned {A = A} rule (suc n) a c = (b : A) × Turned rule n a b × rule b c

-- the frame that a writing end left at the front of a buffer, if it did not refuse
abbrev pub sent : Result (ℕ × ℕ) LinkFault → List ℕ → Option (List ℕ)
sent (Ok wrote) out = Some (take wrote.0 out)
sent (Err e) out = None

-- An end took a frame, if there was one, into a buffer: both before and after.
abbrev pub Took : Standing → Option (List ℕ) → List ℕ → Standing → List ℕ → Type 0
Took m None text m' text' = (m' ≡ m) × (text' ≡ text)
Took m (Some frame) text m' text' = (m' ≡ take_standing m frame (take_answer m frame (length text))) × (text' ≡ take_text m frame text (take_answer m frame (length text)))
