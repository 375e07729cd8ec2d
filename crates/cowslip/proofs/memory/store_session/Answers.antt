-- The mark and the bits fill the memory, and are found there again.
use Rattle.std.proofs.Common.{◌≡◌, ◌∷◌, ◌++◌, drop, sym, ap, ◌∙◌, subst, arith}
use Rattle.duplex.specs.Bytes.{bytes_of_state, state_of_bytes}
use Rattle.postponed.specs.Meaning.{meant}
use Rattle.session.specs.Calls.{session_bits}
use Rattle.cowslip.specs.Memory.{session_mark, session_in}
use Rattle.cowslip.proofs.MemoryLaws.{marked, filled, session_found}
use Rattle.cowslip.proofs.memory.store_session.Goals as goal

pub returns : goal.returns
returns c =
    let old = c.args.memory.now in
    let same = c.suspend.ensures in
    let bits = c.copy_from_slice.ensures.after ∙ (c.to_bytes.ensures.value ∙ ap bytes_of_state same) in
    let back : state_of_bytes (bytes_of_state (meant c.suspend.result)) ≡ meant c.suspend.result = sym (ap state_of_bytes c.to_bytes.ensures.value) ∙ c.to_bytes.ensures.back in
    let made = marked session_mark _ old (omega arith) ∙ (ap (λ b. session_mark ∷ (b ++ drop 34 old)) bits ∙ filled session_mark 34 _ old (omega arith)) in
    record {
      memory = made;
      back = ap session_in made ∙ session_found (session_bits meant c.args.session) (subst (λ s. state_of_bytes (bytes_of_state s) ≡ s) same back);
    }
