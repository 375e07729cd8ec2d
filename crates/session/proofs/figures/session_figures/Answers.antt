-- Empty steps as blocks, and the lengths of the parts; what the calls answer in the examples.
use Rattle.std.proofs.Common.{◌≡◌, ℕ, List, [], ◌++◌, length, replicate, sym, refl, ◌∙◌, arith, length-append}
use Rattle.duplex.specs.State.{zeros}
use Rattle.duplex.specs.Strings.{blocks, steps, absorbed, blanked}
use Rattle.strings.proofs.Blocks.{steps_append}
use Rattle.session.specs.Sessions.{after_key, after_nonce, begun}
use Rattle.session.specs.Figures.{first_blocks, Refuses}
use Rattle.session.specs.Calls.{seal_answer, open_answer}
use Rattle.session.proofs.SessionLaws.{other_refused}
use Rattle.session.proofs.figures.session_figures.Goals as goal

begins : (key nonce : List ℕ) → begun key nonce ≡ steps zeros (first_blocks key nonce)
unfolding after_key after_nonce absorbed blanked
begins key nonce =
    sym (steps_append zeros (blocks key) (blocks nonce ++ replicate 8 []) ∙ steps_append (steps zeros (blocks key)) (blocks nonce) (replicate 8 []))

sealed_into_18 : (text : List ℕ) → length text ≡ 19 → Refuses (seal_answer text 18) 5 18
unfolding seal_answer
sealed_into_18 text h = rw h refl

opened_into_18 : (s ad c tag : List ℕ) → length c ≡ 19 → Refuses (open_answer s ad c tag 18) 5 18
unfolding open_answer
opened_into_18 s ad c tag h = rw h refl

pub returns : goal.returns
returns c =
    record {
      begins = begins;
      eighteen = λ key nonce h k.
          let five = c.step_counts.ensures.keyed_16 in
          omega (arith, length-append (blocks key) (blocks nonce ++ replicate 8 []), length-append (blocks nonce) (replicate 8 []), five key h, five nonce k);
      other_tag = λ s ad text tag room other fits. rw (other_refused s ad text tag room other fits) refl;
      sealed_into_18 = sealed_into_18;
      opened_into_18 = opened_into_18;
    }
