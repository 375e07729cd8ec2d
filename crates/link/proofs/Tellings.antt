-- What the answers of the ends tell: the first row of the table whose condition holds.
use Rattle.std.proofs.Common.{◌≡◌, ℕ, ◌+◌, ◌<◌, ◌≤◌, Bool, true, false, cond, not, List, [], ◌∷◌, length, Some, Ok, Err, Result, refl, ap, ◌∙◌, arith}
use Rattle.std.proofs.lemmas.Bool.{lt-ltb, le-ltb, eq-eqb, ne_eqb}
use Rattle.refusals.specs.declared.Layer.TheVariants as Layer
use Rattle.refusals.specs.Tables.{first_of, refused_by, refusal_of}
use Rattle.session.specs.declared.fault.SessionFault.TheVariants.{Tag}
use Rattle.session.specs.Sessions.{opens}
use Rattle.link.specs.declared.kind.Kind.{Kind}
use Rattle.link.specs.declared.kind.Kind.TheVariants.{PollValue, Alarm, Output, Clock, ZoneName, Heartbeat}
use Rattle.link.specs.declared.fault.LinkFault.{LinkFault}
use Rattle.link.specs.declared.fault.LinkFault.TheVariants.{Session}
use Rattle.link.specs.Kinds.{text_length, least_room}
use Rattle.link.specs.Frames.{Standing, number_limit, header_length, overhead, header_in, ciphertext_in, tag_in}
use Rattle.link.specs.Refusals.{told, in_frame, take_table, write_table}
use Rattle.link.specs.Calls.{Checked, opened, wrote_pair, take_answer, write_answer}
use Rattle.link.proofs.Takings.{Fit, Seen, seen, length_body}
use Rattle.link.proofs.Writings.{Vetted, view}

below : {n : ℕ} → n < number_limit → n ≡ number_limit → ⊥
below h e = omega arith

-- no text is longer
pub short_text : (k : Kind) → text_length k ≤ least_room
short_text PollValue = omega arith
short_text Alarm = omega arith
short_text Output = omega arith
short_text Clock = omega arith
short_text ZoneName = omega arith
short_text Heartbeat = omega arith

-- so the place of a tag is not cut off
pub in_frame_is : (k : Kind) (n : ℕ) → n ≡ text_length k → in_frame n ≡ n + header_length
in_frame_is k n e = let h = short_text k in omega arith

-- an opening, after the checks
opening : (k : Kind) (n : ℕ) (accepted : Bool) → n ≡ text_length k → refused_by told (cond accepted (Ok k) (Err (Session (Tag n)))) ≡ first_of ((not accepted, refusal_of Layer.Session 7 (n + header_length)) ∷ [])
opening k n true e = refl
opening k n false e = ap (λ p. Some (refusal_of Layer.Session 7 p)) (in_frame_is k n e)

module _ (m : Standing) (f : List ℕ) (room : ℕ) (within : m.number ≤ number_limit) where
  tells : {r : Checked} → Seen m.number f room r → refused_by told (opened m f r) ≡ first_of (take_table m f room)
  unfolding take_table
  tells (Seen.spent h) = rw (eq-eqb m.number number_limit (omega arith)) refl
  tells (Seen.empty h z) = rw (ne_eqb m.number number_limit (below h), eq-eqb (length f) 0 z) refl
  tells (Seen.unknown h z e) = rw (ne_eqb m.number number_limit (below h), ne_eqb (length f) 0 z, e) refl
  tells (Seen.known_kind k h z e (Fit.long l)) =
      rw (ne_eqb m.number number_limit (below h), ne_eqb (length f) 0 z, e, ne_eqb (length f) (text_length k + overhead) l) refl
  tells (Seen.known_kind k h z e (Fit.short l s)) =
      rw (ne_eqb m.number number_limit (below h), ne_eqb (length f) 0 z, e, eq-eqb (length f) (text_length k + overhead) l, lt-ltb room (text_length k) s) refl
  tells (Seen.known_kind k h z e (Fit.other l s o)) =
      rw (ne_eqb m.number number_limit (below h), ne_eqb (length f) 0 z, e, eq-eqb (length f) (text_length k + overhead) l, le-ltb room (text_length k) s, o) refl
  tells (Seen.known_kind k h z e (Fit.passed l s o)) =
      rw (ne_eqb m.number number_limit (below h), ne_eqb (length f) 0 z, e, eq-eqb (length f) (text_length k + overhead) l, le-ltb room (text_length k) s, o)
      (opening k (length (ciphertext_in f)) (opens m.state (header_in f) (ciphertext_in f) (tag_in f)) (length_body f (text_length k) l))

  pub take_tells : (r : Checked) → r ≡ take_answer m f room → refused_by told r ≡ first_of (take_table m f room)
  unfolding take_answer
  take_tells r e = ap (refused_by told) e ∙ tells (seen m.number f room)

module _ (m : Standing) (b : ℕ) (t : List ℕ) (room : ℕ) (within : m.number ≤ number_limit) where
  wrote_tells : {r : Checked} → Vetted m.number b t room r → refused_by told (wrote_pair m r) ≡ first_of (write_table m b t room)
  unfolding write_table
  wrote_tells (Vetted.spent h) = rw (eq-eqb m.number number_limit (omega arith)) refl
  wrote_tells (Vetted.unknown h e) = rw (ne_eqb m.number number_limit (below h), e) refl
  wrote_tells (Vetted.long k h e l) = rw (ne_eqb m.number number_limit (below h), e, ne_eqb (length t) (text_length k) l) refl
  wrote_tells (Vetted.short k h e l s) =
      rw (ne_eqb m.number number_limit (below h), e, eq-eqb (length t) (text_length k) l, lt-ltb room (text_length k + overhead) s) refl
  wrote_tells (Vetted.passed k h e l s) =
      rw (ne_eqb m.number number_limit (below h), e, eq-eqb (length t) (text_length k) l, le-ltb room (text_length k + overhead) s) refl

  pub write_tells : (r : Result (ℕ × ℕ) LinkFault) → r ≡ write_answer m b t room → refused_by told r ≡ first_of (write_table m b t room)
  write_tells r e = ap (refused_by told) e ∙ wrote_tells (view m.number b t room)
