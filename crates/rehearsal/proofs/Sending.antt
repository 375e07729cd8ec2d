-- Runs of a sending end: each step is right.
use Rattle.std.proofs.Common.{◌≡◌, ℕ, ◌+◌, ◌<◌, ◌≤◌, List, ◌++◌, map, length, drop, Some, None, Err, vec_items, sym, ap, ◌∙◌, subst, arith}
use Rattle.link.specs.declared.kind.Kind.{Kind}
use Rattle.link.specs.declared.fault.LinkFault.{LinkFault}
use Rattle.link.specs.Kinds.{text_length, kind_of}
use Rattle.link.specs.Frames.{Standing, number_limit, overhead}
use Rattle.link.specs.Sender.{frame_of, next_of, writes, fed}
use Rattle.link.specs.Calls.{Checked, vetted, wrote_pair, wrote_standing, wrote_out}
use Rattle.link.proofs.Suite.{byte_of_kind, writes_at_limit, writes_no_kind, writes_no_text, writes_frame, fed_next, frame_length}
use Rattle.link.proofs.Writings.{Vetted, vetted_is, view}
use Rattle.link.proofs.Writings.Vetted.{spent, unknown, long, short, passed}
use Rattle.link.proofs.Tellings.{write_tells}
use Rattle.rehearsal.specs.declared.calls.Request.{Request}
use Rattle.rehearsal.specs.declared.calls.Answer.{Answer}
use Rattle.rehearsal.specs.declared.calls.Message.{Message}
use Rattle.rehearsal.specs.Law.{Run, place_of, Writing, Written, RightWriting, SendingRun}
use Rattle.rehearsal.specs.Law.Writing.{write_text}
use Rattle.rehearsal.specs.Law.Written.{wrote, refused}
use Rattle.rehearsal.specs.Law.RightWriting.{writes_next, no_room, writes_nothing, tells}
use Rattle.rehearsal.specs.Rehearsals.{SendingCall, ordered, ordered_by, done, done_by, writing, answer_by, buffer_by, standing_by, Answered}

-- one step, which the number never leads past its limit
abbrev Step : Standing → Writing → Written → Standing → Type 0
Step m w v m' = RightWriting m m.number w v m' m'.number × (m'.number ≤ number_limit)

-- One writing.

module _ (m : Standing) (b : ℕ) (t old : List ℕ) (within : m.number ≤ number_limit) where
  module _ (k : Kind) (below : m.number < number_limit) (e : kind_of b ≡ Some k) (size : length t ≡ text_length k) where
    writes_it : writes m b t ≡ Some (frame_of m k t)
    writes_it = ap (λ (c : ℕ). writes m c t) (byte_of_kind b k e) ∙ writes_frame m k t below size

    fed_it : fed m b t ≡ next_of m k t
    fed_it = ap (λ (c : ℕ). fed m c t) (byte_of_kind b k e) ∙ fed_next m k t below size

    frame_size : length (frame_of m k t) ≡ text_length k + overhead
    frame_size = frame_length m k t ∙ ap (λ (n : ℕ). n + overhead) size

    right_frame : text_length k + overhead ≤ length old → RightWriting m m.number (write_text b t old) (wrote (text_length k + overhead) m.number (frame_of m k t ++ drop (text_length k + overhead) old)) (next_of m k t) (m.number + 1)
    right_frame room =
        let f = frame_of m k t in
        let fits : length f ≤ length old = omega (arith, frame_size) in
        subst (λ (x : Standing). RightWriting m m.number (write_text b t old) (wrote (text_length k + overhead) m.number (f ++ drop (text_length k + overhead) old)) x (m.number + 1)) fed_it
        (subst (λ (i : ℕ). RightWriting m m.number (write_text b t old) (wrote i m.number (f ++ drop i old)) (fed m b t) (m.number + 1)) frame_size (writes_next writes_it fits))

  nothing : (e : LinkFault) → Vetted m.number b t (length old) (Err e) → writes m b t ≡ None → Step m (write_text b t old) (refused e old) m
  nothing e v w = (writes_nothing w (sym (write_tells m b t (length old) within (Err e) (ap (wrote_pair m) (vetted_is m.number b t (length old) (Err e) v)))), within)

  step_writing : (a : Checked) → Vetted m.number b t (length old) a → Step m (write_text b t old) (done_by (Answer.Processed (wrote_pair m a)) (wrote_out m t old a)) (wrote_standing m t a)
  unfolding next_of
  step_writing a (passed k below e size room) = (right_frame k below e size room, omega arith)
  step_writing a (short k below e size tight) = (no_room (writes_it k below e size) (let n = frame_size k below e size in omega arith), within)
  step_writing a (spent h) = nothing _ (spent h) (writes_at_limit m b t h)
  step_writing a (unknown h k) = nothing _ (unknown h k) (writes_no_kind m b t h k)
  step_writing a (long k h e l) = nothing _ (long k h e l) (writes_no_text m b t h k e l)

-- Any call.

step_order : (m : Standing) (o : Request Message) (old : List ℕ) → m.number ≤ number_limit → Step m (ordered_by o old) (done_by (answer_by writing m o old) (buffer_by writing m o old)) (standing_by writing m o old)
step_order m (Request.Process message) old within =
    step_writing m message.kind (vec_items message.text) old within (vetted m.number message.kind (vec_items message.text) (length old)) (view m.number message.kind (vec_items message.text) (length old))
step_order m Request.Tell old within = (tells, within)

step_one : (m m' : Standing) (o : Request Message) (old new : List ℕ) (r : Answer (ℕ × ℕ)) → m.number ≤ number_limit → r ≡ answer_by writing m o old → new ≡ buffer_by writing m o old → m' ≡ standing_by writing m o old → Step m (ordered_by o old) (done_by r new) m'
step_one m m' o old new r within er en em = rw (er, en, em) (step_order m o old within)

pub sending_run : {m m'' : Standing} {xs ys : List SendingCall} → m.number ≤ number_limit → Run (Answered writing) m xs ys m'' → SendingRun (place_of m m.number) (map ordered xs) (map done ys) (place_of m'' m''.number)
sending_run within Run.ends = Run.ends
sending_run {m} {m''} within (Run.next {s' = m'} {c = x} {a = y} one rest) =
    let s = step_one m m' x.request (vec_items x.buffer) (vec_items y.buffer) y.answer within one.answer one.buffer one.standing in
    Run.next s.0 (sending_run s.1 rest)
