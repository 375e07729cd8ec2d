-- Each figure is an answer of the checks, or of the opening after them.
use Rattle.std.proofs.Common.{◌≡◌, ℕ, ◌+◌, ◌-◌, ◌<◌, ◌≤◌, Bool, true, false, List, [], ◌∷◌, length, get_or, take, drop, Some, Ok, Err, sym, refl, ap, ◌∙◌, subst, ap₂, arith}
use Rattle.std.specs.Prelude.{slice_index}
use Rattle.std.specs.Str.{bytes_eq}
use Rattle.std.proofs.lemmas.Slice.Eq.{bytes_eq-Decides}
use Rattle.std.proofs.lemmas.List.{take-take, drop-take}
use Rattle.refusals.specs.declared.Layer.TheVariants as Layer
use Rattle.refusals.specs.declared.Layer.TheVariants.{Link}
use Rattle.refusals.specs.Tables.{refused_by, refusal_of}
use Rattle.duplex.specs.Strings.{word_bytes}
use Rattle.session.specs.declared.fault.SessionFault.{SessionFault}
use Rattle.session.specs.declared.fault.SessionFault.TheVariants.{Tag}
use Rattle.session.specs.Sessions.{plaintext_of, opens}
use Rattle.link.specs.declared.kind.Kind.{Kind}
use Rattle.link.specs.declared.kind.Kind.TheVariants.{Alarm, ZoneName, Heartbeat}
use Rattle.link.specs.declared.fault.LinkFault.{LinkFault}
use Rattle.link.specs.declared.fault.LinkFault.TheVariants.{Spent, Empty, UnknownKind, WrongLength, ShortBuffer, Session}
use Rattle.link.specs.Kinds.{kind_byte, text_length, kind_of}
use Rattle.link.specs.Frames.{Standing, number_limit, header_length, overhead, header_of, header_in, number_in, ciphertext_in, tag_in, text_in}
use Rattle.link.specs.Sender.{frame_of}
use Rattle.link.specs.Refusals.{told}
use Rattle.link.specs.Calls.{Checked, checked, opened, take_answer, wrote_pair, write_answer}
use Rattle.link.proofs.Takings.{Fit, Seen, seen, seen_is, answer_err, answer_ok, answer_tag, length_body}
use Rattle.link.proofs.Writings.{Vetted, vetted_is}
use Rattle.link.proofs.Tellings.{short_text, in_frame_is}
use Rattle.link.proofs.Suite.{kind_byte_of, writes_frame, writes_at_limit, frame_header, frame_text, frame_length, accepted_frame, accepted_is}
use Rattle.link.proofs.figures.frame_figures.Goals as goal

-- a refusal by the checks
by_check : (m : Standing) (f : List ℕ) (room : ℕ) (e : LinkFault) → Seen m.number f room (Err e) → refused_by told (take_answer m f room) ≡ Some (told e)
by_check m f room e s = ap (refused_by told) (sym (answer_err m f room e (seen_is m.number f room s)))

some_bytes : (f : List ℕ) (n : ℕ) → length f ≡ n + 1 → length f ≡ 0 → ⊥
some_bytes f n l z = omega arith

-- a frame of a known kind
of_kind : (m : Standing) (f : List ℕ) (room b : ℕ) (k : Kind) (n : ℕ) {e : LinkFault} → m.number < number_limit → slice_index f 0 ≡ b → kind_of b ≡ Some k → length f ≡ n + 1 → Fit m.number f room k (Err e)
    → refused_by told (take_answer m f room) ≡ Some (told e)
of_kind m f room b k n h i j l fit = by_check m f room _ (Seen.known_kind k h (some_bytes f n l) (ap kind_of i ∙ j) fit)

wrong_length : (m : Standing) (f : List ℕ) (room n : ℕ) → m.number < number_limit → slice_index f 0 ≡ 6 → length f ≡ n + 1 → (n ≡ 20 → ⊥) → refused_by told (take_answer m f room) ≡ Some (refusal_of Link 4 (n + 1))
wrong_length m f room n h i l x =
    of_kind m f room 6 Heartbeat n h i refl l (Fit.long (λ e. x (omega arith))) ∙ ap (λ p. Some (refusal_of Link 4 p)) l

other_number : (m : Standing) (f : List ℕ) (room : ℕ) → m.number ≡ 3 → slice_index f 0 ≡ 6 → length f ≡ 21 → number_in f ≡ 2 ∷ 0 ∷ 0 ∷ 0 ∷ [] → refused_by told (take_answer m f room) ≡ Some (refusal_of Link 6 1)
other_number m f room h i l e = of_kind m f room 6 Heartbeat 20 (omega arith) i refl l (Fit.other l (omega arith) (ap₂ bytes_eq e (ap word_bytes h)))

-- a frame with the header that is due, and of its kind's length
module _ (m : Standing) (k : Kind) (room : ℕ) (h : m.number < number_limit) (r : text_length k ≤ room) where
  passes_checks : (g : List ℕ) → header_in g ≡ header_of (kind_byte k) m.number → length g ≡ text_length k + overhead → Ok k ≡ checked m.number g room
  passes_checks [] i l = absurd (omega arith)
  passes_checks (a ∷ f) i l =
      let g : List ℕ = a ∷ f in
      let number : bytes_eq (number_in g) (word_bytes m.number) ≡ true = (bytes_eq-Decides _ _).1 (ap (drop 1) i) in
      let kind : kind_of a ≡ Some k = ap (λ x. kind_of (get_or x 0 0)) i ∙ kind_byte_of k in
      seen_is m.number g room (Seen.known_kind k h (λ z. omega arith) kind (Fit.passed l r number))

  -- alike up to the tag, but another one
  module _ (t g : List ℕ) (lt : length t ≡ text_length k) (lg : length g ≡ text_length k + overhead) (front : take (text_length k + header_length) g ≡ take (text_length k + header_length) (frame_of m k t)) where
    header_alike : header_in g ≡ header_in (frame_of m k t)
    header_alike =
        let fits : header_length ≤ text_length k + header_length = omega arith in
        sym (take-take header_length (text_length k + header_length) g fits) ∙ ap (take header_length) front ∙ take-take header_length (text_length k + header_length) (frame_of m k t) fits

    body_of : (f : List ℕ) → length f ≡ text_length k + overhead → ciphertext_in f ≡ drop header_length (take (text_length k + header_length) f)
    body_of f l =
        let size : length f - overhead ≡ text_length k = omega arith in
        let swap : header_length + text_length k ≡ text_length k + header_length = omega arith in
        ap (λ n. take n (drop header_length f)) size ∙ sym (drop-take header_length (text_length k) f) ∙ ap (λ n. drop header_length (take n f)) swap

    text_alike : text_in m g ≡ t
    text_alike =
        let size : length (frame_of m k t) ≡ text_length k + overhead = frame_length m k t ∙ ap (λ n. n + overhead) lt in
        ap₂ (plaintext_of m.state) header_alike (body_of g lg ∙ ap (drop header_length) front ∙ sym (body_of (frame_of m k t) size)) ∙ frame_text m k t

    other_tag : (g ≡ frame_of m k t → ⊥) → refused_by told (take_answer m g room) ≡ Some (refusal_of Layer.Session 7 (text_length k + header_length))
    other_tag x = at (opens m.state (header_in g) (ciphertext_in g) (tag_in g)) refl
      where
        passed : Ok k ≡ checked m.number g room
        passed = passes_checks g (header_alike ∙ frame_header m k t) lg

        at : (b : Bool) → opens m.state (header_in g) (ciphertext_in g) (tag_in g) ≡ b → refused_by told (take_answer m g room) ≡ Some (refusal_of Layer.Session 7 (text_length k + header_length))
        at true o = absurd (x ((accepted_is m g room k (answer_ok m g room k passed o)).whole ∙ ap (frame_of m k) text_alike))
        at false o =
            let size = length_body g (text_length k) lg in
            ap (refused_by told) (answer_tag m g room k passed o) ∙ ap (λ n. Some (refusal_of Layer.Session 7 n)) (in_frame_is k (length (ciphertext_in g)) size ∙ ap (λ n. n + header_length) size)

-- the checks answer no fault of a session
not_checked : (n : ℕ) (f : List ℕ) (room : ℕ) (e : SessionFault) → Seen n f room (Err (Session e)) → ⊥
not_checked n f room e (Seen.known_kind k h z i fit) = elim fit [ ]

faulted : (m : Standing) (f : List ℕ) (room : ℕ) (e : SessionFault) → take_answer m f room ≡ Err (Session e) → e ≡ Tag (length (ciphertext_in f))
unfolding take_answer
faulted m f room e h = at (checked m.number f room) (seen m.number f room) (opens m.state (header_in f) (ciphertext_in f) (tag_in f)) refl h
  where
    at : (r : Checked) → Seen m.number f room r → (b : Bool) → opens m.state (header_in f) (ciphertext_in f) (tag_in f) ≡ b → opened m f r ≡ Err (Session e) → e ≡ Tag (length (ciphertext_in f))
    at (Ok k) s true o i = cc
    at (Ok k) s false o i = cc
    at (Err x) s b o i = absurd (not_checked m.number f room e (subst (λ y. Seen m.number f room y) i s))

-- a writing that the checks let through, and one that they refuse
wrote_answer : (m : Standing) (b : ℕ) (t : List ℕ) (room : ℕ) (r : Checked) → Vetted m.number b t room r → write_answer m b t room ≡ wrote_pair m r
wrote_answer m b t room r v = ap (wrote_pair m) (sym (vetted_is m.number b t room r v))

pub returns : goal.returns
returns c =
    record {
      byte_of_kind = kind_byte_of;
      room_for_kind = short_text;
      frame_length = frame_length;
      heartbeat = λ m. frame_length m Heartbeat [];
      heartbeat_20 = λ m f room h i l. wrong_length m f room 19 (omega arith) i l (λ e. omega arith);
      heartbeat_22 = λ m f room h i l. wrong_length m f room 21 (omega arith) i l (λ e. omega arith);
      last_written = λ m k t h l. writes_frame m k t (omega arith) l;
      last_answered = λ m k t room h l r. wrote_answer m (kind_byte k) t room (Ok k) (Vetted.passed k (omega arith) (kind_byte_of k) l r) ∙ ap (λ n. Ok (text_length k + overhead, n)) h;
      last_taken = λ m k t room h l r. accepted_frame m k t (omega arith) l room r;
      spent_written = λ m b t h. writes_at_limit m b t (omega arith);
      spent_answered = λ m b t room h. ap (refused_by told) (wrote_answer m b t room (Err Spent) (Vetted.spent (omega arith)));
      spent_taken = λ m f room h. by_check m f room Spent (Seen.spent (omega arith));
      no_byte = λ m room h. by_check m [] room Empty (Seen.empty (omega arith) refl);
      kind_07 = λ m room h. by_check m (7 ∷ []) room UnknownKind (Seen.unknown (omega arith) (λ z. omega arith) refl);
      five_bytes = λ m room h. wrong_length m (6 ∷ 0 ∷ 0 ∷ 0 ∷ 0 ∷ []) room 4 (omega arith) refl refl (λ e. omega arith);
      zone_name_into_31 = λ m f h i l. of_kind m f 31 5 ZoneName 52 (omega arith) i refl l (Fit.short l (omega arith));
      number_2_at_3 = other_number;
      tag_changed = λ m k t g room h lt r lg front x. other_tag m k room (omega arith) r t g lt lg front x;
      session_fault = faulted;
      text_of_kind_07 = λ m t room h. ap (refused_by told) (wrote_answer m 7 t room (Err UnknownKind) (Vetted.unknown (omega arith) refl));
      alarm_of_5 = λ m t room h l. ap (refused_by told) (wrote_answer m 2 t room (Err (WrongLength (length t))) (Vetted.long Alarm (omega arith) refl (λ e. omega arith))) ∙ ap (λ n. Some (refusal_of Link 4 n)) l;
      zone_name_into_52 = λ m t h l. ap (refused_by told) (wrote_answer m 5 t 52 (Err (ShortBuffer 52)) (Vetted.short ZoneName (omega arith) refl l (omega arith)));
    }
