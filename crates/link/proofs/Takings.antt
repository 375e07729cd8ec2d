-- What the checks on a frame and its opening answer, case by case.
use Rattle.std.proofs.Common.{◌≡◌, ℕ, ◌+◌, ◌<◌, ◌≤◌, Bool, true, false, cond, eqb, ltb, List, length, get_or, Some, None, Ok, Err, Option, sym, refl, ap, ◌∙◌, subst, arith}
use Rattle.std.specs.Str.{bytes_eq}
use Rattle.std.proofs.lemmas.List.{length-take, length-drop}
use Rattle.std.proofs.lemmas.Bool.{lt-ltb, le-ltb, eq-eqb, ne_eqb, ltb-true, ltb-false, eqb-true, eqb-false}
use Rattle.duplex.specs.Strings.{word_bytes}
use Rattle.session.specs.declared.fault.SessionFault.{SessionFault}
use Rattle.session.specs.declared.fault.SessionFault.TheVariants.{Tag}
use Rattle.session.specs.Sessions.{opens}
use Rattle.session.specs.Calls.{open_answer, open_out, verdict}
use Rattle.session.proofs.SessionLaws.{open_fits}
use Rattle.link.specs.declared.kind.Kind.{Kind}
use Rattle.link.specs.declared.fault.LinkFault.{LinkFault}
use Rattle.link.specs.declared.fault.LinkFault.TheVariants.{Spent, Empty, UnknownKind, WrongLength, ShortBuffer, WrongNumber, Session}
use Rattle.link.specs.Kinds.{text_length, kind_of}
use Rattle.link.specs.Frames.{Standing, number_limit, overhead, header_in, number_in, ciphertext_in, tag_in}
use Rattle.link.specs.Calls.{Checked, checked, known, fitting, take_answer, take_text}

-- What is known of a frame of the kind k at each answer.
pub data Fit (n : ℕ) (f : List ℕ) (room : ℕ) (k : Kind) : Checked → Type 0 where
  long : (length f ≡ text_length k + overhead → ⊥) → Fit n f room k (Err (WrongLength (length f)))
  short : length f ≡ text_length k + overhead → room < text_length k → Fit n f room k (Err (ShortBuffer room))
  other : length f ≡ text_length k + overhead → text_length k ≤ room → bytes_eq (number_in f) (word_bytes n) ≡ false → Fit n f room k (Err WrongNumber)
  passed : length f ≡ text_length k + overhead → text_length k ≤ room → bytes_eq (number_in f) (word_bytes n) ≡ true → Fit n f room k (Ok k)

module _ (n : ℕ) (f : List ℕ) (room : ℕ) (k : Kind) where
  -- the checks answer what is known
  fit_is : {r : Checked} → Fit n f room k r → r ≡ fitting n f room k
  fit_is (long l) = sym (rw (ne_eqb (length f) (text_length k + overhead) l) refl)
  fit_is (short l s) = sym (rw (eq-eqb (length f) (text_length k + overhead) l, lt-ltb room (text_length k) s) refl)
  fit_is (other l s e) = sym (rw (eq-eqb (length f) (text_length k + overhead) l, le-ltb room (text_length k) s, e) refl)
  fit_is (passed l s e) = sym (rw (eq-eqb (length f) (text_length k + overhead) l, le-ltb room (text_length k) s, e) refl)

  -- and what they answer is known
  at_number : length f ≡ text_length k + overhead → text_length k ≤ room → (b : Bool) → bytes_eq (number_in f) (word_bytes n) ≡ b → Fit n f room k (cond b (Ok k) (Err WrongNumber))
  at_number l r true e = passed l r e
  at_number l r false e = other l r e

  at_room : length f ≡ text_length k + overhead → (b : Bool) → ltb room (text_length k) ≡ b
      → Fit n f room k (cond b (Err (ShortBuffer room)) (cond (bytes_eq (number_in f) (word_bytes n)) (Ok k) (Err WrongNumber)))
  at_room l true e = short l (ltb-true room (text_length k) e)
  at_room l false e = at_number l (ltb-false room (text_length k) e) (bytes_eq (number_in f) (word_bytes n)) refl

  at_length : (b : Bool) → eqb (length f) (text_length k + overhead) ≡ b
      → Fit n f room k (cond b (cond (ltb room (text_length k)) (Err (ShortBuffer room)) (cond (bytes_eq (number_in f) (word_bytes n)) (Ok k) (Err WrongNumber))) (Err (WrongLength (length f))))
  at_length true e = at_room (eqb-true (length f) (text_length k + overhead) e) (ltb room (text_length k)) refl
  at_length false e = long (eqb-false (length f) (text_length k + overhead) e)

-- The same of any frame.
pub data Seen (n : ℕ) (f : List ℕ) (room : ℕ) : Checked → Type 0 where
  spent : number_limit ≤ n → Seen n f room (Err Spent)
  empty : n < number_limit → length f ≡ 0 → Seen n f room (Err Empty)
  unknown : n < number_limit → (length f ≡ 0 → ⊥) → kind_of (get_or f 0 0) ≡ None → Seen n f room (Err UnknownKind)
  known_kind : {r : Checked} (k : Kind) → n < number_limit → (length f ≡ 0 → ⊥) → kind_of (get_or f 0 0) ≡ Some k → Fit n f room k r → Seen n f room r

module _ (n : ℕ) (f : List ℕ) (room : ℕ) where
  checked_kind : n < number_limit → (length f ≡ 0 → ⊥) → (o : Option Kind) → kind_of (get_or f 0 0) ≡ o → checked n f room ≡ known n f room o
  unfolding checked
  checked_kind h z o e = rw (lt-ltb n number_limit h, ne_eqb (length f) 0 z) (ap (known n f room) e)

  pub seen_is : {r : Checked} → Seen n f room r → r ≡ checked n f room
  unfolding checked
  seen_is (spent h) = sym (rw (le-ltb n number_limit h) refl)
  seen_is (empty h z) = sym (rw (lt-ltb n number_limit h, eq-eqb (length f) 0 z) refl)
  seen_is (unknown h z e) = sym (checked_kind h z None e)
  seen_is (known_kind k h z e fit) = fit_is n f room k fit ∙ sym (checked_kind h z (Some k) e)

  at_kind : n < number_limit → (length f ≡ 0 → ⊥) → (o : Option Kind) → kind_of (get_or f 0 0) ≡ o → Seen n f room (known n f room o)
  at_kind h z None e = unknown h z e
  at_kind h z (Some k) e = known_kind k h z e (at_length n f room k (eqb (length f) (text_length k + overhead)) refl)

  at_empty : n < number_limit → (b : Bool) → eqb (length f) 0 ≡ b → Seen n f room (cond b (Err Empty) (known n f room (kind_of (get_or f 0 0))))
  at_empty h true e = empty h (eqb-true (length f) 0 e)
  at_empty h false e = at_kind h (eqb-false (length f) 0 e) (kind_of (get_or f 0 0)) refl

  at_limit : (b : Bool) → ltb n number_limit ≡ b → Seen n f room (cond b (cond (eqb (length f) 0) (Err Empty) (known n f room (kind_of (get_or f 0 0)))) (Err Spent))
  at_limit true e = at_empty (ltb-true n number_limit e) (eqb (length f) 0) refl
  at_limit false e = spent (ltb-false n number_limit e)

  pub seen : Seen n f room (checked n f room)
  unfolding checked
  seen = at_limit (ltb n number_limit) refl

-- a frame that passed
pub record Passed (n : ℕ) (f : List ℕ) (room : ℕ) (k : Kind) : Type 0 where
  pub below : n < number_limit
  pub kind : kind_of (get_or f 0 0) ≡ Some k
  pub size : length f ≡ text_length k + overhead
  pub roomy : text_length k ≤ room
  pub number : bytes_eq (number_in f) (word_bytes n) ≡ true

passed_of : {n : ℕ} {f : List ℕ} {room : ℕ} {k : Kind} → Seen n f room (Ok k) → Passed n f room k
passed_of (known_kind k h z e (passed l r b)) = record { below = h; kind = e; size = l; roomy = r; number = b }

pub passes : (n : ℕ) (f : List ℕ) (room : ℕ) (k : Kind) → Ok k ≡ checked n f room → Passed n f room k
passes n f room k h = passed_of (subst (Seen n f room) (sym h) (seen n f room))

-- a refusal by the checks leaves the buffer as it was
quiet_at : {n : ℕ} {f : List ℕ} {room : ℕ} {e : LinkFault} (m : Standing) (g old : List ℕ) → Seen n f room (Err e) → take_text m g old (Err e) ≡ old
quiet_at m g old (spent _) = refl
quiet_at m g old (empty _ _) = refl
quiet_at m g old (unknown _ _ _) = refl
quiet_at m g old (known_kind _ _ _ _ (long _)) = refl
quiet_at m g old (known_kind _ _ _ _ (short _ _)) = refl
quiet_at m g old (known_kind _ _ _ _ (other _ _ _)) = refl

module _ (m : Standing) (f : List ℕ) (room : ℕ) where
  pub quiet : (old : List ℕ) (e : LinkFault) → Err e ≡ checked m.number f room → take_text m f old (Err e) ≡ old
  quiet old e h = quiet_at m f old (subst (Seen m.number f room) (sym h) (seen m.number f room))

  pub answer_err : (e : LinkFault) → Err e ≡ checked m.number f room → Err e ≡ take_answer m f room
  unfolding take_answer
  answer_err e h = rw (sym h) refl

  answer_opens : (k : Kind) → Ok k ≡ checked m.number f room → (b : Bool) → opens m.state (header_in f) (ciphertext_in f) (tag_in f) ≡ b
      → take_answer m f room ≡ cond b (Ok k) (Err (Session (Tag (length (ciphertext_in f)))))
  unfolding take_answer
  answer_opens k h b o = rw (sym h, o) refl

  pub answer_ok : (k : Kind) → Ok k ≡ checked m.number f room → opens m.state (header_in f) (ciphertext_in f) (tag_in f) ≡ true → take_answer m f room ≡ Ok k
  answer_ok k h o = answer_opens k h true o

  pub answer_tag : (k : Kind) → Ok k ≡ checked m.number f room → opens m.state (header_in f) (ciphertext_in f) (tag_in f) ≡ false
      → take_answer m f room ≡ Err (Session (Tag (length (ciphertext_in f))))
  answer_tag k h o = answer_opens k h false o

pub length_body : (f : List ℕ) (n : ℕ) → length f ≡ n + overhead → length (ciphertext_in f) ≡ n
length_body f n h = simp (length-take, length-drop) (omega arith)

-- an opening on a copy of the session, of a frame that passed the checks and was cut into its parts
module _ (m : Standing) (f old s header body tag : List ℕ) (k : Kind) (same : s ≡ m.state) (eh : header ≡ header_in f) (eb : body ≡ ciphertext_in f) (et : tag ≡ tag_in f) (h : Ok k ≡ checked m.number f (length old)) where
  opening : open_answer s header body tag (length old) ≡ verdict (ciphertext_in f) (opens m.state (header_in f) (ciphertext_in f) (tag_in f))
  opening =
      let p = passes m.number f (length old) k h in
      let n = length_body f (text_length k) p.size in
      let fits : length (ciphertext_in f) ≤ length old = omega (arith, p.roomy) in
      rw (same, eh, eb, et) (open_fits m.state (header_in f) (ciphertext_in f) (tag_in f) (length old) fits)

  pub took_ok : (n : ℕ) → Ok n ≡ open_answer s header body tag (length old) → (n ≡ length (ciphertext_in f)) × (Ok k ≡ take_answer m f (length old))
  took_ok n e = at (opens m.state (header_in f) (ciphertext_in f) (tag_in f)) refl (e ∙ opening)
    where
      at : (b : Bool) → opens m.state (header_in f) (ciphertext_in f) (tag_in f) ≡ b → Ok n ≡ verdict (ciphertext_in f) b → (n ≡ length (ciphertext_in f)) × (Ok k ≡ take_answer m f (length old))
      at true o x = (cc, sym (answer_ok m f (length old) k h o))
      at false o x = cc

  pub took_tag : (y : SessionFault) → Err y ≡ open_answer s header body tag (length old) → (y ≡ Tag (length (ciphertext_in f))) × (Err (Session y) ≡ take_answer m f (length old))
  took_tag y e = at (opens m.state (header_in f) (ciphertext_in f) (tag_in f)) refl (e ∙ opening)
    where
      at : (b : Bool) → opens m.state (header_in f) (ciphertext_in f) (tag_in f) ≡ b → Err y ≡ verdict (ciphertext_in f) b → (y ≡ Tag (length (ciphertext_in f))) × (Err (Session y) ≡ take_answer m f (length old))
      at true o x = cc
      at false o x = let q : y ≡ Tag (length (ciphertext_in f)) = cc in (q, ap (λ v. Err (Session v)) q ∙ sym (answer_tag m f (length old) k h o))

  -- the zeros that it leaves
  pub zeroed : (y : SessionFault) → y ≡ Tag (length (ciphertext_in f)) → open_out s header body old (Err y) ≡ take_text m f old (Err (Session y))
  zeroed y e = rw e refl
