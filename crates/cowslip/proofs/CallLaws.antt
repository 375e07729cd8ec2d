-- The theorems on sessions and ends in memory, from what the calls promise.
use Rattle.std.proofs.Common.{◌≡◌, ℕ, ◌+◌, ◌≤◌, Bool, true, false, List, ◌++◌, length, take, drop, Ok, Err, Result, IsOk, sym, refl, ap, ◌∙◌, ap₂, lit≤, arith}
use Rattle.std.specs.Result.{result_map_both}
use Rattle.std.proofs.lemmas.List.{take_at}
use Rattle.session.specs.declared.fault.SessionFault.TheVariants.{Short, Tag}
use Rattle.session.specs.Sessions.{ciphertext_of, tag_of, after_sealing, plaintext_of, opens}
use Rattle.session.specs.Calls.{verdict, open_answer, open_bits, open_out}
use Rattle.session.proofs.SessionLaws.{plaintext-ciphertext, ciphertext-plaintext, length-cipher, length-plaintext, opens_sealed, opens_tag, open_fits, open_accepted}
use Rattle.link.specs.declared.kind.Kind.{Kind}
use Rattle.link.specs.declared.fault.LinkFault.TheVariants as link
use Rattle.link.specs.Kinds.{kind_byte, text_length, kind_of}
use Rattle.link.specs.Frames.{Standing, overhead, header_in, ciphertext_in, text_in}
use Rattle.link.specs.Sender.{frame_of, writes, fed}
use Rattle.link.specs.Calls.{Checked, vetted, wrote_pair, wrote_standing, wrote_out, write_answer, write_standing, take_answer, take_standing, take_text}
use Rattle.link.proofs.Suite.{kind_byte_of, byte_of_kind, wrote, writes_frame, fed_next, frame_length, accepted_frame, accepted-writes, accepted-stands, only}
use Rattle.link.proofs.Writings.{Vetted, vetted_is, readied}
use Rattle.digests.specs.declared.entries.EntryFault.TheVariants as entries
use Rattle.cowslip.specs.declared.fault.CallFault.{CallFault}
use Rattle.cowslip.specs.declared.fault.CallFault.TheVariants.{ArgumentLength, NoState, Session, Link, Entries}
use Rattle.cowslip.specs.declared.report.Answer.{Answer}
use Rattle.cowslip.specs.Refusals.{told}
use Rattle.cowslip.specs.Memory.{sender_mark, receiver_mark}
use Rattle.cowslip.specs.Calls.{Outcome, status, outcome_with, buffer_with, session_for, of_session, open_outcome, open_buffer, end_for, of_writing, write_outcome, write_buffer, of_taking, take_outcome, take_buffer}
use Rattle.cowslip.specs.Laws.{ReadsBack, Follows, OnlySealed, WritesFrame, OnlyThere, TakesFrame, OnlyWritten}

-- no refusal has the number 0
numbered : (e : CallFault) → 1 ≤ (told e).number
numbered (ArgumentLength argument) = lit≤ tt
numbered NoState = lit≤ tt
numbered (Session (Short n)) = lit≤ tt
numbered (Session (Tag n)) = lit≤ tt
numbered (Link link.Spent) = lit≤ tt
numbered (Link link.Empty) = lit≤ tt
numbered (Link link.UnknownKind) = lit≤ tt
numbered (Link (link.WrongLength n)) = lit≤ tt
numbered (Link (link.ShortBuffer n)) = lit≤ tt
numbered (Link link.WrongNumber) = lit≤ tt
numbered (Link (link.Session (Short n))) = lit≤ tt
numbered (Link (link.Session (Tag n))) = lit≤ tt
numbered (Entries (entries.Digest i)) = lit≤ tt
numbered (Entries (entries.Deck i)) = lit≤ tt

pub good : (o : Outcome) → status o ≡ 0 → IsOk o
good (Ok a) e = refl
good (Err y) e = absurd (omega (arith, numbered y))

accepted : {A F : Type 0} (f : A → Answer) (g : F → CallFault) (a : Result A F) → status (result_map_both f g a) ≡ 0 → (x : A) × (a ≡ Ok x)
accepted f g (Ok x) e = (x, refl)
accepted f g (Err y) e = absurd (omega (arith, numbered (g y)))

-- Opening.
module _ (memory ad c tag old : List ℕ) (number : ℕ) (after new : List ℕ)
    (value : number ≡ status (open_outcome memory ad c tag (length old)))
    (out : new ≡ open_buffer memory ad c tag old)
    (next : (s : List ℕ) (argument : ℕ) → session_for memory 3 (length tag) ≡ Ok s → session_for after argument 16 ≡ Ok (open_bits s ad c (open_answer s ad c tag (length old)))) where
  module _ (s : List ℕ) (found : session_for memory 3 (length tag) ≡ Ok s) where
    open_number : number ≡ status (of_session (open_answer s ad c tag (length old)))
    open_number = value ∙ ap (λ x. status (outcome_with x (λ s. of_session (open_answer s ad c tag (length old))))) found

    open_text : new ≡ open_out s ad c old (open_answer s ad c tag (length old))
    open_text = out ∙ ap (λ x. buffer_with x (λ s. open_out s ad c old (open_answer s ad c tag (length old))) old) found

  pub reads_back : ReadsBack memory ad c tag old number new
  reads_back s text found ec et fits =
      let n : length c ≡ length text = ap length ec ∙ length-cipher s ad text in
      let opened : opens s ad c tag ≡ true = ap₂ (opens s ad) ec et ∙ opens_sealed s ad text in
      let plain : plaintext_of s ad c ≡ text = ap (plaintext_of s ad) ec ∙ plaintext-ciphertext s ad text in
      let answer : open_answer s ad c tag (length old) ≡ Ok (length c) = open_fits s ad c tag (length old) (omega arith) ∙ rw opened refl in (
        open_number s found ∙ ap (λ a. status (of_session a)) answer,
        open_text s found ∙ ap (open_out s ad c old) answer ∙ ap₂ (λ t i. t ++ drop i old) plain n,
      )

  moved : (s : List ℕ) (x : Bool) → open_bits s ad c (verdict c x) ≡ after_sealing s ad (plaintext_of s ad c)
  moved s true = refl
  moved s false = refl

  pub follows : Follows memory ad c tag old after
  follows s text found ec fits =
      let n : length c ≡ length text = ap length ec ∙ length-cipher s ad text in
      let answer = open_fits s ad c tag (length old) (omega arith) in
      let plain : plaintext_of s ad c ≡ text = ap (plaintext_of s ad) ec ∙ plaintext-ciphertext s ad text in
      next s 3 found ∙ ap (λ a. Ok (open_bits s ad c a)) answer ∙ ap Ok (moved s (opens s ad c tag) ∙ ap (after_sealing s ad) plain)

  pub only_sealed : OnlySealed memory ad c tag number after new
  only_sealed s found zero =
      let x = accepted _ _ (open_answer s ad c tag (length old)) (sym (open_number s found) ∙ zero) in
      let p = open_accepted s ad c tag (length old) x.0 x.1 in
      let text = plaintext_of s ad c in
      let shown : new ≡ text ++ drop x.0 old = open_text s found ∙ ap (open_out s ad c old) x.1 in
      let t : text ≡ take (length c) new = sym (ap (take (length c)) shown ∙ take_at text (drop x.0 old) (length c) (length-plaintext s ad c)) in
      record {
        ciphertext = sym (ciphertext-plaintext s ad c) ∙ ap (ciphertext_of s ad) t;
        same_tag = opens_tag s ad c tag p.1 ∙ ap (tag_of s ad) t;
        stands = next s 3 found ∙ ap (λ a. Ok (open_bits s ad c a)) x.1 ∙ ap (λ t. Ok (after_sealing s ad t)) t;
      }

-- Writing.
module _ (memory : List ℕ) (b : ℕ) (t old : List ℕ) (number : ℕ) (after new : List ℕ)
    (value : number ≡ status (write_outcome memory b t (length old)))
    (out : new ≡ write_buffer memory b t old)
    (next : (m : Standing) → end_for sender_mark memory ≡ Ok m → end_for sender_mark after ≡ Ok (write_standing m b t (length old))) where
  module _ (m : Standing) (found : end_for sender_mark memory ≡ Ok m) where
    write_number : number ≡ status (of_writing (write_answer m b t (length old)))
    write_number = value ∙ ap (λ x. status (outcome_with x (λ m. of_writing (write_answer m b t (length old))))) found

  pub writes_frame_of : WritesFrame memory b t old number after new
  writes_frame_of m f found written fits =
      let w = wrote m b t f written in
      let k = w.kind in
      let size : text_length k + overhead ≡ length f = omega (arith, ap length w.frame, frame_length m k t, w.size) in
      let vet : vetted m.number b t (length old) ≡ Ok k =
      sym (vetted_is m.number b t (length old) (Ok k) (Vetted.passed k w.below (ap kind_of w.byte ∙ kind_byte_of k) w.size (omega arith))) in (
        write_number m found ∙ ap (λ v. status (of_writing (wrote_pair m v))) vet,
        out ∙ ap (λ x. buffer_with x (λ m. wrote_out m t old (vetted m.number b t (length old))) old) found ∙ ap (wrote_out m t old) vet ∙ ap₂ (λ g i. g ++ drop i old) (sym w.frame) size,
        next m found ∙ ap (λ v. Ok (wrote_standing m t v)) vet ∙ ap Ok (sym (ap (λ (c : ℕ). fed m c t) w.byte ∙ fed_next m k t w.below w.size)),
      )

  vet_ok : (m : Standing) (v : Checked) (p : ℕ × ℕ) → wrote_pair m v ≡ Ok p → (k : Kind) × (v ≡ Ok k)
  vet_ok m (Ok k) p e = (k, refl)
  vet_ok m (Err x) p e = cc

  pub writes_only_there : OnlyThere memory b t old number
  writes_only_there m found zero =
      let x = accepted _ _ (write_answer m b t (length old)) (sym (write_number m found) ∙ zero) in
      let v = vet_ok m (vetted m.number b t (length old)) x.0 x.1 in
      let k = v.0 in
      let r = readied m.number b t (length old) k (sym v.1) in (
        frame_of m k t,
        ap (λ (c : ℕ). writes m c t) (byte_of_kind b k r.kind) ∙ writes_frame m k t r.below r.size,
        omega (arith, frame_length m k t, r.size, r.roomy),
      )

-- Taking.
module _ (memory f old : List ℕ) (number : ℕ) (after new : List ℕ)
    (value : number ≡ status (take_outcome memory f (length old)))
    (out : new ≡ take_buffer memory f old)
    (next : (m : Standing) → end_for receiver_mark memory ≡ Ok m → end_for receiver_mark after ≡ Ok (take_standing m f (take_answer m f (length old)))) where
  module _ (m : Standing) (found : end_for receiver_mark memory ≡ Ok m) where
    take_number : number ≡ status (of_taking (take_answer m f (length old)))
    take_number = value ∙ ap (λ x. status (outcome_with x (λ m. of_taking (take_answer m f (length old))))) found

  pub takes_frame : TakesFrame memory f old number after new
  takes_frame m b t found written fits =
      let w = wrote m b t f written in
      let k = w.kind in
      let answer : take_answer m f (length old) ≡ Ok k = ap (λ g. take_answer m g (length old)) w.frame ∙ accepted_frame m k t w.below w.size (length old) (omega (arith, w.size)) in
      let same = only m b (kind_byte k) t (text_in m f) f written (accepted-writes m f (length old) k answer) in
      let n : length (ciphertext_in f) ≡ length t = sym (length-plaintext m.state (header_in f) (ciphertext_in f)) ∙ ap length same.1 in (
        take_number m found ∙ ap (λ a. status (of_taking a)) answer,
        out ∙ ap (λ x. buffer_with x (λ m. take_text m f old (take_answer m f (length old))) old) found ∙ ap (take_text m f old) answer ∙ ap₂ (λ g i. g ++ drop i old) same.1 n,
        next m found ∙ ap (λ a. Ok (take_standing m f a)) answer ∙ ap Ok (accepted-stands m f (length old) k answer ∙ ap₂ (fed m) same.0 same.1),
      )

  pub takes_only_written : OnlyWritten memory f number
  takes_only_written m found zero =
      let x = accepted _ _ (take_answer m f (length old)) (sym (take_number m found) ∙ zero) in
      (kind_byte x.0, text_in m f, accepted-writes m f (length old) x.0 x.1)
