-- What the suite's sender writes a receiving end accepts, and the other way round.
use Rattle.std.proofs.Common.{◌≡◌, ℕ, ◌+◌, ◌-◌, ◌<◌, ◌≤◌, Bool, true, false, cond, eqb, ltb, List, [], ◌∷◌, ◌++◌, length, get_or, take, drop, Some, None, Ok, Err, Option, sym, refl, ap, ◌∙◌, ap₂, arith}
use Rattle.std.specs.Option.{option_map, option_and_then, option_map_or}
use Rattle.std.specs.Str.{bytes_eq}
use Rattle.std.proofs.lemmas.Slice.Eq.{bytes_eq-Decides}
use Rattle.std.proofs.lemmas.List.{length-append, take_at, drop_at, take-append-drop, drop-drop}
use Rattle.std.proofs.lemmas.Bool.Decides.{nat_tests}
use Rattle.std.proofs.lemmas.Bool.{lt-ltb, le-ltb, eq-eqb, ne_eqb, ltb-true, eqb-true}
use Rattle.duplex.specs.Strings.{word_bytes}
use Rattle.session.specs.declared.fault.SessionFault.TheVariants.{Tag}
use Rattle.session.specs.Sessions.{ciphertext_of, plaintext_of, tag_of, after_sealing, opens}
use Rattle.session.proofs.SessionLaws.{plaintext-ciphertext, ciphertext-plaintext, length-cipher, length-plaintext, length_tag, opens_sealed, opens_tag}
use Rattle.link.specs.declared.kind.Kind.{Kind}
use Rattle.link.specs.declared.kind.Kind.TheVariants.{PollValue, Alarm, Output, Clock, ZoneName, Heartbeat}
use Rattle.link.specs.declared.fault.LinkFault.{LinkFault}
use Rattle.link.specs.declared.fault.LinkFault.TheVariants.{Session}
use Rattle.link.specs.Kinds.{kind_byte, text_length, least_room, kind_of}
use Rattle.link.specs.Frames.{Standing, number_limit, header_length, tag_length, overhead, header_of, header_in, number_in, ciphertext_in, tag_in, text_in}
use Rattle.link.specs.Sender.{frame_of, next_of, if_fits, writes_as, writes, fed, CouldWrite}
use Rattle.link.specs.Calls.{Checked, checked, opened, take_answer, take_standing}
use Rattle.link.proofs.Tellings.{short_text}
use Rattle.link.proofs.Takings.{Fit, Seen, seen_is, passes, answer_ok, length_body}

-- Kinds and their bytes.

pub kind_byte_of : (k : Kind) → kind_of (kind_byte k) ≡ Some k
kind_byte_of PollValue = refl
kind_byte_of Alarm = refl
kind_byte_of Output = refl
kind_byte_of Clock = refl
kind_byte_of ZoneName = refl
kind_byte_of Heartbeat = refl

pub byte_of_kind : (b : ℕ) (k : Kind) → kind_of b ≡ Some k → b ≡ kind_byte k
byte_of_kind b k h = grind (arith, nat_tests)

-- What a frame that the sender writes is made of.

pub record Wrote (m : Standing) (b : ℕ) (t f : List ℕ) : Type 0 where
  pub kind : Kind
  pub byte : b ≡ kind_byte kind
  pub below : m.number < number_limit
  pub size : length t ≡ text_length kind
  pub frame : f ≡ frame_of m kind t

module _ (m : Standing) (b : ℕ) (t : List ℕ) where
  abbrev by_kind : Option Kind → Option Kind
  by_kind o = cond (ltb m.number number_limit) (option_and_then (if_fits t) o) None

  wrote_at : (f : List ℕ) (x : Bool) → ltb m.number number_limit ≡ x → (o : Option Kind) → kind_of b ≡ o → option_map (λ k. frame_of m k t) (cond x (option_and_then (if_fits t) o) None) ≡ Some f → Wrote m b t f
  wrote_at f false p o e h = cc
  wrote_at f true p None e h = cc
  wrote_at f true p (Some k) e h = at (eqb (length t) (text_length k)) refl h
    where
      at : (y : Bool) → eqb (length t) (text_length k) ≡ y → option_map (λ j. frame_of m j t) (cond y (Some k) None) ≡ Some f → Wrote m b t f
      at true q r = record { kind = k; byte = byte_of_kind b k e; below = ltb-true m.number number_limit p; size = eqb-true (length t) (text_length k) q; frame = cc }
      at false q r = cc

  pub wrote : (f : List ℕ) → writes m b t ≡ Some f → Wrote m b t f
  unfolding writes writes_as
  wrote f h = wrote_at f (ltb m.number number_limit) refl (kind_of b) refl h

  -- where the checks on a text refuse, but for the room, nothing is written
  writes_by : (o : Option Kind) → kind_of b ≡ o → by_kind o ≡ None → writes m b t ≡ None
  unfolding writes writes_as
  writes_by o e h = ap (λ p. option_map (λ k. frame_of m k t) (by_kind p)) e ∙ ap (option_map (λ k. frame_of m k t)) h

  pub writes_at_limit : number_limit ≤ m.number → writes m b t ≡ None
  writes_at_limit h = writes_by (kind_of b) refl (rw (le-ltb m.number number_limit h) refl)

  pub writes_no_kind : m.number < number_limit → kind_of b ≡ None → writes m b t ≡ None
  writes_no_kind h e = writes_by None e (rw (lt-ltb m.number number_limit h) refl)

  pub writes_no_text : m.number < number_limit → (k : Kind) → kind_of b ≡ Some k → (length t ≡ text_length k → ⊥) → writes m b t ≡ None
  writes_no_text h k e l = writes_by (Some k) e (rw (lt-ltb m.number number_limit h, ne_eqb (length t) (text_length k) l) refl)

module _ (m : Standing) (k : Kind) (t : List ℕ) (below : m.number < number_limit) (size : length t ≡ text_length k) where
  as_kind : writes_as m (kind_byte k) t ≡ Some k
  unfolding writes_as
  as_kind = ap (by_kind m (kind_byte k) t) (kind_byte_of k) ∙ rw (lt-ltb m.number number_limit below, eq-eqb (length t) (text_length k) size) refl

  pub writes_frame : writes m (kind_byte k) t ≡ Some (frame_of m k t)
  unfolding writes
  writes_frame = ap (option_map (λ j. frame_of m j t)) as_kind

  pub fed_next : fed m (kind_byte k) t ≡ next_of m k t
  unfolding fed
  fed_next = ap (λ o. option_map_or (λ j. next_of m j t) o m) as_kind

-- The parts of a frame.

module _ (m : Standing) (k : Kind) (t : List ℕ) where
  abbrev ad : List ℕ
  ad = header_of (kind_byte k) m.number

  abbrev body : List ℕ
  body = ciphertext_of m.state ad t

  abbrev tag : List ℕ
  tag = tag_of m.state ad t

  pub frame_header : header_in (frame_of m k t) ≡ ad
  unfolding frame_of
  frame_header = refl

  frame_rest : drop header_length (frame_of m k t) ≡ body ++ tag
  unfolding frame_of
  frame_rest = refl

  frame_first : get_or (frame_of m k t) 0 0 ≡ kind_byte k
  unfolding frame_of
  frame_first = refl

  frame_number : number_in (frame_of m k t) ≡ word_bytes m.number
  unfolding frame_of
  frame_number = refl

  pub frame_length : length (frame_of m k t) ≡ length t + overhead
  unfolding frame_of
  frame_length = let a = length-append body tag in let b = length-cipher m.state ad t in let c = length_tag m.state ad t in omega arith

  frame_body : ciphertext_in (frame_of m k t) ≡ body
  frame_body =
      let n : length body ≡ length (frame_of m k t) - overhead = omega (arith, frame_length, length-cipher m.state ad t) in
      ap (take (length (frame_of m k t) - overhead)) frame_rest ∙ take_at body tag (length (frame_of m k t) - overhead) n

  frame_tag : tag_in (frame_of m k t) ≡ tag
  unfolding frame_of
  frame_tag =
      let n : length (ad ++ body) ≡ length (frame_of m k t) - tag_length = omega (arith, length-append ad body, frame_length, length-cipher m.state ad t) in
      drop_at (ad ++ body) tag (length (frame_of m k t) - tag_length) n

  pub frame_text : text_in m (frame_of m k t) ≡ t
  frame_text = ap₂ (plaintext_of m.state) frame_header frame_body ∙ plaintext-ciphertext m.state ad t

  frame_opens : opens m.state (header_in (frame_of m k t)) (ciphertext_in (frame_of m k t)) (tag_in (frame_of m k t)) ≡ true
  frame_opens = rw (frame_header, frame_body, frame_tag) (opens_sealed m.state ad t)

  -- what the sender writes is accepted
  pub accepted_frame : m.number < number_limit → length t ≡ text_length k → (room : ℕ) → text_length k ≤ room → take_answer m (frame_of m k t) room ≡ Ok k
  accepted_frame below size room fits =
      let f = frame_of m k t in
      let n : length f ≡ text_length k + overhead = omega (arith, frame_length) in
      let number : bytes_eq (number_in f) (word_bytes m.number) ≡ true = (bytes_eq-Decides _ _).1 frame_number in
      let some : length f ≡ 0 → ⊥ = λ z. omega arith in
      let kind : kind_of (get_or f 0 0) ≡ Some k = ap kind_of frame_first ∙ kind_byte_of k in
      answer_ok m f room k (seen_is m.number f room (Seen.known_kind k below some kind (Fit.passed n fits number))) frame_opens

-- What a receiving end accepts the sender could write.

module _ (m : Standing) (f : List ℕ) (room : ℕ) (k : Kind) where
  pub record Accepted : Type 0 where
    pub below : m.number < number_limit
    pub size : length (text_in m f) ≡ text_length k
    pub head : header_in f ≡ header_of (kind_byte k) m.number
    pub whole : f ≡ frame_of m k (text_in m f)

  five : (g : List ℕ) → 5 ≤ length g → header_in g ≡ get_or g 0 0 ∷ number_in g
  five [] h = absurd (omega arith)
  five (a ∷ g) h = refl

  parts : (g : List ℕ) (n : ℕ) → length g ≡ n + overhead → g ≡ header_in g ++ (ciphertext_in g ++ tag_in g)
  parts g n h =
      let d : 5 + (length g - 21) ≡ length g - 16 = omega arith in
      let back : drop (length g - 21) (drop 5 g) ≡ tag_in g = drop-drop (length g - 21) 5 g ∙ ap (λ i. drop i g) d in
      let front = take-append-drop 5 g in
      let rest = take-append-drop (length g - 21) (drop 5 g) in
      cc

  accepted_at : (r : Checked) → r ≡ checked m.number f room → (x : Bool) → opens m.state (header_in f) (ciphertext_in f) (tag_in f) ≡ x → opened m f r ≡ Ok k → Accepted
  unfolding frame_of
  accepted_at (Err e) s x o h = cc
  accepted_at (Ok j) s false o h =
      let h2 : opened m f (Ok j) ≡ Err (Session (Tag (length (ciphertext_in f)))) = ap (λ y. cond y (Ok j) (Err (Session (Tag (length (ciphertext_in f)))))) o in
      cc
  accepted_at (Ok j) s true o h =
      let h2 : opened m f (Ok j) ≡ Ok j = ap (λ y. cond y (Ok j) (Err (Session (Tag (length (ciphertext_in f)))))) o in
      let same : j ≡ k = cc in
      let p = passes m.number f room j s in
      let n : length f ≡ text_length k + overhead = p.size ∙ ap (λ i. text_length i + overhead) same in
      let first : get_or f 0 0 ≡ kind_byte k = byte_of_kind (get_or f 0 0) j p.kind ∙ ap kind_byte same in
      let number : number_in f ≡ word_bytes m.number = (bytes_eq-Decides _ _).0 p.number in
      let enough : 5 ≤ length f = omega arith in
      let head : header_in f ≡ header_of (kind_byte k) m.number = five f enough ∙ ap₂ ◌∷◌ first number in
      let body = ciphertext-plaintext m.state (header_in f) (ciphertext_in f) in
      let tag = opens_tag m.state (header_in f) (ciphertext_in f) (tag_in f) o in
      record {
        below = p.below;
        size = length-plaintext m.state (header_in f) (ciphertext_in f) ∙ length_body f (text_length k) n;
        head = head;
        whole = parts f (text_length k) n ∙ ap₂ (λ a b. header_in f ++ (a ++ b)) (sym body) tag ∙ ap (λ a. a ++ (ciphertext_of m.state a (text_in m f) ++ tag_of m.state a (text_in m f))) head;
      }

  module _ (h : take_answer m f room ≡ Ok k) where
    pub accepted_is : Accepted
    unfolding take_answer
    accepted_is = accepted_at (checked m.number f room) refl (opens m.state (header_in f) (ciphertext_in f) (tag_in f)) refl h

    pub accepted-writes : writes m (kind_byte k) (text_in m f) ≡ Some f
    accepted-writes = let a = accepted_is in writes_frame m k (text_in m f) a.below a.size ∙ ap Some (sym a.whole)

    pub accepted-stands : take_standing m f (Ok k) ≡ fed m (kind_byte k) (text_in m f)
    unfolding next_of
    accepted-stands =
        let a = accepted_is in
        ap (λ x. record { state = after_sealing m.state x (text_in m f); number = m.number + 1 }) a.head ∙ sym (fed_next m k (text_in m f) a.below a.size)

-- Just one kind and text fit a frame.

accepts_written : (m : Standing) (b : ℕ) (t f : List ℕ) (room : ℕ) → least_room ≤ room → (w : Wrote m b t f) → (take_answer m f room ≡ Ok w.kind) × (text_in m f ≡ t)
accepts_written m b t f room h w = (
  ap (λ g. take_answer m g room) w.frame ∙ accepted_frame m w.kind t w.below w.size room (omega (arith, short_text w.kind)),
  ap (text_in m) w.frame ∙ frame_text m w.kind t,
)

pub only : (m : Standing) (b c : ℕ) (t u f : List ℕ) → writes m b t ≡ Some f → writes m c u ≡ Some f → (c ≡ b) × (u ≡ t)
only m b c t u f p q =
    let v = wrote m b t f p in
    let w = wrote m c u f q in
    let enough : least_room ≤ least_room = omega arith in
    let x = accepts_written m b t f least_room enough v in
    let y = accepts_written m c u f least_room enough w in
    let k : v.kind ≡ w.kind = let a = x.0 in let d = y.0 in cc in
    (w.byte ∙ sym (ap kind_byte k) ∙ sym v.byte, sym y.1 ∙ x.1)

pub refused_never : (m : Standing) (f : List ℕ) (room : ℕ) (e : LinkFault) → least_room ≤ room → take_answer m f room ≡ Err e → CouldWrite m f → ⊥
refused_never m f room e h a w =
    let x = (accepts_written m w.0 w.1 f room h (wrote m w.0 w.1 f w.2)).0 in
    cc
