-- The parts of a sealed file, as a vector of just the text's length holds them.
use Rattle.std.proofs.Common.{◌≡◌, ℕ, ◌-◌, ◌<◌, ◌≤◌, Bool, true, false, ltb, List, ◌++◌, length, take, drop, Ok, Err, sym, refl, ap, ◌∙◌, ap₂, arith}
use Rattle.std.proofs.lemmas.Bool.{lt-ltb, le-ltb, ltb-true, ltb-false}
use Rattle.std.proofs.lemmas.List.{append-nil, length-append, drop_all, drop_at, take_at, take-append-drop}
use Rattle.session.specs.declared.fault.SessionFault.{SessionFault}
use Rattle.session.specs.declared.fault.SessionFault.TheVariants.{Tag}
use Rattle.session.specs.Sessions.{ciphertext_of, tag_of, plaintext_of, opens}
use Rattle.session.specs.Calls.{seal_answer, open_answer, open_out}
use Rattle.session.proofs.SessionLaws.{seal_fits, open_accepted, open_refused, opens_sealed, opens_tag, plaintext-ciphertext, ciphertext-plaintext, length-cipher, length-plaintext, length_tag}
use Rattle.sealed.specs.declared.fault.SealedFault.TheVariants.{Tagless, Session}
use Rattle.sealed.specs.Bytes.{sealed_bytes, opened_parts, opened_file, OpensSealed}

-- the ciphertext fills the vector
pub sealed_front : (s ad text old out rest : List ℕ) (n len : ℕ) → len ≡ length text → length old ≡ len → Ok n ≡ seal_answer text (length old)
    → out ≡ ciphertext_of s ad text ++ drop n old → take len (out ++ rest) ≡ ciphertext_of s ad text
sealed_front s ad text old out rest n len l room value e =
    let fits = seal_fits text (length old) (omega arith) in
    let whole : n ≡ length text = cc in
    let same : out ≡ ciphertext_of s ad text = e ∙ (ap (λ x. ciphertext_of s ad text ++ x) (drop_all n old (omega arith)) ∙ append-nil (ciphertext_of s ad text)) in
    take_at out rest len (ap length same ∙ (length-cipher s ad text ∙ sym l)) ∙ same

-- a vector as long as the text is long enough
pub never_short : (text : List ℕ) (room : ℕ) (f : SessionFault) → length text ≤ room → Err f ≡ seal_answer text room → ⊥
never_short text room f h e = let fits = seal_fits text room h in let z : ◌≡◌ {A = ℕ} 0 1 = cc in omega arith

module _ (s ad c tag : List ℕ) where
  -- what was opened fills the vector
  pub text_whole : (old out rest : List ℕ) (n len : ℕ) → length old ≡ length c → len ≡ length c → Ok n ≡ open_answer s ad c tag (length old)
      → out ≡ open_out s ad c old (Ok n) → Ok (take len (out ++ rest)) ≡ opened_parts s ad c tag
  text_whole old out rest n len room l value e =
      let p = open_accepted s ad c tag (length old) n (sym value) in
      let text = plaintext_of s ad c in
      let same : out ≡ text = e ∙ (ap (λ x. text ++ x) (drop_all n old (omega (arith, p.0))) ∙ append-nil text) in
      rw p.1 (ap Ok (take_at out rest len (ap length same ∙ (length-plaintext s ad c ∙ sym l)) ∙ same))

  pub text_refused : (room : ℕ) (f : SessionFault) → length c ≤ room → Err f ≡ open_answer s ad c tag room → Err (Session f) ≡ opened_parts s ad c tag
  text_refused room f h value =
      let p = open_refused s ad c tag room f h (sym value) in
      rw p.1 (ap (λ x. Err (Session x)) p.0)

module _ (s ad file : List ℕ) where
  pub opened_short : length file < 16 → Err (Tagless (length file)) ≡ opened_file s ad file
  unfolding opened_file
  opened_short h = rw (lt-ltb (length file) 16 h) refl

  opened_long : 16 ≤ length file → opened_parts s ad (take (length file - 16) file) (drop (length file - 16) file) ≡ opened_file s ad file
  unfolding opened_file
  opened_long h = rw (le-ltb (length file) 16 h) refl

  -- a session at these bits, and the two parts
  pub opened_cut : (s' c tag : List ℕ) → 16 ≤ length file → s' ≡ s → c ≡ take (length file - 16) file → tag ≡ drop (length file - 16) file → opened_parts s' ad c tag ≡ opened_file s ad file
  opened_cut s' c tag h es ec et = rw (es, ec, et) (opened_long h)

  abbrev front : List ℕ
  front = take (length file - 16) file

  abbrev back : List ℕ
  back = drop (length file - 16) file

  opened_is : (text : List ℕ) → opened_file s ad file ≡ Ok text → file ≡ sealed_bytes s ad text
  opened_is text e = at (ltb (length file) 16) refl (opens s ad front back) refl
    where
      at : (short : Bool) → ltb (length file) 16 ≡ short → (accepted : Bool) → opens s ad front back ≡ accepted → file ≡ sealed_bytes s ad text
      at true h accepted o = let no = opened_short (ltb-true (length file) 16 h) in cc
      at false h false o =
          let long = opened_long (ltb-false (length file) 16 h) in
          let no : opened_parts s ad front back ≡ Err (Session (Tag (length front))) = rw o refl in
          cc
      at false h true o =
          let long = opened_long (ltb-false (length file) 16 h) in
          let yes : opened_parts s ad front back ≡ Ok (plaintext_of s ad front) = rw o refl in
          let same : plaintext_of s ad front ≡ text = cc in
          sym (take-append-drop (length file - 16) file)
          ∙ ap₂ ◌++◌ (sym (ciphertext-plaintext s ad front)) (opens_tag s ad front back o)
          ∙ ap (sealed_bytes s ad) same

  sealed_opens : (text : List ℕ) → file ≡ sealed_bytes s ad text → opened_file s ad file ≡ Ok text
  sealed_opens text e =
      let c = ciphertext_of s ad text in
      let t = tag_of s ad text in
      let size = ap length e ∙ length-append c t in
      let n : length c ≡ length file - 16 = omega (arith, size, length_tag s ad text) in
      let first : front ≡ c = ap (take (length file - 16)) e ∙ take_at c t (length file - 16) n in
      let last : back ≡ t = ap (drop (length file - 16)) e ∙ drop_at c t (length file - 16) n in
      sym (opened_long (omega (arith, size, length_tag s ad text)))
      ∙ rw (first, last, opens_sealed s ad text) (ap Ok (plaintext-ciphertext s ad text))

  pub opens_just_sealed : OpensSealed s ad file
  opens_just_sealed text = (opened_is text, sealed_opens text)
