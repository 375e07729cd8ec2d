-- Sealing and opening undo each other, and what the calls answer, case by case.
use Rattle.std.proofs.Common.{◌≡◌, ◌≢◌, ℕ, ◌≤◌, Bool, true, false, cond, ltb, List, ◌++◌, length, take, drop, Ok, Err, sym, refl, ap, ◌∙◌, ap₂, arith}
use Rattle.std.proofs.lemmas.Slice.Eq.{bytes_eq-Decides}
use Rattle.std.proofs.lemmas.List.{take_at}
use Rattle.std.proofs.lemmas.Bool.{le-ltb}
use Rattle.duplex.specs.Strings.{absorbed, squeezed, readings}
use Rattle.strings.proofs.Blocks.{decrypted-encrypted, encrypted-decrypted, length-encrypted, length-decrypted}
use Rattle.session.specs.declared.fault.SessionFault.{SessionFault}
use Rattle.session.specs.declared.fault.SessionFault.TheVariants.{Short, Tag}
use Rattle.session.specs.Sessions.{ciphertext_of, tag_of, after_sealing, plaintext_of, opens, shown}
use Rattle.session.specs.Calls.{Answer, seal_answer, verdict, open_answer, ReadsBack, Sealed, OnlySealed}

pub plaintext-ciphertext : (s ad text : List ℕ) → plaintext_of s ad (ciphertext_of s ad text) ≡ text
unfolding plaintext_of ciphertext_of
plaintext-ciphertext s ad text = decrypted-encrypted (absorbed s ad) text

pub ciphertext-plaintext : (s ad c : List ℕ) → ciphertext_of s ad (plaintext_of s ad c) ≡ c
unfolding plaintext_of ciphertext_of
ciphertext-plaintext s ad c = encrypted-decrypted (absorbed s ad) c

pub length-cipher : (s ad text : List ℕ) → length (ciphertext_of s ad text) ≡ length text
unfolding ciphertext_of
length-cipher s ad text = length-encrypted (absorbed s ad) text

pub length-plaintext : (s ad c : List ℕ) → length (plaintext_of s ad c) ≡ length c
unfolding plaintext_of
length-plaintext s ad c = length-decrypted (absorbed s ad) c

pub length_tag : (s ad text : List ℕ) → length (tag_of s ad text) ≡ 16
unfolding tag_of squeezed readings
length_tag s ad text = refl

-- what sealing writes opens
pub opens_sealed : (s ad text : List ℕ) → opens s ad (ciphertext_of s ad text) (tag_of s ad text) ≡ true
unfolding opens
opens_sealed s ad text = (bytes_eq-Decides _ _).1 (ap (tag_of s ad) (plaintext-ciphertext s ad text))

-- what opens has the tag of its text
pub opens_tag : (s ad c tag : List ℕ) → opens s ad c tag ≡ true → tag ≡ tag_of s ad (plaintext_of s ad c)
unfolding opens
opens_tag s ad c tag h = sym ((bytes_eq-Decides _ _).0 h)

pub seal_fits : (text : List ℕ) (room : ℕ) → length text ≤ room → seal_answer text room ≡ Ok (length text)
unfolding seal_answer
seal_fits text room h = rw (le-ltb room (length text) h) refl

module _ (s ad c tag : List ℕ) (room : ℕ) where
  pub open_fits : length c ≤ room → open_answer s ad c tag room ≡ verdict c (opens s ad c tag)
  unfolding open_answer
  open_fits h = rw (le-ltb room (length c) h) refl

  -- an opening that answers a length opened all of the ciphertext
  pub open_accepted : (n : ℕ) → open_answer s ad c tag room ≡ Ok n → (length c ≡ n) × (opens s ad c tag ≡ true)
  unfolding open_answer
  open_accepted n e = at (ltb room (length c)) (opens s ad c tag) refl e
    where
      at : (short accepted : Bool) → opens s ad c tag ≡ accepted → cond short (Err (Short room)) (verdict c accepted) ≡ Ok n → (length c ≡ n) × (opens s ad c tag ≡ true)
      at true accepted o h = cc
      at false true o h = (cc, o)
      at false false o h = cc

  -- an opening with room that refuses found another tag
  pub open_refused : (f : SessionFault) → length c ≤ room → open_answer s ad c tag room ≡ Err f → (f ≡ Tag (length c)) × (opens s ad c tag ≡ false)
  open_refused f h e = at (opens s ad c tag) refl (sym (open_fits h) ∙ e)
    where
      at : (accepted : Bool) → opens s ad c tag ≡ accepted → verdict c accepted ≡ Err f → (f ≡ Tag (length c)) × (opens s ad c tag ≡ false)
      at true o h = cc
      at false o h = (cc, o)

-- what sealing writes is refused with any other tag
pub other_refused : (s ad text tag : List ℕ) (room : ℕ) → tag ≢ tag_of s ad text → length text ≤ room → open_answer s ad (ciphertext_of s ad text) tag room ≡ Err (Tag (length text))
other_refused s ad text tag room other fits =
    let n = length-cipher s ad text in
    open_fits s ad (ciphertext_of s ad text) tag room (omega (arith, n))
    ∙ (at (opens s ad (ciphertext_of s ad text) tag) refl ∙ ap (λ k. Err (Tag k)) n)
  where
    at : (accepted : Bool) → opens s ad (ciphertext_of s ad text) tag ≡ accepted → verdict (ciphertext_of s ad text) accepted ≡ Err (Tag (length (ciphertext_of s ad text)))
    at true o = absurd (other (opens_tag s ad (ciphertext_of s ad text) tag o ∙ ap (tag_of s ad) (plaintext-ciphertext s ad text)))
    at false o = refl

-- The two theorems, of what an opening with room enough leaves.
module _ (s ad c tag old : List ℕ) (r : Answer) (s' new : List ℕ) (value : r ≡ verdict c (opens s ad c tag)) (moved : s' ≡ after_sealing s ad (plaintext_of s ad c)) (out : new ≡ shown (opens s ad c tag) (plaintext_of s ad c) ++ drop (length c) old) where
  pub reads_back : ReadsBack s ad c tag old r s' new
  reads_back text ec et h =
      let n : length c ≡ length text = ap length ec ∙ length-cipher s ad text in
      let o : opens s ad c tag ≡ true = ap₂ (opens s ad) ec et ∙ opens_sealed s ad text in
      let p : plaintext_of s ad c ≡ text = ap (plaintext_of s ad) ec ∙ plaintext-ciphertext s ad text in
      record {
        accepts = rw o at value ∙ ap Ok n;
        shows = rw (o, p, n) at out;
        stands = rw p at moved;
      }

  pub only_sealed : OnlySealed s ad c tag r s' new
  only_sealed n e = at (opens s ad c tag) refl
    where
      at : (accepted : Bool) → opens s ad c tag ≡ accepted → Sealed s ad (take n new) c tag s'
      at false o = cc
      at true o =
          let l : length c ≡ n = cc in
          let t : plaintext_of s ad c ≡ take n new = sym (ap (take n) (rw o at out) ∙ take_at (plaintext_of s ad c) (drop (length c) old) n (length-plaintext s ad c ∙ l)) in
          record {
            ciphertext = sym (ciphertext-plaintext s ad c) ∙ ap (ciphertext_of s ad) t;
            same_tag = opens_tag s ad c tag o ∙ ap (tag_of s ad) t;
            stands = moved ∙ ap (after_sealing s ad) t;
          }
