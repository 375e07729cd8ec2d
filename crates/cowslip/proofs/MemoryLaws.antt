-- Memory that a state fills to the end.
use Rattle.std.proofs.Common.{◌≡◌, ℕ, ◌-◌, ◌≤◌, cond, List, [], ◌∷◌, ◌++◌, length, get_or, take, drop, Ok, Err, sym, refl, ap, ◌∙◌, ap₂, append-nil, arith, length-append, length-drop}
use borrow.Rule.Slice.PartMut.{put_mid}
use Rattle.std.proofs.Math.ListN.{set}
use Rattle.std.proofs.lemmas.List.FromFn.{length-map-range_with_len}
use Rattle.std.proofs.lemmas.List.{drop_all, take_all, take-append-le, get_or-append_right}
use Rattle.std.proofs.lemmas.Bool.{eq-eqb, le-ltb}
use Rattle.duplex.specs.Bytes.{byte_of_state, bytes_of_state, state_of_bytes}
use Rattle.duplex.specs.Strings.{word_bytes}
use Rattle.link.specs.Frames.{Standing, number_limit}
use Rattle.cowslip.specs.declared.fault.CallFault.TheVariants.{NoState}
use Rattle.cowslip.specs.Memory.{session_mark, kept_session, kept_end, bits_in, session_in, number_at, standing_at, end_in}

-- a mark, and bytes behind it
pub marked : (mark : ℕ) (bytes old : List ℕ) → 1 ≤ length old → put_mid 1 33 (set old 0 mark) bytes ≡ mark ∷ (bytes ++ drop 34 old)
marked mark bytes [] h = absurd (omega arith)
marked mark bytes (x ∷ old) h = refl

pub filled : (mark n : ℕ) (bytes old : List ℕ) → length old ≤ n → mark ∷ (bytes ++ drop n old) ≡ mark ∷ bytes
filled mark n bytes old h = ap (λ r. mark ∷ (bytes ++ r)) (drop_all n old h) ∙ ap (◌∷◌ mark) (append-nil bytes)

length-bytes : (s : List ℕ) → length (bytes_of_state s) ≡ 33
unfolding bytes_of_state
length-bytes s = length-map-range_with_len (byte_of_state s) 0 33

-- What is kept is found again.

bits_found : (mark : ℕ) (s rest : List ℕ) → state_of_bytes (bytes_of_state s) ≡ s → bits_in mark (mark ∷ (bytes_of_state s ++ rest)) ≡ Ok s
bits_found mark s rest back =
    let bytes = bytes_of_state s in
    let front : take 33 (bytes ++ rest) ≡ bytes = take-append-le 33 bytes rest (omega (arith, length-bytes s)) ∙ take_all 33 bytes (omega (arith, length-bytes s)) in
    ap (λ b. cond b (Ok (state_of_bytes (take 33 (bytes ++ rest)))) (Err NoState)) (eq-eqb mark mark refl) ∙ ap Ok (ap state_of_bytes front ∙ back)

pub session_found : (s : List ℕ) → state_of_bytes (bytes_of_state s) ≡ s → session_in (kept_session s) ≡ Ok s
session_found s back = ap (λ r. session_in (session_mark ∷ r)) (sym (append-nil (bytes_of_state s))) ∙ bits_found session_mark s [] back

number_found : (mark : ℕ) (m : Standing) → m.number ≤ number_limit → number_at (kept_end mark m) ≡ m.number
number_found mark m h =
    let n = m.number in
    let bytes = bytes_of_state m.state in
    let behind : (i k : ℕ) → 33 ≤ i → i - 33 ≡ k → get_or (bytes ++ word_bytes n) i 0 ≡ get_or (word_bytes n) k 0 =
    λ i k l e. get_or-append_right bytes (word_bytes n) 33 i 0 (length-bytes m.state) l ∙ ap (λ j. get_or (word_bytes n) j 0) e in
    omega (arith, behind 33 0 (omega arith) refl, behind 34 1 (omega arith) refl, behind 35 2 (omega arith) refl, behind 36 3 (omega arith) refl)

pub end_found : (mark : ℕ) (m : Standing) → state_of_bytes (bytes_of_state m.state) ≡ m.state → m.number ≤ number_limit → end_in mark (kept_end mark m) ≡ Ok m
end_found mark m back h =
    ap₂ standing_at (number_found mark m h) (bits_found mark m.state (word_bytes m.number) back)
    ∙ ap (λ b. cond b (Err NoState) (Ok m)) (le-ltb number_limit m.number h)

-- a number of four bytes behind the bits
pub number_put : (mark : ℕ) (s old number : List ℕ) → length old ≡ 38
    → put_mid 34 4 (mark ∷ (bytes_of_state s ++ drop 34 old)) number ≡ mark ∷ (bytes_of_state s ++ number)
unfolding bytes_of_state
number_put mark s old number long =
    let bytes = bytes_of_state s in
    let rest = drop 34 old in
    let size = length-bytes s in
    let front : take 33 (bytes ++ rest) ≡ bytes = take-append-le 33 bytes rest (omega arith) ∙ take_all 33 bytes (omega arith) in
    let back : drop 4 (drop 33 (bytes ++ rest)) ≡ [] = drop_all 4 (drop 33 (bytes ++ rest)) (omega (arith, length-drop 33 (bytes ++ rest), length-append bytes rest, length-drop 34 old)) in
    ap₂ (λ f t. mark ∷ (f ++ (number ++ t))) front back ∙ ap (λ t. mark ∷ (bytes ++ t)) (append-nil number)
