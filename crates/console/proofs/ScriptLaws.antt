-- A whole script: what its reader still has, printed after what its writer holds.
use Rattle.std.proofs.Common.{◌≡◌, ℕ, ◌+◌, ◌<◌, ◌≤◌, true, leb, List, [], ◌∷◌, ◌++◌, length, get_or, drop, Some, None, Ok, Err, Option, Result, IfSome, OnOk, sym, ap, ap₂, ◌∙◌, subst}
use Rattle.std.proofs.lemmas.List.{at_drop_more, at_drop_all}
use Rattle.std.specs.Io.KnownBytes.{Appends, Consumes, IsAtEnd, Keeps}
use Rattle.std.proofs.KnownBytes.{Appends-nil, Appends-trans, Appends-kept}
use Rattle.console.specs.Runs.{RunState, transcript, to_come, most_lines}
use Rattle.console.proofs.RunLaws.{all_read}

-- what is printed for the rest of the input ends up in the writer
abbrev pub Prints : RunState → Option (List ℕ) → Option (List ℕ) → Option (List ℕ) → Type 0
Prints b left held last = IfSome left (λ input. Appends held last (to_come b input))

pub on_ok : {T E : Type 0} (r : Result T E) (P : Type 0) → P → OnOk r P
on_ok (Ok v) P p = p
on_ok (Err e) P p = tt

module _ (b : RunState) (held held' last : Option (List ℕ)) where
  -- a byte, and then the bytes after it
  pub byte_then : (b' : RunState) (printed bytes rest : List ℕ) (i : ℕ) → i < length bytes → ((more : List ℕ) → to_come b (get_or bytes i 0 ∷ more) ≡ printed ++ to_come b' more) → Appends held held' printed
      → Appends held' last (to_come b' (drop (i + 1) bytes ++ rest)) → Appends held last (to_come b (drop i bytes ++ rest))
  byte_then b' printed bytes rest i within law now more =
      subst (Appends held last) (sym (at_drop_more (λ l. to_come b (l ++ rest)) bytes i 0 within ∙ law (drop (i + 1) bytes ++ rest))) (Appends-trans held held' last _ _ now more)

  -- a piece, and then the rest
  pub piece_then : (b' : RunState) (given piece : List ℕ) (left left' : Option (List ℕ)) → Consumes left left' piece → given ≡ piece
      → ((rest : List ℕ) (last : Option (List ℕ)) → Appends held' last (to_come b' rest) → Appends held last (to_come b (given ++ rest))) → Prints b' left' held' last → Prints b left held last
  piece_then b' given piece None left' eaten same fed rest = tt
  piece_then b' given piece (Some xs) None eaten same fed rest = absurd eaten
  piece_then b' given piece (Some xs) (Some ys) eaten same fed rest = subst (λ input. Appends held last (to_come b input)) (ap (λ l. l ++ ys) same ∙ sym eaten) (fed ys last rest)

  -- no byte is left
  pub end_then : (printed piece : List ℕ) (left left' : Option (List ℕ)) → Consumes left left' piece → piece ≡ [] → IsAtEnd left' → to_come b [] ≡ printed → Appends held held' printed → Keeps held' last
      → Prints b left held last
  end_then printed piece None left' eaten none ended law now kept = tt
  end_then printed piece (Some xs) None eaten none ended law now kept = absurd eaten
  end_then printed piece (Some xs) (Some ys) eaten none ended law now kept =
      let empty : xs ≡ [] = eaten ∙ ap₂ (λ a c. a ++ c) none ended in
      subst (Appends held last) (sym (ap (to_come b) empty ∙ law)) (Appends-kept held held' last printed now kept)

-- a reading that failed took nothing
pub nothing_read : (b : RunState) (held last left left' : Option (List ℕ)) → Keeps left left' → Prints b left' held last → Prints b left held last
nothing_read b held last None left' kept now = tt
nothing_read b held last (Some xs) None kept now = absurd kept
nothing_read b held last (Some xs) (Some ys) kept now = subst (λ input. Appends held last (to_come b input)) kept now

-- no byte is left of a piece
pub piece_fed : (b : RunState) (held last : Option (List ℕ)) (bytes rest : List ℕ) (i : ℕ) → length bytes ≤ i → Appends held last (to_come b rest) → Appends held last (to_come b (drop i bytes ++ rest))
piece_fed b held last bytes rest i past now = subst (Appends held last) (sym (at_drop_all (λ l. to_come b (l ++ rest)) bytes i past)) now

-- no line is left to read
pub done_then : (b : RunState) (held last left : Option (List ℕ)) → leb most_lines b.lines ≡ true → Keeps held last → Prints b left held last
done_then b held last None done kept = tt
done_then b held last (Some xs) done kept = subst (Appends held last) (sym (all_read b xs done)) (Appends-kept held held last [] (Appends-nil held) kept)

-- a console that is new prints the transcript
pub begin : (b : RunState) (held last left : Option (List ℕ)) → ((input : List ℕ) → to_come b input ≡ transcript input) → Prints b left held last → IfSome left (λ script. Appends held last (transcript script))
begin b held last None law now = tt
begin b held last (Some xs) law now = subst (Appends held last) (law xs) now
