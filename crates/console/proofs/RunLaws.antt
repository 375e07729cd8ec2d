-- The law of a run: byte by byte, the bench prints the transcript of its input. That it keeps only 131 bytes of a line changes nothing.
use Rattle.std.proofs.Common.{◌≡◌, ℕ, zero, suc, ◌+◌, ◌-◌, ◌<◌, ◌≤◌, Bool, true, false, cond, eqb, leb, List, [], ◌∷◌, ◌++◌, length, take, Some, None, Err, Option, sym, refl, ap, ◌∙◌, ap₂, ⊎_elim, arith}
use Rattle.std.proofs.lemmas.List.{append-nil, length-take, take_all}
use Rattle.std.proofs.lemmas.Bool.{cases_lt, cases_Bool, lt-ltb, leb-true, leb-false, ne_eqb}
use Rattle.duplex.specs.State.{zeros}
use Rattle.commands.specs.declared.terms.Fault.TheVariants.{Length}
use Rattle.buffer.specs.Buffers.{kept}
use Rattle.commands.specs.Lines.{parsed, short_line, string_of}
use Rattle.console.specs.Replies.{bits_by, text_by, line_feed, line_bits, printed}
use Rattle.console.specs.Runs.{lines_of, replies, transcript, RunState, run_state, to_come, ended, reply, after_byte, byte_reply, end_reply, bytes_of, most_lines}
use Rattle.buffer.proofs.BufferLaws.{take_front}

parsed_long : (l : List ℕ) → 130 < length l → parsed l ≡ Err Length
parsed_long l h = ap (λ t. cond t (Err Length) (short_line l)) (lt-ltb 130 (length l) h)

-- the first 131 bytes of a line decide
module _ {A : Type 0} (f : List ℕ → A) (long : (l l' : List ℕ) → 130 < length l → 130 < length l' → f l ≡ f l') where
  first_131 : (l : List ℕ) → f (take 131 l) ≡ f l
  first_131 l =
      ⊎_elim
      (λ (h : length l < 131). ap f (take_all 131 l (omega arith)))
      (λ (h : 131 ≤ length l). long (take 131 l) l (simp length-take (omega arith)) (omega arith))
      (cases_lt (length l) 131)

printed_131 : (s : List ℕ) (n : ℕ) (l : List ℕ) → printed s n (take 131 l) ≡ printed s n l
unfolding printed
printed_131 s n = first_131 (printed s n) (λ l l' h h'.
    ap (λ r. text_by s (string_of l) n r ++ line_feed ∷ []) (parsed_long l h) ∙ sym (ap (λ r. text_by s (string_of l') n r ++ line_feed ∷ []) (parsed_long l' h')))

bits_131 : (s l : List ℕ) → line_bits s (take 131 l) ≡ line_bits s l
unfolding line_bits
bits_131 s = first_131 (line_bits s) (λ l l' h h'. ap (bits_by s (string_of l)) (parsed_long l h) ∙ sym (ap (bits_by s (string_of l')) (parsed_long l' h')))

empty_131 : (l : List ℕ) → eqb (length (take 131 l)) 0 ≡ eqb (length l) 0
empty_131 [] = refl
empty_131 (x ∷ l) = ne_eqb (length (take 131 (x ∷ l))) 0 (λ e. omega arith) ∙ sym (ne_eqb (length (x ∷ l)) 0 (λ e. omega arith))

first-reply : (s : List ℕ) (n k : ℕ) (l : List ℕ) (ls : List (List ℕ)) → replies s n (take k (take 131 l ∷ ls)) ≡ replies s n (take k (l ∷ ls))
unfolding replies
first-reply s n zero l ls = refl
first-reply s n (suc k) l ls = ap₂ (λ p q. p ++ q) (printed_131 s n l) (ap (λ t. replies t (n + 1) (take k ls)) (bits_131 s l))

no_replies : (s : List ℕ) (n k : ℕ) → replies s n (take k []) ≡ []
unfolding replies
no_replies s n zero = refl
no_replies s n (suc k) = refl

module _ (s : List ℕ) (n k : ℕ) where
  last_line : (l : List ℕ) (t : Bool) → replies s n (take k (cond t [] (take 131 l ∷ []))) ≡ replies s n (take k (cond t [] (l ∷ [])))
  last_line l true = refl
  last_line l false = first-reply s n k l []

  -- one byte of input, if the law holds of the input after it
  one_byte : (b : ℕ) (l more : List ℕ) → ((l : List ℕ) → replies s n (take k (lines_of (take 131 l) more)) ≡ replies s n (take k (lines_of l more))) → (t : Bool)
      → replies s n (take k (cond t (take 131 l ∷ lines_of [] more) (lines_of (take 131 l ++ b ∷ []) more))) ≡ replies s n (take k (cond t (l ∷ lines_of [] more) (lines_of (l ++ b ∷ []) more)))
  one_byte b l more law true = first-reply s n k l (lines_of [] more)
  one_byte b l more law false =
      sym (law (take 131 l ++ b ∷ [])) ∙ ap (λ x. replies s n (take k (lines_of x more))) (take_front 131 l (b ∷ [])) ∙ law (l ++ b ∷ [])

  -- a line of which only the first 131 bytes are kept
  kept_line : (more l : List ℕ) → replies s n (take k (lines_of (take 131 l) more)) ≡ replies s n (take k (lines_of l more))
  unfolding lines_of
  kept_line [] l = ap (λ t. replies s n (take k (cond t [] (take 131 l ∷ [])))) (empty_131 l) ∙ last_line l (eqb (length l) 0)
  kept_line (b ∷ more) l = one_byte b l more (kept_line more) (eqb b line_feed)

-- no line is left to read
pub all_read : (b : RunState) (input : List ℕ) → leb most_lines b.lines ≡ true → to_come b input ≡ []
unfolding to_come replies
all_read b input done =
    let none : most_lines - b.lines ≡ 0 = omega (arith, leb-true most_lines b.lines done) in
    ap (λ k. replies b.bits (b.lines + 1) (take k (lines_of b.begun input))) none

-- a line more
next_line : (b : RunState) (rest : List (List ℕ)) → leb most_lines b.lines ≡ false
    → replies b.bits (b.lines + 1) (take (most_lines - b.lines) (b.begun ∷ rest)) ≡ reply b ++ replies (ended b).bits ((ended b).lines + 1) (take (most_lines - (ended b).lines) rest)
unfolding replies
next_line b rest open' =
    let more : most_lines - b.lines ≡ suc (most_lines - (b.lines + 1)) = omega (arith, leb-false most_lines b.lines open') in
    ap (λ k. replies b.bits (b.lines + 1) (take k (b.begun ∷ rest))) more

-- a byte of input
take_byte : (b : RunState) (byte : ℕ) (more : List ℕ) → to_come b (byte ∷ more) ≡ bytes_of (byte_reply b byte) ++ to_come (after_byte b byte) more
unfolding to_come lines_of kept
take_byte b byte more =
    ⊎_elim
    (λ done. all_read b (byte ∷ more) done
    ∙ sym (ap (λ t. bytes_of (cond t None (cond (eqb byte line_feed) (Some (reply b)) None)) ++ to_come (cond t b (cond (eqb byte line_feed) (ended b) (run_state b.bits (kept b.begun (byte ∷ [])) b.lines))) more) done
    ∙ all_read b more done))
    (λ open'. by_cases open' (eqb byte line_feed)
    ∙ sym (ap (λ t. bytes_of (cond t None (cond (eqb byte line_feed) (Some (reply b)) None)) ++ to_come (cond t b (cond (eqb byte line_feed) (ended b) (run_state b.bits (kept b.begun (byte ∷ [])) b.lines))) more) open'))
    (cases_Bool (leb most_lines b.lines))
  where
    by_cases : leb most_lines b.lines ≡ false → (t : Bool)
        → replies b.bits (b.lines + 1) (take (most_lines - b.lines) (cond t (b.begun ∷ lines_of [] more) (lines_of (b.begun ++ byte ∷ []) more)))
        ≡ bytes_of (cond t (Some (reply b)) None) ++ to_come (cond t (ended b) (run_state b.bits (kept b.begun (byte ∷ [])) b.lines)) more
    by_cases open' true = next_line b (lines_of [] more) open'
    by_cases open' false = sym (kept_line b.bits (b.lines + 1) (most_lines - b.lines) more (b.begun ++ byte ∷ []))

-- the end of the input
take_end : (b : RunState) → to_come b [] ≡ bytes_of (end_reply b)
unfolding to_come lines_of replies
take_end b =
    ⊎_elim
    (λ done. all_read b [] done ∙ sym (ap (λ t. bytes_of (cond t None (cond (eqb (length b.begun) 0) None (Some (reply b))))) done))
    (λ open'. by_cases open' (eqb (length b.begun) 0)
    ∙ sym (ap (λ t. bytes_of (cond t None (cond (eqb (length b.begun) 0) None (Some (reply b))))) open'))
    (cases_Bool (leb most_lines b.lines))
  where
    by_cases : leb most_lines b.lines ≡ false → (t : Bool)
        → replies b.bits (b.lines + 1) (take (most_lines - b.lines) (cond t [] (b.begun ∷ []))) ≡ bytes_of (cond t None (Some (reply b)))
    by_cases open' true = no_replies b.bits (b.lines + 1) (most_lines - b.lines)
    by_cases open' false =
        next_line b [] open' ∙ ap (λ r. reply b ++ r) (no_replies (ended b).bits ((ended b).lines + 1) (most_lines - (ended b).lines)) ∙ append-nil (reply b)

pub byte_prints : (b b' : RunState) (byte : ℕ) (o : Option (List ℕ)) → b' ≡ after_byte b byte → o ≡ byte_reply b byte → (more : List ℕ) → to_come b (byte ∷ more) ≡ bytes_of o ++ to_come b' more
byte_prints b b' byte o moved value more = take_byte b byte more ∙ sym (ap₂ (λ o b. bytes_of o ++ to_come b more) value moved)

pub end_prints : (b : RunState) (o : Option (List ℕ)) → o ≡ end_reply b → to_come b [] ≡ bytes_of o
end_prints b o value = take_end b ∙ sym (ap bytes_of value)

pub start_prints : (b : RunState) → b ≡ run_state zeros [] 0 → (input : List ℕ) → to_come b input ≡ transcript input
unfolding to_come
start_prints b e input = ap (λ b. to_come b input) e
