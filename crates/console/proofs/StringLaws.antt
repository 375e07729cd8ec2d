-- The string of a line, as the digits from its third byte on are decoded.
use Rattle.std.proofs.Common.{◌≡◌, ℕ, ◌-◌, ◌/◌, ◌<◌, ◌≤◌, min, List, length, take, drop, sym, ap, ◌∙◌, ⊎_elim, arith}
use Rattle.std.proofs.lemmas.Bool.{cases_lt}
use Rattle.std.proofs.lemmas.List.{drop_all, length-drop, take_rest}
use Rattle.digits.specs.declared.single.Letters.TheVariants.{Lower}
use Rattle.digits.specs.Pairs.{unhex_by, laid}
use Rattle.digits.proofs.HexLaws.{laid_front, length-unhex}
use Rattle.commands.specs.Lines.{string_of}

-- all but the first two bytes, or none where the line is shorter
third_on : (line : List ℕ) (m : ℕ) → m ≡ min (length line) 2 → take (length line - m) (drop m line) ≡ drop 2 line
third_on line m e =
    take_rest line m
    ∙ ⊎_elim
    (λ (h : length line < 2). drop_all m line (omega arith) ∙ sym (drop_all 2 line (omega arith)))
    (λ (h : 2 ≤ length line). let two : m ≡ 2 = omega arith in ap (λ k. drop k line) two)
    (cases_lt (length line) 2)

module _ (line digits : List ℕ) (m : ℕ) (e : m ≡ min (length line) 2) (d : digits ≡ take (length line - m) (drop m line)) (short : length line ≤ 130) where
  pub few_pairs : length digits / 2 ≤ 64
  few_pairs = let n = ap length (d ∙ third_on line m e) ∙ length-drop 2 line in omega arith

  pub string_decoded : (old out : List ℕ) → length old ≡ 64 → out ≡ laid (unhex_by Lower digits) old → take (length digits / 2) out ≡ string_of line
  string_decoded old out room so =
      let n = length-unhex Lower digits in
      let few = few_pairs in
      ap (take (length digits / 2)) so
      ∙ ap (λ k. take k (laid (unhex_by Lower digits) old)) (sym n)
      ∙ laid_front (unhex_by Lower digits) old (omega arith)
      ∙ ap (unhex_by Lower) (d ∙ third_on line m e)
