-- Worked figures of lines: an example of each refusal, and the longest line that is taken.
use Rattle.std.specs.Prelude.{◌≡◌, ℕ, ◌≤◌, List, [], ◌++◌, length, replicate, Some, Ok, codes}
use Rattle.refusals.specs.declared.Layer.TheVariants.{Bench}
use Rattle.refusals.specs.Tables.{refused_by, refusal_of}
use Rattle.digits.specs.Digits.{char_of}
use Rattle.commands.specs.declared.terms.Command.TheVariants.{Absorb}
use Rattle.commands.specs.Lines.{parsed}
use Rattle.commands.specs.Refusals.{told}

-- a line is refused, by this number and column
abbrev pub Refuses : List ℕ → ℕ → ℕ → Type 0
Refuses line number column = refused_by told (parsed line) ≡ Some (refusal_of Bench number column)

pub record LineFigures : Type 0 where
  -- no letter, or an unknown one
  pub empty : Refuses [] 9 1
  pub unknown : Refuses (codes "Q") 9 1
  -- a wrong byte after the letter, or none where one is owed
  pub zero_more : Refuses (codes "Zz") 9 2
  pub no_blank : Refuses (codes "A61") 9 2
  pub blank_alone : Refuses (codes "B") 9 2
  pub squeeze_alone : Refuses (codes "S") 9 2
  -- no digits, an odd count of them, and a bad one
  pub no_digits : Refuses (codes "A ") 10 3
  pub odd_digits : Refuses (codes "A 6") 10 4
  pub bad_digit : Refuses (codes "A 6g") 10 4
  -- no count, and one that is too large
  pub blank_no_count : Refuses (codes "B ") 11 3
  pub squeeze_no_count : Refuses (codes "S ") 11 3
  pub squeeze_65 : Refuses (codes "S 65") 11 3
  -- any line of 131 bytes or more; one of 130 bytes is taken
  pub too_long : (line : List ℕ) → 131 ≤ length line → Refuses line 12 131
  pub longest : parsed (codes "A " ++ replicate 128 (char_of "0")) ≡ Ok Absorb
