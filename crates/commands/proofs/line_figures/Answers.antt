-- Each line is computed; a long one goes by its length.
use Rattle.std.proofs.Common.{◌≡◌, ℕ, ◌≤◌, cond, List, length, Some, Err, refl, ap, arith}
use Rattle.std.proofs.lemmas.Bool.{lt-ltb}
use Rattle.refusals.specs.Tables.{refused_by}
use Rattle.commands.specs.declared.terms.Fault.TheVariants.{Length}
use Rattle.commands.specs.Figures.{Refuses}
use Rattle.commands.specs.Lines.{hex_fault, with_string, with_count, short_line}
use Rattle.commands.specs.Refusals.{told}
use Rattle.commands.proofs.line_figures.Goals as goal

too_long : (line : List ℕ) → 131 ≤ length line → Refuses line 12 131
too_long line h = ap (λ t. refused_by told (cond t (Err Length) (short_line line))) (lt-ltb 130 (length line) (omega arith))

pub returns : goal.returns
unfolding hex_fault with_string with_count
returns c = record {
  empty = refl;
  unknown = refl;
  zero_more = refl;
  no_blank = refl;
  blank_alone = refl;
  squeeze_alone = refl;
  no_digits = refl;
  odd_digits = refl;
  bad_digit = refl;
  blank_no_count = refl;
  squeeze_no_count = refl;
  squeeze_65 = refl;
  too_long = too_long;
  longest = refl;
}
