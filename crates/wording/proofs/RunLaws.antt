-- The run at the front of a text ends at the first byte that ends one.
use Rattle.std.proofs.Common.{◌≡◌, ℕ, ◌<◌, ◌≤◌, cond, List, length, not, Some, None, Option, position, unwrap_or, sym, refl, ap, ◌∙◌, ⊎_elim, arith}
use Rattle.std.specs.List.{position_or_len}
use Rattle.std.proofs.lemmas.Bool.{cases_lt, lt-ltb, le-ltb}
use Rattle.std.proofs.lemmas.List.Recursion.{is_position_or_len}
use Rattle.std.proofs.lemmas.List.Sums.{prefix_len-le-length}
use Rattle.wording.specs.declared.runs.Stop.{Stop}
use Rattle.wording.specs.Runs.{ends_run, run_length}

run_is : (stop : Stop) (xs : List ℕ) → run_length stop xs ≡ position_or_len (ends_run stop) xs
run_is stop xs = is_position_or_len (run_length stop) (ends_run stop) refl (λ x xs. refl) xs

pub run_found : (stop : Stop) (xs : List ℕ) (o : Option ℕ) → o ≡ position (ends_run stop) xs → unwrap_or o (length xs) ≡ run_length stop xs
run_found stop xs o e =
    let n = position_or_len (ends_run stop) xs in
    let fits : n ≤ length xs = prefix_len-le-length (λ x. not (ends_run stop x)) xs in
    ap (λ o. unwrap_or o (length xs)) e
    ∙ ⊎_elim
    (λ (h : n < length xs). ap (λ t. unwrap_or (cond t (Some n) None) (length xs)) (lt-ltb n (length xs) h) ∙ sym (run_is stop xs))
    (λ (h : length xs ≤ n). ap (λ t. unwrap_or (cond t (Some n) None) (length xs)) (le-ltb n (length xs) h) ∙ omega (arith, run_is stop xs))
    (cases_lt n (length xs))
