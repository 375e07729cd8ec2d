-- The status of a program by what came of it.
use Rattle.std.specs.Prelude.{ℕ, Ok, Err, Result}

abbrev pub status_of : {A E : Type 0} → Result A E → ℕ
status_of (Ok x) = 0
status_of (Err e) = 1
