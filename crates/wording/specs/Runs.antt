-- Runs of bytes: how a line is taken apart.
use Rattle.std.specs.Prelude.{ℕ, ◌+◌, Bool, true, false, cond, ◌||◌, List, [], ◌∷◌, ◌==◌}
use Rattle.wording.specs.declared.runs.Stop.{Stop}
use Rattle.wording.specs.declared.runs.Stop.TheVariants.{Byte, Blank, Word}

-- a space, a tab or a carriage return
abbrev pub blank : ℕ → Bool
blank c = c == 32 || (c == 9 || c == 13)

abbrev pub ends_run : Stop → ℕ → Bool
ends_run (Byte b) c = c == b
ends_run Blank c = blank c
ends_run Word c = cond (blank c) false true

-- the length of the run at the front of a text
abbrev pub run_length : Stop → List ℕ → ℕ
run_length stop [] = 0
run_length stop (c ∷ cs) = cond (ends_run stop c) 0 (1 + run_length stop cs)
