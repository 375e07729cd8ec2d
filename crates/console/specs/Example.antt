-- A worked example of a whole run.
use Prim.Native.String.{String}
use Rattle.std.specs.Prelude.{◌≡◌, ℕ, List, [], ◌∷◌, ◌++◌, codes}
use Rattle.console.specs.Replies.{line_feed}
use Rattle.console.specs.Runs.{transcript}

-- lines of text, each with its line feed
abbrev pub lines_text : List String → List ℕ
lines_text [] = []
lines_text (l ∷ ls) = (codes l ++ line_feed ∷ []) ++ lines_text ls

abbrev pub WorkedExample : Type 0
WorkedExample =
    transcript (lines_text ("Z" ∷ "C 61" ∷ "S 4" ∷ "Z" ∷ "B 1" ∷ "P 60" ∷ "S x" ∷ []))
    ≡ lines_text ("ok" ∷ "61" ∷ "61000000" ∷ "ok" ∷ "ok" ∷ "61" ∷ "? 11 7 3" ∷ [])
