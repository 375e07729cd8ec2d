-- A whole run of the bench: what it prints for an input, and where it stands between two bytes of it.
use Rattle.std.specs.Prelude.{ℕ, ◌+◌, ◌-◌, cond, List, [], ◌∷◌, ◌++◌, length, take, Some, None, Option, ◌==◌, nat_le}
use Rattle.duplex.specs.State.{zeros}
use Rattle.buffer.specs.Buffers.{held, kept}
use Rattle.console.specs.declared.run.Console.{Console}
use Rattle.console.specs.Replies.{line_feed, line_bits, printed}

-- the lines of an input, the first of which has begun already: line feeds part them, and bytes after the last line feed are a line too, unless there are none
unfoldable pub lines_of : List ℕ → List ℕ → List (List ℕ)
lines_of begun [] = cond (length begun == 0) [] (begun ∷ [])
lines_of begun (b ∷ bs) = cond (b == line_feed) (begun ∷ lines_of [] bs) (lines_of (begun ++ b ∷ []) bs)

-- what is printed for lines, from a state and the number of the first of them on
unfoldable pub replies : List ℕ → ℕ → List (List ℕ) → List ℕ
replies s number [] = []
replies s number (l ∷ ls) = printed s number l ++ replies (line_bits s l) (number + 1) ls

-- the lines that are read
abbrev pub most_lines : ℕ
most_lines = 9999

-- all that is printed for an input
abbrev pub transcript : List ℕ → List ℕ
transcript input = replies zeros 1 (take most_lines (lines_of [] input))

-- where a bench stands: its bits, what it holds of the line that it is reading, and how many lines came before
pub record RunState : Type 0 where
  pub bits : List ℕ
  pub begun : List ℕ
  pub lines : ℕ

abbrev pub run_state : List ℕ → List ℕ → ℕ → RunState
run_state s begun n = record { bits = s; begun = begun; lines = n }

-- where a console stands, by the bits of its engine
abbrev pub state_of : {E : Type 0} → (E → List ℕ) → Console E → RunState
state_of bits c = run_state (bits c.duplex.engine) (held c.line) c.lines

-- what is printed for the rest of an input
unfoldable pub to_come : RunState → List ℕ → List ℕ
to_come b input = replies b.bits (b.lines + 1) (take (most_lines - b.lines) (lines_of b.begun input))

-- the line that was begun has ended: where the bench stands then, and what it prints
abbrev pub ended : RunState → RunState
ended b = run_state (line_bits b.bits b.begun) [] (b.lines + 1)

abbrev pub reply : RunState → List ℕ
reply b = printed b.bits (b.lines + 1) b.begun

-- the same after a byte of input; once all lines are read, nothing happens
abbrev pub after_byte : RunState → ℕ → RunState
after_byte b byte = cond (nat_le most_lines b.lines) b (cond (byte == line_feed) (ended b) (run_state b.bits (kept b.begun (byte ∷ [])) b.lines))

abbrev pub byte_reply : RunState → ℕ → Option (List ℕ)
byte_reply b byte = cond (nat_le most_lines b.lines) None (cond (byte == line_feed) (Some (reply b)) None)

-- the same at the end of the input
abbrev pub after_end : RunState → RunState
after_end b = cond (nat_le most_lines b.lines) b (cond (length b.begun == 0) b (ended b))

abbrev pub end_reply : RunState → Option (List ℕ)
end_reply b = cond (nat_le most_lines b.lines) None (cond (length b.begun == 0) None (Some (reply b)))

-- the bytes of a reply, none where there is none
abbrev pub bytes_of : Option (List ℕ) → List ℕ
bytes_of None = []
bytes_of (Some bytes) = bytes
