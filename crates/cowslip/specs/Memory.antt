-- Sessions and ends in memory that the caller lends: a mark, the 257 bits in 33 bytes and, of an end, its number in four.
use Rattle.std.specs.Prelude.{ℕ, ◌+◌, ◌*◌, cond, List, ◌∷◌, ◌++◌, take, drop, Ok, Err, Result, ◌==◌, nat_lt, slice_index}
use Rattle.duplex.specs.Bytes.{bytes_of_state, state_of_bytes}
use Rattle.duplex.specs.Strings.{word_bytes}
use Rattle.link.specs.Frames.{Standing, standing_of, number_limit}
use Rattle.cowslip.specs.declared.fault.CallFault.{CallFault}
use Rattle.cowslip.specs.declared.fault.CallFault.TheVariants.{ArgumentLength, NoState}

-- The first byte says what the memory holds.

abbrev pub session_mark : ℕ
session_mark = 0x53

abbrev pub sender_mark : ℕ
sender_mark = 0x57

abbrev pub receiver_mark : ℕ
receiver_mark = 0x52

abbrev pub session_size : ℕ
session_size = 34

abbrev pub end_size : ℕ
end_size = 38

-- What a session and an end leave in their memory.

abbrev pub kept_session : List ℕ → List ℕ
kept_session s = session_mark ∷ bytes_of_state s

abbrev pub kept_end : ℕ → Standing → List ℕ
kept_end mark m = mark ∷ (bytes_of_state m.state ++ word_bytes m.number)

-- What a call finds there: a fault, unless the mark is right and the number not too large.

abbrev pub bits_in : ℕ → List ℕ → Result (List ℕ) CallFault
bits_in mark memory = cond (slice_index memory 0 == mark) (Ok (state_of_bytes (take 33 (drop 1 memory)))) (Err NoState)

abbrev pub session_in : List ℕ → Result (List ℕ) CallFault
session_in memory = bits_in session_mark memory

-- four bytes, lowest first, from place 34 on
abbrev pub number_at : List ℕ → ℕ
number_at memory = slice_index memory 34 + slice_index memory 35 * 256 + slice_index memory 36 * 65536 + slice_index memory 37 * 16777216

abbrev pub standing_at : ℕ → Result (List ℕ) CallFault → Result Standing CallFault
standing_at n (Ok s) = cond (nat_lt number_limit n) (Err NoState) (Ok (standing_of s n))
standing_at n (Err e) = Err e

abbrev pub end_in : ℕ → List ℕ → Result Standing CallFault
end_in mark memory = standing_at (number_at memory) (bits_in mark memory)

-- a lent slice that has not its fixed length is refused, and told by its place among the arguments
abbrev pub sized : {A : Type 0} → ℕ → ℕ → ℕ → Result A CallFault → Result A CallFault
sized argument size length rest = cond (length == size) rest (Err (ArgumentLength argument))
