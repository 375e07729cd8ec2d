-- The suite's sender, which is no code: by the rules alone, the frame that a kind byte and a text give where it stands, and where it stands then.
use Rattle.std.specs.Prelude.{◌≡◌, ℕ, ◌+◌, cond, List, ◌++◌, length, Some, None, Option, ◌==◌, nat_lt}
use Rattle.std.specs.Option.{option_map, option_and_then, option_map_or}
use Rattle.session.specs.Sessions.{ciphertext_of, tag_of, after_sealing}
use Rattle.link.specs.declared.kind.Kind.{Kind}
use Rattle.link.specs.Kinds.{kind_byte, text_length, kind_of}
use Rattle.link.specs.Frames.{Standing, number_limit, header_of}

-- the frame of a text: the associated data, then the text sealed with it
unfoldable pub frame_of : Standing → Kind → List ℕ → List ℕ
frame_of m k t =
    let ad = header_of (kind_byte k) m.number in
    ad ++ (ciphertext_of m.state ad t ++ tag_of m.state ad t)

-- where it stands after that frame
unfoldable pub next_of : Standing → Kind → List ℕ → Standing
next_of m k t = record { state = after_sealing m.state (header_of (kind_byte k) m.number) t; number = m.number + 1 }

-- a kind, where the text has its length
abbrev pub if_fits : List ℕ → Kind → Option Kind
if_fits t k = cond (length t == text_length k) (Some k) None

-- The kind as which it writes the text t for the byte b, if it writes: its number is below `number_limit`, the byte stands for a kind, and the text has that kind's length.
unfoldable pub writes_as : Standing → ℕ → List ℕ → Option Kind
writes_as m b t = cond (nat_lt m.number number_limit) (option_and_then (if_fits t) (kind_of b)) None

-- Given this byte and text: the frame that it writes, if it writes, and where it stands then; where it writes nothing, it stands as before.

unfoldable pub writes : Standing → ℕ → List ℕ → Option (List ℕ)
writes m b t = option_map (λ k. frame_of m k t) (writes_as m b t)

unfoldable pub fed : Standing → ℕ → List ℕ → Standing
fed m b t = option_map_or (λ k. next_of m k t) (writes_as m b t) m

-- A frame that it could write next: for some kind byte and text, what it would write now is this frame.
abbrev pub CouldWrite : Standing → List ℕ → Type 0
CouldWrite m f = (b : ℕ) × (t : List ℕ) × (writes m b t ≡ Some f)
