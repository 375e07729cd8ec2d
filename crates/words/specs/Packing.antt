-- The state packed into words of 32 bits, and its steps with every distance and position taken times c.
use Rattle.std.specs.Prelude.{ℕ, ◌+◌, ◌*◌, ◌/◌, ◌%◌, List, map, slice_index}
use Rattle.std.specs.List.{range_with_len}
use Rattle.duplex.specs.State.{at, state, chi_rule, theta_rule, iota, bit, add_bits, number, position}

-- bit i of a row of words: place i mod 32 of word i div 32
abbrev pub word_bit : List ℕ → ℕ → ℕ
word_bit ws i = bit (slice_index ws (i / 32)) (i % 32)

-- the state that a row of words holds: its first 257 bits
unfoldable pub state_of_words : List ℕ → List ℕ
state_of_words ws = state (word_bit ws)

-- the state whose bit i is bit i + d of s
unfoldable pub rotated : ℕ → List ℕ → List ℕ
rotated d s = state (λ i. at s (i + d))

-- the state whose bit i is bit c × i of s
unfoldable pub stretch : ℕ → List ℕ → List ℕ
stretch c s = state (λ i. at s (c * i))

-- a rule of three bits, of s and of s rotated by d and by e
unfoldable pub mixed : (ℕ → ℕ → ℕ → ℕ) → ℕ → ℕ → List ℕ → List ℕ
mixed rule d e s = state (λ i. rule (at s i) (at s (i + d)) (at s (i + e)))

abbrev pub chi_by : ℕ → List ℕ → List ℕ
chi_by c s = mixed chi_rule c (2 * c) s

abbrev pub theta_by : ℕ → List ℕ → List ℕ
theta_by c s = mixed theta_rule (3 * c) (8 * c) s

-- a round without its shuffle
unfoldable pub round_by : ℕ → List ℕ → List ℕ
round_by c s = theta_by c (iota (chi_by c s))

-- c times position j
abbrev pub place_by : ℕ → ℕ → ℕ
place_by c j = c * position j % 257

-- bit j of x added at c times position j, for j from 0 to 32
unfoldable pub inject_by : ℕ → List ℕ → ℕ → List ℕ
inject_by c s x = add_bits (place_by c) x s (range_with_len 0 33)

-- the same for j from 0 to 31
unfoldable pub add_word_by : ℕ → List ℕ → ℕ → List ℕ
add_word_by c s x = add_bits (place_by c) x s (range_with_len 0 32)

-- the number whose n bits, lowest first, are f a, f (a + 1) and so on
abbrev pub number_from : (ℕ → ℕ) → ℕ → ℕ → ℕ
number_from f a n = number (map f (range_with_len a n))
