-- What a value of the postponed engine means.
use Rattle.std.specs.Prelude.{ℕ, ◌^◌, List}
use Rattle.words.specs.Packing.{state_of_words, stretch}
use Rattle.postponed.specs.declared.engine.Postponed.{Postponed}

-- with n shuffles owed, bit i of the state is bit 12 ^ n × i of the words
abbrev pub meant : Postponed → List ℕ
meant e = stretch (12 ^ e.count.value) (state_of_words e.words.array)
