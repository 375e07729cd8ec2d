-- What a buffer holds, and what it keeps of what is written into it.
use Rattle.std.specs.Prelude.{ℕ, List, ◌++◌, take}
use Rattle.buffer.specs.declared.buffer.Buffer.{Buffer}

abbrev pub held : Buffer → List ℕ
held b = take b.count b.cells

-- bytes after those that are held; what does not fit is dropped
unfoldable pub kept : List ℕ → List ℕ → List ℕ
kept before bytes = take 131 (before ++ bytes)
