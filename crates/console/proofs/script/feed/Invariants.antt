-- If what is printed from here on is what the bytes that are left and the rest ask for, then all of it is what all bytes and the rest ask for.
use Rattle.std.proofs.Common.{List, ℕ, ◌++◌, Option, drop}
use Rattle.std.specs.Io.KnownBytes.{Appends}
use Rattle.console.specs.Runs.{to_come, state_of}
use Rattle.console.proofs.script.feed.Given as goal

abbrev pub invariant-loop-byte : goal.invariant-loop-byte
invariant-loop-byte g l =
    (rest : List ℕ) (last : Option (List ℕ)) → Appends (g.W.Write.contents l.output) last (to_come (state_of g.E.Engine.bits l.console) (drop l.byte-index l.fn.bytes ++ rest))
    → Appends (g.W.Write.contents l.fn.output) last (to_come (state_of g.E.Engine.bits l.fn.console) (l.fn.bytes ++ rest))
