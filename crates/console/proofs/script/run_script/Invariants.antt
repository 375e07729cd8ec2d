-- If what is printed from here on is what the rest asks for, then all of it is the transcript.
use Rattle.std.proofs.Common.{List, ℕ, Option, IfSome}
use Rattle.std.specs.Io.KnownBytes.{Appends}
use Rattle.console.specs.Runs.{transcript, state_of}
use Rattle.console.proofs.ScriptLaws.{Prints}
use Rattle.console.proofs.script.run_script.Given as goal

abbrev pub invariant-loop : goal.invariant-loop
invariant-loop g l =
    (last : Option (List ℕ)) → Prints (state_of g.E.Engine.bits l.console) (g.R.Read.remaining l.input) (g.W.Write.contents l.output) last
    → IfSome (g.R.Read.remaining l.fn.input) (λ script. Appends (g.W.Write.contents l.fn.output) last (transcript script))
