-- A piece, and then the rest; at the end, nothing more.
use Rattle.std.proofs.Common.{take, ap, sym, ◌∙◌, arith}
use Rattle.std.proofs.lemmas.Grind.{common_steps}
use Rattle.console.specs.Runs.{state_of}
use Rattle.console.proofs.ScriptLaws.{begin, nothing_read, piece_then, end_then, done_then, on_ok}
use Rattle.console.proofs.script.run_script.Goals as goal

pub loop-init : goal.loop-init
loop-init g c = λ last now. begin (state_of g.E.Engine.bits c.new-console.result) _ last _ c.new-console.ensures.prints now

pub loop-preserved-in-Err : goal.loop-preserved-in-Err
loop-preserved-in-Err g c = λ last now. c.loop.invariant last (nothing_read (state_of g.E.Engine.bits c.loop.console) _ last _ _ c.in-Err.ensures.bytes now)

pub loop-preserved : goal.loop-preserved
loop-preserved g c = λ last rest. c.loop.invariant last
    (piece_then _ _ _ last (state_of g.E.Engine.bits c.feed.new.console) _ (take c.in-Ok.n c.read.new.buf) _ _ c.in-Ok.ensures.bytes.0 (grind (arith, common_steps)) c.in_ok-feed.ensures rest)

pub returns-then-n-eq0 : goal.returns-then-n-eq0
returns-then-n-eq0 g c =
    let none = c.if-n-eq0.true in
    on_ok _ _ (c.loop.invariant _
    (end_then _ _ _ _ _ _ _ _ c.in-Ok.ensures.bytes.0 (ap (λ k. take k c.read.new.buf) none) (c.in-Ok.ensures.bytes.1 none (omega arith)) c.finish.ensures.prints c.in_ok-write_reply.ensures c.flush.ensures.bytes))

pub returns-then-is_done : goal.returns-then-is_done
returns-then-is_done g c = on_ok _ _ (c.loop.invariant _
    (piece_then _ _ _ _ (state_of g.E.Engine.bits c.feed.new.console) _ (take c.in-Ok.n c.read.new.buf) _ _ c.in-Ok.ensures.bytes.0 (grind (arith, common_steps)) c.in_ok-feed.ensures
    (done_then (state_of g.E.Engine.bits c.feed.new.console) _ _ _ (sym c.is_done.ensures ∙ c.if-is_done.true) c.flush-then-is_done.ensures.bytes)))
