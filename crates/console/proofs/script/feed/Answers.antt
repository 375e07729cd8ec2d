-- A byte, and then the bytes after it; at the end of the bytes, the rest.
use Rattle.console.specs.Runs.{state_of}
use Rattle.console.proofs.ScriptLaws.{byte_then, piece_fed}
use Rattle.console.proofs.script.feed.Goals as goal

pub loop-byte-preserved : goal.loop-byte-preserved
loop-byte-preserved g c = λ rest last now. c.loop-byte.invariant rest last
    (byte_then _ _ _ _ (state_of g.E.Engine.bits c.push.new.self) _ c.args.bytes.now _ _ c.loop-byte-test.true c.push.ensures.prints c.in_ok-write_reply.ensures now)

pub returns : goal.returns
returns g c = λ rest last now. c.loop-byte.invariant rest last
    (piece_fed (state_of g.E.Engine.bits c.loop-byte.console) _ _ c.args.bytes.now _ _ c.loop-byte-test.false now)
