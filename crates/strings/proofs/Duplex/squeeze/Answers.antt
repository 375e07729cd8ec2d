-- The turn and the end, at the bits of the engine.
use Rattle.std.proofs.Common.{◌+◌, length, arith}
use Rattle.strings.proofs.Readings.{squeeze_turn, squeeze_last, squeeze_end}
use Rattle.strings.proofs.Duplex.squeeze.Goals as goal

pub loop-i-preserved : goal.loop-i-preserved
loop-i-preserved g c =
    let bits = g.E.Engine.bits in
    squeeze_turn (bits c.loop-i.self.engine) (bits c.squeeze_word-word.new.self.engine) c.loop-i.out c.copy_from_slice.new.self c.squeeze_word-word.result _ _ (length c.args.out.now) c.loop-i.i c.min-end.result (c.loop-i.i + 4)
    c.loop-i.auto.out (omega arith) c.min-end.ensures (omega arith) c.squeeze_word-word.ensures.value c.copy_from_slice.ensures.after c.squeeze_word-word.ensures.moved c.loop-i.invariant

pub returns : goal.returns
returns g c =
    let end = squeeze_end (g.E.Engine.bits c.loop-i.self.engine) c.loop-i.out _ _ (length c.args.out.now) c.loop-i.i c.loop-i.auto.out (omega arith) c.loop-i.invariant in
    record { out = end.0; moved = end.1 }

pub returns-2 : goal.returns-2
returns-2 g c =
    let bits = g.E.Engine.bits in
    let end = squeeze_last (bits c.loop-i.self.engine) (bits c.squeeze_word-word.new.self.engine) c.loop-i.out c.copy_from_slice.new.self c.squeeze_word-word.result _ _ (length c.args.out.now) c.loop-i.i c.min-end.result
    c.loop-i.auto.out (omega arith) (omega arith) c.min-end.ensures c.squeeze_word-word.ensures.value c.copy_from_slice.ensures.after c.squeeze_word-word.ensures.moved c.loop-i.invariant in
    record { out = end.0; moved = end.1 }
