-- One byte a turn; the bytes hold the state and no more.
use Rattle.std.proofs.Common.{◌≡◌, ◌%◌, ◌<◌, get_or, sym, ap, ◌∙◌, arith}
use Rattle.duplex.specs.Bytes.{bytes_of_state}
use Rattle.words.proofs.ByteLaws.{word_byte, words-bytes, bytes_back}
use Rattle.words.proofs.vector.Words.to_bytes.Goals as goal

pub returns : goal.returns
returns c =
    let ws = c.args.self.now.array in
    let r = c.loop-k.bytes in
    let made : (m : _) → m < 33 → get_or r m 0 ≡ word_byte ws m = λ m h. c.loop-k.invariant.1 m (omega arith) in
    let last : get_or r 32 0 ≡ get_or ws 8 0 % 256 = omega (arith, made 32 (omega arith)) in
    let held = words-bytes ws r (λ k h. sym (made k (omega arith))) (omega (arith, last, c.args.self.now.spare)) in
    record {
      value = bytes_back r (omega (arith, last, c.args.self.now.spare)) c.loop-k.invariant.0 (λ k h. omega (arith, made k h)) ∙ ap bytes_of_state (sym held);
      back = sym held;
    }
