-- A piece, and then the rest; at the end, the digest.
use Rattle.std.proofs.Common.{take, ap, subst, ◌∙◌, arith}
use Rattle.std.proofs.lemmas.Grind.{common_steps}
use Rattle.duplex.specs.Strings.{appended, squeezed}
use Rattle.digest.proofs.InputLaws.{Feeds, piece_then, at_end, digest_is}
use Rattle.digest.proofs.work.digest_input.Goals as goal

pub loop-init : goal.loop-init
loop-init g c = λ last h. subst (λ s. Feeds s (g.R.Read.remaining c.args.input.now) last) c.new-feeding.ensures.bits h

pub loop-preserved : goal.loop-preserved
loop-preserved g c = λ last h. c.loop.invariant last (piece_then _ _ (take c.in_ok-n.n c.read.new.buf) last _ _ c.in_ok-n.ensures.bytes.0 (c.append.ensures.moved ∙ ap (appended _) (grind (arith, common_steps))) h)

pub returns-then-n-eq0 : goal.returns-then-n-eq0
returns-then-n-eq0 g c =
    let none = c.if-n-eq0.true in
    digest_is _ _ _ _ _ (c.loop.invariant _ (at_end _ _ _ _ c.in_ok-n.ensures.bytes.0 (ap (λ k. take k c.read.new.buf) none) (c.in_ok-n.ensures.bytes.1 none (omega arith))))
    c.end_string.ensures.whole c.end_string.ensures.string (c.squeeze.ensures.out ∙ ap (λ s. squeezed s 32) c.finish-squeezing.ensures)
