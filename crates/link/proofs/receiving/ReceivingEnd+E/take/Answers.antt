-- The ways out of a taking: by a check, by the tag, and with the text.
use Rattle.std.proofs.Common.{◌≡◌, length, Err, sym, ap, ◌∙◌, ap₂, arith}
use Rattle.std.proofs.lemmas.Result.{err_from_is_err_and}
use Rattle.link.specs.declared.fault.LinkFault.TheVariants.{Session}
use Rattle.link.specs.Frames.{standing_of}
use Rattle.link.specs.Calls.{stands, take_standing, take_text}
use Rattle.link.proofs.Tellings.{take_tells}
use Rattle.link.proofs.Takings.{quiet, took_ok, took_tag, zeroed}
use Rattle.link.proofs.receiving.ReceivingEnd+E.take.Goals as goal

pub returns-in_err-kind-clause-text : goal.returns-in_err-kind-clause-text
returns-in_err-kind-clause-text g c =
    let m = stands g.E.Engine.bits c.args.self.now in
    let old = c.args.text.now in
    let p = err_from_is_err_and c.from_residual.result c.from_residual.ensures.1 in
    sym (ap (take_text m c.args.frame.now old) (p.1 ∙ ap Err p.2) ∙ quiet m c.args.frame.now (length old) old _ c.in_err-kind.ensures)

pub returns-in_err-open : goal.returns-in_err-open
returns-in_err-open g c =
    let m = stands g.E.Engine.bits c.args.self.now in
    let f = c.args.frame.now in
    let old = c.args.text.now in
    let cut = c.parts.ensures in
    let p = err_from_is_err_and c.from_residual-in_err-open.result c.from_residual-in_err-open.ensures.1 in
    let r : c.from_residual-in_err-open.result ≡ Err (Session c.in_err-open.field-0.0) = p.1 ∙ ap Err p.2 in
    let t = took_tag m f old _ _ _ _ _ c.copy-trial.ensures cut.header cut.body cut.tag c.in_ok-kind.ensures _ c.in_err-open.ensures.value in
    let value = r ∙ t.1 in
    record {
      value = value;
      tells = take_tells m f (length old) (omega arith) _ value;
      moved = sym (ap (take_standing m f) r);
      text = c.in_err-open.ensures.out ∙ (zeroed m f old _ _ _ _ _ c.copy-trial.ensures cut.header cut.body cut.tag c.in_ok-kind.ensures _ t.0 ∙ sym (ap (take_text m f old) r));
    }

pub returns : goal.returns
returns g c =
    let m = stands g.E.Engine.bits c.args.self.now in
    let f = c.args.frame.now in
    let old = c.args.text.now in
    let cut = c.parts.ensures in
    let t = took_ok m f old _ _ _ _ _ c.copy-trial.ensures cut.header cut.body cut.tag c.in_ok-kind.ensures _ c.in_ok-open.ensures.value in
    record {
      value = t.1;
      tells = take_tells m f (length old) (omega arith) _ t.1;
      moved = ap₂ standing_of (rw (cut.header, cut.body, c.copy-trial.ensures) at c.in_ok-open.ensures.moved) c.next-self.ensures;
      text = rw (cut.header, cut.body, c.copy-trial.ensures, t.0) at c.in_ok-open.ensures.out;
    }
