-- The digits fill the 16 bytes, or have a fault.
use Rattle.std.proofs.Common.{Err, sym, refl, ap, ◌∙◌}
use Rattle.std.proofs.lemmas.Result.{err_from_is_err_and}
use Rattle.digits.specs.Pairs.{unhex}
use Rattle.sealed.specs.Words.{sixteen_fault, unless}
use Rattle.sealed.proofs.WordLaws.{sound, refused, sixteen_written}
use Rattle.sealed.proofs.words.sixteen_bytes.Goals as goal

pub returns-in_err-check_sixteen : goal.returns-in_err-check_sixteen
returns-in_err-check_sixteen c =
    let digits = c.args.digits.now in
    let p = err_from_is_err_and c.from_residual.result c.from_residual.ensures.1 in
    let fault = refused (sixteen_fault digits) c.in_err-check_sixteen.field-0.0 c.in_err-check_sixteen.ensures in
    p.1 ∙ ap Err p.2 ∙ ap (λ o. unless o (unhex digits)) (sym fault)

pub returns : goal.returns
returns c = sixteen_written c.args.digits.now _ c.decode.new.out (sound (sixteen_fault c.args.digits.now) _ c.in_ok-check_sixteen.ensures) refl c.decode.ensures
