-- Sound digits, and their bytes.
use Rattle.std.proofs.Common.{rules, ◌≡◌, Ok, Err, sym, ap, ◌∙◌, inr}
use Rattle.std.specs.Option.{option_map}
use Rattle.std.proofs.lemmas.List.{take_rest}
use Rattle.std.proofs.lemmas.Result.{err_from_is_err_and}
use Rattle.digits.specs.Pairs.{unhex}
use Rattle.sealed.specs.declared.fault.WordFault.TheVariants.{Hex}
use Rattle.sealed.specs.Words.{hex_fault, unless}
use Rattle.sealed.proofs.WordLaws.{sound, refused}
use Rattle.sealed.proofs.words.hex_bytes.Goals as goal

pub returns : goal.returns
returns c =
    let digits = c.args.digits.now in
    let made : c.in_ok-bytes.field-0.items ≡ unhex digits = search (rules, take_rest, c.in_ok-bytes.ensures) in
    ap Ok made ∙ ap (λ o. unless (option_map Hex o) (unhex digits)) (sym (sound (hex_fault digits) _ c.in_ok-check.ensures))

pub returns-in_err-check : goal.returns-in_err-check
returns-in_err-check c =
    let digits = c.args.digits.now in
    let p = err_from_is_err_and c.from_residual.result c.from_residual.ensures.1 in
    let fault = refused (hex_fault digits) c.in_err-check.field-0.0 c.in_err-check.ensures in
    rw p.1 (inr (ap Err p.2 ∙ ap (λ o. unless (option_map Hex o) (unhex digits)) (sym fault)))
