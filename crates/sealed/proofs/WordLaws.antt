-- Digits that write 16 bytes.
use Rattle.std.proofs.Common.{◌≡◌, ℕ, Bool, true, false, cond, eqb, List, length, is_some, is_ok, Some, None, Ok, Err, Option, sym, refl, ap, ◌∙◌, arith}
use Rattle.std.specs.Option.{option_or}
use Rattle.std.proofs.lemmas.Bool.{eqb-true, true≢false}
use Rattle.digits.specs.declared.single.Letters.TheVariants.{Either}
use Rattle.digits.specs.Pairs.{unhex, laid}
use Rattle.digits.proofs.HexLaws.{laid_whole, length-unhex}
use Rattle.sealed.specs.declared.fault.HexFault.{HexFault}
use Rattle.sealed.specs.declared.fault.HexFault.TheVariants.{Count}
use Rattle.sealed.specs.Words.{hex_fault, sixteen_fault, unless, written_sixteen}

-- what passes a check has no fault
pub sound : (o : Option HexFault) (u : Unit {0}) → Ok u ≡ unless o tt → o ≡ None
sound None u e = refl
sound (Some fault) u e = absurd (true≢false (ap is_ok e))

-- what a check refuses has its fault
pub refused : (o : Option HexFault) (fault : HexFault) → Err fault ≡ unless {A = Unit {0}} o tt → o ≡ Some fault
refused None fault e = absurd (true≢false (ap is_ok (sym e)))
refused (Some other) fault e = cc

right_count : (o : Option HexFault) (t : Bool) (fault : HexFault) → option_or o (cond t None (Some fault)) ≡ None → t ≡ true
right_count (Some other) t fault e = absurd (true≢false (ap is_some e))
right_count None true fault e = refl
right_count None false fault e = absurd (true≢false (ap is_some e))

-- good digits fill 16 bytes
pub sixteen_written : (digits old out : List ℕ) → sixteen_fault digits ≡ None → length old ≡ 16 → out ≡ laid (unhex digits) old → Ok out ≡ written_sixteen digits
sixteen_written digits old out good room so =
    let n : length digits ≡ 32 = eqb-true (length digits) 32 (right_count (hex_fault digits) (eqb (length digits) 32) (Count (length digits)) good) in
    ap Ok (so ∙ laid_whole (unhex digits) old (omega (arith, length-unhex Either digits))) ∙ ap (λ o. unless o (unhex digits)) (sym good)
