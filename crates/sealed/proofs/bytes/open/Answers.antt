-- The file's two parts, and what the session says of what it opens.
use Rattle.std.proofs.Common.{length, drop, Err, ap, ◌∙◌, inl, inr, arith, rules}
use Rattle.std.proofs.lemmas.Result.{err_from_is_err_and}
use Rattle.sealed.proofs.SealedBytes.{text_whole, text_refused, opened_short, opened_cut, opens_just_sealed}
use Rattle.sealed.proofs.bytes.open.Goals as goal

pub returns-in_default : goal.returns-in_default
returns-in_default c =
    let file = c.args.sealed.now in
    record { value = inr (opened_short _ _ file (omega (arith, c.in_default.ensures))); only = opens_just_sealed _ _ file }

pub returns-in_err-text : goal.returns-in_err-text
returns-in_err-text c =
    let p = err_from_is_err_and c.from_residual.result c.from_residual.ensures.1 in
    record { value = rw p.1 (inl p.2); only = opens_just_sealed _ _ c.args.sealed.now }

pub returns-in_err-open : goal.returns-in_err-open
returns-in_err-open c =
    let file = c.args.sealed.now in
    let cut = c.in-Some.ensures.cases in
    let room = c.as_mut_slice.ensures.len ∙ c.in_ok-text.ensures.len in
    let p = err_from_is_err_and c.from_residual-in_err-open.result c.from_residual-in_err-open.ensures.1 in
    let refused = text_refused _ _ c.in-Some.ciphertext.now _ _ _ (omega arith) c.in_err-open.ensures.value in
    record {
      value = rw p.1 (inr (ap Err p.2 ∙ refused ∙ opened_cut _ _ file _ _ _ (omega arith) c.begin-session.ensures cut.0 (search rules)));
      only = opens_just_sealed _ _ file;
    }

pub returns : goal.returns
returns c =
    let file = c.args.sealed.now in
    let cut = c.in-Some.ensures.cases in
    let out = c.open.new.out in
    let made = c.in_ok-text.ensures.len in
    let room = c.as_mut_slice.ensures.len in
    let whole = text_whole _ _ c.in-Some.ciphertext.now _ _ out (drop (length out) c.in_ok-text.text.items) _ _ (omega arith) made c.in_ok-open.ensures.value c.in_ok-open.ensures.out in
    record {
      value = whole ∙ opened_cut _ _ file _ _ _ (omega arith) c.begin-session.ensures cut.0 (search rules);
      only = opens_just_sealed _ _ file;
    }
