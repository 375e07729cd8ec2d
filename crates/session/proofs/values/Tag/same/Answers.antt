-- The differences, folded over both rows of bytes.
use Rattle.std.proofs.Common.{◌≡◌, ap, ◌∙◌, eqb, arith, rules, tests}
use Rattle.std.specs.Slice.Iter.{iter_rest}
use Rattle.std.specs.List.{fold, zip}
use Rattle.std.proofs.lemmas.List.{take_all}
use Rattle.std.proofs.lemmas.Iterator.{YieldsList-from_slice, YieldsList-from_zip}
use Rattle.std.proofs.lemmas.Iterator.Consumers.{YieldsList-at, fold_from_yields_List}
use Rattle.session.proofs.Differences.{join, differences}
use Rattle.session.proofs.values.Tag.same.Goals as goal

pub returns : goal.returns
returns c =
    let xs = c.args.self.now.bytes in
    let ys = c.args.other.now.bytes in
    let whole = take_all 16 xs (omega arith) in
    let all : iter_rest c.iter.result ≡ xs = cc in
    let both = YieldsList-from_zip (YieldsList-at c.zip.ensures.first (YieldsList-from_slice xs all)) (YieldsList-from_slice ys c.zip.ensures.second.0) in
    let e : c.fold-differences.result ≡ fold join 0 (zip xs ys) = fold_from_yields_List _ join 0 _ c.fold-differences.ensures.ran both (λ a x b q k. search (rules, tests)) in
    ap (λ n. eqb n 0) e ∙ differences 0 xs ys (omega arith)
