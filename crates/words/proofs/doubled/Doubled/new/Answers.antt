-- The words written are the nine laid twice, and zeros after them.
use Rattle.words.proofs.RowLaws.{laid_twice, laid_words, laid_past}
use Rattle.words.proofs.doubled.Doubled.new.Goals as goal

pub invariant_of-result : goal.invariant_of-result
invariant_of-result c = record { width = c.loop-m.invariant.0; twice = laid_twice _ _ _ c.loop-m-test.false c.args.w.now.spare c.loop-m.invariant.1 }

pub returns : goal.returns
returns c =
    record {
      bits = laid_words _ _ _ c.loop-m-test.false c.args.w.now.spare c.loop-m.invariant.1;
      past = laid_past _ _ _ c.loop-m-test.false c.args.w.now.spare c.loop-m.invariant.1;
    }
