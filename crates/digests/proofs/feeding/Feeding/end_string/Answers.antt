-- Two empty steps are the end of a string, and make it the string absorbed.
use Rattle.std.proofs.Common.{refl, ap, ◌∙◌}
use Rattle.duplex.specs.Strings.{absorbed_unkeyed, blanked}
use Rattle.digests.specs.Feeding.{after_end}
use Rattle.digests.proofs.FeedLaws.{end-appended}
use Rattle.digests.proofs.feeding.Feeding.end_string.Goals as goal

pub returns : goal.returns
unfolding blanked absorbed_unkeyed
returns g c =
    record {
      moved = c.blank.ensures;
      whole = λ s t e. c.blank.ensures ∙ ap after_end e ∙ end-appended s t;
      string = refl;
    }
