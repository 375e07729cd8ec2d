-- An input that is fed in pieces: what its reader still has, appended to the bits.
use Rattle.std.proofs.Common.{◌≡◌, ℕ, Bool, false, List, [], ◌∷◌, ◌++◌, Some, None, Option, IfSome, sym, refl, ap, ◌∙◌, ap₂}
use Rattle.std.specs.Io.KnownBytes.{Consumes, IsAtEnd}
use Rattle.duplex.specs.State.{zeros}
use Rattle.duplex.specs.Strings.{appended, output, squeezed}
use Rattle.digests.specs.Digests.{digest_of}
use Rattle.digests.specs.Feeding.{EndsString, closed, finished}
use Rattle.digests.proofs.FeedLaws.{appended-++}

-- appending what is left gives these bits
abbrev pub Feeds : List ℕ → Option (List ℕ) → List ℕ → Type 0
Feeds s left last = IfSome left (λ bytes. last ≡ appended s bytes)

appended-nil : (s : List ℕ) → s ≡ appended s []
unfolding appended
appended-nil s = refl

-- a piece, and then the rest
pub piece_then : (s s' taken last : List ℕ) (left left' : Option (List ℕ)) → Consumes left left' taken → s' ≡ appended s taken → Feeds s' left' last → Feeds s left last
piece_then s s' taken last None left' eaten moved rest = tt
piece_then s s' taken last (Some xs) None eaten moved rest = absurd eaten
piece_then s s' taken last (Some xs) (Some ys) eaten moved rest =
    rest ∙ ap (λ s. appended s ys) moved ∙ appended-++ s taken ys ∙ ap (appended s) (sym eaten)

-- no byte is left
pub at_end : (s taken : List ℕ) (left left' : Option (List ℕ)) → Consumes left left' taken → taken ≡ [] → IsAtEnd left' → Feeds s left s
at_end s taken None left' eaten none ended = tt
at_end s taken (Some xs) None eaten none ended = absurd eaten
at_end s taken (Some xs) (Some ys) eaten none ended = appended-nil s ∙ ap (appended s) (sym (eaten ∙ ap₂ (λ a b. a ++ b) none ended))

pub digest_is : (left : Option (List ℕ)) (s s' digest : List ℕ) (opened : Bool) → Feeds zeros left s → EndsString s s' → opened ≡ false → digest ≡ squeezed (finished s' opened) 32
    → IfSome left (λ bytes. digest ≡ digest_of (bytes ∷ []) 32)
unfolding digest_of
digest_is None s s' digest opened fed whole none e = tt
digest_is (Some xs) s s' digest opened fed whole none e = e ∙ ap₂ (λ b t. output (closed t b) 32) none (whole zeros xs fed)
