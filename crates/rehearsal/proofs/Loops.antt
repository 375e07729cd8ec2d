-- The invariant of a loop over calls.
use Rattle.std.proofs.Common.{◌≡◌, ℕ, ◌+◌, ◌<◌, ◌≤◌, List, [], ◌∷◌, ◌++◌, length, get_or, take, drop, set, ap, ◌∙◌, arith}
use Rattle.std.proofs.lemmas.List.{append_assoc, append-nil, drop_more, drop_all, take_all, take_more_set, drop-set-lt}
use Rattle.link.specs.Frames.{Standing}
use Rattle.rehearsal.specs.Law.{Run}

module _ {X : Type 0} (Step : Standing → X → X → Standing → Type 0) where
  -- from m on, what completes the rest of xs after its first i calls completes all
  abbrev pub Goes : Standing → List X → Standing → List X → ℕ → Type 0
  Goes start all m xs i = (ys : List X) (last : Standing) → Run Step m (drop i xs) ys last → Run Step start all (take i xs ++ ys) last

  pub going_on : {start m m' : Standing} {all : List X} (xs : List X) (i : ℕ) (d y : X) → i < length xs → Step m (get_or xs i d) y m' → Goes start all m xs i → Goes start all m' (set xs i y) (i + 1)
  going_on {start} {m} {m'} {all} xs i d y h one inv ys last rest =
      let lt : i < i + 1 = omega arith in
      let todo : drop i xs ≡ get_or xs i d ∷ drop (i + 1) xs = drop_more xs i d h in
      let left : drop (i + 1) (set xs i y) ≡ drop (i + 1) xs = drop-set-lt (i + 1) xs i y lt in
      let so : take (i + 1) (set xs i y) ++ ys ≡ take i xs ++ (y ∷ ys) = ap (λ (z : List X). z ++ ys) (take_more_set xs i y h) ∙ append_assoc (take i xs) (y ∷ []) ys in
      rw so (inv (y ∷ ys) last (rw todo (Run.next one (rw left at rest))))

  pub going_ends : {start m : Standing} {all before after : List X} (xs : List X) (i : ℕ) → length xs ≤ i → all ≡ before → after ≡ xs → Goes start all m xs i → Run Step start before after m
  going_ends {start} {m} {all} xs i h from to inv =
      let done : take i xs ++ [] ≡ xs = append-nil (take i xs) ∙ take_all i xs h in
      rw (← from, to) (rw done at (inv [] m (rw (drop_all i xs h) Run.ends)))
