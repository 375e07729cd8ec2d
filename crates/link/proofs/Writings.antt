-- What the checks on a text answer, case by case.
use Rattle.std.proofs.Common.{◌≡◌, ℕ, ◌+◌, ◌<◌, ◌≤◌, Bool, true, false, cond, eqb, ltb, List, length, Some, None, Ok, Err, Option, sym, refl, ap, ◌∙◌, subst}
use Rattle.std.proofs.lemmas.Bool.{lt-ltb, le-ltb, eq-eqb, ne_eqb, ltb-true, ltb-false, eqb-true, eqb-false}
use Rattle.link.specs.declared.kind.Kind.{Kind}
use Rattle.link.specs.declared.fault.LinkFault.TheVariants.{Spent, UnknownKind, WrongLength, ShortBuffer}
use Rattle.link.specs.Kinds.{text_length, kind_of}
use Rattle.link.specs.Frames.{number_limit, overhead}
use Rattle.link.specs.Calls.{Checked, vetted, named}

-- What is known of a text at each answer.
pub data Vetted (n b : ℕ) (t : List ℕ) (room : ℕ) : Checked → Type 0 where
  spent : number_limit ≤ n → Vetted n b t room (Err Spent)
  unknown : n < number_limit → kind_of b ≡ None → Vetted n b t room (Err UnknownKind)
  long : (k : Kind) → n < number_limit → kind_of b ≡ Some k → (length t ≡ text_length k → ⊥) → Vetted n b t room (Err (WrongLength (length t)))
  short : (k : Kind) → n < number_limit → kind_of b ≡ Some k → length t ≡ text_length k → room < text_length k + overhead → Vetted n b t room (Err (ShortBuffer room))
  passed : (k : Kind) → n < number_limit → kind_of b ≡ Some k → length t ≡ text_length k → text_length k + overhead ≤ room → Vetted n b t room (Ok k)

module _ (n b : ℕ) (t : List ℕ) (room : ℕ) where
  -- the checks answer what is known
  vetted-named : n < number_limit → (o : Option Kind) → kind_of b ≡ o → vetted n b t room ≡ named t room o
  unfolding vetted
  vetted-named h o e = rw (lt-ltb n number_limit h) (ap (named t room) e)

  pub vetted_is : (r : Checked) → Vetted n b t room r → r ≡ vetted n b t room
  unfolding vetted
  vetted_is (Err Spent) (spent h) = rw (le-ltb n number_limit h) refl
  vetted_is _ (unknown h e) = sym (vetted-named h None e)
  vetted_is _ (long k h e l) = sym (vetted-named h (Some k) e ∙ rw (ne_eqb (length t) (text_length k) l) refl)
  vetted_is _ (short k h e l s) = sym (vetted-named h (Some k) e ∙ rw (eq-eqb (length t) (text_length k) l, lt-ltb room (text_length k + overhead) s) refl)
  vetted_is _ (passed k h e l s) = sym (vetted-named h (Some k) e ∙ rw (eq-eqb (length t) (text_length k) l, le-ltb room (text_length k + overhead) s) refl)

  -- and what they answer is known
  at_room : (k : Kind) → n < number_limit → kind_of b ≡ Some k → length t ≡ text_length k → (x : Bool) → ltb room (text_length k + overhead) ≡ x → Vetted n b t room (cond x (Err (ShortBuffer room)) (Ok k))
  at_room k h e l true s = short k h e l (ltb-true room (text_length k + overhead) s)
  at_room k h e l false s = passed k h e l (ltb-false room (text_length k + overhead) s)

  at_length : (k : Kind) → n < number_limit → kind_of b ≡ Some k → (x : Bool) → eqb (length t) (text_length k) ≡ x
      → Vetted n b t room (cond x (cond (ltb room (text_length k + overhead)) (Err (ShortBuffer room)) (Ok k)) (Err (WrongLength (length t))))
  at_length k h e true l = at_room k h e (eqb-true (length t) (text_length k) l) (ltb room (text_length k + overhead)) refl
  at_length k h e false l = long k h e (eqb-false (length t) (text_length k) l)

  at_kind : n < number_limit → (o : Option Kind) → kind_of b ≡ o → Vetted n b t room (named t room o)
  at_kind h None e = unknown h e
  at_kind h (Some k) e = at_length k h e (eqb (length t) (text_length k)) refl

  at_limit : (x : Bool) → ltb n number_limit ≡ x → Vetted n b t room (cond x (named t room (kind_of b)) (Err Spent))
  at_limit true h = at_kind (ltb-true n number_limit h) (kind_of b) refl
  at_limit false h = spent (ltb-false n number_limit h)

  pub view : Vetted n b t room (vetted n b t room)
  unfolding vetted
  view = at_limit (ltb n number_limit) refl

-- a text that passed
pub record Ready (n b : ℕ) (t : List ℕ) (room : ℕ) (k : Kind) : Type 0 where
  pub below : n < number_limit
  pub kind : kind_of b ≡ Some k
  pub size : length t ≡ text_length k
  pub roomy : text_length k + overhead ≤ room

ready_of : {n b : ℕ} {t : List ℕ} {room : ℕ} {k : Kind} → Vetted n b t room (Ok k) → Ready n b t room k
ready_of (passed k h e l r) = record { below = h; kind = e; size = l; roomy = r }

pub readied : (n b : ℕ) (t : List ℕ) (room : ℕ) (k : Kind) → Ok k ≡ vetted n b t room → Ready n b t room k
readied n b t room k h = ready_of (subst (Vetted n b t room) (sym h) (view n b t room))
