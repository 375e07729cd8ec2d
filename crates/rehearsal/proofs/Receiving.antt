-- Runs of a receiving end: each step is right; refused frames leave no trace; the frames alone settle the answers.
use Rattle.std.proofs.Common.{◌≡◌, ℕ, ◌+◌, ◌≤◌, List, ◌∷◌, map, length, take, drop, Ok, Err, vec_items, Vec, sym, refl, ap, ◌∙◌, subst, ap₂}
use Rattle.std.specs.declared.alloc.Global.{Global}
use Rattle.std.proofs.lemmas.List.{take_at}
use Rattle.link.specs.declared.kind.Kind.{Kind}
use Rattle.link.specs.Kinds.{kind_byte, text_length, least_room, kind_of}
use Rattle.link.specs.Frames.{Standing, ciphertext_in, text_in}
use Rattle.link.specs.Sender.{fed}
use Rattle.link.specs.Calls.{Checked, take_answer, take_standing, take_text}
use Rattle.link.proofs.Suite.{kind_byte_of, accepted_is, accepted-writes, accepted-stands, only, refused_never}
use Rattle.rehearsal.specs.declared.calls.Request.{Request}
use Rattle.rehearsal.specs.declared.calls.Answer as given
use Rattle.rehearsal.specs.Law.{Run, Place, place_of, Call, Answer, Feeds, RightAnswer, ReceivingStep, ReceivingRun, without_refused}
use Rattle.rehearsal.specs.Law.Call.{take_frame}
use Rattle.rehearsal.specs.Law.Answer.{taken, refused, told}
use Rattle.rehearsal.specs.Law.Feeds.{next_frame, other_frame, telling}
use Rattle.rehearsal.specs.Law.RightAnswer.{accepts, refuses, tells}
use Rattle.rehearsal.specs.Rehearsals.{ReceivingCall, asked, asked_by, said, said_by, RoomBy, Roomy, taking, answer_by, buffer_by, standing_by, Answered}

-- One call.

abbrev Step : Standing → Call → Answer → Standing → Type 0
Step m c a m' = ReceivingStep (place_of m m.number) c a (place_of m' m'.number)

step_taking : (m m' : Standing) (f old new : List ℕ) (r : given.Answer Kind) (a : Checked) → least_room ≤ length old → take_answer m f (length old) ≡ a → r ≡ given.Answer.Processed a → new ≡ take_text m f old a → m' ≡ take_standing m f a → Step m (take_frame f) (said_by r new) m'
step_taking m m' f old new r (Ok k) room h er en em =
    let size = (accepted_is m f (length old) k h).size in
    let text : take (text_length k) new ≡ text_in m f = ap (take (text_length k)) en ∙ take_at (text_in m f) (drop (length (ciphertext_in f)) old) (text_length k) size in
    let stands : m' ≡ fed m (kind_byte k) (text_in m f) = em ∙ accepted-stands m f (length old) k h in
    let number : m'.number ≡ m.number + 1 = ap (λ (s : Standing). s.number) em in
    let w = accepted-writes m f (length old) k h in
    record {
      feeding = rw stands (next_frame (kind_byte k) (text_in m f) w);
      answer = rw (er, text, number) (accepts k (text_in m f) w);
    }
step_taking m m' f old new r (Err e) room h er en em =
    let never = refused_never m f (length old) e room h in
    record { feeding = rw em (other_frame never); answer = rw (er, em) (refuses never) }

step_one : (m m' : Standing) (a : Request (Vec ℕ Global)) (old new : List ℕ) (r : given.Answer Kind) → RoomBy a (length old) → r ≡ answer_by taking m a old → new ≡ buffer_by taking m a old → m' ≡ standing_by taking m a old → Step m (asked_by a) (said_by r new) m'
step_one m m' (Request.Process frame) old new r room er en em = step_taking m m' (vec_items frame) old new r (take_answer m (vec_items frame) (length old)) room refl er en em
step_one m m' Request.Tell old new r room er en em = record { feeding = rw em telling; answer = rw (er, em) tells }

pub receiving_run : {m m'' : Standing} {xs ys : List ReceivingCall} → Run (Answered taking) m xs ys m'' → Roomy xs → ReceivingRun (place_of m m.number) (map asked xs) (map said ys) (place_of m'' m''.number)
receiving_run Run.ends room = Run.ends
receiving_run {m} {m''} (Run.next {s' = m'} {c = x} {a = y} one rest) room =
    Run.next (step_one m m' x.request (vec_items x.buffer) (vec_items y.buffer) y.answer room.0 one.answer one.buffer one.standing) (receiving_run rest room.1)

-- Refused frames leave no trace.

stays : {m m' : Standing} {n n' : ℕ} {c : Call} → Feeds m c m' → RightAnswer m n c refused n' → (m' ≡ m) × (n' ≡ n)
stays (next_frame b t w) (refuses x) = absurd (x (b, t, w))
stays (other_frame x) (refuses y) = (refl, refl)
stays telling x = elim x [ ]

pub pruned : {p q : Place} {cs : List Call} {rs : List Answer} → ReceivingRun p cs rs q → ReceivingRun p (without_refused rs cs) (without_refused rs rs) q
pruned Run.ends = Run.ends
pruned (Run.next {a = taken k t} s h) = Run.next s (pruned h)
pruned {q} (Run.next {a = refused} {cs} {rs} s h) =
    let e = stays s.feeding s.answer in
    subst (λ (x : Place). ReceivingRun x (without_refused rs cs) (without_refused rs rs) q) (ap₂ place_of e.0 e.1) (pruned h)
pruned (Run.next {a = told n} s h) = Run.next s (pruned h)

-- The frames alone settle what the suite's sender is fed, and then the answers.

pub one_feeding : {m p m' p' : Standing} {c : Call} → m ≡ p → Feeds m c m' → Feeds p c p' → m' ≡ p'
one_feeding {m} {p} e (next_frame {f} b t w) (next_frame c u x) = let o = only m b c t u f w (rw e x) in cc
one_feeding {m} {p} e (next_frame b t w) (other_frame x) = absurd (x (b, t, rw e at w))
one_feeding {m} {p} e (other_frame x) (next_frame b t w) = absurd (x (b, t, rw e w))
one_feeding e (other_frame x) (other_frame y) = e
one_feeding e telling telling = e

same_kind : (j k : Kind) → kind_byte j ≡ kind_byte k → j ≡ k
same_kind j k e = let a = kind_byte_of j in let b = kind_byte_of k in let c = ap kind_of e in cc

one_answer : {m p : Standing} {n q n' q' : ℕ} {c : Call} {a b : Answer} → m ≡ p → n ≡ q → RightAnswer m n c a n' → RightAnswer p q c b q' → (a ≡ b) × (n' ≡ q')
one_answer {m} {p} e i (accepts {f} k t w) (accepts j u x) =
    let o = only m (kind_byte k) (kind_byte j) t u f w (rw e x) in
    (ap₂ (λ (a : Kind) (b : List ℕ). taken a b) (same_kind k j (sym o.0)) (sym o.1), ap (λ z. z + 1) i)
one_answer {m} {p} e i (accepts k t w) (refuses x) = absurd (x (kind_byte k, t, rw e at w))
one_answer {m} {p} e i (refuses x) (accepts k t w) = absurd (x (kind_byte k, t, rw e w))
one_answer e i (refuses x) (refuses y) = (refl, i)
one_answer e i tells tells = (ap told i, i)

pub determined : {p o q r : Place} {cs : List Call} {rs ss : List Answer} → p ≡ o → ReceivingRun p cs rs q → ReceivingRun o cs ss r → (rs ≡ ss) × (q ≡ r)
determined e Run.ends Run.ends = (refl, e)
determined e (Run.next s h) (Run.next r i) =
    let sender = one_feeding (ap (λ (x : Place). x.sender) e) s.feeding r.feeding in
    let answer = one_answer (ap (λ (x : Place). x.sender) e) (ap (λ (x : Place). x.count) e) s.answer r.answer in
    let more = determined (ap₂ place_of sender answer.1) h i in
    (ap₂ ◌∷◌ answer.0 more.0, more.1)
