-- Both ends of a link: the frames that pass between them settle where each stands.
use Rattle.std.proofs.Common.{◌≡◌, ℕ, ◌+◌, Bool, false, cond, List, [], ◌∷◌, length, drop, Some, sym, refl, ap, ◌∙◌, subst, add-zero, arith}
use Rattle.std.proofs.lemmas.List.{take_at}
use Rattle.link.specs.Kinds.{kind_byte}
use Rattle.link.specs.Frames.{Standing, started}
use Rattle.link.specs.Sender.{writes, fed, next_of}
use Rattle.link.proofs.Suite.{wrote, fed_next}
use Rattle.rehearsal.specs.Law.{Run, Place, Call, Answer, Feeds, RightAnswer, ReceivingRun, is_refused, without_refused, frames_handed, frames_accepted, Writing, Written, RightWriting, SendingRun, frames_written}
use Rattle.rehearsal.specs.Law.Call.{take_frame, tell}
use Rattle.rehearsal.specs.Law.Feeds.{next_frame, other_frame, telling}
use Rattle.rehearsal.proofs.Receiving.{one_feeding}

-- The suite's sender writes these frames one after the other, if it is fed the right things.
data WritesAll : Standing → List (List ℕ) → Standing → Type 0 where
  none : {m : Standing} → WritesAll m [] m
  more : {m m'' : Standing} {f : List ℕ} {fs : List (List ℕ)} (b : ℕ) (t : List ℕ) → writes m b t ≡ Some f → WritesAll (fed m b t) fs m'' → WritesAll m (f ∷ fs) m''

accepted_step : {m m' m'' : Standing} {n n' : ℕ} {c : Call} {a : Answer} (cs : List Call) → Feeds m c m' → RightAnswer m n c a n' → WritesAll m' (frames_handed cs) m'' → WritesAll m (frames_handed (cond (is_refused a) cs (c ∷ cs))) m''
accepted_step cs (next_frame b t w) (RightAnswer.accepts k u x) r = more b t w r
accepted_step cs (next_frame b t w) (RightAnswer.refuses x) r = absurd (x (b, t, w))
accepted_step cs (other_frame x) (RightAnswer.accepts k u w) r = absurd (x (kind_byte k, u, w))
accepted_step cs (other_frame x) (RightAnswer.refuses y) r = r
accepted_step cs telling RightAnswer.tells r = r

accepted_all : {p q : Place} {cs : List Call} {rs : List Answer} → ReceivingRun p cs rs q → WritesAll p.sender (frames_accepted cs rs) q.sender
accepted_all Run.ends = none
accepted_all (Run.next {cs} {rs} s h) = accepted_step (without_refused rs cs) s.feeding s.answer (accepted_all h)

written_step : {m m' m'' : Standing} {n n' : ℕ} {w : Writing} {v : Written} (vs : List Written) → RightWriting m n w v m' n' → WritesAll m' (frames_written vs) m'' → WritesAll m (frames_written (v ∷ vs)) m''
written_step {m} {m''} vs (RightWriting.writes_next {b} {t} {old} {f} w r) h =
    subst (λ (g : List ℕ). WritesAll m (g ∷ frames_written vs) m'') (sym (take_at f (drop (length f) old) (length f) refl)) (more b t w h)
written_step vs (RightWriting.no_room w r) h = h
written_step vs (RightWriting.writes_nothing w r) h = h
written_step vs RightWriting.tells h = h

written_all : {p q : Place} {ws : List Writing} {vs : List Written} → SendingRun p ws vs q → WritesAll p.sender (frames_written vs) q.sender
written_all Run.ends = none
written_all (Run.next {rs = vs} s h) = written_step vs s (written_all h)

-- So they settle where it stands, and the number.

one_end : {m p m₁ m₂ : Standing} {fs : List (List ℕ)} → m ≡ p → WritesAll m fs m₁ → WritesAll p fs m₂ → m₁ ≡ m₂
one_end e none none = e
one_end e (more b t w h) (more c u x i) = one_end (one_feeding e (next_frame b t w) (next_frame c u x)) h i

fed_number : (m : Standing) (b : ℕ) (t f : List ℕ) → writes m b t ≡ Some f → (fed m b t).number ≡ m.number + 1
unfolding next_of
fed_number m b t f w =
    let v = wrote m b t f w in
    ap (λ (c : ℕ). (fed m c t).number) v.byte ∙ ap (λ (s : Standing). s.number) (fed_next m v.kind t v.below v.size)

end_number : {m m₁ : Standing} {fs : List (List ℕ)} → WritesAll m fs m₁ → m₁.number ≡ m.number + length fs
end_number none = sym (add-zero _)
end_number {m} (more {f} {fs} b t w h) = let e = fed_number m b t f w in let r = end_number h in omega arith

module _ {p q r : Place} {cs : List Call} {rs : List Answer} {ws : List Writing} {vs : List Written} (h : ReceivingRun p cs rs q) (s : SendingRun p ws vs r) where
  pub together : p.sender.number ≡ 0 → frames_accepted cs rs ≡ frames_written vs → (q.sender ≡ r.sender) × (q.sender.number ≡ length (frames_written vs)) × (r.sender.number ≡ length (frames_written vs))
  together z e =
      let t = subst (λ fs. WritesAll p.sender fs q.sender) e (accepted_all h) in
      (one_end refl t (written_all s), let n = end_number t in omega arith, let n = end_number (written_all s) in omega arith)

-- What the suite's sender could write, one frame after the other, is accepted.

no_refusal : {m m' z : Standing} {n n' : ℕ} {c : Call} {a : Answer} (cs : List Call) → Feeds m c m' → RightAnswer m n c a n' → WritesAll m (frames_handed (c ∷ cs)) z → (is_refused a ≡ false) × WritesAll m' (frames_handed cs) z
no_refusal {z} cs (next_frame b t w) (RightAnswer.accepts k u x) (more c v y i) = (refl, subst (λ s. WritesAll s (frames_handed cs) z) (one_feeding refl (next_frame c v y) (next_frame b t w)) i)
no_refusal cs (next_frame b t w) (RightAnswer.refuses x) i = absurd (x (b, t, w))
no_refusal cs (other_frame x) r (more c v y i) = absurd (x (c, v, y))
no_refusal cs telling RightAnswer.tells i = (refl, i)

handed_alike : (c : Call) (cs ds : List Call) → frames_handed cs ≡ frames_handed ds → frames_handed (c ∷ cs) ≡ frames_handed (c ∷ ds)
handed_alike (take_frame f) cs ds e = ap (λ fs. f ∷ fs) e
handed_alike tell cs ds e = e

all_accepted : {p q : Place} {z : Standing} {cs : List Call} {rs : List Answer} → ReceivingRun p cs rs q → WritesAll p.sender (frames_handed cs) z → frames_accepted cs rs ≡ frames_handed cs
all_accepted Run.ends i = refl
all_accepted (Run.next {c} {a} {cs} {rs} s h) i =
    let n = no_refusal cs s.feeding s.answer i in
    ap (λ (x : Bool). frames_handed (cond x (without_refused rs cs) (c ∷ without_refused rs cs))) n.0 ∙ handed_alike c (without_refused rs cs) cs (all_accepted h n.1)

pub delivered : {p q r : Place} {cs : List Call} {rs : List Answer} {ws : List Writing} {vs : List Written} → ReceivingRun p cs rs q → SendingRun p ws vs r → frames_handed cs ≡ frames_written vs → frames_accepted cs rs ≡ frames_written vs
delivered {p} {r} h s e = all_accepted h (subst (λ fs. WritesAll p.sender fs r.sender) (sym e) (written_all s)) ∙ e

pub started_zero : (key nonce : List ℕ) → (started key nonce).number ≡ 0
unfolding started
started_zero key nonce = refl
