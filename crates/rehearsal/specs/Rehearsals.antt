-- A rehearsal: its calls and answers in the words of the law, each call to the last byte, and what holds of the whole.
use Rattle.std.specs.Prelude.{◌≡◌, ℕ, ◌≤◌, List, [], ◌∷◌, map, length, take, Ok, Err, vec_items, Result, Vec}
use Rattle.std.specs.declared.alloc.Global.{Global}
use Rattle.link.specs.declared.kind.Kind.{Kind}
use Rattle.link.specs.declared.fault.LinkFault.{LinkFault}
use Rattle.link.specs.Kinds.{text_length, least_room}
use Rattle.link.specs.Frames.{Standing, started}
use Rattle.link.specs.Calls.{take_answer, take_standing, take_text, write_answer, write_standing, write_out}
use Rattle.rehearsal.specs.declared.calls.Request.{Request}
use Rattle.rehearsal.specs.declared.calls.Answer.{Answer}
use Rattle.rehearsal.specs.declared.calls.Call.{Call}
use Rattle.rehearsal.specs.declared.calls.Message.{Message}
use Rattle.rehearsal.specs.Law as law
use Rattle.rehearsal.specs.Law.{Run, place_of, ReceivingRun, OneFits, without_refused, frames_handed, frames_accepted, SendingRun, frames_written}

-- A call at a receiving end in the words of the law: what was asked, and what was answered. The text stands at the front of the buffer.

abbrev pub ReceivingCall : Type 0
ReceivingCall = Call (Vec ℕ Global) Kind

abbrev pub asked_by : Request (Vec ℕ Global) → law.Call
asked_by (Request.Process frame) = law.Call.take_frame (vec_items frame)
asked_by Request.Tell = law.Call.tell

abbrev pub asked : ReceivingCall → law.Call
asked x = asked_by x.request

abbrev pub said_by : Answer Kind → List ℕ → law.Answer
said_by (Answer.Processed (Ok kind)) buffer = law.Answer.taken kind (take (text_length kind) buffer)
said_by (Answer.Processed (Err fault)) buffer = law.Answer.refused
said_by (Answer.Told n) buffer = law.Answer.told n

abbrev pub said : ReceivingCall → law.Answer
said x = said_by x.answer (vec_items x.buffer)

-- a taking has room for the text of every kind
abbrev pub RoomBy : Request (Vec ℕ Global) → ℕ → Type 0
RoomBy (Request.Process frame) room = least_room ≤ room
RoomBy Request.Tell room = Unit {0}

abbrev pub Room : ReceivingCall → Type 0
Room x = RoomBy x.request (length (vec_items x.buffer))

abbrev pub Roomy : List ReceivingCall → Type 0
Roomy [] = Unit {0}
Roomy (x ∷ xs) = Room x × Roomy xs

-- A call at a sending end in the words of the law.

abbrev pub SendingCall : Type 0
SendingCall = Call Message (ℕ × ℕ)

abbrev pub ordered_by : Request Message → List ℕ → law.Writing
ordered_by (Request.Process message) buffer = law.Writing.write_text message.kind (vec_items message.text) buffer
ordered_by Request.Tell buffer = law.Writing.tell

abbrev pub ordered : SendingCall → law.Writing
ordered x = ordered_by x.request (vec_items x.buffer)

abbrev pub done_by : Answer (ℕ × ℕ) → List ℕ → law.Written
done_by (Answer.Processed (Ok (size, number))) buffer = law.Written.wrote size number buffer
done_by (Answer.Processed (Err fault)) buffer = law.Written.refused fault buffer
done_by (Answer.Told n) buffer = law.Written.told n

abbrev pub done : SendingCall → law.Written
done x = done_by x.answer (vec_items x.buffer)

-- What an end that stands somewhere makes of an input, with a buffer: the answer, the buffer, and where the end stands then.
pub record Transition (I O : Type 0) : Type 0 where
  pub answer : Standing → I → List ℕ → Result O LinkFault
  pub buffer : Standing → I → List ℕ → List ℕ
  pub standing : Standing → I → List ℕ → Standing

abbrev pub taking : Transition (Vec ℕ Global) Kind
taking = record {
  answer = λ m frame old. take_answer m (vec_items frame) (length old);
  buffer = λ m frame old. take_text m (vec_items frame) old (take_answer m (vec_items frame) (length old));
  standing = λ m frame old. take_standing m (vec_items frame) (take_answer m (vec_items frame) (length old));
}

abbrev pub writing : Transition Message (ℕ × ℕ)
writing = record {
  answer = λ m message old. write_answer m message.kind (vec_items message.text) (length old);
  buffer = λ m message old. write_out m message.kind (vec_items message.text) old;
  standing = λ m message old. write_standing m message.kind (vec_items message.text) (length old);
}

-- The call x at an end that stands at m, answered as y: the answer, the buffer, and where the end stands then.
module _ {I O : Type 0} (transition : Transition I O) where
  abbrev pub answer_by : Standing → Request I → List ℕ → Answer O
  answer_by m (Request.Process input) old = Answer.Processed (transition.answer m input old)
  answer_by m Request.Tell old = Answer.Told m.number

  abbrev pub buffer_by : Standing → Request I → List ℕ → List ℕ
  buffer_by m (Request.Process input) old = transition.buffer m input old
  buffer_by m Request.Tell old = old

  abbrev pub standing_by : Standing → Request I → List ℕ → Standing
  standing_by m (Request.Process input) old = transition.standing m input old
  standing_by m Request.Tell old = m

  pub record Answered (m : Standing) (x y : Call I O) (m' : Standing) : Type 0 where
    pub request : y.request ≡ x.request
    pub answer : y.answer ≡ answer_by m x.request (vec_items x.buffer)
    pub buffer : vec_items y.buffer ≡ buffer_by m x.request (vec_items x.buffer)
    pub standing : m' ≡ standing_by m x.request (vec_items x.buffer)

-- With one key and nonce, a receiving end was taken through `calls`, which `calls'` shows answered, and stands at `first`; a second
-- one through `again`, answered in `again'`, and stands at `second`; a sending end through `orders`, answered in `orders'`, and
-- stands at `sender`.

module _ (key nonce : List ℕ) (calls calls' again again' : List ReceivingCall) (orders orders' : List SendingCall) (first second sender : Standing) where
  -- every call of the three by itself, to the last byte
  pub record EachCall : Type 0 where
    pub each_call : Run (Answered taking) (started key nonce) calls calls' first
    pub each_again : Run (Answered taking) (started key nonce) again again' second
    pub each_order : Run (Answered writing) (started key nonce) orders orders' sender

  -- the law
  pub record Agreed : Type 0 where
    -- a frame is accepted exactly when the suite's sender, fed from the frames alone, could write it next; each number told is the count of frames accepted so far; and the end stands where that sender does
    pub exact : Roomy calls → ReceivingRun (place_of (started key nonce) 0) (map asked calls) (map said calls') (place_of first first.number)
    pub one_fits : OneFits
    -- given the list without the refused frames, the second end answers the rest alike and stands alike
    pub alike : Roomy calls → Roomy again → map asked again ≡ without_refused (map said calls') (map asked calls)
        → (map said again' ≡ without_refused (map said calls') (map said calls')) × (second ≡ first)
    -- the sending end writes just what the suite's sender writes, and stands where that one does
    pub same : SendingRun (place_of (started key nonce) 0) (map ordered orders) (map done orders') (place_of sender sender.number)
    -- handed just the written frames, in their order, the receiving end accepts them all
    pub delivered : Roomy calls → frames_handed (map asked calls) ≡ frames_written (map done orders') → frames_accepted (map asked calls) (map said calls') ≡ frames_written (map done orders')
    -- where the accepted frames are all the written ones, both ends stand together and tell their count
    pub together : Roomy calls → frames_accepted (map asked calls) (map said calls') ≡ frames_written (map done orders')
        → (first ≡ sender) × (first.number ≡ length (frames_written (map done orders'))) × (sender.number ≡ length (frames_written (map done orders')))
