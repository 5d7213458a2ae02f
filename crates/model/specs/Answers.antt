-- Section "Each place and its form": for each answer that is an enum, the paper's answer (its kind, number and values)
-- in each case.
use Rattle.std.specs.Prelude.{ℕ, Bool, ◌+◌, ◌≤◌, ◌≡◌, cond, eqb, ⊤, Option, None, Some, Result, Ok, Err}
use Rattle.model.specs.Store.{Store, no_ptr}
use Rattle.model.specs.Answer.{Answer, StepAnswer}
use Rattle.model.specs.Calls.{done, audit}
use Rattle.model.specs.declared.Ptr.{Ptr}
use Rattle.model.specs.declared.Message.{Message}
use Rattle.model.specs.declared.Completed.{Completed}
use Rattle.model.specs.declared.Refusal.{Refusal}
use Rattle.model.specs.declared.Unsound.{Unsound}
use Rattle.model.specs.declared.Audit.{Audit}
use Rattle.model.specs.declared.StepRefusal.{StepRefusal}
use Rattle.model.specs.declared.Checked.{Checked}

-- The kind of an answer: 0 done, 1 overflow, 2 refused.
abbrev pub kind : Answer → ℕ
kind (Answer.Done p v) = 0
kind (Answer.Overflow p v) = 1
kind (Answer.Refused n) = 2

-- The refusal's number, or 0.
abbrev pub number : Answer → ℕ
number (Answer.Done p v) = 0
number (Answer.Overflow p v) = 0
number (Answer.Refused n) = n

-- The handle and the value that an answer shows; zeros where it shows none.
abbrev pub shown_ptr : Answer → Ptr
shown_ptr (Answer.Done p v) = p
shown_ptr (Answer.Overflow p v) = p
shown_ptr (Answer.Refused n) = no_ptr

abbrev pub shown_value : Answer → ℕ
shown_value (Answer.Done p v) = v
shown_value (Answer.Overflow p v) = v
shown_value (Answer.Refused n) = 0

-- Section "Turned down, in checking order": the number of each refusal.
abbrev pub refusal_number : Refusal → ℕ
refusal_number Refusal.TablesUnfit = 1
refusal_number Refusal.HeaderUnfit = 2
refusal_number Refusal.Zero = 3
refusal_number Refusal.Unsound = 4
refusal_number Refusal.JournalShort = 5
refusal_number Refusal.InvalidPtr = 6
refusal_number Refusal.NotWithinCapacity = 7
refusal_number Refusal.AllocError = 8
refusal_number Refusal.BeyondMaxCapacity = 9
refusal_number Refusal.WrongLength = 10
refusal_number Refusal.WrongMark = 11
refusal_number Refusal.WrongPlaces = 12
refusal_number Refusal.BadCommand = 13

-- The number that tests turn a call down by: 0 where none does.
abbrev pub turned_down : Result ⊤ Refusal → ℕ
turned_down (Ok x) = 0
turned_down (Err r) = refusal_number r

-- Done, or done with an overflow.
abbrev pub completed : {T : Type 0} → Bool → T → Completed T
completed overflow x = cond overflow (Completed.Overflow x) (Completed.Done x)

-- Insert of the value v.
abbrev pub insertion_answer : ℕ → Result Ptr Refusal → Answer
insertion_answer v (Ok p) = Answer.Done p v
insertion_answer v (Err r) = Answer.Refused (refusal_number r)

-- A removal, and a command of a sequence: the message that it shows.
abbrev pub message_answer : Result (Completed Message) Refusal → Answer
message_answer (Ok (Completed.Done x)) = Answer.Done x.ptr x.value
message_answer (Ok (Completed.Overflow x)) = Answer.Overflow x.ptr x.value
message_answer (Err r) = Answer.Refused (refusal_number r)

abbrev pub invalidation_answer : Result (Completed Ptr) Refusal → Answer
invalidation_answer (Ok (Completed.Done p)) = Answer.Done p 0
invalidation_answer (Ok (Completed.Overflow p)) = Answer.Overflow p 0
invalidation_answer (Err r) = Answer.Refused (refusal_number r)

-- Get by the handle p.
abbrev pub access_answer : Ptr → Result ℕ Refusal → Answer
access_answer p (Ok v) = Answer.Done p v
access_answer p (Err r) = Answer.Refused (refusal_number r)

-- A call that shows neither handle nor value; then one that steps the generation.
abbrev pub plain_answer : Result ⊤ Refusal → Answer
plain_answer (Ok x) = done
plain_answer (Err r) = Answer.Refused (refusal_number r)

abbrev pub completion_answer : Result (Completed ⊤) Refusal → Answer
completion_answer (Ok (Completed.Done x)) = done
completion_answer (Ok (Completed.Overflow x)) = Answer.Overflow no_ptr 0
completion_answer (Err r) = Answer.Refused (refusal_number r)

-- A handle of index 0 is none, and none has a case of its own: such a handle in another case is no answer, as no
-- refusal has the number 0.
abbrev pub with_ptr : Ptr → Answer → Answer
with_ptr p a = cond (eqb p.index 0) (Answer.Refused 0) a

abbrev pub found_answer : Result (Option Ptr) Refusal → Answer
found_answer (Ok (Some p)) = with_ptr p (Answer.Done p 0)
found_answer (Ok None) = done
found_answer (Err r) = Answer.Refused (refusal_number r)

abbrev pub drained_answer : Result (Option (Completed Message)) Refusal → Answer
drained_answer (Ok (Some (Completed.Done x))) = with_ptr x.ptr (Answer.Done x.ptr x.value)
drained_answer (Ok (Some (Completed.Overflow x))) = with_ptr x.ptr (Answer.Overflow x.ptr x.value)
drained_answer (Ok None) = done
drained_answer (Err r) = Answer.Refused (refusal_number r)

-- The verdict's number: 0 is sound.
abbrev pub verdict_number : Result ⊤ Unsound → ℕ
verdict_number (Ok x) = 0
verdict_number (Err Unsound.Generation) = 1
verdict_number (Err Unsound.TooLong) = 2
verdict_number (Err Unsound.Count) = 3
verdict_number (Err Unsound.Root) = 4
verdict_number (Err Unsound.LinkZero) = 5
verdict_number (Err Unsound.LinkBeyond) = 6
verdict_number (Err Unsound.LivePlace) = 7
verdict_number (Err Unsound.Endless) = 8
verdict_number (Err Unsound.Discontinuous) = 9

abbrev pub audited_answer : Result Audit Refusal → Answer
audited_answer (Ok a) = Answer.Done no_ptr (verdict_number a.verdict)
audited_answer (Err r) = Answer.Refused (refusal_number r)

-- The number of chain places that an audit looked at.
abbrev pub audited_looks : Result Audit Refusal → ℕ
audited_looks (Ok a) = a.looks
audited_looks (Err r) = 0

-- The command at fault, 0 where none is.
abbrev pub fault_number : Option ℕ → ℕ
fault_number None = 0
fault_number (Some n) = n

-- What the check of a sequence file gives: the number that turns a step or a run down, and the command at fault; 0 and
-- 0 where nothing does.
abbrev pub checked_number : Result ⊤ StepRefusal → ℕ
checked_number (Ok x) = 0
checked_number (Err r) = refusal_number r.refusal

abbrev pub checked_fault : Result ⊤ StepRefusal → ℕ
checked_fault (Ok x) = 0
checked_fault (Err r) = fault_number r.fault

abbrev pub checked : Result ⊤ StepRefusal → Checked
checked r = record { refusal = checked_number r; fault = checked_fault r }

-- A step of a sequence: `None` is past the last command.
abbrev pub step_answer : Result (Option (Result (Completed Message) Refusal)) StepRefusal → StepAnswer
step_answer (Ok (Some a)) = StepAnswer.Ran (message_answer a)
step_answer (Ok None) = StepAnswer.End
step_answer (Err r) = StepAnswer.TurnedDown (refusal_number r.refusal) (fault_number r.fault)

-- What is promised of an audit: its answer, and that the number of chain places that it gives is no more than m + 2.
pub record AuditPromise (a : Result Audit Refusal) (s : Store) : Type 0 where
  pub answer : audited_answer a ≡ (audit s).answer
  pub looks : audited_looks a ≤ s.header.m + 2
