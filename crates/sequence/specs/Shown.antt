-- What is shown of the answer of a find or an advance, and of a drain, whatever its handle. For a handle that is none
-- (index 0), and so is no answer of a call, the readings `found_answer` and `drained_answer` of the model say
-- something else.
use Rattle.std.specs.Prelude.{Option, None, Some, Result, Ok, Err}
use Rattle.model.specs.Calls.{done}
use Rattle.model.specs.Answer.{Answer}
use Rattle.model.specs.Answers.{refusal_number}
use Rattle.model.specs.declared.Ptr.{Ptr}
use Rattle.model.specs.declared.Message.{Message}
use Rattle.model.specs.declared.Completed.{Completed}
use Rattle.model.specs.declared.Refusal.{Refusal}

abbrev pub found_shown : Result (Option Ptr) Refusal → Answer
found_shown (Ok (Some p)) = Answer.Done p 0
found_shown (Ok None) = done
found_shown (Err r) = Answer.Refused (refusal_number r)

abbrev pub drained_shown : Result (Option (Completed Message)) Refusal → Answer
drained_shown (Ok (Some (Completed.Done x))) = Answer.Done x.ptr x.value
drained_shown (Ok (Some (Completed.Overflow x))) = Answer.Overflow x.ptr x.value
drained_shown (Ok None) = done
drained_shown (Err r) = Answer.Refused (refusal_number r)
