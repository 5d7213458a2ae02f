-- Section "The sequence file", the check: which refusal names a command at fault.
use Rattle.std.specs.Prelude.{◌≡◌, None, Some, cond, eqb}
use Rattle.model.specs.Answers.{refusal_number, fault_number}
use Rattle.model.specs.declared.StepRefusal.{StepRefusal}

-- Refusal 13 names one, and no other does: `None` and a command 0 read as the same number, and only one of them is
-- answered.
abbrev pub NamesFault : StepRefusal → Type 0
NamesFault r = r.fault ≡ cond (eqb (refusal_number r.refusal) 13) (Some (fault_number r.fault)) None
