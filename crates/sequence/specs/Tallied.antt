-- Section "The sequence file", the run: what its answer stands for. A run that is turned down counts nothing.
use Rattle.std.specs.Prelude.{ℕ, List, Result, Ok, Err}
use Rattle.model.specs.Answers.{refusal_number, fault_number}
use Rattle.model.specs.Run.{no_tally}
use Rattle.model.specs.declared.StepRefusal.{StepRefusal}
use Rattle.sequence.specs.declared.tally.Tally.{Tally}

abbrev pub run_refusal : Result Tally StepRefusal → ℕ
run_refusal (Ok tally) = 0
run_refusal (Err r) = refusal_number r.refusal

abbrev pub run_fault : Result Tally StepRefusal → ℕ
run_fault (Ok tally) = 0
run_fault (Err r) = fault_number r.fault

abbrev pub run_tally : Result Tally StepRefusal → List (List ℕ)
run_tally (Ok tally) = tally.rows
run_tally (Err r) = no_tally
