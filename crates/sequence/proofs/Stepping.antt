-- What a step leaves, in any journal: turned down, past the last command, or its command's. Assumes nothing.
use Prim.Native.Nat.{ℕ, ◌+◌, ◌≤◌, ◌<◌}
use mathlib.Core.Path.{◌≡◌, refl, ap, sym, ◌∙◌}
use mathlib.Core.List.{List}
use lib.ListN.{length}
use Rattle.model.specs.Store.{Tables, Store, store}
use Rattle.model.specs.Sequence.{command_count, command_at}
use Rattle.model.specs.Perform.{perform}
use Rattle.model.specs.Answer.{Answer, StepAnswer}
use Rattle.model.specs.Answers.{refusal_number, fault_number}
use Rattle.model.specs.Run.{StepOutcome, call_of, unchanged, fault, state, step_refusal, sequence_step}
use Rattle.model.specs.declared.Row.{Row}
use Rattle.model.specs.declared.StepRefusal.{StepRefusal}
use Rattle.model.specs.declared.State.{State}
use Rattle.model.specs.declared.Command.{Command}
use Rattle.model.proofs.Tests.{tests}
use Rattle.model.proofs.Readings.{number_some}
use Rattle.model.proofs.Runs.{step_runs, step_ends}
use Rattle.arena.specs.Journal.{JournalLaws}

-- A step that is turned down.
step_turned_down : (t : Tables) (b : List ℕ) (q : State) (n : ℕ) → (step_refusal t b q.next ≡ 0 → ⊥)
    → sequence_step t b q n ≡ unchanged (StepAnswer.TurnedDown (step_refusal t b q.next) (fault b (step_refusal t b q.next))) t q
unfolding sequence_step
step_turned_down t b q n down = simp (down, tests)

module _ {J : Type 0} {rows : J → List Row} {with_row : J → ℕ → Row → J} {written : List Row → J → J} (laws : JournalLaws rows with_row written)
    (t : Tables) (b : List ℕ) (q : State) (j : J) where
  unmoved : (a : StepAnswer) {o : StepOutcome} → o ≡ unchanged a t q
      → (a ≡ o.answer) × (t ≡ o.tables) × (q ≡ o.state) × (j ≡ written o.rows j)
  unmoved a e = rw e (refl, refl, refl, sym (laws.no_row j))

  pub down : (r : StepRefusal) → refusal_number r.refusal ≡ step_refusal t b q.next
      → fault_number r.fault ≡ fault b (refusal_number r.refusal)
      → let o = sequence_step t b q (length (rows j)) in
      (StepAnswer.TurnedDown (refusal_number r.refusal) (fault_number r.fault) ≡ o.answer) × (t ≡ o.tables) × (q ≡ o.state) × (j ≡ written o.rows j)
  down r e f =
      let refused : step_refusal t b q.next ≡ 0 → ⊥ = λ z. number_some r.refusal (e ∙ z) in
      rw (f, e) (unmoved _ (step_turned_down t b q (length (rows j)) refused))

  pub past : 0 ≡ step_refusal t b q.next → command_count b < q.next
      → let o = sequence_step t b q (length (rows j)) in
      (StepAnswer.End ≡ o.answer) × (t ≡ o.tables) × (q ≡ o.state) × (j ≡ written o.rows j)
  past e high = unmoved StepAnswer.End (step_ends t b q (length (rows j)) (sym e) high)

  pub runs : {d : Command} {a : Answer} {s : Store} {i : J} → 0 ≡ step_refusal t b q.next → q.next ≤ command_count b
      → d ≡ command_at b q.next
      → (let o = perform (call_of d (length (rows j))) (store t q.header) in (a ≡ o.answer) × (s ≡ o.store) × (i ≡ written o.rows j))
      → let o = sequence_step t b q (length (rows j)) in
      (StepAnswer.Ran a ≡ o.answer) × (s.tables ≡ o.tables) × (state (q.next + 1) s ≡ o.state) × (i ≡ written o.rows j)
  runs e low is w =
      let v = rw is at w in
      rw (step_runs t b q (length (rows j)) (sym e) low)
      (ap StepAnswer.Ran v.0, ap (λ (s : Store). s.tables) v.1, ap (state (q.next + 1)) v.1, v.2)
