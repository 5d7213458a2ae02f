-- The claim for a sequence file's run, from the claim over every list of entries: the run and the list of its steps
-- come to the same store and the same book. Assumes nothing.
use Prim.Native.Nat.{ℕ, zero, suc, ◌+◌, ◌-◌, ◌≤◌, ◌<◌}
use mathlib.Core.Path.{◌≡◌, refl, ap, ◌∙◌}
use mathlib.Core.List.{List, [], ◌∷◌, ◌++◌}
use mathlib.Core.Bool.{true, false, Bool, cond}
use native.Mathlib.Omega.{arith}
use lib.ListN.{length, length-replicate}
use Rattle.model.specs.Store.{limit, ptr, new, store}
use Rattle.model.specs.Sequence.{command_count}
use Rattle.model.specs.Perform.{Call, perform}
use Rattle.model.specs.Run.{StepOutcome, step_refusal, after_step, steps, run}
use Rattle.model.specs.declared.Row.{Row}
use Rattle.model.proofs.Tests.{tests, fails}
use Rattle.model.proofs.Refusals.{tables_fit}
use Rattle.model.proofs.Runs.{never_turned_down, refusal_in_range, step_runs, journal_as_long}
use Rattle.book.specs.Book.{line, refuses, Effect, effect, fed_by}
use Rattle.book.specs.Machine.{Entry, HandedBack, EntryOutcome, Machine, defined, call_in, counts, Reached, begun}
use Rattle.book.specs.Machine.{further, reached, run_of, called, effect_in}
use Rattle.book.specs.Covered.{Covered, left_out}
use Rattle.book.specs.Claim.{Claim}
use Rattle.book.specs.Sequences.{started, ran_to, store_at, step_after, book_at, CoveredRun, SequenceClaim}
use Rattle.book.specs.Sequences.{AcceptedRunsEnd, call_from, sample, one_row}
use Rattle.book.proofs.Theorem.{defined_claim}
use Rattle.book.proofs.Computing.{computed}

-- The first n steps over the file f, with a journal of so many rows, as a list of entries.
unfoldable file_steps : List ℕ → ℕ → ℕ → List Entry
file_steps f rows zero = []
file_steps f rows (suc n) = file_steps f rows n ++ (Entry.step f (suc n) rows ∷ [])

-- What a list comes to after another.
reached_append : (M : Machine) (C : ℕ) (es fs : List Entry) (r : Reached) → reached M C (es ++ fs) r ≡ reached M C fs (reached M C es r)
unfolding reached
reached_append M C [] fs r = refl
reached_append M C (e ∷ es) fs r = reached_append M C es fs (further M C e r)

covered_append : (C : ℕ) (es fs : List Entry) (r : Reached) → Covered es r.store → Covered fs (reached defined C es r).store
    → Covered (es ++ fs) r.store
unfolding reached
covered_append C [] fs r c d = d
covered_append C (e ∷ es) fs r c d = (c.0, covered_append C es fs (further defined C e r) c.1 d)

-- What a step leaves, as the outcome of an entry.
abbrev of_step : StepOutcome → EntryOutcome
of_step o =
    record {
      answer = o.answer;
      store = store o.tables o.state.header;
      rows = o.rows;
      back = HandedBack.next_number o.state.next;
    }

module _ (C : ℕ) (f : List ℕ) (journal : List Row) (accepted : step_refusal (new C).tables f 1 ≡ 0) where
  -- After n steps of an accepted run the next number is n + 1.
  run_next : (n : ℕ) → n ≤ command_count f → (ran_to C f journal n).state.next ≡ n + 1
  unfolding steps after_step
  run_next zero low = refl
  run_next (suc n) low =
      let next = run_next n (omega arith) in
      let u = ran_to C f journal n in
      rw (step_runs u.tables f u.state (length u.journal) (never_turned_down f (started C journal) accepted n) (omega arith))
      (omega arith)

  -- Step n + 1 as an entry leaves what the run's own step leaves, and counts as a call.
  run_entry : (n : ℕ) → suc n ≤ command_count f
      → defined (Entry.step f (suc n) (length journal)) (store_at C f journal n) ≡ of_step (step_after C f journal n)
  unfolding defined
  run_entry n low =
      let next : (ran_to C f journal n).state.next ≡ suc n = omega (arith, run_next n (omega arith)) in
      rw (← next, ← journal_as_long f (started C journal) n) refl

  step_counts : (n : ℕ) → suc n ≤ command_count f → counts C (Entry.step f (suc n) (length journal)) ≡ true
  unfolding counts
  step_counts n low =
      let e = refusal_in_range (new C).tables f 1 (suc n) accepted (λ z. omega arith) (omega arith) in
      simp tests

  -- So the list of the first n steps comes to the store and the book that the run comes to.
  run_reached : (n : ℕ) → n ≤ command_count f
      → ((run_of defined C (file_steps f (length journal) n)).store ≡ store_at C f journal n)
      × ((run_of defined C (file_steps f (length journal) n)).book ≡ book_at C f journal n)
  unfolding file_steps reached book_at steps after_step call_in
  run_reached zero low = (refl, refl)
  run_reached (suc n) low =
      let e = Entry.step f (suc n) (length journal) in
      let r = run_of defined C (file_steps f (length journal) n) in
      let o = step_after C f journal n in
      let a = run_reached n (omega arith) in
      let left : defined e r.store ≡ of_step o = ap (defined e) a.0 ∙ run_entry n low in
      let end = reached_append defined C (file_steps f (length journal) n) (e ∷ []) (begun C) in (
        ap (λ (u : Reached). u.store) end ∙ ap (λ (u : EntryOutcome). u.store) left,
        ap (λ (u : Reached). u.book) end
            ∙ ap (λ (u : EntryOutcome). fed_by (effect_in C e) (called u.answer) u.rows r.book) left
            ∙ ap (fed_by (effect_in C e) (called o.answer) o.rows) a.1
            ∙ ap (λ (c : Bool). fed_by (cond c (effect (call_in e)) Effect.keeps) (called o.answer) o.rows (book_at C f journal n)) (step_counts n low),
      )

  -- And it is covered where the run is.
  run_covered : (n : ℕ) → CoveredRun C f journal n → Covered (file_steps f (length journal) n) (new C)
  unfolding file_steps call_in
  run_covered zero c = tt
  run_covered (suc n) c =
      let low = c.within in
      let before : CoveredRun C f journal n = record { accepted = accepted; within = omega arith; covered = λ k h. c.covered k (omega arith) } in
      covered_append C (file_steps f (length journal) n) (Entry.step f (suc n) (length journal) ∷ []) (begun C) (run_covered n before)
      (rw ((run_reached n (omega arith)).0, run_entry n low) (c.covered n (omega arith), tt))

-- An accepted file's tables are within the limit.
places_within : (C : ℕ) (f : List ℕ) (n : ℕ) → step_refusal (new C).tables f n ≡ 0 → C ≤ limit
unfolding step_refusal new
places_within C f n e = rw (length-replicate {A = ℕ} C 0) at (tables_fit (new C).tables (fails _ _ _ e)).short

-- So the claim over every list of entries is one on every run.
pub sequence_claim : SequenceClaim
unfolding SequenceClaim Claim defined perform call_in counts
sequence_claim C f journal n c p =
    let accepted = c.accepted in
    let a = run_reached C f journal accepted n c.within in
    rw (← a.0, ← a.1)
    ((defined_claim C (places_within C f 1 accepted) (file_steps f (length journal) n) (run_covered C f journal accepted n c)
    ).shows (Entry.call (Call.get p)) p (refl, refl))

-- A whole run of an accepted file is not turned down, and ends after its last command.
pub run_answers : AcceptedRunsEnd
unfolding AcceptedRunsEnd run
run_answers C f journal e = let all : command_count f + 1 - 1 ≡ command_count f = omega arith in rw (e, all) refl

-- The sample is such a run.
pub sample_covered : CoveredRun 1 sample one_row 2
unfolding computed
sample_covered = record { accepted = refl; within = omega arith; covered = each }
  where
    each : (k : ℕ) → k < 2 → refuses (called (step_after 1 sample one_row k).answer) ≡ false
        → left_out (call_from sample one_row k) (store_at 1 sample one_row k) ≡ false
    each zero h a = refl {a = false}
    each (suc zero) h a = refl {a = false}
    each (suc (suc k)) h a = absurd (omega arith)

-- After it the message has a line with the handle that compress gave it.
pub sample_line : book_at 1 sample one_row 2 ≡ line (ptr 1 3) 10 ∷ []
unfolding computed book_at
sample_line = refl

-- What is said of the runs of accepted files, and of the sample.
pub ruleset accepted_runs = (run_answers, sample_covered, sample_line)
