-- The lines of a run, one after the other, and its whole listing. Assumes nothing.
use Prim.Native.Nat.{ℕ, zero, suc, ◌+◌, ◌-◌, ◌≤◌, ◌<◌}
use mathlib.Core.Path.{◌≡◌, refl, ap, sym, ◌∙◌}
use mathlib.Core.List.{List, ◌++◌, append-nil, append_assoc}
use native.Mathlib.Omega.{arith}
use lib.ListN.{length}
use lib.Seq.{sets, length-sets}
use Rattle.model.specs.Store.{Tables, Store, store}
use Rattle.model.specs.Sequence.{command_count, command_at}
use Rattle.model.specs.Calls.{Outcome}
use Rattle.model.specs.Perform.{perform}
use Rattle.model.specs.Run.{Running, call_of, fault, step_refusal, next_step, after_step, steps, run}
use Rattle.model.specs.Listing.{command_line, step_line, lines, sum_line, refused_line, listed}
use Rattle.model.specs.declared.Header.{Header}
use Rattle.model.specs.declared.State.{State}
use Rattle.model.specs.Answer.{Answer}
use Rattle.model.specs.declared.Command.{Command}
use Rattle.model.proofs.Tests.{tests}
use Rattle.model.proofs.Runs.{Accepts, step_runs, never_turned_down}
use Rattle.model.specs.declared.Row.{Row}
use Rattle.arena.specs.Journal.{JournalLaws}
use Rattle.listing.specs.Written.{Written}
use Rattle.listing.proofs.Texts.{written_then}
use Rattle.sequence.proofs.Starting.{performed}
use Rattle.sequence.specs.LentRun.{beginning, state_of}
use Rattle.sequence.proofs.Running.{Going, ran_outcome}

-- The line of a run's next step.
unfoldable line_of : List ℕ → Running → List ℕ
line_of b r = step_line (command_at b r.state.next).code (next_step b r).answer (next_step b r).state.header

steps_after : (n : ℕ) (b : List ℕ) (r : Running) → steps n b (after_step b r) ≡ after_step b (steps n b r)
unfolding steps
steps_after zero b r = refl
steps_after (suc n) b r = ap (after_step b) (steps_after n b r)

-- A line more, at the end.
lines_next : (n : ℕ) (b : List ℕ) (r : Running) → lines (suc n) b r ≡ lines n b r ++ line_of b (steps n b r)
unfolding lines steps line_of
lines_next zero b r = append-nil (line_of b r)
lines_next (suc n) b r =
    ap (λ (t : List ℕ). line_of b r ++ t) (lines_next n b (after_step b r))
    ∙ ap (λ (s : Running). line_of b r ++ (lines n b (after_step b r) ++ line_of b s)) (steps_after n b r)
    ∙ sym (append_assoc (line_of b r) (lines n b (after_step b r)) (line_of b (after_step b (steps n b r))))

-- Of a step that runs its command, the line is the command's.
line_command : (b : List ℕ) (r : Running) → Accepts b r → r.state.next ≤ command_count b
    → line_of b r ≡ command_line (command_at b r.state.next).code (performed b r).answer (performed b r).store.header
unfolding line_of
line_command b r accepted low = rw (step_runs r.tables b r.state (length r.journal) accepted low)

-- What a run has written of its listing: nothing at first, and then a line more at each command.
pub listing_starts : (b : List ℕ) (r : Running) (first : ℕ) (out : List ℕ) → Written out out 0 (lines (first - first) b r) 0
unfolding lines
listing_starts b r first out = let none : first - first ≡ 0 = omega arith in rw none (record { bytes = refl; end = refl })

module _ {J : Type 0} {rows : J → List Row} {with_row : J → ℕ → Row → J} {written : List Row → J → J} (laws : JournalLaws rows with_row written) where
  line_ran : {b : List ℕ} {t₀ : Tables} {first : ℕ} {h₀ : Header} {j₀ : J} {t : Tables} {next : ℕ} {h : Header} {j : J}
      {counts : List (List ℕ)} {a : Answer} {s : Store}
      → step_refusal t₀ b first ≡ 0 → next ≤ command_count b → Going rows written b t₀ first h₀ j₀ t next h j counts
      → (let o = perform (call_of (command_at b next) (length (rows j))) (store t h) in (a ≡ o.answer) × (s ≡ o.store))
      → line_of b (steps (next - first) b (beginning t₀ (state_of first h₀) (rows j₀))) ≡ command_line (command_at b next).code a s.header
  line_ran {b} {t₀} {first} {h₀} {j₀} {t} {next} {h} {j} {counts} {a} {s} accepted low g w =
      let r₀ = beginning t₀ (state_of first h₀) (rows j₀) in
      let k = next - first in
      let r = steps k b r₀ in
      let same : perform (call_of (command_at b next) (length (rows j))) (store t h) ≡ performed b r = ran_outcome laws b r₀ j₀ accepted refl k g.ran in
      let number : next ≡ r.state.next = ap (λ (q : State). q.next) g.ran.state in
      let answer : a ≡ (performed b r).answer = w.0 ∙ ap (λ (x : Outcome). x.answer) same in
      let kept : s ≡ (performed b r).store = w.1 ∙ ap (λ (x : Outcome). x.store) same in
      line_command b r (never_turned_down b r₀ accepted k) (omega arith) ∙ (cc)

  pub listing_on : {b : List ℕ} {t₀ : Tables} {first : ℕ} {h₀ : Header} {j₀ : J} {t : Tables} {next : ℕ} {h : Header} {j : J}
      {counts : List (List ℕ)} {d : Command} {a : Answer} {s : Store} {i : J} {out₀ out more : List ℕ} {at n : ℕ}
      → step_refusal t₀ b first ≡ 0 → next ≤ command_count b → d ≡ command_at b next
      → (let o = perform (call_of d (length (rows j))) (store t h) in (a ≡ o.answer) × (s ≡ o.store) × (i ≡ written o.rows j))
      → (more ≡ sets out at (command_line d.code a s.header)) × (n ≡ length (command_line d.code a s.header))
      → Going rows written b t₀ first h₀ j₀ t next h j counts
      → Written out₀ out 0 (lines (next - first) b (beginning t₀ (state_of first h₀) (rows j₀))) at
      → Written out₀ more 0 (lines (next + 1 - first) b (beginning t₀ (state_of first h₀) (rows j₀))) (at + n)
  listing_on {b} {t₀} {first} {h₀} {j₀} {t} {next} {h} {j} {counts} {d} {a} {s} {i} {out₀} {out} {more} {at} {n} accepted low is w wrote g so =
      let r₀ = beginning t₀ (state_of first h₀) (rows j₀) in
      let one : next + 1 - first ≡ suc (next - first) = omega (arith, g.onward) in
      let o = rw is at w in
      let line = line_ran accepted low g (o.0, o.1) in
      let added : Written out more at (command_line d.code a s.header) (at + n) = record { bytes = wrote.0; end = omega (arith, wrote.1) } in
      rw (one, lines_next (next - first) b r₀, line, ← is) (written_then so added)

-- The listing of a run that is not turned down.
pub listing_ends : {J : Type 0} {rows : J → List Row} {written : List Row → J → J} {b : List ℕ} {t₀ : Tables} {first : ℕ} {h₀ : Header}
    {j₀ : J} {t : Tables} {next : ℕ} {h : Header} {j : J}
    {counts : List (List ℕ)} {out₀ out all : List ℕ} {at n : ℕ}
    → step_refusal t₀ b first ≡ 0 → command_count b < next
    → (all ≡ sets out at (sum_line counts)) × (n ≡ length (sum_line counts))
    → Going rows written b t₀ first h₀ j₀ t next h j counts
    → Written out₀ out 0 (lines (next - first) b (beginning t₀ (state_of first h₀) (rows j₀))) at
    → Written out₀ all 0 (listed b (beginning t₀ (state_of first h₀) (rows j₀))) (at + n)
unfolding listed run
listing_ends {rows} {b} {t₀} {first} {h₀} {j₀} {t} {next} {h} {j} {counts} {out₀} {out} {all} {at} {n} accepted high wrote g so =
    let last : next - first ≡ command_count b + 1 - first = omega (arith, g.within) in
    let added : Written out all at (sum_line counts) (at + n) = record { bytes = wrote.0; end = omega (arith, wrote.1) } in
    simp (accepted, ← last, ← g.ran.tally) (written_then so added)

-- The listing of a run that is turned down.
pub listing_refused : (b : List ℕ) (t : Tables) (first : ℕ) (h : Header) (c : List Row) → (step_refusal t b first ≡ 0 → ⊥)
    → listed b (beginning t (state_of first h) c) ≡ refused_line (step_refusal t b first) (fault b (step_refusal t b first))
unfolding listed run
listing_refused b t first h c d = simp tests

-- The buffer stays as long.
pub written_long : {before after xs : List ℕ} {i r : ℕ} → Written before after i xs r → length after ≡ length before
written_long {before} {after} {xs} {i} w = ap length w.bytes ∙ length-sets before i xs
