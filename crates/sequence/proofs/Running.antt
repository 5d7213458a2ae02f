-- A run in any journal: what it has come to after so many steps, how it starts, what the next command adds, and what
-- it ends in. Assumes nothing.
use Prim.Native.Nat.{ℕ, suc, ◌+◌, ◌-◌, ◌%◌, ◌^◌, ◌≤◌, ◌<◌, min}
use mathlib.Core.Path.{◌≡◌, refl, ap, sym, ◌∙◌}
use mathlib.Core.List.{List, []}
use mathlib.Core.Bool.{false}
use native.Mathlib.Omega.{arith}
use lib.ListN.{length, get_or, set}
use lib.Seq.{length-sets}
use lib.Dec.{eqb}
use Rattle.std.proofs.lemmas.Bool.{cond_both}
use Rattle.model.specs.Answers.{kind}
use Rattle.model.specs.Store.{Tables, Store, store, no_ptr}
use Rattle.model.specs.Sequence.{command_count, command_at}
use Rattle.model.specs.Calls.{Outcome, row, journaled}
use Rattle.model.specs.Perform.{perform}
use Rattle.model.specs.Run.{Running, no_tally, raised, call_of, fault, step_refusal, steps, run}
use Rattle.model.specs.declared.Header.{Header}
use Rattle.model.specs.declared.State.{State}
use Rattle.model.specs.declared.Row.{Row}
use Rattle.model.specs.Answer.{Answer}
use Rattle.model.specs.declared.Command.{Command}
use Rattle.model.proofs.Tests.{tests}
use Rattle.model.proofs.Runs.{Accepts, never_turned_down, journal_as_long}
use Rattle.arena.specs.Journal.{JournalLaws}
use Rattle.arena.specs.Journaled.{sets_all}
use Rattle.sequence.specs.Counted.{counted}
use Rattle.sequence.proofs.Counting.{raised_at}
use Rattle.sequence.proofs.Checks.{accepted_code}
use Rattle.sequence.proofs.Counts.{few_counts}
use Rattle.sequence.proofs.Starting.{performed, after_command, countable}
use Rattle.sequence.specs.LentRun.{beginning, state_of}
use Rattle.sequence.proofs.Moved.{command_rows}

-- After k steps of the run from r₀, whose journal is in j₀, these are the tables, the next number, the header, the
-- journal and the tally.
pub record Ran {J : Type 0} (written : List Row → J → J) (b : List ℕ) (r₀ : Running) (j₀ : J) (k : ℕ) (t : Tables) (next : ℕ) (h : Header) (j : J) (counts : List (List ℕ)) : Type 0 where
  pub tables : t ≡ (steps k b r₀).tables
  pub state : state_of next h ≡ (steps k b r₀).state
  pub journal : j ≡ written (steps k b r₀).journal j₀
  pub tally : counts ≡ (steps k b r₀).tally

-- A run that is under way from the number first on, and has come to the number next.
pub record Going {J : Type 0} (rows : J → List Row) (written : List Row → J → J) (b : List ℕ) (t₀ : Tables) (first : ℕ) (h₀ : Header) (j₀ : J) (t : Tables) (next : ℕ) (h : Header) (j : J) (counts : List (List ℕ)) : Type 0 where
  pub onward : first ≤ next
  pub within : next ≤ command_count b + 1
  pub ran : Ran written b (beginning t₀ (state_of first h₀) (rows j₀)) j₀ (next - first) t next h j counts

module _ {J : Type 0} {rows : J → List Row} {with_row : J → ℕ → Row → J} {written : List Row → J → J} (laws : JournalLaws rows with_row written) where
  module _ (b : List ℕ) (r₀ : Running) (j₀ : J) (accepted : Accepts b r₀) (lent : r₀.journal ≡ rows j₀) where
    -- The journal has as many rows as the run's.
    as_many : (k : ℕ) {t : Tables} {next : ℕ} {h : Header} {j : J} {counts : List (List ℕ)} → Ran written b r₀ j₀ k t next h j counts
        → length (rows j) ≡ length (steps k b r₀).journal
    as_many k w =
        let r = steps k b r₀ in
        ap (λ (i : J). length (rows i)) w.journal
        ∙ ap length (laws.reads r.journal j₀)
        ∙ length-sets (rows j₀) 0 r.journal
        ∙ sym (ap length lent)
        ∙ sym (journal_as_long b r₀ k)

    -- What the next command leaves, where the tables, the number and the rest are what the run has come to.
    pub ran_outcome : (k : ℕ) {t : Tables} {next : ℕ} {h : Header} {j : J} {counts : List (List ℕ)}
        → Ran written b r₀ j₀ k t next h j counts
        → perform (call_of (command_at b next) (length (rows j))) (store t h) ≡ performed b (steps k b r₀)
    ran_outcome k {t} {next} {h} {j} w =
        let r = steps k b r₀ in
        let number : next ≡ r.state.next = ap (λ (q : State). q.next) w.state in
        let head : h ≡ r.state.header = ap (λ (q : State). q.header) w.state in
        let many = as_many k w in
        rw (many, number, head, w.tables) refl

    pub ran_goes_on : (k : ℕ) {t : Tables} {next : ℕ} {h : Header} {j : J} {counts : List (List ℕ)} {a : Answer} {s : Store} {i : J}
        → next ≤ command_count b → Ran written b r₀ j₀ k t next h j counts
        → (let o = perform (call_of (command_at b next) (length (rows j))) (store t h) in (a ≡ o.answer) × (s ≡ o.store) × (i ≡ written o.rows j))
        → Ran written b r₀ j₀ (suc k) s.tables (next + 1) s.header i (raised counts (command_at b next).code a)
    unfolding steps
    ran_goes_on k {t} {next} {h} {j} {counts} {a} {s} {i} low w e =
        let r = steps k b r₀ in
        let o = performed b r in
        let number : next ≡ r.state.next = ap (λ (q : State). q.next) w.state in
        let same : perform (call_of (command_at b next) (length (rows j))) (store t h) ≡ o = ran_outcome k w in
        let on = after_command b r (never_turned_down b r₀ accepted k) (omega arith) in
        let answer : a ≡ o.answer = e.0 ∙ ap (λ (x : Outcome). x.answer) same in
        let kept : s ≡ o.store = e.1 ∙ ap (λ (x : Outcome). x.store) same in
        let left : i ≡ written o.rows j = e.2 ∙ ap (λ (x : Outcome). written x.rows j) same in
        let few = command_rows (command_at b r.state.next) (length r.journal) (store r.tables r.state.header) in
        record {
          tables = rw (on, kept) refl;
          state = rw (on, kept, number) refl;
          journal = rw on (left ∙ ap (written o.rows) w.journal ∙ laws.over o.rows r.journal j₀ few);
          tally = rw (on, answer, number, w.tally) refl;
        }

  module _ {b : List ℕ} {t₀ : Tables} {first : ℕ} {h₀ : Header} {j₀ : J} (accepted : step_refusal t₀ b first ≡ 0) where
    pub going_starts : {counts : List (List ℕ)} → counts ≡ no_tally → Going rows written b t₀ first h₀ j₀ t₀ first h₀ j₀ counts
    unfolding steps
    going_starts e =
        let none : first - first ≡ 0 = omega arith in
        record {
          onward = omega arith;
          within = (countable b t₀ first accepted).last;
          ran = rw (none, e) (record { tables = refl; state = refl; journal = sym (laws.own j₀); tally = refl });
        }

    pub going_on : {t : Tables} {next : ℕ} {h : Header} {j : J} {counts more : List (List ℕ)} {d : Command} {a : Answer} {s : Store} {i : J}
        → next ≤ command_count b → d ≡ command_at b next
        → (let o = perform (call_of d (length (rows j))) (store t h) in (a ≡ o.answer) × (s ≡ o.store) × (i ≡ written o.rows j))
        → more ≡ raised counts d.code a
        → Going rows written b t₀ first h₀ j₀ t next h j counts → Going rows written b t₀ first h₀ j₀ s.tables (next + 1) s.header i more
    going_on {next} low is w m g =
        let one : next + 1 - first ≡ suc (next - first) = omega (arith, g.onward) in
        record {
          onward = omega (arith, g.onward);
          within = omega arith;
          ran =
              rw (one, m, is) (ran_goes_on (b) (beginning t₀ (state_of first h₀) (rows j₀)) j₀ accepted refl (next - first) low g.ran (rw is at w));
        }

-- No count of the run is near its largest.
going_few : {J : Type 0} {rows : J → List Row} {written : List Row → J → J} {b : List ℕ} {t₀ : Tables} {first : ℕ} {h₀ : Header} {j₀ : J}
    {t : Tables} {next : ℕ} {h : Header} {j : J} {counts : List (List ℕ)} → step_refusal t₀ b first ≡ 0
    → Going rows written b t₀ first h₀ j₀ t next h j counts
    → (i k : ℕ) → get_or (get_or counts i []) k 0 ≤ 4096
going_few {rows} {b} {t₀} {first} {h₀} {j₀} {next} accepted g i k =
    let few = (countable b t₀ first accepted).commands in
    rw g.ran.tally (omega (arith, g.within, few_counts b (beginning t₀ (state_of first h₀) (rows j₀)) refl (next - first) i k))

-- The count of a command's answer, raised in its place.
pub going_raised : {J : Type 0} {rows : J → List Row} {written : List Row → J → J} {b : List ℕ} {t₀ : Tables} {first : ℕ} {h₀ : Header} {j₀ : J}
    {t : Tables} {next : ℕ} {h : Header} {j : J} {counts : List (List ℕ)} {d : Command} (a : Answer) {i k : ℕ}
    → step_refusal t₀ b first ≡ 0 → next ≤ command_count b → d ≡ command_at b next → i ≡ min (d.code - 1) 9 → k ≡ kind a
    → Going rows written b t₀ first h₀ j₀ t next h j counts
    → set counts i (set (get_or counts i []) k (get_or (get_or counts i []) k 0 + 1)) ≡ raised counts d.code a
going_raised {b} {t₀} {first} {next} {counts} {d} a {i} {k} accepted low is at column g =
    let first_one = (countable b t₀ first accepted).first in
    let has = accepted_code b t₀ first accepted next (omega (arith, g.onward)) low in
    let code : (1 ≤ d.code) × (d.code ≤ 10) = rw is has in
    let at_row : i ≡ d.code - 1 = omega arith in
    let some : d.code ≡ 0 → ⊥ = λ z. omega arith in
    rw (at_row, column) (sym (raised_at counts d.code a some))

-- So it is raised, as none has come to the largest number.
pub going_counted : {J : Type 0} {rows : J → List Row} {written : List Row → J → J} {b : List ℕ} {t₀ : Tables} {first : ℕ} {h₀ : Header} {j₀ : J}
    {t : Tables} {next : ℕ} {h : Header} {j : J} {counts : List (List ℕ)} {d : Command} (a : Answer)
    → step_refusal t₀ b first ≡ 0 → next ≤ command_count b → d ≡ command_at b next
    → Going rows written b t₀ first h₀ j₀ t next h j counts → counted counts d.code a ≡ raised counts d.code a
unfolding counted
going_counted {counts} {d} a accepted low is g =
    let few = going_few accepted g (min (d.code - 1) 9) (kind a) in
    let x : ℕ = get_or (get_or counts (min (d.code - 1) 9) []) (kind a) 0 in
    let more : (x + 1) % 2 ^ 32 ≡ x + 1 = omega arith in
    rw more (going_raised a accepted low is refl refl g)

-- A run that is not turned down comes to what all its steps come to, and one that is turned down to what it begins
-- with.
run_comes : (b : List ℕ) (t : Tables) (q : State) (rs : List Row) → step_refusal t b q.next ≡ 0
    → (run t b q rs).running ≡ steps (command_count b + 1 - q.next) b (beginning t q rs)
unfolding run
run_comes b t q rs e = simp e

pub going_ends : {J : Type 0} {rows : J → List Row} {written : List Row → J → J} {b : List ℕ} {t₀ : Tables} {first : ℕ} {h₀ : Header} {j₀ : J}
    {t : Tables} {next : ℕ} {h : Header} {j : J} {counts : List (List ℕ)} → step_refusal t₀ b first ≡ 0 → command_count b < next
    → Going rows written b t₀ first h₀ j₀ t next h j counts
    → let o = run t₀ b (state_of first h₀) (rows j₀) in
    (t ≡ o.running.tables) × (state_of next h ≡ o.running.state) × (j ≡ written o.running.journal j₀) × (counts ≡ o.running.tally)
going_ends {rows} {b} {t₀} {first} {h₀} {j₀} {next} accepted high g =
    let all : next - first ≡ command_count b + 1 - first = omega (arith, g.within) in
    let comes : steps (next - first) b (beginning t₀ (state_of first h₀) (rows j₀)) ≡ (run t₀ b (state_of first h₀) (rows j₀)).running =
    ap (λ (n : ℕ). steps n b (beginning t₀ (state_of first h₀) (rows j₀))) all ∙ sym (run_comes b t₀ (state_of first h₀) (rows j₀) accepted) in
    rw (← comes) (g.ran.tables, g.ran.state, g.ran.journal, g.ran.tally)

-- A run that is turned down by n, and one that is not.
pub turned_down : {J : Type 0} {rows : J → List Row} {with_row : J → ℕ → Row → J} {written : List Row → J → J} (laws : JournalLaws rows with_row written)
    (b : List ℕ) (t : Tables) (q : State) (j : J) {n k : ℕ} {counts : List (List ℕ)}
    → n ≡ step_refusal t b q.next → k ≡ fault b n → (n ≡ 0 → ⊥) → counts ≡ no_tally
    → let o = run t b q (rows j) in
    (n ≡ o.refusal) × (k ≡ o.fault) × (t ≡ o.running.tables) × (q ≡ o.running.state) × (j ≡ written o.running.journal j)
    × (counts ≡ o.running.tally)
unfolding run
turned_down {rows} {written} laws b t q j {n} {k} {counts} e f d none =
    let down : step_refusal t b q.next ≡ 0 → ⊥ = λ z. d (e ∙ z) in
    let comes : (run t b q (rows j)).running ≡ beginning t q (rows j) = simp (down, tests) in (
      e,
      f ∙ ap (fault b) e,
      sym (ap (λ (r : Running). r.tables) comes),
      sym (ap (λ (r : Running). r.state) comes),
      sym (ap (λ (r : Running). written r.journal j) comes ∙ laws.own j),
      none ∙ sym (ap (λ (r : Running). r.tally) comes),
    )

pub accepted_run : (t : Tables) (b : List ℕ) (q : State) (rs : List Row) {n k : ℕ}
    → n ≡ step_refusal t b q.next → k ≡ fault b n
    → let o = run t b q rs in (n ≡ o.refusal) × (k ≡ o.fault)
unfolding run
accepted_run t b q rs e f = (e, f ∙ ap (fault b) e)

-- A run's journal has as many rows as at its beginning, so that it takes the place of all of them.
pub run_as_long : (t : Tables) (b : List ℕ) (q : State) (rs : List Row) → length (run t b q rs).running.journal ≡ length rs
unfolding run
run_as_long t b q rs =
    cond_both (eqb (step_refusal t b q.next) 0) _ _ (λ (r : Running). length r.journal ≡ length rs)
    (λ e. journal_as_long b (beginning t q rs) (command_count b + 1 - q.next)) (λ e. refl)

pub run_journal : (t : Tables) (b : List ℕ) (q : State) (rs : List Row)
    → journaled (run t b q rs).running.journal rs ≡ (run t b q rs).running.journal
run_journal t b q rs = sets_all rs (run t b q rs).running.journal (row no_ptr no_ptr false) (run_as_long t b q rs)
