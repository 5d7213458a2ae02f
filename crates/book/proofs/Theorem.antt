-- The claim of the machine whose calls are the definitions: by induction over the list, the invariant holds before
-- each entry, and says of each entry and of the store after the list what is claimed. Assumes nothing.
use Prim.Native.Nat.{ℕ, ◌≤◌, ◌<◌}
use mathlib.Core.Path.{◌≡◌, refl, ap, sym, ◌∙◌}
use mathlib.Core.List.Memᴰ
use mathlib.Core.List.{List, [], ◌∷◌, Nodup-nil}
use mathlib.Core.Logic.{◌⊎◌, inl, inr}
use mathlib.Core.Bool.{true, false, true≢false, false≢true}
use native.Mathlib.Omega.{arith}
use native.Mathlib.Decide.{ℕ_discrete, dec_le}
use lib.ListN.{length-replicate}
use lib.Dec.{eqb}
use Rattle.std.proofs.lemmas.Bool.{cond_both}
use Rattle.model.specs.Store.{Store, limit, new}
use Rattle.model.specs.Sequence.{command_count}
use Rattle.model.specs.Calls.{ordered, order, order_refusal, unless, Outcome, reserve, reserve_refusal}
use Rattle.model.specs.Perform.{perform, Call}
use Rattle.model.specs.Run.{step_refusal, state}
use Rattle.model.specs.Answer.{Answer}
use Rattle.model.proofs.Tests.{tests}
use Rattle.model.proofs.Runs.{refusal_as_long, step_runs, step_ends, step_turned_down}
use Rattle.model.proofs.Changes.{empty_shaped}
use Rattle.book.specs.Book.{inserts, single, refuses, shown}
use Rattle.book.specs.Machine.{Entry, defined, call_in, counts, called, Reached, begun, further, reached, run_of, Each}
use Rattle.book.specs.Covered.{left_out, Covered}
use Rattle.book.specs.Claim.{Answered, Full, Apart, Claim, Orders}
use Rattle.book.proofs.Kept.{Tidy, Kept}
use Rattle.book.proofs.Tested.{tidy_tables, tidy_header, tidy_count}
use Rattle.book.proofs.Accepted.{kept_none}
use Rattle.book.proofs.Performed.{call_kept}
use Rattle.book.proofs.Fullness.{call_full}
use Rattle.book.proofs.Apart.{call_apart}
use Rattle.book.proofs.Shows.{kept_shows}
use Rattle.book.proofs.Chain.{kept_chain}
use Rattle.book.proofs.Afresh.{at_zeros, ordered_afresh}
use Rattle.book.proofs.Taken.{no_live_lines}

-- An entry that counts as a call leaves what the call leaves.
record AsCall (C : ℕ) (e : Entry) (s : Store) : Type 0 where
  counted : counts C e ≡ true
  answer : called (defined e s).answer ≡ (perform (call_in e) s).answer
  store : (defined e s).store ≡ (perform (call_in e) s).store
  rows : (defined e s).rows ≡ (perform (call_in e) s).rows

-- One that counts as none is refused, by n, and changes nothing.
record AsNone (C : ℕ) (e : Entry) (s : Store) : Type 0 where
  counted : counts C e ≡ false
  n : ℕ
  answer : called (defined e s).answer ≡ Answer.Refused n
  store : (defined e s).store ≡ s

-- On a store whose tables have C entries the file is accepted as it is for a new store of C places.
step_refusal_lem : (C : ℕ) (s : Store) (f : List ℕ) (next : ℕ) → Tidy C s → step_refusal s.tables f next ≡ step_refusal (new C).tables f next
unfolding new
step_refusal_lem C s f next t =
    refusal_as_long s.tables _ f next
    (record {
      generations = t.generations ∙ sym (length-replicate C 0);
      links = t.links ∙ sym (length-replicate C 0);
      values = t.values ∙ sym (length-replicate C 0);
    })

entry_outcome : (C : ℕ) (s : Store) (e : Entry) → Tidy C s → AsCall C e s ⊎ AsNone C e s
unfolding defined call_in counts
entry_outcome C s (Entry.call c) t = inl (record { counted = refl; answer = refl; store = refl; rows = refl })
entry_outcome C s (Entry.step f next n) t =
    let same = step_refusal_lem C s f next t in
    elim (ℕ_discrete (step_refusal s.tables f next) 0) [
      | no d ↦
          let g = step_turned_down s.tables f (state next s) n d in
          let h : step_refusal (new C).tables f next ≡ 0 → ⊥ = λ z. d (same ∙ z) in
          inr (record { counted = simp tests; n = step_refusal s.tables f next; answer = rw g refl; store = rw g refl })
      | yes z ↦
          let h : step_refusal (new C).tables f next ≡ 0 = sym same ∙ z in
          elim (dec_le next (command_count f)) [
            | yes low ↦
                let g = step_runs s.tables f (state next s) n z low in
                inl (record { counted = simp tests; answer = rw g refl; store = rw g refl; rows = rw g refl })
            | no high ↦
                let past : command_count f < next = omega arith in
                let g = step_ends s.tables f (state next s) n z past in
                inr (record { counted = simp tests; n = 0; answer = rw g refl; store = rw g refl })
          ]
    ]

counted_call : (C : ℕ) (s : Store) (e : Entry) → Tidy C s → counts C e ≡ true → AsCall C e s
counted_call C s e t h =
    elim (entry_outcome C s e t) [
      | inl o ↦ o
      | inr o ↦ absurd (true≢false (sym h ∙ o.counted))
    ]

-- The invariant of what a run has come to.
abbrev pub KeptAt : ℕ → Reached → Type 0
KeptAt C r = Kept C r.store r.book r.given

module _ {C : ℕ} (r : Reached) (k : KeptAt C r) where
  -- An entry keeps the invariant, unless the list leaves it out.
  entry_kept : (e : Entry) → (refuses (called (defined e r.store).answer) ≡ false → left_out (call_in e) r.store ≡ false)
      → KeptAt C (further defined C e r)
  entry_kept e h =
      elim (entry_outcome C r.store e k.tidy) [
        | inl o ↦
            rw (o.counted, o.answer, o.store, o.rows)
            (call_kept r.store r.book r.given k (call_in e) (λ a. h (rw o.answer a)))
        | inr o ↦ rw (o.counted, o.answer, o.store) (kept_none C r.store r.book r.given k)
      ]

  -- If it inserts, it is refused exactly when every place is taken.
  entry_full : (e : Entry) → Full defined C e r
  unfolding inserts
  entry_full e =
      elim (entry_outcome C r.store e k.tidy) [
        | inl o ↦ rw (o.counted, o.answer) (call_full C r.store r.book k.tidy k.lines (call_in e))
        | inr o ↦ rw o.counted (λ i. absurd (false≢true i))
      ]

  -- If it is a single-message call, other messages' places are as they were.
  entry_apart : (e : Entry) → Apart defined C e r
  unfolding single
  entry_apart e =
      elim (entry_outcome C r.store e k.tidy) [
        | inl o ↦ rw (o.counted, o.answer, o.store) (call_apart C r.store r.book k.tidy k.lines (call_in e))
        | inr o ↦ rw (o.counted, o.answer) (λ one. absurd (false≢true one))
      ]

-- So the invariant holds after every list, and before each entry of it.
pub run_kept : {C : ℕ} (es : List Entry) (r : Reached) → KeptAt C r → Covered es r.store → KeptAt C (reached defined C es r)
unfolding reached
run_kept [] r k c = k
run_kept {C} (e ∷ es) r k c = run_kept es (further defined C e r) (entry_kept r k e c.0) c.1

each_entry : {C : ℕ} (P : Entry → Reached → Type 0) → ((e : Entry) (r : Reached) → KeptAt C r → P e r)
    → (es : List Entry) (r : Reached) → KeptAt C r → Covered es r.store → Each defined C P es r
each_entry P h [] r k c = tt
each_entry {C} P h (e ∷ es) r k c =
    (h e r k, each_entry P h es (further defined C e r) (entry_kept r k e c.0) c.1)

-- A new store has it, with an empty book and no handle given out.
pub new_kept : (C : ℕ) → C ≤ limit → KeptAt C (begun C)
unfolding new
new_kept C h =
    record {
      tidy =
          record {
            short = h;
            generations = length-replicate C 0;
            links = length-replicate C 0;
            values = length-replicate C 0;
            shaped = empty_shaped _ _ refl;
            current = omega arith;
            above_free = λ p q. at_zeros C p;
            above_link = λ p q. at_zeros C p;
            live_link = λ p live. at_zeros C p;
            free_value = λ p z. at_zeros C p;
          };
      lines = no_live_lines (new C) (at_zeros C);
      given =
          record {
            once = Nodup-nil;
            low = λ p x. absurd (Memᴰ.not-nil x);
            live = λ p x e. absurd (Memᴰ.not-nil x);
          };
    }

-- Order and reserve of a store with the invariant order it, also where reserve is then refused.
orders_done : (C : ℕ) (s : Store) (c : Call) → Tidy C s → Orders c → (perform c s).store ≡ ordered s
unfolding perform order reserve unless order_refusal
orders_done C s c t Orders.by_order = rw (tidy_tables C s t, tidy_header C s t, tidy_count C s t) refl
orders_done C s c t (Orders.by_reserve n) =
    rw (tidy_tables C s t, tidy_header C s t, tidy_count C s t)
    (cond_both (eqb (reserve_refusal s n) 0) _ _ (λ (o : Outcome). o.store ≡ ordered s) (λ e. refl) (λ e. refl))

pub defined_claim : Claim defined
unfolding Claim
defined_claim C h es c =
    let start = new_kept C h in
    let r = run_of defined C es in
    let s = r.store in
    let k = run_kept es (begun C) start c in
    let tidy = k.tidy in
    let lines = k.lines in
    record {
      answered = each_entry (Answered defined) (λ e r k. refl) es (begun C) start c;
      shows = λ e p n.
          ap shown (counted_call C s e tidy n.0).answer ∙ rw n.1 (unfold perform in kept_shows C s r.book tidy lines p);
      given_once = k.given.once;
      full = each_entry (Full defined C) (λ e r k. entry_full r k e) es (begun C) start c;
      chain = kept_chain C r tidy lines;
      apart = each_entry (Apart defined C) (λ e r k. entry_apart r k e) es (begun C) start c;
      afresh = λ e c n o.
          (counted_call C s e tidy n.0).store
          ∙ rw n.1 (orders_done C s c tidy o ∙ ordered_afresh C s r.book tidy lines);
    }
