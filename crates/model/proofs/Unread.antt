-- No call reads the words above the stack: made on two stores that differ there alone, it gives the same answer and
-- the same rows, and leaves stores with one header and the same words, up to the stack as it was and as it is. Assumes
-- nothing.
use Prim.Native.Nat.{ℕ, ◌+◌}
use mathlib.Core.Path.{◌≡◌, refl, ap, ◌∙◌}
use mathlib.Core.Bool.{false}
use native.Mathlib.Omega.{arith}
use lib.ListN.{length-replicate, length-map}
use lib.Dec.{eqb}
use Rattle.model.specs.Store.{Store, marks}
use Rattle.model.specs.Calls.{BothOutcome, CursorOutcome, step, insert, insert_reallocating, remove, remove_index, invalidate, get, put, clear, order, rows_of, messages, gathered, compress_step, compress, reserve_refusal, reserve, unless_both, transfer_refusal, steps_from, transfer, copy_refusal, copy, unless_at, sought_in, advance, drain, find_first, find_last, set_generation, step_generation, audit}
use Rattle.model.specs.Perform.{Call, perform, of_source, of_destination}
use Rattle.model.specs.declared.Header.{Header}
use Rattle.model.specs.declared.Cursor.{Cursor}
use Rattle.model.proofs.Tests.{chosen_alike}
use Rattle.model.proofs.Above.{sought_low}
use Rattle.model.proofs.Refusals.{insert_fits, insert_reallocating_fits, remove_valid, remove_index_valid, access_valid}
use Rattle.model.proofs.Agree.{agree_itself, sought_agree, agree_generation, agree_value, agree_zeroed, agree_laid, first_live_low, last_live_low}
use Rattle.model.proofs.Alike.{Alike, LeftAlike, Same, SameAt, SameBoth, same_tables_unfit, same_header_unfit, same_live_count, same_journal_short, same_verdict, same_insert_refusal, same_insert_reallocating_refusal, same_remove_refusal, same_remove_index_refusal, same_ptr_refusal, same_store_refusal, same_order_refusal, same_compress_refusal, same_drain_refusal, same_set_generation_refusal, alike_less, no_longer}
use Rattle.model.proofs.AlikeAfter.{alike_removed_all, removed_all_low, same_messages, same_values, same_rows, same_first_live, same_last_live, copied_low, alike_copied, same_outcome, same_unless, as_given, same_call, same_inserted, same_removed, cleared_alike, ordered_alike, regenerated_alike, same_drained, same_shown}

same_unless_at : {m i j : ℕ} {s u : Store} {o q : CursorOutcome} (c : Cursor) → i ≡ j
    → LeftAlike m s u → SameAt m o q → SameAt m (unless_at i c s o) (unless_at j c u q)
unfolding unless_at
same_unless_at {m} {i} {j} c e a x =
    chosen_alike (SameAt m) (eqb i 0) (eqb j 0) (rw e)
    (λ z. x)
    (λ z. record { cursor = refl; outcome = same_outcome (rw e) a })

same_source : {m n : ℕ} {o q : BothOutcome} → SameBoth m n o q → Same n (of_source o) (of_source q)
same_source x = record { answer = x.answer; rows = x.rows; store = x.source }

same_destination : {m n : ℕ} {o q : BothOutcome} → SameBoth m n o q → Same m (of_destination o) (of_destination q)
same_destination x = record { answer = x.answer; rows = x.rows; store = x.destination }

module _ {d e s u : Store} (a : Alike d e) (b : Alike s u) where
  same_unless_both : {i j : ℕ} {o q : BothOutcome} → i ≡ j → SameBoth d.header.m s.header.m o q
      → SameBoth d.header.m s.header.m (unless_both i d s o) (unless_both j e u q)
  unfolding unless_both
  same_unless_both {i} {j} h x =
      chosen_alike (SameBoth d.header.m s.header.m) (eqb i 0) (eqb j 0) (rw h)
      (λ z. x)
      (λ z.
      record {
        answer = rw h;
        rows = refl;
        destination =
            chosen_alike (LeftAlike d.header.m) (eqb i 9) (eqb j 9) (rw h)
            (λ k. ordered_alike a)
            (λ k. as_given a);
        source = as_given b;
      })

  same_transfer_refusal : (g n : ℕ) → transfer_refusal d s g n ≡ transfer_refusal e u g n
  unfolding transfer_refusal
  same_transfer_refusal g n =
      cc (
        same_tables_unfit a,
        same_tables_unfit b,
        same_header_unfit a,
        same_header_unfit b,
        same_verdict a,
        same_verdict b,
        same_journal_short b n,
        same_live_count b,
      )

  same_copy_refusal : copy_refusal d s ≡ copy_refusal e u
  unfolding copy_refusal
  same_copy_refusal =
      cc (
        same_tables_unfit a,
        same_tables_unfit b,
        same_header_unfit a,
        same_header_unfit b,
        same_verdict a,
        same_verdict b,
        same_last_live b,
      )

  gathered_alike : (g h : ℕ) → g ≡ h → LeftAlike d.header.m (gathered d s g) (gathered e u h)
  unfolding gathered
  gathered_alike g h x =
      rw (← same_values b, ← same_messages b, ← a.header, ← x)
      (record {
        header = refl;
        tables = agree_laid _ _ (agree_zeroed _ a.tables) (rw length-replicate (omega arith)) (rw length-map (omega arith));
      })

  -- Neither store's words above its stack are read.
  pub transfer_unread : (g n : ℕ) → SameBoth d.header.m s.header.m (transfer d s g n) (transfer e u g n)
  unfolding transfer
  transfer_unread g n =
      same_unless_both (same_transfer_refusal g n)
      (record {
        answer = refl;
        rows =
            same_rows b g _
            ∙ ap (λ (h : Header). rows_of u (messages u) 0 g (λ k. (step (steps_from h.generation k)).overflow)) b.header;
        destination = gathered_alike g g refl;
        source = rw (← same_messages b) (no_longer (removed_all_low s (messages s)) (alike_removed_all (messages s) b));
      })

  pub copy_unread : SameBoth d.header.m s.header.m (copy d s) (copy e u)
  unfolding copy
  copy_unread =
      same_unless_both same_copy_refusal
      (record {
        answer = refl;
        rows = refl;
        destination = alike_less (alike_copied a b) (omega (arith, copied_low d s));
        source = as_given b;
      })

module _ {s u : Store} (a : Alike s u) where
  same_sought : (c : Cursor) → sought_in s c ≡ sought_in u c
  same_sought c = cc (sought_agree (s.header.m + 1) a.tables.generations c)

  pub advance_unread : (c : Cursor) → SameAt s.header.m (advance s c) (advance u c)
  unfolding advance
  advance_unread c =
      same_unless_at c (same_store_refusal a) (as_given a)
      (record {
        cursor = rw (same_sought c);
        outcome = same_shown a _ _ (rw (same_sought c)) (sought_low (s.header.m + 1) (marks s) s.header.m c);
      })

  pub drain_unread : (c : Cursor) → SameAt s.header.m (drain s c) (drain u c)
  unfolding drain
  drain_unread c =
      rw (← same_sought c)
      (same_unless_at c (same_drain_refusal a _) (as_given a)
      (record { cursor = refl; outcome = same_drained a _ (sought_low (s.header.m + 1) (marks s) s.header.m c) }))

-- A store is alike to itself.
itself : (s : Store) → Alike s s
itself s =
    record {
      header = refl;
      tables = record { generations = agree_itself _ _; links = agree_itself _ _; values = agree_itself _ _ };
    }

-- Whatever the call, and whatever the two stores.
pub unread : (c : Call) (s u : Store) → Alike s u → Same s.header.m (perform c s) (perform c u)
unfolding perform insert insert_reallocating remove remove_index invalidate get put clear order compress reserve_refusal reserve find_first find_last set_generation step_generation audit
unread (Call.insert v) s u a = same_call a (same_insert_refusal a) (λ e. same_inserted a v (insert_fits s e).header)
unread (Call.insert_reallocating v) s u a =
    same_call a (same_insert_reallocating_refusal a) (λ e. same_inserted a v (insert_reallocating_fits s e).header)
unread (Call.remove p) s u a = same_call a (same_remove_refusal a p) (λ e. same_removed a _ (remove_valid s p e).index.low)
unread (Call.remove_index i) s u a =
    same_call a (same_remove_index_refusal a i) (λ e. same_removed a i (remove_index_valid s i e).low)
unread (Call.invalidate p) s u a =
    same_call a (same_ptr_refusal a p)
    (λ e.
    rw (← a.header)
    (same_outcome refl (no_longer (omega arith) (record { header = refl; tables = agree_generation p.index _ a.tables }))))
unread (Call.get p) s u a =
    same_call a (same_ptr_refusal a p)
    (λ e. same_outcome (rw (a.tables.values.words p.index (access_valid s p e).index.low)) (as_given a))
unread (Call.put p v) s u a =
    same_call a (same_ptr_refusal a p)
    (λ e. same_outcome refl (no_longer (omega arith) (record { header = a.header; tables = agree_value p.index v a.tables })))
unread Call.clear s u a =
    same_call a (same_store_refusal a) (λ e. same_outcome (rw a.header) (cleared_alike a _ _ (rw a.header)))
unread Call.order s u a = same_call a (same_order_refusal a) (λ e. same_outcome refl (ordered_alike a))
unread (Call.compress reset n) s u a =
    same_call a (same_compress_refusal a n)
    (λ e.
    record {
      answer = rw a.header;
      rows = cc (same_rows a (compress_step s.header reset).generation (λ k. false));
      store = gathered_alike a a _ _ (rw a.header);
    })
unread (Call.reserve n) s u a =
    same_call a (same_order_refusal a)
    (λ e. same_unless (rw a.tables.generations.long) (ordered_alike a) (λ f. same_outcome refl (ordered_alike a)))
unread (Call.transfer_out d g n) s u a = same_source (transfer_unread (itself d) a g n)
unread (Call.transfer_in t g n) s u a = same_destination (transfer_unread a (itself t) g n)
unread (Call.copy_out d) s u a = same_source (copy_unread (itself d) a)
unread (Call.copy_in t) s u a = same_destination (copy_unread a (itself t))
unread (Call.advance c) s u a = (advance_unread a c).outcome
unread (Call.drain c) s u a = (drain_unread a c).outcome
unread Call.find_first s u a =
    same_call a (same_store_refusal a) (λ e. same_shown a _ _ (same_first_live a) (first_live_low (marks s) s.header.m))
unread Call.find_last s u a =
    same_call a (same_store_refusal a) (λ e. same_shown a _ _ (same_last_live a) (last_live_low (marks s) s.header.m))
unread (Call.set_generation g) s u a =
    same_call a (same_set_generation_refusal a g) (λ e. same_outcome refl (regenerated_alike a g g refl))
unread Call.step_generation s u a =
    same_call a (same_store_refusal a) (λ e. same_outcome (rw a.header) (regenerated_alike a _ _ (rw a.header)))
unread Call.audit s u a =
    same_call a (cc (same_tables_unfit a)) (λ e. same_outcome (rw (same_verdict a)) (as_given a))

-- So what a call leaves differs in words above the stack alone, and so does what the calls after it leave.
pub still_alike : (c : Call) (s u : Store) → Alike s u → Alike (perform c s).store (perform c u).store
still_alike c s u a = alike_less (unread c s u a).store (omega arith)
