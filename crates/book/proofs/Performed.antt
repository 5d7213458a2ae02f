-- Every call keeps the invariant, unless the list leaves it out. Assumes nothing.
use Prim.Native.Nat.{ℕ}
use mathlib.Core.Path.{◌≡◌, refl, sym, ◌∙◌}
use mathlib.Core.List.{List, []}
use mathlib.Core.Bool.{Bool, true, false, cond, true≢false}
use native.Mathlib.Omega.{arith}
use lib.ListN.{length}
use lib.Dec.{eqb}
use borrow.Author.Tests.{eqb-false, ltb-false}
use Rattle.std.proofs.lemmas.Bool.{cond_both}
use Rattle.model.specs.Store.{Store, at, marks}
use Rattle.model.specs.Calls.{Outcome, BothOutcome, CursorOutcome, unless_both, unless_at, generation_width, store_refusal, transfer_refusal, copy_refusal, messages, drain_refusal, sought_in, drained, ordered, insert, insert_reallocating, remove, remove_index, invalidate, get, put, clear, order, compress, reserve, transfer, copy, advance, drain, find_first, find_last, set_generation, step_generation, audit}
use Rattle.model.specs.Perform.{Call, perform, of_source}
use Rattle.model.specs.declared.Ptr.{Ptr}
use Rattle.model.specs.declared.Cursor.{Cursor}
use Rattle.model.specs.Answer.{Answer}
use Rattle.model.proofs.Tests.{chosen_alike}
use Rattle.model.proofs.Refusals.{remove_valid, remove_index_valid, access_valid}
use Rattle.model.proofs.Refused.{refused, leaves_ordered}
use Rattle.model.proofs.Width.{step_larger}
use Rattle.model.proofs.Above.{sought_live}
use Rattle.book.specs.Book.{Line, Effect, effect, entered, gives, refuses}
use Rattle.book.specs.Covered.{left_out, overflows, clear_steps}
use Rattle.book.proofs.Kept.{Kept, KeptBy}
use Rattle.book.proofs.Insertion.{inserted_kept}
use Rattle.book.proofs.Removal.{removed_at, removed_ptr, removed_found}
use Rattle.book.proofs.Transfer.{removed_all_kept}
use Rattle.book.proofs.Access.{remarked_kept, value_kept}
use Rattle.book.proofs.Ordering.{ordered_kept}
use Rattle.book.proofs.Clearing.{cleared_kept}
use Rattle.book.proofs.Compression.{gathered_kept}
use Rattle.book.proofs.Generations.{regenerated_kept}
use Rattle.book.proofs.Accepted.{kept_none, answered_kept, accepted_answered, unless_kept, unless_covered, insert_room, insert_reallocating_room, accepted_removed, accepted_drained, one_step, clear_step_lem}

module _ {C : ℕ} (s : Store) (b : List Line) (ps : List Ptr) (k : Kept C s b ps) where
  insert_kept : (v : ℕ) → KeptBy C (Effect.adds v) (insert s v) b ps
  unfolding insert
  insert_kept v =
      unless_kept C s (Effect.adds v) _ _ b ps k
      (λ e. inserted_kept C s b ps v k (insert_room s e))

  insert_reallocating_kept : (v : ℕ) → KeptBy C (Effect.adds v) (insert_reallocating s v) b ps
  unfolding insert_reallocating
  insert_reallocating_kept v =
      unless_kept C s (Effect.adds v) _ _ b ps k
      (λ e. inserted_kept C s b ps v k (insert_reallocating_room s e))

  -- A call that is accepted is not left out.
  abbrev NotLeftOut : Call → Type 0
  NotLeftOut c = refuses (perform c s).answer ≡ false → left_out c s ≡ false

  remove_kept : (p : Ptr) → NotLeftOut (Call.remove p) → KeptBy C (Effect.strikes p) (remove s p) b ps
  unfolding remove perform left_out
  remove_kept p h =
      unless_covered C s (Effect.strikes p) _ _ _ b ps k (accepted_removed s p.index) h
      (λ e out.
      let v = remove_valid s p e in
      removed_ptr C s b ps p k v.index.live v.generation (one_step _ out))

  remove_index_kept : (i : ℕ) → NotLeftOut (Call.remove_index i) → KeptBy C (Effect.strikes_at i) (remove_index s i) b ps
  unfolding remove_index perform left_out
  remove_index_kept i h =
      unless_covered C s (Effect.strikes_at i) _ _ _ b ps k (accepted_removed s i) h
      (λ e out. removed_at C s b ps i k (remove_index_valid s i e).live (one_step _ out))

  invalidate_kept : (p : Ptr) → NotLeftOut (Call.invalidate p) → KeptBy C (Effect.replaces_ptr p) (invalidate s p) b ps
  unfolding invalidate perform left_out entered gives
  invalidate_kept p h =
      unless_covered C s (Effect.replaces_ptr p) _ _ _ b ps k (accepted_answered _ _ _) h
      (λ e out.
      answered_kept C _ (Effect.replaces_ptr p) _ _ 0 [] b ps
      (remarked_kept s b ps p k (access_valid s p e) _ (step_larger generation_width s.header.generation (one_step _ out))))

  get_kept : (p : Ptr) → KeptBy C Effect.reads (get s p) b ps
  unfolding get entered gives
  get_kept p = unless_kept C s Effect.reads _ _ b ps k (λ e. kept_none C s b ps k)

  put_kept : (p : Ptr) (v : ℕ) → KeptBy C (Effect.replaces_value p v) (put s p v) b ps
  unfolding put entered gives
  put_kept p v =
      unless_kept C s (Effect.replaces_value p v) _ _ b ps k
      (λ e. kept_none C _ _ ps (value_kept s b ps p k (access_valid s p e) v))

  clear_kept : NotLeftOut Call.clear → KeptBy C Effect.strikes_all (clear s) b ps
  unfolding clear perform left_out entered gives
  clear_kept h =
      unless_covered C s Effect.strikes_all _ _ _ b ps k (accepted_answered _ _ _) h
      (λ e out.
      answered_kept C _ Effect.strikes_all _ _ 0 [] b ps (kept_none C _ [] ps (cleared_kept C s b ps k (clear_step_lem s out))))

  order_kept : KeptBy C Effect.keeps (order s) b ps
  unfolding order entered gives
  order_kept =
      unless_kept C s Effect.keeps _ _ b ps k (λ e. kept_none C _ b ps (ordered_kept C s b ps k))

  compress_kept : (reset : Bool) (n : ℕ) → NotLeftOut (Call.compress reset n) → KeptBy C Effect.moves (compress s reset n) b ps
  unfolding compress perform left_out entered gives
  compress_kept true n h =
      unless_covered C s Effect.moves _ _ _ b ps k (accepted_answered _ _ _) h (λ e out. absurd (true≢false out))
  compress_kept false n h =
      unless_covered C s Effect.moves _ _ _ b ps k (accepted_answered _ _ _) h
      (λ e out. answered_kept C _ Effect.moves _ _ 0 _ b ps (gathered_kept C s b ps k (clear_step_lem s out)))

  reserve_kept : (n : ℕ) → KeptBy C Effect.keeps (reserve s n) b ps
  unfolding reserve entered gives
  reserve_kept n =
      let o = ordered_kept C s b ps k in
      unless_kept C s Effect.keeps _ _ b ps k
      (λ e. unless_kept C (ordered s) Effect.keeps _ _ b ps o (λ f. kept_none C (ordered s) b ps o))

  transfer_out_kept : (d : Store) (g n : ℕ) → NotLeftOut (Call.transfer_out d g n)
      → KeptBy C Effect.strikes_all (of_source (transfer d s g n)) b ps
  unfolding transfer unless_both perform left_out entered gives
  transfer_out_kept d g n =
      cond_both (eqb (transfer_refusal d s g n) 0) _ _
      (λ (o : BothOutcome).
      (refuses o.answer ≡ false → overflows s.header.generation (length (messages s)) ≡ false)
      → KeptBy C Effect.strikes_all (of_source o) b ps)
      (λ t h. kept_none C _ [] ps (removed_all_kept C s b ps k (h refl)))
      (λ t h. kept_none C s b ps k)

  copy_out_kept : (d : Store) → KeptBy C Effect.keeps (of_source (copy d s)) b ps
  unfolding copy unless_both entered gives
  copy_out_kept d =
      cond_both (eqb (copy_refusal d s) 0) _ _ (λ (o : BothOutcome). KeptBy C Effect.keeps (of_source o) b ps)
      (λ t. kept_none C s b ps k) (λ t. kept_none C s b ps k)

  advance_kept : (c : Cursor) → KeptBy C Effect.keeps (advance s c).outcome b ps
  unfolding advance unless_at entered gives
  advance_kept c =
      cond_both (eqb (store_refusal s) 0) _ _ (λ (o : CursorOutcome). KeptBy C Effect.keeps o.outcome b ps)
      (λ t. kept_none C s b ps k) (λ t. kept_none C s b ps k)

  -- A drain that finds a place removes it, and one that does not clears the store.
  drained_kept : (p : ℕ) → ((p ≡ 0 → ⊥) → at (marks s) p ≡ 0 → ⊥)
      → overflows s.header.generation (cond (eqb p 0) (clear_steps s) 1) ≡ false
      → KeptBy C Effect.drains (drained s p) b ps
  unfolding drained entered gives
  drained_kept p live =
      chosen_alike (λ (o : Outcome) (n : ℕ). overflows s.header.generation n ≡ false → KeptBy C Effect.drains o b ps)
      (eqb p 0) (eqb p 0) refl
      (λ e out. kept_none C _ [] ps (cleared_kept C s b ps k (clear_step_lem s out)))
      (λ e out. removed_found C s b ps p k (live (eqb-false _ _ e)) (one_step _ out))

  drain_kept : (c : Cursor) → NotLeftOut (Call.drain c) → KeptBy C Effect.drains (drain s c).outcome b ps
  unfolding drain unless_at perform left_out
  drain_kept c =
      let p = (sought_in s c).place in
      cond_both (eqb (drain_refusal s p) 0) _ _
      (λ (o : CursorOutcome).
      (refuses o.outcome.answer ≡ false
      → overflows s.header.generation (cond (eqb p 0) (clear_steps s) 1) ≡ false)
      → KeptBy C Effect.drains o.outcome b ps)
      (λ t h.
      drained_kept p (sought_live _ (marks s) s.header.m c) (h (accepted_drained s p)))
      (λ t h. kept_none C s b ps k)

  find_first_kept : KeptBy C Effect.keeps (find_first s) b ps
  unfolding find_first entered gives
  find_first_kept = unless_kept C s Effect.keeps _ _ b ps k (λ e. kept_none C s b ps k)

  find_last_kept : KeptBy C Effect.keeps (find_last s) b ps
  unfolding find_last entered gives
  find_last_kept = unless_kept C s Effect.keeps _ _ b ps k (λ e. kept_none C s b ps k)

  set_generation_kept : (g : ℕ) → NotLeftOut (Call.set_generation g) → KeptBy C Effect.keeps (set_generation s g) b ps
  unfolding set_generation perform left_out entered gives
  set_generation_kept g h =
      unless_covered C s Effect.keeps _ _ _ b ps k refl h
      (λ e out. kept_none C _ b ps (regenerated_kept C s b ps g k (ltb-false _ _ out)))

  step_generation_kept : NotLeftOut Call.step_generation → KeptBy C Effect.keeps (step_generation s) b ps
  unfolding step_generation perform left_out entered gives
  step_generation_kept h =
      unless_covered C s Effect.keeps _ _ _ b ps k (accepted_answered _ _ _) h
      (λ e out.
      let later = step_larger generation_width s.header.generation (one_step _ out) in
      answered_kept C _ Effect.keeps _ _ 0 [] b ps (kept_none C _ b ps (regenerated_kept C s b ps _ k (omega arith))))

  audit_kept : KeptBy C Effect.keeps (audit s) b ps
  unfolding audit entered gives
  audit_kept = unless_kept C s Effect.keeps _ _ b ps k (λ e. kept_none C s b ps k)

  -- Transfer and copy into the store are left out unless they are refused; then the store is as it was, or ordered.
  refused_kept : (c : Call) (n : ℕ) → (perform c s).answer ≡ Answer.Refused n → KeptBy C (effect c) (perform c s) b ps
  refused_kept c n e =
      rw (refused c s n e).1
      (kept_none C _ b ps
      (cond_both (leaves_ordered c n) _ _ (λ (u : Store). Kept C u b ps) (λ t. ordered_kept C s b ps k) (λ t. k)))

  always_left_out : (c : Call) → NotLeftOut c → left_out c s ≡ true → KeptBy C (effect c) (perform c s) b ps
  always_left_out c h out = go (perform c s).answer refl h
    where
      go : (a : Answer) → (perform c s).answer ≡ a → (refuses a ≡ false → left_out c s ≡ false)
          → KeptBy C (effect c) (perform c s) b ps
      go (Answer.Done p v) e h = absurd (true≢false (sym out ∙ h refl))
      go (Answer.Overflow p v) e h = absurd (true≢false (sym out ∙ h refl))
      go (Answer.Refused n) e h = refused_kept c n e

  pub call_kept : (c : Call) → NotLeftOut c → KeptBy C (effect c) (perform c s) b ps
  unfolding perform effect
  call_kept (Call.insert v) h = insert_kept v
  call_kept (Call.insert_reallocating v) h = insert_reallocating_kept v
  call_kept (Call.remove p) h = remove_kept p h
  call_kept (Call.remove_index i) h = remove_index_kept i h
  call_kept (Call.invalidate p) h = invalidate_kept p h
  call_kept (Call.get p) h = get_kept p
  call_kept (Call.put p v) h = put_kept p v
  call_kept Call.clear h = clear_kept h
  call_kept Call.order h = order_kept
  call_kept (Call.compress reset n) h = compress_kept reset n h
  call_kept (Call.reserve n) h = reserve_kept n
  call_kept (Call.transfer_out d g n) h = transfer_out_kept d g n h
  call_kept (Call.transfer_in t g n) h = always_left_out (Call.transfer_in t g n) h (unfold left_out in refl)
  call_kept (Call.copy_out d) h = copy_out_kept d
  call_kept (Call.copy_in t) h = always_left_out (Call.copy_in t) h (unfold left_out in refl)
  call_kept (Call.advance c) h = advance_kept c
  call_kept (Call.drain c) h = drain_kept c h
  call_kept Call.find_first h = find_first_kept
  call_kept Call.find_last h = find_last_kept
  call_kept (Call.set_generation g) h = set_generation_kept g h
  call_kept Call.step_generation h = step_generation_kept h
  call_kept Call.audit h = audit_kept
