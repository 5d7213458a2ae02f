-- No call changes the words above the stack, except as a push writes them: a place above both the stack and what the
-- call pushes has the words that it had. What a pop writes is in the stack as it was before the call. Assumes nothing.
use Prim.Native.Nat.{ℕ, zero, suc, ◌+◌, ◌≤◌, ◌<◌}
use mathlib.Core.Path.{◌≡◌, refl, ◌∙◌}
use mathlib.Core.List.Memᴰ
use mathlib.Core.List.{List, [], ◌∷◌, Memᴰ}
use mathlib.Core.Bool.{cond}
use mathlib.Core.Logic.{inl, inr}
use native.Mathlib.Omega.{arith}
use lib.ListN.{length, replicate, length-append, length-map, length-replicate}
use lib.Seq.{sets}
use lib.Dec.{eqb, ltb}
use borrow.Author.Tests.{ltb-false, eqb-true, eqb-false}
use Rattle.std.proofs.lemmas.Bool.{cond_both}
use Rattle.model.specs.Store.{Tables, Store, at, write, words_at, placed, zeroed_to, zeroed, marks}
use Rattle.model.specs.Freelist.{Trimmed, trimmed, chained, free, live_places, last_live}
use Rattle.model.specs.Calls.{Outcome, BothOutcome, CursorOutcome, Sought, unless, unless_both, unless_at, inserted, insert, insert_reallocating, removed, remove, remove_index, invalidate, get, put, cleared, clear, ordered, order, reserve, laid, messages, gathered, compress, removed_all, transfer, up_to, copied, copy, moved, sought, advance, drained, drain, find_first, find_last, set_generation, step_generation, audit}
use Rattle.model.specs.Perform.{Call, perform}
use Rattle.model.specs.declared.Cursor.{Cursor}
use Rattle.model.proofs.Places.{at_write_other}
use Rattle.model.proofs.Laying.{sets_above}
use Rattle.model.proofs.Refusals.{HeaderFits, insert_fits, insert_reallocating_fits, remove_valid, remove_index_valid, access_valid}

-- The highest place that a call pushes, or 0: an insertion without a root, a transfer or a copy into the store.
abbrev pub pushed_to : Call → Store → ℕ
pushed_to (Call.insert v) s = cond (eqb s.header.root 0) (s.header.m + 1) 0
pushed_to (Call.insert_reallocating v) s = cond (eqb s.header.root 0) (s.header.m + 1) 0
pushed_to (Call.remove p) s = 0
pushed_to (Call.remove_index i) s = 0
pushed_to (Call.invalidate p) s = 0
pushed_to (Call.get p) s = 0
pushed_to (Call.put p v) s = 0
pushed_to Call.clear s = 0
pushed_to Call.order s = 0
pushed_to (Call.compress reset n) s = 0
pushed_to (Call.reserve n) s = 0
pushed_to (Call.transfer_out d g n) s = 0
pushed_to (Call.transfer_in t g n) s = length (messages t)
pushed_to (Call.copy_out d) s = 0
pushed_to (Call.copy_in t) s = last_live (marks t) t.header.m
pushed_to (Call.advance c) s = 0
pushed_to (Call.drain c) s = 0
pushed_to Call.find_first s = 0
pushed_to Call.find_last s = 0
pushed_to (Call.set_generation g) s = 0
pushed_to Call.step_generation s = 0
pushed_to Call.audit s = 0

-- A table's word at a place above what is written.
above_write : (l : List ℕ) (q x p : ℕ) → q < p → at (write l q x) p ≡ at l p
above_write l q x p h = at_write_other l q p x (λ e. omega arith)

above_zeroed_to : (n : ℕ) (l : List ℕ) (p : ℕ) → n < p → at (zeroed_to n l) p ≡ at l p
unfolding zeroed_to
above_zeroed_to zero l p h = refl
above_zeroed_to (suc n) l p h = above_write (zeroed_to n l) (suc n) 0 p h ∙ above_zeroed_to n l p (omega arith)

above_sets : (xs l : List ℕ) (i p : ℕ) → i + length xs < p → at (sets l i xs) p ≡ at l p
unfolding at
above_sets xs l i zero h = refl
above_sets xs l i (suc q) h = sets_above l i xs q 0 (omega arith)

above_trimmed : (k : List ℕ) (n : ℕ) (l v : List ℕ) (p : ℕ) → n < p
    → (at (trimmed k n l v).links p ≡ at l p) × (at (trimmed k n l v).values p ≡ at v p)
unfolding trimmed
above_trimmed k zero l v p h = (refl, refl)
above_trimmed k (suc n) l v p h =
    let e = above_trimmed k n (write l (suc n) 0) (write v (suc n) 0) p (omega arith) in
    cond_both (free k (suc n)) _ _ (λ (t : Trimmed). (at t.links p ≡ at l p) × (at t.values p ≡ at v p))
    (λ x. (e.0 ∙ above_write l (suc n) 0 p h, e.1 ∙ above_write v (suc n) 0 p h))
    (λ x. (refl, refl))

above_chained : (k : List ℕ) (n : ℕ) (l : List ℕ) (r p : ℕ) → n < p → at (chained k n l r).links p ≡ at l p
unfolding chained
above_chained k zero l r p h = refl
above_chained k (suc n) l r p h =
    above_chained k n _ _ p (omega arith)
    ∙ cond_both (free k (suc n)) _ _ (λ (t : List ℕ). at t p ≡ at l p) (λ x. above_write l (suc n) _ p h) (λ x. refl)

-- A trimmed stack is no longer than it was.
pub trimmed_low : (k : List ℕ) (n : ℕ) (l v : List ℕ) → (trimmed k n l v).m ≤ n
unfolding trimmed
trimmed_low k zero l v = omega arith
trimmed_low k (suc n) l v =
    cond_both (free k (suc n)) _ _ (λ (t : Trimmed). t.m ≤ suc n)
    (λ x. omega (arith, trimmed_low k n (write l (suc n) 0) (write v (suc n) 0)))
    (λ x. omega arith)

-- The places of messages are in the stack, and no more than it has.
pub live_places_low : (k : List ℕ) (n q : ℕ) → Memᴰ q (live_places k n) → q ≤ n
unfolding live_places
live_places_low k zero q x = absurd (Memᴰ.not-nil x)
live_places_low k (suc n) q x =
    elim (Memᴰ.append_cases (live_places k n) x) [
      | inl y ↦ omega (arith, live_places_low k n q y)
      | inr y ↦
          cond_both (free k (suc n)) _ _ (λ (ps : List ℕ). Memᴰ q ps → q ≤ suc n)
          (λ e z. absurd (Memᴰ.not-nil z))
          (λ e z. omega (arith, Memᴰ.eq_of_singleton z))
          y
    ]

pub live_places_few : (k : List ℕ) (n : ℕ) → length (live_places k n) ≤ n
unfolding live_places
live_places_few k zero = omega arith
live_places_few k (suc n) = rw length-append (omega (arith, live_places_few k n, last))
  where
    last : length (cond (free k (suc n)) [] (suc n ∷ [])) ≤ 1
    last = cond_both (free k (suc n)) _ _ (λ (ps : List ℕ). length ps ≤ 1) (λ e. omega arith) (λ e. omega arith)

pub length_up_to : (n : ℕ) → length (up_to n) ≡ n
unfolding up_to
length_up_to zero = refl
length_up_to (suc n) = rw length-append (omega (arith, length_up_to n))

-- A cursor finds a place of the stack, or 0.
pub sought_low : (j : ℕ) (k : List ℕ) (m : ℕ) (c : Cursor) → (sought j k m c).place ≤ m
unfolding sought
sought_low zero k m c = omega arith
sought_low (suc j) k m c =
    cond_both (eqb c.index 0) _ _ (λ (f : Sought). f.place ≤ m)
    (λ e. omega arith)
    (λ e. cond_both (ltb m c.index) _ _ (λ (f : Sought). f.place ≤ m)
    (λ x. omega arith)
    (λ x. cond_both (free k c.index) _ _ (λ (f : Sought). f.place ≤ m)
    (λ y. sought_low j k m (moved c))
    (λ y. ltb-false m c.index x)))

-- A place that it finds is live.
pub sought_live : (j : ℕ) (k : List ℕ) (m : ℕ) (c : Cursor) → ((sought j k m c).place ≡ 0 → ⊥) → at k (sought j k m c).place ≡ 0 → ⊥
unfolding sought
sought_live zero k m c = λ h. absurd (h refl)
sought_live (suc j) k m c =
    let Live : Sought → Type 0 = λ (f : Sought). (f.place ≡ 0 → ⊥) → at k f.place ≡ 0 → ⊥ in
    cond_both (eqb c.index 0) _ _ Live (λ e h. absurd (h refl))
    (λ e. cond_both (ltb m c.index) _ _ Live (λ x h. absurd (h refl))
    (λ x. cond_both (free k c.index) _ _ Live (λ y. sought_live j k m (moved c)) (λ y h. eqb-false _ _ y)))

-- The words of a place above what is written.
pub above_placed : (t : Tables) (q g l v p : ℕ) → q < p → words_at (placed t q g l v) p ≡ words_at t p
unfolding placed
above_placed t q g l v p h = simp above_write

pub above_zeroed : (t : Tables) (n p : ℕ) → n < p → words_at (zeroed t n) p ≡ words_at t p
unfolding zeroed
above_zeroed t n p h = simp above_zeroed_to

pub above_laid : (t : Tables) (gs vs : List ℕ) (p : ℕ) → length gs < p → length vs < p → words_at (laid t gs vs) p ≡ words_at t p
unfolding laid
above_laid t gs vs p h k =
    rw (
      above_sets gs t.generations 0 p (omega arith),
      above_sets (replicate (length gs) 0) t.links 0 p (rw length-replicate (omega arith)),
      above_sets vs t.values 0 p (omega arith),
    )

pub above_ordered : (s : Store) (p : ℕ) → s.header.m < p → words_at (ordered s).tables p ≡ words_at s.tables p
unfolding ordered
above_ordered s p h =
    let t = trimmed (marks s) s.header.m s.tables.links s.tables.values in
    let e = above_trimmed (marks s) s.header.m s.tables.links s.tables.values p h in
    let low = trimmed_low (marks s) s.header.m s.tables.links s.tables.values in
    let f = above_chained (marks s) t.m t.links 0 p (omega arith) in
    cc

pub above_inserted : (s : Store) (v p : ℕ) → HeaderFits s → s.header.m < p
    → cond (eqb s.header.root 0) (s.header.m + 1) 0 < p
    → words_at (inserted s v).store.tables p ≡ words_at s.tables p
unfolding inserted
above_inserted s v p fits h k =
    cond_both (eqb s.header.root 0) _ _ (λ (o : Outcome). words_at o.store.tables p ≡ words_at s.tables p)
    (λ e. above_placed _ _ _ _ _ p (rw e at k))
    (λ e. above_placed _ _ _ _ _ p (omega arith))

pub above_removed : (s : Store) (q p : ℕ) → q < p → words_at (removed s q).store.tables p ≡ words_at s.tables p
unfolding removed
above_removed s q p h =
    cond_both (eqb q s.header.m) _ _ (λ (t : Store). words_at t.tables p ≡ words_at s.tables p)
    (λ e. above_placed _ _ _ _ _ p h)
    (λ e. above_placed _ _ _ _ _ p h)

pub above_removed_all : (s : Store) (qs : List ℕ) (p : ℕ) → ((q : ℕ) → Memᴰ q qs → q < p)
    → words_at (removed_all s qs).tables p ≡ words_at s.tables p
unfolding removed_all
above_removed_all s [] p h = refl
above_removed_all s (q ∷ qs) p h =
    above_removed_all (removed s q).store qs p (λ r x. h r (Memᴰ.tail x)) ∙ above_removed s q p (h q (Memᴰ.head refl))

pub above_cleared : (s : Store) (g p : ℕ) → s.header.m < p → words_at (cleared s g).tables p ≡ words_at s.tables p
unfolding cleared
above_cleared s g p h = above_zeroed _ _ p h

pub above_gathered : (d s : Store) (g p : ℕ) → d.header.m < p → length (messages s) < p
    → words_at (gathered d s g).tables p ≡ words_at d.tables p
unfolding gathered
above_gathered d s g p h k =
    above_laid _ _ _ p (rw length-replicate k) (rw length-map k) ∙ above_zeroed _ _ p h

pub above_copied : (d s : Store) (p : ℕ) → d.header.m < p → last_live (marks s) s.header.m < p
    → words_at (copied d s).tables p ≡ words_at d.tables p
unfolding copied
above_copied d s p h k =
    above_ordered _ p k
    ∙ above_laid _ _ _ p (rw (length-map, length_up_to) k) (rw (length-map, length_up_to) k)
    ∙ above_zeroed _ _ p h

pub above_drained : (s : Store) (q p : ℕ) → s.header.m < p → q < p
    → words_at (drained s q).store.tables p ≡ words_at s.tables p
unfolding drained
above_drained s q p h k =
    cond_both (eqb q 0) _ _ (λ (o : Outcome). words_at o.store.tables p ≡ words_at s.tables p)
    (λ e. above_cleared s _ p h)
    (λ e. above_removed s q p k)

-- A call that is turned down leaves the words as they are, and one that is not knows that its tests gave 0.
above_unless : (n : ℕ) (s : Store) (o : Outcome) (p : ℕ)
    → (n ≡ 0 → words_at o.store.tables p ≡ words_at s.tables p)
    → words_at (unless n s o).store.tables p ≡ words_at s.tables p
unfolding unless
above_unless n s o p x =
    cond_both (eqb n 0) _ _ (λ (o : Outcome). words_at o.store.tables p ≡ words_at s.tables p)
    (λ e. x (eqb-true n 0 e))
    (λ e. refl)

above_at : (n : ℕ) (c : Cursor) (s : Store) (o : CursorOutcome) (p : ℕ)
    → words_at o.outcome.store.tables p ≡ words_at s.tables p
    → words_at (unless_at n c s o).outcome.store.tables p ≡ words_at s.tables p
unfolding unless_at
above_at n c s o p x =
    cond_both (eqb n 0) _ _ (λ (o : CursorOutcome). words_at o.outcome.store.tables p ≡ words_at s.tables p) (λ e. x) (λ e. refl)

-- A destination that is turned down may be left ordered.
above_destination : (n : ℕ) (d s : Store) (o : BothOutcome) (p : ℕ) → d.header.m < p
    → words_at o.destination.tables p ≡ words_at d.tables p
    → words_at (unless_both n d s o).destination.tables p ≡ words_at d.tables p
unfolding unless_both
above_destination n d s o p h x =
    cond_both (eqb n 0) _ _ (λ (o : BothOutcome). words_at o.destination.tables p ≡ words_at d.tables p)
    (λ e. x)
    (λ e. cond_both (eqb n 9) _ _ (λ (t : Store). words_at t.tables p ≡ words_at d.tables p) (λ f. above_ordered d p h) (λ f. refl))

above_source : (n : ℕ) (d s : Store) (o : BothOutcome) (p : ℕ)
    → words_at o.source.tables p ≡ words_at s.tables p
    → words_at (unless_both n d s o).source.tables p ≡ words_at s.tables p
unfolding unless_both
above_source n d s o p x =
    cond_both (eqb n 0) _ _ (λ (o : BothOutcome). words_at o.source.tables p ≡ words_at s.tables p) (λ e. x) (λ e. refl)

-- Whatever the call, and whatever the store.
pub above_kept : (c : Call) (s : Store) (p : ℕ) → s.header.m < p → pushed_to c s < p
    → words_at (perform c s).store.tables p ≡ words_at s.tables p
unfolding perform insert insert_reallocating remove remove_index invalidate get put clear order compress reserve transfer copy advance drain find_first find_last set_generation step_generation audit
above_kept (Call.insert v) s p h k = above_unless _ s _ p (λ e. above_inserted s v p (insert_fits s e).header h k)
above_kept (Call.insert_reallocating v) s p h k =
    above_unless _ s _ p (λ e. above_inserted s v p (insert_reallocating_fits s e).header h k)
above_kept (Call.remove q) s p h k = above_unless _ s _ p (λ e. above_removed s _ p (omega (arith, (remove_valid s q e).index.low)))
above_kept (Call.remove_index i) s p h k = above_unless _ s _ p (λ e. above_removed s i p (omega (arith, (remove_index_valid s i e).low)))
above_kept (Call.invalidate q) s p h k =
    above_unless _ s _ p (λ e. rw (above_write _ q.index _ p (omega (arith, (access_valid s q e).index.low))))
above_kept (Call.get q) s p h k = above_unless _ s _ p (λ e. refl)
above_kept (Call.put q v) s p h k =
    above_unless _ s _ p (λ e. rw (above_write _ q.index v p (omega (arith, (access_valid s q e).index.low))))
above_kept Call.clear s p h k = above_unless _ s _ p (λ e. above_cleared s _ p h)
above_kept Call.order s p h k = above_unless _ s _ p (λ e. above_ordered s p h)
above_kept (Call.compress reset n) s p h k =
    above_unless _ s _ p (λ e. above_gathered s s _ p h (omega (arith, live_places_few (marks s) s.header.m)))
above_kept (Call.reserve n) s p h k =
    above_unless _ s _ p (λ e. above_unless _ (ordered s) _ p (λ f. refl) ∙ above_ordered s p h)
above_kept (Call.transfer_out d g n) s p h k =
    above_source _ d s _ p (above_removed_all s _ p (λ q x. omega (arith, live_places_low (marks s) s.header.m q x)))
above_kept (Call.transfer_in t g n) s p h k = above_destination _ s t _ p h (above_gathered s t g p h k)
above_kept (Call.copy_out d) s p h k = above_source _ d s _ p refl
above_kept (Call.copy_in t) s p h k = above_destination _ s t _ p h (above_copied s t p h k)
above_kept (Call.advance c) s p h k = above_at _ c s _ p refl
above_kept (Call.drain c) s p h k =
    above_at _ c s _ p (above_drained s _ p h (omega (arith, sought_low (s.header.m + 1) (marks s) s.header.m c)))
above_kept Call.find_first s p h k = above_unless _ s _ p (λ e. refl)
above_kept Call.find_last s p h k = above_unless _ s _ p (λ e. refl)
above_kept (Call.set_generation g) s p h k = above_unless _ s _ p (λ e. refl)
above_kept Call.step_generation s p h k = above_unless _ s _ p (λ e. refl)
above_kept Call.audit s p h k = above_unless _ s _ p (λ e. refl)
