-- A single-message call leaves the three words of every other message's place as they were. Assumes nothing.
use Prim.Native.Nat.{ℕ, ◌+◌}
use mathlib.Core.Path.{◌≡◌, refl, ap, sym, ◌∙◌, subst}
use mathlib.Core.List.{List, Memᴰ}
use mathlib.Core.Bool.{Bool, true, false, true≢false, false≢true}
use native.Mathlib.Omega.{arith}
use lib.Dec.{eqb}
use borrow.Author.Tests.{eqb-true, eqb-false}
use Rattle.std.proofs.lemmas.Bool.{cond_both}
use Rattle.model.specs.Store.{Store, tables, store, ptr, at, write, words_at, marks, no_ptr}
use Rattle.model.specs.Calls.{Outcome, outcome, unless, answered, done, inserted, removed, ptr_at, CursorOutcome, unless_at, drained, drain_refusal, sought_in, insert, insert_reallocating, remove, remove_index, invalidate, get, put, drain}
use Rattle.model.specs.Perform.{Call, perform}
use Rattle.model.specs.declared.Ptr.{Ptr}
use Rattle.model.specs.declared.Header.{Header}
use Rattle.model.specs.Answer.{Answer}
use Rattle.model.specs.declared.Cursor.{Cursor}
use Rattle.model.proofs.Places.{at_write_other}
use Rattle.model.proofs.Refusals.{PtrValid, remove_valid, access_valid}
use Rattle.model.proofs.Removals.{removed_overflow}
use Rattle.model.proofs.Shape.{shaped_root}
use Rattle.book.specs.Book.{Line, Effect, has_ptr, single, single_by, concerns, concerns_by, effect}
use Rattle.book.proofs.Kept.{Tidy, Lines}
use Rattle.book.proofs.Taken.{line_live, line_here}
use Rattle.book.proofs.Placing.{placed_other}

-- What a call of effect f leaves of the store s, whose book is b: the places of messages that it is not about are as
-- they were.
abbrev pub ApartBy : Effect → Outcome → Store → List Line → Type 0
ApartBy f o s b =
    single_by f o.answer ≡ true → (l : Line) → Memᴰ l b → concerns_by f o.answer l ≡ false
    → words_at o.store.tables l.ptr.index ≡ words_at s.tables l.ptr.index

-- It is so of a call that leaves the store as it is, of one that is refused, and of one that is no single-message call.
pub apart_same : (f : Effect) (a : Answer) (s : Store) (b : List Line) → ApartBy f (outcome a s) s b
apart_same f a s b one l x h = refl

pub apart_unless : (f : Effect) (n : ℕ) (o : Outcome) (s : Store) (b : List Line) → (n ≡ 0 → ApartBy f o s b) → ApartBy f (unless n s o) s b
unfolding unless
apart_unless f n o s b h =
    cond_both (eqb n 0) _ _ (λ (u : Outcome). ApartBy f u s b) (λ t. h (eqb-true _ _ t)) (λ t. apart_same f (Answer.Refused n) s b)

-- A call whose answer is done or overflow is about the same messages by either.
pub apart_answered : (f : Effect) (over : Bool) (q : Ptr) (v : ℕ) (u s : Store) (b : List Line)
    → (single f q ≡ true → (l : Line) → Memᴰ l b → concerns f q l ≡ false
    → words_at u.tables l.ptr.index ≡ words_at s.tables l.ptr.index)
    → ApartBy f (outcome (answered over q v) u) s b
unfolding answered
apart_answered f over q v u s b h =
    cond_both over _ _ (λ (a : Answer). ApartBy f (outcome a u) s b) (λ t. h) (λ t. h)

-- Insert fills a place that is not live.
pub inserted_apart : (C : ℕ) (s : Store) (b : List Line) (v : ℕ) → Tidy C s → Lines s b → ApartBy (Effect.adds v) (inserted s v) s b
unfolding inserted
inserted_apart C s b v t h =
    cond_both (eqb s.header.root 0) _ _ (λ (o : Outcome). ApartBy (Effect.adds v) o s b)
    (λ e one l x c.
    placed_other s.tables (s.header.m + 1) s.header.generation 0 v l.ptr.index
    (λ same. line_live s b l h x (ap (at (marks s)) same ∙ t.above_free (s.header.m + 1) (omega arith))))
    (λ e one l x c.
    let r = shaped_root _ _ _ _ _ t.shaped (eqb-false _ _ e) in
    placed_other s.tables s.header.root s.header.generation 0 v l.ptr.index
    (λ same. line_live s b l h x (ap (at (marks s)) same ∙ r.free.free)))

-- A removal changes its own place alone.
pub removed_other : (s : Store) (i p : ℕ) → (p ≡ i → ⊥) → words_at (removed s i).store.tables p ≡ words_at s.tables p
unfolding removed
removed_other s i p d =
    cond_both (eqb i s.header.m) _ _ (λ (u : Store). words_at u.tables p ≡ words_at s.tables p)
    (λ e. placed_other s.tables i 0 0 0 p d)
    (λ e. placed_other s.tables i 0 _ 0 p d)

-- A line that has not the handle p, of its place's generation, is elsewhere.
pub elsewhere : (s : Store) (b : List Line) (p : Ptr) (l : Line) → Lines s b → at (marks s) p.index ≡ p.generation → Memᴰ l b
    → has_ptr p l ≡ false
    → l.ptr.index ≡ p.index → ⊥
elsewhere s b p l h now x c e = true≢false (sym (line_here s p l now (h.live l x) e) ∙ c)

-- Remove by handle and by index, and a drain that answers a handle: another line is elsewhere.
pub removed_apart : (f : Effect) (s : Store) (b : List Line) (i : ℕ)
    → ((l : Line) → Memᴰ l b → concerns f (ptr_at s i) l ≡ false → l.ptr.index ≡ i → ⊥)
    → ApartBy f (removed s i) s b
removed_apart f s b i h =
    subst (λ (a : Answer). ApartBy f (outcome a (removed s i).store) s b) (sym (removed_overflow s i))
    (apart_answered f _ (ptr_at s i) _ (removed s i).store s b (λ one l x c. removed_other s i l.ptr.index (h l x c)))

pub remove_apart : (s : Store) (b : List Line) (p : Ptr) → Lines s b → PtrValid s p
    → ApartBy (Effect.strikes p) (removed s p.index) s b
unfolding concerns
remove_apart s b p h v = removed_apart (Effect.strikes p) s b p.index (λ l x c. elsewhere s b p l h v.generation x c)

pub remove_index_apart : (s : Store) (b : List Line) (i : ℕ) → ApartBy (Effect.strikes_at i) (removed s i) s b
unfolding concerns
remove_index_apart s b i = removed_apart (Effect.strikes_at i) s b i (λ l x c. eqb-false _ _ c)

pub drain_apart : (s : Store) (b : List Line) (i : ℕ) → Lines s b → ApartBy Effect.drains (removed s i) s b
unfolding concerns
drain_apart s b i h = removed_apart Effect.drains s b i (λ l x c. elsewhere s b (ptr_at s i) l h refl x c)

-- Invalidate writes a generation, and put a value, at its own place alone.
pub invalidate_apart : (s : Store) (b : List Line) (p : Ptr) (over : Bool) (g : ℕ) (k : Header) → Lines s b → PtrValid s p
    → ApartBy (Effect.replaces_ptr p)
    (outcome (answered over (ptr p.index g) 0)
    (store (tables (write s.tables.generations p.index g) s.tables.links s.tables.values) k))
    s b
unfolding concerns
invalidate_apart s b p over g k h v =
    apart_answered (Effect.replaces_ptr p) over (ptr p.index g) 0
    (store (tables (write s.tables.generations p.index g) s.tables.links s.tables.values) k) s b
    (λ one l x c. rw (at_write_other s.tables.generations p.index l.ptr.index g (elsewhere s b p l h v.generation x c)) refl)

pub put_apart : (s : Store) (b : List Line) (p : Ptr) (v : ℕ) → Lines s b → PtrValid s p
    → ApartBy (Effect.replaces_value p v)
    (outcome done (store (tables s.tables.generations s.tables.links (write s.tables.values p.index v)) s.header))
    s b
unfolding concerns
put_apart s b p v h valid one l x c =
    rw (at_write_other s.tables.values p.index l.ptr.index v (elsewhere s b p l h valid.generation x c)) refl

module _ (C : ℕ) (s : Store) (b : List Line) (t : Tidy C s) (h : Lines s b) where
  -- A drain that finds a place removes it; at its end it is no single-message call.
  drained_apart : (c : Cursor) → ApartBy Effect.drains (drained s (sought_in s c).place) s b
  unfolding drained single
  drained_apart c =
      let p = (sought_in s c).place in
      cond_both (eqb p 0) _ _ (λ (o : Outcome). ApartBy Effect.drains o s b)
      (λ e one. absurd (false≢true one)) (λ e. drain_apart s b p h)

  drain_call_apart : (c : Cursor) → ApartBy Effect.drains (drain s c).outcome s b
  unfolding drain unless_at
  drain_call_apart c =
      cond_both (eqb (drain_refusal s (sought_in s c).place) 0) _ _ (λ (o : CursorOutcome). ApartBy Effect.drains o.outcome s b)
      (λ e. drained_apart c) (λ e. apart_same Effect.drains (Answer.Refused (drain_refusal s (sought_in s c).place)) s b)

  -- A call that is about no single message.
  other_apart : (c : Call) → ((q : Ptr) → single (effect c) q ≡ false) → ApartBy (effect c) (perform c s) s b
  other_apart c none one = absurd (false≢true (sym (never (perform c s).answer) ∙ one))
    where
      never : (a : Answer) → single_by (effect c) a ≡ false
      never (Answer.Done q v) = none q
      never (Answer.Overflow q v) = none q
      never (Answer.Refused n) = none no_ptr

  pub call_apart : (c : Call) → ApartBy (effect c) (perform c s) s b
  unfolding effect perform insert insert_reallocating remove remove_index invalidate get put single
  call_apart (Call.insert v) = apart_unless (Effect.adds v) _ _ s b (λ e. inserted_apart C s b v t h)
  call_apart (Call.insert_reallocating v) = apart_unless (Effect.adds v) _ _ s b (λ e. inserted_apart C s b v t h)
  call_apart (Call.remove p) = apart_unless (Effect.strikes p) _ _ s b (λ e. remove_apart s b p h (remove_valid s p e))
  call_apart (Call.remove_index i) = apart_unless (Effect.strikes_at i) _ _ s b (λ e. remove_index_apart s b i)
  call_apart (Call.invalidate p) =
      apart_unless (Effect.replaces_ptr p) _ _ s b (λ e. invalidate_apart s b p _ _ s.header h (access_valid s p e))
  call_apart (Call.get p) = apart_unless Effect.reads _ _ s b (λ e. apart_same Effect.reads (Answer.Done p (at s.tables.values p.index)) s b)
  call_apart (Call.put p v) = apart_unless (Effect.replaces_value p v) _ _ s b (λ e. put_apart s b p v h (access_valid s p e))
  call_apart Call.clear = other_apart Call.clear (λ q. refl)
  call_apart Call.order = other_apart Call.order (λ q. refl)
  call_apart (Call.compress reset n) = other_apart (Call.compress reset n) (λ q. refl)
  call_apart (Call.reserve n) = other_apart (Call.reserve n) (λ q. refl)
  call_apart (Call.transfer_out d g n) = other_apart (Call.transfer_out d g n) (λ q. refl)
  call_apart (Call.transfer_in d g n) = other_apart (Call.transfer_in d g n) (λ q. refl)
  call_apart (Call.copy_out d) = other_apart (Call.copy_out d) (λ q. refl)
  call_apart (Call.copy_in d) = other_apart (Call.copy_in d) (λ q. refl)
  call_apart (Call.advance c) = other_apart (Call.advance c) (λ q. refl)
  call_apart (Call.drain c) = drain_call_apart c
  call_apart Call.find_first = other_apart Call.find_first (λ q. refl)
  call_apart Call.find_last = other_apart Call.find_last (λ q. refl)
  call_apart (Call.set_generation g) = other_apart (Call.set_generation g) (λ q. refl)
  call_apart Call.step_generation = other_apart Call.step_generation (λ q. refl)
  call_apart Call.audit = other_apart Call.audit (λ q. refl)
