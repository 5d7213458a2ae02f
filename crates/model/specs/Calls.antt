-- Section "The calls": each call is the tests that it is turned down by, in checking order, and then what it does.
use Rattle.std.specs.Prelude.{ℕ, zero, suc, ◌+◌, ◌-◌, ◌^◌, List, [], ◌∷◌, ◌++◌, map, Bool, true, false, cond, ◌||◌, length, replicate, ltb, eqb}
use Rattle.std.proofs.lemmas.List.Edits.{sets}
use Rattle.model.specs.Store.{Tables, Store, tables, header, store, ptr, no_ptr, at, write, filled, freed, popped, zeroed, marks, max_index}
use Rattle.model.specs.Freelist.{free, live_places, live_count, first_live, last_live, next_free, link_to, trimmed, chained}
use Rattle.model.specs.Tests.{first_holding}
use Rattle.model.specs.Audit.{verdict}
use Rattle.model.specs.Refusals.{tables_unfit, header_unfit, zero_number, zero_ptr, audit_fails, count_wrong, root_unsound, removal_unsound, journal_short, invalid_index, invalid_ptr, not_within_capacity, beyond_index, beyond_capacity, full_capacity}
use Rattle.model.specs.declared.Ptr.{Ptr}
use Rattle.model.specs.declared.Header.{Header}
use Rattle.model.specs.declared.Cursor.{Cursor}
use Rattle.model.specs.declared.Row.{Row}
use Rattle.model.specs.declared.GenerationStep.{GenerationStep}
use Rattle.model.specs.Answer.{Answer}

-- What a call leaves: its answer, the store, and the rows that it wrote into the journal.
pub record Outcome : Type 0 where
  pub answer : Answer
  pub store : Store
  pub rows : List Row

abbrev pub outcome : Answer → Store → Outcome
outcome a s = record { answer = a; store = s; rows = [] }

-- A call that is turned down by number n, where n is not 0, and then leaves the store s.
unfoldable pub unless : ℕ → Store → Outcome → Outcome
unless n s o = cond (eqb n 0) o (outcome (Answer.Refused n) s)

-- Done, or overflow where the generation step overflowed.
unfoldable pub answered : Bool → Ptr → ℕ → Answer
answered over p v = cond over (Answer.Overflow p v) (Answer.Done p v)

-- The handle of the message at place p. Place 0 reads as 0, so that its handle is none.
abbrev pub ptr_at : Store → ℕ → Ptr
ptr_at s p = ptr p (at s.tables.generations p)

-- Done, with neither handle nor value.
abbrev pub done : Answer
done = Answer.Done no_ptr 0

-- The number of bits of a generation.
abbrev pub generation_width : ℕ
generation_width = 32

-- The generation step at a width of w bits: it adds 1, and from the largest number it goes to 2 and overflows.
unfoldable pub step_at : ℕ → ℕ → GenerationStep
step_at w g =
    cond (eqb g (2 ^ w - 1)) (record { generation = 2; overflow = true }) (record { generation = g + 1; overflow = false })

abbrev pub step : ℕ → GenerationStep
step g = step_at generation_width g

abbrev pub unstepped : ℕ → GenerationStep
unstepped g = record { generation = g; overflow = false }

-- Insert (`insert_within_capacity`): the root place if there is one, else place m + 1. The handle carries the current
-- generation.
unfoldable pub insert_refusal : Store → ℕ
insert_refusal s =
    first_holding ((1, tables_unfit s.tables) ∷ (2, header_unfit s) ∷ (4, root_unsound s) ∷ (7, not_within_capacity s) ∷ [])

-- `insert_reallocating` does the same, but tests 9 before 7.
unfoldable pub insert_reallocating_refusal : Store → ℕ
insert_reallocating_refusal s =
    first_holding
    ((1, tables_unfit s.tables)
    ∷ (2, header_unfit s)
    ∷ (4, root_unsound s)
    ∷ (9, full_capacity s)
    ∷ (7, not_within_capacity s)
    ∷ [])

unfoldable pub inserted : Store → ℕ → Outcome
inserted s v =
    let h = s.header in
    let g = h.generation in
    cond (eqb h.root 0)
    (outcome (Answer.Done (ptr (h.m + 1) g) v)
    (store (filled s.tables (h.m + 1) g v) (header (h.len + 1) (h.m + 1) 0 g)))
    (outcome (Answer.Done (ptr h.root g) v)
    (store (filled s.tables h.root g v) (header (h.len + 1) h.m (next_free s.tables.links h.root) g)))

unfoldable pub insert : Store → ℕ → Outcome
insert s v = unless (insert_refusal s) s (inserted s v)

unfoldable pub insert_reallocating : Store → ℕ → Outcome
insert_reallocating s v = unless (insert_reallocating_refusal s) s (inserted s v)

-- Remove (`remove_internal` with increment): place m is popped and the chain is untouched. Any other place becomes the
-- root, linked to the old root or to itself. Then the generation steps.
unfoldable pub removed : Store → ℕ → Outcome
removed s p =
    let h = s.header in
    let stepped = step h.generation in
    outcome (answered stepped.overflow (ptr_at s p) (at s.tables.values p))
    (cond (eqb p h.m)
    (store (popped s.tables p) (header (h.len - 1) (h.m - 1) h.root stepped.generation))
    (store (freed s.tables p (link_to h.root p)) (header (h.len - 1) h.m p stepped.generation)))

unfoldable pub remove_refusal : Store → Ptr → ℕ
remove_refusal s p =
    first_holding
    ((1, tables_unfit s.tables)
    ∷ (2, header_unfit s)
    ∷ (3, zero_ptr p)
    ∷ (4, removal_unsound s p.index)
    ∷ (6, invalid_ptr s p)
    ∷ [])

unfoldable pub remove : Store → Ptr → Outcome
remove s p = unless (remove_refusal s p) s (removed s p.index)

-- `remove_inx`, by index alone.
unfoldable pub remove_index_refusal : Store → ℕ → ℕ
remove_index_refusal s i =
    first_holding
    ((1, tables_unfit s.tables)
    ∷ (2, header_unfit s)
    ∷ (3, zero_number i)
    ∷ (4, removal_unsound s i)
    ∷ (6, invalid_index s i)
    ∷ [])

unfoldable pub remove_index : Store → ℕ → Outcome
remove_index s i = unless (remove_index_refusal s i) s (removed s i)

-- Invalidate, get and put want a live place of equal generation.
unfoldable pub ptr_refusal : Store → Ptr → ℕ
ptr_refusal s p =
    first_holding ((1, tables_unfit s.tables) ∷ (2, header_unfit s) ∷ (3, zero_ptr p) ∷ (6, invalid_ptr s p) ∷ [])

-- Invalidate: the generation steps, the place takes it, and a new handle is given.
unfoldable pub invalidate : Store → Ptr → Outcome
invalidate s p =
    let h = s.header in
    let stepped = step h.generation in
    unless (ptr_refusal s p) s
    (outcome (answered stepped.overflow (ptr p.index stepped.generation) 0)
    (store (tables (write s.tables.generations p.index stepped.generation) s.tables.links s.tables.values)
    (header h.len h.m h.root stepped.generation)))

-- Get shows the value.
unfoldable pub get : Store → Ptr → Outcome
get s p = unless (ptr_refusal s p) s (outcome (Answer.Done p (at s.tables.values p.index)) s)

-- Put stores the value given and answers done.
unfoldable pub put : Store → Ptr → ℕ → Outcome
put s p v =
    unless (ptr_refusal s p) s
    (outcome done
    (store (tables s.tables.generations s.tables.links (write s.tables.values p.index v)) s.header))

-- Tests 1 and 2, of a call that has no other.
unfoldable pub store_refusal : Store → ℕ
store_refusal s = first_holding ((1, tables_unfit s.tables) ∷ (2, header_unfit s) ∷ [])

-- The same on both of two stores, with which the tests of transfer and copy begin.
unfoldable pub stores_refusal : Store → Store → ℕ
stores_refusal d s =
    first_holding
    ((1, tables_unfit d.tables || tables_unfit s.tables) ∷ (2, header_unfit d || header_unfit s) ∷ [])

-- Clear: the generation steps only if `len` is above 0; the stack is emptied and zeroed either way.
unfoldable pub clear_step : Header → GenerationStep
clear_step h = cond (eqb h.len 0) (unstepped h.generation) (step h.generation)

unfoldable pub cleared : Store → ℕ → Store
cleared s g = store (zeroed s.tables s.header.m) (header 0 0 0 g)

unfoldable pub clear : Store → Outcome
clear s =
    let stepped = clear_step s.header in
    unless (store_refusal s) s (outcome (answered stepped.overflow no_ptr 0) (cleared s stepped.generation))

-- Order (`canonicalize_freelist`): trailing free places are popped; the rest are linked ascending from the root, the
-- last to itself.
unfoldable pub order_refusal : Store → ℕ
order_refusal s = first_holding ((1, tables_unfit s.tables) ∷ (2, header_unfit s) ∷ (4, count_wrong s) ∷ [])

unfoldable pub ordered : Store → Store
ordered s =
    let h = s.header in
    let t = trimmed (marks s) h.m s.tables.links s.tables.values in
    let c = chained (marks s) t.m t.links 0 in
    store (tables s.tables.generations c.links t.values) (header h.len t.m c.root h.generation)

unfoldable pub order : Store → Outcome
order s = unless (order_refusal s) s (outcome done (ordered s))

-- The journal: a row for each moved message.
abbrev pub row : Ptr → Ptr → Bool → Row
row p q over = record { old = p; new = q; overflow = over }

-- The rows of the messages at places ps, which go to places n + 1 and so on with generation g. Of the message that
-- goes to place n + 1, `over n` says whether its removal overflows.
unfoldable pub rows_of : Store → List ℕ → ℕ → ℕ → (ℕ → Bool) → List Row
rows_of s [] n g over = []
rows_of s (p ∷ ps) n g over = row (ptr_at s p) (ptr (n + 1) g) (over n) ∷ rows_of s ps (n + 1) g over

-- The journal with rows written from row 1 on, which `sets` counts as 0; later rows keep their contents.
abbrev pub journaled : List Row → List Row → List Row
journaled rows journal = sets journal 0 rows

-- The tables with messages of these generations and values at places 1, 2 and so on.
unfoldable pub laid : Tables → List ℕ → List ℕ → Tables
laid t gs vs =
    tables (sets t.generations 0 gs) (sets t.links 0 (replicate (length gs) 0)) (sets t.values 0 vs)

-- The places of a store's messages, ascending.
abbrev pub messages : Store → List ℕ
messages s = live_places (marks s) s.header.m

-- The store d, emptied and zeroed, with the messages of s at places 1, 2 and so on, all with generation g; there is no
-- root.
unfoldable pub gathered : Store → Store → ℕ → Store
gathered d s g =
    let n = length (messages s) in
    store
    (laid (zeroed d.tables d.header.m) (replicate n g) (map (at s.tables.values) (messages s)))
    (header n n 0 g)

-- Compress (`compress_with`): reset sets generation 2 and answers done; otherwise it steps as clear does. The live
-- messages move down in order, all with the resulting generation; the places above them are popped; there is no root.
-- The journal has n rows.
unfoldable pub compress_refusal : Store → ℕ → ℕ
compress_refusal s n =
    first_holding
    ((1, tables_unfit s.tables) ∷ (2, header_unfit s) ∷ (4, audit_fails s) ∷ (5, journal_short s n) ∷ [])

abbrev pub compress_step : Header → Bool → GenerationStep
compress_step h reset = cond reset (unstepped 2) (clear_step h)

unfoldable pub compress : Store → Bool → ℕ → Outcome
compress s reset n =
    let stepped = compress_step s.header reset in
    unless (compress_refusal s n) s
    (record {
      answer = answered stepped.overflow no_ptr 0;
      store = gathered s s stepped.generation;
      rows = rows_of s (messages s) 0 stepped.generation (λ n. false);
    })

-- Reserve (`reallocate_min_capacity`): orders first, then tests its number, so that 8 and 9 leave the store ordered.
unfoldable pub reserve_refusal : Store → ℕ → ℕ
reserve_refusal s n = first_holding ((8, beyond_index n) ∷ (9, beyond_capacity s n) ∷ [])

unfoldable pub reserve : Store → ℕ → Outcome
reserve s n =
    unless (order_refusal s) s (unless (reserve_refusal s n) (ordered s) (outcome done (ordered s)))

-- What a call over two stores leaves.
pub record BothOutcome : Type 0 where
  pub answer : Answer
  pub destination : Store
  pub source : Store
  pub rows : List Row

abbrev pub both_outcome : Answer → Store → Store → BothOutcome
both_outcome a d s = record { answer = a; destination = d; source = s; rows = [] }

-- Turned down by number n, where n is not 0: 9 leaves the destination ordered, any other number both stores as given.
unfoldable pub unless_both : ℕ → Store → Store → BothOutcome → BothOutcome
unless_both n d s o =
    cond (eqb n 0) o (both_outcome (Answer.Refused n) (cond (eqb n 9) (ordered d) d) s)

-- Transfer (`transfer_reallocating`): the destination is cleared and has the given generation, and each message of the
-- source is removed there and inserted here, ascending. A removal's overflow stands only in its row. More messages
-- than the destination has places are refused by 9. The journal has n rows.
unfoldable pub transfer_refusal : Store → Store → ℕ → ℕ → ℕ
transfer_refusal d s g n =
    first_holding
    ((1, tables_unfit d.tables || tables_unfit s.tables)
    ∷ (2, header_unfit d || header_unfit s)
    ∷ (3, zero_number g)
    ∷ (4, audit_fails d || audit_fails s)
    ∷ (5, journal_short s n)
    ∷ (9, beyond_capacity d (live_count (marks s) s.header.m))
    ∷ [])

-- The source without the messages at places ps, removed one after the other.
unfoldable pub removed_all : Store → List ℕ → Store
removed_all s [] = s
removed_all s (p ∷ ps) = removed_all (removed s p).store ps

-- The generation after n steps, as after n removals.
unfoldable pub steps_from : ℕ → ℕ → ℕ
steps_from g zero = g
steps_from g (suc n) = (step (steps_from g n)).generation

-- What a transfer leaves. The overflow of the k-th removal is that of the k-th step, counted from 0.
abbrev pub transferred : Store → Store → ℕ → BothOutcome
transferred d s g =
    record {
      answer = done;
      destination = gathered d s g;
      source = removed_all s (messages s);
      rows = rows_of s (messages s) 0 g (λ k. (step (steps_from s.header.generation k)).overflow);
    }

unfoldable pub transfer : Store → Store → ℕ → ℕ → BothOutcome
transfer d s g n = unless_both (transfer_refusal d s g n) d s (transferred d s g)

-- Copy (`clone_from_with`): the destination's stack is emptied and zeroed, takes the same places (gaps free, value 0),
-- generations and values and the source's current generation, and is ordered. A last live place above its places is
-- refused by 9.
unfoldable pub copy_refusal : Store → Store → ℕ
copy_refusal d s =
    first_holding
    ((1, tables_unfit d.tables || tables_unfit s.tables)
    ∷ (2, header_unfit d || header_unfit s)
    ∷ (4, audit_fails d || audit_fails s)
    ∷ (9, beyond_capacity d (last_live (marks s) s.header.m))
    ∷ [])

-- The numbers from 1 to n.
unfoldable pub up_to : ℕ → List ℕ
up_to zero = []
up_to (suc n) = up_to n ++ (suc n ∷ [])

unfoldable pub copied : Store → Store → Store
copied d s =
    let top = last_live (marks s) s.header.m in
    let gs = map (at s.tables.generations) (up_to top) in
    let vs = map (λ p. cond (free (marks s) p) 0 (at s.tables.values p)) (up_to top) in
    ordered
    (store (laid (zeroed d.tables d.header.m) gs vs)
    (header (live_count (marks s) top) top 0 s.header.generation))

unfoldable pub copy : Store → Store → BothOutcome
copy d s = unless_both (copy_refusal d s) d s (both_outcome done (copied d s) s)

-- What a call with a cursor leaves.
pub record CursorOutcome : Type 0 where
  pub cursor : Cursor
  pub outcome : Outcome

abbrev pub cursor_outcome : Cursor → Outcome → CursorOutcome
cursor_outcome c o = record { cursor = c; outcome = o }

-- Turned down by number n, where n is not 0: cursor and store are as given.
unfoldable pub unless_at : ℕ → Cursor → Store → CursorOutcome → CursorOutcome
unless_at n c s o = cond (eqb n 0) o (cursor_outcome c (outcome (Answer.Refused n) s))

-- A cursor's index after it moved: forward from the largest index, or back from 1, it is spent.
unfoldable pub moved : Cursor → Cursor
moved c =
    record {
      index = cond c.rev (c.index - 1) (cond (eqb c.index max_index) 0 (c.index + 1));
      rev = c.rev;
    }

-- The place that an advance finds, or 0, and the cursor after it.
pub record Sought : Type 0 where
  pub cursor : Cursor
  pub place : ℕ

abbrev pub seek : Cursor → ℕ → Sought
seek c p = record { cursor = c; place = p }

-- The cursor's index names the place to look at. The index moves before the place is looked at, even past the end;
-- free places are passed over. At most j places are looked at.
unfoldable pub sought : ℕ → List ℕ → ℕ → Cursor → Sought
sought zero k m c = seek c 0
sought (suc j) k m c =
    let on = sought j k m (moved c) in
    cond (eqb c.index 0) (seek c 0)
    (cond (ltb m c.index) (seek (moved c) 0)
    (cond (free k c.index) on (seek (moved c) c.index)))

-- A stack of m places is passed, or left, after m + 1 looks.
abbrev pub sought_in : Store → Cursor → Sought
sought_in s c = sought (s.header.m + 1) (marks s) s.header.m c

-- Advance (`PtrAdvancer`). A spent cursor, or an index above m, gives done with no handle.
unfoldable pub advance : Store → Cursor → CursorOutcome
advance s c =
    let f = sought_in s c in
    unless_at (store_refusal s) c s (cursor_outcome f.cursor (outcome (Answer.Done (ptr_at s f.place) 0) s))

-- Drain: advance, then remove; its end counts as a clear, and answers done even on overflow.
-- p is the place found; at the end it is 0, which is no live place, so that 4 cannot hold.
unfoldable pub drain_refusal : Store → ℕ → ℕ
drain_refusal s p = first_holding ((1, tables_unfit s.tables) ∷ (2, header_unfit s) ∷ (4, removal_unsound s p) ∷ [])

unfoldable pub drained : Store → ℕ → Outcome
drained s p = cond (eqb p 0) (outcome done (cleared s (clear_step s.header).generation)) (removed s p)

unfoldable pub drain : Store → Cursor → CursorOutcome
drain s c =
    let f = sought_in s c in
    unless_at (drain_refusal s f.place) c s (cursor_outcome f.cursor (drained s f.place))

-- Find first and find last (`find_first_inx_ptr`, `find_last_inx_ptr`).
unfoldable pub find_first : Store → Outcome
find_first s =
    unless (store_refusal s) s (outcome (Answer.Done (ptr_at s (first_live (marks s) s.header.m)) 0) s)

unfoldable pub find_last : Store → Outcome
find_last s =
    unless (store_refusal s) s (outcome (Answer.Done (ptr_at s (last_live (marks s) s.header.m)) 0) s)

-- The store with another current generation.
abbrev pub regenerated : Store → ℕ → Store
regenerated s g = store s.tables (header s.header.len s.header.m s.header.root g)

-- Set generation (`set_generation`).
unfoldable pub set_generation_refusal : Store → ℕ → ℕ
set_generation_refusal s g = first_holding ((1, tables_unfit s.tables) ∷ (2, header_unfit s) ∷ (3, zero_number g) ∷ [])

unfoldable pub set_generation : Store → ℕ → Outcome
set_generation s g = unless (set_generation_refusal s g) s (outcome done (regenerated s g))

-- Step generation (`inc_generation`).
unfoldable pub step_generation : Store → Outcome
step_generation s =
    let stepped = step s.header.generation in
    unless (store_refusal s) s (outcome (answered stepped.overflow no_ptr 0) (regenerated s stepped.generation))

-- Audit (`_check_invariants`) skips 2. Its verdict is its value.
unfoldable pub audit : Store → Outcome
audit s =
    unless (first_holding ((1, tables_unfit s.tables) ∷ [])) s (outcome (Answer.Done no_ptr (verdict s)) s)
