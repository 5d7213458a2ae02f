-- What a test of a refusal says where it fails, as facts on numbers; what that gives a call that is not turned down;
-- and each row of tests as code goes through it. Assumes nothing.
use Prim.Native.Nat.{ℕ, ◌≤◌}
use mathlib.Core.Path.{◌≡◌, refl, ap, sym, ◌∙◌}
use mathlib.Core.Bool.{Bool, true, false, cond, not, ◌||◌}
use mathlib.Core.List.{List, [], ◌∷◌}
use native.Mathlib.Omega.{arith}
use lib.ListN.{length}
use lib.Dec.{eqb, ltb}
use borrow.Author.Tests.{ltb-false, leb-true, eqb-true, eqb-false, not-true, not-false}
use Rattle.std.proofs.lemmas.Bool.{or_parts, and_parts}
use Rattle.model.specs.Store.{Tables, Store, at, limit, capacity, marks}
use Rattle.model.specs.Freelist.{live_count, last_live}
use Rattle.model.specs.Audit.{shape_verdict, verdict}
use Rattle.model.specs.Refusals.{tables_unfit, header_unfit, zero_number, zero_ptr, audit_fails, count_wrong, root_unsound, removal_unsound, journal_short, invalid_index, invalid_ptr, not_within_capacity, beyond_capacity, full_capacity}
use Rattle.model.specs.Tests.{first_holding}
use Rattle.model.specs.Calls.{insert_refusal, insert_reallocating_refusal, remove_refusal, remove_index_refusal, ptr_refusal, store_refusal, stores_refusal, order_refusal, set_generation_refusal, compress_refusal, transfer_refusal, copy_refusal, drain_refusal}
use Rattle.model.specs.declared.Ptr.{Ptr}
use Rattle.model.proofs.Tests.{fails, after, otherwise}

-- 1: the tables are equally long, and within the limit.
pub record TablesFit (t : Tables) : Type 0 where
  pub links : length t.generations ≡ length t.links
  pub values : length t.generations ≡ length t.values
  pub short : length t.generations ≤ limit

pub tables_fit : (t : Tables) → tables_unfit t ≡ false → TablesFit t
unfolding tables_unfit
tables_fit t e =
    let x = or_parts _ _ e in
    let y = or_parts _ _ x.0 in
    record {
      links = eqb-true _ _ (not-false _ y.0);
      values = eqb-true _ _ (not-false _ y.1);
      short = ltb-false _ _ x.1;
    }

-- 2: the header fits the tables.
pub record HeaderFits (s : Store) : Type 0 where
  pub m : s.header.m ≤ capacity s
  pub len : s.header.len ≤ s.header.m
  pub root : s.header.root ≤ s.header.m
  pub generation : s.header.generation ≡ 0 → ⊥

pub header_fits : (s : Store) → header_unfit s ≡ false → HeaderFits s
unfolding header_unfit
header_fits s e =
    let x = or_parts _ _ e in
    let y = or_parts _ _ x.0 in
    let z = or_parts _ _ y.0 in
    record {
      m = ltb-false _ _ z.0;
      len = ltb-false _ _ z.1;
      root = ltb-false _ _ y.1;
      generation = eqb-false _ _ x.1;
    }

-- 6: an index names a live place, and a handle one of its generation.
pub record IndexValid (s : Store) (i : ℕ) : Type 0 where
  pub low : i ≤ s.header.m
  pub live : at (marks s) i ≡ 0 → ⊥

pub index_valid : (s : Store) (i : ℕ) → invalid_index s i ≡ false → IndexValid s i
unfolding invalid_index
index_valid s i e =
    let x = and_parts _ _ (not-false _ e) in
    record { low = leb-true _ _ x.0; live = eqb-false _ _ (not-true _ x.1) }

pub record PtrValid (s : Store) (p : Ptr) : Type 0 where
  pub index : IndexValid s p.index
  pub generation : at s.tables.generations p.index ≡ p.generation

pub ptr_valid : (s : Store) (p : Ptr) → invalid_ptr s p ≡ false → PtrValid s p
unfolding invalid_ptr
ptr_valid s p e =
    let x = or_parts _ _ e in
    record { index = index_valid s _ x.0; generation = eqb-true _ _ (not-false _ x.1) }

-- 1 and 2, which come first in every row of tests but the audit's.
pub record Fits (s : Store) : Type 0 where
  pub tables : TablesFit s.tables
  pub header : HeaderFits s

pub fits : (s : Store) (n : ℕ) → cond (tables_unfit s.tables) 1 (cond (header_unfit s) 2 n) ≡ 0 → Fits s
fits s n e =
    record {
      tables = tables_fit s.tables (fails _ _ _ e);
      header = header_fits s (fails _ _ _ (after (tables_unfit _) _ _ e));
    }

-- Then the stack and its messages are within the limit, which leaves room to count one more.
pub within_limit : {s : Store} → Fits s → (s.header.m ≤ limit) × (s.header.len ≤ limit)
within_limit f = (omega (arith, f.tables.short, f.header.m), omega (arith, f.tables.short, f.header.m, f.header.len))

-- Insert, by either of its names, is made on a header that fits.
pub insert_fits : (s : Store) → insert_refusal s ≡ 0 → Fits s
unfolding insert_refusal
insert_fits s e = fits s _ e

pub insert_reallocating_fits : (s : Store) → insert_reallocating_refusal s ≡ 0 → Fits s
unfolding insert_reallocating_refusal
insert_reallocating_fits s e = fits s _ e

-- Remove, and invalidate, get and put, are handed a valid handle, and `remove_inx` a valid index.
pub remove_valid : (s : Store) (p : Ptr) → remove_refusal s p ≡ 0 → PtrValid s p
unfolding remove_refusal
remove_valid s p e =
    ptr_valid s p
    (fails _ _ _ (after (removal_unsound _ _) _ _ (after (zero_ptr _) _ _ (after (header_unfit _) _ _ (after (tables_unfit _) _ _ e)))))

pub remove_index_valid : (s : Store) (i : ℕ) → remove_index_refusal s i ≡ 0 → IndexValid s i
unfolding remove_index_refusal
remove_index_valid s i e =
    index_valid s i
    (fails _ _ _ (after (removal_unsound _ _) _ _ (after (zero_number i) _ _ (after (header_unfit _) _ _ (after (tables_unfit _) _ _ e)))))

pub access_valid : (s : Store) (p : Ptr) → ptr_refusal s p ≡ 0 → PtrValid s p
unfolding ptr_refusal
access_valid s p e =
    ptr_valid s p (fails _ _ _ (after (zero_ptr _) _ _ (after (header_unfit _) _ _ (after (tables_unfit _) _ _ e))))

-- Code asks for 1 and 2 at once, and for the rest of a row where they give no number. That is the row.
abbrev pub after_store : Store → List (ℕ × Bool) → ℕ
after_store s ts = cond (eqb (store_refusal s) 0) (first_holding ts) (store_refusal s)

after_two : (a b : Bool) (n : ℕ) → cond a 1 (cond b 2 n) ≡ cond (eqb (cond a 1 (cond b 2 0)) 0) n (cond a 1 (cond b 2 0))
after_two true b n = refl
after_two false true n = refl
after_two false false n = refl

row_after_store : (s : Store) (n : ℕ) → cond (tables_unfit s.tables) 1 (cond (header_unfit s) 2 n)
    ≡ cond (eqb (store_refusal s) 0) n (store_refusal s)
unfolding store_refusal
row_after_store s n = after_two (tables_unfit s.tables) (header_unfit s) n

pub insert_row : (s : Store) → insert_refusal s ≡ after_store s ((4, root_unsound s) ∷ (7, not_within_capacity s) ∷ [])
unfolding insert_refusal
insert_row s = row_after_store s _

pub insert_reallocating_row : (s : Store) → insert_reallocating_refusal s
    ≡ after_store s ((4, root_unsound s) ∷ (9, full_capacity s) ∷ (7, not_within_capacity s) ∷ [])
unfolding insert_reallocating_refusal
insert_reallocating_row s = row_after_store s _

pub remove_row : (s : Store) (p : Ptr) → remove_refusal s p
    ≡ after_store s ((3, zero_ptr p) ∷ (4, removal_unsound s p.index) ∷ (6, invalid_ptr s p) ∷ [])
unfolding remove_refusal
remove_row s p = row_after_store s _

pub remove_index_row : (s : Store) (i : ℕ) → remove_index_refusal s i
    ≡ after_store s ((3, zero_number i) ∷ (4, removal_unsound s i) ∷ (6, invalid_index s i) ∷ [])
unfolding remove_index_refusal
remove_index_row s i = row_after_store s _

pub ptr_row : (s : Store) (p : Ptr) → ptr_refusal s p ≡ after_store s ((3, zero_ptr p) ∷ (6, invalid_ptr s p) ∷ [])
unfolding ptr_refusal
ptr_row s p = row_after_store s _

pub order_row : (s : Store) → order_refusal s ≡ after_store s ((4, count_wrong s) ∷ [])
unfolding order_refusal
order_row s = row_after_store s _

pub set_generation_row : (s : Store) (g : ℕ) → set_generation_refusal s g ≡ after_store s ((3, zero_number g) ∷ [])
unfolding set_generation_refusal
set_generation_row s g = row_after_store s _

pub drain_row : (s : Store) (p : ℕ) → drain_refusal s p ≡ after_store s ((4, removal_unsound s p) ∷ [])
unfolding drain_refusal
drain_row s p = row_after_store s _

-- So too where 1 and 2 are tested on two stores.
abbrev pub after_stores : Store → Store → List (ℕ × Bool) → ℕ
after_stores d s ts = cond (eqb (stores_refusal d s) 0) (first_holding ts) (stores_refusal d s)

row_after_stores : (d s : Store) (n : ℕ)
    → cond (tables_unfit d.tables || tables_unfit s.tables) 1 (cond (header_unfit d || header_unfit s) 2 n)
    ≡ cond (eqb (stores_refusal d s) 0) n (stores_refusal d s)
unfolding stores_refusal
row_after_stores d s n = after_two (tables_unfit d.tables || tables_unfit s.tables) (header_unfit d || header_unfit s) n

pub copy_row : (d s : Store) → copy_refusal d s
    ≡ after_stores d s ((4, audit_fails d || audit_fails s) ∷ (9, beyond_capacity d (last_live (marks s) s.header.m)) ∷ [])
unfolding copy_refusal
copy_row d s = row_after_stores d s _

-- 4: a store whose audit is 0 has as many messages as `len` says.
pub audit_count : (s : Store) → audit_fails s ≡ false → live_count (marks s) s.header.m ≡ s.header.len
unfolding verdict shape_verdict
audit_count s e =
    let h = s.header in
    let v : verdict s ≡ 0 = eqb-true _ _ (not-false _ e) in
    let low = after (ltb h.generation 2) _ _ v in
    let shape = after (ltb (capacity s) h.len || ltb (capacity s) h.m) _ _ low in
    sym (eqb-true _ _ (not-false _ (fails (not (eqb h.len (live_count (marks s) h.m))) _ _ shape)))

-- 5, and 9 of a transfer, count messages. They are tested where 4 fails, so that code may ask for `len`.
pub compress_row : (s : Store) (n : ℕ) → compress_refusal s n ≡ after_store s ((4, audit_fails s) ∷ (5, ltb n s.header.len) ∷ [])
unfolding compress_refusal journal_short
compress_row s n =
    row_after_store s _
    ∙ ap (λ (x : ℕ). cond (eqb (store_refusal s) 0) x (store_refusal s))
    (otherwise (audit_fails s) 4 _ _ (λ e. ap (λ (k : ℕ). cond (ltb n k) 5 0) (audit_count s e)))

pub transfer_row : (d s : Store) (g n : ℕ) → transfer_refusal d s g n
    ≡ after_stores d s
    ((3, zero_number g)
    ∷ (4, audit_fails d || audit_fails s)
    ∷ (5, ltb n s.header.len)
    ∷ (9, beyond_capacity d s.header.len)
    ∷ [])
unfolding transfer_refusal journal_short
transfer_row d s g n =
    row_after_stores d s _
    ∙ ap (λ (x : ℕ). cond (eqb (stores_refusal d s) 0) (cond (zero_number g) 3 x) (stores_refusal d s))
    (otherwise (audit_fails d || audit_fails s) 4 _ _
    (λ e. ap (λ (k : ℕ). cond (ltb n k) 5 (cond (ltb (capacity d) k) 9 0)) (audit_count s (or_parts (audit_fails d) _ e).1)))

-- A copy that is not turned down has a source of `len` messages.
pub copy_count : (d s : Store) → copy_refusal d s ≡ 0 → live_count (marks s) s.header.m ≡ s.header.len
unfolding copy_refusal
copy_count d s e =
    let rest = after (header_unfit d || header_unfit s) _ _ (after (tables_unfit d.tables || tables_unfit s.tables) _ _ e) in
    audit_count s (or_parts (audit_fails d) _ (fails _ _ _ rest)).1
