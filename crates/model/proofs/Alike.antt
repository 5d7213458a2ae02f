-- What it means that two stores differ in words above the stack alone, and that a call leaves them so; and that each
-- test of a refusal comes out the same on both. Assumes nothing.
use Prim.Native.Nat.{ℕ, ◌+◌, ◌≤◌, max}
use mathlib.Core.Path.{◌≡◌, refl, ◌∙◌, sym}
use mathlib.Core.Bool.{Bool, true, false, cond}
use native.Mathlib.Omega.{arith}
use Rattle.model.specs.Store.{Store, marks}
use Rattle.model.specs.Freelist.{live, live_count}
use Rattle.model.specs.Audit.{chain_verdict, shape_verdict, verdict}
use Rattle.model.specs.Refusals.{tables_unfit, header_unfit, count_wrong, root_unsound, removal_unsound, journal_short, invalid_index, invalid_ptr, not_within_capacity}
use Rattle.model.specs.Calls.{Outcome, BothOutcome, CursorOutcome, insert_refusal, insert_reallocating_refusal, remove_refusal, remove_index_refusal, ptr_refusal, store_refusal, order_refusal, compress_refusal, drain_refusal, set_generation_refusal}
use Rattle.model.specs.declared.Ptr.{Ptr}
use Rattle.model.proofs.Tests.{chosen_alike}
use Rattle.model.proofs.Refusals.{HeaderFits, header_fits, index_valid}
use Rattle.model.proofs.Agree.{agree_less, live_count_agree, live_agree, walked_agree, TablesAgree}

-- Two stores with one header, whose tables agree up to place n.
pub record AlikeTo (s u : Store) (n : ℕ) : Type 0 where
  pub header : s.header ≡ u.header
  pub tables : TablesAgree n s.tables u.tables

-- Two stores that differ in words above the stack alone.
abbrev pub Alike : Store → Store → Type 0
Alike s u = AlikeTo s u s.header.m

-- Two stores that a call has left of stacks of m places: they agree up to the stack as it was, and up to the stack as
-- it is.
abbrev pub LeftAlike : ℕ → Store → Store → Type 0
LeftAlike m s u = AlikeTo s u (max m s.header.m)

-- What a call leaves of two stores whose stacks had m places.
pub record Same (m : ℕ) (o q : Outcome) : Type 0 where
  pub answer : o.answer ≡ q.answer
  pub rows : o.rows ≡ q.rows
  pub store : LeftAlike m o.store q.store

-- The same of a call with a cursor.
pub record SameAt (m : ℕ) (o q : CursorOutcome) : Type 0 where
  pub cursor : o.cursor ≡ q.cursor
  pub outcome : Same m o.outcome q.outcome

-- The same of a call over two stores, whose stacks had m and n places.
pub record SameBoth (m n : ℕ) (o q : BothOutcome) : Type 0 where
  pub answer : o.answer ≡ q.answer
  pub rows : o.rows ≡ q.rows
  pub destination : LeftAlike m o.destination q.destination
  pub source : LeftAlike n o.source q.source

-- Each test of a refusal comes out the same.
module _ {s u : Store} (a : Alike s u) where
  pub same_tables_unfit : tables_unfit s.tables ≡ tables_unfit u.tables
  unfolding tables_unfit
  same_tables_unfit = cc

  pub same_header_unfit : header_unfit s ≡ header_unfit u
  unfolding header_unfit
  same_header_unfit = cc

  pub same_live_count : live_count (marks s) s.header.m ≡ live_count (marks u) u.header.m
  same_live_count = cc (live_count_agree s.header.m a.tables.generations)

  same_count_wrong : count_wrong s ≡ count_wrong u
  unfolding count_wrong
  same_count_wrong = cc same_live_count

  pub same_journal_short : (n : ℕ) → journal_short s n ≡ journal_short u n
  unfolding journal_short
  same_journal_short n = cc same_live_count

  same_not_within_capacity : not_within_capacity s ≡ not_within_capacity u
  unfolding not_within_capacity
  same_not_within_capacity = cc

  same_live : (p : ℕ) → live (marks s) s.header.m p ≡ live (marks u) u.header.m p
  same_live p = cc (live_agree a.tables.generations p)

  same_removal_unsound : (i : ℕ) → removal_unsound s i ≡ removal_unsound u i
  unfolding removal_unsound
  same_removal_unsound i = cc (same_live i)

  same_invalid_index : (i : ℕ) → invalid_index s i ≡ invalid_index u i
  unfolding invalid_index
  same_invalid_index i = cc (same_live i)

  -- A handle's generation is compared where its index is valid, which is in the stack.
  same_invalid_ptr : (p : Ptr) → invalid_ptr s p ≡ invalid_ptr u p
  unfolding invalid_ptr
  same_invalid_ptr p = go (invalid_index s p.index) refl
    where
      go : (b : Bool) → invalid_index s p.index ≡ b → invalid_ptr s p ≡ invalid_ptr u p
      go true e = simp (e, sym (same_invalid_index p.index) ∙ e)
      go false e = cc (same_invalid_index p.index, a.tables.generations.words p.index (index_valid s _ e).low)

  -- A header that fits has its root in the stack.
  same_root_unsound : HeaderFits s → root_unsound s ≡ root_unsound u
  unfolding root_unsound
  same_root_unsound f =
      cc (a.tables.generations.words s.header.root f.root, a.tables.links.words s.header.root f.root)

  pub same_verdict : verdict s ≡ verdict u
  unfolding verdict shape_verdict chain_verdict
  same_verdict =
      cc (walked_agree (s.header.m + 2) a.tables.generations a.tables.links s.header.root 0, same_live_count)

  -- The tests after the first two may count on a header that fits.
  same_after : (x y : ℕ) → (HeaderFits s → x ≡ y)
      → cond (tables_unfit s.tables) 1 (cond (header_unfit s) 2 x) ≡ cond (tables_unfit u.tables) 1 (cond (header_unfit u) 2 y)
  same_after x y f =
      let e = chosen_alike ◌≡◌ (header_unfit s) (header_unfit u) {x = 2} {v = 2} same_header_unfit (λ e. refl) (λ e. f (header_fits s e)) in
      cc same_tables_unfit

  -- So each call is turned down by the same number.
  pub same_insert_refusal : insert_refusal s ≡ insert_refusal u
  unfolding insert_refusal
  same_insert_refusal = same_after _ _ (λ f. cc (same_root_unsound f, same_not_within_capacity))

  pub same_insert_reallocating_refusal : insert_reallocating_refusal s ≡ insert_reallocating_refusal u
  unfolding insert_reallocating_refusal
  same_insert_reallocating_refusal = same_after _ _ (λ f. cc (same_root_unsound f, same_not_within_capacity))

  pub same_remove_refusal : (p : Ptr) → remove_refusal s p ≡ remove_refusal u p
  unfolding remove_refusal
  same_remove_refusal p = cc (same_tables_unfit, same_header_unfit, same_removal_unsound p.index, same_invalid_ptr p)

  pub same_remove_index_refusal : (i : ℕ) → remove_index_refusal s i ≡ remove_index_refusal u i
  unfolding remove_index_refusal
  same_remove_index_refusal i = cc (same_tables_unfit, same_header_unfit, same_removal_unsound i, same_invalid_index i)

  pub same_ptr_refusal : (p : Ptr) → ptr_refusal s p ≡ ptr_refusal u p
  unfolding ptr_refusal
  same_ptr_refusal p = cc (same_tables_unfit, same_header_unfit, same_invalid_ptr p)

  pub same_store_refusal : store_refusal s ≡ store_refusal u
  unfolding store_refusal
  same_store_refusal = cc (same_tables_unfit, same_header_unfit)

  pub same_order_refusal : order_refusal s ≡ order_refusal u
  unfolding order_refusal
  same_order_refusal = cc (same_tables_unfit, same_header_unfit, same_count_wrong)

  pub same_compress_refusal : (n : ℕ) → compress_refusal s n ≡ compress_refusal u n
  unfolding compress_refusal
  same_compress_refusal n = cc (same_tables_unfit, same_header_unfit, same_verdict, same_journal_short n)

  pub same_drain_refusal : (p : ℕ) → drain_refusal s p ≡ drain_refusal u p
  unfolding drain_refusal
  same_drain_refusal p = cc (same_tables_unfit, same_header_unfit, same_removal_unsound p)

  pub same_set_generation_refusal : (g : ℕ) → set_generation_refusal s g ≡ set_generation_refusal u g
  unfolding set_generation_refusal
  same_set_generation_refusal g = cc (same_tables_unfit, same_header_unfit)

-- Stores that agree up to a place agree up to each lower one.
pub alike_less : {n r : ℕ} {s u : Store} → AlikeTo s u n → r ≤ n → AlikeTo s u r
alike_less a h =
    record {
      header = a.header;
      tables =
          record {
            generations = agree_less a.tables.generations h;
            links = agree_less a.tables.links h;
            values = agree_less a.tables.values h;
          };
    }

-- A call that makes the stack no longer leaves stores that agree up to the stack as it was.
pub no_longer : {m : ℕ} {s u : Store} → s.header.m ≤ m → AlikeTo s u m → LeftAlike m s u
no_longer h a = alike_less a (omega arith)
