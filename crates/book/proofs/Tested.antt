-- A tidy store passes each test of its own soundness: the tables, the header, the root, the count, the audit and any
-- removal. Assumes nothing.
use Prim.Native.Nat.{ℕ, ◌≤◌, ◌<◌}
use mathlib.Core.Path.{◌≡◌, sym, ◌∙◌}
use mathlib.Core.Bool.{false}
use native.Mathlib.Omega.{arith}
use native.Mathlib.Decide.{ℕ_discrete, dec_le}
use lib.ListN.{length}
use Rattle.model.specs.Store.{Store, at, limit, capacity, marks}
use Rattle.model.specs.Audit.{verdict}
use Rattle.model.specs.Refusals.{tables_unfit, header_unfit, root_unsound, count_wrong, removal_unsound}
use Rattle.model.proofs.Tests.{tests}
use Rattle.model.proofs.Refusals.{HeaderFits}
use Rattle.model.proofs.Shape.{shaped_verdict, shaped_root, live_not_root, live_len}
use Rattle.book.proofs.Kept.{Tidy}

-- The header fits the tables.
pub tidy_fits : (C : ℕ) (s : Store) → Tidy C s → HeaderFits s
tidy_fits C s t =
    let all = t.shaped.all in
    let current = t.current in
    record {
      m = t.shaped.within;
      len = omega arith;
      root = low;
      generation = λ e. omega arith;
    }
  where
    low : s.header.root ≤ s.header.m
    low =
        elim (ℕ_discrete s.header.root 0) [
          | yes e ↦ omega arith
          | no d ↦ (shaped_root _ _ _ _ _ t.shaped d).free.low
        ]

-- 1: the tables are equally long, and within the limit.
pub tidy_tables : (C : ℕ) (s : Store) → Tidy C s → tables_unfit s.tables ≡ false
unfolding tables_unfit
tidy_tables C s t =
    let a : length s.tables.generations ≡ length s.tables.links = t.generations ∙ sym t.links in
    let b : length s.tables.generations ≡ length s.tables.values = t.generations ∙ sym t.values in
    let c : length s.tables.generations ≤ limit = omega (arith, t.generations, t.short) in
    simp tests

-- 2: the header fits.
pub tidy_header : (C : ℕ) (s : Store) → Tidy C s → header_unfit s ≡ false
unfolding header_unfit
tidy_header C s t =
    let f = tidy_fits C s t in
    let a = f.m in
    let b = f.len in
    let c = f.root in
    let d = f.generation in
    simp tests

-- 4: the root, the count, the audit, and the removal of any place.
pub tidy_root : (C : ℕ) (s : Store) → Tidy C s → root_unsound s ≡ false
unfolding root_unsound
tidy_root C s t =
    elim (ℕ_discrete s.header.root 0) [
      | yes e ↦ simp tests
      | no d ↦
          let r = shaped_root _ _ _ _ _ t.shaped d in
          let a = r.free.free in
          let b = r.free.link in
          let c = r.link in
          let f : s.header.len ≡ s.header.m → ⊥ = λ e. omega (arith, r.short) in
          simp tests
    ]

pub tidy_count : (C : ℕ) (s : Store) → Tidy C s → count_wrong s ≡ false
unfolding count_wrong
tidy_count C s t = let e = t.shaped.count in simp tests

pub tidy_verdict : (C : ℕ) (s : Store) → Tidy C s → verdict s ≡ 0
unfolding verdict
tidy_verdict C s t =
    let f = tidy_fits C s t in
    let a = t.current in
    let b = f.m in
    let c : s.header.len ≤ capacity s = omega (arith, f.len) in
    simp tests (shaped_verdict _ _ _ _ _ t.shaped)

pub tidy_removal : (C : ℕ) (s : Store) (p : ℕ) → Tidy C s → removal_unsound s p ≡ false
unfolding removal_unsound
tidy_removal C s p t =
    elim (dec_le p s.header.m) [
      | no q ↦ let above : s.header.m < p = omega arith in simp tests
      | yes q ↦
          elim (ℕ_discrete (at (marks s) p) 0) [
            | yes e ↦ simp tests
            | no d ↦
                let a = live_len _ _ _ _ _ p t.shaped q d in
                let b = live_not_root _ _ _ _ _ p t.shaped d in
                simp tests
          ]
    ]
