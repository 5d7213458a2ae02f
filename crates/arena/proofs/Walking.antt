-- A loop that walks the free chain. Assumes nothing.
use Prim.Native.Nat.{ℕ, ◌+◌, ◌-◌, ◌≤◌, ◌<◌}
use mathlib.Core.Path.{◌≡◌, ap, sym, ◌∙◌}
use mathlib.Core.List.{List}
use native.Mathlib.Omega.{arith}
use borrow.Author.Tests.{lt-ltb, le-ltb, eq-eqb, ne_eqb}
use Rattle.model.specs.Store.{at}
use Rattle.model.specs.Audit.{Walk, walk, walked}
use Rattle.model.proofs.Freelist.{walked_next}

-- The walk of a stack of m places from the root has met n places, and comes to place p.
pub record Walking (k l : List ℕ) (m root p n : ℕ) : Type 0 where
  pub within : n ≤ m + 2
  pub rest : walked (m + 2 - n) k l m p n ≡ walked (m + 2) k l m root 0

pub walking_starts : (k l : List ℕ) (m root : ℕ) → Walking k l m root root 0
walking_starts k l m root =
    record {
      within = omega arith;
      rest = ap (λ (j : ℕ). walked j k l m root 0) (omega arith);
    }

-- it ends at a link of 0, beyond m, at a live place, or at the last
pub walking_nowhere : {k l : List ℕ} {m root p n : ℕ} → n < m + 2 → p ≡ 0 → Walking k l m root p n
    → 5 ≡ (walked (m + 2) k l m root 0).verdict
walking_nowhere {k} {l} {m} {p} {n} h z w =
    let b = eq-eqb p 0 z in
    ap (λ (x : Walk). x.verdict) (sym (simp b at (walked_next (m + 2 - n) k l m p n (λ e. omega arith))) ∙ w.rest)

pub walking_beyond : {k l : List ℕ} {m root p n : ℕ} → n < m + 2 → (p ≡ 0 → ⊥) → m < p → Walking k l m root p n
    → 6 ≡ (walked (m + 2) k l m root 0).verdict
walking_beyond {k} {l} {m} {p} {n} h z f w =
    let b = ne_eqb p 0 z in
    let d = lt-ltb m p f in
    ap (λ (x : Walk). x.verdict) (sym (simp (b, d) at (walked_next (m + 2 - n) k l m p n (λ e. omega arith))) ∙ w.rest)

pub walking_live : {k l : List ℕ} {m root p n : ℕ} → n < m + 2 → (p ≡ 0 → ⊥) → p ≤ m → (at k p ≡ 0 → ⊥) → Walking k l m root p n
    → 7 ≡ (walked (m + 2) k l m root 0).verdict
walking_live {k} {l} {m} {p} {n} h z f u w =
    let b = ne_eqb p 0 z in
    let d = le-ltb m p f in
    let a = ne_eqb (at k p) 0 u in
    ap (λ (x : Walk). x.verdict) (sym (simp (b, d, a) at (walked_next (m + 2 - n) k l m p n (λ y. omega arith))) ∙ w.rest)

pub walking_last : {k l : List ℕ} {m root p n : ℕ} → n < m + 2 → (p ≡ 0 → ⊥) → p ≤ m → at k p ≡ 0 → at l p ≡ p → Walking k l m root p n
    → walk 0 (n + 1) ≡ walked (m + 2) k l m root 0
walking_last {k} {l} {m} {p} {n} h z f u v w =
    let b = ne_eqb p 0 z in
    let d = le-ltb m p f in
    let a = eq-eqb (at k p) 0 u in
    let o = eq-eqb (at l p) p v in
    sym (simp (b, d, a, o) at (walked_next (m + 2 - n) k l m p n (λ y. omega arith))) ∙ w.rest

pub walking_goes_on : {k l : List ℕ} {m root p n : ℕ} → n < m + 2 → (p ≡ 0 → ⊥) → p ≤ m → at k p ≡ 0 → (at l p ≡ p → ⊥)
    → Walking k l m root p n → Walking k l m root (at l p) (n + 1)
walking_goes_on {k} {l} {m} {p} {n} h z f u v w =
    let b = ne_eqb p 0 z in
    let d = le-ltb m p f in
    let a = eq-eqb (at k p) 0 u in
    let o = ne_eqb (at l p) p v in
    record {
      within = omega arith;
      rest =
          ap (λ (j : ℕ). walked j k l m (at l p) (n + 1)) (omega arith)
          ∙ sym (simp (b, d, a, o) at (walked_next (m + 2 - n) k l m p n (λ y. omega arith)))
          ∙ w.rest;
    }

-- or where it has looked at m + 2 places
pub walking_endless : {k l : List ℕ} {m root p n : ℕ} → m + 2 ≤ n → Walking k l m root p n → 8 ≡ (walked (m + 2) k l m root 0).verdict
unfolding walked
walking_endless {m} {n} h w =
    let e : m + 2 - n ≡ 0 = omega arith in
    ap (λ (x : Walk). x.verdict) (rw e at w.rest)
