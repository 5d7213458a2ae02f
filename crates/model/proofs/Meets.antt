-- The chain of a shaped store meets each free place of the stack once, and no other place: all that it meets are free
-- and no two the same, and it has as many places as are free. Assumes nothing.
use Prim.Native.Nat.{ℕ, zero, suc, ◌+◌, ◌-◌, ◌≤◌}
use mathlib.Core.Path.{◌≡◌, refl, sym, ◌∙◌}
use mathlib.Core.List.Memᴰ
use mathlib.Core.List.{List, Memᴰ, Nodup, Nodup-nil, Nodup-cons}
use mathlib.Core.Logic.{inl, inr, ∥∥₁_elim}
use mathlib.Core.HLevel.{⊥_prop}
use native.Mathlib.Omega.{arith}
use native.Mathlib.Decide.{ℕ_discrete}
use lib.ListN.{length}
use Rattle.model.specs.Store.{at, write}
use Rattle.model.specs.Freelist.{live_count, next_free, met, place_after}
use Rattle.model.proofs.Freelist.{live_count_low}
use Rattle.model.proofs.Places.{length_write, at_write_other}
use Rattle.model.proofs.Linked.{Free, Linked, Away, away_chain, frame}
use Rattle.model.proofs.Count.{full_all_live, count_filled}
use Rattle.model.proofs.Shape.{Shaped, gaps_counted}

-- A chain meets free places of the stack alone.
pub met_free : (k l : List ℕ) (m r n p : ℕ) → Linked k l m r n → Memᴰ p (met l r n) → Free k l m p
unfolding met
met_free k l m r zero p b x = absurd (Memᴰ.not-nil x)
met_free k l m r (suc n) p b x =
    elim (Memᴰ.cases_cons x) [
      | inl e ↦ rw e b.0
      | inr y ↦ met_free k l m (next_free l r) n p b.1 y
    ]

-- It meets no place that it is away from, and so none twice.
pub met_away : (l : List ℕ) (i r n : ℕ) → Away l i r n → Memᴰ i (met l r n) → ⊥
unfolding met
met_away l i r zero a x = Memᴰ.not-nil x
met_away l i r (suc n) a x =
    elim (Memᴰ.cases_cons x) [
      | inl e ↦ a.0 (sym e)
      | inr y ↦ met_away l i (next_free l r) n a.1 y
    ]

pub met_once : (k l : List ℕ) (m r n : ℕ) → Linked k l m r n → Nodup (met l r n)
unfolding met
met_once k l m r zero b = Nodup-nil
met_once k l m r (suc n) b =
    let again = met_away l r (next_free l r) n (away_chain k l m r (next_free l r) n (suc n) b b.1 (omega arith)) in
    Nodup-cons.1 (λ x. ∥∥₁_elim x ⊥_prop again, met_once k l m (next_free l r) n b.1)

-- It meets every free place, if it has as many places as are free. For where its root is marked live, there is one
-- free place less, and the rest of the chain is one place shorter.
pub met_all : (k l : List ℕ) (m r n p : ℕ) → Linked k l m r n → m ≤ length k → live_count k m + n ≡ m → (p ≡ 0 → ⊥) → p ≤ m → at k p ≡ 0
    → Memᴰ p (met l r n)
unfolding met
met_all k l m r zero p b within all some low z = absurd (full_all_live k m p (omega arith) some low z)
met_all k l m r (suc n) p b within all some low z =
    elim (ℕ_discrete p r) [
      | yes e ↦ Memᴰ.head e
      | no d ↦
          let k' = write k r 1 in
          let f = b.0 in
          let r-low = f.low in
          let rest = frame k l k' l m m r (next_free l r) n
          (record { low = λ q h c. c; mark = λ q h c. at_write_other k r q 1 h; link = λ q h c. refl })
          b.1 (away_chain k l m r (next_free l r) n (suc n) b b.1 (omega arith)) in
          let more = count_filled k r 1 m f.some r-low (omega arith) f.free (λ e. omega arith) in
          Memᴰ.tail
          (met_all k' l m (next_free l r) n p rest (omega (arith, length_write k r 1)) (omega arith) some low
          (at_write_other k r p 1 d ∙ z))
    ]

-- A chain ends after its places.
pub linked_ends : (k l : List ℕ) (m r n : ℕ) → Linked k l m r n → place_after l r n ≡ 0
unfolding place_after
linked_ends k l m r zero b = b
linked_ends k l m r (suc n) b = linked_ends k l m (next_free l r) n b.1

-- The n places of a chain from place r, of a stack of m places: all are met once, they are the free places of the
-- stack, and the chain ends after them.
pub record Meets (k l : List ℕ) (m r n : ℕ) : Type 0 where
  pub ends : place_after l r n ≡ 0
  pub once : Nodup (met l r n)
  pub free : (p : ℕ) → Memᴰ p (met l r n) → Free k l m p
  pub all : (p : ℕ) → (p ≡ 0 → ⊥) → p ≤ m → at k p ≡ 0 → Memᴰ p (met l r n)

-- It is so in a shaped store, whose chain has m - `len` places.
pub shaped_meets : (k l : List ℕ) (len m root : ℕ) → Shaped k l len m root → Meets k l m root (m - len)
shaped_meets k l len m root s =
    rw (← gaps_counted k l len m root s)
    (record {
      ends = linked_ends k l m root s.gaps s.linked;
      once = met_once k l m root s.gaps s.linked;
      free = λ p. met_free k l m root s.gaps p s.linked;
      all = λ p. met_all k l m root s.gaps p s.linked s.within (omega (arith, s.count, s.all));
    })

-- And only so.
meets_linked : (k l : List ℕ) (m r n : ℕ) → place_after l r n ≡ 0 → ((p : ℕ) → Memᴰ p (met l r n) → Free k l m p) → Linked k l m r n
unfolding met place_after
meets_linked k l m r zero e h = e
meets_linked k l m r (suc n) e h =
    (h r (Memᴰ.head refl), meets_linked k l m (next_free l r) n e (λ p x. h p (Memᴰ.tail x)))

pub meets_shaped : (k l : List ℕ) (len m root : ℕ) → m ≤ length k → length k ≡ length l → live_count k m ≡ len
    → Meets k l m root (m - len) → Shaped k l len m root
meets_shaped k l len m root within long count h =
    record {
      within = within;
      long = long;
      count = count;
      gaps = m - len;
      all = omega (arith, live_count_low k m);
      linked = meets_linked k l m root (m - len) h.ends h.free;
    }
