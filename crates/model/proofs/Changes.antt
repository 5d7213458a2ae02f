-- Each change that a call makes to the tables keeps a store's shape: a push, the root taken, a pop, a place freed, a
-- place marked anew, and the stack emptied or filled afresh. Assumes nothing.
use Prim.Native.Nat.{ℕ, zero, suc, ◌+◌, ◌-◌, ◌<◌, ◌≤◌}
use mathlib.Core.Path.{◌≡◌, refl, sym, ◌∙◌}
use mathlib.Core.List.{List}
use native.Mathlib.Omega.{arith}
use native.Mathlib.Numerals.{add-one}
use native.Mathlib.Decide.{ℕ_discrete}
use lib.ListN.{length}
use Rattle.model.specs.Store.{at, write}
use Rattle.model.specs.Freelist.{next_free, link_to}
use Rattle.model.proofs.Tests.{tests}
use Rattle.model.proofs.Places.{length_write, at_zero, at_write_same, at_write_other}
use Rattle.model.proofs.Linked.{Linked, Kept, next_last, next_link, away_chain, away_live, away_above, frame}
use Rattle.model.proofs.Count.{count_none, count_next, count_last, count_above, count_filled, count_freed, count_marked, counted_live, all_live_full}
use Rattle.model.proofs.Shape.{Shaped, live_not_root}

-- A write of mark and link at place i changes no other place.
pub written : (k l : List ℕ) (m i x y : ℕ) → Kept k l (write k i x) (write l i y) m m i
written k l m i x y =
    record {
      low = λ p h q. q;
      mark = λ p h q. at_write_other k i p x h;
      link = λ p h q. at_write_other l i p y h;
    }

-- A place that becomes the root is linked, and the old root is the place after it.
pub link_to_some : (root p : ℕ) → (p ≡ 0 → ⊥) → link_to root p ≡ 0 → ⊥
unfolding link_to
link_to_some root p h =
    elim (ℕ_discrete root 0) [
      | yes r ↦ simp tests h
      | no r ↦ simp tests r
    ]

pub link_to_next : (l : List ℕ) (root p : ℕ) → at l p ≡ link_to root p → (root ≡ p → ⊥) → next_free l p ≡ root
unfolding link_to
link_to_next l root p e h =
    elim (ℕ_discrete root 0) [
      | yes r ↦ next_last l p (simp tests at e) ∙ sym r
      | no r ↦
          let f : at l p ≡ root = simp tests at e in
          next_link l p (λ z. h (sym f ∙ z)) ∙ f
    ]

-- Insert without a root: place m + 1 is pushed. (With a root, it stays.)
pub push_shaped : (k l : List ℕ) (len m root x y : ℕ) → (x ≡ 0 → ⊥) → m < length k → Shaped k l len m root
    → Shaped (write k (m + 1) x) (write l (m + 1) y) (len + 1) (m + 1) root
push_shaped k l len m root x y hx h s =
    let fresh = at_write_same k (suc m) x (λ e. omega arith) (omega arith) in
    let live = counted_live (λ e. hx (sym fresh ∙ e)) in
    rw (add-one m)
    (record {
      within = omega (arith, length_write k (suc m) x);
      long = length_write k (suc m) x ∙ s.long ∙ sym (length_write l (suc m) y);
      count = omega (arith, s.count, count_above k (suc m) x m (omega arith), count_next (write k (suc m) x) m);
      gaps = s.gaps;
      all = omega (arith, s.all);
      linked =
          frame k l (write k (suc m) x) (write l (suc m) y) m (suc m) (suc m) root s.gaps
          (record {
            low = λ p d q. omega arith;
            mark = λ p d q. at_write_other k (suc m) p x d;
            link = λ p d q. at_write_other l (suc m) p y d;
          })
          s.linked (away_above k l m (suc m) root s.gaps (omega arith) s.linked);
    })

-- Insert with a root: the root takes the message, and the place after it becomes the root.
pub take_shaped : (k l : List ℕ) (len m root x y : ℕ) → (x ≡ 0 → ⊥) → (root ≡ 0 → ⊥) → Shaped k l len m root
    → Shaped (write k root x) (write l root y) (len + 1) m (next_free l root)
take_shaped k l len m root x y hx hr s = go s.gaps s.all s.linked
  where
    go : (n : ℕ) → len + n ≡ m → Linked k l m root n → Shaped (write k root x) (write l root y) (len + 1) m (next_free l root)
    go zero e b = absurd (hr b)
    go (suc n) e b =
        let within = s.within in
        let low = b.0.low in
        record {
          within = omega (arith, length_write k root x);
          long = length_write k root x ∙ s.long ∙ sym (length_write l root y);
          count = omega (arith, s.count, count_filled k root x m hr low (omega arith) b.0.free hx);
          gaps = n;
          all = omega arith;
          linked =
              frame k l (write k root x) (write l root y) m m root (next_free l root) n (written k l m root x y) b.1
              (away_chain k l m root (next_free l root) n (suc n) b b.1 (omega arith));
        }

-- Remove of place m, where it is live: it is popped, and the chain is untouched. The place below may be free.
pub pop_shaped : (k l : List ℕ) (len m root x y : ℕ) → (at k m ≡ 0 → ⊥) → Shaped k l len m root
    → Shaped (write k m x) (write l m y) (len - 1) (m - 1) root
pop_shaped k l len m root x y live s =
    let some : m ≡ 0 → ⊥ = λ e. live (at_zero k m e) in
    let one = counted_live live in
    let within = s.within in
    let last = count_last k m some in
    record {
      within = omega (arith, length_write k m x);
      long = length_write k m x ∙ s.long ∙ sym (length_write l m y);
      count = omega (arith, s.count, count_above k m x (m - 1) (omega arith));
      gaps = s.gaps;
      all = omega (arith, s.count, s.all);
      linked =
          frame k l (write k m x) (write l m y) m (m - 1) m root s.gaps
          (record {
            low = λ p d q. omega arith;
            mark = λ p d q. at_write_other k m p x d;
            link = λ p d q. at_write_other l m p y d;
          })
          s.linked (away_live k l m m root s.gaps live s.linked);
    }

-- Remove of any other live place: it becomes the root.
pub free_shaped : (k l : List ℕ) (len m root p : ℕ) → p ≤ m → (at k p ≡ 0 → ⊥) → Shaped k l len m root
    → Shaped (write k p 0) (write l p (link_to root p)) (len - 1) m p
free_shaped k l len m root p low live s =
    let some : p ≡ 0 → ⊥ = λ e. live (at_zero k p e) in
    let within = s.within in
    let long = s.long in
    let link = at_write_same l p (link_to root p) some (omega arith) in
    let fewer = count_freed k p m low live in
    record {
      within = omega (arith, length_write k p 0);
      long = length_write k p 0 ∙ s.long ∙ sym (length_write l p (link_to root p));
      count = omega (arith, s.count);
      gaps = suc s.gaps;
      all = omega (arith, s.count, s.all);
      linked = (
        record {
          some = some;
          low = low;
          free = at_write_same k p 0 some (omega arith);
          link = λ e. link_to_some root p some (sym link ∙ e);
        },
        rw (link_to_next (write l p (link_to root p)) root p link (live_not_root k l len m root p s live))
            (frame k l (write k p 0) (write l p (link_to root p)) m m p root s.gaps (written k l m p 0 (link_to root p)) s.linked
            (away_live k l m p root s.gaps live s.linked)),
      );
    }

-- Invalidate: a live place has another mark.
pub mark_shaped : (k l : List ℕ) (len m root p x : ℕ) → p ≤ m → (at k p ≡ 0 → ⊥) → (x ≡ 0 → ⊥) → Shaped k l len m root
    → Shaped (write k p x) l len m root
mark_shaped k l len m root p x low live hx s =
    let within = s.within in
    record {
      within = omega (arith, length_write k p x);
      long = length_write k p x ∙ s.long;
      count = count_marked k p x m low live hx ∙ s.count;
      gaps = s.gaps;
      all = s.all;
      linked =
          frame k l (write k p x) l m m p root s.gaps
          (record { low = λ q d h. h; mark = λ q d h. at_write_other k p q x d; link = λ q d h. refl })
          s.linked (away_live k l m p root s.gaps live s.linked);
    }

-- Clear: an empty stack, whatever the tables.
pub empty_shaped : (k l : List ℕ) → length k ≡ length l → Shaped k l 0 0 0
empty_shaped k l long =
    record { within = omega arith; long = long; count = count_none k; gaps = 0; all = refl; linked = refl }

-- Compress, and the destination of a transfer: a stack of live places alone has no root.
pub full_shaped : (k l : List ℕ) (n : ℕ) → n ≤ length k → length k ≡ length l → ((p : ℕ) → (p ≡ 0 → ⊥) → p ≤ n → at k p ≡ 0 → ⊥)
    → Shaped k l n n 0
full_shaped k l n within long h =
    record { within = within; long = long; count = all_live_full k n h; gaps = 0; all = omega arith; linked = refl }
