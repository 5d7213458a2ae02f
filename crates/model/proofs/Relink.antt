-- A chain made afresh of the free places of a stack: it has them all, ascends, and depends on the marks alone; no link
-- of another place is changed. Assumes nothing.
use Prim.Native.Nat.{ℕ, zero, suc, ◌+◌, ◌<◌, ◌≤◌}
use mathlib.Core.Path.{◌≡◌, refl, ap, sym, ◌∙◌, subst}
use mathlib.Core.List.{List}
use native.Mathlib.Omega.{arith}
use native.Mathlib.Decide.{ℕ_discrete}
use lib.ListN.{length}
use Rattle.model.specs.Store.{at, write}
use Rattle.model.specs.Freelist.{chain, chained, live_count, next_free, link_to}
use Rattle.model.proofs.Tests.{tests}
use Rattle.model.proofs.Lengths.{length_chained}
use Rattle.model.proofs.Places.{at_zero, at_write_same, at_write_other, length_write}
use Rattle.model.proofs.Linked.{Linked, Away, Kept, away_root, next_same, frame, away_frame}
use Rattle.model.proofs.Count.{count_none, count_next, counted_free, counted_live}
use Rattle.model.proofs.Changes.{link_to_some, link_to_next}
use Rattle.model.proofs.Words.{same_words, same_write}

-- One step down: a free place is linked to the root and becomes the root, and a live place is passed.
pub chained_free : (k : List ℕ) (n : ℕ) (l : List ℕ) (r : ℕ) → at k (suc n) ≡ 0
    → chained k (suc n) l r ≡ chained k n (write l (suc n) (link_to r (suc n))) (suc n)
unfolding chained
chained_free k n l r e = simp tests

pub chained_live : (k : List ℕ) (n : ℕ) (l : List ℕ) (r : ℕ) → (at k (suc n) ≡ 0 → ⊥) → chained k (suc n) l r ≡ chained k n l r
unfolding chained
chained_live k n l r h = simp tests

-- Below the first place there is nothing to do.
pub chained_none : (k l : List ℕ) (r : ℕ) → chained k 0 l r ≡ chain r l
unfolding chained
chained_none k l r = refl

-- The link of a place above n, or of a live place, is not changed.
pub chained_kept : (k : List ℕ) (n : ℕ) (l : List ℕ) (r p : ℕ) → (p ≤ n → at k p ≡ 0 → ⊥) → at (chained k n l r).links p ≡ at l p
chained_kept k zero l r p h = rw (chained_none k l r) refl
chained_kept k (suc n) l r p h =
    elim (ℕ_discrete (at k (suc n)) 0) [
      | yes e ↦
          rw (chained_free k n l r e)
          (chained_kept k n (write l (suc n) (link_to r (suc n))) (suc n) p (λ q. h (omega arith))
          ∙ at_write_other l (suc n) p (link_to r (suc n)) (λ s. h (omega arith) (rw s e)))
      | no d ↦ rw (chained_live k n l r d) (chained_kept k n l r p (λ q. h (omega arith)))
    ]

-- The chain of c places above n goes on below, and in the end has g places: those c, and the free places up to n.
pub chained_linked : (k : List ℕ) (m n : ℕ) (l : List ℕ) (r c g : ℕ) → n ≤ m → m ≤ length l → Linked k l m r c
    → ((i : ℕ) → i ≤ n → Away l i r c) → c + n ≡ g + live_count k n
    → Linked k (chained k n l r).links m (chained k n l r).root g
chained_linked k m zero l r c g h within b a e =
    let s : c ≡ g = omega (arith, count_none k) in
    rw (chained_none k l r) (subst (λ (t : ℕ). Linked k l m r t) s b)
chained_linked k m (suc n) l r c g h within b a e =
    elim (ℕ_discrete (at k (suc n)) 0) [
      | yes z ↦
          let p = suc n in
          let l' = write l p (link_to r p) in
          let some : p ≡ 0 → ⊥ = λ e. omega arith in
          let far = a p (omega arith) in
          let link = at_write_same l p (link_to r p) some (omega arith) in
          let next = link_to_next l' r p link (away_root k l m p r c some b far) in
          let kept : Kept k l k l' m m p = record {
            low = λ q d x. x;
            mark = λ q d x. refl;
            link = λ q d x. at_write_other l p q (link_to r p) d;
          } in
          let longer : Linked k l' m p (suc c) = (
            record { some = some; low = h; free = z; link = λ e. link_to_some r p some (sym link ∙ e) },
            rw next (frame k l k l' m m p r c kept b far),
          ) in
          let away : (i : ℕ) → i ≤ n → Away l' i p (suc c) =
          λ i q. (λ e. omega arith, rw next (away_frame k l k l' m m p r c i kept b far (a i (omega arith)))) in
          let none = counted_free z in
          rw (chained_free k n l r z)
          (chained_linked k m n l' p (suc c) g (omega arith) (omega (arith, length_write l p (link_to r p))) longer away
          (omega (arith, count_next k n)))
      | no d ↦
          let one = counted_live d in
          rw (chained_live k n l r d)
          (chained_linked k m n l r c g (omega arith) within b (λ i q. a i (omega arith)) (omega (arith, count_next k n)))
    ]

-- q is the lowest free place above p in a stack of m places, or 0 where there is none.
pub record Lowest (k : List ℕ) (m p q : ℕ) : Type 0 where
  pub high : (q ≡ 0 → ⊥) → p < q
  pub low : q ≤ m
  pub free : at k q ≡ 0
  pub first : (j : ℕ) → p < j → j ≤ m → at k j ≡ 0 → (q ≡ 0 → ⊥) × (q ≤ j)

-- Above the stack there is none. Above place n it is place n + 1 if that is free, else the lowest above place n + 1.
pub lowest_none : (k : List ℕ) (m : ℕ) → Lowest k m m 0
lowest_none k m =
    record {
      high = λ h. absurd (h refl);
      low = omega arith;
      free = at_zero k 0 refl;
      first = λ j h q z. absurd (omega arith);
    }

pub lowest_free : (k : List ℕ) (m n : ℕ) → suc n ≤ m → at k (suc n) ≡ 0 → Lowest k m n (suc n)
lowest_free k m n h e =
    record { high = λ z. omega arith; low = h; free = e; first = λ j q c z. (λ s. omega arith, omega arith) }

pub lowest_live : (k : List ℕ) (m n q : ℕ) → (at k (suc n) ≡ 0 → ⊥) → Lowest k m (suc n) q → Lowest k m n q
lowest_live k m n q d a =
    record {
      high = λ z. omega (arith, a.high z);
      low = a.low;
      free = a.free;
      first = λ j h c z.
          let other : j ≡ suc n → ⊥ = λ s. d (subst (λ (t : ℕ). at k t ≡ 0) s z) in
          a.first j (omega arith) c z;
    }

-- The chain ascends: its root is the lowest free place of the stack, and after each free place comes the lowest above
-- it.
pub chained_root : (k : List ℕ) (m n : ℕ) (l : List ℕ) (r : ℕ) → n ≤ m → Lowest k m n r → Lowest k m 0 (chained k n l r).root
chained_root k m zero l r h a = rw (chained_none k l r) a
chained_root k m (suc n) l r h a =
    elim (ℕ_discrete (at k (suc n)) 0) [
      | yes e ↦
          rw (chained_free k n l r e)
          (chained_root k m n (write l (suc n) (link_to r (suc n))) (suc n) (omega arith) (lowest_free k m n h e))
      | no d ↦ rw (chained_live k n l r d) (chained_root k m n l r (omega arith) (lowest_live k m n r d a))
    ]

pub chained_ascends : (k : List ℕ) (m n : ℕ) (l : List ℕ) (r p : ℕ) → n ≤ m → m ≤ length l → Lowest k m n r
    → (p ≡ 0 → ⊥) → p ≤ n → at k p ≡ 0 → Lowest k m p (next_free (chained k n l r).links p)
chained_ascends k m zero l r p h within a some low z = absurd (omega arith)
chained_ascends k m (suc n) l r p h within a some low z =
    elim (ℕ_discrete (at k (suc n)) 0) [
      | yes e ↦
          let l' = write l (suc n) (link_to r (suc n)) in
          rw (chained_free k n l r e)
          (elim (ℕ_discrete p (suc n)) [
            | yes s ↦
                let kept = chained_kept k n l' (suc n) (suc n) (λ q. absurd (omega arith)) in
                let link = at_write_same l (suc n) (link_to r (suc n)) (λ q. omega arith) (omega arith) in
                let other : r ≡ suc n → ⊥ = λ q. omega (arith, a.high (λ x. omega arith)) in
                rw (s, next_same l' (chained k n l' (suc n)).links (suc n) kept, link_to_next l' r (suc n) link other) a
            | no d ↦
                chained_ascends k m n l' (suc n) p (omega arith) (omega (arith, length_write l (suc n) (link_to r (suc n))))
                (lowest_free k m n h e) some (omega arith) z
          ])
      | no d ↦
          let other : p ≡ suc n → ⊥ = λ s. d (subst (λ (t : ℕ). at k t ≡ 0) s z) in
          rw (chained_live k n l r d)
          (chained_ascends k m n l r p (omega arith) within (lowest_live k m n r d a) some (omega arith) z)
    ]

-- Links that differ in free places up to n alone are the same when chained.
pub chained_same : (k : List ℕ) (n : ℕ) (l l' : List ℕ) (r : ℕ) → length l ≡ length l'
    → ((p : ℕ) → (p ≡ 0 → ⊥) → (p ≤ n → at k p ≡ 0 → ⊥) → at l p ≡ at l' p)
    → chained k n l r ≡ chained k n l' r
chained_same k zero l l' r e h =
    ap (λ (t : List ℕ). chained k 0 t r) (same_words l l' e (λ p some. h p some (λ q. absurd (omega arith))))
chained_same k (suc n) l l' r e h =
    elim (ℕ_discrete (at k (suc n)) 0) [
      | yes z ↦
          let y = link_to r (suc n) in
          rw (chained_free k n l r z, chained_free k n l' r z)
          (chained_same k n (write l (suc n) y) (write l' (suc n) y) (suc n)
          (length_write l (suc n) y ∙ e ∙ sym (length_write l' (suc n) y))
          (λ p some q.
          same_write l l' (suc n) y p e (λ d. h p some (λ c. q (omega arith)))))
      | no d ↦
          rw (chained_live k n l r d, chained_live k n l' r d)
          (chained_same k n l l' r e (λ p some q. h p some (λ c z. live p d q c z)))
    ]
  where
    live : (p : ℕ) → (at k (suc n) ≡ 0 → ⊥) → (p ≤ n → at k p ≡ 0 → ⊥) → p ≤ suc n → at k p ≡ 0 → ⊥
    live p d q c z =
        elim (ℕ_discrete p (suc n)) [
          | yes s ↦ d (subst (λ (t : ℕ). at k t ≡ 0) s z)
          | no f ↦ q (omega arith) z
        ]

-- A chain that is made again is the same.
pub chained_again : (k : List ℕ) (n : ℕ) (l : List ℕ) (r : ℕ) → chained k n (chained k n l r).links r ≡ chained k n l r
chained_again k n l r =
    chained_same k n (chained k n l r).links l r (length_chained k n l r) (λ p some h. chained_kept k n l r p h)
