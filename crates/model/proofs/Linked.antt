-- A free chain by its root and its length: it has no other length, meets no place twice, and stays as it is where the
-- words of the places that it meets do. Assumes nothing.
use Prim.Native.Nat.{ℕ, zero, suc, ◌<◌, ◌≤◌}
use mathlib.Core.Path.{◌≡◌, refl, ap, sym, ◌∙◌, subst}
use mathlib.Core.List.{List}
use native.Mathlib.Omega.{arith}
use borrow.Author.Tests.{eqb-true}
use Rattle.std.proofs.lemmas.Bool.{cond_both}
use Rattle.model.specs.Store.{at}
use Rattle.model.specs.Freelist.{next_free}
use Rattle.model.proofs.Tests.{tests}
use lib.Dec.{eqb}

-- Place p is in a stack of m places, free, and linked.
pub record Free (k l : List ℕ) (m p : ℕ) : Type 0 where
  pub some : p ≡ 0 → ⊥
  pub low : p ≤ m
  pub free : at k p ≡ 0
  pub link : at l p ≡ 0 → ⊥

-- The chain from place r has n places: each is free and linked, and the last is linked to itself.
abbrev pub Linked : List ℕ → List ℕ → ℕ → ℕ → ℕ → Type 0
Linked k l m r zero = r ≡ 0
Linked k l m r (suc n) = Free k l m r × Linked k l m (next_free l r) n

-- Place i is none of the n places from r.
abbrev pub Away : List ℕ → ℕ → ℕ → ℕ → Type 0
Away l i r zero = Unit {0}
Away l i r (suc n) = (r ≡ i → ⊥) × Away l i (next_free l r) n

-- A place with none after it is linked to itself, and one with a place after it is linked to that.
pub next_last : (l : List ℕ) (p : ℕ) → at l p ≡ p → next_free l p ≡ 0
unfolding next_free
next_last l p e = simp tests

pub next_link : (l : List ℕ) (p : ℕ) → (at l p ≡ p → ⊥) → next_free l p ≡ at l p
unfolding next_free
next_link l p h = simp tests

pub last_link : (l : List ℕ) (p : ℕ) → next_free l p ≡ 0 → (at l p ≡ 0 → ⊥) → at l p ≡ p
unfolding next_free
last_link l p =
    cond_both (eqb (at l p) p) _ _ (λ (q : ℕ). q ≡ 0 → (at l p ≡ 0 → ⊥) → at l p ≡ p) (λ t e h. eqb-true _ _ t) (λ t e h. absurd (h e))

-- A chain has no other length.
pub linked_same : (k l : List ℕ) (m r n n' : ℕ) → Linked k l m r n → Linked k l m r n' → n ≡ n'
linked_same k l m r zero zero b b' = refl
linked_same k l m r zero (suc n') b b' = absurd (b'.0.some b)
linked_same k l m r (suc n) zero b b' = absurd (b.0.some b')
linked_same k l m r (suc n) (suc n') b b' = ap suc (linked_same k l m (next_free l r) n n' b.1 b'.1)

-- A chain does not meet a place from which the chain is longer: so no place is met again.
pub away_chain : (k l : List ℕ) (m i r n j : ℕ) → Linked k l m i j → Linked k l m r n → n < j → Away l i r n
away_chain k l m i r zero j a b h = tt
away_chain k l m i r (suc n) j a b h = (
  λ e. let f = linked_same k l m i (suc n) j (subst (λ (t : ℕ). Linked k l m t (suc n)) e b) a in omega arith,
  away_chain k l m i (next_free l r) n j a b.1 (omega arith),
)

-- Nor a place that is live or above the stack.
pub away_live : (k l : List ℕ) (m i r n : ℕ) → (at k i ≡ 0 → ⊥) → Linked k l m r n → Away l i r n
away_live k l m i r zero h b = tt
away_live k l m i r (suc n) h b =
    (λ e. h (subst (λ (t : ℕ). at k t ≡ 0) e b.0.free), away_live k l m i (next_free l r) n h b.1)

pub away_above : (k l : List ℕ) (m i r n : ℕ) → m < i → Linked k l m r n → Away l i r n
away_above k l m i r zero h b = tt
away_above k l m i r (suc n) h b =
    (λ e. omega (arith, b.0.low), away_above k l m i (next_free l r) n h b.1)

-- A place that the chain does not meet is not its root.
pub away_root : (k l : List ℕ) (m i r n : ℕ) → (i ≡ 0 → ⊥) → Linked k l m r n → Away l i r n → r ≡ i → ⊥
away_root k l m i r zero h b a e = h (sym e ∙ b)
away_root k l m i r (suc n) h b a e = a.0 e

-- A link of the chain leads into the stack.
pub link_low : (k l : List ℕ) (m r n : ℕ) → Linked k l m r (suc n) → at l r ≤ m
unfolding next_free
link_low k l m r zero b = let e = last_link l r b.1 b.0.link in omega (arith, b.0.low)
link_low k l m r (suc n) b =
    cond_both (eqb (at l r) r) _ _ (λ (q : ℕ). Linked k l m q (suc n) → at l r ≤ m)
    (λ t c. absurd (c.0.some refl)) (λ t c. c.0.low) b.1

-- The place after another is the same where its link is.
pub next_same : (l l' : List ℕ) (p : ℕ) → at l' p ≡ at l p → next_free l' p ≡ next_free l p
unfolding next_free
next_same l l' p e = rw e

-- Marks k' and links l' in which every place up to m but place i is as in k and l, and still in the stack.
pub record Kept (k l k' l' : List ℕ) (m m' i : ℕ) : Type 0 where
  pub low : (p : ℕ) → (p ≡ i → ⊥) → p ≤ m → p ≤ m'
  pub mark : (p : ℕ) → (p ≡ i → ⊥) → p ≤ m → at k' p ≡ at k p
  pub link : (p : ℕ) → (p ≡ i → ⊥) → p ≤ m → at l' p ≡ at l p

-- A chain that does not meet place i is still one.
pub frame : (k l k' l' : List ℕ) (m m' i r n : ℕ) → Kept k l k' l' m m' i → Linked k l m r n → Away l i r n
    → Linked k' l' m' r n
frame k l k' l' m m' i r zero s b a = b
frame k l k' l' m m' i r (suc n) s b a =
    let e = s.link r a.0 b.0.low in (
      record {
        some = b.0.some;
        low = s.low r a.0 b.0.low;
        free = s.mark r a.0 b.0.low ∙ b.0.free;
        link = λ z. b.0.link (sym e ∙ z);
      },
      rw (next_same l l' r e) (frame k l k' l' m m' i (next_free l r) n s b.1 a.1),
    )

-- And it meets no other places.
pub away_frame : (k l k' l' : List ℕ) (m m' i r n j : ℕ) → Kept k l k' l' m m' i → Linked k l m r n → Away l i r n → Away l j r n
    → Away l' j r n
away_frame k l k' l' m m' i r zero j s b a w = tt
away_frame k l k' l' m m' i r (suc n) j s b a w = (
  w.0,
  rw (next_same l l' r (s.link r a.0 b.0.low))
      (away_frame k l k' l' m m' i (next_free l r) n j s b.1 a.1 w.1),
)
