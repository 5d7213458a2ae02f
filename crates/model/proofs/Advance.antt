-- An advance that may look at m + 1 places finds what one that may look at more would find: the bound cuts nothing
-- off. Then what the first look of an advance comes to. Assumes nothing.
use Prim.Native.Nat.{ℕ, zero, suc, ◌+◌, ◌≤◌, ◌<◌}
use mathlib.Core.Path.{◌≡◌, refl, ap, sym, ◌∙◌}
use mathlib.Core.List.{List}
use mathlib.Core.Bool.{Bool, true, false, cond}
use native.Mathlib.Decide.{ℕ_discrete, dec_lt}
use native.Mathlib.Numerals.{add-one}
use native.Mathlib.Omega.{arith}
use lib.Dec.{eqb, ltb}
use borrow.Author.Tests.{eq-eqb, ne_eqb, lt-ltb, le-ltb}
use Rattle.model.specs.Store.{at, max_index}
use Rattle.model.specs.Freelist.{free}
use Rattle.model.specs.Calls.{Sought, seek, moved, sought}
use Rattle.model.specs.declared.Cursor.{Cursor}

-- With 1 + j looks a cursor in a stack of m places gets to its end: down from its index, or up from it to m + 1.
record Enough (m j : ℕ) (c : Cursor) : Type 0 where
  back : c.rev ≡ true → c.index ≤ m → c.index ≤ 1 + j
  on : c.rev ≡ false → (c.index ≡ 0 → ⊥) → m + 1 ≤ c.index + j

-- A spent cursor finds nothing, however many places it may look at.
pub sought_spent : (j : ℕ) (k : List ℕ) (m : ℕ) (c : Cursor) → c.index ≡ 0 → sought j k m c ≡ seek c 0
unfolding sought
sought_spent zero k m c e = refl
sought_spent (suc j) k m c e = simp (eq-eqb c.index 0 e)

-- An index above the stack finds nothing at the first look.
sought_above : (j : ℕ) (k : List ℕ) (m : ℕ) (c : Cursor) → m < c.index → sought (suc j) k m c ≡ seek (moved c) 0
unfolding sought
sought_above j k m c h = simp (ne_eqb c.index 0 (λ e. omega arith), lt-ltb m c.index h)

-- One look less is enough for the cursor that has moved.
enough_moved : (m j : ℕ) (c : Cursor) → (c.index ≡ 0 → ⊥) → c.index ≤ m → Enough m (suc j) c → Enough m j (moved c)
unfolding moved
enough_moved m j c n low e =
    record {
      back = λ r h. rw r (omega (arith, e.back r low));
      on = λ r z.
          elim (ℕ_discrete c.index max_index) [
            | yes q ↦ absurd (z (simp (r, eq-eqb c.index max_index q)))
            | no q ↦ simp (r, ne_eqb c.index max_index q) (omega (arith, e.on r n))
          ];
    }

-- A look more finds the same if it does so from the cursor that has moved.
sought_step : (j : ℕ) (k : List ℕ) (m : ℕ) (c : Cursor)
    → ((c.index ≡ 0 → ⊥) → c.index ≤ m → sought (suc j) k m (moved c) ≡ sought j k m (moved c))
    → sought (suc (suc j)) k m c ≡ sought (suc j) k m c
unfolding sought
sought_step j k m c rest =
    elim (ℕ_discrete c.index 0) [
      | yes z ↦ sought_spent (suc (suc j)) k m c z ∙ sym (sought_spent (suc j) k m c z)
      | no n ↦
          elim (dec_lt m c.index) [
            | yes h ↦ sought_above (suc j) k m c h ∙ sym (sought_above j k m c h)
            | no h ↦
                ap
                (λ (x : Sought).
                cond (eqb c.index 0) (seek c 0)
                (cond (ltb m c.index) (seek (moved c) 0)
                (cond (free k c.index) x (seek (moved c) c.index))))
                (rest n (omega arith))
          ]
    ]

-- A cursor for which one look is enough is spent after it.
spent_after : (m : ℕ) (c : Cursor) → (c.index ≡ 0 → ⊥) → c.index ≤ m → Enough m 0 c → (moved c).index ≡ 0
unfolding moved
spent_after m c n low e = go c.rev refl
  where
    go : (b : Bool) → c.rev ≡ b → (moved c).index ≡ 0
    go true r = simp r (omega (arith, e.back r low))
    go false r = absurd (omega (arith, e.on r n))

-- With enough looks, one look more finds the same.
sought_more : (j : ℕ) (k : List ℕ) (m : ℕ) (c : Cursor) → Enough m j c → sought (suc (suc j)) k m c ≡ sought (suc j) k m c
sought_more zero k m c e =
    sought_step 0 k m c
    (λ n low.
    let z = spent_after m c n low e in
    sought_spent 1 k m (moved c) z ∙ sym (sought_spent 0 k m (moved c) z))
sought_more (suc j) k m c e = sought_step (suc j) k m c (λ n low. sought_more j k m (moved c) (enough_moved m j c n low e))

-- m + 1 looks are enough for every cursor.
enough : (m j : ℕ) (c : Cursor) → m ≤ j → Enough m j c
enough m j c h = record { back = λ r low. omega arith; on = λ r n. omega arith }

pub sought_enough : (k : List ℕ) (m n : ℕ) (c : Cursor) → sought (m + 1 + n) k m c ≡ sought (m + 1) k m c
sought_enough k m zero c = ap (λ (j : ℕ). sought j k m c) (omega arith)
sought_enough k m (suc n) c =
    ap (λ (j : ℕ). sought j k m c) (omega arith)
    ∙ sought_more (m + n) k m c (enough m (m + n) c (omega arith))
    ∙ ap (λ (j : ℕ). sought j k m c) (omega arith)
    ∙ sought_enough k m n c

-- A free place is passed over.
sought_free : (i : ℕ) (k : List ℕ) (m : ℕ) (c : Cursor) → (c.index ≡ 0 → ⊥) → c.index ≤ m → at k c.index ≡ 0
    → sought (suc i) k m c ≡ sought i k m (moved c)
unfolding sought
sought_free i k m c n low z = simp (ne_eqb c.index 0 n, le-ltb m c.index low, eq-eqb (at k c.index) 0 z)

-- So the cursor that has moved on from it finds the same.
pub sought_on : (k : List ℕ) (m : ℕ) (c : Cursor) → (c.index ≡ 0 → ⊥) → c.index ≤ m → at k c.index ≡ 0
    → sought (m + 1) k m (moved c) ≡ sought (m + 1) k m c
sought_on k zero c n low z = absurd (omega arith)
sought_on k (suc j) c n low z =
    ap (λ (i : ℕ). sought i k (suc j) (moved c)) (add-one (suc j))
    ∙ sought_more j k (suc j) (moved c) (enough_moved (suc j) j c n low (enough (suc j) (suc j) c (omega arith)))
    ∙ sym (ap (λ (i : ℕ). sought i k (suc j) c) (add-one (suc j)) ∙ sought_free (suc j) k (suc j) c n low z)

-- Above the stack it finds nothing.
pub sought_beyond : (k : List ℕ) (m : ℕ) (c : Cursor) → m < c.index → sought (m + 1) k m c ≡ seek (moved c) 0
sought_beyond k m c h = ap (λ (i : ℕ). sought i k m c) (add-one m) ∙ sought_above m k m c h

-- A live place is found.
pub sought_found : (k : List ℕ) (m : ℕ) (c : Cursor) → (c.index ≡ 0 → ⊥) → c.index ≤ m → (at k c.index ≡ 0 → ⊥)
    → sought (m + 1) k m c ≡ seek (moved c) c.index
unfolding sought
sought_found k m c n low z =
    ap (λ (i : ℕ). sought i k m c) (add-one m)
    ∙ simp (ne_eqb c.index 0 n, le-ltb m c.index low, ne_eqb (at k c.index) 0 z)
