-- How many places of a stack are live: after a write, against the stack's length, and what none, all or fewer than all
-- of them says. Assumes nothing.
use Prim.Native.Nat.{ℕ, zero, suc, ◌+◌, ◌-◌, ◌<◌, ◌≤◌}
use mathlib.Core.Path.{◌≡◌, refl, ap, sym, ◌∙◌}
use mathlib.Core.List.{List, [], ◌∷◌}
use mathlib.Core.Bool.{Bool, true, false, cond}
use native.Mathlib.Omega.{arith}
use native.Mathlib.Numerals.{sub-one}
use native.Mathlib.Decide.{ℕ_discrete, dec_le}
use lib.ListN.{length, length-append}
use lib.Dec.{eqb}
use borrow.Author.Tests.{eqb-true, eqb-false}
use Rattle.std.proofs.lemmas.Bool.{cond_both}
use Rattle.model.specs.Store.{at, write}
use Rattle.model.specs.Freelist.{free, live_places, live_count, last_live}
use Rattle.model.proofs.Freelist.{live_count_low}
use Rattle.model.proofs.Tests.{tests}
use Rattle.model.proofs.Places.{at_zero, at_outside, at_write_same, at_write_other}

-- What a place of mark x counts: 0 if it is free, else 1.
unfoldable pub counted : ℕ → ℕ
counted x = cond (eqb x 0) 0 1

pub counted_free : {x : ℕ} → x ≡ 0 → counted x ≡ 0
unfolding counted
counted_free e = simp tests

pub counted_live : {x : ℕ} → (x ≡ 0 → ⊥) → counted x ≡ 1
unfolding counted
counted_live h = simp tests

-- The count goes up by what the next place counts.
pub count_next : (k : List ℕ) (n : ℕ) → live_count k (suc n) ≡ live_count k n + counted (at k (suc n))
unfolding live_count counted
count_next k n = refl

-- An empty stack has none.
pub count_none : (k : List ℕ) → live_count k 0 ≡ 0
unfolding live_count
count_none k = refl

-- The same from the last place down.
pub count_last : (k : List ℕ) (m : ℕ) → (m ≡ 0 → ⊥) → live_count k m ≡ live_count k (m - 1) + counted (at k m)
count_last k zero h = absurd (h refl)
count_last k (suc n) h = rw (sub-one (suc n)) (count_next k n)

-- It is the number of the live places.
pub count_places : (k : List ℕ) (n : ℕ) → length (live_places k n) ≡ live_count k n
unfolding live_places live_count
count_places k zero = refl
count_places k (suc n) =
    length-append (live_places k n) _ ∙ ap (λ (x : ℕ). x + length (cond (free k (suc n)) [] (suc n ∷ []))) (count_places k n)
    ∙ ap (λ (x : ℕ). live_count k n + x) (one (free k (suc n)))
  where
    one : (b : Bool) → length (cond b [] (suc n ∷ [])) ≡ cond b 0 1
    one true = refl
    one false = refl

-- Of marks that count alike up to place n the count is the same.
pub count_same : (k k' : List ℕ) (n : ℕ) → ((p : ℕ) → p ≤ n → counted (at k' p) ≡ counted (at k p)) → live_count k' n ≡ live_count k n
count_same k k' zero h = count_none k' ∙ sym (count_none k)
count_same k k' (suc n) h =
    let e = h (suc n) (omega arith) in
    omega (arith, count_next k n, count_next k' n, count_same k k' n (λ p q. h p (omega arith)))

-- A write above the stack is not counted.
pub count_above : (k : List ℕ) (i x n : ℕ) → n < i → live_count (write k i x) n ≡ live_count k n
count_above k i x n h = count_same k (write k i x) n (λ p q. ap counted (at_write_other k i p x (λ e. omega arith)))

-- A write in the stack: the new mark is counted for the old.
pub count_write : (k : List ℕ) (i x n : ℕ) → (i ≡ 0 → ⊥) → i ≤ n → i ≤ length k
    → live_count (write k i x) n + counted (at k i) ≡ live_count k n + counted x
count_write k i x zero hi h hk = absurd (omega arith)
count_write k i x (suc n) hi h hk =
    elim (ℕ_discrete i (suc n)) [
      | yes e ↦
          let a : counted (at (write k i x) (suc n)) ≡ counted x = rw (← e) (ap counted (at_write_same k i x hi hk)) in
          let b : counted (at k i) ≡ counted (at k (suc n)) = ap (λ (p : ℕ). counted (at k p)) e in
          omega (arith, count_above k i x n (omega arith), count_next (write k i x) n, count_next k n)
      | no d ↦
          let a = ap counted (at_write_other k i (suc n) x (λ e. d (sym e))) in
          omega (arith, count_write k i x n hi (omega arith) hk, count_next (write k i x) n, count_next k n)
    ]

-- So a free place that is marked live adds 1, a live place that is freed takes 1 away, and one that stays live neither.
pub count_filled : (k : List ℕ) (i x n : ℕ) → (i ≡ 0 → ⊥) → i ≤ n → i ≤ length k → at k i ≡ 0 → (x ≡ 0 → ⊥)
    → live_count (write k i x) n ≡ live_count k n + 1
count_filled k i x n hi h hk e hx =
    let a = counted_free e in
    let b = counted_live hx in
    omega (arith, count_write k i x n hi h hk)

live_within : (k : List ℕ) (i : ℕ) → (at k i ≡ 0 → ⊥) → i ≤ length k
live_within k i live =
    elim (dec_le i (length k)) [
      | yes q ↦ q
      | no q ↦ absurd (live (at_outside k i (omega arith)))
    ]

pub count_freed : (k : List ℕ) (i n : ℕ) → i ≤ n → (at k i ≡ 0 → ⊥) → live_count (write k i 0) n + 1 ≡ live_count k n
count_freed k i n h live =
    let a = counted_live live in
    let b : counted 0 ≡ 0 = counted_free refl in
    omega (arith, count_write k i 0 n (λ e. live (at_zero k i e)) h (live_within k i live))

pub count_marked : (k : List ℕ) (i x n : ℕ) → i ≤ n → (at k i ≡ 0 → ⊥) → (x ≡ 0 → ⊥)
    → live_count (write k i x) n ≡ live_count k n
count_marked k i x n h live hx =
    let a = counted_live live in
    let b = counted_live hx in
    omega (arith, count_write k i x n (λ e. live (at_zero k i e)) h (live_within k i live))

-- Where all count, every place is live; where every place is live, all count.
pub full_all_live : (k : List ℕ) (m p : ℕ) → live_count k m ≡ m → (p ≡ 0 → ⊥) → p ≤ m → at k p ≡ 0 → ⊥
full_all_live k zero p e hp h z = omega arith
full_all_live k (suc n) p e hp h z =
    elim (ℕ_discrete p (suc n)) [
      | yes s ↦
          let c : counted (at k (suc n)) ≡ 0 = rw (← s) (counted_free z) in
          omega (arith, count_next k n, live_count_low k n)
      | no d ↦
          elim (ℕ_discrete (at k (suc n)) 0) [
            | yes f ↦ let c = counted_free f in omega (arith, count_next k n, live_count_low k n)
            | no f ↦ let c = counted_live f in full_all_live k n p (omega (arith, count_next k n)) hp (omega arith) z
          ]
    ]

pub all_live_full : (k : List ℕ) (m : ℕ) → ((p : ℕ) → (p ≡ 0 → ⊥) → p ≤ m → at k p ≡ 0 → ⊥) → live_count k m ≡ m
all_live_full k zero h = count_none k
all_live_full k (suc n) h =
    let c = counted_live (h (suc n) (λ e. omega arith) (omega arith)) in
    omega (arith, count_next k n, all_live_full k n (λ p hp q. h p hp (omega arith)))

-- Where none counts, every place is free; where every place is free, none counts.
pub none_all_free : (k : List ℕ) (m p : ℕ) → live_count k m ≡ 0 → p ≤ m → at k p ≡ 0
none_all_free k zero p e h = at_zero k p (omega arith)
none_all_free k (suc n) p e h =
    elim (ℕ_discrete p (suc n)) [
      | yes s ↦
          elim (ℕ_discrete (at k p) 0) [
            | yes z ↦ z
            | no d ↦
                let c : counted (at k (suc n)) ≡ 1 = rw (← s) (counted_live d) in
                absurd (omega (arith, count_next k n))
          ]
      | no d ↦ none_all_free k n p (omega (arith, count_next k n)) (omega arith)
    ]

pub all_free_none : (k : List ℕ) (m : ℕ) → ((p : ℕ) → p ≤ m → at k p ≡ 0) → live_count k m ≡ 0
all_free_none k zero h = count_none k
all_free_none k (suc n) h =
    let c = counted_free (h (suc n) (omega arith)) in
    omega (arith, count_next k n, all_free_none k n (λ p q. h p (omega arith)))

-- The last live place is 0 or live, and those above it are free: so no live place is higher, and no more count than up
-- to there.
pub last_live_lem : (k : List ℕ) (n : ℕ) → (last_live k n ≡ 0 → ⊥) → at k (last_live k n) ≡ 0 → ⊥
unfolding last_live
last_live_lem k zero = λ h. absurd (h refl)
last_live_lem k (suc n) =
    cond_both (free k (suc n)) _ _ (λ (p : ℕ). (p ≡ 0 → ⊥) → at k p ≡ 0 → ⊥) (λ e. last_live_lem k n) (λ e h. eqb-false _ _ e)

pub last_above : (k : List ℕ) (n p : ℕ) → last_live k n < p → p ≤ n → at k p ≡ 0
unfolding last_live
last_above k zero p = λ h q. absurd (omega arith)
last_above k (suc n) p =
    cond_both (free k (suc n)) _ _ (λ (t : ℕ). t < p → p ≤ suc n → at k p ≡ 0)
    (λ e h q.
    elim (ℕ_discrete p (suc n)) [
      | yes s ↦ rw s (eqb-true _ _ e)
      | no d ↦ last_above k n p h (omega arith)
    ])
    (λ e h q. absurd (omega arith))

pub last_highest : (k : List ℕ) (m p : ℕ) → p ≤ m → (at k p ≡ 0 → ⊥) → p ≤ last_live k m
last_highest k m p h live =
    elim (dec_le p (last_live k m)) [
      | yes q ↦ q
      | no q ↦ absurd (live (last_above k m p (omega arith) h))
    ]

pub last_count : (k : List ℕ) (n : ℕ) → live_count k (last_live k n) ≡ live_count k n
unfolding last_live
last_count k zero = refl
last_count k (suc n) =
    cond_both (free k (suc n)) _ _ (λ (p : ℕ). live_count k p ≡ live_count k (suc n))
    (λ e. let c = counted_free (eqb-true (at k (suc n)) 0 e) in omega (arith, count_next k n, last_count k n))
    (λ e. refl)
