-- One turn of each recursion over places and along the chain, at the form of the number that code has. Assumes nothing.
use Prim.Native.Nat.{ℕ, zero, suc, ◌+◌, ◌-◌, ◌≤◌}
use mathlib.Core.Path.{◌≡◌, refl}
use mathlib.Core.List.{List}
use mathlib.Core.Bool.{cond, not}
use native.Mathlib.Numerals.{add-one, sub-one}
use native.Mathlib.Omega.{arith}
use lib.Dec.{ltb, eqb}
use Rattle.std.proofs.lemmas.Bool.{cond_both}
use Rattle.model.specs.Store.{at, write}
use Rattle.model.specs.Freelist.{free, live_count, link_to, trim, trimmed, chained}
use Rattle.model.specs.Audit.{walk, walked}

-- the live places up to one place more, and that they are no more than the places
pub live_count_next : (k : List ℕ) (n : ℕ) → live_count k (n + 1) ≡ live_count k n + cond (free k (n + 1)) 0 1
unfolding live_count
live_count_next k n = rw add-one

pub live_count_low : (k : List ℕ) (n : ℕ) → live_count k n ≤ n
unfolding live_count
live_count_low k zero = omega arith
live_count_low k (suc n) =
    let h = live_count_low k n in
    cond_both (free k (suc n)) _ _ (λ (x : ℕ). live_count k n + x ≤ suc n) (λ e. omega arith) (λ e. omega arith)

-- a trailing place is popped if it is free
pub trimmed_next : (k : List ℕ) (n : ℕ) (l v : List ℕ) → (n ≡ 0 → ⊥)
    → trimmed k n l v ≡ cond (free k n) (trimmed k (n - 1) (write l n 0) (write v n 0)) (trim n l v)
unfolding trimmed
trimmed_next k zero l v h = absurd (h refl)
trimmed_next k (suc n) l v h = rw sub-one

-- a free place becomes the root
pub chained_next : (k : List ℕ) (n : ℕ) (l : List ℕ) (r : ℕ) → (n ≡ 0 → ⊥)
    → chained k n l r ≡ chained k (n - 1) (cond (free k n) (write l n (link_to r n)) l) (cond (free k n) n r)
unfolding chained
chained_next k zero l r h = absurd (h refl)
chained_next k (suc n) l r h = rw sub-one

-- the walk looks at one place, and goes on to the next
pub walked_next : (j : ℕ) (k l : List ℕ) (m p n : ℕ) → (j ≡ 0 → ⊥)
    → walked j k l m p n
    ≡ cond (eqb p 0) (walk 5 n)
    (cond (ltb m p) (walk 6 n)
    (cond (not (free k p)) (walk 7 n)
    (cond (eqb (at l p) p) (walk 0 (n + 1)) (walked (j - 1) k l m (at l p) (n + 1)))))
unfolding walked
walked_next zero k l m p n h = absurd (h refl)
walked_next (suc j) k l m p n h = rw sub-one
