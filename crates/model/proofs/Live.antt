-- The lowest live place, as a loop over the places finds it. Assumes nothing.
use Prim.Native.Nat.{ℕ, zero, suc, ◌+◌, ◌<◌}
use mathlib.Core.Path.{◌≡◌, ap, sym, ◌∙◌}
use mathlib.Core.List.{List}
use native.Mathlib.Numerals.{add-one}
use native.Mathlib.Omega.{arith}
use native.Mathlib.Decide.{ℕ_discrete}
use Rattle.model.specs.Store.{at}
use Rattle.model.specs.Freelist.{first_live}
use Rattle.model.proofs.Tests.{tests}

-- going up, a free place leaves the lowest one to be found
pub first_live_free : (k : List ℕ) (n : ℕ) → first_live k n ≡ 0 → at k (n + 1) ≡ 0 → first_live k (n + 1) ≡ 0
unfolding first_live
first_live_free k n e f =
    let g : at k (suc n) ≡ 0 = ap (at k) (sym (add-one n)) ∙ f in
    ap (first_live k) (add-one n) ∙ simp tests

-- and the first live place is the lowest of all
pub first_live_live : (k : List ℕ) (n m : ℕ) → first_live k n ≡ 0 → (at k (n + 1) ≡ 0 → ⊥) → n < m → first_live k m ≡ n + 1
unfolding first_live
first_live_live k n zero e f h = absurd (omega arith)
first_live_live k n (suc m) e f h =
    elim (ℕ_discrete n m) [
      | yes q ↦
          let g : at k (suc m) ≡ 0 → ⊥ = λ x. f (ap (at k) (omega arith) ∙ x) in
          let d : first_live k m ≡ 0 = ap (first_live k) (sym q) ∙ e in
          let r : first_live k (suc m) ≡ suc m = simp tests in
          omega arith
      | no q ↦
          let on : first_live k m ≡ n + 1 = first_live_live k n m e f (omega arith) in
          let d : first_live k m ≡ 0 → ⊥ = λ x. omega arith in
          let r : first_live k (suc m) ≡ first_live k m = simp tests in
          r ∙ on
    ]
