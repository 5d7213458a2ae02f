-- What the two loops come to: the messages of a stack laid on zeroed tables. Assumes nothing.
use Prim.Native.Nat.{ℕ, zero, suc, ◌+◌, ◌-◌, ◌≤◌, ◌<◌}
use mathlib.Core.Path.{◌≡◌, refl, ap, sym, ◌∙◌}
use mathlib.Core.List.{List, [], ◌∷◌, map}
use native.Mathlib.Omega.{arith}
use native.Mathlib.Decide.{ℕ_discrete}
use lib.ListN.{length, set, replicate, length-map, length-replicate}
use lib.Seq.{sets, set-set, set_comm}
use Rattle.model.specs.Store.{Tables, header, store, at, write, popped, zeroed_to, zeroed}
use Rattle.model.specs.Freelist.{live_places}
use Rattle.model.specs.Calls.{laid, gathered}
use Rattle.model.specs.declared.Header.{Header}
use Rattle.model.proofs.Laying.{popped_laid}
use Rattle.model.proofs.Above.{live_places_few}
use Rattle.arena.specs.Popped.{popped_above}
use Rattle.arena.proofs.MovingDown.{moved_to}

-- A word that is written over need not have been written.
sets_over : (l : List ℕ) (i : ℕ) (xs : List ℕ) (j x : ℕ) → i ≤ j → j < i + length xs → sets (set l j x) i xs ≡ sets l i xs
sets_over l i [] j x low high = absurd (omega arith)
sets_over l i (y ∷ ys) j x low high =
    elim (ℕ_discrete j i) [
      | yes e ↦ ap (λ (k : ℕ). sets (set (set l k x) i y) (suc i) ys) e ∙ ap (λ (u : List ℕ). sets u (suc i) ys) (set-set l i x y)
      | no d ↦
          ap (λ (u : List ℕ). sets u (suc i) ys) (set_comm l j i x y d)
          ∙ sets_over (set l i y) (suc i) ys j x (omega arith) (omega arith)
    ]

sets_zeroed : (n : ℕ) (l xs : List ℕ) → n ≤ length xs → sets (zeroed_to n l) 0 xs ≡ sets l 0 xs
unfolding zeroed_to write
sets_zeroed zero l xs h = refl
sets_zeroed (suc n) l xs h = sets_over (zeroed_to n l) 0 xs n 0 (omega arith) (omega arith) ∙ sets_zeroed n l xs (omega arith)

-- So it is the same whether places are zeroed before messages are laid at them.
laid_zeroed : (t : Tables) (n : ℕ) (gs vs : List ℕ) → n ≤ length gs → n ≤ length vs → laid (zeroed t n) gs vs ≡ laid t gs vs
unfolding laid zeroed
laid_zeroed t n gs vs g v =
    let a = sets_zeroed n t.generations gs g in
    let b = sets_zeroed n t.links (replicate (length gs) 0) (rw length-replicate g) in
    let c = sets_zeroed n t.values vs v in
    cc

-- Places above the messages may be popped after them, or zeroed before.
popped_zeroed : (t : Tables) (n j : ℕ) (gs vs : List ℕ) → length gs ≤ n → length vs ≤ n
    → popped_above (laid (zeroed t n) gs vs) n j ≡ laid (zeroed t (n + j)) gs vs
unfolding popped_above
popped_zeroed t n zero gs vs g v = ap (λ (k : ℕ). laid (zeroed t k) gs vs) (omega arith)
popped_zeroed t n (suc j) gs vs g v =
    ap (λ (x : Tables). popped x (n + j + 1)) (popped_zeroed t n j gs vs g v)
    ∙ popped_laid t (n + j) gs vs (omega arith) (omega arith)
    ∙ ap (λ (k : ℕ). laid (zeroed t k) gs vs) (omega arith)

-- Moved down, which gave t₁, and then popped above the messages, which gave t, the stack is gathered.
pub moved_popped : (t₀ : Tables) {t₁ t : Tables} (h : Header) {g n : ℕ}
    → (t₁ ≡ moved_to t₀ g h.m) × (n ≡ length (live_places t₀.generations h.m))
    → t ≡ popped_above t₁ n (h.m - n)
    → store t (header n n 0 g) ≡ gathered (store t₀ h) (store t₀ h) g
unfolding gathered
moved_popped t₀ {t₁} {t} h {g} {n} (moved, count) pop =
    let ps = live_places t₀.generations h.m in
    let few = live_places_few t₀.generations h.m in
    let gs = replicate (length ps) g in
    let vs = map (at t₀.values) ps in
    let long-gs : length gs ≡ n = length-replicate (length ps) g ∙ sym count in
    let long-vs : length vs ≡ n = length-map ps (at t₀.values) ∙ sym count in
    let tables : t ≡ laid (zeroed t₀ h.m) gs vs =
    pop
    ∙ ap (λ (x : Tables). popped_above x n (h.m - n)) (moved ∙ sym (laid_zeroed t₀ n gs vs (omega arith) (omega arith)))
    ∙ popped_zeroed t₀ n (h.m - n) gs vs (omega arith) (omega arith)
    ∙ ap (λ (k : ℕ). laid (zeroed t₀ k) gs vs) (omega arith) in
    cc
