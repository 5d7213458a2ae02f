-- A loop that pops the places above place n, up to place m. Assumes nothing.
use Prim.Native.Nat.{ℕ, zero, suc, ◌+◌, ◌-◌, ◌≤◌, ◌<◌}
use mathlib.Core.Path.{◌≡◌, ap, sym, ◌∙◌}
use native.Mathlib.Omega.{arith}
use Rattle.model.specs.Store.{Tables, popped}
use Rattle.model.proofs.Lengths.{AsLong, same, via, long_placed}
use Rattle.arena.specs.Popped.{popped_above}

-- The places above n up to p are popped, and the tables, which were t₀, are t. Where n is above m, none is to be
-- popped.
pub record Popping (t₀ : Tables) (n m : ℕ) (t : Tables) (p : ℕ) : Type 0 where
  pub low : n ≤ p
  pub within : p - n ≤ m - n
  pub done : t ≡ popped_above t₀ n (p - n)

pub popping_starts : (t : Tables) (n m : ℕ) → Popping t n m t n
unfolding popped_above
popping_starts t n m =
    let none : n - n ≡ 0 = omega arith in
    record { low = omega arith; within = omega arith; done = rw none }

-- one place more
popped_next : (t : Tables) (n p : ℕ) → n ≤ p → popped_above t n (p + 1 - n) ≡ popped (popped_above t n (p - n)) (p + 1)
unfolding popped_above
popped_next t n p h =
    let more : p + 1 - n ≡ suc (p - n) = omega arith in
    ap (popped_above t n) more
    ∙ ap (λ (q : ℕ). popped (popped_above t n (p - n)) q) (omega arith)

pub popping_goes_on : {t₀ t t' : Tables} {n m p : ℕ} → p < m → t' ≡ popped t (p + 1) → Popping t₀ n m t p → Popping t₀ n m t' (p + 1)
popping_goes_on {t₀} {n} {p} below pop w =
    record {
      low = omega (arith, w.low);
      within = omega (arith, w.low);
      done = pop ∙ ap (λ (x : Tables). popped x (p + 1)) w.done ∙ sym (popped_next t₀ n p w.low);
    }

-- the tables keep their lengths
long_popped_above : (t : Tables) (n j : ℕ) → AsLong (popped_above t n j) t
unfolding popped_above
long_popped_above t n zero = same t
long_popped_above t n (suc j) = via (long_placed _ _ _ _ _) (long_popped_above t n j)

pub popping_lengths : {t₀ t : Tables} {n m p : ℕ} → Popping t₀ n m t p → AsLong t t₀
popping_lengths {t₀} {n} w = rw w.done (long_popped_above t₀ n _)

pub popping_ends : {t₀ t : Tables} {n m p : ℕ} → m ≤ p → Popping t₀ n m t p → t ≡ popped_above t₀ n (m - n)
popping_ends {t₀} {n} {m} {p} above w =
    let e : p - n ≡ m - n = omega (arith, w.low, w.within) in
    w.done ∙ ap (popped_above t₀ n) e
