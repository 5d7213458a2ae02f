-- A loop that goes over a stack from place 1 on, and lays the message of each place, if it has one, at the next place
-- from 1 on. Assumes nothing.
use Prim.Native.Nat.{ℕ, ◌+◌, ◌≤◌}
use mathlib.Core.Path.{◌≡◌, refl, ap, sym, ◌∙◌}
use native.Mathlib.Omega.{arith}
use lib.ListN.{length, length-map, length-replicate}
use Rattle.model.specs.Store.{Tables, Words, at, words_at, filled}
use Rattle.model.specs.Freelist.{live_places}
use Rattle.model.specs.Calls.{laid}
use Rattle.model.proofs.Laying.{messages_laid, count_live, live_places_free, messages_live, messages_free}
use Rattle.model.proofs.Lengths.{AsLong, long_laid}
use Rattle.model.proofs.Above.{live_places_few, above_laid}

-- The tables t with the messages of the first p places laid with generation g.
abbrev pub moved_to : Tables → ℕ → ℕ → Tables
moved_to t g p = messages_laid t t.generations t.values g p

-- Of a stack of m places with tables t₀, the messages of those up to p, which are n, are laid with generation g, and
-- the tables are t.
pub record Moving (t₀ : Tables) (m g : ℕ) (t : Tables) (n p : ℕ) : Type 0 where
  pub within : p ≤ m
  pub count : n ≡ length (live_places t₀.generations p)
  pub moved : t ≡ moved_to t₀ g p

pub moving_starts : (t : Tables) (m g : ℕ) → Moving t m g t 0 0
unfolding live_places laid
moving_starts t m g = record { within = omega arith; count = refl; moved = refl }

-- as many messages are laid as places are read, or fewer
pub moving_low : {t₀ t : Tables} {m g n p : ℕ} → Moving t₀ m g t n p → n ≤ p
moving_low {t₀} {p} w = omega (arith, w.count, live_places_few t₀.generations p)

-- so the next place has the words that it had
moving_words : {t₀ t : Tables} {m g n p : ℕ} → Moving t₀ m g t n p → words_at t (p + 1) ≡ words_at t₀ (p + 1)
moving_words {t₀} {g} {p} w =
    let ps = live_places t₀.generations p in
    let few = live_places_few t₀.generations p in
    ap (λ (x : Tables). words_at x (p + 1)) w.moved
    ∙ above_laid t₀ _ _ (p + 1) (omega (arith, length-replicate (length ps) g)) (omega (arith, length-map ps (at t₀.values)))

-- q is the next place, `old` and v its generation and value
pub moving_live : {t₀ t t' : Tables} {m g n p q old v : ℕ} → q ≡ p + 1 → q ≤ m → old ≡ at t.generations q → (old ≡ 0 → ⊥)
    → v ≡ at t.values q → t' ≡ filled t (n + 1) g v
    → Moving t₀ m g t n p → Moving t₀ m g t' (n + 1) q
moving_live {t₀} {g} {n} {p} {v} e below is some value fill w =
    let words = moving_words w in
    let live : at t₀.generations (p + 1) ≡ 0 → ⊥ = λ z. some (rw e at is ∙ ap (λ (x : Words). x.generation) words ∙ z) in
    rw e
    (record {
      within = omega arith;
      count = ap (λ (j : ℕ). j + 1) w.count ∙ sym (count_live t₀.generations p live);
      moved =
          fill
          ∙ ap (λ (x : Tables). filled x (n + 1) g v) w.moved
          ∙ messages_live t₀ _ _ g p n v w.count live (rw e at value ∙ ap (λ (x : Words). x.value) words);
    })

pub moving_free : {t₀ t : Tables} {m g n p q old : ℕ} → q ≡ p + 1 → q ≤ m → old ≡ at t.generations q → old ≡ 0
    → Moving t₀ m g t n p → Moving t₀ m g t n q
moving_free {t₀} {g} {p} e below is none w =
    let free = sym (ap (λ (x : Words). x.generation) (moving_words w)) ∙ sym (rw e at is) ∙ none in
    rw e
    (record {
      within = omega arith;
      count = w.count ∙ ap length (sym (live_places_free t₀.generations p free));
      moved = w.moved ∙ sym (messages_free t₀ _ _ g p free);
    })

-- the tables keep their lengths
pub moving_lengths : {t₀ t : Tables} {m g n p : ℕ} → Moving t₀ m g t n p → AsLong t t₀
moving_lengths {t₀} w = rw w.moved (long_laid t₀ _ _)

pub moving_ends : {t₀ t : Tables} {m g n p : ℕ} → m ≤ p → Moving t₀ m g t n p
    → (t ≡ moved_to t₀ g m) × (n ≡ length (live_places t₀.generations m))
moving_ends {t₀} {m} {g} {p} above w =
    let e : p ≡ m = omega (arith, w.within) in (
      w.moved ∙ ap (moved_to t₀ g) e,
      w.count ∙ ap (λ (j : ℕ). length (live_places t₀.generations j)) e,
    )
