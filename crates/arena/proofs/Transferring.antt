-- A loop that moves the messages of a source to the places of a destination, from place 1 on. Assumes nothing.
use Prim.Native.Nat.{ℕ, ◌+◌, ◌≤◌}
use mathlib.Core.Path.{◌≡◌, refl, ap, sym, ◌∙◌}
use native.Mathlib.Omega.{arith}
use lib.ListN.{length}
use Rattle.model.specs.Store.{Tables, Store, Words, at, words_at, filled, marks}
use Rattle.model.specs.Freelist.{live_places}
use Rattle.model.specs.Calls.{Outcome, laid, removed, removed_all}
use Rattle.model.proofs.Laying.{live_places_live, live_places_free, messages_laid, count_live, messages_live, messages_free, removed_all_next}
use Rattle.model.proofs.Above.{live_places_low, live_places_few, above_removed_all}
use Rattle.model.proofs.Lengths.{AsLong, long_laid, long_removed_all}

-- The destination t₀ with the source's messages up to place p, and the source s₀ without them. All of them get
-- generation g.
abbrev arrived : Tables → Store → ℕ → ℕ → Tables
arrived t₀ s₀ g p = messages_laid t₀ (marks s₀) s₀.tables.values g p

abbrev left : Store → ℕ → Store
left s₀ p = removed_all s₀ (live_places (marks s₀) p)

-- Of the places up to m, the messages of those up to p are moved, n in number. The destination's tables are t, and the
-- source is s.
pub record Moving (t₀ : Tables) (s₀ : Store) (g m : ℕ) (t : Tables) (s : Store) (n p : ℕ) : Type 0 where
  pub within : p ≤ m
  pub count : n ≡ length (live_places (marks s₀) p)
  pub destination : t ≡ arrived t₀ s₀ g p
  pub source : s ≡ left s₀ p

pub moving_starts : (t : Tables) (s : Store) (g m : ℕ) → Moving t s g m t s 0 0
unfolding live_places laid removed_all
moving_starts t s g m = record { within = omega arith; count = refl; destination = refl; source = refl }

-- The next place of the source has the words that it had at first.
moving_words : {t₀ t : Tables} {s₀ s : Store} {g m n p : ℕ} → Moving t₀ s₀ g m t s n p
    → words_at s.tables (p + 1) ≡ words_at s₀.tables (p + 1)
moving_words {s₀} {p} c =
    ap (λ (x : Store). words_at x.tables (p + 1)) c.source
    ∙ above_removed_all s₀ _ (p + 1) (λ q x. omega (arith, live_places_low (marks s₀) p q x))

-- q is the next place, x its generation, and v its value
pub moving_live : {t₀ t t' : Tables} {s₀ s : Store} {o : Outcome} {g m n p q x v : ℕ} → q ≡ p + 1 → q ≤ m → x ≡ at (marks s) q → (x ≡ 0 → ⊥)
    → v ≡ at s.tables.values q → t' ≡ filled t (n + 1) g v → o ≡ removed s q
    → Moving t₀ s₀ g m t s n p → Moving t₀ s₀ g m t' o.store (n + 1) q
moving_live {t₀} {s₀} {g} {n} {p} {v} next h e f y z r c =
    let w = moving_words c in
    let live : at (marks s₀) (p + 1) ≡ 0 → ⊥ = λ d. f (rw next at e ∙ ap (λ (u : Words). u.generation) w ∙ d) in
    rw next
    (record {
      within = omega arith;
      count = ap (λ (j : ℕ). j + 1) c.count ∙ sym (count_live (marks s₀) p live);
      destination =
          z
          ∙ ap (λ (t : Tables). filled t (n + 1) g v) c.destination
          ∙ messages_live t₀ _ _ g p n v c.count live (rw next at y ∙ ap (λ (u : Words). u.value) w);
      source =
          ap (λ (u : Outcome). u.store) (rw next at r)
          ∙ ap (λ (u : Store). (removed u (p + 1)).store) c.source
          ∙ sym (ap (removed_all s₀) (live_places_live (marks s₀) p live) ∙ removed_all_next s₀ (live_places (marks s₀) p) (p + 1));
    })

pub moving_free : {t₀ t : Tables} {s₀ s : Store} {g m n p q x : ℕ} → q ≡ p + 1 → q ≤ m → x ≡ at (marks s) q → x ≡ 0
    → Moving t₀ s₀ g m t s n p → Moving t₀ s₀ g m t s n q
moving_free {t₀} {s₀} {g} {p} next h e f c =
    let free = sym (ap (λ (u : Words). u.generation) (moving_words c)) ∙ sym (rw next at e) ∙ f in
    let same = sym (live_places_free (marks s₀) p free) in
    rw next
    (record {
      within = omega arith;
      count = c.count ∙ ap length same;
      destination = c.destination ∙ sym (messages_free t₀ _ _ g p free);
      source = c.source ∙ ap (removed_all s₀) same;
    })

-- as many messages are moved as places are looked at, or fewer
pub moving_low : {t₀ t : Tables} {s₀ s : Store} {g m n p : ℕ} → Moving t₀ s₀ g m t s n p → n ≤ p
moving_low {s₀} {p} c = omega (arith, c.count, live_places_few (marks s₀) p)

-- the tables keep their lengths
pub moving_lengths : {t₀ t : Tables} {s₀ s : Store} {g m n p : ℕ} → Moving t₀ s₀ g m t s n p → AsLong t t₀
moving_lengths {t₀} c = rw c.destination (long_laid t₀ _ _)

pub moving_source_lengths : {t₀ t : Tables} {s₀ s : Store} {g m n p : ℕ} → Moving t₀ s₀ g m t s n p → AsLong s.tables s₀.tables
moving_source_lengths {s₀} c = rw c.source (long_removed_all s₀ _)

pub moving_ends : {t₀ t : Tables} {s₀ s : Store} {g m n p : ℕ} → m ≤ p → Moving t₀ s₀ g m t s n p
    → (t ≡ arrived t₀ s₀ g m) × (s ≡ left s₀ m) × (n ≡ length (live_places (marks s₀) m))
moving_ends {t₀} {s₀} {g} {m} {p} h c =
    let e : p ≡ m = omega (arith, c.within) in (
      c.destination ∙ ap (arrived t₀ s₀ g) e,
      c.source ∙ ap (left s₀) e,
      c.count ∙ ap (λ (j : ℕ). length (live_places (marks s₀) j)) e,
    )
