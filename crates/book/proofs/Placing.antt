-- The three words of one place are written, and the header with them: what they are to be for the store to stay tidy.
-- Assumes nothing.
use Prim.Native.Nat.{ℕ, ◌≤◌, ◌<◌}
use mathlib.Core.Path.{◌≡◌, ◌∙◌, refl}
use mathlib.Core.List.{List}
use native.Mathlib.Omega.{arith}
use native.Mathlib.Decide.{ℕ_discrete}
use lib.ListN.{length}
use Rattle.model.specs.Store.{Store, store, at, write, placed, marks, Tables, words_at}
use Rattle.model.specs.declared.Header.{Header}
use Rattle.model.proofs.Places.{length_write, at_write_same, at_write_other}
use Rattle.model.proofs.Shape.{Shaped}
use Rattle.book.proofs.Kept.{Tidy}

-- What generation g, link l and value v at place i, and header h, are to be in a store of C places.
pub record Fitting (C : ℕ) (s : Store) (i g l v : ℕ) (h : Header) : Type 0 where
  pub some : i ≡ 0 → ⊥
  pub within : i ≤ C
  pub shaped : Shaped (write (marks s) i g) (write s.tables.links i l) h.len h.m h.root
  pub current : 2 ≤ h.generation
  -- No other place leaves the stack, and where place i does, it is zeroed.
  pub above : (p : ℕ) → (p ≡ i → ⊥) → h.m < p → s.header.m < p
  pub above_free : h.m < i → g ≡ 0
  pub above_link : h.m < i → l ≡ 0
  -- A live place has link 0, and any other place value 0.
  pub live_link : (g ≡ 0 → ⊥) → l ≡ 0
  pub free_value : g ≡ 0 → v ≡ 0

-- What holds of the word written, at its place, and of every other word as it was, holds of the table.
at_each : (P : ℕ → ℕ → Type 0) (t : List ℕ) (i x : ℕ) → (i ≡ 0 → ⊥) → i ≤ length t → P i x → ((p : ℕ) → (p ≡ i → ⊥) → P p (at t p))
    → (p : ℕ) → P p (at (write t i x) p)
at_each P t i x some within here there p =
    elim (ℕ_discrete p i) [
      | yes e ↦ rw (e, at_write_same t i x some within) here
      | no d ↦ rw (at_write_other t i p x d) (there p d)
    ]

-- Such a store is tidy.
pub placed_tidy : (C : ℕ) (s : Store) (i g l v : ℕ) (h : Header) → Tidy C s → Fitting C s i g l v h
    → Tidy C (store (placed s.tables i g l v) h)
unfolding placed
placed_tidy C s i g l v h t f =
    let within = f.within in
    record {
      short = t.short;
      generations = length_write (marks s) i g ∙ t.generations;
      links = length_write s.tables.links i l ∙ t.links;
      values = length_write s.tables.values i v ∙ t.values;
      shaped = f.shaped;
      current = f.current;
      above_free =
          at_each (λ (p x : ℕ). h.m < p → x ≡ 0) (marks s) i g f.some (omega arith) f.above_free
          (λ p d q. t.above_free p (f.above p d q));
      above_link =
          at_each (λ (p x : ℕ). h.m < p → x ≡ 0) s.tables.links i l f.some (omega arith) f.above_link
          (λ p d q. t.above_link p (f.above p d q));
      live_link =
          at_each (λ (p x : ℕ). (at (write (marks s) i g) p ≡ 0 → ⊥) → x ≡ 0) s.tables.links i l f.some (omega arith)
          (rw (at_write_same (marks s) i g f.some (omega arith)) f.live_link)
          (λ p d. rw (at_write_other (marks s) i p g d) (t.live_link p));
      free_value =
          at_each (λ (p x : ℕ). at (write (marks s) i g) p ≡ 0 → x ≡ 0) s.tables.values i v f.some (omega arith)
          (rw (at_write_same (marks s) i g f.some (omega arith)) f.free_value)
          (λ p d. rw (at_write_other (marks s) i p g d) (t.free_value p));
    }

-- The stack of a tidy store is within its places, and the current generation marks a place as live.
pub stack_low : (C : ℕ) (s : Store) → Tidy C s → s.header.m ≤ C
stack_low C s t = omega (arith, t.shaped.within)

pub current_some : (C : ℕ) (s : Store) → Tidy C s → s.header.generation ≡ 0 → ⊥
current_some C s t e = omega (arith, t.current)

-- The words of one place are written: no other place has changed.
pub placed_other : (t : Tables) (i g l v p : ℕ) → (p ≡ i → ⊥) → words_at (placed t i g l v) p ≡ words_at t p
unfolding placed
placed_other t i g l v p d =
    rw (at_write_other t.generations i p g d, at_write_other t.links i p l d, at_write_other t.values i p v d) refl
