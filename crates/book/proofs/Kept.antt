-- The invariant that carries the claim: what a store, its book and the handles given out so far have in common after
-- every list of calls. Assumes nothing.
use Prim.Native.Nat.{ℕ, ◌≤◌, ◌<◌}
use mathlib.Core.Path.{◌≡◌}
use mathlib.Core.List.{List, [], ◌∷◌, ◌++◌, Memᴰ, Nodup}
use mathlib.Core.Bool.{true, false}
use lib.ListN.{length}
use Rattle.model.specs.Store.{Store, at, limit, marks}
use Rattle.model.specs.Calls.{Outcome}
use Rattle.model.specs.declared.Ptr.{Ptr}
use Rattle.model.proofs.Shape.{Shaped}
use Rattle.book.specs.Book.{Line, Effect, fed_by, given_by, taken}

-- The store by itself. A place is live where its generation is not 0.
pub record Tidy (C : ℕ) (s : Store) : Type 0 where
  -- The number of places is within the limit.
  pub short : C ≤ limit
  -- Each table has C entries.
  pub generations : length s.tables.generations ≡ C
  pub links : length s.tables.links ≡ C
  pub values : length s.tables.values ≡ C
  -- `len` places of the stack are live, and the chain from the root has as many places as are free.
  pub shaped : Shaped (marks s) s.tables.links s.header.len s.header.m s.header.root
  -- The current generation is 2 or more, as the audit wants it.
  pub current : 2 ≤ s.header.generation
  -- A place above the stack is not live.
  pub above_free : (p : ℕ) → s.header.m < p → at (marks s) p ≡ 0
  -- A place above the stack has link 0.
  pub above_link : (p : ℕ) → s.header.m < p → at s.tables.links p ≡ 0
  -- A live place has link 0.
  pub live_link : (p : ℕ) → (at (marks s) p ≡ 0 → ⊥) → at s.tables.links p ≡ 0
  -- A place that is not live has value 0.
  pub free_value : (p : ℕ) → at (marks s) p ≡ 0 → at s.tables.values p ≡ 0

-- A line's handle is live.
pub record LiveLine (s : Store) (l : Line) : Type 0 where
  -- Its generation marks a live place.
  pub some : l.ptr.generation ≡ 0 → ⊥
  -- Its place has that generation.
  pub generation : at (marks s) l.ptr.index ≡ l.ptr.generation
  -- Its place has the line's value.
  pub value : at s.tables.values l.ptr.index ≡ l.value

-- No two lines take one place.
abbrev pub Distinct : List Line → Type 0
Distinct [] = Unit {0}
Distinct (l ∷ b) = (taken b l.ptr.index ≡ false) × Distinct b

-- The lines of the book are the messages of the store.
pub record Lines (s : Store) (b : List Line) : Type 0 where
  -- Each line's handle is live, with the line's value.
  pub live : (l : Line) → Memᴰ l b → LiveLine s l
  -- Each live place has a line.
  pub all : (p : ℕ) → (at (marks s) p ≡ 0 → ⊥) → taken b p ≡ true
  -- It has no second one.
  pub distinct : Distinct b

-- The handles given out so far.
pub record Given (s : Store) (ps : List Ptr) : Type 0 where
  -- None was given out twice.
  pub once : Nodup ps
  -- None has a generation above the current one.
  pub low : (p : Ptr) → Memᴰ p ps → p.generation ≤ s.header.generation
  -- One of the current generation is still live, so that a place that is free can be given out under it.
  pub live : (p : Ptr) → Memᴰ p ps → p.generation ≡ s.header.generation → at (marks s) p.index ≡ p.generation

-- The invariant.
pub record Kept (C : ℕ) (s : Store) (b : List Line) (ps : List Ptr) : Type 0 where
  -- The store is sound, and every word that holds nothing is 0.
  pub tidy : Tidy C s
  -- The book says what it holds.
  pub lines : Lines s b
  -- No handle that is free to be given out was given out before.
  pub given : Given s ps

-- A call of effect f keeps it: of what the call leaves, of the book fed with it, and of the handles given out with
-- those that it gave.
abbrev pub KeptBy : ℕ → Effect → Outcome → List Line → List Ptr → Type 0
KeptBy C f o b ps = Kept C o.store (fed_by f o.answer o.rows b) (ps ++ given_by f o.answer o.rows b)
