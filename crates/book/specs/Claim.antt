-- One claim over every list of calls on a newly laid out store, of any machine that answers calls.
use Rattle.std.specs.Prelude.{ℕ, ◌≤◌, ◌≡◌, true, false}
use mathlib.Core.List.{List, Memᴰ, Nodup}
use Rattle.model.specs.Store.{limit, new, at, words_at}
use Rattle.model.specs.Freelist.{met, place_after}
use Rattle.model.specs.Perform.{Call}
use Rattle.model.specs.declared.Ptr.{Ptr}
use Rattle.book.specs.Book.{Line, inserts, single_by, concerns_by, refuses}
use Rattle.book.specs.Book.{lookup, shown, taken, all_taken, laid_afresh}
use Rattle.book.specs.Machine.{Entry, Machine, defined, CountsAs, effect_in, called, Reached, begun, run_of, Each}
use Rattle.book.specs.Covered.{Covered}

-- answered: an entry's whole outcome is that of its definition.
abbrev pub Answered : Machine → Entry → Reached → Type 0
Answered M e r = M e r.store ≡ defined e r.store

-- shows: a handle shows what a get answers, called or in a sequence: its line's value, or a refusal where no line has
-- it.
abbrev pub Shows : Machine → ℕ → Reached → Type 0
Shows M C r =
    (e : Entry) (p : Ptr) → CountsAs C e (Call.get p) → shown (called (M e r.store).answer) ≡ lookup p r.book

-- full: an insertion is refused exactly when each of the C places is taken.
abbrev pub Full : Machine → ℕ → Entry → Reached → Type 0
Full M C e r = inserts (effect_in C e) ≡ true → refuses (called (M e r.store).answer) ≡ all_taken r.book C

-- chain: a place of the stack that no line takes is free.
pub record FreePlace (r : Reached) (p : ℕ) : Type 0 where
  pub nonzero : p ≡ 0 → ⊥
  pub low : p ≤ r.store.header.m
  pub free : taken r.book p ≡ false

pub record Chain (r : Reached) : Type 0 where
  -- A line's handle is live: its generation is not 0.
  pub live : (l : Line) → Memᴰ l r.book → l.ptr.generation ≡ 0 → ⊥
  -- A line's place is in the stack, and has its handle's generation.
  pub stacked : (l : Line) → Memᴰ l r.book → l.ptr.index ≤ r.store.header.m
  pub marked : (l : Line) → Memᴰ l r.book → at r.store.tables.generations l.ptr.index ≡ l.ptr.generation
  -- A free place has generation 0, and a link that is not 0.
  pub unmarked : (p : ℕ) → FreePlace r p → at r.store.tables.generations p ≡ 0
  pub linked : (p : ℕ) → FreePlace r p → at r.store.tables.links p ≡ 0 → ⊥
  -- A walk from the root meets n places and ends. No two of them are the same, and they are the free places.
  pub n : ℕ
  pub ends : place_after r.store.tables.links r.store.header.root n ≡ 0
  pub once : Nodup (met r.store.tables.links r.store.header.root n)
  pub free : (p : ℕ) → Memᴰ p (met r.store.tables.links r.store.header.root n) → FreePlace r p
  pub all : (p : ℕ) → FreePlace r p → Memᴰ p (met r.store.tables.links r.store.header.root n)

-- apart: a single-message call leaves the three words of another message's place as they were.
abbrev pub Apart : Machine → ℕ → Entry → Reached → Type 0
Apart M C e r =
    let o = M e r.store in
    single_by (effect_in C e) (called o.answer) ≡ true
    → (l : Line) → Memᴰ l r.book → concerns_by (effect_in C e) (called o.answer) l ≡ false
    → words_at o.store.tables l.ptr.index ≡ words_at r.store.tables l.ptr.index

-- afresh: a call that orders the store leaves it as laid out afresh from the lines and the header's generation.
pub data Orders : Call → Type 0 where
  by_order : Orders Call.order
  by_reserve : (n : ℕ) → Orders (Call.reserve n)

abbrev pub Afresh : Machine → ℕ → Reached → Type 0
Afresh M C r =
    (e : Entry) (c : Call) → CountsAs C e c → Orders c
    → (M e r.store).store ≡ laid_afresh C r.book r.store.header.generation

-- What holds of a machine, a number of places C and a list of entries run on a new store. `Asked` is what is asked of
-- each entry.
pub record Holds (Asked : Entry → Reached → Type 0) (M : Machine) (C : ℕ) (es : List Entry) : Type 0 where
  -- Each entry was answered as asked.
  pub answered : Each M C Asked es (begun C)
  -- Every handle shows its line's value, or a refusal where no line has it.
  pub shows : Shows M C (run_of M C es)
  -- No handle was given out twice.
  pub given_once : Nodup (run_of M C es).given
  -- Each insertion was refused exactly when every place was taken.
  pub full : Each M C (Full M C) es (begun C)
  -- Lines take places of the stack, the others are free, and the free chain meets each free place once, and no other
  -- place.
  pub chain : Chain (run_of M C es)
  -- No single-message call altered another message's place.
  pub apart : Each M C (Apart M C) es (begun C)
  -- Once ordered, the store equals the one laid out afresh from its lines.
  pub afresh : Afresh M C (run_of M C es)

-- It holds for every number of places up to the limit and every list covered.
abbrev pub Always : ((M : Machine) → Entry → Reached → Type 0) → Machine → Type 0
Always Asked M = (C : ℕ) → C ≤ limit → (es : List Entry) → Covered es (new C) → Holds (Asked M) M C es

-- The claim: each entry's outcome is the defined one, and all the rest.
unfoldable pub Claim : Machine → Type 0
Claim M = Always Answered M

-- The claim without its first field: nothing is asked of each entry.
unfoldable pub ClaimButAnswered : Machine → Type 0
ClaimButAnswered M = Always (λ M e r. Unit {0}) M
