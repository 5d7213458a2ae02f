-- Section "The book": a line for each message, fed from each call's arguments, its answer and the rows it wrote, and
-- the store that the lines lay out afresh.
use Rattle.std.specs.Prelude.{ℕ, zero, suc, leb, eqb, List, [], ◌∷◌, map, length}
use Rattle.std.specs.Prelude.{Bool, true, false, cond, not, ◌&&◌, ◌||◌}
use Rattle.std.proofs.Math.Option.{Option, none, some}
use Rattle.model.specs.Store.{Tables, Store, tables, header, store, no_ptr, filled, new}
use Rattle.model.specs.Freelist.{chained}
use Rattle.model.specs.Perform.{Call}
use Rattle.model.specs.declared.Ptr.{Ptr}
use Rattle.model.specs.declared.Row.{Row}
use Rattle.model.specs.Answer.{Answer}

-- A line: the handle last given to a message, and the value last put there.
pub record Line : Type 0 where
  pub ptr : Ptr
  pub value : ℕ

abbrev pub line : Ptr → ℕ → Line
line p v = record { ptr = p; value = v }

abbrev pub same_ptr : Ptr → Ptr → Bool
same_ptr p q = eqb p.index q.index && eqb p.generation q.generation

-- The lines for which a test holds, and the others.
unfoldable pub holding : (Line → Bool) → List Line → List Line
holding test [] = []
holding test (l ∷ b) =
    let others = holding test b in
    cond (test l) (l ∷ others) others

abbrev pub striking : (Line → Bool) → List Line → List Line
striking test b = holding (λ l. not (test l)) b

-- The test of a line by its handle, or by its index.
abbrev pub has_ptr : Ptr → Line → Bool
has_ptr p l = same_ptr l.ptr p

abbrev pub at_index : ℕ → Line → Bool
at_index i l = eqb l.ptr.index i

-- An answer without a handle has index 0.
abbrev pub no_handle : Ptr → Bool
no_handle q = eqb q.index 0

-- The line of the handle p gets another handle, or another value.
abbrev pub replace_ptr : Ptr → Ptr → List Line → List Line
replace_ptr p q b = map (λ l. cond (has_ptr p l) (line q l.value) l) b

abbrev pub replace_value : Ptr → ℕ → List Line → List Line
replace_value p v b = map (λ l. cond (has_ptr p l) (line p v) l) b

-- The new handle in the row of an old one. One without a row stays.
unfoldable pub new_ptr : List Row → Ptr → Ptr
new_ptr [] p = p
new_ptr (r ∷ rows) p = cond (same_ptr r.old p) r.new (new_ptr rows p)

-- Each line gets the new handle in its row.
abbrev pub relocated : List Row → List Line → List Line
relocated rows b = map (λ l. line (new_ptr rows l.ptr) l.value) b

-- What a call that was not refused does to the book.
pub data Effect : Type 0 where
  adds : ℕ → Effect  -- a line with the handle answered and this value
  strikes : Ptr → Effect  -- the line of this handle
  strikes_at : ℕ → Effect  -- the line at this index
  replaces_ptr : Ptr → Effect  -- this handle's line gets the handle answered
  reads : Effect  -- nothing; a get
  replaces_value : Ptr → ℕ → Effect  -- this handle's line gets this value
  strikes_all : Effect  -- all lines
  moves : Effect  -- each line gets the new handle in its row
  drains : Effect  -- strikes the line of the handle answered, or all where there is none
  keeps : Effect  -- nothing; a call that the book does not name

unfoldable pub effect : Call → Effect
effect (Call.insert v) = adds v
effect (Call.insert_reallocating v) = adds v
effect (Call.remove p) = strikes p
effect (Call.remove_index i) = strikes_at i
effect (Call.invalidate p) = replaces_ptr p
effect (Call.get p) = reads
effect (Call.put p v) = replaces_value p v
effect Call.clear = strikes_all
effect Call.order = keeps
effect (Call.compress reset n) = moves
effect (Call.reserve n) = keeps
effect (Call.transfer_out d g n) = strikes_all
effect (Call.transfer_in t g n) = keeps
effect (Call.copy_out d) = keeps
effect (Call.copy_in t) = keeps
effect (Call.advance c) = keeps
effect (Call.drain c) = drains
effect Call.find_first = keeps
effect Call.find_last = keeps
effect (Call.set_generation g) = keeps
effect Call.step_generation = keeps
effect Call.audit = keeps

-- The book after it; q is the handle answered.
unfoldable pub entered : Effect → Ptr → List Row → List Line → List Line
entered (adds v) q rows b = line q v ∷ b
entered (strikes p) q rows b = striking (has_ptr p) b
entered (strikes_at i) q rows b = striking (at_index i) b
entered (replaces_ptr p) q rows b = replace_ptr p q b
entered reads q rows b = b
entered (replaces_value p v) q rows b = replace_value p v b
entered strikes_all q rows b = []
entered moves q rows b = relocated rows b
entered drains q rows b = cond (no_handle q) [] (striking (has_ptr q) b)
entered keeps q rows b = b

-- The handles that it gives out: those that a line gets.
unfoldable pub gives : Effect → Ptr → List Row → List Line → List Ptr
gives (adds v) q rows b = q ∷ []
gives (strikes p) q rows b = []
gives (strikes_at i) q rows b = []
gives (replaces_ptr p) q rows b = map (λ l. q) (holding (has_ptr p) b)
gives reads q rows b = []
gives (replaces_value p v) q rows b = []
gives strikes_all q rows b = []
gives moves q rows b = map (λ l. new_ptr rows l.ptr) b
gives drains q rows b = []
gives keeps q rows b = []

-- Whether it is a single-message call: one from insert to put, or a drain that answers a handle.
unfoldable pub single : Effect → Ptr → Bool
single (adds v) q = true
single (strikes p) q = true
single (strikes_at i) q = true
single (replaces_ptr p) q = true
single reads q = true
single (replaces_value p v) q = true
single strikes_all q = false
single moves q = false
single drains q = not (no_handle q)
single keeps q = false

-- Whether it is an insertion, of either kind.
unfoldable pub inserts : Effect → Bool
inserts (adds v) = true
inserts (strikes p) = false
inserts (strikes_at i) = false
inserts (replaces_ptr p) = false
inserts reads = false
inserts (replaces_value p v) = false
inserts strikes_all = false
inserts moves = false
inserts drains = false
inserts keeps = false

-- Whether the message of this line is the one that a single-message call is about. That of an insert has no line yet; a
-- get alters no message, also not its own.
unfoldable pub concerns : Effect → Ptr → Line → Bool
concerns (adds v) q l = false
concerns (strikes p) q l = has_ptr p l
concerns (strikes_at i) q l = at_index i l
concerns (replaces_ptr p) q l = has_ptr p l
concerns reads q l = false
concerns (replaces_value p v) q l = has_ptr p l
concerns strikes_all q l = false
concerns moves q l = false
concerns drains q l = has_ptr q l
concerns keeps q l = false

-- The book after a call of this effect, by its answer, and the handles that the call gave out: a refused call changes
-- nothing and gives none.
abbrev pub fed_by : Effect → Answer → List Row → List Line → List Line
fed_by f (Answer.Done q v) rows b = entered f q rows b
fed_by f (Answer.Overflow q v) rows b = entered f q rows b
fed_by f (Answer.Refused n) rows b = b

abbrev pub given_by : Effect → Answer → List Row → List Line → List Ptr
given_by f (Answer.Done q v) rows b = gives f q rows b
given_by f (Answer.Overflow q v) rows b = gives f q rows b
given_by f (Answer.Refused n) rows b = []

-- Whether such a call is a single-message call, and whether it is about the message of this line: a refused call is
-- about none.
abbrev pub single_by : Effect → Answer → Bool
single_by f (Answer.Done q v) = single f q
single_by f (Answer.Overflow q v) = single f q
single_by f (Answer.Refused n) = single f no_ptr

abbrev pub concerns_by : Effect → Answer → Line → Bool
concerns_by f (Answer.Done q v) l = concerns f q l
concerns_by f (Answer.Overflow q v) l = concerns f q l
concerns_by f (Answer.Refused n) l = false

-- Whether a call is refused.
abbrev pub refuses : Answer → Bool
refuses (Answer.Done q v) = false
refuses (Answer.Overflow q v) = false
refuses (Answer.Refused n) = true

-- What the book says that a handle shows: its line's value, or nothing where no line has it.
unfoldable pub lookup : Ptr → List Line → Option ℕ
lookup p [] = none
lookup p (l ∷ b) = cond (has_ptr p l) (some l.value) (lookup p b)

-- What a get shows.
abbrev pub shown : Answer → Option ℕ
shown (Answer.Done p v) = some v
shown (Answer.Overflow p v) = some v
shown (Answer.Refused n) = none

-- The places that the lines take: whether place p is taken, and whether places 1 to n all are.
unfoldable pub taken : List Line → ℕ → Bool
taken [] p = false
taken (l ∷ b) p = at_index p l || taken b p

unfoldable pub all_taken : List Line → ℕ → Bool
all_taken b zero = true
all_taken b (suc n) = all_taken b n && taken b (suc n)

-- The highest place of the lines, or 0.
unfoldable pub highest : List Line → ℕ
highest [] = 0
highest (l ∷ b) =
    let top = highest b in
    cond (leb l.ptr.index top) top l.ptr.index

-- The lines at their places, link 0.
unfoldable pub at_places : List Line → Tables → Tables
at_places [] t = t
at_places (l ∷ b) t = filled (at_places b t) l.ptr.index l.ptr.generation l.value

-- Laid out afresh: a new store of C places with the lines at their places, m the highest, the free places chained as by
-- order, `len` the number of lines, and the generation g.
unfoldable pub laid_afresh : ℕ → List Line → ℕ → Store
laid_afresh C b g =
    let t = at_places b (new C).tables in
    let c = chained t.generations (highest b) t.links 0 in
    store (tables t.generations c.links t.values) (header (length b) (highest b) c.root g)
