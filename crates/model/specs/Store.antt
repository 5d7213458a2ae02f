-- Section "The store": tables, header, places, the three words of a place after each change, the new store.
use Rattle.std.specs.Prelude.{ℕ, zero, suc, List, length, get_or, set, replicate}
use Rattle.model.specs.declared.Ptr.{Ptr}
use Rattle.model.specs.declared.Header.{Header}

-- The largest number of places that a store may have.
abbrev pub limit : ℕ
limit = 1024

-- The largest index of a handle.
abbrev pub max_index : ℕ
max_index = 65535

abbrev pub ptr : ℕ → ℕ → Ptr
ptr i g = record { index = i; generation = g }

-- The handle of an answer that shows none.
abbrev pub no_ptr : Ptr
no_ptr = ptr 0 0

-- The three lent tables.
pub record Tables : Type 0 where
  pub generations : List ℕ
  pub links : List ℕ
  pub values : List ℕ

abbrev pub tables : List ℕ → List ℕ → List ℕ → Tables
tables g l v = record { generations = g; links = l; values = v }

-- `len`, m, root and current generation.
abbrev pub header : ℕ → ℕ → ℕ → ℕ → Header
header n m r g = record { len = n; m = m; root = r; generation = g }

pub record Store : Type 0 where
  pub tables : Tables
  pub header : Header

abbrev pub store : Tables → Header → Store
store t h = record { tables = t; header = h }

-- C, the number of places.
abbrev pub capacity : Store → ℕ
capacity s = length s.tables.generations

-- A place's mark says whether it is live: 0 is free. In this store a place's generation is its mark.
abbrev pub marks : Store → List ℕ
marks s = s.tables.generations

-- The word of place p. Places run from 1: place 0 and a place above the table have none, and read as 0.
unfoldable pub at : List ℕ → ℕ → ℕ
at l zero = 0
at l (suc n) = get_or l n 0

-- The three words of a place.
pub record Words : Type 0 where
  pub generation : ℕ
  pub link : ℕ
  pub value : ℕ

abbrev pub words_at : Tables → ℕ → Words
words_at t p = record { generation = at t.generations p; link = at t.links p; value = at t.values p }

-- The table with x as the word of place p. Where there is no such place, it is as it was.
unfoldable pub write : List ℕ → ℕ → ℕ → List ℕ
write l zero x = l
write l (suc n) x = set l n x

-- The tables with these three words at place p.
unfoldable pub placed : Tables → ℕ → ℕ → ℕ → ℕ → Tables
placed t p g l v = tables (write t.generations p g) (write t.links p l) (write t.values p v)

-- An inserted, moved or copied message's place has link 0.
abbrev pub filled : Tables → ℕ → ℕ → ℕ → Tables
filled t p g v = placed t p g 0 v

-- A freed place has generation 0 and value 0.
abbrev pub freed : Tables → ℕ → ℕ → Tables
freed t p l = placed t p 0 l 0

-- A popped place has three zeros.
abbrev pub popped : Tables → ℕ → Tables
popped t p = placed t p 0 0 0

-- Places 1 to n of a table are zero, those above are as they were.
unfoldable pub zeroed_to : ℕ → List ℕ → List ℕ
zeroed_to zero l = l
zeroed_to (suc n) l = write (zeroed_to n l) (suc n) 0

-- Places 1 to n of the three tables are zero.
unfoldable pub zeroed : Tables → ℕ → Tables
zeroed t n = tables (zeroed_to n t.generations) (zeroed_to n t.links) (zeroed_to n t.values)

-- A new store of C places.
unfoldable pub new : ℕ → Store
new C = store (tables (replicate C 0) (replicate C 0) (replicate C 0)) (header 0 0 0 2)

-- The lent tables laid out as a new store: every word is zero, whatever they hold.
unfoldable pub laid_out : Tables → Store
laid_out t =
    store
    (tables (replicate (length t.generations) 0) (replicate (length t.links) 0) (replicate (length t.values) 0))
    (header 0 0 0 2)
