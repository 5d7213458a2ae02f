-- Section "Turned down, in checking order": the tests of each of the paper's numbers. A call names those that it is
-- tested by.
use Rattle.std.specs.Prelude.{ℕ, zero, suc, ◌+◌, ◌*◌, ◌-◌, ◌%◌, List, Bool, cond, not, ◌&&◌, ◌||◌, length, get_or, ltb, eqb}
use Rattle.model.specs.Store.{Tables, Store, at, limit, max_index, capacity, marks}
use Rattle.model.specs.Freelist.{free, live, live_count}
use Rattle.model.specs.Audit.{verdict}
use Rattle.model.specs.Sequence.{max_places, max_commands, mark, version, file_places, eighth, command_count, command, command_at, permitted}
use Rattle.model.specs.declared.Ptr.{Ptr}
use Rattle.model.specs.declared.Command.{Command}

-- 1: the tables differ in length, or are longer than the limit.
unfoldable pub tables_unfit : Tables → Bool
tables_unfit t =
    not (eqb (length t.generations) (length t.links))
    || not (eqb (length t.generations) (length t.values))
    || ltb limit (length t.generations)

-- 2: the stack is longer than the tables, `len` or the root is above it, or the current generation is 0.
unfoldable pub header_unfit : Store → Bool
header_unfit s =
    ltb (capacity s) s.header.m
    || ltb s.header.m s.header.len
    || ltb s.header.m s.header.root
    || eqb s.header.generation 0

-- 3: an index or a generation that is given is 0; then of a handle, which has both.
abbrev pub zero_number : ℕ → Bool
zero_number n = eqb n 0

unfoldable pub zero_ptr : Ptr → Bool
zero_ptr p = zero_number p.index || zero_number p.generation

-- 4, for compress, transfer and copy: the audit is not 0.
abbrev pub audit_fails : Store → Bool
audit_fails s = not (eqb (verdict s) 0)

-- 4, for order and reserve: the live places are not `len` in number.
unfoldable pub count_wrong : Store → Bool
count_wrong s = not (eqb (live_count (marks s) s.header.m) s.header.len)

-- 4, for insert with a root: the root is live, its link is 0 or above m, or `len` is m.
unfoldable pub root_unsound : Store → Bool
root_unsound s =
    let h = s.header in
    let link = at s.tables.links h.root in
    not (eqb h.root 0)
    && (not (free (marks s) h.root) || eqb link 0 || ltb h.m link || eqb h.len h.m)

-- 4, for removal: the named place is live while `len` is 0 or the root names it.
unfoldable pub removal_unsound : Store → ℕ → Bool
removal_unsound s i =
    live (marks s) s.header.m i && (eqb s.header.len 0 || eqb s.header.root i)

-- 5: a journal of n rows has fewer than there are messages to be moved.
unfoldable pub journal_short : Store → ℕ → Bool
journal_short s n = ltb n (live_count (marks s) s.header.m)

-- 6 (`InvalidPtr`): an index names no live place up to m; then of a handle, whose generation may differ too.
unfoldable pub invalid_index : Store → ℕ → Bool
invalid_index s i = not (live (marks s) s.header.m i)

unfoldable pub invalid_ptr : Store → Ptr → Bool
invalid_ptr s p = invalid_index s p.index || not (eqb (at s.tables.generations p.index) p.generation)

-- 7 (`NotWithinCapacityError`): there is no root, and m is C.
unfoldable pub not_within_capacity : Store → Bool
not_within_capacity s = eqb s.header.root 0 && eqb s.header.m (capacity s)

-- 8 (`AllocError`): a reserve of more places than an index can name.
abbrev pub beyond_index : ℕ → Bool
beyond_index n = ltb max_index n

-- 9 (`BeyondMaxCapacity`): so many places are more than C; then for `insert_reallocating`, whose `len` is C.
abbrev pub beyond_capacity : Store → ℕ → Bool
beyond_capacity s n = ltb (capacity s) n

abbrev pub full_capacity : Store → Bool
full_capacity s = eqb s.header.len (capacity s)

-- 10: shorter than 8 bytes, not 8 + 16n long, or n is above 4,095.
unfoldable pub wrong_length : List ℕ → Bool
wrong_length b = ltb (length b) 8 || not (eqb ((length b - 8) % 16) 0) || ltb max_commands (command_count b)

-- 11: the mark is not the bytes 84, 84 and 83 (`TTS`), the version is not 1, or the eighth byte is not 0.
unfoldable pub wrong_mark : List ℕ → Bool
wrong_mark b = not (eqb (mark b) (84 + 256 * (84 + 256 * 83))) || not (eqb (version b) 1) || not (eqb (eighth b) 0)

-- 12: the file's number of places is above 1,024 or not C, that of the tables, or the state's next number is 0 or
-- above n + 1.
unfoldable pub wrong_places : List ℕ → ℕ → ℕ → Bool
wrong_places b C next =
    ltb max_places (file_places b) || not (eqb (file_places b) C) || eqb next 0 || ltb (command_count b + 1) next

-- 13, of one command: the table has no row for it, or a field is larger than its row permits.
unfoldable pub bad_command : Command → Bool
bad_command c =
    let row = get_or permitted (c.code - 1) (command 0 0 0 0 0) in
    not (eqb row.code c.code)
    || ltb row.flag c.flag
    || ltb row.index c.index
    || ltb row.generation c.generation
    || ltb row.value c.value

-- 13, of the first n commands: the number of the first bad one, or 0.
unfoldable pub first_bad : List ℕ → ℕ → ℕ
first_bad b zero = 0
first_bad b (suc n) =
    let bad = first_bad b n in
    cond (eqb bad 0) (cond (bad_command (command_at b (suc n))) (suc n) 0) bad
