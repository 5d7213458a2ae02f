-- The columns with rows written have the rows that the definition of the journal, a list of rows, gives. Entries past
-- the rows written, also of a column that is longer than others, are as they were. Assumes nothing.
use Prim.Native.Nat.{ℕ, zero, suc, ◌+◌, ◌≤◌, ◌<◌}
use mathlib.Core.Path.{◌≡◌, refl, ap, sym, ◌∙◌}
use mathlib.Core.List.{List, [], ◌∷◌, ◌++◌, map, map-append}
use mathlib.Core.Bool.{false}
use native.Mathlib.Omega.{arith}
use native.Mathlib.Decide.{ℕ_discrete, dec_lt}
use lib.ListN.{length, get_or, set, length-set, length-append, length-map, get_or-map, get_or-append}
use lib.Seq.{sets, length-sets, ext_get_or, get_or-append_seam, set_comm, set-set}
use Rattle.model.specs.Store.{no_ptr}
use Rattle.model.specs.Calls.{row, journaled}
use Rattle.model.specs.declared.Row.{Row}
use Rattle.model.proofs.Laying.{sets_next, sets_in, sets_above}
use Rattle.arena.specs.Columns.{Columns, row_count, row_at, rows_to, rows_in, written, with_row}

blank : Row
blank = row no_ptr no_ptr false

-- A field of the rows in its column.
field_in : {A : Type 0} (f : Row → A) (l : List A) (rows : List Row) (i : ℕ) → i < length l → i < length rows
    → get_or (sets l 0 (map f rows)) i (f blank) ≡ f (get_or rows i blank)
field_in f l rows i h q =
    ap (λ (k : ℕ). get_or (sets l 0 (map f rows)) k (f blank)) (omega arith)
    ∙ sets_in l 0 (map f rows) i (f blank) (omega arith) (rw length-map q)
    ∙ get_or-map f rows i blank

field_above : {A : Type 0} (f : Row → A) (l : List A) (rows : List Row) (i : ℕ) → length rows ≤ i
    → get_or (sets l 0 (map f rows)) i (f blank) ≡ get_or l i (f blank)
field_above f l rows i h = sets_above l 0 (map f rows) i (f blank) (rw length-map (omega arith))

-- A row that is written, and any entries past the rows written.
written_in : (rows : List Row) (c : Columns) (i : ℕ) → i < row_count c → i < length rows → row_at (written rows c) i ≡ get_or rows i blank
unfolding row_count written blank
written_in rows c i h q =
    let oi = field_in (λ (r : Row). r.old.index) c.old_index rows i (omega arith) q in
    let og = field_in (λ (r : Row). r.old.generation) c.old_generation rows i (omega arith) q in
    let ni = field_in (λ (r : Row). r.new.index) c.new_index rows i (omega arith) q in
    let ng = field_in (λ (r : Row). r.new.generation) c.new_generation rows i (omega arith) q in
    let ov = field_in (λ (r : Row). r.overflow) c.overflow rows i (omega arith) q in
    rw (oi, og, ni, ng, ov)

pub written_above : (rows : List Row) (c : Columns) (i : ℕ) → length rows ≤ i → row_at (written rows c) i ≡ row_at c i
unfolding written blank
written_above rows c i h =
    let oi = field_above (λ (r : Row). r.old.index) c.old_index rows i h in
    let og = field_above (λ (r : Row). r.old.generation) c.old_generation rows i h in
    let ni = field_above (λ (r : Row). r.new.index) c.new_index rows i h in
    let ng = field_above (λ (r : Row). r.new.generation) c.new_generation rows i h in
    let ov = field_above (λ (r : Row). r.overflow) c.overflow rows i h in
    rw (oi, og, ni, ng, ov)

-- The rows of columns, by index.
length_rows_to : (c : Columns) (n : ℕ) → length (rows_to c n) ≡ n
unfolding rows_to
length_rows_to c zero = refl
length_rows_to c (suc n) = length-append (rows_to c n) (row_at c n ∷ []) ∙ omega (arith, length_rows_to c n)

rows_to_at : (c : Columns) (n i : ℕ) → i < n → get_or (rows_to c n) i blank ≡ row_at c i
unfolding rows_to
rows_to_at c zero i h = absurd (omega arith)
rows_to_at c (suc n) i h =
    elim (ℕ_discrete i n) [
      | yes e ↦
          let q : i ≡ length (rows_to c n) = e ∙ sym (length_rows_to c n) in
          ap (λ (k : ℕ). get_or (rows_to c n ++ (row_at c n ∷ [])) k blank) q
          ∙ get_or-append_seam (rows_to c n) (row_at c n) [] blank
          ∙ ap (row_at c) (sym e)
      | no e ↦ get_or-append (rows_to c n) _ blank i (omega (arith, length_rows_to c n)) ∙ rows_to_at c n i (omega arith)
    ]

-- There are as many rows as before.
pub row_count_written : (rows : List Row) (c : Columns) → row_count (written rows c) ≡ row_count c
unfolding row_count written
row_count_written rows c = simp length-sets

pub length_rows_in : (c : Columns) → length (rows_in c) ≡ row_count c
length_rows_in c = length_rows_to c (row_count c)

pub written_journaled : (rows : List Row) (c : Columns) → rows_in (written rows c) ≡ journaled rows (rows_in c)
written_journaled rows c =
    let n = row_count c in
    let count = row_count_written rows c in
    let long = length_rows_to (written rows c) (row_count (written rows c)) in
    let held = length_rows_to c (row_count c) in
    let kept = length-sets (rows_in c) 0 rows in
    ext_get_or blank (rows_in (written rows c)) (journaled rows (rows_in c)) (omega arith)
    (λ i h.
    rows_to_at (written rows c) (row_count (written rows c)) i (omega arith)
    ∙ elim (dec_lt i (length rows)) [
      | yes q ↦
          written_in rows c i (omega arith) q
          ∙ sym (ap (λ (k : ℕ). get_or (sets (rows_in c) 0 rows) k blank) (omega arith) ∙ sets_in (rows_in c) 0 rows i blank (omega arith) q)
      | no q ↦
          written_above rows c i (omega arith)
          ∙ sym (rows_to_at c (row_count c) i (omega arith))
          ∙ sym (sets_above (rows_in c) 0 rows i blank (omega arith))
    ])

-- Words written over a run of words may as well be written into the run first.
set_below_sets : {A : Type 0} (l : List A) (i : ℕ) (xs : List A) (j : ℕ) (x : A) → j < i → set (sets l i xs) j x ≡ sets (set l j x) i xs
set_below_sets l i [] j x h = refl
set_below_sets l i (y ∷ ys) j x h =
    set_below_sets (set l i y) (suc i) ys j x (omega arith) ∙ ap (λ t. sets t (suc i) ys) (set_comm l i j y x (λ e. omega arith))

set_in_sets : {A : Type 0} (l : List A) (i : ℕ) (xs : List A) (j : ℕ) (x : A) → j < length xs
    → sets l i (set xs j x) ≡ set (sets l i xs) (i + j) x
set_in_sets l i [] j x h = absurd (omega arith)
set_in_sets l i (y ∷ ys) zero x h =
    sym
    (ap (λ (k : ℕ). set (sets (set l i y) (suc i) ys) k x) (omega arith)
    ∙ set_below_sets (set l i y) (suc i) ys i x (omega arith)
    ∙ ap (λ t. sets t (suc i) ys) (set-set l i y x))
set_in_sets l i (y ∷ ys) (suc j) x h =
    set_in_sets (set l i y) (suc i) ys j x (omega arith)
    ∙ ap (λ (k : ℕ). set (sets (set l i y) (suc i) ys) k x) (omega arith)

sets_in_sets : {A : Type 0} (l : List A) (i : ℕ) (xs : List A) (j : ℕ) (ys : List A) → j + length ys ≤ length xs
    → sets l i (sets xs j ys) ≡ sets (sets l i xs) (i + j) ys
sets_in_sets l i xs j [] h = refl
sets_in_sets l i xs j (y ∷ ys) h =
    sets_in_sets l i (set xs j y) (suc j) ys (omega (arith, length-set xs j y))
    ∙ ap (λ t. sets t (i + suc j) ys) (set_in_sets l i xs j y (omega arith))
    ∙ ap (λ (k : ℕ). sets (set (sets l i xs) (i + j) y) k ys) (omega arith)

map_set : {A : Type 0} (f : Row → A) (l : List Row) (i : ℕ) (x : Row) → map f (set l i x) ≡ set (map f l) i (f x)
map_set f [] i x = refl
map_set f (y ∷ l) zero x = refl
map_set f (y ∷ l) (suc i) x = ap (λ t. f y ∷ t) (map_set f l i x)

map_sets : {A : Type 0} (f : Row → A) (l : List Row) (i : ℕ) (rows : List Row) → map f (sets l i rows) ≡ sets (map f l) i (map f rows)
map_sets f l i [] = refl
map_sets f l i (r ∷ rows) = map_sets f (set l i r) (suc i) rows ∙ ap (λ t. sets t (suc i) (map f rows)) (map_set f l i r)

field_over : {A : Type 0} (f : Row → A) (l : List A) (journal rows : List Row) → length rows ≤ length journal
    → sets (sets l 0 (map f journal)) 0 (map f rows) ≡ sets l 0 (map f (sets journal 0 rows))
field_over f l journal rows h =
    sym
    (ap (λ t. sets l 0 t) (map_sets f journal 0 rows)
    ∙ sets_in_sets l 0 (map f journal) 0 (map f rows) (simp length-map (omega arith)))

-- The same of a list of rows.
pub sets_over : {A : Type 0} (l first rows : List A) → length rows ≤ length first → sets (sets l 0 first) 0 rows ≡ sets l 0 (sets first 0 rows)
sets_over l first rows h = sym (sets_in_sets l 0 first 0 rows (omega arith))

-- A list with as many entries as it has written from its first on is those entries.
pub sets_all : {A : Type 0} (l xs : List A) (d : A) → length xs ≡ length l → sets l 0 xs ≡ xs
sets_all l xs d h =
    ext_get_or d (sets l 0 xs) xs (length-sets l 0 xs ∙ sym h)
    (λ i q.
    let within : i < length l = omega (arith, length-sets l 0 xs) in
    ap (λ (k : ℕ). get_or (sets l 0 xs) k d) (omega arith) ∙ sets_in l 0 xs i d (omega arith) (omega arith))

-- Rows written after a journal are that journal's rows, where it has so many.
pub written_over : (rows journal : List Row) (c : Columns) → length rows ≤ length journal
    → written rows (written journal c) ≡ written (journaled rows journal) c
unfolding written
written_over rows journal c h =
    let oi = field_over (λ (r : Row). r.old.index) c.old_index journal rows h in
    let og = field_over (λ (r : Row). r.old.generation) c.old_generation journal rows h in
    let ni = field_over (λ (r : Row). r.new.index) c.new_index journal rows h in
    let ng = field_over (λ (r : Row). r.new.generation) c.new_generation journal rows h in
    let ov = field_over (λ (r : Row). r.overflow) c.overflow journal rows h in
    rw (oi, og, ni, ng, ov)

field_own : {A : Type 0} (f : Row → A) (l : List A) (c : Columns) → row_count c ≤ length l
    → ((i : ℕ) → f (row_at c i) ≡ get_or l i (f blank)) → sets l 0 (map f (rows_in c)) ≡ l
field_own f l c h same =
    let rows = length_rows_in c in
    ext_get_or (f blank) (sets l 0 (map f (rows_in c))) l (length-sets l 0 (map f (rows_in c)))
    (λ i q.
    let within : i < length l = omega (arith, length-sets l 0 (map f (rows_in c))) in
    elim (dec_lt i (row_count c)) [
      | yes low ↦ field_in f l (rows_in c) i within (omega arith) ∙ ap f (rows_to_at c (row_count c) i low) ∙ same i
      | no high ↦ field_above f l (rows_in c) i (omega arith)
    ])

-- Columns with their own rows written are as they were.
pub written_own : (c : Columns) → written (rows_in c) c ≡ c
unfolding written row_count blank
written_own c =
    let oi = field_own (λ (r : Row). r.old.index) c.old_index c (omega arith) (λ i. refl) in
    let og = field_own (λ (r : Row). r.old.generation) c.old_generation c (omega arith) (λ i. refl) in
    let ni = field_own (λ (r : Row). r.new.index) c.new_index c (omega arith) (λ i. refl) in
    let ng = field_own (λ (r : Row). r.new.generation) c.new_generation c (omega arith) (λ i. refl) in
    let ov = field_own (λ (r : Row). r.overflow) c.overflow c (omega arith) (λ i. refl) in
    rw (oi, og, ni, ng, ov)

-- An entry more.
pub sets_more : {A : Type 0} (l xs : List A) (x : A) → sets l 0 (xs ++ (x ∷ [])) ≡ set (sets l 0 xs) (length xs) x
sets_more l xs x = sets_next l 0 xs x ∙ ap (λ (j : ℕ). set (sets l 0 xs) j x) (omega arith)

field_next : {A : Type 0} (l : List A) (f : Row → A) (rows : List Row) (r : Row)
    → sets l 0 (map f (rows ++ (r ∷ []))) ≡ set (sets l 0 (map f rows)) (length rows) (f r)
field_next l f rows r =
    ap (sets l 0) (map-append f rows (r ∷ []))
    ∙ sets_more l (map f rows) (f r)
    ∙ ap (λ (j : ℕ). set (sets l 0 (map f rows)) j (f r)) (length-map rows f)

-- No row, and a row more.
pub written_none : (c : Columns) → written [] c ≡ c
unfolding written
written_none c = refl

pub written_next : (rows : List Row) (r : Row) (c : Columns) → written (rows ++ (r ∷ [])) c ≡ with_row (written rows c) (length rows) r
unfolding written
written_next rows r c =
    let a = field_next c.old_index (λ (r : Row). r.old.index) rows r in
    let b = field_next c.old_generation (λ (r : Row). r.old.generation) rows r in
    let d = field_next c.new_index (λ (r : Row). r.new.index) rows r in
    let e = field_next c.new_generation (λ (r : Row). r.new.generation) rows r in
    let f = field_next c.overflow (λ (r : Row). r.overflow) rows r in
    cc
