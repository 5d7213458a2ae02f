-- The run of a file on a new store, with what `runseq` lends. Assumes nothing.
use Prim.Native.Nat.{ℕ, zero, suc, ◌≤◌}
use mathlib.Core.Path.{◌≡◌, refl, ap, sym, ◌∙◌}
use mathlib.Core.List.{List}
use mathlib.Core.Bool.{false, ◌||◌}
use native.Mathlib.Numerals.{add-one}
use native.Mathlib.Omega.{arith}
use lib.Dec.{ltb}
use lib.ListN.{length, take, replicate, length-take, length-replicate, replicate-append-replicate}
use lib.Seq.{sets}
use borrow.Author.Tests.{ltb-false}
use Rattle.model.specs.Store.{Tables, Store, no_ptr, new, laid_out}
use Rattle.model.specs.Sequence.{max_places, file_places}
use Rattle.model.specs.Calls.{row}
use Rattle.model.specs.Run.{fault, step_refusal}
use Rattle.model.specs.Listing.{refused_line, listed, lent_places, lent_rows, lent, listing}
use Rattle.model.specs.declared.Row.{Row}
use Rattle.model.proofs.Tests.{chosen}
use Rattle.std.proofs.lemmas.Bool.{or_parts}
use Rattle.arena.specs.Columns.{Columns, columns, row_count, rows_to, rows_in}
use Rattle.listing.specs.Written.{Written}
use Rattle.listing.proofs.Texts.{line_written}
use Rattle.sequence.proofs.Counts.{same_entry}
use Rattle.sequence.specs.LentRun.{beginning, state_of}
use Rattle.listing.specs.NewRun.{new_run}
use Rattle.listing.proofs.Lines.{listing_refused}

-- A file that is refused on the store laid out, and one that is not.
pub refused_run : (b : List ℕ) (t : Tables) (c : List Row) {s : Store} {n k r : ℕ} {out after : List ℕ} → s ≡ laid_out t
    → n ≡ step_refusal s.tables b 1 → k ≡ fault b n → (n ≡ 0 → ⊥)
    → (after ≡ sets out 0 (refused_line n k)) × (r ≡ length (refused_line n k)) → Written out after 0 (listed b (new_run t c)) r
unfolding new_run
refused_run b t c {s} {n} {k} {r} {out} {after} laid e f d wrote =
    let down : step_refusal (laid_out t).tables b 1 ≡ n = ap (λ (u : Store). step_refusal u.tables b 1) (sym laid) ∙ sym e in
    let text : listed b (beginning (laid_out t).tables (state_of 1 (laid_out t).header) c) ≡ refused_line n k =
    listing_refused b (laid_out t).tables 1 (laid_out t).header c (λ z. d (sym down ∙ z))
    ∙ ap (λ (j : ℕ). refused_line j (fault b j)) down
    ∙ ap (λ (j : ℕ). refused_line n j) (sym f) in
    rw text (record { bytes = wrote.0; end = omega (arith, wrote.1) })

pub accepted_listing : (b : List ℕ) (t : Tables) (c : List Row) {s : Store} {r : ℕ} {out after : List ℕ} → s ≡ laid_out t
    → Written out after 0 (listed b (beginning s.tables (state_of 1 s.header) c)) r → Written out after 0 (listed b (new_run t c)) r
unfolding new_run
accepted_listing b t c laid w = rw (← laid) w

-- The places that are lent are no more than 1,024, and the tables are as long.
pub places_fit : (b : List ℕ) {p : ℕ} → p ≡ lent_places b → p ≤ 1024
places_fit b e = rw e
    (chosen (λ (n : ℕ). n ≤ 1024) (ltb (length b) 7 || ltb max_places (file_places b)) (λ e. omega arith)
    (λ e. ltb-false max_places (file_places b) (or_parts (ltb (length b) 7) (ltb max_places (file_places b)) e).1))

pub length_part : (p n : ℕ) → p ≤ n → p ≡ length (take {A = ℕ} p (replicate n 0))
length_part p n h = omega (arith, length-take {A = ℕ} p (replicate n 0), length-replicate {A = ℕ} n 0)

laid_out_new : (t : Tables) (p : ℕ) → length t.generations ≡ p → length t.links ≡ p → length t.values ≡ p → laid_out t ≡ new p
unfolding laid_out new
laid_out_new t p g l v = rw (g, l, v) refl

-- The journal's rows, all blank.
blank : Row
blank = row no_ptr no_ptr false

abbrev pub blank_columns : ℕ → Columns
blank_columns n = columns (replicate n 0) (replicate n 0) (replicate n 0) (replicate n 0) (replicate n false)

blank_rows : (n k : ℕ) → rows_to (blank_columns n) k ≡ replicate k blank
unfolding rows_to blank
blank_rows n zero = refl
blank_rows n (suc k) =
    simp (same_entry, blank_rows n k)
    (replicate-append-replicate k 1 blank ∙ ap (λ (j : ℕ). replicate j blank) (add-one k))

blank_count : (n : ℕ) → row_count (blank_columns n) ≡ n
unfolding row_count
blank_count n = omega (arith, length-replicate {A = ℕ} n 0, length-replicate n false)

blank_journal : (n : ℕ) → rows_in (blank_columns n) ≡ replicate n blank
blank_journal n = ap (rows_to (blank_columns n)) (blank_count n) ∙ blank_rows n n

-- With tables of the places that are lent, and a blank journal, what is written is all that `runseq` prints.
pub listing_lent : (b : List ℕ) (t : Tables) {p r : ℕ} {out after : List ℕ} → p ≡ lent_places b → p ≡ length t.generations
    → p ≡ length t.links → p ≡ length t.values → Written out after 0 (listed b (new_run t (rows_in (blank_columns lent_rows)))) r
    → (after ≡ sets out 0 (listing b)) × (r ≡ length (listing b))
unfolding new_run listing blank
listing_lent b t {p} {r} {out} {after} e g l v w =
    let laid : laid_out t ≡ new (lent_places b) = laid_out_new t (lent_places b) (sym g ∙ e) (sym l ∙ e) (sym v ∙ e) in
    let same : new_run t (rows_in (blank_columns lent_rows)) ≡ lent b = rw (laid, blank_journal lent_rows) refl in
    line_written (rw same at w)
