-- Compress without reset keeps the invariant: the message at the n-th live place goes to place n, with the generation
-- that a clear leaves, and so does its line. Assumes nothing.
use Prim.Native.Nat.{ℕ, suc, ◌+◌, ◌≤◌, ◌<◌}
use mathlib.Core.Path.{◌≡◌, refl, ap, sym, ◌∙◌, subst}
use mathlib.Core.List.Memᴰ
use mathlib.Core.List.{List, ◌++◌, map, map-map, append-nil, Memᴰ}
use mathlib.Core.Logic.{inl, inr}
use mathlib.Core.Bool.{true, false}
use native.Mathlib.Omega.{arith}
use native.Mathlib.Decide.{ℕ_discrete}
use lib.ListN.{length, get_or}
use Rattle.model.specs.Store.{Store, Words, at, marks, ptr}
use Rattle.model.specs.Calls.{clear_step, gathered, messages, rows_of, ptr_at}
use Rattle.model.specs.declared.Ptr.{Ptr}
use Rattle.model.specs.declared.Row.{Row}
use Rattle.model.proofs.LivePlaces.{places_live, places_all, places_ascend}
use Rattle.book.specs.Book.{Line, line, new_ptr, relocated, taken}
use Rattle.book.proofs.Kept.{Tidy, LiveLine, Lines, Given, Kept}
use Rattle.book.proofs.Lines.{taken_line, line_taken, distinct_moved, distinct_once}
use Rattle.book.proofs.Handles.{given_same, given_added}
use Rattle.book.proofs.Taken.{live_low, no_lines}
use Rattle.book.proofs.Clearing.{clear_stays, clear_steps_lem, clear_current, none_live}
use Rattle.book.proofs.Gathering.{get_or_among, among_get_or, row_ptr, gathered_low, gathered_each, gathered_tidy}

-- The rows of compress.
abbrev pub compress_rows : Store → ℕ → List Row
compress_rows s g = rows_of s (messages s) 0 g (λ n. false)

-- The new handle of a line at the j-th live place, from 0.
pub moved_ptr : (s : Store) (b : List Line) (g j : ℕ) (l : Line) → Lines s b → Memᴰ l b → j < length (messages s)
    → get_or (messages s) j 0 ≡ l.ptr.index → new_ptr (compress_rows s g) l.ptr ≡ ptr (suc j) g
moved_ptr s b g j l lines x h e =
    let same : l.ptr ≡ ptr_at s (get_or (messages s) j 0) = rw (e, (lines.live l x).generation) refl in
    let place : 0 + j + 1 ≡ suc j = omega arith in
    ap (new_ptr (compress_rows s g)) same
    ∙ row_ptr s (messages s) 0 g (λ n. false) j (places_ascend (marks s) s.header.m) h
    ∙ ap (λ (i : ℕ). ptr i g) place

-- A line's message: its number among the messages, from 0, and its new handle.
pub record Moved (s : Store) (g : ℕ) (l : Line) : Type 0 where
  pub number : ℕ
  pub within : number < length (messages s)
  pub old : get_or (messages s) number 0 ≡ l.ptr.index
  pub new : new_ptr (compress_rows s g) l.ptr ≡ ptr (suc number) g

pub line_moved : (C : ℕ) (s : Store) (b : List Line) (g : ℕ) (l : Line) → Tidy C s → Lines s b → Memᴰ l b → Moved s g l
line_moved C s b g l h lines x =
    let p = l.ptr.index in
    let here = lines.live l x in
    let live : at (marks s) p ≡ 0 → ⊥ = λ z. here.some (sym here.generation ∙ z) in
    let r = among_get_or (messages s) p (places_all (marks s) s.header.m p (live_low C s p h live) live) in
    record { number = r.0; within = r.1; old = r.2; new = moved_ptr s b g r.0 l lines x r.1 r.2 }

-- A line with its new handle.
abbrev moved : Store → ℕ → Line → Line
moved s g l = line (new_ptr (compress_rows s g) l.ptr) l.value

-- It is live, and its place holds its value.
moved_live : (C : ℕ) (s : Store) (b : List Line) (g : ℕ) (l : Line) → Tidy C s → Lines s b → 2 ≤ g → Memᴰ l b
    → LiveLine (gathered s s g) (moved s g l)
moved_live C s b g l h lines current x =
    let a = line_moved C s b g l h lines x in
    let words = gathered_low C s g a.number h a.within in
    subst (λ (p : Ptr). LiveLine (gathered s s g) (line p l.value)) (sym a.new)
    (record {
      some = λ e. omega arith;
      generation = ap (λ (w : Words). w.generation) words;
      value = ap (λ (w : Words). w.value) words ∙ ap (at s.tables.values) a.old ∙ (lines.live l x).value;
    })

-- Each place that is then live is taken by such a line.
moved_all : (C : ℕ) (s : Store) (b : List Line) (g p : ℕ) → Tidy C s → Lines s b → (at (marks (gathered s s g)) p ≡ 0 → ⊥)
    → taken (relocated (compress_rows s g) b) p ≡ true
moved_all C s b g p h lines live =
    elim (gathered_each C s g p h) [
      | inl e ↦ absurd (live (ap (λ (w : Words). w.generation) e))
      | inr r ↦
          let q = get_or (messages s) r.0 0 in
          let among = get_or_among (messages s) r.0 r.1 in
          let l = taken_line b q (lines.all q (places_live (marks s) s.header.m q among)) in
          let place = ap (λ (p : Ptr). p.index) (moved_ptr s b g r.0 l.0 lines l.1 r.1 (sym l.2)) in
          ap (taken (relocated (compress_rows s g) b)) (r.2 ∙ sym place)
          ∙ line_taken (relocated (compress_rows s g) b) (moved s g l.0) (Memᴰ.map (moved s g) l.1)
    ]

-- Lines whose new places are one took one place before.
moved_apart : (C : ℕ) (s : Store) (b : List Line) (g : ℕ) → Tidy C s → Lines s b → (k l : Line) → Memᴰ k b → Memᴰ l b
    → (moved s g k).ptr.index ≡ (moved s g l).ptr.index → k.ptr.index ≡ l.ptr.index
moved_apart C s b g h lines k l x y e =
    let a = line_moved C s b g k h lines x in
    let c = line_moved C s b g l h lines y in
    let i = ap (λ (p : Ptr). p.index) a.new in
    let j = ap (λ (p : Ptr). p.index) c.new in
    let same : a.number ≡ c.number = omega arith in
    sym a.old ∙ ap (λ (n : ℕ). get_or (messages s) n 0) same ∙ c.old

pub gathered_lines : (C : ℕ) (s : Store) (b : List Line) (g : ℕ) → Tidy C s → Lines s b → 2 ≤ g
    → Lines (gathered s s g) (relocated (compress_rows s g) b)
gathered_lines C s b g h lines current =
    record {
      live = λ l x.
          let r = Memᴰ.of_map (moved s g) b x in
          subst (LiveLine (gathered s s g)) r.2 (moved_live C s b g r.0 h lines current r.1);
      all = λ p. moved_all C s b g p h lines;
      distinct = distinct_moved (moved s g) b (moved_apart C s b g h lines) lines.distinct;
    }

-- The handles of all lines are given, of a later generation.
pub given_lines : (s u : Store) (ps : List Ptr) (b : List Line) → Given s ps → s.header.generation < u.header.generation → Lines u b
    → ((l : Line) → Memᴰ l b → l.ptr.generation ≡ u.header.generation) → Given u (ps ++ map (λ l. l.ptr) b)
given_lines s u ps b h later lines current =
    given_added s u ps (map (λ l. l.ptr) b) h later (distinct_once b lines.distinct)
    (λ q x. let r = Memᴰ.of_map (λ (l : Line). l.ptr) b x in rw (← r.2) (current r.0 r.1))
    (λ q x. let r = Memᴰ.of_map (λ (l : Line). l.ptr) b x in rw (← r.2) (lines.live r.0 r.1).generation)

-- The new handles of the lines.
abbrev new_ptrs : Store → ℕ → List Line → List Ptr
new_ptrs s g b = map (λ l. new_ptr (compress_rows s g) l.ptr) b

-- Compress gives them, of a later generation;
given_moved : (C : ℕ) (s : Store) (b : List Line) (ps : List Ptr) (g : ℕ) → Kept C s b ps → s.header.generation < g
    → Given (gathered s s g) (ps ++ new_ptrs s g b)
unfolding gathered
given_moved C s b ps g h later =
    let current = h.tidy.current in
    rw (← map-map (λ (l : Line). l.ptr) (moved s g) b)
    (given_lines s (gathered s s g) ps (relocated (compress_rows s g) b) h.given later
    (gathered_lines C s b g h.tidy h.lines (omega arith))
    (λ l x.
    let r = Memᴰ.of_map (moved s g) b x in
    let a = line_moved C s b g r.0 h.tidy h.lines r.1 in
    ap (λ (k : Line). k.ptr.generation) (sym r.2) ∙ ap (λ (p : Ptr). p.generation) a.new))

-- and none where no place is live: then there is no line.
given_none : (C : ℕ) (s : Store) (b : List Line) (ps : List Ptr) (g : ℕ) → Kept C s b ps → s.header.len ≡ 0
    → g ≡ s.header.generation → Given (gathered s s g) (ps ++ new_ptrs s g b)
unfolding gathered
given_none C s b ps g h e same =
    rw (no_lines s b h.lines (none_live C s h.tidy e), append-nil ps)
    (given_same s (gathered s s g) ps h.given same
    (λ p marked. absurd (omega (arith, none_live C s h.tidy e p, h.tidy.current))))

pub gathered_kept : (C : ℕ) (s : Store) (b : List Line) (ps : List Ptr) → Kept C s b ps → (clear_step s.header).overflow ≡ false
    → Kept C (gathered s s (clear_step s.header).generation)
    (relocated (rows_of s (messages s) 0 (clear_step s.header).generation (λ n. false)) b)
    (ps ++ map (λ l. new_ptr (rows_of s (messages s) 0 (clear_step s.header).generation (λ n. false)) l.ptr) b)
gathered_kept C s b ps h over =
    let g = (clear_step s.header).generation in
    let current : 2 ≤ g = clear_current s.header h.tidy.current over in
    record {
      tidy = gathered_tidy C s g h.tidy current;
      lines = gathered_lines C s b g h.tidy h.lines current;
      given =
          elim (ℕ_discrete s.header.len 0) [
            | yes e ↦ given_none C s b ps g h e (clear_stays s.header e)
            | no d ↦ given_moved C s b ps g h (omega (arith, clear_steps_lem s.header d over))
          ];
    }
