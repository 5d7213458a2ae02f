-- The lines of a tidy store take places of its stack, and the free chain meets exactly the others, each once, and then
-- ends. Assumes nothing.
use Prim.Native.Nat.{ℕ, ◌-◌}
use mathlib.Core.Path.{◌≡◌}
use mathlib.Core.List.{Memᴰ}
use Rattle.model.specs.Store.{at, marks}
use Rattle.model.specs.Freelist.{met}
use Rattle.model.proofs.Meets.{shaped_meets}
use Rattle.book.specs.Machine.{Reached}
use Rattle.book.specs.Claim.{FreePlace, Chain}
use Rattle.book.proofs.Kept.{Tidy, Lines}
use Rattle.book.proofs.Taken.{free_untaken, untaken_free, line_low}

pub kept_chain : (C : ℕ) (r : Reached) → Tidy C r.store → Lines r.store r.book → Chain r
kept_chain C r t h =
    let s = r.store in
    let b = r.book in
    let meets = shaped_meets (marks s) s.tables.links s.header.len s.header.m s.header.root t.shaped in
    let unmarked : (p : ℕ) → FreePlace r p → at (marks s) p ≡ 0 = λ p f. untaken_free s b p h f.free in
    let n = s.header.m - s.header.len in
    let all : (p : ℕ) → FreePlace r p → Memᴰ p (met s.tables.links s.header.root n) =
    λ p f. meets.all p f.nonzero f.low (unmarked p f) in
    record {
      live = λ l x. (h.live l x).some;
      stacked = λ l x. line_low C s b l t h x;
      marked = λ l x. (h.live l x).generation;
      unmarked = unmarked;
      linked = λ p f. (meets.free p (all p f)).link;
      n = n;
      ends = meets.ends;
      once = meets.once;
      free = λ p x.
          let f = meets.free p x in
          record { nonzero = f.some; low = f.low; free = free_untaken s b p h f.free };
      all = all;
    }
