-- Why the list leaves calls out, computed; and that a list with one such call is not covered, and that the claim's
-- field `given_once` fails after a list of the one kind, and `shows` after one of the other. Assumes nothing.
use Prim.Native.Nat.{◌+◌}
use mathlib.Core.Path.{◌≡◌, refl, sym, ◌∙◌}
use mathlib.Core.List.{List, [], ◌∷◌, Nodup, Nodup-cons, mem-cons_self}
use mathlib.Core.Bool.{Bool, true, false, cond, not, ◌&&◌}
use mathlib.Core.Option.{some-ne-none}
use native.Mathlib.Omega.{arith}
use Rattle.model.specs.Store.{Store, ptr, new}
use Rattle.model.specs.Perform.{Call, perform}
use Rattle.book.specs.Book.{refuses}
use Rattle.book.specs.Machine.{Entry, defined, call_in, counts, called, run_of}
use Rattle.book.specs.Covered.{left_out, Covered}
use Rattle.book.specs.Claim.{Shows}
use Rattle.book.specs.LeftOut.{left_out_count, made, GivesTwice, ShowsUnlisted}
use Rattle.book.specs.LeftOut.{compress_resets, generation_lowered, transfers_in, copies_in}
use Rattle.book.specs.LeftOut.{remove_overflows, remove_index_overflows, invalidate_overflows}
use Rattle.book.specs.LeftOut.{clear_overflows, compress_overflows, step_generation_overflows}
use Rattle.book.specs.LeftOut.{drain_overflows, drain_end_overflows, transfer_out_overflows}
use Rattle.book.proofs.Computing.{computed}

-- None, if the list is covered.
covered_none : (es : List Entry) (s : Store) → Covered es s → left_out_count es s ≡ 0
covered_none [] s c = refl
covered_none (e ∷ es) s c =
    rw (covered_none es _ c.1) (go (refuses (called (defined e s).answer)) (left_out (call_in e) s) c.0)
  where
    go : (x y : Bool) → (x ≡ false → y ≡ false) → cond (not x && y) 1 0 + 0 ≡ 0
    go true y f = refl
    go false y f = rw (f refl)

-- A list that begins with one element twice.
twice_not_once : {A : Type 0} {a : A} {l : List A} → Nodup (a ∷ a ∷ l) → ⊥
twice_not_once once = (Nodup-cons.0 once).0 mem-cons_self

-- A list with one entry that is left out is not covered.
pub one_not_covered : (es : List Entry) → left_out_count es (new 1) ≡ 1 → Covered es (new 1) → ⊥
one_not_covered es one c = omega (arith, covered_none es (new 1) c)

-- A list of the first kind fails in `given_once`, one of the second in `shows`.
pub gives_twice_fails : (cs : List Call) → GivesTwice cs → Nodup (run_of defined 1 (made cs)).given → ⊥
gives_twice_fails cs g once = twice_not_once (rw g.twice at once)

pub shows_unlisted_fails : (cs : List Call) → ShowsUnlisted cs → Shows defined 1 (run_of defined 1 (made cs)) → ⊥
unfolding counts call_in defined perform
shows_unlisted_fails cs u shows =
    some-ne-none 10 (sym u.shown ∙ shows (Entry.call (Call.get (ptr 1 2))) (ptr 1 2) (refl, refl) ∙ u.unlisted)

pub compress_resets_twice : GivesTwice compress_resets
unfolding computed
compress_resets_twice = record { one = refl; twice = refl }

pub generation_lowered_twice : GivesTwice generation_lowered
unfolding computed
generation_lowered_twice = record { one = refl; twice = refl }

pub remove_overflows_twice : GivesTwice remove_overflows
unfolding computed
remove_overflows_twice = record { one = refl; twice = refl }

pub remove_index_overflows_twice : GivesTwice remove_index_overflows
unfolding computed
remove_index_overflows_twice = record { one = refl; twice = refl }

pub invalidate_overflows_twice : GivesTwice invalidate_overflows
unfolding computed
invalidate_overflows_twice = record { one = refl; twice = refl }

pub clear_overflows_twice : GivesTwice clear_overflows
unfolding computed
clear_overflows_twice = record { one = refl; twice = refl }

pub compress_overflows_twice : GivesTwice compress_overflows
unfolding computed
compress_overflows_twice = record { one = refl; twice = refl }

pub drain_overflows_twice : GivesTwice drain_overflows
unfolding computed
drain_overflows_twice = record { one = refl; twice = refl }

pub step_generation_overflows_twice : GivesTwice step_generation_overflows
unfolding computed
step_generation_overflows_twice = record { one = refl; twice = refl }

pub drain_end_overflows_twice : GivesTwice drain_end_overflows
unfolding computed
drain_end_overflows_twice = record { one = refl; twice = refl }

pub transfer_out_overflows_twice : GivesTwice transfer_out_overflows
unfolding computed
transfer_out_overflows_twice = record { one = refl; twice = refl }

pub transfers_in_unlisted : ShowsUnlisted transfers_in
unfolding computed
transfers_in_unlisted = record { one = refl; shown = refl; unlisted = refl }

pub copies_in_unlisted : ShowsUnlisted copies_in
unfolding computed
copies_in_unlisted = record { one = refl; shown = refl; unlisted = refl }

-- The lists, and what they break.
pub ruleset left_out_lists = (
  compress_resets_twice,
  generation_lowered_twice,
  remove_overflows_twice,
  remove_index_overflows_twice,
  invalidate_overflows_twice,
  clear_overflows_twice,
  compress_overflows_twice,
  drain_overflows_twice,
  drain_end_overflows_twice,
  step_generation_overflows_twice,
  transfer_out_overflows_twice,
  transfers_in_unlisted,
  copies_in_unlisted,
  one_not_covered,
  gives_twice_fails,
  shows_unlisted_fails,
)
