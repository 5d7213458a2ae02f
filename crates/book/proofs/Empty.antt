-- The claim, even without its first field, fails of each of the five empty machines. No list here has a call that is
-- left out, also not in the machine's own run. Assumes nothing.
use Prim.Native.Nat.{ℕ}
use mathlib.Core.Path.{refl}
use mathlib.Core.List.{List, [], ◌∷◌, ◌++◌}
use mathlib.Core.Bool.{true≢false}
use mathlib.Core.Option.{some-ne-none}
use native.Mathlib.Omega.{arith}
use lib.ListN.{replicate}
use Rattle.model.specs.Store.{ptr}
use Rattle.model.specs.Perform.{Call}
use Rattle.model.specs.declared.Ptr.{Ptr}
use Rattle.book.specs.Machine.{Entry}
use Rattle.book.specs.Claim.{ClaimButAnswered}
use Rattle.book.specs.Empty.{frees_nothing, runs_all, full_early, shows_one, refuses_all}
use Rattle.book.proofs.Computing.{computed}

-- A get of the handle p.
abbrev getting : Ptr → Entry
getting p = Entry.call (Call.get p)

-- The 16 bytes of the command insert v, where v is below 256.
abbrev insert_bytes : ℕ → List ℕ
insert_bytes v = 1 ∷ replicate 7 0 ++ v ∷ replicate 7 0

-- A sequence file for two places: insert 10, insert 20.
abbrev two_inserts : List ℕ
two_inserts = (84 ∷ 84 ∷ 83 ∷ 1 ∷ 0 ∷ 2 ∷ 0 ∷ 0 ∷ []) ++ insert_bytes 10 ++ insert_bytes 20

-- After an insert and its remove the handle shows 10, and no line has it.
pub not_frees_nothing : ClaimButAnswered frees_nothing → ⊥
unfolding computed
not_frees_nothing claim =
    let es = Entry.call (Call.insert 10) ∷ Entry.call (Call.remove (ptr 1 2)) ∷ [] in
    let shows = (claim 1 (omega arith) es (λ a. refl, (λ a. refl, tt))).shows in
    some-ne-none 10 (shows (getting (ptr 1 2)) (ptr 1 2) (refl, refl))

-- After one step the handle of the second insert shows 20, and no line has it.
pub not_runs_all : ClaimButAnswered runs_all → ⊥
unfolding computed
not_runs_all claim =
    let es = Entry.step two_inserts 1 0 ∷ [] in
    some-ne-none 20 ((claim 2 (omega arith) es (λ a. refl, tt)).shows (getting (ptr 2 2)) (ptr 2 2) (refl, refl))

-- The first insert on one place is refused, and the place is not taken.
pub not_full_early : ClaimButAnswered full_early → ⊥
unfolding computed
not_full_early claim =
    let es = Entry.call (Call.insert 10) ∷ [] in
    true≢false ((claim 1 (omega arith) es (λ a. refl, tt)).full.0 refl)

-- Before any call a handle shows 5, and no line has it.
pub not_shows_one : ClaimButAnswered shows_one → ⊥
unfolding computed
not_shows_one claim = some-ne-none 5 ((claim 1 (omega arith) [] tt).shows (getting (ptr 1 2)) (ptr 1 2) (refl, refl))

-- The first insert on one place is refused, and the place is not taken.
pub not_refuses_all : ClaimButAnswered refuses_all → ⊥
unfolding computed
not_refuses_all claim =
    let es = Entry.call (Call.insert 10) ∷ [] in
    true≢false ((claim 1 (omega arith) es (λ a. refl, tt)).full.0 refl)

-- The five.
pub ruleset empty_machines = (not_frees_nothing, not_runs_all, not_full_early, not_shows_one, not_refuses_all)
