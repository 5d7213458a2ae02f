-- Each removal of a transfer steps the source's generation once: its row's overflow, told from the source as it stood
-- before the call, is that of the removal. Assumes nothing.
use Prim.Native.Nat.{ℕ, zero, suc}
use mathlib.Core.Path.{◌≡◌, refl, ap, ◌∙◌}
use mathlib.Core.List.{List, [], ◌∷◌}
use lib.ListN.{length}
use lib.Dec.{eqb}
use Rattle.std.proofs.lemmas.Bool.{cond_both}
use Rattle.model.specs.Store.{Store, at}
use Rattle.model.specs.Calls.{answered, ptr_at, step, removed, removed_all, steps_from}

pub removed_steps : (s : Store) (p : ℕ) → (removed s p).store.header.generation ≡ (step s.header.generation).generation
unfolding removed
removed_steps s p =
    cond_both (eqb p s.header.m) _ _ (λ (t : Store). t.header.generation ≡ (step s.header.generation).generation)
    (λ e. refl)
    (λ e. refl)

pub removed_overflow : (s : Store) (p : ℕ)
    → (removed s p).answer ≡ answered (step s.header.generation).overflow (ptr_at s p) (at s.tables.values p)
unfolding removed
removed_overflow s p = refl

pub steps_from_first : (g n : ℕ) → steps_from (step g).generation n ≡ steps_from g (suc n)
unfolding steps_from
steps_from_first g zero = refl
steps_from_first g (suc n) = ap (λ (t : ℕ). (step t).generation) (steps_from_first g n)

-- After the messages at places ps are removed, as many steps were taken.
pub removals_step : (s : Store) (ps : List ℕ)
    → (removed_all s ps).header.generation ≡ steps_from s.header.generation (length ps)
unfolding removed_all
removals_step s [] = unfold steps_from in refl
removals_step s (p ∷ ps) =
    removals_step (removed s p).store ps
    ∙ ap (λ (t : ℕ). steps_from t (length ps)) (removed_steps s p)
    ∙ steps_from_first s.header.generation (length ps)

-- So the next removal's answer has the overflow that its row has.
pub removal_overflows : (s : Store) (ps : List ℕ) (p : ℕ)
    → (removed (removed_all s ps) p).answer
    ≡ answered (step (steps_from s.header.generation (length ps))).overflow (ptr_at (removed_all s ps) p)
    (at (removed_all s ps).tables.values p)
removal_overflows s ps p =
    removed_overflow (removed_all s ps) p
    ∙ ap (λ (g : ℕ). answered (step g).overflow (ptr_at (removed_all s ps) p) (at (removed_all s ps).tables.values p)) (removals_step s ps)
