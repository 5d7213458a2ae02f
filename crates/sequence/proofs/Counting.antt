-- Where a command's answer is counted. Assumes nothing.
use Prim.Native.Nat.{ℕ, zero, suc, ◌+◌, ◌-◌}
use mathlib.Core.Path.{◌≡◌, refl}
use mathlib.Core.List.{List, []}
use native.Mathlib.Omega.{arith}
use lib.ListN.{get_or, set}
use Rattle.model.specs.Answers.{kind}
use Rattle.model.specs.Run.{raised}
use Rattle.model.specs.Answer.{Answer}

pub raised_at : (tally : List (List ℕ)) (code : ℕ) (a : Answer) → (code ≡ 0 → ⊥)
    → raised tally code a
    ≡ set tally (code - 1) (set (get_or tally (code - 1) []) (kind a) (get_or (get_or tally (code - 1) []) (kind a) 0 + 1))
unfolding raised
raised_at tally zero a some = absurd (some refl)
raised_at tally (suc n) a some = let e : suc n - 1 ≡ n = omega arith in simp e
