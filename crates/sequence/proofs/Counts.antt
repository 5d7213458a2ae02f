-- A count of a run's tally is at most the number of its steps. Assumes nothing.
use Prim.Native.Nat.{ℕ, zero, suc, ◌+◌, ◌≤◌}
use mathlib.Core.Path.{◌≡◌, refl}
use mathlib.Core.List.{List, [], ◌∷◌}
use native.Mathlib.Omega.{arith}
use lib.ListN.{get_or, set, replicate}
use Rattle.model.specs.Sequence.{command_at}
use Rattle.model.specs.Answers.{kind}
use Rattle.model.specs.Run.{Running, no_tally, raised, tallied, next_step, after_step, steps}
use Rattle.model.specs.Answer.{Answer}
use Rattle.model.specs.Answer.{StepAnswer}

-- A number of a list raised by one, and so of a list of lists.
set_one_more : (l : List ℕ) (i j : ℕ) → get_or (set l i (get_or l i 0 + 1)) j 0 ≤ get_or l j 0 + 1
set_one_more [] i j = omega arith
set_one_more (x ∷ l) zero zero = omega arith
set_one_more (x ∷ l) zero (suc j) = omega arith
set_one_more (x ∷ l) (suc i) zero = omega arith
set_one_more (x ∷ l) (suc i) (suc j) = set_one_more l i j

count_one_more : (t : List (List ℕ)) (n k i j : ℕ)
    → get_or (get_or (set t n (set (get_or t n []) k (get_or (get_or t n []) k 0 + 1))) i []) j 0 ≤ get_or (get_or t i []) j 0 + 1
count_one_more [] n k i j = omega arith
count_one_more (l ∷ t) zero k zero j = set_one_more l k j
count_one_more (l ∷ t) zero k (suc i) j = omega arith
count_one_more (l ∷ t) (suc n) k zero j = omega arith
count_one_more (l ∷ t) (suc n) k (suc i) j = count_one_more t n k i j

raised_one_more : (t : List (List ℕ)) (code : ℕ) (a : Answer) (i j : ℕ)
    → get_or (get_or (raised t code a) i []) j 0 ≤ get_or (get_or t i []) j 0 + 1
unfolding raised
raised_one_more t zero a i j = omega arith
raised_one_more t (suc n) a i j = count_one_more t n (kind a) i j

tallied_one_more : (t : List (List ℕ)) (code : ℕ) (a : StepAnswer) (i j : ℕ)
    → get_or (get_or (tallied t code a) i []) j 0 ≤ get_or (get_or t i []) j 0 + 1
tallied_one_more t code (StepAnswer.TurnedDown n k) i j = omega arith
tallied_one_more t code StepAnswer.End i j = omega arith
tallied_one_more t code (StepAnswer.Ran a) i j = raised_one_more t code a i j

-- An entry of a list of equal entries, with these as the default too.
pub same_entry : {A : Type 0} (n i : ℕ) (x : A) → get_or (replicate n x) i x ≡ x
same_entry zero i x = refl
same_entry (suc n) zero x = refl
same_entry (suc n) (suc i) x = same_entry n i x

-- A tally of zeros.
zero_counts : (n m i j : ℕ) → ◌≡◌ {A = ℕ} (get_or (get_or (replicate n (replicate m 0)) i []) j 0) 0
zero_counts zero m i j = refl
zero_counts (suc n) m zero j = same_entry m j 0
zero_counts (suc n) m (suc i) j = zero_counts n m i j

pub few_counts : (b : List ℕ) (r : Running) → r.tally ≡ no_tally → (n i j : ℕ) → get_or (get_or (steps n b r).tally i []) j 0 ≤ n
unfolding steps after_step
few_counts b r e zero i j = rw e (omega (arith, zero_counts 10 3 i j))
few_counts b r e (suc n) i j =
    let s = steps n b r in
    omega (arith, few_counts b r e n i j, tallied_one_more s.tally (command_at b s.state.next).code (next_step b s).answer i j)
