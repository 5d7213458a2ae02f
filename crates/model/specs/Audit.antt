-- Section "The calls", audit: the verdict of `_check_invariants`. Verdicts 3 to 9 go by marks and links.
use Rattle.std.specs.Prelude.{ℕ, zero, suc, ◌+◌, ◌-◌, List, [], ◌∷◌, Bool, true, cond, not, ◌||◌, ltb, eqb}
use Rattle.model.specs.Store.{Store, at, capacity, marks}
use Rattle.model.specs.Tests.{first_holding}
use Rattle.model.specs.Freelist.{free, live_count}

-- How a walk of the chain ended, and the free places that it met.
pub record Walk : Type 0 where
  pub verdict : ℕ
  pub met : ℕ

abbrev pub walk : ℕ → ℕ → Walk
walk v n = record { verdict = v; met = n }

-- The walk from place p, with n places met before it and at most j to look at. It ends at a link of 0 (5), beyond m
-- (6), at a live place (7), at the place that is linked to itself (0), or where j places do not end it (8, endless).
unfoldable pub walked : ℕ → List ℕ → List ℕ → ℕ → ℕ → ℕ → Walk
walked zero k l m p n = walk 8 n
walked (suc j) k l m p n =
    let on = walked j k l m (at l p) (n + 1) in
    cond (eqb p 0) (walk 5 n)
    (cond (ltb m p) (walk 6 n)
    (cond (not (free k p)) (walk 7 n)
    (cond (eqb (at l p) p) (walk 0 (n + 1)) on)))

-- Verdicts 5 to 9, of a chain that should meet so many free places: 9 where it meets fewer or more (discontinuous).
unfoldable pub chain_verdict : List ℕ → List ℕ → ℕ → ℕ → ℕ → ℕ
chain_verdict k l m root gaps =
    let w = walked (m + 2) k l m root 0 in
    first_holding ((w.verdict, not (eqb w.verdict 0)) ∷ (9, not (eqb w.met gaps)) ∷ [])

-- Verdict 4: there is a root where no place is free, or none where one is.
abbrev pub root_wrong : ℕ → ℕ → Bool
root_wrong root gaps = cond (eqb root 0) (not (eqb gaps 0)) (eqb gaps 0)

-- Verdicts 3 to 9: the count, the root and the chain.
unfoldable pub shape_verdict : List ℕ → List ℕ → ℕ → ℕ → ℕ → ℕ
shape_verdict k l len m root =
    let gaps = m - live_count k m in
    first_holding
    ((3, not (eqb len (live_count k m)))
    ∷ (4, root_wrong root gaps)
    ∷ (chain_verdict k l m root gaps, not (eqb root 0))
    ∷ [])

-- The verdict, in the Rust's order: 0 is sound. 1 is a generation below 2, 2 a `len` or m above capacity. The last
-- test always holds, and its number may be 0.
unfoldable pub verdict : Store → ℕ
verdict s =
    let h = s.header in
    first_holding
    ((1, ltb h.generation 2)
    ∷ (2, ltb (capacity s) h.len || ltb (capacity s) h.m)
    ∷ (shape_verdict (marks s) s.tables.links h.len h.m h.root, true)
    ∷ [])
