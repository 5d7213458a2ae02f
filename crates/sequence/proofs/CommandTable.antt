-- A command and its row of the table. Assumes nothing.
use Prim.Native.Nat.{ℕ, zero, suc, ◌+◌, ◌-◌, ◌≤◌, ◌<◌}
use mathlib.Core.Path.{◌≡◌, refl, sym, ◌∙◌}
use mathlib.Core.Bool.{Bool, true, false, ◌&&◌, ◌||◌}
use mathlib.Core.List.{List, [], ◌∷◌}
use native.Mathlib.Omega.{arith}
use lib.ListN.{length, get_or, get_or-eq_default}
use lib.Dec.{ltb, eqb}
use borrow.Author.Tests.{ltb-true, ltb-false, eqb-true, eqb-false}
use Rattle.model.specs.Codes.{code_number}
use Rattle.model.specs.Sequence.{command, permitted}
use Rattle.model.specs.Refusals.{bad_command}
use Rattle.model.specs.declared.Code.{Code}
use Rattle.model.specs.declared.Command.{Command}
use Rattle.model.proofs.Tests.{tests}
use Rattle.std.proofs.lemmas.Bool.{or_parts, and_parts}

-- The row of a code, as the definition reads it.
abbrev pub row_of : ℕ → Command
row_of n = get_or permitted (n - 1) (command 0 0 0 0 0)

-- Codes count from 1 to 10.
pub code_first : (code : Code) → 1 ≤ code_number code
code_first Code.Insert = omega arith
code_first Code.Remove = omega arith
code_first Code.Invalidate = omega arith
code_first Code.Get = omega arith
code_first Code.Clear = omega arith
code_first Code.Order = omega arith
code_first Code.Compress = omega arith
code_first Code.Audit = omega arith
code_first Code.SetGeneration = omega arith
code_first Code.RemoveIndex = omega arith

pub code_last : (code : Code) → code_number code ≤ 10
code_last Code.Insert = omega arith
code_last Code.Remove = omega arith
code_last Code.Invalidate = omega arith
code_last Code.Get = omega arith
code_last Code.Clear = omega arith
code_last Code.Order = omega arith
code_last Code.Compress = omega arith
code_last Code.Audit = omega arith
code_last Code.SetGeneration = omega arith
code_last Code.RemoveIndex = omega arith

-- A field that is larger than its row permits.
abbrev pub beyond_row : Command → Command → Bool
beyond_row c row =
    ltb row.flag c.flag || ltb row.index c.index || ltb row.generation c.generation || ltb row.value c.value

-- Rows are in the order of their codes, from k on.
abbrev numbered : ℕ → List Command → Bool
numbered k [] = true
numbered k (c ∷ cs) = eqb c.code k && numbered (suc k) cs

numbered_at : (k : ℕ) (cs : List Command) (n : ℕ) (d : Command) → numbered k cs ≡ true → n < length cs → (get_or cs n d).code ≡ k + n
numbered_at k [] n d e h = absurd (omega arith)
numbered_at k (c ∷ cs) zero d e h = eqb-true _ _ (and_parts _ _ e).0 ∙ omega arith
numbered_at k (c ∷ cs) (suc n) d e h = numbered_at (suc k) cs n d (and_parts (eqb c.code k) _ e).1 (omega arith) ∙ omega arith

-- The fields decide where there is a row.
abbrev pub no_row : ℕ → Bool
no_row code = eqb code 0 || ltb 10 code

row_there : (code : ℕ) → no_row code ≡ false → (1 ≤ code) × (code ≤ 10)
row_there code some =
    let one = eqb-false code 0 (or_parts (eqb code 0) _ some).0 in
    (omega arith, ltb-false 10 code (or_parts (eqb code 0) _ some).1)

pub row_decides : (c : Command) → no_row c.code ≡ false → bad_command c ≡ beyond_row c (row_of c.code)
unfolding bad_command
row_decides c some =
    let there = row_there c.code some in
    let e : (row_of c.code).code ≡ c.code = numbered_at 1 permitted (c.code - 1) _ refl (omega arith) ∙ omega arith in
    simp (tests, e)

-- There is one where a command has the code.
named_row : (code : Code) → no_row (code_number code) ≡ false
named_row code =
    let first = code_first code in
    let last = code_last code in
    let some : code_number code ≡ 0 → ⊥ = λ z. omega arith in
    let low : 10 < code_number code → ⊥ = λ z. omega arith in
    simp tests

pub bad_named : (c : Command) (code : Code) → code_number code ≡ c.code → beyond_row c (row_of (code_number code)) ≡ bad_command c
bad_named c code e = rw e (sym (row_decides c (rw e at (named_row code))))

-- A command without a row is bad.
pub bad_unknown : (c : Command) → no_row c.code ≡ true → true ≡ bad_command c
unfolding bad_command
bad_unknown c none = by_zero (eqb c.code 0) refl
  where
    by_zero : (b : Bool) → eqb c.code 0 ≡ b → true ≡ bad_command c
    by_zero true z = rw (eqb-true c.code 0 z) refl
    by_zero false z =
        let above = ltb-true 10 c.code (rw z at none) in
        let e = get_or-eq_default permitted (command 0 0 0 0 0) {n = c.code - 1} (omega arith) in
        let d : 0 ≡ c.code → ⊥ = λ x. omega arith in
        rw e (simp tests)

-- A good one has a row.
pub good_row : (c : Command) → bad_command c ≡ false → (1 ≤ c.code) × (c.code ≤ 10)
good_row c good = row_there c.code (by_row (no_row c.code) refl)
  where
    by_row : (b : Bool) → no_row c.code ≡ b → no_row c.code ≡ false
    by_row false e = e
    by_row true e = let bad = bad_unknown c e in cc
