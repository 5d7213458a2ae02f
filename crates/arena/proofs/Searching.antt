-- The first live place among those that a range gives, from either end. Assumes nothing.
use Prim.Native.Nat.{ℕ, zero, suc, ◌+◌}
use mathlib.Core.Path.{◌≡◌, refl, ap, sym, ◌∙◌}
use mathlib.Core.List.{List}
use mathlib.Core.Bool.{Bool, not}
use native.Mathlib.Omega.{arith}
use native.Mathlib.Numerals.{sub-one}
use native.Mathlib.Decide.{ℕ_discrete}
use denote.Param.Members.{Mut}
use denote.Ref.{Bor}
use borrow.Author.Tests.{eq-eqb, ne_eqb}
use Rattle.std.specs.Prelude.{Option, Ok}
use Rattle.std.specs.List.{range_with_len, find}
use Rattle.std.specs.Iterator.Adapters.{rev_steps}
use Rattle.std.specs.declared.ops.RangeInclusive.{RangeInclusive}
use Rattle.std.specs.declared.iter.Rev.{Rev}
use Rattle.std.proofs.lemmas.Iterator.{YieldsList}
use Rattle.std.specs.Fn.{CalledAt}
use Rattle.std.specs.Iterator.{FindsItem}
use Rattle.std.proofs.lemmas.Iterator.Search.{find_from_yields_List}
use Rattle.std.proofs.lemmas.Iterator.Adapters.{option_map_id}
use Rattle.model.specs.Store.{at, ptr}
use Rattle.model.specs.Freelist.{free, first_live, last_live}
use Rattle.model.specs.Answer.{Answer}
use Rattle.model.specs.Answers.{found_answer}
use Rattle.model.proofs.Live.{first_live_free, first_live_live}
use Rattle.arena.proofs.Ranges.{front, back, down_from}
use Rattle.arena.specs.Found.{some_place, found_ptr}

-- above places of which none is live, the first live one is the lowest of all
first_from : (k : List ℕ) (n j : ℕ) → first_live k n ≡ 0
    → find (λ p. not (free k p)) (range_with_len (n + 1) j) ≡ some_place (first_live k (n + j))
unfolding some_place
first_from k n zero e = let z : first_live k (n + 0) ≡ 0 = ap (first_live k) (omega arith) ∙ e in rw z
first_from k n (suc j) e =
    elim (ℕ_discrete (at k (n + 1)) 0) [
      | yes f ↦
          let on = first_from k (n + 1) j (first_live_free k n e f) in
          let b = eq-eqb (at k (n + 1)) 0 f in
          let m : n + suc j ≡ n + 1 + j = omega arith in
          rw m (simp b on)
      | no f ↦
          let b = ne_eqb (at k (n + 1)) 0 f in
          let v = first_live_live k n (n + suc j) e f (omega arith) in
          let d = ne_eqb (n + 1) 0 (λ z. omega arith) in
          simp (b, v, d)
    ]

last_from : (k : List ℕ) (n : ℕ) → find (λ p. not (free k p)) (down_from n n) ≡ some_place (last_live k n)
unfolding down_from last_live some_place
last_from k zero = refl
last_from k (suc n) =
    elim (ℕ_discrete (at k (suc n)) 0) [
      | yes f ↦ let b = eq-eqb (at k (suc n)) 0 f in simp (b, sub-one) (last_from k n)
      | no f ↦ let b = ne_eqb (at k (suc n)) 0 f in let d = ne_eqb (suc n) 0 (λ z. omega arith) in simp (b, d)
    ]

-- What the two searches of a stack of m places find. g is what is known of the calls of the test, which says whether a
-- place is live.
pub first_found : {F : Type 0} {g : Mut F (Bor ℕ × Unit {0}) Bool} (k : List ℕ) (m : ℕ) {s : RangeInclusive ℕ} {f : F} (u : RangeInclusive ℕ)
    (r : Option ℕ) → FindsItem front g s f r u → YieldsList front (λ x. x) s (range_with_len 1 m)
    → ((x : ℕ) (b : Bool) (q : F) → CalledAt g f x b q → (q ≡ f) × (b ≡ not (free k x))) → r ≡ some_place (first_live k m)
unfolding first_live
first_found k m {f} u r ran up test =
    let same : 0 + m ≡ m = omega arith in
    sym (option_map_id r)
    ∙ find_from_yields_List (λ p. not (free k p)) u f r ran up test
    ∙ first_from k 0 m refl
    ∙ ap (λ (n : ℕ). some_place (first_live k n)) same

pub last_found : {F : Type 0} {g : Mut F (Bor ℕ × Unit {0}) Bool} (k : List ℕ) (m : ℕ) {s : Rev (RangeInclusive ℕ)} {f : F}
    (u : Rev (RangeInclusive ℕ)) (r : Option ℕ) → FindsItem (rev_steps back) g s f r u → YieldsList (rev_steps back) (λ x. x) s (down_from m m)
    → ((x : ℕ) (b : Bool) (q : F) → CalledAt g f x b q → (q ≡ f) × (b ≡ not (free k x))) → r ≡ some_place (last_live k m)
last_found k m {f} u r ran down test =
    sym (option_map_id r)
    ∙ find_from_yields_List (λ p. not (free k p)) u f r ran down test
    ∙ last_from k m

-- The handle of a place that is found, as an answer shows it.
pub found_shown : (k : List ℕ) (q : ℕ) → found_answer (Ok (found_ptr k (some_place q))) ≡ Answer.Done (ptr q (at k q)) 0
unfolding at found_ptr some_place
found_shown k zero = refl
found_shown k (suc n) = let d = ne_eqb (suc n) 0 (λ z. omega arith) in simp d
