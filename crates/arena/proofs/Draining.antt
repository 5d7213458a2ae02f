-- A drain shows the handle of the message that it removes. Assumes nothing.
use Prim.Native.Nat.{ℕ}
use mathlib.Core.Path.{◌≡◌, refl, ap, sym, ◌∙◌}
use mathlib.Core.Bool.{Bool, true, false}
use native.Mathlib.Decide.{ℕ_discrete}
use Rattle.std.specs.Prelude.{Option, None, Some, Ok}
use Rattle.std.specs.Option.{MatchOption}
use native.Mathlib.Omega.{arith}
use borrow.Author.Tests.{le-leb, eq-eqb, ne_eqb}
use Rattle.model.specs.Store.{Store, at, marks}
use Rattle.model.specs.Refusals.{removal_unsound}
use Rattle.model.specs.Calls.{Outcome, outcome, answered, done, ptr_at, step, removed, clear_step, cleared, drained}
use Rattle.model.specs.Answers.{shown_ptr, message_answer, drained_answer}
use Rattle.model.specs.declared.Ptr.{Ptr}
use Rattle.model.specs.declared.Message.{Message}
use Rattle.model.specs.declared.Completed.{Completed}
use Rattle.model.specs.Answer.{Answer}
use Rattle.arena.specs.Found.{some_place}
use Rattle.model.proofs.Places.{at_zero}
use Rattle.model.proofs.Removals.{removed_overflow}

-- Done and overflow show the handle given.
answered_shows : (over : Bool) (p : Ptr) (v : ℕ) → shown_ptr (answered over p v) ≡ p
unfolding answered
answered_shows true p v = refl
answered_shows false p v = refl

-- The handle that a removal shows is its place's.
removed_index : {a : Answer} {t : Store} (s : Store) (p : ℕ) → outcome a t ≡ removed s p → (shown_ptr a).index ≡ p
removed_index s p e =
    ap (λ (o : Outcome). (shown_ptr o.answer).index) e
    ∙ ap (λ (a : Answer). (shown_ptr a).index) (removed_overflow s p)
    ∙ ap (λ (q : Ptr). q.index)
    (answered_shows (step s.header.generation).overflow (ptr_at s p) (at s.tables.values p))

-- At a place that is not 0 the answer of a removal is a drain's.
message_drained : (r : Completed Message) {t : Store} (s : Store) (p : ℕ) → (p ≡ 0 → ⊥)
    → outcome (message_answer (Ok r)) t ≡ removed s p → outcome (drained_answer (Ok (Some r))) t ≡ drained s p
unfolding drained
message_drained (Completed.Done x) s p n e =
    simp (ne_eqb p 0 n, ne_eqb x.ptr.index 0 (λ z. n (sym (removed_index s p e) ∙ z))) e
message_drained (Completed.Overflow x) s p n e =
    simp (ne_eqb p 0 n, ne_eqb x.ptr.index 0 (λ z. n (sym (removed_index s p e) ∙ z))) e

-- A place that is found is not 0.
some_found : {p q : ℕ} → Some p ≡ some_place q → (p ≡ q) × (p ≡ 0 → ⊥)
unfolding some_place
some_found {p} {q} e =
    elim (ℕ_discrete q 0) [
      | yes z ↦ let b = eq-eqb q 0 z in let x = simp b at e in (cc, λ f. cc)
      | no z ↦ let b = ne_eqb q 0 z in let x : Some p ≡ Some q = simp b at e in let y : p ≡ q = cc in (y, λ f. z (sym y ∙ f))
    ]

none_found : {q : ℕ} → None ≡ some_place q → q ≡ 0
unfolding some_place
none_found {q} e =
    elim (ℕ_discrete q 0) [
      | yes z ↦ z
      | no z ↦ let b = ne_eqb q 0 z in let x : None ≡ Some q = simp b at e in cc
    ]

-- Refusal 4 of the place found, where there is none and where there is one.
unsound_none : (s : Store) (q : ℕ) → None ≡ some_place q → false ≡ removal_unsound s q
unfolding removal_unsound
unsound_none s q e =
    let z = none_found e in
    let low = le-leb q s.header.m (omega arith) in
    let free = eq-eqb (at (marks s) q) 0 (at_zero (marks s) q z) in
    simp (low, free)

unsound_some : (s : Store) (q : ℕ) {p : ℕ} {b : Bool} → Some p ≡ some_place q → b ≡ removal_unsound s p → b ≡ removal_unsound s q
unsound_some s q e f = f ∙ ap (removal_unsound s) (some_found e).0

-- and so at a place that is found
pub drained_message : (r : Completed Message) {t : Store} (s : Store) (p q : ℕ) → Some p ≡ some_place q
    → outcome (message_answer (Ok r)) t ≡ removed s p → outcome (drained_answer (Ok (Some r))) t ≡ drained s q
drained_message r s p q e f = let g = message_drained r s p (some_found e).1 f in g ∙ ap (drained s) (some_found e).0

-- Where none is found, the store is cleared.
pub drained_none : (s : Store) (q : ℕ) → None ≡ some_place q → drained s q ≡ outcome done (cleared s (clear_step s.header).generation)
unfolding drained
drained_none s q e = rw (none_found e)

-- Refusal 4 asks for the place found, if there is one.
pub unsound_found : (s : Store) (q : ℕ) (place : Option ℕ) {b : Bool} {Asked : ℕ → Type 0} → place ≡ some_place q
    → MatchOption place (b ≡ false) Asked → ((p : ℕ) → Asked p → b ≡ removal_unsound s p) → b ≡ removal_unsound s q
unsound_found s q None e m asked = m ∙ unsound_none s q e
unsound_found s q (Some p) e m asked = unsound_some s q e (asked p m)
