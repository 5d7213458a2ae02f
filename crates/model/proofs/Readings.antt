-- No two results of a call read as the same answer of the paper's, so that a promise made through a reading leaves one
-- value alone. Assumes nothing.
use Prim.Native.Nat.{ℕ}
use mathlib.Core.Path.{◌≡◌, refl, ap, sym, ◌∙◌}
use mathlib.Core.Bool.{Bool, true, false, cond}
use native.Mathlib.Omega.{arith}
use lib.Dec.{eqb}
use Rattle.std.specs.Prelude.{⊤, Option, None, Some, Result, Ok, Err}
use Rattle.model.specs.Store.{Store}
use Rattle.model.specs.Perform.{Call, perform}
use Rattle.model.specs.Answer.{Answer}
use Rattle.model.specs.Answers.{refusal_number, insertion_answer, message_answer, invalidation_answer, access_answer, plain_answer, completion_answer, with_ptr, found_answer, drained_answer}
use Rattle.model.proofs.Refused.{refused}
use Rattle.model.specs.declared.Ptr.{Ptr}
use Rattle.model.specs.declared.Message.{Message}
use Rattle.model.specs.declared.Completed.{Completed}
use Rattle.model.specs.declared.Refusal.{Refusal}

-- The refusal of a number.
back_refusal : ℕ → Refusal
back_refusal n =
    cond (eqb n 1) Refusal.TablesUnfit
    (cond (eqb n 2) Refusal.HeaderUnfit
    (cond (eqb n 3) Refusal.Zero
    (cond (eqb n 4) Refusal.Unsound
    (cond (eqb n 5) Refusal.JournalShort
    (cond (eqb n 6) Refusal.InvalidPtr
    (cond (eqb n 7) Refusal.NotWithinCapacity
    (cond (eqb n 8) Refusal.AllocError
    (cond (eqb n 9) Refusal.BeyondMaxCapacity
    (cond (eqb n 10) Refusal.WrongLength
    (cond (eqb n 11) Refusal.WrongMark
    (cond (eqb n 12) Refusal.WrongPlaces Refusal.BadCommand)))))))))))

back_number : (r : Refusal) → back_refusal (refusal_number r) ≡ r
unfolding back_refusal
back_number Refusal.TablesUnfit = refl
back_number Refusal.HeaderUnfit = refl
back_number Refusal.Zero = refl
back_number Refusal.Unsound = refl
back_number Refusal.JournalShort = refl
back_number Refusal.InvalidPtr = refl
back_number Refusal.NotWithinCapacity = refl
back_number Refusal.AllocError = refl
back_number Refusal.BeyondMaxCapacity = refl
back_number Refusal.WrongLength = refl
back_number Refusal.WrongMark = refl
back_number Refusal.WrongPlaces = refl
back_number Refusal.BadCommand = refl

-- No two refusals have the same number.
pub number_exact : (a b : Refusal) → refusal_number a ≡ refusal_number b → a ≡ b
number_exact a b e = sym (back_number a) ∙ ap back_refusal e ∙ back_number b

-- No refusal has the number 0.
pub number_some : (r : Refusal) → refusal_number r ≡ 0 → ⊥
number_some Refusal.TablesUnfit e = absurd (omega arith)
number_some Refusal.HeaderUnfit e = absurd (omega arith)
number_some Refusal.Zero e = absurd (omega arith)
number_some Refusal.Unsound e = absurd (omega arith)
number_some Refusal.JournalShort e = absurd (omega arith)
number_some Refusal.InvalidPtr e = absurd (omega arith)
number_some Refusal.NotWithinCapacity e = absurd (omega arith)
number_some Refusal.AllocError e = absurd (omega arith)
number_some Refusal.BeyondMaxCapacity e = absurd (omega arith)
number_some Refusal.WrongLength e = absurd (omega arith)
number_some Refusal.WrongMark e = absurd (omega arith)
number_some Refusal.WrongPlaces e = absurd (omega arith)
number_some Refusal.BadCommand e = absurd (omega arith)

-- An answer of the paper's: no refusal has the number 0.
abbrev pub Proper : Answer → Type 0
Proper a = a ≡ Answer.Refused 0 → ⊥

-- Every call's answer is one.
pub perform_proper : (c : Call) (s : Store) → Proper (perform c s).answer
perform_proper c s e = (refused c s 0 e).0 refl

-- A reading whose proper answers can be turned back is exact.
exact : {A : Type 0} (read : A → Answer) (back : Answer → A) → ((a : A) → Proper (read a) → back (read a) ≡ a)
    → (a b : A) → Proper (read a) → read a ≡ read b → a ≡ b
exact read back law a b h e = sym (law a h) ∙ ap back e ∙ law b (λ z. h (e ∙ z))

back_insertion : Answer → Result Ptr Refusal
back_insertion (Answer.Done p v) = Ok p
back_insertion (Answer.Overflow p v) = Ok p
back_insertion (Answer.Refused n) = Err (back_refusal n)

pub insertion_exact : (v : ℕ) (a b : Result Ptr Refusal) → Proper (insertion_answer v a) → insertion_answer v a ≡ insertion_answer v b → a ≡ b
unfolding back_insertion
insertion_exact v = exact (insertion_answer v) back_insertion law
  where
    law : (a : Result Ptr Refusal) → Proper (insertion_answer v a) → back_insertion (insertion_answer v a) ≡ a
    law (Ok p) h = refl
    law (Err r) h = ap Err (back_number r)

back_message : Answer → Result (Completed Message) Refusal
back_message (Answer.Done p v) = Ok (Completed.Done (record { ptr = p; value = v }))
back_message (Answer.Overflow p v) = Ok (Completed.Overflow (record { ptr = p; value = v }))
back_message (Answer.Refused n) = Err (back_refusal n)

pub message_exact : (a b : Result (Completed Message) Refusal) → Proper (message_answer a) → message_answer a ≡ message_answer b → a ≡ b
unfolding back_message
message_exact = exact message_answer back_message law
  where
    law : (a : Result (Completed Message) Refusal) → Proper (message_answer a) → back_message (message_answer a) ≡ a
    law (Ok (Completed.Done x)) h = refl
    law (Ok (Completed.Overflow x)) h = refl
    law (Err r) h = ap Err (back_number r)

back_invalidation : Answer → Result (Completed Ptr) Refusal
back_invalidation (Answer.Done p v) = Ok (Completed.Done p)
back_invalidation (Answer.Overflow p v) = Ok (Completed.Overflow p)
back_invalidation (Answer.Refused n) = Err (back_refusal n)

pub invalidation_exact : (a b : Result (Completed Ptr) Refusal) → Proper (invalidation_answer a) → invalidation_answer a ≡ invalidation_answer b → a ≡ b
unfolding back_invalidation
invalidation_exact = exact invalidation_answer back_invalidation law
  where
    law : (a : Result (Completed Ptr) Refusal) → Proper (invalidation_answer a) → back_invalidation (invalidation_answer a) ≡ a
    law (Ok (Completed.Done p)) h = refl
    law (Ok (Completed.Overflow p)) h = refl
    law (Err r) h = ap Err (back_number r)

back_access : Answer → Result ℕ Refusal
back_access (Answer.Done p v) = Ok v
back_access (Answer.Overflow p v) = Ok v
back_access (Answer.Refused n) = Err (back_refusal n)

pub access_exact : (p : Ptr) (a b : Result ℕ Refusal) → Proper (access_answer p a) → access_answer p a ≡ access_answer p b → a ≡ b
unfolding back_access
access_exact p = exact (access_answer p) back_access law
  where
    law : (a : Result ℕ Refusal) → Proper (access_answer p a) → back_access (access_answer p a) ≡ a
    law (Ok v) h = refl
    law (Err r) h = ap Err (back_number r)

back_plain : Answer → Result ⊤ Refusal
back_plain (Answer.Done p v) = Ok tt
back_plain (Answer.Overflow p v) = Ok tt
back_plain (Answer.Refused n) = Err (back_refusal n)

pub plain_exact : (a b : Result ⊤ Refusal) → Proper (plain_answer a) → plain_answer a ≡ plain_answer b → a ≡ b
unfolding back_plain
plain_exact = exact plain_answer back_plain law
  where
    law : (a : Result ⊤ Refusal) → Proper (plain_answer a) → back_plain (plain_answer a) ≡ a
    law (Ok x) h = refl
    law (Err r) h = ap Err (back_number r)

back_completion : Answer → Result (Completed ⊤) Refusal
back_completion (Answer.Done p v) = Ok (Completed.Done tt)
back_completion (Answer.Overflow p v) = Ok (Completed.Overflow tt)
back_completion (Answer.Refused n) = Err (back_refusal n)

pub completion_exact : (a b : Result (Completed ⊤) Refusal) → Proper (completion_answer a) → completion_answer a ≡ completion_answer b → a ≡ b
unfolding back_completion
completion_exact = exact completion_answer back_completion law
  where
    law : (a : Result (Completed ⊤) Refusal) → Proper (completion_answer a) → back_completion (completion_answer a) ≡ a
    law (Ok (Completed.Done x)) h = refl
    law (Ok (Completed.Overflow x)) h = refl
    law (Err r) h = ap Err (back_number r)

-- A handle that is none reads as no answer; any other is turned back as it was.
back_with_ptr : {A : Type 0} (back : Answer → A) (p : Ptr) (a : Answer) (x : A) → (eqb p.index 0 ≡ false → back a ≡ x)
    → Proper (with_ptr p a) → back (with_ptr p a) ≡ x
back_with_ptr back p a x law h = go (eqb p.index 0) refl h
  where
    go : (b : Bool) → eqb p.index 0 ≡ b → Proper (cond b (Answer.Refused 0) a) → back (cond b (Answer.Refused 0) a) ≡ x
    go true e h = absurd (h refl)
    go false e h = law e

back_found : Answer → Result (Option Ptr) Refusal
back_found (Answer.Done p v) = Ok (cond (eqb p.index 0) None (Some p))
back_found (Answer.Overflow p v) = Ok None
back_found (Answer.Refused n) = Err (back_refusal n)

pub found_exact : (a b : Result (Option Ptr) Refusal) → Proper (found_answer a) → found_answer a ≡ found_answer b → a ≡ b
unfolding back_found
found_exact = exact found_answer back_found law
  where
    law : (a : Result (Option Ptr) Refusal) → Proper (found_answer a) → back_found (found_answer a) ≡ a
    law (Ok (Some p)) h = back_with_ptr back_found p (Answer.Done p 0) (Ok (Some p)) (λ e. simp e) h
    law (Ok None) h = refl
    law (Err r) h = ap Err (back_number r)

back_drained : Answer → Result (Option (Completed Message)) Refusal
back_drained (Answer.Done p v) = Ok (cond (eqb p.index 0) None (Some (Completed.Done (record { ptr = p; value = v }))))
back_drained (Answer.Overflow p v) = Ok (Some (Completed.Overflow (record { ptr = p; value = v })))
back_drained (Answer.Refused n) = Err (back_refusal n)

pub drained_exact : (a b : Result (Option (Completed Message)) Refusal) → Proper (drained_answer a) → drained_answer a ≡ drained_answer b → a ≡ b
unfolding back_drained
drained_exact = exact drained_answer back_drained law
  where
    law : (a : Result (Option (Completed Message)) Refusal) → Proper (drained_answer a) → back_drained (drained_answer a) ≡ a
    law (Ok (Some (Completed.Done x))) h = back_with_ptr back_drained x.ptr (Answer.Done x.ptr x.value) (Ok (Some (Completed.Done x))) (λ e. simp e) h
    law (Ok (Some (Completed.Overflow x))) h = back_with_ptr back_drained x.ptr (Answer.Overflow x.ptr x.value) (Ok (Some (Completed.Overflow x))) (λ e. refl) h
    law (Ok None) h = refl
    law (Err r) h = ap Err (back_number r)
