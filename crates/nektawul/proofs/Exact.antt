-- No two answers are the same in the form for C and Rust, so that nothing of an answer is lost in it. Assumes nothing.
use mathlib.Core.Path.{◌≡◌, refl, ap, sym, ◌∙◌}
use mathlib.Core.Bool.{cond}
use lib.Dec.{eqb}
use Rattle.model.specs.Store.{ptr}
use Rattle.model.specs.Answer.{Answer}
use Rattle.model.specs.Answer.{StepAnswer}
use Rattle.nektawul.specs.Answer.{flat, flat_step}
use Rattle.nektawul.specs.declared.answer.FlatAnswer.{FlatAnswer}

-- The answer that a form is of, by its kind.
answer_of : FlatAnswer → Answer
answer_of f =
    let p = ptr f.index f.generation in
    cond (eqb f.kind 0) (Answer.Done p f.value)
    (cond (eqb f.kind 1) (Answer.Overflow p f.value) (Answer.Refused f.refusal))

answer_back : (a : Answer) → answer_of (flat a) ≡ a
unfolding answer_of flat
answer_back (Answer.Done p v) = refl
answer_back (Answer.Overflow p v) = refl
answer_back (Answer.Refused n) = refl

pub flat_exact : (a b : Answer) → flat a ≡ flat b → a ≡ b
flat_exact a b e = sym (answer_back a) ∙ ap answer_of e ∙ answer_back b

step_answer_of : FlatAnswer → StepAnswer
step_answer_of f =
    cond (eqb f.kind 4) (StepAnswer.TurnedDown f.refusal f.index)
    (cond (eqb f.kind 3) StepAnswer.End (StepAnswer.Ran (answer_of f)))

step_back : (a : StepAnswer) → step_answer_of (flat_step a) ≡ a
unfolding step_answer_of answer_of flat_step flat
step_back (StepAnswer.TurnedDown n c) = refl
step_back StepAnswer.End = refl
step_back (StepAnswer.Ran (Answer.Done p v)) = refl
step_back (StepAnswer.Ran (Answer.Overflow p v)) = refl
step_back (StepAnswer.Ran (Answer.Refused n)) = refl

pub flat_step_exact : (a b : StepAnswer) → flat_step a ≡ flat_step b → a ≡ b
flat_step_exact a b e = sym (step_back a) ∙ ap step_answer_of e ∙ step_back b
