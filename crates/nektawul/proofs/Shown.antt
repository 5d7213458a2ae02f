-- What is shown of these calls' answers is the answer of their definitions, since no call answers with a handle that
-- is none. Assumes nothing.
use mathlib.Core.Path.{◌≡◌, ap, sym, ◌∙◌}
use Rattle.std.specs.Prelude.{Option, Result}
use Rattle.model.specs.Store.{Tables, Store, store}
use Rattle.model.specs.Answer.{Answer}
use Rattle.model.specs.Answers.{found_answer, drained_answer}
use Rattle.model.specs.Calls.{Outcome, CursorOutcome, outcome, cursor_outcome, find_first, find_last, advance, drain}
use Rattle.model.specs.Perform.{Call, perform}
use Rattle.model.proofs.Readings.{perform_proper}
use Rattle.model.specs.declared.Ptr.{Ptr}
use Rattle.model.specs.declared.Cursor.{Cursor}
use Rattle.model.specs.declared.Header.{Header}
use Rattle.model.specs.declared.Message.{Message}
use Rattle.model.specs.declared.Completed.{Completed}
use Rattle.model.specs.declared.Refusal.{Refusal}
use Rattle.nektawul.specs.Answer.{flat}
use Rattle.nektawul.specs.declared.answer.FlatAnswer.{FlatAnswer}
use Rattle.sequence.specs.Shown.{found_shown, drained_shown}
use Rattle.sequence.proofs.Proper.{found_proper, drained_proper}

pub find_first_shown : (s : Store) (a : Result (Option Ptr) Refusal) {t : Store} → outcome (found_answer a) t ≡ find_first s
    → found_shown a ≡ (find_first s).answer
unfolding perform
find_first_shown s a e =
    let w = ap (λ (o : Outcome). o.answer) e in
    found_proper a (λ z. perform_proper Call.find_first s (sym w ∙ z)) ∙ w

pub find_last_shown : (s : Store) (a : Result (Option Ptr) Refusal) {t : Store} → outcome (found_answer a) t ≡ find_last s
    → found_shown a ≡ (find_last s).answer
unfolding perform
find_last_shown s a e =
    let w = ap (λ (o : Outcome). o.answer) e in
    found_proper a (λ z. perform_proper Call.find_last s (sym w ∙ z)) ∙ w

advance_shown : (s : Store) (c : Cursor) (a : Result (Option Ptr) Refusal) {k : Cursor} {t : Store}
    → cursor_outcome k (outcome (found_answer a) t) ≡ advance s c → found_shown a ≡ (advance s c).outcome.answer
unfolding perform
advance_shown s c a e =
    let w = ap (λ (o : CursorOutcome). o.outcome.answer) e in
    found_proper a (λ z. perform_proper (Call.advance c) s (sym w ∙ z)) ∙ w

drain_shown : (s : Store) (c : Cursor) (a : Result (Option (Completed Message)) Refusal) {k : Cursor} {t : Store}
    → cursor_outcome k (outcome (drained_answer a) t) ≡ drain s c → drained_shown a ≡ (drain s c).outcome.answer
unfolding perform
drain_shown s c a e =
    let w = ap (λ (o : CursorOutcome). o.outcome.answer) e in
    drained_proper a (λ z. perform_proper (Call.drain c) s (sym w ∙ z)) ∙ w

-- What an advance hands back: h is the header as it is read, d the cursor as it is read, and k the cursor that is left.
pub advance_handed : (t : Tables) (c : Cursor) (a : Result (Option Ptr) Refusal) {h given : Header} {d k left : Cursor} {u : Store} {b : Answer}
    {f : FlatAnswer} → h ≡ given → d ≡ c → cursor_outcome k (outcome (found_answer a) u) ≡ advance (store t h) d → b ≡ found_shown a → f ≡ flat b → left ≡ k
    → (f ≡ flat (advance (store t given) c).outcome.answer) × (left ≡ (advance (store t given) c).cursor)
advance_handed t c a {given = given} {d = d} e₀ e₄ e e₁ e₂ e₃ =
    let whole = e ∙ ap (λ (x : Header). advance (store t x) d) e₀ ∙ ap (advance (store t given)) e₄ in
    let answer = e₂ ∙ ap flat (e₁ ∙ advance_shown (store t given) c a whole) in
    (answer, e₃ ∙ ap (λ (o : CursorOutcome). o.cursor) whole)

-- The same of a drain, which leaves the tables u and the header after.
pub drain_handed : (t u : Tables) (c : Cursor) (a : Result (Option (Completed Message)) Refusal) {h given after kept : Header} {d k left : Cursor}
    {b : Answer} {f : FlatAnswer} → h ≡ given → d ≡ c → cursor_outcome k (outcome (drained_answer a) (store u after)) ≡ drain (store t h) d → b ≡ drained_shown a → f ≡ flat b
    → kept ≡ after → left ≡ k
    → (f ≡ flat (drain (store t given) c).outcome.answer) × (store u kept ≡ (drain (store t given) c).outcome.store) × (left ≡ (drain (store t given) c).cursor)
drain_handed t u c a {given = given} {d = d} e₀ e₅ e e₁ e₂ e₃ e₄ =
    let whole = e ∙ ap (λ (x : Header). drain (store t x) d) e₀ ∙ ap (drain (store t given)) e₅ in
    let answer = e₂ ∙ ap flat (e₁ ∙ drain_shown (store t given) c a whole) in
    (answer, ap (store u) e₃ ∙ ap (λ (o : CursorOutcome). o.outcome.store) whole, e₄ ∙ ap (λ (o : CursorOutcome). o.cursor) whole)
