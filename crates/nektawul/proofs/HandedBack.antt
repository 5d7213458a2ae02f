-- Why an exported call is its definition: where it reads the header, makes a call that is the definition, and hands
-- back the answer and the header of that call, the flat answer and the store are the definition's. The check sees this
-- by itself at each exported call, so that no proof cites these laws: they say it once, for the reader. Assumes
-- nothing.
use mathlib.Core.Path.{◌≡◌, ap, ◌∙◌}
use Rattle.model.specs.Store.{Tables, Store, store}
use Rattle.model.specs.Calls.{Outcome, outcome, CursorOutcome, cursor_outcome, BothOutcome, both_outcome}
use Rattle.model.specs.Answer.{Answer}
use Rattle.model.specs.declared.Cursor.{Cursor}
use Rattle.model.specs.declared.Header.{Header}
use Rattle.nektawul.specs.Answer.{flat}
use Rattle.nektawul.specs.declared.answer.FlatAnswer.{FlatAnswer}

-- `call` is the definition, given the header. The code reads the header, makes its call, puts the answer in the shared
-- form and hands both back.
pub handed_back_lem : (call : Header → Outcome) {read given after kept left : Header} {a a' : Answer} {t : Tables} {r : FlatAnswer}
    → read ≡ given → outcome a (store t after) ≡ call read → (a' ≡ a) × (kept ≡ after) → (r ≡ flat a') × (left ≡ kept)
    → (r ≡ flat (call given).answer) × (store t left ≡ (call given).store)
handed_back_lem call {t = t} e₀ e₁ e₂ e₃ =
    let whole = e₁ ∙ ap call e₀ in
    let answer = e₃.0 ∙ ap flat (e₂.0 ∙ ap (λ (o : Outcome). o.answer) whole) in
    (answer, ap (store t) (e₃.1 ∙ e₂.1) ∙ ap (λ (o : Outcome). o.store) whole)

-- The same of a call with a cursor, which leaves the cursor too.
pub handed_back_at : (call : Header → CursorOutcome) {read given after left : Header} {a : Answer} {t : Tables} {r : FlatAnswer} {k left-cursor : Cursor}
    → read ≡ given → cursor_outcome k (outcome a (store t after)) ≡ call read → r ≡ flat a → left ≡ after → left-cursor ≡ k
    → (r ≡ flat (call given).outcome.answer) × (store t left ≡ (call given).outcome.store) × (left-cursor ≡ (call given).cursor)
handed_back_at call {t = t} e₀ e₁ e₂ e₃ e₄ =
    let whole = e₁ ∙ ap call e₀ in
    let answer = e₂ ∙ ap (λ (o : CursorOutcome). flat o.outcome.answer) whole in
    let kept = ap (store t) e₃ ∙ ap (λ (o : CursorOutcome). o.outcome.store) whole in
    (answer, kept, e₄ ∙ ap (λ (o : CursorOutcome). o.cursor) whole)

-- The same of a call on two stores, which leaves the destination.
pub handed_back_both : (call : Header → Header → BothOutcome) {d d' s s' after kept left : Header} {a a' : Answer} {t : Tables} {u : Store} {r : FlatAnswer}
    → d ≡ d' → s ≡ s' → both_outcome a (store t after) u ≡ call d s → (a' ≡ a) × (kept ≡ after) → (r ≡ flat a') × (left ≡ kept)
    → (r ≡ flat (call d' s').answer) × (store t left ≡ (call d' s').destination)
handed_back_both call {d' = d'} {s = s} {t = t} e e' e₁ e₂ e₃ =
    let whole = e₁ ∙ ap (λ (h : Header). call h s) e ∙ ap (call d') e' in
    let answer = e₃.0 ∙ ap flat (e₂.0 ∙ ap (λ (o : BothOutcome). o.answer) whole) in
    (answer, ap (store t) (e₃.1 ∙ e₂.1) ∙ ap (λ (o : BothOutcome). o.destination) whole)
