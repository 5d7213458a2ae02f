-- What a call leaves, as what its command leaves. Assumes nothing.
use Prim.Native.Nat.{ℕ}
use mathlib.Core.Path.{◌≡◌, refl, ap, sym, ◌∙◌}
use mathlib.Core.List.{List}
use mathlib.Core.Bool.{Bool, true, false, cond}
use lib.Dec.{eqb}
use Rattle.model.specs.Store.{Tables, Store, store, no_ptr}
use Rattle.model.specs.Audit.{verdict}
use Rattle.model.specs.Refusals.{tables_unfit}
use Rattle.model.specs.Calls.{Outcome, outcome, unless, audit}
use Rattle.model.specs.Perform.{Call, perform}
use Rattle.model.specs.Run.{call_of}
use Rattle.model.specs.Answer.{Answer}
use Rattle.model.specs.declared.Header.{Header}
use Rattle.model.specs.declared.Command.{Command}
use Rattle.model.specs.declared.Row.{Row}
use Rattle.arena.specs.Journal.{JournalLaws}

-- The outcome of the call that a command names is its own.
pub as_named : (c : Command) (n : ℕ) {call : Call} (s : Store) {t : Tables} {a b : Answer} {h : Header} → call_of c n ≡ call → a ≡ b
    → outcome b (store t h) ≡ perform call s → outcome a (store t h) ≡ perform (call_of c n) s
as_named c n s e d w = simp (e, d) w

-- An audit leaves the store as it was.
pub audit_outcome : (s : Store) (a : Answer) → a ≡ (audit s).answer → outcome a s ≡ audit s
unfolding audit unless
audit_outcome s a e = ap (λ (x : Answer). outcome x s) e ∙ keeps (tables_unfit s.tables)
  where
    keeps : (b : Bool) → outcome (cond (eqb (cond b 1 0) 0) (outcome (Answer.Done no_ptr (verdict s)) s) (outcome (Answer.Refused (cond b 1 0)) s)).answer s
        ≡ cond (eqb (cond b 1 0) 0) (outcome (Answer.Done no_ptr (verdict s)) s) (outcome (Answer.Refused (cond b 1 0)) s)
    keeps true = refl
    keeps false = refl

-- A call that writes no rows leaves the journal as it was.
pub unjournaled : {J : Type 0} {rows : J → List Row} {with_row : J → ℕ → Row → J} {written : List Row → J → J}
    → JournalLaws rows with_row written → (j : J) {a : Answer} {t : Store} {o : Outcome} → outcome a t ≡ o
    → (a ≡ o.answer) × (t ≡ o.store) × (j ≡ written o.rows j)
unjournaled laws j e = rw (← e) (refl, refl, sym (laws.no_row j))
