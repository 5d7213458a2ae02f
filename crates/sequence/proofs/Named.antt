-- The call that each code of a command names. Assumes nothing.
use Prim.Native.Nat.{ℕ}
use mathlib.Core.Path.{◌≡◌}
use lib.Dec.{eqb}
use Rattle.model.specs.Store.{ptr}
use Rattle.model.specs.Perform.{Call}
use Rattle.model.specs.Run.{call_of}
use Rattle.model.specs.declared.Ptr.{Ptr}
use Rattle.model.specs.declared.Command.{Command}
use Rattle.model.proofs.Tests.{tests}

pub names_insert : (c : Command) (n : ℕ) → c.code ≡ 1 → call_of c n ≡ Call.insert c.value
unfolding call_of
names_insert c n e = simp e

pub names_remove : (c : Command) (n : ℕ) (p : Ptr) → p ≡ ptr c.index c.generation → c.code ≡ 2 → call_of c n ≡ Call.remove p
unfolding call_of
names_remove c n p d e = simp (e, d)

pub names_invalidate : (c : Command) (n : ℕ) (p : Ptr) → p ≡ ptr c.index c.generation → c.code ≡ 3 → call_of c n ≡ Call.invalidate p
unfolding call_of
names_invalidate c n p d e = simp (e, d)

pub names_get : (c : Command) (n : ℕ) (p : Ptr) → p ≡ ptr c.index c.generation → c.code ≡ 4 → call_of c n ≡ Call.get p
unfolding call_of
names_get c n p d e = simp (e, d)

pub names_clear : (c : Command) (n : ℕ) → c.code ≡ 5 → call_of c n ≡ Call.clear
unfolding call_of
names_clear c n e = simp e

pub names_order : (c : Command) (n : ℕ) → c.code ≡ 6 → call_of c n ≡ Call.order
unfolding call_of
names_order c n e = simp e

pub names_compress : (c : Command) (n : ℕ) → c.code ≡ 7 → call_of c n ≡ Call.compress (eqb c.flag 1) n
unfolding call_of
names_compress c n e = simp e

pub names_audit : (c : Command) (n : ℕ) → c.code ≡ 8 → call_of c n ≡ Call.audit
unfolding call_of
names_audit c n e = simp e

pub names_set_generation : (c : Command) (n : ℕ) → c.code ≡ 9 → call_of c n ≡ Call.set_generation c.generation
unfolding call_of
names_set_generation c n e = simp e

-- Every code but 1 to 9.
pub names_remove_index : (c : Command) (n : ℕ) → (c.code ≡ 1 → ⊥) → (c.code ≡ 2 → ⊥) → (c.code ≡ 3 → ⊥) → (c.code ≡ 4 → ⊥) → (c.code ≡ 5 → ⊥)
    → (c.code ≡ 6 → ⊥) → (c.code ≡ 7 → ⊥) → (c.code ≡ 8 → ⊥) → (c.code ≡ 9 → ⊥) → call_of c n ≡ Call.remove_index c.index
unfolding call_of
names_remove_index c n d1 d2 d3 d4 d5 d6 d7 d8 d9 = simp tests
