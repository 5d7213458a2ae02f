-- A command other than compress has no rows. Assumes nothing.
use Prim.Native.Nat.{ℕ}
use mathlib.Core.Path.{◌≡◌, refl}
use mathlib.Core.List.{[]}
use mathlib.Core.Bool.{false}
use lib.Dec.{eqb}
use Rattle.model.specs.Store.{Store}
use Rattle.model.specs.Calls.{Outcome, unless, inserted, insert, removed, remove, remove_index, invalidate, get, clear, order, set_generation, audit}
use Rattle.model.specs.Perform.{Call, perform}
use Rattle.model.specs.Run.{call_of}
use Rattle.model.specs.declared.Command.{Command}
use Rattle.model.proofs.Tests.{chosen}

none_unless : (k : ℕ) (s : Store) (o : Outcome) → o.rows ≡ [] → (unless k s o).rows ≡ []
unfolding unless
none_unless k s o none = chosen (λ (q : Outcome). q.rows ≡ []) (eqb k 0) (λ e. none) (λ e. refl)

none_inserted : (s : Store) (v : ℕ) → (inserted s v).rows ≡ []
unfolding inserted
none_inserted s v = chosen (λ (q : Outcome). q.rows ≡ []) (eqb s.header.root 0) (λ e. refl) (λ e. refl)

none_removed : (s : Store) (p : ℕ) → (removed s p).rows ≡ []
unfolding removed
none_removed s p = refl

-- Each other command, by its code.
pub no_rows : (c : Command) (n : ℕ) (s : Store) → eqb c.code 7 ≡ false → (perform (call_of c n) s).rows ≡ []
unfolding call_of perform insert remove invalidate get clear order audit set_generation remove_index
no_rows c n s other =
    let none : Call → Type 0 = λ call. (perform call s).rows ≡ [] in
    chosen none (eqb c.code 1) (λ e. none_unless _ s _ (none_inserted s c.value)) (λ e.
    chosen none (eqb c.code 2) (λ e. none_unless _ s _ (none_removed s c.index)) (λ e.
    chosen none (eqb c.code 3) (λ e. none_unless _ s _ refl) (λ e.
    chosen none (eqb c.code 4) (λ e. none_unless _ s _ refl) (λ e.
    chosen none (eqb c.code 5) (λ e. none_unless _ s _ refl) (λ e.
    chosen none (eqb c.code 6) (λ e. none_unless _ s _ refl) (λ e.
    chosen none (eqb c.code 7) (λ e. cc) (λ e.
    chosen none (eqb c.code 8) (λ e. none_unless _ s _ refl) (λ e.
    chosen none (eqb c.code 9) (λ e. none_unless _ s _ refl) (λ e.
    none_unless _ s _ (none_removed s c.index))))))))))
