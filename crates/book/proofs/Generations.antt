-- Set and step generation keep the invariant, where the current generation does not go down. Assumes nothing.
use Prim.Native.Nat.{ℕ, ◌≤◌}
use mathlib.Core.Path.{sym}
use mathlib.Core.List.{List}
use native.Mathlib.Omega.{arith}
use native.Mathlib.Decide.{ℕ_discrete}
use Rattle.model.specs.Store.{Store}
use Rattle.model.specs.Calls.{regenerated}
use Rattle.model.specs.declared.Ptr.{Ptr}
use Rattle.book.specs.Book.{Line}
use Rattle.book.proofs.Kept.{Tidy, Kept}
use Rattle.book.proofs.Handles.{given_later, given_same}

regenerated_tidy : (C : ℕ) (s : Store) (g : ℕ) → Tidy C s → s.header.generation ≤ g → Tidy C (regenerated s g)
regenerated_tidy C s g t h =
    record {
      short = t.short;
      generations = t.generations;
      links = t.links;
      values = t.values;
      shaped = t.shaped;
      current = omega (arith, t.current);
      above_free = t.above_free;
      above_link = t.above_link;
      live_link = t.live_link;
      free_value = t.free_value;
    }

pub regenerated_kept : (C : ℕ) (s : Store) (b : List Line) (ps : List Ptr) (g : ℕ) → Kept C s b ps → s.header.generation ≤ g
    → Kept C (regenerated s g) b ps
regenerated_kept C s b ps g k h =
    record {
      tidy = regenerated_tidy C s g k.tidy h;
      lines =
          record {
            live = λ l x.
                let a = k.lines.live l x in record { some = a.some; generation = a.generation; value = a.value };
            all = k.lines.all;
            distinct = k.lines.distinct;
          };
      given =
          elim (ℕ_discrete s.header.generation g) [
            | yes e ↦ given_same s (regenerated s g) ps k.given (sym e) (λ i a. a)
            | no d ↦ given_later s (regenerated s g) ps k.given (omega arith)
          ];
    }
