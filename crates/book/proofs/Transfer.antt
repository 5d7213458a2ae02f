-- A transfer's removals keep the invariant of its source, and leave it without a message. Assumes nothing.
use Prim.Native.Nat.{ℕ, zero, suc}
use mathlib.Core.Path.{◌≡◌, refl, sym, ◌∙◌}
use mathlib.Core.List.Memᴰ
use mathlib.Core.List.Pairwise
use mathlib.Core.List.{List, [], ◌∷◌, Memᴰ, Nodup, Nodup-cons}
use mathlib.Core.Logic.{inl, inr}
use mathlib.Core.Bool.{false}
use native.Mathlib.Omega.{arith}
use native.Mathlib.Decide.{ℕ_discrete}
use lib.ListN.{length}
use Rattle.std.proofs.lemmas.Bool.{or_parts}
use Rattle.model.specs.Store.{Store, at, write, marks}
use Rattle.model.specs.Calls.{step, steps_from, removed, removed_all, messages}
use Rattle.model.specs.declared.Ptr.{Ptr}
use Rattle.model.proofs.Places.{at_write_other}
use Rattle.model.proofs.Removals.{removed_steps, steps_from_first}
use Rattle.model.proofs.Words.{at_write_none}
use Rattle.model.proofs.LivePlaces.{places_live, places_all, places_ascend}
use Rattle.book.specs.Book.{Line, striking, at_index}
use Rattle.book.specs.Covered.{overflows}
use Rattle.book.proofs.Kept.{Kept}
use Rattle.book.proofs.Taken.{live_low, no_lines}
use Rattle.book.proofs.Removal.{removed_marks, removed_kept}

-- Where none of n + 1 steps overflows, the first does not, nor does one of the n after it.
pub overflows_first : (g n : ℕ) → overflows g (suc n) ≡ false → ((step g).overflow ≡ false) × (overflows (step g).generation n ≡ false)
unfolding overflows
overflows_first g zero e = (unfold steps_from in e, refl)
overflows_first g (suc n) e =
    let x = or_parts _ _ e in
    let y = overflows_first g n x.0 in
    (y.0, rw (y.1, steps_from_first g n) x.1)

-- These are the live places, each once.
record Live (k : List ℕ) (qs : List ℕ) : Type 0 where
  live : (q : ℕ) → Memᴰ q qs → at k q ≡ 0 → ⊥
  all : (q : ℕ) → (at k q ≡ 0 → ⊥) → Memᴰ q qs
  once : Nodup qs

-- Without the first of them, the others are.
live_after : (k : List ℕ) (p : ℕ) (qs : List ℕ) → Live k (p ∷ qs) → Live (write k p 0) qs
live_after k p qs a =
    let r = Nodup-cons.0 a.once in
    record {
      live = λ q x z.
          let d : q ≡ p → ⊥ = λ e. r.0 ∣ rw (← e) x ∣₁ in
          a.live q (Memᴰ.tail x) (sym (at_write_other k p q 0 d) ∙ z);
      all = λ q x.
          let d : q ≡ p → ⊥ = λ e. x (rw e (at_write_none k p)) in
          elim (Memᴰ.cases_cons (a.all q (λ z. x (at_write_other k p q 0 d ∙ z)))) [
            | inl e ↦ absurd (d e)
            | inr y ↦ y
          ];
      once = r.1;
    }

-- Where no place is named, none is live.
unnamed_free : (k : List ℕ) → Live k [] → (p : ℕ) → at k p ≡ 0
unnamed_free k a p =
    elim (ℕ_discrete (at k p) 0) [
      | yes z ↦ z
      | no d ↦ absurd (Memᴰ.not-nil (a.all p d))
    ]

-- All live places are removed, in any order.
removals_kept : (C : ℕ) (s : Store) (b : List Line) (ps : List Ptr) (qs : List ℕ) → Kept C s b ps → Live (marks s) qs
    → overflows s.header.generation (length qs) ≡ false → Kept C (removed_all s qs) [] ps
unfolding removed_all
removals_kept C s b ps [] k a small = rw (← no_lines s b k.lines (unnamed_free (marks s) a)) k
removals_kept C s b ps (p ∷ qs) k a small =
    let x = overflows_first s.header.generation (length qs) small in
    removals_kept C (removed s p).store (striking (at_index p) b) ps qs
    (removed_kept C s b ps p k (a.live p (Memᴰ.head refl)) x.0)
    (rw (removed_marks s p) (live_after (marks s) p qs a))
    (rw (removed_steps s p) x.1)

-- The source of a transfer.
pub removed_all_kept : (C : ℕ) (s : Store) (b : List Line) (ps : List Ptr) → Kept C s b ps
    → overflows s.header.generation (length (messages s)) ≡ false → Kept C (removed_all s (messages s)) [] ps
removed_all_kept C s b ps k =
    removals_kept C s b ps (messages s) k
    (record {
      live = places_live (marks s) s.header.m;
      all = λ q x. places_all (marks s) s.header.m q (live_low C s q k.tidy x) x;
      once = Pairwise.imp (λ p q h e. omega arith) (places_ascend (marks s) s.header.m);
    })
