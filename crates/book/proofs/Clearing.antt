-- Clear keeps the invariant: every word is 0, the book is empty, and no handle of the generation that is then current
-- was given. Assumes nothing.
use Prim.Native.Nat.{ℕ, ◌+◌, ◌≤◌}
use mathlib.Core.Path.{◌≡◌, ap, sym, ◌∙◌}
use mathlib.Core.List.{List, []}
use mathlib.Core.Bool.{false}
use native.Mathlib.Omega.{arith}
use native.Mathlib.Decide.{ℕ_discrete, dec_le}
use Rattle.model.specs.Store.{Store, Words, at, marks, words_at, zeroed}
use Rattle.model.specs.Calls.{clear_step, cleared, generation_width}
use Rattle.model.specs.declared.Header.{Header}
use Rattle.model.specs.declared.Ptr.{Ptr}
use Rattle.model.proofs.Tests.{tests}
use Rattle.model.proofs.Width.{step_one_more}
use Rattle.model.proofs.Above.{above_zeroed}
use Rattle.model.proofs.Lengths.{long_cleared}
use Rattle.model.proofs.Count.{none_all_free}
use Rattle.model.proofs.Changes.{empty_shaped}
use Rattle.model.proofs.Laid.{at_zeroed}
use Rattle.book.specs.Book.{Line}
use Rattle.book.proofs.Kept.{Tidy, Given, Kept}
use Rattle.book.proofs.Handles.{given_later, given_same}
use Rattle.book.proofs.Taken.{no_live_lines}

-- The generation after a clear: the same where no place is live, else one more.
pub clear_stays : (h : Header) → h.len ≡ 0 → (clear_step h).generation ≡ h.generation
unfolding clear_step
clear_stays h e = simp tests

pub clear_steps_lem : (h : Header) → (h.len ≡ 0 → ⊥) → (clear_step h).overflow ≡ false → (clear_step h).generation ≡ h.generation + 1
unfolding clear_step
clear_steps_lem h some over = simp tests (step_one_more generation_width h.generation (simp tests at over))

pub clear_current : (h : Header) → 2 ≤ h.generation → (clear_step h).overflow ≡ false → 2 ≤ (clear_step h).generation
clear_current h current over =
    elim (ℕ_discrete h.len 0) [
      | yes e ↦ rw (clear_stays h e) current
      | no d ↦ rw (clear_steps_lem h d over) (omega arith)
    ]

-- Three words that are 0.
abbrev pub no_words : Words
no_words = record { generation = 0; link = 0; value = 0 }

-- Where `len` is 0, no place is live.
pub none_live : (C : ℕ) (s : Store) → Tidy C s → s.header.len ≡ 0 → (p : ℕ) → at (marks s) p ≡ 0
none_live C s h e p =
    elim (dec_le p s.header.m) [
      | yes low ↦ none_all_free (marks s) s.header.m p (h.shaped.count ∙ e) low
      | no high ↦ h.above_free p (omega arith)
    ]

-- When the stack is zeroed, every word is 0.
pub zeroed_words : (C : ℕ) (s : Store) → Tidy C s → (p : ℕ) → words_at (zeroed s.tables s.header.m) p ≡ no_words
unfolding zeroed
zeroed_words C s h p =
    elim (dec_le p s.header.m) [
      | yes low ↦ simp at_zeroed
      | no high ↦
          let free = h.above_free p (omega arith) in
          let link = h.above_link p (omega arith) in
          let value = h.free_value p free in
          above_zeroed s.tables s.header.m p (omega arith) ∙ cc
    ]

pub cleared_words : (C : ℕ) (s : Store) (g : ℕ) → Tidy C s → (p : ℕ) → words_at (cleared s g).tables p ≡ no_words
unfolding cleared
cleared_words C s g h p = zeroed_words C s h p

-- The cleared store, of any generation from 2 on.
pub cleared_tidy : (C : ℕ) (s : Store) (g : ℕ) → Tidy C s → 2 ≤ g → Tidy C (cleared s g)
unfolding cleared
cleared_tidy C s g h current =
    let long = long_cleared s g in
    let zero : (p : ℕ) → words_at (cleared s g).tables p ≡ no_words = cleared_words C s g h in
    record {
      short = h.short;
      generations = long.generations ∙ h.generations;
      links = long.links ∙ h.links;
      values = long.values ∙ h.values;
      shaped = empty_shaped _ _ (long.generations ∙ h.generations ∙ sym (long.links ∙ h.links));
      current = current;
      above_free = λ p q. ap (λ (w : Words). w.generation) (zero p);
      above_link = λ p q. ap (λ (w : Words). w.link) (zero p);
      live_link = λ p q. ap (λ (w : Words). w.link) (zero p);
      free_value = λ p q. ap (λ (w : Words). w.value) (zero p);
    }

-- Of the handles given out none has the generation that is current after the clear.
cleared_given : (C : ℕ) (s : Store) (ps : List Ptr) → Tidy C s → Given s ps → (clear_step s.header).overflow ≡ false
    → Given (cleared s (clear_step s.header).generation) ps
unfolding cleared
cleared_given C s ps h given over =
    elim (ℕ_discrete s.header.len 0) [
      | yes e ↦
          given_same s _ ps given (clear_stays s.header e)
          (λ p marked. absurd (omega (arith, none_live C s h e p, h.current)))
      | no d ↦ given_later s _ ps given (omega (arith, clear_steps_lem s.header d over))
    ]

pub cleared_kept : (C : ℕ) (s : Store) (b : List Line) (ps : List Ptr) → Kept C s b ps → (clear_step s.header).overflow ≡ false
    → Kept C (cleared s (clear_step s.header).generation) [] ps
cleared_kept C s b ps h over =
    record {
      tidy = cleared_tidy C s _ h.tidy (clear_current s.header h.tidy.current over);
      lines = no_live_lines _ (λ p. ap (λ (w : Words). w.generation) (cleared_words C s _ h.tidy p));
      given = cleared_given C s ps h.tidy h.given over;
    }
