-- The calls that the claim's list leaves out: transfer or copy into the store, compress with reset, a set generation
-- below the current one, and a call in which a generation step overflows. A refused call is not left out.
use Rattle.std.specs.Prelude.{ℕ, zero, suc, ◌≡◌, List, [], ◌∷◌, Bool, true, false, cond, ◌||◌, length, ltb, eqb}
use Rattle.model.specs.Store.{Store}
use Rattle.model.specs.Calls.{step, steps_from, sought_in, messages}
use Rattle.model.specs.Perform.{Call}
use Rattle.book.specs.Book.{refuses}
use Rattle.book.specs.Machine.{Entry, defined, call_in, called}

-- One of n generation steps from g on overflows.
unfoldable pub overflows : ℕ → ℕ → Bool
overflows g zero = false
overflows g (suc n) = overflows g n || (step (steps_from g n)).overflow

-- One of the n generation steps that a call takes overflows.
abbrev pub overflows_in : Store → ℕ → Bool
overflows_in s n = overflows s.header.generation n

-- How many steps a clear takes, and whatever steps as clear does.
abbrev pub clear_steps : Store → ℕ
clear_steps s = cond (eqb s.header.len 0) 0 1

-- Whether the list leaves a call out, if it is not refused.
unfoldable pub left_out : Call → Store → Bool
left_out (Call.insert v) s = false
left_out (Call.insert_reallocating v) s = false
left_out (Call.remove p) s = overflows_in s 1
left_out (Call.remove_index i) s = overflows_in s 1
left_out (Call.invalidate p) s = overflows_in s 1
left_out (Call.get p) s = false
left_out (Call.put p v) s = false
left_out Call.clear s = overflows_in s (clear_steps s)
left_out Call.order s = false
left_out (Call.compress reset n) s = reset || overflows_in s (clear_steps s)
left_out (Call.reserve n) s = false
left_out (Call.transfer_out d g n) s = overflows_in s (length (messages s))
left_out (Call.transfer_in t g n) s = true
left_out (Call.copy_out d) s = false
left_out (Call.copy_in t) s = true
left_out (Call.advance c) s = false
left_out (Call.drain c) s = overflows_in s (cond (eqb (sought_in s c).place 0) (clear_steps s) 1)
left_out Call.find_first s = false
left_out Call.find_last s = false
left_out (Call.set_generation g) s = ltb g s.header.generation
left_out Call.step_generation s = overflows_in s 1
left_out Call.audit s = false

-- The lists of the claim: run by the definitions, no entry is left out, unless it is refused.
abbrev pub Covered : List Entry → Store → Type 0
Covered [] s = Unit {0}
Covered (e ∷ es) s =
    (refuses (called (defined e s).answer) ≡ false → left_out (call_in e) s ≡ false) × Covered es (defined e s).store
