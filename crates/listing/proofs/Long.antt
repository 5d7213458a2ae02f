-- A file longer than the longest sequence is refused by 10, and so is its beginning: no more of it has to be read.
-- Assumes nothing.
use Prim.Native.Nat.{ℕ, ◌-◌, ◌%◌, ◌≤◌, ◌<◌}
use mathlib.Core.Path.{◌≡◌, refl, ap, sym, ◌∙◌}
use mathlib.Core.List.{List}
use mathlib.Core.Logic.{◌⊎◌, inl, inr}
use mathlib.Core.Bool.{Bool, true, false, not, ◌||◌}
use native.Mathlib.Omega.{arith}
use native.Mathlib.Decide.{ℕ_discrete, dec_le}
use lib.Dec.{ltb, eqb}
use lib.ListN.{length, take, replicate, length-take, length-replicate}
use lib.Seq.{take_all}
use borrow.Author.Tests.{lt-ltb, le-ltb, ne_eqb}
use Rattle.model.specs.Store.{limit, new}
use Rattle.model.specs.Sequence.{max_commands, command_count}
use Rattle.model.specs.Refusals.{tables_unfit, wrong_length}
use Rattle.model.specs.Run.{step_refusal, run}
use Rattle.model.specs.Listing.{refused_line, lent_places, listed, listing}
use Rattle.model.proofs.Tests.{eqb_same}
use Rattle.listing.specs.declared.run.TheConstants.{FILE_BYTES}
use Rattle.listing.proofs.Lent.{places_fit}

either_of : (a b c : Bool) → (b ≡ true) ⊎ (c ≡ true) → a || b || c ≡ true
either_of true b c h = refl
either_of false true c h = refl
either_of false false c (inl e) = cc
either_of false false c (inr e) = e

none_of : {a b c : Bool} → a ≡ false → b ≡ false → c ≡ false → a || b || c ≡ false
none_of d e f = rw (d, e, f) refl

-- The longest sequence has 8 + 16 · 4,095 bytes.
too_long : (b : List ℕ) → 65528 < length b → wrong_length b ≡ true
unfolding wrong_length
too_long b h =
    either_of (ltb (length b) 8) (not (eqb ((length b - 8) % 16) 0)) (ltb max_commands (command_count b))
    (elim (ℕ_discrete ((length b - 8) % 16) 0) [
      | yes whole ↦ inr (lt-ltb max_commands (command_count b) (omega arith))
      | no part ↦ inl (ap not (ne_eqb ((length b - 8) % 16) 0 part))
    ])

-- The tables that are lent pass 1.
lent_fit : (p : ℕ) → p ≤ 1024 → tables_unfit (new p).tables ≡ false
unfolding tables_unfit new
lent_fit p h =
    let long : length (replicate {A = ℕ} p 0) ≡ p = length-replicate p 0 in
    rw long (none_of (ap not (eqb_same p)) (ap not (eqb_same p)) (le-ltb limit p h))

pub long_listing : (b : List ℕ) → 65528 < length b → listing b ≡ refused_line 10 0
unfolding listing listed run step_refusal
long_listing b h = simp (lent_fit (lent_places b) (places_fit b refl), too_long b h)

-- So of any file it is enough to read one byte more than the longest sequence has.
pub read_enough : (b : List ℕ) → listing (take FILE_BYTES b) ≡ listing b
read_enough b =
    elim (dec_le (length b) FILE_BYTES) [
      | yes all ↦ ap listing (take_all FILE_BYTES b all)
      | no more ↦
          let long : 65528 < length (take FILE_BYTES b) = omega (arith, length-take FILE_BYTES b) in
          long_listing (take FILE_BYTES b) long ∙ sym (long_listing b (omega arith))
    ]
