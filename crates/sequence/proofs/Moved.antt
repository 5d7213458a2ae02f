-- A command writes no more rows than its journal has. Assumes nothing.
use Prim.Native.Nat.{ℕ, ◌≤◌}
use mathlib.Core.Path.{◌≡◌, refl}
use mathlib.Core.Bool.{Bool, true, false}
use native.Mathlib.Omega.{arith}
use lib.ListN.{length}
use lib.Dec.{ltb, eqb}
use borrow.Author.Tests.{eqb-true, ltb-false}
use Rattle.std.proofs.lemmas.Bool.{cond_both}
use Rattle.model.specs.Store.{Store, marks}
use Rattle.model.specs.Freelist.{live_count}
use Rattle.model.specs.Refusals.{tables_unfit, header_unfit, audit_fails, journal_short}
use Rattle.model.specs.Calls.{Outcome, unless, rows_of, messages, compress_refusal, compress}
use Rattle.model.specs.Perform.{perform}
use Rattle.model.specs.Run.{call_of}
use Rattle.model.specs.declared.Command.{Command}
use Rattle.model.proofs.Tests.{fails, after}
use Rattle.model.proofs.Laying.{length_rows_of}
use Rattle.model.proofs.Count.{count_places}
use Rattle.sequence.proofs.Named.{names_compress}
use Rattle.sequence.proofs.Rows.{no_rows}

-- Compress has a row for each message, and is turned down where the journal has fewer.
few_messages : (s : Store) (n g : ℕ) (over : ℕ → Bool) → compress_refusal s n ≡ 0 → length (rows_of s (messages s) 0 g over) ≤ n
unfolding compress_refusal journal_short
few_messages s n g over e =
    let short = fails (ltb n (live_count (marks s) s.header.m)) _ _ (after (audit_fails s) _ _ (after (header_unfit s) _ _ (after (tables_unfit s.tables) _ _ e))) in
    let enough = ltb-false n (live_count (marks s) s.header.m) short in
    let rows = length_rows_of s (messages s) 0 g over in
    let places = count_places (marks s) s.header.m in
    omega arith

few_compress : (s : Store) (reset : Bool) (n : ℕ) → length (compress s reset n).rows ≤ n
unfolding compress unless
few_compress s reset n =
    cond_both (eqb (compress_refusal s n) 0) _ _ (λ (o : Outcome). length o.rows ≤ n) (λ e. few_messages s n _ _ (eqb-true _ _ e)) (λ e. omega arith)

-- Any other command has none.
pub command_rows : (c : Command) (n : ℕ) (s : Store) → length (perform (call_of c n) s).rows ≤ n
unfolding perform
command_rows c n s = by_code (eqb c.code 7) refl
  where
    by_code : (b : Bool) → eqb c.code 7 ≡ b → length (perform (call_of c n) s).rows ≤ n
    by_code true e = rw (names_compress c n (eqb-true c.code 7 e)) (few_compress s (eqb c.flag 1) n)
    by_code false e = rw (no_rows c n s e) (omega arith)
