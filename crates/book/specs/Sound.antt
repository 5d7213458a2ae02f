-- Not part of the claim: a store is sound after every list that the claim is about.
use Rattle.std.specs.Prelude.{ℕ, ◌≤◌, ◌≡◌, List, false}
use Rattle.model.specs.Store.{Store, limit, new}
use Rattle.model.specs.Audit.{verdict}
use Rattle.model.specs.Refusals.{tables_unfit, header_unfit, count_wrong, root_unsound, removal_unsound}
use Rattle.book.specs.Machine.{Entry, Machine, run_of}
use Rattle.book.specs.Covered.{Covered}

-- A store passes its audit, and no test of refusals 1, 2 and 4 on it holds: where a call is refused by one of these, it
-- is for the other store.
pub record Sound (s : Store) : Type 0 where
  -- The audit's verdict is 0; so it is no ground for 4 in compress, transfer and copy.
  pub audit : verdict s ≡ 0
  -- 1 and 2.
  pub tables : tables_unfit s.tables ≡ false
  pub header : header_unfit s ≡ false
  -- 4, for order and reserve, for insert, and for the removal of any place.
  pub count : count_wrong s ≡ false
  pub root : root_unsound s ≡ false
  pub removal : (i : ℕ) → removal_unsound s i ≡ false

-- So is the store of a machine after every list covered, for every number of places up to the limit.
unfoldable pub AlwaysSound : Machine → Type 0
AlwaysSound M = (C : ℕ) → C ≤ limit → (es : List Entry) → Covered es (new C) → Sound (run_of M C es).store
