-- Order leaves a shaped store, whatever its chain was: the stack ends at the last live place, the chain ascends, and
-- every other word is kept or 0. What is ordered stays so when it is ordered again. Assumes nothing.
use Prim.Native.Nat.{ℕ, ◌-◌, ◌<◌, ◌≤◌}
use mathlib.Core.Path.{◌≡◌, refl, ap, sym, ◌∙◌, subst}
use mathlib.Core.List.{List}
use native.Mathlib.Omega.{arith}
use lib.ListN.{length}
use Rattle.model.specs.Store.{Store, at, marks}
use Rattle.model.specs.Calls.{ordered}
use Rattle.model.specs.Freelist.{Trimmed, Chained, trimmed, chained, live_count, last_live, next_free}
use Rattle.model.proofs.Freelist.{live_count_low}
use Rattle.model.proofs.Lengths.{length_trimmed, length_chained}
use Rattle.model.proofs.Agree.{last_live_low}
use Rattle.model.proofs.Count.{last_above, last_highest, last_count, last_live_lem}
use Rattle.model.proofs.Shape.{Shaped}
use Rattle.model.proofs.Words.{same_words}
use Rattle.model.proofs.Trim.{trimmed_m, trimmed_live, trimmed_kept, trimmed_popped, trimmed_link, trimmed_value}
use Rattle.model.proofs.Relink.{Lowest, lowest_none, chained_kept, chained_linked, chained_root, chained_ascends, chained_same, chained_again}

-- What order makes of a stack of m places with marks k, links l and values v: the trimmed stack t, and the chain c in
-- it.
pub record Ordered (k l v : List ℕ) (m : ℕ) (t : Trimmed) (c : Chained) : Type 0 where
  pub shaped : Shaped k c.links (live_count k m) t.m c.root
  -- The stack ends at a live place, or is empty.
  pub last : t.m ≡ last_live k m
  pub low : t.m ≤ m
  pub live : (t.m ≡ 0 → ⊥) → at k t.m ≡ 0 → ⊥
  -- The chain ascends.
  pub root : Lowest k t.m 0 c.root
  pub next : (p : ℕ) → (p ≡ 0 → ⊥) → p ≤ t.m → at k p ≡ 0 → Lowest k t.m p (next_free c.links p)
  -- The link of a live place, or of one above the stack, is kept; so is the value of a place that is not popped.
  pub link_kept : (p : ℕ) → (p ≤ m → at k p ≡ 0 → ⊥) → at c.links p ≡ at l p
  pub value_kept : (p : ℕ) → (p ≤ m → p ≤ t.m) → at t.values p ≡ at v p
  -- A place that is popped has link 0 and value 0; it was free.
  pub mark_popped : (p : ℕ) → t.m < p → p ≤ m → at k p ≡ 0
  pub link_popped : (p : ℕ) → t.m < p → p ≤ m → at c.links p ≡ 0
  pub value_popped : (p : ℕ) → t.m < p → p ≤ m → at t.values p ≡ 0

-- It is so for any links and values.
pub orders : (k l v : List ℕ) (m : ℕ) → m ≤ length k → length k ≡ length l
    → Ordered k l v m (trimmed k m l v) (chained k (trimmed k m l v).m (trimmed k m l v).links 0)
orders k l v m within long =
    let t = trimmed k m l v in
    let top : t.m ≡ last_live k m = trimmed_m k m l v in
    let low : t.m ≤ m = omega (arith, last_live_low k m) in
    let same : length t.links ≡ length l = (length_trimmed k m l v).0 in
    let fits : t.m ≤ length t.links = omega arith in
    let count : live_count k t.m ≡ live_count k m = ap (live_count k) top ∙ last_count k m in
    let few = live_count_low k t.m in
    record {
      shaped =
          record {
            within = omega arith;
            long = long ∙ sym same ∙ sym (length_chained k t.m t.links 0);
            count = count;
            gaps = t.m - live_count k m;
            all = omega arith;
            linked = chained_linked k t.m t.m t.links 0 0 (t.m - live_count k m) (omega arith) fits refl (λ i h. tt) (omega arith);
          };
      last = top;
      low = low;
      live = λ h. subst (λ (p : ℕ). at k p ≡ 0 → ⊥) (sym top) (last_live_lem k m (λ e. h (top ∙ e)));
      root = chained_root k t.m t.m t.links 0 (omega arith) (lowest_none k t.m);
      next = λ p. chained_ascends k t.m t.m t.links 0 p (omega arith) fits (lowest_none k t.m);
      link_kept = λ p h.
          chained_kept k t.m t.links 0 p (λ q. h (omega arith))
          ∙ (trimmed_kept k m l v p (λ q. last_highest k m p q (h q))).0;
      value_kept = λ p h. (trimmed_kept k m l v p (λ q. omega (arith, h q))).1;
      mark_popped = λ p h q. last_above k m p (omega arith) q;
      link_popped = λ p h q.
          chained_kept k t.m t.links 0 p (λ c. absurd (omega arith)) ∙ (trimmed_popped k m l v p (omega arith) q).0;
      value_popped = λ p h q. (trimmed_popped k m l v p (omega arith) q).1;
    }

-- What order makes of two stores is the same.
pub record SameOrdered (t t' : Trimmed) (c c' : Chained) : Type 0 where
  pub m : t.m ≡ t'.m
  pub values : t.values ≡ t'.values
  pub chains : c ≡ c'

-- It is so for stores of the same marks that differ in nothing but the links of free places and the words of the
-- places to be popped.
pub ordered_same : (k l v l' v' : List ℕ) (m : ℕ) → length l ≡ length l' → length v ≡ length v'
    → ((p : ℕ) → (p ≡ 0 → ⊥) → (p ≤ m → at k p ≡ 0 → ⊥) → at l p ≡ at l' p)
    → ((p : ℕ) → (p ≤ m → p ≤ last_live k m) → at v p ≡ at v' p)
    → SameOrdered (trimmed k m l v) (trimmed k m l' v')
    (chained k (trimmed k m l v).m (trimmed k m l v).links 0)
    (chained k (trimmed k m l' v').m (trimmed k m l' v').links 0)
ordered_same k l v l' v' m el ev h hv =
    let t = trimmed k m l v in
    let t' = trimmed k m l' v' in
    let top = trimmed_m k m l v in
    let top' = trimmed_m k m l' v' in
    let a = length_trimmed k m l v in
    let a' = length_trimmed k m l' v' in
    let same : t.m ≡ t'.m = top ∙ sym top' in
    record {
      m = same;
      values =
          same_words t.values t'.values (a.1 ∙ ev ∙ sym a'.1) (λ p some. trimmed_value k m l v l' v' p (hv p));
      chains =
          ap (λ (n : ℕ). chained k n t.links 0) same
          ∙ chained_same k t'.m t.links t'.links 0 (a.0 ∙ el ∙ sym a'.0)
          (λ p some q.
          trimmed_link k m l v l' v' p (λ c. h p some (λ low. q (omega (arith, c low)))));
    }

-- A store that is ordered stays as it is when it is ordered again.
pub ordered_again : (s : Store) → ordered (ordered s) ≡ ordered s
unfolding ordered
ordered_again s =
    let k = marks s in
    let m = s.header.m in
    let t = trimmed k m s.tables.links s.tables.values in
    let c = chained k t.m t.links 0 in
    let top : t.m ≡ last_live k m = trimmed_m k m s.tables.links s.tables.values in
    let live : (t.m ≡ 0 → ⊥) → at k t.m ≡ 0 → ⊥ =
    λ h. subst (λ (p : ℕ). at k p ≡ 0 → ⊥) (sym top) (last_live_lem k m (λ e. h (top ∙ e))) in
    rw (trimmed_live k t.m c.links t.values live, chained_again k t.m t.links 0) refl
