-- A store's shape: `len` places of the stack are live, and the chain from the root has as many places as are free. The
-- verdict is 0 exactly where a store is so. Assumes nothing.
use Prim.Native.Nat.{ℕ, zero, suc, ◌+◌, ◌-◌, ◌<◌, ◌≤◌}
use mathlib.Core.Path.{◌≡◌, refl, ap, sym, ◌∙◌, subst}
use mathlib.Core.List.{List}
use mathlib.Core.Bool.{false, cond, not}
use native.Mathlib.Omega.{arith}
use native.Mathlib.Numerals.{add-one}
use native.Mathlib.Decide.{ℕ_discrete}
use lib.ListN.{length}
use lib.Dec.{eqb, ltb}
use borrow.Author.Tests.{ltb-false, eqb-true, eqb-false, not-true, not-false}
use Rattle.std.proofs.lemmas.Bool.{cond_both}
use Rattle.model.specs.Store.{at}
use Rattle.model.specs.Freelist.{free, live_count}
use Rattle.model.specs.Audit.{Walk, walk, walked, root_wrong, chain_verdict, shape_verdict}
use Rattle.model.proofs.Freelist.{live_count_low}
use Rattle.model.proofs.Tests.{tests, fails, after}
use Rattle.model.proofs.Places.{at_zero}
use Rattle.model.proofs.Linked.{Free, Linked, next_last, next_link, last_link, link_low, linked_same, away_live, away_root}
use Rattle.model.proofs.Count.{none_all_free}

-- Of m places `len` are live and the others, the gaps, are as many as the chain from the root has places.
pub record Shaped (k l : List ℕ) (len m root : ℕ) : Type 0 where
  pub within : m ≤ length k
  pub long : length k ≡ length l
  pub count : live_count k m ≡ len
  pub gaps : ℕ
  pub all : len + gaps ≡ m
  pub linked : Linked k l m root gaps

-- A walk from p that met n places before, and then those of the chain from p.
pub record WalkedChain (k l : List ℕ) (m p n : ℕ) (w : Walk) : Type 0 where
  pub rest : ℕ
  pub linked : Linked k l m p (suc rest)
  pub all : n + suc rest ≡ w.met

-- A walk that ends well has met a chain.
pub walk_linked : (j : ℕ) (k l : List ℕ) (m p n : ℕ) → (walked j k l m p n).verdict ≡ 0 → WalkedChain k l m p n (walked j k l m p n)
unfolding walked
walk_linked zero k l m p n = λ z. absurd (omega arith)
walk_linked (suc j) k l m p n =
    let Good : Walk → Type 0 = λ (w : Walk). w.verdict ≡ 0 → WalkedChain k l m p n w in
    cond_both (eqb p 0) _ _ Good (λ a z. absurd (omega arith))
    (λ a. cond_both (ltb m p) _ _ Good (λ b z. absurd (omega arith))
    (λ b. cond_both (not (free k p)) _ _ Good (λ c z. absurd (omega arith))
    (λ c. cond_both (eqb (at l p) p) _ _ Good
    (λ d z.
    let some : p ≡ 0 → ⊥ = eqb-false _ _ a in
    let same : at l p ≡ p = eqb-true _ _ d in
    record {
      rest = 0;
      linked = (
        record {
          some = some;
          low = ltb-false _ _ b;
          free = eqb-true _ _ (not-false _ c);
          link = λ e. some (sym same ∙ e);
        },
        next_last l p same,
      );
      all = refl;
    })
    (λ d z.
    let r = walk_linked j k l m (at l p) (n + 1) z in
    record {
      rest = suc r.rest;
      linked = (
        record {
          some = eqb-false _ _ a;
          low = ltb-false _ _ b;
          free = eqb-true _ _ (not-false _ c);
          link = r.linked.0.some;
        },
        rw (next_link l p (eqb-false _ _ d)) r.linked,
      );
      all = omega (arith, r.all);
    }))))

-- A walk of a chain ends well, if it may look at as many places.
pub linked_walk : (j : ℕ) (k l : List ℕ) (m p n i : ℕ) → Linked k l m p (suc i) → i < j → walked j k l m p n ≡ walk 0 (n + suc i)
unfolding walked
linked_walk zero k l m p n i b h = absurd (omega arith)
linked_walk (suc j) k l m p n zero b h =
    let some = b.0.some in
    let low = b.0.low in
    let free = b.0.free in
    let same = last_link l p b.1 b.0.link in
    simp (tests, add-one)
linked_walk (suc j) k l m p n (suc i) b h =
    let some = b.0.some in
    let low = b.0.low in
    let free = b.0.free in
    let on : at l p ≡ p → ⊥ = λ e. b.1.0.some (next_last l p e) in
    let c : Linked k l m (at l p) (suc i) = subst (λ (t : ℕ). Linked k l m t (suc i)) (next_link l p on) b.1 in
    let e : n + 1 + suc i ≡ n + suc (suc i) = omega arith in
    simp tests (linked_walk j k l m (at l p) (n + 1) i c (omega arith) ∙ ap (walk 0) e)

-- A verdict that is its own test gives 0: it is 0, and so is what comes after it.
nonzero_fails : (v x : ℕ) → cond (not (eqb v 0)) v x ≡ 0 → (v ≡ 0) × (x ≡ 0)
nonzero_fails v x =
    cond_both (not (eqb v 0)) _ _ (λ (y : ℕ). y ≡ 0 → (v ≡ 0) × (x ≡ 0))
    (λ t e. absurd (eqb-false _ _ (not-true _ t) e))
    (λ t e. (eqb-true _ _ (not-false _ t), e))

-- The chain's verdict is 0 exactly where the chain has so many places. From the root 0 no chain is walked.
pub verdict_linked : (k l : List ℕ) (m root gaps : ℕ) → chain_verdict k l m root gaps ≡ 0 → Linked k l m root gaps
unfolding chain_verdict
verdict_linked k l m root gaps e =
    let w = walked (m + 2) k l m root 0 in
    let a = nonzero_fails w.verdict _ e in
    let met : w.met ≡ gaps = eqb-true _ _ (not-false _ (fails _ _ _ a.1)) in
    let r = walk_linked (m + 2) k l m root 0 a.0 in
    let f : suc r.rest ≡ gaps = omega (arith, r.all) in
    subst (λ (t : ℕ). Linked k l m root t) f r.linked

pub linked_verdict : (k l : List ℕ) (m root gaps : ℕ) → (root ≡ 0 → ⊥) → gaps ≤ m → Linked k l m root gaps
    → chain_verdict k l m root gaps ≡ 0
unfolding chain_verdict
linked_verdict k l m root zero h q b = absurd (h b)
linked_verdict k l m root (suc i) h q b =
    let e : 0 + suc i ≡ suc i = omega arith in
    simp (tests, linked_walk (m + 2) k l m root 0 i b (omega arith))

-- Verdict 4 tells whether there is a root, and the rest is the chain's.
rooted : (k l : List ℕ) (m root gaps : ℕ) → root_wrong root gaps ≡ false
    → cond (not (eqb root 0)) (chain_verdict k l m root gaps) 0 ≡ 0 → Linked k l m root gaps
rooted k l m root gaps t z =
    elim (ℕ_discrete root 0) [
      | yes r ↦ let g : gaps ≡ 0 = eqb-true _ _ (not-false _ (simp tests at t)) in rw g r
      | no r ↦ verdict_linked k l m root gaps (simp tests at z)
    ]

-- A store whose verdict is 0 is shaped.
pub verdict_shaped : (k l : List ℕ) (len m root : ℕ) → m ≤ length k → length k ≡ length l → shape_verdict k l len m root ≡ 0
    → Shaped k l len m root
unfolding shape_verdict
verdict_shaped k l len m root within long e =
    let gaps = m - live_count k m in
    let miscounted = not (eqb len (live_count k m)) in
    let misrooted = root_wrong root gaps in
    let a = after miscounted _ _ e in
    let count : len ≡ live_count k m = eqb-true _ _ (not-false _ (fails miscounted _ _ e)) in
    let low = live_count_low k m in
    record {
      within = within;
      long = long;
      count = sym count;
      gaps = gaps;
      all = omega arith;
      linked = rooted k l m root gaps (fails misrooted _ _ a) (after misrooted _ _ a);
    }

-- The verdict of a shaped store is 0.
pub shaped_verdict : (k l : List ℕ) (len m root : ℕ) → Shaped k l len m root → shape_verdict k l len m root ≡ 0
unfolding shape_verdict
shaped_verdict k l len m root s =
    let count = sym s.count in
    let all = s.all in
    let same : m - live_count k m ≡ s.gaps = omega arith in
    elim (ℕ_discrete root 0) [
      | yes r ↦
          let none : m - live_count k m ≡ 0 = same ∙ linked_same k l m root s.gaps 0 s.linked r in
          simp tests
      | no r ↦
          let some : m - live_count k m ≡ 0 → ⊥ = λ e. r (subst (λ (t : ℕ). Linked k l m root t) (sym same ∙ e) s.linked) in
          simp (tests, linked_verdict k l m root (m - live_count k m) r (omega arith) (rw same s.linked))
    ]

-- There are as many gaps as the stack has places that are not live.
pub gaps_counted : (k l : List ℕ) (len m root : ℕ) (s : Shaped k l len m root) → s.gaps ≡ m - len
gaps_counted k l len m root s = let all = s.all in omega arith

-- The root of a shaped store, where there is one: it is a free place, its link leads into the stack, and not all
-- places are live.
pub record Rooted (k l : List ℕ) (len m root : ℕ) : Type 0 where
  pub free : Free k l m root
  pub link : at l root ≤ m
  pub short : len < m

pub shaped_root : (k l : List ℕ) (len m root : ℕ) → Shaped k l len m root → (root ≡ 0 → ⊥) → Rooted k l len m root
shaped_root k l len m root s h = go s.gaps s.all s.linked
  where
    go : (n : ℕ) → len + n ≡ m → Linked k l m root n → Rooted k l len m root
    go zero e b = absurd (h b)
    go (suc n) e b = record { free = b.0; link = link_low k l m root n b; short = omega arith }

-- Where there is no root, all places are live.
pub shaped_full : (k l : List ℕ) (len m : ℕ) → Shaped k l len m 0 → len ≡ m
shaped_full k l len m s = let e = linked_same k l m 0 s.gaps 0 s.linked refl in omega (arith, s.all)

-- A live place of a shaped store: it is not the root, and `len` is not 0.
pub live_not_root : (k l : List ℕ) (len m root p : ℕ) → Shaped k l len m root → (at k p ≡ 0 → ⊥) → root ≡ p → ⊥
live_not_root k l len m root p s live =
    away_root k l m p root s.gaps (λ e. live (at_zero k p e)) s.linked (away_live k l m p root s.gaps live s.linked)

pub live_len : (k l : List ℕ) (len m root p : ℕ) → Shaped k l len m root → p ≤ m → (at k p ≡ 0 → ⊥) → len ≡ 0 → ⊥
live_len k l len m root p s low live e = live (none_all_free k m p (s.count ∙ e) low)
