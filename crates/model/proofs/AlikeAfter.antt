-- What the work of a call does to two stores that differ in words above the stack alone: answers and rows are the
-- same, and the stores it leaves have one header and the same words, up to the stack as it was and as it is. Assumes
-- nothing.
use Prim.Native.Nat.{ℕ, ◌+◌, ◌≤◌, max}
use mathlib.Core.Path.{◌≡◌, refl}
use mathlib.Core.List.{List, [], ◌∷◌, map, Memᴰ}
use mathlib.Core.Bool.{Bool}
use native.Mathlib.Omega.{arith}
use lib.ListN.{length-map}
use lib.Dec.{eqb}
use borrow.Author.Tests.{eqb-true}
use Rattle.std.proofs.lemmas.Bool.{cond_both}
use Rattle.model.specs.Store.{Store, at, marks}
use Rattle.model.specs.Freelist.{trimmed, first_live, last_live, next_free}
use Rattle.model.specs.Calls.{Outcome, outcome, unless, ptr_at, inserted, removed, cleared, ordered, rows_of, messages, removed_all, copied, drained, regenerated}
use Rattle.model.specs.Answer.{Answer}
use Rattle.model.proofs.Tests.{chosen_alike}
use Rattle.model.proofs.Above.{trimmed_low, live_places_low, length_up_to}
use Rattle.model.proofs.Refusals.{HeaderFits}
use Rattle.model.proofs.Agree.{agree_less, live_places_agree, live_count_agree, first_live_agree, last_live_agree, trimmed_agree, chained_agree, agree_placed, agree_zeroed, agree_laid, last_live_low, map_same, copied_generations, copied_values}
use Rattle.model.proofs.Alike.{AlikeTo, Alike, LeftAlike, Same, no_longer}

-- What a call does to two stores alike; and the stack is no longer after it.
alike_ordered : {n : ℕ} {s u : Store} → s.header.m ≤ n → AlikeTo s u n → AlikeTo (ordered s) (ordered u) n
unfolding ordered
alike_ordered {s} h a =
    let t = trimmed_agree s.header.m h a.tables.generations a.tables.links a.tables.values in
    let low = trimmed_low (marks s) s.header.m s.tables.links s.tables.values in
    let top = (trimmed (marks s) s.header.m s.tables.links s.tables.values).m in
    let c = chained_agree top 0 (omega arith) a.tables.generations t.links in
    rw (← a.header, ← t.m)
    (record {
      header = rw c.root;
      tables = record { generations = a.tables.generations; links = c.links; values = t.values };
    })

ordered_low : (s : Store) → (ordered s).header.m ≤ s.header.m
unfolding ordered
ordered_low s = trimmed_low _ _ _ _

alike_removed : {n : ℕ} {s u : Store} (p : ℕ) → AlikeTo s u n → AlikeTo (removed s p).store (removed u p).store n
unfolding removed
alike_removed {n} {s} p a =
    rw (← a.header)
    (chosen_alike (λ (x y : Store). AlikeTo x y n) (eqb p s.header.m) (eqb p s.header.m) refl
    (λ e. record { header = refl; tables = agree_placed p _ _ _ a.tables (λ q low d. low) })
    (λ e. record { header = refl; tables = agree_placed p _ _ _ a.tables (λ q low d. low) }))

removed_low : (s : Store) (p : ℕ) → (removed s p).store.header.m ≤ s.header.m
unfolding removed
removed_low s p =
    cond_both (eqb p s.header.m) _ _ (λ (t : Store). t.header.m ≤ s.header.m) (λ e. omega arith) (λ e. omega arith)

pub alike_removed_all : {n : ℕ} {s u : Store} (ps : List ℕ) → AlikeTo s u n → AlikeTo (removed_all s ps) (removed_all u ps) n
unfolding removed_all
alike_removed_all [] a = a
alike_removed_all {n = n} {s = s} {u = u} (p ∷ ps) a =
    alike_removed_all {s = (removed s p).store} {u = (removed u p).store} ps (alike_removed p a)

pub removed_all_low : (s : Store) (ps : List ℕ) → (removed_all s ps).header.m ≤ s.header.m
unfolding removed_all
removed_all_low s [] = omega arith
removed_all_low s (p ∷ ps) = omega (arith, removed_all_low (removed s p).store ps, removed_low s p)

-- The journal shows generations of places, in both alike.
rows_of_same : (s u : Store) (ps : List ℕ) (n g : ℕ) (over : ℕ → Bool)
    → ((p : ℕ) → Memᴰ p ps → at (marks s) p ≡ at (marks u) p) → rows_of s ps n g over ≡ rows_of u ps n g over
unfolding rows_of
rows_of_same s u [] n g over h = refl
rows_of_same s u (p ∷ ps) n g over h =
    cc (h p (Memᴰ.head refl), rows_of_same s u ps (n + 1) g over (λ q x. h q (Memᴰ.tail x)))

-- The messages of stores that are alike, their values and their rows.
module _ {s u : Store} (a : Alike s u) where
  pub same_messages : messages s ≡ messages u
  same_messages = cc (live_places_agree s.header.m a.tables.generations)

  pub same_values : map (at s.tables.values) (messages s) ≡ map (at u.tables.values) (messages u)
  same_values =
      rw (← same_messages)
      (map_same _ _ (messages s) (λ p x. a.tables.values.words p (live_places_low (marks s) s.header.m p x)))

  pub same_rows : (g : ℕ) (over : ℕ → Bool) → rows_of s (messages s) 0 g over ≡ rows_of u (messages u) 0 g over
  same_rows g over =
      rw (← same_messages)
      (rows_of_same s u (messages s) 0 g over
      (λ p x. a.tables.generations.words p (live_places_low (marks s) s.header.m p x)))

  pub same_first_live : first_live (marks s) s.header.m ≡ first_live (marks u) u.header.m
  same_first_live = cc (first_live_agree s.header.m a.tables.generations)

  pub same_last_live : last_live (marks s) s.header.m ≡ last_live (marks u) u.header.m
  same_last_live = cc (last_live_agree s.header.m a.tables.generations)

pub copied_low : (d s : Store) → (copied d s).header.m ≤ last_live (marks s) s.header.m
unfolding copied
copied_low d s = ordered_low _

pub alike_copied : {d e s u : Store} → Alike d e → Alike s u
    → AlikeTo (copied d s) (copied e u) (max d.header.m (last_live (marks s) s.header.m))
unfolding copied
alike_copied {s} a b =
    let top = last_live (marks s) s.header.m in
    let k = agree_less b.tables.generations (last_live_low (marks s) s.header.m) in
    let v = agree_less b.tables.values (last_live_low (marks s) s.header.m) in
    alike_ordered (omega arith)
    (rw (← same_last_live b, ← a.header, ← b.header, ← copied_generations top k, ← copied_values top k v)
    (record {
      header = cc (live_count_agree top k);
      tables =
          agree_laid _ _ (agree_zeroed _ a.tables) (rw (length-map, length_up_to) (omega arith))
          (rw (length-map, length_up_to) (omega arith));
    }))

pub same_outcome : {m : ℕ} {x y : Answer} {s u : Store} → x ≡ y → LeftAlike m s u → Same m (outcome x s) (outcome y u)
same_outcome e a = record { answer = e; rows = refl; store = a }

-- Both are turned down, or both know that their tests gave 0.
pub same_unless : {m i j : ℕ} {s u : Store} {o q : Outcome} → i ≡ j → LeftAlike m s u → (i ≡ 0 → Same m o q)
    → Same m (unless i s o) (unless j u q)
unfolding unless
same_unless {m} {i} {j} e a f =
    chosen_alike (Same m) (eqb i 0) (eqb j 0) (rw e) (λ z. f (eqb-true i 0 z)) (λ z. same_outcome (rw e) a)

module _ {s u : Store} (a : Alike s u) where
  -- Either store as given.
  pub as_given : LeftAlike s.header.m s u
  as_given = no_longer (omega arith) a

  pub same_call : {i j : ℕ} {o q : Outcome} → i ≡ j → (i ≡ 0 → Same s.header.m o q)
      → Same s.header.m (unless i s o) (unless j u q)
  same_call e f = same_unless e as_given f

  pub same_inserted : (v : ℕ) → HeaderFits s → Same s.header.m (inserted s v) (inserted u v)
  unfolding inserted next_free
  same_inserted v f =
      rw (← a.header)
      (chosen_alike (Same s.header.m) (eqb s.header.root 0) (eqb s.header.root 0) refl
      (λ e.
      same_outcome refl
      (record { header = refl; tables = agree_placed _ _ _ _ a.tables (λ q low d. omega arith) }))
      (λ e.
      same_outcome refl
      (record {
        header = rw (a.tables.links.words s.header.root f.root);
        tables = agree_placed _ _ _ _ a.tables (λ q low d. omega arith);
      })))

  pub same_removed : (p : ℕ) → p ≤ s.header.m → Same s.header.m (removed s p) (removed u p)
  unfolding removed
  same_removed p h =
      same_outcome (cc (a.tables.generations.words p h, a.tables.values.words p h))
      (no_longer (removed_low s p) (alike_removed p a))

  pub cleared_alike : (g h : ℕ) → g ≡ h → LeftAlike s.header.m (cleared s g) (cleared u h)
  unfolding cleared
  cleared_alike g h e =
      rw (← a.header, ← e) (no_longer (omega arith) (record { header = refl; tables = agree_zeroed _ a.tables }))

  pub ordered_alike : LeftAlike s.header.m (ordered s) (ordered u)
  ordered_alike = no_longer (ordered_low s) (alike_ordered (omega arith) a)

  pub regenerated_alike : (g h : ℕ) → g ≡ h → LeftAlike s.header.m (regenerated s g) (regenerated u h)
  regenerated_alike g h e = rw (← a.header, ← e) (no_longer (omega arith) (record { header = refl; tables = a.tables }))

  pub same_drained : (p : ℕ) → p ≤ s.header.m → Same s.header.m (drained s p) (drained u p)
  unfolding drained
  same_drained p h =
      chosen_alike (Same s.header.m) (eqb p 0) (eqb p 0) refl
      (λ e. same_outcome refl (cleared_alike _ _ (rw a.header)))
      (λ e. same_removed p h)

  -- The handle at a place of the stack is shown.
  pub same_shown : (p q : ℕ) → p ≡ q → p ≤ s.header.m
      → Same s.header.m (outcome (Answer.Done (ptr_at s p) 0) s) (outcome (Answer.Done (ptr_at u q) 0) u)
  same_shown p q e h = rw (← e) (same_outcome (rw (a.tables.generations.words p h)) as_given)
