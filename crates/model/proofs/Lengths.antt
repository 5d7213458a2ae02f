-- Every call keeps the three tables' lengths. Assumes nothing.
use Prim.Native.Nat.{ℕ, zero, suc}
use mathlib.Core.Path.{◌≡◌, refl, ◌∙◌}
use mathlib.Core.List.{List, [], ◌∷◌}
use mathlib.Core.Bool.{Bool, cond}
use lib.ListN.{length, replicate}
use lib.Seq.{length-sets}
use lib.Dec.{eqb}
use Rattle.std.proofs.lemmas.Bool.{cond_both}
use Rattle.model.specs.Store.{Tables, Store, write, placed, zeroed, marks}
use Rattle.model.specs.Freelist.{Trimmed, trimmed, chained, free}
use Rattle.model.specs.Calls.{Outcome, BothOutcome, CursorOutcome, unless, unless_both, unless_at, inserted, insert, insert_reallocating, removed, remove, remove_index, invalidate, get, put, cleared, clear, ordered, order, reserve, laid, gathered, compress, removed_all, transfer, copied, copy, advance, drained, drain, find_first, find_last, set_generation, step_generation, audit}
use Rattle.model.specs.Perform.{Call, perform}
use Rattle.model.specs.declared.Cursor.{Cursor}
use Rattle.model.proofs.Places.{length_write, length_zeroed_to}

-- t has tables as long as u's.
pub record AsLong (t u : Tables) : Type 0 where
  pub generations : length t.generations ≡ length u.generations
  pub links : length t.links ≡ length u.links
  pub values : length t.values ≡ length u.values

pub same : (t : Tables) → AsLong t t
same t = record { generations = refl; links = refl; values = refl }

pub via : {t u v : Tables} → AsLong t u → AsLong u v → AsLong t v
via a b =
    record {
      generations = a.generations ∙ b.generations;
      links = a.links ∙ b.links;
      values = a.values ∙ b.values;
    }

-- Whichever of two a test chooses.
either : {A : Type 0} {t : Tables} (f : A → Tables) (b : Bool) {x y : A} → AsLong (f x) t → AsLong (f y) t
    → AsLong (f (cond b x y)) t
either {t} f b u v = cond_both b _ _ (λ (a : _). AsLong (f a) t) (λ e. u) (λ e. v)

long_unless : {t : Tables} (n : ℕ) (s : Store) (o : Outcome) → AsLong s.tables t → AsLong o.store.tables t
    → AsLong (unless n s o).store.tables t
unfolding unless
long_unless n s o u v = either (λ (o : Outcome). o.store.tables) (eqb n 0) v u

pub long_placed : (t : Tables) (p g l v : ℕ) → AsLong (placed t p g l v) t
unfolding placed
long_placed t p g l v =
    record {
      generations = length_write t.generations p g;
      links = length_write t.links p l;
      values = length_write t.values p v;
    }

pub long_zeroed : (t : Tables) (n : ℕ) → AsLong (zeroed t n) t
unfolding zeroed
long_zeroed t n =
    record {
      generations = length_zeroed_to n t.generations;
      links = length_zeroed_to n t.links;
      values = length_zeroed_to n t.values;
    }

pub long_laid : (t : Tables) (gs vs : List ℕ) → AsLong (laid t gs vs) t
unfolding laid
long_laid t gs vs =
    record {
      generations = length-sets t.generations 0 gs;
      links = length-sets t.links 0 (replicate (length gs) 0);
      values = length-sets t.values 0 vs;
    }

pub length_trimmed : (k : List ℕ) (n : ℕ) (l v : List ℕ)
    → (length (trimmed k n l v).links ≡ length l) × (length (trimmed k n l v).values ≡ length v)
unfolding trimmed
length_trimmed k zero l v = (refl, refl)
length_trimmed k (suc n) l v =
    let e = length_trimmed k n (write l (suc n) 0) (write v (suc n) 0) in
    cond_both (free k (suc n)) _ _ (λ (t : Trimmed). (length t.links ≡ length l) × (length t.values ≡ length v))
    (λ x. (e.0 ∙ length_write l (suc n) 0, e.1 ∙ length_write v (suc n) 0))
    (λ x. (refl, refl))

pub length_chained : (k : List ℕ) (n : ℕ) (l : List ℕ) (r : ℕ) → length (chained k n l r).links ≡ length l
unfolding chained
length_chained k zero l r = refl
length_chained k (suc n) l r =
    length_chained k n _ _
    ∙ cond_both (free k (suc n)) _ _ (λ (t : List ℕ). length t ≡ length l) (λ x. length_write l (suc n) _) (λ x. refl)

pub long_ordered : (s : Store) → AsLong (ordered s).tables s.tables
unfolding ordered
long_ordered s =
    let t = trimmed (marks s) s.header.m s.tables.links s.tables.values in
    let e = length_trimmed (marks s) s.header.m s.tables.links s.tables.values in
    record {
      generations = refl;
      links = length_chained (marks s) t.m t.links 0 ∙ e.0;
      values = e.1;
    }

pub long_inserted : (s : Store) (v : ℕ) → AsLong (inserted s v).store.tables s.tables
unfolding inserted
long_inserted s v =
    either (λ (o : Outcome). o.store.tables) (eqb s.header.root 0) (long_placed _ _ _ _ _) (long_placed _ _ _ _ _)

pub long_removed : (s : Store) (p : ℕ) → AsLong (removed s p).store.tables s.tables
unfolding removed
long_removed s p =
    either (λ (u : Store). u.tables) (eqb p s.header.m) (long_placed _ _ _ _ _) (long_placed _ _ _ _ _)

pub long_removed_all : (s : Store) (ps : List ℕ) → AsLong (removed_all s ps).tables s.tables
unfolding removed_all
long_removed_all s [] = same s.tables
long_removed_all s (p ∷ ps) = via (long_removed_all (removed s p).store ps) (long_removed s p)

pub long_cleared : (s : Store) (g : ℕ) → AsLong (cleared s g).tables s.tables
unfolding cleared
long_cleared s g = long_zeroed s.tables s.header.m

pub long_gathered : (d s : Store) (g : ℕ) → AsLong (gathered d s g).tables d.tables
unfolding gathered
long_gathered d s g = via (long_laid _ _ _) (long_zeroed _ _)

pub long_copied : (d s : Store) → AsLong (copied d s).tables d.tables
unfolding copied
long_copied d s = via (long_ordered _) (via (long_laid _ _ _) (long_zeroed _ _))

pub long_drained : (s : Store) (p : ℕ) → AsLong (drained s p).store.tables s.tables
unfolding drained
long_drained s p = either (λ (o : Outcome). o.store.tables) (eqb p 0) (long_cleared s _) (long_removed s p)

-- A call over two stores keeps the lengths of both.
long_both : (n : ℕ) (d s : Store) (o : BothOutcome)
    → AsLong o.destination.tables d.tables → AsLong o.source.tables s.tables
    → AsLong (unless_both n d s o).destination.tables d.tables
    × AsLong (unless_both n d s o).source.tables s.tables
unfolding unless_both
long_both n d s o x y = (
  either (λ (o : BothOutcome). o.destination.tables) (eqb n 0) x
      (either (λ (u : Store). u.tables) (eqb n 9) (long_ordered d) (same _)),
  either (λ (o : BothOutcome). o.source.tables) (eqb n 0) y (same _),
)

pub long_transfer : (d s : Store) (g n : ℕ)
    → AsLong (transfer d s g n).destination.tables d.tables × AsLong (transfer d s g n).source.tables s.tables
unfolding transfer
long_transfer d s g n = long_both _ d s _ (long_gathered d s g) (long_removed_all s _)

pub long_copy : (d s : Store)
    → AsLong (copy d s).destination.tables d.tables × AsLong (copy d s).source.tables s.tables
unfolding copy
long_copy d s = long_both _ d s _ (long_copied d s) (same _)

long_at : (n : ℕ) (c : Cursor) (s : Store) (o : CursorOutcome) → AsLong o.outcome.store.tables s.tables
    → AsLong (unless_at n c s o).outcome.store.tables s.tables
unfolding unless_at
long_at n c s o x = either (λ (o : CursorOutcome). o.outcome.store.tables) (eqb n 0) x (same _)

-- The store that a call changes has tables as long as before, whatever it was.
pub lengths_kept : (c : Call) (s : Store) → AsLong (perform c s).store.tables s.tables
unfolding perform insert insert_reallocating remove remove_index invalidate get put clear order compress reserve advance drain find_first find_last set_generation step_generation audit
lengths_kept (Call.insert v) s = long_unless _ s _ (same _) (long_inserted s v)
lengths_kept (Call.insert_reallocating v) s = long_unless _ s _ (same _) (long_inserted s v)
lengths_kept (Call.remove p) s = long_unless _ s _ (same _) (long_removed s p.index)
lengths_kept (Call.remove_index i) s = long_unless _ s _ (same _) (long_removed s i)
lengths_kept (Call.invalidate p) s = long_unless _ s _ (same _) (record { generations = length_write _ _ _; links = refl; values = refl })
lengths_kept (Call.get p) s = long_unless _ s _ (same _) (same _)
lengths_kept (Call.put p v) s = long_unless _ s _ (same _) (record { generations = refl; links = refl; values = length_write _ _ _ })
lengths_kept Call.clear s = long_unless _ s _ (same _) (long_cleared s _)
lengths_kept Call.order s = long_unless _ s _ (same _) (long_ordered s)
lengths_kept (Call.compress reset n) s = long_unless _ s _ (same _) (long_gathered s s _)
lengths_kept (Call.reserve n) s = long_unless _ s _ (same _) (long_unless _ (ordered s) _ (long_ordered s) (long_ordered s))
lengths_kept (Call.transfer_out d g n) s = (long_transfer d s g n).1
lengths_kept (Call.transfer_in t g n) s = (long_transfer s t g n).0
lengths_kept (Call.copy_out d) s = (long_copy d s).1
lengths_kept (Call.copy_in t) s = (long_copy s t).0
lengths_kept (Call.advance c) s = long_at _ c s _ (same _)
lengths_kept (Call.drain c) s = long_at _ c s _ (long_drained s _)
lengths_kept Call.find_first s = long_unless _ s _ (same _) (same _)
lengths_kept Call.find_last s = long_unless _ s _ (same _) (same _)
lengths_kept (Call.set_generation g) s = long_unless _ s _ (same _) (same _)
lengths_kept Call.step_generation s = long_unless _ s _ (same _) (same _)
lengths_kept Call.audit s = long_unless _ s _ (same _) (same _)
