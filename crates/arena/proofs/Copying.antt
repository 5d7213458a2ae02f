-- A loop that copies the places of a stack, from place 1 on, and what is copied so, when it is ordered. Assumes
-- nothing.
use Prim.Native.Nat.{ℕ, ◌+◌, ◌≤◌}
use mathlib.Core.Path.{◌≡◌, refl, ap, sym, ◌∙◌}
use mathlib.Core.List.{List, [], ◌∷◌, ◌++◌, map, map-append}
use mathlib.Core.Bool.{cond}
use native.Mathlib.Omega.{arith}
use lib.ListN.{length, length-map}
use lib.Dec.{eqb}
use Rattle.model.proofs.Count.{last_count}
use Rattle.model.specs.Store.{Tables, Store, header, store, at, filled, zeroed, marks}
use Rattle.model.specs.Freelist.{free, live_count, last_live}
use Rattle.model.specs.Calls.{laid, up_to, ordered, copied}
use Rattle.model.proofs.Above.{length_up_to}
use Rattle.model.proofs.Laying.{laid_next, up_to_next}
use Rattle.model.proofs.Lengths.{AsLong, same, via, long_placed}

-- The value that a place is copied with.
abbrev value_at : List ℕ → List ℕ → ℕ → ℕ
value_at k v q = cond (free k q) 0 (at v q)

-- The words of one place more.
map_next : (f : ℕ → ℕ) (p : ℕ) → map f (up_to (p + 1)) ≡ map f (up_to p) ++ (f (p + 1) ∷ [])
map_next f p = ap (map f) (up_to_next p) ∙ map-append f (up_to p) ((p + 1) ∷ [])

length_map_up_to : (f : ℕ → ℕ) (p : ℕ) → length (map f (up_to p)) ≡ p
length_map_up_to f p = length-map (up_to p) f ∙ length_up_to p

-- The source has generations k and values v. Of its places up to top, those up to p are copied. The destination had
-- tables t₀ and has t.
pub record Copying (k v : List ℕ) (top : ℕ) (t₀ t : Tables) (p : ℕ) : Type 0 where
  pub within : p ≤ top
  pub long : AsLong t t₀
  pub words : t ≡ laid t₀ (map (at k) (up_to p)) (map (value_at k v) (up_to p))

pub copying_starts : (k v : List ℕ) (top : ℕ) (t : Tables) → Copying k v top t t 0
unfolding laid up_to
copying_starts k v top t = record { within = omega arith; long = same t; words = refl }

-- q is the next place, g its generation, x its value, and y the value that it is copied with
pub copying_goes_on : {k v : List ℕ} {top p q g x y : ℕ} {t₀ t t' : Tables} → q ≡ p + 1 → q ≤ top → g ≡ at k q → x ≡ at v q
    → y ≡ cond (eqb g 0) 0 x → t' ≡ filled t q g y → Copying k v top t₀ t p → Copying k v top t₀ t' q
copying_goes_on {k} {v} {p} {g} {x} {y} {t₀} {t} {t'} on h e f i j c =
    let gs = map (at k) (up_to p) in
    let vs = map (value_at k v) (up_to p) in
    let long : AsLong (filled t (p + 1) g y) t = long_placed t (p + 1) g 0 y in
    let m = length_map_up_to (at k) p in
    let n = length_map_up_to (value_at k v) p in
    let next = laid_next t₀ gs vs p g y (sym m) (n ∙ sym m) in
    let a = map_next (at k) p in
    let b = map_next (value_at k v) p in
    let w = c.words in
    let e = rw on at e in
    let f = rw on at f in
    let j = rw on at j in
    rw on
    (record {
      within = omega arith;
      long = rw j (via long c.long);
      words = cc;
    })

pub copying_ends : {k v : List ℕ} {top p : ℕ} {t₀ t : Tables} → top ≤ p → Copying k v top t₀ t p
    → t ≡ laid t₀ (map (at k) (up_to top)) (map (value_at k v) (up_to top))
copying_ends {top} {p} h c =
    let e : p ≡ top = omega (arith, c.within) in
    rw e at c.words

-- The places copied onto the zeroed tables t, and ordered, are the copy of a source of `len` messages.
pub copy_ordered : (d s : Store) {t t' : Tables} {top : ℕ} → live_count (marks s) s.header.m ≡ s.header.len
    → top ≡ last_live (marks s) s.header.m → t ≡ zeroed d.tables d.header.m
    → t' ≡ laid t (map (at s.tables.generations) (up_to top)) (map (value_at (marks s) s.tables.values) (up_to top))
    → ordered (store t' (header s.header.len top 0 s.header.generation)) ≡ copied d s
unfolding copied
copy_ordered d s e f g h =
    let len = last_count (marks s) s.header.m ∙ e in
    cc
