-- Sections "The store" and "The calls": live and free places, the free chain, and what order makes of it. All of it
-- goes by marks, of which 0 says that a place is free, and by links, so that it holds of any store that marks its
-- places.
use Rattle.std.specs.Prelude.{ℕ, zero, suc, ◌+◌, List, [], ◌∷◌, ◌++◌, Bool, cond, not, ◌&&◌, leb, eqb}
use Rattle.model.specs.Store.{at, write}

-- Place p holds no message.
abbrev pub free : List ℕ → ℕ → Bool
free k p = eqb (at k p) 0

-- Place p is in a stack of m places and holds a message.
abbrev pub live : List ℕ → ℕ → ℕ → Bool
live k m p = leb p m && not (free k p)

-- The live places from 1 to n, ascending.
unfoldable pub live_places : List ℕ → ℕ → List ℕ
live_places k zero = []
live_places k (suc n) = live_places k n ++ cond (free k (suc n)) [] (suc n ∷ [])

-- How many they are.
unfoldable pub live_count : List ℕ → ℕ → ℕ
live_count k zero = 0
live_count k (suc n) = live_count k n + cond (free k (suc n)) 0 1

-- The lowest of them, or 0.
unfoldable pub first_live : List ℕ → ℕ → ℕ
first_live k zero = 0
first_live k (suc n) =
    let p = first_live k n in
    cond (eqb p 0) (cond (free k (suc n)) 0 (suc n)) p

-- The highest of them, or 0.
unfoldable pub last_live : List ℕ → ℕ → ℕ
last_live k zero = 0
last_live k (suc n) =
    let p = last_live k n in
    cond (free k (suc n)) p (suc n)

-- The place after p in the chain: the last place is linked to itself, and has none after it.
unfoldable pub next_free : List ℕ → ℕ → ℕ
next_free l p = cond (eqb (at l p) p) 0 (at l p)

-- The first n places that the chain meets from place r on, zeros after its end, and the place that it comes to after
-- them: 0 where it has ended.
unfoldable pub met : List ℕ → ℕ → ℕ → List ℕ
met l r zero = []
met l r (suc n) = r ∷ met l (next_free l r) n

unfoldable pub place_after : List ℕ → ℕ → ℕ → ℕ
place_after l r zero = r
place_after l r (suc n) = place_after l (next_free l r) n

-- The link of a place p that becomes the root: to the old root, or to itself where there was none.
unfoldable pub link_to : ℕ → ℕ → ℕ
link_to root p = cond (eqb root 0) p root

-- A stack without its trailing free places.
pub record Trimmed : Type 0 where
  pub m : ℕ
  pub links : List ℕ
  pub values : List ℕ

abbrev pub trim : ℕ → List ℕ → List ℕ → Trimmed
trim m l v = record { m = m; links = l; values = v }

-- Places n, n - 1 and so on are popped while they are free. A free place's mark is 0 already.
unfoldable pub trimmed : List ℕ → ℕ → List ℕ → List ℕ → Trimmed
trimmed k zero l v = trim 0 l v
trimmed k (suc n) l v =
    let less = trimmed k n (write l (suc n) 0) (write v (suc n) 0) in
    cond (free k (suc n)) less (trim (suc n) l v)

-- A free chain.
pub record Chained : Type 0 where
  pub root : ℕ
  pub links : List ℕ

abbrev pub chain : ℕ → List ℕ → Chained
chain r l = record { root = r; links = l }

-- From place n down each free place becomes the root, so that the chain ascends and its last place is linked to itself.
unfoldable pub chained : List ℕ → ℕ → List ℕ → ℕ → Chained
chained k zero l r = chain r l
chained k (suc n) l r =
    chained k n (cond (free k (suc n)) (write l (suc n) (link_to r (suc n))) l) (cond (free k (suc n)) (suc n) r)
