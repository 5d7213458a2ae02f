-- One message or one row more, at the end of those that are there already: what a loop over the places of a stack adds
-- at each live place. Assumes nothing.
use Prim.Native.Nat.{ℕ, zero, suc, ◌+◌, ◌≤◌, ◌<◌}
use mathlib.Core.Path.{◌≡◌, refl, ap, sym, ◌∙◌}
use mathlib.Core.List.{List, [], ◌∷◌, ◌++◌, map, map-append, append-nil}
use mathlib.Core.Bool.{Bool}
use native.Mathlib.Numerals.{add-one}
use native.Mathlib.Omega.{arith}
use lib.ListN.{length, get_or, set, length-set, replicate, length-append, length-map, length-replicate}
use lib.Seq.{sets, set_comm, get_or-set_same, get_or-set_other}
use Rattle.std.proofs.lemmas.Grind.{replicate_next}
use Rattle.model.specs.Store.{Tables, Store, at, write, placed, filled, popped, zeroed_to, zeroed, ptr}
use Rattle.model.specs.Freelist.{live_places}
use Rattle.model.specs.Calls.{ptr_at, row, rows_of, laid, removed, removed_all, up_to}
use Rattle.model.specs.declared.Row.{Row}
use Rattle.model.proofs.Tests.{tests}

-- A run of words, read at an index below it, in it, and above it.
sets_below : {A : Type 0} (l : List A) (j : ℕ) (xs : List A) (i : ℕ) (d : A) → i < j → get_or (sets l j xs) i d ≡ get_or l i d
sets_below l j [] i d h = refl
sets_below l j (x ∷ xs) i d h = sets_below (set l j x) (suc j) xs i d (omega arith) ∙ get_or-set_other l j i x d (λ e. omega arith)

pub sets_in : {A : Type 0} (l : List A) (j : ℕ) (xs : List A) (i : ℕ) (d : A) → j + i < length l → i < length xs
    → get_or (sets l j xs) (j + i) d ≡ get_or xs i d
sets_in l j [] i d h q = absurd (omega arith)
sets_in l j (x ∷ xs) zero d h q =
    sets_below (set l j x) (suc j) xs (j + 0) d (omega arith)
    ∙ ap (λ (k : ℕ). get_or (set l j x) k d) (omega arith)
    ∙ get_or-set_same l j x d (omega arith)
sets_in l j (x ∷ xs) (suc i) d h q =
    ap (λ (k : ℕ). get_or (sets (set l j x) (suc j) xs) k d) (omega arith)
    ∙ sets_in (set l j x) (suc j) xs i d (omega (arith, length-set l j x)) (omega arith)

pub sets_above : {A : Type 0} (l : List A) (j : ℕ) (xs : List A) (i : ℕ) (d : A) → j + length xs ≤ i
    → get_or (sets l j xs) i d ≡ get_or l i d
sets_above l j [] i d h = refl
sets_above l j (x ∷ xs) i d h = sets_above (set l j x) (suc j) xs i d (omega arith) ∙ get_or-set_other l j i x d (λ e. omega arith)

-- A word more.
pub sets_next : {A : Type 0} (l : List A) (i : ℕ) (xs : List A) (x : A) → sets l i (xs ++ (x ∷ [])) ≡ set (sets l i xs) (i + length xs) x
sets_next l i [] x = ap (λ (j : ℕ). set l j x) (omega arith)
sets_next l i (y ∷ ys) x =
    sets_next (set l i y) (suc i) ys x ∙ ap (λ (j : ℕ). set (sets (set l i y) (suc i) ys) j x) (omega arith)

-- A word above them may as well be written before them.
set_after_sets : {A : Type 0} (l : List A) (i : ℕ) (xs : List A) (j : ℕ) (x : A) → i + length xs ≤ j
    → set (sets l i xs) j x ≡ sets (set l j x) i xs
set_after_sets l i [] j x h = refl
set_after_sets l i (y ∷ ys) j x h =
    set_after_sets (set l i y) (suc i) ys j x (omega arith)
    ∙ ap (λ t. sets t (suc i) ys) (set_comm l i j y x (λ e. omega arith))

-- A word more in a table, and a message more.
laid_word : (l xs : List ℕ) (n x : ℕ) → n ≡ length xs → write (sets l 0 xs) (n + 1) x ≡ sets l 0 (xs ++ (x ∷ []))
unfolding write
laid_word l xs n x e =
    ap (λ (p : ℕ). write (sets l 0 xs) p x) (add-one n)
    ∙ ap (λ (j : ℕ). set (sets l 0 xs) j x) (omega arith)
    ∙ sym (sets_next l 0 xs x)

pub laid_next : (t : Tables) (gs vs : List ℕ) (n g v : ℕ) → n ≡ length gs → length vs ≡ length gs
    → filled (laid t gs vs) (n + 1) g v ≡ laid t (gs ++ (g ∷ [])) (vs ++ (v ∷ []))
unfolding laid placed
laid_next t gs vs n g v e f =
    let zs : List ℕ = replicate (length gs) 0 in
    let zeros : length zs ≡ length gs = length-replicate (length gs) 0 in
    let more : replicate (length (gs ++ (g ∷ []))) 0 ≡ zs ++ (0 ∷ []) =
    ap (λ (j : ℕ). replicate {A = ℕ} j 0) (length-append gs (g ∷ [])) ∙ replicate_next (length gs) 0 in
    let generations = laid_word t.generations gs n g e in
    let links = laid_word t.links zs n 0 (omega arith) in
    let values = laid_word t.values vs n v (omega arith) in
    cc

-- A place above those that are laid is popped, after the places below it were zeroed.
popped_word : (l : List ℕ) (p : ℕ) (xs : List ℕ) → length xs ≤ p → write (sets (zeroed_to p l) 0 xs) (p + 1) 0 ≡ sets (zeroed_to (p + 1) l) 0 xs
unfolding zeroed_to write
popped_word l p xs h =
    ap (λ (q : ℕ). write (sets (zeroed_to p l) 0 xs) q 0) (add-one p)
    ∙ set_after_sets (zeroed_to p l) 0 xs p 0 (omega arith)
    ∙ ap (λ (q : ℕ). sets (zeroed_to q l) 0 xs) (sym (add-one p))

pub popped_laid : (t : Tables) (p : ℕ) (gs vs : List ℕ) → length gs ≤ p → length vs ≤ p
    → popped (laid (zeroed t p) gs vs) (p + 1) ≡ laid (zeroed t (p + 1)) gs vs
unfolding laid placed zeroed
popped_laid t p gs vs g v =
    let a = popped_word t.generations p gs g in
    let b = popped_word t.links p (replicate (length gs) 0) (rw length-replicate g) in
    let c = popped_word t.values p vs v in
    cc

-- The places of the messages up to one place more.
pub live_places_live : (k : List ℕ) (p : ℕ) → (at k (p + 1) ≡ 0 → ⊥) → live_places k (p + 1) ≡ live_places k p ++ ((p + 1) ∷ [])
unfolding live_places
live_places_live k p h =
    let g : at k (suc p) ≡ 0 → ⊥ = λ e. h (ap (at k) (add-one p) ∙ e) in
    let e : live_places k (suc p) ≡ live_places k p ++ (suc p ∷ []) = simp tests in
    ap (live_places k) (add-one p) ∙ e ∙ ap (λ (q : ℕ). live_places k p ++ (q ∷ [])) (sym (add-one p))

pub live_places_free : (k : List ℕ) (p : ℕ) → at k (p + 1) ≡ 0 → live_places k (p + 1) ≡ live_places k p
unfolding live_places
live_places_free k p h =
    let g : at k (suc p) ≡ 0 = ap (at k) (sym (add-one p)) ∙ h in
    ap (live_places k) (add-one p) ∙ simp (tests, append-nil)

-- A message more of a stack with marks k and values v: those up to place p, laid with generation g.
abbrev pub messages_laid : Tables → List ℕ → List ℕ → ℕ → ℕ → Tables
messages_laid t k v g p = laid t (replicate (length (live_places k p)) g) (map (at v) (live_places k p))

pub count_live : (k : List ℕ) (p : ℕ) → (at k (p + 1) ≡ 0 → ⊥) → length (live_places k (p + 1)) ≡ length (live_places k p) + 1
count_live k p h = ap length (live_places_live k p h) ∙ length-append (live_places k p) ((p + 1) ∷ [])

pub messages_live : (t : Tables) (k v : List ℕ) (g p n x : ℕ) → n ≡ length (live_places k p) → (at k (p + 1) ≡ 0 → ⊥) → x ≡ at v (p + 1)
    → filled (messages_laid t k v g p) (n + 1) g x ≡ messages_laid t k v g (p + 1)
messages_live t k v g p n x count live value =
    let ps = live_places k p in
    let long = length-replicate (length ps) g in
    let more = ap (λ (j : ℕ). replicate j g) (count_live k p live) ∙ replicate_next (length ps) g in
    let values = ap (map (at v)) (live_places_live k p live) ∙ map-append (at v) ps ((p + 1) ∷ []) in
    let next = laid_next t (replicate (length ps) g) (map (at v) ps) n g x (count ∙ sym long) (length-map ps (at v) ∙ sym long) in
    cc

pub messages_free : (t : Tables) (k v : List ℕ) (g p : ℕ) → at k (p + 1) ≡ 0 → messages_laid t k v g (p + 1) ≡ messages_laid t k v g p
messages_free t k v g p free = ap (λ (ps : List ℕ). laid t (replicate (length ps) g) (map (at v) ps)) (live_places_free k p free)

-- The numbers up to one more.
pub up_to_next : (p : ℕ) → up_to (p + 1) ≡ up_to p ++ ((p + 1) ∷ [])
unfolding up_to
up_to_next p = ap up_to (add-one p) ∙ ap (λ (q : ℕ). up_to p ++ (q ∷ [])) (sym (add-one p))

-- A removal more.
pub removed_all_next : (s : Store) (ps : List ℕ) (p : ℕ) → removed_all s (ps ++ (p ∷ [])) ≡ (removed (removed_all s ps) p).store
unfolding removed_all
removed_all_next s [] p = refl
removed_all_next s (q ∷ qs) p = removed_all_next (removed s q).store qs p

-- A row more.
pub length_rows_of : (s : Store) (ps : List ℕ) (n g : ℕ) (over : ℕ → Bool) → length (rows_of s ps n g over) ≡ length ps
unfolding rows_of
length_rows_of s [] n g over = refl
length_rows_of s (p ∷ ps) n g over = ap suc (length_rows_of s ps (n + 1) g over)

pub rows_of_next : (s : Store) (ps : List ℕ) (n g : ℕ) (over : ℕ → Bool) (p : ℕ)
    → rows_of s (ps ++ (p ∷ [])) n g over
    ≡ rows_of s ps n g over ++ (row (ptr_at s p) (ptr (n + length ps + 1) g) (over (n + length ps)) ∷ [])
unfolding rows_of
rows_of_next s [] n g over p =
    let cons : Row → List Row = λ (r : Row). r ∷ [] in
    ap (λ (j : ℕ). cons (row (ptr_at s p) (ptr (j + 1) g) (over j))) (omega arith)
rows_of_next s (q ∷ qs) n g over p =
    ap (λ (rs : List Row). row (ptr_at s q) (ptr (n + 1) g) (over n) ∷ rs)
    (rows_of_next s qs (n + 1) g over p
    ∙ ap (λ (j : ℕ). rows_of s qs (n + 1) g over ++ (row (ptr_at s p) (ptr (j + 1) g) (over j) ∷ [])) (omega arith))
