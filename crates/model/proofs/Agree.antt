-- Tables that agree up to a place tell the same of the places up to there, and go on to agree where the same is
-- written into both. Assumes nothing.
use Prim.Native.Nat.{ℕ, zero, suc, ◌+◌, ◌≤◌, ◌<◌, max}
use mathlib.Core.Path.{◌≡◌, refl, ◌∙◌, sym}
use mathlib.Core.List.Memᴰ
use mathlib.Core.List.{List, [], ◌∷◌, map, Memᴰ}
use mathlib.Core.Logic.{inl, inr}
use mathlib.Core.Bool.{cond}
use native.Mathlib.Omega.{arith}
use native.Mathlib.Decide.{ℕ_discrete, dec_le, dec_lt}
use lib.ListN.{length, replicate, length-replicate}
use lib.Seq.{sets}
use lib.Dec.{eqb}
use Rattle.std.proofs.lemmas.Bool.{cond_both}
use Rattle.model.specs.Store.{Tables, tables, at, write, placed, zeroed_to, zeroed}
use Rattle.model.specs.Freelist.{Trimmed, Chained, trimmed, chained, free, live, live_places, live_count, first_live, last_live}
use Rattle.model.specs.Audit.{walked}
use Rattle.model.specs.Calls.{laid, up_to, sought, moved}
use Rattle.model.specs.declared.Cursor.{Cursor}
use Rattle.model.proofs.Tests.{chosen_alike, tests}
use Rattle.model.proofs.Places.{at_zero, at_outside, at_write_same, at_write_other, length_write}

-- Two tables of one length, with the same words up to place n.
pub record Agree (n : ℕ) (k l : List ℕ) : Type 0 where
  pub long : length k ≡ length l
  pub words : (p : ℕ) → p ≤ n → at k p ≡ at l p

pub agree_itself : (n : ℕ) (k : List ℕ) → Agree n k k
agree_itself n k = record { long = refl; words = λ p h. refl }

pub agree_less : {n r : ℕ} {k l : List ℕ} → Agree n k l → r ≤ n → Agree r k l
agree_less a h = record { long = a.long; words = λ p q. a.words p (omega arith) }

-- After the same is written at a place of both, it has the same word, also where the tables have no such place.
pub written_same : (k l : List ℕ) (p x : ℕ) → length k ≡ length l → at (write k p x) p ≡ at (write l p x) p
written_same k l p x e =
    elim (ℕ_discrete p 0) [
      | yes z ↦ at_zero _ p z ∙ sym (at_zero _ p z)
      | no z ↦
          elim (dec_le p (length k)) [
            | yes h ↦ at_write_same k p x z h ∙ sym (at_write_same l p x z (omega arith))
            | no h ↦
                at_outside _ p (omega (arith, length_write k p x)) ∙ sym (at_outside _ p (omega (arith, length_write l p x)))
          ]
    ]

-- Tables agree up to r after the same is written at a place of both, if they agreed at every other place up to r.
agree_written : {n r : ℕ} {k l : List ℕ} (p x : ℕ) → Agree n k l → ((q : ℕ) → q ≤ r → (q ≡ p → ⊥) → q ≤ n)
    → Agree r (write k p x) (write l p x)
agree_written {k} {l} p x a h =
    record {
      long = length_write k p x ∙ a.long ∙ sym (length_write l p x);
      words = λ q low.
          elim (ℕ_discrete q p) [
            | yes e ↦ rw e (written_same k l p x a.long)
            | no d ↦ at_write_other k p q x d ∙ a.words q (h q low d) ∙ sym (at_write_other l p q x d)
          ];
    }

agree_write : {n : ℕ} {k l : List ℕ} (p x : ℕ) → Agree n k l → Agree n (write k p x) (write l p x)
agree_write p x a = agree_written p x a (λ q low d. low)

agree_sets : (xs : List ℕ) {n r : ℕ} {k l : List ℕ} (i : ℕ) → Agree n k l → i ≤ n → r ≤ max n (i + length xs)
    → Agree r (sets k i xs) (sets l i xs)
unfolding write
agree_sets [] i a h b = agree_less a (omega arith)
agree_sets (x ∷ xs) {n} i a h b =
    agree_sets xs {n = max n (suc i)} (suc i) (agree_written (suc i) x a (λ q low d. omega arith)) (omega arith) (omega arith)

agree_zeroed_to : {n : ℕ} {k l : List ℕ} (i : ℕ) → Agree n k l → Agree n (zeroed_to i k) (zeroed_to i l)
unfolding zeroed_to
agree_zeroed_to zero a = a
agree_zeroed_to (suc i) a = agree_write (suc i) 0 (agree_zeroed_to i a)

-- The live places of a stack are told from the marks of its places.
pub live_places_agree : (n : ℕ) {k l : List ℕ} → Agree n k l → live_places k n ≡ live_places l n
unfolding live_places
live_places_agree zero a = refl
live_places_agree (suc n) a = cc (a.words (suc n) (omega arith), live_places_agree n (agree_less a (omega arith)))

pub live_count_agree : (n : ℕ) {k l : List ℕ} → Agree n k l → live_count k n ≡ live_count l n
unfolding live_count
live_count_agree zero a = refl
live_count_agree (suc n) a = cc (a.words (suc n) (omega arith), live_count_agree n (agree_less a (omega arith)))

pub first_live_agree : (n : ℕ) {k l : List ℕ} → Agree n k l → first_live k n ≡ first_live l n
unfolding first_live
first_live_agree zero a = refl
first_live_agree (suc n) a = cc (a.words (suc n) (omega arith), first_live_agree n (agree_less a (omega arith)))

pub last_live_agree : (n : ℕ) {k l : List ℕ} → Agree n k l → last_live k n ≡ last_live l n
unfolding last_live
last_live_agree zero a = refl
last_live_agree (suc n) a = cc (a.words (suc n) (omega arith), last_live_agree n (agree_less a (omega arith)))

-- A place above the stack is not live, whatever its mark.
pub live_agree : {m : ℕ} {k l : List ℕ} → Agree m k l → (p : ℕ) → live k m p ≡ live l m p
live_agree {m} a p =
    elim (dec_le p m) [
      | yes h ↦ rw (a.words p h)
      | no h ↦ let above : m < p = omega arith in simp tests
    ]

-- A walk looks at no place above the stack, wherever a link leads.
pub walked_agree : (j : ℕ) {m : ℕ} {k k' l l' : List ℕ} → Agree m k k' → Agree m l l' → (p n : ℕ)
    → walked j k l m p n ≡ walked j k' l' m p n
unfolding walked
walked_agree zero a b p n = refl
walked_agree (suc j) {m} {l} a b p n =
    elim (dec_lt m p) [
      | yes h ↦ simp tests
      | no h ↦ cc (a.words p (omega arith), b.words p (omega arith), walked_agree j a b (at l p) (n + 1))
    ]

-- Nor does an advance, wherever its cursor stands.
pub sought_agree : (j : ℕ) {m : ℕ} {k l : List ℕ} → Agree m k l → (c : Cursor) → sought j k m c ≡ sought j l m c
unfolding sought
sought_agree zero a c = refl
sought_agree (suc j) {m} a c =
    elim (dec_lt m c.index) [
      | yes h ↦ simp tests
      | no h ↦ cc (a.words c.index (omega arith), sought_agree j a (moved c))
    ]

-- Of marks that agree, trimmed stacks are equally long, and their tables agree as before.
pub record TrimmedAlike (n : ℕ) (t u : Trimmed) : Type 0 where
  pub m : t.m ≡ u.m
  pub links : Agree n t.links u.links
  pub values : Agree n t.values u.values

pub trimmed_agree : (i : ℕ) {n : ℕ} {k k' l l' v v' : List ℕ} → i ≤ n → Agree n k k' → Agree n l l' → Agree n v v'
    → TrimmedAlike n (trimmed k i l v) (trimmed k' i l' v')
unfolding trimmed
trimmed_agree zero h a b c = record { m = refl; links = b; values = c }
trimmed_agree (suc i) {n} {k} {k'} h a b c =
    chosen_alike (TrimmedAlike n) (free k (suc i)) (free k' (suc i)) (rw (a.words (suc i) h))
    (λ e. trimmed_agree i (omega arith) a (agree_write (suc i) 0 b) (agree_write (suc i) 0 c))
    (λ e. record { m = refl; links = b; values = c })

-- And chains have one root, and links that agree as before.
pub record ChainedAlike (n : ℕ) (c d : Chained) : Type 0 where
  pub root : c.root ≡ d.root
  pub links : Agree n c.links d.links

pub chained_agree : (i : ℕ) {n : ℕ} {k k' l l' : List ℕ} (r : ℕ) → i ≤ n → Agree n k k' → Agree n l l'
    → ChainedAlike n (chained k i l r) (chained k' i l' r)
unfolding chained
chained_agree zero r h a b = record { root = refl; links = b }
chained_agree (suc i) {n} {k} r h a b =
    rw (← a.words (suc i) h)
    (chained_agree i _ (omega arith) a
    (chosen_alike (Agree n) (free k (suc i)) (free k (suc i)) refl (λ e. agree_write (suc i) _ b) (λ e. b)))

-- The same of a store's three tables.
pub record TablesAgree (n : ℕ) (t w : Tables) : Type 0 where
  pub generations : Agree n t.generations w.generations
  pub links : Agree n t.links w.links
  pub values : Agree n t.values w.values

-- The same is written into both.
pub agree_placed : {n r : ℕ} {t w : Tables} (p g l v : ℕ) → TablesAgree n t w → ((q : ℕ) → q ≤ r → (q ≡ p → ⊥) → q ≤ n)
    → TablesAgree r (placed t p g l v) (placed w p g l v)
unfolding placed
agree_placed p g l v a h =
    record {
      generations = agree_written p g a.generations h;
      links = agree_written p l a.links h;
      values = agree_written p v a.values h;
    }

pub agree_generation : {n : ℕ} {t w : Tables} (p g : ℕ) → TablesAgree n t w
    → TablesAgree n (tables (write t.generations p g) t.links t.values)
    (tables (write w.generations p g) w.links w.values)
agree_generation p g a =
    record { generations = agree_write p g a.generations; links = a.links; values = a.values }

pub agree_value : {n : ℕ} {t w : Tables} (p v : ℕ) → TablesAgree n t w
    → TablesAgree n (tables t.generations t.links (write t.values p v))
    (tables w.generations w.links (write w.values p v))
agree_value p v a = record { generations = a.generations; links = a.links; values = agree_write p v a.values }

pub agree_zeroed : {n : ℕ} {t w : Tables} (i : ℕ) → TablesAgree n t w → TablesAgree n (zeroed t i) (zeroed w i)
unfolding zeroed
agree_zeroed i a =
    record {
      generations = agree_zeroed_to i a.generations;
      links = agree_zeroed_to i a.links;
      values = agree_zeroed_to i a.values;
    }

pub agree_laid : {n r : ℕ} {t w : Tables} (gs vs : List ℕ) → TablesAgree n t w → r ≤ max n (length gs) → r ≤ max n (length vs)
    → TablesAgree r (laid t gs vs) (laid w gs vs)
unfolding laid
agree_laid gs vs a h k =
    record {
      generations = agree_sets gs 0 a.generations (omega arith) (omega arith);
      links = agree_sets (replicate (length gs) 0) 0 a.links (omega arith) (rw length-replicate (omega arith));
      values = agree_sets vs 0 a.values (omega arith) (omega arith);
    }

-- The places found, or counted up, are no higher than the stack.
pub first_live_low : (k : List ℕ) (n : ℕ) → first_live k n ≤ n
unfolding first_live
first_live_low k zero = omega arith
first_live_low k (suc n) =
    cond_both (eqb (first_live k n) 0) _ _ (λ (p : ℕ). p ≤ suc n)
    (λ e. cond_both (free k (suc n)) _ _ (λ (p : ℕ). p ≤ suc n) (λ f. omega arith) (λ f. omega arith))
    (λ e. omega (arith, first_live_low k n))

pub last_live_low : (k : List ℕ) (n : ℕ) → last_live k n ≤ n
unfolding last_live
last_live_low k zero = omega arith
last_live_low k (suc n) =
    cond_both (free k (suc n)) _ _ (λ (p : ℕ). p ≤ suc n) (λ e. omega (arith, last_live_low k n)) (λ e. omega arith)

up_to_low : (n q : ℕ) → Memᴰ q (up_to n) → q ≤ n
unfolding up_to
up_to_low zero q x = absurd (Memᴰ.not-nil x)
up_to_low (suc n) q x =
    elim (Memᴰ.append_cases (up_to n) x) [
      | inl y ↦ omega (arith, up_to_low n q y)
      | inr y ↦ omega (arith, Memᴰ.eq_of_singleton y)
    ]

-- A list made of places one by one is the same if it is so at each of them.
pub map_same : (f g : ℕ → ℕ) (ps : List ℕ) → ((p : ℕ) → Memᴰ p ps → f p ≡ g p) → map f ps ≡ map g ps
map_same f g [] h = refl
map_same f g (p ∷ ps) h = cc (h p (Memᴰ.head refl), map_same f g ps (λ q x. h q (Memᴰ.tail x)))

-- The generations and values of a copy of places 1 to n.
pub copied_generations : (n : ℕ) {k l : List ℕ} → Agree n k l → map (at k) (up_to n) ≡ map (at l) (up_to n)
copied_generations n a = map_same _ _ (up_to n) (λ p x. a.words p (up_to_low n p x))

pub copied_values : (n : ℕ) {k l v w : List ℕ} → Agree n k l → Agree n v w
    → map (λ p. cond (free k p) 0 (at v p)) (up_to n) ≡ map (λ p. cond (free l p) 0 (at w p)) (up_to n)
copied_values n a b = map_same _ _ (up_to n) (λ p x. cc (a.words p (up_to_low n p x), b.words p (up_to_low n p x)))
