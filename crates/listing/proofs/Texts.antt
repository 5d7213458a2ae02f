-- What is written part after part: the bytes of a text, the parts of a line. Assumes nothing.
use Prim.Native.Nat.{ℕ, zero, suc, ◌+◌, ◌≤◌, ◌<◌}
use mathlib.Core.Path.{◌≡◌, refl, ap, sym, ◌∙◌}
use mathlib.Core.List.{List, [], ◌∷◌, ◌++◌}
use mathlib.Core.Bool.{true, ◌||◌}
use native.Mathlib.Numerals.{add-one}
use native.Mathlib.Omega.{arith}
use lib.ListN.{length, set, take, get_or, length-append, get_or-eq_default}
use lib.Seq.{sets, take-suc}
use lib.Dec.{eqb, ltb}
use borrow.Author.Tests.{ltb-true, ne_eqb}
use Rattle.listing.specs.Written.{Written}
use Rattle.model.specs.Listing.{words, word}

-- Two pieces, one after the other.
pub sets_append : {A : Type 0} (l : List A) (i : ℕ) (xs ys : List A) → sets l i (xs ++ ys) ≡ sets (sets l i xs) (i + length xs) ys
sets_append l i [] ys = ap (λ (j : ℕ). sets l j ys) (omega arith)
sets_append l i (x ∷ xs) ys = sets_append (set l i x) (suc i) xs ys ∙ ap (λ (j : ℕ). sets (sets (set l i x) (suc i) xs) j ys) (omega arith)

-- One part after another, a byte before a part, and the whole line.
pub written_then : {l l' l'' : List ℕ} {i r s : ℕ} {xs ys : List ℕ} → Written l l' i xs r → Written l' l'' r ys s → Written l l'' i (xs ++ ys) s
written_then {l} {l'} {l''} {i} {r} {s} {xs} {ys} v w =
    record {
      bytes = w.bytes ∙ ap (λ (t : List ℕ). sets t r ys) v.bytes ∙ ap (λ (j : ℕ). sets (sets l i xs) j ys) v.end ∙ sym (sets_append l i xs ys);
      end = omega (arith, v.end, w.end, length-append xs ys);
    }

pub byte_then : {l l' l'' : List ℕ} {i s x : ℕ} {ys : List ℕ} → l' ≡ set l i x → Written l' l'' (i + 1) ys s → Written l l'' i (x ∷ ys) s
byte_then {x} e w = written_then {xs = x ∷ []} (record { bytes = e; end = refl }) w

pub line_written : {l l' : List ℕ} {xs : List ℕ} {r : ℕ} → Written l l' 0 xs r → (l' ≡ sets l 0 xs) × (r ≡ length xs)
line_written w = (w.bytes, omega (arith, w.end))

-- A byte more of a text.
pub written_next : {l l' l'' : List ℕ} {i n : ℕ} (xs : List ℕ) → n < length xs → Written l l' i (take n xs) (i + n) → l'' ≡ set l' (i + n) (get_or xs n 0)
    → Written l l'' i (take (n + 1) xs) (i + (n + 1))
written_next {i = i} {n = n} xs h w e =
    let one : i + (n + 1) ≡ i + n + 1 = omega arith in
    rw (one, add-one n, take-suc xs n 0 h) (written_then w (record { bytes = e; end = refl }))

-- A number that is no command's has no word.
pub word_none : (n : ℕ) → (eqb n 0 || ltb 10 n) ≡ true → word n ≡ []
unfolding word
word_none zero h = refl
word_none (suc n) h =
    let high = rw (ne_eqb (suc n) 0 (λ z. omega arith)) at h in
    let past : length words ≤ n = omega (arith, ltb-true 10 (suc n) high) in
    get_or-eq_default words [] past
