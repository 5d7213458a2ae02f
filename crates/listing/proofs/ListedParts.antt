-- A line that is written into a part of the buffer stands there in the whole buffer. Assumes nothing.
use Prim.Native.Nat.{ℕ, suc, ◌+◌, ◌-◌, ◌≤◌, min}
use mathlib.Core.Path.{◌≡◌, refl, ap, sym, ◌∙◌}
use mathlib.Core.List.{List, [], ◌∷◌, ◌++◌, append-nil}
use native.Mathlib.Omega.{arith}
use native.Mathlib.Decide.{dec_le}
use lib.ListN.{length, set, take, drop, length-drop, length-set, take-append-drop, drop_of_length-le}
use lib.Seq.{sets, take_all, take-set-le, drop-set-add, set_out}
use borrow.Rule.Slice.PartMut.{mid_of, put_mid}

-- What is written past the end changes nothing.
sets_out : (l : List ℕ) (i : ℕ) (xs : List ℕ) → length l ≤ i → sets l i xs ≡ l
sets_out l i [] h = refl
sets_out l i (x ∷ xs) h = sets_out (set l i x) (suc i) xs (omega (arith, length-set l i x)) ∙ set_out l i x h

-- What is written after the first i entries.
sets_after : (l : List ℕ) (i j : ℕ) (xs : List ℕ) → take i l ++ sets (drop i l) j xs ≡ sets l (i + j) xs
sets_after l i j [] = take-append-drop i l
sets_after l i j (x ∷ xs) =
    let t = set l (i + j) x in
    let front : take i t ≡ take i l = take-set-le i l (i + j) x (omega arith) in
    let rest : drop i t ≡ set (drop i l) j x = drop-set-add i l j x in
    ap (λ (f : List ℕ). f ++ sets (set (drop i l) j x) (suc j) xs) (sym front)
    ∙ ap (λ (d : List ℕ). take i t ++ sets d (suc j) xs) (sym rest)
    ∙ sets_after t i (suc j) xs
    ∙ ap (λ (k : ℕ). sets t k xs) (omega arith)

-- An offset past the end writes nothing, as the end does.
sets_clipped : (l : List ℕ) (i n : ℕ) (xs : List ℕ) → n ≡ min i (length l) → sets l n xs ≡ sets l i xs
sets_clipped l i n xs e =
    elim (dec_le i (length l)) [
      | yes low ↦ ap (λ (k : ℕ). sets l k xs) (omega arith)
      | no high ↦ sets_out l n xs (omega arith) ∙ sym (sets_out l i xs (omega arith))
    ]

pub part_written : (l : List ℕ) (i n : ℕ) (xs after : List ℕ) → n ≡ min i (length l) → after ≡ sets (mid_of n (length l - n) l) 0 xs
    → put_mid n (length l - n) l after ≡ sets l i xs
part_written l i n xs after e w =
    let rest = drop n l in
    let long : length rest ≡ length l - n = length-drop n l in
    let all : take (length l - n) rest ≡ rest = take_all (length l - n) rest (omega arith) in
    let none : drop (length l - n) rest ≡ [] = drop_of_length-le rest {i = length l - n} (omega arith) in
    rw (w, all, none) (ap (λ (t : List ℕ). take n l ++ t) (append-nil (sets rest 0 xs)) ∙ sets_after l n 0 xs ∙ ap (λ (k : ℕ). sets l k xs) (omega arith) ∙ sets_clipped l i n xs e)
