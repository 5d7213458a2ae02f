-- A test's value from the fact that decides it, for `simp` and `search`; and what the value of tests put together says
-- of each. Assumes nothing.
use Prim.Native.Nat.{ℕ, suc}
use mathlib.Core.Path.{◌≡◌, refl}
use mathlib.Core.Bool.{Bool, true, false, cond}
use native.Mathlib.Omega.{arith}
use lib.Dec.{eqb}
use borrow.Author.Tests.{lt-ltb, le-ltb, le-leb, lt-leb, eq-eqb, ne_eqb}
use Rattle.std.proofs.lemmas.Bool.{cond_both}

pub eqb_same : (n : ℕ) → eqb n n ≡ true
eqb_same n = eq-eqb n n refl

pub ruleset tests = (lt-ltb, le-ltb, le-leb, lt-leb, eq-eqb, ne_eqb, eqb_same)

-- Tests in checking order that give 0: the first fails, and those after it give 0.
pub fails : (b : Bool) (n x : ℕ) → cond b (suc n) x ≡ 0 → b ≡ false
fails true n x e = absurd (omega arith)
fails false n x e = refl

pub after : (b : Bool) (n x : ℕ) → cond b (suc n) x ≡ 0 → x ≡ 0
after true n x e = absurd (omega arith)
after false n x e = e

-- What comes after a test counts only where it fails.
pub otherwise : (b : Bool) (n x y : ℕ) → (b ≡ false → x ≡ y) → cond b n x ≡ cond b n y
otherwise true n x y f = refl
otherwise false n x y f = f refl

-- What a test chooses has a property if each of the two has it where it is the one chosen: std's `cond_both`, with the
-- property first.
pub chosen : {A : Type 0} (P : A → Type 0) (b : Bool) {x y : A} → (b ≡ true → P x) → (b ≡ false → P y) → P (cond b x y)
chosen P b f g = cond_both b _ _ P f g

-- What one test chooses of two pairs is related if each pair is, where it is the one chosen.
pub chosen_alike : {A B : Type 0} (P : A → B → Type 0) (b c : Bool) {x y : A} {v w : B} → b ≡ c → (b ≡ true → P x v)
    → (b ≡ false → P y w) → P (cond b x y) (cond c v w)
chosen_alike P true c e f g = rw (← e) (f refl)
chosen_alike P false c e f g = rw (← e) (g refl)
