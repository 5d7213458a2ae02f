-- The claim, even without its first field, fails of each of the seven machines that are wrong in less than the empty
-- ones. No list here has a call that is left out, also not in the machine's own run. Assumes nothing.
use Prim.Native.Nat.{ℕ, zero, suc, ◌≤◌}
use mathlib.Core.Path.{◌≡◌, refl, ap}
use mathlib.Core.List.Memᴰ
use mathlib.Core.List.{List, [], ◌∷◌, ◌++◌, map, Memᴰ, Nodup-cons, mem-cons_self}
use mathlib.Core.Bool.{true≢false, Bool, not, ◌&&◌, true}
use mathlib.Core.Option.{some-ne-none}
use native.Mathlib.Omega.{arith}
use lib.ListN.{replicate}
use lib.Dec.{eqb}
use borrow.Author.Tests.{not-true, eqb-false}
use Rattle.std.proofs.lemmas.Bool.{and_parts}
use Rattle.model.specs.Store.{Store, Words, at, ptr}
use Rattle.model.specs.Freelist.{met}
use Rattle.model.specs.Calls.{order, order_refusal, insert_reallocating_refusal, insert_reallocating, put}
use Rattle.model.specs.Perform.{Call}
use Rattle.book.specs.Book.{line, effect, single, single_by, concerns, highest, at_places, laid_afresh, concerns_by}
use Rattle.book.specs.Machine.{Entry, called, Reached, run_of}
use Rattle.book.specs.Claim.{FreePlace, Chain, Orders, ClaimButAnswered, Apart}
use Rattle.book.specs.Near.{unstepping, leaking, forgetting, meddling, losing, unplaying, misplaying}
use Rattle.book.specs.Near.{with_two, single_calls}
use Rattle.book.proofs.Computing.{computed}

pub not_unstepping : ClaimButAnswered unstepping → ⊥
unfolding computed
not_unstepping claim =
    let es = map Entry.call (Call.insert 10 ∷ Call.remove (ptr 1 2) ∷ Call.insert 20 ∷ []) in
    (Nodup-cons.0 (claim 1 (omega arith) es (λ a. refl, (λ a. refl, (λ a. refl, tt)))).given_once).0 mem-cons_self

-- A chain without a root meets no place, so that there is no free one.
rootless : (r : Reached) (p : ℕ) → Chain r → r.store.header.root ≡ 0 → FreePlace r p → ⊥
unfolding met
rootless r p c none f = go c.n c.free (c.all p f)
  where
    go : (n : ℕ) → ((q : ℕ) → Memᴰ q (met r.store.tables.links r.store.header.root n) → FreePlace r q)
        → Memᴰ p (met r.store.tables.links r.store.header.root n) → ⊥
    go zero free x = Memᴰ.not-nil x
    go (suc n) free x = (free r.store.header.root (Memᴰ.head refl)).nonzero none

pub not_leaking : ClaimButAnswered leaking → ⊥
unfolding computed
not_leaking claim =
    let es = map Entry.call (Call.insert 10 ∷ Call.insert 20 ∷ Call.remove (ptr 1 2) ∷ []) in
    rootless (run_of leaking 2 es) 1 (claim 2 (omega arith) es (λ a. refl, (λ a. refl, (λ a. refl, tt)))).chain refl
    (record { nonzero = λ z. omega arith; low = omega arith; free = refl })

pub not_forgetting : ClaimButAnswered forgetting → ⊥
unfolding computed
not_forgetting claim =
    let es = map Entry.call (Call.insert 10 ∷ Call.insert 20 ∷ Call.remove (ptr 1 2) ∷ []) in
    let chain = (claim 2 (omega arith) es (λ a. refl, (λ a. refl, (λ a. refl, tt)))).chain in
    let low : 2 ≤ 0 = chain.stacked (line (ptr 2 2) 20) (Memᴰ.head refl) in
    omega arith

-- Whether a call on two messages is a single-message call, not about the message at place 1, and alters its link.
abbrev meddles : Call → Bool
meddles c =
    let s = with_two.store in
    let o = meddling (Entry.call c) s in
    single_by (effect c) (called o.answer)
    && not (concerns_by (effect c) (called o.answer) (line (ptr 1 2) 10))
    && not (eqb (at o.store.tables.links 1) (at s.tables.links 1))

-- Then the field `apart` fails at it.
pub meddles_fails : (c : Call) → meddles c ≡ true → Apart meddling 2 (Entry.call c) with_two → ⊥
unfolding computed single
meddles_fails c e apart =
    let x = and_parts _ _ e in
    let y = and_parts _ _ x.0 in
    let words = apart y.0 (line (ptr 1 2) 10) (Memᴰ.tail (Memᴰ.head refl)) (not-true _ y.1) in
    eqb-false _ _ (not-true _ x.1) (ap (λ (w : Words). w.link) words)

-- Each of these calls is held to it.
abbrev each_meddles : List Call → Bool
each_meddles [] = true
each_meddles (c ∷ cs) = meddles c && each_meddles cs

all_meddle : each_meddles single_calls ≡ true
unfolding computed single concerns insert_reallocating_refusal insert_reallocating put
all_meddle = refl

meddles_among : (cs : List Call) → each_meddles cs ≡ true → (c : Call) → Memᴰ c cs → meddles c ≡ true
meddles_among [] e c m = absurd (Memᴰ.not-nil m)
meddles_among (d ∷ cs) e c (Memᴰ.head same) = rw same (and_parts _ _ e).0
meddles_among (d ∷ cs) e c (Memᴰ.tail m) = meddles_among cs (and_parts _ _ e).1 c m

pub single_calls_held : (c : Call) → Memᴰ c single_calls → Apart meddling 2 (Entry.call c) with_two → ⊥
single_calls_held c m = meddles_fails c (meddles_among single_calls all_meddle c m)

pub not_meddling : ClaimButAnswered meddling → ⊥
unfolding computed single concerns
not_meddling claim =
    let get = Call.get (ptr 2 2) in
    let es = map Entry.call (Call.insert 10 ∷ Call.insert 20 ∷ get ∷ []) in
    meddles_fails get refl (claim 2 (omega arith) es (λ a. refl, (λ a. refl, (λ a. refl, tt)))).apart.1.1.0

pub not_losing : ClaimButAnswered losing → ⊥
unfolding computed single order order_refusal laid_afresh at_places highest
not_losing claim =
    let es = map Entry.call (Call.insert 10 ∷ []) in
    let afresh = (claim 1 (omega arith) es (λ a. refl, tt)).afresh in
    let same = afresh (Entry.call Call.order) Call.order (refl, refl) Orders.by_order in
    let values : ◌≡◌ {A = ℕ} 0 10 = ap (λ (s : Store). at s.tables.values 1) same in
    omega arith

-- A sequence file for one place with one command of these 16 bytes.
abbrev one_command : List ℕ → List ℕ
one_command c = (84 ∷ 84 ∷ 83 ∷ 1 ∷ 0 ∷ 1 ∷ 0 ∷ 0 ∷ []) ++ c

pub not_unplaying : ClaimButAnswered unplaying → ⊥
unfolding computed
not_unplaying claim =
    let es = Entry.step (one_command (1 ∷ replicate 15 0)) 1 0 ∷ [] in
    true≢false ((claim 1 (omega arith) es (λ a. refl, tt)).full.0 refl)

pub not_misplaying : ClaimButAnswered misplaying → ⊥
unfolding computed
not_misplaying claim =
    let e = Entry.step (one_command (4 ∷ 0 ∷ 1 ∷ 0 ∷ 2 ∷ replicate 11 0)) 1 0 in
    some-ne-none 5 ((claim 1 (omega arith) [] tt).shows e (ptr 1 2) (refl, refl))

-- The seven, and what the field `apart` is held to.
pub ruleset near_machines = (
  not_unstepping,
  not_leaking,
  not_forgetting,
  not_meddling,
  single_calls_held,
  not_losing,
  not_unplaying,
  not_misplaying,
)
