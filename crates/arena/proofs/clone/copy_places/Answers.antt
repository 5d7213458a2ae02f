use native.Mathlib.Nat.{add-sub_cancel}
use native.Mathlib.Omega.{arith}
use Rattle.model.specs.Store.{tables}
use Rattle.arena.proofs.Copying.{Copying, copying_starts, copying_goes_on, copying_ends}
use Rattle.arena.proofs.clone.copy_places.Goals as goal
use Rattle.arena.proofs.clone.copy_places.Goals.{After-fill_place}

-- Place p too is copied.
turn : (c : After-fill_place)
    → Copying c.args.sgens.now c.args.svalues.now c.args.top (tables c.args.dgens.now c.args.dlinks.now c.args.dvalues.now)
    (tables c.fill_place.new.generations c.fill_place.new.links c.fill_place.new.values) c.loop-p.p
turn c =
    copying_goes_on (omega arith) c.loop-p-test.true c.entry-generation.ensures c.entry.ensures c.copied_value.ensures c.fill_place.ensures
    c.loop-p.invariant

pub loop-p-init : goal.loop-p-init
loop-p-init c = copying_starts _ _ _ _

pub loop-p-preserved : goal.loop-p-preserved
loop-p-preserved c = rw add-sub_cancel (turn (goal.at.loop-p-preserved c).After-fill_place)

pub returns-2 : goal.returns-2
returns-2 c = copying_ends (omega arith) (turn (goal.at.returns-2 c).After-fill_place)
