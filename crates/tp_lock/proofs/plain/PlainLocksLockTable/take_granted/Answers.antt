use Rattle.std.proofs.Common.{◌≡◌, ◌≤◌, ◌<◌, ◌+◌, ◌∙◌, ◌∷◌, ap, arith, drop, get_or, length, sym, List, ℕ}
use Rattle.std.proofs.lemmas.List.{drop_more}
use Rattle.tp_lock.specs.Rule.{first_grant, without_grant}
use Rattle.tp_lock.specs.mirrors.Slots.{shown}
use Rattle.tp_lock.proofs.KeptLemmas.{all_taken, passed_here, taken_here}
use Rattle.tp_lock.proofs.plain.PlainLocksLockTable.take_granted.Goals as goal

-- the items from this place on begin with the one that is read
begins : (touched read : List ℕ) (at : ℕ) → read ≡ touched → at < length touched → drop at touched ≡ get_or read at 0 ∷ drop (at + 1) touched
begins touched read at same lt = drop_more touched at 0 lt ∙ ap (λ items. get_or items at 0 ∷ drop (at + 1) touched) (sym same)

pub invariant_of-self : goal.invariant_of-self
invariant_of-self c =
    let inside = c.loop-at.self-inside in
    let at = c.loop-at.at in
    let lt : at < length inside.touched = omega (arith, ap length c.loop-at.invariant.1) in
    let rest = begins inside.touched c.as_slice.result.now at c.as_slice.ensures lt in
    let met = taken_here inside.lists.items inside.owned.items inside.touched at (get_or c.as_slice.result.now at 0) c.in-Some.owner c.loop-at.invariant.2 rest (sym c.in-Some.ensures.owner) in
    rw c.tell_one.ensures.told met.kept

pub returns-in-Some-clause-granted : goal.returns-in-Some-clause-granted
returns-in-Some-clause-granted c =
    let inside = c.loop-at.self-inside in
    let at = c.loop-at.at in
    let lt : at < length inside.touched = omega (arith, ap length c.loop-at.invariant.1) in
    let rest = begins inside.touched c.as_slice.result.now at c.as_slice.ensures lt in
    let met = taken_here inside.lists.items inside.owned.items inside.touched at (get_or c.as_slice.result.now at 0) c.in-Some.owner c.loop-at.invariant.2 rest (sym c.in-Some.ensures.owner) in
    met.first ∙ ap first_grant (ap shown c.loop-at.invariant.0 ∙ c.self.view_is)

pub returns-in-Some-clause-left : goal.returns-in-Some-clause-left
returns-in-Some-clause-left c =
    let inside = c.loop-at.self-inside in
    let at = c.loop-at.at in
    let lt : at < length inside.touched = omega (arith, ap length c.loop-at.invariant.1) in
    let rest = begins inside.touched c.as_slice.result.now at c.as_slice.ensures lt in
    let met = taken_here inside.lists.items inside.owned.items inside.touched at (get_or c.as_slice.result.now at 0) c.in-Some.owner c.loop-at.invariant.2 rest (sym c.in-Some.ensures.owner) in
    ap shown c.tell_one.ensures.told ∙ met.left ∙ ap without_grant (ap shown c.loop-at.invariant.0 ∙ c.self.view_is)

pub loop-at-preserved : goal.loop-at-preserved
loop-at-preserved c =
    let inside = c.loop-at.self-inside in
    let at = c.loop-at.at in
    let lt : at < length inside.touched = omega (arith, ap length c.loop-at.invariant.1) in
    let rest = begins inside.touched c.as_slice.result.now at c.as_slice.ensures lt in
    let met = passed_here inside.lists.items inside.owned.items inside.touched at (get_or c.as_slice.result.now at 0) c.loop-at.invariant.2 rest (sym c.in_default.ensures.owner) in
    let same : c.tell_one.new.lists.items ≡ inside.lists.items = c.tell_one.ensures.told ∙ met.0 in
    (same ∙ c.loop-at.invariant.0, c.loop-at.invariant.1, rw same met.1)

pub returns-clause-granted : goal.returns-clause-granted
returns-clause-granted c =
    let inside = c.loop-at.self-inside in
    let over : length inside.touched ≤ c.loop-at.at = omega (arith, ap length c.loop-at.invariant.1) in
    let met = all_taken inside.lists.items inside.owned.items inside.touched c.loop-at.at c.loop-at.invariant.2 over in
    met.0 ∙ ap first_grant (ap shown c.loop-at.invariant.0 ∙ c.self.view_is)

pub returns-clause-left : goal.returns-clause-left
returns-clause-left c =
    let inside = c.loop-at.self-inside in
    let over : length inside.touched ≤ c.loop-at.at = omega (arith, ap length c.loop-at.invariant.1) in
    let met = all_taken inside.lists.items inside.owned.items inside.touched c.loop-at.at c.loop-at.invariant.2 over in
    met.1 ∙ ap without_grant (ap shown c.loop-at.invariant.0 ∙ c.self.view_is)
