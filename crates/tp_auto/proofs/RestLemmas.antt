-- How far a drain has come that stops where the world is quiet: it takes no more steps than the bound, and the
-- potential falls at each of them.
use Rattle.std.proofs.Common.{◌≡◌, ◌≢◌, ℕ, ◌+◌, ◌<◌, ◌≤◌, List, [], ◌∷◌, length, take, true, false, Some, None, zero, suc, sym, ap, subst, ◌∙◌, arith}
use Rattle.std.specs.Prelude.{Err, IsErrOf}
use Rattle.tp_model.specs.Words.{Scenario, Step}
use Rattle.tp_model.specs.Valid.{is_valid}
use Rattle.tp_machine.specs.declared.error.StepError.{StepError}
use Rattle.tp_machine.specs.declared.error.StepError.TheVariants as error
use Rattle.tp_machine.specs.Machine.{Machine, refusal}
use Rattle.tp_machine.specs.Named.{IsStepOf}
use Rattle.tp_machine.specs.WorldView.{Does, GivesUp, IsReached, Refuses, WorldView}
use Rattle.tp_runs.proofs.mails.World.{steps_counted}
use Rattle.tp_types.specs.Each.{Each}
use Rattle.tp_auto.proofs.AutoLemmas.{SoFar, drains_quiet, gives_up, machine_is, next_here, same_scenario, so_far_more, so_far_none, stops}
use Rattle.tp_auto.proofs.GoingLemmas.{Going, going_first, next_goes}
use Rattle.tp_auto.proofs.NextLemmas.{quiet_anywhere}
use Rattle.tp_auto.proofs.PotentialLemmas.{potential}
use Rattle.tp_auto.proofs.StandsLemmas.{Stands, stands_after}
use Rattle.tp_auto.proofs.StartLemmas.{start_within}
use Rattle.tp_auto.specs.Auto.{Drains, Stops, bound_of, cursor_after, is_quiet, next_of, steps_of, world_after}

-- the world is on its way to rest from the old one, and the cursor stands here: so many steps are done, and no more are
-- left than the potential
pub record Draining (old new : WorldView) (cursor : ℕ) : Type 0 where
  pub count : ℕ
  pub valid : is_valid old.scenario ≡ true
  pub so : SoFar old new count cursor
  pub going : Going old.scenario new.machine cursor
  pub left : count + potential old.scenario new.machine cursor ≤ bound_of old

-- at first
pub draining_first : (old : WorldView) → is_valid old.scenario ≡ true → Each (IsStepOf old.scenario) old.machine.state.steps → IsReached old → old.given_up ≡ false → Draining old old 0
draining_first old valid named reached up =
    let stands : Stands old.scenario old.machine = subst (Stands old.scenario) (sym (reached up)) (stands_after old.scenario old.machine.state.steps valid named) in
    let start = start_within old.scenario old.machine stands.holds in
    record { count = 0; valid = valid; so = so_far_none old up; going = going_first old.scenario old.machine stands; left = omega (arith, start) }

-- ---- a step more

-- what becomes of the machine, and the potential is less
record Moves (old mid new : WorldView) (cursor after : ℕ) : Type 0 where
  going : Going old.scenario new.machine after
  falls : potential old.scenario new.machine after + 1 ≤ potential old.scenario mid.machine cursor

moves : (old mid new : WorldView) (cursor after : ℕ) (taken : Step) → Draining old mid cursor → after ≡ cursor_after taken cursor → Some taken ≡ next_of mid.scenario mid.machine cursor → Does mid new taken → Moves old mid new cursor after
moves old mid new cursor after taken d moved e did =
    let goes = next_goes old.scenario mid.machine cursor taken d.valid d.going (next_here old mid d.count cursor (Some taken) d.so e) in
    let machine = machine_is old mid new d.count cursor taken d.so did in
    subst (Moves old mid new cursor) (sym moved)
    (record {
      going = subst (λ (m : Machine). Going old.scenario m (cursor_after taken cursor)) (sym machine) goes.going;
      falls = subst (λ (m : Machine). potential old.scenario m (cursor_after taken cursor) + 1 ≤ potential old.scenario mid.machine cursor) (sym machine) goes.falls;
    })

-- where a step is next some of the bound is left
some_left : (old mid : WorldView) (cursor : ℕ) (taken : Step) (d : Draining old mid cursor) → Some taken ≡ next_of mid.scenario mid.machine cursor → d.count < bound_of old
some_left old mid cursor taken d e =
    let goes = next_goes old.scenario mid.machine cursor taken d.valid d.going (next_here old mid d.count cursor (Some taken) d.so e) in
    omega (arith, goes.falls, d.left)

pub draining_more : (old mid new : WorldView) (cursor after : ℕ) (taken : Step) → Draining old mid cursor → after ≡ cursor_after taken cursor → Some taken ≡ next_of mid.scenario mid.machine cursor → Does mid new taken → Draining old new after
draining_more old mid new cursor after taken d moved e did =
    let more = some_left old mid cursor taken d e in
    let step = moves old mid new cursor after taken d moved e did in
    record {
      count = d.count + 1;
      valid = d.valid;
      so = so_far_more old mid new d.count cursor after taken moved d.so more e did;
      going = step.going;
      left = omega (arith, d.left, step.falls);
    }

-- the measure is less
pub draining_falls : (old mid new : WorldView) (cursor after : ℕ) (taken : Step) → Draining old mid cursor → after ≡ cursor_after taken cursor → Some taken ≡ next_of mid.scenario mid.machine cursor → Does mid new taken
    → potential new.scenario new.machine after < potential mid.scenario mid.machine cursor
draining_falls old mid new cursor after taken d moved e did =
    let scenario = same_scenario old mid d.count cursor d.so in
    let step = moves old mid new cursor after taken d moved e did in
    let now : potential new.scenario new.machine after ≡ potential old.scenario new.machine after = ap (λ (sc : Scenario). potential sc new.machine after) (ap (λ (w : WorldView). w.scenario) did.now ∙ scenario) in
    let before : potential mid.scenario mid.machine cursor ≡ potential old.scenario mid.machine cursor = ap (λ (sc : Scenario). potential sc mid.machine cursor) scenario in
    omega (arith, now, before, step.falls)

-- ---- the end

-- where no step is next it was all of the drain, and the world is quiet
pub draining_ends : (old new : WorldView) (cursor : ℕ) → Draining old new cursor → None ≡ next_of new.scenario new.machine cursor → Drains old new
draining_ends old new cursor d e = drains_quiet old new d.count cursor d.so e

pub draining_quiet : (new : WorldView) (cursor : ℕ) → None ≡ next_of new.scenario new.machine cursor → is_quiet new.scenario new.machine ≡ true
draining_quiet new cursor e = quiet_anywhere new.scenario new.machine cursor None e

-- where memory is refused in the next step it stops there
pub draining_stops : (old mid new : WorldView) (cursor : ℕ) (taken : Step) (why : StepError) → Draining old mid cursor → Some taken ≡ next_of mid.scenario mid.machine cursor → refusal mid.machine.state taken ≡ None
    → (why ≢ error.NoMemory → Refuses mid new taken why) → (IsErrOf {T = Unit {0}} (Err why) error.NoMemory → GivesUp mid new taken) → Stops old new
draining_stops old mid new cursor taken why d e ok refused memory =
    stops old mid new d.count cursor taken d.so (some_left old mid cursor taken d e) e ok (gives_up mid new taken why ok refused memory)

-- ---- how many steps it has added

taken_few : {A : Type 0} (n : ℕ) (xs : List A) → length (take n xs) ≤ n
taken_few zero xs = omega arith
taken_few (suc n) [] = omega arith
taken_few (suc n) (x ∷ xs) = omega (arith, taken_few n xs)

-- no more than the bound, wherever it is
pub draining_few : (old new : WorldView) (cursor : ℕ) → Draining old new cursor → length new.machine.state.steps ≤ length old.machine.state.steps + bound_of old
draining_few old new cursor d =
    let added = steps_counted old.scenario old.machine (take d.count (steps_of old)) in
    let all : length (world_after old (take d.count (steps_of old))).machine.state.steps ≤ length old.machine.state.steps + bound_of old = omega (arith, added, taken_few d.count (steps_of old), d.left) in
    subst (λ (w : WorldView). length w.machine.state.steps ≤ length old.machine.state.steps + bound_of old) (sym d.so.now) all

-- and where memory was refused
pub stopped_few : (old mid new : WorldView) (cursor : ℕ) (taken : Step) (why : StepError) → Draining old mid cursor → refusal mid.machine.state taken ≡ None
    → (why ≢ error.NoMemory → Refuses mid new taken why) → (IsErrOf {T = Unit {0}} (Err why) error.NoMemory → GivesUp mid new taken) → length new.machine.state.steps ≤ length old.machine.state.steps + bound_of old
stopped_few old mid new cursor taken why d ok refused memory =
    let gave = gives_up mid new taken why ok refused memory in
    subst (λ (steps : List Step). length steps ≤ length old.machine.state.steps + bound_of old) (sym gave.steps) (draining_few old mid cursor d)
