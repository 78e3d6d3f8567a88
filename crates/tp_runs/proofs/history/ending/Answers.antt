use Rattle.std.proofs.Common.{◌∙◌, ◌≡◌, Bool, Err, IfOk, Ok, OnOk, Result, ap, false, refl, true}
use Rattle.std.specs.Prelude.{IsErr}
use Rattle.tp_model.specs.Words.{Ending}
use Rattle.tp_machine.specs.Machine.{Machine}
use Rattle.tp_runs.proofs.runs.Runs.{ends_after, so_far_after, whole_after}
use Rattle.tp_runs.proofs.history.ending.Goals as goal

-- what came of a world that answers Err when it is given up came of one that is not
came_of_one_up : {A E : Type 0} (P Q : A → Type 0) (given_up : Bool) (result : Result A E) → (given_up ≡ true → IsErr result) → (given_up ≡ false → (x : A) → P x → Q x) → IfOk result P → IfOk result Q
came_of_one_up P Q true (Ok x) fails step p = absurd (let wrong = fails refl in cc)
came_of_one_up P Q false (Ok x) fails step p = step refl x p
came_of_one_up P Q given_up (Err e) fails step p = tt

-- and what holds of a world that is not given up is told with what came
told_of_one_up : {A E : Type 0} (P : Type 0) (given_up : Bool) (result : Result A E) → (given_up ≡ true → IsErr result) → (given_up ≡ false → P) → OnOk result P
told_of_one_up P true (Ok x) fails told = absurd (let wrong = fails refl in cc)
told_of_one_up P false (Ok x) fails told = told refl
told_of_one_up P given_up (Err e) fails told = tt

pub returns-clause-overlaid : goal.returns-clause-overlaid
returns-clause-overlaid c =
    let world = c.args.world.now in
    came_of_one_up _ _ world.given_up c.ending.result c.ending.ensures.given_up
    (λ up ending is. ap (λ (it : Ending). it.values) is
    ∙ (so_far_after world.scenario world.machine.state.steps world.machine.state c.facts-facts.ensures.valid c.facts-facts.ensures.named (ap (λ (m : Machine). m.state) (c.facts-facts.ensures.reached up))).values_are)
    c.ending.ensures.value

pub returns-clause-ended : goal.returns-clause-ended
returns-clause-ended c =
    let world = c.args.world.now in
    told_of_one_up _ world.given_up c.ending.result c.ending.ensures.given_up
    (λ up. ends_after world.scenario world.machine.state.steps world.machine.state c.facts-facts.ensures.valid c.facts-facts.ensures.named (ap (λ (m : Machine). m.state) (c.facts-facts.ensures.reached up)))

pub returns-clause-whole : goal.returns-clause-whole
returns-clause-whole c =
    let world = c.args.world.now in
    came_of_one_up _ _ world.given_up c.ending.result c.ending.ensures.given_up
    (λ up ending is ended. ap (λ (it : Ending). it.values) is
    ∙ whole_after world.scenario world.machine.state.steps world.machine.state c.facts-facts.ensures.valid c.facts-facts.ensures.named (ap (λ (m : Machine). m.state) (c.facts-facts.ensures.reached up)) ended)
    c.ending.ensures.value
