-- The cluster refuses no step of a script.
use Rattle.std.specs.Prelude.{◌≡◌, List, true}
use Rattle.tp_cluster.specs.Calls.{IsClosedWorld}
use Rattle.tp_cluster.specs.declared.plan.Plan.{Plan}
use Rattle.tp_machine.specs.WorldView.{WorldView}
use Rattle.tp_model.specs.Valid.{is_valid}
use Rattle.tp_wire.specs.declared.view.View.{View}
use Rattle.tp_race.specs.Callers.{AreAll, HasEnded, HasRun, callers_of}

-- On a cluster with a caller for each script and one more, of which each did its script, and delivered what it took, to the
-- end or up to a step that was refused, each has done its whole script
abbrev pub NoneIsStopped : Type 0
NoneIsStopped =
    (plan : Plan) (views : List View) (world : WorldView) → is_valid plan.scenario ≡ true
    → plan.callers ≡ callers_of plan.scenario → IsClosedWorld plan views world
    → AreAll (HasEnded plan.scenario) (callers_of plan.scenario) views
    → AreAll (HasRun plan.scenario) (callers_of plan.scenario) views
