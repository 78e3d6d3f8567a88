-- What a world keeps holds after one step more.
use Rattle.std.proofs.Common.{◌≡◌, [], ◌∷◌, ◌++◌, false, None, ap, sym, subst, ◌∙◌}
use Rattle.tp_model.specs.Words.{Step}
use Rattle.tp_types.specs.Each.{Each}
use Rattle.tp_types.proofs.EachLemmas.{each_more}
use Rattle.tp_machine.specs.Fits.{FitLogs, received}
use Rattle.tp_machine.specs.Machine.{Machine, after, machine_after, refusal}
use Rattle.tp_machine.specs.Named.{IsStepOf}
use Rattle.tp_machine.specs.WorldView.{HasAllActors, IsWorld, WorldView}
use Rattle.tp_machine.proofs.basics.Fits.{all_after, received_allowed, received_named}
use Rattle.tp_machine.proofs.basics.Machine.{after_next, reached_next, steps_next}

pub world_next : (w : WorldView) (new : Machine) (taken : Step) → IsWorld w → w.given_up ≡ false → IsStepOf w.scenario taken → refusal w.machine.state taken ≡ None
    → new ≡ machine_after w.scenario w.machine taken → IsWorld (record w { machine = new })
world_next w new taken is up exists allowed next =
    let sc = w.scenario in
    let old = w.machine in
    let steps : new.state.steps ≡ old.state.steps ++ taken ∷ [] = ap (λ (m : Machine). m.state.steps) next ∙ steps_next sc old taken in
    let named : Each (IsStepOf sc) new.state.steps = subst (Each (IsStepOf sc)) (sym steps) (each_more (IsStepOf sc) old.state.steps taken is.named exists) in
    let reached : new ≡ after sc new.state.steps = reached_next sc old new taken (is.reached up) allowed next in
    record {
      valid = is.valid;
      fit = is.fit;
      whole = subst (λ (m : Machine). HasAllActors sc m.state.actors) (sym next) (all_after sc old taken is.whole);
      named = named;
      told = ap (λ (m : Machine). m.state.facts) reached;
      reached = λ up. reached;
    }

-- each log takes what the receipt of a step forces
pub logs_fit : (w : WorldView) (taken : Step) → IsWorld w → w.given_up ≡ false → IsStepOf w.scenario taken → refusal w.machine.state taken ≡ None
    → FitLogs (machine_after w.scenario w.machine (received taken)).state.actors
logs_fit w taken is up exists allowed =
    let sc = w.scenario in
    let old = w.machine in
    subst (λ (m : Machine). FitLogs m.state.actors) (after_next sc old (received taken) (is.reached up) (received_allowed old.state taken allowed))
    (is.fit (old.state.steps ++ received taken ∷ []) (each_more (IsStepOf sc) old.state.steps (received taken) is.named (received_named sc taken exists)))
