-- What is so of a world before its first step.
use Rattle.std.proofs.Common.{◌≡◌, [], true, false, refl, sym, subst, ap, ◌∙◌}
use Rattle.tp_model.specs.Words.{Scenario}
use Rattle.tp_model.specs.Valid.{is_valid}
use Rattle.tp_machine.specs.declared.actors.Actors.{Actors}
use Rattle.tp_machine.specs.declared.history.History.{History}
use Rattle.tp_machine.specs.Fits.{AllFitLogs}
use Rattle.tp_pending.specs.Flags.{marked}
use Rattle.tp_machine.specs.Machine.{Machine, opened_actors, opening}
use Rattle.tp_machine.specs.WorldView.{WorldView, IsWorld, machine_of, start}
use Rattle.tp_machine.proofs.basics.Fits.{all_opened}
use Rattle.tp_machine.proofs.basics.Machine.{same_machine, same_state}

-- opened actors with an empty history are the opening machine
pub machine_opened : (sc : Scenario) (actors : Actors) (history : History) → actors ≡ opened_actors sc
    → history.steps ≡ [] → history.facts ≡ [] → history.mails ≡ [] → history.pending ≡ [] → machine_of actors history ≡ opening sc
machine_opened sc actors history a s f m p = same_machine _ _ _ _ (same_state _ _ _ _ _ _ _ _ a m f s) (ap (marked 0) p)

pub world_at_start : (sc : Scenario) (own : Scenario) (machine : Machine) → is_valid sc ≡ true → AllFitLogs sc → own ≡ sc → machine ≡ opening sc
    → IsWorld (record { scenario = own; given_up = false; machine = machine })
world_at_start sc own machine formed fit same opened =
    let whole : ◌≡◌ {A = WorldView} (record { scenario = own; given_up = false; machine = machine }) (start sc) =
    ap (λ (x : Scenario). record { scenario = x; given_up = false; machine = machine }) same
    ∙ ap (λ (x : Machine). record { scenario = sc; given_up = false; machine = x }) opened in
    subst IsWorld (sym whole) (record { valid = formed; fit = fit; whole = all_opened sc; named = tt; told = refl; reached = λ _. refl })
