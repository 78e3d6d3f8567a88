use Rattle.std.proofs.Common.{◌≡◌, ◌∙◌, [], List, ap, subst, sym}
use Rattle.std.specs.Option.{option_map_or}
use Rattle.tp_types.specs.declared.mail.Reaction.{Reaction}
use Rattle.tp_types.specs.Effect.{Gives}
use Rattle.tp_recover.specs.Kept.{kept}
use Rattle.tp_recover.specs.declared.kept.Kept.{Kept}
use Rattle.tp_server.specs.Booted.{boot_row}
use Rattle.tp_server.specs.State.{Server}
use Rattle.tp_model.specs.Words.{What}
use Rattle.tp_machine.specs.Parts.{Part}
use Rattle.tp_machine.specs.Machine.{server_fact}
use Rattle.tp_machine.proofs.basics.Acted.{boot_by}
use Rattle.tp_machine.proofs.part.server_boots.Goals as goal

pub returns-clause-ok : goal.returns-clause-ok
returns-clause-ok g c =
    let part = c.args.part.now in
    let state = c.in_ok-state.state in
    let reaction = c.in_ok-state.reaction in
    let gave = subst (λ (k : Kept). Gives (boot_row c.args.scenario.now c.args.at k) state reaction) c.in_ok-kept.ensures.kept c.in_ok-state.ensures in
    let none : option_map_or (server_fact c.args.at) reaction.append [] ≡ [] = ap (λ (r : Reaction). option_map_or (server_fact c.args.at) r.append []) gave.reaction_is in
    boot_by (server_fact c.args.at) part c.noted.new.part _ (boot_row c.args.scenario.now c.args.at (kept c.args.scenario.now c.args.at part.log)) state reaction c.in_ok-act.act gave
    (ap (λ (p : Part Server). p.log) c.in_ok-kept.ensures.same) (ap (λ (p : Part Server). p.log) c.in_ok-act.ensures.forced)
    (c.in_ok-act.ensures.told [] c.new.ensures ∙ ap (λ (happened : List What). record { happened = happened; letters = reaction.letters }) (sym none))
