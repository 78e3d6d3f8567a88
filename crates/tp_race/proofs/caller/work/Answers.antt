use Rattle.std.proofs.Common.{[], List, sym}
use Rattle.std.specs.Prelude.{None, Some}
use Rattle.tp_model.specs.Words.{Step}
use Rattle.tp_types.specs.Each.{Each}
use Rattle.tp_types.proofs.EachLemmas.{each_get}
use Rattle.tp_race.specs.Commands.{IsCommand}
use Rattle.tp_race.proofs.CallerLemmas.{fresh_at_none, fresh_of_caller, has_run, script_found}
use Rattle.tp_race.proofs.caller.work.Goals as goal

pub do_script-requires-clause-pass : goal.do_script-requires-clause-pass
do_script-requires-clause-pass g c = fresh_of_caller g.B.Site.about.scenario g.B.Site.table c.args.caller c.args.pass.now c.requires.fresh

pub do_script-requires-clause-commands : goal.do_script-requires-clause-commands
do_script-requires-clause-commands g c =
    each_get (Each (IsCommand g.B.Site.about.scenario)) c.args.scripts.now c.args.caller c.in-Some.script.now c.requires.commands (sym c.in-Some.ensures)

pub deliver_all-requires : goal.deliver_all-requires
deliver_all-requires g c = fresh_of_caller g.B.Site.about.scenario g.B.Site.table c.args.caller c.args.pass.now c.requires.fresh

pub returns-in-Some : goal.returns-in-Some
returns-in-Some g c =
    let sc = g.B.Site.about.scenario in
    c.do_script.ensures c.args.caller (script_found sc c.args.scripts.now c.args.caller (Some c.in-Some.script.now) c.requires.scripts c.in-Some.ensures)
    (fresh_at_none sc g.B.Site.table c.args.caller c.args.pass.now c.requires.fresh)

pub returns-in-None : goal.returns-in-None
returns-in-None g c =
    let sc = g.B.Site.about.scenario in
    let none : List Step = [] in
    has_run sc g.B.Site.table c.args.caller none c.deliver_all.new.pass (script_found sc c.args.scripts.now c.args.caller None c.requires.scripts c.in-None.ensures)
    c.deliver_all.ensures.pass.site
    (λ live. (c.deliver_all.ensures.at live).at c.args.caller none (fresh_at_none sc g.B.Site.table c.args.caller c.args.pass.now c.requires.fresh))
