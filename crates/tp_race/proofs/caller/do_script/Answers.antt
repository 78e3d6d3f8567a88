use Rattle.std.proofs.Common.{subst, sym}
use Rattle.tp_model.specs.Words.step
use Rattle.tp_model.specs.Words.{Step}
use Rattle.tp_types.specs.Each.{Each}
use Rattle.tp_race.specs.Commands.{IsCommand}
use Rattle.tp_race.proofs.CallerLemmas.{each_index, next_done, stopped}
use Rattle.tp_race.proofs.caller.do_script.Goals as goal

-- what would stand behind the end of a script
abbrev none : Step
none = step.Submit (record { 0 = 0 })

pub returns-in-Err : goal.returns-in-Err
returns-in-Err g c = λ caller its begin.
    let l = c.loop-taken in
    stopped g.B.Site.about.scenario g.B.Site.table caller l.taken-index c.args.script.now c.as_slice-taken-items.result.now none c.in-Err.field-0 l.pass c.do_step.new.pass its c.as_slice-taken-items.ensures
    c.loop-taken-test.true (l.invariant.1 caller begin) c.do_step.ensures.site c.in-Err.ensures.memory c.in-Err.ensures.answer

pub loop-taken-preserved : goal.loop-taken-preserved
loop-taken-preserved g c =
    let l = c.loop-taken in
    let sc = g.B.Site.about.scenario in
    let items = c.as_slice-taken-items.result.now in
    let commands : Each (IsCommand sc) items = subst (Each (IsCommand sc)) (sym c.as_slice-taken-items.ensures) c.requires.commands in (
      c.deliver_all.ensures.pass,
      λ caller begin live. next_done sc caller l.taken-index c.in-Ok.field-0 items none l.pass c.do_step.new.pass c.deliver_all.new.pass c.loop-taken-test.true
          (each_index (IsCommand sc) items l.taken-index none commands c.loop-taken-test.true) (l.invariant.1 caller begin) c.in-Ok.ensures.answer c.deliver_all.ensures.at live,
    )
