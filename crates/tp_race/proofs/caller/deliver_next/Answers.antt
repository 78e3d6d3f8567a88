use Rattle.std.proofs.Common.{subst, ℕ}
use Rattle.std.specs.Prelude.{Option, IfSome, IfNone}
use Rattle.tp_wire.specs.Calls.{IsCleared, IsTaken}
use Rattle.tp_race.proofs.CallerLemmas.{at_same, at_taken}
use Rattle.tp_race.proofs.caller.deliver_next.Goals as goal

pub returns-in-Ok-Some-clause-at : goal.returns-in-Ok-Some-clause-at
returns-in-Ok-Some-clause-at g c = λ live.
    let old = c.args.pass.now in
    let mid = c.take.new.pass in
    let arm = c.in-Ok-Some in
    let taken : IsTaken old.view arm.mail mid.view =
    subst (λ (o : Option ℕ). IfSome o (λ mail. IsTaken old.view mail mid.view)) arm.field-0-is arm.ensures.some in
    record {
      was_live = arm.ensures.live.0;
      at = λ caller done a. c.deliver.ensures.at live caller done (at_taken g.B.Site.about.scenario caller arm.mail done old.view mid.view a taken);
    }

pub returns-in-Ok-None-clause-at : goal.returns-in-Ok-None-clause-at
returns-in-Ok-None-clause-at g c = λ live.
    let old = c.args.pass.now in
    let mid = c.take.new.pass in
    let arm = c.in-Ok-None in
    let cleared : IsCleared old.view mid.view = subst (λ (o : Option ℕ). IfNone o (IsCleared old.view mid.view)) arm.field-0-is arm.ensures.none in
    record {
      was_live = arm.ensures.live.0;
      at = λ caller done a. at_same g.B.Site.about.scenario caller done old.view mid.view cleared.parts_are a;
    }
