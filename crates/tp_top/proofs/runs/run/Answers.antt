use Rattle.std.proofs.Common.{List, sym, subst}
use Rattle.tp_model.specs.Words.{Step}
use Rattle.tp_types.specs.Each.{Each}
use Rattle.tp_machine.specs.Named.{IsStepOf}
use Rattle.tp_top.proofs.ListedLemmas.{stopped_at}
use Rattle.tp_ends.proofs.ListedRun.{listed_exist}
use Rattle.tp_top.proofs.runs.run.Goals as goal

pub follow-requires-clause-ids : goal.follow-requires-clause-ids
follow-requires-clause-ids g c =
    subst (λ (steps : List Step). Each (IsStepOf c.args.world.now.scenario) steps) (sym c.requires.listed) (listed_exist c.args.world.now.scenario c.requires.valid)

pub returns-in-Some-clause-run : goal.returns-in-Some-clause-run
returns-in-Some-clause-run g c =
    stopped_at c.args.world.now c.follow.new.world c.args.steps.now c.in-Some.refused c.requires.fresh c.requires.listed
    (rw c.in-Some.is at c.in_ok-refused.ensures.follows) (rw c.in-Some.is at c.in_ok-refused.ensures.before)
