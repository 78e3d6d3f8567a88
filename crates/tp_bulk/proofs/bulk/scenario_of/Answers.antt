use Rattle.std.proofs.Common.{◌≡◌, true, subst, sym}
use Rattle.std.proofs.lemmas.Result.{IfOk-weaker}
use Rattle.tp_model.specs.Valid.{is_valid}
use Rattle.tp_model.specs.Words.{Scenario}
use Rattle.tp_bulk.proofs.Validity.{valid}
use Rattle.tp_bulk.proofs.bulk.scenario_of.Goals as goal

pub returns-clause-valid : goal.returns-clause-valid
returns-clause-valid c =
    IfOk-weaker c.made.result _ _ (λ made same. subst (λ (sc : Scenario). is_valid sc ≡ true) (sym same) (valid c.args.count c.requires.least c.requires.most)) c.made.ensures
