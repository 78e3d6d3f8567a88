use Rattle.std.proofs.Common.{◌≡◌, subst, true}
use Rattle.std.proofs.KnownBytes.{Appends-nil}
use Rattle.tp_model.specs.Valid.{is_valid}
use Rattle.tp_model.specs.Words.{Scenario}
use Rattle.tp_race.proofs.RaceLemmas.{all_passes, race_ends}
use Rattle.tp_race.proofs.racing.race_on.Goals as goal

pub finish-requires : goal.finish-requires
finish-requires g c = all_passes g.B.Site.about g.B.Site.table c.in-Ok.passes c.requires.callers c.in-Ok.ensures

pub returns-in-Ok-clause-ended : goal.returns-in-Ok-clause-ended
returns-in-Ok-clause-ended g c =
    race_ends g.B.Site.about g.B.Site.table c.in-Ok.passes _ c.finish.result (subst (λ (sc : Scenario). is_valid sc ≡ true) c.requires.scenario c.requires.valid) c.requires.callers c.in-Ok.ensures c.finish.ensures.ended

pub returns-in-Err-clause-ended : goal.returns-in-Err-clause-ended
returns-in-Err-clause-ended g c = Appends-nil _
