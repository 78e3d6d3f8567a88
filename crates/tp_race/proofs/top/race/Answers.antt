use Rattle.std.proofs.Common.{◌≡◌, [], arith}
use Rattle.std.proofs.KnownBytes.{Appends-nil}
use Rattle.std.proofs.lemmas.Grind.{common_steps}
use Rattle.tp_race.proofs.RaceLemmas.{raced_ended, raced_owes, raced_trusted}
use Rattle.tp_race.proofs.top.race.Goals as goal

pub returns-in-Ok-unlisted_in-clause-promised : goal.returns-in-Ok-unlisted_in-clause-promised
returns-in-Ok-unlisted_in-clause-promised g c = λ done. raced_trusted _ _ c.in-Ok-unlisted_in.scenario _ c.in-Ok-unlisted_in.ensures.read c.race_of.ensures.ended done

pub returns-in-Ok-unlisted_in-clause-ended : goal.returns-in-Ok-unlisted_in-clause-ended
returns-in-Ok-unlisted_in-clause-ended g c =
    let none : c.args.words.now ≡ [] = grind (arith, common_steps) in
    raced_ended _ c.in-Ok-unlisted_in.scenario _ none c.in-Ok-unlisted_in.ensures.read (Appends-nil _) c.race_of.ensures.ended

pub returns-in-Ok-unlisted_in-clause-complete : goal.returns-in-Ok-unlisted_in-clause-complete
returns-in-Ok-unlisted_in-clause-complete g c = raced_owes _ c.in-Ok-unlisted_in.scenario _ c.in-Ok-unlisted_in.ensures.read c.race_of.ensures.complete
