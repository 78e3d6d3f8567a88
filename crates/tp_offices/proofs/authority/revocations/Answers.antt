use Rattle.tp_offices.proofs.OfficeLemmas.{noted_more}
use Rattle.tp_offices.proofs.authority.revocations.Goals as goal

pub loop-place-preserved : goal.loop-place-preserved
loop-place-preserved c = rw c.in_ok-note.ensures (noted_more c.args.places.now c.loop-place.place-index c.loop-place.creds c.loop-place-test.true c.loop-place.invariant)
