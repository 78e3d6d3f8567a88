use Rattle.std.proofs.Common.{refl}
use Rattle.tp_actor_log.proofs.PastLemmas.{unread_past}
use Rattle.tp_actor_log.proofs.past.Past.unread.Goals as goal

pub returns : goal.returns
returns c records = unread_past _ refl refl c.new.ensures records
