use Rattle.std.proofs.Common.{◌≡◌, filter, map}
use Rattle.std.specs.List.{range_with_len}
use Rattle.tp_cred.specs.Store.{id_at, is_of_at}
use Rattle.tp_cred.proofs.store.CredStore.of_subject.Given as goal

-- the ids below this one are done
abbrev pub invariant-loop-place : goal.invariant-loop-place
invariant-loop-place l = l.found ≡ filter (is_of_at l.self l.subject) (map id_at (range_with_len 0 l.place))
