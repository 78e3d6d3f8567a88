use Rattle.std.proofs.Common.{◌≡◌, ◌-◌}
use Rattle.tp_record.specs.mirrors.Readings.{times}
use Rattle.tp_record.proofs.Times.{with_front}
use Rattle.tp_record.proofs.spelled.ListSpelled.read_from.Given as goal

-- what was read and what is still read are all
abbrev pub invariant-loop : goal.invariant-loop
invariant-loop g l = with_front l.members (times g.T.Spelled.reading (l.count - l.counter) l.reader.rest.now) ≡ times g.T.Spelled.reading l.count l.initial.reader.rest.now
