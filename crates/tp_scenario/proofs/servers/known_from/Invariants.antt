use Rattle.std.proofs.Common.{◌≡◌, drop, map}
use Rattle.tp_scenario.specs.Servers.{known_from, opening}
use Rattle.tp_scenario.specs.mirrors.Entries.{entries_view}
use Rattle.tp_scenario.proofs.servers.known_from.Given as goal

abbrev pub invariant-loop-entry : goal.invariant-loop-entry
invariant-loop-entry l =
    known_from l.admins l.server l.versions (entries_view (drop l.entry-index l.entries)) ≡ known_from l.admins l.server (map opening l.admins) (entries_view l.entries)
