use Rattle.std.proofs.Common.{[]}
use Rattle.tp_wire.proofs.SeatLemmas.{opens}
use Rattle.tp_wire.proofs.wire.Opening.new.Goals as goal

pub of_words-requires : goal.of_words-requires
of_words-requires g c = opens (g.L.Law.follows c.args.about.now) (g.L.Law.actors c.args.about.now) (g.L.Law.passes c.args.about.now) {S = Unit {0}} []
