use Rattle.std.proofs.Common.{None, slice_set, ap, ◌∙◌}
use Rattle.tp_places.specs.Padded.{padded}
use Rattle.tp_places.proofs.PaddedLemmas.{padded_emptied}
use Rattle.tp_places.proofs.places.Places.take.Goals as goal

pub returns-clause-left : goal.returns-clause-left
returns-clause-left g c = ap (λ made. padded made c.self.inside.count) c.take_at.ensures.left ∙ padded_emptied c.self.inside.made c.self.inside.count c.args.at ∙ ap (λ places. slice_set places c.args.at None) c.self.view_is
