use Rattle.std.proofs.Common.{ap, ◌∙◌}
use Rattle.std.proofs.Common.{None, slice_set}
use Rattle.tp_places.specs.Padded.{padded}
use Rattle.tp_places.proofs.PaddedLemmas.{padded_emptied}
use Rattle.tp_places.proofs.places.Places.clear.Goals as goal

pub returns : goal.returns
returns g c = ap (λ made. padded made c.self.inside.count) c.put.ensures ∙ padded_emptied c.self.inside.made c.self.inside.count c.args.at ∙ ap (λ places. slice_set places c.args.at None) c.self.view_is
