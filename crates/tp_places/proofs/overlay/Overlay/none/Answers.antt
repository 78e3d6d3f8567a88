use Rattle.std.proofs.Common.{◌∙◌, ◌-◌, ap, arith}
use Rattle.tp_places.specs.Padded.{padded}
use Rattle.tp_places.specs.Turned.{turned}
use Rattle.tp_places.proofs.TurnedLemmas.{none_turned}
use Rattle.tp_places.proofs.overlay.Overlay.none.Goals as goal

pub returns : goal.returns
returns g c =
    ap (λ made. turned (c.args.count - c.min.result) (padded made c.args.count)) c.in_ok-with_capacity.ensures.items
    ∙ none_turned c.args.count c.min.result (omega (arith, c.min.ensures))
