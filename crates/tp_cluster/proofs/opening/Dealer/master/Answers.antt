use Rattle.std.proofs.Common.{◌∙◌, ap, sym}
use Rattle.std.specs.Prelude.{Some}
use Rattle.tp_offices.specs.declared.master.Master.{Master}
use Rattle.tp_offices.specs.Master as master
use Rattle.tp_cluster.specs.Offices.Held.{OfMaster}
use Rattle.tp_cluster.proofs.opening.Dealer.master.Goals as goal

pub office-requires-clause-opened : goal.office-requires-clause-opened
office-requires-clause-opened g c = λ exists.
    ap (λ (a : Master). Some (OfMaster a)) (sym (c.in_ok-state.ensures ∙ ap master.opening c.requires.about))
