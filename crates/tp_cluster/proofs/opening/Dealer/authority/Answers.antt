use Rattle.std.proofs.Common.{◌∙◌, ap, sym}
use Rattle.std.specs.Prelude.{Some}
use Rattle.tp_offices.specs.declared.authority.Authority.{Authority}
use Rattle.tp_offices.specs.Authority as office
use Rattle.tp_cluster.specs.Offices.Held.{OfAuthority}
use Rattle.tp_cluster.proofs.opening.Dealer.authority.Goals as goal

pub office-requires-clause-opened : goal.office-requires-clause-opened
office-requires-clause-opened g c = λ exists.
    ap (λ (a : Authority). Some (OfAuthority a)) (sym (c.in_ok-state.ensures ∙ ap office.opening c.requires.about))
