use Rattle.std.proofs.Common.{◌∙◌, sym, rules, tests}
use Rattle.std.proofs.lemmas.Iterator.{YieldsList-from_slice}
use Rattle.std.proofs.lemmas.Iterator.Search.{any_from_yields_List}
use Rattle.tp_model.specs.Policies.{meets}
use Rattle.tp_why.specs.mirrors.Said.{lent_triple}
use Rattle.tp_why.proofs.SaidLemmas.{any_map}
use Rattle.tp_why.proofs.atoms.is_met.Goals as goal

pub returns : goal.returns
returns c =
    let test = meets c.args.issuer.now c.args.attr.now c.args.op c.args.wanted.now in
    any_from_yields_List (λ credential. test (lent_triple credential)) _ _ _ c.any.ensures.ran (YieldsList-from_slice c.args.held.now cc) (λ x b q k. search (rules, tests))
    ∙ sym (any_map test lent_triple c.args.held.now)
