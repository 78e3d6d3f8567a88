use Rattle.std.proofs.Common.{sym, ◌∙◌, rules, tests}
use Rattle.std.proofs.lemmas.Iterator.{YieldsList-from_slice}
use Rattle.std.proofs.lemmas.Iterator.Search.{any_from_yields_List}
use Rattle.tp_model.specs.Policies.{meets}
use Rattle.tp_cred.specs.mirrors.HeldBy.{holder_in, shows}
use Rattle.tp_cred.proofs.HeldLemmas.{any_held}
use Rattle.tp_check.proofs.certificate.is_met.Goals as goal

pub returns : goal.returns
returns c =
    let test = meets c.args.issuer.now c.args.attr.now c.args.op c.args.wanted.now in
    let held = c.args.held.now in
    any_from_yields_List (shows held test) _ _ _ c.any.ensures.ran (YieldsList-from_slice held.creds.now cc) (λ x b q k. search (rules, tests))
    ∙ sym (any_held (holder_in held) held.creds.now test)
