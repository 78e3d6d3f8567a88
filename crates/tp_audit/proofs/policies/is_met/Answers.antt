use Rattle.std.proofs.Common.{sym, ◌∙◌, rules, tests}
use Rattle.std.proofs.lemmas.Iterator.{YieldsList-from_slice}
use Rattle.std.proofs.lemmas.Iterator.Search.{any_from_yields_List}
use Rattle.tp_audit.specs.mirrors.Programs.{meets, shows}
use Rattle.tp_audit.proofs.HeldLemmas.{any_held}
use Rattle.tp_audit.proofs.policies.is_met.Goals as goal

pub returns : goal.returns
returns c =
    let test = meets c.args.atom.now in
    any_from_yields_List (shows test c.args.held.now) _ _ _ c.any.ensures.ran (YieldsList-from_slice c.args.held.now.creds.now cc) (λ x b q k. search (rules, tests))
    ∙ sym (any_held test c.args.held.now)
