use Rattle.std.proofs.Common.{◌∙◌, ap, sym}
use Rattle.std.specs.List.{find}
use Rattle.tp_model.specs.Credentials.{is_valid_in}
use Rattle.tp_model.specs.Policies.{meets}
use Rattle.tp_eval.specs.mirrors.Gathered.{says}
use Rattle.tp_eval.proofs.FoundLemmas.{found_valid}
use Rattle.tp_eval.proofs.gather.first_shown.Goals as goal

pub returns : goal.returns
returns c =
    let held = c.args.held.now in
    let said = says held (meets c.args.issuer.now c.args.attr.now c.args.op c.args.wanted.now) in
    c.first_said.ensures
    ∙ ap (find said) c.list_for-kept.ensures
    ∙ held.indexed.finds c.args.issuer.now c.args.attr.now c.args.op c.args.wanted.now
    ∙ sym (found_valid said (is_valid_in held.creds.now held.clock held.revoked.now) held.presented.now)
