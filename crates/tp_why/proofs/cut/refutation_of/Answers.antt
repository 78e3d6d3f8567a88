use Rattle.std.proofs.Common.{◌≡◌, ◌∙◌, ap, arith}
use Rattle.std.proofs.lemmas.Grind.{common_steps}
use Rattle.std.specs.List.{list_all}
use Rattle.tp_why.specs.Refutation.{is_false_entry, is_refuted, is_told, refutation}
use Rattle.tp_why.specs.mirrors.Said.{said_by}
use Rattle.tp_why.proofs.RefutedLemmas.{all_entries_false, complete}
use Rattle.tp_why.proofs.ToldLemmas.{told}
use Rattle.tp_why.proofs.cut.refutation_of.Goals as goal

pub returns-clause-all_false : goal.returns-clause-all_false
returns-clause-all_false c =
    let exact : c.loop-before.found ≡ refutation c.args.policy.now c.args.action c.args.item.now (said_by c.args.held.now) = grind (arith, common_steps) in
    ap (list_all (is_false_entry (said_by c.args.held.now))) exact ∙ all_entries_false c.args.policy.now c.args.action c.args.item.now (said_by c.args.held.now)

pub returns-clause-complete : goal.returns-clause-complete
returns-clause-complete c none =
    let exact : c.loop-before.found ≡ refutation c.args.policy.now c.args.action c.args.item.now (said_by c.args.held.now) = grind (arith, common_steps) in
    ap (is_refuted c.args.policy.now c.args.action c.args.item.now (said_by c.args.held.now)) exact ∙ complete c.args.policy.now c.args.action c.args.item.now (said_by c.args.held.now) none

pub returns-clause-told : goal.returns-clause-told
returns-clause-told c of_grammar none =
    let exact : c.loop-before.found ≡ refutation c.args.policy.now c.args.action c.args.item.now (said_by c.args.held.now) = grind (arith, common_steps) in
    ap (is_told c.args.policy.now c.args.action c.args.item.now) exact ∙ told c.args.policy.now c.args.action c.args.item.now (said_by c.args.held.now) of_grammar none
