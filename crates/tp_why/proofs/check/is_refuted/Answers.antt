use Rattle.std.proofs.Common.{◌≡◌, true, arith}
use Rattle.std.proofs.lemmas.Grind.{common_steps}
use Rattle.tp_why.specs.Refutation.{is_refuted}
use Rattle.tp_why.specs.mirrors.Said.{said_by}
use Rattle.tp_why.proofs.RefutedLemmas.{sound}
use Rattle.tp_why.proofs.check.is_refuted.Goals as goal

pub returns-clause-sound : goal.returns-clause-sound
returns-clause-sound c is =
    let all : is_refuted c.args.policy.now c.args.action c.args.item.now (said_by c.args.held.now) c.args.atoms.now ≡ true = grind (arith, common_steps) in
    sound c.args.policy.now c.args.action c.args.item.now (said_by c.args.held.now) c.args.atoms.now all
