use Rattle.std.proofs.Common.{subst, sym}
use Rattle.tp_ends.specs.Seen.{seen}
use Rattle.tp_top.specs.mirrors.Commands.{Answers}
use Rattle.tp_words.specs.declared.commands.Command.{Command}
use Rattle.tp_top.proofs.answer.answer_to.Goals as goal

pub returns-in-Bulk-clause-cause : goal.returns-in-Bulk-clause-cause
returns-in-Bulk-clause-cause g c =
    let input = seen g.I.Source.left g.I.Source.faults c.args.input.now c.args.input.now in
    subst (λ (command : Command). Answers command input c.answer-in-Bulk.result) (sym c.in-Bulk.is) (c.answer-in-Bulk.ensures input)
