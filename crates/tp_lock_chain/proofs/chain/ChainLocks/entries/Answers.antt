use Rattle.std.proofs.Common.{◌∙◌, ap}
use Rattle.std.proofs.lemmas.Result.{IfOk-weaker}
use Rattle.tp_lock.specs.Rule.{entries_at}
use Rattle.tp_lock_chain.proofs.AskLemmas.{told_list, told_past}
use Rattle.tp_lock_chain.proofs.chain.ChainLocks.entries.Goals as goal

pub returns-then-item-self : goal.returns-then-item-self
returns-then-item-self c = c.new.ensures ∙ told_past c.self.inside.pool c.args.item c.if-item-self.true ∙ ap (entries_at c.args.item) c.self.view_is

pub returns : goal.returns
returns c =
    IfOk-weaker c.entries.result _ _ (λ made is. is ∙ told_list c.self.inside.pool c.args.item c.if-item-self.false ∙ ap (entries_at c.args.item) c.self.view_is) c.entries.ensures
