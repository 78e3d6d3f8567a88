use Rattle.std.proofs.Common.{rules}
use Rattle.std.proofs.lemmas.Fn.{filter_same}
use Rattle.tp_lock.specs.mirrors.Slots.{is_of_other}
use Rattle.tp_lock.proofs.lists.without.Goals as goal

pub returns : goal.returns
returns c = filter_same _ (is_of_other c.args.owner) _ (λ x b f' k. search rules) _ _ c.retain.ensures.filtered
