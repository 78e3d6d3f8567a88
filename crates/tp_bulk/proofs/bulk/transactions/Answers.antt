use Rattle.std.proofs.Common.{rules, ap, ◌∙◌}
use Rattle.tp_bulk.specs.Bulk.{next_state}
use Rattle.tp_bulk.proofs.TxnLemmas.{txns_next}
use Rattle.tp_bulk.proofs.bulk.transactions.Goals as goal

pub loop-number-preserved : goal.loop-number-preserved
loop-number-preserved c = (
  c.next_state-x.ensures.bound,
  txns_next c.loop-number.txns c.in_ok-transaction.field-0 c.args.count c.loop-number.number c.loop-number.x _ _ (search rules) c.in_ok-push.ensures.ok c.in_ok-transaction.ensures
      (c.next_state-x.ensures.value ∙ ap next_state (c.next_state-in-loop-number.ensures.value ∙ ap next_state c.next_state.ensures.value)) c.loop-number.invariant.1,
)
