use Rattle.std.proofs.Common.{◌≡◌, ◌<◌, length, get_or, sym, ◌∙◌, arith, rules}
use Rattle.tp_audit.proofs.SerialLemmas.{runs_on, stores_on}
use Rattle.tp_audit.proofs.serial.is_serial_run.Goals as goal

pub loop-at-preserved : goal.loop-at-preserved
loop-at-preserved c =
    let at = c.loop-at.at in
    let deeds = c.args.deeds.now in
    let queries = c.args.txn.now.queries in
    let here : at < length deeds = grind arith in
    let there : at < length queries = grind arith in
    let query : c.query-item.result ≡ get_or queries at c.query-item.result = cc in
    let same = sym (rw c.as_slice.ensures at c.follow.ensures.same) ∙ c.if-not-follow.false in
    record {
      complete = c.loop-at.invariant.complete;
      same = runs_on at deeds queries _ _ _ _ _ _ _ here there query same (search rules) (search rules) c.loop-at.invariant.same;
      stored = stores_on at deeds _ _ _ _ _ _ here same (search rules) c.loop-at.invariant.stored;
    }
