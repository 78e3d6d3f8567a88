use Rattle.std.proofs.Common.{◌≡◌, drop, length, arith, ap, ◌∙◌, length-drop}
use Rattle.tp_log.proofs.Blocks.{AreRecords-push}
use Rattle.tp_log.proofs.Reading.{read_more}
use Rattle.tp_log.proofs.image.records_of.Goals as goal

pub loop-behind-preserved : goal.loop-behind-preserved
loop-behind-preserved c =
    let found = rw c.in-Some-2.is at c.in_ok-record.ensures in
    let after : c.split_at.result.1.now ≡ drop c.in-Some-2.len c.in-Some.behind.now = c.split_at.ensures.back in
    record {
      parts = rw (c.in_ok-push.ensures.ok, after) (read_more c.args.image.now c.loop-behind.records c.loop-behind.rest.now c.in-Some.behind.now c.in-Some-2.record c.in-Some-2.len c.loop-behind.invariant.parts c.in-Some.ensures found.2);
      are = rw c.in_ok-push.ensures.ok (AreRecords-push c.loop-behind.records c.in-Some-2.record c.loop-behind.invariant.are found.0);
      some = omega (arith, found.1, ap length after ∙ length-drop c.in-Some-2.len c.in-Some.behind.now);
    }
