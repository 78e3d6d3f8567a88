use Rattle.std.proofs.Common.{length}
use Rattle.tp_record.specs.Spelling.{short}
use Rattle.tp_record.proofs.Times.{written_more, range_more, range_whole}
use Rattle.tp_record.proofs.spelled.ListSpelled.write_to.Goals as goal

pub loop-member-preserved : goal.loop-member-preserved
loop-member-preserved g c =
    let xs = c.as_slice-member-items.result.now in
    record {
      written = written_more g.T.Spelled.spelling xs c.loop-member.member-index c.member-item.result c.args.out.now (short (length xs)) c.loop-member.out c.write_to.new.out c.loop-member-test.true c.member-item.is c.loop-member.invariant.written c.in_ok-write_to.ensures.spelled;
      range = range_more g.T.Spelled.in_range xs c.loop-member.member-index c.member-item.result c.loop-member-test.true c.member-item.is c.loop-member.invariant.range c.in_ok-write_to.ensures.range;
    }

pub returns-clause-range : goal.returns-clause-range
returns-clause-range g c =
    let xs = c.as_slice-member-items.result.now in
    rw (← c.as_slice-member-items.ensures) (range_whole g.T.Spelled.in_range xs c.loop-member.member-index c.loop-member-test.false c.loop-member.invariant.range)
