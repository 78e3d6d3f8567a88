use Rattle.std.proofs.Common.{◌∙◌}
use Rattle.std.proofs.lemmas.Result.{err_from_is_err_and}
use Rattle.tp_record.proofs.Times.{goes_on, ends, is_done, counted}
use Rattle.tp_record.proofs.spelled.ListSpelled.read_from.Goals as goal

pub returns-in_err-read_from : goal.returns-in_err-read_from
returns-in_err-read_from g c =
    let p = err_from_is_err_and c.from_residual-in_err-read_from.result c.from_residual-in_err-read_from.ensures.1 in
    rw (p.1, p.2, counted g.T.Spelled.reading c.args.reader.now.rest.now c.in_ok-count.count c.read_from.new.reader.rest.now c.in_ok-count.ensures)
    (ends g.T.Spelled.reading c.in_err-read_from.field-0.0 c.loop.members c.in_ok-count.count c.loop.counter c.loop.reader.rest.now c.read_from-in-loop.new.reader.rest.now c.read_from-in-loop.new.reader.rest.now _ c.loop-test.true c.in_err-read_from.ensures c.loop.invariant)

pub loop-preserved : goal.loop-preserved
loop-preserved g c =
    rw c.in_ok-push.ensures.ok
    (goes_on g.T.Spelled.reading c.loop.members c.in_ok-count.count c.loop.counter c.loop.reader.rest.now c.in_ok-read_from.field-0 c.read_from-in-loop.new.reader.rest.now _ c.loop-test.true c.in_ok-read_from.ensures c.loop.invariant)

pub returns : goal.returns
returns g c =
    counted g.T.Spelled.reading c.args.reader.now.rest.now c.in_ok-count.count c.read_from.new.reader.rest.now c.in_ok-count.ensures
    ∙ is_done g.T.Spelled.reading c.loop.members c.in_ok-count.count c.loop.counter c.loop.reader.rest.now _ c.loop-test.false c.loop.invariant
