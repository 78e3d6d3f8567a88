use Rattle.std.proofs.Common.{inl, inr, refl}
use Rattle.std.proofs.lemmas.Result.{err_from_is_err_and}
use Rattle.tp_log.proofs.LastStep.{last_step}
use Rattle.tp_log.proofs.calls.force.Goals as goal

pub returns-in_err-write_at-2 : goal.returns-in_err-write_at-2
returns-in_err-write_at-2 g c =
    let first = c.in_ok-write_at.ensures in
    let second = c.in_ok-sync.ensures in
    let third = c.in_err-write_at-2.ensures in
    let p = err_from_is_err_and c.from_residual-in_err-write_at-2.result c.from_residual-in_err-write_at-2.ensures.1 in
    inl (
      c.write_at.new.self,
      record { effect = first.effect; call_is = first.call; cause = first.cause; time = first.time },
      inl (
        c.sync.new.self,
        record { effect = second.effect; call_is = second.call; cause = second.cause; time = second.time },
        inr (c.in_err-write_at-2.field-0.0, record { effect = third.effect; call_is = third.call; cause = third.cause; time = third.time }, rw (p.1, p.2) refl),
      ),
    )

pub returns : goal.returns
returns g c =
    let first = c.in_ok-write_at.ensures in
    let second = c.in_ok-sync.ensures in
    let third = c.in_ok-write_at-2.ensures in
    let last = c.sync-2.ensures in
    inl (
      c.write_at.new.self,
      record { effect = first.effect; call_is = first.call; cause = first.cause; time = first.time },
      inl (
        c.sync.new.self,
        record { effect = second.effect; call_is = second.call; cause = second.cause; time = second.time },
        inl (
          c.write_at-2.new.self,
          record { effect = third.effect; call_is = third.call; cause = third.cause; time = third.time },
          last_step g.D.Disk.state g.D.Disk.left_since g.D.Disk.does g.D.Disk.faults _ c.write_at-2.new.self c.sync-2.result c.sync-2.new.self
              (record { effect = last.effect; call_is = last.call; cause = last.cause; time = last.time }),
        ),
      ),
    )
