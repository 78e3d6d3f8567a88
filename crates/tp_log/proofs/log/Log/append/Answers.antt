use Rattle.std.proofs.Common.{◌≡◌, ◌+◌, length, ◌∙◌, arith}
use Rattle.tp_log.proofs.AppendAnswers.{adds, fails, moments, stays, unmoved}
use Rattle.tp_log.proofs.log.Log.append.Goals as goal

pub returns-in-Ok-clause-answer : goal.returns-in-Ok-clause-answer
returns-in-Ok-clause-answer g c =
    let b = c.in_ok-block_into.ensures.bytes in
    let disk = g.D.Disk in
    let place : c.in-Some.next ≡ c.self.inside.gate + length c.as_slice-bytes.result.now = omega (arith, c.in-Some.ensures.1) in
    rw (← c.self.view_is) (adds disk.state disk.left_since disk.does disk.faults g.met.D.Disk.only_now c.self.inside.disk c.self.inside.gate c.args.r.now c.as_slice-bytes.result.now b.1 (c.as_slice-bytes.ensures ∙ b.0)
    c.in-Some.next c.force.new.disk c.self.inside.closed c.if-self.false b.2 place c.in-Ok.ensures)

pub returns-in-Ok-clause-any_moment : goal.returns-in-Ok-clause-any_moment
returns-in-Ok-clause-any_moment g c =
    let b = c.in_ok-block_into.ensures.bytes in
    let disk = g.D.Disk in
    rw (← c.self.view_is) (moments disk.state disk.left_since disk.does disk.faults g.met.D.Disk.only_now c.self.inside.disk c.self.inside.gate c.args.r.now c.as_slice-bytes.result.now b.1 (c.as_slice-bytes.ensures ∙ b.0)
    _ c.force.new.disk c.self.inside.closed c.in-Ok.ensures)

pub returns-in-Err-Failed-clause-answer : goal.returns-in-Err-Failed-clause-answer
returns-in-Err-Failed-clause-answer g c =
    let b = c.in_ok-block_into.ensures.bytes in
    let disk = g.D.Disk in
    let steps = rw c.in-Err-Failed.field-0-is at c.in-Err-Failed.ensures in
    rw (← c.self.view_is) (fails disk.state disk.left_since disk.does disk.faults g.met.D.Disk.only_now c.self.inside.disk c.self.inside.gate c.args.r.now c.as_slice-bytes.result.now b.1 (c.as_slice-bytes.ensures ∙ b.0)
    c.force.new.disk c.self.inside.closed c.if-self.false b.2 steps)

pub returns-in-Err-Failed-clause-any_moment : goal.returns-in-Err-Failed-clause-any_moment
returns-in-Err-Failed-clause-any_moment g c =
    let b = c.in_ok-block_into.ensures.bytes in
    let disk = g.D.Disk in
    rw (← c.self.view_is) (moments disk.state disk.left_since disk.does disk.faults g.met.D.Disk.only_now c.self.inside.disk c.self.inside.gate c.args.r.now c.as_slice-bytes.result.now b.1 (c.as_slice-bytes.ensures ∙ b.0)
    _ c.force.new.disk c.self.inside.closed c.in-Err-Failed.ensures)

pub returns-clause-answer : goal.returns-clause-answer
returns-clause-answer g c =
    let b = c.in_ok-block_into.ensures.bytes in
    let disk = g.D.Disk in
    let steps = rw c.in-Err-NoMemory.field-0-is at c.in-Err-NoMemory.ensures in
    rw (← c.self.view_is) (stays disk.state disk.left_since disk.does disk.faults g.met.D.Disk.only_now c.self.inside.disk c.self.inside.gate c.args.r.now c.as_slice-bytes.result.now b.1 (c.as_slice-bytes.ensures ∙ b.0)
    c.force.new.disk c.self.inside.closed c.if-self.false b.2 steps)

pub returns-clause-any_moment : goal.returns-clause-any_moment
returns-clause-any_moment g c =
    let b = c.in_ok-block_into.ensures.bytes in
    let disk = g.D.Disk in
    rw (← c.self.view_is) (moments disk.state disk.left_since disk.does disk.faults g.met.D.Disk.only_now c.self.inside.disk c.self.inside.gate c.args.r.now c.as_slice-bytes.result.now b.1 (c.as_slice-bytes.ensures ∙ b.0)
    _ c.force.new.disk c.self.inside.closed c.in-Err-NoMemory.ensures)

pub returns-in_default-clause-any_moment : goal.returns-in_default-clause-any_moment
returns-in_default-clause-any_moment g c =
    let disk = g.D.Disk in
    unmoved disk.state disk.left_since disk.does disk.faults g.met.D.Disk.only_now c.args.self.now c.args.r.now
