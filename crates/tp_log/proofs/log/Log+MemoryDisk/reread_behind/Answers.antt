use Rattle.std.proofs.Common.{◌≡◌, ◌<◌, ◌≤◌, ℕ, List, drop, length, refl, sym, ap, subst, ◌∙◌, arith}
use Rattle.tp_device.specs.Disks.{clean_state}
use Rattle.tp_device.specs.Memory.{Memory}
use Rattle.tp_log.specs.Images.{Gives}
use Rattle.tp_log.specs.Logs.{LogState}
use Rattle.tp_log.proofs.Behind.{behind_gives, behind_kept, behind_one, gate_within, place_within, short_behind}
use Rattle.tp_log.proofs.log.Log+MemoryDisk.reread_behind.Goals as goal

pub returns-then-len-le1-clause-records : goal.returns-then-len-le1-clause-records
returns-then-len-le1-clause-records c before more h =
    let image : List ℕ = c.args.self.now.disk.disk.seen in
    let seen : c.sync_running.new.disk.disk.seen ≡ image = ap (λ (m : Memory). m.disk.seen) c.sync_running.ensures ∙ ap (λ (l : LogState Memory). l.disk.disk.seen) c.self.view_is in
    let short : length image ≤ 1 = omega (arith, c.if-len-le1.true, c.len.ensures, ap length seen) in
    c.new.ensures ∙ short_behind image c.args.place before more short h

pub split_at-requires : goal.split_at-requires
split_at-requires c =
    let image : List ℕ = c.args.self.now.disk.disk.seen in
    let seen : c.sync_running.new.disk.disk.seen ≡ image = ap (λ (m : Memory). m.disk.seen) c.sync_running.ensures ∙ ap (λ (l : LogState Memory). l.disk.disk.seen) c.self.view_is in
    let long : 1 < length image = omega (arith, c.if-len-le1.false, c.len.ensures, ap length seen) in
    omega (arith, place_within image c.args.place c.requires.gate.0 c.requires.gate.1 long c.requires.gate.2, ap length (c.content.ensures ∙ seen))

pub given_by-requires : goal.given_by-requires
given_by-requires c =
    let image : List ℕ = c.args.self.now.disk.disk.seen in
    let seen : c.sync_running.new.disk.disk.seen ≡ image = ap (λ (m : Memory). m.disk.seen) c.sync_running.ensures ∙ ap (λ (l : LogState Memory). l.disk.disk.seen) c.self.view_is in
    let long : 1 < length image = omega (arith, c.if-len-le1.false, c.len.ensures, ap length seen) in
    let behind : c.split_at.result.1.now ≡ drop c.args.place image = c.split_at.ensures.back ∙ ap (drop c.args.place) (c.content.ensures ∙ seen) in
    (c.requires.gate.1, subst (λ (t : List ℕ). Gives t c.requires.gate.1) (sym behind) (behind_gives image c.args.place c.requires.gate.0 c.requires.gate.1 long c.requires.gate.2))

pub invariant_of-self-2 : goal.invariant_of-self-2
invariant_of-self-2 c is_open =
    let image : List ℕ = c.args.self.now.disk.disk.seen in
    let seen : c.sync_running.new.disk.disk.seen ≡ image = ap (λ (m : Memory). m.disk.seen) c.sync_running.ensures ∙ ap (λ (l : LogState Memory). l.disk.disk.seen) c.self.view_is in
    let long : 1 < length image = omega (arith, c.if-len-le1.false, c.len.ensures, ap length seen) in
    let behind : c.split_at.result.1.now ≡ drop c.args.place image = c.split_at.ensures.back ∙ ap (drop c.args.place) (c.content.ensures ∙ seen) in
    let found = c.in_ok-found.found in
    let gives : Gives (drop c.args.place image) found.records = subst (λ (t : List ℕ). Gives t found.records) behind c.in_ok-found.ensures.records in
    let within = place_within image c.args.place c.requires.gate.0 c.requires.gate.1 long c.requires.gate.2 in
    omega (arith, gate_within image c.args.place found.gate found.records within gives c.in_ok-found.ensures.gate, ap length seen)

pub returns-clause-records : goal.returns-clause-records
returns-clause-records c before more h =
    let image : List ℕ = c.args.self.now.disk.disk.seen in
    let seen : c.sync_running.new.disk.disk.seen ≡ image = ap (λ (m : Memory). m.disk.seen) c.sync_running.ensures ∙ ap (λ (l : LogState Memory). l.disk.disk.seen) c.self.view_is in
    let long : 1 < length image = omega (arith, c.if-len-le1.false, c.len.ensures, ap length seen) in
    let behind : c.split_at.result.1.now ≡ drop c.args.place image = c.split_at.ensures.back ∙ ap (drop c.args.place) (c.content.ensures ∙ seen) in
    let found = c.in_ok-found.found.records in
    behind_one image c.args.place before more found long (subst (λ (t : List ℕ). Gives t found) behind c.in_ok-found.ensures.records) h

pub returns-clause-kept : goal.returns-clause-kept
returns-clause-kept c records all =
    let image : List ℕ = c.args.self.now.disk.disk.seen in
    let before : c.self.inside.disk.disk.seen ≡ image = ap (λ (l : LogState Memory). l.disk.disk.seen) c.self.view_is in
    let seen : c.sync_running.new.disk.disk.seen ≡ image = ap (λ (m : Memory). m.disk.seen) c.sync_running.ensures ∙ before in
    let long : 1 < length image = omega (arith, c.if-len-le1.false, c.len.ensures, ap length seen) in
    let behind : c.split_at.result.1.now ≡ drop c.args.place image = c.split_at.ensures.back ∙ ap (drop c.args.place) (c.content.ensures ∙ seen) in
    let found = c.in_ok-found.found in
    let gives : Gives (drop c.args.place image) found.records = subst (λ (t : List ℕ). Gives t found.records) behind c.in_ok-found.ensures.records in
    behind_kept image c.args.place c.requires.gate.0 c.requires.gate.1 found.records found.gate _ long c.requires.gate.2 gives c.in_ok-found.ensures.gate
    (ap (λ (m : Memory). m.disk) c.sync_running.ensures ∙ ap clean_state before) refl refl records all
