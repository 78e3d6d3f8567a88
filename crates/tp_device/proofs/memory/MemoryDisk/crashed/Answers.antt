use Rattle.std.proofs.Common.{◌≡◌, ◌++◌, List, ℕ, arith, drop, length, take, sym, subst}
use Rattle.std.proofs.lemmas.Grind.{common_steps}
use Rattle.std.specs.List.{cons_option}
use Rattle.tp_device.specs.Disks.{MayLeave}
use Rattle.tp_device.specs.Memory.{Memory, with_blanks}
use Rattle.tp_device.proofs.Images.{crash_image}
use Rattle.tp_device.proofs.memory.MemoryDisk.crashed.Goals as goal

pub returns-clause-image : goal.returns-clause-image
returns-clause-image c =
    let old : List ℕ = c.self.inside.content.items in
    let content : List ℕ = take c.self.inside.content.len (c.blank_all.new.content ++ drop (length c.blank_all.new.content) old) in
    let is : content ≡ with_blanks c.args.fill old (cons_option c.self.inside.first c.self.inside.later) = grind (arith, common_steps) in
    subst (λ (m : Memory). MayLeave m.disk content) c.self.view_is
    (subst (MayLeave _) (sym is) (crash_image c.args.fill _ c.self.invariant.0 c.self.invariant.1.0))
