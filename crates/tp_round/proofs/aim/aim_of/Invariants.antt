use Rattle.std.proofs.Common.{◌≡◌, map, take}
use Rattle.std.specs.Option.{option_copied}
use Rattle.tp_round.specs.Judge.{aim_for}
use Rattle.tp_round.specs.Replies.{proofs_in}
use Rattle.tp_round.proofs.aim.aim_of.Given as goal

abbrev pub invariant-loop-admin : goal.invariant-loop-admin
invariant-loop-admin l = l.made ≡ map (aim_for l.levels (option_copied l.reading) (proofs_in l.targets)) (take l.admin-index l.admin-items)
