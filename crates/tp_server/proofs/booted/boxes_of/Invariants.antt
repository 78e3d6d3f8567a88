use Rattle.std.proofs.Common.{◌≡◌, map, option_map, take}
use Rattle.tp_server.specs.Booted.{restored}
use Rattle.tp_server.proofs.booted.boxes_of.Given as goal

-- the places so far have their entries
abbrev pub invariant-loop-place : goal.invariant-loop-place
invariant-loop-place l = map (option_map (λ b. b.value)) l.made ≡ map (option_map restored) (take l.place-index l.table)
