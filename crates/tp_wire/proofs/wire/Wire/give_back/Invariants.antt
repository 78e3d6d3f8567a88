use Rattle.tp_wire.proofs.wire.Wire.give_back.Given as goal

abbrev pub ghosts-cut_off : goal.ghosts-cut_off
ghosts-cut_off g a = record { number = a.number }
