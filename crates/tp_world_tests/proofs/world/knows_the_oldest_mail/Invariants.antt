use Rattle.tp_world_tests.proofs.world.knows_the_oldest_mail.Given as goal

-- the ledger that counts has the name and the parts of the blank one
abbrev pub ghosts-oldest_before_and_after_loss : goal.ghosts-oldest_before_and_after_loss
ghosts-oldest_before_and_after_loss g a = record { name = a.blank.name; parts = a.blank.parts }
