use Rattle.tp_part_tests.proofs.locks.a_counted_release_grants_the_same.Given as goal

-- the ledger that counts has the name and the parts of the blank one
abbrev pub ghosts-release_counted : goal.ghosts-release_counted
ghosts-release_counted g a = record { name = a.blank.name; parts = a.blank.parts }
