use Rattle.tp_part_tests.proofs.counted.steps_are_counted_and_have_no_bytes.Given as goal

-- the ledger that counts has the name and the parts of the blank one
abbrev pub ghosts-bytes_after_two_steps : goal.ghosts-bytes_after_two_steps
ghosts-bytes_after_two_steps g a = record { name = a.blank.name; parts = a.blank.parts }
