use Rattle.tp_race.proofs.racing.race_of.Given as goal

abbrev pub ghosts-race_on : goal.ghosts-race_on
ghosts-race_on g a = record { table = a.opening.table; about = a.opening.about }
