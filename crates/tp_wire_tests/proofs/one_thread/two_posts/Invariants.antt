use Rattle.tp_wire_tests.proofs.one_thread.two_posts.Given as goal

abbrev pub ghosts-two_posts_on : goal.ghosts-two_posts_on
ghosts-two_posts_on g a = record { table = a.opening.table; about = a.opening.about }
