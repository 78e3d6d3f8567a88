use Rattle.std.proofs.Common.{◌≡◌, ◌++◌, drop}
use Rattle.tp_why.specs.Behind.{admins_lines}
use Rattle.tp_why.specs.Lines.{behind_text}
use Rattle.tp_why.proofs.behind.put_instance_lines.Given as goal

-- what is put so far, and the lines of what is left, make the whole
abbrev pub invariant-loop-number : goal.invariant-loop-number
invariant-loop-number l =
    l.out.items ++ behind_text l.commit.place (admins_lines l.commit.place l.commit.facts.now l.proofs l.number (drop l.number l.admin-items))
    ≡ l.initial.out.items ++ behind_text l.commit.place (admins_lines l.commit.place l.commit.facts.now l.proofs 0 l.admin-items)
