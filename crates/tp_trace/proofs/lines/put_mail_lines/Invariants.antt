use Rattle.std.proofs.Common.{◌≡◌, ◌++◌, drop, map}
use Rattle.tp_trace.specs.Lines.{lines_text, mail_line}
use Rattle.tp_trace.proofs.lines.put_mail_lines.Given as goal

-- what is put so far, and the lines of what is left, make the whole
abbrev pub invariant-loop-mail : goal.invariant-loop-mail
invariant-loop-mail l = l.out.items ++ lines_text (map (mail_line l.scenario l.place l.kind) (drop l.mail-index l.mails)) ≡ l.initial.out.items ++ lines_text (map (mail_line l.scenario l.place l.kind) l.mails)
