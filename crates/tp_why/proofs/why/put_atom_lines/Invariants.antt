use Rattle.std.proofs.Common.{◌≡◌, ◌++◌, drop, map}
use Rattle.tp_why.specs.Lines.{why_text}
use Rattle.tp_why.specs.Why.{atom_words}
use Rattle.tp_why.proofs.why.put_atom_lines.Given as goal

-- what is put so far, and the lines of what is left, make the whole
abbrev pub invariant-loop-entry : goal.invariant-loop-entry
invariant-loop-entry l =
    l.out.items ++ why_text l.place (map (atom_words l.moment.scenario.now l.moment.place l.moment.facts.now l.declared) (drop l.entry-index l.atoms))
    ≡ l.initial.out.items ++ why_text l.place (map (atom_words l.moment.scenario.now l.moment.place l.moment.facts.now l.declared) l.atoms)
