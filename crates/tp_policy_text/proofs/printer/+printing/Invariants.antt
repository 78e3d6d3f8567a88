use Rattle.std.proofs.Common.{◌≡◌, ◌++◌, codes, drop}
use Rattle.std.specs.List.{join_by}
use Rattle.tp_policy_text.specs.Printed.{in_and, in_or, kind_and_text}
use Rattle.tp_policy_text.proofs.PrintLemmas.{joined_after}
use Rattle.tp_policy_text.proofs.printer.+printing.Given as goal

abbrev pub invariant-put_and-loop-member : goal.invariant-put_and-loop-member
invariant-put_and-loop-member l =
    l.out.items ++ joined_after l.between (λ c. in_and (kind_and_text c)) (codes " and ") (drop l.member-index l.members) ≡ l.initial.out.items ++ join_by (λ c. in_and (kind_and_text c)) (codes " and ") l.members

abbrev pub invariant-put_or-loop-member : goal.invariant-put_or-loop-member
invariant-put_or-loop-member l =
    l.out.items ++ joined_after l.between (λ c. in_or (kind_and_text c)) (codes " or ") (drop l.member-index l.members) ≡ l.initial.out.items ++ join_by (λ c. in_or (kind_and_text c)) (codes " or ") l.members
