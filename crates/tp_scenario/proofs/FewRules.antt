-- A policy's text is short, so it says few rules.
use Rattle.std.proofs.Common.{◌≡◌, ℕ, ◌+◌, ◌-◌, ◌<◌, ◌≤◌, List, length, Result, Ok, Err, refl, ap, arith}
use Rattle.tp_model.specs.Words.{Policy}
use Rattle.tp_policy_text.specs.declared.halt.Stop.{Stop}
use Rattle.tp_policy_text.specs.declared.parsing.ParseError.{ParseError}
use Rattle.tp_policy_text.specs.Parses.{Answers, refusal_of}
use Rattle.tp_policy_text.specs.mirrors.Readers.{policy_at}
use Rattle.tp_policy_text.proofs.AnswerLaws.{has_one}
use Rattle.tp_policy_text.proofs.Answering.{answers_read, answers_stop}
use Rattle.tp_policy_text.proofs.Few.{read_few}

as_answer : Policy → Result Policy ParseError
as_answer policy = Ok policy

by_outcome : (text t : List ℕ) (policy : Policy) (outcome : Result Policy Stop) → length text ≤ 4096 → Answers text (as_answer policy)
    → policy_at (length text + 1) 16 text ≡ record { outcome = outcome; left = t } → length policy.rules ≤ 4096
unfolding as_answer
by_outcome text t policy (Ok given) fits says h =
    let few = read_few (length text + 1) 16 text t given h in
    let same_answer : as_answer given ≡ as_answer policy = has_one text (Ok given) (Ok policy) (answers_read (length text + 1) text t given fits h) says in
    let same : given ≡ policy = cc in
    let rules = ap (λ (p : Policy). length p.rules) same in
    omega (arith, few, fits, rules)
by_outcome text t policy (Err why) fits says h =
    let short : length text < length text + 1 = omega arith in
    absurd (cc (has_one text (Err (refusal_of why (length text - length t))) (Ok policy) (answers_stop (length text + 1) text t why fits short h) says))

pub few_rules : (text : List ℕ) (policy : Policy) → Answers text (Ok policy) → length policy.rules ≤ 4096
unfolding as_answer
few_rules text policy says =
    let reading = policy_at (length text + 1) 16 text in
    by_outcome text reading.left policy reading.outcome says.0 says refl
