-- The certificate of an evaluation: the first rule in the order of the text that matches and is true, and the credentials that make it so.
use Rattle.std.specs.Prelude.{ℕ, ◌+◌, List, [], ◌∷◌, ◌++◌, Bool, Option, Some, None, option_map, option_and_then, if◌then◌else◌}
use Rattle.std.specs.List.{find}
use Rattle.std.specs.Option.{option_or}
use Rattle.tp_model.specs.Words.{Action, Cond, CredId, Policy, Rule}
use Rattle.tp_types.specs.declared.policy.Cond.{fold-Cond}
use Rattle.tp_types.specs.declared.policy.Cond.TheOpen.{Cond-F, True, Atom, And, Or}
use Rattle.tp_model.specs.Policies.{Triple, matches, meets}
use Rattle.tp_model.specs.Credentials.{is_among}
use Rattle.tp_cred.specs.Holder.{Holder}
use Rattle.tp_cred.specs.Validity.{shows_in}
use Rattle.tp_eval.specs.declared.policies.Certificate.{Certificate}

-- ---- a condition

-- all that members take, one after another, where each takes some
abbrev pub uses_of_all : List (Option (List CredId)) → Option (List CredId)
uses_of_all [] = Some []
uses_of_all (member ∷ members) =
    option_and_then (λ first. option_map (λ others. first ++ others) (uses_of_all members)) member

-- what the first member takes that takes some
abbrev pub uses_of_first : List (Option (List CredId)) → Option (List CredId)
uses_of_first [] = None
uses_of_first (member ∷ members) = option_or member (uses_of_first members)

abbrev pub only : CredId → List CredId
only cred = cred ∷ []

-- one level of a condition, where it is known what its members take
abbrev pub level : ((Triple → Bool) → CredId → Bool) → List CredId → Cond-F (Option (List CredId))
    → Option (List CredId)
level shows presented True = Some []
level shows presented (Atom issuer attr op wanted) =
    option_map only (find (shows (meets issuer attr op wanted)) presented)
level shows presented (And members) = uses_of_all members
level shows presented (Or members) = uses_of_first members

-- the credentials that make a condition true, or None where it is false: for an atom the first presented that shows it, for And
-- those of all members from the left, for Or those of the first member that is true
abbrev pub uses_of : ((Triple → Bool) → CredId → Bool) → List CredId → Cond → Option (List CredId)
uses_of shows presented condition = fold-Cond (Option (List CredId)) (level shows presented) condition

-- ---- each once

abbrev pub with_cred : List CredId → CredId → List CredId
with_cred creds cred = if is_among creds cred then creds else creds ++ cred ∷ []

-- adds each that is not there yet, so that one stands at its first use
abbrev pub once : List CredId → List CredId → List CredId
once creds [] = creds
once creds (cred ∷ others) = once (with_cred creds cred) others

-- ---- a policy

-- what the condition of a rule takes that matches
abbrev pub uses_of_rule : ((Triple → Bool) → CredId → Bool) → List CredId → Action → List ℕ → Rule
    → Option (List CredId)
uses_of_rule shows presented asked item rule =
    if matches asked item rule then uses_of shows presented rule.cond else None

abbrev pub certificate_of : ℕ → List CredId → Certificate
certificate_of number creds = record { rule = number; uses = once [] creds }

-- the certificate of the first rule that is true, where rules are counted from this number
abbrev pub first_certificate : (Rule → Option (List CredId)) → ℕ → List Rule → Option Certificate
first_certificate takes number [] = None
first_certificate takes number (rule ∷ rules) =
    option_or (option_map (certificate_of number) (takes rule))
    (first_certificate takes (number + 1) rules)

-- the certificate of the first rule that matches and is true of the valid credentials of the subject that are presented
abbrev pub certificate : Policy → Action → List ℕ → Holder → List CredId → Option Certificate
certificate policy asked item holder presented =
    first_certificate (uses_of_rule (shows_in holder) presented asked item) 1 policy.rules

-- ---- the parts of a certificate

-- the number of its rule
abbrev pub rule_number : Certificate → ℕ
rule_number certificate = certificate.rule

-- the credentials that it uses; none where there is no certificate
abbrev pub uses_in : Option Certificate → List CredId
uses_in None = []
uses_in (Some certificate) = certificate.uses
