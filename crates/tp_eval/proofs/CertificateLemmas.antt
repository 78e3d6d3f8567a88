-- The certificate of a policy exists exactly where the policy allows, and passes the check.
use Rattle.std.proofs.Common.{◌≡◌, ◌+◌, ℕ, suc, Bool, true, false, ◌&&◌, cond as if_so, List, [], ◌∷◌, ◌++◌, option_map, Option, Some, None, IfSome, slice_get, arith, refl, ap, sym, subst, ◌∙◌}
use Rattle.std.proofs.lemmas.Bool.{and_parts, or_right}
use Rattle.std.proofs.lemmas.List.Folds.{list_any-append}
use Rattle.std.proofs.lemmas.Map.Keys.{IsDistinct-push}
use Rattle.std.specs.Cmp.{IsEquivalence}
use Rattle.std.proofs.lemmas.Cmp.{nat_eq_equiv, on_equiv}
use Rattle.std.specs.List.{IsDistinct, list_all, list_any}
use Rattle.std.specs.Option.{is_some, option_map_or, option_or}
use Rattle.tp_types.proofs.ListLemmas.{all_push}
use Rattle.tp_model.specs.Words.{Action, CredId, Policy, Rule}
use Rattle.tp_model.specs.Authorisation.{rule_in}
use Rattle.tp_model.specs.Ids.{same_cred}
use Rattle.tp_model.specs.Policies.{allows, matches, rule_allows}
use Rattle.tp_model.specs.Credentials.{is_among}
use Rattle.tp_cred.specs.Certificates.{is_checked}
use Rattle.tp_cred.specs.Validity.{shows_in}
use Rattle.tp_eval.specs.declared.policies.Certificate.{Certificate}
use Rattle.tp_eval.specs.Uses.{certificate, certificate_of, first_certificate, once, uses_of_rule, with_cred}
use Rattle.tp_eval.proofs.OnceLemmas.{begins_itself, begins_once}
use Rattle.tp_eval.proofs.SoundLemmas.{Asked, Decides, held_with, is_sound, is_true_of, is_usable, is_valid_for, same_as_itself, takes}

-- ---- each once

all_with : (test : CredId → Bool) (uses : List CredId) (cred : CredId) (there : Bool) → list_all test uses ≡ true → test cred ≡ true
    → list_all test (if_so there uses (uses ++ cred ∷ [])) ≡ true
all_with test uses cred true all here = all
all_with test uses cred false all here = all_push test uses cred all here

-- what is true of all is true of those that stand once
all_once : (test : CredId → Bool) (uses creds : List CredId) → list_all test uses ≡ true → list_all test creds ≡ true → list_all test (once uses creds) ≡ true
all_once test uses [] all others = all
all_once test uses (cred ∷ creds) all others =
    let parts = and_parts (test cred) (list_all test creds) others in
    all_once test (with_cred uses cred) creds (all_with test uses cred (is_among uses cred) all parts.0) parts.1

same_cred_is_equivalence : IsEquivalence same_cred
same_cred_is_equivalence = on_equiv (λ (cred : CredId). cred.0) nat_eq_equiv

none_twice : IsDistinct same_cred []
unfolding IsDistinct
none_twice = tt

distinct_with : (uses : List CredId) (cred : CredId) (there : Bool) → is_among uses cred ≡ there → IsDistinct same_cred uses
    → IsDistinct same_cred (if_so there uses (uses ++ cred ∷ []))
distinct_with uses cred true e distinct = distinct
distinct_with uses cred false e distinct = IsDistinct-push same_cred_is_equivalence uses cred distinct e

-- none stands twice
distinct_once : (uses creds : List CredId) → IsDistinct same_cred uses → IsDistinct same_cred (once uses creds)
distinct_once uses [] distinct = distinct
distinct_once uses (cred ∷ creds) distinct = distinct_once (with_cred uses cred) creds (distinct_with uses cred (is_among uses cred) refl distinct)

any_before : (test : CredId → Bool) (uses more : List CredId) → list_any test uses ≡ true → list_any test (uses ++ more) ≡ true
any_before test uses more any = list_any-append test uses more ∙ rw any refl

among_with : (uses : List CredId) (cred : CredId) (there : Bool) → is_among uses cred ≡ there → is_among (if_so there uses (uses ++ cred ∷ [])) cred ≡ true
among_with uses cred true e = e
among_with uses cred false e =
    list_any-append (same_cred cred) uses (cred ∷ [])
    ∙ or_right (is_among uses cred) (is_among (cred ∷ []) cred) (rw (same_as_itself cred) refl)

-- each that is added is there
has_all : (uses creds : List CredId) → list_all (is_among (once uses creds)) creds ≡ true
has_all uses [] = refl
has_all uses (cred ∷ creds) =
    let front = begins_once (with_cred uses cred) (with_cred uses cred) creds (begins_itself (with_cred uses cred)) in
    let there : is_among (with_cred uses cred) cred ≡ true = among_with uses cred (is_among uses cred) refl in
    let here : is_among (once uses (cred ∷ creds)) cred ≡ true =
    ap (λ list. is_among list cred) front.is ∙ any_before (same_cred cred) (with_cred uses cred) front.more there in
    rw here (has_all (with_cred uses cred) creds)

all_first : (one other : CredId → Bool) (creds : List CredId) → list_all (λ cred. one cred && other cred) creds ≡ true → list_all one creds ≡ true
all_first one other [] all = refl
all_first one other (cred ∷ creds) all =
    let parts = and_parts (one cred && other cred) (list_all (λ x. one x && other x) creds) all in
    rw ((and_parts (one cred) (other cred) parts.0).0, all_first one other creds parts.1) refl

all_second : (one other : CredId → Bool) (creds : List CredId) → list_all (λ cred. one cred && other cred) creds ≡ true → list_all other creds ≡ true
all_second one other [] all = refl
all_second one other (cred ∷ creds) all =
    let parts = and_parts (one cred && other cred) (list_all (λ x. one x && other x) creds) all in
    rw ((and_parts (one cred) (other cred) parts.0).1, all_second one other creds parts.1) refl

-- ---- a rule

abbrev is_allowed_by : Asked → Action → List ℕ → Rule → List CredId → Bool
is_allowed_by asked action item rule uses = rule_allows action item (held_with asked uses) rule

abbrev takes_rule : Asked → Action → List ℕ → Rule → Option (List CredId)
takes_rule asked action item rule = uses_of_rule (shows_in asked.holder) asked.presented action item rule

rule_decides_where : (asked : Asked) (rule : Rule) (fits : Bool) → Decides asked (λ uses. fits && is_true_of asked rule.cond uses) (if_so fits (takes asked rule.cond) None)
rule_decides_where asked rule true = is_sound asked rule.cond
rule_decides_where asked rule false = refl

rule_decides : (asked : Asked) (action : Action) (item : List ℕ) (rule : Rule) → Decides asked (is_allowed_by asked action item rule) (takes_rule asked action item rule)
rule_decides asked action item rule = rule_decides_where asked rule (matches action item rule)

-- ---- the rules

-- the certificate is of the first rule that is true, where rules are counted from this number
record IsFirst (asked : Asked) (action : Action) (item : List ℕ) (rules : List Rule) (number : ℕ) (found : Certificate) : Type 0 where
  allowed : list_any (λ rule. is_allowed_by asked action item rule asked.presented) rules ≡ true
  at : ℕ
  numbered : found.rule ≡ number + at
  shown : option_map_or (λ rule. is_allowed_by asked action item rule found.uses) (slice_get rules at) false ≡ true
  usable : list_all (is_usable asked) found.uses ≡ true
  distinct : IsDistinct same_cred found.uses

abbrev IsAnswer : Asked → Action → List ℕ → List Rule → ℕ → Option Certificate → Type 0
IsAnswer asked action item rules number None = list_any (λ rule. is_allowed_by asked action item rule asked.presented) rules ≡ false
IsAnswer asked action item rules number (Some found) = IsFirst asked action item rules number found

rule_answers : (asked : Asked) (action : Action) (item : List ℕ) (rule : Rule) (rules : List Rule) (number : ℕ) (taken : Option (List CredId)) (later : Option Certificate)
    → Decides asked (is_allowed_by asked action item rule) taken → IsAnswer asked action item rules (number + 1) later
    → IsAnswer asked action item (rule ∷ rules) number (option_or (option_map (certificate_of number) taken) later)
rule_answers asked action item rule rules number None None decides answer = rw (decides, answer) refl
rule_answers asked action item rule rules number None (Some found) decides answer = record {
  allowed = or_right (is_allowed_by asked action item rule asked.presented) (list_any (λ r. is_allowed_by asked action item r asked.presented) rules) answer.allowed;
  at = suc answer.at;
  numbered = omega (arith, answer.numbered);
  shown = answer.shown;
  usable = answer.usable;
  distinct = answer.distinct;
}
rule_answers asked action item rule rules number (Some creds) later decides answer = record {
  allowed = rw (decides.enough asked.presented (all_first (is_among asked.presented) (is_valid_for asked) creds decides.usable)) refl;
  at = 0;
  numbered = omega arith;
  shown = decides.enough (once [] creds) (has_all [] creds);
  usable = all_once (is_usable asked) [] creds refl decides.usable;
  distinct = distinct_once [] creds none_twice;
}

rules_answer : (asked : Asked) (action : Action) (item : List ℕ) (rules : List Rule) (number : ℕ)
    → IsAnswer asked action item rules number (first_certificate (takes_rule asked action item) number rules)
rules_answer asked action item [] number = refl
rules_answer asked action item (rule ∷ rules) number =
    rule_answers asked action item rule rules number (takes_rule asked action item rule)
    (first_certificate (takes_rule asked action item) (number + 1) rules)
    (rule_decides asked action item rule) (rules_answer asked action item rules (number + 1))

-- ---- the policy

abbrev is_checked_by : Asked → Policy → Action → List ℕ → Certificate → Bool
is_checked_by asked policy action item found = is_checked policy action item asked.holder found.rule found.uses

checked : (asked : Asked) (policy : Policy) (action : Action) (item : List ℕ) (found : Certificate) → IsFirst asked action item policy.rules 1 found
    → is_checked_by asked policy action item found ≡ true
checked asked policy action item found first =
    let number : found.rule ≡ suc first.at = omega (arith, first.numbered) in
    let shows : ℕ → Bool = λ n. option_map_or (λ rule. is_allowed_by asked action item rule found.uses) (rule_in policy n) false in
    let here : shows found.rule ≡ true = ap shows number ∙ first.shown in
    rw (here, all_second (is_among asked.presented) (is_valid_for asked) found.uses first.usable) refl

truth_of : (asked : Asked) (policy : Policy) (action : Action) (item : List ℕ) (answer : Option Certificate) → IsAnswer asked action item policy.rules 1 answer
    → is_some answer ≡ list_any (λ rule. is_allowed_by asked action item rule asked.presented) policy.rules
truth_of asked policy action item None is = sym is
truth_of asked policy action item (Some found) is = sym is.allowed

abbrev certificate_for : Asked → Policy → Action → List ℕ → Option Certificate
certificate_for asked policy action item = certificate policy action item asked.holder asked.presented

pub exists_where_allowed : (asked : Asked) (policy : Policy) (action : Action) (item : List ℕ)
    → is_some (certificate_for asked policy action item)
    ≡ allows policy action item (held_with asked asked.presented)
exists_where_allowed asked policy action item =
    truth_of asked policy action item (certificate_for asked policy action item) (rules_answer asked action item policy.rules 1)

pub passes_where : (asked : Asked) (policy : Policy) (action : Action) (item : List ℕ) (found : Certificate) → certificate_for asked policy action item ≡ Some found
    → is_checked_by asked policy action item found ≡ true
passes_where asked policy action item found e =
    checked asked policy action item found (subst (IsAnswer asked action item policy.rules 1) e (rules_answer asked action item policy.rules 1))

pub presented_where : (asked : Asked) (policy : Policy) (action : Action) (item : List ℕ) (found : Certificate) → certificate_for asked policy action item ≡ Some found
    → list_all (is_among asked.presented) found.uses ≡ true
presented_where asked policy action item found e =
    let first : IsFirst asked action item policy.rules 1 found = subst (IsAnswer asked action item policy.rules 1) e (rules_answer asked action item policy.rules 1) in
    all_first (is_among asked.presented) (is_valid_for asked) found.uses first.usable

-- ---- an answer

pub some_where : {A : Type 0} (found : Option A) (is : A → Type 0) → ((x : A) → found ≡ Some x → is x) → IfSome found is
some_where None is each = tt
some_where (Some x) is each = each x refl

pub distinct_where : (asked : Asked) (policy : Policy) (action : Action) (item : List ℕ) (found : Certificate) → certificate_for asked policy action item ≡ Some found
    → IsDistinct same_cred found.uses
distinct_where asked policy action item found e =
    let first : IsFirst asked action item policy.rules 1 found = subst (IsAnswer asked action item policy.rules 1) e (rules_answer asked action item policy.rules 1) in
    first.distinct
