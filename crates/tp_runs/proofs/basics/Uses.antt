-- A verdict uses no credential twice, and so at most as many as there are.
use Rattle.std.proofs.Common.{◌≡◌, ℕ, ◌<◌, ◌≤◌, List, [], ◌∷◌, length, map, Bool, true, false, Option, Some, None, slice_get, refl, sym, subst, arith}
use Rattle.std.specs.List.{AllByRecursion, IsDistinct, list_any}
use Rattle.std.specs.Prelude.{◌==◌, ◌||◌}
use Rattle.std.proofs.lemmas.Bool.{eqb-true}
use Rattle.std.proofs.lemmas.List.{length-map}
use Rattle.std.proofs.lemmas.Map.Steps.{length-le_from_distinct_below}
use Rattle.tp_model.specs.Authorisation.{action_of}
use Rattle.tp_model.specs.Ids.{same_cred}
use Rattle.tp_model.specs.Queries.{item_of, query_at}
use Rattle.tp_model.specs.Words.{Action, CredId, Item, Policy, Query, Scenario, Staple, Transaction}
use Rattle.tp_cred.specs.Holder.{holder_of}
use Rattle.tp_eval.proofs.CertificateLemmas.{distinct_where}
use Rattle.tp_eval.specs.Uses.{uses_in}
use Rattle.tp_eval.specs.declared.policies.Certificate.{Certificate}
use Rattle.tp_machine.specs.Named.{IsCred}
use Rattle.tp_server.specs.Evaluation.{certificate_of_item, certificate_of_query, certificate_of_version}
use Rattle.tp_types.specs.Each.{Each}

-- ---- once

item_once : (sc : Scenario) (txn : Transaction) (staple : Staple) (found : Certificate) (asked : Action) (item : Option Item) (policy : Policy) → certificate_of_item sc txn staple asked item policy ≡ Some found
    → IsDistinct same_cred found.uses
item_once sc txn staple found asked None policy e = absurd (cc)
item_once sc txn staple found asked (Some item) policy e =
    distinct_where (record { holder = holder_of sc txn staple.clock staple.revoked; presented = txn.creds }) policy asked item.name found e

query_once : (sc : Scenario) (txn : Transaction) (staple : Staple) (found : Certificate) (query : Option Query) (policy : Policy) → certificate_of_query sc txn staple query policy ≡ Some found
    → IsDistinct same_cred found.uses
query_once sc txn staple found None policy e = absurd (cc)
query_once sc txn staple found (Some query) policy e = item_once sc txn staple found (action_of query) (slice_get sc.items (item_of query).0) policy e

version_once : (sc : Scenario) (txn : Transaction) (staple : Staple) (found : Certificate) (number : ℕ) (policy : Option Policy) → certificate_of_version sc txn staple number policy ≡ Some found
    → IsDistinct same_cred found.uses
version_once sc txn staple found number None e = absurd (cc)
version_once sc txn staple found number (Some policy) e = query_once sc txn staple found (query_at txn number) policy e

none_twice : IsDistinct same_cred []
unfolding IsDistinct
none_twice = tt

-- what an evaluation uses has no credential twice
pub uses_once : (sc : Scenario) (txn : Transaction) (staple : Staple) (number : ℕ) (policy : Option Policy) (answer : Option Certificate) → certificate_of_version sc txn staple number policy ≡ answer
    → IsDistinct same_cred (uses_in answer)
uses_once sc txn staple number policy None e = none_twice
uses_once sc txn staple number policy (Some found) e = version_once sc txn staple found number policy e

-- ---- few

abbrev number_of : CredId → ℕ
number_of cred = cred.0

abbrev numbers_of_creds : List CredId → List ℕ
numbers_of_creds creds = map number_of creds

apart_numbers : (cred : CredId) (creds : List CredId) → AllByRecursion (λ (other : CredId). same_cred cred other ≡ false) creds → AllByRecursion (λ (n : ℕ). (cred.0 == n) ≡ false) (numbers_of_creds creds)
apart_numbers cred [] h = tt
apart_numbers cred (other ∷ creds) h = (h.0, apart_numbers cred creds h.1)

numbers_once : (creds : List CredId) → IsDistinct same_cred creds → IsDistinct (λ (n k : ℕ). n == k) (numbers_of_creds creds)
unfolding IsDistinct
numbers_once [] h = tt
numbers_once (cred ∷ creds) h = (apart_numbers cred creds h.0, numbers_once creds h.1)

-- numbers of credentials that exist are below the count of all
numbers_low : (sc : Scenario) (creds : List CredId) (n : ℕ) → Each (IsCred sc) creds → list_any (λ (k : ℕ). n == k) (numbers_of_creds creds) ≡ true → n < length sc.creds
numbers_low sc [] n h e = absurd (cc)
numbers_low sc (cred ∷ creds) n h e = by_first (n == cred.0) refl (λ f. numbers_low sc creds n h.1 f) e
  where
    by_first : (b : Bool) → (n == cred.0) ≡ b → (list_any (λ (k : ℕ). n == k) (numbers_of_creds creds) ≡ true → n < length sc.creds) → (b || list_any (λ (k : ℕ). n == k) (numbers_of_creds creds)) ≡ true
        → n < length sc.creds
    by_first true same later f = subst (λ (k : ℕ). k < length sc.creds) (sym (eqb-true n cred.0 same)) h.0
    by_first false apart later f = later f

-- credentials that exist, each once, are at most as many as there are
pub creds_few : (sc : Scenario) (creds : List CredId) → Each (IsCred sc) creds → IsDistinct same_cred creds → length creds ≤ length sc.creds
creds_few sc creds exist once =
    let few : length (numbers_of_creds creds) ≤ length sc.creds = length-le_from_distinct_below (numbers_of_creds creds) (length sc.creds) (numbers_once creds once) (λ n e. numbers_low sc creds n exist e) in
    omega (arith, few, length-map creds number_of)
