-- Of an atom that is false each presented credential of its issuer and attribute fails a test.
use Rattle.std.proofs.Common.{◌≡◌, ℕ, Bool, true, false, not, ◌&&◌, ◌||◌, nat_le, nat_lt, cond, List, [], ◌∷◌, Option, Some, None, slice_get, option_and_then, option_map, refl, sym, ◌∙◌, true≢false, arith}
use Rattle.std.proofs.lemmas.Bool.Decides.{nat_tests}
use Rattle.std.specs.List.{list_any}
use Rattle.std.specs.Option.{option_map_or}
use Rattle.tp_types.proofs.ListLemmas.{any_kept}
use Rattle.tp_model.specs.Words.{CredId, Credential, Fact, Scenario, Transaction}
use Rattle.tp_model.specs.Credentials.{clock_at, is_among, is_valid, revoked_at, said_in}
use Rattle.tp_model.specs.Ids.{same_name}
use Rattle.tp_model.specs.Policies.{meets}
use Rattle.tp_why.specs.declared.atoms.Atom.{Atom}
use Rattle.tp_why.specs.declared.nearest.Failing.{Failing}
use Rattle.tp_why.specs.declared.nearest.Fault.{Fault}
use Rattle.tp_why.specs.Laws.{AbsentIsOfNone, is_there}
use Rattle.tp_why.specs.Nearest.{failing, failing_as, failing_with, fault_of, is_of, is_said, nearer, nearest_by}

-- ---- one credential

-- a credential that fails no test counts, and says what is asked
no_fault : (subject value early late revoked : Fault) (own said before behind gone : Bool)
    → (cond (not own) (Some subject) (cond (not said) (Some value) (cond before (Some early) (cond behind (Some late) (cond gone (Some revoked) None))))) ≡ None
    → (own ≡ true) × (said ≡ true) × (before ≡ false) × (behind ≡ false) × (gone ≡ false)
no_fault subject value early late revoked false said before behind gone e = cc
no_fault subject value early late revoked true false before behind gone e = cc
no_fault subject value early late revoked true true true behind gone e = cc
no_fault subject value early late revoked true true false true gone e = cc
no_fault subject value early late revoked true true false false true e = cc
no_fault subject value early late revoked true true false false false e = (refl, refl, refl, refl, refl)

no_failing : (cred : CredId) (fault : Option Fault) → option_map (failing_with cred) fault ≡ None → fault ≡ None
no_failing cred None e = refl
no_failing cred (Some fault) e = cc

-- the test of what a credential says of the subject
abbrev passes : Scenario → Transaction → Atom → CredId → Bool
passes sc declared atom cred =
    option_map_or (meets atom.issuer atom.attr atom.op atom.wanted) (said_in sc.creds declared.subject cred) false

module _ (sc : Scenario) (place : ℕ) (facts : List Fact) (declared : Transaction) (atom : Atom) where
  counts : (cred : CredId) (credential : Credential) → slice_get sc.creds cred.0 ≡ Some credential → fault_of sc place facts declared atom cred credential ≡ None
      → (passes sc declared atom cred && is_valid sc place facts cred) ≡ true
  counts cred credential found e =
      let clock = clock_at sc place facts in
      let tests = no_fault _ _ _ _ _ (same_name credential.subject declared.subject) (is_said atom credential) (nat_lt clock credential.from) (nat_lt credential.until clock)
      (is_among (revoked_at place facts) cred) e in
      let begun : nat_le credential.from clock ≡ true = not_before credential.from clock tests.2 in
      let lasting : nat_le clock credential.until ≡ true = not_before clock credential.until tests.3 in
      rw (found, tests.0, tests.1, begun, lasting, tests.4) refl
    where
      not_before : (n m : ℕ) → nat_lt m n ≡ false → nat_le n m ≡ true
      not_before n m e = grind (arith, nat_tests)

  not_of : (cred : CredId) (credential : Credential) (of_kind : Bool) → is_of atom credential ≡ of_kind → slice_get sc.creds cred.0 ≡ Some credential
      → (passes sc declared atom cred && is_valid sc place facts cred) ≡ false
      → cond of_kind (option_map (failing_with cred) (fault_of sc place facts declared atom cred credential)) None ≡ None → is_of atom credential ≡ false
  not_of cred credential false is found untrue none = is
  not_of cred credential true is found untrue none =
      absurd (true≢false (sym (counts cred credential found (no_failing cred (fault_of sc place facts declared atom cred credential) none)) ∙ untrue))

  not_there : (cred : CredId) (found : Option Credential) → slice_get sc.creds cred.0 ≡ found
      → (passes sc declared atom cred && is_valid sc place facts cred) ≡ false
      → option_and_then (failing_as sc place facts declared atom cred) found ≡ None → option_map_or (is_of atom) found false ≡ false
  not_there cred None is untrue none = refl
  not_there cred (Some credential) is untrue none = not_of cred credential (is_of atom credential) refl is untrue none

  -- ---- all of them

  neither : (one other : Option Failing) → nearer one other ≡ None → (one ≡ None) × (other ≡ None)
  neither None other e = (refl, e)
  neither (Some one) None e = cc
  neither (Some one) (Some other) e = one_of_two one other _ e
    where
      one_of_two : (one other : Failing) (b : Bool) → cond b (Some other) (Some one) ≡ None → (◌≡◌ {A = Option Failing} (Some one) None) × (◌≡◌ {A = Option Failing} (Some other) None)
      one_of_two one other true e = cc
      one_of_two one other false e = cc

  none_there : (creds : List CredId) → list_any (λ cred. passes sc declared atom cred && is_valid sc place facts cred) creds ≡ false
      → nearest_by (failing sc place facts declared atom) creds ≡ None → list_any (is_there sc atom) creds ≡ false
  none_there [] untrue none = refl
  none_there (cred ∷ creds) untrue none =
      let tests = both_false (passes sc declared atom cred && is_valid sc place facts cred) (list_any (λ c. passes sc declared atom c && is_valid sc place facts c) creds) untrue in
      let parts = neither (failing sc place facts declared atom cred) (nearest_by (failing sc place facts declared atom) creds) none in
      rw (not_there cred (slice_get sc.creds cred.0) refl tests.0 parts.0, none_there creds tests.1 parts.1) refl
    where
      both_false : (a b : Bool) → (a || b) ≡ false → (a ≡ false) × (b ≡ false)
      both_false false b e = (refl, e)
      both_false true b e = absurd (true≢false e)

pub absent_is_of_none : AbsentIsOfNone
absent_is_of_none sc place facts declared atom untrue none =
    none_there sc place facts declared atom declared.creds
    (sym (any_kept (meets atom.issuer atom.attr atom.op atom.wanted) (said_in sc.creds declared.subject) (is_valid sc place facts) (passes sc declared atom) (λ cred. refl) declared.creds) ∙ untrue)
    none
