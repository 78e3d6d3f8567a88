-- What the walk gives of administrators and of credentials keeps their rules.
use Rattle.std.proofs.Common.{◌≡◌, ℕ, nat_le, Bool, true, false, List, [], ◌∷◌, length, map, Option, Some, None, Result, Ok, Err, refl, subst, arith, neg_ℤ, if◌then◌else◌}
use Rattle.std.specs.List.{list_all}
use Rattle.std.proofs.lemmas.Bool.{and_from, le-leb}
use Rattle.std.proofs.lemmas.Bool.Decides.{nat_tests}
use Rattle.tp_types.proofs.ListLemmas.{all_push}
use Rattle.serde_json.specs.Data.{Data}
use Rattle.tp_model.specs.Words.{Admin, Credential, Policy, Value, Version}
use Rattle.tp_types.specs.declared.policy.Value.TheVariants.{Number, Word}
use Rattle.tp_policy_text.specs.declared.parsing.ParseError.{ParseError}
use Rattle.tp_types.specs.Spelling.{is_name}
use Rattle.tp_model.specs.Limits.{clock_limit, has_count, is_from_to, number_limit}
use Rattle.tp_model.specs.Valid.{are_distinct, are_valid_admins, are_valid_creds, is_valid_admin, is_valid_cred, is_valid_policy, is_valid_value, same_admin_name, same_cred_name}
use Rattle.tp_scenario.specs.declared.path.Key.TheVariants.{Admins, Attr, Credentials, From, Issuer, Name, Opening, Policies, Subject, Until, Value as ValueKey}
use Rattle.tp_scenario.specs.declared.path.Path.{Path}
use Rattle.tp_scenario.specs.declared.path.Path.TheVariants.{Field, Member}
use Rattle.tp_scenario.specs.Admins.{admin_at, admin_in, admin_name, admins_at, opening_at, policies_at, policy_text_at, policy_in, policy_or_fault}
use Rattle.tp_scenario.specs.Creds.{cred_at, cred_in, cred_name, creds_at, is_text, number_at, value_at, word_at}
use Rattle.tp_scenario.specs.Names.{Names, place_of}
use Rattle.tp_policy_text.specs.Parses.{Answers}
use Rattle.tp_scenario.specs.Policies.{policy_answer, policy_answer_is}
use Rattle.tp_scenario.specs.Values.{field, name_at, object_at, text_at}
use Rattle.tp_scenario.proofs.FewRules.{few_rules}
use Rattle.tp_scenario.proofs.Inverses.{count_or_ok, each_count, each_keeps, items_ok, items_or_ok, named_apart, new_name_ok, new_name_spelled, ok_same, then_ok, whole_ok}

-- ---- administrators

policy_kept : (path : Path) (d : Data) (policy : Policy) → policy_text_at path d ≡ Ok policy → is_valid_policy policy ≡ true
unfolding policy_text_at
policy_kept path d policy e = let text = then_ok (text_at path (Some d)) _ _ e in by_answer text.0 (policy_answer text.0) (policy_answer_is text.0) text.2
  where
    by_answer : (text : List ℕ) (answer : Result Policy ParseError) → Answers text answer → policy_or_fault path answer ≡ Ok policy → is_valid_policy policy ≡ true
    by_answer text (Ok given) says h = subst (λ (p : Policy). is_valid_policy p ≡ true) (ok_same given policy h) (le-leb _ _ (few_rules text given says))
    by_answer text (Err why) says h = absurd (cc)

policies_kept : (at : ℕ) (value : Option Data) (library : List Policy) → policies_at at value ≡ Ok library → (has_count 1 64 library ≡ true) × (list_all is_valid_policy library ≡ true)
unfolding policies_at
policies_kept at value library e =
    let texts = then_ok _ _ _ e in (
      each_count (policy_in at) 1 64 texts.0 library (items_ok _ 1 64 value texts.0 texts.1) texts.2,
      each_keeps (policy_in at) (λ made. list_all is_valid_policy made ≡ true) (λ made x d kept h. all_push is_valid_policy made x kept (policy_kept _ d x h)) texts.0 [] library refl texts.2,
    )

one_of : (least most n : ℕ) → is_from_to least most n ≡ true → least ≡ 1 → is_from_to 1 n 1 ≡ true
one_of least most n h e = grind (arith, nat_tests)

opening_kept : (at count : ℕ) (value : Option Data) (opening : Version) → is_from_to 1 count 1 ≡ true → opening_at at count value ≡ Ok opening → is_from_to 1 count opening.0 ≡ true
unfolding opening_at
opening_kept at count value opening one e =
    let number = then_ok _ _ _ e in
    subst (λ (v : Version). is_from_to 1 count v.0 ≡ true) (ok_same (record { 0 = number.0 }) opening number.2) (count_or_ok _ 1 count 1 value number.0 one number.1)

pub record IsNewAdmin (names : Names) (admin : Admin) : Type 0 where
  pub valid : is_valid_admin admin ≡ true
  pub new : place_of admin.name names ≡ None
  pub spelled : is_name admin.name ≡ true

pub admin_kept : (names : Names) (at : ℕ) (d : Data) (admin : Admin) → admin_at names at d ≡ Ok admin → IsNewAdmin names admin
unfolding admin_at
admin_kept names at d admin e =
    let fields = then_ok (object_at (Member Admins at) (Name ∷ Policies ∷ []) (Opening ∷ []) d) _ _ e in
    let name = then_ok _ _ _ fields.2 in
    let library = then_ok _ _ _ name.2 in
    let opening = then_ok _ _ _ library.2 in
    let policies = policies_kept at _ library.0 library.1 in
    let one : is_from_to 1 (length library.0) 1 ≡ true = one_of 1 64 (length library.0) policies.0 refl in
    subst (IsNewAdmin names) (ok_same _ admin opening.2)
    (record {
      valid = and_from _ _ (and_from _ _ policies.0 policies.1) (opening_kept at (length library.0) _ opening.0 one opening.1);
      new = new_name_ok _ names _ name.0 name.1;
      spelled = new_name_spelled _ names _ name.0 name.1;
    })

pub admins_kept : (value : Option Data) (admins : List Admin) → admins_at value ≡ Ok admins → are_valid_admins admins ≡ true
unfolding admins_at
admins_kept value admins e =
    let values = then_ok _ _ _ e in
    let all = each_keeps admin_in (λ made. (list_all is_valid_admin made ≡ true) × (are_distinct same_admin_name made ≡ true))
    (λ made x d kept h.
    let here = admin_kept (map admin_name made) (length made) d x h in
    (all_push is_valid_admin made x kept.0 here.valid, named_apart admin_name made x here.new kept.1))
    values.0 [] admins (refl, refl) values.2 in
    and_from _ _ (and_from _ _ (each_count admin_in 1 16 values.0 admins (items_ok _ 1 16 value values.0 values.1) values.2) all.0) all.1

-- ---- credentials

word_kept : (path : Path) (value : Option Data) (given : Value) → word_at path value ≡ Ok given → is_valid_value given ≡ true
unfolding word_at
word_kept path value given e = let word = then_ok (name_at path value) _ _ e in subst (λ (v : Value). is_valid_value v ≡ true) (ok_same (Word word.0) given word.2) refl

number_kept : (path : Path) (value : Option Data) (given : Value) → number_at path value ≡ Ok given → is_valid_value given ≡ true
unfolding number_at
number_kept path value given e =
    let number = then_ok _ _ _ e in
    subst (λ (v : Value). is_valid_value v ≡ true) (ok_same (Number number.0) given number.2) (whole_ok _ (neg_ℤ number_limit) number_limit value number.0 number.1)

value_kept : (path : Path) (value : Option Data) (given : Value) → value_at path value ≡ Ok given → is_valid_value given ≡ true
unfolding value_at
value_kept path value given e = by_kind (is_text value) e
  where
    by_kind : (text : Bool) → (if text then word_at path value else number_at path value) ≡ Ok given → is_valid_value given ≡ true
    by_kind true h = word_kept path value given h
    by_kind false h = number_kept path value given h

from_most : (high n : ℕ) → is_from_to 0 high n ≡ true → nat_le n high ≡ true
from_most high n h = grind (arith, nat_tests)

pub record IsNewCred (names : Names) (cred : Credential) : Type 0 where
  pub valid : is_valid_cred cred ≡ true
  pub new : place_of cred.name names ≡ None
  pub spelled : is_name cred.name ≡ true

pub cred_kept : (names : Names) (at : ℕ) (d : Data) (cred : Credential) → cred_at names at d ≡ Ok cred → IsNewCred names cred
unfolding cred_at
cred_kept names at d cred e =
    let fields = then_ok (object_at (Member Credentials at) (Name ∷ Issuer ∷ Subject ∷ Attr ∷ ValueKey ∷ []) (From ∷ Until ∷ []) d) _ _ e in
    let name = then_ok _ _ _ fields.2 in
    let issuer = then_ok (name_at (Field Credentials at Issuer) (field Issuer fields.0)) _ _ name.2 in
    let subject = then_ok (name_at (Field Credentials at Subject) (field Subject fields.0)) _ _ issuer.2 in
    let attr = then_ok (name_at (Field Credentials at Attr) (field Attr fields.0)) _ _ subject.2 in
    let value = then_ok _ _ _ attr.2 in
    let from = then_ok _ _ _ value.2 in
    let until = then_ok _ _ _ from.2 in
    subst (IsNewCred names) (ok_same _ cred until.2)
    (record {
      valid = and_from _ _ (and_from _ _ (value_kept _ _ value.0 value.1)
          (from_most clock_limit from.0 (count_or_ok _ 0 clock_limit 0 _ from.0 refl from.1)))
          (from_most clock_limit until.0 (count_or_ok _ 0 clock_limit clock_limit _ until.0 refl until.1));
      new = new_name_ok _ names _ name.0 name.1;
      spelled = new_name_spelled _ names _ name.0 name.1;
    })

pub creds_kept : (value : Option Data) (creds : List Credential) → creds_at value ≡ Ok creds → are_valid_creds creds ≡ true
unfolding creds_at
creds_kept value creds e =
    let values = then_ok _ _ _ e in
    let all = each_keeps cred_in (λ made. (list_all is_valid_cred made ≡ true) × (are_distinct same_cred_name made ≡ true))
    (λ made x d kept h.
    let here = cred_kept (map cred_name made) (length made) d x h in
    (all_push is_valid_cred made x kept.0 here.valid, named_apart cred_name made x here.new kept.1))
    values.0 [] creds (refl, refl) values.2 in
    and_from _ _ (and_from _ _ (each_count cred_in 0 256 values.0 creds (items_or_ok _ 256 value values.0 values.1) values.2) all.0) all.1
