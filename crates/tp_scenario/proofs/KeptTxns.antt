-- What the walk gives of transactions keeps their rules.
use Rattle.std.proofs.Common.{◌≡◌, ℕ, ◌<◌, ◌&&◌, true, false, List, [], ◌∷◌, length, map, Option, None, Ok, refl, sym, subst, ◌∙◌}
use Rattle.std.specs.List.{list_all, list_any}
use Rattle.std.proofs.lemmas.Bool.{and_from, lt-ltb, not_from_false}
use Rattle.tp_types.proofs.ListLemmas.{all_push, none_passes}
use Rattle.serde_json.specs.Data.{Data}
use Rattle.tp_types.specs.Spelling.{is_name}
use Rattle.tp_model.specs.Words.{CredId, Query, Scenario, ServerDecl, Transaction}
use Rattle.tp_model.specs.Ids.{same_cred, same_name}
use Rattle.tp_model.specs.Limits.{has_count}
use Rattle.tp_model.specs.Valid.{are_distinct, are_valid_txns, is_cred, is_valid_query, is_valid_txn, same_txn_name}
use Rattle.tp_scenario.specs.declared.names.Declared.{Declared}
use Rattle.tp_scenario.specs.declared.path.Key.TheVariants.{Credentials, Level as LevelKey, Name, Queries, Rounds, Scheme as SchemeKey, Subject, Transactions}
use Rattle.tp_scenario.specs.declared.path.Path.{Path}
use Rattle.tp_scenario.specs.declared.path.Path.TheVariants.{Field, Member}
use Rattle.tp_scenario.specs.Names.{Names, place_of}
use Rattle.tp_scenario.specs.Servers.{server_name}
use Rattle.tp_scenario.specs.Txns.{credential_at, credential_in, credentials_at, level_at, queries_at, query_in, scheme_at, txn_at, txn_in, txn_name, txn_name_at, txns_at}
use Rattle.tp_scenario.specs.Values.{field, name_at, object_at}
use Rattle.tp_scenario.proofs.GrowingLists.{any_agrees, any_made, distinct_more}
use Rattle.tp_scenario.proofs.Inverses.{apart_ok, count_or_ok, each_count, each_keeps, items_ok, items_or_ok, named_apart, new_name_ok, new_name_spelled, ok_same, refusal_ok, then_ok, used_at_ok}
use Rattle.tp_scenario.proofs.KeptQueries.{query_kept}
use Rattle.tp_scenario.proofs.NameLemmas.{same_turned, turned}

-- ---- presented credentials

presented_kept : (path : Path) (creds : Names) (made : List CredId) (d : Data) (cred : CredId) → credential_at path creds made d ≡ Ok cred → (cred.0 < length creds) × (list_any (same_cred cred) made ≡ false)
unfolding credential_at
presented_kept path creds made d cred e =
    let place = then_ok _ _ _ e in
    let got = refusal_ok (list_any (same_cred (record { 0 = place.0 })) made) (record { 0 = place.0 }) cred _ place.2 in
    subst (λ (c : CredId). (c.0 < length creds) × (list_any (same_cred c) made ≡ false)) got.1 (used_at_ok path creds _ place.0 place.1, got.0)

creds_kept : (sc : Scenario) (creds : Names) (at : ℕ) (value : Option Data) (all : List CredId) → length creds ≡ length sc.creds → credentials_at creds at value ≡ Ok all
    → (has_count 0 256 all && list_all (is_cred sc) all && are_distinct same_cred all) ≡ true
unfolding credentials_at
creds_kept sc creds at value all count e =
    let names = then_ok _ _ _ e in
    let kept = each_keeps (credential_in creds at) (λ made. (list_all (is_cred sc) made ≡ true) × (are_distinct same_cred made ≡ true))
    (λ made cred d before h.
    let here = presented_kept _ creds made d cred h in (
      all_push (is_cred sc) made cred before.0 (lt-ltb _ _ (subst (λ (n : ℕ). cred.0 < n) count here.0)),
      distinct_more same_cred made cred (any_agrees (λ other. same_cred other cred) (same_cred cred) (λ other. turned other.0 cred.0) made ∙ here.1) before.1,
    ))
    names.0 [] all (refl, refl) names.2 in
    and_from _ _ (and_from _ _ (each_count (credential_in creds at) 0 256 names.0 all (items_or_ok _ 256 value names.0 names.1) names.2) kept.0) kept.1

-- ---- transactions

queries_kept : (sc : Scenario) (items : Names) (at : ℕ) (value : Option Data) (queries : List Query) → length items ≡ length sc.items → queries_at items at value ≡ Ok queries
    → (has_count 1 16 queries ≡ true) × (list_all (is_valid_query sc) queries ≡ true)
unfolding queries_at
queries_kept sc items at value queries count e =
    let texts = then_ok _ _ _ e in (
      each_count (query_in items at) 1 16 texts.0 queries (items_ok _ 1 16 value texts.0 texts.1) texts.2,
      each_keeps (query_in items at) (λ made. list_all (is_valid_query sc) made ≡ true) (λ made asks d before h. all_push (is_valid_query sc) made asks before (query_kept sc _ items d asks count h))
          texts.0 [] queries refl texts.2,
    )

pub record IsNewTxn (sc : Scenario) (names : Names) (txn : Transaction) : Type 0 where
  pub valid : is_valid_txn sc txn ≡ true
  pub new : place_of txn.name names ≡ None
  pub spelled : is_name txn.name ≡ true

name_kept : (sc : Scenario) (txns : Names) (at : ℕ) (value : Option Data) (name : List ℕ) → txn_name_at (map server_name sc.servers) txns at value ≡ Ok name
    → (place_of name txns ≡ None) × (list_any (λ (server : ServerDecl). same_name name server.name) sc.servers ≡ false) × (is_name name ≡ true)
unfolding txn_name_at
name_kept sc txns at value name e =
    let first = then_ok _ _ _ e in
    let other = apart_ok _ (map server_name sc.servers) first.0 name first.2 in (
      subst (λ (n : List ℕ). place_of n txns ≡ None) other.0 (new_name_ok _ txns value first.0 first.1),
      any_agrees (λ (server : ServerDecl). same_name name server.name) (λ (server : ServerDecl). same_name server.name name) (λ server. same_turned name server.name) sc.servers
          ∙ (sym (any_made server_name (λ (server : List ℕ). same_name server name) sc.servers) ∙ none_passes (λ (server : List ℕ). same_name server name) (map server_name sc.servers) other.1),
      subst (λ (n : List ℕ). is_name n ≡ true) other.0 (new_name_spelled _ txns value first.0 first.1),
    )

pub txn_kept : (sc : Scenario) (names : Declared) (at : ℕ) (d : Data) (txn : Transaction) → names.servers ≡ map server_name sc.servers → length names.creds ≡ length sc.creds → length names.items ≡ length sc.items
    → txn_at names at d ≡ Ok txn → IsNewTxn sc names.txns txn
unfolding txn_at
txn_kept sc names at d txn servers creds items e =
    let fields = then_ok (object_at (Member Transactions at) (Name ∷ Subject ∷ Queries ∷ []) (SchemeKey ∷ LevelKey ∷ Rounds ∷ Credentials ∷ []) d) _ _ e in
    let name = then_ok _ _ _ fields.2 in
    let subject = then_ok (name_at (Field Transactions at Subject) (field Subject fields.0)) _ _ name.2 in
    let scheme = then_ok (scheme_at (Field Transactions at SchemeKey) (field SchemeKey fields.0)) _ _ subject.2 in
    let level = then_ok (level_at (Field Transactions at LevelKey) (field LevelKey fields.0)) _ _ scheme.2 in
    let rounds = then_ok _ _ _ level.2 in
    let presented = then_ok _ _ _ rounds.2 in
    let queries = then_ok _ _ _ presented.2 in
    let named = name_kept sc names.txns at _ name.0 (subst (λ (ns : Names). txn_name_at ns names.txns at (field Name fields.0) ≡ Ok name.0) servers name.1) in
    let asks = queries_kept sc names.items at _ queries.0 items queries.1 in
    subst (IsNewTxn sc names.txns) (ok_same _ txn queries.2)
    (record {
      valid = and_from _ _ (and_from _ _ (creds_kept sc names.creds at _ presented.0 creds presented.1) (count_or_ok _ 1 16 8 _ rounds.0 refl rounds.1))
          (and_from _ _ (and_from _ _ asks.0 asks.1) (not_from_false _ named.1));
      new = named.0;
      spelled = named.2;
    })

pub txns_kept : (sc : Scenario) (names : Declared) (value : Option Data) → names.servers ≡ map server_name sc.servers → length names.creds ≡ length sc.creds → length names.items ≡ length sc.items
    → txns_at names value ≡ Ok sc.txns → are_valid_txns sc ≡ true
unfolding txns_at
txns_kept sc names value servers creds items e =
    let values = then_ok _ _ _ e in
    let all = each_keeps (txn_in names) (λ made. (list_all (is_valid_txn sc) made ≡ true) × (are_distinct same_txn_name made ≡ true))
    (λ made txn d before h.
    let here = txn_kept sc (record names { txns = map txn_name made }) (length made) d txn servers creds items h in
    (all_push (is_valid_txn sc) made txn before.0 here.valid, named_apart txn_name made txn here.new before.1))
    values.0 [] sc.txns (refl, refl) values.2 in
    and_from _ _ (and_from _ _ (each_count (txn_in names) 0 128 values.0 sc.txns (items_ok _ 0 128 value values.0 values.1) values.2) all.0) all.1
