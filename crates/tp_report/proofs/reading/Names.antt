-- What the law asks of a scenario's names, and which token a name is.
use Rattle.std.proofs.Common.{◌≡◌, ◌<◌, ℕ, nat_lt, Bool, true, false, List, [], ◌∷◌, length, map, slice_get, Option, Some, None, option_map, refl, sym, ap, subst, ◌∙◌, codes}
use Rattle.std.specs.List.{list_all}
use Rattle.std.specs.Option.{option_map_or}
use Rattle.std.proofs.lemmas.Bool.{ltb-true}
use Rattle.std.proofs.lemmas.Option.{slice_get-map}
use Rattle.tp_types.specs.Each.{Each}
use Rattle.tp_types.proofs.EachLemmas.{each_from_all, each_get, missing}
use Rattle.tp_model.specs.Words.{Admin, AdminId, CredId, Credential, Item, ItemId, Scenario, ServerDecl, ServerId, Transaction, TxnId}
use Rattle.tp_model.specs.Ids.{same_name}
use Rattle.tp_model.specs.Valid.{are_distinct, is_admin, is_cred, is_item, is_server, is_txn}
use Rattle.tp_report.specs.ReportText.{admin_name, cred_name, item_name, server_name, txn_name}
use Rattle.tp_report.proofs.reading.Report.{Hub, admin_names, cred_names, item_names, server_names, txn_names}
use Rattle.tp_report.proofs.reading.Steps.{named, place_found}
use Rattle.tp_report.proofs.reading.Tree.{Named, Takes, Tree, place_of}
use Rattle.tp_report.proofs.reading.Words.{is_ending, is_word_byte}

-- names of a kind: apart, and without a byte that ends words
pub record AreNames (names : List (List ℕ)) : Type 0 where
  pub apart : are_distinct same_name names ≡ true
  pub clean : Each (λ (name : List ℕ). list_all is_word_byte name ≡ true) names

pub record Fine (sc : Scenario) : Type 0 where
  pub admins : AreNames (admin_names sc)
  pub creds : AreNames (cred_names sc)
  pub items : AreNames (item_names sc)
  pub servers : AreNames (server_names sc)
  pub txns : AreNames (txn_names sc)
  pub no_none : place_of (cred_names sc) (codes "none") ≡ None
  pub no_server : (n : ℕ) (name : List ℕ) → slice_get (txn_names sc) n ≡ Some name → place_of (server_names sc) name ≡ None

-- the name at a place is clean, and found there
pub record IsNameAt (names : List (List ℕ)) (i : ℕ) (name : List ℕ) : Type 0 where
  pub at : slice_get names i ≡ Some name
  pub clean : list_all is_word_byte name ≡ true
  pub found : place_of names name ≡ Some i

name_at : (names : List (List ℕ)) (i : ℕ) (name : List ℕ) → AreNames names → slice_get names i ≡ Some name → IsNameAt names i name
name_at names i name all at = record { at = at; clean = each_get (λ (n : List ℕ). list_all is_word_byte n ≡ true) names i name all.clean at; found = place_found names i name all.apart at }

pub declared_name : {A : Type 0} (name : A → List ℕ) (xs : List A) (i : ℕ) → AreNames (map name xs) → nat_lt i (length xs) ≡ true → IsNameAt (map name xs) i (option_map_or name (slice_get xs i) [])
declared_name {A} name xs i all low = by_found (slice_get xs i) refl
  where
    by_found : (found : Option A) → slice_get xs i ≡ found → IsNameAt (map name xs) i (option_map_or name found [])
    by_found None e = absurd (missing xs i (ltb-true i (length xs) low) e)
    by_found (Some x) e = name_at (map name xs) i (name x) all (slice_get-map name xs i ∙ ap (option_map name) e)

pub name_taken : {hub : Hub → Tree Hub} {rest : ℕ → Tree Hub} {names : List (List ℕ)} {i : ℕ} {name : List ℕ} (ending : ℕ) → is_ending ending ≡ true → IsNameAt names i name → Takes hub (Named names ending rest) (record { word = name; ending = ending }) (rest i)
name_taken {names = names} {i = i} {name = name} ending e at = named names ending i name at.clean e at.found

module _ {sc : Scenario} (fine : Fine sc) {hub : Hub → Tree Hub} {rest : ℕ → Tree Hub} (ending : ℕ) (e : is_ending ending ≡ true) where
  pub admin_taken : (id : AdminId) → is_admin sc id ≡ true → Takes hub (Named (admin_names sc) ending rest) (record { word = admin_name sc id; ending = ending }) (rest id.0)
  admin_taken id low = name_taken ending e (declared_name (λ (admin : Admin). admin.name) sc.admins id.0 fine.admins low)

  pub cred_taken : (id : CredId) → is_cred sc id ≡ true → Takes hub (Named (cred_names sc) ending rest) (record { word = cred_name sc id; ending = ending }) (rest id.0)
  cred_taken id low = name_taken ending e (declared_name (λ (cred : Credential). cred.name) sc.creds id.0 fine.creds low)

  pub item_taken : (id : ItemId) → is_item sc id ≡ true → Takes hub (Named (item_names sc) ending rest) (record { word = item_name sc id; ending = ending }) (rest id.0)
  item_taken id low = name_taken ending e (declared_name (λ (item : Item). item.name) sc.items id.0 fine.items low)

  pub server_taken : (id : ServerId) → is_server sc id ≡ true → Takes hub (Named (server_names sc) ending rest) (record { word = server_name sc id; ending = ending }) (rest id.0)
  server_taken id low = name_taken ending e (declared_name (λ (server : ServerDecl). server.name) sc.servers id.0 fine.servers low)

  pub txn_taken : (id : TxnId) → is_txn sc id ≡ true → Takes hub (Named (txn_names sc) ending rest) (record { word = txn_name sc id; ending = ending }) (rest id.0)
  txn_taken id low = name_taken ending e (declared_name (λ (txn : Transaction). txn.name) sc.txns id.0 fine.txns low)
