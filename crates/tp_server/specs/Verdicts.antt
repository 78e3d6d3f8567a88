-- A server's verdicts: each is what a version of a policy gives on what the transaction presents. It is the version that is wanted, or
-- else the one that the server knows, which is no less than the one that is pinned for a query.
use Rattle.std.specs.Prelude.{ℕ, ◌≡◌, ◌<◌, ◌^◌, List, [], ◌∷◌, None, Option, Some, length, map, option_map, slice_get, unwrap_or}
use Rattle.tp_model.specs.Authorisation.{policy_at}
use Rattle.tp_model.specs.Words.{AdminId, Deed, Item, ItemId, Policy, Scenario, Staple, Transaction, Verdict, Version}
use Rattle.tp_model.specs.WantedVersions.{wanted_of}
use Rattle.tp_store.specs.Contents.{Contents}
use Rattle.tp_store.specs.Rule.{newest_in, with_version}
use Rattle.tp_server.specs.Evaluation.{evaluation}
use Rattle.tp_server.specs.State.{Server}

-- the administrator of an item; that of the first where there is no such item
abbrev pub admin_of : Scenario → ItemId → AdminId
admin_of sc item =
    unwrap_or (option_map (λ (i : Item). i.admin) (slice_get sc.items item.0)) (record { 0 = 0 })

-- ---- versions

-- the version that the server knows of an administrator
abbrev pub version_known : Server → AdminId → Version
version_known s admin = newest_in s.store admin

-- a store that has learnt each of these versions
abbrev pub with_versions : Contents → List (AdminId × Version) → Contents
with_versions store [] = store
with_versions store (wanted ∷ want) = with_versions (with_version store wanted.0 wanted.1) want

-- the server once it has learnt each of these versions
abbrev pub with_wants : Server → List (AdminId × Version) → Server
with_wants s want = record s { store = with_versions s.store want }

-- the versions known once this one is, if it is given
abbrev pub known_with : Contents → AdminId → Option Version → List Version
known_with store admin None = store.known
known_with store admin (Some version) = (with_version store admin version).known

-- the server once it has learnt the version that is pinned for a query, if one is
abbrev pub with_pin : Server → AdminId → Option Version → Server
with_pin s admin pin =
    record s { store = record s.store { known = known_with s.store admin pin } }

abbrev pub version_or : Option ℕ → Version → Version
version_or None known = known
version_or (Some wanted) known = record { 0 = wanted }

-- the version that is wanted of an administrator, if any is, and else the one known
abbrev pub version_used : Server → List (AdminId × Version) → AdminId → Version
version_used s want admin = version_or (wanted_of want admin) (version_known s admin)

-- ---- verdicts

-- the verdict on a deed of the transaction: that of the version of the administrator of its item, at the clock and the revocations of
-- the staple
abbrev pub verdict_on : Scenario → Server → Transaction → Staple → List (AdminId × Version) → Deed
    → Verdict
verdict_on sc s txn staple want deed =
    evaluation sc txn staple s.server deed.query (admin_of sc deed.item)
    (version_used s want (admin_of sc deed.item))

abbrev pub verdicts_on : Scenario → Server → Transaction → Staple → List (AdminId × Version)
    → List Deed → List Verdict
verdicts_on sc s txn staple want deeds = map (verdict_on sc s txn staple want) deeds

-- ---- what the program that evaluates rests on

-- no policy has more rules than a certificate counts
abbrev pub HasFewRules : Scenario → Type 0
HasFewRules sc =
    (admin : AdminId) (version : Version) (policy : Policy)
    → policy_at sc admin version ≡ Some policy → length policy.rules < 2 ^ 32
