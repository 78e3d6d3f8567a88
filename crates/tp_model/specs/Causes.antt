-- Causes of aborts: what a history shows where a transaction aborted. Each cause has its row: a denial, a value out of its item's
-- range, a death for an older transaction, a newer version, rounds that each met one, a server's restart, and a halt of the coordinator.
use Rattle.std.specs.Prelude.{ℕ, ◌==◌, ◌&&◌, ◌||◌, nat_le, nat_lt, List, [], ◌∷◌, drop, length, slice_get, Bool, true, false, Option, not, is_some, option_map, ℤ}
use Rattle.std.specs.List.{count_by, find, list_all, list_any}
use Rattle.std.specs.Option.{option_map_or}
use Rattle.std.specs.Ordering.{int_eq}
use Rattle.tp_model.specs.Words.{Actor, AdminId, Cause, Denied, Died, Fact, Item, ItemId, Met, Newer, OutOfRange, Query, Scenario, Scheme, ServerId, Transaction, TxnId, What}
use Rattle.tp_model.specs.Words.actor
use Rattle.tp_model.specs.Words.cause
use Rattle.tp_model.specs.Words.decision
use Rattle.tp_model.specs.Words.outcome
use Rattle.tp_model.specs.Words.scheme
use Rattle.tp_model.specs.Words.what
use Rattle.tp_types.specs.declared.scenario.Query.TheVariants.{Read, Write}
use Rattle.tp_model.specs.Authorisation.{Question, is_allowed, is_own_query, policy_at}
use Rattle.tp_model.specs.Demand.{is_incremental}
use Rattle.tp_model.specs.Facts.{before, is_settled_as, is_settlement, is_submission, same_outcome}
use Rattle.tp_model.specs.Ids.{same_admin, same_item, same_server, same_txn}
use Rattle.tp_model.specs.Levels.{is_global, level_of}
use Rattle.tp_model.specs.Limits.{is_between}
use Rattle.tp_model.specs.Queries.{is_at_server, item_of, query_at, servers_of}
use Rattle.tp_model.specs.SerialRun.{run_value, store_at}
use Rattle.tp_model.specs.Trust.{is_within}
use Rattle.tp_model.specs.Versions.{newest}

-- ---- denied

-- the scheme brings an instance up to the newest versions before a proof of it may deny
abbrev pub denies_at_newest : Scheme → Bool
denies_at_newest scheme.Deferred = true
denies_at_newest scheme.Continuous = true
denies_at_newest _ = false

abbrev pub is_bound_to_newest : Transaction → Denied → Bool
is_bound_to_newest txn denied = is_global (level_of txn denied.admin) && denies_at_newest txn.scheme

-- the version was published by the decision; where the newest is asked for it was the newest at the place, or a later one
abbrev pub is_denied_version : Scenario → ℕ → List Fact → Transaction → Denied → Bool
is_denied_version sc decided facts txn denied =
    is_some (policy_at sc denied.admin denied.version)
    && nat_le denied.version.0 (newest sc denied.admin decided facts)
    && (not (is_bound_to_newest txn denied)
    || nat_le (newest sc denied.admin denied.place facts) denied.version.0)

-- what a denial answers
abbrev pub denied_question : Denied → Question
denied_question denied =
    record {
      query = denied.query;
      admin = denied.admin;
      version = denied.version;
      place = denied.place;
    }

-- the policy does not allow the query, on what the transaction held at a place between submission and decision
abbrev pub is_denied : Scenario → TxnId → ℕ → List Fact → Denied → Transaction → Bool
is_denied sc txn decided facts denied declared =
    is_own_query sc declared denied.query denied.server denied.admin
    && is_within txn decided facts denied.place
    && is_denied_version sc decided facts declared denied
    && not (is_allowed sc facts declared (denied_question denied))

-- ---- restarted and halted

abbrev pub is_server_actor : ServerId → Actor → Bool
is_server_actor at (actor.Server other) = same_server other at
is_server_actor at _ = false

abbrev pub is_coordinator_actor : TxnId → Actor → Bool
is_coordinator_actor txn (actor.Coordinator other) = same_txn other txn
is_coordinator_actor txn _ = false

abbrev pub is_crash_what : (Actor → Bool) → What → Bool
is_crash_what who (what.Crashed crashed) = who crashed
is_crash_what who _ = false

-- the fact is a crash of such an actor between the submission and the decision
abbrev pub is_crash_within : (Actor → Bool) → TxnId → ℕ → List Fact → Fact → Bool
is_crash_within who txn decided facts fact =
    is_crash_what who fact.what && is_within txn decided facts fact.place

abbrev pub crashed_within : (Actor → Bool) → TxnId → ℕ → List Fact → Bool
crashed_within who txn decided facts = list_any (is_crash_within who txn decided facts) facts

-- the server is one of the transaction's
abbrev pub is_server_of : Scenario → ServerId → Transaction → Bool
is_server_of sc at declared = list_any (same_server at) (servers_of sc declared)

-- ---- out of range

abbrev pub is_write_of : ItemId → Query → Bool
is_write_of item (Read other into) = false
is_write_of item (Write other expr) = same_item other item

-- the value is outside the range of the item, which the server has
abbrev pub is_outside_range : ServerId → ℤ → Item → Bool
is_outside_range at value item =
    same_server item.server at && not (is_between item.min item.max value)

-- the query writes an item that no later one writes; the server has the item, and the value is outside its range
abbrev pub is_refused_write : Scenario → ServerId → ℤ → List Query → Query → Bool
is_refused_write sc at value later (Read item into) = false
is_refused_write sc at value later (Write item expr) =
    not (list_any (is_write_of item) later)
    && option_map_or (is_outside_range at value) (slice_get sc.items item.0) false

-- so is the query of this number, and those with greater numbers are later
abbrev pub has_refused_write : Scenario → Transaction → OutOfRange → Bool
has_refused_write sc declared refused =
    option_map_or
    (is_refused_write sc refused.server refused.value (drop refused.query declared.queries))
    (query_at declared refused.query) false

-- before the decision the server had settled the transaction as an abort
abbrev pub was_refused_at : ServerId → TxnId → ℕ → List Fact → Bool
was_refused_at at txn decided facts =
    list_any (is_settled_as at txn outcome.Abort) (before decided facts)

abbrev pub is_abort_what : TxnId → What → Bool
is_abort_what txn (what.Settled at other ended) =
    same_txn other txn && same_outcome ended outcome.Abort
is_abort_what txn _ = false

-- the fact settles the transaction as an abort, at whichever server
abbrev pub is_abort : TxnId → Fact → Bool
is_abort txn fact = is_abort_what txn fact.what

abbrev pub place_of : Fact → ℕ
place_of fact = fact.place

-- the place of the first such fact
abbrev pub first_abort_of : TxnId → List Fact → Option ℕ
first_abort_of txn facts = option_map place_of (find (is_abort txn) facts)

abbrev pub is_own_server : Scenario → Transaction → Actor → Bool
is_own_server sc declared (actor.Server at) = is_server_of sc at declared
is_own_server sc declared _ = false

-- a server of the transaction crashed between its submission and the place, so that work of it may be lost
abbrev pub lost_work : Scenario → TxnId → List Fact → Transaction → ℕ → Bool
lost_work sc txn facts declared place =
    crashed_within (is_own_server sc declared) txn place facts

-- the value is that of the query where the transaction runs by itself on the store before the place
abbrev pub is_run_value : Scenario → List Fact → OutOfRange → Transaction → ℕ → Bool
is_run_value sc facts refused declared place =
    option_map_or (int_eq refused.value)
    (run_value declared (store_at sc place facts) refused.query) false

abbrev pub is_explained_at : Scenario → TxnId → List Fact → OutOfRange → Transaction → ℕ → Bool
is_explained_at sc txn facts refused declared place =
    lost_work sc txn facts declared place || is_run_value sc facts refused declared place

-- at the place where the transaction first aborted, the value is that of its run on the store, if none of its work was lost by then
abbrev pub is_explained : Scenario → TxnId → List Fact → OutOfRange → Transaction → Bool
is_explained sc txn facts refused declared =
    option_map_or (is_explained_at sc txn facts refused declared) (first_abort_of txn facts) false

-- a server refused the last write of an item, whose value is outside the item's range
abbrev pub is_refused : Scenario → TxnId → ℕ → List Fact → OutOfRange → Transaction → Bool
is_refused sc txn decided facts refused declared =
    has_refused_write sc declared refused
    && was_refused_at refused.server txn decided facts
    && is_explained sc txn facts refused declared

-- ---- died

-- one of the queries writes the item that the other reads or writes
abbrev pub is_conflict : Query → Query → Bool
is_conflict one other = is_write_of (item_of other) one || is_write_of (item_of one) other

abbrev pub conflicts_with : Query → Transaction → Bool
conflicts_with query declared = list_any (is_conflict query) declared.queries

-- the other is a transaction of the scenario, and has a query in conflict with this one
abbrev pub has_conflict : Scenario → TxnId → Query → Bool
has_conflict sc other query =
    option_map_or (conflicts_with query) (slice_get sc.txns other.0) false

-- the query is on an item of the server, and the other transaction has one in conflict with it
abbrev pub is_contested_query : Scenario → Died → Query → Bool
is_contested_query sc died query =
    is_at_server sc died.server.0 query && has_conflict sc died.other query

-- so is the transaction's query of this number
abbrev pub has_contested_query : Scenario → Transaction → Died → Bool
has_contested_query sc declared died =
    option_map_or (is_contested_query sc died) (query_at declared died.query) false

-- the place of the transaction's first submission
abbrev pub submitted_at : TxnId → List Fact → Option ℕ
submitted_at txn facts = option_map place_of (find (is_submission txn) facts)

-- the facts before the transaction's submission; none where it was not submitted
abbrev pub before_submission : TxnId → List Fact → List Fact
before_submission txn facts =
    option_map_or (λ (place : ℕ). before place facts) (submitted_at txn facts) []

-- the other was submitted before the transaction was, so it is the older one
abbrev pub was_submitted_before : TxnId → TxnId → List Fact → Bool
was_submitted_before other txn facts =
    list_any (is_submission other) (before_submission txn facts)

-- before the transaction was submitted the server had settled the other, as a commit or as an abort
abbrev pub was_settled_before : ServerId → TxnId → TxnId → List Fact → Bool
was_settled_before at other txn facts =
    list_any (is_settlement at other) (before_submission txn facts)

-- wait-die (Rosenkrantz, Stearns and Lewis 1978): an older transaction in conflict stood in the way of a query. When the younger one was
-- submitted, the server had not settled it; by the place it may have, since an answer that was given may be sent again later
abbrev pub is_older_conflict : Scenario → TxnId → ℕ → List Fact → Died → Transaction → Bool
is_older_conflict sc txn decided facts died declared =
    has_contested_query sc declared died
    && is_within txn decided facts died.place
    && was_submitted_before died.other txn facts
    && not (was_settled_before died.server died.other txn facts)

-- ---- newer versions

abbrev pub is_item_of : AdminId → Item → Bool
is_item_of admin item = same_admin item.admin admin

-- the query is on an item of the administrator
abbrev pub is_query_of : Scenario → AdminId → Query → Bool
is_query_of sc admin query =
    option_map_or (is_item_of admin) (slice_get sc.items (item_of query).0) false

-- the administrator is that of one of the transaction's queries
abbrev pub is_own_admin : Scenario → AdminId → Transaction → Bool
is_own_admin sc admin declared = list_any (is_query_of sc admin) declared.queries

-- the master is read for the administrator, or two queries are on its items: one is proved, and the other meets a newer version
abbrev pub may_meet_newer : Scenario → AdminId → Transaction → Bool
may_meet_newer sc admin declared =
    is_global (level_of declared admin)
    || nat_le 2 (count_by (is_query_of sc admin) declared.queries)

-- incremental: a newer version was found than the one that was used, and it was published by the decision
abbrev pub is_newer_shown : Scenario → ℕ → List Fact → Newer → Transaction → Bool
is_newer_shown sc decided facts newer declared =
    is_incremental declared.scheme && nat_lt newer.used.0 newer.found.0
    && nat_le newer.found.0 (newest sc newer.admin decided facts)
    && is_own_admin sc newer.admin declared
    && may_meet_newer sc newer.admin declared

-- ---- rounds that each met a newer version

-- between submission and decision the master was read for the administrator, and its newest version was newer than the one used
abbrev pub is_met_shown : Scenario → TxnId → ℕ → List Fact → Transaction → Met → Bool
is_met_shown sc txn decided facts declared met =
    is_global (level_of declared met.admin) && is_own_admin sc met.admin declared
    && is_within txn decided facts met.place
    && nat_lt met.used.0 met.newest.0
    && (met.newest.0 == newest sc met.admin met.place facts)

-- the round came after the place of the one before, and used the version that was the newest there
abbrev pub is_met_after : Scenario → List Fact → ℕ → Met → Bool
is_met_after sc facts place next =
    nat_lt place next.place && (next.used.0 == newest sc next.admin place facts)

-- so did each round after the first
abbrev pub are_met_on : Scenario → List Fact → List Met → Bool
are_met_on sc facts [] = true
are_met_on sc facts (one ∷ []) = true
are_met_on sc facts (one ∷ next ∷ mets) =
    is_met_after sc facts one.place next && are_met_on sc facts (next ∷ mets)

-- as many rounds as the transaction may ask for each met a newer version; incremental has no rounds
abbrev pub are_rounds_shown : Scenario → TxnId → ℕ → List Fact → List Met → Transaction → Bool
are_rounds_shown sc txn decided facts mets declared =
    not (is_incremental declared.scheme) && (length mets == declared.rounds)
    && list_all (is_met_shown sc txn decided facts declared) mets
    && are_met_on sc facts mets

-- ---- all causes

-- the history shows the cause of an abort that was decided at the place
abbrev pub is_shown : Scenario → TxnId → ℕ → List Fact → Cause → Transaction → Bool
is_shown sc txn decided facts (cause.Denied denied) declared =
    is_denied sc txn decided facts denied declared
is_shown sc txn decided facts (cause.No refused) declared =
    is_refused sc txn decided facts refused declared
is_shown sc txn decided facts (cause.Died died) declared =
    is_older_conflict sc txn decided facts died declared
is_shown sc txn decided facts (cause.Newer newer) declared =
    is_newer_shown sc decided facts newer declared
is_shown sc txn decided facts (cause.Rounds mets) declared =
    are_rounds_shown sc txn decided facts mets declared
is_shown sc txn decided facts (cause.Restarted at) declared =
    is_server_of sc at declared && crashed_within (is_server_actor at) txn decided facts
is_shown sc txn decided facts cause.Halted declared =
    crashed_within (is_coordinator_actor txn) txn decided facts

abbrev pub keeps_causes_what : Scenario → List Fact → ℕ → What → Bool
keeps_causes_what sc facts place (what.Decided txn (decision.Abort why)) =
    option_map_or (is_shown sc txn place facts why) (slice_get sc.txns txn.0) false
keeps_causes_what sc facts place _ = true

-- the rule of a fact beside all facts: an abort has its cause
abbrev pub keeps_causes : Scenario → List Fact → Fact → Bool
keeps_causes sc facts fact = keeps_causes_what sc facts fact.place fact.what

-- every abort has its cause
abbrev pub is_caused : Scenario → List Fact → Bool
is_caused sc facts = list_all (keeps_causes sc facts) facts
