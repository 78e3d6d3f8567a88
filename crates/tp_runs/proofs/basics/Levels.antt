-- What a transaction's levels ask of its rounds: how many there may be, and of which administrators the master is read.
use Rattle.std.specs.List.{list_any}
use Rattle.std.specs.Option.{option_map_or}
use Rattle.std.proofs.Common.{Bool, List, None, Option, Some, [], ap, arith, false, not, refl, replicate, slice_get, subst, suc, sym, true, zero, ℕ, ◌||◌, ◌∷◌, ◌≡◌, ◌≤◌}
use Rattle.std.proofs.lemmas.Bool.{and_parts, or_from, or_left, or_right}
use Rattle.tp_model.specs.Authorisation.{is_item_at, is_own_query, is_query_at}
use Rattle.tp_model.specs.Causes.{is_item_of, is_own_admin, is_query_of}
use Rattle.tp_model.specs.Ids.{same_admin, same_server}
use Rattle.tp_model.specs.Levels.{is_global, is_global_at, is_global_item, is_global_query, level_of, reads_master}
use Rattle.tp_model.specs.Limits.{admins_limit}
use Rattle.tp_model.specs.Queries.{item_of}
use Rattle.tp_model.specs.Words.level
use Rattle.tp_model.specs.Words.{AdminId, Item, Level, Query, Scenario, ServerId, Transaction}
use Rattle.tp_round.proofs.AdminLemmas.{same_ids}
use Rattle.tp_round.proofs.LevelLemmas.{view_for_each}
use Rattle.tp_machine.specs.Named.{IsAdmin}
use Rattle.tp_runs.proofs.basics.Phases.{last_spanned, spanned, spanned_get}
use Rattle.tp_coord.specs.declared.coordinator.Span.{Span}

-- each administrator of the scenario has in the list the level that the transaction asks for it
abbrev pub LevelsFit : Scenario → Transaction → List Level → Type 0
LevelsFit sc txn levels = (admin : AdminId) → IsAdmin sc admin → is_global_at levels admin ≡ is_global (level_of txn admin)

-- the item's administrator has the level view
abbrev pub is_view_item : Transaction → Item → Bool
is_view_item txn item = not (is_global (level_of txn item.admin))

abbrev pub is_view_query : Scenario → Transaction → Query → Bool
is_view_query sc txn query = option_map_or (is_view_item txn) (slice_get sc.items (item_of query).0) false

-- one of these queries is on an item whose administrator has the level view
abbrev pub has_view : Scenario → Transaction → List Query → Bool
has_view sc txn queries = list_any (is_view_query sc txn) queries

-- ---- the administrators of a transaction's queries

any_as : {A : Type 0} (P Q : A → Bool) → ((x : A) → P x ≡ true → Q x ≡ true) → (xs : List A) → list_any P xs ≡ true → list_any Q xs ≡ true
any_as P Q step [] e = absurd (cc)
any_as {A = A} P Q step (x ∷ xs) e = by_first (P x) refl e (any_as P Q step xs)
  where
    by_first : (b : Bool) → P x ≡ b → (b || list_any P xs) ≡ true → (list_any P xs ≡ true → list_any Q xs ≡ true) → (Q x || list_any Q xs) ≡ true
    by_first true here some later = or_left (Q x) (list_any Q xs) (step x here)
    by_first false here some later = or_right (Q x) (list_any Q xs) (later some)

pub item_of_admin : (at : ServerId) (admin : AdminId) (item : Option Item) → option_map_or (is_item_at at admin) item false ≡ true → option_map_or (is_item_of admin) item false ≡ true
item_of_admin at admin None e = absurd (cc)
item_of_admin at admin (Some item) e = (and_parts (same_server item.server at) (same_admin item.admin admin) e).1

own_among : (sc : Scenario) (at : ServerId) (admin : AdminId) (queries : List Query) (n : ℕ) → option_map_or (is_query_at sc at admin) (slice_get queries n) false ≡ true → list_any (is_query_of sc admin) queries ≡ true
own_among sc at admin [] n e = absurd (cc)
own_among sc at admin (query ∷ queries) zero e =
    or_left (is_query_of sc admin query) (list_any (is_query_of sc admin) queries) (item_of_admin at admin (slice_get sc.items (item_of query).0) e)
own_among sc at admin (query ∷ queries) (suc n) e = or_right (is_query_of sc admin query) (list_any (is_query_of sc admin) queries) (own_among sc at admin queries n e)

-- the administrator of one of the transaction's queries is its own
pub own_admin : (sc : Scenario) (declared : Transaction) (number : ℕ) (at : ServerId) (admin : AdminId) → is_own_query sc declared number at admin ≡ true → is_own_admin sc admin declared ≡ true
own_admin sc declared zero at admin e = absurd (cc)
own_admin sc declared (suc before) at admin e = own_among sc at admin declared.queries before e

-- that of one that a round is over is of one of these
pub spanned_admin : (sc : Scenario) (declared : Transaction) (over : Span) (number : ℕ) (at : ServerId) (admin : AdminId) → number ≤ last_spanned over declared → is_own_query sc declared number at admin ≡ true
    → list_any (is_query_of sc admin) (spanned over declared.queries) ≡ true
spanned_admin sc declared over zero at admin low e = absurd (cc)
spanned_admin sc declared over (suc before) at admin low e =
    own_among sc at admin (spanned over declared.queries) before
    (subst (λ (found : Option Query). option_map_or (is_query_at sc at admin) found false ≡ true) (sym (spanned_get over declared.queries before (omega (arith, low)))) e)

global_item : (txn : Transaction) (admin : AdminId) (item : Option Item) → is_global (level_of txn admin) ≡ true → option_map_or (is_item_of admin) item false ≡ true → option_map_or (is_global_item txn) item false ≡ true
global_item txn admin None g e = absurd (cc)
global_item txn admin (Some item) g e = subst (λ (one : AdminId). is_global (level_of txn one) ≡ true) (sym (same_ids item.admin admin e)) g

-- where an own administrator has the level global, the master is read
pub reads_where : (sc : Scenario) (txn : Transaction) (admin : AdminId) → is_own_admin sc admin txn ≡ true → is_global (level_of txn admin) ≡ true → reads_master sc txn ≡ true
reads_where sc txn admin own g =
    any_as (is_query_of sc admin) (is_global_query sc txn) (λ query e. global_item txn admin (slice_get sc.items (item_of query).0) g e) txn.queries own

view_item : (txn : Transaction) (admin : AdminId) (item : Option Item) → is_global (level_of txn admin) ≡ false → option_map_or (is_item_of admin) item false ≡ true → option_map_or (is_view_item txn) item false ≡ true
view_item txn admin None g e = absurd (cc)
view_item txn admin (Some item) g e = subst (λ (one : AdminId). not (is_global (level_of txn one)) ≡ true) (sym (same_ids item.admin admin e)) (ap not g)

-- and where that of one of some queries has not, one of them has the level view
pub viewed_where : (sc : Scenario) (txn : Transaction) (admin : AdminId) (queries : List Query) → list_any (is_query_of sc admin) queries ≡ true → is_global (level_of txn admin) ≡ false → has_view sc txn queries ≡ true
viewed_where sc txn admin queries own g =
    any_as (is_query_of sc admin) (is_view_query sc txn) (λ query e. view_item txn admin (slice_get sc.items (item_of query).0) g e) queries own

none_of : {A : Type 0} (P : A → Bool) → ((x : A) → P x ≡ false) → (xs : List A) → list_any P xs ≡ false
none_of P fails [] = refl
none_of P fails (x ∷ xs) = or_from (P x) (list_any P xs) (fails x) (none_of P fails xs)

no_item : (P : Item → Bool) → ((item : Item) → P item ≡ false) → (found : Option Item) → option_map_or P found false ≡ false
no_item P fails None = refl
no_item P fails (Some item) = fails item

-- a transaction has one level for all administrators: where it reads the master none has the level view
pub reads_unviewed : (sc : Scenario) (txn : Transaction) → reads_master sc txn ≡ true → has_view sc txn txn.queries ≡ false
reads_unviewed sc txn reads = by_level (is_global txn.level) refl
  where
    by_level : (b : Bool) → is_global txn.level ≡ b → has_view sc txn txn.queries ≡ false
    by_level true e = none_of (is_view_query sc txn) (λ query. no_item (is_view_item txn) (λ item. ap not e) (slice_get sc.items (item_of query).0)) txn.queries
    by_level false e =
        let none : reads_master sc txn ≡ false = none_of (is_global_query sc txn) (λ query. no_item (is_global_item txn) (λ item. e) (slice_get sc.items (item_of query).0)) txn.queries in
        absurd (cc)

-- where all administrators have one level, and one of them has the level global, that is the level
pub global_of_all : (one : Level) (admin : AdminId) → is_global_at (replicate admins_limit one) admin ≡ true → is_global one ≡ true
global_of_all level.Global admin e = refl
global_of_all level.View admin e = absurd (let view = view_for_each admin in cc)
