-- The levels of a round's proofs: each is of an administrator of its transaction, and the master is read where one is
-- under global consistency.
use Rattle.std.proofs.Common.{Bool, Contains, IfSome, List, None, Option, Some, [], ap, arith, false, inl, length, nat_le, not, refl, replicate, slice_get, subst, suc, sym, true, unwrap_or, zero, ℕ, if◌then◌else◌, ◌<◌, ◌∙◌, ◌∷◌, ◌≡◌, ◌≤◌}
use Rattle.std.proofs.lemmas.Bool.{and_parts, not_from_false, or_from, or_left, or_parts, or_right}
use Rattle.std.proofs.lemmas.Bool.Decides.{nat_tests}
use Rattle.std.proofs.lemmas.Option.{same_Some}
use Rattle.std.specs.List.{list_any}
use Rattle.std.specs.Option.{option_map_or}
use Rattle.tp_types.proofs.EachLemmas.{each_as, each_both, each_flat_map, each_get, missing}
use Rattle.tp_types.proofs.ListLemmas.{three_parts}
use Rattle.tp_types.specs.Each.{Each}
use Rattle.tp_model.specs.Authorisation.{is_item_at, is_own_query, is_query_at}
use Rattle.tp_model.specs.Causes.{is_own_admin, is_query_of}
use Rattle.tp_model.specs.Ids.{same_admin, same_server}
use Rattle.tp_model.specs.Levels.{is_global, is_global_at, is_global_item, is_global_query, level_of, reads_master}
use Rattle.tp_model.specs.Limits.{admins_limit, is_from_to, rounds_limit, view_rounds}
use Rattle.tp_model.specs.Queries.{item_of, query_at}
use Rattle.tp_model.specs.Valid.{has_valid_creds, is_valid_txn}
use Rattle.tp_model.specs.Words.{AdminId, Fact, Item, Level, Query, Scenario, ServerId, Transaction, TxnId, Verdict}
use Rattle.tp_model.specs.Words.level
use Rattle.tp_coord.specs.Row.{level_read}
use Rattle.tp_model.specs.Demand.{most_rounds}
use Rattle.tp_coord.specs.declared.coordinator.Span.{Span}
use Rattle.tp_machine.specs.Named.{IsAdmin}
use Rattle.tp_round.proofs.AdminLemmas.{any_admin, same_ids}
use Rattle.tp_round.proofs.LevelLemmas.{level_for_each}
use Rattle.tp_round.proofs.NamesLemmas.{admins_in}
use Rattle.tp_round.proofs.RoundsLemmas.{are_read_for}
use Rattle.tp_round.specs.Judge.{first_round}
use Rattle.tp_round.specs.Laws.{is_read_for}
use Rattle.tp_round.specs.Replies.{proofs_in, verdicts_in}
use Rattle.tp_round.specs.declared.round.Round.{Round}
use Rattle.tp_runs.proofs.basics.Facts.{all_from_each}
use Rattle.tp_runs.proofs.basics.Homes.{HaveHomes}
use Rattle.tp_runs.proofs.basics.Levels.{LevelsFit, own_admin, reads_where, spanned_admin}
use Rattle.tp_runs.proofs.basics.Phases.{last_spanned, spanned}
use Rattle.tp_runs.proofs.basics.Servers.{servers_over}
use Rattle.tp_runs.proofs.basics.Verdicts.{numbers_of}
use Rattle.tp_runs.proofs.ids.Valid.{IsValid, IsValidItem}
use Rattle.tp_runs.proofs.pairs.Actors.{site_of}
use Rattle.tp_runs.proofs.pairs.Site.{upto_in}
use Rattle.tp_runs.proofs.trust.Fit.{Right}
use Rattle.tp_runs.proofs.trust.Rounds.{AreNumbersAt, RoundFits, TargetFits, new_fit, new_servers, proofs_right}

-- where no member passes a test each fails it
pub each_failing : {A : Type 0} (test : A → Bool) (xs : List A) → list_any test xs ≡ false → Each (λ (x : A). test x ≡ false) xs
each_failing test [] e = tt
each_failing test (x ∷ xs) e = let parts = or_parts (test x) (list_any test xs) e in (parts.0, each_failing test xs parts.1)

-- the administrator of a proof is one of the scenario's, and of one of the transaction's queries
pub record IsOwnProof (sc : Scenario) (declared : Transaction) (verdict : Verdict) : Type 0 where
  pub exists : IsAdmin sc verdict.admin
  pub own : is_own_admin sc verdict.admin declared ≡ true

query_exists : (sc : Scenario) (at : ServerId) (admin : AdminId) (query : Query) → IsValid sc → is_query_at sc at admin query ≡ true → IsAdmin sc admin
query_exists sc at admin query valid e = by_item (slice_get sc.items (item_of query).0) refl e
  where
    by_item : (item : Option Item) → slice_get sc.items (item_of query).0 ≡ item → option_map_or (is_item_at at admin) item false ≡ true → IsAdmin sc admin
    by_item None f g = absurd (cc)
    by_item (Some item) f g =
        let same : item.admin ≡ admin = same_ids item.admin admin (and_parts (same_server item.server at) (same_admin item.admin admin) g).1 in
        subst (IsAdmin sc) same (each_get (IsValidItem sc) sc.items (item_of query).0 item valid.items f).admin

own_exists : (sc : Scenario) (at : ServerId) (admin : AdminId) (query : Option Query) → IsValid sc → option_map_or (is_query_at sc at admin) query false ≡ true → IsAdmin sc admin
own_exists sc at admin None valid e = absurd (cc)
own_exists sc at admin (Some query) valid e = query_exists sc at admin query valid e

pub own_proof : (sc : Scenario) (facts : List Fact) (place : ℕ) (txn : TxnId) (declared : Transaction) (verdict : Verdict) → IsValid sc → slice_get sc.txns txn.0 ≡ Some declared → Right sc facts place txn verdict → IsOwnProof sc declared verdict
own_proof sc facts place txn declared verdict valid found right =
    let own : is_own_query sc declared verdict.query verdict.server verdict.admin ≡ true = (right declared found).own in
    record { exists = own_exists sc verdict.server verdict.admin (query_at declared verdict.query) valid own; own = own_admin sc declared verdict.query verdict.server verdict.admin own }

-- so are all proofs of a round
pub own_proofs : (sc : Scenario) (facts : List Fact) (place : ℕ) (txn : TxnId) (over : Span) (round : Round) (declared : Transaction) → IsValid sc → slice_get sc.txns txn.0 ≡ Some declared → RoundFits sc facts place txn over round
    → Each (IsOwnProof sc declared) (proofs_in round.targets)
own_proofs sc facts place txn over round declared valid found h =
    each_as (Right sc facts place txn) (IsOwnProof sc declared) (λ verdict right. own_proof sc facts place txn declared verdict valid found right) (proofs_in round.targets) (proofs_right sc facts place txn over round h)

-- the administrator of a proof is that of one of the queries that the round is over
abbrev pub IsSpannedProof : Scenario → Span → Transaction → Verdict → Type 0
IsSpannedProof sc over declared verdict = list_any (is_query_of sc verdict.admin) (spanned over declared.queries) ≡ true

each_numbered : (P : ℕ → Type 0) (verdicts : List Verdict) → ((number : ℕ) → Contains (numbers_of verdicts) number → P number) → Each (λ (verdict : Verdict). P verdict.query) verdicts
each_numbered P [] h = tt
each_numbered P (verdict ∷ verdicts) h = (h verdict.query (zero, omega arith, refl), each_numbered P verdicts (λ number there. let within = there.1 in h number (suc there.0, omega (arith, within), there.2)))

reply_spanned : (sc : Scenario) (facts : List Fact) (place : ℕ) (txn : TxnId) (over : Span) (declared : Transaction) (at : ServerId) (reply : Option (List Verdict)) → slice_get sc.txns txn.0 ≡ Some declared
    → Each (Right sc facts place txn) (unwrap_or reply []) → IfSome reply (AreNumbersAt sc txn over at) → Each (IsSpannedProof sc over declared) (unwrap_or reply [])
reply_spanned sc facts place txn over declared at None found right numbers = tt
reply_spanned sc facts place txn over declared at (Some verdicts) found right numbers =
    let last : ℕ = last_spanned over declared in
    each_both (Right sc facts place txn) (λ (verdict : Verdict). verdict.query ≤ last) (IsSpannedProof sc over declared)
    (λ verdict r low. spanned_admin sc declared over verdict.query verdict.server verdict.admin low (r declared found).own) verdicts right
    (each_numbered (λ (number : ℕ). number ≤ last) verdicts (λ number there. (upto_in (site_of sc at.0 declared) last number (subst (λ (ns : List ℕ). Contains ns number) (numbers declared found) there)).high))

pub spanned_proofs : (sc : Scenario) (facts : List Fact) (place : ℕ) (txn : TxnId) (over : Span) (round : Round) (declared : Transaction) → slice_get sc.txns txn.0 ≡ Some declared → RoundFits sc facts place txn over round
    → Each (IsSpannedProof sc over declared) (proofs_in round.targets)
spanned_proofs sc facts place txn over round declared found h =
    each_flat_map (TargetFits sc facts place txn over) (IsSpannedProof sc over declared) verdicts_in (λ target f. reply_spanned sc facts place txn over declared target.server target.reply found f.right f.numbers) round.targets h.targets

-- the administrator is past the last one of the scenario
abbrev is_past_admin : Scenario → AdminId → Bool
is_past_admin sc admin = nat_le (length sc.admins) admin.0

-- so each administrator that has a proof is one of the scenario's
pub own_admins : (sc : Scenario) (declared : Transaction) (round : Round) → Each (IsOwnProof sc declared) (proofs_in round.targets) → Each (IsAdmin sc) (admins_in round)
own_admins sc declared round own =
    let none : list_any (λ (verdict : Verdict). is_past_admin sc verdict.admin) (proofs_in round.targets) ≡ false = none_past (proofs_in round.targets) own in
    each_as (λ (admin : AdminId). is_past_admin sc admin ≡ false) (IsAdmin sc) (λ admin e. there admin e) (admins_in round)
    (each_failing (is_past_admin sc) (admins_in round) (any_admin (is_past_admin sc) (proofs_in round.targets) ∙ none))
  where
    there : (admin : AdminId) → is_past_admin sc admin ≡ false → admin.0 < length sc.admins
    there admin e = grind (arith, nat_tests)

    here : (admin : AdminId) → admin.0 < length sc.admins → is_past_admin sc admin ≡ false
    here admin e = grind (arith, nat_tests)

    none_past : (proofs : List Verdict) → Each (IsOwnProof sc declared) proofs → list_any (λ (verdict : Verdict). is_past_admin sc verdict.admin) proofs ≡ false
    none_past [] k = refl
    none_past (verdict ∷ proofs) k = or_from (is_past_admin sc verdict.admin) (list_any (λ (other : Verdict). is_past_admin sc other.admin) proofs) (here verdict.admin k.0.exists) (none_past proofs k.1)

-- ---- the start, whatever the levels

rounds_between : (rounds : ℕ) → is_from_to 1 rounds_limit rounds ≡ true → (1 ≤ rounds) × (rounds ≤ rounds_limit)
rounds_between rounds e = (grind (arith, nat_tests), grind (arith, nat_tests))

limit_by : (rounds : ℕ) (b : Bool) → (1 ≤ rounds) × (rounds ≤ rounds_limit) → (1 ≤ (if b then rounds else view_rounds)) × ((if b then rounds else view_rounds) ≤ rounds_limit)
limit_by rounds true h = h
limit_by rounds false h = (omega arith, omega arith)

-- a transaction's limit is from one to 16
limit_between : (sc : Scenario) (declared : Transaction) → is_valid_txn sc declared ≡ true → (1 ≤ most_rounds sc declared) × (most_rounds sc declared ≤ rounds_limit)
limit_between sc declared e =
    limit_by declared.rounds (reads_master sc declared) (rounds_between declared.rounds (three_parts (has_valid_creds sc declared) (is_from_to 1 rounds_limit declared.rounds) _ e).1)

-- a transaction of the level view reads no master
view_reads_none : (sc : Scenario) (declared : Transaction) → is_global declared.level ≡ false → (queries : List Query) → list_any (is_global_query sc declared) queries ≡ false
view_reads_none sc declared view [] = refl
view_reads_none sc declared view (asked ∷ queries) = or_from (is_global_query sc declared asked) (list_any (is_global_query sc declared) queries) (of_item (slice_get sc.items (item_of asked).0)) (view_reads_none sc declared view queries)
  where
    of_item : (item : Option Item) → option_map_or (is_global_item declared) item false ≡ false
    of_item None = refl
    of_item (Some item) = view

-- one of the level global does, as it has a query, whose item exists
global_reads : (sc : Scenario) (declared : Transaction) → is_global declared.level ≡ true → (queries : List Query) → 0 < length queries → Each (λ (query : Query). (item_of query).0 < length sc.items) queries
    → list_any (is_global_query sc declared) queries ≡ true
global_reads sc declared global [] some on = absurd (omega (arith, some))
global_reads sc declared global (asked ∷ queries) some on = or_left (is_global_query sc declared asked) (list_any (is_global_query sc declared) queries) (of_item (slice_get sc.items (item_of asked).0) refl)
  where
    of_item : (item : Option Item) → slice_get sc.items (item_of asked).0 ≡ item → option_map_or (is_global_item declared) item false ≡ true
    of_item None e = absurd (missing sc.items (item_of asked).0 on.0 e)
    of_item (Some item) e = global

reads_by_level : (sc : Scenario) (declared : Transaction) (b : Bool) → is_global declared.level ≡ b → 0 < length declared.queries → Each (λ (query : Query). (item_of query).0 < length sc.items) declared.queries
    → reads_master sc declared ≡ b
reads_by_level sc declared false e some on = view_reads_none sc declared e declared.queries
reads_by_level sc declared true e some on = global_reads sc declared e declared.queries some on

-- so it reads the master exactly where its level is global
reads_global : (sc : Scenario) (n : ℕ) (declared : Transaction) → HaveHomes sc → slice_get sc.txns n ≡ Some declared → reads_master sc declared ≡ is_global declared.level
reads_global sc n declared homes found = reads_by_level sc declared (is_global declared.level) refl (homes.some n declared found) (homes.on_items n declared found)

pub read_level : (b : Bool) → is_global (if b then level.Global else level.View) ≡ b
read_level true = refl
read_level false = refl

-- the first round with the limit of its transaction, at the level that it is run at
pub round_begins : (sc : Scenario) (facts : List Fact) (place : ℕ) (txn : TxnId) (over : Span) (declared : Transaction) → HaveHomes sc → IsValid sc → slice_get sc.txns txn.0 ≡ Some declared
    → RoundFits sc facts place txn over (first_round (servers_over sc txn over) (most_rounds sc declared) (replicate admins_limit (level_read sc declared)) (is_global (level_read sc declared)))
round_begins sc facts place txn over declared homes valid found =
    let between = limit_between sc declared (each_get (λ (t : Transaction). is_valid_txn sc t ≡ true) sc.txns txn.0 declared valid.txns found) in
    let same : (other : Transaction) → slice_get sc.txns txn.0 ≡ Some other → declared ≡ other = λ other there. same_Some declared other (sym found ∙ there) in
    let reads : is_global (level_read sc declared) ≡ reads_master sc declared = read_level (reads_master sc declared) in
    let levels = replicate admins_limit (level_read sc declared) in
    let fit : LevelsFit sc declared levels = λ admin exists.
    level_for_each (level_read sc declared) admin (let few = valid.few_admins in omega (arith, exists, few)) ∙ (reads ∙ reads_global sc txn.0 declared homes found) in
    record {
      limit = λ other there. ap (most_rounds sc) (same other there);
      levels = λ other there. subst (λ (t : Transaction). LevelsFit sc t levels) (same other there) fit;
      reads = λ other there. reads ∙ ap (reads_master sc) (same other there);
      servers = new_servers (servers_over sc txn over);
      targets = new_fit sc facts place txn over (servers_over sc txn over);
      count = inl (record { number = refl; aim = refl; named = refl; mets = refl });
      top = between.1;
      few = between.0;
      unread = λ none. refl;
      mets = λ other there. record { shown = refl; on = refl };
    }

-- ---- which proofs the master is read for

-- where the master is not read, a proof is under view consistency
pub unread_view : (sc : Scenario) (declared : Transaction) (levels : List Level) (verdict : Verdict) → LevelsFit sc declared levels → reads_master sc declared ≡ false → IsOwnProof sc declared verdict
    → is_global_at levels verdict.admin ≡ false
unread_view sc declared levels verdict fit unread k = by_level (is_global (level_of declared verdict.admin)) refl
  where
    by_level : (b : Bool) → is_global (level_of declared verdict.admin) ≡ b → is_global_at levels verdict.admin ≡ false
    by_level false e = fit verdict.admin k.exists ∙ e
    by_level true e = let reads = reads_where sc declared verdict.admin k.own e in absurd (cc)

read_for : (sc : Scenario) (declared : Transaction) (round : Round) (verdict : Verdict) → LevelsFit sc declared round.levels → round.reads ≡ reads_master sc declared → IsOwnProof sc declared verdict
    → is_read_for round verdict ≡ true
read_for sc declared round verdict fit reads k = by_reading (reads_master sc declared) refl
  where
    by_reading : (b : Bool) → reads_master sc declared ≡ b → is_read_for round verdict ≡ true
    by_reading true e = or_left round.reads (not (is_global_at round.levels verdict.admin)) (reads ∙ e)
    by_reading false e =
        or_right round.reads (not (is_global_at round.levels verdict.admin)) (not_from_false (is_global_at round.levels verdict.admin) (unread_view sc declared round.levels verdict fit e k))

-- the master is read wherever a proof is under global consistency
pub round_read_for : (sc : Scenario) (facts : List Fact) (place : ℕ) (txn : TxnId) (over : Span) (round : Round) (declared : Transaction) → IsValid sc → slice_get sc.txns txn.0 ≡ Some declared → RoundFits sc facts place txn over round
    → are_read_for round ≡ true
round_read_for sc facts place txn over round declared valid found h =
    all_from_each (IsOwnProof sc declared) (is_read_for round) (λ verdict k. read_for sc declared round verdict (h.levels declared found) (h.reads declared found) k) (proofs_in round.targets)
    (own_proofs sc facts place txn over round declared valid found h)
