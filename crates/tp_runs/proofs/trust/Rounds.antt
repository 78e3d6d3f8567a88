-- Rounds of a coordinator: what a round rests on, at its start, as facts are added, and after each reply.
use Rattle.std.proofs.Common.{Bool, IfSome, List, None, Option, Some, [], ap, arith, cond, false, find, inl, inr, is_none, length, map, refl, slice_get, subst, suc, sym, take, true, zero, ℕ, if◌then◌else◌, ◌+◌, ◌<◌, ◌==◌, ◌||◌, ◌∙◌, ◌∷◌, ◌≡◌, ◌≤◌, ◌⊎◌}
use Rattle.std.proofs.lemmas.Bool.{and_from, and_parts, eq-eqb, eqb-true}
use Rattle.std.specs.List.{count_by, list_all, list_any}
use Rattle.std.specs.Option.{option_map_or}
use Rattle.tp_types.proofs.EachLemmas.{by_cond, each_as, each_flat_map, each_get, each_more, each_of_all, each_two}
use Rattle.tp_types.proofs.ListLemmas.{number_itself}
use Rattle.tp_types.specs.Each.{Each}
use Rattle.tp_model.specs.Agreement.{has_item}
use Rattle.tp_model.specs.Authorisation.{is_item_at, is_own_query, is_query_at}
use Rattle.tp_model.specs.Causes.{are_met_on, is_met_shown}
use Rattle.tp_model.specs.Demand.{most_rounds}
use Rattle.tp_model.specs.Ids.{same_admin, same_server}
use Rattle.tp_model.specs.Levels.{is_global, level_of, reads_master}
use Rattle.tp_model.specs.Limits.{is_empty, rounds_limit, view_rounds}
use Rattle.tp_model.specs.Queries.{is_at_server, item_of, query_at, servers_of}
use Rattle.tp_model.specs.Versions.{is_publication, newest, opening_version}
use Rattle.tp_model.specs.Words.{AdminId, Fact, Item, Met, Query, Reading, Scenario, ServerId, Transaction, TxnId, Verdict, Version}
use Rattle.tp_coord.specs.Row.{want_for}
use Rattle.tp_coord.specs.declared.coordinator.Span.{Span}
use Rattle.tp_coord.specs.declared.coordinator.Span.TheVariants as span
use Rattle.tp_machine.specs.Named.{IsAdmin}
use Rattle.tp_round.proofs.AgreedLemmas.{false_is_least}
use Rattle.tp_round.proofs.KeptLemmas.{server_of, servers_replied}
use Rattle.tp_round.proofs.RoundsLemmas.{IsCounted, aimed_has, are_wanted_at, is_wanted_at, reply_keeps}
use Rattle.tp_round.proofs.VersionLemmas.{are_at, is_at}
use Rattle.tp_round.specs.Judge.{after_reply, awaits, is_aimed, is_missing, judge, new_target, server_of_target, with_reply}
use Rattle.tp_round.specs.Replies.{proofs_in, verdicts_in}
use Rattle.tp_round.specs.declared.round.Judged.TheVariants.{False}
use Rattle.tp_round.specs.declared.round.Round.{Round}
use Rattle.tp_round.specs.declared.round.Target.{Target}
use Rattle.tp_round.specs.declared.round.Wanted.{Wanted}
use Rattle.tp_runs.proofs.basics.Aims.{is_within}
use Rattle.tp_runs.proofs.basics.Levels.{LevelsFit, has_view, is_view_query, reads_unviewed}
use Rattle.tp_runs.proofs.basics.Phases.{last_spanned, only_spanned, spanned, spanned_any, spanned_get}
use Rattle.tp_runs.proofs.basics.Rounds.{EachServer, each_missing, missing_in}
use Rattle.tp_runs.proofs.basics.Servers.{has_item_over, servers_over, servers_over_have}
use Rattle.tp_runs.proofs.basics.Turns.{WantNow}
use Rattle.tp_runs.proofs.basics.Verdicts.{numbers_of}
use Rattle.tp_runs.proofs.pairs.Actors.{site_of}
use Rattle.tp_runs.proofs.pairs.CoordinatorRows.{NamesAt, NamesOver}
use Rattle.tp_runs.proofs.pairs.Fits.{Names, NamesUpto}
use Rattle.tp_runs.proofs.pairs.Site.{Site, here, here_within, upto, with_number}
use Rattle.tp_runs.proofs.trust.Causes.{met_on_stays, met_past, mets_stay}
use Rattle.tp_runs.proofs.trust.Fit.{IsPublished, Later, Right, newest_rises, right_stays}

-- ---- what a round rests on

-- the numbers of these verdicts are those of the transaction's queries at the server that a round is over, in order
abbrev pub AreNumbersAt : Scenario → TxnId → Span → ServerId → List Verdict → Type 0
AreNumbersAt sc txn over at verdicts =
    (declared : Transaction) → slice_get sc.txns txn.0 ≡ Some declared → numbers_of verdicts ≡ upto (site_of sc at.0 declared) (last_spanned over declared)

-- what a server replied is right, and is of all its queries that the round is over
pub record TargetFits (sc : Scenario) (facts : List Fact) (place : ℕ) (txn : TxnId) (over : Span) (target : Target) : Type 0 where
  pub right : Each (Right sc facts place txn) (verdicts_in target)
  pub numbers : IfSome target.reply (AreNumbersAt sc txn over target.server)

abbrev pub want_in : List Wanted → ServerId → List (AdminId × Version)
want_in named server = option_map_or (λ (one : Wanted). one.want) (find (λ (one : Wanted). same_server one.server server) named) []

-- of each administrator of the transaction's queries at the server that a round is over a version is wanted
abbrev pub IsNamedFor : Scenario → TxnId → Span → ServerId → List (AdminId × Version) → Type 0
IsNamedFor sc txn over at want =
    (declared : Transaction) → slice_get sc.txns txn.0 ≡ Some declared → NamesUpto (site_of sc at.0 declared) (last_spanned over declared) want

-- so it is of a server that is awaited
abbrev pub IsCovered : Scenario → TxnId → Span → List Wanted → Target → Type 0
IsCovered sc txn over named target = is_missing target ≡ true → IsNamedFor sc txn over target.server (want_in named target.server)

-- what is wanted of a server is at most the newest
abbrev pub ArePublished : Scenario → List Fact → ℕ → Wanted → Type 0
ArePublished sc facts place named = Each (IsPublished sc facts place) named.want

-- what is wanted of a server is within what is aimed at
abbrev pub IsWithin : List (AdminId × Version) → Wanted → Type 0
IsWithin aim named = Each (λ (wanted : AdminId × Version). is_within aim wanted ≡ true) named.want

-- of rounds that met a newer version, the last
abbrev pub last_met : List Met → Option Met
last_met [] = None
last_met (one ∷ []) = Some one
last_met (one ∷ next ∷ mets) = last_met (next ∷ mets)

-- of an administrator under global consistency the version is the one that was the newest where a round met something
abbrev pub IsFresh : Scenario → List Fact → Transaction → (AdminId → ℕ) → Met → Type 0
IsFresh sc facts declared aimed met = (admin : AdminId) → IsAdmin sc admin → is_global (level_of declared admin) ≡ true → aimed admin ≡ newest sc admin met.place facts

-- a round after an update: there is one version of each administrator which kept replies have and which is wanted. Each
-- round before it met something, but for the first at most, which then brought together what is under view consistency;
-- and under global consistency the version is the one that was the newest where a round met something last
pub record IsLaterRound (sc : Scenario) (facts : List Fact) (place : ℕ) (txn : TxnId) (over : Span) (round : Round) : Type 0 where
  pub number : 2 ≤ round.number
  pub aimed : AdminId → ℕ
  pub kept : list_all (are_at aimed) round.targets ≡ true
  pub aim : list_all (is_wanted_at aimed) round.aim ≡ true
  pub named : list_all (are_wanted_at aimed) round.named ≡ true
  pub published : Each (ArePublished sc facts place) round.named
  pub covers : Each (IsCovered sc txn over round.named) round.targets
  pub within : Each (IsWithin round.aim) round.named
  pub counted : IsCounted round.number (length round.mets)
  pub brought : (declared : Transaction) → slice_get sc.txns txn.0 ≡ Some declared → round.number ≡ length round.mets + 2 → has_view sc declared (spanned over declared.queries) ≡ true
  pub fresh : (declared : Transaction) → slice_get sc.txns txn.0 ≡ Some declared → IfSome (last_met round.mets) (IsFresh sc facts declared aimed)

-- a first round: nothing was wanted or met yet
pub record IsFirstRound (round : Round) : Type 0 where
  pub number : round.number ≡ 1
  pub aim : round.aim ≡ []
  pub named : round.named ≡ []
  pub mets : round.mets ≡ []

-- rounds each met a newer version at the master before the place, and each after the first used what was the newest at
-- the one before
pub record AreMet (sc : Scenario) (facts : List Fact) (place : ℕ) (txn : TxnId) (declared : Transaction) (mets : List Met) : Type 0 where
  pub shown : list_all (is_met_shown sc txn place facts declared) mets ≡ true
  pub on : are_met_on sc facts mets ≡ true

-- a round of the servers of the queries that it is over, whose replies fit. Its limit, which is at most 16, its levels
-- and whether it reads the master are those of the transaction; it is the first, or comes after an update; and fewer
-- rounds than the limit met something, none where no master is read
pub record RoundFits (sc : Scenario) (facts : List Fact) (place : ℕ) (txn : TxnId) (over : Span) (round : Round) : Type 0 where
  pub limit : (declared : Transaction) → slice_get sc.txns txn.0 ≡ Some declared → round.limit ≡ most_rounds sc declared
  pub levels : (declared : Transaction) → slice_get sc.txns txn.0 ≡ Some declared → LevelsFit sc declared round.levels
  pub reads : (declared : Transaction) → slice_get sc.txns txn.0 ≡ Some declared → round.reads ≡ reads_master sc declared
  pub servers : map server_of round.targets ≡ servers_over sc txn over
  pub targets : Each (TargetFits sc facts place txn over) round.targets
  pub count : IsFirstRound round ⊎ IsLaterRound sc facts place txn over round
  pub top : round.limit ≤ rounds_limit
  pub few : length round.mets < round.limit
  pub unread : round.reads ≡ false → round.mets ≡ []
  pub mets : (declared : Transaction) → slice_get sc.txns txn.0 ≡ Some declared → AreMet sc facts place txn declared round.mets

-- ---- the start

pub new_servers : (servers : List ServerId) → map server_of (map new_target servers) ≡ servers
new_servers [] = refl
new_servers (server ∷ servers) = ap (λ (others : List ServerId). server ∷ others) (new_servers servers)

pub new_fit : (sc : Scenario) (facts : List Fact) (place : ℕ) (txn : TxnId) (over : Span) (servers : List ServerId) → Each (TargetFits sc facts place txn over) (map new_target servers)
new_fit sc facts place txn over [] = tt
new_fit sc facts place txn over (server ∷ servers) = (record { right = tt; numbers = tt }, new_fit sc facts place txn over servers)

-- ---- the round's number

few_by : (number mets limit : ℕ) → mets < limit → limit ≤ 16 → IsCounted number mets → number ≤ 17
few_by number mets limit few top (inl one) = omega (arith, few, top, one)
few_by number mets limit few top (inr two) = omega (arith, few, top, two)

-- the round's number is one or two more than the rounds that met something
pub round_counted : (sc : Scenario) (facts : List Fact) (place : ℕ) (txn : TxnId) (over : Span) (round : Round) → IsFirstRound round ⊎ IsLaterRound sc facts place txn over round → IsCounted round.number (length round.mets)
round_counted sc facts place txn over round (inl first) = let none : length round.mets ≡ 0 = ap length first.mets in inl (omega (arith, first.number, none))
round_counted sc facts place txn over round (inr later) = later.counted

pub few_rounds : (sc : Scenario) (facts : List Fact) (place : ℕ) (txn : TxnId) (over : Span) (round : Round) → RoundFits sc facts place txn over round → round.number ≤ 17
few_rounds sc facts place txn over round h = few_by round.number (length round.mets) round.limit h.few h.top (round_counted sc facts place txn over round h.count)

-- so many rounds at commit are at least one, and no more than the demand allows
abbrev pub IsRoundNumber : Scenario → Transaction → ℕ → Type 0
IsRoundNumber sc declared number = (1 ≤ number) × (number ≤ most_rounds sc declared)

most_by : (number mets limit : ℕ) → mets < limit → IsCounted number mets → (number ≡ mets + 2 → ⊥) → number ≤ limit
most_by number mets limit few (inl one) more = omega (arith, few, one)
most_by number mets limit few (inr two) more = absurd (more two)

least_by : (number mets : ℕ) → IsCounted number mets → 1 ≤ number
least_by number mets (inl one) = omega (arith, one)
least_by number mets (inr two) = omega (arith, two)

view_by : (number mets : ℕ) → mets ≡ 0 → IsCounted number mets → number ≤ view_rounds
view_by number mets none (inl one) = omega (arith, none, one)
view_by number mets none (inr two) = omega (arith, none, two)

-- a round whose number is two more than the rounds that met something brought together what is under view consistency
pub brought_of : (sc : Scenario) (facts : List Fact) (place : ℕ) (txn : TxnId) (over : Span) (round : Round) (declared : Transaction) → slice_get sc.txns txn.0 ≡ Some declared → IsFirstRound round ⊎ IsLaterRound sc facts place txn over round
    → round.number ≡ length round.mets + 2 → has_view sc declared (spanned over declared.queries) ≡ true
brought_of sc facts place txn over round declared found (inl first) e = absurd (omega (arith, first.number, e))
brought_of sc facts place txn over round declared found (inr later) e = later.brought declared found e

-- the round's number is one that the demand allows
pub round_number : (sc : Scenario) (facts : List Fact) (place : ℕ) (txn : TxnId) (over : Span) (round : Round) (declared : Transaction) → slice_get sc.txns txn.0 ≡ Some declared → RoundFits sc facts place txn over round
    → IsRoundNumber sc declared round.number
round_number sc facts place txn over round declared found h = (least_by round.number (length round.mets) counted, by_reading (reads_master sc declared) refl)
  where
    counted : IsCounted round.number (length round.mets)
    counted = round_counted sc facts place txn over round h.count

    by_reading : (b : Bool) → reads_master sc declared ≡ b → round.number ≤ (if b then declared.rounds else view_rounds)
    by_reading true e =
        let limit : round.limit ≡ declared.rounds = h.limit declared found ∙ ap (λ (b : Bool). cond b declared.rounds view_rounds) e in
        let none : has_view sc declared declared.queries ≡ false = reads_unviewed sc declared e in
        let most : round.number ≤ round.limit = most_by round.number (length round.mets) round.limit h.few counted (λ two. let some = spanned_any (is_view_query sc declared) over declared.queries (brought_of sc facts place txn over round declared found h.count two) in cc) in
        omega (arith, limit, most)
    by_reading false e = view_by round.number (length round.mets) (ap length (h.unread (h.reads declared found ∙ e))) counted

-- nothing is wanted of a server in a first round
pub first_wants : (round : Round) (server : ServerId) → IsFirstRound round → want_for round server ≡ []
first_wants round server first = ap (λ (named : List Wanted). want_in named server) first.named

-- ---- it stays as facts are added

target_stays : (sc : Scenario) (old new : List Fact) (low high : ℕ) (txn : TxnId) (over : Span) (target : Target) → Later old new low high → TargetFits sc old low txn over target → TargetFits sc new high txn over target
target_stays sc old new low high txn over target l h =
    record {
      right = each_as (Right sc old low txn) (Right sc new high txn) (λ verdict r. right_stays sc old new low high txn verdict l r) (verdicts_in target) h.right;
      numbers = h.numbers;
    }

published_stays : (sc : Scenario) (old new : List Fact) (low high : ℕ) (wanted : AdminId × Version) → Later old new low high → IsPublished sc old low wanted → IsPublished sc new high wanted
published_stays sc old new low high wanted l h = let rises = newest_rises sc wanted.0 old new low high l in omega (arith, h, rises)

-- what rounds met stays so
pub mets_fit_later : (sc : Scenario) (old new : List Fact) (low high : ℕ) (txn : TxnId) (declared : Transaction) (mets : List Met) → Later old new low high → AreMet sc old low txn declared mets → AreMet sc new high txn declared mets
mets_fit_later sc old new low high txn declared mets l h =
    record { shown = mets_stay sc txn old new low high declared mets l h.shown; on = met_on_stays sc txn old new low high declared mets l h.shown h.on }

last_past : (sc : Scenario) (txn : TxnId) (place : ℕ) (facts : List Fact) (declared : Transaction) (mets : List Met) → list_all (is_met_shown sc txn place facts declared) mets ≡ true
    → IfSome (last_met mets) (λ (one : Met). one.place < place)
last_past sc txn place facts declared [] h = tt
last_past sc txn place facts declared (one ∷ []) h = met_past sc txn place facts declared one (and_parts (is_met_shown sc txn place facts declared one) true h).0
last_past sc txn place facts declared (one ∷ next ∷ mets) h =
    last_past sc txn place facts declared (next ∷ mets) (and_parts (is_met_shown sc txn place facts declared one) (list_all (is_met_shown sc txn place facts declared) (next ∷ mets)) h).1

fresh_stays : (sc : Scenario) (old new : List Fact) (low high : ℕ) (declared : Transaction) (aimed : AdminId → ℕ) (last : Option Met) → Later old new low high → IfSome last (λ (one : Met). one.place < low)
    → IfSome last (IsFresh sc old declared aimed) → IfSome last (IsFresh sc new declared aimed)
fresh_stays sc old new low high declared aimed None l past h = tt
fresh_stays sc old new low high declared aimed (Some one) l past h = λ admin exists global.
    h admin exists global ∙ ap (λ (earlier : List Fact). (opening_version sc admin).0 + count_by (is_publication admin) earlier) (sym (l.grows.same one.place (omega (arith, past))))

count_stays : (sc : Scenario) (old new : List Fact) (low high : ℕ) (txn : TxnId) (over : Span) (round : Round) → Later old new low high
    → ((declared : Transaction) → slice_get sc.txns txn.0 ≡ Some declared → AreMet sc old low txn declared round.mets) → IsFirstRound round ⊎ IsLaterRound sc old low txn over round → IsFirstRound round ⊎ IsLaterRound sc new high txn over round
count_stays sc old new low high txn over round l mets (inl first) = inl first
count_stays sc old new low high txn over round l mets (inr later) =
    inr (record {
      number = later.number;
      aimed = later.aimed;
      kept = later.kept;
      aim = later.aim;
      named = later.named;
      published = each_as (ArePublished sc old low) (ArePublished sc new high)
          (λ (one : Wanted) p. each_as (IsPublished sc old low) (IsPublished sc new high) (λ wanted q. published_stays sc old new low high wanted l q) one.want p) round.named later.published;
      covers = later.covers;
      within = later.within;
      counted = later.counted;
      brought = later.brought;
      fresh = λ declared found.
          fresh_stays sc old new low high declared later.aimed (last_met round.mets) l (last_past sc txn low old declared round.mets (mets declared found).shown) (later.fresh declared found);
    })

pub round_fits_later : (sc : Scenario) (old new : List Fact) (low high : ℕ) (txn : TxnId) (over : Span) (round : Round) → Later old new low high → RoundFits sc old low txn over round → RoundFits sc new high txn over round
round_fits_later sc old new low high txn over round l h =
    record {
      limit = h.limit;
      levels = h.levels;
      reads = h.reads;
      servers = h.servers;
      targets = each_as (TargetFits sc old low txn over) (TargetFits sc new high txn over) (λ target f. target_stays sc old new low high txn over target l f) round.targets h.targets;
      count = count_stays sc old new low high txn over round l h.mets h.count;
      top = h.top;
      few = h.few;
      unread = h.unread;
      mets = λ declared found. mets_fit_later sc old new low high txn declared round.mets l (h.mets declared found);
    }

-- ---- queries at a server

-- a query has one administrator
same_admin_of_item : (at other : ServerId) (admin one : AdminId) (item : Option Item) → option_map_or (is_item_at at admin) item false ≡ true → option_map_or (is_item_at other one) item false ≡ true
    → same_admin one admin ≡ true
same_admin_of_item at other admin one None e f = absurd (cc)
same_admin_of_item at other admin one (Some item) e f =
    let first = and_parts (same_server item.server at) (same_admin item.admin admin) e in
    let second = and_parts (same_server item.server other) (same_admin item.admin one) f in
    eq-eqb one.0 admin.0 (sym (eqb-true item.admin.0 one.0 second.1) ∙ eqb-true item.admin.0 admin.0 first.1)

same_admin_of_query : (sc : Scenario) (at other : ServerId) (admin one : AdminId) (query : Option Query) → option_map_or (is_query_at sc at admin) query false ≡ true
    → option_map_or (is_query_at sc other one) query false ≡ true → same_admin one admin ≡ true
same_admin_of_query sc at other admin one None e f = absurd (cc)
same_admin_of_query sc at other admin one (Some query) e f = same_admin_of_item at other admin one (slice_get sc.items (item_of query).0) e f

pub same_admin_of : (sc : Scenario) (declared : Transaction) (number : ℕ) (at other : ServerId) (admin one : AdminId) → is_own_query sc declared number at admin ≡ true
    → is_own_query sc declared number other one ≡ true → same_admin one admin ≡ true
same_admin_of sc declared number at other admin one e f = same_admin_of_query sc at other admin one (query_at declared number) e f

item_here : (at : ServerId) (admin : AdminId) (item : Option Item) → option_map_or (is_item_at at admin) item false ≡ true → option_map_or (λ (i : Item). i.server.0 == at.0) item false ≡ true
item_here at admin None e = absurd (cc)
item_here at admin (Some item) e = (and_parts (same_server item.server at) (same_admin item.admin admin) e).0

query_here : (sc : Scenario) (at : ServerId) (admin : AdminId) (query : Option Query) → option_map_or (is_query_at sc at admin) query false ≡ true → option_map_or (is_at_server sc at.0) query false ≡ true
query_here sc at admin None e = absurd (cc)
query_here sc at admin (Some query) e = item_here at admin (slice_get sc.items (item_of query).0) e

-- a query of an administrator at a server is at the server
pub own_here : (sc : Scenario) (declared : Transaction) (number : ℕ) (at : ServerId) (admin : AdminId) → is_own_query sc declared number at admin ≡ true → here (site_of sc at.0 declared) number ≡ true
own_here sc declared number at admin e = query_here sc at admin (query_at declared number) e

item_own : (at other : ServerId) (admin : AdminId) (item : Option Item) → option_map_or (λ (i : Item). i.server.0 == at.0) item false ≡ true → option_map_or (is_item_at other admin) item false ≡ true
    → option_map_or (is_item_at at admin) item false ≡ true
item_own at other admin None e f = absurd (cc)
item_own at other admin (Some item) e f = and_from (same_server item.server at) (same_admin item.admin admin) e (and_parts (same_server item.server other) (same_admin item.admin admin) f).1

query_own : (sc : Scenario) (at other : ServerId) (admin : AdminId) (query : Option Query) → option_map_or (is_at_server sc at.0) query false ≡ true → option_map_or (is_query_at sc other admin) query false ≡ true
    → option_map_or (is_query_at sc at admin) query false ≡ true
query_own sc at other admin None e f = absurd (cc)
query_own sc at other admin (Some query) e f = item_own at other admin (slice_get sc.items (item_of query).0) e f

-- and one at the server is its administrator's there
pub here_own : (sc : Scenario) (declared : Transaction) (number : ℕ) (at other : ServerId) (admin : AdminId) → here (site_of sc at.0 declared) number ≡ true → is_own_query sc declared number other admin ≡ true
    → is_own_query sc declared number at admin ≡ true
here_own sc declared number at other admin e f = query_own sc at other admin (query_at declared number) e f

with_here : (s : Site) (last : ℕ) (b : Bool) → here s (suc last) ≡ b → Each (λ (number : ℕ). here s number ≡ true) (upto s last) → Each (λ (number : ℕ). here s number ≡ true) (with_number b (upto s last) (suc last))
with_here s last true e h = each_more (λ (number : ℕ). here s number ≡ true) (upto s last) (suc last) h e
with_here s last false e h = h

each_here_in_trust : (s : Site) (last : ℕ) → Each (λ (number : ℕ). here s number ≡ true) (upto s last)
each_here_in_trust s zero = tt
each_here_in_trust s (suc last) = with_here s last (here s (suc last)) refl (each_here_in_trust s last)

-- ---- what was named

want_where : (P : List (AdminId × Version) → Type 0) (one : Wanted) (named : List Wanted) (server : ServerId) (b : Bool) → P one.want → P (want_in named server)
    → P (option_map_or (λ (other : Wanted). other.want) (cond b (Some one) (find (λ (other : Wanted). same_server other.server server) named)) [])
want_where P one named server true here rest = here
want_where P one named server false here rest = rest

-- what is so of all that is wanted is so of what is wanted of a server
pub want_each : (P : List (AdminId × Version) → Type 0) (named : List Wanted) (server : ServerId) → P [] → Each (λ (one : Wanted). P one.want) named → P (want_in named server)
want_each P [] server none h = none
want_each P (one ∷ named) server none h = want_where P one named server (same_server one.server server) h.0 (want_each P named server none h.1)

-- the versions that are wanted of a server are published
pub want_published : (sc : Scenario) (facts : List Fact) (place : ℕ) (txn : TxnId) (over : Span) (round : Round) (server : ServerId) → RoundFits sc facts place txn over round
    → Each (IsPublished sc facts place) (want_for round server)
want_published sc facts place txn over round server h = published h.count
  where
    published : IsFirstRound round ⊎ IsLaterRound sc facts place txn over round → Each (IsPublished sc facts place) (want_for round server)
    published (inl first) = subst (Each (IsPublished sc facts place)) (sym (first_wants round server first)) tt
    published (inr later) = want_each (λ (want : List (AdminId × Version)). Each (IsPublished sc facts place) want) round.named server tt later.published

-- what a round wants of a server that is awaited names the administrators there of the queries that it is over
named_missing : (sc : Scenario) (txn : TxnId) (over : Span) (named : List Wanted) (targets : List Target) → Each (IsCovered sc txn over named) targets → Each (λ (at : ServerId). IsNamedFor sc txn over at (want_in named at)) (missing_in targets)
named_missing sc txn over named [] h = tt
named_missing sc txn over named (target ∷ targets) h =
    by_cond (λ (left : List Target). Each (λ (at : ServerId). IsNamedFor sc txn over at (want_in named at)) (map server_of_target left)) (is_missing target)
    (λ e. (h.0 e, named_missing sc txn over named targets h.1)) (λ e. named_missing sc txn over named targets h.1)

-- up to the last query all administrators there are named
names_all : (sc : Scenario) (declared : Transaction) (at : ServerId) (want : List (AdminId × Version)) → NamesUpto (site_of sc at.0 declared) (length declared.queries) want → Names (site_of sc at.0 declared) want
names_all sc declared at want names number admin own = names number admin (here_within (site_of sc at.0 declared) number (own_here sc declared number at admin own)).1 own

names_by : (sc : Scenario) (facts : List Fact) (place : ℕ) (txn : TxnId) (round : Round) (declared : Transaction) → slice_get sc.txns txn.0 ≡ Some declared → IsFirstRound round ⊎ IsLaterRound sc facts place txn span.Commit round
    → Each (NamesAt sc declared round) (missing_in round.targets)
names_by sc facts place txn round declared e (inl first) = each_of_all _ (λ at. inl (ap is_empty (first_wants round at first))) (missing_in round.targets)
names_by sc facts place txn round declared e (inr later) =
    each_as (λ (at : ServerId). IsNamedFor sc txn span.Commit at (want_in round.named at)) (NamesAt sc declared round) (λ at named. inr (names_all sc declared at (want_for round at) (named declared e))) (missing_in round.targets)
    (named_missing sc txn span.Commit round.named round.targets later.covers)

-- so at commit all administrators there are named
pub round_names : (sc : Scenario) (facts : List Fact) (place : ℕ) (txn : TxnId) (round : Round) (declared : Transaction) → slice_get sc.txns txn.0 ≡ Some declared → RoundFits sc facts place txn span.Commit round
    → Each (NamesAt sc declared round) (missing_in round.targets)
round_names sc facts place txn round declared e h = names_by sc facts place txn round declared e h.count

take_reaches : (queries : List Query) (last number : ℕ) → number ≤ last → number ≤ length queries → number ≤ length (take last queries)
take_reaches [] zero number low within = omega (arith, low)
take_reaches [] (suc last) number low within = omega (arith, within)
take_reaches (first ∷ queries) zero number low within = omega (arith, low)
take_reaches (first ∷ queries) (suc last) zero low within = omega arith
take_reaches (first ∷ queries) (suc last) (suc number) low within = let later = take_reaches queries last number (omega (arith, low)) (omega (arith, within)) in omega (arith, later)

names_so_far : (sc : Scenario) (facts : List Fact) (place : ℕ) (txn : TxnId) (last : ℕ) (round : Round) (declared : Transaction) → slice_get sc.txns txn.0 ≡ Some declared
    → IsFirstRound round ⊎ IsLaterRound sc facts place txn (span.Validate last) round → Each (NamesOver sc declared (span.Validate last) round) (missing_in round.targets)
names_so_far sc facts place txn last round declared e (inl first) = each_of_all _ (λ at. inl (ap is_empty (first_wants round at first))) (missing_in round.targets)
names_so_far sc facts place txn last round declared e (inr later) =
    each_as (λ (at : ServerId). IsNamedFor sc txn (span.Validate last) at (want_in round.named at)) (NamesOver sc declared (span.Validate last) round)
    (λ at named. inr (λ number admin low own. named declared e number admin (take_reaches declared.queries last number low (here_within (site_of sc at.0 declared) number (own_here sc declared number at admin own)).1) own))
    (missing_in round.targets) (named_missing sc txn (span.Validate last) round.named round.targets later.covers)

-- and in every round those of the queries that it is over
pub span_names : (sc : Scenario) (facts : List Fact) (place : ℕ) (txn : TxnId) (over : Span) (round : Round) (declared : Transaction) → slice_get sc.txns txn.0 ≡ Some declared → RoundFits sc facts place txn over round
    → Each (NamesOver sc declared over round) (missing_in round.targets)
span_names sc facts place txn (span.Validate last) round declared e h = names_so_far sc facts place txn last round declared e h.count
span_names sc facts place txn span.Commit round declared e h = round_names sc facts place txn round declared e h

-- a server of the queries that a round is over has one of them, of some administrator
record HasOwn (sc : Scenario) (over : Span) (declared : Transaction) (at : ServerId) : Type 0 where
  number : ℕ
  admin : AdminId
  low : number ≤ last_spanned over declared
  own : is_own_query sc declared number at admin ≡ true

own_item : (at : ServerId) (item : Option Item) → option_map_or (λ (i : Item). i.server.0 == at.0) item false ≡ true → (admin : AdminId) × (option_map_or (is_item_at at admin) item false ≡ true)
own_item at None e = absurd (cc)
own_item at (Some item) e = (item.admin, and_from (same_server item.server at) (same_admin item.admin item.admin) e (number_itself item.admin.0))

-- a member of the list is of some administrator and at the server
record IsOwnAmong (sc : Scenario) (at : ServerId) (queries : List Query) : Type 0 where
  place : ℕ
  admin : AdminId
  low : place < length queries
  own : option_map_or (is_query_at sc at admin) (slice_get queries place) false ≡ true

own_among : (sc : Scenario) (at : ServerId) (queries : List Query) → list_any (is_at_server sc at.0) queries ≡ true → IsOwnAmong sc at queries
own_among sc at [] e = absurd (cc)
own_among sc at (query ∷ queries) e = by_first (is_at_server sc at.0 query) refl (own_among sc at queries) e
  where
    by_first : (b : Bool) → is_at_server sc at.0 query ≡ b → (list_any (is_at_server sc at.0) queries ≡ true → IsOwnAmong sc at queries) → (b || list_any (is_at_server sc at.0) queries) ≡ true → IsOwnAmong sc at (query ∷ queries)
    by_first true here later some = let found = own_item at (slice_get sc.items (item_of query).0) here in record { place = zero; admin = found.0; low = omega arith; own = found.1 }
    by_first false here later some = let found : IsOwnAmong sc at queries = later some in let low = found.low in record { place = suc found.place; admin = found.admin; low = omega (arith, low); own = found.own }

has_own : (sc : Scenario) (over : Span) (declared : Transaction) (at : ServerId) → has_item sc at (only_spanned over declared) ≡ true → HasOwn sc over declared at
has_own sc over declared at e =
    let found : IsOwnAmong sc at (spanned over declared.queries) = own_among sc at (spanned over declared.queries) e in
    let low = found.low in
    record {
      number = suc found.place;
      admin = found.admin;
      low = omega (arith, low);
      own = subst (λ (q : Option Query). option_map_or (is_query_at sc at found.admin) q false ≡ true) (spanned_get over declared.queries found.place found.low) found.own;
    }

-- where all its administrators are named something is wanted
not_empty : (sc : Scenario) (over : Span) (declared : Transaction) (at : ServerId) (want : List (AdminId × Version)) → HasOwn sc over declared at → NamesUpto (site_of sc at.0 declared) (last_spanned over declared) want → is_empty want ≡ false
not_empty sc over declared at [] own names = let some = names own.number own.admin own.low own.own in absurd (cc)
not_empty sc over declared at (first ∷ want) own names = refl

item_declared : (sc : Scenario) (at : ServerId) (txn : TxnId) (over : Span) (found : Option Transaction) → slice_get sc.txns txn.0 ≡ found → option_map_or (λ (t : Transaction). has_item sc at (only_spanned over t)) found false ≡ true
    → (declared : Transaction) × (slice_get sc.txns txn.0 ≡ Some declared) × HasOwn sc over declared at
item_declared sc at txn over None e h = absurd (cc)
item_declared sc at txn over (Some declared) e h = (declared, e, has_own sc over declared at h)

-- one of the queries that a round is over is at the server
abbrev HoldsOne : Scenario → TxnId → Span → ServerId → Type 0
HoldsOne sc txn over at = has_item_over sc txn over at ≡ true

-- after an update what is wanted of a server that is awaited is something, and within what is aimed at
wants_by : (sc : Scenario) (facts : List Fact) (place : ℕ) (txn : TxnId) (over : Span) (round : Round) → EachServer (HoldsOne sc txn over) round.targets → IsFirstRound round ⊎ IsLaterRound sc facts place txn over round
    → Each (λ (at : ServerId). WantNow round (want_for round at)) (missing_in round.targets)
wants_by sc facts place txn over round items (inl first) = each_of_all _ (λ at. inl first.number) (missing_in round.targets)
wants_by sc facts place txn over round items (inr later) =
    each_as (λ (at : ServerId). HoldsOne sc txn over at × IsNamedFor sc txn over at (want_in round.named at)) (λ (at : ServerId). WantNow round (want_for round at))
    (λ at k. let there = item_declared sc at txn over (slice_get sc.txns txn.0) refl k.0 in
    inr (
      not_empty sc over there.0 at (want_for round at) there.2 (k.1 there.0 there.1),
      want_each (λ (want : List (AdminId × Version)). Each (λ (wanted : AdminId × Version). is_within round.aim wanted ≡ true) want) round.named at tt later.within,
    )) (missing_in round.targets)
    (each_two (HoldsOne sc txn over) (λ (at : ServerId). IsNamedFor sc txn over at (want_in round.named at)) (missing_in round.targets) (each_missing (HoldsOne sc txn over) round.targets items) (named_missing sc txn over round.named round.targets later.covers))

-- what holds of some servers holds of the targets at them
servers_hold : (P : ServerId → Type 0) (targets : List Target) (servers : List ServerId) → map server_of targets ≡ servers → Each P servers → EachServer P targets
servers_hold P [] servers e h = tt
servers_hold P (target ∷ targets) [] e h = absurd (cc)
servers_hold P (target ∷ targets) (server ∷ servers) e h =
    let here : target.server ≡ server = cc in
    let later : map server_of targets ≡ servers = cc in
    (subst P (sym here) h.0, servers_hold P targets servers later h.1)

pub round_wants : (sc : Scenario) (facts : List Fact) (place : ℕ) (txn : TxnId) (over : Span) (round : Round) → RoundFits sc facts place txn over round → Each (λ (at : ServerId). WantNow round (want_for round at)) (missing_in round.targets)
round_wants sc facts place txn over round h = wants_by sc facts place txn over round (servers_hold (HoldsOne sc txn over) round.targets (servers_over sc txn over) h.servers (servers_over_have sc txn over)) h.count

-- ---- a reply

-- a reply after an update has the versions that the round aims at
abbrev pub AimedReply : Round → List Verdict → Type 0
AimedReply round verdicts = (round.number ≡ 1) ⊎ (list_all (is_aimed round.aim) verdicts ≡ true)

all_at : (f : AdminId → ℕ) (aim : List (AdminId × Version)) (verdicts : List Verdict) → list_all (is_wanted_at f) aim ≡ true → list_all (is_aimed aim) verdicts ≡ true → list_all (is_at f) verdicts ≡ true
all_at f aim [] e h = refl
all_at f aim (verdict ∷ verdicts) e h =
    let parts = and_parts (is_aimed aim verdict) (list_all (is_aimed aim) verdicts) h in
    and_from (is_at f verdict) (list_all (is_at f) verdicts) (aimed_has f aim verdict e parts.0) (all_at f aim verdicts e parts.1)

aimed_reply : (sc : Scenario) (facts : List Fact) (place : ℕ) (txn : TxnId) (over : Span) (round : Round) (verdicts : List Verdict) (later : IsLaterRound sc facts place txn over round) → AimedReply round verdicts
    → list_all (is_at later.aimed) verdicts ≡ true
aimed_reply sc facts place txn over round verdicts later (inl first) = absurd (omega (arith, later.number, first))
aimed_reply sc facts place txn over round verdicts later (inr aimed) = all_at later.aimed round.aim verdicts later.aim aimed

replied_where : (P : Target → Type 0) (new target : Target) (targets more : List Target) (b : Bool) → P new → P target → Each P targets → Each P more → Each P (cond b (new ∷ targets) (target ∷ more))
replied_where P new target targets more true n t each rest = (n, each)
replied_where P new target targets more false n t each rest = (t, rest)

pub replied_each : (P : Target → Type 0) (targets : List Target) (server : ServerId) (verdicts : List Verdict) → P (record { server = server; reply = Some verdicts }) → Each P targets
    → Each P (with_reply targets server verdicts)
replied_each P [] server verdicts new h = tt
replied_each P (target ∷ targets) server verdicts new h =
    replied_where P (record { server = server; reply = Some verdicts }) target targets (with_reply targets server verdicts) (awaits server target) new h.0 h.1 (replied_each P targets server verdicts new h.1)

-- a transaction with a server is one of the scenario's
pub declared_with : (sc : Scenario) (txn : TxnId) (over : Span) (test : Target → Bool) (targets : List Target) → map server_of targets ≡ servers_over sc txn over → list_any test targets ≡ true
    → (declared : Transaction) × (slice_get sc.txns txn.0 ≡ Some declared)
declared_with sc txn over test [] e some = absurd (cc)
declared_with sc txn over test (target ∷ targets) e some = found (slice_get sc.txns txn.0) refl e
  where
    found : (declared : Option Transaction) → slice_get sc.txns txn.0 ≡ declared → target.server ∷ map server_of targets ≡ option_map_or (λ (t : Transaction). servers_of sc (only_spanned over t)) declared []
        → (declared : Transaction) × (slice_get sc.txns txn.0 ≡ Some declared)
    found None f g = absurd (cc)
    found (Some declared) f g = (declared, f)

count_replied : (sc : Scenario) (facts : List Fact) (place : ℕ) (txn : TxnId) (over : Span) (round : Round) (server : ServerId) (verdicts : List Verdict) → AimedReply round verdicts
    → IsFirstRound round ⊎ IsLaterRound sc facts place txn over round → IsFirstRound (after_reply round server verdicts) ⊎ IsLaterRound sc facts place txn over (after_reply round server verdicts)
count_replied sc facts place txn over round server verdicts has (inl first) = inl (record { number = first.number; aim = first.aim; named = first.named; mets = first.mets })
count_replied sc facts place txn over round server verdicts has (inr later) =
    inr (record {
      number = later.number;
      aimed = later.aimed;
      kept = reply_keeps later.aimed round.targets server verdicts later.kept (λ waits. aimed_reply sc facts place txn over round verdicts later has);
      aim = later.aim;
      named = later.named;
      published = later.published;
      covers = replied_each (IsCovered sc txn over round.named) round.targets server verdicts (λ missing. absurd (cc)) later.covers;
      within = later.within;
      counted = later.counted;
      brought = later.brought;
      fresh = later.fresh;
    })

-- a server's reply
pub round_replied : (sc : Scenario) (facts : List Fact) (place : ℕ) (txn : TxnId) (over : Span) (round : Round) (server : ServerId) (verdicts : List Verdict) → RoundFits sc facts place txn over round
    → Each (Right sc facts place txn) verdicts → AreNumbersAt sc txn over server verdicts → AimedReply round verdicts → RoundFits sc facts place txn over (after_reply round server verdicts)
round_replied sc facts place txn over round server verdicts h right numbers has =
    record {
      limit = h.limit;
      levels = h.levels;
      reads = h.reads;
      servers = servers_replied round.targets server verdicts ∙ h.servers;
      targets = replied_each (TargetFits sc facts place txn over) round.targets server verdicts (record { right = right; numbers = numbers }) h.targets;
      count = count_replied sc facts place txn over round server verdicts has h.count;
      top = h.top;
      few = h.few;
      unread = h.unread;
      mets = h.mets;
    }

-- ---- judged false, or spent

-- all proofs of a round are right
pub proofs_right : (sc : Scenario) (facts : List Fact) (place : ℕ) (txn : TxnId) (over : Span) (round : Round) → RoundFits sc facts place txn over round → Each (Right sc facts place txn) (proofs_in round.targets)
proofs_right sc facts place txn over round h = each_flat_map (TargetFits sc facts place txn over) (Right sc facts place txn) verdicts_in (λ target f. f.right) round.targets h.targets

-- the verdict by which a round is judged false is right, and false
pub record IsFalseRight (sc : Scenario) (facts : List Fact) (place : ℕ) (txn : TxnId) (verdict : Verdict) : Type 0 where
  pub right : Right sc facts place txn verdict
  pub ruleless : is_none verdict.rule ≡ true

pub round_denies : (sc : Scenario) (facts : List Fact) (place : ℕ) (txn : TxnId) (over : Span) (round : Round) (reading : Option Reading) (verdict : Verdict) → RoundFits sc facts place txn over round → judge round reading ≡ False verdict
    → IsFalseRight sc facts place txn verdict
round_denies sc facts place txn over round reading verdict h e =
    let least = false_is_least round reading verdict e in
    record {
      right = each_get (Right sc facts place txn) (proofs_in round.targets) least.place verdict (proofs_right sc facts place txn over round h) least.there;
      ruleless = least.untrue;
    }
