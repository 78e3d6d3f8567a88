-- A round that is judged true: its proofs are right and true, agree, and are of each of the queries that it is over
-- once, in order.
use Rattle.std.specs.List.{list_all, list_any, range_with_len}
use Rattle.std.specs.Option.{option_map_or}
use Rattle.std.proofs.Common.{Bool, List, None, Option, Some, [], ap, arith, cond, false, filter, inl, inr, is_some, length, map, nat_le, refl, slice_get, suc, sym, true, zero, ℕ, ◌&&◌, ◌++◌, ◌+◌, ◌<◌, ◌==◌, ◌∙◌, ◌∷◌, ◌≡◌, ◌≤◌, ⊎_elim}
use Rattle.std.proofs.lemmas.Bool.{and_from, cases_lt}
use Rattle.std.proofs.lemmas.Bool.Decides.{eqb_tells, nat_tests}
use Rattle.std.proofs.lemmas.List.{length-append}
use Rattle.std.proofs.lemmas.List.Elements.{filter-append}
use Rattle.std.proofs.lemmas.List.Folds.{list_any_at}
use Rattle.std.proofs.lemmas.Option.{get_or_from_slice_get}
use Rattle.std.proofs.Math.Bool.{and-false, and-true}
use Rattle.tp_types.proofs.ListLemmas.{number_itself}
use Rattle.tp_model.specs.Queries.{is_at_server, item_of, servers_from, servers_of}
use Rattle.tp_model.specs.Versions.{is_one_version}
use Rattle.tp_model.specs.Words.{Fact, Item, Query, Reading, Scenario, ServerId, Transaction, TxnId, Verdict}
use Rattle.tp_round.specs.declared.round.Judged.TheVariants.{AllTrue}
use Rattle.tp_round.specs.declared.round.Round.{Round}
use Rattle.tp_round.specs.declared.round.Target.{Target}
use Rattle.tp_round.specs.Judge.{is_missing, judge}
use Rattle.tp_round.specs.Laws.{HasOneForEach, is_true}
use Rattle.tp_round.specs.Replies.{by_query, is_at_query, proofs_in, verdicts_in}
use Rattle.tp_round.proofs.AgreedLemmas.{all_agree, all_answered}
use Rattle.tp_round.proofs.KeptLemmas.{server_of}
use Rattle.tp_round.proofs.QueryLemmas.{goes_by_query}
use Rattle.tp_round.proofs.VersionLemmas.{all_by_query}
use Rattle.tp_runs.proofs.basics.Verdicts.{numbers_of}
use Rattle.tp_runs.proofs.basics.Facts.{all_from_each}
use Rattle.tp_types.proofs.EachLemmas.{each_from_all}
use Rattle.tp_runs.proofs.basics.Homes.{HaveHomes}
use Rattle.tp_types.proofs.EachLemmas.{each_get, missing, some_if_not_none}
use Rattle.tp_runs.proofs.basics.Rounds.{each_by_query}
use Rattle.tp_runs.proofs.basics.Phases.{last_spanned, only_spanned, spanned, spanned_get, spanned_short}
use Rattle.tp_runs.proofs.ids.Valid.{IsValid, IsValidItem}
use Rattle.tp_coord.specs.declared.coordinator.Span.{Span}
use Rattle.tp_runs.proofs.pairs.Actors.{site_of}
use Rattle.tp_runs.proofs.pairs.Site.{Site, here, one_home, upto, with_number}
use Rattle.tp_runs.proofs.trust.Fit.{Right}
use Rattle.tp_runs.proofs.trust.RoundAims.{numbers_at, replied_all}
use Rattle.tp_runs.proofs.trust.Rounds.{IsRoundNumber, RoundFits, TargetFits, proofs_right, round_number}
use Rattle.tp_types.specs.Each.{Each}
use Rattle.tp_machine.specs.Named.{IsServer}

-- ---- how often a number is there

abbrev pub one_if : Bool → ℕ
one_if b = cond b 1 0

abbrev pub times : ℕ → List ℕ → ℕ
times number [] = 0
times number (first ∷ numbers) = one_if (first == number) + times number numbers

times_append : (number : ℕ) (xs ys : List ℕ) → times number (xs ++ ys) ≡ times number xs + times number ys
times_append number [] ys = omega arith
times_append number (x ∷ xs) ys = omega (arith, times_append number xs ys)

with_times : (number new : ℕ) (numbers : List ℕ) (b : Bool) → times number (with_number b numbers new) ≡ times number numbers + one_if (b && (new == number))
with_times number new numbers true = omega (arith, times_append number numbers (new ∷ []))
with_times number new numbers false = omega arith

-- one number more, by whether it is below the last, is the last or is past it
below_last : (x y z b h : Bool) → x ≡ true → y ≡ true → z ≡ false → one_if (x && h) + one_if (b && z) ≡ one_if (y && h)
below_last x y z b h e f g =
    let was : one_if (x && h) ≡ one_if h = ap (λ (c : Bool). one_if (c && h)) e in
    let more : one_if (b && z) ≡ 0 = ap (λ (c : Bool). one_if (b && c)) g ∙ ap one_if (and-false b) in
    let is : one_if (y && h) ≡ one_if h = ap (λ (c : Bool). one_if (c && h)) f in
    omega (arith, was, more, is)

at_last : (x y z b h : Bool) → x ≡ false → y ≡ true → z ≡ true → h ≡ b → one_if (x && h) + one_if (b && z) ≡ one_if (y && h)
at_last x y z b h e f g same =
    let was : one_if (x && h) ≡ 0 = ap (λ (c : Bool). one_if (c && h)) e in
    let more : one_if (b && z) ≡ one_if b = ap (λ (c : Bool). one_if (b && c)) g ∙ ap one_if (and-true b) in
    let is : one_if (y && h) ≡ one_if b = ap (λ (c : Bool). one_if (c && h)) f ∙ ap one_if same in
    omega (arith, was, more, is)

past : (x y z b h : Bool) → x ≡ false → y ≡ false → z ≡ false → one_if (x && h) + one_if (b && z) ≡ one_if (y && h)
past x y z b h e f g =
    let was : one_if (x && h) ≡ 0 = ap (λ (c : Bool). one_if (c && h)) e in
    let more : one_if (b && z) ≡ 0 = ap (λ (c : Bool). one_if (b && c)) g ∙ ap one_if (and-false b) in
    let is : one_if (y && h) ≡ 0 = ap (λ (c : Bool). one_if (c && h)) f in
    omega (arith, was, more, is)

one_more_in_trust : (s : Site) (last number : ℕ) → one_if (nat_le number last && here s number) + one_if (here s (suc last) && (suc last == number)) ≡ one_if (nat_le number (suc last) && here s number)
one_more_in_trust s last number =
    elim (eqb_tells (suc last) number) [
      | inl same ↦
          let low : nat_le number last ≡ false = let e = same.1 in grind (arith, nat_tests) in
          let high : nat_le number (suc last) ≡ true = let e = same.1 in grind (arith, nat_tests) in
          at_last (nat_le number last) (nat_le number (suc last)) (suc last == number) (here s (suc last)) (here s number) low high same.0 (ap (here s) (sym same.1))
      | inr differs ↦
          ⊎_elim (λ (less : number < suc last).
          let low : nat_le number last ≡ true = grind (arith, nat_tests) in
          let high : nat_le number (suc last) ≡ true = grind (arith, nat_tests) in
          below_last (nat_le number last) (nat_le number (suc last)) (suc last == number) (here s (suc last)) (here s number) low high differs.0)
          (λ (most : suc last ≤ number).
          let more : suc last < number = omega (arith, most, differs.1) in
          let low : nat_le number last ≡ false = grind (arith, nat_tests) in
          let high : nat_le number (suc last) ≡ false = grind (arith, nat_tests) in
          past (nat_le number last) (nat_le number (suc last)) (suc last == number) (here s (suc last)) (here s number) low high differs.0)
          (cases_lt number (suc last))
    ]

none_yet : (s : Site) (number : ℕ) → times number (upto s zero) ≡ one_if (nat_le number zero && here s number)
none_yet s zero = refl
none_yet s (suc before) = let low : nat_le (suc before) zero ≡ false = grind (arith, nat_tests) in ap (λ (b : Bool). one_if (b && here s (suc before))) (sym low)

-- each number up to the last that is of a query at the server is there once
times_upto : (s : Site) (last number : ℕ) → times number (upto s last) ≡ one_if (nat_le number last && here s number)
times_upto s zero number = none_yet s number
times_upto s (suc last) number =
    with_times number (suc last) (upto s last) (here s (suc last))
    ∙ ap (λ (n : ℕ). n + one_if (here s (suc last) && (suc last == number))) (times_upto s last number)
    ∙ one_more_in_trust s last number

-- ---- how many proofs a query has

filtered_length : (verdict : Verdict) (kept : List Verdict) (count : ℕ) (b : Bool) → length kept ≡ count → length (cond b (verdict ∷ kept) kept) ≡ one_if b + count
filtered_length verdict kept count true e = omega (arith, e)
filtered_length verdict kept count false e = omega (arith, e)

-- as many as its number is there
proofs_times : (number : ℕ) (verdicts : List Verdict) → length (filter (is_at_query number) verdicts) ≡ times number (numbers_of verdicts)
proofs_times number [] = refl
proofs_times number (verdict ∷ verdicts) =
    filtered_length verdict (filter (is_at_query number) verdicts) (times number (numbers_of verdicts)) (is_at_query number verdict) (proofs_times number verdicts)

-- the query is at the server of this number
abbrev pub is_home : Scenario → Transaction → ℕ → ℕ → Bool
is_home sc declared number at = here (site_of sc at declared) number

-- so it is, and is one of the queries that a round is over
abbrev pub is_home_over : Scenario → Span → Transaction → ℕ → ℕ → Bool
is_home_over sc over declared number at = nat_le number (last_spanned over declared) && is_home sc declared number at

-- how many of the servers pass a test
abbrev pub passing : (ℕ → Bool) → List ServerId → ℕ
passing test [] = 0
passing test (server ∷ servers) = one_if (test server.0) + passing test servers

target_times : (sc : Scenario) (facts : List Fact) (place : ℕ) (txn : TxnId) (over : Span) (declared : Transaction) (number : ℕ) (target : Target) → slice_get sc.txns txn.0 ≡ Some declared
    → is_missing target ≡ false → TargetFits sc facts place txn over target → length (filter (is_at_query number) (verdicts_in target)) ≡ one_if (is_home_over sc over declared number target.server.0)
target_times sc facts place txn over declared number target found replied h =
    proofs_times number (verdicts_in target) ∙ ap (times number) (numbers_at sc facts place txn over target replied h declared found) ∙ times_upto (site_of sc target.server.0 declared) (last_spanned over declared) number

-- a query that a round is over has as many proofs as there are servers that it is at, and another none
proofs_count : (sc : Scenario) (facts : List Fact) (place : ℕ) (txn : TxnId) (over : Span) (declared : Transaction) (number : ℕ) (targets : List Target) → slice_get sc.txns txn.0 ≡ Some declared
    → Each (λ (target : Target). is_missing target ≡ false) targets → Each (TargetFits sc facts place txn over) targets
    → length (filter (is_at_query number) (proofs_in targets)) ≡ passing (is_home_over sc over declared number) (map server_of targets)
proofs_count sc facts place txn over declared number [] found replied h = refl
proofs_count sc facts place txn over declared number (target ∷ targets) found replied h =
    let parts : length (filter (is_at_query number) (verdicts_in target ++ proofs_in targets)) ≡ length (filter (is_at_query number) (verdicts_in target)) + length (filter (is_at_query number) (proofs_in targets)) =
    ap length (filter-append (is_at_query number) (verdicts_in target) (proofs_in targets)) ∙ length-append (filter (is_at_query number) (verdicts_in target)) (filter (is_at_query number) (proofs_in targets)) in
    let here_times = target_times sc facts place txn over declared number target found replied.0 h.0 in
    let later = proofs_count sc facts place txn over declared number targets found replied.1 h.1 in
    omega (arith, parts, here_times, later)

-- ---- the server of a query

skipped : (test : ℕ → Bool) (low count : ℕ) (rest : List ServerId) (b : Bool) → test low ≡ false → passing test rest ≡ count → passing test (cond b (record { 0 = low } ∷ rest) rest) ≡ count
skipped test low count rest true fails later = let none : one_if (test low) ≡ 0 = ap one_if fails in omega (arith, none, later)
skipped test low count rest false fails later = later

passes : (test : ℕ → Bool) (low : ℕ) (rest : List ServerId) (b : Bool) → b ≡ true → test low ≡ true → passing test rest ≡ 0 → passing test (cond b (record { 0 = low } ∷ rest) rest) ≡ 1
passes test low rest true e here_is later = let one : one_if (test low) ≡ 1 = ap one_if here_is in omega (arith, one, later)
passes test low rest false e here_is later = absurd (cc)

-- none passes
none_from : (sc : Scenario) (queries : List Query) (test : ℕ → Bool) (low left : ℕ) → ((k : ℕ) → low ≤ k → test k ≡ false) → passing test (servers_from sc queries low left) ≡ 0
none_from sc queries test low zero fails = refl
none_from sc queries test low (suc left) fails =
    skipped test low 0 (servers_from sc queries (low + 1) left) (list_any (is_at_server sc low) queries) (fails low (omega arith))
    (none_from sc queries test (low + 1) left (λ k above. fails k (omega (arith, above))))

-- one passes alone, which is a server of the queries
one_from : (sc : Scenario) (queries : List Query) (test : ℕ → Bool) (at low left : ℕ) → low ≤ at → at < low + left → list_any (is_at_server sc at) queries ≡ true → test at ≡ true
    → ((k : ℕ) → (at ≡ k → ⊥) → test k ≡ false) → passing test (servers_from sc queries low left) ≡ 1
one_from sc queries test at low zero above below any is others = absurd (omega (arith, above, below))
one_from sc queries test at low (suc left) above below any is others =
    elim (eqb_tells at low) [
      | inl same ↦
          passes test low (servers_from sc queries (low + 1) left) (list_any (is_at_server sc low) queries) (ap (λ (k : ℕ). list_any (is_at_server sc k) queries) (sym same.1) ∙ any) (ap test (sym same.1) ∙ is)
          (none_from sc queries test (low + 1) left (λ k more. others k (λ e. omega (arith, more, e, same.1))))
      | inr differs ↦
          skipped test low 1 (servers_from sc queries (low + 1) left) (list_any (is_at_server sc low) queries) (others low differs.1)
          (one_from sc queries test at (low + 1) left (omega (arith, above, differs.1)) (omega (arith, below)) any is others)
    ]

-- the server of a query that a round is over is one of the scenario's, and of these queries
record IsAtHome (sc : Scenario) (over : Span) (declared : Transaction) (number : ℕ) : Type 0 where
  server : ServerId
  exists : IsServer sc server
  at : is_home sc declared number server.0 ≡ true
  any : list_any (is_at_server sc server.0) (spanned over declared.queries) ≡ true

item_home_in_trust : (sc : Scenario) (over : Span) (declared : Transaction) (before : ℕ) (query : Query) (item : Item) → IsValidItem sc item → slice_get declared.queries before ≡ Some query → before < last_spanned over declared
    → slice_get sc.items (item_of query).0 ≡ Some item → IsAtHome sc over declared (suc before)
item_home_in_trust sc over declared before query item valid asked less on =
    let at : is_at_server sc item.server.0 query ≡ true = ap (λ (found : Option Item). option_map_or (λ (i : Item). i.server.0 == item.server.0) found false) on ∙ number_itself item.server.0 in
    let among : slice_get (spanned over declared.queries) before ≡ Some query = spanned_get over declared.queries before less ∙ asked in
    record {
      server = item.server;
      exists = valid.server;
      at = ap (λ (found : Option Query). option_map_or (is_at_server sc item.server.0) found false) asked ∙ at;
      any = list_any_at (is_at_server sc item.server.0) (spanned over declared.queries) before query less
          (ap (is_at_server sc item.server.0) (get_or_from_slice_get (spanned over declared.queries) before query query among) ∙ at);
    }

at_home_in_trust : (sc : Scenario) (txn : TxnId) (over : Span) (declared : Transaction) (before : ℕ) → HaveHomes sc → IsValid sc → slice_get sc.txns txn.0 ≡ Some declared → before < last_spanned over declared
    → IsAtHome sc over declared (suc before)
at_home_in_trust sc txn over declared before homes valid found less = on_query (slice_get declared.queries before) refl
  where
    there : before < length declared.queries
    there = let short = spanned_short over declared.queries in omega (arith, less, short)

    on_item : (query : Query) (item : Option Item) → slice_get declared.queries before ≡ Some query → slice_get sc.items (item_of query).0 ≡ item → IsAtHome sc over declared (suc before)
    on_item query None e f = absurd (missing sc.items (item_of query).0 (each_get (λ (q : Query). (item_of q).0 < length sc.items) declared.queries before query (homes.on_items txn.0 declared found) e) f)
    on_item query (Some item) e f = item_home_in_trust sc over declared before query item (each_get (IsValidItem sc) sc.items (item_of query).0 item valid.items f) e less f

    on_query : (query : Option Query) → slice_get declared.queries before ≡ query → IsAtHome sc over declared (suc before)
    on_query None e = absurd (missing declared.queries before there e)
    on_query (Some query) e = on_item query (slice_get sc.items (item_of query).0) e refl

-- so a query that a round is over is at one of the servers of these queries, and a number past them at none
home_count : (sc : Scenario) (txn : TxnId) (over : Span) (declared : Transaction) (number : ℕ) → HaveHomes sc → IsValid sc → slice_get sc.txns txn.0 ≡ Some declared → 1 ≤ number
    → passing (is_home_over sc over declared number) (servers_of sc (only_spanned over declared)) ≡ one_if (nat_le number (last_spanned over declared))
home_count sc txn over declared zero homes valid found low = absurd (omega (arith, low))
home_count sc txn over declared (suc before) homes valid found low =
    ⊎_elim (λ (less : before < last_spanned over declared).
    let home : IsAtHome sc over declared (suc before) = at_home_in_trust sc txn over declared before homes valid found less in
    let exists : home.server.0 < length sc.servers = home.exists in
    let within : nat_le (suc before) (last_spanned over declared) ≡ true = grind (arith, nat_tests) in
    one_from sc (spanned over declared.queries) (is_home_over sc over declared (suc before)) home.server.0 0 (length sc.servers) (omega arith) (omega (arith, exists)) home.any
    (and_from (nat_le (suc before) (last_spanned over declared)) (is_home sc declared (suc before) home.server.0) within home.at)
    (λ k apart. ap (λ (b : Bool). nat_le (suc before) (last_spanned over declared) && b) (one_home sc declared home.server.0 k (suc before) apart home.at) ∙ and-false (nat_le (suc before) (last_spanned over declared)))
    ∙ ap one_if (sym within))
    (λ (most : last_spanned over declared ≤ before).
    let outside : nat_le (suc before) (last_spanned over declared) ≡ false = grind (arith, nat_tests) in
    none_from sc (spanned over declared.queries) (is_home_over sc over declared (suc before)) 0 (length sc.servers) (λ k above. ap (λ (b : Bool). b && is_home sc declared (suc before) k) outside)
    ∙ ap one_if (sym outside))
    (cases_lt before (last_spanned over declared))

-- of each query that the round is over there is one proof
one_for_each : (sc : Scenario) (facts : List Fact) (place : ℕ) (txn : TxnId) (over : Span) (declared : Transaction) (round : Round) → HaveHomes sc → IsValid sc → slice_get sc.txns txn.0 ≡ Some declared
    → RoundFits sc facts place txn over round → Each (λ (target : Target). is_missing target ≡ false) round.targets → HasOneForEach (last_spanned over declared) (proofs_in round.targets)
one_for_each sc facts place txn over declared round homes valid found h replied number low most =
    proofs_count sc facts place txn over declared number round.targets found replied h.targets
    ∙ ap (passing (is_home_over sc over declared number)) (h.servers ∙ ap (λ (d : Option Transaction). option_map_or (λ (t : Transaction). servers_of sc (only_spanned over t)) d []) found)
    ∙ home_count sc txn over declared number homes valid found low

-- ---- the proofs that are given

all_true : (verdicts : List Verdict) → list_all is_true verdicts ≡ true → list_all (λ (verdict : Verdict). is_some verdict.rule) verdicts ≡ true
all_true verdicts e = all_from_each (λ (verdict : Verdict). is_true verdict ≡ true) (λ (verdict : Verdict). is_some verdict.rule) (λ verdict t. some_if_not_none verdict.rule t) verdicts (each_from_all is_true verdicts e)

-- proofs that close an instance: right, of each query that the round is over, in order, true, and of one version of
-- each administrator; and the round's number
pub record IsClosing (sc : Scenario) (facts : List Fact) (place : ℕ) (txn : TxnId) (over : Span) (round : Round) (proofs : List Verdict) : Type 0 where
  pub right : Each (Right sc facts place txn) proofs
  pub numbers : (declared : Transaction) → slice_get sc.txns txn.0 ≡ Some declared → numbers_of proofs ≡ range_with_len 1 (last_spanned over declared)
  pub have_rules : list_all (λ (verdict : Verdict). is_some verdict.rule) proofs ≡ true
  pub one_version : is_one_version proofs ≡ true
  pub number : (declared : Transaction) → slice_get sc.txns txn.0 ≡ Some declared → IsRoundNumber sc declared round.number

-- so are those of a round that is judged true, by query
pub round_closes : (sc : Scenario) (facts : List Fact) (place : ℕ) (txn : TxnId) (over : Span) (round : Round) (reading : Option Reading) → HaveHomes sc → IsValid sc → RoundFits sc facts place txn over round → judge round reading ≡ AllTrue
    → IsClosing sc facts place txn over round (by_query (proofs_in round.targets))
round_closes sc facts place txn over round reading homes valid h e =
    let agree = all_agree round reading e in
    let replied : Each (λ (target : Target). is_missing target ≡ false) round.targets = replied_all round reading (all_answered round reading e) in
    let few : (declared : Transaction) → slice_get sc.txns txn.0 ≡ Some declared → last_spanned over declared ≤ 16 = λ declared found.
    let most = homes.few txn.0 declared found in let short = spanned_short over declared.queries in omega (arith, most, short) in
    record {
      right = each_by_query (Right sc facts place txn) (proofs_in round.targets) (proofs_right sc facts place txn over round h);
      numbers = λ declared found. goes_by_query (proofs_in round.targets) (last_spanned over declared) (few declared found) (one_for_each sc facts place txn over declared round homes valid found h replied);
      have_rules = all_true (by_query (proofs_in round.targets)) (all_by_query is_true (proofs_in round.targets) agree.all_true);
      one_version = agree.one_version;
      number = λ declared found. round_number sc facts place txn over round declared found h;
    }
