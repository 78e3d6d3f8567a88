-- The update of a round, whatever the master was read to have: it wants published versions of each administrator of a
-- server that is awaited, and rounds are counted on by what they meet.
use Rattle.std.specs.List.{fold, list_all, list_any}
use Rattle.std.specs.Option.{option_map_or}
use Rattle.std.proofs.Common.{Bool, IfSome, List, None, Option, Some, [], ap, arith, cond, false, filter, find, inr, is_none, is_some, length, map, max, refl, slice_get, subst, suc, sym, true, unwrap_or, zero, ℕ, ◌&&◌, ◌+◌, ◌||◌, ◌<◌, ◌∙◌, ◌∷◌, ◌≡◌, ◌≤◌, slice_index_or, Contains}
use Rattle.std.proofs.lemmas.Bool.{and_from, or_left, or_parts, or_right}
use Rattle.std.proofs.lemmas.Option.{same_Some}
use Rattle.tp_types.proofs.ListLemmas.{number_itself}
use Rattle.tp_model.specs.Authorisation.{is_own_query}
use Rattle.tp_model.specs.Ids.{same_server}
use Rattle.tp_model.specs.Versions.{is_publication, newest}
use Rattle.tp_model.specs.Words.{AdminId, Fact, Met, Reading, Scenario, ServerId, Transaction, TxnId, Verdict, Version}
use Rattle.tp_round.specs.declared.round.Judged.TheVariants.{Update}
use Rattle.tp_round.specs.declared.round.Round.{Round}
use Rattle.tp_round.specs.declared.round.Target.{Target}
use Rattle.tp_round.specs.declared.round.Wanted.{Wanted}
use Rattle.tp_round.specs.Judge.{after, after_judgement, aim_in, is_missing, is_outdated, is_proved_by, is_waiting, judge, met_in, mets_in, new_target, newest_in, next_number, next_round, next_target, want_of, wants_of}
use Rattle.tp_model.specs.Levels.{is_global_at}
use Rattle.tp_round.specs.Laws.{target_in}
use Rattle.tp_round.specs.Replies.{greatest, is_of, proofs_in, verdicts_in, with_greater}
use Rattle.tp_round.proofs.AdminLemmas as admins
use Rattle.tp_round.proofs.AdminLemmas.{aimed_at, same_ids}
use Rattle.tp_round.proofs.AgainLemmas.{IsUpdated, updated}
use Rattle.tp_round.proofs.KeptLemmas.{same_servers, servers_renewed}
use Rattle.tp_round.proofs.NamesLemmas.{admins_in, all_covered, is_covered}
use Rattle.tp_round.proofs.RoundsLemmas.{aim_at, all_wanted, are_wanted_at, is_wanted_at, renewed_at}
use Rattle.tp_runs.proofs.basics.Verdicts.{numbers_of}
use Rattle.tp_types.proofs.EachLemmas.{each_from_all}
use Rattle.tp_types.proofs.EachLemmas.{each_as, each_filter, each_map, each_two}
use Rattle.tp_runs.proofs.basics.Aims.{wants_within}
use Rattle.tp_runs.proofs.ids.Valid.{IsValid}
use Rattle.tp_runs.proofs.pairs.Actors.{site_of}
use Rattle.tp_runs.proofs.pairs.Site.{Site, here, here_within, in_upto, upto}
use Rattle.tp_runs.proofs.basics.Levels.{has_view}
use Rattle.tp_runs.proofs.basics.Phases.{last_spanned, spanned}
use Rattle.tp_coord.specs.declared.coordinator.Span.{Span}
use Rattle.tp_machine.specs.Named.{IsAdmin}
use Rattle.tp_runs.proofs.trust.Fit.{IsPublished, Right, count_rises}
use Rattle.tp_runs.proofs.trust.RoundLevels.{each_failing, own_admins, own_proofs, round_read_for}
use Rattle.tp_runs.proofs.trust.RoundMets.{JudgedFits, NextMets, Updates, next_counted, next_few, next_mets, next_unread}
use Rattle.tp_runs.proofs.trust.Rounds.{AreMet, AreNumbersAt, ArePublished, IsCovered, IsFresh, IsLaterRound, IsNamedFor, IsWithin, RoundFits, TargetFits, declared_with, few_rounds, last_met, own_here, proofs_right, round_number, same_admin_of, want_in}
use Rattle.tp_types.specs.Each.{Each}

-- ---- members

-- each member that is as said passes a test that it passes with itself
each_member : {A : Type 0} (Q : A → Type 0) (test : A → A → Bool) → ((x : A) → Q x → test x x ≡ true) → (xs : List A) → Each (λ (x : A). Q x → list_any (test x) xs ≡ true) xs
each_member Q test own [] = tt
each_member {A = A} Q test own (x ∷ xs) = (
  λ q. or_left (test x x) (list_any (test x) xs) (own x q),
  each_as (λ (y : A). Q y → list_any (test y) xs ≡ true) (λ (y : A). Q y → list_any (test y) (x ∷ xs) ≡ true) (λ y later q. or_right (test y x) (list_any (test y) xs) (later q)) xs (each_member Q test own xs),
)

-- ---- the versions that are wanted

-- the verdict's version is at most the newest
abbrev IsKnown : Scenario → List Fact → ℕ → Verdict → Type 0
IsKnown sc facts place verdict = verdict.version.0 ≤ newest sc verdict.admin place facts

greater_where : (sc : Scenario) (facts : List Fact) (place : ℕ) (admin : AdminId) (verdict : Verdict) (most : ℕ) (b : Bool) → is_of admin verdict ≡ b → IsKnown sc facts place verdict
    → most ≤ newest sc admin place facts → cond b (max most verdict.version.0) most ≤ newest sc admin place facts
greater_where sc facts place admin verdict most true e known low =
    let here : verdict.version.0 ≤ newest sc admin place facts = subst (λ (one : AdminId). verdict.version.0 ≤ newest sc one place facts) (same_ids verdict.admin admin e) known in
    omega (arith, here, low)
greater_where sc facts place admin verdict most false e known low = low

greatest_low : (sc : Scenario) (facts : List Fact) (place : ℕ) (admin : AdminId) (verdicts : List Verdict) (most : ℕ) → Each (IsKnown sc facts place) verdicts → most ≤ newest sc admin place facts
    → fold (with_greater admin) most verdicts ≤ newest sc admin place facts
greatest_low sc facts place admin [] most h low = low
greatest_low sc facts place admin (verdict ∷ verdicts) most h low =
    greatest_low sc facts place admin verdicts (with_greater admin most verdict) h.1 (greater_where sc facts place admin verdict most (is_of admin verdict) refl h.0 low)

-- what the master was read to have of an administrator is at most the newest
reading_low : (sc : Scenario) (facts : List Fact) (place : ℕ) (txn : TxnId) (round : Round) (reading : Option Reading) (admin : AdminId) → IsAdmin sc admin → JudgedFits sc facts place txn round reading
    → newest_in reading admin ≤ newest sc admin place facts
reading_low sc facts place txn round None admin exists r = omega arith
reading_low sc facts place txn round (Some reading) admin exists r =
    let past = r.past in
    let rises = count_rises (is_publication admin) reading.place place facts (omega (arith, past)) in
    omega (arith, r.newest_is admin exists, rises)

target_where : (sc : Scenario) (facts : List Fact) (place : ℕ) (round : Round) (reading : Option Reading) (admin : AdminId) (b : Bool) → newest_in reading admin ≤ newest sc admin place facts
    → Each (IsKnown sc facts place) (proofs_in round.targets) → cond b (newest_in reading admin) (greatest admin (proofs_in round.targets)) ≤ newest sc admin place facts
target_where sc facts place round reading admin true low known = low
target_where sc facts place round reading admin false low known = greatest_low sc facts place admin (proofs_in round.targets) 0 known (omega arith)

-- a round's targets are at most the newest versions
target_low : (sc : Scenario) (facts : List Fact) (place : ℕ) (txn : TxnId) (round : Round) (reading : Option Reading) (admin : AdminId) → IsAdmin sc admin → JudgedFits sc facts place txn round reading
    → Each (IsKnown sc facts place) (proofs_in round.targets) → target_in round reading admin ≤ newest sc admin place facts
target_low sc facts place txn round reading admin exists r known =
    target_where sc facts place round reading admin (is_global_at round.levels admin) (reading_low sc facts place txn round reading admin exists r) known

-- so are the versions of a round's aim
aim_published : (sc : Scenario) (facts : List Fact) (place : ℕ) (txn : TxnId) (round : Round) (reading : Option Reading) → Each (IsAdmin sc) (admins_in round) → JudgedFits sc facts place txn round reading
    → Each (IsKnown sc facts place) (proofs_in round.targets) → Each (IsPublished sc facts place) (aim_in round reading)
aim_published sc facts place txn round reading exist r known =
    each_map (IsAdmin sc) (IsPublished sc facts place) (aimed_at (target_in round reading)) (λ admin exists. target_low sc facts place txn round reading admin exists r known) (admins_in round) exist

wants_published : (sc : Scenario) (facts : List Fact) (place : ℕ) (aim : List (AdminId × Version)) (targets : List Target) → Each (IsPublished sc facts place) aim
    → Each (ArePublished sc facts place) (map (want_of aim) targets)
wants_published sc facts place aim [] h = tt
wants_published sc facts place aim (one ∷ targets) h = (each_filter (IsPublished sc facts place) (is_proved_by one) aim h, wants_published sc facts place aim targets h)

-- ---- the administrators that are named

-- of a query's administrator there is a verdict, where the query has one
proved_where : (sc : Scenario) (facts : List Fact) (place : ℕ) (txn : TxnId) (declared : Transaction) (number : ℕ) (at : ServerId) (admin : AdminId) → slice_get sc.txns txn.0 ≡ Some declared
    → is_own_query sc declared number at admin ≡ true → (verdicts : List Verdict) (k : ℕ) → k < length (numbers_of verdicts) → slice_index_or (numbers_of verdicts) k number ≡ number
    → Each (Right sc facts place txn) verdicts → list_any (is_of admin) verdicts ≡ true
proved_where sc facts place txn declared number at admin e own [] k within is right = absurd (omega (arith, within))
proved_where sc facts place txn declared number at admin e own (verdict ∷ verdicts) zero within is right =
    let of_number : is_own_query sc declared number verdict.server verdict.admin ≡ true = subst (λ (n : ℕ). is_own_query sc declared n verdict.server verdict.admin ≡ true) is (right.0 declared e).own in
    or_left (is_of admin verdict) (list_any (is_of admin) verdicts) (same_admin_of sc declared number at verdict.server admin verdict.admin own of_number)
proved_where sc facts place txn declared number at admin e own (verdict ∷ verdicts) (suc k) within is right =
    or_right (is_of admin verdict) (list_any (is_of admin) verdicts) (proved_where sc facts place txn declared number at admin e own verdicts k (omega (arith, within)) is right.1)

-- so there is one of each administrator of the server's queries that the round is over, where the verdicts are of all
-- of them
proved_at : (sc : Scenario) (facts : List Fact) (place : ℕ) (txn : TxnId) (over : Span) (declared : Transaction) (number : ℕ) (at : ServerId) (admin : AdminId) (verdicts : List Verdict)
    → slice_get sc.txns txn.0 ≡ Some declared → number ≤ last_spanned over declared → is_own_query sc declared number at admin ≡ true → Each (Right sc facts place txn) verdicts → AreNumbersAt sc txn over at verdicts
    → list_any (is_of admin) verdicts ≡ true
proved_at sc facts place txn over declared number at admin verdicts e low own right numbers =
    let s : Site = site_of sc at.0 declared in
    let at_site : here s number ≡ true = own_here sc declared number at admin own in
    let within = here_within s number at_site in
    let among : Contains (upto s (last_spanned over declared)) number = in_upto s (last_spanned over declared) number (record { low = within.0; high = low; at = at_site }) in
    let there : Contains (numbers_of verdicts) number = subst (λ (ns : List ℕ). Contains ns number) (sym (numbers declared e)) among in
    proved_where sc facts place txn declared number at admin e own verdicts there.0 there.1 there.2 right

numbers_where : (sc : Scenario) (txn : TxnId) (over : Span) (at : ServerId) (reply : Option (List Verdict)) → is_none reply ≡ false → IfSome reply (AreNumbersAt sc txn over at) → AreNumbersAt sc txn over at (unwrap_or reply [])
numbers_where sc txn over at None e h = absurd (cc)
numbers_where sc txn over at (Some verdicts) e h = h

-- the numbers of a server that replied
pub numbers_at : (sc : Scenario) (facts : List Fact) (place : ℕ) (txn : TxnId) (over : Span) (one : Target) → is_missing one ≡ false → TargetFits sc facts place txn over one → AreNumbersAt sc txn over one.server (verdicts_in one)
numbers_at sc facts place txn over one e h = numbers_where sc txn over one.server one.reply e h.numbers

some_where : (f : AdminId → ℕ) (admin : AdminId) (b : Bool) → b ≡ true → is_some (cond b (Some (f admin)) None) ≡ true
some_where f admin true e = refl
some_where f admin false e = absurd (cc)

-- what is wanted of a server that replied names its administrators
want_named : (sc : Scenario) (facts : List Fact) (place : ℕ) (txn : TxnId) (over : Span) (round : Round) (reading : Option Reading) (one : Target) → is_missing one ≡ false → TargetFits sc facts place txn over one → is_covered round one ≡ true
    → IsNamedFor sc txn over one.server (want_of (aim_in round reading) one).want
want_named sc facts place txn over round reading one e h covered declared found number admin low own =
    let f : AdminId → ℕ = target_in round reading in
    let proved : list_any (is_of admin) (verdicts_in one) ≡ true = proved_at sc facts place txn over declared number one.server admin (verdicts_in one) found low own h.right (numbers_at sc facts place txn over one e h) in
    ap is_some (admins.wanted_is f (admins_in round) (verdicts_in one) covered admin) ∙ some_where f admin (list_any (is_of admin) (verdicts_in one)) proved

-- ---- the servers that are awaited

-- a server that is out of date, by its number
abbrev is_outdated_at : List (AdminId × Version) → ServerId → Target → Bool
is_outdated_at aim server one = is_outdated aim one && same_server one.server server

-- a target is named for, where it is out of date
abbrev NamesIfOutdated : Scenario → TxnId → Span → List (AdminId × Version) → Target → Type 0
NamesIfOutdated sc txn over aim one = IsNamedFor sc txn over one.server (want_of aim one).want

first_named : (sc : Scenario) (txn : TxnId) (over : Span) (aim : List (AdminId × Version)) (one : Target) (targets : List Target) (server : ServerId) (s : Bool) → same_server one.server server ≡ s → NamesIfOutdated sc txn over aim one
    → (s ≡ false → IsNamedFor sc txn over server (want_in (wants_of aim targets) server))
    → IsNamedFor sc txn over server (option_map_or (λ (other : Wanted). other.want) (cond s (Some (want_of aim one)) (find (λ (other : Wanted). same_server other.server server) (wants_of aim targets))) [])
first_named sc txn over aim one targets server true e named later = subst (λ (at : ServerId). IsNamedFor sc txn over at (want_of aim one).want) (same_servers one.server server e) named
first_named sc txn over aim one targets server false e named later = later refl

rest_any : (s rest : Bool) → (s || rest) ≡ true → s ≡ false → rest ≡ true
rest_any true rest e f = absurd (cc)
rest_any false rest e f = e

named_where : (sc : Scenario) (txn : TxnId) (over : Span) (aim : List (AdminId × Version)) (one : Target) (targets : List Target) (server : ServerId) (rest o : Bool) → NamesIfOutdated sc txn over aim one
    → (rest ≡ true → IsNamedFor sc txn over server (want_in (wants_of aim targets) server)) → ((o && same_server one.server server) || rest) ≡ true
    → IsNamedFor sc txn over server (want_in (map (want_of aim) (cond o (one ∷ filter (is_outdated aim) targets) (filter (is_outdated aim) targets))) server)
named_where sc txn over aim one targets server rest true named later some =
    first_named sc txn over aim one targets server (same_server one.server server) refl named (λ differs. later (rest_any (same_server one.server server) rest some differs))
named_where sc txn over aim one targets server rest false named later some = later some

named_outdated : (sc : Scenario) (txn : TxnId) (over : Span) (aim : List (AdminId × Version)) (targets : List Target) (server : ServerId) → Each (NamesIfOutdated sc txn over aim) targets
    → list_any (is_outdated_at aim server) targets ≡ true → IsNamedFor sc txn over server (want_in (wants_of aim targets) server)
named_outdated sc txn over aim [] server h some = absurd (cc)
named_outdated sc txn over aim (one ∷ targets) server h some =
    named_where sc txn over aim one targets server (list_any (is_outdated_at aim server) targets) (is_outdated aim one) h.0 (named_outdated sc txn over aim targets server h.1) some

covered_where : (sc : Scenario) (txn : TxnId) (over : Span) (named : List Wanted) (one : Target) (b : Bool) → is_missing one ≡ false → (b ≡ true → IsNamedFor sc txn over one.server (want_in named one.server))
    → IsCovered sc txn over named (cond b (new_target one.server) one)
covered_where sc txn over named one true replied outdated missing = outdated refl
covered_where sc txn over named one false replied outdated missing = absurd (cc)

-- after an update each server that is awaited was named
renewed_covers : (sc : Scenario) (txn : TxnId) (over : Span) (aim : List (AdminId × Version)) (targets : List Target) → Each (NamesIfOutdated sc txn over aim) targets → Each (λ (one : Target). is_missing one ≡ false) targets
    → Each (IsCovered sc txn over (wants_of aim targets)) (map (next_target aim) targets)
renewed_covers sc txn over aim targets named replied =
    let own : (one : Target) → is_outdated aim one ≡ true → is_outdated_at aim one.server one ≡ true = λ one out. and_from (is_outdated aim one) (same_server one.server one.server) out (number_itself one.server.0) in
    let members = each_member (λ (one : Target). is_outdated aim one ≡ true) (λ (one : Target). is_outdated_at aim one.server) own targets in
    each_map (λ (one : Target). (is_missing one ≡ false) × (is_outdated aim one ≡ true → list_any (is_outdated_at aim one.server) targets ≡ true)) (IsCovered sc txn over (wants_of aim targets)) (next_target aim)
    (λ one h. covered_where sc txn over (wants_of aim targets) one (is_outdated aim one) h.0 (λ out. named_outdated sc txn over aim targets one.server named (h.1 out))) targets
    (each_two (λ (one : Target). is_missing one ≡ false) (λ (one : Target). is_outdated aim one ≡ true → list_any (is_outdated_at aim one.server) targets ≡ true) targets replied members)

-- ---- the update

-- a round that is updated
pub record IsUpdatedRound (sc : Scenario) (facts : List Fact) (place : ℕ) (txn : TxnId) (over : Span) (round : Round) (reading : Option Reading) (named : List Wanted) : Type 0 where
  pub begun : 1 ≤ round.number
  pub number : (after_judgement round reading).number ≡ round.number + 1
  pub named_is : (after_judgement round reading).named ≡ named
  pub fits : RoundFits sc facts place txn over (after_judgement round reading)

renewed_where : (sc : Scenario) (facts : List Fact) (place : ℕ) (txn : TxnId) (over : Span) (one : Target) (b : Bool) → TargetFits sc facts place txn over one → TargetFits sc facts place txn over (cond b (new_target one.server) one)
renewed_where sc facts place txn over one true h = record { right = tt; numbers = tt }
renewed_where sc facts place txn over one false h = h

-- every server has replied, where the round does not wait
pub replied_all : (round : Round) (reading : Option Reading) → is_waiting round reading ≡ false → Each (λ (one : Target). is_missing one ≡ false) round.targets
replied_all round reading e = each_failing is_missing round.targets (or_parts (list_any is_missing round.targets) _ e).0

-- what is said of a transaction is said of each that is found there
same_found : (sc : Scenario) (txn : TxnId) (declared other : Transaction) → slice_get sc.txns txn.0 ≡ Some declared → slice_get sc.txns txn.0 ≡ Some other → declared ≡ other
same_found sc txn declared other e f = same_Some declared other (sym e ∙ f)

next_fits : (sc : Scenario) (facts : List Fact) (place : ℕ) (txn : TxnId) (over : Span) (round : Round) (reading : Option Reading) (named : List Wanted) (declared : Transaction) → Updates sc facts place txn over round reading named declared
    → RoundFits sc facts place txn over (next_round round (aim_in round reading) named (mets_in round (met_in round reading)))
next_fits sc facts place txn over round reading named declared u =
    let h : RoundFits sc facts place txn over round = u.fits in
    let is : IsUpdated round reading named = updated round reading named u.judged in
    let f : AdminId → ℕ = target_in round reading in
    let aim : List (AdminId × Version) = aim_in round reading in
    let at : list_all (is_wanted_at f) aim ≡ true = aim_at f (admins_in round) in
    let known : Each (IsKnown sc facts place) (proofs_in round.targets) =
    each_as (Right sc facts place txn) (IsKnown sc facts place) (λ verdict right. (right declared u.found).published) (proofs_in round.targets) (proofs_right sc facts place txn over round h) in
    let published : Each (IsPublished sc facts place) aim = aim_published sc facts place txn round reading (own_admins sc declared round u.own) u.read known in
    let replied : Each (λ (one : Target). is_missing one ≡ false) round.targets = replied_all round reading is.goes_on in
    let names : Each (NamesIfOutdated sc txn over aim) round.targets =
    each_as (λ (one : Target). (is_missing one ≡ false) × (TargetFits sc facts place txn over one × (is_covered round one ≡ true))) (NamesIfOutdated sc txn over aim)
    (λ one k. want_named sc facts place txn over round reading one k.0 k.1.0 k.1.1) round.targets
    (each_two (λ (one : Target). is_missing one ≡ false) (λ (one : Target). TargetFits sc facts place txn over one × (is_covered round one ≡ true)) round.targets replied
    (each_two (TargetFits sc facts place txn over) (λ (one : Target). is_covered round one ≡ true) round.targets h.targets (each_from_all (is_covered round) round.targets (all_covered round)))) in
    let number : 2 ≤ next_number round = let least = (round_number sc facts place txn over round declared u.found h).0 in omega (arith, least) in
    let next : NextMets sc facts place txn over round reading declared (mets_in round (met_in round reading)) = next_mets sc facts place txn over round reading named declared u in
    let mets : List Met = mets_in round (met_in round reading) in
    let later : IsLaterRound sc facts place txn over (next_round round aim named mets) = record {
      number = number;
      aimed = f;
      kept = renewed_at f aim round.targets at;
      aim = at;
      named = ap (list_all (are_wanted_at f)) is.is_named ∙ all_wanted f aim (filter (is_outdated aim) round.targets) at;
      published = subst (λ (ws : List Wanted). Each (ArePublished sc facts place) ws) (sym is.is_named) (wants_published sc facts place aim (filter (is_outdated aim) round.targets) published);
      covers = subst (λ (ws : List Wanted). Each (IsCovered sc txn over ws) (map (next_target aim) round.targets)) (sym is.is_named) (renewed_covers sc txn over aim round.targets names replied);
      within = subst (Each (IsWithin aim)) (sym is.is_named) (wants_within aim round.targets);
      counted = next_counted sc facts place txn over round reading named declared u;
      brought = λ other there. subst (λ (d : Transaction). next_number round ≡ length mets + 2 → has_view sc d (spanned over d.queries) ≡ true) (same_found sc txn declared other u.found there) next.brought;
      fresh = λ other there. subst (λ (d : Transaction). IfSome (last_met mets) (IsFresh sc facts d f)) (same_found sc txn declared other u.found there) next.fresh;
    } in
    record {
      limit = h.limit;
      levels = h.levels;
      reads = h.reads;
      servers = servers_renewed aim round.targets ∙ h.servers;
      targets = each_map (TargetFits sc facts place txn over) (TargetFits sc facts place txn over) (next_target aim) (λ one k. renewed_where sc facts place txn over one (is_outdated aim one) k) round.targets h.targets;
      count = inr later;
      top = h.top;
      few = next_few sc facts place txn over round reading named declared u;
      unread = λ none. next_unread sc facts place txn over round reading named declared u none;
      mets = λ other there. subst (λ (d : Transaction). AreMet sc facts place txn d mets) (same_found sc txn declared other u.found there) next.met;
    }

-- an updated round's next one fits
pub round_updated : (sc : Scenario) (facts : List Fact) (place : ℕ) (txn : TxnId) (over : Span) (round : Round) (reading : Option Reading) (named : List Wanted) → IsValid sc → RoundFits sc facts place txn over round
    → JudgedFits sc facts place txn round reading → judge round reading ≡ Update named → IsUpdatedRound sc facts place txn over round reading named
round_updated sc facts place txn over round reading named valid h r e =
    let is : IsUpdated round reading named = updated round reading named e in
    let there = declared_with sc txn over (is_outdated (aim_in round reading)) round.targets h.servers is.is_out in
    let u : Updates sc facts place txn over round reading named there.0 =
    record { fits = h; read = r; judged = e; found = there.1; own = own_proofs sc facts place txn over round there.0 valid there.1 h; read_for = round_read_for sc facts place txn over round there.0 valid there.1 h } in
    let low : round.number ≤ 17 = few_rounds sc facts place txn over round h in
    let further : next_number round ≡ round.number + 1 = omega (arith, low) in
    record {
      begun = (round_number sc facts place txn over round there.0 there.1 h).0;
      number = ap (λ answer. (after round (aim_in round reading) (met_in round reading) answer).number) e ∙ further;
      named_is = ap (λ answer. (after round (aim_in round reading) (met_in round reading) answer).named) e;
      fits = subst (λ answer. RoundFits sc facts place txn over (after round (aim_in round reading) (met_in round reading) answer)) (sym e)
          (next_fits sc facts place txn over round reading named there.0 u);
    }

renewed_as : (P : Target → Type 0) (one : Target) (b : Bool) → P (new_target one.server) → P one → P (cond b (new_target one.server) one)
renewed_as P one true new old = new
renewed_as P one false new old = old

-- what holds of its targets, and of one that is asked anew, holds of those of the next round
pub updated_keeps : (P : Target → Type 0) (round : Round) (reading : Option Reading) (named : List Wanted) → judge round reading ≡ Update named → ((server : ServerId) → P (new_target server)) → Each P round.targets
    → Each P (after_judgement round reading).targets
updated_keeps P round reading named e new h =
    let aim = aim_in round reading in
    subst (λ answer. Each P (after round aim (met_in round reading) answer).targets) (sym e) (each_map P P (next_target aim) (λ one old. renewed_as P one (is_outdated aim one) (new one.server) old) round.targets h)
