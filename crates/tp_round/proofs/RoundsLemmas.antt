-- The count of rounds: the versions of one round's targets are kept to in the next, so that in a later round that meets
-- nothing at the master no server is out of date.
use Rattle.std.proofs.Common.{◌≡◌, ◌⊎◌, inl, inr, ◌<◌, ◌≤◌, ◌+◌, ◌-◌, ◌^◌, ℕ, Bool, true, false, ◌&&◌, ◌||◌, ◌==◌, cond, List, [], ◌∷◌, ◌++◌, filter, length, map, max, min, nat_le, nat_lt, not, Option, Some, None, arith, refl, ap, subst, sym, ◌∙◌}
use Rattle.std.proofs.Math.Bool.{or-false}
use Rattle.std.proofs.lemmas.Bool.{and_from, and_parts, both_ways, eq-eqb, eqb-true, leb-true, ltb-false, ne_eqb, not-false, not-true, not_from_false, or_from, or_left, or_parts, or_right}
use Rattle.std.proofs.lemmas.List.{length-append}
use Rattle.std.specs.List.{fold, list_all, list_any}
use Rattle.tp_types.proofs.ListLemmas.{all_filtered, number_itself}
use Rattle.tp_model.specs.Words.{AdminId, Level, Met, Reading, ServerId, Verdict, Version}
use Rattle.tp_model.specs.Ids.{same_admin, same_server}
use Rattle.tp_round.specs.declared.round.Judged.{Judged}
use Rattle.tp_round.specs.declared.round.Judged.TheVariants.{Waiting, AllTrue, False, Spent, Update}
use Rattle.tp_round.specs.declared.round.Round.{Round}
use Rattle.tp_round.specs.declared.round.Target.{Target}
use Rattle.tp_round.specs.declared.round.Wanted.{Wanted}
use Rattle.tp_round.specs.Judge.{after, after_reply, aim_in, awaits, first_round, is_aimed, is_awaited, is_missing, is_outdated, is_proved_by, is_spent, is_waiting, judge, met_in, mets_in, new_target, newest_in, next_number, next_round, next_target, want_of, with_reply}
use Rattle.tp_model.specs.Levels.{is_global_at}
use Rattle.tp_round.specs.Replies.{greatest, is_of, proofs_in, verdicts_in, with_greater}
use Rattle.tp_round.specs.Laws.{AreAsNamed, AreInOrder, Call, Judges, Replies, RoundsCountMets, TwoRoundsUnderView, after_call, after_calls, is_as_named, is_behind, is_not_above, is_of_global, is_read_after, is_read_for, is_short, is_under_view, reads_globals, target_in, was_named}
use Rattle.tp_round.proofs.AdminLemmas.{aimed_at, any_admin, covered, has_its_admin, same_ids}
use Rattle.tp_round.proofs.AgainLemmas.{IsUpdated, updated}
use Rattle.tp_round.proofs.MetLemmas.{meets_what_is_newer}
use Rattle.tp_round.proofs.NamesLemmas.{admins_in, all_of_each, any_outdated_is}
use Rattle.tp_round.proofs.SpentLemmas.{nothing_met}
use Rattle.tp_round.proofs.VersionLemmas.{are_at, is_at}

-- ---- proofs at given versions

-- what is wanted are the versions that are given
abbrev pub is_wanted_at : (AdminId → ℕ) → AdminId × Version → Bool
is_wanted_at f aimed = f aimed.0 == aimed.1.0

abbrev pub are_wanted_at : (AdminId → ℕ) → Wanted → Bool
are_wanted_at f named = list_all (is_wanted_at f) named.want

raised_where : (f : AdminId → ℕ) (admin : AdminId) (verdict : Verdict) (verdicts : List Verdict) (most : ℕ) (s rest : Bool) → is_of admin verdict ≡ s
    → is_at f verdict ≡ true → ((n : ℕ) → fold (with_greater admin) n verdicts ≡ cond rest (max n (f admin)) n)
    → fold (with_greater admin) (cond s (max most verdict.version.0) most) verdicts ≡ cond (s || rest) (max most (f admin)) most
raised_where f admin verdict verdicts most true true e at on =
    let version : verdict.version.0 ≡ f admin = sym (eqb-true (f verdict.admin) verdict.version.0 at) ∙ ap f (same_ids verdict.admin admin e) in
    let twice : max (max most (f admin)) (f admin) ≡ max most (f admin) = omega arith in
    on (max most verdict.version.0) ∙ ap (λ n. max (max most n) (f admin)) version ∙ twice
raised_where f admin verdict verdicts most true false e at on =
    let version : verdict.version.0 ≡ f admin = sym (eqb-true (f verdict.admin) verdict.version.0 at) ∙ ap f (same_ids verdict.admin admin e) in
    on (max most verdict.version.0) ∙ ap (max most) version
raised_where f admin verdict verdicts most false rest e at on = on most

greatest_from : (f : AdminId → ℕ) (admin : AdminId) (verdicts : List Verdict) (most : ℕ) → list_all (is_at f) verdicts ≡ true
    → fold (with_greater admin) most verdicts ≡ cond (list_any (is_of admin) verdicts) (max most (f admin)) most
greatest_from f admin [] most all = refl
greatest_from f admin (verdict ∷ verdicts) most all =
    let parts = and_parts (is_at f verdict) (list_all (is_at f) verdicts) all in
    raised_where f admin verdict verdicts most (is_of admin verdict) (list_any (is_of admin) verdicts) refl parts.0 (λ n. greatest_from f admin verdicts n parts.1)

-- where all proofs have the given versions, the greatest of an administrator is the given one
pub greatest_is : (f : AdminId → ℕ) (admin : AdminId) (proofs : List Verdict) → list_all (is_at f) proofs ≡ true → list_any (is_of admin) proofs ≡ true
    → greatest admin proofs ≡ f admin
greatest_is f admin proofs all some =
    let zero_least : max 0 (f admin) ≡ f admin = omega arith in
    greatest_from f admin proofs 0 all ∙ ap (λ b. cond b (max 0 (f admin)) 0) some ∙ zero_least

-- ---- versions that were named

wanted_where : (f : AdminId → ℕ) (aimed : AdminId × Version) (verdict : Verdict) → is_wanted_at f aimed ≡ true
    → (same_admin aimed.0 verdict.admin && (aimed.1.0 == verdict.version.0)) ≡ true → is_at f verdict ≡ true
wanted_where f aimed verdict at e =
    let parts = and_parts (same_admin aimed.0 verdict.admin) (aimed.1.0 == verdict.version.0) e in
    ap (λ admin. f admin == verdict.version.0) (sym (same_ids aimed.0 verdict.admin parts.0))
    ∙ ap (λ n. f aimed.0 == n) (sym (eqb-true aimed.1.0 verdict.version.0 parts.1)) ∙ at

aimed_where : (f : AdminId → ℕ) (aimed : AdminId × Version) (rest : List (AdminId × Version)) (verdict : Verdict) (b : Bool)
    → (same_admin aimed.0 verdict.admin && (aimed.1.0 == verdict.version.0)) ≡ b → is_wanted_at f aimed ≡ true → (is_aimed rest verdict ≡ true → is_at f verdict ≡ true)
    → (b || is_aimed rest verdict) ≡ true → is_at f verdict ≡ true
aimed_where f aimed rest verdict true e at on some = wanted_where f aimed verdict at e
aimed_where f aimed rest verdict false e at on some = on some

-- what is aimed at wanted versions has them
pub aimed_has : (f : AdminId → ℕ) (aim : List (AdminId × Version)) (verdict : Verdict) → list_all (is_wanted_at f) aim ≡ true → is_aimed aim verdict ≡ true → is_at f verdict ≡ true
aimed_has f [] verdict all some = cc
aimed_has f (aimed ∷ rest) verdict all some =
    let parts = and_parts (is_wanted_at f aimed) (list_all (is_wanted_at f) rest) all in
    aimed_where f aimed rest verdict (same_admin aimed.0 verdict.admin && (aimed.1.0 == verdict.version.0)) refl parts.0 (aimed_has f rest verdict parts.1) some

named_where : (f : AdminId → ℕ) (one : Wanted) (rest : Bool) (verdict : Verdict) (s : Bool) → are_wanted_at f one ≡ true → (rest ≡ true → is_at f verdict ≡ true)
    → (b : Bool) → is_aimed one.want verdict ≡ b → (cond s b false || rest) ≡ true → is_at f verdict ≡ true
named_where f one rest verdict true at on true e some = aimed_has f one.want verdict at e
named_where f one rest verdict true at on false e some = on some
named_where f one rest verdict false at on b e some = on some

named_has : (f : AdminId → ℕ) (server : ServerId) (named : List Wanted) (verdict : Verdict) → list_all (are_wanted_at f) named ≡ true
    → list_any (λ (one : Wanted). cond (same_server one.server server) (is_aimed one.want verdict) false) named ≡ true → is_at f verdict ≡ true
named_has f server [] verdict all some = cc
named_has f server (one ∷ named) verdict all some =
    let parts = and_parts (are_wanted_at f one) (list_all (are_wanted_at f) named) all in
    named_where f one (list_any (λ (other : Wanted). cond (same_server other.server server) (is_aimed other.want verdict) false) named) verdict (same_server one.server server)
    parts.0 (named_has f server named verdict parts.1) (is_aimed one.want verdict) refl some

-- a reply of what was named has the wanted versions
pub reply_has : (f : AdminId → ℕ) (round : Round) (server : ServerId) (verdicts : List Verdict) → list_all (are_wanted_at f) round.named ≡ true
    → list_all (was_named round server) verdicts ≡ true → list_all (is_at f) verdicts ≡ true
reply_has f round server [] wanted all = refl
reply_has f round server (verdict ∷ verdicts) wanted all =
    let parts = and_parts (was_named round server verdict) (list_all (was_named round server) verdicts) all in
    and_from (is_at f verdict) (list_all (is_at f) verdicts) (named_has f server round.named verdict wanted parts.0) (reply_has f round server verdicts wanted parts.1)

-- ---- a reply is kept

-- all proofs of a server pass a test
abbrev pub all_in : (Verdict → Bool) → Target → Bool
all_in passes target = list_all passes (verdicts_in target)

kept_where : (passes : Verdict → Bool) (target : Target) (targets more : List Target) (server : ServerId) (verdicts : List Verdict) (b : Bool)
    → all_in passes target ≡ true → list_all (all_in passes) targets ≡ true → ((b || is_awaited targets server) ≡ true → list_all passes verdicts ≡ true)
    → ((is_awaited targets server ≡ true → list_all passes verdicts ≡ true) → list_all (all_in passes) more ≡ true)
    → list_all (all_in passes) (cond b (record { server = server; reply = Some verdicts } ∷ targets) (target ∷ more)) ≡ true
kept_where passes target targets more server verdicts true good all new on = and_from (list_all passes verdicts) (list_all (all_in passes) targets) (new refl) all
kept_where passes target targets more server verdicts false good all new on = and_from (all_in passes target) (list_all (all_in passes) more) good (on new)

-- where the proofs that are kept pass a test, a new reply whose proofs pass it keeps it so
pub reply_passes : (passes : Verdict → Bool) (targets : List Target) (server : ServerId) (verdicts : List Verdict) → list_all (all_in passes) targets ≡ true
    → (is_awaited targets server ≡ true → list_all passes verdicts ≡ true) → list_all (all_in passes) (with_reply targets server verdicts) ≡ true
reply_passes passes [] server verdicts all new = refl
reply_passes passes (target ∷ targets) server verdicts all new =
    let parts = and_parts (all_in passes target) (list_all (all_in passes) targets) all in
    kept_where passes target targets (with_reply targets server verdicts) server verdicts (awaits server target) parts.0 parts.1 new
    (reply_passes passes targets server verdicts parts.1)

-- where the replies that are kept have the given versions, a new one that has them keeps it so
pub reply_keeps : (f : AdminId → ℕ) (targets : List Target) (server : ServerId) (verdicts : List Verdict) → list_all (are_at f) targets ≡ true
    → (is_awaited targets server ≡ true → list_all (is_at f) verdicts ≡ true) → list_all (are_at f) (with_reply targets server verdicts) ≡ true
reply_keeps f targets server verdicts all as_named = reply_passes (is_at f) targets server verdicts all as_named

stays_where : (passes : Verdict → Bool) (target : Target) (b : Bool) → all_in passes target ≡ true → all_in passes (cond b (new_target target.server) target) ≡ true
stays_where passes target true good = refl
stays_where passes target false good = good

-- after an update the proofs that stay pass what all passed
pub renewed_passes : (passes : Verdict → Bool) (aim : List (AdminId × Version)) (targets : List Target) → list_all (all_in passes) targets ≡ true
    → list_all (all_in passes) (map (next_target aim) targets) ≡ true
renewed_passes passes aim [] all = refl
renewed_passes passes aim (target ∷ targets) all =
    let parts = and_parts (all_in passes target) (list_all (all_in passes) targets) all in
    and_from (all_in passes (next_target aim target)) (list_all (all_in passes) (map (next_target aim) targets))
    (stays_where passes target (is_outdated aim target) parts.0) (renewed_passes passes aim targets parts.1)

-- ---- an update

-- what is aimed at the versions of a function has them
pub aim_at : (f : AdminId → ℕ) (admins : List AdminId) → list_all (is_wanted_at f) (map (aimed_at f) admins) ≡ true
aim_at f [] = refl
aim_at f (admin ∷ admins) = and_from (f admin == f admin) (list_all (is_wanted_at f) (map (aimed_at f) admins)) (number_itself (f admin)) (aim_at f admins)

-- so has what is wanted of each server
pub all_wanted : (f : AdminId → ℕ) (aim : List (AdminId × Version)) (targets : List Target) → list_all (is_wanted_at f) aim ≡ true
    → list_all (are_wanted_at f) (map (want_of aim) targets) ≡ true
all_wanted f aim [] all = refl
all_wanted f aim (target ∷ targets) all =
    and_from (are_wanted_at f (want_of aim target)) (list_all (are_wanted_at f) (map (want_of aim) targets)) (all_filtered (is_wanted_at f) (is_proved_by target) aim all)
    (all_wanted f aim targets all)

current : (f : AdminId → ℕ) (aim : List (AdminId × Version)) (verdicts : List Verdict) → list_all (is_wanted_at f) aim ≡ true
    → list_any (λ (verdict : Verdict). not (is_aimed aim verdict)) verdicts ≡ false → list_all (is_at f) verdicts ≡ true
current f aim [] all none = refl
current f aim (verdict ∷ verdicts) all none =
    let parts = or_parts (not (is_aimed aim verdict)) (list_any (λ (other : Verdict). not (is_aimed aim other)) verdicts) none in
    and_from (is_at f verdict) (list_all (is_at f) verdicts) (aimed_has f aim verdict all (not-false (is_aimed aim verdict) parts.0)) (current f aim verdicts all parts.1)

renewed_where : (f : AdminId → ℕ) (target : Target) (b : Bool) → (b ≡ false → are_at f target ≡ true) → are_at f (cond b (new_target target.server) target) ≡ true
renewed_where f target true at = refl
renewed_where f target false at = at refl

-- after an update the replies that stay have the targets
pub renewed_at : (f : AdminId → ℕ) (aim : List (AdminId × Version)) (targets : List Target) → list_all (is_wanted_at f) aim ≡ true
    → list_all (are_at f) (map (next_target aim) targets) ≡ true
renewed_at f aim [] all = refl
renewed_at f aim (target ∷ targets) all =
    and_from (are_at f (next_target aim target)) (list_all (are_at f) (map (next_target aim) targets))
    (renewed_where f target (is_outdated aim target) (current f aim (verdicts_in target) all)) (renewed_at f aim targets all)

-- ---- proofs that are kept to in later rounds

-- after an update the kept replies and what was named have the versions of its targets
pub record IsLater (round : Round) : Type 0 where
  pub number : 2 ≤ round.number
  pub aimed : AdminId → ℕ
  pub kept : list_all (are_at aimed) round.targets ≡ true
  pub named : list_all (are_wanted_at aimed) round.named ≡ true

-- the master was read wherever a kept proof is under global consistency
abbrev pub are_read_for : Round → Bool
are_read_for round = list_all (is_read_for round) (proofs_in round.targets)

-- no kept proof is above what was read
abbrev pub are_not_above : Round → Option Reading → Bool
are_not_above round reading = list_all (is_not_above round.levels reading) (proofs_in round.targets)

-- the proof is below what was read, if something was
abbrev pub is_short_of : List Level → Option Reading → Verdict → Bool
is_short_of levels None verdict = false
is_short_of levels (Some reading) verdict = is_short levels reading verdict

none_short_of : (levels : List Level) (proofs : List Verdict) → list_any (is_short_of levels None) proofs ≡ false
none_short_of levels [] = refl
none_short_of levels (verdict ∷ proofs) = none_short_of levels proofs

-- a round that meets nothing has no proof below what was read
pub unmet_none_short : (round : Round) (reading : Option Reading) → met_in round reading ≡ None → list_any (is_short_of round.levels reading) (proofs_in round.targets) ≡ false
unmet_none_short round None e = none_short_of round.levels (proofs_in round.targets)
unmet_none_short round (Some reading) e = meets_what_is_newer round reading e

-- where nothing was read, nothing is above it
pub unread_not_above : (round : Round) → are_not_above round None ≡ true
unread_not_above round = all_of (proofs_in round.targets)
  where
    all_of : (proofs : List Verdict) → list_all (is_not_above round.levels None) proofs ≡ true
    all_of [] = refl
    all_of (verdict ∷ proofs) = all_of proofs

between : (low high : ℕ) → nat_lt low high ≡ false → nat_le low high ≡ true → (high == low) ≡ true
between low high short above = eq-eqb high low (omega (arith, ltb-false low high short, leb-true low high above))

-- a proof under global consistency that is neither below nor above what was read has its target
pub global_at : (round : Round) (reading : Reading) (verdict : Verdict) → is_global_at round.levels verdict.admin ≡ true → is_short round.levels reading verdict ≡ false
    → is_not_above round.levels (Some reading) verdict ≡ true → is_at (target_in round (Some reading)) verdict ≡ true
global_at round reading verdict global short above =
    let newest : ℕ = newest_in (Some reading) verdict.admin in
    let low : nat_lt verdict.version.0 newest ≡ false = ap (λ b. b && nat_lt verdict.version.0 newest) (sym global) ∙ short in
    let high : nat_le verdict.version.0 newest ≡ true = ap (λ b. not b || nat_le verdict.version.0 newest) (sym global) ∙ above in
    ap (λ b. cond b newest (greatest verdict.admin (proofs_in round.targets)) == verdict.version.0) global ∙ between verdict.version.0 newest low high

-- a proof under view consistency has its target where all proofs have the given versions
pub view_at : (f : AdminId → ℕ) (round : Round) (reading : Option Reading) (verdict : Verdict) → is_global_at round.levels verdict.admin ≡ false
    → list_all (is_at f) (proofs_in round.targets) ≡ true → has_its_admin (admins_in round) verdict ≡ true → is_at f verdict ≡ true → is_at (target_in round reading) verdict ≡ true
view_at f round reading verdict view all here at =
    let proofs : List Verdict = proofs_in round.targets in
    let some : list_any (is_of verdict.admin) proofs ≡ true = sym (any_admin (λ (other : AdminId). same_admin other verdict.admin) proofs) ∙ here in
    let is : target_in round reading verdict.admin ≡ f verdict.admin =
    ap (λ b. cond b (newest_in reading verdict.admin) (greatest verdict.admin proofs)) view ∙ greatest_is f verdict.admin proofs all some in
    ap (λ n. n == verdict.version.0) is ∙ at

pub unread_where : (missing reads : Bool) → reads ≡ true → (missing || (reads && true)) ≡ false → ⊥
unread_where true reads e goes_on = cc
unread_where false true e goes_on = cc
unread_where false false e goes_on = cc

at_where : (f : AdminId → ℕ) (round : Round) (reading : Option Reading) (verdict : Verdict) (g : Bool) → is_global_at round.levels verdict.admin ≡ g → is_waiting round reading ≡ false
    → list_all (is_at f) (proofs_in round.targets) ≡ true → has_its_admin (admins_in round) verdict ≡ true → is_at f verdict ≡ true
    → is_read_for round verdict ≡ true → is_short_of round.levels reading verdict ≡ false → is_not_above round.levels reading verdict ≡ true
    → is_at (target_in round reading) verdict ≡ true
at_where f round reading verdict false e goes_on all here at read short above = view_at f round reading verdict e all here at
at_where f round (Some reading) verdict true e goes_on all here at read short above = global_at round reading verdict e short above
at_where f round None verdict true e goes_on all here at read short above =
    let reads : round.reads ≡ true = sym (or-false round.reads) ∙ ap (λ b. round.reads || not b) (sym e) ∙ read in
    absurd (unread_where (list_any is_missing round.targets) round.reads reads goes_on)

-- a proof of a round that has been updated has its target, where it is neither below nor above what was read
pub at_target : (f : AdminId → ℕ) (round : Round) (reading : Option Reading) (verdict : Verdict) → is_waiting round reading ≡ false
    → list_all (is_at f) (proofs_in round.targets) ≡ true → has_its_admin (admins_in round) verdict ≡ true → is_at f verdict ≡ true
    → is_read_for round verdict ≡ true → is_short_of round.levels reading verdict ≡ false → is_not_above round.levels reading verdict ≡ true
    → is_at (target_in round reading) verdict ≡ true
at_target f round reading verdict goes_on all here at read short above =
    at_where f round reading verdict (is_global_at round.levels verdict.admin) refl goes_on all here at read short above

all_at_target : (f : AdminId → ℕ) (round : Round) (reading : Option Reading) (some : List Verdict) → is_waiting round reading ≡ false
    → list_all (is_at f) (proofs_in round.targets) ≡ true → list_all (has_its_admin (admins_in round)) some ≡ true → list_all (is_at f) some ≡ true
    → list_all (is_read_for round) some ≡ true → list_any (is_short_of round.levels reading) some ≡ false → list_all (is_not_above round.levels reading) some ≡ true
    → list_all (is_at (target_in round reading)) some ≡ true
all_at_target f round reading [] goes_on all here at read short above = refl
all_at_target f round reading (verdict ∷ some) goes_on all here at read short above =
    let known = and_parts (has_its_admin (admins_in round) verdict) (list_all (has_its_admin (admins_in round)) some) here in
    let good = and_parts (is_at f verdict) (list_all (is_at f) some) at in
    let reads = and_parts (is_read_for round verdict) (list_all (is_read_for round) some) read in
    let low = or_parts (is_short_of round.levels reading verdict) (list_any (is_short_of round.levels reading) some) short in
    let high = and_parts (is_not_above round.levels reading verdict) (list_all (is_not_above round.levels reading) some) above in
    and_from (is_at (target_in round reading) verdict) (list_all (is_at (target_in round reading)) some)
    (at_target f round reading verdict goes_on all known.0 good.0 reads.0 low.0 high.0) (all_at_target f round reading some goes_on all known.1 good.1 reads.1 low.1 high.1)

-- ---- nobody is out of date in a later round that meets nothing

at_none_behind : (f : AdminId → ℕ) (verdicts : List Verdict) → list_all (is_at f) verdicts ≡ true
    → list_any (λ (verdict : Verdict). not (f verdict.admin == verdict.version.0)) verdicts ≡ false
at_none_behind f [] at = refl
at_none_behind f (verdict ∷ verdicts) at =
    let parts = and_parts (is_at f verdict) (list_all (is_at f) verdicts) at in
    or_from (not (is_at f verdict)) (list_any (λ (other : Verdict). not (f other.admin == other.version.0)) verdicts) (ap not parts.0) (at_none_behind f verdicts parts.1)

pub at_none_out : (round : Round) (reading : Option Reading) (targets : List Target) → list_all (are_at (target_in round reading)) targets ≡ true → list_any (is_behind round reading) targets ≡ false
at_none_out round reading [] at = refl
at_none_out round reading (target ∷ targets) at =
    let parts = and_parts (are_at (target_in round reading) target) (list_all (are_at (target_in round reading)) targets) at in
    or_from (is_behind round reading target) (list_any (is_behind round reading) targets) (at_none_behind (target_in round reading) (verdicts_in target) parts.0)
    (at_none_out round reading targets parts.1)

-- in a round that has been updated, and that meets nothing where it is read after the proofs, no server is out of date
pub later_agrees : (round : Round) (reading : Option Reading) → IsLater round → are_read_for round ≡ true → is_waiting round reading ≡ false → met_in round reading ≡ None
    → are_not_above round reading ≡ true → list_any (is_outdated (aim_in round reading)) round.targets ≡ false
later_agrees round reading later reads goes_on unmet above =
    let proofs : List Verdict = proofs_in round.targets in
    let f : AdminId → ℕ = later.aimed in
    let at : list_all (is_at f) proofs ≡ true = all_of_each (is_at f) round.targets ∙ later.kept in
    let here = all_at_target f round reading proofs goes_on at (covered proofs) at reads (unmet_none_short round reading unmet) above in
    any_outdated_is round reading ∙ at_none_out round reading round.targets (sym (all_of_each (is_at (target_in round reading)) round.targets) ∙ here)

-- an update of a round that meets nothing comes only in the first round
pub first_only : (round : Round) (reading : Option Reading) (named : List Wanted) → are_read_for round ≡ true → are_not_above round reading ≡ true → judge round reading ≡ Update named
    → met_in round reading ≡ None → (round.number ≡ 1) ⊎ IsLater round → round.number ≡ 1
first_only round reading named reads above e unmet (inl first) = first
first_only round reading named reads above e unmet (inr later) =
    let is = updated round reading named e in
    absurd (both_ways (list_any (is_outdated (aim_in round reading)) round.targets) (later_agrees round reading later reads is.goes_on unmet above) is.is_out)

-- ---- the count of rounds

-- the round after the first is the second
pub number_two : (round : Round) → round.number ≡ 1 → next_number round ≡ 2
number_two round e = ap (λ n. min (n + 1) (2 ^ 32 - 1)) e

none_more : (round : Round) → length (mets_in round None) ≡ length round.mets
none_more round = length-append round.mets [] ∙ omega arith

pub one_more : (round : Round) (met : Met) → length (mets_in round (Some met)) ≡ length round.mets + 1
one_more round met = length-append round.mets (met ∷ [])

unspent_where : (a b : ℕ) → (a == b) ≡ false → a ≤ b → a < b
unspent_where a b e low = grind (arith, e, low)

-- where the rounds are not spent, those that are met stay below the limit
pub unspent : (round : Round) (met : Option Met) → is_spent round met ≡ false → length round.mets < round.limit → length (mets_in round met) < round.limit
unspent round None e few = omega (arith, none_more round, few)
unspent round (Some met) e few = unspent_where (length (mets_in round (Some met))) round.limit e (omega (arith, one_more round met, few))

-- after the first round, or after one that meets something, the number is at most two more than the rounds that were met
most_next : (round : Round) (met : Option Met) → (met ≡ None → round.number ≡ 1) → round.number ≤ length round.mets + 2 → next_number round ≤ length (mets_in round met) + 2
most_next round None first most = omega (arith, number_two round (first refl))
most_next round (Some met) first most = omega (arith, one_more round met, most)

-- the round's number is one or two more than the rounds that were met
abbrev pub IsCounted : ℕ → ℕ → Type 0
IsCounted number mets = (number ≡ mets + 1) ⊎ (number ≡ mets + 2)

counted_where : (number mets all : ℕ) → all ≡ mets + 1 → number ≤ 100 → IsCounted number mets → IsCounted (min (number + 1) (2 ^ 32 - 1)) all
counted_where number mets all e low (inl one) = inl (omega (arith, e, low, one))
counted_where number mets all e low (inr two) = inr (omega (arith, e, low, two))

first_counted : (mets : ℕ) → IsCounted 1 mets → mets ≡ 0
first_counted mets (inl one) = omega (arith, one)
first_counted mets (inr two) = omega (arith, two)

low_number : (number mets limit : ℕ) → mets < limit → limit ≤ 16 → IsCounted number mets → number ≤ 100
low_number number mets limit few top (inl one) = omega (arith, few, top, one)
low_number number mets limit few top (inr two) = omega (arith, few, top, two)

counted_by : (round : Round) (met : Option Met) → (met ≡ None → round.number ≡ 1) → length round.mets < round.limit → round.limit ≤ 16 → IsCounted round.number (length round.mets)
    → IsCounted (next_number round) (length (mets_in round met))
counted_by round None first few top counted =
    let none : length round.mets ≡ 0 = first_counted (length round.mets) (subst (λ n. IsCounted n (length round.mets)) (first refl) counted) in
    inr (omega (arith, number_two round (first refl), none_more round, none))
counted_by round (Some met) first few top counted =
    counted_where round.number (length round.mets) (length (mets_in round (Some met))) (one_more round met)
    (low_number round.number (length round.mets) round.limit few top counted) counted

-- after an update the number is again one or two more than the rounds that were met
pub counted_next : (round : Round) (reading : Option Reading) (named : List Wanted) → are_read_for round ≡ true → are_not_above round reading ≡ true → judge round reading ≡ Update named
    → (round.number ≡ 1) ⊎ IsLater round → length round.mets < round.limit → round.limit ≤ 16 → IsCounted round.number (length round.mets)
    → IsCounted (next_number round) (length (mets_in round (met_in round reading)))
counted_next round reading named reads above e count few top counted =
    counted_by round (met_in round reading) (λ unmet. first_only round reading named reads above e unmet count) few top counted

-- ---- what every run keeps

-- the first round, or one that has been updated; the master is read where it is to be
pub record Keeps (round : Round) : Type 0 where
  pub reads : are_read_for round ≡ true
  pub count : (round.number ≡ 1) ⊎ IsLater round
  pub most : round.number ≤ length round.mets + 2

-- the rounds that are met stay below the limit
pub record Counts (round : Round) : Type 0 where
  pub top : round.limit ≤ 16
  pub few : length round.mets < round.limit
  pub counted : IsCounted round.number (length round.mets)

number_more : (number : ℕ) → 1 ≤ number → 2 ≤ min (number + 1) (2 ^ 32 - 1)
number_more number e = omega (arith, e)

at_least_one : (round : Round) → (round.number ≡ 1) ⊎ IsLater round → 1 ≤ round.number
at_least_one round (inl first) = omega (arith, first)
at_least_one round (inr later) = omega (arith, later.number)

-- a round that is updated is a later one
pub later_next : (round : Round) (reading : Option Reading) (named : List Wanted) → IsUpdated round reading named → 1 ≤ round.number
    → IsLater (next_round round (aim_in round reading) named (mets_in round (met_in round reading)))
later_next round reading named is some =
    let aim : List (AdminId × Version) = aim_in round reading in
    let f : AdminId → ℕ = target_in round reading in
    let at : list_all (is_wanted_at f) aim ≡ true = aim_at f (admins_in round) in
    record {
      number = number_more round.number some;
      aimed = f;
      kept = renewed_at f aim round.targets at;
      named = ap (list_all (are_wanted_at f)) is.is_named ∙ all_wanted f aim (filter (is_outdated aim) round.targets) at;
    }

reads_next : (round : Round) (aim : List (AdminId × Version)) → are_read_for round ≡ true → list_all (is_read_for round) (proofs_in (map (next_target aim) round.targets)) ≡ true
reads_next round aim reads =
    all_of_each (is_read_for round) (map (next_target aim) round.targets)
    ∙ renewed_passes (is_read_for round) aim round.targets (sym (all_of_each (is_read_for round) round.targets) ∙ reads)

update_keeps : (round : Round) (reading : Option Reading) (named : List Wanted) → are_not_above round reading ≡ true → judge round reading ≡ Update named → Keeps round
    → Keeps (next_round round (aim_in round reading) named (mets_in round (met_in round reading)))
update_keeps round reading named above e keeps = record {
  reads = reads_next round (aim_in round reading) keeps.reads;
  count = inr (later_next round reading named (updated round reading named e) (at_least_one round keeps.count));
  most = most_next round (met_in round reading) (λ unmet. first_only round reading named keeps.reads above e unmet keeps.count) keeps.most;
}

update_counts : (round : Round) (reading : Option Reading) (named : List Wanted) → are_not_above round reading ≡ true → judge round reading ≡ Update named → Keeps round → Counts round
    → Counts (next_round round (aim_in round reading) named (mets_in round (met_in round reading)))
update_counts round reading named above e keeps counts = record {
  top = counts.top;
  few = unspent round (met_in round reading) (updated round reading named e).unspent counts.few;
  counted = counted_next round reading named keeps.reads above e keeps.count counts.few counts.top counts.counted;
}

judged_keeps : (round : Round) (reading : Option Reading) (answer : Judged) → judge round reading ≡ answer → are_not_above round reading ≡ true → Keeps round
    → Keeps (after round (aim_in round reading) (met_in round reading) answer)
judged_keeps round reading Waiting e above keeps = keeps
judged_keeps round reading AllTrue e above keeps = keeps
judged_keeps round reading (False verdict) e above keeps = keeps
judged_keeps round reading (Spent mets) e above keeps = keeps
judged_keeps round reading (Update named) e above keeps = update_keeps round reading named above e keeps

judged_counts : (round : Round) (reading : Option Reading) (answer : Judged) → judge round reading ≡ answer → are_not_above round reading ≡ true → Keeps round → Counts round
    → Counts (after round (aim_in round reading) (met_in round reading) answer)
judged_counts round reading Waiting e above keeps counts = counts
judged_counts round reading AllTrue e above keeps counts = counts
judged_counts round reading (False verdict) e above keeps counts = counts
judged_counts round reading (Spent mets) e above keeps counts = counts
judged_counts round reading (Update named) e above keeps counts = update_counts round reading named above e keeps counts

pub as_named_where : (one waits all : Bool) → one ≡ false → cond one true (cond waits all true) ≡ true → waits ≡ true → all ≡ true
as_named_where true waits all differs e same = cc
as_named_where false true all differs e same = e
as_named_where false false all differs e same = cc

replied_count : (round : Round) (server : ServerId) (verdicts : List Verdict) → is_as_named (Replies server verdicts) round ≡ true
    → (round.number ≡ 1) ⊎ IsLater round → ((after_reply round server verdicts).number ≡ 1) ⊎ IsLater (after_reply round server verdicts)
replied_count round server verdicts as_named (inl first) = inl first
replied_count round server verdicts as_named (inr later) =
    let not_first : (round.number == 1) ≡ false = ne_eqb round.number 1 (λ e. absurd (omega (arith, later.number, e))) in
    inr (record {
      number = later.number;
      aimed = later.aimed;
      kept = reply_keeps later.aimed round.targets server verdicts later.kept
          (λ waits. reply_has later.aimed round server verdicts later.named
          (as_named_where (round.number == 1) (is_awaited round.targets server) (list_all (was_named round server) verdicts) not_first as_named waits));
      named = later.named;
    })

replied_reads : (round : Round) (server : ServerId) (verdicts : List Verdict) → list_all (is_read_for round) verdicts ≡ true → are_read_for round ≡ true
    → list_all (is_read_for round) (proofs_in (with_reply round.targets server verdicts)) ≡ true
replied_reads round server verdicts new reads =
    all_of_each (is_read_for round) (with_reply round.targets server verdicts)
    ∙ reply_passes (is_read_for round) round.targets server verdicts (sym (all_of_each (is_read_for round) round.targets) ∙ reads) (λ waits. new)

pub call_keeps : (call : Call) (round : Round) → is_as_named call round ≡ true → reads_globals call round ≡ true → is_read_after call round ≡ true → Keeps round → Keeps (after_call call round)
call_keeps (Replies server verdicts) round as_named new above keeps =
    record { reads = replied_reads round server verdicts new keeps.reads; count = replied_count round server verdicts as_named keeps.count; most = keeps.most }
call_keeps (Judges reading) round as_named new above keeps = judged_keeps round reading (judge round reading) refl above keeps

pub call_counts : (call : Call) (round : Round) → is_read_after call round ≡ true → Keeps round → Counts round → Counts (after_call call round)
call_counts (Replies server verdicts) round above keeps counts = record { top = counts.top; few = counts.few; counted = counts.counted }
call_counts (Judges reading) round above keeps counts = judged_counts round reading (judge round reading) refl above keeps counts

calls_keep : (calls : List Call) (round : Round) → AreInOrder calls round → Keeps round → Keeps (after_calls calls round)
calls_keep [] round in_order keeps = keeps
calls_keep (call ∷ calls) round in_order keeps =
    calls_keep calls (after_call call round) in_order.3 (call_keeps call round in_order.0 in_order.1 in_order.2 keeps)

calls_count : (calls : List Call) (round : Round) → AreInOrder calls round → Keeps round → Counts round → Counts (after_calls calls round)
calls_count [] round in_order keeps counts = counts
calls_count (call ∷ calls) round in_order keeps counts =
    calls_count calls (after_call call round) in_order.3 (call_keeps call round in_order.0 in_order.1 in_order.2 keeps) (call_counts call round in_order.2 keeps counts)

-- ---- whole runs

pub no_proofs : (servers : List ServerId) → proofs_in (map new_target servers) ≡ []
no_proofs [] = refl
no_proofs (server ∷ servers) = no_proofs servers

pub keeps_first : (servers : List ServerId) (limit : ℕ) (levels : List Level) (reads : Bool) → Keeps (first_round servers limit levels reads)
keeps_first servers limit levels reads = record {
  reads = ap (list_all (is_read_for (first_round servers limit levels reads))) (no_proofs servers);
  count = inl refl;
  most = omega arith;
}

least_of : (number mets : ℕ) → IsCounted number mets → mets < number
least_of number mets (inl one) = omega (arith, one)
least_of number mets (inr two) = omega (arith, two)

pub rounds_count_mets : RoundsCountMets
rounds_count_mets servers limit levels reads some top calls in_order =
    let start : Round = first_round servers limit levels reads in
    let end : Round = after_calls calls start in
    let keeps : Keeps end = calls_keep calls start in_order (keeps_first servers limit levels reads) in
    let counts : Counts end = calls_count calls start in_order (keeps_first servers limit levels reads) (record { top = top; few = omega (arith, some); counted = inl refl }) in
    record {
      least = least_of end.number (length end.mets) counts.counted;
      most = keeps.most;
      few = counts.few;
      unmet = λ reading named above e unmet. first_only end reading named keeps.reads above e unmet keeps.count;
    }

-- ---- no proof under global consistency

-- the proof is not of an administrator under global consistency
abbrev pub is_viewed : List Level → Verdict → Bool
is_viewed levels verdict = not (is_of_global levels verdict)

viewed_all : (levels : List Level) (verdicts : List Verdict) → list_any (is_of_global levels) verdicts ≡ false → list_all (is_viewed levels) verdicts ≡ true
viewed_all levels [] none = refl
viewed_all levels (verdict ∷ verdicts) none =
    let parts = or_parts (is_of_global levels verdict) (list_any (is_of_global levels) verdicts) none in
    and_from (is_viewed levels verdict) (list_all (is_viewed levels) verdicts) (not_from_false (is_of_global levels verdict) parts.0) (viewed_all levels verdicts parts.1)

viewed_none : (levels : List Level) (verdicts : List Verdict) → list_all (is_viewed levels) verdicts ≡ true → list_any (is_of_global levels) verdicts ≡ false
viewed_none levels [] all = refl
viewed_none levels (verdict ∷ verdicts) all =
    let parts = and_parts (is_viewed levels verdict) (list_all (is_viewed levels) verdicts) all in
    or_from (is_of_global levels verdict) (list_any (is_of_global levels) verdicts) (not-true (is_of_global levels verdict) parts.0) (viewed_none levels verdicts parts.1)

-- where no administrator is under global consistency, no proof is
pub all_viewed : (levels : List Level) → ((admin : AdminId) → is_global_at levels admin ≡ false) → (verdicts : List Verdict) → list_all (is_viewed levels) verdicts ≡ true
all_viewed levels view [] = refl
all_viewed levels view (verdict ∷ verdicts) =
    and_from (is_viewed levels verdict) (list_all (is_viewed levels) verdicts) (not_from_false (is_of_global levels verdict) (view verdict.admin)) (all_viewed levels view verdicts)

-- where no proof is under global consistency, the master is to be read for none
pub viewed_read : (round : Round) (verdicts : List Verdict) → list_all (is_viewed round.levels) verdicts ≡ true → list_all (is_read_for round) verdicts ≡ true
viewed_read round [] all = refl
viewed_read round (verdict ∷ verdicts) all =
    let parts = and_parts (is_viewed round.levels verdict) (list_all (is_viewed round.levels) verdicts) all in
    and_from (is_read_for round verdict) (list_all (is_read_for round) verdicts) (or_right round.reads (is_viewed round.levels verdict) parts.0) (viewed_read round verdicts parts.1)

viewed_not_above : (levels : List Level) (reading : Option Reading) (verdicts : List Verdict) → list_all (is_viewed levels) verdicts ≡ true → list_all (is_not_above levels reading) verdicts ≡ true
viewed_not_above levels reading [] all = refl
viewed_not_above levels reading (verdict ∷ verdicts) all =
    let parts = and_parts (is_viewed levels verdict) (list_all (is_viewed levels) verdicts) all in
    and_from (is_not_above levels reading verdict) (list_all (is_not_above levels reading) verdicts) (here reading parts.0) (viewed_not_above levels reading verdicts parts.1)
  where
    here : (reading : Option Reading) → is_viewed levels verdict ≡ true → is_not_above levels reading verdict ≡ true
    here None e = refl
    here (Some reading) e = or_left (is_viewed levels verdict) (nat_le verdict.version.0 (newest_in (Some reading) verdict.admin)) e

-- no kept proof is under global consistency, and nothing was met
record IsUnderView (levels : List Level) (round : Round) : Type 0 where
  levels_are : round.levels ≡ levels
  view : list_all (is_viewed round.levels) (proofs_in round.targets) ≡ true
  unmet : round.mets ≡ []

first_under_view : (servers : List ServerId) (limit : ℕ) (levels : List Level) (reads : Bool) → IsUnderView levels (first_round servers limit levels reads)
first_under_view servers limit levels reads = record { levels_are = refl; view = ap (list_all (is_viewed levels)) (no_proofs servers); unmet = refl }

view_meets_nothing : (levels : List Level) (round : Round) (reading : Option Reading) → IsUnderView levels round → mets_in round (met_in round reading) ≡ []
view_meets_nothing levels round reading under =
    ap (mets_in round) (nothing_met round reading (viewed_none round.levels (proofs_in round.targets) under.view)) ∙ ap (λ mets. mets ++ []) under.unmet

judged_under_view : (levels : List Level) (round : Round) (reading : Option Reading) (answer : Judged) → IsUnderView levels round
    → IsUnderView levels (after round (aim_in round reading) (met_in round reading) answer)
judged_under_view levels round reading Waiting under = under
judged_under_view levels round reading AllTrue under = under
judged_under_view levels round reading (False verdict) under = under
judged_under_view levels round reading (Spent mets) under = under
judged_under_view levels round reading (Update named) under = record {
  levels_are = under.levels_are;
  view = all_of_each (is_viewed round.levels) (map (next_target (aim_in round reading)) round.targets)
      ∙ renewed_passes (is_viewed round.levels) (aim_in round reading) round.targets (sym (all_of_each (is_viewed round.levels) round.targets) ∙ under.view);
  unmet = view_meets_nothing levels round reading under;
}

replied_viewed : (levels : List Level) (round : Round) (server : ServerId) (verdicts : List Verdict) → round.levels ≡ levels → is_under_view levels (Replies server verdicts) ≡ true
    → list_all (is_viewed round.levels) verdicts ≡ true
replied_viewed levels round server verdicts same e =
    viewed_all round.levels verdicts (not-true (list_any (is_of_global round.levels) verdicts) (ap (λ ls. not (list_any (is_of_global ls) verdicts)) same ∙ e))

call_under_view : (levels : List Level) (call : Call) (round : Round) → is_under_view levels call ≡ true → IsUnderView levels round → IsUnderView levels (after_call call round)
call_under_view levels (Judges reading) round e under = judged_under_view levels round reading (judge round reading) under
call_under_view levels (Replies server verdicts) round e under = record {
  levels_are = under.levels_are;
  view = all_of_each (is_viewed round.levels) (with_reply round.targets server verdicts)
      ∙ reply_passes (is_viewed round.levels) round.targets server verdicts (sym (all_of_each (is_viewed round.levels) round.targets) ∙ under.view)
      (λ waits. replied_viewed levels round server verdicts under.levels_are e);
  unmet = under.unmet;
}

reads_under_view : (levels : List Level) (call : Call) (round : Round) → is_under_view levels call ≡ true → IsUnderView levels round → reads_globals call round ≡ true
reads_under_view levels (Judges reading) round e under = refl
reads_under_view levels (Replies server verdicts) round e under = viewed_read round verdicts (replied_viewed levels round server verdicts under.levels_are e)

after_under_view : (levels : List Level) (call : Call) (round : Round) → IsUnderView levels round → is_read_after call round ≡ true
after_under_view levels (Judges reading) round under = viewed_not_above round.levels reading (proofs_in round.targets) under.view
after_under_view levels (Replies server verdicts) round under = refl

-- such calls are in order, and nothing is met
calls_under_view : (levels : List Level) (calls : List Call) (round : Round) → list_all (is_under_view levels) calls ≡ true → AreAsNamed calls round → IsUnderView levels round
    → AreInOrder calls round × IsUnderView levels (after_calls calls round)
calls_under_view levels [] round view as_named under = (tt, under)
calls_under_view levels (call ∷ calls) round view as_named under =
    let parts = and_parts (is_under_view levels call) (list_all (is_under_view levels) calls) view in
    let rest = calls_under_view levels calls (after_call call round) parts.1 as_named.1 (call_under_view levels call round parts.0 under) in
    ((as_named.0, reads_under_view levels call round parts.0 under, after_under_view levels call round under, rest.0), rest.1)

-- so there are at most two rounds, as none is met
pub view_takes_two : TwoRoundsUnderView
view_takes_two servers limit levels reads calls view as_named =
    let start : Round = first_round servers limit levels reads in
    let end : Round = after_calls calls start in
    let run = calls_under_view levels calls start view as_named (first_under_view servers limit levels reads) in
    let keeps : Keeps end = calls_keep calls start run.0 (keeps_first servers limit levels reads) in
    let none : length end.mets ≡ 0 = ap length run.1.unmet in
    let any : list_any (is_of_global end.levels) (proofs_in end.targets) ≡ false = viewed_none end.levels (proofs_in end.targets) run.1.view in
    record {
      few = omega (arith, keeps.most, none);
      first = λ reading named e. first_only end reading named keeps.reads (viewed_not_above end.levels reading (proofs_in end.targets) run.1.view) e (nothing_met end reading any) keeps.count;
    }
