-- What a round meets at the master.
use Rattle.std.proofs.Common.{◌≡◌, ◌≤◌, ◌<◌, ℕ, Bool, true, false, ◌&&◌, ◌||◌, ◌==◌, ◌++◌, cond, List, [], ◌∷◌, find, length, map, min, nat_le, nat_lt, Option, Some, None, option_map, arith, refl, ap, subst, sym, ◌∙◌}
use Rattle.std.proofs.lemmas.Bool.{and_from, and_left, and_parts, and_right, eqb-true, le-leb, le-ltb, lt-ltb, ltb-false, ltb-true, leb-true, or_from, or_parts}
use Rattle.std.specs.List.{fold, list_all, list_any}
use Rattle.tp_types.proofs.ListLemmas.{number_itself}
use Rattle.tp_model.specs.Words.{AdminId, Level, Met, Reading, Verdict, Version}
use Rattle.tp_model.specs.Ids.{same_admin}
use Rattle.tp_model.specs.Limits.{count_limit}
use Rattle.tp_round.specs.declared.round.Judged.TheVariants.{Waiting, Spent, Update}
use Rattle.tp_round.specs.declared.round.Round.{Round}
use Rattle.tp_round.specs.declared.round.Wanted.{Wanted}
use Rattle.tp_round.specs.Judge.{after, aim_in, final_answer, is_below, is_outdated, is_spent, is_waiting, met_at, met_in, mets_in, newest_in, target, wants_of}
use Rattle.tp_model.specs.Levels.{is_global_at}
use Rattle.tp_round.specs.Replies.{greatest, is_of, least, least_false, proofs_in, with_admin, with_its_admin, with_lesser}
use Rattle.tp_round.specs.Laws.{HasAllMets, IsLeastMet, MeetsTheLeast, MeetsWhatIsNewer, SpentHasAllMets, UpdateKeepsMets, is_older, is_short, is_used, target_in}
use Rattle.tp_round.proofs.AdminLemmas.{aimed_at, any_admin}
use Rattle.tp_round.proofs.NamesLemmas.{admins_in}

-- ---- the least version of an administrator

lesser_where : (most version : ℕ) (s : Bool) → cond s (min most version) most ≤ most
lesser_where most version true = omega arith
lesser_where most version false = omega arith

lesser_falls : (admin : AdminId) (verdicts : List Verdict) (most : ℕ) → fold (with_lesser admin) most verdicts ≤ most
lesser_falls admin [] most = omega arith
lesser_falls admin (verdict ∷ verdicts) most =
    omega (arith, lesser_falls admin verdicts (with_lesser admin most verdict), lesser_where most verdict.version.0 (is_of admin verdict))

older_where : (admin : AdminId) (verdict : Verdict) (verdicts : List Verdict) (most few : ℕ) (s : Bool) → few ≤ fold (with_lesser admin) (cond s (min most verdict.version.0) most) verdicts
    → (s && nat_lt verdict.version.0 few) ≡ false
older_where admin verdict verdicts most few true low = le-ltb verdict.version.0 few (omega (arith, low, lesser_falls admin verdicts (min most verdict.version.0)))
older_where admin verdict verdicts most few false low = refl

-- no version of the administrator's proofs is smaller than what is at most the least
none_older : (admin : AdminId) (verdicts : List Verdict) (most few : ℕ) → few ≤ fold (with_lesser admin) most verdicts
    → list_any (is_older admin (record { 0 = few })) verdicts ≡ false
none_older admin [] most few low = refl
none_older admin (verdict ∷ verdicts) most few low =
    or_from (is_older admin (record { 0 = few }) verdict) (list_any (is_older admin (record { 0 = few })) verdicts)
    (older_where admin verdict verdicts most few (is_of admin verdict) low) (none_older admin verdicts (with_lesser admin most verdict) few low)

used_step : (admin : AdminId) (verdict : Verdict) (verdicts : List Verdict) (most few : ℕ) (s b rest : Bool) → (verdict.version.0 == few) ≡ b
    → fold (with_lesser admin) (cond s (min most verdict.version.0) most) verdicts ≡ few → few < most
    → (few < cond s (min most verdict.version.0) most → rest ≡ true) → ((s && b) || rest) ≡ true
used_step admin verdict verdicts most few true true rest e is low on = refl
used_step admin verdict verdicts most few true false rest e is low on =
    let falls : few ≤ verdict.version.0 = omega (arith, is, lesser_falls admin verdicts (min most verdict.version.0)) in
    let lower : few < min most verdict.version.0 = grind (arith, falls, low, e) in
    on lower
used_step admin verdict verdicts most few false b rest e is low on = on low

-- where it is below the start, a proof of the administrator has the least version
some_used : (admin : AdminId) (verdicts : List Verdict) (most few : ℕ) → fold (with_lesser admin) most verdicts ≡ few → few < most
    → list_any (is_used admin (record { 0 = few })) verdicts ≡ true
some_used admin [] most few is low = absurd (omega (arith, is, low))
some_used admin (verdict ∷ verdicts) most few is low =
    used_step admin verdict verdicts most few (is_of admin verdict) (verdict.version.0 == few) (list_any (is_used admin (record { 0 = few })) verdicts) refl is low
    (some_used admin verdicts (with_lesser admin most verdict) few is)

-- the proof is not below the least of its administrator
abbrev is_least_or_more : List Verdict → Verdict → Bool
is_least_or_more proofs verdict = nat_le (least verdict.admin proofs) verdict.version.0

more_where : (verdict : Verdict) (few : ℕ) → is_older verdict.admin (record { 0 = few }) verdict ≡ false → nat_le few verdict.version.0 ≡ true
more_where verdict few e =
    let not_lower : nat_lt verdict.version.0 few ≡ false = ap (λ b. b && nat_lt verdict.version.0 few) (sym (number_itself verdict.admin.0)) ∙ e in
    le-leb few verdict.version.0 (ltb-false verdict.version.0 few not_lower)

more_from : (proofs some : List Verdict) → ((admin : AdminId) → list_any (is_older admin (record { 0 = least admin proofs })) some ≡ false) → list_all (is_least_or_more proofs) some ≡ true
more_from proofs [] none = refl
more_from proofs (verdict ∷ some) none =
    let here = or_parts (is_older verdict.admin (record { 0 = least verdict.admin proofs }) verdict) (list_any (is_older verdict.admin (record { 0 = least verdict.admin proofs })) some) (none verdict.admin) in
    and_from (is_least_or_more proofs verdict) (list_all (is_least_or_more proofs) some) (more_where verdict (least verdict.admin proofs) here.0)
    (more_from proofs some (λ admin. (or_parts (is_older admin (record { 0 = least admin proofs }) verdict) (list_any (is_older admin (record { 0 = least admin proofs })) some) (none admin)).1))

all_more : (proofs : List Verdict) → list_all (is_least_or_more proofs) proofs ≡ true
all_more proofs = more_from proofs proofs (λ admin. none_older admin proofs count_limit (least admin proofs) (omega arith))

-- ---- administrators in order of number

abbrev is_after : AdminId → AdminId → Bool
is_after first other = nat_lt first.0 other.0

abbrev is_rising : List AdminId → Bool
is_rising [] = true
is_rising (first ∷ others) = list_all (is_after first) others && is_rising others

all_with_where : (P : AdminId → Bool) (first admin : AdminId) (others more : List AdminId) (b s : Bool) → list_all P (first ∷ others) ≡ true → P admin ≡ true
    → list_all P more ≡ true → list_all P (cond b (first ∷ more) (cond s (first ∷ others) (admin ∷ first ∷ others))) ≡ true
all_with_where P first admin others more true s all new rest = and_from (P first) (list_all P more) (and_parts (P first) (list_all P others) all).0 rest
all_with_where P first admin others more false true all new rest = all
all_with_where P first admin others more false false all new rest = and_from (P admin) (list_all P (first ∷ others)) new all

all_with : (P : AdminId → Bool) (admins : List AdminId) (admin : AdminId) → list_all P admins ≡ true → P admin ≡ true → list_all P (with_admin admins admin) ≡ true
all_with P [] admin all new = and_from (P admin) true new refl
all_with P (first ∷ others) admin all new =
    all_with_where P first admin others (with_admin others admin) (nat_lt first.0 admin.0) (same_admin first admin) all new
    (all_with P others admin (and_parts (P first) (list_all P others) all).1 new)

after_both : (one first : AdminId) (others : List AdminId) → nat_lt one.0 first.0 ≡ true → list_all (is_after first) others ≡ true → list_all (is_after one) others ≡ true
after_both one first [] e all = refl
after_both one first (other ∷ others) e all =
    let parts = and_parts (is_after first other) (list_all (is_after first) others) all in
    and_from (is_after one other) (list_all (is_after one) others) (lt-ltb one.0 other.0 (omega (arith, ltb-true one.0 first.0 e, ltb-true first.0 other.0 parts.0)))
    (after_both one first others e parts.1)

rising_where : (first admin : AdminId) (others more : List AdminId) (b s : Bool) → nat_lt first.0 admin.0 ≡ b → same_admin first admin ≡ s
    → is_rising (first ∷ others) ≡ true → (b ≡ true → list_all (is_after first) more ≡ true) → is_rising more ≡ true
    → is_rising (cond b (first ∷ more) (cond s (first ∷ others) (admin ∷ first ∷ others))) ≡ true
rising_where first admin others more true s e is rising later rest = and_from (list_all (is_after first) more) (is_rising more) (later refl) rest
rising_where first admin others more false true e is rising later rest = rising
rising_where first admin others more false false e is rising later rest =
    let lower : nat_lt admin.0 first.0 ≡ true = lt-ltb admin.0 first.0 (grind (arith, ltb-false first.0 admin.0 e, is)) in
    let parts = and_parts (list_all (is_after first) others) (is_rising others) rising in
    and_from (list_all (is_after admin) (first ∷ others)) (is_rising (first ∷ others))
    (and_from (is_after admin first) (list_all (is_after admin) others) lower (after_both admin first others lower parts.0)) rising

rising_with : (admins : List AdminId) (admin : AdminId) → is_rising admins ≡ true → is_rising (with_admin admins admin) ≡ true
rising_with [] admin rising = refl
rising_with (first ∷ others) admin rising =
    let parts = and_parts (list_all (is_after first) others) (is_rising others) rising in
    rising_where first admin others (with_admin others admin) (nat_lt first.0 admin.0) (same_admin first admin) refl refl rising
    (λ later. all_with (is_after first) others admin parts.0 later) (rising_with others admin parts.1)

rising_from : (admins : List AdminId) (proofs : List Verdict) → is_rising admins ≡ true → is_rising (fold with_its_admin admins proofs) ≡ true
rising_from admins [] rising = rising
rising_from admins (verdict ∷ proofs) rising = rising_from (with_admin admins verdict.admin) proofs (rising_with admins verdict.admin rising)

-- ---- the first that passes

-- the first of the administrators whose target passes a test
record IsFirst (P : AdminId × Version → Bool) (f : AdminId → ℕ) (ids : List AdminId) (aimed : AdminId × Version) : Type 0 where
  passes : P aimed ≡ true
  is_at : aimed ≡ aimed_at f aimed.0
  before : list_any (λ (id : AdminId). nat_lt id.0 aimed.0.0 && P (aimed_at f id)) ids ≡ false

none_before : (P : AdminId → Bool) (first : AdminId) (others : List AdminId) → list_all (is_after first) others ≡ true → list_any (λ (id : AdminId). nat_lt id.0 first.0 && P id) others ≡ false
none_before P first [] all = refl
none_before P first (other ∷ others) all =
    let parts = and_parts (is_after first other) (list_all (is_after first) others) all in
    or_from (nat_lt other.0 first.0 && P other) (list_any (λ (id : AdminId). nat_lt id.0 first.0 && P id) others)
    (and_left (nat_lt other.0 first.0) (P other) (le-ltb other.0 first.0 (omega (arith, ltb-true first.0 other.0 parts.0)))) (none_before P first others parts.1)

first_here : (P : AdminId × Version → Bool) (f : AdminId → ℕ) (first : AdminId) (others : List AdminId) → list_all (is_after first) others ≡ true → P (aimed_at f first) ≡ true
    → IsFirst P f (first ∷ others) (aimed_at f first)
first_here P f first others all e = record {
  passes = e;
  is_at = refl;
  before = or_from (nat_lt first.0 first.0 && P (aimed_at f first)) (list_any (λ (id : AdminId). nat_lt id.0 first.0 && P (aimed_at f id)) others)
      (and_left (nat_lt first.0 first.0) (P (aimed_at f first)) (le-ltb first.0 first.0 (omega arith))) (none_before (λ id. P (aimed_at f id)) first others all);
}

first_where : (P : AdminId × Version → Bool) (f : AdminId → ℕ) (first : AdminId) (others : List AdminId) (aimed : AdminId × Version) (b : Bool) → P (aimed_at f first) ≡ b
    → list_all (is_after first) others ≡ true → cond b (Some (aimed_at f first)) (find P (map (aimed_at f) others)) ≡ Some aimed
    → (find P (map (aimed_at f) others) ≡ Some aimed → IsFirst P f others aimed) → IsFirst P f (first ∷ others) aimed
first_where P f first others aimed true e all is on =
    let same : aimed_at f first ≡ aimed = cc in
    subst (IsFirst P f (first ∷ others)) same (first_here P f first others all e)
first_where P f first others aimed false e all is on =
    let rest = on is in
    record {
      passes = rest.passes;
      is_at = rest.is_at;
      before = or_from (nat_lt first.0 aimed.0.0 && P (aimed_at f first)) (list_any (λ (id : AdminId). nat_lt id.0 aimed.0.0 && P (aimed_at f id)) others)
          (and_right (nat_lt first.0 aimed.0.0) (P (aimed_at f first)) e) rest.before;
    }

first_found : (P : AdminId × Version → Bool) (f : AdminId → ℕ) (ids : List AdminId) (aimed : AdminId × Version) → is_rising ids ≡ true
    → find P (map (aimed_at f) ids) ≡ Some aimed → IsFirst P f ids aimed
first_found P f [] aimed rising e = absurd (cc)
first_found P f (first ∷ others) aimed rising e =
    let parts = and_parts (list_all (is_after first) others) (is_rising others) rising in
    first_where P f first others aimed (P (aimed_at f first)) refl parts.0 e (first_found P f others aimed parts.1)

none_where : (P : AdminId × Version → Bool) (f : AdminId → ℕ) (first : AdminId) (others : List AdminId) (b : Bool)
    → cond b (Some (aimed_at f first)) (find P (map (aimed_at f) others)) ≡ None → (b ≡ false) × (find P (map (aimed_at f) others) ≡ None)
none_where P f first others true e = absurd (cc)
none_where P f first others false e = (refl, e)

none_found : (P : AdminId × Version → Bool) (f : AdminId → ℕ) (ids : List AdminId) → find P (map (aimed_at f) ids) ≡ None → list_any (λ (id : AdminId). P (aimed_at f id)) ids ≡ false
none_found P f [] e = refl
none_found P f (first ∷ others) e =
    let parts = none_where P f first others (P (aimed_at f first)) e in
    or_from (P (aimed_at f first)) (list_any (λ (id : AdminId). P (aimed_at f id)) others) parts.0 (none_found P f others parts.1)

-- ---- proofs below what was read

short_where : (levels : List Level) (reading : Reading) (proofs : List Verdict) (verdict : Verdict) (g : Bool) → is_global_at levels verdict.admin ≡ g
    → (g && nat_lt (least verdict.admin proofs) (cond g (newest_in (Some reading) verdict.admin) (greatest verdict.admin proofs))) ≡ false
    → is_least_or_more proofs verdict ≡ true → (g && nat_lt verdict.version.0 (newest_in (Some reading) verdict.admin)) ≡ false
short_where levels reading proofs verdict true e none more =
    let least_low : least verdict.admin proofs ≤ verdict.version.0 = leb-true (least verdict.admin proofs) verdict.version.0 more in
    let reached : newest_in (Some reading) verdict.admin ≤ least verdict.admin proofs = ltb-false (least verdict.admin proofs) (newest_in (Some reading) verdict.admin) none in
    le-ltb verdict.version.0 (newest_in (Some reading) verdict.admin) (omega (arith, least_low, reached))
short_where levels reading proofs verdict false e none more = refl

guarded_where : (b x y : Bool) → (b && x) ≡ false → (x ≡ false → y ≡ false) → (b && y) ≡ false
guarded_where true x y e on = on e
guarded_where false x y e on = refl

-- where no administrator of some kind is below its target, no proof of one is below what was read
none_short : (round : Round) (reading : Reading) (within : AdminId → Bool) (some : List Verdict)
    → list_any (λ (verdict : Verdict). within verdict.admin && is_below round.levels (proofs_in round.targets) (aimed_at (target_in round (Some reading)) verdict.admin)) some ≡ false
    → list_all (is_least_or_more (proofs_in round.targets)) some ≡ true
    → list_any (λ (verdict : Verdict). within verdict.admin && is_short round.levels reading verdict) some ≡ false
none_short round reading within [] none more = refl
none_short round reading within (verdict ∷ some) none more =
    let proofs : List Verdict = proofs_in round.targets in
    let below : Verdict → Bool = λ one. is_below round.levels proofs (aimed_at (target_in round (Some reading)) one.admin) in
    let here = or_parts (within verdict.admin && below verdict) (list_any (λ (one : Verdict). within one.admin && below one) some) none in
    let good = and_parts (is_least_or_more proofs verdict) (list_all (is_least_or_more proofs) some) more in
    or_from (within verdict.admin && is_short round.levels reading verdict) (list_any (λ (one : Verdict). within one.admin && is_short round.levels reading one) some)
    (guarded_where (within verdict.admin) (below verdict) (is_short round.levels reading verdict) here.0
    (λ e. short_where round.levels reading proofs verdict (is_global_at round.levels verdict.admin) refl e good.0))
    (none_short round reading within some here.1 good.1)

-- ---- what is met

unmet_where : (reading : Reading) (proofs : List Verdict) (one : Option (AdminId × Version)) → option_map (met_at reading proofs) one ≡ None → one ≡ None
unmet_where reading proofs None e = refl
unmet_where reading proofs (Some aimed) e = absurd (cc)

pub meets_what_is_newer : MeetsWhatIsNewer
meets_what_is_newer round reading e =
    let proofs : List Verdict = proofs_in round.targets in
    let f : AdminId → ℕ = target_in round (Some reading) in
    let none = none_found (is_below round.levels proofs) f (admins_in round) (unmet_where reading proofs (find (is_below round.levels proofs) (aim_in round (Some reading))) e) in
    none_short round reading (λ admin. true) proofs (sym (any_admin (λ (id : AdminId). is_below round.levels proofs (aimed_at f id)) proofs) ∙ none) (all_more proofs)

met_where : (reading : Reading) (proofs : List Verdict) (met : Met) (one : Option (AdminId × Version)) → option_map (met_at reading proofs) one ≡ Some met
    → (aimed : AdminId × Version) × (one ≡ Some aimed) × (met_at reading proofs aimed ≡ met)
met_where reading proofs met None e = absurd (cc)
met_where reading proofs met (Some aimed) e = let same : met_at reading proofs aimed ≡ met = cc in (aimed, refl, same)

target_where : (levels : List Level) (reading : Reading) (proofs : List Verdict) (admin : AdminId) → is_global_at levels admin ≡ true
    → target levels (Some reading) proofs admin ≡ newest_in (Some reading) admin
target_where levels reading proofs admin e = ap (λ b. cond b (newest_in (Some reading) admin) (greatest admin proofs)) e

least_met : (round : Round) (reading : Reading) (aimed : AdminId × Version) → IsFirst (is_below round.levels (proofs_in round.targets)) (target_in round (Some reading)) (admins_in round) aimed
    → aimed.1.0 ≤ count_limit → IsLeastMet round reading (met_at reading (proofs_in round.targets) aimed)
least_met round reading aimed is low =
    let proofs : List Verdict = proofs_in round.targets in
    let f : AdminId → ℕ = target_in round (Some reading) in
    let parts = and_parts (is_global_at round.levels aimed.0) (nat_lt (least aimed.0 proofs) aimed.1.0) is.passes in
    let below : least aimed.0 proofs < aimed.1.0 = ltb-true (least aimed.0 proofs) aimed.1.0 parts.1 in
    let aims : aimed.1.0 ≡ f aimed.0 = ap (λ (one : AdminId × Version). one.1.0) is.is_at in
    record {
      global = parts.0;
      newest = aims ∙ target_where round.levels reading proofs aimed.0 parts.0;
      place = refl;
      below = below;
      used = some_used aimed.0 proofs count_limit (least aimed.0 proofs) refl (omega (arith, below, low));
      least = none_older aimed.0 proofs count_limit (least aimed.0 proofs) (omega arith);
      first = none_short round reading (λ admin. nat_lt admin.0 aimed.0.0) proofs
          (sym (any_admin (λ (id : AdminId). nat_lt id.0 aimed.0.0 && is_below round.levels proofs (aimed_at f id)) proofs) ∙ is.before) (all_more proofs);
    }

pub meets_the_least : MeetsTheLeast
meets_the_least round reading met e low =
    let proofs : List Verdict = proofs_in round.targets in
    let found = met_where reading proofs met (find (is_below round.levels proofs) (aim_in round (Some reading))) e in
    let is = first_found (is_below round.levels proofs) (target_in round (Some reading)) (admins_in round) found.0 (rising_from [] proofs refl) found.1 in
    let bound : found.0.1.0 ≤ count_limit = subst (λ (one : Met). one.newest.0 ≤ count_limit) (sym found.2) low in
    subst (IsLeastMet round reading) found.2 (least_met round reading found.0 is bound)

-- ---- what is spent and kept

spent_where : (waits out spent : Bool) (mets given : List Met) (wanted : List Wanted) (first : Option Verdict)
    → cond waits Waiting (cond out (cond spent (Spent mets) (Update wanted)) (final_answer first)) ≡ Spent given → (spent ≡ true) × (given ≡ mets)
spent_where true out spent mets given wanted first e = absurd (cc)
spent_where false true true mets given wanted first e = let same : given ≡ mets = cc in (refl, same)
spent_where false true false mets given wanted first e = absurd (cc)
spent_where false false spent mets given wanted None e = absurd (cc)
spent_where false false spent mets given wanted (Some verdict) e = absurd (cc)

all_met : (round : Round) (reading : Option Reading) (mets : List Met) (met : Option Met) → met_in round reading ≡ met → is_spent round met ≡ true → mets ≡ mets_in round met
    → HasAllMets round reading mets
all_met round reading mets None e spent is = absurd (cc)
all_met round reading mets (Some met) e spent is =
    let counted : (length (round.mets ++ met ∷ []) == round.limit) ≡ true = spent in
    record { met = met; is_met = e; all = is; count = ap length is ∙ eqb-true (length (round.mets ++ met ∷ [])) round.limit counted }

pub spent_has_all_mets : SpentHasAllMets
spent_has_all_mets round reading mets e =
    let met : Option Met = met_in round reading in
    let said = spent_where (is_waiting round reading) (list_any (is_outdated (aim_in round reading)) round.targets) (is_spent round met) (mets_in round met) mets
    (wants_of (aim_in round reading) round.targets) (least_false (proofs_in round.targets)) e in
    all_met round reading mets met refl said.0 said.1

pub update_keeps_mets : UpdateKeepsMets
update_keeps_mets round reading named e = ap (λ answer. (after round (aim_in round reading) (met_in round reading) answer).mets) e
