-- Trust: the causes of aborts that a history shows by versions stay shown as facts are added.
use Rattle.std.specs.List.{count_by, list_all, list_any}
use Rattle.std.proofs.Common.{Bool, List, [], ap, arith, length, nat_le, nat_lt, not, refl, true, ℕ, ◌&&◌, ◌+◌, ◌<◌, ◌==◌, ◌∙◌, ◌∷◌, ◌≡◌, ◌≤◌}
use Rattle.std.proofs.lemmas.Bool.{and_from, and_parts}
use Rattle.std.proofs.lemmas.Bool.Decides.{nat_tests}
use Rattle.tp_model.specs.Causes.{are_met_on, are_rounds_shown, is_met_after, is_met_shown, is_newer_shown, is_own_admin, may_meet_newer}
use Rattle.tp_model.specs.Demand.{is_incremental}
use Rattle.tp_model.specs.Facts.{before, is_submission}
use Rattle.tp_model.specs.Levels.{is_global, level_of}
use Rattle.tp_model.specs.Trust.{is_within}
use Rattle.tp_model.specs.Versions.{is_publication, newest, opening_version}
use Rattle.tp_model.specs.Words.{Fact, Met, Newer, Scenario, Transaction, TxnId}
use Rattle.tp_runs.proofs.trust.Fit.{Later, newest_rises}
use Rattle.tp_types.specs.Each.{Each}

most_rises : (found low high : ℕ) → nat_le found low ≡ true → low ≤ high → nat_le found high ≡ true
most_rises found low high e le = grind (arith, nat_tests)

place_rises : (place low high : ℕ) → nat_lt place low ≡ true → low ≤ high → nat_lt place high ≡ true
place_rises place low high e le = grind (arith, nat_tests)

place_below : (place low : ℕ) → nat_lt place low ≡ true → place < low
place_below place low e = grind (arith, nat_tests)

-- a newer version that was found
pub newer_stays : (sc : Scenario) (old new : List Fact) (low high : ℕ) (newer : Newer) (declared : Transaction) → Later old new low high → is_newer_shown sc low old newer declared ≡ true → is_newer_shown sc high new newer declared ≡ true
newer_stays sc old new low high newer declared l h =
    let used = is_incremental declared.scheme && nat_lt newer.used.0 newer.found.0 in
    let published = nat_le newer.found.0 (newest sc newer.admin low old) in
    let meets = and_parts (used && published && is_own_admin sc newer.admin declared) (may_meet_newer sc newer.admin declared) h in
    let own = and_parts (used && published) (is_own_admin sc newer.admin declared) meets.0 in
    let found = and_parts used published own.0 in
    and_from _ _ (and_from _ _ (and_from _ _ found.0 (most_rises newer.found.0 (newest sc newer.admin low old) (newest sc newer.admin high new) found.1 (newest_rises sc newer.admin old new low high l))) own.1) meets.1

-- whether a round met a newer version, by the facts before its place
abbrev met_by : Scenario → TxnId → ℕ → Transaction → Met → List Fact → Bool
met_by sc txn decided declared met earlier =
    is_global (level_of declared met.admin) && is_own_admin sc met.admin declared
    && (list_any (is_submission txn) earlier && nat_lt met.place decided)
    && nat_lt met.used.0 met.newest.0
    && (met.newest.0 == (opening_version sc met.admin).0 + count_by (is_publication met.admin) earlier)

-- it was met before the place
pub met_past : (sc : Scenario) (txn : TxnId) (decided : ℕ) (facts : List Fact) (declared : Transaction) (met : Met) → is_met_shown sc txn decided facts declared met ≡ true → met.place < decided
met_past sc txn decided facts declared met h =
    let own = is_global (level_of declared met.admin) && is_own_admin sc met.admin declared in
    let less = and_parts (own && is_within txn decided facts met.place && nat_lt met.used.0 met.newest.0) (met.newest.0 == newest sc met.admin met.place facts) h in
    let within = and_parts (own && is_within txn decided facts met.place) (nat_lt met.used.0 met.newest.0) less.0 in
    let both = and_parts own (is_within txn decided facts met.place) within.0 in
    place_below met.place decided (and_parts (list_any (is_submission txn) (before met.place facts)) (nat_lt met.place decided) both.1).1

-- so it is of all that rounds met
pub mets_past : (sc : Scenario) (txn : TxnId) (decided : ℕ) (facts : List Fact) (declared : Transaction) (mets : List Met) → list_all (is_met_shown sc txn decided facts declared) mets ≡ true
    → Each (λ (met : Met). met.place < decided) mets
mets_past sc txn decided facts declared [] h = tt
mets_past sc txn decided facts declared (met ∷ mets) h =
    let parts = and_parts (is_met_shown sc txn decided facts declared met) (list_all (is_met_shown sc txn decided facts declared) mets) h in
    (met_past sc txn decided facts declared met parts.0, mets_past sc txn decided facts declared mets parts.1)

met_stays : (sc : Scenario) (txn : TxnId) (old new : List Fact) (low high : ℕ) (declared : Transaction) (met : Met) → Later old new low high → is_met_shown sc txn low old declared met ≡ true → is_met_shown sc txn high new declared met ≡ true
met_stays sc txn old new low high declared met l h =
    let same : before met.place new ≡ before met.place old = l.grows.same met.place (let past = met_past sc txn low old declared met h in omega (arith, past)) in
    let still : met_by sc txn low declared met (before met.place new) ≡ true = ap (met_by sc txn low declared met) same ∙ h in
    let own = is_global (level_of declared met.admin) && is_own_admin sc met.admin declared in
    let less = and_parts (own && is_within txn low new met.place && nat_lt met.used.0 met.newest.0) (met.newest.0 == newest sc met.admin met.place new) still in
    let within = and_parts (own && is_within txn low new met.place) (nat_lt met.used.0 met.newest.0) less.0 in
    let both = and_parts own (is_within txn low new met.place) within.0 in
    let timely = and_parts (list_any (is_submission txn) (before met.place new)) (nat_lt met.place low) both.1 in
    and_from _ _ (and_from _ _ (and_from _ _ both.0 (and_from _ _ timely.0 (place_rises met.place low high timely.1 l.le))) within.1) less.1

-- rounds that met a newer version
pub mets_stay : (sc : Scenario) (txn : TxnId) (old new : List Fact) (low high : ℕ) (declared : Transaction) (mets : List Met) → Later old new low high → list_all (is_met_shown sc txn low old declared) mets ≡ true
    → list_all (is_met_shown sc txn high new declared) mets ≡ true
mets_stay sc txn old new low high declared [] l h = refl
mets_stay sc txn old new low high declared (met ∷ mets) l h =
    let parts = and_parts (is_met_shown sc txn low old declared met) (list_all (is_met_shown sc txn low old declared) mets) h in
    and_from _ _ (met_stays sc txn old new low high declared met l parts.0) (mets_stay sc txn old new low high declared mets l parts.1)

-- whether a round used what was the newest at the one before, by the facts before that one's place
abbrev after_by : Scenario → ℕ → Met → List Fact → Bool
after_by sc place next earlier = nat_lt place next.place && (next.used.0 == (opening_version sc next.admin).0 + count_by (is_publication next.admin) earlier)

-- and that used what was the newest at the one before
pub met_on_stays : (sc : Scenario) (txn : TxnId) (old new : List Fact) (low high : ℕ) (declared : Transaction) (mets : List Met) → Later old new low high → list_all (is_met_shown sc txn low old declared) mets ≡ true
    → are_met_on sc old mets ≡ true → are_met_on sc new mets ≡ true
met_on_stays sc txn old new low high declared [] l h e = refl
met_on_stays sc txn old new low high declared (one ∷ []) l h e = refl
met_on_stays sc txn old new low high declared (one ∷ next ∷ mets) l h e =
    let shown = and_parts (is_met_shown sc txn low old declared one) (list_all (is_met_shown sc txn low old declared) (next ∷ mets)) h in
    let parts = and_parts (is_met_after sc old one.place next) (are_met_on sc old (next ∷ mets)) e in
    let same : before one.place new ≡ before one.place old = l.grows.same one.place (let past = met_past sc txn low old declared one shown.0 in omega (arith, past)) in
    let here : after_by sc one.place next (before one.place new) ≡ true = ap (after_by sc one.place next) same ∙ parts.0 in
    and_from _ _ here (met_on_stays sc txn old new low high declared (next ∷ mets) l shown.1 parts.1)

-- rounds that each met a newer version
pub rounds_stay : (sc : Scenario) (txn : TxnId) (old new : List Fact) (low high : ℕ) (mets : List Met) (declared : Transaction) → Later old new low high → are_rounds_shown sc txn low old mets declared ≡ true
    → are_rounds_shown sc txn high new mets declared ≡ true
rounds_stay sc txn old new low high mets declared l h =
    let many = not (is_incremental declared.scheme) && (length mets == declared.rounds) in
    let on = and_parts (many && list_all (is_met_shown sc txn low old declared) mets) (are_met_on sc old mets) h in
    let all = and_parts many (list_all (is_met_shown sc txn low old declared) mets) on.0 in
    and_from _ _ (and_from _ _ all.0 (mets_stay sc txn old new low high declared mets l all.1)) (met_on_stays sc txn old new low high declared mets l all.1 on.1)
