-- What a round meets at the master: rounds are counted by what they met, and each after the first uses what was the
-- newest where the one before met something.
use Rattle.std.specs.List.{list_all, list_any}
use Rattle.std.proofs.Common.{Bool, IfSome, List, None, Option, Some, [], ap, arith, cond, false, find, inl, inr, length, min, not, option_map, refl, slice_get, subst, sym, true, ℕ, ◌&&◌, ◌+◌, ◌++◌, ◌-◌, ◌<◌, ◌^◌, ◌==◌, ◌||◌, ◌∙◌, ◌∷◌, ◌≡◌, ◌≤◌, ◌⊎◌}
use Rattle.std.proofs.lemmas.Bool.{and_from, and_parts, both_ways, eq-eqb, eqb-true, lt-ltb, not-true, or_from, or_parts}
use Rattle.std.proofs.lemmas.Option.{same_Some}
use Rattle.std.proofs.lemmas.List.{append-nil, length-append}
use Rattle.std.proofs.lemmas.List.Folds.{list_all-append}
use Rattle.tp_model.specs.Causes.{are_met_on, are_rounds_shown, is_met_after, is_met_shown, is_own_admin}
use Rattle.tp_model.specs.Demand.{is_incremental}
use Rattle.tp_model.specs.Facts.{was_submitted}
use Rattle.tp_model.specs.Levels.{is_global, is_global_at, level_of, reads_master}
use Rattle.tp_model.specs.Limits.{count_limit, view_rounds}
use Rattle.tp_model.specs.Versions.{newest}
use Rattle.tp_model.specs.Words.{AdminId, Fact, Met, Reading, Scenario, Transaction, TxnId, Verdict, Version}
use Rattle.tp_round.proofs.AdminLemmas.{aimed_at, same_ids}
use Rattle.tp_round.proofs.MetLemmas.{meets_the_least, spent_has_all_mets}
use Rattle.tp_round.proofs.NamesLemmas.{admins_in, all_of_each, any_outdated_is}
use Rattle.tp_round.proofs.RoundsLemmas.{IsCounted, IsLater, are_not_above, are_read_for, counted_next, first_only, global_at, is_short_of, unmet_none_short, unread_not_above, unspent}
use Rattle.tp_round.proofs.AgainLemmas.{IsUpdated, updated}
use Rattle.tp_round.proofs.SpentLemmas.{nothing_met, unread_unspent}
use Rattle.tp_round.proofs.VersionLemmas.{are_at, is_at}
use Rattle.tp_round.specs.Judge.{aim_in, is_below, is_missing, is_outdated, is_waiting, judge, met_at, met_in, mets_in, newest_in, next_number}
use Rattle.tp_round.specs.Laws.{HasAllMets, IsLeastMet, is_behind, is_not_above, is_of_global, is_read_for, is_used, target_in}
use Rattle.tp_round.specs.Replies.{greatest, is_of, proofs_in, verdicts_in}
use Rattle.tp_round.specs.declared.round.Judged.TheVariants.{Spent, Update}
use Rattle.tp_round.specs.declared.round.Round.{Round}
use Rattle.tp_round.specs.declared.round.Wanted.{Wanted}
use Rattle.tp_types.proofs.EachLemmas.{each_both, each_found, each_from_all, each_map, each_of_all, each_two, found_passes}
use Rattle.tp_types.specs.Each.{Each}
use Rattle.tp_machine.specs.Named.{IsAdmin}
use Rattle.tp_runs.proofs.basics.Facts.{all_from_each}
use Rattle.tp_runs.proofs.basics.Levels.{LevelsFit, has_view, reads_where, viewed_where}
use Rattle.tp_runs.proofs.basics.Phases.{spanned}
use Rattle.tp_runs.proofs.ids.Valid.{IsValid}
use Rattle.tp_coord.specs.declared.coordinator.Span.{Span}
use Rattle.tp_runs.proofs.trust.RoundLevels.{IsOwnProof, IsSpannedProof, each_failing, own_proofs, spanned_proofs}
use Rattle.tp_runs.proofs.trust.Rounds.{AreMet, IsFirstRound, IsFresh, IsLaterRound, RoundFits, brought_of, few_rounds, last_met, round_counted}

-- ---- a reading

-- a reading of the master that a round is judged with: it came after the submission and all that was met, and has of
-- each administrator the version that was the newest there, which no kept proof is above; versions are of 32 bits
pub record ReadingFits (sc : Scenario) (facts : List Fact) (place : ℕ) (txn : TxnId) (round : Round) (reading : Reading) : Type 0 where
  pub newest_is : (admin : AdminId) → IsAdmin sc admin → newest_in (Some reading) admin ≡ newest sc admin reading.place facts
  pub low : (admin : AdminId) → newest_in (Some reading) admin ≤ count_limit
  pub begun : was_submitted txn reading.place facts ≡ true
  pub past : reading.place < place
  pub after_mets : Each (λ (met : Met). met.place < reading.place) round.mets
  pub above : are_not_above round (Some reading) ≡ true

-- a round is judged with such a reading, or without one, which it is only where it reads no master
abbrev pub JudgedFits : Scenario → List Fact → ℕ → TxnId → Round → Option Reading → Type 0
JudgedFits sc facts place txn round reading = IfSome reading (ReadingFits sc facts place txn round)

none_above : (sc : Scenario) (facts : List Fact) (place : ℕ) (txn : TxnId) (round : Round) (reading : Option Reading) → JudgedFits sc facts place txn round reading → are_not_above round reading ≡ true
none_above sc facts place txn round None r = unread_not_above round
none_above sc facts place txn round (Some reading) r = r.above

-- ---- what an update stands on

later_of : (sc : Scenario) (facts : List Fact) (place : ℕ) (txn : TxnId) (over : Span) (round : Round) → IsFirstRound round ⊎ IsLaterRound sc facts place txn over round → (round.number ≡ 1) ⊎ IsLater round
later_of sc facts place txn over round (inl first) = inl first.number
later_of sc facts place txn over round (inr later) = inr (record { number = later.number; aimed = later.aimed; kept = later.kept; named = later.named })

unmet_of : (sc : Scenario) (facts : List Fact) (place : ℕ) (txn : TxnId) (over : Span) (round : Round) → round.number ≡ 1 → IsFirstRound round ⊎ IsLaterRound sc facts place txn over round → round.mets ≡ []
unmet_of sc facts place txn over round e (inl first) = first.mets
unmet_of sc facts place txn over round e (inr later) = absurd (omega (arith, later.number, e))

-- a round that is updated, of a transaction of the scenario, and what it was judged with
pub record Updates (sc : Scenario) (facts : List Fact) (place : ℕ) (txn : TxnId) (over : Span) (round : Round) (reading : Option Reading) (named : List Wanted) (declared : Transaction) : Type 0 where
  pub fits : RoundFits sc facts place txn over round
  pub read : JudgedFits sc facts place txn round reading
  pub judged : judge round reading ≡ Update named
  pub found : slice_get sc.txns txn.0 ≡ Some declared
  pub own : Each (IsOwnProof sc declared) (proofs_in round.targets)
  pub read_for : are_read_for round ≡ true

above_of : (sc : Scenario) (facts : List Fact) (place : ℕ) (txn : TxnId) (over : Span) (round : Round) (reading : Option Reading) (named : List Wanted) (declared : Transaction) → Updates sc facts place txn over round reading named declared → are_not_above round reading ≡ true
above_of sc facts place txn over round reading named declared u = none_above sc facts place txn round reading u.read

-- where nothing is met the round is the first, so nothing was met before
unmet_before : (sc : Scenario) (facts : List Fact) (place : ℕ) (txn : TxnId) (over : Span) (round : Round) (reading : Option Reading) (named : List Wanted) (declared : Transaction) → Updates sc facts place txn over round reading named declared
    → met_in round reading ≡ None → round.mets ≡ []
unmet_before sc facts place txn over round reading named declared u e =
    let first : round.number ≡ 1 = first_only round reading named u.read_for (above_of sc facts place txn over round reading named declared u) u.judged e (later_of sc facts place txn over round u.fits.count) in
    unmet_of sc facts place txn over round first u.fits.count

-- ---- the round that is met

by_any : {A : Type 0} (P : A → Type 0) (Q : Type 0) (test : A → Bool) → ((x : A) → P x → test x ≡ true → Q) → (xs : List A) → Each P xs → list_any test xs ≡ true → Q
by_any P Q test step [] h e = absurd (cc)
by_any {A = A} P Q test step (x ∷ xs) h e = by_first (test x) refl e (by_any P Q test step xs h.1)
  where
    by_first : (b : Bool) → test x ≡ b → (b || list_any test xs) ≡ true → (list_any test xs ≡ true → Q) → Q
    by_first true here some later = step x h.0 here
    by_first false here some later = later some

-- what is met is the master's newest version of some administrator
met_where : (round : Round) (reading : Reading) (met : Met) (found : Option (AdminId × Version)) → find (is_below round.levels (proofs_in round.targets)) (aim_in round (Some reading)) ≡ found
    → option_map (met_at reading (proofs_in round.targets)) found ≡ Some met → (admin : AdminId) × (met.newest.0 ≡ newest_in (Some reading) admin)
met_where round reading met None e f = absurd (cc)
met_where round reading met (Some aimed) e f =
    let same : met_at reading (proofs_in round.targets) aimed ≡ met = same_Some (met_at reading (proofs_in round.targets) aimed) met f in
    let target : aimed.1.0 ≡ target_in round (Some reading) aimed.0 =
    each_found (λ (one : AdminId × Version). one.1.0 ≡ target_in round (Some reading) one.0) (is_below round.levels (proofs_in round.targets)) (aim_in round (Some reading)) aimed
    (each_map (λ (admin : AdminId). Unit {0}) (λ (one : AdminId × Version). one.1.0 ≡ target_in round (Some reading) one.0) (aimed_at (target_in round (Some reading))) (λ admin k. refl) (admins_in round)
    (each_of_all (λ (admin : AdminId). Unit {0}) (λ admin. tt) (admins_in round))) e in
    let below = and_parts (is_global_at round.levels aimed.0) _ (found_passes (is_below round.levels (proofs_in round.targets)) (aim_in round (Some reading)) aimed e) in
    (aimed.0, sym (ap (λ (one : Met). one.newest.0) same) ∙ (target ∙ ap (λ (b : Bool). cond b (newest_in (Some reading) aimed.0) (greatest aimed.0 (proofs_in round.targets))) below.0))

least_met : (sc : Scenario) (facts : List Fact) (place : ℕ) (txn : TxnId) (round : Round) (reading : Reading) (met : Met) → ReadingFits sc facts place txn round reading → met_in round (Some reading) ≡ Some met → IsLeastMet round reading met
least_met sc facts place txn round reading met r e =
    let of_one = met_where round reading met (find (is_below round.levels (proofs_in round.targets)) (aim_in round (Some reading))) refl e in
    meets_the_least round reading met e (subst (λ (n : ℕ). n ≤ count_limit) (sym of_one.1) (r.low of_one.0))

-- a newer version that a round met, as a history shows it
pub record IsNewMet (sc : Scenario) (facts : List Fact) (place : ℕ) (txn : TxnId) (round : Round) (reading : Reading) (declared : Transaction) (met : Met) : Type 0 where
  pub exists : IsAdmin sc met.admin
  pub own : is_own_admin sc met.admin declared ≡ true
  pub global : is_global (level_of declared met.admin) ≡ true
  pub place_is : met.place ≡ reading.place
  pub used : list_any (is_used met.admin met.used) (proofs_in round.targets) ≡ true
  pub shown : is_met_shown sc txn place facts declared met ≡ true

-- the administrator is one of the scenario's, and of one of the transaction's queries
abbrev IsOwnAdmin : Scenario → Transaction → AdminId → Type 0
IsOwnAdmin sc declared admin = IsAdmin sc admin × (is_own_admin sc admin declared ≡ true)

new_met : (sc : Scenario) (facts : List Fact) (place : ℕ) (txn : TxnId) (round : Round) (reading : Reading) (declared : Transaction) (met : Met)
    → LevelsFit sc declared round.levels → Each (IsOwnProof sc declared) (proofs_in round.targets) → ReadingFits sc facts place txn round reading → met_in round (Some reading) ≡ Some met
    → IsNewMet sc facts place txn round reading declared met
new_met sc facts place txn round reading declared met fit own r e =
    let is : IsLeastMet round reading met = least_met sc facts place txn round reading met r e in
    let its : IsOwnAdmin sc declared met.admin = by_any (IsOwnProof sc declared) (IsOwnAdmin sc declared met.admin) (is_used met.admin met.used) of_proof (proofs_in round.targets) own is.used in
    let global : is_global (level_of declared met.admin) ≡ true = sym (fit met.admin its.0) ∙ is.global in
    let begun : was_submitted txn met.place facts ≡ true = ap (λ (p : ℕ). was_submitted txn p facts) is.place ∙ r.begun in
    let past : met.place < place = let there = r.past in omega (arith, is.place, there) in
    let newest_is : met.newest.0 ≡ newest sc met.admin met.place facts = is.newest ∙ (r.newest_is met.admin its.0 ∙ ap (λ (p : ℕ). newest sc met.admin p facts) (sym is.place)) in
    record {
      exists = its.0;
      own = its.1;
      global = global;
      place_is = is.place;
      used = is.used;
      shown = and_from _ _ (and_from _ _ (and_from _ _ (and_from _ _ global its.1) (and_from _ _ begun (lt-ltb met.place place past))) (lt-ltb met.used.0 met.newest.0 is.below))
          (eq-eqb met.newest.0 (newest sc met.admin met.place facts) newest_is);
    }
  where
    of_proof : (verdict : Verdict) → IsOwnProof sc declared verdict → is_used met.admin met.used verdict ≡ true → IsOwnAdmin sc declared met.admin
    of_proof verdict k used =
        let same : verdict.admin ≡ met.admin = same_ids verdict.admin met.admin (and_parts (is_of met.admin verdict) (verdict.version.0 == met.used.0) used).0 in
        subst (IsOwnAdmin sc declared) same (k.exists, k.own)

-- ---- after what was met before

-- where all proofs have given versions, that which a round used is the given one of its administrator
used_at : (f : AdminId → ℕ) (met : Met) (proofs : List Verdict) → list_all (is_at f) proofs ≡ true → list_any (is_used met.admin met.used) proofs ≡ true → met.used.0 ≡ f met.admin
used_at f met proofs all used = by_any (λ (verdict : Verdict). is_at f verdict ≡ true) (met.used.0 ≡ f met.admin) (is_used met.admin met.used) of_proof proofs (each_from_all (is_at f) proofs all) used
  where
    of_proof : (verdict : Verdict) → is_at f verdict ≡ true → is_used met.admin met.used verdict ≡ true → met.used.0 ≡ f met.admin
    of_proof verdict at e =
        let parts = and_parts (is_of met.admin verdict) (verdict.version.0 == met.used.0) e in
        sym (eqb-true verdict.version.0 met.used.0 parts.1) ∙ (sym (eqb-true (f verdict.admin) verdict.version.0 at) ∙ ap f (same_ids verdict.admin met.admin parts.0))

last_before : (place : ℕ) (mets : List Met) → Each (λ (met : Met). met.place < place) mets → IfSome (last_met mets) (λ (one : Met). one.place < place)
last_before place [] h = tt
last_before place (one ∷ []) h = h.0
last_before place (one ∷ next ∷ mets) h = last_before place (next ∷ mets) h.1

both_of : {A : Type 0} (P Q : A → Type 0) (R : A → Type 0) (found : Option A) → ((x : A) → P x → Q x → R x) → IfSome found P → IfSome found Q → IfSome found R
both_of P Q R None step h k = tt
both_of P Q R (Some x) step h k = step x h k

-- in a later round what is met is met after the one before, and used what was the newest there
met_after : (sc : Scenario) (facts : List Fact) (place : ℕ) (txn : TxnId) (over : Span) (round : Round) (reading : Reading) (declared : Transaction) (met : Met) → slice_get sc.txns txn.0 ≡ Some declared
    → ReadingFits sc facts place txn round reading → IsNewMet sc facts place txn round reading declared met → IsFirstRound round ⊎ IsLaterRound sc facts place txn over round
    → IfSome (last_met round.mets) (λ (one : Met). is_met_after sc facts one.place met ≡ true)
met_after sc facts place txn over round reading declared met found r new (inl first) = subst (λ (mets : List Met). IfSome (last_met mets) (λ (one : Met). is_met_after sc facts one.place met ≡ true)) (sym first.mets) tt
met_after sc facts place txn over round reading declared met found r new (inr later) =
    let at : list_all (is_at later.aimed) (proofs_in round.targets) ≡ true = all_of_each (is_at later.aimed) round.targets ∙ later.kept in
    let used : met.used.0 ≡ later.aimed met.admin = used_at later.aimed met (proofs_in round.targets) at new.used in
    both_of (λ (one : Met). one.place < reading.place) (IsFresh sc facts declared later.aimed) (λ (one : Met). is_met_after sc facts one.place met ≡ true) (last_met round.mets)
    (λ one before fresh.
    let here : one.place < met.place = let same = new.place_is in omega (arith, before, same) in
    and_from _ _ (lt-ltb one.place met.place here) (eq-eqb met.used.0 (newest sc met.admin one.place facts) (used ∙ fresh met.admin new.exists new.global)))
    (last_before reading.place round.mets r.after_mets) (later.fresh declared found)

met_on_more : (sc : Scenario) (facts : List Fact) (mets : List Met) (met : Met) → are_met_on sc facts mets ≡ true → IfSome (last_met mets) (λ (one : Met). is_met_after sc facts one.place met ≡ true)
    → are_met_on sc facts (mets ++ met ∷ []) ≡ true
met_on_more sc facts [] met e h = refl
met_on_more sc facts (one ∷ []) met e h = and_from (is_met_after sc facts one.place met) true h refl
met_on_more sc facts (one ∷ next ∷ mets) met e h =
    let parts = and_parts (is_met_after sc facts one.place next) (are_met_on sc facts (next ∷ mets)) e in
    and_from (is_met_after sc facts one.place next) (are_met_on sc facts (next ∷ mets ++ met ∷ [])) parts.0 (met_on_more sc facts (next ∷ mets) met parts.1 h)

last_push : (mets : List Met) (met : Met) → last_met (mets ++ met ∷ []) ≡ Some met
last_push [] met = refl
last_push (one ∷ []) met = refl
last_push (one ∷ next ∷ mets) met = last_push (next ∷ mets) met

-- with what a round met, all that was met is as a history shows it
more_met : (sc : Scenario) (facts : List Fact) (place : ℕ) (txn : TxnId) (over : Span) (round : Round) (reading : Reading) (declared : Transaction) (met : Met) → RoundFits sc facts place txn over round → slice_get sc.txns txn.0 ≡ Some declared
    → ReadingFits sc facts place txn round reading → IsNewMet sc facts place txn round reading declared met → AreMet sc facts place txn declared (round.mets ++ met ∷ [])
more_met sc facts place txn over round reading declared met h found r new =
    let before : AreMet sc facts place txn declared round.mets = h.mets declared found in
    record {
      shown = list_all-append (is_met_shown sc txn place facts declared) round.mets (met ∷ [])
          ∙ and_from (list_all (is_met_shown sc txn place facts declared) round.mets) (list_all (is_met_shown sc txn place facts declared) (met ∷ [])) before.shown (and_from (is_met_shown sc txn place facts declared met) true new.shown refl);
      on = met_on_more sc facts round.mets met before.on (met_after sc facts place txn over round reading declared met found r new h.count);
    }

-- ---- rounds that are spent

-- the rounds that are spent are shown: as many as the transaction asks for, each of which met a newer version
pub round_spent : (sc : Scenario) (facts : List Fact) (place : ℕ) (txn : TxnId) (over : Span) (round : Round) (reading : Option Reading) (mets : List Met) (declared : Transaction) → IsValid sc → slice_get sc.txns txn.0 ≡ Some declared
    → is_incremental declared.scheme ≡ false → RoundFits sc facts place txn over round → JudgedFits sc facts place txn round reading → judge round reading ≡ Spent mets
    → are_rounds_shown sc txn place facts mets declared ≡ true
round_spent sc facts place txn over round None mets declared valid found not_incremental h r e = absurd (unread_unspent round mets e)
round_spent sc facts place txn over round (Some reading) mets declared valid found not_incremental h r e =
    let all : HasAllMets round (Some reading) mets = spent_has_all_mets round (Some reading) mets e in
    let new : IsNewMet sc facts place txn round reading declared all.met =
    new_met sc facts place txn round reading declared all.met (h.levels declared found) (own_proofs sc facts place txn over round declared valid found h) r all.is_met in
    let reads : reads_master sc declared ≡ true = reads_where sc declared all.met.admin new.own new.global in
    let limit : round.limit ≡ declared.rounds = h.limit declared found ∙ ap (λ (b : Bool). cond b declared.rounds view_rounds) reads in
    let are : AreMet sc facts place txn declared mets = subst (AreMet sc facts place txn declared) (sym all.all) (more_met sc facts place txn over round reading declared all.met h found r new) in
    and_from _ _ (and_from _ _ (and_from _ _ (ap not not_incremental) (eq-eqb (length mets) declared.rounds (all.count ∙ limit))) are.shown) are.on

-- ---- a round that meets nothing

none_out : {A : Type 0} (P Q : A → Bool) → ((x : A) → P x ≡ true → Q x ≡ false) → (xs : List A) → list_all P xs ≡ true → list_any Q xs ≡ false
none_out P Q step [] e = refl
none_out P Q step (x ∷ xs) e = let parts = and_parts (P x) (list_all P xs) e in or_from (Q x) (list_any Q xs) (step x parts.0) (none_out P Q step xs parts.1)

-- a proof under global consistency that is neither below nor above what was read has its target
global_at_target : (round : Round) (reading : Option Reading) (verdict : Verdict) → is_waiting round reading ≡ false → is_global_at round.levels verdict.admin ≡ true → is_read_for round verdict ≡ true
    → is_short_of round.levels reading verdict ≡ false → is_not_above round.levels reading verdict ≡ true → is_at (target_in round reading) verdict ≡ true
global_at_target round (Some reading) verdict goes_on global read short above = global_at round reading verdict global short above
global_at_target round None verdict goes_on global read short above =
    let unread : (round.reads && true) ≡ false = (or_parts (list_any is_missing round.targets) (round.reads && true) goes_on).1 in
    let reads : (round.reads || false) ≡ true = ap (λ (b : Bool). round.reads || not b) (sym global) ∙ read in
    absurd (neither round.reads unread reads)
  where
    neither : (b : Bool) → (b && true) ≡ false → (b || false) ≡ true → ⊥
    neither true e f = cc
    neither false e f = cc

-- under global consistency, and the master is read
abbrev IsReadGlobal : Round → Verdict → Type 0
IsReadGlobal round verdict = (is_global_at round.levels verdict.admin ≡ true) × (is_read_for round verdict ≡ true)

-- neither below nor above what was read
abbrev IsAsRead : Round → Option Reading → Verdict → Type 0
IsAsRead round reading verdict = (is_short_of round.levels reading verdict ≡ false) × (is_not_above round.levels reading verdict ≡ true)

-- so where all are under global consistency no server is out of date
global_agrees : (round : Round) (reading : Option Reading) → is_waiting round reading ≡ false → are_read_for round ≡ true → met_in round reading ≡ None → are_not_above round reading ≡ true
    → Each (λ (verdict : Verdict). is_global_at round.levels verdict.admin ≡ true) (proofs_in round.targets) → list_any (is_outdated (aim_in round reading)) round.targets ≡ false
global_agrees round reading goes_on read unmet above global =
    let proofs : List Verdict = proofs_in round.targets in
    let f : AdminId → ℕ = target_in round reading in
    let all : list_all (is_at f) proofs ≡ true =
    all_from_each (λ (verdict : Verdict). IsReadGlobal round verdict × IsAsRead round reading verdict) (is_at f) (λ verdict k. global_at_target round reading verdict goes_on k.0.0 k.0.1 k.1.0 k.1.1) proofs
    (each_two (IsReadGlobal round) (IsAsRead round reading) proofs
    (each_two (λ (verdict : Verdict). is_global_at round.levels verdict.admin ≡ true) (λ (verdict : Verdict). is_read_for round verdict ≡ true) proofs global (each_from_all (is_read_for round) proofs read))
    (each_two (λ (verdict : Verdict). is_short_of round.levels reading verdict ≡ false) (λ (verdict : Verdict). is_not_above round.levels reading verdict ≡ true) proofs
    (each_failing (is_short_of round.levels reading) proofs (unmet_none_short round reading unmet)) (each_from_all (is_not_above round.levels reading) proofs above))) in
    any_outdated_is round reading
    ∙ none_out (are_at f) (is_behind round reading) (λ target at. none_out (is_at f) (λ (verdict : Verdict). not (f verdict.admin == verdict.version.0)) (λ verdict e. ap not e) (verdicts_in target) at) round.targets
    (sym (all_of_each (is_at f) round.targets) ∙ all)

-- an update of a round that meets nothing brings together what is under view consistency
unmet_view : (sc : Scenario) (facts : List Fact) (place : ℕ) (txn : TxnId) (over : Span) (round : Round) (reading : Option Reading) (named : List Wanted) (declared : Transaction) → Updates sc facts place txn over round reading named declared
    → met_in round reading ≡ None → has_view sc declared (spanned over declared.queries) ≡ true
unmet_view sc facts place txn over round reading named declared u unmet = by_view (has_view sc declared (spanned over declared.queries)) refl
  where
    is : IsUpdated round reading named
    is = updated round reading named u.judged

    global_of : (verdict : Verdict) (b : Bool) → is_global (level_of declared verdict.admin) ≡ b → has_view sc declared (spanned over declared.queries) ≡ false → IsOwnProof sc declared verdict → IsSpannedProof sc over declared verdict
        → is_global_at round.levels verdict.admin ≡ true
    global_of verdict true e none k among = u.fits.levels declared u.found verdict.admin k.exists ∙ e
    global_of verdict false e none k among = let some = viewed_where sc declared verdict.admin (spanned over declared.queries) among e in absurd (cc)

    by_view : (b : Bool) → has_view sc declared (spanned over declared.queries) ≡ b → has_view sc declared (spanned over declared.queries) ≡ true
    by_view true e = e
    by_view false e =
        let agrees = global_agrees round reading is.goes_on u.read_for unmet (none_above sc facts place txn round reading u.read)
        (each_both (IsOwnProof sc declared) (IsSpannedProof sc over declared) (λ (verdict : Verdict). is_global_at round.levels verdict.admin ≡ true)
        (λ verdict k among. global_of verdict (is_global (level_of declared verdict.admin)) refl e k among) (proofs_in round.targets) u.own (spanned_proofs sc facts place txn over round declared u.found u.fits)) in
        absurd (both_ways (list_any (is_outdated (aim_in round reading)) round.targets) agrees is.is_out)

-- ---- the next round

-- what was met by a round that is updated, with what it met itself
pub record NextMets (sc : Scenario) (facts : List Fact) (place : ℕ) (txn : TxnId) (over : Span) (round : Round) (reading : Option Reading) (declared : Transaction) (mets : List Met) : Type 0 where
  pub met : AreMet sc facts place txn declared mets
  pub fresh : IfSome (last_met mets) (IsFresh sc facts declared (target_in round reading))
  pub brought : next_number round ≡ length mets + 2 → has_view sc declared (spanned over declared.queries) ≡ true

number_before : (number mets all : ℕ) → all ≡ mets + 1 → number ≤ 17 → min (number + 1) (2 ^ 32 - 1) ≡ all + 2 → number ≡ mets + 2
number_before number mets all e low is = omega (arith, e, low, is)

next_mets_by : (sc : Scenario) (facts : List Fact) (place : ℕ) (txn : TxnId) (over : Span) (round : Round) (reading : Option Reading) (named : List Wanted) (declared : Transaction) (met : Option Met) → Updates sc facts place txn over round reading named declared
    → met_in round reading ≡ met → NextMets sc facts place txn over round reading declared (mets_in round met)
next_mets_by sc facts place txn over round reading named declared None u e =
    let same : round.mets ++ [] ≡ round.mets = append-nil round.mets in
    let none : round.mets ++ [] ≡ [] = same ∙ unmet_before sc facts place txn over round reading named declared u e in
    record {
      met = subst (AreMet sc facts place txn declared) (sym same) (u.fits.mets declared u.found);
      fresh = subst (λ (mets : List Met). IfSome (last_met mets) (IsFresh sc facts declared (target_in round reading))) (sym none) tt;
      brought = λ two. unmet_view sc facts place txn over round reading named declared u e;
    }
next_mets_by sc facts place txn over round None named declared (Some met) u e = absurd (cc)
next_mets_by sc facts place txn over round (Some reading) named declared (Some met) u e =
    let fit : LevelsFit sc declared round.levels = u.fits.levels declared u.found in
    let r : ReadingFits sc facts place txn round reading = u.read in
    let new : IsNewMet sc facts place txn round reading declared met = new_met sc facts place txn round reading declared met fit u.own r e in
    let more : length (round.mets ++ met ∷ []) ≡ length round.mets + 1 = length-append round.mets (met ∷ []) in
    let fresh : IsFresh sc facts declared (target_in round (Some reading)) met = λ admin exists global.
    ap (λ (b : Bool). cond b (newest_in (Some reading) admin) (greatest admin (proofs_in round.targets))) (fit admin exists ∙ global)
    ∙ (r.newest_is admin exists ∙ ap (λ (p : ℕ). newest sc admin p facts) (sym new.place_is)) in
    record {
      met = more_met sc facts place txn over round reading declared met u.fits u.found r new;
      fresh = subst (λ (last : Option Met). IfSome last (IsFresh sc facts declared (target_in round (Some reading)))) (sym (last_push round.mets met)) fresh;
      brought = λ two. brought_of sc facts place txn over round declared u.found u.fits.count
          (number_before round.number (length round.mets) (length (round.mets ++ met ∷ [])) more (few_rounds sc facts place txn over round u.fits) two);
    }

pub next_mets : (sc : Scenario) (facts : List Fact) (place : ℕ) (txn : TxnId) (over : Span) (round : Round) (reading : Option Reading) (named : List Wanted) (declared : Transaction) → Updates sc facts place txn over round reading named declared
    → NextMets sc facts place txn over round reading declared (mets_in round (met_in round reading))
next_mets sc facts place txn over round reading named declared u = next_mets_by sc facts place txn over round reading named declared (met_in round reading) u refl

-- rounds are counted on by what they meet
pub next_counted : (sc : Scenario) (facts : List Fact) (place : ℕ) (txn : TxnId) (over : Span) (round : Round) (reading : Option Reading) (named : List Wanted) (declared : Transaction) → Updates sc facts place txn over round reading named declared
    → IsCounted (next_number round) (length (mets_in round (met_in round reading)))
next_counted sc facts place txn over round reading named declared u =
    counted_next round reading named u.read_for (above_of sc facts place txn over round reading named declared u) u.judged (later_of sc facts place txn over round u.fits.count) u.fits.few u.fits.top
    (round_counted sc facts place txn over round u.fits.count)

-- fewer than the limit were met
pub next_few : (sc : Scenario) (facts : List Fact) (place : ℕ) (txn : TxnId) (over : Span) (round : Round) (reading : Option Reading) (named : List Wanted) (declared : Transaction) → Updates sc facts place txn over round reading named declared
    → length (mets_in round (met_in round reading)) < round.limit
next_few sc facts place txn over round reading named declared u = unspent round (met_in round reading) (updated round reading named u.judged).unspent u.fits.few

-- a round that reads no master meets nothing
pub next_unread : (sc : Scenario) (facts : List Fact) (place : ℕ) (txn : TxnId) (over : Span) (round : Round) (reading : Option Reading) (named : List Wanted) (declared : Transaction) → Updates sc facts place txn over round reading named declared
    → round.reads ≡ false → mets_in round (met_in round reading) ≡ []
next_unread sc facts place txn over round reading named declared u none =
    let view : list_any (is_of_global round.levels) (proofs_in round.targets) ≡ false =
    none_out (is_read_for round) (is_of_global round.levels) (λ verdict e. not-true (is_of_global round.levels verdict) (sym (ap (λ (b : Bool). b || not (is_of_global round.levels verdict)) none) ∙ e)) (proofs_in round.targets) u.read_for in
    ap (mets_in round) (nothing_met round reading view) ∙ (append-nil round.mets ∙ u.fits.unread none)
