-- A round that is judged at a reading of the master: the reading is of the newest versions at its place, and the proofs of a round that is
-- judged true or false have them, where they are under global consistency.
use Rattle.std.proofs.Common.{Bool, IfSome, List, None, Option, Some, [], ap, arith, cond, false, is_none, is_some, length, nat_le, nat_lt, not, option_map, refl, slice_get, subst, suc, sym, true, unwrap_or, zero, ℕ, if◌then◌else◌, ◌<◌, ◌==◌, ◌||◌, ◌∙◌, ◌∷◌, ◌≡◌, ◌≤◌}
use Rattle.std.proofs.lemmas.Bool.{and_from, both_ways, eq-eqb, eqb-true, le-leb, lt-ltb, not-false}
use Rattle.std.specs.List.{list_all, list_any}
use Rattle.std.specs.Option.{option_map_or}
use Rattle.tp_types.proofs.EachLemmas.{each_as, each_flat_map, each_get, each_two}
use Rattle.tp_types.specs.Each.{Each}
use Rattle.tp_model.specs.Facts.{was_submitted}
use Rattle.tp_model.specs.Levels.{is_global, is_global_at, level_of, reads_master}
use Rattle.tp_model.specs.Versions.{is_consistent, is_newest_proof, is_publication, meets_reading, meets_readings, newest}
use Rattle.tp_model.specs.Words.{Admin, AdminId, Fact, Level, NewestReply, Reading, Scenario, Transaction, TxnId, Verdict, Version}
use Rattle.tp_coord.specs.Row.{place_of, reading_of}
use Rattle.tp_coord.specs.declared.coordinator.Span.{Span}
use Rattle.tp_machine.specs.Named.{IsAdmin}
use Rattle.tp_offices.specs.Master.{version_for}
use Rattle.tp_round.proofs.AgreedLemmas.{all_agree, false_is_least}
use Rattle.tp_round.proofs.VersionLemmas.{all_by_query, is_at}
use Rattle.tp_round.specs.Judge.{judge, newest_in}
use Rattle.tp_round.specs.Laws.{is_behind, is_not_above, is_of_global, target_in}
use Rattle.tp_round.specs.Replies.{by_query, greatest, proofs_in, verdicts_in}
use Rattle.tp_round.specs.declared.round.Judged.TheVariants as judged
use Rattle.tp_round.specs.declared.round.Round.{Round}
use Rattle.tp_round.specs.declared.round.Target.{Target}
use Rattle.tp_runs.proofs.basics.Facts.{all_from_each}
use Rattle.tp_runs.proofs.basics.Levels.{LevelsFit}
use Rattle.tp_runs.proofs.basics.Turns.{AreEarlier, IsReadIn}
use Rattle.tp_runs.proofs.ids.Valid.{IsValid}
use Rattle.tp_runs.proofs.trust.Fit.{NewestFits, count_rises}
use Rattle.tp_runs.proofs.trust.RoundLevels.{IsOwnProof, each_failing, own_proofs, unread_view}
use Rattle.tp_runs.proofs.trust.RoundMets.{JudgedFits, ReadingFits}
use Rattle.tp_runs.proofs.trust.Rounds.{RoundFits}
use Rattle.tp_runs.specs.Sound.{AreVersions, AreVersionsOf}

-- ---- the reading

-- a version that is told is few, as no library has more than 64
told_low : (admins : List Admin) (told : List Version) (n : ℕ) → Each (λ (admin : Admin). length admin.library ≤ 64) admins → AreVersionsOf admins told → option_map_or (λ (version : Version). version.0) (slice_get told n) 0 ≤ 64
told_low [] [] n few h = omega arith
told_low (admin ∷ admins) (version ∷ told) zero few h = let high = h.0.1 in let most = few.0 in omega (arith, high, most)
told_low (admin ∷ admins) (version ∷ told) (suc n) few h = told_low admins told n few.1 h.1
told_low [] (version ∷ told) n few h = absurd h
told_low (admin ∷ admins) [] n few h = absurd h

-- what was told of an administrator of the scenario is what was read
told_read : (admins : List Admin) (told : List Version) (n : ℕ) → AreVersionsOf admins told → n < length admins → option_map_or (λ (version : Version). version.0) (slice_get told n) 0 ≡ (unwrap_or (slice_get told n) (record { 0 = 0 })).0
told_read [] told n h within = absurd (omega (arith, within))
told_read (admin ∷ admins) [] n h within = absurd h
told_read (admin ∷ admins) (version ∷ told) zero h within = refl
told_read (admin ∷ admins) (version ∷ told) (suc n) h within = told_read admins told n h.1 (omega (arith, within))

not_above_by : (global : Bool) (version most : ℕ) → (global ≡ true → version ≤ most) → (not global || nat_le version most) ≡ true
not_above_by true version most h = le-leb version most (h refl)
not_above_by false version most h = refl

not_above : (sc : Scenario) (reply : NewestReply) (sent : ℕ) (levels : List Level) (verdict : Verdict) → AreVersions sc reply.newest → IsAdmin sc verdict.admin → verdict.version.0 ≤ (version_for reply.newest verdict.admin).0
    → is_not_above levels (Some (reading_of reply sent)) verdict ≡ true
not_above sc reply sent levels verdict sound exists up_to =
    let same = told_read sc.admins reply.newest verdict.admin.0 sound exists in
    not_above_by (is_of_global levels verdict) verdict.version.0 (newest_in (Some (reading_of reply sent)) verdict.admin) (λ global. omega (arith, up_to, same))

-- an awaited reading of the master is one that its round is judged with
pub reading_fits : (sc : Scenario) (facts : List Fact) (place : ℕ) (txn : TxnId) (over : Span) (round : Round) (reply : NewestReply) (sent : ℕ) (declared : Transaction) → IsValid sc → slice_get sc.txns txn.0 ≡ Some declared → reply.txn ≡ txn
    → AreVersions sc reply.newest → NewestFits sc facts place sent reply → IsReadIn sent reply.newest round → RoundFits sc facts place txn over round → ReadingFits sc facts place txn round (reading_of reply sent)
reading_fits sc facts place txn over round reply sent declared valid found own sound fits read h =
    record {
      newest_is = λ admin exists. told_read sc.admins reply.newest admin.0 sound exists ∙ fits.newest_is admin exists;
      low = λ admin. let low = told_low sc.admins reply.newest admin.0 valid.libraries sound in omega (arith, low);
      begun = subst (λ (t : TxnId). was_submitted t sent facts ≡ true) own fits.begun;
      past = fits.past;
      after_mets = read.mets;
      above = all_from_each (λ (verdict : Verdict). IsOwnProof sc declared verdict × (verdict.version.0 ≤ (version_for reply.newest verdict.admin).0)) (is_not_above round.levels (Some (reading_of reply sent)))
          (λ verdict k. not_above sc reply sent round.levels verdict sound k.0.exists k.1) (proofs_in round.targets)
          (each_two (IsOwnProof sc declared) (λ (verdict : Verdict). verdict.version.0 ≤ (version_for reply.newest verdict.admin).0) (proofs_in round.targets) (own_proofs sc facts place txn over round declared valid found h) read.up_to);
    }

-- ---- the proofs of a round in which no server is out of date

-- each has the target of its administrator
pub at_targets : (round : Round) (reading : Option Reading) → list_any (is_behind round reading) round.targets ≡ false → Each (λ (verdict : Verdict). is_at (target_in round reading) verdict ≡ true) (proofs_in round.targets)
at_targets round reading current =
    let f : AdminId → ℕ = target_in round reading in
    each_flat_map (λ (target : Target). is_behind round reading target ≡ false) (λ (verdict : Verdict). is_at f verdict ≡ true) verdicts_in
    (λ target e. each_as (λ (verdict : Verdict). not (f verdict.admin == verdict.version.0) ≡ false) (λ (verdict : Verdict). is_at f verdict ≡ true) (λ verdict same. not-false (is_at f verdict) same) (verdicts_in target)
    (each_failing (λ (verdict : Verdict). not (f verdict.admin == verdict.version.0)) (verdicts_in target) e))
    round.targets (each_failing (is_behind round reading) round.targets current)

-- under global consistency that is the newest at the reading
newest_of : (sc : Scenario) (facts : List Fact) (place : ℕ) (txn : TxnId) (round : Round) (reading : Reading) (declared : Transaction) (verdict : Verdict) → LevelsFit sc declared round.levels → IsAdmin sc verdict.admin
    → ReadingFits sc facts place txn round reading → is_at (target_in round (Some reading)) verdict ≡ true → is_global (level_of declared verdict.admin) ≡ true → verdict.version.0 ≡ newest sc verdict.admin reading.place facts
newest_of sc facts place txn round reading declared verdict fit exists r at global =
    sym (eqb-true (target_in round (Some reading) verdict.admin) verdict.version.0 at)
    ∙ (ap (λ (b : Bool). cond b (newest_in (Some reading) verdict.admin) (greatest verdict.admin (proofs_in round.targets))) (fit verdict.admin exists ∙ global)
    ∙ r.newest_is verdict.admin exists)

pub meets_by : (sc : Scenario) (facts : List Fact) (declared : Transaction) (read : ℕ) (verdict : Verdict) (b : Bool) → is_global (level_of declared verdict.admin) ≡ b → (b ≡ true → verdict.version.0 ≡ newest sc verdict.admin read facts)
    → verdict.place < read → (if b then is_newest_proof sc read facts verdict else nat_lt verdict.place read) ≡ true
meets_by sc facts declared read verdict true e new past = and_from _ _ (eq-eqb verdict.version.0 (newest sc verdict.admin read facts) (new refl)) (lt-ltb verdict.place read past)
meets_by sc facts declared read verdict false e new past = lt-ltb verdict.place read past

-- so the proofs of a round that is judged true meet the reading
round_meets : (sc : Scenario) (facts : List Fact) (place : ℕ) (txn : TxnId) (over : Span) (round : Round) (reading : Reading) (declared : Transaction) → IsValid sc → slice_get sc.txns txn.0 ≡ Some declared
    → RoundFits sc facts place txn over round → ReadingFits sc facts place txn round reading → AreEarlier reading.place (proofs_in round.targets) → judge round (Some reading) ≡ judged.AllTrue
    → list_all (meets_reading sc declared reading.place facts) (by_query (proofs_in round.targets)) ≡ true
round_meets sc facts place txn over round reading declared valid found h r earlier e =
    let f : AdminId → ℕ = target_in round (Some reading) in
    all_by_query (meets_reading sc declared reading.place facts) (proofs_in round.targets)
    (all_from_each (λ (verdict : Verdict). IsOwnProof sc declared verdict × ((is_at f verdict ≡ true) × (verdict.place < reading.place))) (meets_reading sc declared reading.place facts)
    (λ verdict k. meets_by sc facts declared reading.place verdict (is_global (level_of declared verdict.admin)) refl
    (λ global. newest_of sc facts place txn round reading declared verdict (h.levels declared found) k.0.exists r k.1.0 global) k.1.1) (proofs_in round.targets)
    (each_two (IsOwnProof sc declared) (λ (verdict : Verdict). (is_at f verdict ≡ true) × (verdict.place < reading.place)) (proofs_in round.targets) (own_proofs sc facts place txn over round declared valid found h)
    (each_two (λ (verdict : Verdict). is_at f verdict ≡ true) (λ (verdict : Verdict). verdict.place < reading.place) (proofs_in round.targets) (at_targets round (Some reading) (all_agree round (Some reading) e).current) earlier)))

read_by : (sc : Scenario) (facts : List Fact) (place : ℕ) (txn : TxnId) (over : Span) (round : Round) (reading : Option Reading) (declared : Transaction) → IsValid sc → slice_get sc.txns txn.0 ≡ Some declared
    → RoundFits sc facts place txn over round → JudgedFits sc facts place txn round reading → IfSome reading (λ (read : Reading). AreEarlier read.place (proofs_in round.targets)) → judge round reading ≡ judged.AllTrue
    → (if is_some reading then meets_readings sc declared (option_map place_of reading) facts (by_query (proofs_in round.targets)) else is_none (option_map place_of reading)) ≡ true
read_by sc facts place txn over round None declared valid found h r earlier e = refl
read_by sc facts place txn over round (Some reading) declared valid found h r earlier e = round_meets sc facts place txn over round reading declared valid found h r earlier e

-- and close an instance that is consistent, where the round was judged at a reading exactly if it reads the master
pub round_agrees : (sc : Scenario) (facts : List Fact) (place : ℕ) (txn : TxnId) (over : Span) (round : Round) (reading : Option Reading) (declared : Transaction) → IsValid sc → slice_get sc.txns txn.0 ≡ Some declared
    → RoundFits sc facts place txn over round → JudgedFits sc facts place txn round reading → IfSome reading (λ (read : Reading). AreEarlier read.place (proofs_in round.targets)) → is_some reading ≡ round.reads
    → judge round reading ≡ judged.AllTrue → is_consistent sc declared facts (record { reading = option_map place_of reading; proofs = by_query (proofs_in round.targets) }) ≡ true
round_agrees sc facts place txn over round reading declared valid found h r earlier reads e =
    let same : reads_master sc declared ≡ is_some reading = sym (reads ∙ h.reads declared found) in
    and_from _ _ (all_agree round reading e).one_version
    (ap (λ (b : Bool). if b then meets_readings sc declared (option_map place_of reading) facts (by_query (proofs_in round.targets)) else is_none (option_map place_of reading)) same
    ∙ read_by sc facts place txn over round reading declared valid found h r earlier e)

-- ---- a round that is judged false

-- under global consistency the version of the verdict was the newest at its place, or a later one
pub round_denies_newest : (sc : Scenario) (facts : List Fact) (place : ℕ) (txn : TxnId) (over : Span) (round : Round) (reading : Option Reading) (verdict : Verdict) (declared : Transaction) → IsValid sc → slice_get sc.txns txn.0 ≡ Some declared
    → RoundFits sc facts place txn over round → JudgedFits sc facts place txn round reading → IfSome reading (λ (read : Reading). AreEarlier read.place (proofs_in round.targets)) → is_some reading ≡ round.reads
    → judge round reading ≡ judged.False verdict → is_global (level_of declared verdict.admin) ≡ true → newest sc verdict.admin verdict.place facts ≤ verdict.version.0
round_denies_newest sc facts place txn over round reading verdict declared valid found h r earlier reads e global =
    let least = false_is_least round reading verdict e in
    let own : IsOwnProof sc declared verdict = each_get (IsOwnProof sc declared) (proofs_in round.targets) least.place verdict (own_proofs sc facts place txn over round declared valid found h) least.there in
    let at : is_at (target_in round reading) verdict ≡ true =
    each_get (λ (other : Verdict). is_at (target_in round reading) other ≡ true) (proofs_in round.targets) least.place verdict (at_targets round reading least.current) least.there in
    by_reading reading r earlier reads at own least.place least.there
  where
    by_reading : (read : Option Reading) → JudgedFits sc facts place txn round read → IfSome read (λ (one : Reading). AreEarlier one.place (proofs_in round.targets)) → is_some read ≡ round.reads → is_at (target_in round read) verdict ≡ true
        → IsOwnProof sc declared verdict → (n : ℕ) → slice_get (proofs_in round.targets) n ≡ Some verdict → newest sc verdict.admin verdict.place facts ≤ verdict.version.0
    by_reading None fits before none at own n there =
        let unread : reads_master sc declared ≡ false = sym (none ∙ h.reads declared found) in
        let view : is_global_at round.levels verdict.admin ≡ false = unread_view sc declared round.levels verdict (h.levels declared found) unread own in
        let both : is_global (level_of declared verdict.admin) ≡ false = sym (h.levels declared found verdict.admin own.exists) ∙ view in
        absurd (both_ways (is_global (level_of declared verdict.admin)) both global)
    by_reading (Some read) fits before some at own n there =
        let new : verdict.version.0 ≡ newest sc verdict.admin read.place facts = newest_of sc facts place txn round read declared verdict (h.levels declared found) own.exists fits at global in
        let past : verdict.place < read.place = each_get (λ (other : Verdict). other.place < read.place) (proofs_in round.targets) n verdict before there in
        let rises = count_rises (is_publication verdict.admin) verdict.place read.place facts (omega (arith, past)) in
        omega (arith, new, rises)
