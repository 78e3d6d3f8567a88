-- Trust, the proofs that an incremental transaction has gathered, at a reading of the master after a query or after the votes: where none is
-- older they are an instance, and otherwise the transaction aborts for the newer version.
use Rattle.std.proofs.Common.{Bool, IfSome, List, None, Option, Some, [], ap, arith, false, length, min, refl, replicate, slice_get, subst, sym, true, ℕ, if◌then◌else◌, ◌++◌, ◌+◌, ◌-◌, ◌<◌, ◌==◌, ◌∙◌, ◌∷◌, ◌≡◌, ◌≤◌}
use Rattle.std.proofs.lemmas.Bool.{and_from, both_ways, eqb-true, le-leb, lt-ltb, or_left}
use Rattle.std.proofs.lemmas.List.FromFn.{length-range_with_len}
use Rattle.std.proofs.lemmas.Option.{same_Some}
use Rattle.std.specs.List.{list_all}
use Rattle.tp_types.proofs.EachLemmas.{each_append, each_as, each_get, each_two}
use Rattle.tp_types.specs.Each.{Each}
use Rattle.tp_model.specs.Causes.{is_newer_shown, is_own_admin, may_meet_newer}
use Rattle.tp_model.specs.Demand.{count_of, is_incremental, is_round_count, reads_later}
use Rattle.tp_model.specs.Facts.{was_submitted}
use Rattle.tp_model.specs.Levels.{is_global, level_of, reads_master}
use Rattle.tp_model.specs.Limits.{admins_limit}
use Rattle.tp_model.specs.Versions.{is_consistent, is_publication, meets_reading, meets_readings, newest}
use Rattle.tp_model.specs.Words.{AdminId, Cause, CommitRecord, Fact, Instance, Mail, Newer, NewestReply, Scenario, Scheme, Transaction, TxnId, Verdict, Version}
use Rattle.tp_model.specs.Words.actor
use Rattle.tp_model.specs.Words.body
use Rattle.tp_model.specs.Words.level
use Rattle.tp_model.specs.Words.scheme
use Rattle.tp_coord.proofs.Rows.{AfterQuery, AfterVotes, IsProbing, IsProofsReading, gains_instances, with_gained}
use Rattle.tp_coord.specs.Row.{commit_record, instances_with, older_than, reading_of}
use Rattle.tp_coord.specs.State.{Coordinator}
use Rattle.tp_coord.specs.declared.coordinator.Phase.{Phase}
use Rattle.tp_coord.specs.declared.coordinator.Phase.TheVariants as phase
use Rattle.tp_machine.specs.Named.{IsAdmin, IsTxn}
use Rattle.tp_offices.specs.Master.{version_for}
use Rattle.tp_round.proofs.LevelLemmas.{level_for_each}
use Rattle.tp_scheme.proofs.BelowLemmas.{finds_the_first_below, none_where_none_is_below}
use Rattle.tp_scheme.specs.Laws.{IsNotBelow}
use Rattle.tp_scheme.specs.declared.moves.Point.{Point}
use Rattle.tp_scheme.specs.declared.moves.Point.TheVariants as point
use Rattle.tp_runs.proofs.basics.Facts.{all_from_each}
use Rattle.tp_runs.proofs.basics.Homes.{HaveHomes, next_is}
use Rattle.tp_runs.proofs.basics.Ids.{same_txn_from}
use Rattle.tp_runs.proofs.basics.Levels.{has_view, reads_unviewed, viewed_where}
use Rattle.tp_runs.proofs.basics.Phases.{before_query, is_undecided}
use Rattle.tp_runs.proofs.basics.Turns.{AreFew, IsEarlierInstance, IsReadAfter, IsTimely, NewestNow, low_query, number_within, query_count, turn_rises}
use Rattle.tp_runs.proofs.ids.Valid.{IsValid}
use Rattle.tp_runs.proofs.trust.Coordinator.{CauseFits, CommitFits, CoordinatorFits, IsHeard, PresentMail, declared_there, phase_fits, turn_low}
use Rattle.tp_runs.proofs.trust.Fit.{BodyFits, NewestFits, Right, count_rises}
use Rattle.tp_runs.proofs.trust.Fronts.{AreNewAfter, AreReadBefore, front_closed, next_front}
use Rattle.tp_runs.proofs.trust.Gathering.{ArePinned, length_numbers, pinned_agree}
use Rattle.tp_runs.proofs.trust.Instances.{IsNext, IsSoFar, IsSoFarIn, IsTimelyReading, IsTrustedCommit, IsTrustedInstance, closed_before, closed_in, demand_met, gathered_before, gathered_in, so_far_on}
use Rattle.tp_runs.proofs.trust.Phases.{IsMadeAfter, Suits}
use Rattle.tp_runs.proofs.trust.Points.{AfterRead, IsProbed, closed_later, gathered_past}
use Rattle.tp_runs.proofs.trust.Queries.{PassedStands, counted_is, nothing_new}
use Rattle.tp_runs.proofs.trust.RoundLevels.{IsOwnProof, own_proof}
use Rattle.tp_runs.proofs.trust.RoundReadings.{meets_by}
use Rattle.tp_runs.specs.Sound.{IsQuery, IsSoundBody, IsSoundNewest}

-- ---- a reading

-- a coordinator that awaits a reading for the proofs so far, and what is told
record ReadingTrusted (sc : Scenario) (facts : List Fact) (place : ℕ) (c : Coordinator) (reply : NewestReply) (sent : ℕ) : Type 0 where
  declared : Transaction
  found : slice_get sc.txns c.txn.0 ≡ Some declared
  probed : IsProbed declared.scheme (reads_master sc declared)
  newest_is : (admin : AdminId) → IsAdmin sc admin → (version_for reply.newest admin).0 ≡ newest sc admin sent facts
  timely : IsTimelyReading facts place c.txn sent
  read : IsReadAfter sent reply.newest c.instances c.gathered
  undecided : is_undecided c.phase ≡ true

-- the phase awaits one
abbrev AwaitsReading : Phase → Type 0
AwaitsReading awaited = (c : Coordinator) (sent : ℕ) (reply : NewestReply) → NewestNow c awaited sent reply → IsReadAfter sent reply.newest c.instances c.gathered

reading_for : (sc : Scenario) (facts : List Fact) (place : ℕ) (c : Coordinator) (mail : Mail) (reply : NewestReply) (awaited : Phase) → IsHeard sc facts place c mail → mail.letter.body ≡ body.Newest reply → (reply.turn == c.turn) ≡ true
    → c.phase ≡ awaited → is_undecided awaited ≡ true → AwaitsReading awaited → ((declared : Transaction) → slice_get sc.txns c.txn.0 ≡ Some declared → IsProbed declared.scheme (reads_master sc declared))
    → ReadingTrusted sc facts place c reply mail.sent
reading_for sc facts place c mail reply awaited m said present e undecided awaits probed =
    let sound : IsSoundNewest sc (actor.Coordinator c.txn) reply = subst (IsSoundBody sc (actor.Coordinator c.txn)) said m.sound in
    let same : c.txn ≡ reply.txn = sym (same_txn_from c.txn reply.txn sound.goes_to) in
    let there = declared_there sc c.txn (subst (IsTxn sc) (sym same) sound.txn) in
    let fits : NewestFits sc facts place mail.sent reply = subst (BodyFits sc facts place mail.sent) said m.fits in
    let timely : IsTimely sc c mail.sent reply.turn (body.Newest reply) = subst (PresentMail sc c mail.sent) said m.present (sym same) in
    let unsure : is_undecided c.phase ≡ true = ap is_undecided e ∙ undecided in
    let now : NewestNow c c.phase mail.sent reply = (timely unsure).now (eqb-true reply.turn c.turn present) in
    record {
      declared = there.0;
      found = there.1;
      probed = probed there.0 there.1;
      newest_is = fits.newest_is;
      timely = record { begun = subst (λ (txn : TxnId). was_submitted txn mail.sent facts ≡ true) (sym same) fits.begun; past = fits.past };
      read = awaits c mail.sent reply (subst (λ (p : Phase). NewestNow c p mail.sent reply) e now);
      undecided = unsure;
    }

probing_trusted : (sc : Scenario) (facts : List Fact) (place : ℕ) (c : Coordinator) (mail : Mail) (reply : NewestReply) (at : Point) (awaited : Phase) → c.phase ≡ awaited → IsProbing awaited at → CoordinatorFits sc facts place c
    → IsHeard sc facts place c mail → mail.letter.body ≡ body.Newest reply → (reply.turn == c.turn) ≡ true → ReadingTrusted sc facts place c reply mail.sent
probing_trusted sc facts place c mail reply _ _ e (AfterQuery number) h m said present =
    reading_for sc facts place c mail reply (phase.Probing number) m said present e refl (λ other sent told k. k) (λ declared found. subst (Suits declared.scheme (reads_master sc declared)) e (h.suits declared found))
probing_trusted sc facts place c mail reply _ _ e AfterVotes h m said present =
    reading_for sc facts place c mail reply phase.VoteProbing m said present e refl (λ other sent told k. k) (λ declared found. subst (Suits declared.scheme (reads_master sc declared)) e (h.suits declared found))

proofs_reading_trusted : (sc : Scenario) (facts : List Fact) (place : ℕ) (c : Coordinator) (mail : Mail) (reply : NewestReply) (at : Point) → CoordinatorFits sc facts place c → IsHeard sc facts place c mail → IsProofsReading c mail reply at
    → ReadingTrusted sc facts place c reply mail.sent
proofs_reading_trusted sc facts place c mail reply at h m k = probing_trusted sc facts place c mail reply at c.phase refl k.probing h m k.said_is k.present

-- ---- none is older

-- where the master is read, each administrator of the transaction is under global consistency
global_where : (sc : Scenario) (declared : Transaction) (admin : AdminId) → reads_master sc declared ≡ true → is_own_admin sc admin declared ≡ true → is_global (level_of declared admin) ≡ true
global_where sc declared admin reads own = by_level (is_global (level_of declared admin)) refl
  where
    by_level : (b : Bool) → is_global (level_of declared admin) ≡ b → is_global (level_of declared admin) ≡ true
    by_level true e = e
    by_level false e =
        let view : has_view sc declared declared.queries ≡ true = viewed_where sc declared admin declared.queries own e in
        absurd (both_ways (has_view sc declared declared.queries) (reads_unviewed sc declared reads) view)

-- a proof that is not below the newest, and not above it, meets the reading
proof_meets : (sc : Scenario) (facts : List Fact) (place : ℕ) (c : Coordinator) (reply : NewestReply) (sent : ℕ) (declared : Transaction) (verdict : Verdict) → IsValid sc → reads_master sc declared ≡ true
    → ((admin : AdminId) → IsAdmin sc admin → (version_for reply.newest admin).0 ≡ newest sc admin sent facts) → IsOwnProof sc declared verdict → verdict.version.0 ≤ (version_for reply.newest verdict.admin).0
    → IsNotBelow (replicate admins_limit level.Global) (reading_of reply sent) verdict → verdict.place < sent → meets_reading sc declared sent facts verdict ≡ true
proof_meets sc facts place c reply sent declared verdict valid reads newest_is own up_to not_below earlier =
    let few = valid.few_admins in
    let exists = own.exists in
    let low : (version_for reply.newest verdict.admin).0 ≤ verdict.version.0 = not_below (level_for_each level.Global verdict.admin (omega (arith, exists, few))) in
    let is = newest_is verdict.admin own.exists in
    meets_by sc facts declared sent verdict (is_global (level_of declared verdict.admin)) refl (λ global. omega (arith, low, up_to, is)) earlier

-- so all of them agree at the reading
gathered_agree : (sc : Scenario) (facts : List Fact) (place : ℕ) (c : Coordinator) (reply : NewestReply) (sent : ℕ) (t : ReadingTrusted sc facts place c reply sent) → IsValid sc → Each (Right sc facts place c.txn) c.gathered → ArePinned c.gathered
    → older_than c (reading_of reply sent) ≡ None → is_consistent sc t.declared facts (record { reading = Some sent; proofs = c.gathered }) ≡ true
gathered_agree sc facts place c reply sent t valid right pins none =
    let levels = replicate admins_limit level.Global in
    let reads = t.probed.reads_it in
    let not_below : Each (IsNotBelow levels (reading_of reply sent)) c.gathered = (none_where_none_is_below levels c.gathered (reading_of reply sent)).0 none in
    let own : Each (IsOwnProof sc t.declared) c.gathered =
    each_as (Right sc facts place c.txn) (IsOwnProof sc t.declared) (λ verdict r. own_proof sc facts place c.txn t.declared verdict valid t.found r) c.gathered right in
    let meet : list_all (meets_reading sc t.declared sent facts) c.gathered ≡ true =
    all_from_each
    (λ (verdict : Verdict). IsOwnProof sc t.declared verdict × ((verdict.version.0 ≤ (version_for reply.newest verdict.admin).0) × (IsNotBelow levels (reading_of reply sent) verdict × (verdict.place < sent))))
    (meets_reading sc t.declared sent facts)
    (λ verdict k. proof_meets sc facts place c reply sent t.declared verdict valid reads t.newest_is k.0 k.1.0 k.1.1.0 k.1.1.1) c.gathered
    (each_two (IsOwnProof sc t.declared) (λ (verdict : Verdict). (verdict.version.0 ≤ (version_for reply.newest verdict.admin).0) × (IsNotBelow levels (reading_of reply sent) verdict × (verdict.place < sent))) c.gathered own
    (each_two (λ (verdict : Verdict). verdict.version.0 ≤ (version_for reply.newest verdict.admin).0) (λ (verdict : Verdict). IsNotBelow levels (reading_of reply sent) verdict × (verdict.place < sent)) c.gathered t.read.up_to
    (each_two (IsNotBelow levels (reading_of reply sent)) (λ (verdict : Verdict). verdict.place < sent) c.gathered not_below t.read.above.gathered_before))) in
    and_from _ _ (pinned_agree c.gathered pins)
    (ap (λ (b : Bool). if b then meets_readings sc t.declared (Some sent) facts c.gathered else false) reads ∙ meet)

-- the reading came after all of before
reads_after : (instances : List Instance) (sent : ℕ) → Each (IsEarlierInstance sent) instances → AreReadBefore instances (Some sent)
reads_after instances sent h = each_as (IsEarlierInstance sent) (λ (one : Instance). reads_later one.reading (Some sent) ≡ true) (λ one earlier. later_by one.reading earlier.reading) instances h
  where
    later_by : (reading : Option ℕ) → IfSome reading (λ (read : ℕ). read < sent) → reads_later reading (Some sent) ≡ true
    later_by None k = refl
    later_by (Some read) k = lt-ltb read sent k

-- what is closed before a phase of such a transaction, which has gathered as much as it says
probed_before : (sc : Scenario) (facts : List Fact) (place : ℕ) (c : Coordinator) (declared : Transaction) (awaited : Phase) → declared.scheme ≡ scheme.Incremental → IsSoFarIn sc facts place c.txn declared awaited c.instances c.gathered
    → IsSoFar sc facts place c.txn declared (closed_before (length declared.queries) awaited) (gathered_before (length declared.queries) awaited) c.instances c.gathered
probed_before sc facts place c declared awaited incremental h =
    so_far_on sc facts place c.txn declared _ _ _ _ c.instances c.gathered (ap (λ (s : Scheme). closed_in s (length declared.queries) awaited) incremental) (ap (λ (s : Scheme). gathered_in s (length declared.queries) awaited) incremental) h

phase_so_far : (sc : Scenario) (facts : List Fact) (place : ℕ) (c : Coordinator) (awaited : Phase) (declared : Transaction) → CoordinatorFits sc facts place c → c.phase ≡ awaited → is_undecided c.phase ≡ true → slice_get sc.txns c.txn.0 ≡ Some declared
    → IsSoFarIn sc facts place c.txn declared awaited c.instances c.gathered
phase_so_far sc facts place c awaited declared h e undecided found = subst (λ (p : Phase). IsSoFarIn sc facts place c.txn declared p c.instances c.gathered) e (h.so_far undecided declared found)

-- after a query the instance of all proofs so far is closed
pub read_stands : (sc : Scenario) (facts : List Fact) (place : ℕ) (c : Coordinator) (mail : Mail) (reply : NewestReply) (number : ℕ) → AreFew sc → HaveHomes sc → IsValid sc → IsQuery sc c.txn number → CoordinatorFits sc facts place c
    → IsHeard sc facts place c mail → c.phase ≡ phase.Probing number → IsProofsReading c mail reply (point.Read number) → older_than c (reading_of reply mail.sent) ≡ None
    → PassedStands sc facts place c (gains_instances c (instances_with c (Some mail.sent) c.gathered)) (point.Read number) number
read_stands sc facts place c mail reply number few homes valid query h m e k none =
    let t = proofs_reading_trusted sc facts place c mail reply (point.Read number) h m k in
    let declared = t.declared in
    let queries = length declared.queries in
    let incremental = t.probed.incremental in
    let next : Instance = record { reading = Some mail.sent; proofs = c.gathered } in
    let low : c.turn ≤ before_query number + 3 = turn_low sc facts place c (phase.Probing number) h e in
    let within = number_within sc c.txn number query.asked query.asked_is in
    let first = within.0 in
    let last = within.1 in
    let most : number ≤ queries = subst (λ (n : ℕ). number ≤ n) (counted_is sc c.txn declared t.found) last in
    let was : IsSoFar sc facts place c.txn declared (number - 1) number c.instances c.gathered = probed_before sc facts place c declared (phase.Probing number) incremental (phase_so_far sc facts place c (phase.Probing number) declared h e t.undecided t.found) in
    let this : number - 1 + 1 ≡ number = omega (arith, first) in
    let back : number ≡ number - 1 + 1 = omega (arith, first) in
    let made : AreNewAfter c.instances c.gathered = subst (IsMadeAfter c.instances c.gathered) e h.made_after in
    let above = h.above t.undecided in
    let kept : IsSoFar sc facts place c.txn declared number number (c.instances ++ next ∷ []) c.gathered =
    so_far_on sc facts place c.txn declared _ _ _ _ (c.instances ++ next ∷ []) c.gathered this this
    (front_closed sc facts place c.txn declared (number - 1) c.instances c.gathered (Some mail.sent) incremental (omega (arith, first, most)) (gathered_agree sc facts place c reply mail.sent t valid was.right was.pins none) t.timely made
    (reads_after c.instances mail.sent t.read.above.closed) (so_far_on sc facts place c.txn declared _ _ _ _ c.instances c.gathered refl back was)) in
    let many : length c.gathered ≡ length (c.instances ++ next ∷ []) = sym (length_numbers c.gathered) ∙ (ap length kept.numbers ∙ (length-range_with_len 1 number ∙ sym kept.count)) in
    record {
      past = AfterRead number;
      submitted = phase_fits sc facts place c (phase.Probing number) h e;
      declared = declared;
      found = t.found;
      asked = query.asked;
      asked_is = query.asked_is;
      first = first;
      last = last;
      further = next_is sc c number query.asked homes query.asked_is;
      low = omega (arith, low);
      rises = turn_rises c (low_query (query_count sc c.txn) number 3 c.turn (few c.txn) (omega (arith, last)) (omega arith) low);
      undecided = t.undecided;
      so_far = so_far_on sc facts place c.txn declared _ _ _ _ (c.instances ++ next ∷ []) c.gathered (sym (ap (λ (s : Scheme). closed_later s number) incremental)) (sym (ap (λ (s : Scheme). gathered_past s number) incremental)) kept;
      above = record {
        closed = each_append (IsEarlierInstance place) c.instances (next ∷ []) above.closed (record { proofs = above.gathered_before; reading = t.timely.past }, tt);
        gathered_before = above.gathered_before;
      };
      new_after = nothing_new (c.instances ++ next ∷ []) c.gathered (omega (arith, many));
    }

-- ---- the last instance

pub rounds_none : (sc : Scenario) (declared : Transaction) → declared.scheme ≡ scheme.Incremental → is_round_count sc declared 0 ≡ true
rounds_none sc declared incremental = ap (λ (s : Scheme). if is_incremental s then true else false) incremental

least_of : (queries : ℕ) → min (queries + 1) queries ≡ queries
least_of queries = omega arith

-- after the votes it is the last one, and the demand is met
pub vote_read_commit : (sc : Scenario) (facts : List Fact) (place : ℕ) (c : Coordinator) (mail : Mail) (reply : NewestReply) → IsValid sc → CoordinatorFits sc facts place c → IsHeard sc facts place c mail → c.phase ≡ phase.VoteProbing
    → IsProofsReading c mail reply point.VoteRead → older_than c (reading_of reply mail.sent) ≡ None
    → CommitFits sc facts place c.txn (commit_record (with_gained c (gains_instances c (instances_with c (Some mail.sent) c.gathered))) 0)
vote_read_commit sc facts place c mail reply valid h m e k none declared found =
    let t = proofs_reading_trusted sc facts place c mail reply point.VoteRead h m k in
    subst (λ (d : Transaction). IsTrustedCommit sc facts place c.txn d committed) (same_Some t.declared declared (sym t.found ∙ found)) (met t)
  where
    committed : CommitRecord
    committed = commit_record (with_gained c (gains_instances c (instances_with c (Some mail.sent) c.gathered))) 0

    met : (t : ReadingTrusted sc facts place c reply mail.sent) → IsTrustedCommit sc facts place c.txn t.declared committed
    met t =
        let queries = length t.declared.queries in
        let incremental = t.probed.incremental in
        let next : Instance = record { reading = Some mail.sent; proofs = c.gathered } in
        let was : IsSoFar sc facts place c.txn t.declared queries queries c.instances c.gathered = probed_before sc facts place c t.declared phase.VoteProbing incremental (phase_so_far sc facts place c phase.VoteProbing t.declared h e t.undecided t.found) in
        let many : length c.gathered ≡ length c.instances = sym (length_numbers c.gathered) ∙ (ap length was.numbers ∙ (length-range_with_len 1 queries ∙ sym was.count)) in
        let made : AreNewAfter c.instances c.gathered = nothing_new c.instances c.gathered (omega (arith, many)) in
        let agrees = gathered_agree sc facts place c reply mail.sent t valid was.right was.pins none in
        let is : IsNext sc facts t.declared c.instances next =
        next_front sc facts place c.txn t.declared queries queries c.instances c.gathered (Some mail.sent) incremental (least_of queries) (omega arith) agrees made (reads_after c.instances mail.sent t.read.above.closed) was in
        let all : length c.instances + 1 ≡ count_of t.declared.scheme (reads_master sc t.declared) queries =
        ap (λ (n : ℕ). n + 1) was.count ∙ sym (ap (λ (s : Scheme). count_of s (reads_master sc t.declared) queries) incremental ∙ ap (λ (b : Bool). count_of scheme.Incremental b queries) t.probed.reads_it) in
        record {
          demanded = demand_met sc facts t.declared committed c.instances next refl all was.demanded was.follow is.demanded is.follows_last (rounds_none sc t.declared incremental);
          trusted = each_append (IsTrustedInstance sc facts place c.txn) c.instances (next ∷ []) was.trusted (record { right = was.right; have_rules = was.have_rules; timely = t.timely }, tt);
        }

-- ---- one is older

-- a version that is older than one that was published is shown
pub newer_shown : (sc : Scenario) (facts : List Fact) (place : ℕ) (declared : Transaction) (newer : Newer) → declared.scheme ≡ scheme.Incremental → newer.used.0 < newer.found.0 → newer.found.0 ≤ newest sc newer.admin place facts
    → is_own_admin sc newer.admin declared ≡ true → may_meet_newer sc newer.admin declared ≡ true → is_newer_shown sc place facts newer declared ≡ true
newer_shown sc facts place declared newer incremental above published own may =
    and_from _ _ (and_from _ _ (and_from _ _ (and_from _ _ (ap is_incremental incremental) (lt-ltb newer.used.0 newer.found.0 above)) (le-leb newer.found.0 (newest sc newer.admin place facts) published)) own) may

pub older_shown : (sc : Scenario) (facts : List Fact) (place : ℕ) (c : Coordinator) (mail : Mail) (reply : NewestReply) (at : Point) (why : Cause) → IsValid sc → CoordinatorFits sc facts place c → IsHeard sc facts place c mail
    → IsProofsReading c mail reply at → older_than c (reading_of reply mail.sent) ≡ Some why → CauseFits sc facts place c.txn why
older_shown sc facts place c mail reply at why valid h m k older =
    let t = proofs_reading_trusted sc facts place c mail reply at h m k in
    let found_one = finds_the_first_below (replicate admins_limit level.Global) c.gathered (reading_of reply mail.sent) why older in
    let newer = found_one.0 in
    let is = found_one.2 in
    subst (CauseFits sc facts place c.txn) (sym found_one.1)
    (λ declared found.
    let same : t.declared ≡ declared = same_Some t.declared declared (sym t.found ∙ found) in
    let right : Right sc facts place c.txn is.proof = each_get (Right sc facts place c.txn) c.gathered is.place is.proof (h.so_far t.undecided t.declared t.found).right is.kept in
    let own = own_proof sc facts place c.txn t.declared is.proof valid t.found right in
    let past = t.timely.past in
    let told : newer.found.0 ≡ newest sc is.proof.admin mail.sent facts = ap (λ (v : Version). v.0) is.found ∙ t.newest_is is.proof.admin own.exists in
    let rises = count_rises (is_publication is.proof.admin) mail.sent place facts (omega (arith, past)) in
    let own_one : is_own_admin sc newer.admin t.declared ≡ true = subst (λ (a : AdminId). is_own_admin sc a t.declared ≡ true) (sym is.admin) own.own in
    let low : newer.found.0 ≤ newest sc newer.admin place facts = subst (λ (a : AdminId). newer.found.0 ≤ newest sc a place facts) (sym is.admin) (omega (arith, told, rises)) in
    subst (λ (d : Transaction). is_newer_shown sc place facts newer d ≡ true) same
    (newer_shown sc facts place t.declared newer t.probed.incremental is.below low own_one
    (or_left (is_global (level_of t.declared newer.admin)) _ (global_where sc t.declared newer.admin t.probed.reads_it own_one))))
