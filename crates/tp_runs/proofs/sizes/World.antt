-- Sizes over every list of steps: each record that an actor forces says few things.
use Rattle.std.proofs.Common.{Bool, IfSome, List, None, Option, Some, [], ap, arith, false, is_none, length, nat_le, not, option_and_then, option_map, refl, slice_get, slice_set, subst, suc, sym, true, zero, ℕ, ⊎_elim, if◌then◌else◌, ◌&&◌, ◌+◌, ◌<◌, ◌==◌, ◌∙◌, ◌∷◌, ◌≡◌, ◌≤◌}
use Rattle.std.proofs.lemmas.Bool.{and_parts, cases_lt, eqb-true}
use Rattle.std.proofs.lemmas.Bool.Decides.{nat_tests}
use Rattle.std.proofs.lemmas.List.{length-map, length_push}
use Rattle.std.proofs.lemmas.List.FromFn.{length-range_with_len}
use Rattle.std.specs.Cmp.Lexicographic.{pointwise}
use Rattle.std.specs.List.{AllByRecursion, IsDistinct, list_all, list_any, range_with_len}
use Rattle.std.specs.Option.{option_map_or}
use Rattle.std.specs.Prelude.{eqb}
use Rattle.tp_types.proofs.EachLemmas.{at_made, at_set, each_get, each_more, missing}
use Rattle.tp_types.specs.Each.{Each, EachAt}
use Rattle.tp_types.specs.Effect.{Effect}
use Rattle.tp_model.specs.Causes.{are_met_on, are_rounds_shown, is_met_shown}
use Rattle.tp_model.specs.Demand.{agrees_at, are_instances, count_of, each_follows, first_of, is_incremental, is_instance, is_over, is_round_count, many_of}
use Rattle.tp_model.specs.Levels.{reads_master}
use Rattle.tp_model.specs.Limits.{has_count, is_from_to}
use Rattle.tp_model.specs.Valid.{has_valid_creds, is_name_of_server, is_valid_query, is_valid_txn}
use Rattle.tp_model.specs.Versions.{is_consistent}
use Rattle.tp_model.specs.Words.{CommitRecord, Decision, Deed, Fact, Instance, Mail, Met, PrepareRequest, Record, Scenario, Scheme, ServerId, Step, Transaction, TxnId, Verdict}
use Rattle.tp_model.specs.Words.actor
use Rattle.tp_model.specs.Words.cause
use Rattle.tp_model.specs.Words.decision
use Rattle.tp_model.specs.Words.log
use Rattle.tp_model.specs.Words.scheme
use Rattle.tp_coord.proofs.Rows.{coordinator_by, submit_by}
use Rattle.tp_coord.specs.Opened as coord_opened
use Rattle.tp_coord.specs.Row.{coordinator_row, submit_row}
use Rattle.tp_coord.specs.State.{Coordinator}
use Rattle.tp_machine.specs.Machine.{Machine, State, machine_after, opened_part, opening_state, refusal, with_age}
use Rattle.tp_actor_log.specs.Records.{log_with}
use Rattle.tp_machine.specs.Named.{IsStepOf, IsTxn}
use Rattle.tp_machine.specs.Parts.{Part}
use Rattle.tp_machine.specs.declared.actors.Actors.{Actors}
use Rattle.tp_server.proofs.Rows.{AreRightWaits, IsEvaluated, Stapled, Unstapled, server_by}
use Rattle.tp_server.specs.Opened as server_opened
use Rattle.tp_server.specs.Row.{entry_at, prepared_record, server_row}
use Rattle.tp_server.specs.State.{Server}
use Rattle.tp_server.specs.Verdicts.{verdict_on, with_wants}
use Rattle.tp_server.specs.declared.server.Entry.{Entry}
use Rattle.tp_runs.proofs.agreement.Steps.{own_txn}
use Rattle.tp_runs.proofs.agreement.World.{Agrees}
use Rattle.tp_runs.proofs.basics.Found.{of_some}
use Rattle.tp_runs.proofs.basics.Homes.{HaveHomes, decided_voted}
use Rattle.tp_server.proofs.Tables.{placed_within}
use Rattle.tp_runs.proofs.basics.Passed.{deeds_kept, passed_undecided, voted_not_ran}
use Rattle.tp_runs.proofs.basics.Phases.{is_undecided}
use Rattle.tp_runs.proofs.basics.Turns.{AreFew}
use Rattle.tp_runs.proofs.basics.Verdicts.{numbers_of}
use Rattle.tp_runs.proofs.ids.Valid.{IsValid}
use Rattle.tp_runs.proofs.known.World.{HasPlaces, Pairs, pair_of_up}
use Rattle.tp_runs.proofs.pairs.Actors.{asker_at, asker_by, asker_of, asker_up, pair_at, pair_up, site_of}
use Rattle.tp_runs.proofs.pairs.Fits.{AskerFits, Fits, IsFront}
use Rattle.tp_runs.proofs.pairs.Pair.{entry_held, held, number_of, numbers}
use Rattle.tp_runs.proofs.pairs.Site.{Site, count, here, past_last, upto, upto_same, with_number}
use Rattle.tp_runs.proofs.sizes.Counts.{IsSmallAtCoordinator, IsSmallAtServer, IsSmallCommit, IsSmallDecision, IsSmallInstance}
use Rattle.tp_runs.proofs.trust.Coordinator.{CommitFits, DecisionFits, RecordDecides}
use Rattle.tp_runs.proofs.trust.World.{Trusts}
use Rattle.tp_runs.proofs.trusted.Steps.{received_row_trusts}
use Rattle.tp_runs.proofs.walks.Steps.{Cases, IsCoordinatorUp, IsServerUp, KeepsUp, WaitRightly, WasSent, machine_after_by}
use Rattle.tp_runs.specs.Sound.{IsSound}

-- ---- the invariant

-- each record on each log says few things
pub record AreSmall (actors : Actors) : Type 0 where
  pub servers : EachAt (λ (n : ℕ) (part : Part Server). Each IsSmallAtServer part.log) actors.servers
  pub coordinators : EachAt (λ (n : ℕ) (part : Part Coordinator). Each IsSmallAtCoordinator part.log) actors.coordinators

abbrev pub Sizes : State → Type 0
Sizes w = AreSmall w.actors

more_kept : (P : Record → Type 0) (kept : List Record) (append : Option Record) → Each P kept → IfSome append P → Each P (log_with kept append)
more_kept P kept None h forces = h
more_kept P kept (Some forced) h forces = each_more P kept forced h forces

-- ---- a server acts

with_number_length : (b : Bool) (numbers : List ℕ) (number : ℕ) → length (with_number b numbers number) ≤ length numbers + 1
with_number_length true numbers number = omega (arith, length_push numbers number)
with_number_length false numbers number = omega arith

upto_length : (s : Site) (last : ℕ) → length (upto s last) ≤ last
upto_length s zero = omega arith
upto_length s (suc before) = omega (arith, with_number_length (here s (suc before)) (upto s before) (suc before), upto_length s before)

-- a transaction has at most as many queries at a server as it has at all
upto_few : (s : Site) (last : ℕ) → length (upto s last) ≤ count s
upto_few s last =
    ⊎_elim (λ (less : last < count s). omega (arith, less, upto_length s last))
    (λ (most : count s ≤ last).
    let same : upto s last ≡ upto s (count s) = upto_same s (count s) last most (λ number past below. past_last s number past) in
    omega (arith, ap length same, upto_length s (count s)))
    (cases_lt last (count s))

-- so the deeds of an entry are few
entry_few : (sc : Scenario) (w : State) (at : ServerId) (part : Part Server) (s : Server) (txn : TxnId) (declared : Transaction) (entry : Entry) → HaveHomes sc → Pairs sc w → IsServerUp w at part s
    → slice_get sc.txns txn.0 ≡ Some declared → entry_at s txn ≡ Some entry → length entry.deeds ≤ 16
entry_few sc w at part s txn declared entry homes pairs up there found =
    let site = site_of sc at.0 declared in
    let asker = asker_at w.actors.coordinators txn.0 at.0 in
    let fits : Fits site (pair_up txn asker s part.log) = subst (Fits site) (pair_of_up w.actors at part s txn up.found up.up) (pairs.fits txn at.0 declared there) in
    let holds : held (pair_up txn asker s part.log) ≡ Some (entry_held entry) = ap (option_map entry_held) found in
    let front : IsFront site entry.deeds = fits.server.front (entry_held entry) holds in
    let few : length declared.queries ≤ 16 = homes.few txn.0 declared there in
    omega (arith, ap length front.numbers_are, length-map entry.deeds number_of, upto_few site front.last, few)

-- what a server forces is small, as its entries have few deeds
abbrev pub ForcesSmallAtServer : Effect Server → Type 0
ForcesSmallAtServer effect = IfSome effect.reaction.append IsSmallAtServer

abbrev HasFewDeeds : Server → Type 0
HasFewDeeds s = (txn : TxnId) (entry : Entry) → entry_at s txn ≡ Some entry → length entry.deeds ≤ 16

server_row_small : (sc : Scenario) (s : Server) (mail : Mail) → AreRightWaits sc s → HasFewDeeds s → ForcesSmallAtServer (server_row sc s mail)
server_row_small sc s mail rightly few =
    server_by sc s mail ForcesSmallAtServer rightly
    (record {
      relocked = λ effect locks h. h;
      relearnt = λ effect admin pin h. h;
      ignored = tt;
      ran = λ q query entry value proof k r. tt;
      denied = λ q query entry value verdict k d. tt;
      outdated = λ q query entry value newer k e. tt;
      waited = λ q query entry value k. tt;
      died = λ q query entry value other k e. tt;
      restarted = λ q k. tt;
      answered = λ q entry given k. tt;
      voted = λ p entry verdicts k. vote_small p entry verdicts k.found k.evaluated;
      shown = λ v entry txn k. tt;
      lost_verdicts = λ v k. tt;
      voted_again = λ p entry cast k. tt;
      refused = λ p entry number value k. tt;
      lost = λ p k. tt;
      refused_again = λ p settled why k. tt;
      settled = λ d k. tt;
      acknowledged = λ d settled k. tt;
      pushed = λ push k. tt;
      resumed = λ effect grant q query entry value proof k r h. h;
      resumed_denied = λ effect grant q query entry value verdict k d h. h;
      resumed_outdated = λ effect grant q query entry value newer k e h. h;
    })
  where
    -- a vote has a verdict on each deed, or none
    vote_small : (p : PrepareRequest) (entry : Entry) (verdicts : List Verdict) → entry_at s p.txn ≡ Some entry → IsEvaluated sc s p entry verdicts → IsSmallAtServer (log.Prepared (prepared_record (with_wants s p.want) p entry verdicts))
    vote_small p entry _ found (Stapled staple txn given declared) =
        let deeds : length entry.deeds ≤ 16 = few p.txn entry found in
        record { deeds = deeds; verdicts = omega (arith, deeds, length-map entry.deeds (verdict_on sc (with_wants s p.want) txn staple p.want)) }
    vote_small p entry _ found (Unstapled given) = record { deeds = few p.txn entry found; verdicts = omega arith }

-- a transaction that exists is declared
txn_declared : (sc : Scenario) (txn : TxnId) → IsTxn sc txn → (declared : Transaction) × (slice_get sc.txns txn.0 ≡ Some declared)
txn_declared sc txn exists = by_found (slice_get sc.txns txn.0) refl
  where
    by_found : (found : Option Transaction) → slice_get sc.txns txn.0 ≡ found → (declared : Transaction) × (slice_get sc.txns txn.0 ≡ Some declared)
    by_found None e = absurd (missing sc.txns txn.0 exists e)
    by_found (Some declared) e = (declared, e)

-- so it is of the row on each mail
pub server_sends_small : (sc : Scenario) (w : State) → HaveHomes sc → WaitRightly sc w → Pairs sc w → (mail : Mail) (at : ServerId) (part : Part Server) (s : Server) → IsServerUp w at part s → ForcesSmallAtServer (server_row sc s mail)
server_sends_small sc w homes rightly pairs mail at part s up =
    server_row_small sc s mail (rightly at part s up)
    (λ txn entry found.
    let places : HasPlaces sc s = subst (λ (u : Option Server). IfSome u (HasPlaces sc)) up.up (pairs.places at.0 part up.found) in
    let within = placed_within s.entries txn.0 entry found in
    let there = txn_declared sc txn (omega (arith, within, places)) in
    entry_few sc w at part s txn there.0 entry homes pairs up there.1 found)

-- ---- a coordinator acts

-- a coordinator that has not decided has few deeds
coordinator_few : (sc : Scenario) (w : State) (txn : TxnId) (part : Part Coordinator) (c : Coordinator) (declared : Transaction) → HaveHomes sc → Pairs sc w → IsCoordinatorUp w txn part c
    → slice_get sc.txns txn.0 ≡ Some declared → is_undecided c.phase ≡ true → length c.deeds ≤ 16
coordinator_few sc w txn part c declared homes pairs up there undecided =
    let site = site_of sc 0 declared in
    let asker : asker_at w.actors.coordinators txn.0 0 ≡ Some (asker_of 0 c) =
    ap (option_and_then (asker_by 0)) up.found ∙ (ap (option_and_then (asker_up 0)) up.up ∙ ap (λ (b : Bool). if b then Some (asker_of 0 c) else None) undecided) in
    let fits : AskerFits site (pair_at w.actors txn 0) (asker_of 0 c) = of_some (AskerFits site (pair_at w.actors txn 0)) (asker_at w.actors.coordinators txn.0 0) (asker_of 0 c) asker (pairs.fits txn 0 declared there).asker in
    omega (arith, fits.most, homes.few txn.0 declared there)

-- a decision as the row makes it: a commit has the coordinator's deeds
abbrev HasFewDeedsIn : Decision → Type 0
HasFewDeedsIn (decision.Commit committed) = length committed.deeds ≤ 16
HasFewDeedsIn (decision.Abort why) = Unit {0}

abbrev Decides : TxnId → Record → Type 0
Decides txn (log.Decided d) = (d.txn ≡ txn) × HasFewDeedsIn d.decision
Decides txn (log.Prepared p) = ⊥
Decides txn _ = Unit {0}

abbrev ForcesFewDeeds : TxnId → Effect Coordinator → Type 0
ForcesFewDeeds txn effect = IfSome effect.reaction.append (Decides txn)

coordinator_row_few : (sc : Scenario) (c : Coordinator) (mail : Mail) → (is_undecided c.phase ≡ true → length c.deeds ≤ 16) → ForcesFewDeeds c.txn (coordinator_row sc c mail)
coordinator_row_few sc c mail few =
    coordinator_by sc c mail (ForcesFewDeeds c.txn)
    (record {
      ignored = tt;
      stapled = λ tell query home k there. tt;
      sends_query = λ at now rounds next passed moves home. tt;
      asks_staple = λ at now rounds passed moves. tt;
      probes_proofs = λ at now rounds passed moves. tt;
      validates = λ at now rounds passed moves. tt;
      commit_rounds = λ at now rounds passed moves. tt;
      asks_votes = λ at now rounds passed moves. tt;
      told = λ tell over round k. tt;
      counted = λ over round staple server verdicts y. tt;
      probed = λ over round staple server verdicts y replied reads. tt;
      decides = λ at now rounds passed moves.
          let kept = deeds_kept sc c mail at now rounds passed (voted_not_ran at (decided_voted sc c at moves)) in
          (refl, subst (λ (deeds : List Deed). length deeds ≤ 16) (sym kept) (few (passed_undecided sc c mail at now rounds passed)));
      aborted = λ why ended. (refl, tt);
      updated = λ over round staple reading named j e. tt;
      voted = λ reply awaited server verdicts y. tt;
      acknowledged = λ ack ended awaited server k. tt;
      inquired = λ inquiry ended awaited server k. tt;
    })

-- numbers in a row are different
above_apart : (number low many : ℕ) → number < low → AllByRecursion (λ (other : ℕ). eqb number other ≡ false) (range_with_len low many)
above_apart number low zero less = tt
above_apart number low (suc many) less = (grind (arith, nat_tests), above_apart number (low + 1) many (omega (arith, less)))

row_apart : (low many : ℕ) → IsDistinct eqb (range_with_len low many)
unfolding IsDistinct
row_apart low zero = tt
row_apart low (suc many) = (above_apart low (low + 1) many (omega arith), row_apart (low + 1) many)

-- an instance is over at most 16 queries, where a transaction has no more
few_in_instance : (chosen : Scheme) (queries number : ℕ) → queries ≤ 16 → many_of chosen queries number ≤ 16
few_in_instance scheme.Deferred queries number few = few
few_in_instance scheme.Punctual queries number few = one_or_all (nat_le number queries)
  where
    one_or_all : (b : Bool) → (if b then 1 else queries) ≤ 16
    one_or_all true = omega arith
    one_or_all false = few
few_in_instance scheme.Incremental queries number few = omega (arith, few)
few_in_instance scheme.Continuous queries number few = omega (arith, few)

-- and there are at most 17
few_instances : (chosen : Scheme) (reads : Bool) (queries : ℕ) → queries ≤ 16 → count_of chosen reads queries ≤ 17
few_instances scheme.Deferred reads queries few = omega arith
few_instances scheme.Punctual reads queries few = omega (arith, few)
few_instances scheme.Incremental true queries few = omega (arith, few)
few_instances scheme.Incremental false queries few = omega (arith, few)
few_instances scheme.Continuous reads queries few = omega (arith, few)

-- numbers that are equal one by one
equal_numbers : (xs ys : List ℕ) → pointwise ◌==◌ xs ys ≡ true → xs ≡ ys
equal_numbers [] [] e = refl
equal_numbers [] (y ∷ ys) e = absurd (cc)
equal_numbers (x ∷ xs) [] e = absurd (cc)
equal_numbers (x ∷ xs) (y ∷ ys) e =
    let parts = and_parts (x == y) (pointwise ◌==◌ xs ys) e in
    ap (λ (n : ℕ). n ∷ xs) (eqb-true x y parts.0) ∙ ap (λ (ns : List ℕ). y ∷ ns) (equal_numbers xs ys parts.1)

-- instances that a scheme demands have few proofs, of different queries
instances_small : (sc : Scenario) (facts : List Fact) (declared : Transaction) (number : ℕ) (instances : List Instance) → length declared.queries ≤ 16 → are_instances sc facts declared number instances ≡ true
    → Each IsSmallInstance instances
instances_small sc facts declared number [] few e = tt
instances_small sc facts declared number (instance ∷ instances) few e =
    let first = first_of declared.scheme (length declared.queries) number in
    let many = many_of declared.scheme (length declared.queries) number in
    let parts = and_parts (is_instance sc facts declared number instance) (are_instances sc facts declared (number + 1) instances) e in
    let over = and_parts (is_over first many instance.proofs) (if agrees_at declared.scheme (length declared.queries) number then is_consistent sc declared facts instance else is_none instance.reading) parts.0 in
    let numbers : numbers_of instance.proofs ≡ range_with_len first many = equal_numbers (numbers_of instance.proofs) (range_with_len first many) over.0 in
    let few_proofs : length instance.proofs ≤ 16 =
    omega (arith, ap length numbers, length-map instance.proofs (λ (verdict : Verdict). verdict.query), length-range_with_len first many, few_in_instance declared.scheme (length declared.queries) number few) in
    (record { few = few_proofs; apart = subst (IsDistinct eqb) (sym numbers) (row_apart first many) }, instances_small sc facts declared (number + 1) instances few parts.1)

-- so has a commit that meets its scheme's demand
commit_small : (sc : Scenario) (facts : List Fact) (place : ℕ) (txn : TxnId) (declared : Transaction) (committed : CommitRecord) → HaveHomes sc → slice_get sc.txns txn.0 ≡ Some declared
    → CommitFits sc facts place txn committed → length committed.deeds ≤ 16 → IsSmallCommit committed
commit_small sc facts place txn declared committed homes there h deeds =
    let queries : length declared.queries ≤ 16 = homes.few txn.0 declared there in
    let count = count_of declared.scheme (reads_master sc declared) (length declared.queries) in
    let many = length committed.instances == count in
    let rounds = and_parts (many && are_instances sc facts declared 1 committed.instances && each_follows declared.scheme committed.instances) (is_round_count sc declared committed.rounds) (h declared there).demanded in
    let follow = and_parts (many && are_instances sc facts declared 1 committed.instances) (each_follows declared.scheme committed.instances) rounds.0 in
    let are = and_parts many (are_instances sc facts declared 1 committed.instances) follow.0 in
    let so_many : length committed.instances ≡ count = eqb-true (length committed.instances) count are.0 in
    let most = few_instances declared.scheme (reads_master sc declared) (length declared.queries) queries in
    record {
      instances = omega (arith, so_many, most);
      proofs = instances_small sc facts declared 1 committed.instances queries are.1;
      deeds = deeds;
    }

-- a scenario asks for at most 16 rounds
pub few_rounds_asked : (sc : Scenario) (declared : Transaction) → is_valid_txn sc declared ≡ true → declared.rounds ≤ 16
few_rounds_asked sc declared e =
    let rules = and_parts (has_valid_creds sc declared && is_from_to 1 16 declared.rounds) (has_count 1 16 declared.queries && list_all (is_valid_query sc) declared.queries && not (list_any (is_name_of_server declared) sc.servers)) e in
    from_to_most declared.rounds (and_parts (has_valid_creds sc declared) (is_from_to 1 16 declared.rounds) rules.0).1
  where
    from_to_most : (rounds : ℕ) → is_from_to 1 16 rounds ≡ true → rounds ≤ 16
    from_to_most rounds f = grind (arith, nat_tests)

-- an abort names as many newer versions as rounds that the transaction asks for
rounds_small : (sc : Scenario) (facts : List Fact) (place : ℕ) (txn : TxnId) (declared : Transaction) (mets : List Met) → IsValid sc → slice_get sc.txns txn.0 ≡ Some declared
    → are_rounds_shown sc txn place facts mets declared ≡ true → length mets ≤ 16
rounds_small sc facts place txn declared mets valid there h =
    let many = not (is_incremental declared.scheme) && (length mets == declared.rounds) in
    let all = and_parts (many && list_all (is_met_shown sc txn place facts declared) mets) (are_met_on sc facts mets) h in
    let count = and_parts many (list_all (is_met_shown sc txn place facts declared) mets) all.0 in
    let so_many : length mets ≡ declared.rounds = eqb-true (length mets) declared.rounds (and_parts (not (is_incremental declared.scheme)) (length mets == declared.rounds) count.0).1 in
    let most = few_rounds_asked sc declared (each_get (λ (t : Transaction). is_valid_txn sc t ≡ true) sc.txns txn.0 declared valid.txns there) in
    omega (arith, so_many, most)

decision_small : (sc : Scenario) (facts : List Fact) (place : ℕ) (txn : TxnId) (declared : Transaction) (decided : Decision) → HaveHomes sc → IsValid sc → slice_get sc.txns txn.0 ≡ Some declared
    → DecisionFits sc facts place txn decided → HasFewDeedsIn decided → IsSmallDecision decided
decision_small sc facts place txn declared (decision.Commit committed) homes valid there h few = commit_small sc facts place txn declared committed homes there h few
decision_small sc facts place txn declared (decision.Abort (cause.Rounds mets)) homes valid there h few = rounds_small sc facts place txn declared mets valid there (h declared there)
decision_small sc facts place txn declared (decision.Abort _) homes valid there h few = tt

record_small : (sc : Scenario) (facts : List Fact) (place : ℕ) (txn : TxnId) (declared : Transaction) (forced : Record) → HaveHomes sc → IsValid sc → slice_get sc.txns txn.0 ≡ Some declared
    → RecordDecides sc facts place forced → Decides txn forced → IsSmallAtCoordinator forced
record_small sc facts place txn declared (log.Decided d) homes valid there h few =
    decision_small sc facts place d.txn declared d.decision homes valid (subst (λ (t : TxnId). slice_get sc.txns t.0 ≡ Some declared) (sym few.0) there) h few.1
record_small sc facts place txn declared (log.Prepared p) homes valid there h few = absurd few
record_small sc facts place txn declared _ homes valid there h few = tt

append_small : (sc : Scenario) (facts : List Fact) (place : ℕ) (txn : TxnId) (declared : Transaction) (append : Option Record) → HaveHomes sc → IsValid sc → slice_get sc.txns txn.0 ≡ Some declared
    → IfSome append (RecordDecides sc facts place) → IfSome append (Decides txn) → IfSome append IsSmallAtCoordinator
append_small sc facts place txn declared None homes valid there h few = tt
append_small sc facts place txn declared (Some forced) homes valid there h few = record_small sc facts place txn declared forced homes valid there h few

-- no transaction has more than 16 queries
few_in_homes : (sc : Scenario) → HaveHomes sc → AreFew sc
few_in_homes sc homes txn = by_found (slice_get sc.txns txn.0) refl
  where
    by_found : (found : Option Transaction) → slice_get sc.txns txn.0 ≡ found → option_map_or (λ (declared : Transaction). length declared.queries) found 0 ≤ 16
    by_found None e = omega arith
    by_found (Some declared) e = homes.few txn.0 declared e

pub received_small : (sc : Scenario) (w : State) → HaveHomes sc → IsValid sc → IsSound sc w → Agrees sc w → Pairs sc w → Trusts sc w → (n : ℕ) (mail : Mail) (txn : TxnId) (part : Part Coordinator) (c : Coordinator)
    → WasSent w n mail (actor.Coordinator txn) → IsCoordinatorUp w txn part c → IfSome (coordinator_row sc c mail).reaction.append IsSmallAtCoordinator
received_small sc w homes valid sound agrees pairs trusts n mail txn part c sent up =
    let same : c.txn ≡ txn = own_txn sc w txn part c sound up.found up.up in
    let there = txn_declared sc txn (sound.actors_are.coordinators txn.0 part up.found).exists in
    let decides = received_row_trusts sc w (few_in_homes sc homes) homes valid sound agrees pairs trusts n mail txn part c sent up in
    append_small sc w.facts (length w.steps) c.txn there.0 (coordinator_row sc c mail).reaction.append homes valid (subst (λ (t : TxnId). slice_get sc.txns t.0 ≡ Some there.0) (sym same) there.1) decides.decides
    (coordinator_row_few sc c mail (coordinator_few sc w txn part c there.0 homes pairs up there.1))

-- a submission forces nothing
submit_small : (sc : Scenario) (c : Coordinator) (age : ℕ) → IfSome (with_age (submit_row sc c) age).reaction.append IsSmallAtCoordinator
submit_small sc c age =
    submit_by sc c (λ (effect : Effect Coordinator). IfSome (with_age effect age).reaction.append IsSmallAtCoordinator) (record { ignored = tt; sent = λ server moves home. tt; asked = λ moves. tt })

-- ---- steps

pub servers_small : (actors : Actors) (at : ServerId) (part : Part Server) (now : Option Server) (append : Option Record) → AreSmall actors → slice_get actors.servers at.0 ≡ Some part → IfSome append IsSmallAtServer
    → AreSmall (record actors { servers = slice_set actors.servers at.0 (record { up = now; log = log_with part.log append }) })
servers_small actors at part now append h found forces =
    record {
      servers = at_set (λ (n : ℕ) (p : Part Server). Each IsSmallAtServer p.log) actors.servers at.0 _ h.servers (more_kept IsSmallAtServer part.log append (h.servers at.0 part found) forces);
      coordinators = h.coordinators;
    }

pub coordinators_small : (actors : Actors) (txn : TxnId) (part : Part Coordinator) (now : Option Coordinator) (append : Option Record) → AreSmall actors → slice_get actors.coordinators txn.0 ≡ Some part
    → IfSome append IsSmallAtCoordinator → AreSmall (record actors { coordinators = slice_set actors.coordinators txn.0 (record { up = now; log = log_with part.log append }) })
coordinators_small actors txn part now append h found forces =
    record {
      servers = h.servers;
      coordinators = at_set (λ (n : ℕ) (p : Part Coordinator). Each IsSmallAtCoordinator p.log) actors.coordinators txn.0 _ h.coordinators (more_kept IsSmallAtCoordinator part.log append (h.coordinators txn.0 part found) forces);
    }

-- the offices have no log
unmoved_small : (actors : Actors) (others : Actors) → others.servers ≡ actors.servers → others.coordinators ≡ actors.coordinators → AreSmall actors → AreSmall others
unmoved_small actors others servers coordinators h =
    record {
      servers = subst (EachAt (λ (n : ℕ) (part : Part Server). Each IsSmallAtServer part.log)) (sym servers) h.servers;
      coordinators = subst (EachAt (λ (n : ℕ) (part : Part Coordinator). Each IsSmallAtCoordinator part.log)) (sym coordinators) h.coordinators;
    }

sizes_cases : (sc : Scenario) (w : State) → HaveHomes sc → IsValid sc → WaitRightly sc w → IsSound sc w → Agrees sc w → Pairs sc w → Trusts sc w → Sizes w → Cases sc w (λ taken move. AreSmall move.actors)
sizes_cases sc w homes valid rightly sound agrees pairs trusts h =
    record {
      idle = λ taken happened says. h;
      server_received = λ n mail at part s sent up.
          servers_small w.actors at part (Some (server_row sc s mail).state) (server_row sc s mail).reaction.append h up.found
          (server_sends_small sc w homes rightly pairs mail at part s up);
      coordinator_received = λ n mail txn part c sent up.
          coordinators_small w.actors txn part (Some (coordinator_row sc c mail).state) (coordinator_row sc c mail).reaction.append h up.found
          (received_small sc w homes valid sound agrees pairs trusts n mail txn part c sent up);
      authority_told = λ n mail sent. h;
      master_told = λ n mail sent. h;
      published = λ admin exists more. unmoved_small w.actors _ refl refl h;
      pushed = λ admin server exists there. h;
      ticked = λ by. unmoved_small w.actors _ refl refl h;
      revoked = λ cred exists. unmoved_small w.actors _ refl refl h;
      begun = λ txn part c exists up new.
          coordinators_small w.actors txn part (Some (with_age (submit_row sc c) (length w.steps)).state) (with_age (submit_row sc c) (length w.steps)).reaction.append h up.found (submit_small sc c (length w.steps));
      timed = λ txn part c exists up begun. h;
    }

-- a step that is not refused forces small records
pub sizes_next : (sc : Scenario) (m : Machine) (taken : Step) → HaveHomes sc → IsValid sc → IsStepOf sc taken → KeepsUp taken → refusal m.state taken ≡ None → WaitRightly sc m.state → IsSound sc m.state → Agrees sc m.state → Pairs sc m.state → Trusts sc m.state
    → Sizes m.state → Sizes (machine_after sc m taken).state
sizes_next sc m taken homes valid exists stays allowed rightly sound agrees pairs trusts h =
    machine_after_by sc m (λ taken move. AreSmall move.actors) Sizes
    (sizes_cases sc m.state homes valid rightly sound agrees pairs trusts h) agrees.coordinator_count
    (λ taken move small. small) taken exists stays allowed

-- before the first step all logs are empty
pub sizes_opening : (sc : Scenario) → Sizes (opening_state sc)
sizes_opening sc =
    record {
      servers = λ n part e. at_made (λ (k : ℕ) (found : Part Server). Each IsSmallAtServer found.log) (λ (k : ℕ). opened_part (server_opened.opening sc (record { 0 = k }))) 0 (length sc.servers) (λ k within. tt) n part e;
      coordinators = λ n part e. at_made (λ (k : ℕ) (found : Part Coordinator). Each IsSmallAtCoordinator found.log) (λ (k : ℕ). opened_part (coord_opened.idle sc (record { 0 = k }))) 0 (length sc.txns) (λ k within. tt) n part e;
    }
