-- Agreement, crashes and boots: a crash leaves what the log says, and who boots agrees with it.
use Rattle.tp_server.specs.Verdicts.{version_known}
use Rattle.tp_store.specs.Rule.{known_at_first}
use Rattle.std.proofs.Common.{IfSome, List, None, Option, Some, [], ap, arith, is_some, option_and_then, option_map, refl, slice_get, subst, sym, true, ℕ, ◌+◌, ◌∙◌, ◌∷◌, ◌≡◌}
use Rattle.std.specs.Option.{option_or}
use Rattle.tp_model.specs.Facts.{outcome_of}
use Rattle.tp_model.specs.Words.actor
use Rattle.tp_model.specs.Words.cause
use Rattle.tp_model.specs.Words.decision
use Rattle.tp_model.specs.Words.log
use Rattle.tp_model.specs.Words.outcome
use Rattle.tp_model.specs.Words.what
use Rattle.tp_model.specs.Words.{Actor, AdminId, Decision, Mail, Prepared, Record, Scenario, ServerId, TxnId, Version, Outcome}
use Rattle.tp_recover.proofs.HeldLemmas.{placed_is}
use Rattle.tp_recover.proofs.KeptLemmas.{kept_law}
use Rattle.tp_model.specs.ByAge.{by_txn}
use Rattle.tp_recover.specs.Kept.{kept, version_at}
use Rattle.tp_recover.specs.Laws.{IsOfScenario}
use Rattle.tp_recover.specs.Log.{decided_in, known_in, prepared_in, settled_in}
use Rattle.tp_coord.specs.Booted as coord_boot
use Rattle.tp_coord.specs.Opened.{servers_at, idle}
use Rattle.tp_coord.specs.Row.{coordinator_row, is_begun}
use Rattle.tp_coord.specs.State.{Coordinator}
use Rattle.tp_server.specs.Booted.{boot_row, booted, inquiry, kept_store, restored}
use Rattle.tp_server.specs.Row.{server_row}
use Rattle.tp_server.specs.State.{Server}
use Rattle.tp_machine.specs.Machine.{goes_down, server_boots}
use Rattle.tp_machine.specs.Machine.{State, acts_by, coordinator_fact, coordinator_move, server_fact, server_move, state_after}
use Rattle.tp_actor_log.specs.Records.{log_with}
use Rattle.tp_machine.specs.Named.{IsAdmin, IsServer}
use Rattle.tp_machine.specs.Parts.{Part}
use Rattle.tp_runs.proofs.agreement.Coordinator.{IsFirst, all_but_all, orders_lawful, servers_at_have_items}
use Rattle.tp_runs.proofs.agreement.CoordinatorActs.{CoordinatorActs, coordinator_acts_agrees, facts_follow_in_coordinator_acts}
use Rattle.tp_runs.proofs.agreement.Known.{KnowsTold, first_known, known_count}
use Rattle.tp_runs.proofs.agreement.Logs.{DecidedAs, IsAsked, IsPrepared, IsSettled, LogPrepared, prepared_open, submitted_count, submitted_up}
use Rattle.tp_runs.proofs.agreement.Server.{LetterKept, RecordRests, ServerAgrees, cast_in, vote_of}
use Rattle.tp_runs.proofs.agreement.ServerActs.{SaysOnly, begun_count, server_acts_agrees, submitted_told}
use Rattle.tp_runs.proofs.agreement.Steps.{coordinator_lawful, own_txn, server_lawful, silent_says}
use Rattle.tp_runs.proofs.agreement.World.{Agrees, PreparesNamed, MoveAgrees, state_after_agrees, CoordinatorUpAgrees}
use Rattle.tp_runs.proofs.basics.Booted.{booted_entries, booted_entry, kept_settled, listed_each, prepared_keeps, records_of_scenario}
use Rattle.tp_runs.proofs.basics.Logs.{decided_with, known_still, prepared_still, settled_still}
use Rattle.tp_runs.proofs.ids.Acts.{known_sound}
use Rattle.tp_runs.proofs.ids.Valid.{IsValid}
use Rattle.tp_runs.proofs.walks.Crashes.{CrashCases, LeftOfCoordinator, LeftOfServer, crash_cases_as, left_shown}
use Rattle.tp_runs.proofs.walks.Steps.{IsCoordinatorUp, IsServerUp, WaitRightly}
use Rattle.tp_runs.specs.Sound.{IsSound}
use Rattle.tp_types.proofs.EachLemmas.{each_map}
use Rattle.tp_types.specs.Each.{Each}

-- a crash says that alone
crashed_says : (sc : Scenario) (w : State) (who : Actor) → SaysOnly sc w.facts (what.Crashed who ∷ [])
crashed_says sc w who = record { follows = (tt, tt); no_submission = λ txn. refl; no_decision = λ txn. refl; no_settlement = λ at txn. refl }

-- ---- servers

crashed_by_server : (sc : Scenario) (w : State) (at : ServerId) (part : Part Server) (s : Server) (append : Option Record) → WaitRightly sc w → PreparesNamed w → Agrees sc w → IsServerUp w at part s → LeftOfServer sc w at s append
    → MoveAgrees sc w (server_move w.actors at (goes_down (server_fact at) (what.Crashed (actor.Server at) ∷ []) part append))
crashed_by_server sc w at part s append rightly named h up left =
    server_acts_agrees sc w at part None (what.Crashed (actor.Server at) ∷ []) append [] h up.found
    (record {
      state = tt;
      knows = tt;
      rests = left_shown w (actor.Server at) (λ (mail : Mail). (server_row sc s mail).reaction.append) append (RecordRests (DecidedAs w.actors.coordinators) (IsAsked sc w.actors.coordinators at) part.log)
          (λ n mail sent. (server_lawful sc w rightly named h n mail at part s sent up).rests) left;
      own_says = crashed_says sc w (actor.Server at);
      replies = tt;
    })

-- an entry that is restored has the vote that was prepared
restored_votes : (prepared : Option Prepared) → option_map vote_of prepared ≡ option_and_then cast_in (option_map restored prepared)
restored_votes None = refl
restored_votes (Some p) = refl

-- a server that boots agrees with its log, with the boot on it
booted_agrees : (sc : Scenario) (at : ServerId) (records : List Record) → Each (IsOfScenario sc) records → ServerAgrees (booted sc at (kept sc at records)) (log_with records (Some log.Boot))
booted_agrees sc at records each =
    let s = booted sc at (kept sc at records) in
    record {
      settled = λ txn. kept_settled sc at records each txn ∙ sym (settled_still txn records (Some log.Boot) refl);
      unsettled = λ n entry e.
          let own = booted_entries sc at records each n entry e in
          settled_still (record { 0 = n }) records (Some log.Boot) refl ∙ subst (λ (txn : TxnId). settled_in txn records ≡ None) own.own (prepared_open own.p.txn records (ap is_some own.prepared_is));
      prepared = λ txn.
          ap (option_map vote_of) (prepared_still txn records (Some log.Boot) refl refl)
          ∙ (restored_votes (prepared_in txn records) ∙ ap (option_and_then cast_in) (sym (booted_entry sc at records each txn)));
    }

-- it knows the versions that its log tells of
pub booted_version : (sc : Scenario) (at : ServerId) (records : List Record) (admin : AdminId) → IsValid sc → IsServer sc at → Each (IsOfScenario sc) records → IsAdmin sc admin
    → (version_known (booted sc at (kept sc at records)) admin).0 ≡ known_in (first_known sc at admin) admin records
booted_version sc at records admin valid there each exists =
    let k = kept sc at records in
    let says = kept_law sc at records each in
    let versions = known_count sc.admins (known_at_first sc at) (known_sound sc at (slice_get sc.servers at.0) valid there refl) in
    let admins = says.admins in
    ap (λ (newest : List Version). (version_at newest admin.0).0) (prepared_keeps (kept_store sc at k) k.prepared).known ∙ says.newest admin (omega (arith, exists, versions, admins))

booted_knows : (sc : Scenario) (at : ServerId) (records : List Record) → IsValid sc → IsServer sc at → Each (IsOfScenario sc) records → KnowsTold sc at (log_with records (Some log.Boot)) (booted sc at (kept sc at records))
booted_knows sc at records valid there each admin exists =
    omega (arith, booted_version sc at records admin valid there each exists, known_still (first_known sc at admin) admin records (Some log.Boot) refl)

-- and asks for what is prepared there
booted_asks : (sc : Scenario) (at : ServerId) (records : List Record) → Each (IsOfScenario sc) records → Each (LetterKept at (log_with records (Some log.Boot))) (boot_row sc at (kept sc at records)).reaction.letters
booted_asks sc at records each =
    let k = kept sc at records in
    let now = log_with records (Some log.Boot) in
    each_map (λ (p : Prepared). LogPrepared p.txn now) (LetterKept at now) (inquiry (booted sc at k)) (λ p there. record { from_is = refl; says = there }) (by_txn k.prepared)
    (listed_each (λ (p : Prepared). LogPrepared p.txn now) k.prepared
    (λ n p e. ap is_some (prepared_still p.txn records (Some log.Boot) refl refl ∙ (placed_is sc at k records (kept_law sc at records each) each n p e).0)))

booted_by_server : (sc : Scenario) (w : State) (at : ServerId) (part : Part Server) → IsValid sc → IsSound sc w → Agrees sc w → slice_get w.actors.servers at.0 ≡ Some part → MoveAgrees sc w (server_move w.actors at (server_boots sc at part))
booted_by_server sc w at part valid sound h found =
    let k = kept sc at part.log in
    let here = sound.actors_are.servers at.0 part found in
    let each : Each (IsOfScenario sc) part.log = records_of_scenario sc at part.log here.records in
    server_acts_agrees sc w at part (Some (booted sc at k)) [] (Some log.Boot) (boot_row sc at k).reaction.letters h found
    (record {
      state = booted_agrees sc at part.log each;
      knows = booted_knows sc at part.log valid here.exists each;
      rests = tt;
      own_says = silent_says sc w;
      replies = booted_asks sc at part.log each;
    })

-- ---- coordinators

crashed_by_coordinator : (sc : Scenario) (w : State) (txn : TxnId) (part : Part Coordinator) (c : Coordinator) (append : Option Record) → IsSound sc w → Agrees sc w → IsCoordinatorUp w txn part c → is_begun c.phase ≡ true → LeftOfCoordinator sc w txn c append
    → MoveAgrees sc w (coordinator_move w.actors txn (goes_down coordinator_fact (what.Crashed (actor.Coordinator txn) ∷ []) part append))
crashed_by_coordinator sc w txn part c append sound h up begun left =
    let P = IsPrepared w.actors.servers txn in
    let forces : Mail → Option Record = λ mail. (coordinator_row sc c mail).reaction.append in
    let submitted : submitted_up part.up ≡ 1 = ap submitted_up up.up ∙ begun_count (is_begun c.phase) begun in
    let fresh : IfSome append (IsFirst sc P txn part.log) = left_shown w (actor.Coordinator txn) forces append (IsFirst sc P txn part.log)
    (λ n mail sent. subst (λ (t : TxnId). IfSome (forces mail) (IsFirst sc P t part.log)) (own_txn sc w txn part c sound up.found up.up) (coordinator_lawful sc w sound h n mail txn part c sent up).fresh) left in
    coordinator_acts_agrees sc w txn part None (what.Crashed (actor.Coordinator txn) ∷ []) append [] h up.found
    (record {
      state = tt;
      fresh = fresh;
      letters_agree = tt;
      follows = (tt, facts_follow_in_coordinator_acts sc P w.facts txn part.log append fresh (λ decides. submitted_told txn w.facts (h.submitted txn ∙ (ap submitted_count up.found ∙ submitted))));
      counts = λ other e. ap (λ (n : ℕ). n + 0) submitted;
      apart = λ other e. refl;
      undecided = λ other. refl;
      unsettled = λ at other. refl;
    })

-- a coordinator that boots has decided so, and awaits all of its servers
ending_agrees : (sc : Scenario) (w : State) (txn : TxnId) (ended : Outcome) (records : List Record) → option_map outcome_of (decided_in records) ≡ Some ended → CoordinatorUpAgrees sc w.actors.servers txn records (coord_boot.ending sc txn ended)
ending_agrees sc w txn ended records decided =
    record { agrees = record { decided = decided; servers = refl; awaited = servers_at_have_items sc txn }; replied = all_but_all (IsSettled w.actors.servers txn) (servers_at sc txn) }

boot_acts : (sc : Scenario) (w : State) (txn : TxnId) (part : Part Coordinator) (decided : Option Decision) → Agrees sc w → slice_get w.actors.coordinators txn.0 ≡ Some part → part.up ≡ None → decided_in part.log ≡ decided
    → CoordinatorActs sc w txn part.log part.up (Some (coord_boot.boot_by sc txn decided).state) [] (coord_boot.boot_by sc txn decided).reaction.append (coord_boot.boot_by sc txn decided).reaction.letters
boot_acts sc w txn part None h found down undecided =
    let P = IsPrepared w.actors.servers txn in
    let forced : Record = log.Decided (record { txn = txn; decision = decision.Abort cause.Halted }) in
    let submitted : submitted_up part.up ≡ 1 = ap submitted_up down in
    let fresh : IfSome (Some forced) (IsFirst sc P txn part.log) = record { undecided = undecided; own = refl; prepared = tt } in
    let now : decided_in (log_with part.log (Some forced)) ≡ Some (decision.Abort cause.Halted) = decided_with part.log (Some forced) ∙ ap (λ (old : Option Decision). option_or old (Some (decision.Abort cause.Halted))) undecided in
    record {
      state = ending_agrees sc w txn outcome.Abort (log_with part.log (Some forced)) (ap (option_map outcome_of) now);
      fresh = fresh;
      letters_agree = orders_lawful sc txn true (decided_in (log_with part.log (Some forced))) outcome.Abort (idle sc txn) (servers_at sc txn) refl refl (ap (option_map outcome_of) now) (servers_at_have_items sc txn);
      follows = facts_follow_in_coordinator_acts sc P w.facts txn part.log (Some forced) fresh (λ decides. submitted_told txn w.facts (h.submitted txn ∙ (ap submitted_count found ∙ submitted)));
      counts = λ other e. ap (λ (n : ℕ). n + 0) submitted;
      apart = λ other e. refl;
      undecided = λ other. refl;
      unsettled = λ at other. refl;
    }
boot_acts sc w txn part (Some decision_is) h found down decided =
    let submitted : submitted_up part.up ≡ 1 = ap submitted_up down in
    record {
      state = ending_agrees sc w txn (outcome_of decision_is) part.log (ap (option_map outcome_of) decided);
      fresh = tt;
      letters_agree = orders_lawful sc txn true (decided_in part.log) (outcome_of decision_is) (idle sc txn) (servers_at sc txn) refl refl (ap (option_map outcome_of) decided) (servers_at_have_items sc txn);
      follows = tt;
      counts = λ other e. ap (λ (n : ℕ). n + 0) submitted;
      apart = λ other e. refl;
      undecided = λ other. refl;
      unsettled = λ at other. refl;
    }

booted_by_coordinator : (sc : Scenario) (w : State) (txn : TxnId) (part : Part Coordinator) → Agrees sc w → slice_get w.actors.coordinators txn.0 ≡ Some part → part.up ≡ None
    → MoveAgrees sc w (coordinator_move w.actors txn (acts_by coordinator_fact [] part.log (coord_boot.boot_row sc txn part.log)))
booted_by_coordinator sc w txn part h found down =
    let effect = coord_boot.boot_row sc txn part.log in
    coordinator_acts_agrees sc w txn part (Some effect.state) [] effect.reaction.append effect.reaction.letters h found (boot_acts sc w txn part (decided_in part.log) h found down refl)

-- ---- all of them

pub agrees_crash_cases : (sc : Scenario) (w : State) → IsValid sc → WaitRightly sc w → IsSound sc w → PreparesNamed w → Agrees sc w → CrashCases sc w (λ taken move. MoveAgrees sc w move)
agrees_crash_cases sc w valid rightly sound named h =
    record {
      server_crashed = λ at part s cut append up left. crashed_by_server sc w at part s append rightly named h up left;
      server_booted = λ at part exists found down. booted_by_server sc w at part valid sound h found;
      coordinator_crashed = λ txn part c cut append exists up begun left. crashed_by_coordinator sc w txn part c append sound h up begun left;
      coordinator_booted = λ txn part exists found down. booted_by_coordinator sc w txn part h found down;
    }

-- all actors still agree
pub agrees_crashed : (sc : Scenario) (w : State) → IsValid sc → WaitRightly sc w → IsSound sc w → PreparesNamed w → Agrees sc w → CrashCases sc w (λ taken move. Agrees sc (state_after w taken move))
agrees_crashed sc w valid rightly sound named h =
    crash_cases_as sc w (λ taken move. MoveAgrees sc w move) (λ taken move. Agrees sc (state_after w taken move)) (λ taken move t. state_after_agrees sc w taken move h t) (agrees_crash_cases sc w valid rightly sound named h)
