-- Bounds over every list of steps: each value of a world is within the bound of its query, and no step of a sum is cut.
use Rattle.std.proofs.Common.{IfSome, List, None, Option, Some, [], ap, arith, drop, false, length, option_and_then, refl, slice_get, subst, sym, true, ℕ, ◌++◌, ◌<◌, ◌∙◌, ◌∷◌, ◌≡◌}
use Rattle.std.specs.List.{flat_map}
use Rattle.std.proofs.lemmas.List.{length-map}
use Rattle.tp_model.specs.Queries.{query_at}
use Rattle.tp_model.specs.SerialRun.{are_in_range, opening_store, opening_value}
use Rattle.tp_model.specs.Valid.{is_valid_txn}
use Rattle.tp_model.specs.Words.actor
use Rattle.tp_model.specs.Words.body
use Rattle.tp_model.specs.Words.log
use Rattle.tp_model.specs.Words.step
use Rattle.tp_model.specs.Words.what
use Rattle.tp_model.specs.Words.{Body, Deed, Letter, Mail, Record, Scenario, ServerId, Settled, Step, Transaction, TxnId, What}
use Rattle.tp_runs.proofs.agreement.Logs.{DecidedAs, IsAsked}
use Rattle.tp_runs.proofs.agreement.Server.{RequestRests, open_unsettled}
use Rattle.tp_runs.proofs.agreement.Steps.{mail_rests, request_rests, server_agrees}
use Rattle.tp_runs.proofs.agreement.World.{Agrees, PreparesNamed}
use Rattle.tp_runs.proofs.basics.Facts.{each_new_mail}
use Rattle.tp_types.proofs.EachLemmas.{at_made, at_set, each_append, each_as, each_drop, each_flat_map, each_get, each_map, each_more, placed_none}
use Rattle.tp_runs.proofs.basics.Stores.{opened_each}
use Rattle.tp_runs.proofs.bounds.Coordinator.{CoordinatorBounds, CoordinatorLow, coordinator_row_bounds, repeats_bounded, submit_row_bounds}
use Rattle.tp_runs.proofs.bounds.Numbers.{AreBefore, number_low, sums_exact, values_most}
use Rattle.tp_runs.proofs.bounds.Server.{IsBoundedLetter, OrdersBounded, ServerBounds, server_row_bounds}
use Rattle.tp_runs.proofs.bounds.Values.{grown_in_range, log_in_range}
use Rattle.tp_runs.proofs.ids.Queries.{have_homes}
use Rattle.tp_runs.proofs.ids.Valid.{IsValid}
use Rattle.tp_runs.proofs.basics.Found.{of_some}
use Rattle.tp_runs.proofs.known.World.{Pairs}
use Rattle.tp_runs.proofs.deeds.Opening.{opening_in_range}
use Rattle.tp_recover.specs.Log.{values_by}
use Rattle.tp_runs.proofs.serial_data.Rows.{deeds_in, values_length}
use Rattle.tp_runs.proofs.serial_data.Steps.{received_clear, server_brings}
use Rattle.tp_runs.proofs.serial_data.UpOnLog.{EndsOnce, UpOnLog, acts_on_log, values_by_log}
use Rattle.tp_runs.proofs.serial_data.Receiving.{record_ends}
use Rattle.tp_runs.proofs.serial_data.World.{Serial, up_on_log}
use Rattle.tp_runs.proofs.walks.Steps.{Cases, IsCoordinatorUp, IsServerUp, KeepsUp, SaysIdle, WaitRightly, WasSent, machine_after_by}
use Rattle.tp_runs.specs.Bounded.{AreBounded, IsBoundedCoordinator, IsBoundedEntry, IsBoundedFact, IsBoundedMail, IsBoundedRecord, IsBoundedServer, IsBoundedServerPart, IsBoundedSettled, IsBoundedWhat, IsBoundedWrite}
use Rattle.tp_machine.specs.Machine.{Machine, Move, State, acts, acts_by, coordinator_fact, coordinator_move, facts_of, idle_move, is_part_submitted, machine_after, mails_of, opened_part, opening_state, refusal, server_fact, server_move, state_after, with_age}
use Rattle.tp_actor_log.specs.Records.{log_with}
use Rattle.tp_machine.specs.Parts.{Part}
use Rattle.tp_types.specs.Each.{Each, EachAt}
use Rattle.tp_runs.specs.Sound.{IsSound, IsSoundCoordinatorUp, IsSoundDeed}
use Rattle.tp_machine.specs.Named.{IsStepOf}
use Rattle.tp_coord.specs.Opened as coord_opened
use Rattle.tp_coord.specs.Opened.{idle}
use Rattle.tp_coord.specs.Row.{coordinator_row, repeats, submit_row}
use Rattle.tp_coord.specs.State.{Coordinator}
use Rattle.tp_machine.specs.declared.actors.Actors.{Actors}
use Rattle.tp_server.specs.declared.server.Entry.{Entry}
use Rattle.tp_server.specs.Opened as server_opened
use Rattle.tp_server.specs.Row.{entry_at, server_row, settled_as}
use Rattle.tp_server.specs.State.{Server}
use Rattle.tp_offices.specs.Authority as office
use Rattle.tp_offices.specs.Master as master
use Rattle.tp_offices.specs.declared.authority.Authority.{Authority}
use Rattle.tp_offices.specs.declared.master.Master.{Master}
use Rattle.tp_store.specs.declared.writes.TentativeWrite.{TentativeWrite}

-- ---- the invariant

-- a coordinator that is up, and its log
pub record CoordinatorPartLow (part : Part Coordinator) : Type 0 where
  pub state : IfSome part.up CoordinatorLow
  pub records : Each IsBoundedRecord part.log

abbrev ServersBounded : Scenario → Actors → Type 0
ServersBounded sc actors = EachAt (λ (n : ℕ) (part : Part Server). IsBoundedServerPart sc part) actors.servers

abbrev CoordinatorsLow : Actors → Type 0
CoordinatorsLow actors = EachAt (λ (n : ℕ) (part : Part Coordinator). CoordinatorPartLow part) actors.coordinators

-- each value is bounded, and coordinators have deeds of the queries before the one that they await
pub record Bounds (sc : Scenario) (w : State) : Type 0 where
  pub servers : ServersBounded sc w.actors
  pub coordinators : CoordinatorsLow w.actors
  pub mails : Each IsBoundedMail w.mails
  pub facts : Each IsBoundedFact w.facts

-- what a step leaves
pub record MoveBounds (sc : Scenario) (move : Move) : Type 0 where
  pub servers : ServersBounded sc move.actors
  pub coordinators : CoordinatorsLow move.actors
  pub letters : Each IsBoundedLetter move.letters
  pub happened : Each IsBoundedWhat move.happened

pub state_after_bounds : (sc : Scenario) (w : State) (taken : Step) (move : Move) → Bounds sc w → MoveBounds sc move → Bounds sc (state_after w taken move)
state_after_bounds sc w taken move h t =
    record {
      servers = t.servers;
      coordinators = t.coordinators;
      mails = each_append IsBoundedMail w.mails (mails_of (length w.steps) (length w.mails) move.letters) h.mails (each_new_mail (λ sent. IsBoundedLetter) (length w.steps) (length w.mails) move.letters t.letters);
      facts = each_append IsBoundedFact w.facts (facts_of (length w.steps) move.happened) h.facts
          (each_map IsBoundedWhat IsBoundedFact (λ (happened : What). record { place = length w.steps; what = happened }) (λ happened k. k) move.happened t.happened);
    }

-- ---- neither servers nor coordinators act

still_bounds : (sc : Scenario) (w : State) (authority : Authority) (held : Master) (happened : List What) (letters : List Letter) → Bounds sc w → Each IsBoundedWhat happened → Each IsBoundedLetter letters
    → MoveBounds sc (record { actors = record w.actors { authority = authority; master = held }; happened = happened; letters = letters })
still_bounds sc w authority held happened letters h told said = record { servers = h.servers; coordinators = h.coordinators; letters = said; happened = told }

idle_bounds : (sc : Scenario) (w : State) → Bounds sc w → (taken : Step) (happened : List What) → SaysIdle taken happened → MoveBounds sc (idle_move w.actors happened)
idle_bounds sc w h (step.Deliver mail) happened e =
    subst (λ (hs : List What). MoveBounds sc (idle_move w.actors hs)) (sym e) (record { servers = h.servers; coordinators = h.coordinators; letters = tt; happened = tt })
idle_bounds sc w h (step.Lose mail) happened e =
    subst (λ (hs : List What). MoveBounds sc (idle_move w.actors hs)) (sym e) (record { servers = h.servers; coordinators = h.coordinators; letters = tt; happened = (tt, tt) })
idle_bounds sc w h _ happened e = absurd e

-- the offices tell no value
authority_says_none : (authority : Authority) (said : Body) → Each IsBoundedLetter (office.on_body authority said).reaction.letters
authority_says_none authority (body.Ask ask) = (tt, tt)
authority_says_none authority _ = tt

master_says_none : (held : Master) (said : Body) → Each IsBoundedLetter (master.on_body held said).reaction.letters
master_says_none held (body.Probe probe) = (tt, tt)
master_says_none held _ = tt

-- ---- records, and what they tell

records_with : (kept : List Record) (append : Option Record) → Each IsBoundedRecord kept → IfSome append IsBoundedRecord → Each IsBoundedRecord (log_with kept append)
records_with kept None h forces = h
records_with kept (Some forced) h forces = each_more IsBoundedRecord kept forced h forces

server_tells : (at : ServerId) (kept : Record) → IsBoundedRecord kept → Each IsBoundedWhat (server_fact at kept)
server_tells at (log.Settled s) h = (tt, tt)
server_tells at _ h = tt

coordinator_tells : (kept : Record) → IsBoundedRecord kept → Each IsBoundedWhat (coordinator_fact kept)
coordinator_tells (log.Decided d) h = (h, tt)
coordinator_tells _ h = tt

told_by : (fact : Record → List What) (own : List What) (old kept : List Record) → ((forced : Record) → IsBoundedRecord forced → Each IsBoundedWhat (fact forced)) → Each IsBoundedWhat own → Each IsBoundedRecord kept
    → Each IsBoundedWhat (own ++ flat_map fact (drop (length old) kept))
told_by fact own old kept tells said h =
    each_append IsBoundedWhat own (flat_map fact (drop (length old) kept)) said (each_flat_map IsBoundedRecord IsBoundedWhat fact tells (drop (length old) kept) (each_drop IsBoundedRecord (length old) kept h))

-- ---- a server acts

pub server_acts_bounds : (sc : Scenario) (w : State) (at : ServerId) (part : Part Server) (now : Option Server) (own : List What) (append : Option Record) (letters : List Letter) → Serial sc w → Bounds sc w
    → slice_get w.actors.servers at.0 ≡ Some part → IfSome now (IsBoundedServer sc) → Each IsBoundedWhat own → IfSome append IsBoundedRecord → Each IsBoundedLetter letters
    → MoveBounds sc (server_move w.actors at (acts (server_fact at) own part.log now (log_with part.log append) letters))
server_acts_bounds sc w at part now own append letters serial h found state told forces said =
    let records : Each IsBoundedRecord (log_with part.log append) = records_with part.log append (h.servers at.0 part found).records forces in
    let range = log_in_range sc part.log append (serial.servers at.0 part found).tested (h.servers at.0 part found).in_range in
    let next : Part Server = record { up = now; log = log_with part.log append } in
    record {
      servers = at_set (λ (n : ℕ) (p : Part Server). IsBoundedServerPart sc p) w.actors.servers at.0 next h.servers (record { state = state; records = records; in_range = range });
      coordinators = h.coordinators;
      letters = said;
      happened = told_by (server_fact at) own part.log (log_with part.log append) (server_tells at) told records;
    }

-- what an order leaves of the values is in range, as its transaction was decided
orders_bounded : (sc : Scenario) (w : State) → IsValid sc → Agrees sc w → Serial sc w → (n : ℕ) (mail : Mail) (at : ServerId) (part : Part Server) (s : Server) → WasSent w n mail (actor.Server at) → IsServerUp w at part s
    → are_in_range sc.items s.store.values ≡ true → length s.store.values ≡ length sc.items → OrdersBounded s mail
orders_bounded sc w valid agrees serial n mail at part s sent up in_range items_are d k =
    let V = DecidedAs w.actors.coordinators in
    let M = IsAsked sc w.actors.coordinators at in
    let here = server_agrees sc w at part s agrees up in
    let rests = subst (RequestRests V M) k.said_is (request_rests sc w mail.letter.from at mail.letter.body (mail_rests sc w n mail (actor.Server at) agrees sent)) in
    let ends : IfSome (Some (log.Settled (settled_as d))) (EndsOnce part.log) =
    record_ends sc w at part (Some (log.Settled (settled_as d))) agrees up.found
    (record { fresh = open_unsettled s part.log d.txn here k.unsettled; asked = rests.1; ordered = λ none. rests.0; refused = λ some. absurd (cc) }) in
    let range : are_in_range sc.items (values_by s.store.values d.outcome (deeds_in (entry_at s d.txn))) ≡ true =
    ap (are_in_range sc.items) (values_by_log s part.log (Some (log.Settled (settled_as d))) here ends)
    ∙ grown_in_range sc s.store.values part.log (Some (log.Settled (settled_as d))) (serial.servers at.0 part up.found).tested in_range in
    values_most sc (values_by s.store.values d.outcome (deeds_in (entry_at s d.txn))) valid (values_length (length sc.items) d.outcome s.store.values (deeds_in (entry_at s d.txn)) items_are) range

-- the row of a server on a mail that was sent
pub server_sends_bounded : (sc : Scenario) (w : State) → IsValid sc → WaitRightly sc w → IsSound sc w → PreparesNamed w → Agrees sc w → Pairs sc w → Serial sc w → Bounds sc w → (n : ℕ) (mail : Mail) (at : ServerId) (part : Part Server) (s : Server)
    → WasSent w n mail (actor.Server at) → IsServerUp w at part s → ServerBounds (server_row sc s mail)
server_sends_bounded sc w valid rightly sound named agrees pairs serial h n mail at part s sent up =
    let old : IsBoundedServer sc s = of_some (IsBoundedServer sc) part.up s up.up (h.servers at.0 part up.found).state in
    let was : UpOnLog sc s part.log = up_on_log sc w at part s serial up.found up.up in
    server_row_bounds sc (IsAsked sc w.actors.coordinators at) s mail (rightly at part s up)
    (record { values = old.values; kept = record { writes = old.writes; settled = old.settled; entries = old.entries } })
    (each_get IsBoundedMail w.mails n mail h.mails sent.sent) was.reads (received_clear sc w valid sound agrees pairs serial n mail at part s sent up)
    (orders_bounded sc w valid agrees serial n mail at part s sent up old.in_range was.reads.items_are)

receipt_by_server_in_bounds : (sc : Scenario) (w : State) → IsValid sc → WaitRightly sc w → IsSound sc w → PreparesNamed w → Agrees sc w → Pairs sc w → Serial sc w → Bounds sc w → (n : ℕ) (mail : Mail) (at : ServerId) (part : Part Server) (s : Server)
    → WasSent w n mail (actor.Server at) → IsServerUp w at part s → MoveBounds sc (server_move w.actors at (acts_by (server_fact at) [] part.log (server_row sc s mail)))
receipt_by_server_in_bounds sc w valid rightly sound named agrees pairs serial h n mail at part s sent up =
    let effect = server_row sc s mail in
    let row : ServerBounds effect = server_sends_bounded sc w valid rightly sound named agrees pairs serial h n mail at part s sent up in
    let brings = server_brings sc w valid rightly sound named agrees pairs serial n mail at part s sent up in
    let after : UpOnLog sc effect.state (log_with part.log effect.reaction.append) =
    acts_on_log sc (IsAsked sc w.actors.coordinators at) s part.log effect (up_on_log sc w at part s serial up.found up.up) brings.agrees brings.keeps (record_ends sc w at part effect.reaction.append agrees up.found brings.rests) in
    let range : are_in_range sc.items effect.state.store.values ≡ true =
    ap (are_in_range sc.items) after.values ∙ log_in_range sc part.log effect.reaction.append (serial.servers at.0 part up.found).tested (h.servers at.0 part up.found).in_range in
    server_acts_bounds sc w at part (Some effect.state) [] effect.reaction.append effect.reaction.letters serial h up.found
    (record {
      in_range = range;
      values = values_most sc effect.state.store.values valid brings.keeps.reads.items_are range;
      writes = row.kept.writes;
      settled = row.kept.settled;
      entries = row.kept.entries;
    }) tt row.forces row.letters

-- ---- a coordinator acts

pub coordinator_acts_bounds : (sc : Scenario) (w : State) (txn : TxnId) (part : Part Coordinator) (now : Option Coordinator) (own : List What) (append : Option Record) (letters : List Letter) → Bounds sc w
    → slice_get w.actors.coordinators txn.0 ≡ Some part → IfSome now CoordinatorLow → Each IsBoundedWhat own → IfSome append IsBoundedRecord → Each IsBoundedLetter letters
    → MoveBounds sc (coordinator_move w.actors txn (acts coordinator_fact own part.log now (log_with part.log append) letters))
coordinator_acts_bounds sc w txn part now own append letters h found state told forces said =
    let records : Each IsBoundedRecord (log_with part.log append) = records_with part.log append (h.coordinators txn.0 part found).records forces in
    let next : Part Coordinator = record { up = now; log = log_with part.log append } in
    record {
      servers = h.servers;
      coordinators = at_set (λ (n : ℕ) (p : Part Coordinator). CoordinatorPartLow p) w.actors.coordinators txn.0 next h.coordinators (record { state = state; records = records });
      letters = said;
      happened = told_by coordinator_fact own part.log (log_with part.log append) coordinator_tells told records;
    }

low_of : (sc : Scenario) (w : State) (txn : TxnId) (part : Part Coordinator) (c : Coordinator) → Bounds sc w → IsCoordinatorUp w txn part c → CoordinatorLow c
low_of sc w txn part c h up = of_some CoordinatorLow part.up c up.up (h.coordinators txn.0 part up.found).state

-- the row of a coordinator on a mail that was sent
pub coordinator_sends_bounded : (sc : Scenario) (w : State) → IsValid sc → Bounds sc w → (n : ℕ) (mail : Mail) (txn : TxnId) (part : Part Coordinator) (c : Coordinator) → WasSent w n mail (actor.Coordinator txn) → IsCoordinatorUp w txn part c
    → CoordinatorBounds (coordinator_row sc c mail)
coordinator_sends_bounded sc w valid h n mail txn part c sent up =
    coordinator_row_bounds sc c mail valid (have_homes sc valid) (low_of sc w txn part c h up) (each_get IsBoundedMail w.mails n mail h.mails sent.sent)

receipt_by_coordinator_in_bounds : (sc : Scenario) (w : State) → IsValid sc → Bounds sc w → (n : ℕ) (mail : Mail) (txn : TxnId) (part : Part Coordinator) (c : Coordinator) → WasSent w n mail (actor.Coordinator txn)
    → IsCoordinatorUp w txn part c → MoveBounds sc (coordinator_move w.actors txn (acts_by coordinator_fact [] part.log (coordinator_row sc c mail)))
receipt_by_coordinator_in_bounds sc w valid h n mail txn part c sent up =
    let effect = coordinator_row sc c mail in
    let row : CoordinatorBounds effect = coordinator_sends_bounded sc w valid h n mail txn part c sent up in
    coordinator_acts_bounds sc w txn part (Some effect.state) [] effect.reaction.append effect.reaction.letters h up.found row.state tt row.forces row.letters

begun_bounds : (sc : Scenario) (w : State) → IsValid sc → Bounds sc w → (txn : TxnId) (part : Part Coordinator) (c : Coordinator) → IsCoordinatorUp w txn part c → is_part_submitted (Some c) ≡ false
    → MoveBounds sc (coordinator_move w.actors txn (acts_by coordinator_fact (what.Submitted txn ∷ []) part.log (with_age (submit_row sc c) (length w.steps))))
begun_bounds sc w valid h txn part c up new =
    let effect = with_age (submit_row sc c) (length w.steps) in
    let row : CoordinatorBounds effect = submit_row_bounds sc c (length w.steps) valid (have_homes sc valid) (low_of sc w txn part c h up) new in
    coordinator_acts_bounds sc w txn part (Some effect.state) (what.Submitted txn ∷ []) effect.reaction.append effect.reaction.letters h up.found row.state (tt, tt) row.forces row.letters

-- ---- steps

bounds_cases : (sc : Scenario) (w : State) → IsValid sc → WaitRightly sc w → IsSound sc w → PreparesNamed w → Agrees sc w → Pairs sc w → Serial sc w → Bounds sc w → Cases sc w (λ taken move. MoveBounds sc move)
bounds_cases sc w valid rightly sound named agrees pairs serial h =
    record {
      idle = idle_bounds sc w h;
      server_received = λ n mail at part s sent up. receipt_by_server_in_bounds sc w valid rightly sound named agrees pairs serial h n mail at part s sent up;
      coordinator_received = λ n mail txn part c sent up. receipt_by_coordinator_in_bounds sc w valid h n mail txn part c sent up;
      authority_told = λ n mail sent. still_bounds sc w w.actors.authority w.actors.master [] _ h tt (authority_says_none w.actors.authority mail.letter.body);
      master_told = λ n mail sent. still_bounds sc w w.actors.authority w.actors.master [] _ h tt (master_says_none w.actors.master mail.letter.body);
      published = λ admin exists more.
          still_bounds sc w w.actors.authority (master.after_publication admin w.actors.master) (what.Published admin (master.next_of w.actors.master admin) ∷ []) [] h (tt, tt) tt;
      pushed = λ admin server exists there. still_bounds sc w w.actors.authority w.actors.master [] (master.pushes w.actors.master admin server).reaction.letters h tt (tt, tt);
      ticked = λ by. still_bounds sc w (office.after_tick by w.actors.authority) w.actors.master (what.Ticked by ∷ []) [] h (tt, tt) tt;
      revoked = λ cred exists. still_bounds sc w (office.after_revocation cred w.actors.authority) w.actors.master (what.Revoked cred ∷ []) [] h (tt, tt) tt;
      begun = λ txn part c exists up new. begun_bounds sc w valid h txn part c up new;
      timed = λ txn part c exists up begun.
          still_bounds sc w w.actors.authority w.actors.master [] (repeats sc c c.phase) h tt (repeats_bounded sc c valid (have_homes sc valid) (low_of sc w txn part c h up));
    }

-- a step that is not refused keeps all values within their bounds
pub bounds_next : (sc : Scenario) (m : Machine) (taken : Step) → IsValid sc → IsStepOf sc taken → KeepsUp taken → refusal m.state taken ≡ None → WaitRightly sc m.state → IsSound sc m.state → PreparesNamed m.state → Agrees sc m.state → Pairs sc m.state → Serial sc m.state
    → Bounds sc m.state → Bounds sc (machine_after sc m taken).state
bounds_next sc m taken valid exists stays allowed rightly sound named agrees pairs serial h =
    machine_after_by sc m (λ taken move. MoveBounds sc move) (Bounds sc) (bounds_cases sc m.state valid rightly sound named agrees pairs serial h) agrees.coordinator_count
    (λ taken move t. state_after_bounds sc m.state taken move h t) taken exists stays allowed

-- ---- before the first step

opening_server : (sc : Scenario) (at : ServerId) → IsValid sc → IsBoundedServer sc (server_opened.opening sc at)
opening_server sc at valid =
    record {
      in_range = opening_in_range sc valid;
      values = values_most sc (opening_store sc) valid (length-map sc.items opening_value) (opening_in_range sc valid);
      writes = opened_each (λ (txn : TxnId) (write : TentativeWrite). IsBoundedWrite write) (server_opened.opening sc at).store (length sc.txns) refl;
      settled = placed_none (λ (n : ℕ) (done : Settled). IsBoundedSettled done) (length sc.txns);
      entries = placed_none (λ (n : ℕ) (entry : Entry). IsBoundedEntry entry) (length sc.txns);
    }

pub bounds_opening : (sc : Scenario) → IsValid sc → Bounds sc (opening_state sc)
bounds_opening sc valid =
    record {
      servers = λ n part e. at_made (λ (k : ℕ) (found : Part Server). IsBoundedServerPart sc found) (λ (k : ℕ). opened_part (server_opened.opening sc (record { 0 = k }))) 0 (length sc.servers)
          (λ k within. record { state = opening_server sc (record { 0 = k }) valid; records = tt; in_range = opening_in_range sc valid }) n part e;
      coordinators = λ n part e. at_made (λ (k : ℕ) (found : Part Coordinator). CoordinatorPartLow found) (λ (k : ℕ). opened_part (coord_opened.idle sc (record { 0 = k }))) 0 (length sc.txns)
          (λ k within. record { state = record { deeds = tt; low = tt }; records = tt }) n part e;
      mails = tt;
      facts = tt;
    }

-- ---- for the world

-- deeds that exist are of the first 16 queries
deeds_low : (sc : Scenario) (txn : TxnId) (declared : Transaction) (deeds : List Deed) → slice_get sc.txns txn.0 ≡ Some declared → length declared.queries < 17 → Each (IsSoundDeed sc txn) deeds → AreBefore 17 deeds
deeds_low sc txn declared deeds e few h =
    each_as (IsSoundDeed sc txn) (λ (deed : Deed). deed.query < 17)
    (λ deed k.
    let asked : query_at declared deed.query ≡ Some k.asked = sym (ap (λ (found : Option Transaction). option_and_then (λ (d : Transaction). query_at d deed.query) found) e) ∙ k.asked_is in
    let low = number_low declared deed.query k.asked (omega (arith, few)) asked in
    omega (arith, low)) deeds h

coordinator_bounded : (sc : Scenario) (c : Coordinator) → IsValid sc → Each (IsSoundDeed sc c.txn) c.deeds → CoordinatorLow c → IsBoundedCoordinator sc c
coordinator_bounded sc c valid sound h =
    record {
      deeds = h.deeds;
      sums = λ declared e.
          let few = (have_homes sc valid).few c.txn.0 declared e in
          sums_exact sc declared c.deeds (each_get (λ (txn : Transaction). is_valid_txn sc txn ≡ true) sc.txns c.txn.0 declared valid.txns e)
          (deeds_low sc c.txn declared c.deeds e (omega (arith, few)) sound) h.deeds;
    }

both_up_in_bounds : (sc : Scenario) (txn : TxnId) (up : Option Coordinator) → IsValid sc → IfSome up (IsSoundCoordinatorUp sc txn) → IfSome up CoordinatorLow → IfSome up (IsBoundedCoordinator sc)
both_up_in_bounds sc txn None valid sound h = tt
both_up_in_bounds sc txn (Some c) valid sound h = coordinator_bounded sc c valid sound.sound.deeds h

-- every value of the world is bounded
pub all_bounded : (sc : Scenario) (w : State) → IsValid sc → IsSound sc w → Bounds sc w → AreBounded sc w
all_bounded sc w valid sound h =
    record {
      servers = h.servers;
      coordinators = λ n part e.
          record { state = both_up_in_bounds sc (record { 0 = n }) part.up valid (sound.actors_are.coordinators n part e).state (h.coordinators n part e).state; records = (h.coordinators n part e).records };
      mails_are = h.mails;
      facts_are = h.facts;
    }
