-- Serial data, step by step: it holds before the first step, and each step keeps it.
use Rattle.std.proofs.Common.{IfSome, List, None, Option, Some, [], ap, arith, false, length, option_and_then, option_map, refl, replicate, slice_get, subst, suc, sym, unwrap_or, zero, ℕ, ◌<◌, ◌∙◌, ◌∷◌, ◌≡◌}
use Rattle.std.proofs.lemmas.List.{length-map, length-replicate}
use Rattle.std.proofs.lemmas.Option.{same_Some, slice_get_within}
use Rattle.tp_model.specs.Queries.{item_of}
use Rattle.tp_model.specs.SerialRun.{opening_store, opening_value, overlay}
use Rattle.tp_model.specs.Words.actor
use Rattle.tp_model.specs.Words.body
use Rattle.tp_model.specs.Words.step
use Rattle.tp_model.specs.Words.what
use Rattle.tp_model.specs.Words.{Actor, Body, Mail, Prepared, Query, QueryRequest, Record, Scenario, ServerId, Step, TxnId, What}
use Rattle.tp_runs.proofs.agreement.Coordinator.{IsFirst, submission_unforced}
use Rattle.tp_runs.proofs.agreement.Logs.{IsAsked, IsPrepared}
use Rattle.tp_runs.proofs.agreement.Server.{CastVote, ServerAgrees, cast_in, vote_by, vote_of}
use Rattle.tp_runs.proofs.agreement.Steps.{coordinator_lawful, mail_rests, mail_sound, own_txn, server_agrees, server_lawful}
use Rattle.tp_runs.proofs.agreement.World.{Agrees, BodyRests, PreparesNamed}
use Rattle.tp_types.proofs.EachLemmas.{at_made, each_get, none_if_not_some, placed_none, unset_at}
use Rattle.tp_runs.proofs.ids.Valid.{IsValid}
use Rattle.tp_runs.proofs.locked.World.{IsLockedServer, ServersLocked, locked_next, locked_opening}
use Rattle.tp_runs.proofs.pairs.Actors.{BodyPairs, LetterPairs, QueryAt, asker_at, pair_at, pair_up, site_of}
use Rattle.tp_runs.proofs.pairs.Fits.{Fits, QueryFits}
use Rattle.tp_runs.proofs.basics.Found.{of_some}
use Rattle.tp_runs.proofs.pairs.Pair.{Pair}
use Rattle.tp_runs.proofs.pairs.Rises.{rises}
use Rattle.tp_runs.proofs.pairs.ServerRows.{same_answer}
use Rattle.tp_runs.proofs.known.World.{Pairs, declared_by, pair_of_up}
use Rattle.tp_runs.proofs.serial_data.Clear.{clear_of_others, commit_ready}
use Rattle.tp_runs.proofs.deeds.Opening.{opening_in_range}
use Rattle.tp_runs.proofs.serial_data.Deciding.{RecordUp, coordinator_acts_serial, coordinator_row_own, record_up}
use Rattle.tp_runs.proofs.deeds.Ranges.{AreTested}
use Rattle.tp_runs.proofs.deeds.Reads.{ReadsFrom}
use Rattle.tp_runs.proofs.serial_data.Rows.{QueryRises, RequestClear, ServerReads, deeds_in, server_row_keeps}
use Rattle.tp_runs.proofs.serial_data.OnLog.{no_log_reads}
use Rattle.tp_runs.proofs.serial_data.Receiving.{ServerReceives, server_receives_serial}
use Rattle.tp_runs.proofs.serial_data.Settling.{unmoved_serial}
use Rattle.tp_runs.proofs.serial_data.UpOnLog.{UpOnLog}
use Rattle.tp_runs.proofs.deeds.Tentative.{AreLast, none_last}
use Rattle.tp_runs.proofs.serial_data.World.{MoveSerial, Serial, ServerPartSerial, state_after_serial, up_on_log}
use Rattle.tp_runs.proofs.walks.Steps.{Cases, IsCoordinatorUp, IsServerUp, KeepsUp, SaysIdle, WaitRightly, WasSent, machine_after_by}
use Rattle.tp_recover.specs.Log.{prepared_in}
use Rattle.tp_machine.specs.Logs.{decided_at, decided_by}
use Rattle.tp_machine.specs.Machine.{Machine, State, acts_by, coordinator_fact, coordinator_move, idle_move, is_part_submitted, machine_after, opened_part, opening_state, refusal, server_fact, server_move, with_age}
use Rattle.tp_machine.specs.Parts.{Part}
use Rattle.tp_runs.specs.Sound.{IsSound, IsSoundBody, IsSoundQuery}
use Rattle.tp_machine.specs.Named.{IsStepOf, IsTxn}
use Rattle.tp_coord.specs.Opened as coord
use Rattle.tp_coord.specs.Opened.{idle}
use Rattle.tp_coord.specs.Row.{coordinator_row, repeats, submit_row}
use Rattle.tp_coord.specs.State.{Coordinator}
use Rattle.tp_server.specs.declared.server.Ballot.{Ballot}
use Rattle.tp_server.specs.declared.server.Entry.{Entry}
use Rattle.tp_server.specs.Opened as server
use Rattle.tp_server.specs.Row.{entry_at, server_row}
use Rattle.tp_server.specs.State.{Server}
use Rattle.tp_offices.specs.Authority as office
use Rattle.tp_offices.specs.Master as master
use Rattle.tp_store.specs.declared.writes.TentativeWrite.{TentativeWrite}

-- ---- receipts

idle_serial : (sc : Scenario) (w : State) → Serial sc w → (taken : Step) (happened : List What) → SaysIdle taken happened → MoveSerial sc w (idle_move w.actors happened)
idle_serial sc w h (step.Deliver mail) happened e = subst (λ (hs : List What). MoveSerial sc w (idle_move w.actors hs)) (sym e) (unmoved_serial sc w w.actors [] [] h refl refl tt)
idle_serial sc w h (step.Lose mail) happened e =
    subst (λ (hs : List What). MoveSerial sc w (idle_move w.actors hs)) (sym e) (unmoved_serial sc w w.actors (what.Lost mail ∷ []) [] h refl refl (tt, tt))
idle_serial sc w h _ happened e = absurd e

-- a query comes after those that have run
query_rises : (sc : Scenario) (w : State) (at : ServerId) (part : Part Server) (s : Server) (q : QueryRequest) → IsServerUp w at part s → IsSoundQuery sc (actor.Server at) q → Pairs sc w
    → QueryAt sc (pair_at w.actors) (actor.Server at) q → QueryRises sc s q
query_rises sc w at part s q up sound pairs asked =
    let there = declared_by sc q.txn sound.txn in
    let same : pair_at w.actors q.txn at.0 ≡ pair_up q.txn (asker_at w.actors.coordinators q.txn.0 at.0) s part.log = pair_of_up w.actors at part s q.txn up.found up.up in
    let site = site_of sc at.0 there.0 in
    let p = pair_up q.txn (asker_at w.actors.coordinators q.txn.0 at.0) s part.log in
    let fits : Fits site p = subst (Fits site) same (pairs.fits q.txn at.0 there.0 there.1) in
    let query : QueryFits site p q = subst (λ (x : Pair). QueryFits site x q) same (asked there.0 there.1) in
    record {
      exists = sound.txn;
      on_item = λ found is.
          let one : found ≡ sound.asked = same_Some found sound.asked (sym is ∙ sound.asked_is) in
          subst (λ (x : Query). (item_of x).0 < length sc.items) (sym one) (slice_get_within sc.items (item_of sound.asked).0 sound.kept.declared sound.kept.declared_is);
      rises = λ entry found unvoted unanswered.
          rises site p entry q refl found fits query (same_answer q.query entry.answers ∙ unanswered) (none_if_not_some entry.ballot unvoted);
    }

-- what was voted on at a server is what is prepared there, which was tested
voted_tested : (sc : Scenario) (s : Server) (kept : List Record) (txn : TxnId) → ServerAgrees s kept → ((p : Prepared) → prepared_in txn kept ≡ Some p → AreTested sc p.deeds)
    → (entry : Entry) (cast : Ballot) → entry_at s txn ≡ Some entry → entry.ballot ≡ Some cast → AreTested sc entry.deeds
voted_tested sc s kept txn a tested entry cast found ballot_is =
    by_log (prepared_in txn kept) refl (a.prepared txn ∙ (ap (option_and_then cast_in) found ∙ ap (option_map (vote_by entry)) ballot_is))
  where
    by_log : (old : Option Prepared) → prepared_in txn kept ≡ old → option_map vote_of old ≡ Some (vote_by entry cast) → AreTested sc entry.deeds
    by_log None e f = absurd (cc)
    by_log (Some p) e f = subst (AreTested sc) (ap (λ (v : CastVote). v.deeds) (same_Some (vote_of p) (vote_by entry cast) f)) (tested p e)

-- what is known of a mail to a server: of a query, of a request to prepare, and of an order to end, whose transaction locks keep apart
request_clear : (sc : Scenario) (w : State) (at : ServerId) (part : Part Server) (s : Server) (from : Actor) (said : Body) → IsLockedServer sc s → IsServerUp w at part s → Pairs sc w
    → Agrees sc w → Serial sc w → IsSoundBody sc (actor.Server at) said → BodyRests sc w.actors from (actor.Server at) said → BodyPairs sc (pair_at w.actors) from (actor.Server at) said
    → RequestClear sc (IsAsked sc w.actors.coordinators at) s said
request_clear sc w at part s from (body.Query q) locked up pairs agrees serial sound rests paired = query_rises sc w at part s q up sound pairs paired
request_clear sc w at part s from (body.Decide d) locked up pairs agrees serial sound rests paired = record { exists = sound.txn; clear = clear_of_others sc s d.txn locked }
request_clear sc w at part s from (body.Prepare p) locked up pairs agrees serial sound rests paired = record { made = rests; tested = voted_tested sc s part.log p.txn (server_agrees sc w at part s agrees up) ((serial.servers at.0 part up.found).tested p.txn); ends = record { exists = sound.txn; clear = clear_of_others sc s p.txn locked } }
request_clear sc w at part s from _ locked up pairs agrees serial sound rests paired = tt

-- so it is known of a mail that was sent
pub received_clear : (sc : Scenario) (w : State) → IsValid sc → IsSound sc w → Agrees sc w → Pairs sc w → Serial sc w → (n : ℕ) (mail : Mail) (at : ServerId) (part : Part Server) (s : Server)
    → WasSent w n mail (actor.Server at) → IsServerUp w at part s → RequestClear sc (IsAsked sc w.actors.coordinators at) s mail.letter.body
received_clear sc w valid sound agrees pairs serial n mail at part s sent up =
    let said : BodyPairs sc (pair_at w.actors) mail.letter.from (actor.Server at) mail.letter.body =
    subst (λ (to : Actor). BodyPairs sc (pair_at w.actors) mail.letter.from to mail.letter.body) sent.goes_to (each_get (λ (m : Mail). LetterPairs sc (pair_at w.actors) m.letter) w.mails n mail pairs.mails sent.sent) in
    request_clear sc w at part s mail.letter.from mail.letter.body (of_some (IsLockedServer sc) part.up s up.up (serial.locked at.0 part up.found)) up pairs agrees serial (mail_sound sc w n mail (actor.Server at) sound sent)
    (mail_rests sc w n mail (actor.Server at) agrees sent) said

-- what a server that is up brings to the receipt of a mail that was sent
pub server_brings : (sc : Scenario) (w : State) → IsValid sc → WaitRightly sc w → IsSound sc w → PreparesNamed w → Agrees sc w → Pairs sc w → Serial sc w → (n : ℕ) (mail : Mail) (at : ServerId) (part : Part Server) (s : Server)
    → WasSent w n mail (actor.Server at) → IsServerUp w at part s → ServerReceives sc w at part s (server_row sc s mail)
server_brings sc w valid rightly sound named agrees pairs h n mail at part s sent up =
    let was : UpOnLog sc s part.log = up_on_log sc w at part s h up.found up.up in
    record {
      found = up.found;
      up = up.up;
      locked = of_some (IsLockedServer sc) part.up s up.up (h.locked at.0 part up.found);
      agrees = server_agrees sc w at part s agrees up;
      keeps = server_row_keeps sc (IsAsked sc w.actors.coordinators at) s mail (rightly at part s up) was.reads
          (received_clear sc w valid sound agrees pairs h n mail at part s sent up);
      rests = (server_lawful sc w rightly named agrees n mail at part s sent up).rests;
    }

receipt_by_server_in_serial_data : (sc : Scenario) (w : State) → IsValid sc → WaitRightly sc w → IsSound sc w → PreparesNamed w → Agrees sc w → Pairs sc w → Serial sc w → (n : ℕ) (mail : Mail) (at : ServerId) (part : Part Server) (s : Server)
    → WasSent w n mail (actor.Server at) → IsServerUp w at part s → MoveSerial sc w (server_move w.actors at (acts_by (server_fact at) [] part.log (server_row sc s mail)))
receipt_by_server_in_serial_data sc w valid rightly sound named agrees pairs h n mail at part s sent up =
    server_receives_serial sc w at part s (server_row sc s mail) agrees h (server_brings sc w valid rightly sound named agrees pairs h n mail at part s sent up)

receipt_by_coordinator_in_serial_data : (sc : Scenario) (w : State) → IsValid sc → IsSound sc w → Agrees sc w → Pairs sc w → Serial sc w → (n : ℕ) (mail : Mail) (txn : TxnId) (part : Part Coordinator) (c : Coordinator)
    → WasSent w n mail (actor.Coordinator txn) → IsCoordinatorUp w txn part c → MoveSerial sc w (coordinator_move w.actors txn (acts_by coordinator_fact [] part.log (coordinator_row sc c mail)))
receipt_by_coordinator_in_serial_data sc w valid sound agrees pairs h n mail txn part c sent up =
    let own : c.txn ≡ txn = own_txn sc w txn part c sound up.found up.up in
    let effect = coordinator_row sc c mail in
    let exists : IsTxn sc txn = (sound.actors_are.coordinators txn.0 part up.found).exists in
    let there = declared_by sc txn exists in
    coordinator_acts_serial sc w txn part (Some effect.state) [] effect.reaction.append effect.reaction.letters valid agrees pairs h
    (record {
      exists = exists;
      found = up.found;
      quiet = tt;
      fresh = subst (λ (t : TxnId). IfSome effect.reaction.append (IsFirst sc (IsPrepared w.actors.servers txn) t part.log)) own (coordinator_lawful sc w sound agrees n mail txn part c sent up).fresh;
      forces = record_up part c effect.reaction.append up.up (coordinator_row_own sc c mail);
    })
    (λ other declared none r. commit_ready sc w txn part other declared valid agrees h up.found none r)

begun_serial : (sc : Scenario) (w : State) → IsValid sc → IsSound sc w → Agrees sc w → Pairs sc w → Serial sc w → (txn : TxnId) (part : Part Coordinator) (c : Coordinator) → IsTxn sc txn → IsCoordinatorUp w txn part c
    → is_part_submitted (Some c) ≡ false → MoveSerial sc w (coordinator_move w.actors txn (acts_by coordinator_fact (what.Submitted txn ∷ []) part.log (with_age (submit_row sc c) (length w.steps))))
begun_serial sc w valid sound agrees pairs h txn part c exists up new =
    let effect = with_age (submit_row sc c) (length w.steps) in
    let none : effect.reaction.append ≡ None = (submission_unforced sc c (length w.steps)).forces in
    let there = declared_by sc txn exists in
    coordinator_acts_serial sc w txn part (Some effect.state) (what.Submitted txn ∷ []) effect.reaction.append effect.reaction.letters valid agrees pairs h
    (record {
      exists = exists;
      found = up.found;
      quiet = (tt, tt);
      fresh = subst (λ (append : Option Record). IfSome append (IsFirst sc (IsPrepared w.actors.servers txn) txn part.log)) (sym none) tt;
      forces = subst (λ (append : Option Record). IfSome append (RecordUp part)) (sym none) tt;
    })
    (λ other declared undecided r. commit_ready sc w txn part other declared valid agrees h up.found undecided r)

-- ---- steps

serial_cases : (sc : Scenario) (w : State) → IsValid sc → WaitRightly sc w → IsSound sc w → PreparesNamed w → Agrees sc w → Pairs sc w → Serial sc w → Cases sc w (λ taken move. MoveSerial sc w move)
serial_cases sc w valid rightly sound named agrees pairs h =
    record {
      idle = idle_serial sc w h;
      server_received = λ n mail at part s sent up. receipt_by_server_in_serial_data sc w valid rightly sound named agrees pairs h n mail at part s sent up;
      coordinator_received = λ n mail txn part c sent up. receipt_by_coordinator_in_serial_data sc w valid sound agrees pairs h n mail txn part c sent up;
      authority_told = λ n mail sent. unmoved_serial sc w w.actors [] (office.authority_row w.actors.authority mail).reaction.letters h refl refl tt;
      master_told = λ n mail sent. unmoved_serial sc w w.actors [] (master.master_row w.actors.master mail).reaction.letters h refl refl tt;
      published = λ admin exists more.
          unmoved_serial sc w (record w.actors { master = master.after_publication admin w.actors.master }) (what.Published admin (master.next_of w.actors.master admin) ∷ []) [] h refl refl (tt, tt);
      pushed = λ admin server exists there. unmoved_serial sc w w.actors [] (master.pushes w.actors.master admin server).reaction.letters h refl refl tt;
      ticked = λ by. unmoved_serial sc w (record w.actors { authority = office.after_tick by w.actors.authority }) (what.Ticked by ∷ []) [] h refl refl (tt, tt);
      revoked = λ cred exists. unmoved_serial sc w (record w.actors { authority = office.after_revocation cred w.actors.authority }) (what.Revoked cred ∷ []) [] h refl refl (tt, tt);
      begun = λ txn part c exists up new. begun_serial sc w valid sound agrees pairs h txn part c exists up new;
      timed = λ txn part c exists up begun. unmoved_serial sc w w.actors [] (repeats sc c c.phase) h refl refl tt;
    }

-- a step that is not refused keeps data serial
pub serial_next : (sc : Scenario) (m : Machine) (taken : Step) → IsValid sc → IsStepOf sc taken → KeepsUp taken → refusal m.state taken ≡ None → WaitRightly sc m.state → IsSound sc m.state → PreparesNamed m.state → Agrees sc m.state → Pairs sc m.state → Serial sc m.state
    → Serial sc (machine_after sc m taken).state
serial_next sc m taken valid exists stays allowed rightly sound named agrees pairs h =
    machine_after_by sc m (λ taken move. MoveSerial sc m.state move) (λ w. ServersLocked sc w.actors.servers → Serial sc w) (serial_cases sc m.state valid rightly sound named agrees pairs h) agrees.coordinator_count
    (λ taken move t locked. state_after_serial sc m.state taken move agrees h t locked) taken exists stays allowed (locked_next sc m taken exists stays allowed rightly sound agrees pairs h.locked)

-- ---- before the first step

opened_writes : {A : Type 0} (count n : ℕ) → unwrap_or (slice_get (replicate {A = List A} count []) n) [] ≡ []
opened_writes zero n = refl
opened_writes (suc count) zero = refl
opened_writes (suc count) (suc n) = opened_writes count n

opening_reads : (sc : Scenario) (at : ServerId) → ServerReads sc (server.opening sc at)
opening_reads sc at =
    record {
      reads = placed_none (λ (n : ℕ) (entry : Entry). ReadsFrom (opening_store sc) entry.deeds) (length sc.txns);
      items_are = length-map sc.items opening_value;
      bounds_are = refl;
      places = length-replicate (length sc.txns) [];
      entry_places = length-replicate (length sc.txns) None;
      last = λ txn. subst (λ (ws : List TentativeWrite). AreLast ws (deeds_in (entry_at (server.opening sc at) txn))) (sym (opened_writes (length sc.txns) txn.0))
          (subst (λ (found : Option Entry). AreLast [] (deeds_in found)) (sym (unset_at (length sc.txns) txn.0)) none_last);
    }

opening_serial : (sc : Scenario) (k : ℕ) → ServerPartSerial sc (overlay sc []) (record { 0 = k }) (opened_part (server.opening sc (record { 0 = k })))
opening_serial sc k =
    record {
      kept = λ n item found here. refl;
      log = no_log_reads sc;
      tested = λ txn p e. absurd (cc);
      state = record { reads = opening_reads sc (record { 0 = k }); values = refl };
    }

none_decided : (sc : Scenario) (txn : ℕ) → decided_at (opening_state sc).actors.coordinators txn ≡ None
none_decided sc txn = there (slice_get (opening_state sc).actors.coordinators txn) refl
  where
    there : (found : Option (Part Coordinator)) → slice_get (opening_state sc).actors.coordinators txn ≡ found → option_and_then decided_by found ≡ None
    there None e = refl
    there (Some part) e =
        at_made (λ (k : ℕ) (p : Part Coordinator). decided_by p ≡ None) (λ (k : ℕ). opened_part (coord.idle sc (record { 0 = k }))) 0 (length sc.txns) (λ k within. refl) txn part e

-- the world before the first step
pub serial_opening : (sc : Scenario) → IsValid sc → Serial sc (opening_state sc)
serial_opening sc valid =
    record {
      servers = λ n part e. subst (λ (k : ℕ). ServerPartSerial sc (overlay sc []) (record { 0 = k }) part) (omega arith)
          (at_made (λ (k : ℕ) (found : Part Server). ServerPartSerial sc (overlay sc []) (record { 0 = k }) found) (λ (k : ℕ). opened_part (server.opening sc (record { 0 = k }))) 0 (length sc.servers)
          (λ k within. opening_serial sc k) n part e);
      locked = locked_opening sc;
      shares = λ txn at committed p d e. absurd (let none = none_decided sc txn.0 in cc);
      store = λ at. record { covered = λ item deeds v own u e. absurd (let none = none_decided sc u.txn.0 in let some = u.decided in cc); bare = λ item own none. refl };
      facts = tt;
      range = opening_in_range sc valid;
    }
