-- Deaths for an older transaction over every list of steps: each abort by one is shown by the facts.
use Rattle.std.proofs.Common.{IfSome, List, None, Option, Some, [], ap, arith, drop, flat_map, length, option_and_then, option_map, refl, slice_get, subst, sym, ℕ, ◌++◌, ◌+◌, ◌<◌, ◌∙◌, ◌∷◌, ◌≡◌}
use Rattle.std.proofs.lemmas.List.{length_push}
use Rattle.std.proofs.lemmas.Option.{same_Some}
use Rattle.tp_model.specs.Authorisation.{action_of}
use Rattle.tp_model.specs.Queries.{item_of}
use Rattle.tp_model.specs.Words.actor
use Rattle.tp_model.specs.Words.body
use Rattle.tp_model.specs.Words.log
use Rattle.tp_model.specs.Words.step
use Rattle.tp_model.specs.Words.what
use Rattle.tp_model.specs.Words.{Body, DoneReply, Fact, Letter, Mail, Query, Record, Scenario, ServerId, Settled, Step, TxnId, What}
use Rattle.tp_runs.proofs.ages.Actors.{BodyAged, EntryAged, ran_age}
use Rattle.tp_runs.proofs.ages.World.{Ages, IsSubmission, MailAged}
use Rattle.tp_runs.proofs.agreement.Logs.{outcome_settled}
use Rattle.tp_runs.proofs.agreement.CoordinatorActs.{coordinator_facts}
use Rattle.tp_runs.proofs.agreement.ServerActs.{each_server_fact, server_facts}
use Rattle.tp_runs.proofs.agreement.Steps.{mail_sound, own_txn, server_agrees}
use Rattle.tp_runs.proofs.agreement.World.{Agrees}
use Rattle.tp_runs.proofs.basics.Facts.{ArePast, each_new_fact, each_new_mail, facts_after, grows_with_facts, said, settlements}
use Rattle.tp_types.proofs.EachLemmas.{at_made, at_set, each_append, each_as, each_get, placed_none}
use Rattle.tp_runs.proofs.basics.Locks.{no_locks, stands_in_the_way}
use Rattle.tp_runs.proofs.basics.Logs.{gained, listed}
use Rattle.tp_runs.proofs.deaths.Coordinators.{ActDies, CoordinatorActsDie, RecordDies, coordinator_row_dies, repeats_none, submit_row_dies}
use Rattle.tp_runs.proofs.deaths.Dying.{dies_for}
use Rattle.tp_runs.proofs.deaths.Fit.{Adds, BodyDies, Death, DoneDies, FactDies, LetterDies, LockFits, WhatDies, body_dies_still, done_stays, what_dies_still}
use Rattle.tp_runs.proofs.deaths.Servers.{AnswersDie, AskerKnown, ServerDies, server_row_dies}
use Rattle.tp_runs.proofs.deaths.Told.{Told, told_next}
use Rattle.tp_runs.proofs.basics.Found.{of_some}
use Rattle.tp_runs.proofs.known.World.{HasPlaces, Pairs}
use Rattle.tp_runs.proofs.walks.Steps.{Cases, IsCoordinatorUp, IsServerUp, KeepsUp, SaysIdle, WaitRightly, WasSent, machine_after_by}
use Rattle.tp_recover.specs.Log.{settled_in}
use Rattle.tp_machine.specs.Logs.{settled_by}
use Rattle.tp_machine.specs.Machine.{Machine, Move, State, acts, acts_by, coordinator_fact, coordinator_move, facts_of, idle_move, machine_after, mails_of, opened_part, opening_state, refusal, server_fact, server_move, state_after, with_age}
use Rattle.tp_actor_log.specs.Records.{log_with}
use Rattle.tp_machine.specs.Parts.{Part}
use Rattle.tp_types.specs.Each.{Each, EachAt, EachPlaced}
use Rattle.tp_runs.specs.Sound.{IsItemOf, IsSound, IsSoundBody, IsSoundQuery, IsSoundServerUp}
use Rattle.tp_machine.specs.Named.{IsStepOf}
use Rattle.tp_coord.specs.Row.{coordinator_row, repeats, submit_row}
use Rattle.tp_coord.specs.State.{Coordinator}
use Rattle.tp_machine.specs.declared.actors.Actors.{Actors}
use Rattle.tp_server.specs.declared.server.Entry.{Entry}
use Rattle.tp_server.specs.Opened as server_opened
use Rattle.tp_server.specs.Row.{entry_at, server_row}
use Rattle.tp_server.specs.State.{Server}
use Rattle.tp_offices.specs.Authority as office
use Rattle.tp_offices.specs.Master as master
use Rattle.tp_offices.specs.declared.authority.Authority.{Authority}
use Rattle.tp_offices.specs.declared.master.Master.{Master}

-- ---- the invariant

abbrev pub ServersDie : Scenario → List Fact → List (Part Server) → Type 0
ServersDie sc facts servers = EachAt (λ (n : ℕ) (part : Part Server). IfSome part.up (ServerDies sc facts (record { 0 = n }))) servers

abbrev pub MailDies : Scenario → List Fact → Mail → Type 0
MailDies sc facts mail = BodyDies sc facts mail.sent mail.letter.from mail.letter.body

-- locks have owners, answers and aborts by a death are shown, mails were sent before, and submissions are told
pub record Deaths (sc : Scenario) (w : State) : Type 0 where
  pub servers : ServersDie sc w.facts w.actors.servers
  pub mails : Each (MailDies sc w.facts) w.mails
  pub sent : Each (λ (mail : Mail). mail.sent < length w.steps) w.mails
  pub facts : Each (FactDies sc w.facts) w.facts
  pub told : Told w

-- ---- a move

pub record MoveDies (sc : Scenario) (w : State) (move : Move) : Type 0 where
  pub servers : ServersDie sc w.facts move.actors.servers
  pub letters : Each (LetterDies sc w.facts (length w.steps)) move.letters
  pub happened : Each (WhatDies sc (facts_after w move.happened) (length w.steps)) move.happened

adds : (w : State) (happened : List What) → ArePast (length w.steps) w.facts → Adds w.facts (facts_after w happened) (length w.steps)
adds w happened past = record { more = facts_of (length w.steps) happened; new_is = refl; past = past; grows = grows_with_facts w.facts (length w.steps) happened }

servers_still : (sc : Scenario) (old new : List Fact) (place : ℕ) (at : ServerId) (up : Option Server) → Adds old new place → IfSome up (ServerDies sc old at) → IfSome up (ServerDies sc new at)
servers_still sc old new place at None a h = tt
servers_still sc old new place at (Some s) a h =
    record {
      locks = h.locks;
      kept = λ n entry found. each_as (DoneDies sc old at) (DoneDies sc new at) (λ done d. done_stays sc old new place at done a d) entry.answers (h.kept n entry found);
    }

new_mails_sent : (place number : ℕ) (letters : List Letter) → Each (λ (mail : Mail). mail.sent < place + 1) (mails_of place number letters)
new_mails_sent place number [] = tt
new_mails_sent place number (letter ∷ letters) = (omega arith, new_mails_sent place (number + 1) letters)

pub state_after_deaths : (sc : Scenario) (w : State) (taken : Step) (move : Move) → ArePast (length w.steps) w.facts → Deaths sc w → MoveDies sc w move → Told (state_after w taken move) → Deaths sc (state_after w taken move)
state_after_deaths sc w taken move past h t told =
    let place = length w.steps in
    let now = facts_after w move.happened in
    let a = adds w move.happened past in
    record {
      servers = λ n part e. servers_still sc w.facts now place (record { 0 = n }) part.up a (t.servers n part e);
      mails = each_append (MailDies sc now) w.mails (mails_of place (length w.mails) move.letters)
          (old_mails w.mails h.sent h.mails)
          (each_new_mail (LetterDies sc now) place (length w.mails) move.letters
          (each_as (LetterDies sc w.facts place) (LetterDies sc now place) (λ letter d. body_dies_still sc w.facts now place place letter.from letter.body a (omega arith) d) move.letters t.letters));
      sent = subst (λ (steps : ℕ). Each (λ (mail : Mail). mail.sent < steps) (w.mails ++ mails_of place (length w.mails) move.letters)) (sym (length_push w.steps taken))
          (each_append (λ (mail : Mail). mail.sent < place + 1) w.mails (mails_of place (length w.mails) move.letters)
          (each_as (λ (mail : Mail). mail.sent < place) (λ (mail : Mail). mail.sent < place + 1) (λ mail less. omega (arith, less)) w.mails h.sent) (new_mails_sent place (length w.mails) move.letters));
      facts = each_append (FactDies sc now) w.facts (facts_of place move.happened)
          (old_facts w.facts past h.facts)
          (each_new_fact (WhatDies sc now) place move.happened t.happened);
      told = told;
    }
  where
    old_mails : (mails : List Mail) → Each (λ (mail : Mail). mail.sent < length w.steps) mails → Each (MailDies sc w.facts) mails → Each (MailDies sc (facts_after w move.happened)) mails
    old_mails [] s d = tt
    old_mails (mail ∷ mails) s d =
        let less = s.0 in
        (body_dies_still sc w.facts (facts_after w move.happened) (length w.steps) mail.sent mail.letter.from mail.letter.body (adds w move.happened past) (omega (arith, less)) d.0, old_mails mails s.1 d.1)

    old_facts : (facts : List Fact) → ArePast (length w.steps) facts → Each (FactDies sc w.facts) facts → Each (FactDies sc (facts_after w move.happened)) facts
    old_facts [] p d = tt
    old_facts (fact ∷ facts) p d =
        let less = p.0 in
        (what_dies_still sc w.facts (facts_after w move.happened) (length w.steps) fact.place fact.what (adds w move.happened past) (omega (arith, less)) d.0, old_facts facts p.1 d.1)

-- ---- acts

-- no actor that has deaths acts
still_deaths : (sc : Scenario) (w : State) (happened : List What) (letters : List Letter) (actors : Actors) → Deaths sc w → actors.servers ≡ w.actors.servers → Each (λ (x : What). (facts : List Fact) → WhatDies sc facts (length w.steps) x) happened
    → Each (LetterDies sc w.facts (length w.steps)) letters → MoveDies sc w (record { actors = actors; happened = happened; letters = letters })
still_deaths sc w happened letters actors h same told said_so =
    record {
      servers = subst (ServersDie sc w.facts) (sym same) h.servers;
      letters = said_so;
      happened = each_as (λ (x : What). (facts : List Fact) → WhatDies sc facts (length w.steps) x) (WhatDies sc (facts_after w happened) (length w.steps)) (λ x d. d (facts_after w happened)) happened told;
    }

idle_deaths : (sc : Scenario) (w : State) (taken : Step) (happened : List What) → Deaths sc w → SaysIdle taken happened → MoveDies sc w (idle_move w.actors happened)
idle_deaths sc w (step.Deliver mail) happened h e = subst (λ (hs : List What). MoveDies sc w (idle_move w.actors hs)) (sym e) (still_deaths sc w [] [] w.actors h refl tt tt)
idle_deaths sc w (step.Lose mail) happened h e = subst (λ (hs : List What). MoveDies sc w (idle_move w.actors hs)) (sym e) (still_deaths sc w (what.Lost mail ∷ []) [] w.actors h refl (λ facts. tt, tt) tt)
idle_deaths sc w _ happened h e = absurd e

tells_no_death : (sc : Scenario) (facts : List Fact) (place : ℕ) (authority : Authority) (said : Body) → Each (LetterDies sc facts place) (office.on_body authority said).reaction.letters
tells_no_death sc facts place authority (body.Ask ask) = (tt, tt)
tells_no_death sc facts place authority _ = tt

newest_no_death : (sc : Scenario) (facts : List Fact) (place : ℕ) (held : Master) (said : Body) → Each (LetterDies sc facts place) (master.on_body held said).reaction.letters
newest_no_death sc facts place held (body.Probe probe) = (tt, tt)
newest_no_death sc facts place held _ = tt

decided_by_death : (sc : Scenario) (facts : List Fact) (place : ℕ) (append : Option Record) → IfSome append (RecordDies sc facts place) → Each (WhatDies sc facts place) (coordinator_facts append)
decided_by_death sc facts place None h = tt
decided_by_death sc facts place (Some (log.Decided d)) h = (h, tt)
decided_by_death sc facts place (Some (log.Settled s)) h = tt
decided_by_death sc facts place (Some log.Boot) h = tt
decided_by_death sc facts place (Some (log.Told told)) h = tt
decided_by_death sc facts place (Some (log.Prepared p)) h = tt

-- ---- a server acts

none_settled_in_deaths : (found : Option Settled) → found ≡ None → listed (option_map outcome_settled found) ≡ []
none_settled_in_deaths None e = refl
none_settled_in_deaths (Some s) e = absurd (cc)

-- a transaction with an entry was not settled at the server
entry_open : (sc : Scenario) (w : State) (at : ServerId) (part : Part Server) (s : Server) (txn : TxnId) (entry : Entry) → Agrees sc w → IsServerUp w at part s → entry_at s txn ≡ Some entry → settlements at txn (said w.facts) ≡ []
entry_open sc w at part s txn entry a up found =
    let open_is : settled_in txn part.log ≡ None = (server_agrees sc w at part s a up).unsettled txn.0 entry found in
    let here : option_and_then (settled_by txn) (slice_get w.actors.servers at.0) ≡ None = ap (option_and_then (settled_by txn)) up.found ∙ open_is in
    a.settled at txn ∙ none_settled_in_deaths (option_and_then (settled_by txn) (slice_get w.actors.servers at.0)) here

asker_known : (sc : Scenario) (w : State) (n : ℕ) (mail : Mail) (at : ServerId) (part : Part Server) (s : Server) → IsSound sc w → Agrees sc w → Ages w → Pairs sc w → Deaths sc w → WasSent w n mail (actor.Server at) → IsServerUp w at part s
    → s.server ≡ at → AskerKnown sc w.facts s mail
asker_known sc w n mail at part s sound a ages pairs h sent up own =
    let heard : IsSoundBody sc (actor.Server at) mail.letter.body = mail_sound sc w n mail (actor.Server at) sound sent in
    let here : ServerDies sc w.facts at s = of_some (ServerDies sc w.facts at) part.up s up.up (h.servers at.0 part up.found) in
    let aged = of_some (λ (t : Server). EachPlaced (EntryAged (IsSubmission w.steps)) t.entries) part.up s up.up (ages.servers at.0 part up.found).entries in
    let told : BodyAged (IsSubmission w.steps) mail.sent mail.letter.body = each_get (MailAged (IsSubmission w.steps)) w.mails n mail ages.sent sent.sent in
    record {
      places = of_some (HasPlaces sc) part.up s up.up (pairs.places at.0 part up.found);
      exists = λ q e. (subst (IsSoundBody sc (actor.Server at)) e heard).txn;
      dying = λ q query entry value other k dying.
          let m : IsSoundQuery sc (actor.Server at) q = subst (IsSoundBody sc (actor.Server at)) k.said_is heard in
          let same : query ≡ m.asked = same_Some query m.asked (sym k.asked_is ∙ m.asked_is) in
          let at_is : m.at ≡ at = server_is m.at m.goes_to in
          let kept : IsItemOf sc at (item_of query) = subst (λ (x : Query). IsItemOf sc at (item_of x)) (sym same) (subst (λ (x : ServerId). IsItemOf sc x (item_of m.asked)) at_is m.kept) in
          let way = stands_in_the_way (LockFits sc s.entries) q.txn entry.age (item_of query) (action_of query) s.locks other here.locks dying in
          let its : IsSubmission w.steps way.lock.owner way.lock.age = subst (IsSubmission w.steps way.lock.owner) way.is.age_is (aged way.lock.owner.0 way.is.entry way.is.found) in
          let open_is : settlements at other (said w.facts) ≡ [] = subst (λ (t : TxnId). settlements at t (said w.facts) ≡ []) way.owner_is (entry_open sc w at part s way.lock.owner way.is.entry a up way.is.found) in
          subst (λ (x : ServerId). Death sc w.facts x q.txn other q.query) (sym own)
          (dies_for sc w at s.entries q.txn other q.query entry.age query way.lock h.told (ran_age (IsSubmission w.steps) sc s mail q query entry value aged told k) its k.asked_is kept way.is way.elder way.owner_is open_is);
    }
  where
    server_is : (other : ServerId) → actor.Server at ≡ actor.Server other → other ≡ at
    server_is other e = cc

-- what a step says by itself shows no death, with any facts
abbrev pub SaysNoDeath : Scenario → ℕ → List What → Type 0
SaysNoDeath sc place own = Each (λ (x : What). (facts : List Fact) → WhatDies sc facts place x) own

says_no_death : (sc : Scenario) (place : ℕ) (facts : List Fact) (own : List What) → SaysNoDeath sc place own → Each (WhatDies sc facts place) own
says_no_death sc place facts own plain = each_as (λ (x : What). (now : List Fact) → WhatDies sc now place x) (WhatDies sc facts place) (λ x d. d facts) own plain

-- what an act of a server leaves and says in a step at this place, whether the server is up after it or down
pub record ServerActsDie (sc : Scenario) (facts : List Fact) (place : ℕ) (at : ServerId) (now : Option Server) (own : List What) (letters : List Letter) : Type 0 where
  pub state : IfSome now (ServerDies sc facts at)
  pub own_says : SaysNoDeath sc place own
  pub sends : Each (LetterDies sc facts place) letters

-- the move of such an act
pub server_acts_deaths : (sc : Scenario) (w : State) (at : ServerId) (part : Part Server) (now : Option Server) (own : List What) (append : Option Record) (letters : List Letter) → Deaths sc w
    → ServerActsDie sc w.facts (length w.steps) at now own letters → MoveDies sc w (server_move w.actors at (acts (server_fact at) own part.log now (log_with part.log append) letters))
server_acts_deaths sc w at part now own append letters h k =
    let new : Part Server = record { up = now; log = log_with part.log append } in
    let gains = flat_map (server_fact at) (drop (length part.log) (log_with part.log append)) in
    let tells : gains ≡ server_facts at append = gained (server_fact at) part.log append in
    let P = WhatDies sc (facts_after w (own ++ gains)) (length w.steps) in
    record {
      servers = at_set (λ (m : ℕ) (p : Part Server). IfSome p.up (ServerDies sc w.facts (record { 0 = m }))) w.actors.servers at.0 new h.servers k.state;
      letters = k.sends;
      happened = each_append P own gains (says_no_death sc (length w.steps) (facts_after w (own ++ gains)) own k.own_says) (subst (Each P) (sym tells) (each_server_fact P at (λ txn ended. tt) append));
    }

server_moves_in_deaths : (sc : Scenario) (w : State) (n : ℕ) (mail : Mail) (at : ServerId) (part : Part Server) (s : Server) → WaitRightly sc w → IsSound sc w → Agrees sc w → Ages w → Pairs sc w → Deaths sc w → WasSent w n mail (actor.Server at)
    → IsServerUp w at part s → MoveDies sc w (server_move w.actors at (acts_by (server_fact at) [] part.log (server_row sc s mail)))
server_moves_in_deaths sc w n mail at part s rightly sound a ages pairs h sent up =
    let own : IsSoundServerUp sc at s = of_some (IsSoundServerUp sc at) part.up s up.up (sound.actors_are.servers at.0 part up.found).state in
    let effect = server_row sc s mail in
    let here : ServerDies sc w.facts at s = of_some (ServerDies sc w.facts at) part.up s up.up (h.servers at.0 part up.found) in
    let row = server_row_dies sc w.facts (length w.steps) s mail a.past (rightly at part s up) (asker_known sc w n mail at part s sound a ages pairs h sent up own.server_is)
    (subst (λ (x : ServerId). ServerDies sc w.facts x s) (sym own.server_is) here) in
    server_acts_deaths sc w at part (Some effect.state) [] effect.reaction.append effect.reaction.letters h
    (record { state = subst (λ (x : ServerId). ServerDies sc w.facts x effect.state) own.server_is row.state; own_says = tt; sends = row.letters })

-- ---- a coordinator acts

-- the move of a coordinator that acts so, whether it is up after it or down
pub coordinator_acts_deaths : (sc : Scenario) (w : State) (txn : TxnId) (part : Part Coordinator) (now : Option Coordinator) (own : List What) (append : Option Record) (letters : List Letter) → ArePast (length w.steps) w.facts → Deaths sc w
    → SaysNoDeath sc (length w.steps) own → CoordinatorActsDie sc w.facts (length w.steps) append letters
    → MoveDies sc w (coordinator_move w.actors txn (acts coordinator_fact own part.log now (log_with part.log append) letters))
coordinator_acts_deaths sc w txn part now own append letters past h plain row =
    let gains = flat_map coordinator_fact (drop (length part.log) (log_with part.log append)) in
    let tells : gains ≡ coordinator_facts append = gained coordinator_fact part.log append in
    let after = facts_after w (own ++ gains) in
    let P = WhatDies sc after (length w.steps) in
    record {
      servers = h.servers;
      letters = row.sends;
      happened = each_append P own gains (says_no_death sc (length w.steps) after own plain)
          (subst (Each P) (sym tells) (decided_by_death sc after (length w.steps) append (row.forces after (adds w (own ++ gains) past))));
    }

-- the row of a coordinator on a mail that was sent
pub coordinator_sends_deaths : (sc : Scenario) (w : State) → IsSound sc w → Deaths sc w → (n : ℕ) (mail : Mail) (txn : TxnId) (part : Part Coordinator) (c : Coordinator) → WasSent w n mail (actor.Coordinator txn) → IsCoordinatorUp w txn part c
    → ActDies sc w.facts (length w.steps) (coordinator_row sc c mail)
coordinator_sends_deaths sc w sound h n mail txn part c sent up =
    let heard : IsSoundBody sc (actor.Coordinator txn) mail.letter.body = mail_sound sc w n mail (actor.Coordinator txn) sound sent in
    let same : c.txn ≡ txn = own_txn sc w txn part c sound up.found up.up in
    coordinator_row_dies sc w.facts (length w.steps) c mail (each_get (λ (m : Mail). m.sent < length w.steps) w.mails n mail h.sent sent.sent) (each_get (MailDies sc w.facts) w.mails n mail h.mails sent.sent)
    (λ done e. own_done done (subst (IsSoundBody sc (actor.Coordinator txn)) e heard).goes_to ∙ sym same)
  where
    own_done : (done : DoneReply) → actor.Coordinator txn ≡ actor.Coordinator done.txn → done.txn ≡ txn
    own_done done e = cc

-- ---- steps

deaths_cases : (sc : Scenario) (w : State) → WaitRightly sc w → IsSound sc w → Agrees sc w → Ages w → Pairs sc w → Deaths sc w → Cases sc w (λ taken move. MoveDies sc w move)
deaths_cases sc w rightly sound a ages pairs h =
    record {
      idle = λ taken happened e. idle_deaths sc w taken happened h e;
      server_received = λ n mail at part s sent up. server_moves_in_deaths sc w n mail at part s rightly sound a ages pairs h sent up;
      coordinator_received = λ n mail txn part c sent up.
          let effect = coordinator_row sc c mail in
          coordinator_acts_deaths sc w txn part (Some effect.state) [] effect.reaction.append effect.reaction.letters a.past h tt (coordinator_sends_deaths sc w sound h n mail txn part c sent up);
      authority_told = λ n mail sent. still_deaths sc w [] (office.authority_row w.actors.authority mail).reaction.letters w.actors h refl tt (tells_no_death sc w.facts (length w.steps) w.actors.authority mail.letter.body);
      master_told = λ n mail sent. still_deaths sc w [] (master.master_row w.actors.master mail).reaction.letters w.actors h refl tt (newest_no_death sc w.facts (length w.steps) w.actors.master mail.letter.body);
      published = λ admin exists more.
          still_deaths sc w (what.Published admin (master.next_of w.actors.master admin) ∷ []) [] (record w.actors { master = master.after_publication admin w.actors.master }) h refl (λ facts. tt, tt) tt;
      pushed = λ admin server exists there. still_deaths sc w [] (master.pushes w.actors.master admin server).reaction.letters w.actors h refl tt (tt, tt);
      ticked = λ by. still_deaths sc w (what.Ticked by ∷ []) [] (record w.actors { authority = office.after_tick by w.actors.authority }) h refl (λ facts. tt, tt) tt;
      revoked = λ cred exists. still_deaths sc w (what.Revoked cred ∷ []) [] (record w.actors { authority = office.after_revocation cred w.actors.authority }) h refl (λ facts. tt, tt) tt;
      begun = λ txn part c exists up new.
          let effect = with_age (submit_row sc c) (length w.steps) in
          coordinator_acts_deaths sc w txn part (Some effect.state) (what.Submitted txn ∷ []) effect.reaction.append effect.reaction.letters a.past h (λ facts. tt, tt) (submit_row_dies sc w.facts (length w.steps) c);
      timed = λ txn part c exists up begun. still_deaths sc w [] (repeats sc c c.phase) w.actors h refl tt (repeats_none sc w.facts (length w.steps) c);
    }

-- a step that is not refused keeps that deaths are shown
pub deaths_next : (sc : Scenario) (m : Machine) (taken : Step) → IsStepOf sc taken → KeepsUp taken → refusal m.state taken ≡ None → WaitRightly sc m.state → IsSound sc m.state → Agrees sc m.state → Ages m.state → Pairs sc m.state → Deaths sc m.state
    → Deaths sc (machine_after sc m taken).state
deaths_next sc m taken exists stays allowed rightly sound a ages pairs h =
    machine_after_by sc m (λ taken_is move. MoveDies sc m.state move) (λ w. Told w → Deaths sc w) (deaths_cases sc m.state rightly sound a ages pairs h) a.coordinator_count
    (λ taken_is move t told. state_after_deaths sc m.state taken_is move a.past h t told) taken exists stays allowed (told_next sc m taken exists stays allowed a h.told)

-- before the first step nothing was asked
pub deaths_opening : (sc : Scenario) → Deaths sc (opening_state sc)
deaths_opening sc =
    record {
      servers = λ n part e. subst (λ (k : ℕ). IfSome part.up (ServerDies sc [] (record { 0 = k }))) (omega arith)
          (at_made (λ (k : ℕ) (found : Part Server). IfSome found.up (ServerDies sc [] (record { 0 = k }))) (λ (k : ℕ). opened_part (server_opened.opening sc (record { 0 = k }))) 0 (length sc.servers)
          (λ k within. record { locks = no_locks (LockFits sc (server_opened.opening sc (record { 0 = k })).entries) (length sc.items); kept = placed_none (λ (m : ℕ) (entry : Entry). AnswersDie sc [] (record { 0 = k }) entry) (length sc.txns) }) n part e);
      mails = tt;
      sent = tt;
      facts = tt;
      told = λ txn place e. absurd (cc);
    }
