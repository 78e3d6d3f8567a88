-- Weights of worlds: what a step adds by its letters, what waits at servers, and the requests that are still to be
-- made. An automatic step makes them less.
use Rattle.std.specs.List.{range_with_len}
use Rattle.std.specs.Option.{option_map_or}
use Rattle.std.proofs.Common.{List, None, Option, Some, [], ap, arith, append_assoc, false, inl, inr, length, map, option_map, refl, slice_get, slice_set, subst, suc, sym, true, zero, ℕ, ⊎_elim, ◌*◌, ◌++◌, ◌+◌, ◌-◌, ◌∙◌, ◌∷◌, ◌≡◌, ◌≤◌, ◌⊎◌}
use Rattle.std.proofs.lemmas.List.{length-append}
use Rattle.std.proofs.lemmas.Option.{same_Some}
use Rattle.tp_model.specs.Facts.{outcome_of}
use Rattle.tp_model.specs.Valid.{is_valid}
use Rattle.tp_model.specs.Words.actor
use Rattle.tp_model.specs.Words.body
use Rattle.tp_model.specs.Words.outcome
use Rattle.tp_model.specs.Words.step
use Rattle.tp_model.specs.Words.what
use Rattle.tp_model.specs.Words.{Body, Decision, Letter, Mail, Outcome, Prepared, Scenario, ServerId, Step, TxnId, What}
use Rattle.tp_recover.proofs.KeptLemmas.{kept_law}
use Rattle.tp_model.specs.ByAge.{by_txn}
use Rattle.tp_recover.specs.Kept.{kept}
use Rattle.tp_recover.specs.Log.{decided_in}
use Rattle.tp_coord.specs.Booted as coord_boot
use Rattle.tp_coord.specs.Opened.{idle, servers_at}
use Rattle.tp_coord.specs.Row as coord
use Rattle.tp_coord.specs.State.{Coordinator}
use Rattle.tp_coord.specs.declared.coordinator.Phase.{Phase}
use Rattle.tp_coord.specs.declared.coordinator.Phase.TheVariants as phase
use Rattle.tp_machine.proofs.basics.Flags.{length_mails_of}
use Rattle.tp_machine.proofs.basics.Machine.{steps_next}
use Rattle.tp_machine.specs.Machine.{Machine, Move, State, acts_by, coordinator_fact, coordinator_move, goes_down, is_part_submitted, machine_after, mails_of, refusal, server_boots, server_fact, server_move, state_after, with_age}
use Rattle.tp_actor_log.specs.Records.{log_with}
use Rattle.tp_machine.specs.Named.{IsStepOf}
use Rattle.tp_machine.specs.Parts.{Part}
use Rattle.tp_offices.specs.Authority as office
use Rattle.tp_offices.specs.Master as master
use Rattle.tp_offices.specs.declared.authority.Authority.{Authority}
use Rattle.tp_offices.specs.declared.master.Master.{Master}
use Rattle.tp_runs.proofs.basics.Booted.{records_of_scenario}
use Rattle.tp_runs.proofs.basics.Found.{of_some}
use Rattle.tp_runs.proofs.basics.Homes.{first_row_begins}
use Rattle.tp_runs.proofs.basics.Phases.{is_undecided}
use Rattle.tp_runs.proofs.basics.Turns.{query_count}
use Rattle.tp_runs.proofs.ids.Queries.{have_homes}
use Rattle.tp_runs.proofs.ids.Valid.{valid_of}
use Rattle.tp_runs.proofs.known.Waiting.{wait_rightly}
use Rattle.tp_runs.proofs.mails.Actors.{waits_in}
use Rattle.tp_runs.proofs.runs.Runs.{Holds}
use Rattle.tp_runs.proofs.walks.Crashes.{CrashCases, every_step_by}
use Rattle.tp_runs.proofs.walks.Steps.{Cases, IsCoordinatorUp, IsServerUp, SaysIdle, WasSent, machine_after_by}
use Rattle.tp_runs.proofs.weights.Awaiting.{AwaitFew, own_awaits, servers_at_few, some_servers}
use Rattle.tp_runs.proofs.weights.CoordinatorRows.{Asks, Rests, coordinator_row_lightens, submit_row_lightens, timer_lightens}
use Rattle.tp_runs.proofs.weights.ServerRows.{server_row_lightens}
use Rattle.tp_runs.proofs.weights.Turns.{may_ask}
use Rattle.tp_runs.proofs.weights.Weights.{left_to_ask, mapped_weigh, weigh_together, weight_at, weight_of, weights_at}
use Rattle.tp_server.specs.Booted.{boot_row, booted, inquiry, restored}
use Rattle.tp_server.specs.Row.{server_row}
use Rattle.tp_server.specs.State.{Server}
use Rattle.tp_runs.specs.Sound.{IsSoundCoordinatorUp}

-- ---- actors

abbrev pub weigh_all : {S : Type 0} → (Part S → ℕ) → List (Part S) → ℕ
weigh_all weight [] = 0
weigh_all weight (part ∷ parts) = weight part + weigh_all weight parts

-- one of them changes
pub all_set : {S : Type 0} (weight : Part S → ℕ) (parts : List (Part S)) (n : ℕ) (old new : Part S) → slice_get parts n ≡ Some old → weigh_all weight (slice_set parts n new) + weight old ≡ weigh_all weight parts + weight new
all_set weight [] n old new e = absurd (cc)
all_set {S = S} weight (part ∷ parts) zero old new e =
    let same : weight part ≡ weight old = ap weight (same_Some part old e) in
    let now : weigh_all weight (slice_set (part ∷ parts) zero new) ≡ weight new + weigh_all weight parts = refl in
    omega (arith, same, now)
all_set weight (part ∷ parts) (suc n) old new e =
    let now : weigh_all weight (slice_set (part ∷ parts) (suc n) new) ≡ weight part + weigh_all weight (slice_set parts n new) = refl in
    omega (arith, now, all_set weight parts n old new e)

-- a server that is up weighs what waits there; one that is down boots, and asks for the outcome of each of so many
-- transactions
abbrev pub server_weighs : ℕ → Part Server → ℕ
server_weighs txns part = option_map_or (λ (s : Server). waits_in s.entries) part.up (3 * txns + 1)

-- how many requests a coordinator may still make; one that is down boots
abbrev pub requests_of : ℕ → Part Coordinator → ℕ
requests_of queries part = option_map_or (left_to_ask queries) part.up 1

abbrev pub servers_weigh : Scenario → State → ℕ
servers_weigh sc w = weigh_all (server_weighs (length sc.txns)) w.actors.servers

abbrev pub requests_in : ℕ → State → ℕ
requests_in queries w = weigh_all (requests_of queries) w.actors.coordinators

-- ---- mails

-- what is new
abbrev pub news_weigh : State → State → ℕ
news_weigh before after = weights_at after.mails (range_with_len (length before.mails) (length after.mails - length before.mails))

here_in : {A : Type 0} (before : List A) (x : A) (more : List A) → slice_get (before ++ x ∷ more) (length before) ≡ Some x
here_in [] x more = refl
here_in (y ∷ before) x more = here_in before x more

more_mails : (before : List Mail) (place number : ℕ) (letters : List Letter) → number ≡ length before → weights_at (before ++ mails_of place number letters) (range_with_len number (length letters)) ≡ weigh_together letters
more_mails before place number [] e = refl
more_mails before place number (letter ∷ letters) e =
    let mail : Mail = record { number = number; sent = place; letter = letter } in
    let rest = mails_of place (number + 1) letters in
    let whole : before ++ mail ∷ rest ≡ (before ++ mail ∷ []) ++ rest = sym (append_assoc before (mail ∷ []) rest) in
    let later : weights_at ((before ++ mail ∷ []) ++ rest) (range_with_len (number + 1) (length letters)) ≡ weigh_together letters =
    more_mails (before ++ mail ∷ []) place (number + 1) letters (omega (arith, e, length-append before (mail ∷ []))) in
    let all : weights_at (before ++ mail ∷ rest) (range_with_len (number + 1) (length letters)) ≡ weigh_together letters =
    subst (λ (mails : List Mail). weights_at mails (range_with_len (number + 1) (length letters)) ≡ weigh_together letters) (sym whole) later in
    let first : weight_at (before ++ mail ∷ rest) number ≡ weight_of letter.body =
    ap (λ (found : Option Mail). option_map_or (λ (m : Mail). weight_of m.letter.body) found 0) (ap (slice_get (before ++ mail ∷ rest)) e ∙ here_in before mail rest) in
    omega (arith, first, all)

pub news_are : (w : State) (taken : Step) (move : Move) → news_weigh w (state_after w taken move) ≡ weigh_together move.letters
news_are w taken move =
    let place = length w.steps in
    let count : length (state_after w taken move).mails - length w.mails ≡ length move.letters =
    omega (arith, length-append w.mails (mails_of place (length w.mails) move.letters), length_mails_of place (length w.mails) move.letters) in
    ap (λ (k : ℕ). weights_at (state_after w taken move).mails (range_with_len (length w.mails) k)) count ∙ more_mails w.mails place (length w.mails) move.letters refl

-- ---- what a step is to do

-- all is lighter than before by what was delivered, and no request more is left
pub record Less (sc : Scenario) (queries worth : ℕ) (w next : State) : Type 0 where
  pub lighter : news_weigh w next + servers_weigh sc next + 1 ≤ worth + servers_weigh sc w
  pub no_more : requests_in queries next ≤ requests_in queries w

-- or it is little heavier, and a request fewer is left
pub record Fewer (sc : Scenario) (queries worth : ℕ) (w next : State) : Type 0 where
  pub few : news_weigh w next + servers_weigh sc next ≤ worth + servers_weigh sc w + 2 * length sc.servers
  pub fewer : requests_in queries next + 1 ≤ requests_in queries w

-- a timer sends little
pub record Repeats (sc : Scenario) (queries : ℕ) (w next : State) : Type 0 where
  pub few : news_weigh w next + servers_weigh sc next ≤ servers_weigh sc w + 2 * length sc.servers
  pub no_more : requests_in queries next ≤ requests_in queries w

abbrev pub Eases : Scenario → ℕ → State → Step → State → Type 0
Eases sc queries w (step.Deliver n) next = 1 ≤ weight_at w.mails n → Less sc queries (weight_at w.mails n) w next ⊎ Fewer sc queries (weight_at w.mails n) w next
Eases sc queries w (step.Submit txn) next = Fewer sc queries 0 w next
Eases sc queries w (step.Timer txn) next = Repeats sc queries w next
Eases sc queries w (step.Boot (actor.Server at)) next = Less sc queries 0 w next
Eases sc queries w (step.Boot (actor.Coordinator txn)) next = Fewer sc queries 0 w next
Eases sc queries w _ next = Unit {0}

abbrev EasesBy : Scenario → ℕ → State → Step → Move → Type 0
EasesBy sc queries w taken move = Eases sc queries w taken (state_after w taken move)

-- ---- receipts

received_weight : (w : State) (n : ℕ) (mail : Mail) → slice_get w.mails n ≡ Some mail → weight_at w.mails n ≡ weight_of mail.letter.body
received_weight w n mail e = ap (λ (found : Option Mail). option_map_or (λ (m : Mail). weight_of m.letter.body) found 0) e

received_by_server : (sc : Scenario) (w : State) (queries : ℕ) → Holds sc w → (n : ℕ) (mail : Mail) (at : ServerId) (part : Part Server) (s : Server) → WasSent w n mail (actor.Server at) → IsServerUp w at part s
    → EasesBy sc queries w (step.Deliver n) (server_move w.actors at (acts_by (server_fact at) [] part.log (server_row sc s mail)))
received_by_server sc w queries h n mail at part s sent up =
    let effect = server_row sc s mail in
    let move = server_move w.actors at (acts_by (server_fact at) [] part.log effect) in
    let new : Part Server = record { up = Some effect.state; log = log_with part.log effect.reaction.append } in
    let was : server_weighs (length sc.txns) part ≡ waits_in s.entries = ap (λ (u : Option Server). option_map_or (λ (k : Server). waits_in k.entries) u (3 * length sc.txns + 1)) up.up in
    let now : server_weighs (length sc.txns) new ≡ waits_in effect.state.entries = refl in
    λ some. inl (record {
      lighter = omega (
        arith,
        news_are w (step.Deliver n) move,
        received_weight w n mail sent.sent,
        was,
        now,
        all_set (server_weighs (length sc.txns)) w.actors.servers at.0 part new up.found,
        server_row_lightens sc s mail (wait_rightly sc w h.sound h.pairs at part s up),
      );
      no_more = omega arith;
    })

-- what a coordinator may ask after an act
requests_set : (queries : ℕ) (w : State) (txn : TxnId) (part new : Part Coordinator) (c : Coordinator) (now : Coordinator) → IsCoordinatorUp w txn part c → new.up ≡ Some now
    → weigh_all (requests_of queries) (slice_set w.actors.coordinators txn.0 new) + left_to_ask queries c ≡ requests_in queries w + left_to_ask queries now
requests_set queries w txn part new c now up e =
    let was : requests_of queries part ≡ left_to_ask queries c = ap (λ (u : Option Coordinator). option_map_or (left_to_ask queries) u 1) up.up in
    let is : requests_of queries new ≡ left_to_ask queries now = ap (λ (u : Option Coordinator). option_map_or (left_to_ask queries) u 1) e in
    omega (arith, was, is, all_set (requests_of queries) w.actors.coordinators txn.0 part new up.found)

received_by_coordinator : (sc : Scenario) (w : State) (queries : ℕ) → is_valid sc ≡ true → Holds sc w → AwaitFew sc w → ((t : TxnId) → query_count sc t ≤ queries) → (n : ℕ) (mail : Mail) (txn : TxnId) (part : Part Coordinator) (c : Coordinator)
    → WasSent w n mail (actor.Coordinator txn) → IsCoordinatorUp w txn part c → EasesBy sc queries w (step.Deliver n) (coordinator_move w.actors txn (acts_by coordinator_fact [] part.log (coord.coordinator_row sc c mail)))
received_by_coordinator sc w queries formed h few most n mail txn part c sent up =
    let effect = coord.coordinator_row sc c mail in
    let move = coordinator_move w.actors txn (acts_by coordinator_fact [] part.log effect) in
    let new : Part Coordinator = record { up = Some effect.state; log = log_with part.log effect.reaction.append } in
    let set = requests_set queries w txn part new c effect.state up refl in
    λ some. ⊎_elim
    (λ (rests : Rests queries c mail effect). inl (record {
      lighter = omega (arith, news_are w (step.Deliver n) move, received_weight w n mail sent.sent, rests.lighter);
      no_more = omega (arith, set, rests.no_more);
    }))
    (λ (asks : Asks queries (length sc.servers) c effect). inr (record {
      few = omega (arith, news_are w (step.Deliver n) move, asks.few);
      fewer = omega (arith, set, asks.fewer);
    }))
    (coordinator_row_lightens queries (length sc.servers) sc c mail (may_ask sc w queries txn part c formed h few most up))

authority_weighs : (authority : Authority) (said : Body) → weigh_together (office.on_body authority said).reaction.letters + 1 ≤ weight_of said
authority_weighs authority (body.Ask ask) = omega arith
authority_weighs authority (body.Query q) = omega arith
authority_weighs authority (body.Done done) = omega arith
authority_weighs authority (body.Tell tell) = omega arith
authority_weighs authority (body.Validate v) = omega arith
authority_weighs authority (body.Verdicts reply) = omega arith
authority_weighs authority (body.Prepare p) = omega arith
authority_weighs authority (body.Vote reply) = omega arith
authority_weighs authority (body.Probe probe) = omega arith
authority_weighs authority (body.Newest reply) = omega arith
authority_weighs authority (body.Decide order) = omega arith
authority_weighs authority (body.Ack ack) = omega arith
authority_weighs authority (body.Inquire inquiry) = omega arith
authority_weighs authority (body.Push push) = omega arith

master_weighs : (held : Master) (said : Body) → weigh_together (master.on_body held said).reaction.letters + 1 ≤ weight_of said
master_weighs held (body.Probe probe) = omega arith
master_weighs held (body.Ask ask) = omega arith
master_weighs held (body.Query q) = omega arith
master_weighs held (body.Done done) = omega arith
master_weighs held (body.Tell tell) = omega arith
master_weighs held (body.Validate v) = omega arith
master_weighs held (body.Verdicts reply) = omega arith
master_weighs held (body.Prepare p) = omega arith
master_weighs held (body.Vote reply) = omega arith
master_weighs held (body.Newest reply) = omega arith
master_weighs held (body.Decide order) = omega arith
master_weighs held (body.Ack ack) = omega arith
master_weighs held (body.Inquire inquiry) = omega arith
master_weighs held (body.Push push) = omega arith

-- a delivery to an actor that is down, or not there, leaves nothing
unheard : (sc : Scenario) (w : State) (queries : ℕ) (taken : Step) (happened : List What) → SaysIdle taken happened → EasesBy sc queries w taken (record { actors = w.actors; happened = happened; letters = [] })
unheard sc w queries (step.Deliver n) happened says =
    let none = news_are w (step.Deliver n) (record { actors = w.actors; happened = happened; letters = [] }) in
    λ some. inl (record { lighter = omega (arith, none, some); no_more = omega arith })
unheard sc w queries (step.Lose n) happened says = tt
unheard sc w queries (step.Submit txn) happened says = absurd says
unheard sc w queries (step.Timer txn) happened says = absurd says
unheard sc w queries (step.Publish admin) happened says = absurd says
unheard sc w queries (step.Push admin server) happened says = absurd says
unheard sc w queries (step.Tick by) happened says = absurd says
unheard sc w queries (step.Revoke cred) happened says = absurd says
unheard sc w queries (step.Crash who cut) happened says = absurd says
unheard sc w queries (step.Boot who) happened says = absurd says

-- ---- submissions and timers

idle_undecided : (awaited : Phase) → coord.is_begun awaited ≡ false → is_undecided awaited ≡ true
idle_undecided phase.Idle e = refl
idle_undecided (phase.Stapling number) e = refl
idle_undecided (phase.Querying number staple) e = refl
idle_undecided (phase.Probing number) e = refl
idle_undecided (phase.Asking over round) e = refl
idle_undecided (phase.Checking over round staple) e = refl
idle_undecided (phase.Reading over round) e = refl
idle_undecided (phase.Voting awaited) e = refl
idle_undecided phase.VoteProbing e = refl
idle_undecided (phase.Ending ended awaited) e = absurd (cc)

submitted_eases : (sc : Scenario) (w : State) (queries : ℕ) → is_valid sc ≡ true → Holds sc w → AwaitFew sc w → ((t : TxnId) → query_count sc t ≤ queries) → (txn : TxnId) (part : Part Coordinator) (c : Coordinator)
    → IsCoordinatorUp w txn part c → is_part_submitted (Some c) ≡ false
    → EasesBy sc queries w (step.Submit txn) (coordinator_move w.actors txn (acts_by coordinator_fact (what.Submitted txn ∷ []) part.log (with_age (coord.submit_row sc c) (length w.steps))))
submitted_eases sc w queries formed h few most txn part c up new =
    let effect = with_age (coord.submit_row sc c) (length w.steps) in
    let move = coordinator_move w.actors txn (acts_by coordinator_fact (what.Submitted txn ∷ []) part.log effect) in
    let next : Part Coordinator = record { up = Some effect.state; log = log_with part.log effect.reaction.append } in
    let set = requests_set queries w txn part next c effect.state up refl in
    let own : IsSoundCoordinatorUp sc txn c = of_some (IsSoundCoordinatorUp sc txn) part.up c up.up (h.sound.actors_are.coordinators txn.0 part up.found).state in
    let asks : Asks queries (length sc.servers) c effect =
    submit_row_lightens queries (length sc.servers) (length w.steps) sc c (may_ask sc w queries txn part c formed h few most up) (idle_undecided c.phase new)
    (first_row_begins sc c (have_homes sc (valid_of sc formed)) own.sound.exists) new in
    record { few = omega (arith, news_are w (step.Submit txn) move, asks.few); fewer = omega (arith, set, asks.fewer) }

timed_eases : (sc : Scenario) (w : State) (queries : ℕ) → is_valid sc ≡ true → AwaitFew sc w → (txn : TxnId) (part : Part Coordinator) (c : Coordinator) → IsCoordinatorUp w txn part c
    → EasesBy sc queries w (step.Timer txn) (record { actors = w.actors; happened = []; letters = coord.repeats sc c c.phase })
timed_eases sc w queries formed few txn part c up =
    let move : Move = record { actors = w.actors; happened = []; letters = coord.repeats sc c c.phase } in
    record {
      few = omega (arith, news_are w (step.Timer txn) move, timer_lightens (length sc.servers) sc c (some_servers sc formed) (own_awaits sc w txn part c few up));
      no_more = omega arith;
    }

easing_cases : (sc : Scenario) (w : State) (queries : ℕ) → is_valid sc ≡ true → Holds sc w → AwaitFew sc w → ((t : TxnId) → query_count sc t ≤ queries) → Cases sc w (EasesBy sc queries w)
easing_cases sc w queries formed h few most =
    record {
      idle = λ taken happened e. unheard sc w queries taken happened e;
      server_received = λ n mail at part s sent up. received_by_server sc w queries h n mail at part s sent up;
      coordinator_received = λ n mail txn part c sent up. received_by_coordinator sc w queries formed h few most n mail txn part c sent up;
      authority_told = λ n mail sent some.
          let move : Move = record { actors = w.actors; happened = []; letters = (office.authority_row w.actors.authority mail).reaction.letters } in
          inl (record { lighter = omega (arith, news_are w (step.Deliver n) move, received_weight w n mail sent.sent, authority_weighs w.actors.authority mail.letter.body); no_more = omega arith });
      master_told = λ n mail sent some.
          let move : Move = record { actors = w.actors; happened = []; letters = (master.master_row w.actors.master mail).reaction.letters } in
          inl (record { lighter = omega (arith, news_are w (step.Deliver n) move, received_weight w n mail sent.sent, master_weighs w.actors.master mail.letter.body); no_more = omega arith });
      published = λ admin exists more. tt;
      pushed = λ admin server exists there. tt;
      ticked = λ by. tt;
      revoked = λ cred exists. tt;
      begun = λ txn part c exists up new. submitted_eases sc w queries formed h few most txn part c up new;
      timed = λ txn part c exists up begun. timed_eases sc w queries formed few txn part c up;
    }

-- ---- boots

none_wait : (table : List (Option Prepared)) → waits_in (map (option_map restored) table) ≡ 0
none_wait [] = refl
none_wait (None ∷ table) = ap (λ (n : ℕ). 0 + n) (none_wait table)
none_wait (Some p ∷ table) = ap (λ (n : ℕ). 0 + n) (none_wait table)

listed_few : (table : List (Option Prepared)) → length (by_txn table) ≤ length table
listed_few [] = omega arith
listed_few (None ∷ table) = omega (arith, listed_few table)
listed_few (Some p ∷ table) = omega (arith, listed_few table)

inquiries_weigh : (s : Server) (prepared : List Prepared) → weigh_together (map (inquiry s) prepared) ≡ 3 * length prepared
inquiries_weigh s [] = omega arith
inquiries_weigh s (p ∷ prepared) =
    let later = inquiries_weigh s prepared in
    let own : weigh_together (map (inquiry s) (p ∷ prepared)) ≡ 3 + weigh_together (map (inquiry s) prepared) = refl in
    let more : length (p ∷ prepared) ≡ length prepared + 1 = omega arith in
    omega (arith, later, own, more)

server_booted_eases : (sc : Scenario) (w : State) (queries : ℕ) → is_valid sc ≡ true → Holds sc w → (at : ServerId) (part : Part Server) → slice_get w.actors.servers at.0 ≡ Some part → part.up ≡ None
    → EasesBy sc queries w (step.Boot (actor.Server at)) (server_move w.actors at (server_boots sc at part))
server_booted_eases sc w queries formed h at part found down =
    let k = kept sc at part.log in
    let effect = boot_row sc at k in
    let move = server_move w.actors at (server_boots sc at part) in
    let new : Part Server = record { up = Some effect.state; log = log_with part.log effect.reaction.append } in
    let says = kept_law sc at part.log (records_of_scenario sc at part.log (h.sound.actors_are.servers at.0 part found).records) in
    let places = says.prepared_places in
    let was : server_weighs (length sc.txns) part ≡ 3 * length sc.txns + 1 = ap (λ (u : Option Server). option_map_or (λ (s : Server). waits_in s.entries) u (3 * length sc.txns + 1)) down in
    let now : server_weighs (length sc.txns) new ≡ 0 = none_wait k.prepared in
    record {
      lighter = omega (
        arith,
        news_are w (step.Boot (actor.Server at)) move,
        was,
        now,
        places,
        inquiries_weigh (booted sc at k) (by_txn k.prepared),
        listed_few k.prepared,
        all_set (server_weighs (length sc.txns)) w.actors.servers at.0 part new found,
      );
      no_more = omega arith;
    }

orders_weigh : (sc : Scenario) (txn : TxnId) (ended : Outcome) → weigh_together (coord.decide_letters (idle sc txn) ended (servers_at sc txn)) ≤ 2 * length sc.servers
orders_weigh sc txn ended =
    omega (arith, mapped_weigh (λ (at : ServerId). coord.request (idle sc txn) at (body.Decide (record { txn = txn; outcome = ended }))) 2 (servers_at sc txn) (λ at. refl), servers_at_few sc txn)

coordinator_booted_eases : (sc : Scenario) (w : State) (queries : ℕ) (txn : TxnId) (part : Part Coordinator) (decided : Option Decision) → slice_get w.actors.coordinators txn.0 ≡ Some part → part.up ≡ None
    → EasesBy sc queries w (step.Boot (actor.Coordinator txn)) (coordinator_move w.actors txn (acts_by coordinator_fact [] part.log (coord_boot.boot_by sc txn decided)))
coordinator_booted_eases sc w queries txn part None found down =
    let effect = coord_boot.boot_by sc txn None in
    let new : Part Coordinator = record { up = Some effect.state; log = log_with part.log effect.reaction.append } in
    let was : requests_of queries part ≡ 1 = ap (λ (u : Option Coordinator). option_map_or (left_to_ask queries) u 1) down in
    let now : requests_of queries new ≡ 0 = refl in
    record {
      few = omega (arith, news_are w (step.Boot (actor.Coordinator txn)) (coordinator_move w.actors txn (acts_by coordinator_fact [] part.log effect)), orders_weigh sc txn outcome.Abort);
      fewer = omega (arith, was, now, all_set (requests_of queries) w.actors.coordinators txn.0 part new found);
    }
coordinator_booted_eases sc w queries txn part (Some decision_is) found down =
    let effect = coord_boot.boot_by sc txn (Some decision_is) in
    let new : Part Coordinator = record { up = Some effect.state; log = log_with part.log effect.reaction.append } in
    let was : requests_of queries part ≡ 1 = ap (λ (u : Option Coordinator). option_map_or (left_to_ask queries) u 1) down in
    let now : requests_of queries new ≡ 0 = refl in
    record {
      few = omega (arith, news_are w (step.Boot (actor.Coordinator txn)) (coordinator_move w.actors txn (acts_by coordinator_fact [] part.log effect)), orders_weigh sc txn (outcome_of decision_is));
      fewer = omega (arith, was, now, all_set (requests_of queries) w.actors.coordinators txn.0 part new found);
    }

-- ---- steps

-- the last step of a list that is one longer
last_is : (steps : List Step) (one other : Step) → steps ++ one ∷ [] ≡ steps ++ other ∷ [] → one ≡ other
last_is steps one other e = same_Some one other (sym (here_in steps one []) ∙ (ap (λ (all : List Step). slice_get all (length steps)) e ∙ here_in steps other []))

-- where the step that is taken is this one
abbrev EasesIf : Scenario → ℕ → State → Step → State → Type 0
EasesIf sc queries w taken next = next.steps ≡ w.steps ++ taken ∷ [] → Eases sc queries w taken next

eases_if : (sc : Scenario) (queries : ℕ) (w : State) (taken done : Step) (move : Move) → EasesBy sc queries w done move → EasesIf sc queries w taken (state_after w done move)
eases_if sc queries w taken done move h e = subst (λ (t : Step). Eases sc queries w t (state_after w done move)) (last_is w.steps done taken e) h

easing_crashed : (sc : Scenario) (w : State) (queries : ℕ) (taken : Step) → is_valid sc ≡ true → Holds sc w → CrashCases sc w (λ done move. EasesIf sc queries w taken (state_after w done move))
easing_crashed sc w queries taken formed h =
    record {
      server_crashed = λ at part s cut append up left. eases_if sc queries w taken (step.Crash (actor.Server at) cut) (server_move w.actors at (goes_down (server_fact at) (what.Crashed (actor.Server at) ∷ []) part append)) tt;
      server_booted = λ at part exists found down. eases_if sc queries w taken _ _ (server_booted_eases sc w queries formed h at part found down);
      coordinator_crashed = λ txn part c cut append exists up begun left.
          eases_if sc queries w taken (step.Crash (actor.Coordinator txn) cut) (coordinator_move w.actors txn (goes_down coordinator_fact (what.Crashed (actor.Coordinator txn) ∷ []) part append)) tt;
      coordinator_booted = λ txn part exists found down. eases_if sc queries w taken _ _ (coordinator_booted_eases sc w queries txn part (decided_in part.log) found down);
    }

-- a step that is not refused makes all lighter, where it is an automatic one
pub eases_next : (sc : Scenario) (m : Machine) (queries : ℕ) (taken : Step) → is_valid sc ≡ true → Holds sc m.state → AwaitFew sc m.state → ((t : TxnId) → query_count sc t ≤ queries) → IsStepOf sc taken → refusal m.state taken ≡ None
    → Eases sc queries m.state taken (machine_after sc m taken).state
eases_next sc m queries taken formed h few most exists allowed =
    every_step_by sc m (EasesIf sc queries m.state taken) (easing_crashed sc m.state queries taken formed h) h.agrees.server_count h.agrees.coordinator_count taken exists allowed
    (λ stays. machine_after_by sc m (EasesBy sc queries m.state) (EasesIf sc queries m.state taken) (easing_cases sc m.state queries formed h few most) h.agrees.coordinator_count
    (λ done move t. eases_if sc queries m.state taken done move t) taken exists stays allowed)
    (steps_next sc m taken)
