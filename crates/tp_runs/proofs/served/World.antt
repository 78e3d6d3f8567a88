-- Served, every world: a delivery to an actor that is up keeps each transaction served, and so does a timer, which
-- serves its own.
use Rattle.std.specs.List.{range_with_len}
use Rattle.std.specs.Option.{option_flatten}
use Rattle.std.proofs.Common.{Bool, List, Some, [], ap, append_assoc, arith, false, inl, inr, length, not, refl, slice_get, slice_set, subst, suc, sym, true, zero, ℕ, ⊎_elim, ◌&&◌, ◌++◌, ◌+◌, ◌-◌, ◌==◌, ◌∙◌, ◌∷◌, ◌≡◌, ◌⊎◌}
use Rattle.std.proofs.lemmas.Bool.{eqb-true, not-false}
use Rattle.std.proofs.lemmas.List.{length-append}
use Rattle.std.proofs.lemmas.Option.{same_Some, slice_get_within}
use Rattle.tp_types.proofs.EachLemmas.{set_here}
use Rattle.tp_types.proofs.ListLemmas.{number_itself}
use Rattle.tp_types.specs.Effect.{Effect}
use Rattle.tp_types.specs.Table.{is_unset}
use Rattle.tp_model.specs.Valid.{is_valid}
use Rattle.tp_model.specs.Words.actor
use Rattle.tp_model.specs.Words.body
use Rattle.tp_model.specs.Words.step
use Rattle.tp_model.specs.Words.{Actor, Body, DecideRequest, Letter, Mail, Outcome, Scenario, ServerId, Step, TxnId}
use Rattle.tp_coord.specs.Row as coord
use Rattle.tp_coord.specs.State.{Coordinator}
use Rattle.tp_coord.specs.declared.coordinator.Phase.{Phase}
use Rattle.tp_coord.specs.declared.coordinator.Phase.TheVariants as phase
use Rattle.tp_coord.specs.declared.coordinator.Span.TheVariants as span
use Rattle.tp_machine.proofs.basics.Flags.{length_mails_of}
use Rattle.tp_machine.specs.Machine.{Machine, Move, State, acts_by, coordinator_fact, coordinator_move, mails_of, server_fact, server_move, state_after, with_new, without_number}
use Rattle.tp_actor_log.specs.Records.{log_with}
use Rattle.tp_machine.specs.Parts.{Part}
use Rattle.tp_server.specs.Row as server
use Rattle.tp_server.specs.Row.{server_row}
use Rattle.tp_server.specs.State.{Server}
use Rattle.tp_runs.proofs.agreement.Steps.{own_txn}
use Rattle.tp_runs.proofs.basics.Folds.{set_elsewhere}
use Rattle.tp_runs.proofs.basics.Found.{of_some}
use Rattle.tp_runs.proofs.basics.Ids.{same_server_is, same_txn_from, txn_number}
use Rattle.tp_runs.proofs.basics.Phases.{Asks, Pauses, Prepares, is_undecided, stand_of}
use Rattle.tp_runs.proofs.known.Waiting.{wait_rightly}
use Rattle.tp_runs.proofs.runs.Runs.{Holds}
use Rattle.tp_runs.proofs.served.Awaited.{IsAskedOf, IsMail, IsRepliedBy, IsRequest, IsServedAt, IsServedBy, IsWaiting, Kind, OfAck, OfDone, OfNewest, OfNothing, OfTell, OfVerdicts, OfVote, OnItsWay, WaitsIn, WaitsThere, is_awaiting, is_reply, kind_of}
use Rattle.tp_runs.proofs.served.CoordinatorRows.{Fewer, Silent}
use Rattle.tp_runs.proofs.served.Lists.{AnyOf, any_as, any_left, any_left_out, any_right}
use Rattle.tp_runs.proofs.served.Moves.{Fresh}
use Rattle.tp_runs.proofs.served.Receipts.{coordinator_row_handles}
use Rattle.tp_runs.proofs.served.Requests.{may_end, may_run, may_show, may_vote, query_open}
use Rattle.tp_runs.proofs.served.ServerRows.{Replies, decide_acked, prepare_voted, query_handled, server_row_waits, validate_shown}
use Rattle.tp_runs.proofs.served.Steady.{Steady, steady_of}
use Rattle.tp_runs.proofs.walks.Steps.{IsCoordinatorUp, IsServerUp, WasSent}
use Rattle.tp_runs.specs.Sound.{IsSoundServerUp}

-- ---- mails that are on their way

-- after a step that delivers the mail of a number, or none of them
abbrev pub after_move : State → List ℕ → Step → Move → Machine
after_move w left taken move = with_new w (state_after w taken move) left

got_in : {A : Type 0} (xs ys : List A) (n : ℕ) (x : A) → slice_get xs n ≡ Some x → slice_get (xs ++ ys) n ≡ Some x
got_in [] ys n x e = absurd (cc)
got_in (y ∷ xs) ys zero x e = e
got_in (y ∷ xs) ys (suc n) x e = got_in xs ys n x e

old_mail : (w : State) (taken : Step) (move : Move) (P : Letter → Type 0) (n : ℕ) → IsMail w.mails P n → IsMail (state_after w taken move).mails P n
old_mail w taken move P n h = record { mail = h.mail; sent = got_in w.mails (mails_of (length w.steps) (length w.mails) move.letters) n h.mail h.sent; says = h.says }

-- what was on its way is
pub still_on_way : (w : State) (left : List ℕ) (taken : Step) (move : Move) (P : Letter → Type 0) → AnyOf (IsMail w.mails P) left → OnItsWay (after_move w left taken move) P
still_on_way w left taken move P h =
    any_left (IsMail (state_after w taken move).mails P) left (range_with_len (length w.mails) (length (state_after w taken move).mails - length w.mails))
    (any_as (IsMail w.mails P) (IsMail (state_after w taken move).mails P) (λ n m. old_mail w taken move P n m) left h)

here_in : {A : Type 0} (before : List A) (x : A) (more : List A) → slice_get (before ++ x ∷ more) (length before) ≡ Some x
here_in [] x more = refl
here_in (y ∷ before) x more = here_in before x more

new_mails : (before : List Mail) (place number : ℕ) (letters : List Letter) (P : Letter → Type 0) → number ≡ length before → AnyOf P letters
    → AnyOf (IsMail (before ++ mails_of place number letters) P) (range_with_len number (length letters))
new_mails before place number [] P e h = absurd h
new_mails before place number (letter ∷ letters) P e h =
    let mail : Mail = record { number = number; sent = place; letter = letter } in
    let rest = mails_of place (number + 1) letters in
    let whole : before ++ mail ∷ rest ≡ (before ++ mail ∷ []) ++ rest = sym (append_assoc before (mail ∷ []) rest) in
    ⊎_elim (λ (here : P letter). inl (record { mail = mail; sent = ap (slice_get (before ++ mail ∷ rest)) e ∙ here_in before mail rest; says = here }))
    (λ (later : AnyOf P letters). inr (subst (λ (mails : List Mail). AnyOf (IsMail mails P) (range_with_len (number + 1) (length letters))) (sym whole)
    (new_mails (before ++ mail ∷ []) place (number + 1) letters P (omega (arith, e, length-append before (mail ∷ []))) later))) h

-- what is sent is on its way
pub new_on_way : (w : State) (left : List ℕ) (taken : Step) (move : Move) (P : Letter → Type 0) → AnyOf P move.letters → OnItsWay (after_move w left taken move) P
new_on_way w left taken move P h =
    let place = length w.steps in
    let count : length (state_after w taken move).mails - length w.mails ≡ length move.letters =
    omega (arith, length-append w.mails (mails_of place (length w.mails) move.letters), length_mails_of place (length w.mails) move.letters) in
    any_right (IsMail (state_after w taken move).mails P) left (range_with_len (length w.mails) (length (state_after w taken move).mails - length w.mails))
    (subst (λ (k : ℕ). AnyOf (IsMail (state_after w taken move).mails P) (range_with_len (length w.mails) k)) (sym count) (new_mails w.mails place (length w.mails) move.letters P refl h))

-- the mail that is delivered is of this number
found_mail : (mails : List Mail) (n : ℕ) (mail : Mail) (P : Letter → Type 0) (numbers : List ℕ) → slice_get mails n ≡ Some mail → AnyOf (λ (k : ℕ). (not (k == n) ≡ false) × IsMail mails P k) numbers → P mail.letter
found_mail mails n mail P [] e h = absurd h
found_mail mails n mail P (k ∷ numbers) e (inl here) =
    let number : k ≡ n = eqb-true k n (not-false (k == n) here.0) in
    let same : here.1.mail ≡ mail = same_Some here.1.mail mail (sym here.1.sent ∙ (ap (slice_get mails) number ∙ e)) in
    subst (λ (m : Mail). P m.letter) same here.1.says
found_mail mails n mail P (k ∷ numbers) e (inr later) = found_mail mails n mail P numbers e later

-- what was on its way is, or it is the mail that is delivered
pub way_kept : (w : State) (undelivered : List ℕ) (n : ℕ) (mail : Mail) (taken : Step) (move : Move) (P : Letter → Type 0) → slice_get w.mails n ≡ Some mail → AnyOf (IsMail w.mails P) undelivered
    → OnItsWay (after_move w (without_number undelivered n) taken move) P ⊎ P mail.letter
way_kept w undelivered n mail taken move P e h =
    ⊎_elim (λ (kept : AnyOf (IsMail w.mails P) (without_number undelivered n)). inl (still_on_way w (without_number undelivered n) taken move P kept))
    (λ (left : AnyOf (λ (k : ℕ). (not (k == n) ≡ false) × IsMail w.mails P k) undelivered). inr (found_mail w.mails n mail P undelivered e left))
    (any_left_out (IsMail w.mails P) (λ (k : ℕ). not (k == n)) undelivered h)

-- ---- a machine before the step

abbrev machine_at : State → List ℕ → Machine
machine_at w undelivered = record { state = w; undelivered = undelivered }

-- no coordinator is awaited
none_of_coordinators : (sc : Scenario) (c : Coordinator) (awaited : Phase) (txn : TxnId) → is_awaiting sc c awaited (actor.Coordinator txn) ≡ true → ⊥
none_of_coordinators sc c phase.Idle txn e = cc
none_of_coordinators sc c (phase.Stapling number) txn e = cc
none_of_coordinators sc c (phase.Querying number staple) txn e = cc
none_of_coordinators sc c (phase.Probing number) txn e = cc
none_of_coordinators sc c (phase.Asking over round) txn e = cc
none_of_coordinators sc c (phase.Checking over round staple) txn e = cc
none_of_coordinators sc c (phase.Reading over round) txn e = cc
none_of_coordinators sc c (phase.Voting awaited) txn e = cc
none_of_coordinators sc c phase.VoteProbing txn e = cc
none_of_coordinators sc c (phase.Ending ended awaited) txn e = cc

-- a query waits at servers alone, and where it is asked
waits_kind : (servers : List (Part Server)) (txn : TxnId) (turn : ℕ) (kind : Kind) (who : Actor) → IsWaiting servers txn turn kind who → (number : ℕ) × ((kind ≡ OfDone number) × ((at : ServerId) × (who ≡ actor.Server at)))
waits_kind servers txn turn (OfDone number) (actor.Server at) h = (number, (refl, (at, refl)))
waits_kind servers txn turn OfNothing who h = absurd h
waits_kind servers txn turn OfTell who h = absurd h
waits_kind servers txn turn OfNewest who h = absurd h
waits_kind servers txn turn OfVerdicts who h = absurd h
waits_kind servers txn turn OfVote who h = absurd h
waits_kind servers txn turn (OfAck ended) who h = absurd h
waits_kind servers txn turn (OfDone number) (actor.Coordinator other) h = absurd h
waits_kind servers txn turn (OfDone number) actor.Master h = absurd h
waits_kind servers txn turn (OfDone number) actor.Authority h = absurd h

-- ---- a server receives a mail

no_and : (b : Bool) → (b && false) ≡ true → ⊥
no_and true e = cc
no_and false e = cc

-- a phase that awaits the answer to a query
asks_of : (awaited : Phase) (number : ℕ) → kind_of awaited ≡ OfDone number → (is_undecided awaited ≡ true) × (stand_of awaited ≡ Asks)
asks_of (phase.Querying asked staple) number e = (refl, refl)
asks_of phase.Idle number e = absurd (cc)
asks_of (phase.Stapling asked) number e = absurd (cc)
asks_of (phase.Probing asked) number e = absurd (cc)
asks_of (phase.Asking over round) number e = absurd (cc)
asks_of (phase.Checking (span.Validate asked) round staple) number e = absurd (cc)
asks_of (phase.Checking span.Commit round staple) number e = absurd (cc)
asks_of (phase.Reading over round) number e = absurd (cc)
asks_of (phase.Voting awaited) number e = absurd (cc)
asks_of phase.VoteProbing number e = absurd (cc)
asks_of (phase.Ending ended awaited) number e = absurd (cc)

-- the reply of a server to a request of a coordinator
pub replied_of : (c : Coordinator) (at : ServerId) (letter : Letter) (kind : Kind) → kind_of c.phase ≡ kind → Replies at c.txn c.turn kind letter → IsRepliedBy c (actor.Server at) letter
replied_of c at letter kind e r = record { goes_to = r.goes_to; from_is = r.from_is; says = subst (λ (k : Kind). is_reply c.turn k letter.body ≡ true) (sym e) r.says }

-- acknowledgements have no turn
acked_turn : (at : ServerId) (txn : TxnId) (turn other : ℕ) (ended : Outcome) (letter : Letter) → Replies at txn turn (OfAck ended) letter → Replies at txn other (OfAck ended) letter
acked_turn at txn turn other ended letter r = record { goes_to = r.goes_to; from_is = r.from_is; says = acked letter.body r.says }
  where
    acked : (said : Body) → is_reply turn (OfAck ended) said ≡ true → is_reply other (OfAck ended) said ≡ true
    acked (body.Ack ack) e = refl
    acked (body.Tell tell) e = absurd (no_and (tell.turn == turn) e)
    acked (body.Newest reply) e = absurd (no_and (reply.turn == turn) e)
    acked (body.Done done) e = absurd (no_and (done.turn == turn) e)
    acked (body.Verdicts reply) e = absurd (no_and (reply.turn == turn) e)
    acked (body.Vote reply) e = absurd (no_and (reply.turn == turn) e)
    acked (body.Query q) e = absurd (cc)
    acked (body.Ask ask) e = absurd (cc)
    acked (body.Validate v) e = absurd (cc)
    acked (body.Prepare p) e = absurd (cc)
    acked (body.Probe probe) e = absurd (cc)
    acked (body.Decide order) e = absurd (cc)
    acked (body.Inquire inquiry) e = absurd (cc)
    acked (body.Push push) e = absurd (cc)

-- what a server's row does with an awaited request
abbrev IsMet : Coordinator → ServerId → Kind → Effect Server → Type 0
IsMet c at (OfDone number) effect = AnyOf (Replies at c.txn c.turn (OfDone number)) effect.reaction.letters ⊎ WaitsIn c.txn c.turn number effect.state.entries
IsMet c at kind effect = AnyOf (Replies at c.txn c.turn kind) effect.reaction.letters

-- the request of a phase that awaits this server, when it comes there
request_met : (sc : Scenario) (w : State) (n : ℕ) (mail : Mail) (at : ServerId) (part : Part Server) (s : Server) (txn : TxnId) (cpart : Part Coordinator) (c : Coordinator) (awaited : Phase) → Holds sc w → Steady sc w
    → WasSent w n mail (actor.Server at) → IsServerUp w at part s → IsCoordinatorUp w txn cpart c → c.phase ≡ awaited → is_awaiting sc c awaited (actor.Server at) ≡ true → IsRequest c.txn c.turn (kind_of awaited) mail.letter.body
    → IsMet c s.server (kind_of awaited) (server_row sc s mail)
request_met sc w n mail at part s txn cpart c (phase.Querying number staple) h steady sent up cup e awaits r =
    let undecided : is_undecided c.phase ≡ true = ap is_undecided e in
    let asks : stand_of c.phase ≡ Asks = ap stand_of e in
    let handled = query_handled sc s mail.sent r.q (may_run sc w n mail at part s txn cpart c number r h steady sent up cup undecided asks) in
    subst (λ (said : Body). IsMet c s.server (OfDone number) (server.on_body sc s mail.sent said)) (sym r.said_is)
    (⊎_elim
    (λ (said : AnyOf (Replies s.server r.q.txn r.q.turn (OfDone r.q.query)) (server.on_query sc s mail.sent r.q).reaction.letters).
    inl (any_as (Replies s.server r.q.txn r.q.turn (OfDone r.q.query)) (Replies s.server c.txn c.turn (OfDone number)) (λ letter k. as_asked letter k) (server.on_query sc s mail.sent r.q).reaction.letters said))
    (λ (waits : WaitsIn r.q.txn r.q.turn r.q.query (server.on_query sc s mail.sent r.q).state.entries).
    inr (record {
      entry = waits.entry;
      q = waits.q;
      found = subst (λ (t : TxnId). option_flatten (slice_get (server.on_query sc s mail.sent r.q).state.entries t.0) ≡ Some waits.entry) r.txn_is waits.found;
      waiting_is = waits.waiting_is;
      turn_is = waits.turn_is ∙ r.turn_is;
      query_is = waits.query_is ∙ r.query_is;
    })) handled)
  where
    as_asked : (letter : Letter) → Replies s.server r.q.txn r.q.turn (OfDone r.q.query) letter → Replies s.server c.txn c.turn (OfDone number) letter
    as_asked letter k =
        record {
          goes_to = k.goes_to ∙ ap (λ (t : TxnId). actor.Coordinator t) r.txn_is;
          from_is = k.from_is;
          says = subst (λ (m : ℕ). is_reply c.turn (OfDone m) letter.body ≡ true) r.query_is (subst (λ (t : ℕ). is_reply t (OfDone r.q.query) letter.body ≡ true) r.turn_is k.says);
        }
request_met sc w n mail at part s txn cpart c (phase.Checking (span.Validate number) round staple) h steady sent up cup e awaits r =
    let undecided : is_undecided c.phase ≡ true = ap is_undecided e in
    let early : stand_of c.phase ≡ Prepares → ⊥ = λ prepares. let pauses : stand_of c.phase ≡ Pauses = ap stand_of e in cc in
    let shown = validate_shown sc s r.v (may_show sc w at part s txn cpart c mail.letter.body r h steady up cup undecided early) in
    subst (λ (said : Body). IsMet c s.server OfVerdicts (server.on_body sc s mail.sent said)) (sym r.said_is)
    (subst (λ (t : TxnId). AnyOf (Replies s.server t c.turn OfVerdicts) (server.on_validate sc s r.v).reaction.letters) r.txn_is
    (subst (λ (t : ℕ). AnyOf (Replies s.server r.v.txn t OfVerdicts) (server.on_validate sc s r.v).reaction.letters) r.turn_is shown))
request_met sc w n mail at part s txn cpart c (phase.Checking span.Commit round staple) h steady sent up cup e awaits r =
    let voted = prepare_voted sc s r.p (may_vote sc w at part s txn cpart c mail.letter.body r h steady up cup (ap is_undecided e)) in
    subst (λ (said : Body). IsMet c s.server OfVote (server.on_body sc s mail.sent said)) (sym r.said_is)
    (subst (λ (t : TxnId). AnyOf (Replies s.server t c.turn OfVote) (server.on_prepare sc s r.p).reaction.letters) r.txn_is
    (subst (λ (t : ℕ). AnyOf (Replies s.server r.p.txn t OfVote) (server.on_prepare sc s r.p).reaction.letters) r.turn_is voted))
request_met sc w n mail at part s txn cpart c (phase.Voting awaited) h steady sent up cup e awaits r =
    let voted = prepare_voted sc s r.p (may_vote sc w at part s txn cpart c mail.letter.body r h steady up cup (ap is_undecided e)) in
    subst (λ (said : Body). IsMet c s.server OfVote (server.on_body sc s mail.sent said)) (sym r.said_is)
    (subst (λ (t : TxnId). AnyOf (Replies s.server t c.turn OfVote) (server.on_prepare sc s r.p).reaction.letters) r.txn_is
    (subst (λ (t : ℕ). AnyOf (Replies s.server r.p.txn t OfVote) (server.on_prepare sc s r.p).reaction.letters) r.turn_is voted))
request_met sc w n mail at part s txn cpart c (phase.Ending ended awaited) h steady sent up cup e awaits r =
    let order : DecideRequest = record { txn = c.txn; outcome = ended } in
    let acked = decide_acked sc s order (may_end sc w at part s txn cpart c order h steady up cup refl) in
    subst (λ (said : Body). IsMet c s.server (OfAck ended) (server.on_body sc s mail.sent said)) (sym r)
    (any_as (Replies s.server c.txn 0 (OfAck ended)) (Replies s.server c.txn c.turn (OfAck ended)) (λ letter k. acked_turn s.server c.txn 0 c.turn ended letter k) (server.on_decide sc s order).reaction.letters acked)
request_met sc w n mail at part s txn cpart c phase.Idle h steady sent up cup e awaits r = absurd (cc)
request_met sc w n mail at part s txn cpart c (phase.Stapling number) h steady sent up cup e awaits r = absurd (cc)
request_met sc w n mail at part s txn cpart c (phase.Probing number) h steady sent up cup e awaits r = absurd (cc)
request_met sc w n mail at part s txn cpart c (phase.Asking over round) h steady sent up cup e awaits r = absurd (cc)
request_met sc w n mail at part s txn cpart c (phase.Reading over round) h steady sent up cup e awaits r = absurd (cc)
request_met sc w n mail at part s txn cpart c phase.VoteProbing h steady sent up cup e awaits r = absurd (cc)

-- ---- the step of a server

abbrev server_step : Scenario → State → ServerId → Part Server → Server → Mail → Move
server_step sc w at part s mail = server_move w.actors at (acts_by (server_fact at) [] part.log (server_row sc s mail))

-- what is met is served
met_served : (sc : Scenario) (w : State) (left : List ℕ) (taken : Step) (at : ServerId) (part : Part Server) (s : Server) (mail : Mail) (c : Coordinator) (kind : Kind) → IsServerUp w at part s → s.server ≡ at → kind_of c.phase ≡ kind
    → IsMet c s.server kind (server_row sc s mail) → IsServedBy (after_move w left taken (server_step sc w at part s mail)) c (actor.Server at)
met_served sc w left taken at part s mail c kind up own e met = by_kind kind e met
  where
    replied : (k : Kind) → kind_of c.phase ≡ k → AnyOf (Replies s.server c.txn c.turn k) (server_row sc s mail).reaction.letters → IsServedBy (after_move w left taken (server_step sc w at part s mail)) c (actor.Server at)
    replied k f said =
        inr (inl (new_on_way w left taken (server_step sc w at part s mail) (IsRepliedBy c (actor.Server at))
        (any_as (Replies s.server c.txn c.turn k) (IsRepliedBy c (actor.Server at))
        (λ letter r. replied_of c at letter k f (subst (λ (o : ServerId). Replies o c.txn c.turn k letter) own r)) (server_row sc s mail).reaction.letters said)))

    by_kind : (k : Kind) → kind_of c.phase ≡ k → IsMet c s.server k (server_row sc s mail) → IsServedBy (after_move w left taken (server_step sc w at part s mail)) c (actor.Server at)
    by_kind (OfDone number) f h =
        ⊎_elim (λ (said : AnyOf (Replies s.server c.txn c.turn (OfDone number)) (server_row sc s mail).reaction.letters). replied (OfDone number) f said)
        (λ (waits : WaitsIn c.txn c.turn number (server_row sc s mail).state.entries).
        let new : Part Server = record { up = Some (server_row sc s mail).state; log = log_with part.log (server_row sc s mail).reaction.append } in
        inr (inr (subst (λ (k : Kind). IsWaiting (slice_set w.actors.servers at.0 new) c.txn c.turn k (actor.Server at)) (sym f)
        (record { part = new; s = (server_row sc s mail).state; found = set_here w.actors.servers at.0 new (slice_get_within w.actors.servers at.0 part up.found); up = refl; waits = waits })))) h
    by_kind OfNothing f h = replied OfNothing f h
    by_kind OfTell f h = replied OfTell f h
    by_kind OfNewest f h = replied OfNewest f h
    by_kind OfVerdicts f h = replied OfVerdicts f h
    by_kind OfVote f h = replied OfVote f h
    by_kind (OfAck ended) f h = replied (OfAck ended) f h

-- where the server settles it no query is awaited of it
open_after : (sc : Scenario) (w : State) (at : ServerId) (part : Part Server) (s : Server) (txn : TxnId) (cpart : Part Coordinator) (c : Coordinator) (number : ℕ) → Holds sc w → IsServerUp w at part s → IsCoordinatorUp w txn cpart c
    → kind_of c.phase ≡ OfDone number → Steady sc w → is_unset (slice_get s.settled c.txn.0) ≡ false → ⊥
open_after sc w at part s txn cpart c number h up cup kind steady closed =
    let asking = asks_of c.phase number kind in
    let unsettled : server.is_open s c.txn ≡ true = query_open sc w at part s txn cpart c h steady up cup asking.0 asking.1 in
    cc

-- what waits at a server of this number
waits_on : (sc : Scenario) (w : State) (left : List ℕ) (taken : Step) (at other : ServerId) (part : Part Server) (s : Server) (mail : Mail) (txn : TxnId) (cpart : Part Coordinator) (c : Coordinator) (number : ℕ) → Holds sc w
    → Holds sc (state_after w taken (server_step sc w at part s mail)) → Steady sc (state_after w taken (server_step sc w at part s mail)) → IsServerUp w at part s → s.server ≡ at → IsCoordinatorUp w txn cpart c → kind_of c.phase ≡ OfDone number
    → WaitsThere w.actors.servers c.txn c.turn number other → IsServedBy (after_move w left taken (server_step sc w at part s mail)) c (actor.Server other)
waits_on sc w left taken at other part s mail txn cpart c number h after steady up own cup kind waits = by_same (at.0 == other.0) refl
  where
    new : Part Server
    new = record { up = Some (server_row sc s mail).state; log = log_with part.log (server_row sc s mail).reaction.append }

    here : (at.0 == other.0) ≡ true → WaitsIn c.txn c.turn number s.entries
    here same =
        let part_is : waits.part ≡ part = same_Some waits.part part (sym waits.found ∙ (ap (slice_get w.actors.servers) (sym (eqb-true at.0 other.0 same)) ∙ up.found)) in
        let s_is : waits.s ≡ s = same_Some waits.s s (sym waits.up ∙ (ap (λ (p : Part Server). p.up) part_is ∙ up.up)) in
        subst (λ (k : Server). WaitsIn c.txn c.turn number k.entries) s_is waits.waits

    by_same : (b : Bool) → (at.0 == other.0) ≡ b → IsServedBy (after_move w left taken (server_step sc w at part s mail)) c (actor.Server other)
    by_same false apart =
        inr (inr (subst (λ (k : Kind). IsWaiting (slice_set w.actors.servers at.0 new) c.txn c.turn k (actor.Server other)) (sym kind)
        (record { part = waits.part; s = waits.s; found = set_elsewhere w.actors.servers at.0 other.0 new apart ∙ waits.found; up = waits.up; waits = waits.waits })))
    by_same true same =
        let one : at ≡ other = same_server_is at other same in
        subst (λ (o : ServerId). IsServedBy (after_move w left taken (server_step sc w at part s mail)) c (actor.Server o)) one
        (⊎_elim
        (λ (on : WaitsIn c.txn c.turn number (server_row sc s mail).state.entries).
        met_served sc w left taken at part s mail c (OfDone number) up own kind (inr on))
        (λ (rest : AnyOf (Replies s.server c.txn c.turn (OfDone number)) (server_row sc s mail).reaction.letters ⊎ (is_unset (slice_get (server_row sc s mail).state.settled c.txn.0) ≡ false)).
        ⊎_elim (λ (said : AnyOf (Replies s.server c.txn c.turn (OfDone number)) (server_row sc s mail).reaction.letters). met_served sc w left taken at part s mail c (OfDone number) up own kind (inl said))
        (λ (closed : is_unset (slice_get (server_row sc s mail).state.settled c.txn.0) ≡ false).
        absurd (open_after sc (state_after w taken (server_step sc w at part s mail)) at new (server_row sc s mail).state txn cpart c number after
        (record { found = set_here w.actors.servers at.0 new (slice_get_within w.actors.servers at.0 part up.found); up = refl }) (record { found = cup.found; up = cup.up }) kind steady closed)) rest)
        (server_row_waits sc s mail (wait_rightly sc w h.sound h.pairs at part s up) c.txn c.turn number (here same)))

-- a server that receives a mail
pub server_keeps : (sc : Scenario) (w : State) (undelivered : List ℕ) (n : ℕ) (mail : Mail) (at : ServerId) (part : Part Server) (s : Server) (txn : TxnId) → Holds sc w → Steady sc w
    → Holds sc (state_after w (step.Deliver n) (server_step sc w at part s mail)) → Steady sc (state_after w (step.Deliver n) (server_step sc w at part s mail)) → WasSent w n mail (actor.Server at) → IsServerUp w at part s
    → IsServedAt sc (machine_at w undelivered) txn → IsServedAt sc (after_move w (without_number undelivered n) (step.Deliver n) (server_step sc w at part s mail)) txn
server_keeps sc w undelivered n mail at part s txn h steady after steady_after sent up served cpart c cup who awaits = by_way (served cpart c before who awaits)
  where
    before : IsCoordinatorUp w txn cpart c
    before = record { found = cup.found; up = cup.up }

    own : s.server ≡ at
    own = (of_some (IsSoundServerUp sc at) part.up s up.up (h.sound.actors_are.servers at.0 part up.found).state).server_is

    move : Move
    move = server_step sc w at part s mail

    Now : Type 0
    Now = IsServedBy (after_move w (without_number undelivered n) (step.Deliver n) (server_step sc w at part s mail)) c who

    asked : IsAskedOf c who mail.letter → Now
    asked r =
        let here : actor.Server at ≡ who = sym sent.goes_to ∙ r.goes_to in
        subst (λ (a : Actor). IsServedBy (after_move w (without_number undelivered n) (step.Deliver n) (server_step sc w at part s mail)) c a) here
        (met_served sc w (without_number undelivered n) (step.Deliver n) at part s mail c (kind_of c.phase) up own refl
        (request_met sc w n mail at part s txn cpart c c.phase h steady sent up before refl (subst (λ (a : Actor). is_awaiting sc c c.phase a ≡ true) (sym here) awaits) r.says))

    replied : IsRepliedBy c who mail.letter → Now
    replied r = let other : actor.Server at ≡ actor.Coordinator c.txn = sym sent.goes_to ∙ r.goes_to in absurd (cc)

    waits : IsWaiting w.actors.servers c.txn c.turn (kind_of c.phase) who → Now
    waits k =
        let is = waits_kind w.actors.servers c.txn c.turn (kind_of c.phase) who k in
        let there : WaitsThere w.actors.servers c.txn c.turn is.0 is.1.1.0 =
        subst (λ (a : Actor). IsWaiting w.actors.servers c.txn c.turn (OfDone is.0) a) is.1.1.1 (subst (λ (t : Kind). IsWaiting w.actors.servers c.txn c.turn t who) is.1.0 k) in
        subst (λ (a : Actor). IsServedBy (after_move w (without_number undelivered n) (step.Deliver n) (server_step sc w at part s mail)) c a) (sym is.1.1.1)
        (waits_on sc w (without_number undelivered n) (step.Deliver n) at is.1.1.0 part s mail txn cpart c is.0 h after steady_after up own before is.1.0 there)

    by_way : IsServedBy (machine_at w undelivered) c who → Now
    by_way old =
        ⊎_elim
        (λ (way : OnItsWay (machine_at w undelivered) (IsAskedOf c who)).
        ⊎_elim (λ (kept : OnItsWay (after_move w (without_number undelivered n) (step.Deliver n) (server_step sc w at part s mail)) (IsAskedOf c who)). inl kept) asked
        (way_kept w undelivered n mail (step.Deliver n) move (IsAskedOf c who) sent.sent way))
        (λ (rest : OnItsWay (machine_at w undelivered) (IsRepliedBy c who) ⊎ IsWaiting w.actors.servers c.txn c.turn (kind_of c.phase) who).
        ⊎_elim
        (λ (way : OnItsWay (machine_at w undelivered) (IsRepliedBy c who)).
        ⊎_elim (λ (kept : OnItsWay (after_move w (without_number undelivered n) (step.Deliver n) (server_step sc w at part s mail)) (IsRepliedBy c who)). inr (inl kept)) replied
        (way_kept w undelivered n mail (step.Deliver n) move (IsRepliedBy c who) sent.sent way))
        waits rest) old

-- ---- the step of a coordinator

abbrev coordinator_step : Scenario → State → TxnId → Part Coordinator → Coordinator → Mail → Move
coordinator_step sc w to part c mail = coordinator_move w.actors to (acts_by coordinator_fact [] part.log (coord.coordinator_row sc c mail))

-- what is served without the mail that is delivered stays so
pub others_kept : (w : State) (undelivered : List ℕ) (n : ℕ) (mail : Mail) (taken : Step) (move : Move) (c : Coordinator) (who : Actor) → slice_get w.mails n ≡ Some mail → move.actors.servers ≡ w.actors.servers
    → (IsAskedOf c who mail.letter → ⊥) → (IsRepliedBy c who mail.letter → ⊥) → IsServedBy (machine_at w undelivered) c who → IsServedBy (after_move w (without_number undelivered n) taken move) c who
others_kept w undelivered n mail taken move c who sent servers not_asked not_replied old =
    ⊎_elim
    (λ (way : OnItsWay (machine_at w undelivered) (IsAskedOf c who)).
    ⊎_elim (λ (kept : OnItsWay (after_move w (without_number undelivered n) taken move) (IsAskedOf c who)). inl kept) (λ (is : IsAskedOf c who mail.letter). absurd (not_asked is))
    (way_kept w undelivered n mail taken move (IsAskedOf c who) sent way))
    (λ (rest : OnItsWay (machine_at w undelivered) (IsRepliedBy c who) ⊎ IsWaiting w.actors.servers c.txn c.turn (kind_of c.phase) who).
    ⊎_elim
    (λ (way : OnItsWay (machine_at w undelivered) (IsRepliedBy c who)).
    ⊎_elim (λ (kept : OnItsWay (after_move w (without_number undelivered n) taken move) (IsRepliedBy c who)). inr (inl kept)) (λ (is : IsRepliedBy c who mail.letter). absurd (not_replied is))
    (way_kept w undelivered n mail taken move (IsRepliedBy c who) sent way))
    (λ (waits : IsWaiting w.actors.servers c.txn c.turn (kind_of c.phase) who). inr (inr (subst (λ (all : List (Part Server)). IsWaiting all c.txn c.turn (kind_of c.phase) who) (sym servers) waits))) rest) old

-- one that awaits as before, seen by its transaction, its turn and its kind
as_served : (m : Machine) (c next : Coordinator) (who : Actor) → next.txn ≡ c.txn → next.turn ≡ c.turn → kind_of next.phase ≡ kind_of c.phase → IsServedBy m c who → IsServedBy m next who
as_served m c next who txn turn kind old =
    ⊎_elim
    (λ (way : OnItsWay m (IsAskedOf c who)).
    inl (any_as (IsMail m.state.mails (IsAskedOf c who)) (IsMail m.state.mails (IsAskedOf next who))
    (λ k is. record { mail = is.mail; sent = is.sent; says = record { goes_to = is.says.goes_to; says = request is.mail.letter.body is.says.says } }) m.undelivered way))
    (λ (rest : OnItsWay m (IsRepliedBy c who) ⊎ IsWaiting m.state.actors.servers c.txn c.turn (kind_of c.phase) who).
    ⊎_elim
    (λ (way : OnItsWay m (IsRepliedBy c who)).
    inr (inl (any_as (IsMail m.state.mails (IsRepliedBy c who)) (IsMail m.state.mails (IsRepliedBy next who))
    (λ k is. record { mail = is.mail; sent = is.sent; says = record { goes_to = is.says.goes_to ∙ ap (λ (t : TxnId). actor.Coordinator t) (sym txn); from_is = is.says.from_is; says = reply is.mail.letter.body is.says.says } }) m.undelivered way)))
    (λ (waits : IsWaiting m.state.actors.servers c.txn c.turn (kind_of c.phase) who). inr (inr (wait waits))) rest) old
  where
    request : (said : Body) → IsRequest c.txn c.turn (kind_of c.phase) said → IsRequest next.txn next.turn (kind_of next.phase) said
    request said r =
        subst (λ (t : TxnId). IsRequest t next.turn (kind_of next.phase) said) (sym txn)
        (subst (λ (t : ℕ). IsRequest c.txn t (kind_of next.phase) said) (sym turn) (subst (λ (k : Kind). IsRequest c.txn c.turn k said) (sym kind) r))

    reply : (said : Body) → is_reply c.turn (kind_of c.phase) said ≡ true → is_reply next.turn (kind_of next.phase) said ≡ true
    reply said r = subst (λ (t : ℕ). is_reply t (kind_of next.phase) said ≡ true) (sym turn) (subst (λ (k : Kind). is_reply c.turn k said ≡ true) (sym kind) r)

    wait : IsWaiting m.state.actors.servers c.txn c.turn (kind_of c.phase) who → IsWaiting m.state.actors.servers next.txn next.turn (kind_of next.phase) who
    wait r =
        subst (λ (t : TxnId). IsWaiting m.state.actors.servers t next.turn (kind_of next.phase) who) (sym txn)
        (subst (λ (t : ℕ). IsWaiting m.state.actors.servers c.txn t (kind_of next.phase) who) (sym turn) (subst (λ (k : Kind). IsWaiting m.state.actors.servers c.txn c.turn k who) (sym kind) r))

-- a coordinator that receives a mail
pub coordinator_keeps : (sc : Scenario) (w : State) (undelivered : List ℕ) (n : ℕ) (mail : Mail) (to : TxnId) (part : Part Coordinator) (c : Coordinator) (txn : TxnId) → is_valid sc ≡ true → Holds sc w → Steady sc w
    → WasSent w n mail (actor.Coordinator to) → IsCoordinatorUp w to part c → IsServedAt sc (machine_at w undelivered) txn
    → IsServedAt sc (after_move w (without_number undelivered n) (step.Deliver n) (coordinator_step sc w to part c mail)) txn
coordinator_keeps sc w undelivered n mail to part c txn formed h steady sent up served npart next nup who awaits = by_same (to.0 == txn.0) refl
  where
    effect : Effect Coordinator
    effect = coord.coordinator_row sc c mail

    move : Move
    move = coordinator_step sc w to part c mail

    new : Part Coordinator
    new = record { up = Some (coord.coordinator_row sc c mail).state; log = log_with part.log (coord.coordinator_row sc c mail).reaction.append }

    after : Machine
    after = after_move w (without_number undelivered n) (step.Deliver n) (coordinator_step sc w to part c mail)

    own : c.txn ≡ to
    own = own_txn sc w to part c h.sound up.found up.up

    -- a mail to a coordinator is no request
    unasked : (k : Coordinator) (a : Actor) → is_awaiting sc k k.phase a ≡ true → IsAskedOf k a mail.letter → ⊥
    unasked k a e r =
        let here : actor.Coordinator to ≡ a = sym sent.goes_to ∙ r.goes_to in
        none_of_coordinators sc k k.phase to (subst (λ (x : Actor). is_awaiting sc k k.phase x ≡ true) (sym here) e)

    other : (to.0 == txn.0) ≡ false → IsServedBy after next who
    other apart =
        let found : slice_get w.actors.coordinators txn.0 ≡ Some npart = sym (set_elsewhere w.actors.coordinators to.0 txn.0 new apart) ∙ nup.found in
        let before : IsCoordinatorUp w txn npart next = record { found = found; up = nup.up } in
        let its : next.txn ≡ txn = own_txn sc w txn npart next h.sound found nup.up in
        others_kept w undelivered n mail (step.Deliver n) move next who sent.sent refl (unasked next who awaits)
        (λ r.
        let same : next.txn ≡ to = same_txn_from to next.txn (sym sent.goes_to ∙ r.goes_to) in
        let both : (to.0 == txn.0) ≡ true = subst (λ (t : TxnId). (to.0 == t.0) ≡ true) (sym same ∙ its) (number_itself to.0) in
        cc)
        (served npart next before who awaits)

    here : (to.0 == txn.0) ≡ true → IsServedBy after next who
    here same =
        let one : to ≡ txn = ap txn_number (eqb-true to.0 txn.0 same) in
        let npart_is : new ≡ npart = same_Some new npart (sym (set_here w.actors.coordinators to.0 new (slice_get_within w.actors.coordinators to.0 part up.found)) ∙ (ap (λ (t : TxnId). slice_get (slice_set w.actors.coordinators to.0 new) t.0) one ∙ nup.found)) in
        let next_is : effect.state ≡ next = same_Some effect.state next (ap (λ (p : Part Coordinator). p.up) npart_is ∙ nup.up) in
        let e : is_awaiting sc effect.state effect.state.phase who ≡ true = subst (λ (k : Coordinator). is_awaiting sc k k.phase who ≡ true) (sym next_is) awaits in
        let was : is_awaiting sc c c.phase who ≡ true → IsServedBy (machine_at w undelivered) c who = λ f. served part c (record { found = ap (λ (t : TxnId). slice_get w.actors.coordinators t.0) (sym one) ∙ up.found; up = up.up }) who f in
        subst (λ (k : Coordinator). IsServedBy after k who) next_is
        (⊎_elim
        (λ (fresh : Fresh sc c.txn effect). inl (new_on_way w (without_number undelivered n) (step.Deliver n) move (IsAskedOf effect.state who) (fresh.asked who e)))
        (λ (rest : Fewer sc c mail effect ⊎ Silent sc c mail effect).
        ⊎_elim
        (λ (fewer : Fewer sc c mail effect).
        let before = fewer.awaited who e in
        as_served after c effect.state who fewer.txn_is fewer.turn_is fewer.kind_is
        (others_kept w undelivered n mail (step.Deliver n) move c who sent.sent refl (unasked c who before) (λ r. fewer.other who e r.from_is) (was before)))
        (λ (silent : Silent sc c mail effect).
        let before : is_awaiting sc c c.phase who ≡ true = subst (λ (k : Coordinator). is_awaiting sc k k.phase who ≡ true) silent.same e in
        subst (λ (k : Coordinator). IsServedBy after k who) (sym silent.same)
        (others_kept w undelivered n mail (step.Deliver n) move c who sent.sent refl (unasked c who before) (λ r. silent.unawaited who before r.from_is r.says) (was before))) rest)
        (coordinator_row_handles sc c mail (steady_of sc w to part c formed h steady up)).kind)

    by_same : (b : Bool) → (to.0 == txn.0) ≡ b → IsServedBy after next who
    by_same true same = here same
    by_same false apart = other apart
