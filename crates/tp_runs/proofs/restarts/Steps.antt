-- Restarts over every list of steps.
use Rattle.std.proofs.Common.{IfSome, List, None, Option, Some, [], ap, append-nil, arith, is_none, length, refl, subst, sym, true, ℕ, ◌+◌, ◌<◌, ◌∙◌, ◌∷◌, ◌≡◌}
use Rattle.tp_types.proofs.EachLemmas.{each_get, placed_none, some_value}
use Rattle.tp_types.specs.Each.{Each}
use Rattle.tp_model.specs.Agreement.{has_item_at}
use Rattle.tp_model.specs.Causes.{crashed_within, is_server_actor}
use Rattle.tp_model.specs.Words.{Actor, Body, Cause, DoneReply, Fact, Mail, PrepareRequest, QueryRequest, Scenario, ServerId, Settled, Step, TxnId, ValidateRequest, VerdictsReply, VoteReply, What}
use Rattle.tp_model.specs.Words.actor
use Rattle.tp_model.specs.Words.body
use Rattle.tp_model.specs.Words.no
use Rattle.tp_model.specs.Words.step
use Rattle.tp_model.specs.Words.what
use Rattle.tp_coord.proofs.Rows.{ByDenial, ByLoss, ByLostVerdicts, ByNewer, ByNewest, ByOlder, ByProof, ByRefusal, ByRestart, ByRounds, IsEnded}
use Rattle.tp_coord.specs.Opened as coord_opened
use Rattle.tp_coord.specs.Row.{coordinator_row, reading_of, repeats, submit_row}
use Rattle.tp_coord.specs.State.{Coordinator}
use Rattle.tp_machine.specs.Logs.{epoch_at}
use Rattle.tp_machine.specs.Machine.{Machine, State, acts_by, coordinator_fact, coordinator_move, idle_move, machine_after, opened_part, opening_state, refusal, server_fact, server_move, with_age}
use Rattle.tp_machine.specs.Named.{IsStepOf}
use Rattle.tp_machine.specs.Parts.{Part}
use Rattle.tp_offices.specs.Authority as office
use Rattle.tp_offices.specs.Master as master
use Rattle.tp_offices.specs.declared.authority.Authority.{Authority}
use Rattle.tp_offices.specs.declared.master.Master.{Master}
use Rattle.tp_server.proofs.Rows.{IsLateRequest, IsLost, IsLostValidation, IsLostVote}
use Rattle.tp_server.specs.Opened as server_opened
use Rattle.tp_server.specs.Row.{age_of, server_row}
use Rattle.tp_server.specs.State.{Server}
use Rattle.tp_runs.proofs.ages.Actors.{BodyAged}
use Rattle.tp_runs.proofs.ages.World.{Ages, IsSubmission, MailAged}
use Rattle.tp_runs.proofs.agreement.Coordinator.{CoordinatorAgrees, HoldsItem, PhaseHasItems, asked_has_item}
use Rattle.tp_runs.proofs.agreement.Logs.{once}
use Rattle.tp_runs.proofs.agreement.Steps.{mail_sound, no_settled, own_server, own_txn, server_agrees, settled_item}
use Rattle.tp_runs.proofs.agreement.World.{Agrees, CoordinatorUpAgrees, MailRests}
use Rattle.tp_runs.proofs.basics.Crashes.{shown_more}
use Rattle.tp_runs.proofs.basics.Found.{of_some}
use Rattle.tp_runs.proofs.basics.Homes.{HaveHomes}
use Rattle.tp_runs.proofs.basics.Ids.{server_number, txn_number}
use Rattle.tp_runs.proofs.basics.Passed.{read_newer}
use Rattle.tp_runs.proofs.basics.Phases.{is_undecided}
use Rattle.tp_runs.proofs.basics.Rounds.{awaited_holds}
use Rattle.tp_runs.proofs.deaths.Told.{Told}
use Rattle.tp_runs.proofs.deaths.World.{Deaths}
use Rattle.tp_runs.proofs.epochs.Asked.{asked_in}
use Rattle.tp_runs.proofs.epochs.Kept.{CoordinatorKeeps, KeepsEpoch, PhaseKept, from_server}
use Rattle.tp_runs.proofs.epochs.Server.{ServerMade, has_restarted}
use Rattle.tp_runs.proofs.epochs.World.{Epochs, coordinator_sends_keep, made_from_zero}
use Rattle.tp_runs.proofs.known.World.{Pairs, declared_by}
use Rattle.tp_runs.proofs.pairs.Actors.{BodyPairs, LetterPairs, pair_at, site_of}
use Rattle.tp_runs.proofs.pairs.Fits.{Covers, PrepareFits, QueryFits, Tells, ValidateFits}
use Rattle.tp_runs.proofs.pairs.Site.{count}
use Rattle.tp_runs.proofs.restarts.Coordinators.{ActSince, coordinator_row_since, repeats_since, submit_row_since}
use Rattle.tp_runs.proofs.restarts.Counted.{IsCounted, since_made}
use Rattle.tp_runs.proofs.restarts.Servers.{IsKnownMail, RowSince, server_row_since}
use Rattle.tp_runs.proofs.restarts.Shown.{other_epoch, restart_shown}
use Rattle.tp_runs.proofs.restarts.Since.{BodySince, CauseSince, DoneSince, EntriesSince, EntrySince, KeptSince, LetterSince, PartSince, QuerySince, ShownSince, VotedSince}
use Rattle.tp_runs.proofs.restarts.World.{IsHalted, MailSince, MoveSince, Restarts, ShownIn, SinceIn, WasLostAt, coordinator_acts_since, server_acts_since, state_after_since, still_since}
use Rattle.tp_runs.proofs.walks.Steps.{Cases, IsCoordinatorUp, IsServerUp, KeepsUp, SaysIdle, WaitRightly, WasSent, machine_after_by}
use Rattle.tp_runs.specs.Sound.{IsSound, IsSoundBody, IsSoundQuery}

-- ---- a server receives a mail

-- the present epoch of a server is of after the submission of a transaction that asks there
present_since : (sc : Scenario) (w : State) (n : ℕ) (mail : Mail) (at : ServerId) (part : Part Server) (s : Server) (q : QueryRequest) → Epochs sc w → Ages w → Restarts sc w → WasSent w n mail (actor.Server at) → IsServerUp w at part s
    → mail.letter.body ≡ body.Query q → SinceIn w.steps w.facts q.txn at s.epoch
present_since sc w n mail at part s q epochs ages h sent up said_is =
    let submitted : IsSubmission w.steps q.txn (age_of q mail.sent) = subst (BodyAged (IsSubmission w.steps) mail.sent) said_is (each_get (MailAged (IsSubmission w.steps)) w.mails n mail ages.sent sent.sent) in
    let made : ServerMade sc (asked_in w.mails) at s part.log = of_some (λ (t : Server). ServerMade sc (asked_in w.mails) at t part.log) part.up s up.up (epochs.servers at.0 part up.found).state in
    subst (SinceIn w.steps w.facts q.txn at) (sym made.epoch_is)
    (since_made w.steps w.facts q.txn (is_server_actor at) part s (age_of q mail.sent) (h.counted at.0 part up.found) up.up submitted)

-- what a mail to a server says of epochs
heard_since : (sc : Scenario) (w : State) (n : ℕ) (mail : Mail) (at : ServerId) → Restarts sc w → WasSent w n mail (actor.Server at)
    → BodySince (SinceIn w.steps w.facts) (ShownIn w.facts mail.sent) mail.letter.from (actor.Server at) mail.letter.body
heard_since sc w n mail at h sent =
    subst (λ (to : Actor). BodySince (SinceIn w.steps w.facts) (ShownIn w.facts mail.sent) mail.letter.from to mail.letter.body) sent.goes_to (each_get (MailSince w.steps w.facts) w.mails n mail h.mails sent.sent)

-- and of its pair
heard_pairs : (sc : Scenario) (w : State) (n : ℕ) (mail : Mail) (at : ServerId) → Pairs sc w → WasSent w n mail (actor.Server at) → BodyPairs sc (pair_at w.actors) mail.letter.from (actor.Server at) mail.letter.body
heard_pairs sc w n mail at pairs sent =
    subst (λ (to : Actor). BodyPairs sc (pair_at w.actors) mail.letter.from to mail.letter.body) sent.goes_to (each_get (λ (m : Mail). LetterPairs sc (pair_at w.actors) m.letter) w.mails n mail pairs.mails sent.sent)

-- where a query's work was lost the server has crashed since
lost_shown : (sc : Scenario) (w : State) (n : ℕ) (mail : Mail) (at : ServerId) (part : Part Server) (s : Server) (q : QueryRequest) → IsSound sc w → Agrees sc w → Pairs sc w → Told w → Restarts sc w → WasSent w n mail (actor.Server at)
    → IsServerUp w at part s → IsLost s mail q → ShownIn w.facts (length w.steps) q.txn at
lost_shown sc w n mail at part s q sound a pairs told h sent up k =
    let named = some_value q.epoch k.named in
    let asked : IsSoundQuery sc (actor.Server at) q = subst (IsSoundBody sc (actor.Server at)) k.said_is (mail_sound sc w n mail (actor.Server at) sound sent) in
    let there = declared_by sc q.txn asked.txn in
    let since : QuerySince (SinceIn w.steps w.facts) (actor.Server at) q =
    subst (BodySince (SinceIn w.steps w.facts) (ShownIn w.facts mail.sent) mail.letter.from (actor.Server at)) k.said_is (heard_since sc w n mail at h sent) in
    let fits : QueryFits (site_of sc at.0 there.0) (pair_at w.actors q.txn at.0) q = subst (BodyPairs sc (pair_at w.actors) mail.letter.from (actor.Server at)) k.said_is (heard_pairs sc w n mail at pairs sent) there.0 there.1 in
    let covered = Covers (site_of sc at.0 there.0) fits.before in
    restart_shown sc w at part s q.txn named.0 covered a told h up k.unsettled (λ entry found. other_epoch q entry named.0 named.1 (k.elsewhere entry found))
    (of_some (SinceIn w.steps w.facts q.txn at) q.epoch named.0 named.1 since) (of_some (λ (epoch : ℕ). Tells (pair_at w.actors q.txn at.0) epoch covered) q.epoch named.0 named.1 fits.covers)

-- where what a request to prepare is about was lost the server has crashed since
lost_vote_shown : (sc : Scenario) (w : State) (n : ℕ) (mail : Mail) (at : ServerId) (part : Part Server) (s : Server) (p : PrepareRequest) → IsSound sc w → Agrees sc w → Pairs sc w → Told w → Restarts sc w → WasSent w n mail (actor.Server at)
    → IsServerUp w at part s → IsLostVote s mail p → ShownIn w.facts (length w.steps) p.txn at
lost_vote_shown sc w n mail at part s p sound a pairs told h sent up k =
    let there = declared_by sc p.txn (subst (IsSoundBody sc (actor.Server at)) k.said_is (mail_sound sc w n mail (actor.Server at) sound sent)).txn in
    let fits : PrepareFits (site_of sc at.0 there.0) (pair_at w.actors p.txn at.0) p = subst (BodyPairs sc (pair_at w.actors) mail.letter.from (actor.Server at)) k.said_is (heard_pairs sc w n mail at pairs sent) there.0 there.1 in
    restart_shown sc w at part s p.txn p.epoch (Covers (site_of sc at.0 there.0) (count (site_of sc at.0 there.0))) a told h up k.unsettled k.elsewhere
    (subst (BodySince (SinceIn w.steps w.facts) (ShownIn w.facts mail.sent) mail.letter.from (actor.Server at)) k.said_is (heard_since sc w n mail at h sent)) fits.covers

-- where what a request to evaluate is about was lost
lost_show_shown : (sc : Scenario) (w : State) (n : ℕ) (mail : Mail) (at : ServerId) (part : Part Server) (s : Server) (v : ValidateRequest) → IsSound sc w → Agrees sc w → Pairs sc w → Told w → Restarts sc w → WasSent w n mail (actor.Server at)
    → IsServerUp w at part s → IsLostValidation s mail v → ShownIn w.facts (length w.steps) v.txn at
lost_show_shown sc w n mail at part s v sound a pairs told h sent up k =
    let there = declared_by sc v.txn (subst (IsSoundBody sc (actor.Server at)) k.said_is (mail_sound sc w n mail (actor.Server at) sound sent)).txn in
    let fits : ValidateFits (site_of sc at.0 there.0) (pair_at w.actors v.txn at.0) v = subst (BodyPairs sc (pair_at w.actors) mail.letter.from (actor.Server at)) k.said_is (heard_pairs sc w n mail at pairs sent) there.0 there.1 in
    restart_shown sc w at part s v.txn v.epoch (λ deeds. Unit {0}) a told h up k.unsettled k.elsewhere
    (subst (BodySince (SinceIn w.steps w.facts) (ShownIn w.facts mail.sent) mail.letter.from (actor.Server at)) k.said_is (heard_since sc w n mail at h sent)) fits.told

-- where the server has settled a transaction for a restart
settled_shown : (sc : Scenario) (w : State) (mail : Mail) (at : ServerId) (part : Part Server) (s : Server) (p : PrepareRequest) (settled : Settled) → Agrees sc w → Restarts sc w → IsServerUp w at part s
    → IsLateRequest s mail p settled no.Restarted → ShownIn w.facts (length w.steps) p.txn at
settled_shown sc w mail at part s p settled a h up k =
    (h.servers at.0 part up.found).settled p.txn settled (sym ((server_agrees sc w at part s a up).settled p.txn) ∙ k.found) k.why_is

mail_known : (sc : Scenario) (w : State) (n : ℕ) (mail : Mail) (at : ServerId) (part : Part Server) (s : Server) → IsSound sc w → Agrees sc w → Epochs sc w → Ages w → Pairs sc w → Told w → Restarts sc w → WasSent w n mail (actor.Server at)
    → IsServerUp w at part s → s.server ≡ at → IsKnownMail (SinceIn w.steps w.facts) (ShownIn w.facts (length w.steps)) s mail
mail_known sc w n mail at part s sound a epochs ages pairs told h sent up own =
    record {
      present = λ q e. subst (λ (x : ServerId). SinceIn w.steps w.facts q.txn x s.epoch) (sym own) (present_since sc w n mail at part s q epochs ages h sent up e);
      lost = λ q k. subst (ShownIn w.facts (length w.steps) q.txn) (sym own) (lost_shown sc w n mail at part s q sound a pairs told h sent up k);
      lost_vote = λ p k. subst (ShownIn w.facts (length w.steps) p.txn) (sym own) (lost_vote_shown sc w n mail at part s p sound a pairs told h sent up k);
      lost_show = λ v k. subst (ShownIn w.facts (length w.steps) v.txn) (sym own) (lost_show_shown sc w n mail at part s v sound a pairs told h sent up k);
      refused = λ p settled k. subst (ShownIn w.facts (length w.steps) p.txn) (sym own) (settled_shown sc w mail at part s p settled a h up k);
    }

stays_up : {S : Type 0} (up : Option S) (s : S) (boots : ℕ) → up ≡ Some s → boots ≡ 0 → 0 + once (is_none up) ≡ boots + 0
stays_up None s boots e none = absurd (cc)
stays_up (Some t) s boots e none = omega (arith, none)

-- the row of a server on a mail that was sent
pub server_sends_since : (sc : Scenario) (w : State) → WaitRightly sc w → IsSound sc w → Agrees sc w → Epochs sc w → Ages w → Pairs sc w → Told w → Restarts sc w → (n : ℕ) (mail : Mail) (at : ServerId) (part : Part Server) (s : Server)
    → WasSent w n mail (actor.Server at) → IsServerUp w at part s → RowSince (SinceIn w.steps w.facts) (ShownIn w.facts (length w.steps)) at (server_row sc s mail)
server_sends_since sc w rightly sound a epochs ages pairs told h n mail at part s sent up =
    let S = SinceIn w.steps w.facts in
    let R = ShownIn w.facts (length w.steps) in
    let own : s.server ≡ at = own_server sc w at part s sound up.found up.up in
    let here : EntriesSince S R at s = of_some (EntriesSince S R at) part.up s up.up (h.servers at.0 part up.found).state in
    subst (λ (x : ServerId). RowSince S R x (server_row sc s mail)) own
    (server_row_since S R sc s mail (rightly at part s up) (subst (λ (x : ServerId). EntriesSince S R x s) (sym own) here) (mail_known sc w n mail at part s sound a epochs ages pairs told h sent up own))

receipt_by_server_in_restarts : (sc : Scenario) (w : State) (n : ℕ) (mail : Mail) (at : ServerId) (part : Part Server) (s : Server) → WaitRightly sc w → IsSound sc w → Agrees sc w → Epochs sc w → Ages w → Pairs sc w → Told w → Restarts sc w
    → WasSent w n mail (actor.Server at) → IsServerUp w at part s → MoveSince sc w (server_move w.actors at (acts_by (server_fact at) [] part.log (server_row sc s mail)))
receipt_by_server_in_restarts sc w n mail at part s rightly sound a epochs ages pairs told h sent up =
    let effect = server_row sc s mail in
    let row = server_sends_since sc w rightly sound a epochs ages pairs told h n mail at part s sent up in
    server_acts_since sc w at part (Some effect.state) [] effect.reaction.append effect.reaction.letters h up.found
    (record { state = row.entries; forces = row.forces; letters_are = row.letters; even = stays_up part.up s _ up.up row.no_boot; others = λ other apart. refl; own_says = λ facts. tt })

-- ---- a coordinator receives a mail, or its transaction is submitted

-- the epochs that a coordinator which is up keeps
kept_here : (sc : Scenario) (w : State) (txn : TxnId) (part : Part Coordinator) (c : Coordinator) → Restarts sc w → IsCoordinatorUp w txn part c → c.txn ≡ txn → KeptSince (SinceIn w.steps w.facts) c.txn c
kept_here sc w txn part c h up same =
    subst (λ (t : TxnId). KeptSince (SinceIn w.steps w.facts) t c) (sym same) (of_some (KeptSince (SinceIn w.steps w.facts) txn) part.up c up.up (h.coordinators txn.0 part up.found))

round_kept : (sc : Scenario) (w : State) (txn : TxnId) (part : Part Coordinator) (c : Coordinator) → Epochs sc w → IsCoordinatorUp w txn part c → is_undecided c.phase ≡ true → PhaseKept (KeepsEpoch c) c.phase
round_kept sc w txn part c epochs up undecided =
    let asked = asked_in w.mails txn in
    let keeps : CoordinatorKeeps sc (epoch_at w.actors.servers) asked c = of_some (CoordinatorKeeps sc (epoch_at w.actors.servers) asked) part.up c up.up (epochs.coordinators txn.0 part up.found) in
    (keeps.undecided undecided).round

-- a reply to the coordinator of a transaction is of that transaction
own_vote_in_restarts : (txn : TxnId) (reply : VoteReply) → actor.Coordinator txn ≡ actor.Coordinator reply.txn → reply.txn ≡ txn
own_vote_in_restarts txn reply e = cc

own_verdicts_in_restarts : (txn : TxnId) (reply : VerdictsReply) → actor.Coordinator txn ≡ actor.Coordinator reply.txn → reply.txn ≡ txn
own_verdicts_in_restarts txn reply e = cc

own_done_in_restarts : (txn : TxnId) (done : DoneReply) → actor.Coordinator txn ≡ actor.Coordinator done.txn → done.txn ≡ txn
own_done_in_restarts txn done e = cc

-- an abort for a restart is shown by the answer or the vote that it came of, which was sent after the crash
ended_shown : (sc : Scenario) (w : State) (n : ℕ) (mail : Mail) (txn : TxnId) (c : Coordinator) → IsSound sc w → Agrees sc w → Deaths sc w → Restarts sc w → WasSent w n mail (actor.Coordinator txn) → c.txn ≡ txn
    → PhaseHasItems sc c.txn c.phase → (why : Cause) → IsEnded sc c mail why → CauseSince (WasLostAt sc w.facts (length w.steps)) (IsHalted w.facts (length w.steps)) c.txn why
ended_shown sc w n mail txn c sound a deaths h sent same items why ended = shown why ended
  where
    S : TxnId → ServerId → ℕ → Type 0
    S = SinceIn w.steps w.facts

    says : IsSoundBody sc (actor.Coordinator txn) mail.letter.body
    says = mail_sound sc w n mail (actor.Coordinator txn) sound sent

    heard : (said : Body) (server : ServerId) → mail.letter.body ≡ said → mail.letter.from ≡ actor.Server server → BodySince S (ShownIn w.facts mail.sent) (actor.Server server) (actor.Coordinator txn) said
    heard said server e f =
        subst (λ (b : Body). BodySince S (ShownIn w.facts mail.sent) (actor.Server server) (actor.Coordinator txn) b) e
        (subst (λ (from : Actor). BodySince S (ShownIn w.facts mail.sent) from (actor.Coordinator txn) mail.letter.body) f
        (subst (λ (to : Actor). BodySince S (ShownIn w.facts mail.sent) mail.letter.from to mail.letter.body) sent.goes_to (each_get (MailSince w.steps w.facts) w.mails n mail h.mails sent.sent)))

    -- what was shown when the mail was sent is shown now
    by_now : (of_txn : TxnId) (at : ServerId) → ShownIn w.facts mail.sent of_txn at → ShownIn w.facts (length w.steps) of_txn at
    by_now of_txn at k =
        let less = each_get (λ (m : Mail). m.sent < length w.steps) w.mails n mail deaths.sent sent.sent in
        subst (λ (facts : List Fact). crashed_within (is_server_actor at) of_txn (length w.steps) facts ≡ true) (append-nil w.facts)
        (shown_more (is_server_actor at) of_txn mail.sent (length w.steps) w.facts [] (omega (arith, less)) k)

    shown : (why : Cause) → IsEnded sc c mail why → CauseSince (WasLostAt sc w.facts (length w.steps)) (IsHalted w.facts (length w.steps)) c.txn why
    shown _ (ByOlder done server asked other k) = tt
    shown _ (ByDenial done server asked verdict k) = tt
    shown _ (ByNewer done server asked newer k) = tt
    shown _ (ByNewest reply at why k older) =
        let found = read_newer c (reading_of reply mail.sent) why older in
        subst (CauseSince (WasLostAt sc w.facts (length w.steps)) (IsHalted w.facts (length w.steps)) c.txn) (sym found.1) tt
    shown _ (ByProof over round staple reading verdict j e) = tt
    shown _ (ByRounds reply over round mets k e) = tt
    shown _ (ByRefusal reply server number value k) = tt
    shown _ (ByRestart done server asked k) =
        let own : done.txn ≡ c.txn = own_done_in_restarts txn done (subst (IsSoundBody sc (actor.Coordinator txn)) k.said_is says).goes_to ∙ sym same in
        let told : DoneSince S (ShownIn w.facts mail.sent) server done = heard (body.Done done) server k.said_is (from_server mail.letter.from server k.from_is) in
        record {
          item = asked_has_item sc c done.query asked server k.asked_is k.server_is;
          crashed = subst (λ (t : TxnId). ShownIn w.facts (length w.steps) t server) own (by_now done.txn server (told.shown (ap has_restarted k.answer_is)));
        }
    shown _ (ByLostVerdicts reply number round staple server k) =
        let own : reply.txn ≡ c.txn = own_verdicts_in_restarts txn reply (subst (IsSoundBody sc (actor.Coordinator txn)) k.said_is says).goes_to ∙ sym same in
        let told : ShownSince (ShownIn w.facts mail.sent) (actor.Server server) reply = heard (body.Verdicts reply) server k.said_is k.from_is in
        record {
          item = awaited_holds (HoldsItem sc c.txn) round.targets server (subst (PhaseHasItems sc c.txn) k.checking items) k.awaited;
          crashed = subst (λ (t : TxnId). ShownIn w.facts (length w.steps) t server) own (by_now reply.txn server (told k.verdicts_are));
        }
    shown _ (ByLoss reply server k) =
        let own : reply.txn ≡ c.txn = own_vote_in_restarts txn reply (subst (IsSoundBody sc (actor.Coordinator txn)) k.said_is says).goes_to ∙ sym same in
        let told : VotedSince (ShownIn w.facts mail.sent) (actor.Server server) reply = heard (body.Vote reply) server k.said_is k.from_is in
        let settled = no_settled sc w mail.letter.from mail.letter.to mail.letter.body reply server no.Restarted (each_get (MailRests sc w.actors) w.mails n mail a.mails sent.sent) k.said_is k.from_is k.vote_is in
        record {
          item = subst (λ (t : TxnId). has_item_at sc server t ≡ true) own (settled_item sc w server reply.txn _ a settled);
          crashed = subst (λ (t : TxnId). ShownIn w.facts (length w.steps) t server) own (by_now reply.txn server (told k.vote_is));
        }

-- the row of a coordinator on a mail that was sent
pub coordinator_sends_since : (sc : Scenario) (w : State) → HaveHomes sc → IsSound sc w → Agrees sc w → Epochs sc w → Deaths sc w → Restarts sc w → (n : ℕ) (mail : Mail) (txn : TxnId) (part : Part Coordinator) (c : Coordinator)
    → WasSent w n mail (actor.Coordinator txn) → IsCoordinatorUp w txn part c
    → ActSince (SinceIn w.steps w.facts) (ShownIn w.facts (length w.steps)) (WasLostAt sc w.facts (length w.steps)) (IsHalted w.facts (length w.steps)) c.txn (coordinator_row sc c mail)
coordinator_sends_since sc w homes sound a epochs deaths h n mail txn part c sent up =
    let S = SinceIn w.steps w.facts in
    let L = WasLostAt sc w.facts (length w.steps) in
    let H = IsHalted w.facts (length w.steps) in
    let same : c.txn ≡ txn = own_txn sc w txn part c sound up.found up.up in
    let heard : IsSoundBody sc (actor.Coordinator txn) mail.letter.body = mail_sound sc w n mail (actor.Coordinator txn) sound sent in
    let agrees : CoordinatorAgrees sc c part.log = (subst (λ (u : Option Coordinator). IfSome u (CoordinatorUpAgrees sc w.actors.servers txn part.log)) up.up (a.coordinators txn.0 part up.found).state).agrees in
    coordinator_row_since S (ShownIn w.facts mail.sent) (ShownIn w.facts (length w.steps)) L H sc c mail (kept_here sc w txn part c h up same) (round_kept sc w txn part c epochs up)
    (each_get (MailSince w.steps w.facts) w.mails n mail h.mails sent.sent)
    (λ done e. own_done_in_restarts txn done (subst (IsSoundBody sc (actor.Coordinator txn)) e heard).goes_to ∙ sym same)
    (ended_shown sc w n mail txn c sound a deaths h sent same agrees.awaited)
    (λ undecided. ((coordinator_sends_keep sc w homes sound a epochs n mail txn part c sent up).keeps.undecided undecided).round)

receipt_by_coordinator_in_restarts : (sc : Scenario) (w : State) (n : ℕ) (mail : Mail) (txn : TxnId) (part : Part Coordinator) (c : Coordinator) → HaveHomes sc → IsSound sc w → Agrees sc w → Epochs sc w → Deaths sc w → Restarts sc w
    → WasSent w n mail (actor.Coordinator txn) → IsCoordinatorUp w txn part c → MoveSince sc w (coordinator_move w.actors txn (acts_by coordinator_fact [] part.log (coordinator_row sc c mail)))
receipt_by_coordinator_in_restarts sc w n mail txn part c homes sound a epochs deaths h sent up =
    let same : c.txn ≡ txn = own_txn sc w txn part c sound up.found up.up in
    let effect = coordinator_row sc c mail in
    let row = coordinator_sends_since sc w homes sound a epochs deaths h n mail txn part c sent up in
    coordinator_acts_since sc w txn part.log (Some effect.state) [] effect.reaction.append effect.reaction.letters h
    (record { state = subst (λ (t : TxnId). KeptSince (SinceIn w.steps w.facts) t effect.state) same row.kept; letters_are = row.letters; servers = λ other. refl; down = λ down. absurd (cc); own_says = λ facts. tt; forces = row.forces })

begun_since : (sc : Scenario) (w : State) (txn : TxnId) (part : Part Coordinator) (c : Coordinator) → IsSound sc w → Restarts sc w → IsCoordinatorUp w txn part c
    → MoveSince sc w (coordinator_move w.actors txn (acts_by coordinator_fact (what.Submitted txn ∷ []) part.log (with_age (submit_row sc c) (length w.steps))))
begun_since sc w txn part c sound h up =
    let S = SinceIn w.steps w.facts in
    let same : c.txn ≡ txn = own_txn sc w txn part c sound up.found up.up in
    let effect = with_age (submit_row sc c) (length w.steps) in
    let L = WasLostAt sc w.facts (length w.steps) in
    let H = IsHalted w.facts (length w.steps) in
    let row : ActSince S (ShownIn w.facts (length w.steps)) L H c.txn effect = submit_row_since S (ShownIn w.facts (length w.steps)) L H sc c (length w.steps) (kept_here sc w txn part c h up same) in
    coordinator_acts_since sc w txn part.log (Some effect.state) (what.Submitted txn ∷ []) effect.reaction.append effect.reaction.letters h
    (record { state = subst (λ (t : TxnId). KeptSince S t effect.state) same row.kept; letters_are = row.letters; servers = λ other. refl; down = λ down. absurd (cc); own_says = λ facts. (tt, tt); forces = row.forces })

-- ---- a timer fires

timed_since : (sc : Scenario) (w : State) (txn : TxnId) (part : Part Coordinator) (c : Coordinator) → IsSound sc w → Epochs sc w → Restarts sc w → IsCoordinatorUp w txn part c
    → MoveSince sc w (record { actors = w.actors; happened = []; letters = repeats sc c c.phase })
timed_since sc w txn part c sound epochs h up =
    still_since sc w w.actors [] (repeats sc c c.phase) h refl refl (λ n. refl) (λ facts. tt)
    (repeats_since (SinceIn w.steps w.facts) (ShownIn w.facts (length w.steps)) sc c (kept_here sc w txn part c h up (own_txn sc w txn part c sound up.found up.up)) (round_kept sc w txn part c epochs up))

-- ---- the others

tells_no_epoch : (S : TxnId → ServerId → ℕ → Type 0) (R : TxnId → ServerId → Type 0) (authority : Authority) (said : Body) → Each (LetterSince S R) (office.on_body authority said).reaction.letters
tells_no_epoch S R authority (body.Ask ask) = (tt, tt)
tells_no_epoch S R authority _ = tt

newest_no_epoch : (S : TxnId → ServerId → ℕ → Type 0) (R : TxnId → ServerId → Type 0) (held : Master) (said : Body) → Each (LetterSince S R) (master.on_body held said).reaction.letters
newest_no_epoch S R held (body.Probe probe) = (tt, tt)
newest_no_epoch S R held _ = tt

idle_since : (sc : Scenario) (w : State) (taken : Step) (happened : List What) → Restarts sc w → SaysIdle taken happened → MoveSince sc w (idle_move w.actors happened)
idle_since sc w (step.Deliver mail) happened h e = subst (λ (hs : List What). MoveSince sc w (idle_move w.actors hs)) (sym e) (still_since sc w w.actors [] [] h refl refl (λ n. refl) (λ facts. tt) tt)
idle_since sc w (step.Lose mail) happened h e = subst (λ (hs : List What). MoveSince sc w (idle_move w.actors hs)) (sym e) (still_since sc w w.actors (what.Lost mail ∷ []) [] h refl refl (λ n. refl) (λ facts. (tt, tt)) tt)
idle_since sc w _ happened h e = absurd e

-- ---- steps

restarts_cases : (sc : Scenario) (w : State) → HaveHomes sc → WaitRightly sc w → IsSound sc w → Agrees sc w → Epochs sc w → Ages w → Pairs sc w → Deaths sc w → Restarts sc w → Cases sc w (λ taken move. MoveSince sc w move)
restarts_cases sc w homes rightly sound a epochs ages pairs deaths h =
    let S = SinceIn w.steps w.facts in
    let R = ShownIn w.facts (length w.steps) in
    record {
      idle = λ taken happened e. idle_since sc w taken happened h e;
      server_received = λ n mail at part s sent up. receipt_by_server_in_restarts sc w n mail at part s rightly sound a epochs ages pairs deaths.told h sent up;
      coordinator_received = λ n mail txn part c sent up. receipt_by_coordinator_in_restarts sc w n mail txn part c homes sound a epochs deaths h sent up;
      authority_told = λ n mail sent. still_since sc w w.actors [] (office.authority_row w.actors.authority mail).reaction.letters h refl refl (λ other. refl) (λ facts. tt) (tells_no_epoch S R w.actors.authority mail.letter.body);
      master_told = λ n mail sent. still_since sc w w.actors [] (master.master_row w.actors.master mail).reaction.letters h refl refl (λ other. refl) (λ facts. tt) (newest_no_epoch S R w.actors.master mail.letter.body);
      published = λ admin exists more.
          still_since sc w (record w.actors { master = master.after_publication admin w.actors.master }) (what.Published admin (master.next_of w.actors.master admin) ∷ []) [] h refl refl (λ other. refl) (λ facts. (tt, tt)) tt;
      pushed = λ admin server exists there. still_since sc w w.actors [] (master.pushes w.actors.master admin server).reaction.letters h refl refl (λ other. refl) (λ facts. tt) (tt, tt);
      ticked = λ by. still_since sc w (record w.actors { authority = office.after_tick by w.actors.authority }) (what.Ticked by ∷ []) [] h refl refl (λ other. refl) (λ facts. (tt, tt)) tt;
      revoked = λ cred exists. still_since sc w (record w.actors { authority = office.after_revocation cred w.actors.authority }) (what.Revoked cred ∷ []) [] h refl refl (λ other. refl) (λ facts. (tt, tt)) tt;
      begun = λ txn part c exists up new. begun_since sc w txn part c sound h up;
      timed = λ txn part c exists up begun. timed_since sc w txn part c sound epochs h up;
    }

-- a step that is not refused keeps what is said of restarts
pub restarts_next : (sc : Scenario) (m : Machine) (taken : Step) → HaveHomes sc → IsStepOf sc taken → KeepsUp taken → refusal m.state taken ≡ None → WaitRightly sc m.state → IsSound sc m.state → Agrees sc m.state → Epochs sc m.state → Ages m.state → Pairs sc m.state
    → Deaths sc m.state → Restarts sc m.state → Restarts sc (machine_after sc m taken).state
restarts_next sc m taken homes exists stays allowed rightly sound a epochs ages pairs deaths h =
    machine_after_by sc m (λ taken_is move. MoveSince sc m.state move) (Restarts sc) (restarts_cases sc m.state homes rightly sound a epochs ages pairs deaths h) a.coordinator_count
    (λ taken_is move t. state_after_since sc m.state taken_is move h t) taken exists stays allowed

-- before the first step nobody has crashed, and nobody keeps an epoch
pub restarts_opening : (sc : Scenario) → Restarts sc (opening_state sc)
restarts_opening sc =
    record {
      servers = made_from_zero (λ (k : ℕ) (found : Part Server). PartSince (SinceIn [] []) (ShownIn [] 0) (server_number k) found) (λ (k : ℕ). opened_part (server_opened.opening sc (record { 0 = k }))) (length sc.servers)
          (λ k. record { state = placed_none (EntrySince (SinceIn [] []) (ShownIn [] 0) (server_number k)) (length sc.txns); prepared = λ txn p e. absurd (cc); settled = λ txn s e. absurd (cc) });
      counted = made_from_zero (λ (k : ℕ) (found : Part Server). IsCounted (is_server_actor (server_number k)) [] found) (λ (k : ℕ). opened_part (server_opened.opening sc (record { 0 = k }))) (length sc.servers) (λ k. refl);
      coordinators = made_from_zero (λ (k : ℕ) (found : Part Coordinator). IfSome found.up (KeptSince (SinceIn [] []) (txn_number k))) (λ (k : ℕ). opened_part (coord_opened.idle sc (record { 0 = k }))) (length sc.txns)
          (λ k. placed_none (λ (m : ℕ) (epoch : ℕ). SinceIn [] [] (txn_number k) (server_number m) epoch) (length sc.servers));
      down = made_from_zero (λ (k : ℕ) (found : Part Coordinator). found.up ≡ None → IsHalted [] 0 (txn_number k)) (λ (k : ℕ). opened_part (coord_opened.idle sc (record { 0 = k }))) (length sc.txns) (λ k down. absurd (cc));
      mails = tt;
      facts = tt;
    }
