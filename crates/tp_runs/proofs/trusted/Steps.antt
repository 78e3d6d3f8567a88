-- Trust, step by step: it holds before the first step, and each step keeps it.
use Rattle.std.proofs.Common.{Contains, IfSome, List, None, Option, Some, [], ap, arith, false, inl, inr, length, option_and_then, refl, slice_get, subst, suc, sym, true, zero, ℕ, ⊎_elim, ◌+◌, ◌==◌, ◌∙◌, ◌∷◌, ◌≡◌, ◌≤◌}
use Rattle.std.proofs.lemmas.Bool.{or_left, or_right}
use Rattle.std.proofs.lemmas.List.{length-replicate}
use Rattle.std.proofs.lemmas.List.Folds.{list_any-append}
use Rattle.tp_types.proofs.EachLemmas.{at_made, each_get, placed_none}
use Rattle.tp_types.proofs.ListLemmas.{number_itself}
use Rattle.tp_types.specs.Each.{Each}
use Rattle.tp_types.specs.Effect.{Effect}
use Rattle.tp_model.proofs.RuleLemmas as rules
use Rattle.tp_model.specs.Valid.{is_valid}
use Rattle.tp_model.specs.Facts.{is_submission}
use Rattle.tp_model.specs.Limits.{is_empty}
use Rattle.tp_model.specs.Words.{Actor, Body, CredId, Deed, Fact, Mail, Scenario, ServerId, Step, TxnId, What}
use Rattle.tp_model.specs.Words.actor
use Rattle.tp_model.specs.Words.body
use Rattle.tp_model.specs.Words.step
use Rattle.tp_model.specs.Words.what
use Rattle.tp_coord.proofs.Rows.{submit_by}
use Rattle.tp_coord.specs.Opened as coord
use Rattle.tp_coord.specs.Row.{coordinator_row, is_begun, repeats, submit_row}
use Rattle.tp_coord.specs.State.{Coordinator}
use Rattle.tp_machine.specs.Machine.{Machine, State, acts_by, coordinator_fact, coordinator_move, facts_of, idle_move, is_part_submitted, machine_after, opened_part, opening_state, refusal, server_fact, server_move, with_age}
use Rattle.tp_machine.specs.Named.{IsStepOf}
use Rattle.tp_machine.specs.Parts.{Part}
use Rattle.tp_offices.specs.Authority as office
use Rattle.tp_offices.specs.Master as master
use Rattle.tp_server.specs.Opened as server
use Rattle.tp_server.specs.Row.{server_row}
use Rattle.tp_server.specs.State.{Server}
use Rattle.tp_server.specs.declared.server.Entry.{Entry}
use Rattle.tp_runs.proofs.agreement.Coordinator.{CoordinatorAgrees}
use Rattle.tp_runs.proofs.agreement.CoordinatorActs.{coordinator_facts}
use Rattle.tp_runs.proofs.agreement.Known.{learns_told, row_learns}
use Rattle.tp_runs.proofs.agreement.Steps.{own_txn}
use Rattle.tp_runs.proofs.agreement.World.{Agrees, CoordinatorUpAgrees}
use Rattle.tp_runs.proofs.basics.Facts.{ArePast, facts_after}
use Rattle.tp_runs.proofs.basics.Homes.{HaveHomes}
use Rattle.tp_runs.proofs.basics.Phases.{is_undecided}
use Rattle.tp_runs.proofs.basics.Turns.{AreFew, IsOfNoOffice, IsTimely, Stamp, TurnFits, few_queries, stamp_of, timely_anywhere}
use Rattle.tp_runs.proofs.epochs.World.{made_from_zero}
use Rattle.tp_runs.proofs.ids.Queries.{have_homes}
use Rattle.tp_runs.proofs.ids.Valid.{IsValid, valid_of}
use Rattle.tp_runs.proofs.known.World.{IsNumbered, Pairs, asker_of_up, declared_by, pair_of_up}
use Rattle.tp_runs.proofs.pairs.Actors.{BodyPairs, LetterPairs, asker_at, asker_by, asker_in, asker_of, pair_at, pair_up, site_of}
use Rattle.tp_runs.proofs.pairs.CoordinatorRows.{undecided_asker}
use Rattle.tp_runs.proofs.pairs.Fits.{Fits, NamesUpto, PrepareFits, ValidateFits, ValidateLive}
use Rattle.tp_runs.proofs.pairs.Letters.{validated_deeds}
use Rattle.tp_runs.proofs.pairs.Pair.{Asker, Pair, numbers}
use Rattle.tp_runs.proofs.pairs.Site.{upto, upto_in}
use Rattle.tp_runs.proofs.pairs.Votes.{has_deeds}
use Rattle.tp_runs.proofs.trust.Acts.{ActTrusts, ForcesPublished, IsUpAs, act_trusts, coordinator_acts_trusts, own_timely, server_acts_trusts, tells_fit, tells_timely, timely_closed, unmoved_trusts}
use Rattle.tp_runs.proofs.trust.Coordinator.{CoordinatorFits, CoordinatorTrusts, LetterOfTurn, PresentMail, RecordDecides, RowTrusts}
use Rattle.tp_runs.proofs.trust.CoordinatorRows.{coordinator_row_trusts, repeats_fit, repeats_timely, submit_row_trusts}
use Rattle.tp_runs.proofs.trust.Fit.{BodyFits, IsSubmitted, Later, MailFits, ServerFits, maybe_stays}
use Rattle.tp_runs.proofs.trust.Instances.{so_far_idle}
use Rattle.tp_runs.proofs.trust.Kept.{AreKept, IsKept, IsTrusted}
use Rattle.tp_runs.proofs.trust.Offices.{newest_fits, newest_timely, none_revoked, opening_fits, published_trusts, pushed_fits, revoked_trusts, ticked_trusts}
use Rattle.tp_runs.proofs.trust.Opening.{known_at_first}
use Rattle.tp_runs.proofs.trust.Server.{ServerTrusted, ServerTrusts}
use Rattle.tp_runs.proofs.trust.ServerRows.{NamedMail, RanMail, ShowingMail, deeds_named, named_mail, server_row_trusts}
use Rattle.tp_runs.proofs.trust.World.{BodyTimely, CoordinatorPartFits, MailTimely, MoveTrusts, ServerPartFits, StampFits, Timely, Trusts, coordinator_stays, later_with_facts, state_after_trusts, up_at, up_of}
use Rattle.tp_runs.proofs.walks.Steps.{Cases, IsCoordinatorUp, IsServerUp, KeepsUp, SaysIdle, WaitRightly, WasSent, machine_after_by}
use Rattle.tp_runs.specs.Sound.{IsSound, IsSoundBody, IsSoundCoordinator, IsSoundCoordinatorUp, IsSoundDeedAt, IsSoundLetter, IsSoundMail, IsSoundServerUp}

-- ---- what is known of actors that are up

idle_trusts : (sc : Scenario) (w : State) → ArePast (length w.steps) w.facts → Trusts sc w → (taken : Step) (happened : List What) → SaysIdle taken happened → MoveTrusts sc w (idle_move w.actors happened)
idle_trusts sc w past h (step.Deliver mail) happened e =
    subst (λ (hs : List What). MoveTrusts sc w (idle_move w.actors hs)) (sym e) (unmoved_trusts sc w [] [] past h (record { still = tt; fit = λ facts. tt }) tt tt)
idle_trusts sc w past h (step.Lose mail) happened e =
    subst (λ (hs : List What). MoveTrusts sc w (idle_move w.actors hs)) (sym e) (unmoved_trusts sc w (what.Lost mail ∷ []) [] past h (record { still = (tt, tt); fit = λ facts. (tt, tt) }) tt tt)
idle_trusts sc w past h _ happened e = absurd e

-- what a mail that was sent says is sound, fits, and is timely
record MailTrusted (sc : Scenario) (w : State) (mail : Mail) (to : Actor) : Type 0 where
  pub says : IsSoundBody sc to mail.letter.body
  pub fits : BodyFits sc w.facts (length w.steps) mail.sent mail.letter.body
  pub timely : BodyTimely sc w.actors.coordinators mail.sent mail.letter.body

mail_trusted : (sc : Scenario) (w : State) (n : ℕ) (mail : Mail) (to : Actor) → IsSound sc w → Trusts sc w → WasSent w n mail to → MailTrusted sc w mail to
mail_trusted sc w n mail to sound h sent =
    let m : IsSoundLetter sc mail.letter = each_get (IsSoundMail sc) w.mails n mail sound.mails_are sent.sent in
    record {
      says = subst (λ (t : Actor). IsSoundBody sc t mail.letter.body) sent.goes_to m.says;
      fits = each_get (MailFits sc w.facts (length w.steps)) w.mails n mail h.mails_fit sent.sent;
      timely = each_get (MailTimely sc w.actors.coordinators) w.mails n mail h.mails_timely sent.sent;
    }

-- what a server is told depends on no place
of_no_office : (sc : Scenario) (at : ServerId) (said : Body) → IsSoundBody sc (actor.Server at) said → IsOfNoOffice said
of_no_office sc at (body.Tell tell) m = let other : actor.Server at ≡ actor.Coordinator tell.txn = m.goes_to in absurd (cc)
of_no_office sc at (body.Newest reply) m = let other : actor.Server at ≡ actor.Coordinator reply.txn = m.goes_to in absurd (cc)
of_no_office sc at _ m = tt

heard_anywhere : (sc : Scenario) (coordinators : List (Part Coordinator)) (sent : ℕ) (said : Body) → IsOfNoOffice said → BodyTimely sc coordinators sent said → Timely sc coordinators said
heard_anywhere sc coordinators sent said other h place =
    maybe_stays (StampFits sc coordinators sent said) (StampFits sc coordinators place said) (stamp_of said)
    (λ stamped k. maybe_stays (TurnFits sc sent stamped.turn said) (TurnFits sc place stamped.turn said) (up_at coordinators stamped.txn.0)
    (λ c t. timely_anywhere sc c sent place stamped.turn said other t) k) h

-- a request to prepare comes to an entry with deeds
ran_mail : (sc : Scenario) (w : State) (at : ServerId) (part : Part Server) (s : Server) (from : Actor) (said : Body) → Pairs sc w → IsServerUp w at part s → IsSoundBody sc (actor.Server at) said
    → BodyPairs sc (pair_at w.actors) from (actor.Server at) said → RanMail s said
ran_mail sc w at part s from (body.Prepare p) pairs up m asked = λ entry found epoch none.
    let there = declared_by sc p.txn m.txn in
    let site = site_of sc at.0 there.0 in
    let seen : pair_at w.actors p.txn at.0 ≡ pair_up p.txn (asker_at w.actors.coordinators p.txn.0 at.0) s part.log = pair_of_up w.actors at part s p.txn up.found up.up in
    has_deeds site (pair_up p.txn (asker_at w.actors.coordinators p.txn.0 at.0) s part.log) entry p refl found (subst (Fits site) seen (pairs.fits p.txn at.0 there.0 there.1))
    (subst (λ (pair : Pair). PrepareFits site pair p) seen (asked there.0 there.1)) epoch none
ran_mail sc w at part s from _ pairs up m asked = tt

-- the coordinator that is up is the one that asks
asks_up : (coordinators : List (Part Coordinator)) (txn : TxnId) (at : ℕ) (c : Coordinator) → IsUpAs coordinators txn c → is_undecided c.phase ≡ true → asker_at coordinators txn.0 at ≡ Some (asker_of at c)
asks_up coordinators txn at c up undecided = found (slice_get coordinators txn.0) up
  where
    found : (part : Option (Part Coordinator)) → option_and_then up_of part ≡ Some c → option_and_then (asker_by at) part ≡ Some (asker_of at c)
    found None e = absurd (cc)
    found (Some part) e = ap (asker_in at) e ∙ undecided_asker at c undecided

each_counted : (last : ℕ) (deeds : List Deed) → ((number : ℕ) → Contains (numbers deeds) number → number ≤ last) → Each (λ (deed : Deed). deed.query ≤ last) deeds
each_counted last [] h = tt
each_counted last (deed ∷ deeds) h = (h deed.query (zero, omega arith, refl), each_counted last deeds (λ number there. let within = there.1 in h number (suc there.0, omega (arith, within), there.2)))

-- a request to evaluate, of the present turn, names what it is to name
showing_mail : (sc : Scenario) (w : State) (at : ServerId) (part : Part Server) (s : Server) (from : Actor) (said : Body) → Pairs sc w → IsServerUp w at part s → IsSoundServerUp sc at s → IsSoundBody sc (actor.Server at) said
    → BodyPairs sc (pair_at w.actors) from (actor.Server at) said → ShowingMail sc (IsUpAs w.actors.coordinators) s said
showing_mail sc w at part s from (body.Validate v) pairs up here m asked = λ entry found epoch c there undecided turn.
    let own = declared_by sc v.txn m.txn in
    let site = site_of sc at.0 own.0 in
    let asker = asker_at w.actors.coordinators v.txn.0 at.0 in
    let pair = pair_up v.txn asker s part.log in
    let seen : pair_at w.actors v.txn at.0 ≡ pair = pair_of_up w.actors at part s v.txn up.found up.up in
    let fits : Fits site pair = subst (Fits site) seen (pairs.fits v.txn at.0 own.0 own.1) in
    let is : asker ≡ Some (asker_of at.0 c) = asks_up w.actors.coordinators v.txn at.0 c there undecided in
    let request : ValidateFits site pair v = subst (λ (p : Pair). ValidateFits site p v) seen (asked own.0 own.1) in
    let live : ValidateLive site v (asker_of at.0 c) = subst (λ (a : Option Asker). IfSome a (ValidateLive site v)) is request.live in
    let now = live.now turn in
    let numbered : numbers entry.deeds ≡ upto site (length c.deeds) = validated_deeds site pair (asker_of at.0 c) entry v refl found is fits request epoch turn in
    let low : Each (λ (deed : Deed). deed.query ≤ length c.deeds) entry.deeds =
    each_counted (length c.deeds) entry.deeds (λ number inside. (upto_in site (length c.deeds) number (subst (λ (ns : List ℕ). Contains ns number) numbered inside)).high) in
    let deeds : Each (IsSoundDeedAt sc at v.txn) entry.deeds = subst (λ (a : ServerId). Each (IsSoundDeedAt sc a v.txn) entry.deeds) here.server_is (here.sound.entries v.txn.0 entry found).deeds in
    ⊎_elim (λ (none : is_empty v.want ≡ true). inl none) (λ (names : NamesUpto site (length c.deeds) v.want). inr (deeds_named sc at v.txn own.0 v.want (length c.deeds) entry.deeds own.1 deeds low names)) now.1
showing_mail sc w at part s from _ pairs up here m asked = tt

-- what is known of a server that is up
server_sound : (sc : Scenario) (w : State) (at : ServerId) (part : Part Server) (s : Server) → IsSound sc w → IsServerUp w at part s → IsSoundServerUp sc at s
server_sound sc w at part s sound up = subst (λ (u : Option Server). IfSome u (IsSoundServerUp sc at)) up.up (sound.actors_are.servers at.0 part up.found).state

-- the row of a server on a mail that was sent
pub server_sends_trusts : (sc : Scenario) (w : State) → IsValid sc → WaitRightly sc w → IsSound sc w → Pairs sc w → Trusts sc w → (n : ℕ) (mail : Mail) (at : ServerId) (part : Part Server) (s : Server)
    → WasSent w n mail (actor.Server at) → IsServerUp w at part s
    → ServerTrusts sc w.facts (length w.steps) (Timely sc w.actors.coordinators) (Some (server_row sc s mail).state) (server_row sc s mail).reaction.append (server_row sc s mail).reaction.letters
server_sends_trusts sc w valid rightly sound pairs h n mail at part s sent up =
    let place = length w.steps in
    let T = Timely sc w.actors.coordinators in
    let m = mail_trusted sc w n mail (actor.Server at) sound h sent in
    let here = server_sound sc w at part s sound up in
    let fits = h.servers at.0 part up.found in
    let trusted : ServerTrusted sc w.facts place T s = record {
      fits = subst (λ (u : Option Server). IfSome u (ServerFits sc w.facts place)) up.up fits.state;
      keeps = subst (λ (u : Option Server). IfSome u (AreKept (IsTrusted sc w.facts place T))) up.up fits.kept.state;
    } in
    let said : BodyPairs sc (pair_at w.actors) mail.letter.from (actor.Server at) mail.letter.body =
    subst (λ (to : Actor). BodyPairs sc (pair_at w.actors) mail.letter.from to mail.letter.body) sent.goes_to (each_get (λ (m : Mail). LetterPairs sc (pair_at w.actors) m.letter) w.mails n mail pairs.mails sent.sent) in
    server_row_trusts sc w.facts place (IsUpAs w.actors.coordinators) T s mail valid (rightly at part s up) here.sound (subst (λ (a : ServerId). IsSoundBody sc (actor.Server a) mail.letter.body) (sym here.server_is) m.says) trusted m.fits
    (subst (λ (a : ServerId). NamedMail sc a mail.letter.body) (sym here.server_is) (named_mail sc (pair_at w.actors) mail.letter.from at mail.letter.body said))
    (ran_mail sc w at part s mail.letter.from mail.letter.body pairs up m.says said) (showing_mail sc w at part s mail.letter.from mail.letter.body pairs up here m.says said)
    (timely_closed sc w.actors.coordinators) (heard_anywhere sc w.actors.coordinators mail.sent mail.letter.body (of_no_office sc at mail.letter.body m.says) m.timely)

-- what it forces tells of no version above the newest
pub server_sends_published : (sc : Scenario) (w : State) → IsValid sc → WaitRightly sc w → IsSound sc w → Pairs sc w → Trusts sc w → (n : ℕ) (mail : Mail) (at : ServerId) (part : Part Server) (s : Server)
    → WasSent w n mail (actor.Server at) → IsServerUp w at part s → ForcesPublished sc w.facts (length w.steps) (server_row sc s mail).reaction.append
server_sends_published sc w valid rightly sound pairs h n mail at part s sent up = λ admin exists.
    let effect = server_row sc s mail in
    let fits : ServerFits sc w.facts (length w.steps) effect.state = (server_sends_trusts sc w valid rightly sound pairs h n mail at part s sent up).fits in
    omega (arith, learns_told sc s effect admin (server_sound sc w at part s sound up).sound.known (row_learns sc s mail (rightly at part s up)) exists, fits.known admin exists)

receipt_by_server_in_trusted : (sc : Scenario) (w : State) → IsValid sc → WaitRightly sc w → IsSound sc w → ArePast (length w.steps) w.facts → Pairs sc w → Trusts sc w → (n : ℕ) (mail : Mail) (at : ServerId) (part : Part Server) (s : Server)
    → WasSent w n mail (actor.Server at) → IsServerUp w at part s → MoveTrusts sc w (server_move w.actors at (acts_by (server_fact at) [] part.log (server_row sc s mail)))
receipt_by_server_in_trusted sc w valid rightly sound past pairs h n mail at part s sent up =
    let effect = server_row sc s mail in
    server_acts_trusts sc w at part [] (Some effect.state) effect.reaction.append effect.reaction.letters past h up.found (record { still = tt; fit = λ facts. tt })
    (server_sends_published sc w valid rightly sound pairs h n mail at part s sent up) (server_sends_trusts sc w valid rightly sound pairs h n mail at part s sent up)

coordinator_fits : (sc : Scenario) (w : State) (txn : TxnId) (part : Part Coordinator) (c : Coordinator) → Trusts sc w → IsCoordinatorUp w txn part c → CoordinatorFits sc w.facts (length w.steps) c
coordinator_fits sc w txn part c h up = subst (λ (u : Option Coordinator). IfSome u (CoordinatorFits sc w.facts (length w.steps))) up.up (h.coordinators txn.0 part up.found)

-- what a mail says to the coordinator that is up
present_mail : (coordinators : List (Part Coordinator)) (c : Coordinator) (txn : TxnId) (part : Part Coordinator) (sc : Scenario) (sent : ℕ) (said : Body) → c.txn ≡ txn → slice_get coordinators txn.0 ≡ Some part → part.up ≡ Some c
    → BodyTimely sc coordinators sent said → PresentMail sc c sent said
present_mail coordinators c txn part sc sent said own found up h =
    maybe_stays (StampFits sc coordinators sent said) (λ (stamped : Stamp). stamped.txn ≡ c.txn → IsTimely sc c sent stamped.turn said) (stamp_of said)
    (λ stamped k same.
    let there : up_at coordinators stamped.txn.0 ≡ Some c = ap (λ (t : TxnId). up_at coordinators t.0) (same ∙ own) ∙ (ap (option_and_then up_of) found ∙ up) in
    subst (λ (u : Option Coordinator). IfSome u (TurnFits sc sent stamped.turn said)) there k) h

-- what the coordinator's row leaves fits
pub received_row_trusts : (sc : Scenario) (w : State) → AreFew sc → HaveHomes sc → IsValid sc → IsSound sc w → Agrees sc w → Pairs sc w → Trusts sc w → (n : ℕ) (mail : Mail) (txn : TxnId) (part : Part Coordinator) (c : Coordinator)
    → WasSent w n mail (actor.Coordinator txn) → IsCoordinatorUp w txn part c → RowTrusts sc w.facts (length w.steps) c (coordinator_row sc c mail)
received_row_trusts sc w few homes valid sound a pairs h n mail txn part c sent up =
    let m = mail_trusted sc w n mail (actor.Coordinator txn) sound h sent in
    let same : c.txn ≡ txn = own_txn sc w txn part c sound up.found up.up in
    let agrees : CoordinatorAgrees sc c part.log =
    (subst (λ (u : Option Coordinator). IfSome u (CoordinatorUpAgrees sc w.actors.servers txn part.log)) up.up (a.coordinators txn.0 part up.found).state).agrees in
    let paired : BodyPairs sc (pair_at w.actors) mail.letter.from (actor.Coordinator txn) mail.letter.body =
    subst (λ (to : Actor). BodyPairs sc (pair_at w.actors) mail.letter.from to mail.letter.body) sent.goes_to (each_get (λ (m : Mail). LetterPairs sc (pair_at w.actors) m.letter) w.mails n mail pairs.mails sent.sent) in
    let here : IsSoundCoordinator sc c = (subst (λ (u : Option Coordinator). IfSome u (IsSoundCoordinatorUp sc txn)) up.up (sound.actors_are.coordinators txn.0 part up.found).state).sound in
    coordinator_row_trusts sc w.facts (length w.steps) (pair_at w.actors) c mail few homes valid here.exists
    (record {
      servers = agrees.servers;
      sound = here.awaits;
      asker_is = λ at. ap (λ (t : TxnId). (pair_at w.actors t at).asker) same ∙ asker_of_up w txn part c at up;
      numbered = subst (λ (u : Option Coordinator). IfSome u IsNumbered) up.up (pairs.numbered txn.0 part up.found);
    }) (coordinator_fits sc w txn part c h up)
    (record {
      sound = subst (λ (t : TxnId). IsSoundBody sc (actor.Coordinator t) mail.letter.body) (sym same) m.says;
      fits = m.fits;
      present = present_mail w.actors.coordinators c txn part sc mail.sent mail.letter.body same up.found up.up m.timely;
    })
    (subst (λ (t : TxnId). BodyPairs sc (pair_at w.actors) mail.letter.from (actor.Coordinator t) mail.letter.body) (sym same) paired)

receipt_by_coordinator_in_trusted : (sc : Scenario) (w : State) → AreFew sc → HaveHomes sc → IsValid sc → IsSound sc w → Agrees sc w → Pairs sc w → Trusts sc w → (n : ℕ) (mail : Mail) (txn : TxnId) (part : Part Coordinator) (c : Coordinator)
    → WasSent w n mail (actor.Coordinator txn) → IsCoordinatorUp w txn part c → MoveTrusts sc w (coordinator_move w.actors txn (acts_by coordinator_fact [] part.log (coordinator_row sc c mail)))
receipt_by_coordinator_in_trusted sc w few homes valid sound a pairs h n mail txn part c sent up =
    let effect = coordinator_row sc c mail in
    let append = effect.reaction.append in
    let letters = effect.reaction.letters in
    let same : c.txn ≡ txn = own_txn sc w txn part c sound up.found up.up in
    coordinator_acts_trusts sc w txn part [] (Some effect.state) append letters a.past h up.found
    (act_trusts sc w txn part.up (Some effect.state) [] append letters (record { still = tt; fit = λ facts. tt })
    (subst (λ (was : Option Coordinator). CoordinatorTrusts sc w.facts (length w.steps) txn was (Some effect.state) append letters) (sym up.up)
    (subst (λ (t : TxnId). CoordinatorTrusts sc w.facts (length w.steps) t (Some c) (Some effect.state) append letters) same
    (received_row_trusts sc w few homes valid sound a pairs h n mail txn part c sent up))))

-- ---- submissions

-- the facts after a submission tell of it
now_submitted : (w : State) (txn : TxnId) (more : List What) → IsSubmitted (facts_after w (what.Submitted txn ∷ more)) txn
now_submitted w txn more =
    list_any-append (is_submission txn) w.facts (facts_of (length w.steps) (what.Submitted txn ∷ more)) ∙ or_right _ _ (or_left (txn.0 == txn.0) _ (number_itself txn.0))

-- a submission decides nothing
begins_nothing : (sc : Scenario) (w : State) (c : Coordinator) → IfSome (submit_row sc c).reaction.append (RecordDecides sc w.facts (length w.steps))
begins_nothing sc w c = submit_by sc c (λ (effect : Effect Coordinator). IfSome effect.reaction.append (RecordDecides sc w.facts (length w.steps))) (record { ignored = tt; sent = λ server moves home. tt; asked = λ moves. tt })

submission_fits : (sc : Scenario) (w : State) (txn : TxnId) (c : Coordinator) → c.txn ≡ txn → CoordinatorFits sc w.facts (length w.steps) c → is_begun c.phase ≡ false
    → ActTrusts sc w txn (Some c) (Some (with_age (submit_row sc c) (length w.steps)).state) (what.Submitted txn ∷ []) (submit_row sc c).reaction.append (submit_row sc c).reaction.letters
submission_fits sc w txn c same fits begun =
    let place = length w.steps in
    let effect = with_age (submit_row sc c) place in
    let after = facts_after w (what.Submitted txn ∷ coordinator_facts effect.reaction.append) in
    let row : (facts : List Fact) → facts ≡ after → CoordinatorTrusts sc facts (place + 1) c.txn (Some c) (Some effect.state) effect.reaction.append effect.reaction.letters =
    λ facts e. submit_row_trusts sc facts (place + 1) place c
    (coordinator_stays sc w.facts facts place (place + 1) c (subst (λ (fs : List Fact). Later w.facts fs place (place + 1)) (sym e) (later_with_facts w (what.Submitted txn ∷ coordinator_facts effect.reaction.append) (place + 1) (omega arith))) fits)
    begun
    (subst (λ (fs : List Fact). IsSubmitted fs c.txn) (sym e) (subst (λ (t : TxnId). IsSubmitted after t) (sym same) (now_submitted w txn (coordinator_facts effect.reaction.append)))) in
    record {
      says = record { still = (tt, tt); fit = λ facts. (tt, tt) };
      fits = λ facts e. (row facts e).fits;
      decides = begins_nothing sc w c;
      letters = λ facts e. (row facts e).says place;
      timely = subst (λ (u : TxnId). Each (LetterOfTurn sc u (Some effect.state) place) effect.reaction.letters) same ((row after refl).timely place);
      old = (row after refl).old;
    }

begun_trusts : (sc : Scenario) (w : State) → IsSound sc w → ArePast (length w.steps) w.facts → Trusts sc w → (txn : TxnId) (part : Part Coordinator) (c : Coordinator) → IsCoordinatorUp w txn part c
    → is_part_submitted (Some c) ≡ false
    → MoveTrusts sc w (coordinator_move w.actors txn (acts_by coordinator_fact (what.Submitted txn ∷ []) part.log (with_age (submit_row sc c) (length w.steps))))
begun_trusts sc w sound past h txn part c up new =
    let effect = with_age (submit_row sc c) (length w.steps) in
    let own = what.Submitted txn ∷ [] in
    coordinator_acts_trusts sc w txn part own (Some effect.state) effect.reaction.append effect.reaction.letters past h up.found
    (subst (λ (was : Option Coordinator). ActTrusts sc w txn was (Some effect.state) own effect.reaction.append effect.reaction.letters) (sym up.up)
    (submission_fits sc w txn c (own_txn sc w txn part c sound up.found up.up) (coordinator_fits sc w txn part c h up) new))

-- ---- timers

-- what is sent again fits, and is of the present turn
timed_trusts : (sc : Scenario) (w : State) → IsSound sc w → ArePast (length w.steps) w.facts → Trusts sc w → (txn : TxnId) (part : Part Coordinator) (c : Coordinator) → IsCoordinatorUp w txn part c
    → MoveTrusts sc w (record { actors = w.actors; happened = []; letters = repeats sc c c.phase })
timed_trusts sc w sound past h txn part c up =
    let place = length w.steps in
    let same : c.txn ≡ txn = own_txn sc w txn part c sound up.found up.up in
    let fits = coordinator_fits sc w txn part c h up in
    let later = coordinator_stays sc w.facts (facts_after w []) place (place + 1) c (later_with_facts w [] (place + 1) (omega arith)) fits in
    unmoved_trusts sc w [] (repeats sc c c.phase) past h (record { still = tt; fit = λ facts. tt }) (repeats_fit sc (facts_after w []) (place + 1) place c later)
    (own_timely sc w.actors.coordinators txn part c place (repeats sc c c.phase) up.found up.up
    (subst (λ (t : TxnId). Each (LetterOfTurn sc t (Some c) place) (repeats sc c c.phase)) same (repeats_timely sc w.facts place place c fits)))

-- ---- steps

trusts_cases : (sc : Scenario) (w : State) → is_valid sc ≡ true → IsValid sc → AreFew sc → WaitRightly sc w → IsSound sc w → Agrees sc w → Pairs sc w → Trusts sc w → Cases sc w (λ taken move. MoveTrusts sc w move)
trusts_cases sc w formed valid few rightly sound a pairs h =
    record {
      idle = idle_trusts sc w a.past h;
      server_received = λ n mail at part s sent up. receipt_by_server_in_trusted sc w valid rightly sound a.past pairs h n mail at part s sent up;
      coordinator_received = λ n mail txn part c sent up. receipt_by_coordinator_in_trusted sc w few (have_homes sc valid) valid sound a pairs h n mail txn part c sent up;
      authority_told = λ n mail sent.
          let m = mail_trusted sc w n mail actor.Authority sound h sent in
          unmoved_trusts sc w [] (office.authority_row w.actors.authority mail).reaction.letters a.past h (record { still = tt; fit = λ facts. tt })
          (tells_fit sc w mail.letter.body mail.sent a h.authority m.fits) (tells_timely sc w mail.letter.body mail.sent h m.timely);
      master_told = λ n mail sent.
          unmoved_trusts sc w [] (master.master_row w.actors.master mail).reaction.letters a.past h (record { still = tt; fit = λ facts. tt })
          (newest_fits sc w mail.letter.body mail.sent a.past h.master (mail_trusted sc w n mail actor.Master sound h sent).fits) (newest_timely sc w mail.letter.body mail.sent sound h (mail_trusted sc w n mail actor.Master sound h sent).timely);
      published = λ admin exists more. published_trusts sc w admin exists a.past h;
      pushed = λ admin server exists there.
          unmoved_trusts sc w [] (master.pushes w.actors.master admin server).reaction.letters a.past h (record { still = tt; fit = λ facts. tt }) (pushed_fits sc w admin server exists h) (tt, tt);
      ticked = λ by. ticked_trusts sc w by a.past h;
      revoked = λ cred exists. revoked_trusts sc w cred exists a.past h;
      begun = λ txn part c exists up new. begun_trusts sc w sound a.past h txn part c up new;
      timed = λ txn part c exists up begun. timed_trusts sc w sound a.past h txn part c up;
    }

-- a step that is not refused keeps what trust rests on
pub trusts_next : (sc : Scenario) (m : Machine) (taken : Step) → is_valid sc ≡ true → IsStepOf sc taken → KeepsUp taken → refusal m.state taken ≡ None → WaitRightly sc m.state → IsSound sc m.state → Agrees sc m.state → Pairs sc m.state → Trusts sc m.state
    → Trusts sc (machine_after sc m taken).state
trusts_next sc m taken formed exists stays allowed rightly sound a pairs h =
    machine_after_by sc m (λ taken move. MoveTrusts sc m.state move) (Trusts sc)
    (trusts_cases sc m.state formed (valid_of sc formed) (few_queries sc (rules.rules_of sc formed)) rightly sound a pairs h) a.coordinator_count
    (λ taken move t. state_after_trusts sc m.state taken move a h t) taken exists stays allowed

-- ---- before the first step

-- the world before the first step
pub trusts_opening : (sc : Scenario) → is_valid sc ≡ true → Trusts sc (opening_state sc)
trusts_opening sc formed =
    let T = Timely sc (opening_state sc).actors.coordinators in
    record {
      authority = record {
        clock_is = omega arith;
        revoked_is = λ cred. none_revoked (length sc.creds) cred;
        placed = placed_none (λ (n : ℕ) (cred : CredId). cred.0 ≡ n) (length sc.creds);
        places = length-replicate {A = Option CredId} (length sc.creds) None;
      };
      master = opening_fits sc;
      servers = made_from_zero (λ (k : ℕ) (found : Part Server). ServerPartFits sc [] 0 T (record { 0 = k }) found) (λ (k : ℕ). opened_part (server.opening sc (record { 0 = k }))) (length sc.servers)
          (λ k. record {
            state = record {
              known = λ admin exists. let low = known_at_first sc k admin formed exists in omega (arith, low);
            };
            kept = record {
              state = placed_none (λ (m : ℕ) (entry : Entry). IsKept (IsTrusted sc [] 0 T) (record { 0 = m }) entry) (length sc.txns);
              prepared = λ txn p f. absurd (cc);
            };
            told = λ admin exists. let low = known_at_first sc k admin formed exists in omega (arith, low);
          });
      coordinators = λ n part e. at_made (λ (k : ℕ) (found : Part Coordinator). CoordinatorPartFits sc [] 0 found) (λ (k : ℕ). opened_part (coord.idle sc (record { 0 = k }))) 0 (length sc.txns)
          (λ k within.
          record {
            awaits = tt;
            suits = λ declared found. tt;
            so_far = λ unsure declared found. so_far_idle sc [] 0 (record { 0 = k }) declared;
            above = λ unsure. record { closed = tt; gathered_before = tt };
            made_after = tt;
            turn = omega arith;
          }) n part e;
      mails_fit = tt;
      mails_timely = tt;
      facts_fit = tt;
    }
