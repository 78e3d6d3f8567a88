-- Each actor's act is the machine's, wherever in a run it takes place.
use Rattle.std.proofs.Common.{◌≡◌, ℕ, ◌+◌, ◌<◌, List, [], ◌∷◌, ◌++◌, length, refl, sym, ap, ◌∙◌, subst, arith}
use Rattle.std.proofs.lemmas.Bool.Decides.{nat_tests}
use Rattle.std.proofs.lemmas.Option.{slice_get_within}
use Rattle.std.specs.Prelude.{Option, Some, None, Bool, true, false, option_map, nat_lt, slice_get, if◌then◌else◌}
use Rattle.tp_coord.specs.State.{Coordinator}
use Rattle.tp_coord.specs.Row.{is_begun}
use Rattle.tp_model.specs.Words.actor
use Rattle.tp_model.specs.Words.step
use Rattle.tp_model.specs.Words.what
use Rattle.tp_model.specs.Words.{Actor, AdminId, CredId, Letter, Mail, Scenario, ServerId, Step, TxnId, What}
use Rattle.tp_machine.specs.declared.actors.Actors.{Actors}
use Rattle.tp_machine.proofs.basics.Parts.{some_inj}
use Rattle.tp_offices.specs.Authority as office
use Rattle.tp_offices.specs.Master as master
use Rattle.tp_offices.specs.declared.authority.Authority.{Authority}
use Rattle.tp_offices.specs.declared.master.Master.{Master}
use Rattle.tp_server.specs.State.{Server}
use Rattle.tp_types.specs.Each.{Each}
use Rattle.tp_types.proofs.EachLemmas.{each_more, set_here}
use Rattle.tp_machine.specs.declared.error.StepError.{StepError}
use Rattle.tp_machine.specs.declared.error.StepError.TheVariants as error
use Rattle.tp_machine.specs.declared.part.Act.{Act}
use Rattle.tp_machine.specs.Acts.{Acts}
use Rattle.tp_machine.specs.Fits.{AllFitLogs, FitLogs, HasShortLog}
use Rattle.tp_machine.specs.Machine.{Move, PartMove, State, after, coordinator_begins, coordinator_begins_up, coordinator_move, coordinator_submits, coordinator_submits_up, coordinator_takes, delivery, missing_mail, none_left, opening, placed_part, placed_up, receipt, refusal, repeats_of, server_move, server_takes, state_after, submission_by, to_authority, to_coordinator, to_master, to_server, too_late}
use Rattle.tp_machine.specs.Moves.{move_of, moved_by, recipient}
use Rattle.tp_machine.specs.Named.{IsAdmin, IsCred, IsServer, IsTxn, IsStepOf}
use Rattle.tp_machine.specs.Parts as parts
use Rattle.tp_machine.proofs.basics.Fits.{put_has}
use Rattle.tp_wire.specs.declared.view.Entry.{Entry}
use Rattle.tp_wire.specs.Entries.{mails_in, steps_in}
use Rattle.tp_wire.specs.History.{StartsWith, Lawful}
use Rattle.tp_cluster.specs.Offices.{Held, held_at}
use Rattle.tp_cluster.specs.Offices.Held.{OfServer, OfCoordinator, OfAuthority, OfMaster}
use Rattle.tp_cluster.specs.Runs.{IsNext, state_at}
use Rattle.tp_cluster.specs.mirrors.Meetings.{IsActed}
use Rattle.tp_cluster.proofs.RunLemmas.{all_named, state_next}

-- ---- what an actor has

server_of : (o : Option (parts.Part Server)) (part : parts.Part Server) → option_map OfServer o ≡ Some (OfServer part) → o ≡ Some part
server_of None part e = absurd (cc)
server_of (Some p) part e = cc

pub coordinator_of : (o : Option (parts.Part Coordinator)) (part : parts.Part Coordinator) → option_map OfCoordinator o ≡ Some (OfCoordinator part) → o ≡ Some part
coordinator_of None part e = absurd (cc)
coordinator_of (Some p) part e = cc

pub authority_of : (a b : Authority) → Some (OfAuthority a) ≡ Some (OfAuthority b) → a ≡ b
authority_of a b e = cc

pub master_of : (a b : Master) → Some (OfMaster a) ≡ Some (OfMaster b) → a ≡ b
master_of a b e = cc

-- ---- deliveries

is_sent : (mails : List Mail) (k : ℕ) (mail : Mail) → slice_get mails k ≡ Some mail → missing_mail mails k ≡ None
is_sent mails k mail found =
    let here : nat_lt k (length mails) ≡ true = (let within = slice_get_within mails k mail found in grind (arith, nat_tests)) in
    ap (λ (b : Bool). if b then None else Some (error.NoSuchMail k (length mails))) here

-- the move of a delivery is that of the mail's recipient
delivered : (sc : Scenario) (w : State) (k : ℕ) (mail : Mail) (who : Actor) → slice_get w.mails k ≡ Some mail → mail.letter.to ≡ who → move_of sc w (step.Deliver k) ≡ receipt sc w.actors mail who
delivered sc w k mail who there to = ap (delivery sc w.actors) there ∙ ap (receipt sc w.actors mail) to

receives : (sc : Scenario) (w : State) (k : ℕ) (mail : Mail) (who : Actor) (new : Held) (act : Act) → slice_get w.mails k ≡ Some mail → mail.letter.to ≡ who
    → act.happened ≡ (receipt sc w.actors mail who).happened → act.letters ≡ (receipt sc w.actors mail who).letters → held_at (receipt sc w.actors mail who).actors who ≡ Some new
    → IsActed sc w (step.Deliver k) who new act.happened act.letters
receives sc w k mail who new act there to happened letters now =
    let is = delivered sc w k mail who there to in
    record {
      named = tt;
      allowed = is_sent w.mails k mail there;
      mover = ap (option_map recipient) there ∙ ap (λ (a : Actor). Some a) to;
      happened_is = happened ∙ sym (ap (λ (m : Move). m.happened) is);
      letters_are = letters ∙ sym (ap (λ (m : Move). m.letters) is);
      new_is = ap (λ (m : Move). held_at m.actors who) is ∙ now;
    }

pub server_acted : (sc : Scenario) (w : State) (k : ℕ) (mail : Mail) (at : ServerId) (part new : parts.Part Server) (act : Act)
    → held_at w.actors (actor.Server at) ≡ Some (OfServer part) → slice_get w.mails k ≡ Some mail → mail.letter.to ≡ actor.Server at
    → Acts (server_takes sc at part mail) new act → IsActed sc w (step.Deliver k) (actor.Server at) (OfServer new) act.happened act.letters
server_acted sc w k mail at part new act has there to did =
    let here = server_of (slice_get w.actors.servers at.0) part has in
    let is : receipt sc w.actors mail (actor.Server at) ≡ server_move w.actors at (server_takes sc at part mail) = ap (to_server sc w.actors mail at) here in
    receives sc w k mail (actor.Server at) (OfServer new) act there to
    (did.happened_is ∙ sym (ap (λ (m : Move). m.happened) is))
    (did.letters_are ∙ sym (ap (λ (m : Move). m.letters) is))
    (ap (λ (m : Move). held_at m.actors (actor.Server at)) is
    ∙ (ap (option_map OfServer) (set_here w.actors.servers at.0 (server_takes sc at part mail).part (slice_get_within w.actors.servers at.0 part here))
    ∙ ap (λ (p : parts.Part Server). Some (OfServer p)) (sym did.part_is)))

pub coordinator_acted : (sc : Scenario) (w : State) (k : ℕ) (mail : Mail) (txn : TxnId) (part new : parts.Part Coordinator) (act : Act)
    → held_at w.actors (actor.Coordinator txn) ≡ Some (OfCoordinator part) → slice_get w.mails k ≡ Some mail → mail.letter.to ≡ actor.Coordinator txn
    → Acts (coordinator_takes sc part mail) new act → IsActed sc w (step.Deliver k) (actor.Coordinator txn) (OfCoordinator new) act.happened act.letters
coordinator_acted sc w k mail txn part new act has there to did =
    let here = coordinator_of (slice_get w.actors.coordinators txn.0) part has in
    let is : receipt sc w.actors mail (actor.Coordinator txn) ≡ coordinator_move w.actors txn (coordinator_takes sc part mail) = ap (to_coordinator sc w.actors mail txn) here in
    receives sc w k mail (actor.Coordinator txn) (OfCoordinator new) act there to
    (did.happened_is ∙ sym (ap (λ (m : Move). m.happened) is))
    (did.letters_are ∙ sym (ap (λ (m : Move). m.letters) is))
    (ap (λ (m : Move). held_at m.actors (actor.Coordinator txn)) is
    ∙ (ap (option_map OfCoordinator) (set_here w.actors.coordinators txn.0 (coordinator_takes sc part mail).part (slice_get_within w.actors.coordinators txn.0 part here))
    ∙ ap (λ (p : parts.Part Coordinator). Some (OfCoordinator p)) (sym did.part_is)))

pub authority_acted : (sc : Scenario) (w : State) (k : ℕ) (mail : Mail) (a : Authority) (act : Act)
    → held_at w.actors actor.Authority ≡ Some (OfAuthority a) → slice_get w.mails k ≡ Some mail → mail.letter.to ≡ actor.Authority
    → act.happened ≡ [] → act.letters ≡ (office.authority_row a mail).reaction.letters → IsActed sc w (step.Deliver k) actor.Authority (OfAuthority a) act.happened act.letters
authority_acted sc w k mail a act has there to happened letters =
    let here : w.actors.authority ≡ a = authority_of w.actors.authority a has in
    receives sc w k mail actor.Authority (OfAuthority a) act there to happened
    (letters ∙ ap (λ (b : Authority). (office.authority_row b mail).reaction.letters) (sym here)) has

pub master_acted : (sc : Scenario) (w : State) (k : ℕ) (mail : Mail) (a : Master) (act : Act)
    → held_at w.actors actor.Master ≡ Some (OfMaster a) → slice_get w.mails k ≡ Some mail → mail.letter.to ≡ actor.Master
    → act.happened ≡ [] → act.letters ≡ (master.master_row a mail).reaction.letters → IsActed sc w (step.Deliver k) actor.Master (OfMaster a) act.happened act.letters
master_acted sc w k mail a act has there to happened letters =
    let here : w.actors.master ≡ a = master_of w.actors.master a has in
    receives sc w k mail actor.Master (OfMaster a) act there to happened
    (letters ∙ ap (λ (b : Master). (master.master_row b mail).reaction.letters) (sym here)) has

-- ---- records that a log takes

-- after a step that is not refused no log has a record that is too long
pub fits_after : (sc : Scenario) (log : List Entry) (taken : Step) → AllFitLogs sc → Lawful (IsNext sc) log → IsStepOf sc taken → refusal (state_at sc log) taken ≡ None → FitLogs (move_of sc (state_at sc log) taken).actors
fits_after sc log taken fit lawful named ok =
    subst (λ (s : State). FitLogs s.actors) (state_next sc log taken ok)
    (fit (steps_in log ++ taken ∷ []) (each_more (IsStepOf sc) (steps_in log) taken (all_named sc log lawful) named))

pub server_fits : (sc : Scenario) (log : List Entry) (k : ℕ) (mail : Mail) (at : ServerId) (part : parts.Part Server) → AllFitLogs sc → Lawful (IsNext sc) log
    → held_at (state_at sc log).actors (actor.Server at) ≡ Some (OfServer part) → slice_get (state_at sc log).mails k ≡ Some mail → mail.letter.to ≡ actor.Server at
    → HasShortLog (server_takes sc at part mail).part
server_fits sc log k mail at part fit lawful has there to =
    let w = state_at sc log in
    let here = server_of (slice_get w.actors.servers at.0) part has in
    let is : move_of sc w (step.Deliver k) ≡ server_move w.actors at (server_takes sc at part mail) = delivered sc w k mail (actor.Server at) there to ∙ ap (to_server sc w.actors mail at) here in
    let all = subst (λ (m : Move). FitLogs m.actors) is (fits_after sc log (step.Deliver k) fit lawful tt (is_sent w.mails k mail there)) in
    put_has HasShortLog w.actors.servers at.0 part (server_takes sc at part mail).part here all.servers

pub coordinator_fits : (sc : Scenario) (log : List Entry) (k : ℕ) (mail : Mail) (txn : TxnId) (part : parts.Part Coordinator) → AllFitLogs sc → Lawful (IsNext sc) log
    → held_at (state_at sc log).actors (actor.Coordinator txn) ≡ Some (OfCoordinator part) → slice_get (state_at sc log).mails k ≡ Some mail → mail.letter.to ≡ actor.Coordinator txn
    → HasShortLog (coordinator_takes sc part mail).part
coordinator_fits sc log k mail txn part fit lawful has there to =
    let w = state_at sc log in
    let here = coordinator_of (slice_get w.actors.coordinators txn.0) part has in
    let is : move_of sc w (step.Deliver k) ≡ coordinator_move w.actors txn (coordinator_takes sc part mail) = delivered sc w k mail (actor.Coordinator txn) there to ∙ ap (to_coordinator sc w.actors mail txn) here in
    let all = subst (λ (m : Move). FitLogs m.actors) is (fits_after sc log (step.Deliver k) fit lawful tt (is_sent w.mails k mail there)) in
    put_has HasShortLog w.actors.coordinators txn.0 part (coordinator_takes sc part mail).part here all.coordinators

-- ---- the offices' own steps

no_server : (o : Option (parts.Part Server)) (held : Held) → option_map OfServer o ≡ Some held → ((p : parts.Part Server) → OfServer p ≡ held → ⊥) → ⊥
no_server None held e never = absurd (cc)
no_server (Some p) held e never = never p (some_inj (OfServer p) held e)

no_coordinator : (o : Option (parts.Part Coordinator)) (held : Held) → option_map OfCoordinator o ≡ Some held → ((p : parts.Part Coordinator) → OfCoordinator p ≡ held → ⊥) → ⊥
no_coordinator None held e never = absurd (cc)
no_coordinator (Some p) held e never = never p (some_inj (OfCoordinator p) held e)

-- who has the authority's state is the authority
pub is_authority : (actors : Actors) (who : Actor) (a : Authority) → held_at actors who ≡ Some (OfAuthority a) → who ≡ actor.Authority
is_authority actors (actor.Server at) a e = absurd (no_server (slice_get actors.servers at.0) (OfAuthority a) e (λ p same. absurd (cc)))
is_authority actors (actor.Coordinator txn) a e = absurd (no_coordinator (slice_get actors.coordinators txn.0) (OfAuthority a) e (λ p same. absurd (cc)))
is_authority actors actor.Authority a e = refl
is_authority actors actor.Master a e = absurd (cc)

pub is_master : (actors : Actors) (who : Actor) (m : Master) → held_at actors who ≡ Some (OfMaster m) → who ≡ actor.Master
is_master actors (actor.Server at) m e = absurd (no_server (slice_get actors.servers at.0) (OfMaster m) e (λ p same. absurd (cc)))
is_master actors (actor.Coordinator txn) m e = absurd (no_coordinator (slice_get actors.coordinators txn.0) (OfMaster m) e (λ p same. absurd (cc)))
is_master actors actor.Authority m e = absurd (cc)
is_master actors actor.Master m e = refl

-- what is so of an actor by its name is so of who has its state
pub by_name : (sc : Scenario) (w : State) (taken : Step) (who name : Actor) (held new : Held) (happened : List What) (letters : List Letter) → who ≡ name → held_at w.actors who ≡ Some held
    → (held_at w.actors name ≡ Some held → IsActed sc w taken name new happened letters) → IsActed sc w taken who new happened letters
by_name sc w taken who name held new happened letters is has acts =
    subst (λ (x : Actor). IsActed sc w taken x new happened letters) (sym is) (acts (subst (λ (x : Actor). held_at w.actors x ≡ Some held) is has))

tick_named : (sc : Scenario) (w : State) (a new : Authority) (by : ℕ) (happened : List What) (letters : List Letter) → held_at w.actors actor.Authority ≡ Some (OfAuthority a)
    → too_late a.clock by ≡ None → new ≡ office.after_tick by a → happened ≡ what.Ticked by ∷ [] → letters ≡ []
    → IsActed sc w (step.Tick by) actor.Authority (OfAuthority new) happened letters
tick_named sc w a new by happened letters has early is what_happened none =
    let here : w.actors.authority ≡ a = authority_of w.actors.authority a has in
    record {
      named = tt;
      allowed = ap (λ (b : Authority). too_late b.clock by) here ∙ early;
      mover = refl;
      happened_is = what_happened;
      letters_are = none;
      new_is = ap (λ (b : Authority). Some (OfAuthority (office.after_tick by b))) here ∙ ap (λ (b : Authority). Some (OfAuthority b)) (sym is);
    }

pub tick_acted : (sc : Scenario) (w : State) (who : Actor) (a new : Authority) (by : ℕ) (happened : List What) (letters : List Letter) → held_at w.actors who ≡ Some (OfAuthority a)
    → too_late a.clock by ≡ None → new ≡ office.after_tick by a → happened ≡ what.Ticked by ∷ [] → letters ≡ []
    → IsActed sc w (step.Tick by) who (OfAuthority new) happened letters
tick_acted sc w who a new by happened letters has early is what_happened none =
    by_name sc w (step.Tick by) who actor.Authority (OfAuthority a) (OfAuthority new) happened letters (is_authority w.actors who a has) has
    (λ here. tick_named sc w a new by happened letters here early is what_happened none)

pub tick_refused : (w : State) (who : Actor) (a : Authority) (by : ℕ) (why : StepError) → held_at w.actors who ≡ Some (OfAuthority a) → too_late a.clock by ≡ Some why
    → refusal w (step.Tick by) ≡ Some why
tick_refused w who a by why has late =
    let here : held_at w.actors actor.Authority ≡ Some (OfAuthority a) = subst (λ (x : Actor). held_at w.actors x ≡ Some (OfAuthority a)) (is_authority w.actors who a has) has in
    ap (λ (b : Authority). too_late b.clock by) (authority_of w.actors.authority a here) ∙ late
