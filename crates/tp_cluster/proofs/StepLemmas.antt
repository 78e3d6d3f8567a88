-- The steps that callers ask for are the machine's, wherever in a run they take place.
use Rattle.std.proofs.Common.{◌≡◌, ℕ, suc, List, [], ◌∷◌, ◌++◌, length, refl, sym, ap, ◌∙◌, subst}
use Rattle.std.proofs.lemmas.Option.{slice_get_within}
use Rattle.std.specs.Option.{option_map_or, option_or}
use Rattle.std.specs.Prelude.{Option, Some, None, Bool, true, false, option_map, slice_get, if◌then◌else◌}
use Rattle.tp_coord.specs.State.{Coordinator}
use Rattle.tp_model.specs.Words.actor
use Rattle.tp_model.specs.Words.step
use Rattle.tp_model.specs.Words.what
use Rattle.tp_model.specs.Words.{Actor, AdminId, CredId, Letter, Record, Scenario, ServerId, Step, TxnId, What}
use Rattle.tp_offices.specs.Authority as office
use Rattle.tp_offices.specs.Master as master
use Rattle.tp_offices.specs.declared.authority.Authority.{Authority}
use Rattle.tp_offices.specs.declared.master.Master.{Master}
use Rattle.tp_types.proofs.EachLemmas.{set_here}
use Rattle.tp_machine.specs.declared.error.StepError.{StepError}
use Rattle.tp_machine.specs.declared.error.StepError.TheVariants as error
use Rattle.tp_machine.specs.declared.part.Act.{Act}
use Rattle.tp_machine.specs.Acts.{Acts}
use Rattle.tp_machine.specs.Fits.{AllFitLogs, FitLogs, HasShortLog}
use Rattle.tp_machine.specs.Machine.{Move, PartMove, State, coordinator_begins, coordinator_move, coordinator_submits, is_part_down, is_part_submitted, none_left, placed_part, refusal, repeats_of, submission_by}
use Rattle.tp_machine.specs.Moves.{move_of}
use Rattle.tp_machine.specs.Named.{IsAdmin, IsCred, IsServer, IsTxn}
use Rattle.tp_machine.specs.Parts as parts
use Rattle.tp_machine.proofs.basics.Fits.{put_has}
use Rattle.tp_wire.specs.declared.view.Entry.{Entry}
use Rattle.tp_wire.specs.Entries.{steps_in}
use Rattle.tp_wire.specs.History.{Lawful}
use Rattle.tp_cluster.specs.Offices.{Held, held_at}
use Rattle.tp_cluster.specs.Offices.Held.{OfCoordinator, OfAuthority, OfMaster}
use Rattle.tp_cluster.specs.Runs.{IsNext, state_at}
use Rattle.tp_cluster.specs.mirrors.Meetings.{IsActed, untimed}
use Rattle.tp_cluster.proofs.RunLemmas.{runs}
use Rattle.tp_cluster.proofs.RowLemmas.{authority_of, by_name, coordinator_of, fits_after, is_authority, is_master, master_of}

-- ---- submissions

steps_count : (log : List Entry) → length (steps_in log) ≡ length log
steps_count [] = refl
steps_count (e ∷ log) = ap (λ (n : ℕ). suc n) (steps_count log)

-- the move of a submission is that of its begin, and the place
abbrev placed_move : ℕ → PartMove Coordinator → PartMove Coordinator
placed_move place move = record { part = placed_part place move.part; happened = move.happened; letters = move.letters }

submits_is : (sc : Scenario) (up : Option Coordinator) (kept : List Record) (txn : TxnId) (place : ℕ)
    → coordinator_submits sc (record { up = up; log = kept }) txn place ≡ placed_move place (coordinator_begins sc (record { up = up; log = kept }) txn)
submits_is sc None kept txn place = refl
submits_is sc (Some c) kept txn place = refl

submitted : (sc : Scenario) (w : State) (txn : TxnId) (part : parts.Part Coordinator) → slice_get w.actors.coordinators txn.0 ≡ Some part
    → move_of sc w (step.Submit txn) ≡ coordinator_move w.actors txn (placed_move (length w.steps) (coordinator_begins sc part txn))
submitted sc w txn part here =
    ap (submission_by sc w.actors txn (length w.steps)) here
    ∙ ap (coordinator_move w.actors txn) (submits_is sc part.up part.log txn (length w.steps))

pub submit_acted : (sc : Scenario) (w : State) (txn : TxnId) (part mid : parts.Part Coordinator) (act : Act) → held_at w.actors (actor.Coordinator txn) ≡ Some (OfCoordinator part)
    → is_part_submitted part.up ≡ false → IsTxn sc txn → Acts (coordinator_begins sc part txn) mid act
    → IsActed sc w (step.Submit txn) (actor.Coordinator txn) (OfCoordinator (placed_part (length w.steps) mid)) act.happened act.letters
submit_acted sc w txn part mid act has idle exists did =
    let here = coordinator_of (slice_get w.actors.coordinators txn.0) part has in
    let begun = coordinator_begins sc part txn in
    let is : move_of sc w (step.Submit txn) ≡ coordinator_move w.actors txn (placed_move (length w.steps) begun) = submitted sc w txn part here in
    record {
      named = exists;
      allowed =
          ap (λ (o : Option (parts.Part Coordinator)). if option_map_or (λ (p : parts.Part Coordinator). is_part_submitted p.up) o false then Some (error.AlreadySubmitted txn) else None) here
          ∙ ap (λ (b : Bool). if b then Some (error.AlreadySubmitted txn) else None) idle;
      mover = refl;
      happened_is = did.happened_is ∙ sym (ap (λ (m : Move). m.happened) is);
      letters_are = did.letters_are ∙ sym (ap (λ (m : Move). m.letters) is);
      new_is = ap (λ (m : Move). held_at m.actors (actor.Coordinator txn)) is
          ∙ (ap (option_map OfCoordinator) (set_here w.actors.coordinators txn.0 (placed_part (length w.steps) begun.part) (slice_get_within w.actors.coordinators txn.0 part here))
          ∙ ap (λ (p : parts.Part Coordinator). Some (OfCoordinator (placed_part (length w.steps) p))) (sym did.part_is));
    }

-- wherever it takes place: its age is how many steps were done before it
pub submit_by : (sc : Scenario) (log : List Entry) (who : Actor) (txn : TxnId) (part mid : parts.Part Coordinator) (act : Act) → Lawful (IsNext sc) log → who ≡ actor.Coordinator txn
    → held_at (state_at sc log).actors who ≡ Some (OfCoordinator part) → is_part_submitted part.up ≡ false → IsTxn sc txn → Acts (coordinator_begins sc part txn) mid act
    → IsActed sc (state_at sc log) (step.Submit txn) who (OfCoordinator (placed_part (length log) mid)) act.happened act.letters
submit_by sc log who txn part mid act lawful is has idle exists did =
    let w = state_at sc log in
    let age : length w.steps ≡ length log = ap (length {A = Step}) (runs sc log lawful).steps ∙ steps_count log in
    by_name sc w (step.Submit txn) who (actor.Coordinator txn) (OfCoordinator part) (OfCoordinator (placed_part (length log) mid)) act.happened act.letters is has
    (λ here. subst (λ (n : ℕ). IsActed sc w (step.Submit txn) (actor.Coordinator txn) (OfCoordinator (placed_part n mid)) act.happened act.letters) age
    (submit_acted sc w txn part mid act here idle exists did))

pub submit_refused : (w : State) (txn : TxnId) (part : parts.Part Coordinator) → held_at w.actors (actor.Coordinator txn) ≡ Some (OfCoordinator part) → is_part_submitted part.up ≡ true
    → refusal w (step.Submit txn) ≡ Some (error.AlreadySubmitted txn)
submit_refused w txn part has done =
    let here = coordinator_of (slice_get w.actors.coordinators txn.0) part has in
    ap (λ (o : Option (parts.Part Coordinator)). if option_map_or (λ (p : parts.Part Coordinator). is_part_submitted p.up) o false then Some (error.AlreadySubmitted txn) else None) here
    ∙ ap (λ (b : Bool). if b then Some (error.AlreadySubmitted txn) else None) done

pub submit_fits : (sc : Scenario) (log : List Entry) (txn : TxnId) (part : parts.Part Coordinator) → AllFitLogs sc → Lawful (IsNext sc) log
    → held_at (state_at sc log).actors (actor.Coordinator txn) ≡ Some (OfCoordinator part) → is_part_submitted part.up ≡ false → IsTxn sc txn
    → HasShortLog (coordinator_begins sc part txn).part
submit_fits sc log txn part fit lawful has idle exists =
    let w = state_at sc log in
    let here = coordinator_of (slice_get w.actors.coordinators txn.0) part has in
    let begun = coordinator_begins sc part txn in
    let allowed : refusal w (step.Submit txn) ≡ None =
    ap (λ (o : Option (parts.Part Coordinator)). if option_map_or (λ (p : parts.Part Coordinator). is_part_submitted p.up) o false then Some (error.AlreadySubmitted txn) else None) here
    ∙ ap (λ (b : Bool). if b then Some (error.AlreadySubmitted txn) else None) idle in
    let all = subst (λ (m : Move). FitLogs m.actors) (submitted sc w txn part here) (fits_after sc log (step.Submit txn) fit lawful exists allowed) in
    put_has HasShortLog w.actors.coordinators txn.0 part (placed_part (length w.steps) begun.part) here all.coordinators

-- ---- timers

timed : (w : State) (txn : TxnId) (part : parts.Part Coordinator) → slice_get w.actors.coordinators txn.0 ≡ Some part → refusal w (step.Timer txn) ≡ untimed part txn
timed w txn part here =
    ap (λ (o : Option (parts.Part Coordinator)). option_or
    (if option_map_or (λ (p : parts.Part Coordinator). is_part_submitted p.up) o false then None else Some (error.NotSubmitted txn))
    (if option_map_or is_part_down o false then Some (error.IsDown (actor.Coordinator txn)) else None)) here

pub timer_acted : (sc : Scenario) (w : State) (txn : TxnId) (part : parts.Part Coordinator) (act : Act) → held_at w.actors (actor.Coordinator txn) ≡ Some (OfCoordinator part)
    → untimed part txn ≡ None → IsTxn sc txn → act.happened ≡ [] → act.letters ≡ repeats_of sc part.up
    → IsActed sc w (step.Timer txn) (actor.Coordinator txn) (OfCoordinator part) act.happened act.letters
timer_acted sc w txn part act has due exists happened letters =
    let here = coordinator_of (slice_get w.actors.coordinators txn.0) part has in
    record {
      named = exists;
      allowed = timed w txn part here ∙ due;
      mover = refl;
      happened_is = happened;
      letters_are = letters ∙ sym (ap (λ (o : Option (parts.Part Coordinator)). option_map_or (λ (p : parts.Part Coordinator). repeats_of sc p.up) o []) here);
      new_is = has;
    }

pub timer_refused : (w : State) (txn : TxnId) (part : parts.Part Coordinator) (why : StepError) → held_at w.actors (actor.Coordinator txn) ≡ Some (OfCoordinator part) → untimed part txn ≡ Some why
    → refusal w (step.Timer txn) ≡ Some why
timer_refused w txn part why has is = timed w txn part (coordinator_of (slice_get w.actors.coordinators txn.0) part has) ∙ is

-- ---- the offices

pub revoke_acted : (sc : Scenario) (w : State) (a new : Authority) (cred : CredId) → held_at w.actors actor.Authority ≡ Some (OfAuthority a) → IsCred sc cred → new ≡ office.after_revocation cred a
    → IsActed sc w (step.Revoke cred) actor.Authority (OfAuthority new) (what.Revoked cred ∷ []) []
revoke_acted sc w a new cred has exists is =
    let here : w.actors.authority ≡ a = authority_of w.actors.authority a has in
    record {
      named = exists;
      allowed = refl;
      mover = refl;
      happened_is = refl;
      letters_are = refl;
      new_is = ap (λ (b : Authority). Some (OfAuthority (office.after_revocation cred b))) here ∙ ap (λ (b : Authority). Some (OfAuthority b)) (sym is);
    }

more_left : (m : Master) (admin : AdminId) → master.has_more m admin ≡ true → none_left m admin ≡ None
more_left m admin more = ap (λ (b : Bool). if b then None else Some (error.NoMore admin)) more

pub publish_acted : (sc : Scenario) (w : State) (m new : Master) (admin : AdminId) (act : Act) → held_at w.actors actor.Master ≡ Some (OfMaster m) → IsAdmin sc admin
    → master.has_more m admin ≡ true → new ≡ master.after_publication admin m → act.happened ≡ what.Published admin (master.next_of m admin) ∷ [] → act.letters ≡ []
    → IsActed sc w (step.Publish admin) actor.Master (OfMaster new) act.happened act.letters
publish_acted sc w m new admin act has exists more is happened letters =
    let here : w.actors.master ≡ m = master_of w.actors.master m has in
    record {
      named = exists;
      allowed = ap (λ (b : Master). none_left b admin) here ∙ more_left m admin more;
      mover = refl;
      happened_is = happened ∙ ap (λ (b : Master). what.Published admin (master.next_of b admin) ∷ []) (sym here);
      letters_are = letters;
      new_is = ap (λ (b : Master). Some (OfMaster (master.after_publication admin b))) here ∙ ap (λ (b : Master). Some (OfMaster b)) (sym is);
    }

pub publish_refused : (w : State) (m : Master) (admin : AdminId) → held_at w.actors actor.Master ≡ Some (OfMaster m) → master.has_more m admin ≡ false
    → refusal w (step.Publish admin) ≡ Some (error.NoMore admin)
publish_refused w m admin has none =
    ap (λ (b : Master). none_left b admin) (master_of w.actors.master m has) ∙ ap (λ (b : Bool). if b then None else Some (error.NoMore admin)) none

pub push_acted : (sc : Scenario) (w : State) (m : Master) (admin : AdminId) (server : ServerId) (act : Act) → held_at w.actors actor.Master ≡ Some (OfMaster m) → IsAdmin sc admin × IsServer sc server
    → act.happened ≡ [] → act.letters ≡ (master.pushes m admin server).reaction.letters
    → IsActed sc w (step.Push admin server) actor.Master (OfMaster m) act.happened act.letters
push_acted sc w m admin server act has exists happened letters =
    let here : w.actors.master ≡ m = master_of w.actors.master m has in
    record {
      named = exists;
      allowed = refl;
      mover = refl;
      happened_is = happened;
      letters_are = letters ∙ ap (λ (b : Master). (master.pushes b admin server).reaction.letters) (sym here);
      new_is = has;
    }

-- ---- by whoever has the state

pub revoke_by : (sc : Scenario) (w : State) (who : Actor) (a new : Authority) (cred : CredId) (happened : List What) (letters : List Letter) → held_at w.actors who ≡ Some (OfAuthority a) → IsCred sc cred
    → new ≡ office.after_revocation cred a → happened ≡ what.Revoked cred ∷ [] → letters ≡ [] → IsActed sc w (step.Revoke cred) who (OfAuthority new) happened letters
revoke_by sc w who a new cred happened letters has exists is told none =
    by_name sc w (step.Revoke cred) who actor.Authority (OfAuthority a) (OfAuthority new) happened letters (is_authority w.actors who a has) has
    (λ here. let r = revoke_acted sc w a new cred here exists is in record { named = r.named; allowed = r.allowed; mover = r.mover; happened_is = told ∙ r.happened_is; letters_are = none ∙ r.letters_are; new_is = r.new_is })

pub publish_by : (sc : Scenario) (w : State) (who : Actor) (m new : Master) (admin : AdminId) (act : Act) → held_at w.actors who ≡ Some (OfMaster m) → IsAdmin sc admin
    → master.has_more m admin ≡ true → new ≡ master.after_publication admin m → act.happened ≡ what.Published admin (master.next_of m admin) ∷ [] → act.letters ≡ []
    → IsActed sc w (step.Publish admin) who (OfMaster new) act.happened act.letters
publish_by sc w who m new admin act has exists more is told none =
    by_name sc w (step.Publish admin) who actor.Master (OfMaster m) (OfMaster new) act.happened act.letters (is_master w.actors who m has) has
    (λ here. publish_acted sc w m new admin act here exists more is told none)

pub publish_refused_by : (w : State) (who : Actor) (m : Master) (admin : AdminId) → held_at w.actors who ≡ Some (OfMaster m) → master.has_more m admin ≡ false
    → refusal w (step.Publish admin) ≡ Some (error.NoMore admin)
publish_refused_by w who m admin has none =
    publish_refused w m admin (subst (λ (x : Actor). held_at w.actors x ≡ Some (OfMaster m)) (is_master w.actors who m has) has) none

pub push_by : (sc : Scenario) (w : State) (who : Actor) (m : Master) (admin : AdminId) (server : ServerId) (act : Act) → held_at w.actors who ≡ Some (OfMaster m) → IsAdmin sc admin × IsServer sc server
    → act.happened ≡ [] → act.letters ≡ (master.pushes m admin server).reaction.letters → IsActed sc w (step.Push admin server) who (OfMaster m) act.happened act.letters
push_by sc w who m admin server act has exists told sent =
    by_name sc w (step.Push admin server) who actor.Master (OfMaster m) (OfMaster m) act.happened act.letters (is_master w.actors who m has) has
    (λ here. push_acted sc w m admin server act here exists told sent)
