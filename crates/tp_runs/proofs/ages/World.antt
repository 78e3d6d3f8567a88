-- Ages over every list of steps: the age of an entry, of what is prepared and of a coordinator is the place of the submission.
use Rattle.std.proofs.Common.{IfSome, List, None, Option, Some, [], ap, is_some, length, refl, slice_get, subst, suc, sym, zero, ℕ, ◌++◌, ◌∙◌, ◌∷◌, ◌≡◌}
use Rattle.tp_types.specs.Effect.{Effect}
use Rattle.tp_model.specs.Words.actor
use Rattle.tp_model.specs.Words.body
use Rattle.tp_model.specs.Words.step
use Rattle.tp_model.specs.Words.what
use Rattle.tp_model.specs.Words.{Body, Letter, Mail, Prepared, Record, Scenario, ServerId, Step, TxnId, What}
use Rattle.tp_runs.proofs.ages.Actors.{BodyAged, CoordinatorAged, CoordinatorAges, EntryAged, LetterAged, PreparedAged, RecordAged, ServerAges, SubmissionAges, coordinator_row_ages, repeats_aged, server_row_ages, submit_row_ages}
use Rattle.tp_runs.proofs.agreement.Steps.{own_txn}
use Rattle.tp_runs.proofs.agreement.World.{Agrees}
use Rattle.tp_runs.proofs.basics.Facts.{each_new_mail}
use Rattle.tp_types.proofs.EachLemmas.{at_made, at_set, each_append, each_as, each_get, placed_none}
use Rattle.tp_runs.proofs.basics.Logs.{prepared_grown}
use Rattle.tp_runs.proofs.walks.Steps.{Cases, IsCoordinatorUp, IsServerUp, KeepsUp, WaitRightly, WasSent, machine_after_by}
use Rattle.tp_recover.specs.Log.{prepared_in}
use Rattle.tp_machine.specs.Machine.{Machine, Move, State, acts, acts_by, coordinator_fact, coordinator_move, machine_after, mails_of, opened_part, opening_state, refusal, server_fact, server_move, state_after, with_age}
use Rattle.tp_actor_log.specs.Records.{log_with}
use Rattle.tp_machine.specs.Parts.{Part}
use Rattle.tp_types.specs.Each.{Each, EachAt, EachPlaced}
use Rattle.tp_runs.specs.Sound.{IsSound}
use Rattle.tp_machine.specs.Named.{IsStepOf}
use Rattle.tp_coord.specs.Opened as coord_opened
use Rattle.tp_coord.specs.Opened.{idle}
use Rattle.tp_coord.specs.Row.{coordinator_row, submit_row}
use Rattle.tp_coord.specs.State.{Coordinator}
use Rattle.tp_machine.specs.declared.actors.Actors.{Actors}
use Rattle.tp_server.specs.Opened as server_opened
use Rattle.tp_server.specs.Row.{age_of, server_row}
use Rattle.tp_server.specs.State.{Server}
use Rattle.tp_offices.specs.Authority as office
use Rattle.tp_offices.specs.Master as master
use Rattle.tp_offices.specs.declared.authority.Authority.{Authority}
use Rattle.tp_offices.specs.declared.master.Master.{Master}

-- ---- the invariant

-- the transaction was submitted by the step at this place
abbrev pub IsSubmission : List Step → TxnId → ℕ → Type 0
IsSubmission steps txn place = slice_get steps place ≡ Some (step.Submit txn)

-- a server's entries and what it has prepared
pub record ServerPartAged (A : TxnId → ℕ → Type 0) (part : Part Server) : Type 0 where
  pub entries : IfSome part.up (λ (s : Server). EachPlaced (EntryAged A) s.entries)
  pub prepared : (txn : TxnId) (p : Prepared) → prepared_in txn part.log ≡ Some p → A txn p.age

abbrev pub MailAged : (TxnId → ℕ → Type 0) → Mail → Type 0
MailAged A mail = BodyAged A mail.sent mail.letter.body

pub record AreAged (A : TxnId → ℕ → Type 0) (actors : Actors) (mails : List Mail) : Type 0 where
  pub servers : EachAt (λ (n : ℕ) (part : Part Server). ServerPartAged A part) actors.servers
  pub coordinators : EachAt (λ (n : ℕ) (part : Part Coordinator). IfSome part.up (CoordinatorAged A)) actors.coordinators
  pub sent : Each (MailAged A) mails

-- every age is the place of the submission
abbrev pub Ages : State → Type 0
Ages w = AreAged (IsSubmission w.steps) w.actors w.mails

-- ---- steps are only added

-- what was submitted was submitted still
abbrev Widens : (TxnId → ℕ → Type 0) → (TxnId → ℕ → Type 0) → Type 0
Widens A B = (txn : TxnId) (place : ℕ) → A txn place → B txn place

pub found_still : {X : Type 0} (xs ys : List X) (n : ℕ) (x : X) → slice_get xs n ≡ Some x → slice_get (xs ++ ys) n ≡ Some x
found_still [] ys n x e = absurd (cc)
found_still (y ∷ xs) ys zero x e = e
found_still (y ∷ xs) ys (suc n) x e = found_still xs ys n x e

last_found : {X : Type 0} (xs : List X) (x : X) → slice_get (xs ++ x ∷ []) (length xs) ≡ Some x
last_found [] x = refl
last_found (y ∷ xs) x = last_found xs x

body_widens : (A B : TxnId → ℕ → Type 0) (sent : ℕ) (said : Body) → Widens A B → BodyAged A sent said → BodyAged B sent said
body_widens A B sent (body.Query q) wider h = wider q.txn (age_of q sent) h
body_widens A B sent _ wider h = tt

entries_widen : (A B : TxnId → ℕ → Type 0) (up : Option Server) → Widens A B → IfSome up (λ (s : Server). EachPlaced (EntryAged A) s.entries) → IfSome up (λ (s : Server). EachPlaced (EntryAged B) s.entries)
entries_widen A B None wider h = tt
entries_widen A B (Some s) wider h = λ n entry e. wider (record { 0 = n }) entry.age (h n entry e)

age_widens : (A B : TxnId → ℕ → Type 0) (txn : TxnId) (age : Option ℕ) → Widens A B → IfSome age (A txn) → IfSome age (B txn)
age_widens A B txn None wider h = tt
age_widens A B txn (Some place) wider h = wider txn place h

coordinator_widens : (A B : TxnId → ℕ → Type 0) (up : Option Coordinator) → Widens A B → IfSome up (CoordinatorAged A) → IfSome up (CoordinatorAged B)
coordinator_widens A B None wider h = tt
coordinator_widens A B (Some c) wider h = record { age = age_widens A B c.txn c.age wider h.age; known = h.known }

all_widen : (A B : TxnId → ℕ → Type 0) (actors : Actors) (mails : List Mail) → Widens A B → AreAged A actors mails → AreAged B actors mails
all_widen A B actors mails wider h =
    record {
      servers = λ n part e. record {
        entries = entries_widen A B part.up wider (h.servers n part e).entries;
        prepared = λ txn p f. wider txn p.age ((h.servers n part e).prepared txn p f);
      };
      coordinators = λ n part e. coordinator_widens A B part.up wider (h.coordinators n part e);
      sent = each_as (MailAged A) (MailAged B) (λ mail k. body_widens A B mail.sent mail.letter.body wider k) mails h.sent;
    }

-- the submissions among the steps and one more
abbrev pub Now : State → Step → TxnId → ℕ → Type 0
Now w taken = IsSubmission (w.steps ++ taken ∷ [])

pub ages_now : (w : State) (taken : Step) → Ages w → AreAged (Now w taken) w.actors w.mails
ages_now w taken h = all_widen (IsSubmission w.steps) (Now w taken) w.actors w.mails (λ txn place e. found_still w.steps (taken ∷ []) place (step.Submit txn) e) h

-- ---- a move

pub record MoveAges (w : State) (taken : Step) (move : Move) : Type 0 where
  pub actors_are : AreAged (Now w taken) move.actors w.mails
  pub letters : Each (LetterAged (Now w taken) (length w.steps)) move.letters

pub state_after_ages : (w : State) (taken : Step) (move : Move) → MoveAges w taken move → Ages (state_after w taken move)
state_after_ages w taken move t =
    record {
      servers = t.actors_are.servers;
      coordinators = t.actors_are.coordinators;
      sent = each_append (MailAged (Now w taken)) w.mails (mails_of (length w.steps) (length w.mails) move.letters) t.actors_are.sent
          (each_new_mail (LetterAged (Now w taken)) (length w.steps) (length w.mails) move.letters t.letters);
    }

-- ---- acts

-- what an act of a server leaves and says of ages, whether it is up after it or down
pub record ServerActsAges (A : TxnId → ℕ → Type 0) (place : ℕ) (now : Option Server) (append : Option Record) (letters : List Letter) : Type 0 where
  pub entries : IfSome now (λ (s : Server). EachPlaced (EntryAged A) s.entries)
  pub forces : IfSome append (RecordAged A)
  pub letters_are : Each (LetterAged A place) letters

pub server_acts_ages : (w : State) (taken : Step) (at : ServerId) (part : Part Server) (now : Option Server) (own : List What) (append : Option Record) (letters : List Letter) → Ages w
    → slice_get w.actors.servers at.0 ≡ Some part → ServerActsAges (Now w taken) (length w.steps) now append letters
    → MoveAges w taken (server_move w.actors at (acts (server_fact at) own part.log now (log_with part.log append) letters))
server_acts_ages w taken at part now own append letters h found t =
    let aged = ages_now w taken h in
    let next : Part Server = record { up = now; log = log_with part.log append } in
    record {
      actors_are = record {
        servers = at_set (λ (n : ℕ) (p : Part Server). ServerPartAged (Now w taken) p) w.actors.servers at.0 next aged.servers
            (record {
              entries = t.entries;
              prepared = λ txn p e. prepared_grown (PreparedAged (Now w taken)) part.log append txn p ((aged.servers at.0 part found).prepared txn) t.forces e;
            });
        coordinators = aged.coordinators;
        sent = aged.sent;
      };
      letters = t.letters_are;
    }

pub coordinator_acts_ages : (w : State) (taken : Step) (txn : TxnId) (kept : List Record) (now : Option Coordinator) (own : List What) (append : Option Record) (letters : List Letter) → Ages w
    → IfSome now (CoordinatorAged (Now w taken)) → Each (LetterAged (Now w taken) (length w.steps)) letters
    → MoveAges w taken (coordinator_move w.actors txn (acts coordinator_fact own kept now (log_with kept append) letters))
coordinator_acts_ages w taken txn kept now own append letters h aged_is letters_are =
    let aged = ages_now w taken h in
    let next : Part Coordinator = record { up = now; log = log_with kept append } in
    record {
      actors_are = record {
        servers = aged.servers;
        coordinators = at_set (λ (n : ℕ) (p : Part Coordinator). IfSome p.up (CoordinatorAged (Now w taken))) w.actors.coordinators txn.0 next aged.coordinators aged_is;
        sent = aged.sent;
      };
      letters = letters_are;
    }

-- a coordinator that keeps its age and its transaction
aged_still : (A : TxnId → ℕ → Type 0) (place : ℕ) (c : Coordinator) (effect : Effect Coordinator) → CoordinatorAges A place c effect → CoordinatorAged A c → CoordinatorAged A effect.state
aged_still A place c effect t h =
    record {
      age = subst (λ (age : Option ℕ). IfSome age (A effect.state.txn)) (sym t.same_age) (subst (λ (txn : TxnId). IfSome c.age (A txn)) (sym t.same_txn) h.age);
      known = λ running. ap (λ (age : Option ℕ). is_some age) t.same_age ∙ t.known running;
    }

-- one that is submitted knows its age
aged_now : (A : TxnId → ℕ → Type 0) (place : ℕ) (c : Coordinator) (effect : Effect Coordinator) → SubmissionAges A place c effect → A c.txn place → CoordinatorAged A effect.state
aged_now A place c effect t m =
    record {
      age = subst (λ (age : Option ℕ). IfSome age (A effect.state.txn)) (sym t.age_is) (subst (λ (txn : TxnId). A txn place) (sym t.same_txn) m);
      known = λ running. ap (λ (age : Option ℕ). is_some age) t.age_is;
    }

-- the authority's answers tell no age
tells_no_age : (A : TxnId → ℕ → Type 0) (place : ℕ) (authority : Authority) (said : Body) → Each (LetterAged A place) (office.on_body authority said).reaction.letters
tells_no_age A place authority (body.Ask ask) = (tt, tt)
tells_no_age A place authority _ = tt

newest_no_age : (A : TxnId → ℕ → Type 0) (place : ℕ) (held : Master) (said : Body) → Each (LetterAged A place) (master.on_body held said).reaction.letters
newest_no_age A place held (body.Probe probe) = (tt, tt)
newest_no_age A place held _ = tt

-- the offices alone act
offices_ages : (w : State) (taken : Step) (authority : Authority) (held : Master) (happened : List What) → Ages w
    → MoveAges w taken (record { actors = record w.actors { authority = authority; master = held }; happened = happened; letters = [] })
offices_ages w taken authority held happened h =
    let now = ages_now w taken h in
    record { actors_are = record { servers = now.servers; coordinators = now.coordinators; sent = now.sent }; letters = tt }

begun_ages : (sc : Scenario) (w : State) → IsSound sc w → Ages w → (txn : TxnId) (part : Part Coordinator) (c : Coordinator) → IsCoordinatorUp w txn part c
    → MoveAges w (step.Submit txn) (coordinator_move w.actors txn (acts_by coordinator_fact (what.Submitted txn ∷ []) part.log (with_age (submit_row sc c) (length w.steps))))
begun_ages sc w sound h txn part c up =
    let A = Now w (step.Submit txn) in
    let place = length w.steps in
    let effect = with_age (submit_row sc c) place in
    let m : A c.txn place = subst (λ (t : TxnId). A t place) (sym (own_txn sc w txn part c sound up.found up.up)) (last_found w.steps (step.Submit txn)) in
    let aged = subst (λ (up : Option Coordinator). IfSome up (CoordinatorAged A)) up.up ((ages_now w (step.Submit txn) h).coordinators txn.0 part up.found) in
    let t = submit_row_ages A place sc c aged.age m in
    coordinator_acts_ages w (step.Submit txn) txn part.log (Some effect.state) (what.Submitted txn ∷ []) effect.reaction.append effect.reaction.letters h (aged_now A place c effect t m) t.letters

-- the row of a server on a mail that was sent
pub server_sends_aged : (sc : Scenario) (w : State) (taken : Step) → WaitRightly sc w → Ages w → (n : ℕ) (mail : Mail) (at : ServerId) (part : Part Server) (s : Server) → WasSent w n mail (actor.Server at) → IsServerUp w at part s
    → ServerAges (Now w taken) (length w.steps) (server_row sc s mail)
server_sends_aged sc w taken rightly h n mail at part s sent up =
    let now = ages_now w taken h in
    let entries = subst (λ (u : Option Server). IfSome u (λ (t : Server). EachPlaced (EntryAged (Now w taken)) t.entries)) up.up (now.servers at.0 part up.found).entries in
    server_row_ages (Now w taken) (length w.steps) sc s mail (rightly at part s up) entries (each_get (MailAged (Now w taken)) w.mails n mail now.sent sent.sent)

-- ---- steps

ages_cases : (sc : Scenario) (w : State) → WaitRightly sc w → IsSound sc w → Ages w → Cases sc w (MoveAges w)
ages_cases sc w rightly sound h =
    record {
      idle = λ taken happened e. record { actors_are = ages_now w taken h; letters = tt };
      server_received = λ n mail at part s sent up.
          let taken = step.Deliver n in
          let effect = server_row sc s mail in
          let t = server_sends_aged sc w taken rightly h n mail at part s sent up in
          server_acts_ages w taken at part (Some effect.state) [] effect.reaction.append effect.reaction.letters h up.found
          (record { entries = t.entries; forces = t.forces; letters_are = t.letters });
      coordinator_received = λ n mail txn part c sent up.
          let taken = step.Deliver n in
          let now = ages_now w taken h in
          let aged = subst (λ (u : Option Coordinator). IfSome u (CoordinatorAged (Now w taken))) up.up (now.coordinators txn.0 part up.found) in
          let t = coordinator_row_ages (Now w taken) (length w.steps) sc c mail aged in
          let effect = coordinator_row sc c mail in
          coordinator_acts_ages w taken txn part.log (Some effect.state) [] effect.reaction.append effect.reaction.letters h (aged_still (Now w taken) (length w.steps) c (coordinator_row sc c mail) t aged) t.letters;
      authority_told = λ n mail sent. record { actors_are = ages_now w (step.Deliver n) h; letters = tells_no_age (Now w (step.Deliver n)) (length w.steps) w.actors.authority mail.letter.body };
      master_told = λ n mail sent. record { actors_are = ages_now w (step.Deliver n) h; letters = newest_no_age (Now w (step.Deliver n)) (length w.steps) w.actors.master mail.letter.body };
      published = λ admin exists more.
          let now = master.after_publication admin w.actors.master in
          offices_ages w (step.Publish admin) w.actors.authority now (what.Published admin (master.next_of w.actors.master admin) ∷ []) h;
      pushed = λ admin server exists there. record { actors_are = ages_now w (step.Push admin server) h; letters = (tt, tt) };
      ticked = λ by. offices_ages w (step.Tick by) (office.after_tick by w.actors.authority) w.actors.master (what.Ticked by ∷ []) h;
      revoked = λ cred exists. offices_ages w (step.Revoke cred) (office.after_revocation cred w.actors.authority) w.actors.master (what.Revoked cred ∷ []) h;
      begun = λ txn part c exists up new. begun_ages sc w sound h txn part c up;
      timed = λ txn part c exists up begun.
          let taken = step.Timer txn in
          let now = ages_now w taken h in
          let aged = subst (λ (u : Option Coordinator). IfSome u (CoordinatorAged (Now w taken))) up.up (now.coordinators txn.0 part up.found) in
          record { actors_are = now; letters = repeats_aged (Now w taken) (length w.steps) sc c aged };
    }

-- a step that is not refused keeps what is said of ages
pub ages_next : (sc : Scenario) (m : Machine) (taken : Step) → IsStepOf sc taken → KeepsUp taken → refusal m.state taken ≡ None → WaitRightly sc m.state → IsSound sc m.state → Agrees sc m.state → Ages m.state → Ages (machine_after sc m taken).state
ages_next sc m taken exists stays allowed rightly sound a h =
    machine_after_by sc m (MoveAges m.state) Ages (ages_cases sc m.state rightly sound h) a.coordinator_count
    (λ taken_is move t. state_after_ages m.state taken_is move t) taken exists stays allowed

-- before the first step nobody knows an age
pub ages_opening : (sc : Scenario) → Ages (opening_state sc)
ages_opening sc =
    record {
      servers = λ n part e. at_made (λ (k : ℕ) (found : Part Server). ServerPartAged (IsSubmission []) found) (λ (k : ℕ). opened_part (server_opened.opening sc (record { 0 = k }))) 0 (length sc.servers)
          (λ k within. record { entries = placed_none (EntryAged (IsSubmission [])) (length sc.txns); prepared = λ txn p f. absurd (cc) }) n part e;
      coordinators = λ n part e. at_made (λ (k : ℕ) (found : Part Coordinator). IfSome found.up (CoordinatorAged (IsSubmission []))) (λ (k : ℕ). opened_part (coord_opened.idle sc (record { 0 = k }))) 0 (length sc.txns)
          (λ k within. record { age = tt; known = λ running. absurd (cc) }) n part e;
      sent = tt;
    }
