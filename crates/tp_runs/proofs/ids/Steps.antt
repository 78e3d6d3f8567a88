-- The world is sound before the first step, and each step keeps it sound.
use Rattle.std.proofs.Common.{List, None, [], arith, length, slice_set, subst, sym, true, ℕ, ◌∷◌, ◌≡◌}
use Rattle.tp_model.specs.Valid.{is_valid}
use Rattle.tp_model.specs.Words.actor
use Rattle.tp_model.specs.Words.step
use Rattle.tp_model.specs.Words.what
use Rattle.tp_model.specs.Words.{Actor, Mail, Scenario, ServerId, Step, TxnId, What}
use Rattle.tp_runs.proofs.basics.Facts.{each_new_fact, each_new_mail}
use Rattle.tp_types.proofs.EachLemmas.{at_made, at_set, each_append, each_get}
use Rattle.tp_runs.proofs.ids.Acts.{IsSoundAct, authority_sends_sound, coordinator_begun_sound, coordinator_idle_sound, coordinator_receipt_sound, coordinator_repeats_sound, master_sends_sound, none_sound, published_exists, published_sound, pushes_sound, revoked_sound, server_opening_sound, server_receipt_sound}
use Rattle.tp_runs.proofs.ids.Valid.{IsValid, valid_of}
use Rattle.tp_runs.proofs.walks.Steps.{Cases, KeepsUp, SaysIdle, WaitRightly, WasSent, machine_after_by}
use Rattle.tp_machine.specs.Machine.{Machine, Move, State, facts_of, idle_move, machine_after, mails_of, opened_part, opening_state, refusal, state_after}
use Rattle.tp_machine.specs.Parts.{Part}
use Rattle.tp_runs.specs.Sound.{AreSoundActors, IsSound, IsSoundAuthority, IsSoundBody, IsSoundCoordinatorPart, IsSoundFact, IsSoundLetter, IsSoundMail, IsSoundMaster, IsSoundServerPart, IsSoundWhat}
use Rattle.tp_types.specs.Each.{Each}
use Rattle.tp_machine.specs.Named.{IsActor, IsStepOf}
use Rattle.tp_coord.specs.Opened as coord
use Rattle.tp_coord.specs.Opened.{idle}
use Rattle.tp_coord.specs.State.{Coordinator}
use Rattle.tp_machine.specs.declared.actors.Actors.{Actors}
use Rattle.tp_server.specs.Opened as server
use Rattle.tp_server.specs.State.{Server}
use Rattle.tp_offices.specs.declared.authority.Authority.{Authority}
use Rattle.tp_offices.specs.declared.master.Master.{Master}

-- ---- a move

-- a step leaves sound actors, facts and letters
pub record IsSoundMove (sc : Scenario) (move : Move) : Type 0 where
  pub actors_are : AreSoundActors sc move.actors
  pub left : IsSoundAct sc move.happened move.letters

-- no actor acts
idle_move_sound : (sc : Scenario) (actors : Actors) (happened : List What) → AreSoundActors sc actors → Each (IsSoundWhat sc) happened → IsSoundMove sc (idle_move actors happened)
idle_move_sound sc actors happened h w = record { actors_are = h; left = record { facts_are = w; letters_are = tt } }

idle_sound : (sc : Scenario) (actors : Actors) → AreSoundActors sc actors → (taken : Step) (happened : List What) → SaysIdle taken happened → IsSoundMove sc (idle_move actors happened)
idle_sound sc actors h (step.Deliver mail) happened e = subst (λ (hs : List What). IsSoundMove sc (idle_move actors hs)) (sym e) (idle_move_sound sc actors [] h tt)
idle_sound sc actors h (step.Lose mail) happened e = subst (λ (hs : List What). IsSoundMove sc (idle_move actors hs)) (sym e) (idle_move_sound sc actors (what.Lost mail ∷ []) h (tt, tt))
idle_sound sc actors h _ happened e = absurd e

-- the servers after one of them acted
pub servers_sound : (sc : Scenario) (actors : Actors) (at : ServerId) (part : Part Server) → AreSoundActors sc actors → IsSoundServerPart sc at part
    → AreSoundActors sc (record actors { servers = slice_set actors.servers at.0 part })
servers_sound sc actors at part h p =
    record {
      servers = at_set (λ (n : ℕ) (found : Part Server). IsSoundServerPart sc (record { 0 = n }) found) actors.servers at.0 part h.servers p;
      coordinators = h.coordinators;
      authority = h.authority;
      master = h.master;
    }

-- the coordinators after one of them acted
pub coordinators_sound : (sc : Scenario) (actors : Actors) (txn : TxnId) (part : Part Coordinator) → AreSoundActors sc actors → IsSoundCoordinatorPart sc txn part
    → AreSoundActors sc (record actors { coordinators = slice_set actors.coordinators txn.0 part })
coordinators_sound sc actors txn part h p =
    record {
      servers = h.servers;
      coordinators = at_set (λ (n : ℕ) (found : Part Coordinator). IsSoundCoordinatorPart sc (record { 0 = n }) found) actors.coordinators txn.0 part h.coordinators p;
      authority = h.authority;
      master = h.master;
    }

-- the actors with an authority that acted
authority_sound : (sc : Scenario) (actors : Actors) (authority : Authority) → AreSoundActors sc actors → IsSoundAuthority sc authority → AreSoundActors sc (record actors { authority = authority })
authority_sound sc actors authority h a = record { servers = h.servers; coordinators = h.coordinators; authority = a; master = h.master }

-- and with a master that acted
master_sound : (sc : Scenario) (actors : Actors) (held : Master) → AreSoundActors sc actors → IsSoundMaster sc held → AreSoundActors sc (record actors { master = held })
master_sound sc actors held h m = record { servers = h.servers; coordinators = h.coordinators; authority = h.authority; master = m }

-- what a mail that was sent says is sound
pub letter_sound : (sc : Scenario) (w : State) (n : ℕ) (mail : Mail) (to : Actor) → IsSound sc w → WasSent w n mail to → IsActor sc mail.letter.from × IsSoundBody sc to mail.letter.body
letter_sound sc w n mail to h sent =
    let m : IsSoundLetter sc mail.letter = each_get (IsSoundMail sc) w.mails n mail h.mails_are sent.sent in
    (m.from_is_actor, subst (λ (t : Actor). IsSoundBody sc t mail.letter.body) sent.goes_to m.says)

sound_cases : (sc : Scenario) (w : State) → IsValid sc → WaitRightly sc w → IsSound sc w → Cases sc w (λ taken move. IsSoundMove sc move)
sound_cases sc w valid rightly h =
    record {
      idle = idle_sound sc w.actors h.actors_are;
      server_received = λ n mail at part s sent up.
          let move = server_receipt_sound sc at part s mail valid (rightly at part s up) (h.actors_are.servers at.0 part up.found) up.up (letter_sound sc w n mail (actor.Server at) h sent).1 in
          record { actors_are = servers_sound sc w.actors at _ h.actors_are move.part_is; left = move.left };
      coordinator_received = λ n mail txn part c sent up.
          let says = letter_sound sc w n mail (actor.Coordinator txn) h sent in
          let move = coordinator_receipt_sound sc txn part c mail valid (h.actors_are.coordinators txn.0 part up.found) up.up says.0 (each_get (IsSoundMail sc) w.mails n mail h.mails_are sent.sent).refuses says.1 in
          record { actors_are = coordinators_sound sc w.actors txn _ h.actors_are move.part_is; left = move.left };
      authority_told = λ n mail sent.
          record { actors_are = h.actors_are; left = record { facts_are = tt; letters_are = authority_sends_sound sc w.actors.authority mail h.actors_are.authority (letter_sound sc w n mail actor.Authority h sent).1 } };
      master_told = λ n mail sent.
          record { actors_are = h.actors_are; left = record { facts_are = tt; letters_are = master_sends_sound sc w.actors.master mail h.actors_are.master (letter_sound sc w n mail actor.Master h sent).1 } };
      published = λ admin exists more.
          let version = published_exists sc w.actors.master admin h.actors_are.master exists more in
          record {
            actors_are = master_sound sc w.actors _ h.actors_are (published_sound sc w.actors.master admin h.actors_are.master version);
            left = record { facts_are = (version, tt); letters_are = tt };
          };
      pushed = λ admin server exists there.
          record { actors_are = h.actors_are; left = record { facts_are = tt; letters_are = pushes_sound sc w.actors.master admin server h.actors_are.master exists there } };
      ticked = λ by. record { actors_are = authority_sound sc w.actors _ h.actors_are h.actors_are.authority; left = record { facts_are = (tt, tt); letters_are = tt } };
      revoked = λ cred exists.
          record {
            actors_are = authority_sound sc w.actors _ h.actors_are (revoked_sound sc w.actors.authority cred h.actors_are.authority exists);
            left = record { facts_are = (exists, tt); letters_are = tt };
          };
      begun = λ txn part c exists up new.
          let move = coordinator_begun_sound sc txn part c (length w.steps) valid (h.actors_are.coordinators txn.0 part up.found) up.up in
          record { actors_are = coordinators_sound sc w.actors txn _ h.actors_are move.part_is; left = move.left };
      timed = λ txn part c exists up begun.
          record { actors_are = h.actors_are; left = record { facts_are = tt; letters_are = coordinator_repeats_sound sc txn part c valid (h.actors_are.coordinators txn.0 part up.found) up.up } };
    }

-- ---- a step
-- ---- a step

-- a step that ends in a sound move leaves a sound world
pub state_after_sound : (sc : Scenario) (w : State) (taken : Step) (move : Move) → IsSound sc w → IsSoundMove sc move → IsSound sc (state_after w taken move)
state_after_sound sc w taken move h t =
    record {
      actors_are = t.actors_are;
      mails_are = each_append (IsSoundMail sc) w.mails (mails_of (length w.steps) (length w.mails) move.letters) h.mails_are
          (each_new_mail (λ sent. IsSoundLetter sc) (length w.steps) (length w.mails) move.letters t.left.letters_are);
      facts_are = each_append (IsSoundFact sc) w.facts (facts_of (length w.steps) move.happened) h.facts_are (each_new_fact (λ place. IsSoundWhat sc) (length w.steps) move.happened t.left.facts_are);
    }

-- ---- for the world

-- the world is sound before the first step
pub sound_opening : (sc : Scenario) → is_valid sc ≡ true → IsSound sc (opening_state sc)
sound_opening sc formed =
    let valid = valid_of sc formed in
    record {
      actors_are = record {
        servers = λ n part e. subst (λ (k : ℕ). IsSoundServerPart sc (record { 0 = k }) part) (omega arith)
            (at_made (λ (k : ℕ) (found : Part Server). IsSoundServerPart sc (record { 0 = k }) found) (λ (k : ℕ). opened_part (server.opening sc (record { 0 = k }))) 0 (length sc.servers)
            (λ k within. server_opening_sound sc (record { 0 = k }) valid (omega arith)) n part e);
        coordinators = λ n part e. subst (λ (k : ℕ). IsSoundCoordinatorPart sc (record { 0 = k }) part) (omega arith)
            (at_made (λ (k : ℕ) (found : Part Coordinator). IsSoundCoordinatorPart sc (record { 0 = k }) found) (λ (k : ℕ). opened_part (coord.idle sc (record { 0 = k }))) 0 (length sc.txns)
            (λ k within. coordinator_idle_sound sc (record { 0 = k }) (omega arith)) n part e);
        authority = none_sound sc (length sc.creds);
        master = record { newest = valid.openings; last = valid.lasts };
      };
      mails_are = tt;
      facts_are = tt;
    }

-- a step that names what exists keeps the world sound
pub sound_next : (sc : Scenario) (m : Machine) (taken : Step) → is_valid sc ≡ true → IsStepOf sc taken → KeepsUp taken → refusal m.state taken ≡ None → length m.state.actors.coordinators ≡ length sc.txns
    → WaitRightly sc m.state → IsSound sc m.state → IsSound sc (machine_after sc m taken).state
sound_next sc m taken formed exists stays allowed count rightly h =
    machine_after_by sc m (λ taken move. IsSoundMove sc move) (IsSound sc) (sound_cases sc m.state (valid_of sc formed) rightly h) count
    (λ taken move t. state_after_sound sc m.state taken move h t) taken exists stays allowed
