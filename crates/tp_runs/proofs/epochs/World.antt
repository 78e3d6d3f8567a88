-- Epochs over every list of steps: all that mails and coordinators tell of epochs is what servers had, and all requests of a transaction
-- to a server that name an epoch, and all that is prepared there, name the one that was asked first.
use Rattle.std.specs.List.{range_with_len}
use Rattle.std.specs.Option.{option_map_or}
use Rattle.std.proofs.Common.{Bool, IfSome, List, None, Option, Some, [], ap, arith, false, if◌then◌else◌, is_some, length, map, option_and_then, refl, slice_get, slice_set, subst, sym, true, ℕ, ◌++◌, ◌+◌, ◌==◌, ◌∙◌, ◌∷◌, ◌≡◌, ◌≤◌}
use Rattle.std.proofs.lemmas.Bool.{eqb-true}
use Rattle.std.proofs.lemmas.List.{length-replicate}
use Rattle.std.proofs.lemmas.Option.{cond_some, same_Some}
use Rattle.tp_types.proofs.ListLemmas.{number_itself}
use Rattle.tp_model.specs.Ids.{same_txn}
use Rattle.tp_model.specs.Words.actor
use Rattle.tp_model.specs.Words.body
use Rattle.tp_model.specs.Words.log
use Rattle.tp_model.specs.Words.what
use Rattle.tp_model.specs.Words.{Actor, Body, DoneReply, Letter, Mail, Prepared, QueryRequest, Record, Scenario, ServerId, Step, TxnId, What}
use Rattle.tp_runs.proofs.agreement.Steps.{own_txn}
use Rattle.tp_runs.proofs.agreement.World.{Agrees, CoordinatorUpAgrees, PreparesNamed}
use Rattle.tp_runs.proofs.basics.Facts.{each_new_mail}
use Rattle.tp_runs.proofs.basics.Homes.{HaveHomes}
use Rattle.tp_runs.proofs.basics.Ids.{same_txn_from, server_number, txn_number}
use Rattle.tp_types.proofs.EachLemmas.{at_made, at_set, each_append, each_as, each_get, placed_none, unset_at}
use Rattle.tp_runs.proofs.basics.Logs.{appended, get_set, prepared_either, set_same}
use Rattle.tp_runs.proofs.epochs.Asked.{Asking, IsAsked, LetterNamed, NamesNone, StaysAsked, asked_in, asked_more, asked_then, letter_stays, naming, naming_of, none_then, other_then, then_stays}
use Rattle.tp_runs.proofs.epochs.Coordinator.{IsMail, coordinator_row_keeps, submit_row_keeps, timer_keeps}
use Rattle.tp_runs.proofs.epochs.Kept.{CoordinatorEpochs, CoordinatorKeeps}
use Rattle.tp_runs.proofs.epochs.Server.{BodyTold, DoneMade, DoneTold, EntryMade, IsPlainLetter, LetterFirst, LetterTold, LettersEpochs, PreparedMade, QueryFirst, RecordMade, ReplyMade, ServerEpochs, ServerMade, WaitsMade, epoch_rises, plain_letters, plain_names_none, server_row_made}
use Rattle.tp_server.proofs.Rows.{AreRightWaits}
use Rattle.tp_runs.proofs.walks.Steps.{Cases, IsCoordinatorUp, IsServerUp, KeepsUp, WaitRightly, WasSent, machine_after_by}
use Rattle.tp_recover.specs.Log.{epoch_in, preparation_in, prepared_in}
use Rattle.tp_machine.specs.Logs.{epoch_at, epoch_by, prepared_by}
use Rattle.tp_machine.specs.Machine.{Machine, Move, State, acts, acts_by, coordinator_fact, coordinator_move, is_part_submitted, machine_after, mails_of, opened_part, opening_state, refusal, server_fact, server_move, state_after, with_age}
use Rattle.tp_actor_log.specs.Records.{log_with}
use Rattle.tp_machine.specs.Parts.{Part}
use Rattle.tp_types.specs.Each.{Each, EachAt}
use Rattle.tp_runs.specs.Sound.{IsSound, IsSoundLetter, IsSoundMail, IsSoundServerUp}
use Rattle.tp_machine.specs.Named.{IsStepOf}
use Rattle.tp_coord.specs.Opened as coord_opened
use Rattle.tp_coord.specs.Opened.{idle}
use Rattle.tp_coord.specs.Row.{coordinator_row, repeats, submit_row}
use Rattle.tp_coord.specs.State.{Coordinator}
use Rattle.tp_machine.specs.declared.actors.Actors.{Actors}
use Rattle.tp_server.specs.declared.server.Entry.{Entry}
use Rattle.tp_server.specs.Opened as server_opened
use Rattle.tp_server.specs.Row.{server_row}
use Rattle.tp_server.specs.State.{Server}
use Rattle.tp_offices.specs.Authority as office
use Rattle.tp_offices.specs.Master as master
use Rattle.tp_offices.specs.declared.authority.Authority.{Authority}
use Rattle.tp_offices.specs.declared.master.Master.{Master}

-- ---- the invariant

-- a server that is up has its log's epoch; what is prepared on its log was made in the epoch that is asked
pub record ServerPartMade (sc : Scenario) (A : Asking) (at : ServerId) (part : Part Server) : Type 0 where
  pub state : IfSome part.up (λ (s : Server). ServerMade sc A at s part.log)
  pub prepared : (txn : TxnId) (p : Prepared) → prepared_in txn part.log ≡ Some p → PreparedMade A at (epoch_in part.log) txn p

abbrev pub CoordinatorPartKeeps : Scenario → (ℕ → ℕ) → (ServerId → Option ℕ) → Part Coordinator → Type 0
CoordinatorPartKeeps sc E asked part = IfSome part.up (CoordinatorKeeps sc E asked)

-- actors, and mails that were sent, where these epochs are asked
pub record AreEpochs (sc : Scenario) (A : Asking) (actors : Actors) (mails : List Mail) : Type 0 where
  pub servers : EachAt (λ (n : ℕ) (part : Part Server). ServerPartMade sc A (server_number n) part) actors.servers
  pub coordinators : EachAt (λ (n : ℕ) (part : Part Coordinator). CoordinatorPartKeeps sc (epoch_at actors.servers) (A (txn_number n)) part) actors.coordinators
  pub named : Each (λ (mail : Mail). LetterNamed A mail.letter) mails
  pub first : Each (λ (mail : Mail). LetterFirst sc mail.letter) mails
  pub told : Each (λ (mail : Mail). LetterTold sc A (epoch_at actors.servers) mail.letter) mails

-- all that is said of epochs
abbrev pub Epochs : Scenario → State → Type 0
Epochs sc w = AreEpochs sc (asked_in w.mails) w.actors w.mails

-- what a step leaves where these epochs are asked
pub record MoveEpochs (sc : Scenario) (A : Asking) (w : State) (move : Move) : Type 0 where
  pub actors_are : AreEpochs sc A move.actors w.mails
  pub sent : LettersEpochs sc A (epoch_at move.actors.servers) move.letters

-- and that is those that are asked after it
abbrev pub StepEpochs : Scenario → State → Move → Type 0
StepEpochs sc w move = MoveEpochs sc (asked_then (asked_in w.mails) move.letters) w move

pub state_after_epochs : (sc : Scenario) (w : State) (taken : Step) (move : Move) → StepEpochs sc w move → Epochs sc (state_after w taken move)
state_after_epochs sc w taken move t =
    let A = asked_then (asked_in w.mails) move.letters in
    let E = epoch_at move.actors.servers in
    let new = mails_of (length w.steps) (length w.mails) move.letters in
    let more : (P : Letter → Type 0) → Each (λ (mail : Mail). P mail.letter) w.mails → Each P move.letters → Each (λ (mail : Mail). P mail.letter) (w.mails ++ new) =
    λ P old sent. each_append (λ (mail : Mail). P mail.letter) w.mails new old (each_new_mail (λ sent. P) (length w.steps) (length w.mails) move.letters sent) in
    let made : AreEpochs sc A move.actors (w.mails ++ new) = record {
      servers = t.actors_are.servers;
      coordinators = t.actors_are.coordinators;
      named = more (LetterNamed A) t.actors_are.named t.sent.named;
      first = more (LetterFirst sc) t.actors_are.first t.sent.first;
      told = more (LetterTold sc A E) t.actors_are.told t.sent.told;
    } in
    subst (λ (B : Asking). AreEpochs sc B move.actors (w.mails ++ new)) (sym (asked_more w.mails (length w.steps) (length w.mails) move.letters)) made

-- letters that name nothing leave what is asked as it was
same_asked : (sc : Scenario) (w : State) (move : Move) → Each NamesNone move.letters → MoveEpochs sc (asked_in w.mails) w move → StepEpochs sc w move
same_asked sc w move none t = subst (λ (B : Asking). MoveEpochs sc B w move) (sym (none_then (asked_in w.mails) move.letters none)) t

unmoved_epochs : (sc : Scenario) (w : State) (happened : List What) (letters : List Letter) → Epochs sc w → Each IsPlainLetter letters
    → StepEpochs sc w (record { actors = w.actors; happened = happened; letters = letters })
unmoved_epochs sc w happened letters h plain =
    same_asked sc w (record { actors = w.actors; happened = happened; letters = letters }) (plain_names_none letters plain)
    (record { actors_are = h; sent = plain_letters sc (asked_in w.mails) (epoch_at w.actors.servers) letters plain })

-- ---- what is asked stays, and epochs never fall

abbrev EpochsRise : (ℕ → ℕ) → (ℕ → ℕ) → Type 0
EpochsRise E F = (n : ℕ) → E n ≤ F n

keeps_rises : (sc : Scenario) (E F : ℕ → ℕ) (asked : ServerId → Option ℕ) (up : Option Coordinator) → EpochsRise E F → IfSome up (CoordinatorKeeps sc E asked) → IfSome up (CoordinatorKeeps sc F asked)
keeps_rises sc E F asked None rise h = tt
keeps_rises sc E F asked (Some c) rise h = record { places = h.places; past = λ n epoch e. omega (arith, h.past n epoch e, rise n); undecided = h.undecided }

done_stays_in_epochs : (sc : Scenario) (A B : Asking) (E F : ℕ → ℕ) (from : Actor) (done : DoneReply) → StaysAsked A B → EpochsRise E F → DoneTold sc A E from done → DoneTold sc B F from done
done_stays_in_epochs sc A B E F (actor.Server at) done stays rise h =
    record { past = omega (arith, h.past, rise at.0); asked = λ ran later. stays done.txn at done.epoch (h.asked ran later) }
done_stays_in_epochs sc A B E F _ done stays rise h = tt

told_stays : (sc : Scenario) (A B : Asking) (E F : ℕ → ℕ) (from : Actor) (said : Body) → StaysAsked A B → EpochsRise E F → BodyTold sc A E from said → BodyTold sc B F from said
told_stays sc A B E F from (body.Done done) stays rise h = done_stays_in_epochs sc A B E F from done stays rise h
told_stays sc A B E F from _ stays rise h = tt

named_still : (A B : Asking) (txn : TxnId) (at : ServerId) (epoch : ℕ) (found : Option ℕ) → StaysAsked A B → IfSome found (λ (named : ℕ). (A txn at ≡ Some named) × (named ≡ epoch))
    → IfSome found (λ (named : ℕ). (B txn at ≡ Some named) × (named ≡ epoch))
named_still A B txn at epoch None stays h = tt
named_still A B txn at epoch (Some named) stays h = (stays txn at named h.0, h.1)

waits_still : (sc : Scenario) (A B : Asking) (at : ServerId) (epoch : ℕ) (waiting : Option QueryRequest) → StaysAsked A B → IfSome waiting (WaitsMade sc A at epoch) → IfSome waiting (WaitsMade sc B at epoch)
waits_still sc A B at epoch None stays h = tt
waits_still sc A B at epoch (Some q) stays h = record { first = h.first; named = named_still A B q.txn at epoch q.epoch stays h.named }

server_still : (sc : Scenario) (A B : Asking) (at : ServerId) (kept : List Record) (up : Option Server) → StaysAsked A B → IfSome up (λ (s : Server). ServerMade sc A at s kept)
    → IfSome up (λ (s : Server). ServerMade sc B at s kept)
server_still sc A B at kept None stays h = tt
server_still sc A B at kept (Some s) stays h =
    record {
      epoch_is = h.epoch_is;
      entries = λ n entry e. let was : EntryMade sc A at s.epoch entry = h.entries n entry e in
          record {
            past = was.past;
            present = was.present;
            waiting = waits_still sc A B at entry.epoch entry.waiting stays was.waiting;
            answers = each_as (DoneMade sc A at s.epoch) (DoneMade sc B at s.epoch)
                (λ given d. record { past = d.past; asked = λ ran later. stays given.txn at given.epoch (d.asked ran later) }) entry.answers was.answers;
          };
    }

part_still : (sc : Scenario) (A B : Asking) (at : ServerId) (part : Part Server) → StaysAsked A B → ServerPartMade sc A at part → ServerPartMade sc B at part
part_still sc A B at part stays h =
    record {
      state = server_still sc A B at part.log part.up stays h.state;
      prepared = λ txn p e. record { past = (h.prepared txn p e).past; asked = stays txn at p.epoch (h.prepared txn p e).asked };
    }

-- ---- a server acts

chosen_rises : (b : Bool) (part next : Part Server) (other : Option (Part Server)) → (b ≡ true → other ≡ Some part) → epoch_by part ≤ epoch_by next
    → option_map_or epoch_by other 0 ≤ option_map_or epoch_by (if b then Some next else other) 0
chosen_rises true part next other same le = let was : option_map_or epoch_by other 0 ≡ epoch_by part = ap (λ (x : Option (Part Server)). option_map_or epoch_by x 0) (same refl) in omega (arith, was, le)
chosen_rises false part next other same le = omega arith

set_rises : (servers : List (Part Server)) (at : ℕ) (part next : Part Server) → slice_get servers at ≡ Some part → epoch_by part ≤ epoch_by next → EpochsRise (epoch_at servers) (epoch_at (slice_set servers at next))
set_rises servers at part next found le n =
    subst (λ (x : Option (Part Server)). epoch_at servers n ≤ option_map_or epoch_by x 0) (sym (get_set servers at n part next found))
    (chosen_rises (at == n) part next (slice_get servers n) (λ same. subst (λ (m : ℕ). slice_get servers m ≡ Some part) (eqb-true at n same) found) le)

set_there_in_epochs : (servers : List (Part Server)) (at : ℕ) (part next : Part Server) → slice_get servers at ≡ Some part → epoch_at (slice_set servers at next) at ≡ epoch_by next
set_there_in_epochs servers at part next found =
    ap (λ (x : Option (Part Server)). option_map_or epoch_by x 0) (get_set servers at at part next found)
    ∙ ap (λ (b : Bool). option_map_or epoch_by (if b then Some next else slice_get servers at) 0) (number_itself at)

-- a vote that was forced was made in the epoch that is asked
forced_made : (A : Asking) (at : ServerId) (epoch : ℕ) (txn : TxnId) (append : Option Record) → IfSome append (RecordMade A at epoch) → (p : Prepared) → appended (preparation_in txn) append ≡ Some p → PreparedMade A at epoch txn p
forced_made A at epoch txn (Some (log.Prepared q)) h p e =
    let parts = cond_some (same_txn q.txn txn) q p e in
    subst (λ (r : Prepared). PreparedMade A at epoch txn r) parts.1 (subst (λ (t : TxnId). PreparedMade A at epoch t q) (ap txn_number (eqb-true q.txn.0 txn.0 parts.0)) h)
forced_made A at epoch txn (Some log.Boot) h p e = absurd (cc)
forced_made A at epoch txn (Some (log.Told t)) h p e = absurd (cc)
forced_made A at epoch txn (Some (log.Settled s)) h p e = absurd (cc)
forced_made A at epoch txn (Some (log.Decided d)) h p e = absurd (cc)
forced_made A at epoch txn None h p e = absurd (cc)

-- what replies name and tell
reply_none : (sc : Scenario) (A : Asking) (at : ServerId) (epoch : ℕ) (from : Actor) (said : Body) → ReplyMade sc A at epoch from said → naming_of said ≡ None
reply_none sc A at epoch from (body.Query q) h = absurd h
reply_none sc A at epoch from (body.Validate v) h = absurd h
reply_none sc A at epoch from (body.Prepare p) h = absurd h
reply_none sc A at epoch from _ h = refl

reply_named : (sc : Scenario) (A : Asking) (at : ServerId) (epoch : ℕ) (from to : Actor) (said : Body) → ReplyMade sc A at epoch from said → IfSome (naming_of said) (IsAsked A to)
reply_named sc A at epoch from to (body.Query q) h = absurd h
reply_named sc A at epoch from to (body.Validate v) h = absurd h
reply_named sc A at epoch from to (body.Prepare p) h = absurd h
reply_named sc A at epoch from to _ h = tt

reply_first : (sc : Scenario) (A : Asking) (at : ServerId) (epoch : ℕ) (from to : Actor) (said : Body) → ReplyMade sc A at epoch from said → QueryFirst sc to said
reply_first sc A at epoch from (actor.Server other) (body.Query q) h = absurd h
reply_first sc A at epoch from _ _ h = tt

reply_told : (sc : Scenario) (A : Asking) (E : ℕ → ℕ) (at : ServerId) (epoch : ℕ) (from : Actor) (said : Body) → E at.0 ≡ epoch → ReplyMade sc A at epoch from said → BodyTold sc A E from said
reply_told sc A E at epoch from (body.Done done) e h =
    subst (λ (f : Actor). BodyTold sc A E f (body.Done done)) (sym h.0) (record { past = omega (arith, h.1.past, e); asked = h.1.asked })
reply_told sc A E at epoch from _ e h = tt

-- a server that was up or down, and is up or down after it: what it forced and what it sent
pub server_acts_epochs : (sc : Scenario) (w : State) (at : ServerId) (part : Part Server) (own : List What) (now : Option Server) (append : Option Record) (letters : List Letter) → Epochs sc w
    → slice_get w.actors.servers at.0 ≡ Some part → ServerEpochs sc (asked_in w.mails) at part.log now append letters
    → StepEpochs sc w (server_move w.actors at (acts (server_fact at) own part.log now (log_with part.log append) letters))
server_acts_epochs sc w at part own now append letters h found t =
    let A = asked_in w.mails in
    let kept = log_with part.log append in
    let next : Part Server = record { up = now; log = kept } in
    let servers = slice_set w.actors.servers at.0 next in
    let longer : epoch_in part.log ≤ epoch_in kept = epoch_rises part.log append in
    let rise : EpochsRise (epoch_at w.actors.servers) (epoch_at servers) = set_rises w.actors.servers at.0 part next found longer in
    let here : epoch_at servers at.0 ≡ epoch_in kept = set_there_in_epochs w.actors.servers at.0 part next found in
    let Made = λ (letter : Letter). ReplyMade sc A at (epoch_in kept) letter.from letter.body in
    same_asked sc w (server_move w.actors at (acts (server_fact at) own part.log now kept letters))
    (each_as Made NamesNone (λ letter k. reply_none sc A at (epoch_in kept) letter.from letter.body k) letters t.replies)
    (record {
      actors_are = record {
        servers = at_set (λ (n : ℕ) (p : Part Server). ServerPartMade sc A (server_number n) p) w.actors.servers at.0 next h.servers
            (record {
              state = t.made;
              prepared = λ txn. prepared_either txn part.log append (λ (p : Prepared). PreparedMade A at (epoch_in kept) txn p)
                  (λ p e. let was = (h.servers at.0 part found).prepared txn p e in record { past = omega (arith, was.past, longer); asked = was.asked })
                  (λ p e. let new = forced_made A at (epoch_in part.log) txn append t.forces p e in record { past = omega (arith, new.past, longer); asked = new.asked });
            });
        coordinators = λ n p e. keeps_rises sc (epoch_at w.actors.servers) (epoch_at servers) (A (txn_number n)) p.up rise (h.coordinators n p e);
        named = h.named;
        first = h.first;
        told = each_as (λ (mail : Mail). LetterTold sc A (epoch_at w.actors.servers) mail.letter) (λ (mail : Mail). LetterTold sc A (epoch_at servers) mail.letter)
            (λ mail k. told_stays sc A A (epoch_at w.actors.servers) (epoch_at servers) mail.letter.from mail.letter.body (λ txn s epoch e. e) rise k) w.mails h.told;
      };
      sent = record {
        named = each_as Made (LetterNamed A) (λ letter k. reply_named sc A at (epoch_in kept) letter.from letter.to letter.body k) letters t.replies;
        first = each_as Made (LetterFirst sc) (λ letter k. reply_first sc A at (epoch_in kept) letter.from letter.to letter.body k) letters t.replies;
        told = each_as Made (LetterTold sc A (epoch_at servers)) (λ letter k. reply_told sc A (epoch_at servers) at (epoch_in kept) letter.from letter.body here k) letters t.replies;
      };
    })

-- ---- a coordinator acts

pub set_apart : {X : Type 0} (P : ℕ → X → Type 0) (xs : List X) (k : ℕ) (old new : X) → slice_get xs k ≡ Some old → ((n : ℕ) (x : X) → (k == n) ≡ false → slice_get xs n ≡ Some x → P n x) → P k new
    → EachAt P (slice_set xs k new)
set_apart P xs k old new found others here n x e = by_number (k == n) refl (sym (get_set xs k n old new found) ∙ e)
  where
    by_number : (b : Bool) → (k == n) ≡ b → (if b then Some new else slice_get xs n) ≡ Some x → P n x
    by_number true same f = subst (λ (m : ℕ). P m x) (eqb-true k n same) (subst (P k) (same_Some new x f) here)
    by_number false apart f = others n x apart f

-- a coordinator that was up or down, and is up or down after it
pub coordinator_acts_epochs : (sc : Scenario) (w : State) (txn : TxnId) (part : Part Coordinator) (own : List What) (now : Option Coordinator) (append : Option Record) (letters : List Letter) → Epochs sc w
    → slice_get w.actors.coordinators txn.0 ≡ Some part → CoordinatorEpochs sc (epoch_at w.actors.servers) (asked_in w.mails) txn now letters
    → StepEpochs sc w (coordinator_move w.actors txn (acts coordinator_fact own part.log now (log_with part.log append) letters))
coordinator_acts_epochs sc w txn part own now append letters h found t =
    let A = asked_in w.mails in
    let B = asked_then A letters in
    let E = epoch_at w.actors.servers in
    let stays : StaysAsked A B = then_stays A letters in
    record {
      actors_are = record {
        servers = λ n p e. part_still sc A B (server_number n) p stays (h.servers n p e);
        coordinators = set_apart (λ (n : ℕ) (p : Part Coordinator). CoordinatorPartKeeps sc E (B (txn_number n)) p) w.actors.coordinators txn.0 part (record { up = now; log = log_with part.log append }) found
            (λ n p apart e. subst (λ (asked : ServerId → Option ℕ). CoordinatorPartKeeps sc E asked p) (sym (other_then A txn (txn_number n) letters apart t.own)) (h.coordinators n p e))
            t.keeps;
        named = each_as (λ (mail : Mail). LetterNamed A mail.letter) (λ (mail : Mail). LetterNamed B mail.letter) (λ mail k. letter_stays A B mail.letter stays k) w.mails h.named;
        first = h.first;
        told = each_as (λ (mail : Mail). LetterTold sc A E mail.letter) (λ (mail : Mail). LetterTold sc B E mail.letter)
            (λ mail k. told_stays sc A B E E mail.letter.from mail.letter.body stays (λ n. omega arith) k) w.mails h.told;
      };
      sent = t.sent;
    }

-- ---- what is known of actors that are up

-- a server that receives a mail
row_at : (sc : Scenario) (A : Asking) (s : Server) (at : ServerId) (kept : List Record) (mail : Mail) → AreRightWaits sc s → s.server ≡ at → ServerMade sc A at s kept → QueryFirst sc (actor.Server at) mail.letter.body
    → IfSome (naming_of mail.letter.body) (IsAsked A (actor.Server at))
    → ServerEpochs sc A at kept (Some (server_row sc s mail).state) (server_row sc s mail).reaction.append (server_row sc s mail).reaction.letters
row_at sc A s at kept mail waits same made first named =
    let effect = server_row sc s mail in
    subst (λ (a : ServerId). ServerEpochs sc A a kept (Some effect.state) effect.reaction.append effect.reaction.letters) same
    (server_row_made sc A s kept mail waits (subst (λ (a : ServerId). ServerMade sc A a s kept) (sym same) made) (subst (λ (a : ServerId). QueryFirst sc (actor.Server a) mail.letter.body) (sym same) first)
    (subst (λ (a : ServerId). IfSome (naming_of mail.letter.body) (IsAsked A (actor.Server a))) (sym same) named))

-- and so one that was sent
pub server_sends_epochs : (sc : Scenario) (w : State) → WaitRightly sc w → IsSound sc w → Epochs sc w → (n : ℕ) (mail : Mail) (at : ServerId) (part : Part Server) (s : Server) → WasSent w n mail (actor.Server at) → IsServerUp w at part s
    → ServerEpochs sc (asked_in w.mails) at part.log (Some (server_row sc s mail).state) (server_row sc s mail).reaction.append (server_row sc s mail).reaction.letters
server_sends_epochs sc w rightly sound h n mail at part s sent up =
    let A = asked_in w.mails in
    let here : IsSoundServerUp sc at s = subst (λ (u : Option Server). IfSome u (IsSoundServerUp sc at)) up.up (sound.actors_are.servers at.0 part up.found).state in
    let made : ServerMade sc A at s part.log = subst (λ (u : Option Server). IfSome u (λ (t : Server). ServerMade sc A at t part.log)) up.up (h.servers at.0 part up.found).state in
    row_at sc A s at part.log mail (rightly at part s up) here.server_is made
    (subst (λ (to : Actor). QueryFirst sc to mail.letter.body) sent.goes_to (each_get (λ (m : Mail). LetterFirst sc m.letter) w.mails n mail h.first sent.sent))
    (subst (λ (to : Actor). IfSome (naming_of mail.letter.body) (IsAsked A to)) sent.goes_to (each_get (λ (m : Mail). LetterNamed A m.letter) w.mails n mail h.named sent.sent))

receipt_by_server_in_epochs : (sc : Scenario) (w : State) → WaitRightly sc w → IsSound sc w → Epochs sc w → (n : ℕ) (mail : Mail) (at : ServerId) (part : Part Server) (s : Server) → WasSent w n mail (actor.Server at) → IsServerUp w at part s
    → StepEpochs sc w (server_move w.actors at (acts_by (server_fact at) [] part.log (server_row sc s mail)))
receipt_by_server_in_epochs sc w rightly sound h n mail at part s sent up =
    let effect = server_row sc s mail in
    server_acts_epochs sc w at part [] (Some effect.state) effect.reaction.append effect.reaction.letters h up.found (server_sends_epochs sc w rightly sound h n mail at part s sent up)

coordinator_keeps : (sc : Scenario) (w : State) (txn : TxnId) (part : Part Coordinator) (c : Coordinator) → Epochs sc w → IsCoordinatorUp w txn part c → c.txn ≡ txn
    → CoordinatorKeeps sc (epoch_at w.actors.servers) (asked_in w.mails c.txn) c
coordinator_keeps sc w txn part c h up same =
    let E = epoch_at w.actors.servers in
    subst (λ (t : TxnId). CoordinatorKeeps sc E (asked_in w.mails t) c) (sym same)
    (subst (λ (u : Option Coordinator). IfSome u (CoordinatorKeeps sc E (asked_in w.mails txn))) up.up (h.coordinators txn.0 part up.found))

-- what a mail to a coordinator tells it
mail_is : (sc : Scenario) (E : ℕ → ℕ) (A : Asking) (c : Coordinator) (from to : Actor) (said : Body) → IsSoundLetter sc (record { from = from; to = to; body = said }) → to ≡ actor.Coordinator c.txn → BodyTold sc A E from said
    → IsMail sc E A c from said
mail_is sc E A c from to (body.Done done) sound e told =
    record { from_is_actor = sound.from_is_actor; told = told; own = same_txn_from c.txn done.txn (sym e ∙ sound.says.goes_to) }
mail_is sc E A c from to _ sound e told = tt

-- the row of a coordinator on a mail that was sent
pub coordinator_sends_keep : (sc : Scenario) (w : State) → HaveHomes sc → IsSound sc w → Agrees sc w → Epochs sc w → (n : ℕ) (mail : Mail) (txn : TxnId) (part : Part Coordinator) (c : Coordinator) → WasSent w n mail (actor.Coordinator txn) → IsCoordinatorUp w txn part c
    → CoordinatorEpochs sc (epoch_at w.actors.servers) (asked_in w.mails) c.txn (Some (coordinator_row sc c mail).state) (coordinator_row sc c mail).reaction.letters
coordinator_sends_keep sc w homes sound a h n mail txn part c sent up =
    let E = epoch_at w.actors.servers in
    let A = asked_in w.mails in
    let same : c.txn ≡ txn = own_txn sc w txn part c sound up.found up.up in
    let own : CoordinatorUpAgrees sc w.actors.servers txn part.log c = subst (λ (u : Option Coordinator). IfSome u (CoordinatorUpAgrees sc w.actors.servers txn part.log)) up.up (a.coordinators txn.0 part up.found).state in
    coordinator_row_keeps sc E A c mail homes (coordinator_keeps sc w txn part c h up same) own.agrees.servers
    (mail_is sc E A c mail.letter.from mail.letter.to mail.letter.body (each_get (IsSoundMail sc) w.mails n mail sound.mails_are sent.sent) (sent.goes_to ∙ ap (λ (t : TxnId). actor.Coordinator t) (sym same))
    (each_get (λ (m : Mail). LetterTold sc A E m.letter) w.mails n mail h.told sent.sent))

receipt_by_coordinator_in_epochs : (sc : Scenario) (w : State) → HaveHomes sc → IsSound sc w → Agrees sc w → Epochs sc w → (n : ℕ) (mail : Mail) (txn : TxnId) (part : Part Coordinator) (c : Coordinator)
    → WasSent w n mail (actor.Coordinator txn) → IsCoordinatorUp w txn part c → StepEpochs sc w (coordinator_move w.actors txn (acts_by coordinator_fact [] part.log (coordinator_row sc c mail)))
receipt_by_coordinator_in_epochs sc w homes sound a h n mail txn part c sent up =
    let E = epoch_at w.actors.servers in
    let A = asked_in w.mails in
    let effect = coordinator_row sc c mail in
    let same : c.txn ≡ txn = own_txn sc w txn part c sound up.found up.up in
    coordinator_acts_epochs sc w txn part [] (Some effect.state) effect.reaction.append effect.reaction.letters h up.found
    (subst (λ (t : TxnId). CoordinatorEpochs sc E A t (Some effect.state) effect.reaction.letters) same (coordinator_sends_keep sc w homes sound a h n mail txn part c sent up))

begun_epochs : (sc : Scenario) (w : State) → IsSound sc w → Epochs sc w → (txn : TxnId) (part : Part Coordinator) (c : Coordinator) → IsCoordinatorUp w txn part c → is_part_submitted (Some c) ≡ false
    → StepEpochs sc w (coordinator_move w.actors txn (acts_by coordinator_fact (what.Submitted txn ∷ []) part.log (with_age (submit_row sc c) (length w.steps))))
begun_epochs sc w sound h txn part c up new =
    let E = epoch_at w.actors.servers in
    let A = asked_in w.mails in
    let effect = with_age (submit_row sc c) (length w.steps) in
    let same : c.txn ≡ txn = own_txn sc w txn part c sound up.found up.up in
    coordinator_acts_epochs sc w txn part (what.Submitted txn ∷ []) (Some effect.state) effect.reaction.append effect.reaction.letters h up.found
    (subst (λ (t : TxnId). CoordinatorEpochs sc E A t (Some effect.state) effect.reaction.letters) same
    (submit_row_keeps sc E A c (length w.steps) (coordinator_keeps sc w txn part c h up same) new))

-- a timer sends requests again, and its coordinator stays as it was
timed_epochs : (sc : Scenario) (w : State) → IsSound sc w → Epochs sc w → (txn : TxnId) (part : Part Coordinator) (c : Coordinator) → IsCoordinatorUp w txn part c
    → StepEpochs sc w (record { actors = w.actors; happened = []; letters = repeats sc c c.phase })
timed_epochs sc w sound h txn part c up =
    let E = epoch_at w.actors.servers in
    let A = asked_in w.mails in
    let letters = repeats sc c c.phase in
    let same : c.txn ≡ txn = own_txn sc w txn part c sound up.found up.up in
    let act : StepEpochs sc w (coordinator_move w.actors txn (acts coordinator_fact [] part.log part.up part.log letters)) =
    coordinator_acts_epochs sc w txn part [] part.up None letters h up.found
    (subst (λ (u : Option Coordinator). CoordinatorEpochs sc E A txn u letters) (sym up.up)
    (subst (λ (t : TxnId). CoordinatorEpochs sc E A t (Some c) letters) same (timer_keeps sc E A c (coordinator_keeps sc w txn part c h up same)))) in
    record {
      actors_are = subst (λ (coordinators : List (Part Coordinator)). AreEpochs sc (asked_then A letters) (record w.actors { coordinators = coordinators }) w.mails)
          (set_same w.actors.coordinators txn.0 part up.found) act.actors_are;
      sent = act.sent;
    }

tells_plain_in_epochs : (authority : Authority) (said : Body) → Each IsPlainLetter (office.on_body authority said).reaction.letters
tells_plain_in_epochs authority (body.Ask ask) = (tt, tt)
tells_plain_in_epochs authority _ = tt

newest_plain_in_epochs : (held : Master) (said : Body) → Each IsPlainLetter (master.on_body held said).reaction.letters
newest_plain_in_epochs held (body.Probe probe) = (tt, tt)
newest_plain_in_epochs held _ = tt

-- the offices alone act
offices_epochs : (sc : Scenario) (w : State) (authority : Authority) (held : Master) (happened : List What) → Epochs sc w
    → StepEpochs sc w (record { actors = record w.actors { authority = authority; master = held }; happened = happened; letters = [] })
offices_epochs sc w authority held happened h =
    same_asked sc w (record { actors = record w.actors { authority = authority; master = held }; happened = happened; letters = [] }) tt
    (record {
      actors_are = record { servers = h.servers; coordinators = h.coordinators; named = h.named; first = h.first; told = h.told };
      sent = plain_letters sc (asked_in w.mails) (epoch_at w.actors.servers) [] tt;
    })

-- ---- steps

epochs_cases : (sc : Scenario) (w : State) → HaveHomes sc → WaitRightly sc w → IsSound sc w → Agrees sc w → Epochs sc w → Cases sc w (λ taken move. StepEpochs sc w move)
epochs_cases sc w homes rightly sound a h =
    record {
      idle = λ taken happened e. unmoved_epochs sc w happened [] h tt;
      server_received = λ n mail at part s sent up. receipt_by_server_in_epochs sc w rightly sound h n mail at part s sent up;
      coordinator_received = λ n mail txn part c sent up. receipt_by_coordinator_in_epochs sc w homes sound a h n mail txn part c sent up;
      authority_told = λ n mail sent. unmoved_epochs sc w [] (office.authority_row w.actors.authority mail).reaction.letters h (tells_plain_in_epochs w.actors.authority mail.letter.body);
      master_told = λ n mail sent. unmoved_epochs sc w [] (master.master_row w.actors.master mail).reaction.letters h (newest_plain_in_epochs w.actors.master mail.letter.body);
      published = λ admin exists more. offices_epochs sc w w.actors.authority (master.after_publication admin w.actors.master) (what.Published admin (master.next_of w.actors.master admin) ∷ []) h;
      pushed = λ admin server exists there. unmoved_epochs sc w [] (master.pushes w.actors.master admin server).reaction.letters h (tt, tt);
      ticked = λ by. offices_epochs sc w (office.after_tick by w.actors.authority) w.actors.master (what.Ticked by ∷ []) h;
      revoked = λ cred exists. offices_epochs sc w (office.after_revocation cred w.actors.authority) w.actors.master (what.Revoked cred ∷ []) h;
      begun = λ txn part c exists up new. begun_epochs sc w sound h txn part c up new;
      timed = λ txn part c exists up begun. timed_epochs sc w sound h txn part c up;
    }

-- a step that is not refused keeps what is said of epochs
pub epochs_next : (sc : Scenario) (m : Machine) (taken : Step) → HaveHomes sc → IsStepOf sc taken → KeepsUp taken → refusal m.state taken ≡ None → WaitRightly sc m.state → IsSound sc m.state → Agrees sc m.state → Epochs sc m.state → Epochs sc (machine_after sc m taken).state
epochs_next sc m taken homes exists stays allowed rightly sound a h =
    machine_after_by sc m (λ taken move. StepEpochs sc m.state move) (Epochs sc) (epochs_cases sc m.state homes rightly sound a h) a.coordinator_count
    (λ taken move t. state_after_epochs sc m.state taken move t) taken exists stays allowed

-- ---- before the first step

pub made_from_zero : {X : Type 0} (P : ℕ → X → Type 0) (f : ℕ → X) (count : ℕ) → ((n : ℕ) → P n (f n)) → EachAt P (map f (range_with_len 0 count))
made_from_zero P f count h n x e =
    let same : 0 + n ≡ n = omega arith in
    subst (λ (m : ℕ). P m x) same (at_made P f 0 count (λ k within. h k) n x e)

-- every server is in its first epoch, and nobody has named one
pub epochs_opening : (sc : Scenario) → Epochs sc (opening_state sc)
epochs_opening sc =
    let E = epoch_at (opening_state sc).actors.servers in
    record {
      servers = made_from_zero (λ (k : ℕ) (found : Part Server). ServerPartMade sc (asked_in []) (server_number k) found) (λ (k : ℕ). opened_part (server_opened.opening sc (record { 0 = k }))) (length sc.servers)
          (λ k. record {
            state = record { epoch_is = refl; entries = placed_none (λ (m : ℕ) (entry : Entry). EntryMade sc (asked_in []) (server_number k) 1 entry) (length sc.txns) };
            prepared = λ txn p f. absurd (cc);
          });
      coordinators = made_from_zero (λ (k : ℕ) (found : Part Coordinator). CoordinatorPartKeeps sc E (asked_in [] (txn_number k)) found) (λ (k : ℕ). opened_part (coord_opened.idle sc (record { 0 = k }))) (length sc.txns)
          (λ k. record {
            places = length-replicate {A = Option ℕ} (length sc.servers) None;
            past = placed_none (λ (m : ℕ) (epoch : ℕ). epoch ≤ E m) (length sc.servers);
            undecided = λ unsure. record { asked = λ at epoch f. absurd (cc); ran = λ at. ap is_some (unset_at {A = ℕ} (length sc.servers) at.0); round = tt };
          });
      named = tt;
      first = tt;
      told = tt;
    }

-- ---- for agreement

-- a request to prepare names the epoch of what is prepared at the server that it goes to
pub prepares_named : (sc : Scenario) (w : State) → Epochs sc w → PreparesNamed w
prepares_named sc w h n mail at p v sent to said prepared = by_part (slice_get w.actors.servers at.0) refl prepared
  where
    named : asked_in w.mails p.txn at ≡ Some p.epoch
    named =
        let letter : LetterNamed (asked_in w.mails) mail.letter = each_get (λ (m : Mail). LetterNamed (asked_in w.mails) m.letter) w.mails n mail h.named sent in
        let told : IfSome (naming_of (body.Prepare p)) (IsAsked (asked_in w.mails) mail.letter.to) = subst (λ (b : Body). IfSome (naming_of b) (IsAsked (asked_in w.mails) mail.letter.to)) said letter in
        subst (λ (a : Actor). IsAsked (asked_in w.mails) a (naming p.txn p.epoch)) to told

    by_part : (part : Option (Part Server)) → slice_get w.actors.servers at.0 ≡ part → option_and_then (prepared_by p.txn) part ≡ Some v → v.epoch ≡ p.epoch
    by_part None e f = absurd (cc)
    by_part (Some part) e f = same_Some v.epoch p.epoch (sym ((h.servers at.0 part e).prepared p.txn v f).asked ∙ named)
