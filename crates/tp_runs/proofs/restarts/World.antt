-- Restarts, the invariant and acts: every epoch that is kept or named is of after its transaction's submission, crashes
-- are counted, and a restart that was told, a coordinator that is down, and an abort for either has its crash among the
-- facts.
use Rattle.std.proofs.Common.{Bool, IfSome, List, None, Option, Some, [], ap, arith, drop, false, flat_map, is_none, length, refl, slice_get, subst, sym, true, ℕ, ◌++◌, ◌+◌, ◌==◌, ◌∙◌, ◌∷◌, ◌≡◌, ◌≤◌}
use Rattle.std.proofs.lemmas.List.{length_push}
use Rattle.tp_model.specs.Agreement.{has_item_at}
use Rattle.tp_model.specs.Causes.{crashed_within, is_coordinator_actor, is_server_actor}
use Rattle.tp_model.specs.Words.log
use Rattle.tp_model.specs.Words.{Actor, Fact, Letter, Mail, Record, Scenario, ServerId, Settled, Step, TxnId, What}
use Rattle.tp_recover.specs.Log.{settled_in, settlement_in}
use Rattle.tp_machine.specs.Machine.{Move, State, acts, coordinator_fact, coordinator_move, facts_of, mails_of, server_fact, server_move, state_after}
use Rattle.tp_actor_log.specs.Records.{log_with}
use Rattle.tp_machine.specs.Parts.{Part}
use Rattle.tp_machine.specs.declared.actors.Actors.{Actors}
use Rattle.tp_types.proofs.EachLemmas.{at_set, each_append, each_as}
use Rattle.tp_types.specs.Each.{Each, EachAt}
use Rattle.tp_coord.specs.State.{Coordinator}
use Rattle.tp_server.specs.State.{Server}
use Rattle.tp_runs.proofs.agreement.CoordinatorActs.{coordinator_facts}
use Rattle.tp_runs.proofs.agreement.Logs.{Settles, once, settles_is}
use Rattle.tp_runs.proofs.agreement.ServerActs.{each_server_fact, server_facts}
use Rattle.tp_runs.proofs.basics.Crashes.{noted, noted_more, shown_more}
use Rattle.tp_runs.proofs.basics.Facts.{each_new_fact, each_new_mail, facts_after, grows_with_facts}
use Rattle.tp_runs.proofs.basics.Ids.{server_number, txn_number}
use Rattle.tp_runs.proofs.basics.Logs.{Prepares, appended, gained, prepared_grown, settled_with}
use Rattle.tp_runs.proofs.epochs.Asked.{either_found}
use Rattle.tp_runs.proofs.epochs.World.{set_apart}
use Rattle.tp_runs.proofs.restarts.Counted.{IsCounted, IsSince, boots_by, counted_act, counted_stays, since_stays}
use Rattle.tp_runs.proofs.restarts.Since.{BodySince, DecidesSince, EntriesSince, KeptSince, LetterSince, MoreShown, MoreSince, PartSince, PreparedSince, RecordSince, SettledSince, WhatSince, body_widens, kept_widens, part_widens, what_widens}

-- ---- the invariant

-- the epoch of the server was begun after the transaction was submitted
abbrev pub SinceIn : List Step → List Fact → TxnId → ServerId → ℕ → Type 0
SinceIn steps facts txn at epoch = IsSince steps facts txn (is_server_actor at) epoch

-- a crash of the server is shown, between the transaction's submission and a place
abbrev pub ShownIn : List Fact → ℕ → TxnId → ServerId → Type 0
ShownIn facts place txn at = crashed_within (is_server_actor at) txn place facts ≡ true

-- and one of the transaction's coordinator
abbrev pub IsHalted : List Fact → ℕ → TxnId → Type 0
IsHalted facts place txn = crashed_within (is_coordinator_actor txn) txn place facts ≡ true

-- what a mail says was so when it was sent
abbrev pub MailSince : List Step → List Fact → Mail → Type 0
MailSince steps facts mail = BodySince (SinceIn steps facts) (ShownIn facts mail.sent) mail.letter.from mail.letter.to mail.letter.body

abbrev pub ServersSince : List Step → List Fact → ℕ → List (Part Server) → Type 0
ServersSince steps facts place servers = EachAt (λ (n : ℕ) (part : Part Server). PartSince (SinceIn steps facts) (ShownIn facts place) (server_number n) part) servers

abbrev pub ServersCounted : List Fact → List (Part Server) → Type 0
ServersCounted facts servers = EachAt (λ (n : ℕ) (part : Part Server). IsCounted (is_server_actor (server_number n)) facts part) servers

abbrev pub CoordinatorsSince : List Step → List Fact → List (Part Coordinator) → Type 0
CoordinatorsSince steps facts coordinators = EachAt (λ (n : ℕ) (part : Part Coordinator). IfSome part.up (KeptSince (SinceIn steps facts) (txn_number n))) coordinators

-- a coordinator that is down has crashed since its submission
abbrev pub CoordinatorsHalted : List Fact → ℕ → List (Part Coordinator) → Type 0
CoordinatorsHalted facts place coordinators = EachAt (λ (n : ℕ) (part : Part Coordinator). part.up ≡ None → IsHalted facts place (txn_number n)) coordinators

-- work of a transaction was lost at a server with an item of it, which is shown to have crashed
pub record WasLostAt (sc : Scenario) (facts : List Fact) (place : ℕ) (txn : TxnId) (at : ServerId) : Type 0 where
  pub item : has_item_at sc at txn ≡ true
  pub crashed : ShownIn facts place txn at

-- what happened at a place: an abort for a restart or a halt has its crash before it
abbrev pub ToldSince : Scenario → List Fact → ℕ → What → Type 0
ToldSince sc facts place w = WhatSince (WasLostAt sc facts place) (IsHalted facts place) w

abbrev pub FactSince : Scenario → List Fact → Fact → Type 0
FactSince sc facts fact = ToldSince sc facts fact.place fact.what

pub record Restarts (sc : Scenario) (w : State) : Type 0 where
  pub servers : ServersSince w.steps w.facts (length w.steps) w.actors.servers
  pub counted : ServersCounted w.facts w.actors.servers
  pub coordinators : CoordinatorsSince w.steps w.facts w.actors.coordinators
  pub down : CoordinatorsHalted w.facts (length w.steps) w.actors.coordinators
  pub mails : Each (MailSince w.steps w.facts) w.mails
  pub facts : Each (FactSince sc w.facts) w.facts

-- ---- a move

-- what is said of epochs is as it was before the step, which notes crashes alone
pub record MoveSince (sc : Scenario) (w : State) (move : Move) : Type 0 where
  pub servers : ServersSince w.steps w.facts (length w.steps) move.actors.servers
  pub counted : ServersCounted (facts_after w move.happened) move.actors.servers
  pub coordinators : CoordinatorsSince w.steps w.facts move.actors.coordinators
  pub down : CoordinatorsHalted (facts_after w move.happened) (length w.steps + 1) move.actors.coordinators
  pub letters : Each (LetterSince (SinceIn w.steps w.facts) (ShownIn w.facts (length w.steps))) move.letters
  pub facts : Each (ToldSince sc (facts_after w move.happened) (length w.steps)) move.happened

since_more : (w : State) (taken : Step) (happened : List What) → MoreSince (SinceIn w.steps w.facts) (SinceIn (w.steps ++ taken ∷ []) (facts_after w happened))
since_more w taken happened = λ txn at epoch h. since_stays w.steps (taken ∷ []) w.facts (facts_after w happened) txn (is_server_actor at) epoch (grows_with_facts w.facts (length w.steps) happened) h

crashes_more : (w : State) (happened : List What) (low high : ℕ) → low ≤ high → MoreShown (ShownIn w.facts low) (ShownIn (facts_after w happened) high)
crashes_more w happened low high le = λ txn at h. shown_more (is_server_actor at) txn low high w.facts (facts_of (length w.steps) happened) le h

-- what is shown at a place stays so as facts are added
told_stays : (sc : Scenario) (facts more : List Fact) (place : ℕ) (w : What) → ToldSince sc facts place w → ToldSince sc (facts ++ more) place w
told_stays sc facts more place w h =
    what_widens (WasLostAt sc facts place) (WasLostAt sc (facts ++ more) place) (IsHalted facts place) (IsHalted (facts ++ more) place) w
    (λ txn at k. record { item = k.item; crashed = shown_more (is_server_actor at) txn place place facts more (omega arith) k.crashed })
    (λ txn k. shown_more (is_coordinator_actor txn) txn place place facts more (omega arith) k) h

pub state_after_since : (sc : Scenario) (w : State) (taken : Step) (move : Move) → Restarts sc w → MoveSince sc w move → Restarts sc (state_after w taken move)
state_after_since sc w taken move h t =
    let place = length w.steps in
    let now = facts_after w move.happened in
    let next : length (w.steps ++ taken ∷ []) ≡ place + 1 = length_push w.steps taken in
    let S = SinceIn w.steps w.facts in
    let T = SinceIn (w.steps ++ taken ∷ []) now in
    let more : MoreSince S T = since_more w taken move.happened in
    record {
      servers = λ n part e. part_widens S T (ShownIn w.facts place) (ShownIn now (length (w.steps ++ taken ∷ []))) (server_number n) part more (crashes_more w move.happened place (length (w.steps ++ taken ∷ [])) (omega (arith, next))) (t.servers n part e);
      counted = t.counted;
      coordinators = λ n part e. kept_widens S T (txn_number n) part.up more (t.coordinators n part e);
      down = subst (λ (p : ℕ). CoordinatorsHalted now p move.actors.coordinators) (sym next) t.down;
      mails = each_append (MailSince (w.steps ++ taken ∷ []) now) w.mails (mails_of place (length w.mails) move.letters)
          (each_as (MailSince w.steps w.facts) (MailSince (w.steps ++ taken ∷ []) now)
          (λ mail k. body_widens S T (ShownIn w.facts mail.sent) (ShownIn now mail.sent) mail.letter.from mail.letter.to mail.letter.body more (crashes_more w move.happened mail.sent mail.sent (omega arith)) k) w.mails h.mails)
          (each_new_mail (λ (sent : ℕ) (letter : Letter). LetterSince T (ShownIn now sent) letter) place (length w.mails) move.letters
          (each_as (LetterSince S (ShownIn w.facts place)) (LetterSince T (ShownIn now place))
          (λ letter k. body_widens S T (ShownIn w.facts place) (ShownIn now place) letter.from letter.to letter.body more (crashes_more w move.happened place place (omega arith)) k) move.letters t.letters));
      facts = each_append (FactSince sc now) w.facts (facts_of place move.happened)
          (each_as (FactSince sc w.facts) (FactSince sc now) (λ fact k. told_stays sc w.facts (facts_of place move.happened) fact.place fact.what k) w.facts h.facts)
          (each_new_fact (ToldSince sc now) place move.happened t.facts);
    }

-- what a step says by itself tells of no abort, with any facts
abbrev pub SaysNoAbort : Scenario → ℕ → List What → Type 0
SaysNoAbort sc place own = (facts : List Fact) → Each (ToldSince sc facts place) own

-- ---- coordinators that do nothing

halted_stays : (w : State) (happened : List What) (n : ℕ) → IsHalted w.facts (length w.steps) (txn_number n) → IsHalted (facts_after w happened) (length w.steps + 1) (txn_number n)
halted_stays w happened n h = shown_more (is_coordinator_actor (txn_number n)) (txn_number n) (length w.steps) (length w.steps + 1) w.facts (facts_of (length w.steps) happened) (omega arith) h

-- ---- a server acts

none_noted_by_server : (who : Actor → Bool) (at : ServerId) (append : Option Record) → noted who (server_facts at append) ≡ 0
none_noted_by_server who at None = refl
none_noted_by_server who at (Some (log.Settled s)) = refl
none_noted_by_server who at (Some _) = refl

-- what an act of a server notes by itself is all that it notes of crashes
pub server_notes : (who : Actor → Bool) (at : ServerId) (own : List What) (kept : List Record) (append : Option Record)
    → noted who (own ++ flat_map (server_fact at) (drop (length kept) (log_with kept append))) ≡ noted who own
server_notes who at own kept append =
    let told : noted who (flat_map (server_fact at) (drop (length kept) (log_with kept append))) ≡ 0 = ap (noted who) (gained (server_fact at) kept append) ∙ none_noted_by_server who at append in
    omega (arith, told, noted_more who own (flat_map (server_fact at) (drop (length kept) (log_with kept append))))

prepares_since : (S : TxnId → ServerId → ℕ → Type 0) (R : TxnId → ServerId → Type 0) (at : ServerId) (append : Option Record) → IfSome append (RecordSince S R at) → IfSome append (Prepares (PreparedSince S at))
prepares_since S R at None h = tt
prepares_since S R at (Some (log.Prepared p)) h = h
prepares_since S R at (Some (log.Settled s)) h = tt
prepares_since S R at (Some log.Boot) h = tt
prepares_since S R at (Some (log.Told t)) h = tt
prepares_since S R at (Some (log.Decided d)) h = tt

settles_since : (S : TxnId → ServerId → ℕ → Type 0) (R : TxnId → ServerId → Type 0) (at : ServerId) (txn : TxnId) (append : Option Record) (s : Settled) → IfSome append (RecordSince S R at)
    → appended (settlement_in txn) append ≡ Some s → SettledSince R at txn s
settles_since S R at txn append s h e =
    let settles : Settles txn append s = settles_is txn append s e in
    subst (λ (t : TxnId). SettledSince R at t s) settles.txn_is (subst (λ (found : Option Record). IfSome found (RecordSince S R at)) settles.append_is h)

-- what an act of a server leaves and says of epochs, whether it was up before it or down, and is after it. It notes a
-- crash where it goes down, forces a boot where it comes up, and notes no crash of another server
pub record ServerActsSince (sc : Scenario) (w : State) (at : ServerId) (was now : Option Server) (own : List What) (append : Option Record) (letters : List Letter) : Type 0 where
  pub state : IfSome now (EntriesSince (SinceIn w.steps w.facts) (ShownIn w.facts (length w.steps)) at)
  pub forces : IfSome append (RecordSince (SinceIn w.steps w.facts) (ShownIn w.facts (length w.steps)) at)
  pub letters_are : Each (LetterSince (SinceIn w.steps w.facts) (ShownIn w.facts (length w.steps))) letters
  pub even : noted (is_server_actor at) own + once (is_none was) ≡ boots_by append + once (is_none now)
  pub others : (n : ℕ) → (at.0 == n) ≡ false → noted (is_server_actor (server_number n)) own ≡ 0
  pub own_says : SaysNoAbort sc (length w.steps) own

pub server_acts_since : (sc : Scenario) (w : State) (at : ServerId) (part : Part Server) (now : Option Server) (own : List What) (append : Option Record) (letters : List Letter) → Restarts sc w → slice_get w.actors.servers at.0 ≡ Some part
    → ServerActsSince sc w at part.up now own append letters → MoveSince sc w (server_move w.actors at (acts (server_fact at) own part.log now (log_with part.log append) letters))
server_acts_since sc w at part now own append letters h found t =
    let S = SinceIn w.steps w.facts in
    let R = ShownIn w.facts (length w.steps) in
    let next : Part Server = record { up = now; log = log_with part.log append } in
    let happened = own ++ flat_map (server_fact at) (drop (length part.log) (log_with part.log append)) in
    let was : PartSince S R at part = h.servers at.0 part found in
    let here = is_server_actor at in
    let notes : noted here happened ≡ noted here own = server_notes here at own part.log append in
    let even = t.even in
    let P = ToldSince sc (facts_after w happened) (length w.steps) in
    record {
      servers = at_set (λ (n : ℕ) (p : Part Server). PartSince S R (server_number n) p) w.actors.servers at.0 next h.servers
          (record {
            state = t.state;
            prepared = λ txn p e. prepared_grown (PreparedSince S at) part.log append txn p (was.prepared txn) (prepares_since S R at append t.forces) e;
            settled = λ txn s e. either_found (settled_in txn part.log) (appended (settlement_in txn) append) (SettledSince R at txn) (was.settled txn) (λ found_now f. settles_since S R at txn append found_now t.forces f) s
                (sym (settled_with txn part.log append) ∙ e);
          });
      counted = set_apart (λ (n : ℕ) (p : Part Server). IsCounted (is_server_actor (server_number n)) (facts_after w happened) p) w.actors.servers at.0 part next found
          (λ n p apart e. counted_stays (is_server_actor (server_number n)) w.facts (length w.steps) happened p (h.counted n p e)
          (server_notes (is_server_actor (server_number n)) at own part.log append ∙ t.others n apart))
          (counted_act here w.facts (length w.steps) happened part now append (h.counted at.0 part found) (omega (arith, notes, even)));
      coordinators = h.coordinators;
      down = λ n p e none. halted_stays w happened n (h.down n p e none);
      letters = t.letters_are;
      facts = each_append P own (flat_map (server_fact at) (drop (length part.log) (log_with part.log append))) (t.own_says (facts_after w happened))
          (subst (Each P) (sym (gained (server_fact at) part.log append)) (each_server_fact P at (λ txn ended. tt) append));
    }

-- ---- a coordinator acts

none_noted_by_coordinator : (who : Actor → Bool) (append : Option Record) → noted who (coordinator_facts append) ≡ 0
none_noted_by_coordinator who None = refl
none_noted_by_coordinator who (Some (log.Decided d)) = refl
none_noted_by_coordinator who (Some _) = refl

pub coordinator_notes : (who : Actor → Bool) (own : List What) (kept : List Record) (append : Option Record)
    → noted who (own ++ flat_map coordinator_fact (drop (length kept) (log_with kept append))) ≡ noted who own
coordinator_notes who own kept append =
    let told : noted who (flat_map coordinator_fact (drop (length kept) (log_with kept append))) ≡ 0 = ap (noted who) (gained coordinator_fact kept append) ∙ none_noted_by_coordinator who append in
    omega (arith, told, noted_more who own (flat_map coordinator_fact (drop (length kept) (log_with kept append))))

-- what an act of a coordinator leaves and says of epochs, whether it was up before it or down, and is after it. It
-- notes no crash of a server, where it is down after it, it has crashed, and the cause of what it aborts is shown
pub record CoordinatorActsSince (sc : Scenario) (w : State) (txn : TxnId) (kept : List Record) (now : Option Coordinator) (own : List What) (append : Option Record) (letters : List Letter) : Type 0 where
  pub state : IfSome now (KeptSince (SinceIn w.steps w.facts) txn)
  pub letters_are : Each (LetterSince (SinceIn w.steps w.facts) (ShownIn w.facts (length w.steps))) letters
  pub servers : (n : ℕ) → noted (is_server_actor (server_number n)) own ≡ 0
  pub down : now ≡ None → IsHalted (facts_after w (own ++ flat_map coordinator_fact (drop (length kept) (log_with kept append)))) (length w.steps + 1) txn
  pub own_says : SaysNoAbort sc (length w.steps) own
  pub forces : IfSome append (DecidesSince (WasLostAt sc w.facts (length w.steps)) (IsHalted w.facts (length w.steps)))

decided_since : (L : TxnId → ServerId → Type 0) (H : TxnId → Type 0) (append : Option Record) → IfSome append (DecidesSince L H) → Each (WhatSince L H) (coordinator_facts append)
decided_since L H None h = tt
decided_since L H (Some (log.Decided d)) h = (h, tt)
decided_since L H (Some log.Boot) h = tt
decided_since L H (Some (log.Told told)) h = tt
decided_since L H (Some (log.Prepared p)) h = tt
decided_since L H (Some (log.Settled s)) h = tt

pub coordinator_acts_since : (sc : Scenario) (w : State) (txn : TxnId) (kept : List Record) (now : Option Coordinator) (own : List What) (append : Option Record) (letters : List Letter) → Restarts sc w
    → CoordinatorActsSince sc w txn kept now own append letters → MoveSince sc w (coordinator_move w.actors txn (acts coordinator_fact own kept now (log_with kept append) letters))
coordinator_acts_since sc w txn kept now own append letters h t =
    let next : Part Coordinator = record { up = now; log = log_with kept append } in
    let happened = own ++ flat_map coordinator_fact (drop (length kept) (log_with kept append)) in
    let place = length w.steps in
    let P = ToldSince sc (facts_after w happened) place in
    record {
      servers = h.servers;
      counted = λ n p e. counted_stays (is_server_actor (server_number n)) w.facts (length w.steps) happened p (h.counted n p e)
          (coordinator_notes (is_server_actor (server_number n)) own kept append ∙ t.servers n);
      coordinators = at_set (λ (n : ℕ) (p : Part Coordinator). IfSome p.up (KeptSince (SinceIn w.steps w.facts) (txn_number n))) w.actors.coordinators txn.0 next h.coordinators t.state;
      down = at_set (λ (n : ℕ) (p : Part Coordinator). p.up ≡ None → IsHalted (facts_after w happened) (length w.steps + 1) (txn_number n)) w.actors.coordinators txn.0 next
          (λ n p e none. halted_stays w happened n (h.down n p e none)) t.down;
      letters = t.letters_are;
      facts = each_append P own (flat_map coordinator_fact (drop (length kept) (log_with kept append))) (t.own_says (facts_after w happened))
          (subst (Each P) (sym (gained coordinator_fact kept append))
          (each_as (ToldSince sc w.facts place) P (λ x k. told_stays sc w.facts (facts_of place happened) place x k) (coordinator_facts append)
          (decided_since (WasLostAt sc w.facts place) (IsHalted w.facts place) append t.forces)));
    }

-- ---- neither acts

-- where neither servers nor coordinators act, and no server's crash is noted
pub still_since : (sc : Scenario) (w : State) (actors : Actors) (happened : List What) (letters : List Letter) → Restarts sc w → actors.servers ≡ w.actors.servers → actors.coordinators ≡ w.actors.coordinators
    → ((n : ℕ) → noted (is_server_actor (server_number n)) happened ≡ 0) → SaysNoAbort sc (length w.steps) happened → Each (LetterSince (SinceIn w.steps w.facts) (ShownIn w.facts (length w.steps))) letters
    → MoveSince sc w (record { actors = actors; happened = happened; letters = letters })
still_since sc w actors happened letters h servers coordinators none told said =
    record {
      servers = subst (ServersSince w.steps w.facts (length w.steps)) (sym servers) h.servers;
      counted = subst (ServersCounted (facts_after w happened)) (sym servers) (λ n p e. counted_stays (is_server_actor (server_number n)) w.facts (length w.steps) happened p (h.counted n p e) (none n));
      coordinators = subst (CoordinatorsSince w.steps w.facts) (sym coordinators) h.coordinators;
      down = subst (CoordinatorsHalted (facts_after w happened) (length w.steps + 1)) (sym coordinators) (λ n p e down. halted_stays w happened n (h.down n p e down));
      letters = said;
      facts = told (facts_after w happened);
    }
