-- Epochs, what a coordinator keeps: of each server at which a query of its transaction ran, one that has not decided keeps an epoch, and
-- all that was asked of a server is what it keeps. And its row on the answer to a query, which is where it learns an epoch.
use Rattle.std.specs.List.{list_any}
use Rattle.std.proofs.Common.{Bool, IfSome, List, None, Option, Some, [], ap, arith, false, if◌then◌else◌, is_none, is_some, length, not, option_and_then, option_map, refl, slice_get, slice_set, subst, suc, sym, take, true, zero, ℕ, ℤ, ◌+◌, ◌<◌, ◌==◌, ◌||◌, ◌∙◌, ◌∷◌, ◌≡◌, ◌≤◌}
use Rattle.std.proofs.lemmas.Bool.{eqb-true, not-true}
use Rattle.std.proofs.lemmas.List.{length-set}
use Rattle.std.proofs.lemmas.Option.{same_Some, slice_get_past, slice_get_within}
use Rattle.tp_types.specs.Effect.{Effect, ignores}
use Rattle.std.specs.Option.{option_flatten}
use Rattle.tp_model.specs.Levels.{reads_master}
use Rattle.tp_model.specs.Agreement.{has_item_at}
use Rattle.tp_model.specs.Queries.{is_at_server, query_at}
use Rattle.tp_model.specs.Words.actor
use Rattle.tp_model.specs.Words.body
use Rattle.tp_model.specs.Words.{Actor, DoneReply, Letter, Mail, Query, Scenario, ServerId, Staple, Transaction, TxnId, Verdict}
use Rattle.tp_runs.proofs.agreement.Coordinator.{servers_at_have_items}
use Rattle.tp_runs.proofs.basics.Homes.{HaveHomes, begun_after, is_beginning, is_ending, is_past, move_is}
use Rattle.tp_runs.proofs.basics.Ids.{server_number}
use Rattle.tp_types.proofs.EachLemmas.{each_as, missing, placed_set}
use Rattle.tp_runs.proofs.basics.Logs.{get_set}
use Rattle.tp_runs.proofs.basics.Phases.{awaits_is, has_run_at, is_first_at, is_undecided, next_ran, queries_of, sent_to_server}
use Rattle.tp_runs.proofs.basics.Rounds.{EachServer}
use Rattle.tp_runs.proofs.deeds.Runs.{query_after}
use Rattle.tp_runs.proofs.epochs.Asked.{Asking, IsKeptNaming, NamesKept, NamesOwn, asked_then, kept_are_asked, kept_are_own, naming, none_then, then_kept}
use Rattle.tp_runs.proofs.epochs.Server.{BodyTold, DoneMade, IsPlainLetter, LetterFirst, LetterTold, LettersEpochs, has_restarted, plain_letters, plain_names_none, plain_names_own}
use Rattle.tp_coord.proofs.Rows.{IsRanAnswer}
use Rattle.tp_types.specs.Each.{Each, EachPlaced}
use Rattle.tp_runs.specs.Sound.{query_in}
use Rattle.tp_machine.specs.Named.{IsActor}
use Rattle.tp_coord.specs.Opened.{servers_at}
use Rattle.tp_coord.specs.Row as coord
use Rattle.tp_coord.specs.State.{Coordinator}
use Rattle.tp_coord.specs.declared.coordinator.Phase.TheVariants as phase
use Rattle.tp_coord.specs.declared.coordinator.Phase.{Phase}
use Rattle.tp_scheme.proofs.MoveLemmas.{rounds_at_commit, votes_incremental}
use Rattle.tp_scheme.specs.declared.moves.Move.TheVariants as move
use Rattle.tp_scheme.specs.declared.moves.Move.{Move}
use Rattle.tp_scheme.specs.declared.moves.Point.TheVariants as point
use Rattle.tp_scheme.specs.declared.moves.Point.{Point}

-- ---- what is kept

-- the epoch that the coordinator keeps of a server
abbrev pub kept_epoch : Coordinator → ServerId → Option ℕ
kept_epoch c at = option_flatten (slice_get c.epochs at.0)

abbrev pub KeepsEpoch : Coordinator → ServerId → Type 0
KeepsEpoch c at = is_some (kept_epoch c at) ≡ true

-- an epoch is kept of each server of a round
abbrev pub PhaseKept : (ServerId → Type 0) → Phase → Type 0
PhaseKept K (phase.Asking over round) = EachServer K round.targets
PhaseKept K (phase.Checking over round staple) = EachServer K round.targets
PhaseKept K (phase.Reading over round) = EachServer K round.targets
PhaseKept K (phase.Voting awaited) = Each K awaited
PhaseKept K _ = Unit {0}

-- before the decision: what was asked is kept, and an epoch is kept of a server exactly where a query ran
pub record KeepsAsked (sc : Scenario) (A : ServerId → Option ℕ) (c : Coordinator) : Type 0 where
  pub asked : (at : ServerId) (epoch : ℕ) → A at ≡ Some epoch → kept_epoch c at ≡ Some epoch
  pub ran : (at : ServerId) → is_some (kept_epoch c at) ≡ has_run_at sc c.txn c.phase at
  pub round : PhaseKept (KeepsEpoch c) c.phase

-- there is a place for each server, what is kept is an epoch that the server had, and it is what was asked until the decision
pub record CoordinatorKeeps (sc : Scenario) (E : ℕ → ℕ) (A : ServerId → Option ℕ) (c : Coordinator) : Type 0 where
  pub places : length c.epochs ≡ length sc.servers
  pub past : EachPlaced (λ (n : ℕ) (epoch : ℕ). epoch ≤ E n) c.epochs
  pub undecided : is_undecided c.phase ≡ true → KeepsAsked sc A c

-- an act of a coordinator: what it keeps after it, if it is up, and its letters, which name what is asked then
pub record CoordinatorEpochs (sc : Scenario) (E : ℕ → ℕ) (A : Asking) (txn : TxnId) (now : Option Coordinator) (letters : List Letter) : Type 0 where
  pub keeps : IfSome now (CoordinatorKeeps sc E (asked_then A letters txn))
  pub own : Each (NamesOwn txn) letters
  pub sent : LettersEpochs sc (asked_then A letters) E letters

-- that of a row
abbrev pub RowKeeps : Scenario → (ℕ → ℕ) → Asking → Coordinator → Effect Coordinator → Type 0
RowKeeps sc E A c effect = CoordinatorEpochs sc E A c.txn (Some effect.state) effect.reaction.letters

-- one whose letters name no epoch and tell none
pub plain_keeps : (sc : Scenario) (E : ℕ → ℕ) (A : Asking) (txn : TxnId) (now : Option Coordinator) (letters : List Letter) → IfSome now (CoordinatorKeeps sc E (A txn)) → Each IsPlainLetter letters
    → CoordinatorEpochs sc E A txn now letters
plain_keeps sc E A txn now letters h plain =
    record {
      keeps = subst (λ (B : Asking). IfSome now (CoordinatorKeeps sc E (B txn))) (sym (none_then A letters (plain_names_none letters plain))) h;
      own = plain_names_own txn letters plain;
      sent = plain_letters sc (asked_then A letters) E letters plain;
    }

pub ignores_keeps : (sc : Scenario) (E : ℕ → ℕ) (A : Asking) (c : Coordinator) → CoordinatorKeeps sc E (A c.txn) c → RowKeeps sc E A c (ignores c)
ignores_keeps sc E A c h = plain_keeps sc E A c.txn (Some c) [] h tt

-- ---- queries that are left

-- where the rounds at commit begin, or the votes, no query has this number
ends_past : (sc : Scenario) (declared : Transaction) (number : ℕ) (wanted : Move) → is_ending wanted ≡ true → coord.move_of sc (point.Begun number) declared ≡ wanted → coord.query_count declared < number
ends_past sc declared number move.CommitRounds ends e =
    let law = rounds_at_commit declared.scheme (reads_master sc declared) (coord.query_count declared) (point.Begun number) e in
    subst (λ (n : ℕ). coord.query_count declared < n) (cc) law.1.2
ends_past sc declared number move.Votes ends e =
    let law = votes_incremental declared.scheme (reads_master sc declared) (coord.query_count declared) (point.Begun number) e in
    subst (λ (n : ℕ). coord.query_count declared < n) (cc) law.1.2
ends_past sc declared number _ ends e = absurd (cc)

-- where one of them comes at a point that is passed, no query is past that of the point
pub none_left : (sc : Scenario) (c : Coordinator) (at : Point) (wanted : Move) (declared : Transaction) → HaveHomes sc → is_past at ≡ true → is_beginning wanted ≡ true → is_ending wanted ≡ true → slice_get sc.txns c.txn.0 ≡ Some declared
    → coord.move_after sc c at ≡ wanted → length declared.queries ≤ coord.number_at at
none_left sc c at wanted declared homes passed begins ends found moves =
    let few : length declared.queries ≤ 16 = homes.few c.txn.0 declared found in
    let begun : coord.move_of sc (point.Begun (coord.next_at at)) declared ≡ wanted = move_is sc c declared (point.Begun (coord.next_at at)) wanted found (begun_after sc c at wanted passed begins moves) in
    let past : coord.query_count declared < coord.next_at at = ends_past sc declared (coord.next_at at) wanted ends begun in
    let next : coord.next_at at ≤ coord.number_at at + 1 = omega arith in
    omega (arith, few, past, next)

-- so there is none of the number after it
pub none_after : (sc : Scenario) (c : Coordinator) (at : Point) (wanted : Move) → HaveHomes sc → is_past at ≡ true → is_beginning wanted ≡ true → is_ending wanted ≡ true → coord.move_after sc c at ≡ wanted
    → query_in sc c.txn (coord.number_at at + 1) ≡ None
none_after sc c at wanted homes passed begins ends moves = by_txn (slice_get sc.txns c.txn.0) refl
  where
    by_txn : (found : Option Transaction) → slice_get sc.txns c.txn.0 ≡ found → option_and_then (λ (declared : Transaction). query_at declared (coord.number_at at + 1)) found ≡ None
    by_txn None e = refl
    by_txn (Some declared) e = query_after declared (coord.number_at at) ∙ slice_get_past declared.queries (coord.number_at at) (none_left sc c at wanted declared homes passed begins ends e moves)

-- a query of the next number has the number after
pub next_there : (sc : Scenario) (c : Coordinator) (number : ℕ) → HaveHomes sc → is_some (coord.own_query sc c (coord.next_number number)) ≡ true → coord.next_number number ≡ number + 1
next_there sc c number homes some = by_txn (slice_get sc.txns c.txn.0) refl some
  where
    by_query : (declared : Transaction) (n : ℕ) (asked : Option Query) → slice_get declared.queries n ≡ asked → is_some asked ≡ true → suc n ≤ length declared.queries
    by_query declared n None e there = absurd (cc)
    by_query declared n (Some asked) e there = let within = slice_get_within declared.queries n asked e in omega (arith, within)

    within : (declared : Transaction) (n : ℕ) → is_some (query_at declared n) ≡ true → n ≤ length declared.queries
    within declared zero there = omega arith
    within declared (suc n) there = by_query declared n (slice_get declared.queries n) refl there

    by_txn : (found : Option Transaction) → slice_get sc.txns c.txn.0 ≡ found → is_some (option_and_then (λ (declared : Transaction). query_at declared (coord.next_number number)) found) ≡ true → coord.next_number number ≡ number + 1
    by_txn None e there = absurd (cc)
    by_txn (Some declared) e there =
        let few : length declared.queries ≤ 16 = homes.few c.txn.0 declared e in
        let up : coord.next_number number ≤ length declared.queries = within declared (coord.next_number number) there in
        let low : coord.next_number number ≤ 16 = omega (arith, few, up) in
        omega (arith, low)

-- ---- Done

pub from_server : (from : Actor) (at : ServerId) → coord.is_from from at ≡ true → from ≡ actor.Server at
from_server (actor.Server other) at e = ap (λ (n : ℕ). actor.Server (server_number n)) (eqb-true other.0 at.0 e)
from_server (actor.Coordinator txn) at e = absurd (cc)
from_server actor.Master at e = absurd (cc)
from_server actor.Authority at e = absurd (cc)

flat_chosen : (b : Bool) (epoch : ℕ) (other : Option (Option ℕ)) → option_flatten (if b then Some (Some epoch) else other) ≡ (if b then Some epoch else option_flatten other)
flat_chosen true epoch other = refl
flat_chosen false epoch other = refl

-- the epoch of one server is kept anew
pub kept_set : (epochs : List (Option ℕ)) (n m epoch : ℕ) → n < length epochs → option_flatten (slice_get (slice_set epochs n (Some epoch)) m) ≡ (if n == m then Some epoch else option_flatten (slice_get epochs m))
kept_set epochs n m epoch within = by_found (slice_get epochs n) refl
  where
    by_found : (found : Option (Option ℕ)) → slice_get epochs n ≡ found → option_flatten (slice_get (slice_set epochs n (Some epoch)) m) ≡ (if n == m then Some epoch else option_flatten (slice_get epochs m))
    by_found None e = absurd (missing epochs n within e)
    by_found (Some old) e = ap option_flatten (get_set epochs n m old (Some epoch) e) ∙ flat_chosen (n == m) epoch (slice_get epochs m)

some_chosen : (b : Bool) (epoch : ℕ) (other : Option ℕ) → is_some (if b then Some epoch else other) ≡ (is_some other || b)
some_chosen true epoch None = refl
some_chosen true epoch (Some n) = refl
some_chosen false epoch None = refl
some_chosen false epoch (Some n) = refl

asked_chosen : (b : Bool) (epoch n : ℕ) (kept : Option ℕ) → (b ≡ true → epoch ≡ n) → kept ≡ Some n → (if b then Some epoch else kept) ≡ Some n
asked_chosen true epoch n kept same e = ap (λ (k : ℕ). Some k) (same refl)
asked_chosen false epoch n kept same e = e

-- the reply to the query that is awaited, from its server
pub record IsAnswer (sc : Scenario) (E : ℕ → ℕ) (A : Asking) (c : Coordinator) (done : DoneReply) (asked : Query) (at : ServerId) : Type 0 where
  pub staple : Option Staple
  pub awaits : c.phase ≡ phase.Querying done.query staple
  pub asked_is : query_in sc c.txn done.query ≡ Some asked
  pub at_is : coord.server_of sc asked ≡ Some at
  pub exists : at.0 < length sc.servers
  pub ran : has_restarted done.answer ≡ false
  pub told : DoneMade sc A at (E at.0) done
  pub own : done.txn ≡ c.txn

-- what was asked of the server, if anything, is the epoch that the answer tells
told_is_asked : (sc : Scenario) (E : ℕ → ℕ) (A : Asking) (c : Coordinator) (done : DoneReply) (asked : Query) (at : ServerId) (epoch : ℕ) (first : Bool) → is_first_at sc at c.txn done.query ≡ first
    → IsAnswer sc E A c done asked at → KeepsAsked sc (A c.txn) c → A c.txn at ≡ Some epoch → done.epoch ≡ epoch
told_is_asked sc E A c done asked at epoch true first m k e =
    let none : has_run_at sc c.txn (phase.Querying done.query None) at ≡ false = not-true (has_run_at sc c.txn (phase.Querying done.query None) at) first in
    let kept : is_some (kept_epoch c at) ≡ true = ap is_some (k.asked at epoch e) in
    let ran : is_some (kept_epoch c at) ≡ false = k.ran at ∙ (ap (λ (p : Phase). has_run_at sc c.txn p at) m.awaits ∙ none) in
    absurd (cc)
told_is_asked sc E A c done asked at epoch false later m k e =
    let told : A c.txn at ≡ Some done.epoch = subst (λ (t : TxnId). A t at ≡ Some done.epoch) m.own
    (m.told.asked m.ran (subst (λ (t : TxnId). is_first_at sc at t done.query ≡ false) (sym m.own) later)) in
    same_Some done.epoch epoch (sym told ∙ e)

-- what holds of each server with an item of the transaction holds of all of its servers
pub each_server : (sc : Scenario) (c : Coordinator) (K : ServerId → Type 0) → c.servers ≡ servers_at sc c.txn → ((at : ServerId) → has_item_at sc at c.txn ≡ true → K at) → Each K c.servers
each_server sc c K e h =
    subst (λ (servers : List ServerId). Each K servers) (sym e)
    (each_as (λ (at : ServerId). has_item_at sc at c.txn ≡ true) K (λ at item. h at item) (servers_at sc c.txn) (servers_at_have_items sc c.txn))

-- a coordinator that keeps an epoch of each server at which one of the queries up to this one ran
pub record DeedKept (sc : Scenario) (E : ℕ → ℕ) (A : Asking) (c : Coordinator) (number : ℕ) (next : Coordinator) : Type 0 where
  pub places : length next.epochs ≡ length sc.servers
  pub past : EachPlaced (λ (n : ℕ) (epoch : ℕ). epoch ≤ E n) next.epochs
  pub asked : (s : ServerId) (epoch : ℕ) → A c.txn s ≡ Some epoch → kept_epoch next s ≡ Some epoch
  pub ran : (s : ServerId) → is_some (kept_epoch next s) ≡ list_any (is_at_server sc s.0) (take number (queries_of sc c.txn))

-- so it does once the answer's epoch is kept
pub deed_keeps : (sc : Scenario) (E : ℕ → ℕ) (A : Asking) (c : Coordinator) (done : DoneReply) (asked : Query) (at : ServerId) (value : ℤ) → CoordinatorKeeps sc E (A c.txn) c
    → IsAnswer sc E A c done asked at → DeedKept sc E A c done.query (coord.with_deed c at done asked value)
deed_keeps sc E A c done asked at value h m =
    let k : KeepsAsked sc (A c.txn) c = h.undecided (ap is_undecided m.awaits) in
    let next = coord.with_deed c at done asked value in
    let within : at.0 < length c.epochs = omega (arith, h.places, m.exists) in
    let now : (s : ServerId) → kept_epoch next s ≡ (if at.0 == s.0 then Some done.epoch else kept_epoch c s) = λ s. kept_set c.epochs at.0 s.0 done.epoch within in
    record {
      places = length-set c.epochs at.0 (Some done.epoch) ∙ h.places;
      past = placed_set (λ (n : ℕ) (epoch : ℕ). epoch ≤ E n) c.epochs at.0 done.epoch h.past m.told.past;
      asked = λ s epoch e. now s
          ∙ asked_chosen (at.0 == s.0) done.epoch epoch (kept_epoch c s)
          (λ same. told_is_asked sc E A c done asked at epoch (is_first_at sc at c.txn done.query) refl m k
          (subst (λ (t : ServerId). A c.txn t ≡ Some epoch) (ap server_number (sym (eqb-true at.0 s.0 same))) e))
          (k.asked s epoch e);
      ran = λ s. ap is_some (now s)
          ∙ (some_chosen (at.0 == s.0) done.epoch (kept_epoch c s)
          ∙ (ap (λ (b : Bool). b || (at.0 == s.0)) (k.ran s ∙ ap (λ (p : Phase). has_run_at sc c.txn p s) m.awaits)
          ∙ (ap (λ (b : Bool). has_run_at sc c.txn (phase.Querying done.query None) s || b) (sym (sent_to_server sc asked at s.0 m.at_is))
          ∙ sym (next_ran sc c.txn done.query asked (is_at_server sc s.0) m.asked_is))));
    }

-- ---- Query

names_told : (c : Coordinator) (at : ServerId) (told : Option ℕ) → kept_epoch c at ≡ told → IfSome (option_map (naming c.txn) told) (IsKeptNaming c.txn (kept_epoch c) (actor.Server at))
names_told c at None e = tt
names_told c at (Some epoch) e = (refl, e)

none_or_some : (told : Option ℕ) (b : Bool) → is_some told ≡ b → is_none told ≡ not b
none_or_some None b e = ap not e
none_or_some (Some epoch) b e = ap not e

-- a coordinator goes on to a phase with requests that name what is kept
pub requests_keep : (sc : Scenario) (E : ℕ → ℕ) (A : Asking) (c : Coordinator) (turn : ℕ) (next : Phase) (letters : List Letter) → length c.epochs ≡ length sc.servers → EachPlaced (λ (n : ℕ) (epoch : ℕ). epoch ≤ E n) c.epochs
    → ((s : ServerId) (epoch : ℕ) → A c.txn s ≡ Some epoch → kept_epoch c s ≡ Some epoch) → ((s : ServerId) → is_some (kept_epoch c s) ≡ has_run_at sc c.txn next s) → PhaseKept (KeepsEpoch c) next → Each (NamesKept c.txn (kept_epoch c)) letters
    → Each (LetterFirst sc) letters → Each (LetterTold sc (asked_then A letters) E) letters → CoordinatorEpochs sc E A c.txn (Some (record c { turn = turn; phase = next })) letters
requests_keep sc E A c turn next letters places past asked ran round names first told =
    record {
      keeps = record {
        places = places;
        past = past;
        undecided = λ unsure. record { asked = λ s epoch. then_kept A c.txn s (kept_epoch c) letters (asked s) names epoch; ran = ran; round = round };
      };
      own = kept_are_own c.txn (kept_epoch c) letters names;
      sent = record { named = kept_are_asked A c.txn (kept_epoch c) letters asked names; first = first; told = told };
    }

-- a query is asked, of the epoch that is kept of its server
pub query_keeps : (sc : Scenario) (E : ℕ → ℕ) (A : Asking) (c : Coordinator) (number : ℕ) (staple : Option Staple) (at : ServerId) → length c.epochs ≡ length sc.servers
    → EachPlaced (λ (n : ℕ) (epoch : ℕ). epoch ≤ E n) c.epochs → ((s : ServerId) (epoch : ℕ) → A c.txn s ≡ Some epoch → kept_epoch c s ≡ Some epoch) → ((s : ServerId) → is_some (kept_epoch c s) ≡ has_run_at sc c.txn (phase.Querying number staple) s)
    → RowKeeps sc E A c (coord.sends_query sc c number staple at)
query_keeps sc E A c number staple at places past asked ran =
    requests_keep sc E A c (coord.next_turn c) (phase.Querying number staple) (coord.sends_query sc c number staple at).reaction.letters places past asked ran tt (names_told c at (kept_epoch c at) refl, tt)
    (none_or_some (kept_epoch c at) (has_run_at sc c.txn (phase.Querying number staple) at) (ran at), tt) (tt, tt)

-- what a coordinator knows of the mail's sender and transaction
pub record IsDoneMail (sc : Scenario) (E : ℕ → ℕ) (A : Asking) (c : Coordinator) (from : Actor) (done : DoneReply) : Type 0 where
  pub from_is_actor : IsActor sc from
  pub told : BodyTold sc A E from (body.Done done)
  pub own : done.txn ≡ c.txn

pub is_answer : (sc : Scenario) (E : ℕ → ℕ) (A : Asking) (c : Coordinator) (mail : Mail) (done : DoneReply) (at : ServerId) (asked : Query) (value : ℤ) (proof : Option Verdict) → IsDoneMail sc E A c mail.letter.from done
    → IsRanAnswer sc c mail done at asked value proof → IsAnswer sc E A c done asked at
is_answer sc E A c mail done at asked value proof m k =
    let is : mail.letter.from ≡ actor.Server at = from_server mail.letter.from at k.from_is in
    let awaits = awaits_is c c.phase done k.awaited in
    record {
      staple = awaits.0;
      awaits = awaits.1;
      asked_is = k.asked_is;
      at_is = k.server_is;
      exists = subst (IsActor sc) is m.from_is_actor;
      ran = ap has_restarted k.answer_is;
      told = subst (λ (a : Actor). BodyTold sc A E a (body.Done done)) is m.told;
      own = m.own;
    }

-- ---- timers

-- letters that are sent again name what is kept, and their coordinator stays as it was
pub again_keeps : (sc : Scenario) (E : ℕ → ℕ) (A : Asking) (c : Coordinator) (letters : List Letter) → CoordinatorKeeps sc E (A c.txn) c → is_undecided c.phase ≡ true → Each (NamesKept c.txn (kept_epoch c)) letters
    → Each (LetterFirst sc) letters → Each (LetterTold sc (asked_then A letters) E) letters → CoordinatorEpochs sc E A c.txn (Some c) letters
again_keeps sc E A c letters h undecided names first told =
    let k : KeepsAsked sc (A c.txn) c = h.undecided undecided in
    record {
      keeps = record {
        places = h.places;
        past = h.past;
        undecided = λ unsure. record { asked = λ s epoch. then_kept A c.txn s (kept_epoch c) letters (k.asked s) names epoch; ran = k.ran; round = k.round };
      };
      own = kept_are_own c.txn (kept_epoch c) letters names;
      sent = record { named = kept_are_asked A c.txn (kept_epoch c) letters k.asked names; first = first; told = told };
    }

-- a query that is sent again
pub query_again_keeps : (sc : Scenario) (E : ℕ → ℕ) (A : Asking) (c : Coordinator) (number : ℕ) (staple : Option Staple) (at : ServerId) → CoordinatorKeeps sc E (A c.txn) c → c.phase ≡ phase.Querying number staple
    → CoordinatorEpochs sc E A c.txn (Some c) (coord.request c at (body.Query (coord.query_request sc c c.turn at number staple)) ∷ [])
query_again_keeps sc E A c number staple at h e =
    let undecided : is_undecided c.phase ≡ true = ap is_undecided e in
    let ran : is_some (kept_epoch c at) ≡ has_run_at sc c.txn (phase.Querying number staple) at = (h.undecided undecided).ran at ∙ ap (λ (p : Phase). has_run_at sc c.txn p at) e in
    again_keeps sc E A c (coord.request c at (body.Query (coord.query_request sc c c.turn at number staple)) ∷ []) h undecided (names_told c at (kept_epoch c at) refl, tt)
    (none_or_some (kept_epoch c at) (has_run_at sc c.txn (phase.Querying number staple) at) ran, tt) (tt, tt)
