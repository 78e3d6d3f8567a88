-- Ages, the rows: a server keeps for a transaction the age that a request told, or the place at which the request was sent, and a
-- coordinator its own. A says which places are the submissions of which transactions.
use Rattle.std.proofs.Common.{IfSome, List, None, Option, Some, [], ap, is_some, map, refl, subst, sym, true, unwrap_or, ℕ, ℤ, ⊎_elim, ◌∷◌, ◌≡◌}
use Rattle.tp_types.specs.Effect.{Effect, ignores}
use Rattle.tp_model.specs.Words.body
use Rattle.tp_model.specs.Words.outcome
use Rattle.tp_model.specs.Words.{Body, Letter, Mail, Outcome, Prepared, Query, QueryRequest, Record, Scenario, ServerId, Staple, TxnId}
use Rattle.tp_types.proofs.EachLemmas.{each_more, placed_emptied, placed_set}
use Rattle.tp_runs.proofs.basics.Logs.{Prepares}
use Rattle.tp_runs.proofs.basics.Passed.{judged_running, passed_running, reply_checking}
use Rattle.tp_runs.proofs.basics.Phases.{is_running}
use Rattle.tp_scheme.specs.declared.moves.Point.{Point}
use Rattle.tp_coord.proofs.Rows.{Gained, IsPassed, coordinator_by, submit_by, timer_by, with_gained}
use Rattle.tp_server.proofs.Rows.{AreRightWaits, IsAsking, IsFirstHere, IsFurther, server_by}
use Rattle.tp_machine.specs.Machine.{with_age}
use Rattle.tp_model.specs.Deeds.{deed_of}
use Rattle.tp_types.specs.Each.{Each, EachPlaced}
use Rattle.tp_coord.specs.Row as coord
use Rattle.tp_round.specs.Judge.{awaited_in}
use Rattle.tp_round.specs.declared.round.Round.{Round}
use Rattle.tp_coord.specs.State.{Coordinator}
use Rattle.tp_coord.specs.declared.coordinator.Span.TheVariants as span
use Rattle.tp_coord.specs.declared.coordinator.Span.{Span}
use Rattle.tp_server.specs.declared.server.Entry.{Entry}
use Rattle.tp_server.specs.Row as server
use Rattle.tp_server.specs.State.{Server}

-- ---- what is said of ages

-- a query tells its transaction's age, or is sent at that place
abbrev pub BodyAged : (TxnId → ℕ → Type 0) → ℕ → Body → Type 0
BodyAged A sent (body.Query q) = A q.txn (server.age_of q sent)
BodyAged A sent _ = Unit {0}

abbrev pub LetterAged : (TxnId → ℕ → Type 0) → ℕ → Letter → Type 0
LetterAged A sent letter = BodyAged A sent letter.body

-- an entry has its transaction's age
abbrev pub EntryAged : (TxnId → ℕ → Type 0) → ℕ → Entry → Type 0
EntryAged A n entry = A (record { 0 = n }) entry.age

-- and so has what is prepared
abbrev pub PreparedAged : (TxnId → ℕ → Type 0) → TxnId → Prepared → Type 0
PreparedAged A txn p = A txn p.age

abbrev pub RecordAged : (TxnId → ℕ → Type 0) → Record → Type 0
RecordAged A kept = Prepares (PreparedAged A) kept

-- an act of a server in a step at this place
pub record ServerAges (A : TxnId → ℕ → Type 0) (place : ℕ) (effect : Effect Server) : Type 0 where
  pub entries : EachPlaced (EntryAged A) effect.state.entries
  pub forces : IfSome effect.reaction.append (RecordAged A)
  pub letters : Each (LetterAged A place) effect.reaction.letters

-- where a coordinator knows an age; one whose transaction runs knows it
pub record CoordinatorAged (A : TxnId → ℕ → Type 0) (c : Coordinator) : Type 0 where
  pub age : IfSome c.age (A c.txn)
  pub known : is_running c.phase ≡ true → is_some c.age ≡ true

-- an act of a coordinator: it keeps its age
pub record CoordinatorAges (A : TxnId → ℕ → Type 0) (place : ℕ) (c : Coordinator) (effect : Effect Coordinator) : Type 0 where
  pub same_age : effect.state.age ≡ c.age
  pub known : is_running effect.state.phase ≡ true → is_some c.age ≡ true
  pub same_txn : effect.state.txn ≡ c.txn
  pub letters : Each (LetterAged A place) effect.reaction.letters

-- ---- a server's rows

ignores_ages : (A : TxnId → ℕ → Type 0) (place : ℕ) (s : Server) → EachPlaced (EntryAged A) s.entries → ServerAges A place (ignores s)
ignores_ages A place s h = record { entries = h; forces = tt; letters = tt }

-- a query asks for its lock at an entry of its transaction's age
pub ran_age : (A : TxnId → ℕ → Type 0) (sc : Scenario) (s : Server) (mail : Mail) (q : QueryRequest) (query : Query) (entry : Entry) (value : ℤ) → EachPlaced (EntryAged A) s.entries → BodyAged A mail.sent mail.letter.body
    → IsAsking sc s mail q query entry value → A q.txn entry.age
ran_age A sc s mail q query entry value h m k =
    ⊎_elim (λ (first : IsFirstHere s mail.sent q entry). subst (λ (e : Entry). A q.txn e.age) (sym first.entry_is) (subst (BodyAged A mail.sent) k.said_is m))
    (λ (further : IsFurther s q entry). h q.txn.0 entry further.found) k.place

-- every row of a server on receipt of a mail
pub server_row_ages : (A : TxnId → ℕ → Type 0) (place : ℕ) (sc : Scenario) (s : Server) (mail : Mail) → AreRightWaits sc s → EachPlaced (EntryAged A) s.entries → BodyAged A mail.sent mail.letter.body
    → ServerAges A place (server.server_row sc s mail)
server_row_ages A place sc s mail waits h m =
    server_by sc s mail (ServerAges A place) waits
    (record {
      relocked = λ effect locks k. record { entries = k.entries; forces = k.forces; letters = k.letters };
      relearnt = λ effect admin pin k. record { entries = k.entries; forces = k.forces; letters = k.letters };
      ignored = ignores_ages A place s h;
      ran = λ q query entry value proof k r.
          record {
            entries = placed_set (EntryAged A) s.entries q.txn.0 (server.entry_after q entry (deed_of q.query query value) proof) h (ran_age A sc s mail q query entry value h m k);
            forces = tt;
            letters = (tt, tt);
          };
      denied = λ q query entry value verdict k d. record { entries = placed_set (EntryAged A) s.entries q.txn.0 _ h (ran_age A sc s mail q query entry value h m k); forces = tt; letters = (tt, tt) };
      outdated = λ q query entry value newer k found. record { entries = placed_set (EntryAged A) s.entries q.txn.0 _ h (ran_age A sc s mail q query entry value h m k); forces = tt; letters = (tt, tt) };
      waited = λ q query entry value k. record { entries = placed_set (EntryAged A) s.entries q.txn.0 _ h (ran_age A sc s mail q query entry value h m k); forces = tt; letters = tt };
      died = λ q query entry value other k dying. record { entries = placed_set (EntryAged A) s.entries q.txn.0 _ h (ran_age A sc s mail q query entry value h m k); forces = tt; letters = (tt, tt) };
      restarted = λ q k. record { entries = h; forces = tt; letters = (tt, tt) };
      answered = λ q entry given k. record { entries = h; forces = tt; letters = (tt, tt) };
      voted = λ p entry verdicts k.
          let old : A p.txn entry.age = h p.txn.0 entry k.found in
          record { entries = placed_set (EntryAged A) s.entries p.txn.0 _ h old; forces = old; letters = (tt, tt) };
      shown = λ v entry txn k. record { entries = h; forces = tt; letters = (tt, tt) };
      lost_verdicts = λ v k. record { entries = h; forces = tt; letters = (tt, tt) };
      voted_again = λ p entry cast k. record { entries = h; forces = tt; letters = (tt, tt) };
      refused = λ p entry number value k. record { entries = placed_emptied (EntryAged A) s.entries p.txn.0 h; forces = tt; letters = (tt, tt) };
      lost = λ p k. record { entries = placed_emptied (EntryAged A) s.entries p.txn.0 h; forces = tt; letters = (tt, tt) };
      refused_again = λ p settled why k. record { entries = h; forces = tt; letters = (tt, tt) };
      settled = λ d k. record { entries = placed_emptied (EntryAged A) s.entries d.txn.0 h; forces = tt; letters = (tt, tt) };
      acknowledged = λ d settled k. record { entries = h; forces = tt; letters = (tt, tt) };
      pushed = λ push k. record { entries = h; forces = tt; letters = tt };
      resumed = λ effect grant q query entry value proof k r now.
          record {
            entries = placed_set (EntryAged A) effect.state.entries q.txn.0 _ now.entries (now.entries q.txn.0 entry k.found);
            forces = now.forces;
            letters = each_more (LetterAged A place) effect.reaction.letters _ now.letters tt;
          };
      resumed_denied = λ effect grant q query entry value verdict k d now.
          record {
            entries = placed_set (EntryAged A) effect.state.entries q.txn.0 _ now.entries (now.entries q.txn.0 entry k.found);
            forces = now.forces;
            letters = each_more (LetterAged A place) effect.reaction.letters _ now.letters tt;
          };
      resumed_outdated = λ effect grant q query entry value newer k found now.
          record {
            entries = placed_set (EntryAged A) effect.state.entries q.txn.0 _ now.entries (now.entries q.txn.0 entry k.found);
            forces = now.forces;
            letters = each_more (LetterAged A place) effect.reaction.letters _ now.letters tt;
          };
    })

-- ---- a coordinator's rows

still_ages : (A : TxnId → ℕ → Type 0) (place : ℕ) (c : Coordinator) → CoordinatorAged A c → CoordinatorAges A place c (ignores c)
still_ages A place c h = record { same_age = refl; known = h.known; same_txn = refl; letters = tt }

-- a query tells the age, where it is known
told_age : (A : TxnId → ℕ → Type 0) (txn : TxnId) (age : Option ℕ) (place : ℕ) → is_some age ≡ true → IfSome age (A txn) → A txn (unwrap_or age place)
told_age A txn None place e h = absurd (cc)
told_age A txn (Some old) place e h = h

-- letters that tell no age
all_ageless : (A : TxnId → ℕ → Type 0) (place : ℕ) (letter : ServerId → Letter) → ((at : ServerId) → LetterAged A place (letter at)) → (servers : List ServerId) → Each (LetterAged A place) (map letter servers)
all_ageless A place letter none [] = tt
all_ageless A place letter none (at ∷ servers) = (none at, all_ageless A place letter none servers)

round_letter_aged : (A : TxnId → ℕ → Type 0) (place : ℕ) (c : Coordinator) (over : Span) (turn : ℕ) (round : Round) (staple : Staple) (at : ServerId) → LetterAged A place (coord.round_letter c over turn round staple at)
round_letter_aged A place c (span.Validate number) turn round staple at = tt
round_letter_aged A place c span.Commit turn round staple at = tt

round_letters_aged : (A : TxnId → ℕ → Type 0) (place : ℕ) (c : Coordinator) (over : Span) (turn : ℕ) (round : Round) (staple : Staple) → Each (LetterAged A place) (coord.round_letters c over turn round staple)
round_letters_aged A place c over turn round staple = all_ageless A place (coord.round_letter c over turn round staple) (round_letter_aged A place c over turn round staple) (awaited_in round)

vote_letters_aged : (A : TxnId → ℕ → Type 0) (place : ℕ) (c : Coordinator) (turn : ℕ) (servers : List ServerId) → Each (LetterAged A place) (coord.vote_letters c turn servers)
vote_letters_aged A place c turn servers = all_ageless A place (coord.vote_letter c turn) (λ at. tt) servers

pub orders_aged : (A : TxnId → ℕ → Type 0) (place : ℕ) (c : Coordinator) (ended : Outcome) (servers : List ServerId)
    → Each (LetterAged A place) (map (λ (at : ServerId). coord.request c at (body.Decide (record { txn = c.txn; outcome = ended }))) servers)
orders_aged A place c ended [] = tt
orders_aged A place c ended (at ∷ servers) = (tt, orders_aged A place c ended servers)

-- every row of a coordinator on receipt of a mail
pub coordinator_row_ages : (A : TxnId → ℕ → Type 0) (place : ℕ) (sc : Scenario) (c : Coordinator) (mail : Mail) → CoordinatorAged A c → CoordinatorAges A place c (coord.coordinator_row sc c mail)
coordinator_row_ages A place sc c mail h =
    coordinator_by sc c mail (CoordinatorAges A place c)
    (record {
      ignored = still_ages A place c h;
      stapled = λ tell query home k at.
          let age_known = h.known (ap is_running k.stapling) in
          record { same_age = refl; known = λ running. age_known; same_txn = refl; letters = (told_age A c.txn c.age place age_known h.age, tt) };
      sends_query = λ at now rounds next passed moves home.
          let age_known = known at now rounds passed in
          record { same_age = refl; known = λ running. age_known; same_txn = refl; letters = (told_age A c.txn c.age place age_known h.age, tt) };
      asks_staple = λ at now rounds passed moves. record { same_age = refl; known = λ running. known at now rounds passed; same_txn = refl; letters = (tt, tt) };
      probes_proofs = λ at now rounds passed moves. record { same_age = refl; known = λ running. known at now rounds passed; same_txn = refl; letters = (tt, tt) };
      validates = λ at now rounds passed moves. record { same_age = refl; known = λ running. known at now rounds passed; same_txn = refl; letters = (tt, tt) };
      commit_rounds = λ at now rounds passed moves. record { same_age = refl; known = λ running. known at now rounds passed; same_txn = refl; letters = (tt, tt) };
      asks_votes = λ at now rounds passed moves. record { same_age = refl; known = λ running. known at now rounds passed; same_txn = refl; letters = vote_letters_aged A place (with_gained c now) (coord.next_turn c) c.servers };
      decides = λ at now rounds passed moves. record { same_age = refl; known = λ running. absurd (cc); same_txn = refl; letters = orders_aged A place c outcome.Commit c.servers };
      aborted = λ why ended. record { same_age = refl; known = λ running. absurd (cc); same_txn = refl; letters = orders_aged A place c outcome.Abort c.servers };
      told = λ tell over round k.
          record {
            same_age = refl;
            known = λ running. h.known (ap is_running k.asking);
            same_txn = refl;
            letters = round_letters_aged A place c over (coord.next_turn c) round (coord.staple_of tell mail.sent);
          };
      counted = λ over round staple server verdicts y. record { same_age = refl; known = λ running. h.known (ap is_running (reply_checking c mail over round staple server verdicts y)); same_txn = refl; letters = tt };
      probed = λ over round staple server verdicts y whole reads.
          record { same_age = refl; known = λ running. h.known (ap is_running (reply_checking c mail over round staple server verdicts y)); same_txn = refl; letters = (tt, tt) };
      updated = λ over round staple reading named j e. record { same_age = refl; known = λ running. h.known (judged_running c mail over round staple reading j); same_txn = refl; letters = (tt, tt) };
      voted = λ reply awaited server verdicts k. record { same_age = refl; known = λ running. h.known (ap is_running k.voting); same_txn = refl; letters = tt };
      acknowledged = λ ack ended awaited server a. record { same_age = refl; known = λ running. absurd (cc); same_txn = refl; letters = tt };
      inquired = λ inquiry ended awaited server k. record { same_age = refl; known = h.known; same_txn = refl; letters = orders_aged A place c ended (server ∷ []) };
    })
  where
    -- where a point is passed, the age is known
    known : (at : Point) (now : Gained) (rounds : ℕ) → IsPassed sc c mail at now rounds → is_some c.age ≡ true
    known at now rounds passed = h.known (passed_running sc c mail at now rounds passed)

-- ---- Submit

-- a submission at a place, which is the age from then on
pub record SubmissionAges (A : TxnId → ℕ → Type 0) (place : ℕ) (c : Coordinator) (effect : Effect Coordinator) : Type 0 where
  pub age_is : effect.state.age ≡ Some place
  pub same_txn : effect.state.txn ≡ c.txn
  pub letters : Each (LetterAged A place) effect.reaction.letters

-- a query tells the age, or is sent at the submission
told_or_sent : (A : TxnId → ℕ → Type 0) (txn : TxnId) (age : Option ℕ) (place : ℕ) → A txn place → IfSome age (A txn) → A txn (unwrap_or age place)
told_or_sent A txn None place m h = m
told_or_sent A txn (Some old) place m h = h

-- the submission of a transaction
pub submit_row_ages : (A : TxnId → ℕ → Type 0) (place : ℕ) (sc : Scenario) (c : Coordinator) → IfSome c.age (A c.txn) → A c.txn place → SubmissionAges A place c (with_age (coord.submit_row sc c) place)
submit_row_ages A place sc c h m =
    submit_by sc c (λ (effect : Effect Coordinator). SubmissionAges A place c (with_age effect place))
    (record {
      ignored = record { age_is = refl; same_txn = refl; letters = tt };
      sent = λ server begins home. record { age_is = refl; same_txn = refl; letters = (told_or_sent A c.txn c.age place m h, tt) };
      asked = λ begins. record { age_is = refl; same_txn = refl; letters = (tt, tt) };
    })

-- ---- timers

-- a request that is sent again: one that awaits the answer to a query knows its age
pub repeats_aged : (A : TxnId → ℕ → Type 0) (place : ℕ) (sc : Scenario) (c : Coordinator) → CoordinatorAged A c → Each (LetterAged A place) (coord.repeats sc c c.phase)
repeats_aged A place sc c h =
    timer_by sc c (Each (LetterAged A place))
    (record {
      silent = tt;
      stapled = λ number stapling. (tt, tt);
      queried = λ number staple server querying home. (told_age A c.txn c.age place (h.known (ap is_running querying)) h.age, tt);
      asked = λ over round asking. (tt, tt);
      prepared = λ over round staple checking. round_letters_aged A place c over c.turn round staple;
      probed = λ at probing. (tt, tt);
      read = λ over round reading. (tt, tt);
      voted = λ awaited voting. vote_letters_aged A place c c.turn awaited;
      ordered = λ ended awaited ending. orders_aged A place c ended awaited;
    })
