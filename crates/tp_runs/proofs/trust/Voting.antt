-- Trust, the votes of an incremental transaction: they are asked for without an evaluation, and prove nothing. Once all have voted it commits on
-- what it has closed, or the master is read once more.
use Rattle.std.proofs.Common.{Bool, List, None, Option, Some, [], ap, arith, false, length, refl, slice_get, subst, sym, true, ℕ, ◌+◌, ◌-◌, ◌∙◌, ◌∷◌, ◌≡◌, ◌≤◌}
use Rattle.std.proofs.lemmas.Bool.{and_from, eq-eqb}
use Rattle.std.proofs.lemmas.Option.{same_Some}
use Rattle.std.specs.Option.{option_map_or}
use Rattle.tp_types.specs.Each.{Each}
use Rattle.tp_types.specs.Effect.{sends}
use Rattle.tp_model.specs.Demand.{count_of}
use Rattle.tp_model.specs.Levels.{reads_master}
use Rattle.tp_model.specs.Words.{Body, Fact, Letter, Scenario, Scheme, ServerId, Transaction, Vote}
use Rattle.tp_model.specs.Words.body
use Rattle.tp_model.specs.Words.outcome
use Rattle.tp_model.specs.Words.scheme
use Rattle.tp_model.specs.Words.vote
use Rattle.tp_coord.proofs.Rows.{Gained, gains_instances, with_gained}
use Rattle.tp_coord.specs.Row.{asks_votes, commit_record, commits, move_at, move_of, next_turn, own_query, prepare_with, probes, vote_letters, voting}
use Rattle.tp_coord.specs.Row as row
use Rattle.tp_coord.specs.State.{Coordinator}
use Rattle.tp_coord.specs.declared.coordinator.Phase.{Phase}
use Rattle.tp_coord.specs.declared.coordinator.Phase.TheVariants as phase
use Rattle.tp_scheme.specs.Moves as table
use Rattle.tp_scheme.specs.declared.moves.Move.{Move}
use Rattle.tp_scheme.specs.declared.moves.Move.TheVariants as move
use Rattle.tp_scheme.specs.declared.moves.Point.{Point}
use Rattle.tp_scheme.specs.declared.moves.Point.TheVariants as point
use Rattle.tp_runs.proofs.basics.Homes.{move_is}
use Rattle.tp_runs.proofs.basics.Phases.{is_undecided, until_round}
use Rattle.tp_runs.proofs.basics.Turns.{AreFew, IsOfPast, Now, PrepareNow, VerdictsNow, VoteNow, end_move, low_round, query_count, raised, turn_rises}
use Rattle.tp_runs.proofs.trust.Coordinator.{AreSoFar, CommitFits, CoordinatorFits, LetterOfTurn, RowTrusts, moved_on, orders_fit, orders_timely, phase_fits, turn_low}
use Rattle.tp_runs.proofs.trust.Fit.{BodyFits, maybe_stays}
use Rattle.tp_runs.proofs.trust.Instances.{IsSoFarIn, closed_as, closed_in, gathered_as, so_far_on}
use Rattle.tp_runs.proofs.trust.Phases.{Suits}
use Rattle.tp_runs.proofs.trust.Points.{IsProbed, asked_few, asked_past}
use Rattle.tp_runs.proofs.trust.ProofReadings.{rounds_none}
use Rattle.tp_runs.proofs.trust.Queries.{PassedStands, all_asked, begun_so_far, counted_is, next_low}

-- ---- the move at a point

-- a move that leads somewhere is that of a transaction of the scenario
pub record IsMovedBy (sc : Scenario) (c : Coordinator) (at : Point) (wanted : Move) : Type 0 where
  pub declared : Transaction
  pub found : slice_get sc.txns c.txn.0 ≡ Some declared
  pub moves : table.next_move declared.scheme (reads_master sc declared) (row.query_count declared) at ≡ wanted

pub moved_by : (sc : Scenario) (c : Coordinator) (at : Point) (wanted : Move) → move_at sc c at ≡ wanted → (wanted ≡ move.Following → ⊥) → IsMovedBy sc c at wanted
moved_by sc c at wanted e leads = by_txn (slice_get sc.txns c.txn.0) refl e
  where
    by_txn : (found : Option Transaction) → slice_get sc.txns c.txn.0 ≡ found → option_map_or (move_of sc at) found move.Following ≡ wanted → IsMovedBy sc c at wanted
    by_txn None f g = absurd (leads (sym g))
    by_txn (Some declared) f g = record { declared = declared; found = f; moves = g }

-- ---- requests

pub vote_letters_fit : (sc : Scenario) (facts : List Fact) (place sent : ℕ) (c : Coordinator) (turn : ℕ) (servers : List ServerId) → Each (λ (letter : Letter). BodyFits sc facts place sent letter.body) (vote_letters c turn servers)
vote_letters_fit sc facts place sent c turn [] = tt
vote_letters_fit sc facts place sent c turn (at ∷ servers) = ((tt, tt), vote_letters_fit sc facts place sent c turn servers)

pub vote_letters_timely : (sc : Scenario) (c next : Coordinator) (awaited : List ServerId) (sent : ℕ) (servers : List ServerId) → next.phase ≡ phase.Voting awaited → Each (LetterOfTurn sc c.txn (Some next) sent) (vote_letters c next.turn servers)
vote_letters_timely sc c next awaited sent [] e = tt
vote_letters_timely sc c next awaited sent (at ∷ servers) e = (
  record { own = refl; timely = λ unsure. record { past = omega arith; now = λ same. subst (λ (p : Phase). PrepareNow p (prepare_with c next.turn None [] at)) (sym e) refl } },
  vote_letters_timely sc c next awaited sent servers e,
)

-- after the last query all servers are asked
pub asks_votes_trusts : (sc : Scenario) (facts : List Fact) (place : ℕ) (c : Coordinator) (now : Gained) (at : Point) (number : ℕ) → PassedStands sc facts place c now at number → move_at sc c at ≡ move.Following
    → own_query sc c (number + 1) ≡ None → ((declared : Transaction) → slice_get sc.txns c.txn.0 ≡ Some declared → declared.scheme ≡ scheme.Incremental) → RowTrusts sc facts place c (asks_votes (with_gained c now))
asks_votes_trusts sc facts place c now at number s follows_on none incremental =
    let awaited = phase.Voting c.servers in
    let all : length s.declared.queries ≤ number = all_asked sc c s.declared number s.found none in
    let most : number ≤ length s.declared.queries = subst (λ (n : ℕ). number ≤ n) (counted_is sc c.txn s.declared s.found) s.last in
    let closed : number + 1 - 1 ≡ length s.declared.queries = omega (arith, all, most) in
    let stays_so : (declared : Transaction) → slice_get sc.txns c.txn.0 ≡ Some declared → number + 1 - 1 ≡ length declared.queries =
    λ declared found. closed ∙ ap (λ (t : Transaction). length t.queries) (same_Some s.declared declared (sym s.found ∙ found)) in
    let so_far = begun_so_far sc facts place c now at number s follows_on in
    record {
      fits = record {
        awaits = s.submitted;
        suits = incremental;
        so_far = λ unsure declared found.
            let queries = length declared.queries in
            so_far_on sc facts place c.txn declared _ _ _ _ now.instances now.gathered (closed_as declared.scheme queries (phase.Stapling (number + 1)) awaited (stays_so declared found))
            (gathered_as declared.scheme queries (phase.Stapling (number + 1)) awaited (stays_so declared found)) (so_far declared found);
        above = λ unsure. s.above;
        made_after = tt;
        turn = subst (λ (n : ℕ). n ≤ until_round (query_count sc c.txn) 1 1) (sym s.rises) (next_low (query_count sc c.txn) number (asked_past at) c.turn s.first s.last (asked_few at) s.low);
      };
      decides = tt;
      says = λ sent. vote_letters_fit sc facts place sent (with_gained c now) (next_turn c) c.servers;
      timely = λ sent. vote_letters_timely sc (with_gained c now) (asks_votes (with_gained c now)).state c.servers sent c.servers refl;
      old = λ sent turn said t. raised sc c (asks_votes (with_gained c now)).state sent turn said s.undecided s.rises t;
    }

-- ---- votes

-- a vote that is counted leaves what mails say
now_counted : (sc : Scenario) (c : Coordinator) (awaited left : List ServerId) (sent : ℕ) (said : Body) → c.phase ≡ phase.Voting awaited → Now sc c sent said → Now sc (voting c left) sent said
now_counted sc c awaited left sent (body.Prepare p) e h = subst (λ (p' : Phase). PrepareNow p' p) e h
now_counted sc c awaited left sent (body.Vote reply) e h = vote_counted reply.vote (subst (λ (p : Phase). VoteNow p reply.vote) e h)
  where
    vote_counted : (said : Vote) → VoteNow (phase.Voting awaited) said → VoteNow (phase.Voting left) said
    vote_counted (vote.Yes verdicts) k = k
    vote_counted (vote.No why) k = k
now_counted sc c awaited left sent (body.Verdicts reply) e h = maybe_stays (VerdictsNow c.phase) (VerdictsNow (phase.Voting left)) reply.verdicts (λ verdicts k. tt) h
now_counted sc c awaited left sent (body.Query q) e h = tt
now_counted sc c awaited left sent (body.Done done) e h = tt
now_counted sc c awaited left sent (body.Tell tell) e h = tt
now_counted sc c awaited left sent (body.Validate v) e h = tt
now_counted sc c awaited left sent (body.Newest reply) e h = tt
now_counted sc c awaited left sent _ e h = tt

pub voted_trusts : (sc : Scenario) (facts : List Fact) (place : ℕ) (c : Coordinator) (awaited left : List ServerId) → CoordinatorFits sc facts place c → c.phase ≡ phase.Voting awaited → RowTrusts sc facts place c (sends (voting c left) [])
voted_trusts sc facts place c awaited left h e =
    let undecided : is_undecided c.phase ≡ true = ap is_undecided e in
    record {
      fits = record {
        awaits = phase_fits sc facts place c (phase.Voting awaited) h e;
        suits = λ declared found. subst (Suits declared.scheme (reads_master sc declared)) e (h.suits declared found);
        so_far = λ unsure. moved_on sc facts place c.txn (phase.Voting awaited) (phase.Voting left) c.instances c.gathered (λ queries. refl) (λ queries. refl)
            (subst (λ (p : Phase). AreSoFar sc facts place c.txn p c.instances c.gathered) e (h.so_far undecided));
        above = λ unsure. h.above undecided;
        made_after = tt;
        turn = turn_low sc facts place c (phase.Voting awaited) h e;
      };
      decides = tt;
      says = λ sent. tt;
      timely = λ sent. tt;
      old = λ sent turn said t unsure. let was : IsOfPast sc c sent turn said = t undecided in record { past = was.past; now = λ same. now_counted sc c awaited left sent said e (was.now same) };
    }

-- ---- where all have voted

-- a commit on instances that meet the demand
pub commits_trusts : (sc : Scenario) (facts : List Fact) (place : ℕ) (c : Coordinator) (now : Gained) (rounds : ℕ) → c.turn ≤ until_round (query_count sc c.txn) 17 3 → CommitFits sc facts place c.txn (commit_record (with_gained c now) rounds)
    → RowTrusts sc facts place c (commits (with_gained c now) rounds)
commits_trusts sc facts place c now rounds low fits =
    record {
      fits = record { awaits = tt; suits = λ declared found. tt; so_far = λ unsure. absurd (cc); above = λ unsure. absurd (cc); made_after = tt; turn = low };
      decides = fits;
      says = λ sent. orders_fit sc facts place sent (with_gained c now) outcome.Commit c.servers;
      timely = λ sent. orders_timely sc (with_gained c now) (Some (commits (with_gained c now) rounds).state) sent outcome.Commit c.servers;
      old = λ sent turn said t unsure. absurd (cc);
    }

-- incremental commits at once only where the master is not read
unread_at : (reads : Bool) → table.after_votes scheme.Incremental reads ≡ move.Decide → reads ≡ false
unread_at true e = absurd (cc)
unread_at false e = refl

-- then what it has closed meets the demand
pub voted_commit : (sc : Scenario) (facts : List Fact) (place : ℕ) (c : Coordinator) (awaited : List ServerId) → CoordinatorFits sc facts place c → c.phase ≡ phase.Voting awaited → move_at sc c point.Voted ≡ move.Decide
    → CommitFits sc facts place c.txn (commit_record (with_gained c (gains_instances c c.instances)) 0)
voted_commit sc facts place c awaited h e moves declared found =
    let queries = length declared.queries in
    let incremental : declared.scheme ≡ scheme.Incremental = subst (Suits declared.scheme (reads_master sc declared)) e (h.suits declared found) in
    let by : table.after_votes declared.scheme (reads_master sc declared) ≡ move.Decide = move_is sc c declared point.Voted move.Decide found moves in
    let unread : reads_master sc declared ≡ false = unread_at (reads_master sc declared) (ap (λ (s : Scheme). table.after_votes s (reads_master sc declared)) (sym incremental) ∙ by) in
    let was : IsSoFarIn sc facts place c.txn declared (phase.Voting awaited) c.instances c.gathered =
    subst (λ (p : Phase). IsSoFarIn sc facts place c.txn declared p c.instances c.gathered) e (h.so_far (ap is_undecided e) declared found) in
    let many : length c.instances ≡ count_of declared.scheme (reads_master sc declared) queries =
    was.count ∙ (ap (λ (s : Scheme). closed_in s queries (phase.Voting awaited)) incremental
    ∙ sym (ap (λ (s : Scheme). count_of s (reads_master sc declared) queries) incremental ∙ ap (λ (b : Bool). count_of scheme.Incremental b queries) unread)) in
    record {
      demanded = and_from _ _ (and_from _ _ (and_from _ _ (eq-eqb (length c.instances) (count_of declared.scheme (reads_master sc declared) queries) many) was.demanded) was.follow) (rounds_none sc declared incremental);
      trusted = was.trusted;
    }

pub voted_low : (sc : Scenario) (facts : List Fact) (place : ℕ) (c : Coordinator) (awaited : List ServerId) → CoordinatorFits sc facts place c → c.phase ≡ phase.Voting awaited → c.turn ≤ until_round (query_count sc c.txn) 17 3
voted_low sc facts place c awaited h e = end_move (query_count sc c.txn) 1 1 c.turn (omega arith) (omega arith) (turn_low sc facts place c (phase.Voting awaited) h e)

-- or the master is asked
pub vote_probes_trusts : (sc : Scenario) (facts : List Fact) (place : ℕ) (c : Coordinator) (awaited : List ServerId) → AreFew sc → CoordinatorFits sc facts place c → c.phase ≡ phase.Voting awaited
    → ((declared : Transaction) → slice_get sc.txns c.txn.0 ≡ Some declared → IsProbed declared.scheme (reads_master sc declared)) → RowTrusts sc facts place c (probes (with_gained c (gains_instances c c.instances)) phase.VoteProbing)
vote_probes_trusts sc facts place c awaited few h e probed =
    let count = query_count sc c.txn in
    let low : c.turn ≤ until_round count 1 1 = turn_low sc facts place c (phase.Voting awaited) h e in
    let rises : next_turn c ≡ c.turn + 1 = turn_rises c (low_round count 1 1 c.turn (few c.txn) (omega arith) (omega arith) low) in
    let undecided : is_undecided c.phase ≡ true = ap is_undecided e in
    let submitted = phase_fits sc facts place c (phase.Voting awaited) h e in
    record {
      fits = record {
        awaits = submitted;
        suits = probed;
        so_far = λ unsure. moved_on sc facts place c.txn (phase.Voting awaited) phase.VoteProbing c.instances c.gathered (λ queries. refl) (λ queries. refl)
            (subst (λ (p : Phase). AreSoFar sc facts place c.txn p c.instances c.gathered) e (h.so_far undecided));
        above = λ unsure. h.above undecided;
        made_after = tt;
        turn = omega (arith, rises, low);
      };
      decides = tt;
      says = λ sent. (submitted, tt);
      timely = λ sent. (record { own = refl; timely = λ unsure. record { past = omega arith; now = λ same. tt } }, tt);
      old = λ sent turn said t. raised sc c (probes (with_gained c (gains_instances c c.instances)) phase.VoteProbing).state sent turn said undecided rises t;
    }
