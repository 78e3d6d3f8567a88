-- Trust: the instances that a transaction has closed are what its scheme demands so far, and stay so; what it has gathered is right.
use Rattle.std.proofs.Common.{Bool, IfSome, List, None, Option, Some, [], ap, arith, false, is_none, length, nat_le, nat_lt, refl, subst, suc, sym, take, true, zero, ℕ, if◌then◌else◌, ◌&&◌, ◌++◌, ◌+◌, ◌-◌, ◌<◌, ◌==◌, ◌∙◌, ◌∷◌, ◌≡◌, ◌≤◌}
use Rattle.std.proofs.lemmas.Bool.{and_from, and_parts, eq-eqb, le-leb, lt-ltb}
use Rattle.std.proofs.lemmas.Bool.Decides.{nat_tests}
use Rattle.std.proofs.lemmas.List.{length_push}
use Rattle.std.specs.Cmp.Lexicographic.{pointwise}
use Rattle.std.specs.List.{count_by, list_all, range_with_len}
use Rattle.tp_types.proofs.EachLemmas.{each_append, each_as}
use Rattle.tp_types.proofs.ListLemmas.{number_itself}
use Rattle.tp_types.specs.Each.{Each, EachAt}
use Rattle.tp_model.specs.Demand.{agrees_at, are_instances, count_of, each_follows, first_of, follows, is_after_reading, is_earlier_proof, is_incremental, is_instance, is_later, is_over, is_round_count, many_of, meets_demand, most_rounds}
use Rattle.tp_model.specs.Facts.{before, was_submitted}
use Rattle.tp_model.specs.Levels.{is_global, level_of, reads_master}
use Rattle.tp_model.specs.Versions.{is_consistent, is_one_version, is_publication, meets_readings, opening_version}
use Rattle.tp_model.specs.Words.{CommitRecord, Fact, Instance, Scenario, Scheme, Transaction, TxnId, Verdict}
use Rattle.tp_model.specs.Words.scheme
use Rattle.tp_coord.specs.declared.coordinator.Phase.{Phase}
use Rattle.tp_coord.specs.declared.coordinator.Phase.TheVariants as phase
use Rattle.tp_coord.specs.declared.coordinator.Span.{Span}
use Rattle.tp_coord.specs.declared.coordinator.Span.TheVariants as span
use Rattle.tp_runs.proofs.basics.Facts.{Grows, all_from_each}
use Rattle.tp_runs.proofs.basics.Turns.{IsAbove, IsEarlierInstance}
use Rattle.tp_runs.proofs.basics.Verdicts.{numbers_of}
use Rattle.tp_runs.proofs.trust.Fit.{Later, Right, has_rule, maybe_stays, rights_stay, submitted_stays}
use Rattle.tp_runs.proofs.trust.Gathering.{ArePinned, AreRising}

-- ---- an instance

-- the master was read between the submission and the place
pub record IsTimelyReading (facts : List Fact) (place : ℕ) (txn : TxnId) (reading : ℕ) : Type 0 where
  pub begun : was_submitted txn reading facts ≡ true
  pub past : reading < place

-- the proofs of an instance are right and true, and its reading was timely
pub record IsTrustedInstance (sc : Scenario) (facts : List Fact) (place : ℕ) (txn : TxnId) (instance : Instance) : Type 0 where
  pub right : Each (Right sc facts place txn) instance.proofs
  pub have_rules : list_all has_rule instance.proofs ≡ true
  pub timely : IfSome instance.reading (IsTimelyReading facts place txn)

reading_stays : (old new : List Fact) (low high : ℕ) (txn : TxnId) (reading : ℕ) → Later old new low high → IsTimelyReading old low txn reading → IsTimelyReading new high txn reading
reading_stays old new low high txn reading l h =
    record { begun = submitted_stays old new txn reading (l.grows.same reading (omega (arith, h.past))) h.begun; past = omega (arith, h.past, l.le) }

pub instance_stays : (sc : Scenario) (old new : List Fact) (low high : ℕ) (txn : TxnId) (instance : Instance) → Later old new low high → IsTrustedInstance sc old low txn instance → IsTrustedInstance sc new high txn instance
instance_stays sc old new low high txn instance l h =
    record {
      right = rights_stay sc old new low high txn instance.proofs l h.right;
      have_rules = h.have_rules;
      timely = maybe_stays (IsTimelyReading old low txn) (IsTimelyReading new high txn) instance.reading (λ reading t. reading_stays old new low high txn reading l t) h.timely;
    }

-- ---- what was consistent is so as facts are added

-- whether a proof meets a reading of a place, by the facts before the place
abbrev meets_by : Scenario → Transaction → ℕ → List Fact → Verdict → Bool
meets_by sc txn place earlier proof =
    if is_global (level_of txn proof.admin)
    then (proof.version.0 == (opening_version sc proof.admin).0 + count_by (is_publication proof.admin) earlier) && nat_lt proof.place place
    else nat_lt proof.place place

readings_stay : (sc : Scenario) (txn : Transaction) (old new : List Fact) (low : ℕ) (proofs : List Verdict) (reads : Bool) (reading : Option ℕ) → Grows old new low → IfSome reading (λ (read : ℕ). read < low)
    → (if reads then meets_readings sc txn reading new proofs else is_none reading) ≡ (if reads then meets_readings sc txn reading old proofs else is_none reading)
readings_stay sc txn old new low proofs reads None g h = refl
readings_stay sc txn old new low proofs reads (Some read) g h =
    let same : before read new ≡ before read old = g.same read (omega (arith, h)) in
    ap (λ (earlier : List Fact). if reads then list_all (meets_by sc txn read earlier) proofs else false) same

consistent_stays : (sc : Scenario) (txn : Transaction) (old new : List Fact) (low : ℕ) (instance : Instance) → Grows old new low → IfSome instance.reading (λ (read : ℕ). read < low)
    → is_consistent sc txn new instance ≡ is_consistent sc txn old instance
consistent_stays sc txn old new low instance g h =
    ap (λ (b : Bool). is_one_version instance.proofs && b) (readings_stay sc txn old new low instance.proofs (reads_master sc txn) instance.reading g h)

-- so an instance that its scheme demands is demanded still
demanded_one_stays : (sc : Scenario) (txn : Transaction) (old new : List Fact) (low number : ℕ) (instance : Instance) → Grows old new low → IfSome instance.reading (λ (read : ℕ). read < low)
    → is_instance sc new txn number instance ≡ is_instance sc old txn number instance
demanded_one_stays sc txn old new low number instance g h =
    ap (λ (b : Bool). is_over (first_of txn.scheme (length txn.queries) number) (many_of txn.scheme (length txn.queries) number) instance.proofs && (if agrees_at txn.scheme (length txn.queries) number then b else is_none instance.reading))
    (consistent_stays sc txn old new low instance g h)

read_past : (sc : Scenario) (facts : List Fact) (place : ℕ) (txn : TxnId) (instance : Instance) → IsTrustedInstance sc facts place txn instance → IfSome instance.reading (λ (read : ℕ). read < place)
read_past sc facts place txn instance h = maybe_stays (IsTimelyReading facts place txn) (λ (read : ℕ). read < place) instance.reading (λ read t. t.past) h.timely

-- and so are all that a transaction has closed
pub demanded_stay : (sc : Scenario) (declared : Transaction) (old new : List Fact) (low number : ℕ) (txn : TxnId) (instances : List Instance) → Grows old new low → Each (IsTrustedInstance sc old low txn) instances
    → are_instances sc old declared number instances ≡ true → are_instances sc new declared number instances ≡ true
demanded_stay sc declared old new low number txn [] g h e = refl
demanded_stay sc declared old new low number txn (instance ∷ instances) g h e =
    let parts = and_parts (is_instance sc old declared number instance) (are_instances sc old declared (number + 1) instances) e in
    and_from _ _ (demanded_one_stays sc declared old new low number instance g (read_past sc old low txn instance h.0) ∙ parts.0) (demanded_stay sc declared old new low (number + 1) txn instances g h.1 parts.1)

-- ---- one instance more

-- what comes last follows what was closed before it
abbrev pub FollowsLast : Scheme → List Instance → Instance → Type 0
FollowsLast chosen [] next = Unit {0}
FollowsLast chosen (one ∷ []) next = follows chosen one next ≡ true
FollowsLast chosen (one ∷ other ∷ instances) next = FollowsLast chosen (other ∷ instances) next

pub demanded_more : (sc : Scenario) (facts : List Fact) (declared : Transaction) (number : ℕ) (instances : List Instance) (next : Instance) → are_instances sc facts declared number instances ≡ true
    → is_instance sc facts declared (number + length instances) next ≡ true → are_instances sc facts declared number (instances ++ next ∷ []) ≡ true
demanded_more sc facts declared number [] next e last =
    let here : number + 0 ≡ number = omega arith in
    and_from _ _ (subst (λ (n : ℕ). is_instance sc facts declared n next ≡ true) here last) refl
demanded_more sc facts declared number (instance ∷ instances) next e last =
    let parts = and_parts (is_instance sc facts declared number instance) (are_instances sc facts declared (number + 1) instances) e in
    let further : number + length (instance ∷ instances) ≡ number + 1 + length instances = omega arith in
    and_from _ _ parts.0 (demanded_more sc facts declared (number + 1) instances next parts.1 (subst (λ (n : ℕ). is_instance sc facts declared n next ≡ true) further last))

pub follows_more : (chosen : Scheme) (instances : List Instance) (next : Instance) → each_follows chosen instances ≡ true → FollowsLast chosen instances next → each_follows chosen (instances ++ next ∷ []) ≡ true
follows_more chosen [] next e last = refl
follows_more chosen (one ∷ []) next e last = and_from _ _ last refl
follows_more chosen (one ∷ other ∷ instances) next e last =
    let parts = and_parts (follows chosen one other) (each_follows chosen (other ∷ instances)) e in
    and_from _ _ parts.0 (follows_more chosen (other ∷ instances) next parts.1 last)

-- ---- what is closed and gathered so far

-- the instances that are closed, of a transaction with so many queries whose scheme closes one at each query
abbrev pub closed_over : ℕ → Span → ℕ
closed_over queries (span.Validate number) = number - 1
closed_over queries span.Commit = queries

abbrev pub closed_before : ℕ → Phase → ℕ
closed_before queries phase.Idle = 0
closed_before queries (phase.Stapling number) = number - 1
closed_before queries (phase.Querying number staple) = number - 1
closed_before queries (phase.Probing number) = number - 1
closed_before queries (phase.Asking over round) = closed_over queries over
closed_before queries (phase.Checking over round staple) = closed_over queries over
closed_before queries (phase.Reading over round) = closed_over queries over
closed_before queries (phase.Voting awaited) = queries
closed_before queries phase.VoteProbing = queries
closed_before queries (phase.Ending ended awaited) = 0

-- deferred closes none before its commit
abbrev pub closed_in : Scheme → ℕ → Phase → ℕ
closed_in scheme.Deferred queries awaited = 0
closed_in _ queries awaited = closed_before queries awaited

abbrev pub gathered_before : ℕ → Phase → ℕ
gathered_before queries phase.Idle = 0
gathered_before queries (phase.Stapling number) = number - 1
gathered_before queries (phase.Querying number staple) = number - 1
gathered_before queries (phase.Probing number) = number
gathered_before queries (phase.Asking over round) = 0
gathered_before queries (phase.Checking over round staple) = 0
gathered_before queries (phase.Reading over round) = 0
gathered_before queries (phase.Voting awaited) = queries
gathered_before queries phase.VoteProbing = queries
gathered_before queries (phase.Ending ended awaited) = 0

-- incremental alone gathers the proofs of its queries
abbrev pub gathered_in : Scheme → ℕ → Phase → ℕ
gathered_in scheme.Incremental queries awaited = gathered_before queries awaited
gathered_in _ queries awaited = 0

-- what a transaction has closed, so many instances, is what its scheme demands so far, each instance trusted; under incremental they are
-- the fronts of what is gathered, which is right, of the version that each administrator's first pins, and of each of its first so many queries
pub record IsSoFar (sc : Scenario) (facts : List Fact) (place : ℕ) (txn : TxnId) (declared : Transaction) (closed gathers : ℕ) (instances : List Instance) (gathered : List Verdict) : Type 0 where
  pub count : length instances ≡ closed
  pub demanded : are_instances sc facts declared 1 instances ≡ true
  pub follow : each_follows declared.scheme instances ≡ true
  pub trusted : Each (IsTrustedInstance sc facts place txn) instances
  pub fronts : declared.scheme ≡ scheme.Incremental → EachAt (λ (n : ℕ) (instance : Instance). instance.proofs ≡ take (n + 1) gathered) instances
  pub numbers : numbers_of gathered ≡ range_with_len 1 gathers
  pub right : Each (Right sc facts place txn) gathered
  pub have_rules : list_all has_rule gathered ≡ true
  pub pins : ArePinned gathered
  pub rising : AreRising gathered

-- as many as the phase of a transaction of its scheme says
abbrev pub IsSoFarIn : Scenario → List Fact → ℕ → TxnId → Transaction → Phase → List Instance → List Verdict → Type 0
IsSoFarIn sc facts place txn declared awaited instances gathered =
    IsSoFar sc facts place txn declared (closed_in declared.scheme (length declared.queries) awaited) (gathered_in declared.scheme (length declared.queries) awaited) instances gathered

pub so_far_stays : (sc : Scenario) (old new : List Fact) (low high : ℕ) (txn : TxnId) (declared : Transaction) (closed gathers : ℕ) (instances : List Instance) (gathered : List Verdict) → Later old new low high
    → IsSoFar sc old low txn declared closed gathers instances gathered → IsSoFar sc new high txn declared closed gathers instances gathered
so_far_stays sc old new low high txn declared closed gathers instances gathered l h =
    record {
      count = h.count;
      demanded = demanded_stay sc declared old new low 1 txn instances l.grows h.trusted h.demanded;
      follow = h.follow;
      trusted = each_as (IsTrustedInstance sc old low txn) (IsTrustedInstance sc new high txn) (λ instance k. instance_stays sc old new low high txn instance l k) instances h.trusted;
      fronts = h.fronts;
      numbers = h.numbers;
      right = rights_stay sc old new low high txn gathered l h.right;
      have_rules = h.have_rules;
      pins = h.pins;
      rising = h.rising;
    }

none_closed_idle : (chosen : Scheme) (queries : ℕ) → closed_in chosen queries phase.Idle ≡ 0
none_closed_idle scheme.Deferred queries = refl
none_closed_idle scheme.Punctual queries = refl
none_closed_idle scheme.Incremental queries = refl
none_closed_idle scheme.Continuous queries = refl

none_gathered_idle : (chosen : Scheme) (queries : ℕ) → gathered_in chosen queries phase.Idle ≡ 0
none_gathered_idle scheme.Deferred queries = refl
none_gathered_idle scheme.Punctual queries = refl
none_gathered_idle scheme.Incremental queries = refl
none_gathered_idle scheme.Continuous queries = refl

none_at : (gathered : List Verdict) → gathered ≡ [] → EachAt (λ (n : ℕ) (instance : Instance). instance.proofs ≡ take (n + 1) gathered) []
none_at gathered e n instance there = absurd (cc)

-- before the submission nothing is closed or gathered
pub so_far_idle : (sc : Scenario) (facts : List Fact) (place : ℕ) (txn : TxnId) (declared : Transaction) → IsSoFarIn sc facts place txn declared phase.Idle [] []
so_far_idle sc facts place txn declared =
    record {
      count = sym (none_closed_idle declared.scheme (length declared.queries));
      demanded = refl;
      follow = refl;
      trusted = tt;
      fronts = λ incremental. none_at [] refl;
      numbers = ap (range_with_len 1) (sym (none_gathered_idle declared.scheme (length declared.queries)));
      right = tt;
      have_rules = refl;
      pins = tt;
      rising = tt;
    }

-- two phases before which as many are closed, where the scheme closes one at each query
pub closed_as : (chosen : Scheme) (queries : ℕ) (one other : Phase) → closed_before queries one ≡ closed_before queries other → closed_in chosen queries one ≡ closed_in chosen queries other
closed_as scheme.Deferred queries one other e = refl
closed_as scheme.Punctual queries one other e = e
closed_as scheme.Incremental queries one other e = e
closed_as scheme.Continuous queries one other e = e

-- or as many gathered, where the scheme gathers the proofs of its queries
pub gathered_as : (chosen : Scheme) (queries : ℕ) (one other : Phase) → gathered_before queries one ≡ gathered_before queries other → gathered_in chosen queries one ≡ gathered_in chosen queries other
gathered_as scheme.Deferred queries one other e = refl
gathered_as scheme.Punctual queries one other e = refl
gathered_as scheme.Incremental queries one other e = e
gathered_as scheme.Continuous queries one other e = refl

-- the other schemes gather none
pub none_gathered : (chosen : Scheme) (queries : ℕ) (awaited : Phase) → is_incremental chosen ≡ false → gathered_in chosen queries awaited ≡ 0
none_gathered scheme.Deferred queries awaited e = refl
none_gathered scheme.Punctual queries awaited e = refl
none_gathered scheme.Continuous queries awaited e = refl
none_gathered scheme.Incremental queries awaited e = absurd (cc)

-- what is closed and gathered stays as it is where as much is
pub so_far_on : (sc : Scenario) (facts : List Fact) (place : ℕ) (txn : TxnId) (declared : Transaction) (closed gathers other more : ℕ) (instances : List Instance) (gathered : List Verdict) → closed ≡ other → gathers ≡ more
    → IsSoFar sc facts place txn declared closed gathers instances gathered → IsSoFar sc facts place txn declared other more instances gathered
so_far_on sc facts place txn declared closed gathers other more instances gathered as_many as_gathered h =
    subst (λ (n : ℕ). IsSoFar sc facts place txn declared n more instances gathered) as_many (subst (λ (n : ℕ). IsSoFar sc facts place txn declared closed n instances gathered) as_gathered h)

-- ---- what comes after all that is closed and gathered

-- each of these verdicts was made after all of it
abbrev pub AreAbove : List Instance → List Verdict → List Verdict → Type 0
AreAbove instances gathered verdicts = Each (λ (verdict : Verdict). IsAbove verdict.place instances gathered) verdicts

after_reading : (reading : Option ℕ) (place : ℕ) → IfSome reading (λ (read : ℕ). read < place) → is_after_reading reading place ≡ true
after_reading None place h = refl
after_reading (Some read) place h = lt-ltb read place h

later_proof : (one : Instance) (proof : Verdict) → IsEarlierInstance proof.place one → is_later one proof ≡ true
later_proof one proof h =
    and_from _ _ (all_from_each (λ (other : Verdict). other.place < proof.place) (is_earlier_proof proof) (λ other less. lt-ltb other.place proof.place less) one.proofs h.proofs) (after_reading one.reading proof.place h.reading)

pub later_proofs : (one : Instance) (proofs : List Verdict) → Each (λ (proof : Verdict). IsEarlierInstance proof.place one) proofs → list_all (is_later one) proofs ≡ true
later_proofs one proofs h = all_from_each (λ (proof : Verdict). IsEarlierInstance proof.place one) (is_later one) (λ proof earlier. later_proof one proof earlier) proofs h

follows_later : (chosen : Scheme) (one next : Instance) → is_incremental chosen ≡ false → list_all (is_later one) next.proofs ≡ true → follows chosen one next ≡ true
follows_later scheme.Deferred one next e later = refl
follows_later scheme.Punctual one next e later = later
follows_later scheme.Continuous one next e later = later
follows_later scheme.Incremental one next e later = absurd (cc)

-- so an instance of such verdicts follows the last one that is closed
follows_last : (chosen : Scheme) (instances : List Instance) (gathered : List Verdict) (next : Instance) → is_incremental chosen ≡ false → AreAbove instances gathered next.proofs → FollowsLast chosen instances next
follows_last chosen [] gathered next e h = tt
follows_last chosen (one ∷ []) gathered next e h =
    follows_later chosen one next e
    (later_proofs one next.proofs (each_as (λ (proof : Verdict). IsAbove proof.place (one ∷ []) gathered) (λ (proof : Verdict). IsEarlierInstance proof.place one) (λ proof above. above.closed.0) next.proofs h))
follows_last chosen (one ∷ other ∷ instances) gathered next e h =
    follows_last chosen (other ∷ instances) gathered next e
    (each_as (λ (proof : Verdict). IsAbove proof.place (one ∷ other ∷ instances) gathered) (λ (proof : Verdict). IsAbove proof.place (other ∷ instances) gathered)
    (λ proof above. record { closed = above.closed.1; gathered_before = above.gathered_before }) next.proofs h)

-- ---- the proof of a query that was proved as it ran

-- an instance of its own
abbrev pub own_instance : Verdict → Instance
own_instance verdict = record { reading = None; proofs = verdict ∷ [] }

own_over : (verdict : Verdict) (number : ℕ) → verdict.query ≡ number → is_over number 1 (verdict ∷ []) ≡ true
own_over verdict number e = and_from (verdict.query == number) true (eq-eqb verdict.query number e) refl

own_demanded : (sc : Scenario) (facts : List Fact) (declared : Transaction) (verdict : Verdict) (number : ℕ) → declared.scheme ≡ scheme.Punctual → number ≤ length declared.queries → verdict.query ≡ number
    → is_instance sc facts declared number (own_instance verdict) ≡ true
own_demanded sc facts declared verdict number punctual most on =
    let queries = length declared.queries in
    let consistent = is_consistent sc declared facts (own_instance verdict) in
    ap (λ (s : Scheme). is_over (first_of s queries number) (many_of s queries number) (verdict ∷ []) && (if agrees_at s queries number then consistent else true)) punctual
    ∙ (ap (λ (b : Bool). is_over (if b then number else 1) (if b then 1 else queries) (verdict ∷ []) && (if nat_lt queries number then consistent else true)) (le-leb number queries most)
    ∙ (ap (λ (b : Bool). is_over number 1 (verdict ∷ []) && (if b then consistent else true)) (le-ltb number queries most)
    ∙ and_from (is_over number 1 (verdict ∷ [])) true (own_over verdict number on) refl))
  where
    le-ltb : (low high : ℕ) → low ≤ high → nat_lt high low ≡ false
    le-ltb low high le = grind (arith, nat_tests)

-- ---- fronts

-- instances are fronts of what is gathered, and so is one more that is the next
fronts_more : (instances : List Instance) (next : Instance) (gathered : List Verdict) (shift : ℕ) → next.proofs ≡ take (shift + length instances + 1) gathered
    → EachAt (λ (n : ℕ) (instance : Instance). instance.proofs ≡ take (shift + n + 1) gathered) instances → EachAt (λ (n : ℕ) (instance : Instance). instance.proofs ≡ take (shift + n + 1) gathered) (instances ++ next ∷ [])
fronts_more [] next gathered shift e h zero instance there = let same : next ≡ instance = cc in ap (λ (i : Instance). i.proofs) (sym same) ∙ e
fronts_more [] next gathered shift e h (suc n) instance there = absurd (cc)
fronts_more (one ∷ instances) next gathered shift e h zero instance there = h zero instance there
fronts_more (one ∷ instances) next gathered shift e h (suc n) instance there =
    let further : (k : ℕ) → shift + 1 + k + 1 ≡ shift + suc k + 1 = λ k. omega arith in
    let all : shift + length (one ∷ instances) + 1 ≡ shift + 1 + length instances + 1 = omega arith in
    fronts_more instances next gathered (shift + 1) (e ∙ ap (λ (k : ℕ). take k gathered) all)
    (λ k other found. h (suc k) other found ∙ ap (λ (m : ℕ). take m gathered) (sym (further k))) n instance there
    ∙ ap (λ (m : ℕ). take m gathered) (further n)

-- ---- an instance is closed

-- what holds of an instance that comes next
pub record IsNext (sc : Scenario) (facts : List Fact) (declared : Transaction) (instances : List Instance) (next : Instance) : Type 0 where
  pub demanded : is_instance sc facts declared (1 + length instances) next ≡ true
  pub follows_last : FollowsLast declared.scheme instances next

-- with it one more is closed, where it is a front if fronts are asked for
pub next_closed : (sc : Scenario) (facts : List Fact) (place : ℕ) (txn : TxnId) (declared : Transaction) (closed gathers : ℕ) (instances : List Instance) (gathered : List Verdict) (next : Instance) → IsNext sc facts declared instances next
    → IsTrustedInstance sc facts place txn next → (declared.scheme ≡ scheme.Incremental → next.proofs ≡ take (closed + 1) gathered) → IsSoFar sc facts place txn declared closed gathers instances gathered
    → IsSoFar sc facts place txn declared (closed + 1) gathers (instances ++ next ∷ []) gathered
next_closed sc facts place txn declared closed gathers instances gathered next is trusted front h =
    record {
      count = length_push instances next ∙ ap (λ (n : ℕ). n + 1) h.count;
      demanded = demanded_more sc facts declared 1 instances next h.demanded is.demanded;
      follow = follows_more declared.scheme instances next h.follow is.follows_last;
      trusted = each_append (IsTrustedInstance sc facts place txn) instances (next ∷ []) h.trusted (trusted, tt);
      fronts = λ incremental n instance there.
          fronts_more instances next gathered 0 (front incremental ∙ ap (λ (k : ℕ). take k gathered) (sym (ap (λ (k : ℕ). 0 + k + 1) h.count ∙ from_zero closed)))
          (λ k other found. h.fronts incremental k other found ∙ ap (λ (m : ℕ). take m gathered) (sym (from_zero k))) n instance there
          ∙ ap (λ (m : ℕ). take m gathered) (from_zero n);
      numbers = h.numbers;
      right = h.right;
      have_rules = h.have_rules;
      pins = h.pins;
      rising = h.rising;
    }
  where
    from_zero : (k : ℕ) → 0 + k + 1 ≡ k + 1
    from_zero k = omega arith

-- the proof of a punctual transaction's query comes next
pub own_next : (sc : Scenario) (facts : List Fact) (declared : Transaction) (number : ℕ) (instances : List Instance) (gathered : List Verdict) (verdict : Verdict) → declared.scheme ≡ scheme.Punctual → length instances + 1 ≡ number
    → number ≤ length declared.queries → verdict.query ≡ number → IsAbove verdict.place instances gathered → IsNext sc facts declared instances (own_instance verdict)
own_next sc facts declared number instances gathered verdict punctual numbered most on above =
    let this : number ≡ 1 + length instances = omega (arith, numbered) in
    record {
      demanded = subst (λ (n : ℕ). is_instance sc facts declared n (own_instance verdict) ≡ true) this (own_demanded sc facts declared verdict number punctual most on);
      follows_last = follows_last declared.scheme instances gathered (own_instance verdict) (ap is_incremental punctual) (above, tt);
    }

-- with it what it has closed is what it demands up to its query
pub own_closed : (sc : Scenario) (facts : List Fact) (place : ℕ) (txn : TxnId) (declared : Transaction) (number gathers : ℕ) (instances : List Instance) (gathered : List Verdict) (verdict : Verdict)
    → declared.scheme ≡ scheme.Punctual → number + 1 ≤ length declared.queries → verdict.query ≡ number + 1 → Right sc facts place txn verdict → has_rule verdict ≡ true → IsAbove verdict.place instances gathered
    → IsSoFar sc facts place txn declared number gathers instances gathered → IsSoFar sc facts place txn declared (number + 1) gathers (instances ++ own_instance verdict ∷ []) gathered
own_closed sc facts place txn declared number gathers instances gathered verdict punctual most on right true_one above h =
    next_closed sc facts place txn declared number gathers instances gathered (own_instance verdict)
    (own_next sc facts declared (number + 1) instances gathered verdict punctual (ap (λ (n : ℕ). n + 1) h.count) most on above)
    (record { right = (right, tt); have_rules = and_from (has_rule verdict) true true_one refl; timely = tt })
    (λ incremental. let same : scheme.Punctual ≡ scheme.Incremental = sym punctual ∙ incremental in absurd (cc)) h

-- ---- the demand at a commit

-- what the commit of a transaction rests on: what its scheme demands, and instances that are trusted
pub record IsTrustedCommit (sc : Scenario) (facts : List Fact) (place : ℕ) (txn : TxnId) (declared : Transaction) (committed : CommitRecord) : Type 0 where
  pub demanded : meets_demand sc facts declared committed ≡ true
  pub trusted : Each (IsTrustedInstance sc facts place txn) committed.instances

pub commit_stays : (sc : Scenario) (old new : List Fact) (low high : ℕ) (txn : TxnId) (declared : Transaction) (committed : CommitRecord) → Later old new low high
    → IsTrustedCommit sc old low txn declared committed → IsTrustedCommit sc new high txn declared committed
commit_stays sc old new low high txn declared committed l h =
    let many = length committed.instances == count_of declared.scheme (reads_master sc declared) (length declared.queries) in
    let rounds = and_parts (many && are_instances sc old declared 1 committed.instances && each_follows declared.scheme committed.instances) (is_round_count sc declared committed.rounds) h.demanded in
    let follow = and_parts (many && are_instances sc old declared 1 committed.instances) (each_follows declared.scheme committed.instances) rounds.0 in
    let are = and_parts many (are_instances sc old declared 1 committed.instances) follow.0 in
    record {
      demanded = and_from _ _ (and_from _ _ (and_from _ _ are.0 (demanded_stay sc declared old new low 1 txn committed.instances l.grows h.trusted are.1)) follow.1) rounds.1;
      trusted = each_as (IsTrustedInstance sc old low txn) (IsTrustedInstance sc new high txn) (λ instance k. instance_stays sc old new low high txn instance l k) committed.instances h.trusted;
    }

-- where the last instance is closed, and there are as many as the scheme demands, the demand is met
pub demand_met : (sc : Scenario) (facts : List Fact) (declared : Transaction) (committed : CommitRecord) (instances : List Instance) (last : Instance) → committed.instances ≡ instances ++ last ∷ []
    → length instances + 1 ≡ count_of declared.scheme (reads_master sc declared) (length declared.queries) → are_instances sc facts declared 1 instances ≡ true → each_follows declared.scheme instances ≡ true
    → is_instance sc facts declared (1 + length instances) last ≡ true → FollowsLast declared.scheme instances last → is_round_count sc declared committed.rounds ≡ true → meets_demand sc facts declared committed ≡ true
demand_met sc facts declared committed instances last is count demanded follow closing after rounds =
    and_from _ _ (and_from _ _ (and_from _ _
    (eq-eqb (length committed.instances) (count_of declared.scheme (reads_master sc declared) (length declared.queries)) (ap length is ∙ (length_push instances last ∙ count)))
    (ap (are_instances sc facts declared 1) is ∙ demanded_more sc facts declared 1 instances last demanded closing))
    (ap (each_follows declared.scheme) is ∙ follows_more declared.scheme instances last follow after)) rounds

-- ---- the instance that is closed at commit

pub same_numbers : (numbers : List ℕ) → pointwise ◌==◌ numbers numbers ≡ true
same_numbers [] = refl
same_numbers (n ∷ numbers) = and_from (n == n) (pointwise ◌==◌ numbers numbers) (number_itself n) (same_numbers numbers)

-- so many are closed before it
abbrev pub closed_before_last : Scheme → ℕ → ℕ
closed_before_last scheme.Deferred queries = 0
closed_before_last _ queries = queries

-- with it there are as many as the scheme demands
closed_all : (chosen : Scheme) (reads : Bool) (queries : ℕ) → is_incremental chosen ≡ false → closed_before_last chosen queries + 1 ≡ count_of chosen reads queries
closed_all scheme.Deferred reads queries e = refl
closed_all scheme.Punctual reads queries e = refl
closed_all scheme.Continuous reads queries e = refl
closed_all scheme.Incremental reads queries e = absurd (cc)

-- an instance over the first so many queries, which are to agree
record IsOver (chosen : Scheme) (queries number many : ℕ) : Type 0 where
  first : first_of chosen queries number ≡ 1
  many_is : many_of chosen queries number ≡ many
  agrees : agrees_at chosen queries number ≡ true

past_all : (queries number : ℕ) → number ≡ queries + 1 → nat_le number queries ≡ false
past_all queries number e = grind (arith, nat_tests)

after_all : (queries number : ℕ) → number ≡ queries + 1 → nat_lt queries number ≡ true
after_all queries number e = grind (arith, nat_tests)

over_all : (chosen : Scheme) (queries number : ℕ) → is_incremental chosen ≡ false → number ≡ closed_before_last chosen queries + 1 → IsOver chosen queries number queries
over_all scheme.Deferred queries number e is = record { first = refl; many_is = refl; agrees = refl }
over_all scheme.Punctual queries number e is =
    record { first = ap (λ (b : Bool). if b then number else 1) (past_all queries number is); many_is = ap (λ (b : Bool). if b then 1 else queries) (past_all queries number is); agrees = after_all queries number is }
over_all scheme.Continuous queries number e is = record { first = refl; many_is = omega (arith, is); agrees = refl }
over_all scheme.Incremental queries number e is = absurd (cc)

-- each of a continuous transaction's is over the queries up to its number
over_some : (chosen : Scheme) (queries number : ℕ) → chosen ≡ scheme.Continuous → number ≤ queries → IsOver chosen queries number number
over_some scheme.Continuous queries number e most = record { first = refl; many_is = omega (arith, most); agrees = refl }
over_some scheme.Deferred queries number e most = absurd (cc)
over_some scheme.Punctual queries number e most = absurd (cc)
over_some scheme.Incremental queries number e most = absurd (cc)

demanded_over : (sc : Scenario) (facts : List Fact) (declared : Transaction) (number many : ℕ) (next : Instance) → IsOver declared.scheme (length declared.queries) number many → numbers_of next.proofs ≡ range_with_len 1 many
    → is_consistent sc declared facts next ≡ true → is_instance sc facts declared number next ≡ true
demanded_over sc facts declared number many next h numbers consistent =
    let queries = length declared.queries in
    let over : is_over 1 many next.proofs ≡ true = ap (λ (ns : List ℕ). pointwise ◌==◌ ns (range_with_len 1 many)) numbers ∙ same_numbers (range_with_len 1 many) in
    and_from _ _ (ap (λ (first : ℕ). is_over first (many_of declared.scheme queries number) next.proofs) h.first ∙ (ap (λ (n : ℕ). is_over 1 n next.proofs) h.many_is ∙ over))
    (ap (λ (b : Bool). if b then is_consistent sc declared facts next else is_none next.reading) h.agrees ∙ consistent)

-- proofs of the queries up to one, made after all that is closed and consistent, are a continuous transaction's next instance
pub validated_next : (sc : Scenario) (facts : List Fact) (declared : Transaction) (number : ℕ) (instances : List Instance) (gathered : List Verdict) (next : Instance) → declared.scheme ≡ scheme.Continuous → length instances + 1 ≡ number
    → number ≤ length declared.queries → numbers_of next.proofs ≡ range_with_len 1 number → is_consistent sc declared facts next ≡ true → AreAbove instances gathered next.proofs → IsNext sc facts declared instances next
validated_next sc facts declared number instances gathered next continuous numbered most numbers consistent above =
    let this : 1 + length instances ≡ number = omega (arith, numbered) in
    record {
      demanded = demanded_over sc facts declared (1 + length instances) number next (subst (λ (n : ℕ). IsOver declared.scheme (length declared.queries) n number) (sym this) (over_some declared.scheme (length declared.queries) number continuous most)) numbers consistent;
      follows_last = follows_last declared.scheme instances gathered next (ap is_incremental continuous) above;
    }

rounds_counted : (sc : Scenario) (declared : Transaction) (rounds : ℕ) → is_incremental declared.scheme ≡ false → (1 ≤ rounds) × (rounds ≤ most_rounds sc declared) → is_round_count sc declared rounds ≡ true
rounds_counted sc declared rounds e h =
    ap (λ (b : Bool). if b then rounds == 0 else nat_le 1 rounds && nat_le rounds (most_rounds sc declared)) e
    ∙ and_from _ _ (le-leb 1 rounds h.0) (le-leb rounds (most_rounds sc declared) h.1)

-- proofs of all queries, made after all that is closed and consistent, close the last instance of a transaction that evaluates at commit
pub closing_commit : (sc : Scenario) (facts : List Fact) (place : ℕ) (txn : TxnId) (declared : Transaction) (gathers : ℕ) (instances : List Instance) (gathered : List Verdict) (last : Instance) (committed : CommitRecord)
    → is_incremental declared.scheme ≡ false → IsSoFar sc facts place txn declared (closed_before_last declared.scheme (length declared.queries)) gathers instances gathered
    → committed.instances ≡ instances ++ last ∷ [] → (1 ≤ committed.rounds) × (committed.rounds ≤ most_rounds sc declared) → numbers_of last.proofs ≡ range_with_len 1 (length declared.queries)
    → is_consistent sc declared facts last ≡ true → AreAbove instances gathered last.proofs → IsTrustedInstance sc facts place txn last → IsTrustedCommit sc facts place txn declared committed
closing_commit sc facts place txn declared gathers instances gathered last committed evaluates h is rounds numbers consistent above trusted =
    let queries = length declared.queries in
    let one_more : length instances + 1 ≡ closed_before_last declared.scheme queries + 1 = ap (λ (n : ℕ). n + 1) h.count in
    let numbered : 1 + length instances ≡ closed_before_last declared.scheme queries + 1 = omega (arith, one_more) in
    record {
      demanded = demand_met sc facts declared committed instances last is (one_more ∙ closed_all declared.scheme (reads_master sc declared) queries evaluates) h.demanded h.follow
          (demanded_over sc facts declared (1 + length instances) queries last (over_all declared.scheme queries (1 + length instances) evaluates numbered) numbers consistent)
          (follows_last declared.scheme instances gathered last evaluates above) (rounds_counted sc declared committed.rounds evaluates rounds);
      trusted = subst (Each (IsTrustedInstance sc facts place txn)) (sym is) (each_append (IsTrustedInstance sc facts place txn) instances (last ∷ []) h.trusted (trusted, tt));
    }
