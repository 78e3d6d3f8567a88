-- Trust: what staples, verdicts, records, mails and actors rest on, and that it stays as facts are added.
use Rattle.std.specs.List.{count_by, filter_map, list_all, list_any, range_with_len, sum_by}
use Rattle.std.proofs.Common.{Bool, IfSome, List, None, Option, Some, [], ap, arith, cond, false, filter, is_some, length, refl, slice_get, sym, true, ℕ, ◌&&◌, ◌+◌, ◌<◌, ◌∙◌, ◌∷◌, ◌≡◌, ◌≤◌}
use Rattle.std.proofs.lemmas.Bool.Decides.{nat_tests}
use Rattle.std.proofs.lemmas.List.Sums.{sum_by-cons}
use Rattle.tp_model.specs.Authorisation.{Question, is_allowed, is_certified, is_own_query, policy_at, question_of, rule_proves, tests_version}
use Rattle.tp_model.specs.Credentials.{clock_at, is_among, is_presented, is_valid_in, revoked_at, revoked_by, tick_of, triples_in}
use Rattle.tp_model.specs.Facts.{before, is_earlier, is_submission, was_submitted}
use Rattle.tp_model.specs.Policies.{allows}
use Rattle.tp_model.specs.Versions.{is_publication, newest, opening_version}
use Rattle.tp_model.specs.Words.answer
use Rattle.tp_model.specs.Words.body
use Rattle.tp_model.specs.Words.vote
use Rattle.tp_model.specs.Words.{Action, AdminId, Answer, Body, CredId, Fact, Mail, Newer, NewestReply, Policy, QueryRequest, Scenario, Staple, Transaction, TxnId, Verdict, Version, Vote}
use Rattle.tp_runs.proofs.basics.Facts.{Grows}
use Rattle.tp_runs.proofs.basics.Turns.{admin_asked}
use Rattle.tp_types.proofs.EachLemmas.{each_as}
use Rattle.tp_types.specs.Each.{Each, EachPlaced}
use Rattle.tp_machine.specs.Named.{IsAdmin}
use Rattle.tp_coord.specs.Row.{staple_of}
use Rattle.tp_server.specs.State.{Server}
use Rattle.tp_server.specs.Verdicts.{version_known}
use Rattle.tp_offices.specs.Authority.{revocations}
use Rattle.tp_offices.specs.Master.{version_for}
use Rattle.tp_offices.specs.declared.authority.Authority.{Authority}

-- ---- what is said of the facts before a place

-- a staple is the authority's answer of its place, which came after the submission
pub record StapleFits (sc : Scenario) (facts : List Fact) (place : ℕ) (txn : TxnId) (staple : Staple) : Type 0 where
  pub clock_is : staple.clock ≡ clock_at sc staple.place facts
  pub revoked_is : (cred : CredId) → is_among staple.revoked cred ≡ is_among (revoked_at staple.place facts) cred
  pub begun : was_submitted txn staple.place facts ≡ true
  pub past : staple.place < place

-- a verdict, true or false, is right: it is what the policy gives on what the transaction held at its place
pub record IsRight (sc : Scenario) (facts : List Fact) (place : ℕ) (txn : TxnId) (declared : Transaction) (verdict : Verdict) : Type 0 where
  pub own : is_own_query sc declared verdict.query verdict.server verdict.admin ≡ true
  pub fits : is_allowed sc facts declared (question_of verdict) ≡ is_some verdict.rule
  pub proved : is_some verdict.rule ≡ true → is_certified sc facts declared verdict ≡ true
  pub begun : was_submitted txn verdict.place facts ≡ true
  pub past : verdict.place < place
  pub published : verdict.version.0 ≤ newest sc verdict.admin place facts

abbrev pub Right : Scenario → List Fact → ℕ → TxnId → Verdict → Type 0
Right sc facts place txn verdict = (declared : Transaction) → slice_get sc.txns txn.0 ≡ Some declared → IsRight sc facts place txn declared verdict

-- the transaction was submitted
abbrev pub IsSubmitted : List Fact → TxnId → Type 0
IsSubmitted facts txn = list_any (is_submission txn) facts ≡ true

-- these are the numbers of all the transaction's queries, in order
abbrev pub AreAll : Scenario → TxnId → List ℕ → Type 0
AreAll sc txn numbers = (declared : Transaction) → slice_get sc.txns txn.0 ≡ Some declared → numbers ≡ range_with_len 1 (length declared.queries)

abbrev pub has_rule : Verdict → Bool
has_rule verdict = is_some verdict.rule

-- a vote's verdicts are right
abbrev pub VoteFits : Scenario → List Fact → ℕ → TxnId → Vote → Type 0
VoteFits sc facts place txn (vote.Yes verdicts) = Each (Right sc facts place txn) verdicts
VoteFits sc facts place txn _ = Unit {0}

-- a version that a server found is newer than the one that was used, and none above the newest
pub record NewerFits (sc : Scenario) (facts : List Fact) (place : ℕ) (newer : Newer) : Type 0 where
  pub above : newer.used.0 < newer.found.0
  pub published : newer.found.0 ≤ newest sc newer.admin place facts

abbrev pub AnswerFits : Scenario → List Fact → ℕ → TxnId → Answer → Type 0
AnswerFits sc facts place txn (answer.Ran value verdict) = IfSome verdict (Right sc facts place txn)
AnswerFits sc facts place txn (answer.Denied verdict) = Right sc facts place txn verdict
AnswerFits sc facts place txn (answer.Newer newer) = NewerFits sc facts place newer
AnswerFits sc facts place txn _ = Unit {0}

-- a version of an administrator, wanted or pushed, is none above the newest
abbrev pub IsPublished : Scenario → List Fact → ℕ → AdminId × Version → Type 0
IsPublished sc facts place wanted = wanted.1.0 ≤ newest sc wanted.0 place facts

-- a query's staple fits, and its pin is a version of the administrator of its item, none above the newest
pub record QueryFits (sc : Scenario) (facts : List Fact) (place : ℕ) (q : QueryRequest) : Type 0 where
  pub stapled : IfSome q.staple (StapleFits sc facts place q.txn)
  pub pinned : IfSome q.pin (λ (pin : Version). IfSome (admin_asked sc q.txn q.query) (λ (admin : AdminId). IsPublished sc facts place (admin, pin)))

-- what the master told is the newest version of each administrator at the place where it was sent, which came after the submission
pub record NewestFits (sc : Scenario) (facts : List Fact) (place sent : ℕ) (reply : NewestReply) : Type 0 where
  pub newest_is : (admin : AdminId) → IsAdmin sc admin → (version_for reply.newest admin).0 ≡ newest sc admin sent facts
  pub begun : was_submitted reply.txn sent facts ≡ true
  pub past : sent < place

-- what a mail that was sent at a place says of itself
abbrev pub BodyFits : Scenario → List Fact → ℕ → ℕ → Body → Type 0
BodyFits sc facts place sent (body.Query q) = QueryFits sc facts place q
BodyFits sc facts place sent (body.Done done) = AnswerFits sc facts place done.txn done.answer
BodyFits sc facts place sent (body.Ask ask) = IsSubmitted facts ask.txn
BodyFits sc facts place sent (body.Tell tell) = StapleFits sc facts place tell.txn (staple_of tell sent)
BodyFits sc facts place sent (body.Validate v) = StapleFits sc facts place v.txn v.staple × Each (IsPublished sc facts place) v.want
BodyFits sc facts place sent (body.Verdicts reply) = IfSome reply.verdicts (Each (Right sc facts place reply.txn))
BodyFits sc facts place sent (body.Prepare p) = IfSome p.staple (StapleFits sc facts place p.txn) × Each (IsPublished sc facts place) p.want
BodyFits sc facts place sent (body.Vote reply) = VoteFits sc facts place reply.txn reply.vote
BodyFits sc facts place sent (body.Probe probe) = IsSubmitted facts probe.txn
BodyFits sc facts place sent (body.Newest reply) = NewestFits sc facts place sent reply
BodyFits sc facts place sent (body.Push push) = IsPublished sc facts place (push.admin, push.version)
BodyFits sc facts place sent _ = Unit {0}

abbrev pub MailFits : Scenario → List Fact → ℕ → Mail → Type 0
MailFits sc facts place mail = BodyFits sc facts place mail.sent mail.letter.body

-- a server knows no version that is newer than the newest
pub record ServerFits (sc : Scenario) (facts : List Fact) (place : ℕ) (s : Server) : Type 0 where
  pub known : (admin : AdminId) → IsAdmin sc admin → (version_known s admin).0 ≤ newest sc admin place facts

-- the authority's clock and revocations are those of the facts; each credential that was revoked stands at its own place
pub record AuthorityFits (sc : Scenario) (facts : List Fact) (place : ℕ) (authority : Authority) : Type 0 where
  pub clock_is : authority.clock ≡ clock_at sc place facts
  pub revoked_is : (cred : CredId) → is_among (revocations authority.revoked) cred ≡ is_among (revoked_at place facts) cred
  pub placed : EachPlaced (λ (n : ℕ) (cred : CredId). cred.0 ≡ n) authority.revoked
  pub places : length authority.revoked ≡ length sc.creds

-- ---- it stays as facts are added

-- facts grow from one place to a later one
pub record Later (old new : List Fact) (low high : ℕ) : Type 0 where
  pub grows : Grows old new low
  pub le : low ≤ high
  pub more : (txn : TxnId) → list_any (is_submission txn) old ≡ true → list_any (is_submission txn) new ≡ true

count_step : (test : Fact → Bool) (a b : Bool) (x : Fact) (us vs : List Fact) → (a ≡ true → b ≡ true) → count_by test us ≤ count_by test vs
    → count_by test (cond a (x ∷ us) us) ≤ count_by test (cond b (x ∷ vs) vs)
count_step test true true x us vs ab h =
    let left : count_by test (x ∷ us) ≡ cond (test x) 1 0 + count_by test us = sum_by-cons (λ z. cond (test z) 1 0) x us in
    let right : count_by test (x ∷ vs) ≡ cond (test x) 1 0 + count_by test vs = sum_by-cons (λ z. cond (test z) 1 0) x vs in
    omega (arith, left, right, h)
count_step test true false x us vs ab h = let impossible = ab refl in absurd (cc)
count_step test false true x us vs ab h =
    let right : count_by test (x ∷ vs) ≡ cond (test x) 1 0 + count_by test vs = sum_by-cons (λ z. cond (test z) 1 0) x vs in
    omega (arith, right, h)
count_step test false false x us vs ab h = h

earlier_rises : (low high : ℕ) (fact : Fact) → low ≤ high → is_earlier low fact ≡ true → is_earlier high fact ≡ true
earlier_rises low high fact le e = grind (arith, nat_tests)

-- as many facts are before a later place
pub count_rises : (test : Fact → Bool) (low high : ℕ) (facts : List Fact) → low ≤ high → count_by test (before low facts) ≤ count_by test (before high facts)
count_rises test low high [] le = omega arith
count_rises test low high (fact ∷ facts) le =
    count_step test (is_earlier low fact) (is_earlier high fact) fact (before low facts) (before high facts) (earlier_rises low high fact le) (count_rises test low high facts le)

-- the newest version never falls
pub newest_rises : (sc : Scenario) (admin : AdminId) (old new : List Fact) (low high : ℕ) → Later old new low high → newest sc admin low old ≤ newest sc admin high new
newest_rises sc admin old new low high l =
    let same : count_by (is_publication admin) (before low new) ≡ count_by (is_publication admin) (before low old) = ap (count_by (is_publication admin)) (l.grows.same low (omega arith)) in
    omega (arith, same, count_rises (is_publication admin) low high new l.le)

-- definitions by the list of facts before their place
abbrev valid_by : Scenario → List Fact → CredId → Bool
valid_by sc earlier cred = is_valid_in sc.creds (sc.clock + sum_by tick_of earlier) (filter_map revoked_by earlier) cred

abbrev allowed_by : Scenario → List Fact → Transaction → Question → Bool
allowed_by sc earlier txn question =
    tests_version (λ (asked : Action) (item : List ℕ) (policy : Policy). allows policy asked item (triples_in sc.creds txn.subject (filter (valid_by sc earlier) txn.creds))) sc txn question.query (policy_at sc question.admin question.version)

abbrev certified_by : Scenario → List Fact → Transaction → Verdict → Bool
certified_by sc earlier txn verdict =
    tests_version (rule_proves sc txn verdict.uses verdict.rule) sc txn verdict.query (policy_at sc verdict.admin verdict.version)
    && list_all (λ (cred : CredId). is_presented txn cred && valid_by sc earlier cred) verdict.uses

pub allowed_stays : (sc : Scenario) (old new : List Fact) (txn : Transaction) (question : Question) → before question.place new ≡ before question.place old
    → is_allowed sc new txn question ≡ is_allowed sc old txn question
allowed_stays sc old new txn question e = ap (λ (earlier : List Fact). allowed_by sc earlier txn question) e

pub certified_stays : (sc : Scenario) (old new : List Fact) (txn : Transaction) (verdict : Verdict) → before verdict.place new ≡ before verdict.place old
    → is_certified sc new txn verdict ≡ is_certified sc old txn verdict
certified_stays sc old new txn verdict e = ap (λ (earlier : List Fact). certified_by sc earlier txn verdict) e

pub submitted_stays : (old new : List Fact) (txn : TxnId) (place : ℕ) → before place new ≡ before place old → was_submitted txn place old ≡ true → was_submitted txn place new ≡ true
submitted_stays old new txn place e h = ap (list_any (is_submission txn)) e ∙ h

pub staple_stays : (sc : Scenario) (old new : List Fact) (low high : ℕ) (txn : TxnId) (staple : Staple) → Later old new low high → StapleFits sc old low txn staple → StapleFits sc new high txn staple
staple_stays sc old new low high txn staple l h =
    let same : before staple.place new ≡ before staple.place old = l.grows.same staple.place (omega (arith, h.past)) in
    record {
      clock_is = h.clock_is ∙ ap (λ (earlier : List Fact). sc.clock + sum_by tick_of earlier) (sym same);
      revoked_is = λ cred. h.revoked_is cred ∙ ap (λ (earlier : List Fact). is_among (filter_map revoked_by earlier) cred) (sym same);
      begun = submitted_stays old new txn staple.place same h.begun;
      past = omega (arith, h.past, l.le);
    }

pub right_stays : (sc : Scenario) (old new : List Fact) (low high : ℕ) (txn : TxnId) (verdict : Verdict) → Later old new low high → Right sc old low txn verdict → Right sc new high txn verdict
right_stays sc old new low high txn verdict l h declared found =
    let was : IsRight sc old low txn declared verdict = h declared found in
    let same : before verdict.place new ≡ before verdict.place old = l.grows.same verdict.place (omega (arith, was.past)) in
    record {
      own = was.own;
      fits = allowed_stays sc old new declared (question_of verdict) same ∙ was.fits;
      proved = λ has_rule. certified_stays sc old new declared verdict same ∙ was.proved has_rule;
      begun = submitted_stays old new txn verdict.place same was.begun;
      past = omega (arith, was.past, l.le);
      published = omega (arith, was.published, newest_rises sc verdict.admin old new low high l);
    }

pub rights_stay : (sc : Scenario) (old new : List Fact) (low high : ℕ) (txn : TxnId) (verdicts : List Verdict) → Later old new low high → Each (Right sc old low txn) verdicts → Each (Right sc new high txn) verdicts
rights_stay sc old new low high txn verdicts l h = each_as (Right sc old low txn) (Right sc new high txn) (λ v r. right_stays sc old new low high txn v l r) verdicts h

pub maybe_stays : {A : Type 0} (P Q : A → Type 0) (found : Option A) → ((x : A) → P x → Q x) → IfSome found P → IfSome found Q
maybe_stays P Q None step h = tt
maybe_stays P Q (Some x) step h = step x h

vote_stays_in_trust : (sc : Scenario) (old new : List Fact) (low high : ℕ) (txn : TxnId) (said : Vote) → Later old new low high → VoteFits sc old low txn said → VoteFits sc new high txn said
vote_stays_in_trust sc old new low high txn (vote.Yes verdicts) l h = rights_stay sc old new low high txn verdicts l h
vote_stays_in_trust sc old new low high txn _ l h = tt

answer_stays_in_trust : (sc : Scenario) (old new : List Fact) (low high : ℕ) (txn : TxnId) (said : Answer) → Later old new low high → AnswerFits sc old low txn said → AnswerFits sc new high txn said
answer_stays_in_trust sc old new low high txn (answer.Ran value verdict) l h =
    maybe_stays (Right sc old low txn) (Right sc new high txn) verdict (λ v r. right_stays sc old new low high txn v l r) h
answer_stays_in_trust sc old new low high txn (answer.Denied verdict) l h = right_stays sc old new low high txn verdict l h
answer_stays_in_trust sc old new low high txn (answer.Newer newer) l h =
    record { above = h.above; published = omega (arith, h.published, newest_rises sc newer.admin old new low high l) }
answer_stays_in_trust sc old new low high txn _ l h = tt

published_stays : (sc : Scenario) (old new : List Fact) (low high : ℕ) (wanted : AdminId × Version) → Later old new low high → IsPublished sc old low wanted → IsPublished sc new high wanted
published_stays sc old new low high wanted l h = omega (arith, h, newest_rises sc wanted.0 old new low high l)

wants_stay : (sc : Scenario) (old new : List Fact) (low high : ℕ) (want : List (AdminId × Version)) → Later old new low high → Each (IsPublished sc old low) want → Each (IsPublished sc new high) want
wants_stay sc old new low high want l h =
    each_as (IsPublished sc old low) (IsPublished sc new high) (λ wanted below. published_stays sc old new low high wanted l below) want h

query_stays : (sc : Scenario) (old new : List Fact) (low high : ℕ) (q : QueryRequest) → Later old new low high → QueryFits sc old low q → QueryFits sc new high q
query_stays sc old new low high q l h =
    let was : Version → Type 0 = λ pin. IfSome (admin_asked sc q.txn q.query) (λ (admin : AdminId). IsPublished sc old low (admin, pin)) in
    let now : Version → Type 0 = λ pin. IfSome (admin_asked sc q.txn q.query) (λ (admin : AdminId). IsPublished sc new high (admin, pin)) in
    record {
      stapled = maybe_stays (StapleFits sc old low q.txn) (StapleFits sc new high q.txn) q.staple (λ s f. staple_stays sc old new low high q.txn s l f) h.stapled;
      pinned = maybe_stays was now q.pin
          (λ pin k. maybe_stays (λ (admin : AdminId). IsPublished sc old low (admin, pin)) (λ (admin : AdminId). IsPublished sc new high (admin, pin)) (admin_asked sc q.txn q.query)
          (λ admin below. published_stays sc old new low high (admin, pin) l below) k) h.pinned;
    }

newest_stays : (sc : Scenario) (old new : List Fact) (low high sent : ℕ) (reply : NewestReply) → Later old new low high → NewestFits sc old low sent reply → NewestFits sc new high sent reply
newest_stays sc old new low high sent reply l h =
    let same : before sent new ≡ before sent old = l.grows.same sent (omega (arith, h.past)) in
    record {
      newest_is = λ admin exists. h.newest_is admin exists ∙ ap (λ (earlier : List Fact). (opening_version sc admin).0 + count_by (is_publication admin) earlier) (sym same);
      begun = submitted_stays old new reply.txn sent same h.begun;
      past = omega (arith, h.past, l.le);
    }

pub body_stays : (sc : Scenario) (old new : List Fact) (low high sent : ℕ) (said : Body) → Later old new low high → BodyFits sc old low sent said → BodyFits sc new high sent said
body_stays sc old new low high sent (body.Query q) l h = query_stays sc old new low high q l h
body_stays sc old new low high sent (body.Done done) l h = answer_stays_in_trust sc old new low high done.txn done.answer l h
body_stays sc old new low high sent (body.Ask ask) l h = l.more ask.txn h
body_stays sc old new low high sent (body.Tell tell) l h = staple_stays sc old new low high tell.txn (staple_of tell sent) l h
body_stays sc old new low high sent (body.Prepare p) l h =
    (maybe_stays (StapleFits sc old low p.txn) (StapleFits sc new high p.txn) p.staple (λ s f. staple_stays sc old new low high p.txn s l f) h.0, wants_stay sc old new low high p.want l h.1)
body_stays sc old new low high sent (body.Validate v) l h = (staple_stays sc old new low high v.txn v.staple l h.0, wants_stay sc old new low high v.want l h.1)
body_stays sc old new low high sent (body.Verdicts reply) l h =
    maybe_stays (Each (Right sc old low reply.txn)) (Each (Right sc new high reply.txn)) reply.verdicts (λ verdicts k. rights_stay sc old new low high reply.txn verdicts l k) h
body_stays sc old new low high sent (body.Vote reply) l h = vote_stays_in_trust sc old new low high reply.txn reply.vote l h
body_stays sc old new low high sent (body.Probe probe) l h = l.more probe.txn h
body_stays sc old new low high sent (body.Newest reply) l h = newest_stays sc old new low high sent reply l h
body_stays sc old new low high sent (body.Push push) l h = published_stays sc old new low high (push.admin, push.version) l h
body_stays sc old new low high sent _ l h = tt

pub server_stays : (sc : Scenario) (old new : List Fact) (low high : ℕ) (s : Server) → Later old new low high → ServerFits sc old low s → ServerFits sc new high s
server_stays sc old new low high s l h = record { known = λ admin within. omega (arith, h.known admin within, newest_rises sc admin old new low high l) }
