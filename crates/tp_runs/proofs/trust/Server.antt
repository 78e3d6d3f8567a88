-- Trust, the server's rows: verdicts are right at the place of the staple, and there is one for each query.
use Rattle.std.proofs.Common.{Bool, IfSome, List, None, Option, Some, [], ap, arith, false, is_none, is_some, length, max, nat_lt, not, option_and_then, option_map, refl, slice_get, slice_set, subst, suc, sym, true, unwrap_or, zero, ℕ, ℤ, if◌then◌else◌, ◌<◌, ◌==◌, ◌∙◌, ◌∷◌, ◌≡◌, ◌≤◌, ⊎_elim}
use Rattle.std.proofs.lemmas.Bool.{and_from, ltb-false, ltb-true}
use Rattle.std.proofs.lemmas.Option.{same_Some}
use Rattle.std.specs.Option.{option_map_or}
use Rattle.tp_types.proofs.EachLemmas.{each_append, each_get, each_more, placed_set, some_if_not_none}
use Rattle.tp_types.proofs.ListLemmas.{number_itself}
use Rattle.tp_types.specs.Each.{Each}
use Rattle.tp_types.specs.Effect.{Effect, ignores, sends}
use Rattle.tp_model.specs.Authorisation.{is_item_at, is_own_query, is_query_at, library_version, policy_at, version_of}
use Rattle.tp_model.specs.Deeds.{deed_of}
use Rattle.tp_model.specs.Queries.{item_of, query_at}
use Rattle.tp_model.specs.Versions.{newest}
use Rattle.tp_model.specs.Words.{AdminId, Answer, Body, Deed, DoneReply, Fact, Item, Letter, Mail, Newer, Policy, Query, QueryRequest, Record, Scenario, ServerId, Staple, Transaction, TxnId, Verdict, Version}
use Rattle.tp_model.specs.Words.answer
use Rattle.tp_model.specs.Words.body
use Rattle.tp_coord.specs.State.{Coordinator}
use Rattle.tp_coord.specs.declared.coordinator.Phase.{Phase}
use Rattle.tp_coord.specs.declared.coordinator.Phase.TheVariants as phase
use Rattle.tp_lock.specs.declared.entry.Grant.{Grant}
use Rattle.tp_machine.specs.Named.{IsAdmin, IsTxn}
use Rattle.tp_scheme.specs.Gathered.{pin_of}
use Rattle.tp_server.proofs.RightVerdicts.{evaluate_right}
use Rattle.tp_server.proofs.Rows.{IsAsking, IsDenied, IsFirstHere, IsFurther, IsResumed, IsRunning, refusing, resuming, unwaiting}
use Rattle.tp_server.specs.Evaluation.{IsRightVerdict}
use Rattle.tp_server.specs.Row.{answers, answers_with, completes, entry_after, followed_by, newer_known, pinned, ran_as, reply_of, verdict_at, with_entry}
use Rattle.tp_server.specs.State.{Server}
use Rattle.tp_server.specs.Verdicts.{admin_of, verdict_on, version_known, version_used, with_pin}
use Rattle.tp_server.specs.declared.server.Entry.{Entry}
use Rattle.tp_store.specs.Rule.{greater}
use Rattle.tp_runs.proofs.basics.Ids.{admin_number}
use Rattle.tp_runs.proofs.basics.Stores.{kept_known}
use Rattle.tp_runs.proofs.basics.Turns.{Answers, DoneNow, IsAskedSo, IsClosed, IsOnQuery, QueryNow, RanNow, Stamp, admin_asked, admin_of_query, stamp_of}
use Rattle.tp_runs.proofs.basics.Verdicts.{IsProvedAt, proved_at, unproved_at}
use Rattle.tp_runs.proofs.basics.Versions.{known_most, used_by}
use Rattle.tp_runs.proofs.ids.Server.{verdict_query}
use Rattle.tp_runs.proofs.ids.Valid.{IsValid, IsValidItem}
use Rattle.tp_runs.proofs.trust.Coordinator.{declared_there}
use Rattle.tp_runs.proofs.trust.Fit.{AnswerFits, BodyFits, IsPublished, IsRight, NewerFits, QueryFits, Right, ServerFits, StapleFits, maybe_stays}
use Rattle.tp_runs.proofs.trust.Kept.{AreKept, IsKept, IsTrusted, RecordKept}
use Rattle.tp_runs.specs.Sound.{IsQueryAt, IsSoundDeedAt, IsVersion, query_in}

-- an act of a server: what it is after it, if it is up, fits; what it keeps and forced, and its letters, fit too and T of them. T is closed
-- under answers, and is so of the mail
pub record ServerTrusts (sc : Scenario) (facts : List Fact) (place : ℕ) (T : Body → Type 0) (now : Option Server) (append : Option Record) (letters : List Letter) : Type 0 where
  pub fits : IfSome now (ServerFits sc facts place)
  pub keeps : IfSome now (AreKept (IsTrusted sc facts place T))
  pub forces : IfSome append (RecordKept (IsTrusted sc facts place T))
  pub says : Each (λ (letter : Letter). BodyFits sc facts place place letter.body) letters
  pub timely : Each (λ (letter : Letter). IfSome (stamp_of letter.body) (λ (stamped : Stamp). T letter.body)) letters

-- that of a row
abbrev pub RowTrusts : Scenario → List Fact → ℕ → (Body → Type 0) → Effect Server → Type 0
RowTrusts sc facts place T effect = ServerTrusts sc facts place T (Some effect.state) effect.reaction.append effect.reaction.letters

-- a server before its row
pub record ServerTrusted (sc : Scenario) (facts : List Fact) (place : ℕ) (T : Body → Type 0) (s : Server) : Type 0 where
  pub fits : ServerFits sc facts place s
  pub keeps : AreKept (IsTrusted sc facts place T) s

pub ignores_trusts_in_server : (sc : Scenario) (facts : List Fact) (place : ℕ) (T : Body → Type 0) (s : Server) → ServerTrusted sc facts place T s → RowTrusts sc facts place T (ignores s)
ignores_trusts_in_server sc facts place T s h = record { fits = h.fits; keeps = h.keeps; forces = tt; says = tt; timely = tt }

-- ---- verdicts

found_query : (sc : Scenario) (txn : TxnId) (declared : Transaction) (number : ℕ) (asked : Query) → slice_get sc.txns txn.0 ≡ Some declared → query_in sc txn number ≡ Some asked → query_at declared number ≡ Some asked
found_query sc txn declared number asked e f = sym (ap (λ (found : Option Transaction). option_and_then (λ (d : Transaction). query_at d number) found) e) ∙ f

-- the verdict names a query of the transaction with its server and its administrator
pub own_query : (sc : Scenario) (txn : TxnId) (declared : Transaction) (number : ℕ) (at : ServerId) (admin : AdminId) → slice_get sc.txns txn.0 ≡ Some declared → (q : IsQueryAt sc txn number at admin)
    → is_own_query sc declared number at admin ≡ true
own_query sc txn declared number at admin e q =
    ap (λ (found : Option Query). option_map_or (is_query_at sc at admin) found false) (found_query sc txn declared number q.asked e q.asked_is)
    ∙ (ap (λ (found : Option Item). option_map_or (is_item_at at admin) found false) q.kept.declared_is
    ∙ and_from (q.kept.declared.server.0 == at.0) (q.kept.declared.admin.0 == admin.0)
    (ap (λ (s : ServerId). s.0 == at.0) q.kept.server_is ∙ number_itself at.0) (ap (λ (a : AdminId). a.0 == admin.0) q.admin_is ∙ number_itself admin.0))

library_has : (library : List Policy) (version : ℕ) → 1 ≤ version → version ≤ length library → (policy : Policy) × (library_version library version ≡ Some policy)
library_has library zero low high = absurd (omega (arith, low))
library_has [] (suc before) low high = absurd (omega (arith, high))
library_has (policy ∷ library) (suc zero) low high = (policy, refl)
library_has (policy ∷ library) (suc (suc before)) low high = library_has library (suc before) (omega arith) (omega (arith, high))

-- a version that exists has a policy
pub policy_there : (sc : Scenario) (admin : AdminId) (version : Version) → IsVersion sc admin version → is_some (policy_at sc admin version) ≡ true
policy_there sc admin version v =
    let found = library_has v.declared.library version.0 v.in_library.0 v.in_library.1 in
    ap is_some (ap (option_and_then (version_of version.0)) v.declared_is ∙ found.1)

-- a server evaluates no version above the newest
used_published : (sc : Scenario) (facts : List Fact) (place : ℕ) (s : Server) (want : List (AdminId × Version)) (admin : AdminId) → ServerFits sc facts place s → Each (IsPublished sc facts place) want → IsAdmin sc admin
    → (version_used s want admin).0 ≤ newest sc admin place facts
used_published sc facts place s want admin h w within = used_by (λ (a : AdminId) (version : Version). version.0 ≤ newest sc a place facts) s want admin w (h.known admin within)

-- what a server's evaluation gives is right: a staple has the clock and the revocations of its place
pub verdict_right : (sc : Scenario) (facts : List Fact) (place : ℕ) (s : Server) (txn : TxnId) (presenting : Transaction) (staple : Staple) (want : List (AdminId × Version)) (deed : Deed) → IsValid sc → ServerFits sc facts place s
    → Each (IsPublished sc facts place) want → slice_get sc.txns txn.0 ≡ Some presenting → StapleFits sc facts place txn staple → IsSoundDeedAt sc s.server txn deed
    → Right sc facts place txn (verdict_on sc s presenting staple want deed)
verdict_right sc facts place s txn presenting staple want deed valid h published there fits d declared e =
    let verdict = verdict_on sc s presenting staple want deed in
    let on : IsQueryAt sc txn verdict.query verdict.server verdict.admin = verdict_query sc s.server txn deed d in
    let within : IsAdmin sc verdict.admin = subst (IsAdmin sc) on.admin_is (each_get (IsValidItem sc) sc.items (item_of on.asked).0 on.kept.declared valid.items on.kept.declared_is).admin in
    let right : IsRightVerdict sc facts presenting verdict =
    evaluate_right sc facts presenting staple s.server deed.query verdict.admin verdict.version (record { clock = fits.clock_is; revocations = fits.revoked_is }) in
    subst (λ (t : Transaction). IsRight sc facts place txn t verdict) (same_Some presenting declared (sym there ∙ e))
    (record {
      own = own_query sc txn presenting verdict.query verdict.server verdict.admin there on;
      fits = right.fits;
      proved = right.proved;
      begun = fits.begun;
      past = fits.past;
      published = used_published sc facts place s want verdict.admin h published within;
    })

-- ---- pins

-- the version that a server knows is newer than the pinned one
record IsNewer (s : Server) (admin : AdminId) (pin : Option Version) (newer : Newer) : Type 0 where
  admin_is : newer.admin ≡ admin
  pin_is : pin ≡ Some newer.used
  found_is : newer.found ≡ version_known s admin
  above : newer.used.0 < newer.found.0

newer_is : (s : Server) (admin : AdminId) (pin : Option Version) (newer : Newer) → newer_known s admin pin ≡ Some newer → IsNewer s admin pin newer
newer_is s admin None newer e = absurd (cc)
newer_is s admin (Some pin) newer e = by_test (nat_lt pin.0 (version_known s admin).0) refl e
  where
    by_test : (b : Bool) → nat_lt pin.0 (version_known s admin).0 ≡ b → (if b then Some (record { admin = admin; used = pin; found = version_known s admin }) else None) ≡ Some newer → IsNewer s admin (Some pin) newer
    by_test false f g = absurd (cc)
    by_test true f g =
        let same : record { admin = admin; used = pin; found = version_known s admin } ≡ newer = same_Some (record { admin = admin; used = pin; found = version_known s admin }) newer g in
        subst (λ (n : Newer). IsNewer s admin (Some pin) n) same (record { admin_is = refl; pin_is = refl; found_is = refl; above = ltb-true pin.0 (version_known s admin).0 f })

-- what is written at a place stands there
set_there : (versions : List Version) (n : ℕ) (new default : Version) → n < length versions → unwrap_or (slice_get (slice_set versions n new) n) default ≡ new
set_there [] n new default within = absurd (omega (arith, within))
set_there (version ∷ versions) zero new default within = refl
set_there (version ∷ versions) (suc n) new default within = set_there versions n new default (omega (arith, within))

pub set_long : (versions : List Version) (n : ℕ) (new : Version) → length (slice_set versions n new) ≡ length versions
set_long [] n new = refl
set_long (version ∷ versions) zero new = refl
set_long (version ∷ versions) (suc n) new = let rest = set_long versions n new in omega (arith, rest)

greater_is : (one other : Version) → one.0 ≤ other.0 → greater one other ≡ other
greater_is one other low = ap (λ (n : ℕ). record { 0 = n }) (the_greater one.0 other.0 low)
  where
    the_greater : (a b : ℕ) → a ≤ b → max a b ≡ b
    the_greater a b le = omega (arith, le)

-- where none is newer, the version that is then known is the pinned one
pinned_known : (s : Server) (admin : AdminId) (pin : Option Version) → newer_known s admin pin ≡ None → admin.0 < length s.store.known → IfSome pin (λ (one : Version). version_known (with_pin s admin pin) admin ≡ one)
pinned_known s admin None none within = tt
pinned_known s admin (Some pin) none within =
    set_there s.store.known admin.0 (greater (version_known s admin) pin) (record { 0 = 1 }) within ∙ greater_is (version_known s admin) pin (by_test (nat_lt pin.0 (version_known s admin).0) refl)
  where
    newer_if : Bool → Option Newer
    newer_if b = if b then Some (record { admin = admin; used = pin; found = version_known s admin }) else None

    by_test : (b : Bool) → nat_lt pin.0 (version_known s admin).0 ≡ b → (version_known s admin).0 ≤ pin.0
    by_test true f = let wrong : None ≡ newer_if true = sym none ∙ ap newer_if f in absurd (cc)
    by_test false f = ltb-false pin.0 (version_known s admin).0 f

-- it is none above the newest, if the pinned one is not
pub pinned_fits : (sc : Scenario) (facts : List Fact) (place : ℕ) (s : Server) (admin : AdminId) (pin : Option Version) → ServerFits sc facts place s → IfSome pin (λ (one : Version). IsPublished sc facts place (admin, one))
    → ServerFits sc facts place (with_pin s admin pin)
pinned_fits sc facts place s admin None h low = record { known = h.known }
pinned_fits sc facts place s admin (Some pin) h low =
    record {
      known = λ other within.
          known_most s.store admin other pin (newest sc other place facts) (h.known other within) (λ same. subst (λ (a : AdminId). pin.0 ≤ newest sc a place facts) (ap admin_number same) low);
    }

pub pinned_long : (s : Server) (admin : AdminId) (pin : Option Version) → length (with_pin s admin pin).store.known ≡ length s.store.known
pinned_long s admin None = refl
pinned_long s admin (Some pin) = set_long s.store.known admin.0 (greater (version_known s admin) pin)

-- the administrator of the item of a deed is one of the scenario's
pub deed_admin : (sc : Scenario) (at : ServerId) (txn : TxnId) (deed : Deed) → IsValid sc → IsSoundDeedAt sc at txn deed → IsAdmin sc (admin_of sc deed.item)
deed_admin sc at txn deed valid d =
    let on : IsQueryAt sc txn deed.query at (admin_of sc deed.item) = verdict_query sc at txn deed d in
    subst (IsAdmin sc) on.admin_is (each_get (IsValidItem sc) sc.items (item_of on.asked).0 on.kept.declared valid.items on.kept.declared_is).admin

-- ---- Query

-- what a server knows
pub knows_as : (sc : Scenario) (facts : List Fact) (place : ℕ) (s now : Server) → now.store.known ≡ s.store.known → ServerFits sc facts place s → ServerFits sc facts place now
knows_as sc facts place s now same h =
    record { known = λ admin within. subst (λ (known : List Version). (unwrap_or (slice_get known admin.0) (record { 0 = 1 })).0 ≤ newest sc admin place facts) (sym same) (h.known admin within) }

-- a query that has its lock: its staple fits, its pin is none above the newest, it is of a transaction of the scenario, and what it does is on an
-- item of the server
pub record IsAskedHere (sc : Scenario) (facts : List Fact) (place : ℕ) (at : ServerId) (q : QueryRequest) (deed : Deed) : Type 0 where
  pub stapled : IfSome q.staple (StapleFits sc facts place q.txn)
  pub pinned_low : IfSome q.pin (λ (pin : Version). IsPublished sc facts place (admin_of sc deed.item, pin))
  pub exists : IsTxn sc q.txn
  pub numbered : deed.query ≡ q.query
  pub sound : IsSoundDeedAt sc at q.txn deed

-- one that is to run: the version that its server knows is the pinned one, if one is
pub record IsQueryHere (sc : Scenario) (facts : List Fact) (place : ℕ) (s : Server) (q : QueryRequest) (deed : Deed) : Type 0 where
  pub asked : IsAskedHere sc facts place s.server q deed
  pub pinned_is : IfSome q.pin (λ (pin : Version). version_known s (admin_of sc deed.item) ≡ pin)

-- its proof is this, and true, or it has none
pub record RunsTrue (sc : Scenario) (s : Server) (q : QueryRequest) (deed : Deed) (proof : Option Verdict) : Type 0 where
  pub proof_is : verdict_at sc s q deed ≡ proof
  pub holds : IfSome proof (λ (verdict : Verdict). is_none verdict.rule ≡ false)

-- or false
pub record RunsFalse (sc : Scenario) (s : Server) (q : QueryRequest) (deed : Deed) (verdict : Verdict) : Type 0 where
  pub proof_is : verdict_at sc s q deed ≡ Some verdict
  pub fails : is_none verdict.rule ≡ true

-- the verdict on it is right
pub proof_right : (sc : Scenario) (facts : List Fact) (place : ℕ) (s : Server) (q : QueryRequest) (deed : Deed) (verdict : Verdict) → IsValid sc → ServerFits sc facts place s → IsQueryHere sc facts place s q deed
    → verdict_at sc s q deed ≡ Some verdict → Right sc facts place q.txn verdict
proof_right sc facts place s q deed verdict valid h k e =
    let p : IsProvedAt sc s q deed verdict = proved_at sc s q deed verdict e in
    subst (Right sc facts place q.txn) p.verdict_is
    (verdict_right sc facts place s q.txn p.txn p.staple [] deed valid h tt p.txn_is (subst (λ (staple : Option Staple). IfSome staple (StapleFits sc facts place q.txn)) p.staple_is k.asked.stapled) k.asked.sound)

maybe_right : (sc : Scenario) (facts : List Fact) (place : ℕ) (s : Server) (q : QueryRequest) (deed : Deed) (proof : Option Verdict) → IsValid sc → ServerFits sc facts place s → IsQueryHere sc facts place s q deed
    → verdict_at sc s q deed ≡ proof → IfSome proof (Right sc facts place q.txn)
maybe_right sc facts place s q deed None valid h k e = tt
maybe_right sc facts place s q deed (Some verdict) valid h k e = proof_right sc facts place s q deed verdict valid h k e

-- the administrator of the item of a query that a verdict is on
pub asked_admin : (sc : Scenario) (txn : TxnId) (number : ℕ) (at : ServerId) (admin : AdminId) → IsQueryAt sc txn number at admin → admin_asked sc txn number ≡ Some admin
asked_admin sc txn number at admin k =
    ap (option_and_then (admin_of_query sc)) k.asked_is ∙ (ap (option_map (λ (item : Item). item.admin)) k.kept.declared_is ∙ ap (λ (a : AdminId). Some a) k.admin_is)

-- and it is on the query, at the place of the staple
on_query_now : (sc : Scenario) (facts : List Fact) (place : ℕ) (s : Server) (gathered : List Verdict) (number : ℕ) (staple : Option Staple) (q : QueryRequest) (deed : Deed) (verdict : Verdict) → IsQueryHere sc facts place s q deed
    → IsAskedSo sc gathered number staple q → IsProvedAt sc s q deed verdict → IsOnQuery gathered number staple verdict
on_query_now sc facts place s gathered number staple q deed verdict k h p =
    let on : IsQueryAt sc q.txn q.query s.server (admin_of sc deed.item) = subst (λ (n : ℕ). IsQueryAt sc q.txn n s.server (admin_of sc deed.item)) k.asked.numbered (verdict_query sc s.server q.txn deed k.asked.sound) in
    let admin : admin_asked sc q.txn q.query ≡ Some verdict.admin = asked_admin sc q.txn q.query s.server (admin_of sc deed.item) on ∙ ap (λ (v : Verdict). Some v.admin) p.verdict_is in
    let pin : q.pin ≡ pin_of gathered verdict.admin = h.pin_is ∙ ap (option_and_then (pin_of gathered)) admin in
    let used : verdict.version ≡ version_known s (admin_of sc deed.item) = ap (λ (v : Verdict). v.version) (sym p.verdict_is) in
    record {
      query = ap (λ (v : Verdict). v.query) (sym p.verdict_is) ∙ (k.asked.numbered ∙ h.query);
      placed = subst (λ (given : Option Staple). IfSome given (λ (one : Staple). verdict.place ≡ one.place)) (sym p.staple_is ∙ h.staple_is) (ap (λ (v : Verdict). v.place) (sym p.verdict_is));
      pinned = subst (λ (found : Option Version). IfSome found (λ (one : Version). verdict.version ≡ one)) pin
          (maybe_stays (λ (one : Version). version_known s (admin_of sc deed.item) ≡ one) (λ (one : Version). verdict.version ≡ one) q.pin (λ one same. used ∙ same) k.pinned_is);
    }

-- a query ran: it has a verdict where it was asked with a staple, and that is true
ran_as_asked : (sc : Scenario) (facts : List Fact) (place : ℕ) (s : Server) (gathered : List Verdict) (number : ℕ) (staple : Option Staple) (q : QueryRequest) (deed : Deed) (proof : Option Verdict) → IsQueryHere sc facts place s q deed
    → RunsTrue sc s q deed proof → IsAskedSo sc gathered number staple q → RanNow gathered number staple proof
ran_as_asked sc facts place s gathered number staple q deed None k r h =
    let there = declared_there sc q.txn k.asked.exists in
    record { proved = sym (ap is_some (sym h.staple_is ∙ unproved_at sc s q deed r.proof_is there.0 there.1)); on_query = tt; has_rule = tt }
ran_as_asked sc facts place s gathered number staple q deed (Some verdict) k r h =
    let p : IsProvedAt sc s q deed verdict = proved_at sc s q deed verdict r.proof_is in
    record { proved = sym (ap is_some (sym h.staple_is ∙ p.staple_is)); on_query = on_query_now sc facts place s gathered number staple q deed verdict k h p; has_rule = some_if_not_none verdict.rule (ap not r.holds) }

ran_now : (sc : Scenario) (facts : List Fact) (place : ℕ) (s : Server) (c : Coordinator) (awaited : Phase) (q : QueryRequest) (epoch : ℕ) (deed : Deed) (proof : Option Verdict) → IsQueryHere sc facts place s q deed → RunsTrue sc s q deed proof
    → QueryNow sc c awaited q → DoneNow sc c awaited (reply_of q epoch (ran_as deed proof))
ran_now sc facts place s c (phase.Querying number staple) q epoch deed proof k r h = record { query = h.query; answer_is = ran_as_asked sc facts place s c.gathered number staple q deed proof k r h }
ran_now sc facts place s c _ q epoch deed proof k r h = tt

-- its proof is false
pub denied_now : (sc : Scenario) (facts : List Fact) (place : ℕ) (s : Server) (c : Coordinator) (awaited : Phase) (q : QueryRequest) (epoch : ℕ) (deed : Deed) (verdict : Verdict) → IsQueryHere sc facts place s q deed → RunsFalse sc s q deed verdict
    → QueryNow sc c awaited q → DoneNow sc c awaited (reply_of q epoch (answer.Denied verdict))
denied_now sc facts place s c (phase.Querying number staple) q epoch deed verdict k d h =
    let p : IsProvedAt sc s q deed verdict = proved_at sc s q deed verdict d.proof_is in
    record {
      query = h.query;
      answer_is = record { stapled = ap is_some (sym h.staple_is ∙ p.staple_is); on_query = on_query_now sc facts place s c.gathered number staple q deed verdict k h p; ruleless = d.fails };
    }
denied_now sc facts place s c _ q epoch deed verdict k d h = tt

-- its server knows a newer version than the pinned one
pub newer_now : (sc : Scenario) (facts : List Fact) (place : ℕ) (at : ServerId) (s : Server) (c : Coordinator) (awaited : Phase) (q : QueryRequest) (epoch : ℕ) (deed : Deed) (newer : Newer) → IsAskedHere sc facts place at q deed
    → newer_known s (admin_of sc deed.item) q.pin ≡ Some newer → QueryNow sc c awaited q → DoneNow sc c awaited (reply_of q epoch (answer.Newer newer))
newer_now sc facts place at s c (phase.Querying number staple) q epoch deed newer k e h =
    let found = newer_is s (admin_of sc deed.item) q.pin newer e in
    let on : IsQueryAt sc q.txn q.query at (admin_of sc deed.item) = subst (λ (n : ℕ). IsQueryAt sc q.txn n at (admin_of sc deed.item)) k.numbered (verdict_query sc at q.txn deed k.sound) in
    let admin : admin_asked sc q.txn q.query ≡ Some newer.admin = asked_admin sc q.txn q.query at (admin_of sc deed.item) on ∙ ap (λ (a : AdminId). Some a) (sym found.admin_is) in
    record {
      query = h.query;
      answer_is = record {
        admin_is = subst (λ (n : ℕ). admin_asked sc q.txn n ≡ Some newer.admin) h.query admin;
        used_is = sym (ap (option_and_then (pin_of c.gathered)) admin) ∙ (sym h.pin_is ∙ found.pin_is);
      };
    }
newer_now sc facts place at s c _ q epoch deed newer k e h = tt

-- that it is to die, or that its server restarted, says nothing of what was asked
pub died_now : (sc : Scenario) (c : Coordinator) (awaited : Phase) (q : QueryRequest) (epoch : ℕ) (other : TxnId) → QueryNow sc c awaited q → DoneNow sc c awaited (reply_of q epoch (answer.Died other))
died_now sc c (phase.Querying number staple) q epoch other h = record { query = h.query; answer_is = tt }
died_now sc c _ q epoch other h = tt

pub restarted_now : (sc : Scenario) (c : Coordinator) (awaited : Phase) (q : QueryRequest) (epoch : ℕ) → QueryNow sc c awaited q → DoneNow sc c awaited (reply_of q epoch answer.Restarted)
restarted_now sc c (phase.Querying number staple) q epoch h = record { query = h.query; answer_is = tt }
restarted_now sc c _ q epoch h = tt

-- an answer of the turn of its query
done_answers : (sc : Scenario) (P : TxnId → Coordinator → Type 0) (q : QueryRequest) (done : DoneReply) → done.txn ≡ q.txn → done.turn ≡ q.turn → ((c : Coordinator) → QueryNow sc c c.phase q → DoneNow sc c c.phase done)
    → Answers sc P (body.Query q) (body.Done done) (record { txn = done.txn; turn = done.turn })
done_answers sc P q done same turn says =
    record {
      asked = record { txn = q.txn; turn = q.turn };
      asked_is = refl;
      reply_is = refl;
      same_txn = sym same;
      timely = λ c sent place here t unsure. let was = (t unsure).past in record { past = omega (arith, was, turn); now = λ e. says c ((t unsure).now (sym turn ∙ e)) };
    }

-- a query that is asked at a server where none is newer runs at one that knows the pinned version
pub pinned_here : (sc : Scenario) (facts : List Fact) (place : ℕ) (s : Server) (q : QueryRequest) (deed : Deed) → IsValid sc → length s.store.known ≡ length sc.admins → IsAskedHere sc facts place s.server q deed
    → newer_known s (admin_of sc deed.item) q.pin ≡ None → IsQueryHere sc facts place (pinned sc s q deed) q deed
pinned_here sc facts place s q deed valid knows k none =
    let exists = deed_admin sc s.server q.txn deed valid k.sound in
    record { asked = record { stapled = k.stapled; pinned_low = k.pinned_low; exists = k.exists; numbered = k.numbered; sound = k.sound }; pinned_is = pinned_known s (admin_of sc deed.item) q.pin none (omega (arith, exists, knows)) }

-- that it knows a newer one fits
pub newer_fits : (sc : Scenario) (facts : List Fact) (place : ℕ) (s : Server) (q : QueryRequest) (deed : Deed) (newer : Newer) → IsValid sc → ServerFits sc facts place s → IsAskedHere sc facts place s.server q deed
    → newer_known s (admin_of sc deed.item) q.pin ≡ Some newer → NewerFits sc facts place newer
newer_fits sc facts place s q deed newer valid h k e =
    let found = newer_is s (admin_of sc deed.item) q.pin newer e in
    record {
      above = found.above;
      published = subst (λ (v : Version). v.0 ≤ newest sc newer.admin place facts) (sym found.found_is)
          (subst (λ (a : AdminId). (version_known s (admin_of sc deed.item)).0 ≤ newest sc a place facts) (sym found.admin_is) (h.known (admin_of sc deed.item) (deed_admin sc s.server q.txn deed valid k.sound)));
    }

-- an entry at which a query runs is kept
pub run_kept : (sc : Scenario) (facts : List Fact) (place : ℕ) (T : Body → Type 0) (s : Server) (mail : Mail) (q : QueryRequest) (query : Query) (entry : Entry) (value : ℤ) → ServerTrusted sc facts place T s
    → IsAsking sc s mail q query entry value → IsKept (IsTrusted sc facts place T) q.txn entry
run_kept sc facts place T s mail q query entry value h k =
    ⊎_elim
    (λ (first : IsFirstHere s mail.sent q entry). subst (IsKept (IsTrusted sc facts place T) q.txn) (sym first.entry_is) (record { answers = tt; waiting = tt; ballot = tt }))
    (λ (further : IsFurther s q entry). h.keeps q.txn.0 entry further.found) k.place

pub runs_trusts : (sc : Scenario) (facts : List Fact) (place : ℕ) (P : TxnId → Coordinator → Type 0) (T : Body → Type 0) (s : Server) (q : QueryRequest) (query : Query) (entry : Entry) (value : ℤ) (proof : Option Verdict) → IsValid sc → ServerTrusted sc facts place T s
    → IsQueryHere sc facts place s q (deed_of q.query query value) → RunsTrue sc s q (deed_of q.query query value) proof → IsClosed sc P T → T (body.Query q) → IsKept (IsTrusted sc facts place T) q.txn entry
    → RowTrusts sc facts place T (completes s q query entry (deed_of q.query query value) proof)
runs_trusts sc facts place P T s q query entry value proof valid h here running closed t old =
    let deed = deed_of q.query query value in
    let answer = reply_of q entry.epoch (ran_as deed proof) in
    let right : IfSome proof (Right sc facts place q.txn) = maybe_right sc facts place s q deed proof valid h.fits here running.proof_is in
    let timely : T (body.Done answer) =
    closed (body.Query q) (body.Done answer) (record { txn = q.txn; turn = q.turn }) (done_answers sc P q answer refl refl (λ c. ran_now sc facts place s c c.phase q entry.epoch deed proof here running)) t in
    let effect = completes s q query entry deed proof in
    record {
      fits = knows_as sc facts place s effect.state (kept_known s.store q query value) h.fits;
      keeps = placed_set (λ (n : ℕ) (found : Entry). IsKept (IsTrusted sc facts place T) (record { 0 = n }) found) s.entries q.txn.0 (entry_after q entry deed proof) h.keeps
          (record {
            answers = each_append (λ (d : DoneReply). IsTrusted sc facts place T (body.Done d)) entry.answers (answer ∷ []) old.answers (record { fits = λ sent. right; timely = timely }, tt);
            waiting = old.waiting;
            ballot = old.ballot;
          });
      forces = tt;
      says = (right, tt);
      timely = (timely, tt);
    }

-- the entry at which a query asks waits, or keeps an answer that ends the transaction
pub entry_trusts : (sc : Scenario) (facts : List Fact) (place : ℕ) (T : Body → Type 0) (s : Server) (txn : TxnId) (entry : Entry) (letters : List Letter) → ServerTrusted sc facts place T s → IsKept (IsTrusted sc facts place T) txn entry
    → Each (λ (letter : Letter). BodyFits sc facts place place letter.body) letters → Each (λ (letter : Letter). IfSome (stamp_of letter.body) (λ (stamped : Stamp). T letter.body)) letters
    → RowTrusts sc facts place T (sends (with_entry s txn (Some entry)) letters)
entry_trusts sc facts place T s txn entry letters h kept says timely =
    record {
      fits = record { known = h.fits.known };
      keeps = placed_set (λ (n : ℕ) (found : Entry). IsKept (IsTrusted sc facts place T) (record { 0 = n }) found) s.entries txn.0 entry h.keeps kept;
      forces = tt;
      says = says;
      timely = timely;
    }

-- an answer that ends the transaction is kept and given
pub ending_trusts : (sc : Scenario) (facts : List Fact) (place : ℕ) (P : TxnId → Coordinator → Type 0) (T : Body → Type 0) (s : Server) (q : QueryRequest) (entry : Entry) (given : Answer) → ServerTrusted sc facts place T s → IsKept (IsTrusted sc facts place T) q.txn entry
    → AnswerFits sc facts place q.txn given → IsClosed sc P T → T (body.Query q) → ((c : Coordinator) → QueryNow sc c c.phase q → DoneNow sc c c.phase (reply_of q entry.epoch given)) → RowTrusts sc facts place T (answers_with s q entry given)
ending_trusts sc facts place P T s q entry given h old fits closed t now =
    let answer = reply_of q entry.epoch given in
    let timely : T (body.Done answer) = closed (body.Query q) (body.Done answer) (record { txn = q.txn; turn = q.turn }) (done_answers sc P q answer refl refl now) t in
    entry_trusts sc facts place T s q.txn _ _ h
    (record {
      answers = each_more (λ (d : DoneReply). IsTrusted sc facts place T (body.Done d)) entry.answers answer old.answers (record { fits = λ sent. fits; timely = timely });
      waiting = old.waiting;
      ballot = old.ballot;
    }) (fits, tt) (timely, tt)

-- what is done after what was done before
after_trusts : (sc : Scenario) (facts : List Fact) (place : ℕ) (T : Body → Type 0) (effect further : Effect Server) → RowTrusts sc facts place T effect → RowTrusts sc facts place T further → RowTrusts sc facts place T (followed_by effect further)
after_trusts sc facts place T effect further h now =
    record {
      fits = now.fits;
      keeps = now.keeps;
      forces = h.forces;
      says = each_append (λ (letter : Letter). BodyFits sc facts place place letter.body) effect.reaction.letters _ h.says now.says;
      timely = each_append (λ (letter : Letter). IfSome (stamp_of letter.body) (λ (stamped : Stamp). T letter.body)) effect.reaction.letters _ h.timely now.timely;
    }

-- a query whose request fits
pub asked_here : (sc : Scenario) (facts : List Fact) (place : ℕ) (at : ServerId) (q : QueryRequest) (deed : Deed) → QueryFits sc facts place q → IsTxn sc q.txn → deed.query ≡ q.query → IsSoundDeedAt sc at q.txn deed → IsAskedHere sc facts place at q deed
asked_here sc facts place at q deed fits exists numbered sound =
    let on : IsQueryAt sc q.txn q.query at (admin_of sc deed.item) = subst (λ (n : ℕ). IsQueryAt sc q.txn n at (admin_of sc deed.item)) numbered (verdict_query sc at q.txn deed sound) in
    let admin = asked_admin sc q.txn q.query at (admin_of sc deed.item) on in
    record {
      stapled = fits.stapled;
      pinned_low = maybe_stays (λ (pin : Version). IfSome (admin_asked sc q.txn q.query) (λ (a : AdminId). IsPublished sc facts place (a, pin))) (λ (pin : Version). IsPublished sc facts place (admin_of sc deed.item, pin)) q.pin
          (λ pin low. subst (λ (found : Option AdminId). IfSome found (λ (a : AdminId). IsPublished sc facts place (a, pin))) admin low) fits.pinned;
      exists = exists;
      numbered = numbered;
      sound = sound;
    }

-- a query that waited, as it has its lock
record IsWaitOver (sc : Scenario) (facts : List Fact) (place : ℕ) (T : Body → Type 0) (s : Server) (q : QueryRequest) (query : Query) (entry : Entry) (value : ℤ) : Type 0 where
  here : IsAskedHere sc facts place s.server q (deed_of q.query query value)
  timely : T (body.Query q)
  kept : IsKept (IsTrusted sc facts place T) q.txn (unwaiting entry)

wait_over : (sc : Scenario) (facts : List Fact) (place : ℕ) (T : Body → Type 0) (at : ServerId) (s : Server) (grant : Grant) (q : QueryRequest) (query : Query) (entry : Entry) (value : ℤ) → IsResumed sc at s grant q query entry value
    → AreKept (IsTrusted sc facts place T) s → IsWaitOver sc facts place T s q query entry value
wait_over sc facts place T at s grant q query entry value k keeps =
    let old : IsKept (IsTrusted sc facts place T) q.txn entry = keeps q.txn.0 entry k.found in
    let asked : IsTrusted sc facts place T (body.Query q) = subst (λ (w : Option QueryRequest). IfSome w (λ (r : QueryRequest). IsTrusted sc facts place T (body.Query r))) k.waiting_is old.waiting in
    record {
      here = asked_here sc facts place s.server q (deed_of q.query query value) (asked.fits 0) k.exists refl
          (record {
            sound = record { asked = query; asked_is = k.asked_is; item_is = refl; action_is = refl };
            kept = record { declared = k.item; declared_is = k.item_is; server_is = k.here ∙ sym k.server_is };
          });
      timely = asked.timely;
      kept = record { answers = old.answers; waiting = tt; ballot = old.ballot };
    }

-- what waited runs at a server that knows the pinned version, after what was done before
pub resumes_trusts : (sc : Scenario) (facts : List Fact) (place : ℕ) (P : TxnId → Coordinator → Type 0) (T : Body → Type 0) (s : Server) (effect : Effect Server) (grant : Grant) (q : QueryRequest) (query : Query) (entry : Entry) (value : ℤ) (proof : Option Verdict)
    → IsValid sc → IsClosed sc P T → length effect.state.store.known ≡ length sc.admins → IsResumed sc s.server effect.state grant q query entry value → IsRunning sc effect.state q (deed_of q.query query value) proof → RowTrusts sc facts place T effect
    → RowTrusts sc facts place T (followed_by effect (resuming (pinned sc effect.state q (deed_of q.query query value)) q query entry value proof))
resumes_trusts sc facts place P T s effect grant q query entry value proof valid closed knows k running h =
    let w = wait_over sc facts place T s.server effect.state grant q query entry value k h.keeps in
    let deed = deed_of q.query query value in
    let now = pinned sc effect.state q deed in
    after_trusts sc facts place T effect (resuming now q query entry value proof) h
    (runs_trusts sc facts place P T now q query (unwaiting entry) value proof valid (record { fits = pinned_fits sc facts place effect.state (admin_of sc deed.item) q.pin h.fits w.here.pinned_low; keeps = h.keeps })
    (pinned_here sc facts place effect.state q deed valid knows w.here running.none_newer) (record { proof_is = running.proof_is; holds = running.holds }) closed w.timely w.kept)

-- or its proof is false
pub resumes_denied_trusts : (sc : Scenario) (facts : List Fact) (place : ℕ) (P : TxnId → Coordinator → Type 0) (T : Body → Type 0) (s : Server) (effect : Effect Server) (grant : Grant) (q : QueryRequest) (query : Query) (entry : Entry) (value : ℤ) (verdict : Verdict)
    → IsValid sc → IsClosed sc P T → length effect.state.store.known ≡ length sc.admins → IsResumed sc s.server effect.state grant q query entry value → IsDenied sc effect.state q (deed_of q.query query value) verdict → RowTrusts sc facts place T effect
    → RowTrusts sc facts place T (followed_by effect (refusing (pinned sc effect.state q (deed_of q.query query value)) q entry (answer.Denied verdict)))
resumes_denied_trusts sc facts place P T s effect grant q query entry value verdict valid closed knows k denied h =
    let w = wait_over sc facts place T s.server effect.state grant q query entry value k h.keeps in
    let deed = deed_of q.query query value in
    let now = pinned sc effect.state q deed in
    let fits = pinned_fits sc facts place effect.state (admin_of sc deed.item) q.pin h.fits w.here.pinned_low in
    let here = pinned_here sc facts place effect.state q deed valid knows w.here denied.none_newer in
    after_trusts sc facts place T effect (refusing now q entry (answer.Denied verdict)) h
    (ending_trusts sc facts place P T now q (unwaiting entry) (answer.Denied verdict) (record { fits = fits; keeps = h.keeps }) w.kept
    (proof_right sc facts place now q deed verdict valid fits here denied.proof_is) closed w.timely
    (λ c. denied_now sc facts place now c c.phase q (unwaiting entry).epoch deed verdict here (record { proof_is = denied.proof_is; fails = denied.fails })))

-- or its server knows a newer version
pub resumes_outdated_trusts : (sc : Scenario) (facts : List Fact) (place : ℕ) (P : TxnId → Coordinator → Type 0) (T : Body → Type 0) (s : Server) (effect : Effect Server) (grant : Grant) (q : QueryRequest) (query : Query) (entry : Entry) (value : ℤ) (newer : Newer)
    → IsValid sc → IsClosed sc P T → IsResumed sc s.server effect.state grant q query entry value → newer_known effect.state (admin_of sc (item_of query)) q.pin ≡ Some newer → RowTrusts sc facts place T effect
    → RowTrusts sc facts place T (followed_by effect (refusing effect.state q entry (answer.Newer newer)))
resumes_outdated_trusts sc facts place P T s effect grant q query entry value newer valid closed k e h =
    let w = wait_over sc facts place T s.server effect.state grant q query entry value k h.keeps in
    let deed = deed_of q.query query value in
    after_trusts sc facts place T effect (refusing effect.state q entry (answer.Newer newer)) h
    (ending_trusts sc facts place P T effect.state q (unwaiting entry) (answer.Newer newer) (record { fits = h.fits; keeps = h.keeps }) w.kept (newer_fits sc facts place effect.state q deed newer valid h.fits w.here e) closed w.timely
    (λ c. newer_now sc facts place effect.state.server effect.state c c.phase q (unwaiting entry).epoch deed newer w.here e))

-- an answer that is given again fits as it did
pub answers_trusts : (sc : Scenario) (facts : List Fact) (place : ℕ) (T : Body → Type 0) (s : Server) (q : QueryRequest) (given : DoneReply) → ServerTrusted sc facts place T s
    → IsTrusted sc facts place T (body.Done given) → RowTrusts sc facts place T (answers s q.txn given)
answers_trusts sc facts place T s q given h k = record { fits = h.fits; keeps = h.keeps; forces = tt; says = (k.fits place, tt); timely = (k.timely, tt) }

pub restarted_trusted : (sc : Scenario) (facts : List Fact) (place : ℕ) (P : TxnId → Coordinator → Type 0) (T : Body → Type 0) (s : Server) (q : QueryRequest) → IsClosed sc P T → T (body.Query q)
    → IsTrusted sc facts place T (body.Done (reply_of q s.epoch answer.Restarted))
restarted_trusted sc facts place P T s q closed t =
    let given = reply_of q s.epoch answer.Restarted in
    record { fits = λ sent. tt; timely = closed (body.Query q) (body.Done given) (record { txn = q.txn; turn = q.turn }) (done_answers sc P q given refl refl (λ c. restarted_now sc c c.phase q s.epoch)) t }
