-- Trust of the facts: where the invariant holds, every commit is trusted and every abort has its cause.
use Rattle.std.proofs.Common.{Bool, IfSome, List, None, Option, Some, [], ap, false, is_none, is_some, nat_le, not, refl, slice_get, subst, true, ℕ, ◌||◌, ◌∙◌, ◌∷◌, ◌≡◌, ◌≤◌}
use Rattle.std.proofs.lemmas.Bool.{and_from, and_parts, le-leb, lt-ltb}
use Rattle.std.specs.List.{list_all}
use Rattle.std.specs.Option.{option_map_or}
use Rattle.tp_types.proofs.EachLemmas.{all_four, each_get, each_placed, missing}
use Rattle.tp_types.proofs.ListLemmas.{three_from}
use Rattle.tp_types.specs.Each.{Each}
use Rattle.tp_model.specs.Authorisation.{is_allowed, is_certified, is_own_query, is_true_verdict, policy_at, question_of}
use Rattle.tp_model.specs.Causes.{is_bound_to_newest, is_caused, is_denied, is_denied_version, is_explained_at, is_refused, is_shown, keeps_causes, keeps_causes_what}
use Rattle.tp_model.specs.Facts.{before}
use Rattle.tp_model.specs.Trust.{is_timely_reading, is_trusted, is_trusted_commit, is_trusted_instance, is_trusted_proof, is_within, keeps_trust, keeps_trust_what}
use Rattle.tp_model.specs.Versions.{newest}
use Rattle.tp_model.specs.Words.{Cause, CommitRecord, Denied, Fact, Instance, OutOfRange, Scenario, Transaction, TxnId, Verdict, What}
use Rattle.tp_model.specs.Words.cause
use Rattle.tp_model.specs.Words.decision
use Rattle.tp_model.specs.Words.what
use Rattle.tp_coord.specs.Row as row
use Rattle.tp_machine.specs.Machine.{State}
use Rattle.tp_machine.specs.Named.{IsTxn}
use Rattle.tp_runs.proofs.basics.Facts.{all_from_each}
use Rattle.tp_runs.proofs.deaths.Fit.{FactDies, WhatDies}
use Rattle.tp_runs.proofs.deaths.World.{Deaths}
use Rattle.tp_runs.proofs.refusals.Running.{own_server_of}
use Rattle.tp_runs.proofs.refusals.World.{FactRefused, IsRefused, Refusals, WhatRefused}
use Rattle.tp_runs.proofs.restarts.World.{FactSince, Restarts, ToldSince}
use Rattle.tp_runs.proofs.trust.Coordinator.{CauseFits, CommitFits}
use Rattle.tp_runs.proofs.trust.Fit.{IsRight, Right, has_rule}
use Rattle.tp_runs.proofs.trust.Instances.{IsTimelyReading, IsTrustedInstance}
use Rattle.tp_runs.proofs.trust.Server.{policy_there}
use Rattle.tp_runs.proofs.trust.World.{FactFits, Trusts, WhatFits}
use Rattle.tp_runs.specs.Sound.{IsSound, IsSoundCause, IsSoundFact, IsSoundWhat, IsVersion}

-- ---- a proof

-- a right verdict with a rule is a trusted proof
trusted_proof : (sc : Scenario) (txn : TxnId) (declared : Transaction) (place : ℕ) (facts : List Fact) (proof : Verdict) → IsRight sc facts place txn declared proof → is_some proof.rule ≡ true
    → is_trusted_proof sc txn declared place facts proof ≡ true
trusted_proof sc txn declared place facts proof h has_rule =
    three_from (is_true_verdict sc facts declared proof) (is_within txn place facts proof.place) (nat_le proof.version.0 (newest sc proof.admin place facts))
    (three_from (is_own_query sc declared proof.query proof.server proof.admin) (is_allowed sc facts declared (question_of proof)) (is_certified sc facts declared proof)
    h.own (h.fits ∙ has_rule) (h.proved has_rule))
    (and_from _ _ h.begun (lt-ltb proof.place place h.past))
    (le-leb proof.version.0 (newest sc proof.admin place facts) h.published)

trusted_proofs : (sc : Scenario) (txn : TxnId) (declared : Transaction) (place : ℕ) (facts : List Fact) (proofs : List Verdict) → slice_get sc.txns txn.0 ≡ Some declared
    → Each (Right sc facts place txn) proofs → list_all has_rule proofs ≡ true → list_all (is_trusted_proof sc txn declared place facts) proofs ≡ true
trusted_proofs sc txn declared place facts [] e h t = refl
trusted_proofs sc txn declared place facts (proof ∷ proofs) e h t =
    let parts = and_parts (has_rule proof) (list_all has_rule proofs) t in
    and_from _ _ (trusted_proof sc txn declared place facts proof (h.0 declared e) parts.0) (trusted_proofs sc txn declared place facts proofs e h.1 parts.1)

-- ---- a commit

trusted_reading : (facts : List Fact) (place : ℕ) (txn : TxnId) (reading : Option ℕ) → IfSome reading (IsTimelyReading facts place txn) → is_timely_reading txn place facts reading ≡ true
trusted_reading facts place txn None h = refl
trusted_reading facts place txn (Some read) h = and_from _ _ h.begun (lt-ltb read place h.past)

trusted_instances : (sc : Scenario) (txn : TxnId) (declared : Transaction) (place : ℕ) (facts : List Fact) (instances : List Instance) → slice_get sc.txns txn.0 ≡ Some declared
    → Each (IsTrustedInstance sc facts place txn) instances → list_all (is_trusted_instance sc txn declared place facts) instances ≡ true
trusted_instances sc txn declared place facts [] e h = refl
trusted_instances sc txn declared place facts (instance ∷ instances) e h =
    and_from _ _
    (and_from _ _ (trusted_proofs sc txn declared place facts instance.proofs e h.0.right h.0.have_rules) (trusted_reading facts place txn instance.reading h.0.timely))
    (trusted_instances sc txn declared place facts instances e h.1)

-- a commit that fits is trusted, whatever its scheme and level
trusted_commit : (sc : Scenario) (txn : TxnId) (place : ℕ) (facts : List Fact) (committed : CommitRecord) (declared : Transaction) → slice_get sc.txns txn.0 ≡ Some declared
    → CommitFits sc facts place txn committed → is_trusted_commit sc txn place facts committed declared ≡ true
trusted_commit sc txn place facts committed declared e h = let fits = h declared e in and_from _ _ fits.demanded (trusted_instances sc txn declared place facts committed.instances e fits.trusted)

exists_txn : (sc : Scenario) (txn : TxnId) (found : Option Transaction) → slice_get sc.txns txn.0 ≡ found → IsTxn sc txn → (declared : Transaction) × (slice_get sc.txns txn.0 ≡ Some declared)
exists_txn sc txn None e within = absurd (missing sc.txns txn.0 within e)
exists_txn sc txn (Some declared) e within = (declared, e)

-- ---- every fact

what_trusted : (sc : Scenario) (facts : List Fact) (place : ℕ) (w : What) → IsSoundWhat sc w → WhatFits sc facts place w → keeps_trust_what sc facts place w ≡ true
what_trusted sc facts place (what.Decided txn (decision.Commit committed)) sound h =
    let found = exists_txn sc txn (slice_get sc.txns txn.0) refl sound.0 in
    ap (λ (d : Option Transaction). option_map_or (is_trusted_commit sc txn place facts committed) d false) found.1 ∙ trusted_commit sc txn place facts committed found.0 found.1 h
what_trusted sc facts place (what.Decided txn (decision.Abort why)) sound h = refl
what_trusted sc facts place _ sound h = refl

-- ---- an abort

-- where a denial is bound to the newest version it has it
bound_by : (bound fresh : Bool) → (bound ≡ true → fresh ≡ true) → (not bound || fresh) ≡ true
bound_by true fresh h = h refl
bound_by false fresh h = refl

no_rule : (rule : Option ℕ) → is_none rule ≡ true → is_some rule ≡ false
no_rule None e = refl
no_rule (Some rule) e = absurd (cc)

-- a right verdict without a rule, of a version that exists, shows a denial; where the newest version is asked for it was the newest, or later
denial_shown : (sc : Scenario) (txn : TxnId) (declared : Transaction) (place : ℕ) (facts : List Fact) (verdict : Verdict) → (is_bound_to_newest declared (row.denied_by verdict) ≡ true → newest sc verdict.admin verdict.place facts ≤ verdict.version.0)
    → IsVersion sc verdict.admin verdict.version → IsRight sc facts place txn declared verdict → is_none verdict.rule ≡ true
    → is_denied sc txn place facts (row.denied_by verdict) declared ≡ true
denial_shown sc txn declared place facts verdict bound version h ruleless =
    all_four (is_own_query sc declared verdict.query verdict.server verdict.admin) (is_within txn place facts verdict.place) (is_denied_version sc place facts declared (row.denied_by verdict))
    (is_allowed sc facts declared (question_of verdict))
    h.own
    (and_from _ _ h.begun (lt-ltb verdict.place place h.past))
    (three_from (is_some (policy_at sc verdict.admin verdict.version)) (nat_le verdict.version.0 (newest sc verdict.admin place facts)) _
    (policy_there sc verdict.admin verdict.version version) (le-leb verdict.version.0 (newest sc verdict.admin place facts) h.published)
    (bound_by (is_bound_to_newest declared (row.denied_by verdict)) (nat_le (newest sc verdict.admin verdict.place facts) verdict.version.0)
    (λ at_newest. le-leb (newest sc verdict.admin verdict.place facts) verdict.version.0 (bound at_newest))))
    (h.fits ∙ no_rule verdict.rule ruleless)

-- a refusal that facts show
is_refused_shown : (sc : Scenario) (txn : TxnId) (place : ℕ) (facts : List Fact) (refused : OutOfRange) (declared : Transaction) → IsRefused sc facts (before place facts) place txn refused declared → is_refused sc txn place facts refused declared ≡ true
is_refused_shown sc txn place facts refused declared h =
    and_from _ _ (and_from _ _ h.write h.aborted)
    (ap (λ (first : Option ℕ). option_map_or (is_explained_at sc txn facts refused declared) first false) h.first_is ∙ h.run)

cause_shown : (sc : Scenario) (facts : List Fact) (place : ℕ) (txn : TxnId) (why : Cause) (declared : Transaction) → slice_get sc.txns txn.0 ≡ Some declared → IsSoundCause sc txn why
    → WhatRefused sc facts place (what.Decided txn (decision.Abort why)) → WhatDies sc facts place (what.Decided txn (decision.Abort why))
    → ToldSince sc facts place (what.Decided txn (decision.Abort why)) → CauseFits sc facts place txn why → is_shown sc txn place facts why declared ≡ true
cause_shown sc facts place txn (cause.Denied denied) declared e sound r d s h =
    let version : IsVersion sc h.verdict.admin h.verdict.version = subst (λ (d : Denied). IsVersion sc d.admin d.version) h.denied_is sound.version in
    ap (λ (d : Denied). is_denied sc txn place facts d declared) h.denied_is
    ∙ denial_shown sc txn declared place facts h.verdict (subst (λ (d : Denied). is_bound_to_newest declared d ≡ true → newest sc h.verdict.admin h.verdict.place facts ≤ h.verdict.version.0) h.denied_is (h.bound declared e)) version (h.right declared e) h.ruleless
cause_shown sc facts place txn (cause.No refused) declared e sound r d s h = is_refused_shown sc txn place facts refused declared (r declared e)
cause_shown sc facts place txn (cause.Died died) declared e sound r d s h = d declared e
cause_shown sc facts place txn (cause.Newer newer) declared e sound r d s h = h declared e
cause_shown sc facts place txn (cause.Rounds mets) declared e sound r d s h = h declared e
cause_shown sc facts place txn (cause.Restarted at) declared e sound r d s h = and_from _ _ (own_server_of sc at txn declared e sound s.item) s.crashed
cause_shown sc facts place txn cause.Halted declared e sound r d s h = s

what_caused : (sc : Scenario) (facts : List Fact) (place : ℕ) (w : What) → IsSoundWhat sc w → WhatRefused sc facts place w → WhatDies sc facts place w → ToldSince sc facts place w → WhatFits sc facts place w
    → keeps_causes_what sc facts place w ≡ true
what_caused sc facts place (what.Decided txn (decision.Commit committed)) sound r d s h = refl
what_caused sc facts place (what.Decided txn (decision.Abort why)) sound r d s h =
    let found = exists_txn sc txn (slice_get sc.txns txn.0) refl sound.0 in
    ap (λ (d : Option Transaction). option_map_or (is_shown sc txn place facts why) d false) found.1 ∙ cause_shown sc facts place txn why found.0 found.1 sound.1 r d s h
what_caused sc facts place _ sound r d s h = refl

-- the commits of a world are trusted
pub facts_trusted : (sc : Scenario) (w : State) → IsSound sc w → Trusts sc w → is_trusted sc w.facts ≡ true
facts_trusted sc w sound h =
    all_from_each (λ (fact : Fact). keeps_trust sc w.facts fact ≡ true) (keeps_trust sc w.facts) (λ fact k. k) w.facts
    (each_placed (λ (fact : Fact). keeps_trust sc w.facts fact ≡ true) w.facts
    (λ n fact e. what_trusted sc w.facts fact.place fact.what (each_get (IsSoundFact sc) w.facts n fact sound.facts_are e) (each_get (FactFits sc w.facts) w.facts n fact h.facts_fit e)))

-- and its aborts have causes
pub facts_caused : (sc : Scenario) (w : State) → IsSound sc w → Refusals sc w → Deaths sc w → Restarts sc w → Trusts sc w → is_caused sc w.facts ≡ true
facts_caused sc w sound r d s h =
    all_from_each (λ (fact : Fact). keeps_causes sc w.facts fact ≡ true) (keeps_causes sc w.facts) (λ fact k. k) w.facts
    (each_placed (λ (fact : Fact). keeps_causes sc w.facts fact ≡ true) w.facts
    (λ n fact e. what_caused sc w.facts fact.place fact.what (each_get (IsSoundFact sc) w.facts n fact sound.facts_are e) (each_get (FactRefused sc w.facts) w.facts n fact r.facts e) (each_get (FactDies sc w.facts) w.facts n fact d.facts e) (each_get (FactSince sc w.facts) w.facts n fact s.facts e) (each_get (FactFits sc w.facts) w.facts n fact h.facts_fit e)))
