-- What a fact tells may be printed: where it is sound and bounded, a commit is trusted, and an abort has its cause.
use Rattle.std.proofs.Common.{Bool, List, None, Option, Some, [], ap, arith, false, if◌then◌else◌, is_some, length, nat_le, nat_lt, not, refl, slice_get, subst, sym, true, ℕ, ◌&&◌, ◌<◌, ◌==◌, ◌^◌, ◌∙◌, ◌∷◌, ◌≡◌, ◌≤◌}
use Rattle.std.proofs.lemmas.Bool.{and_from, and_parts, eqb-true, leb-true, lt-ltb, ltb-true}
use Rattle.std.proofs.lemmas.Option.{slice_get_within}
use Rattle.std.specs.List.{list_all}
use Rattle.std.specs.Option.{option_map_or}
use Rattle.tp_model.specs.Authorisation.{action_of, is_allowed, is_certified, is_own_query, is_true_verdict, is_usable, policy_at, question_of, rule_of, rule_proves, tests_item, tests_query, tests_version}
use Rattle.tp_model.specs.Causes.{are_met_on, has_contested_query, is_denied_version, is_met_shown, is_own_admin, is_shown, keeps_causes_what, was_settled_before, was_submitted_before, denied_question}
use Rattle.tp_model.specs.Demand.{are_instances, count_of, each_follows, is_incremental, is_round_count, meets_demand}
use Rattle.tp_model.specs.Facts.{was_submitted}
use Rattle.tp_model.specs.Levels.{is_global, level_of, reads_master}
use Rattle.tp_model.specs.Queries.{item_of, query_at}
use Rattle.tp_model.specs.Trust.{is_timely_reading, is_trusted_commit, is_trusted_instance, is_trusted_proof, is_within, keeps_trust_what}
use Rattle.tp_model.specs.Valid.{is_admin, is_cred, is_item, is_server, is_txn, is_valid_txn}
use Rattle.tp_model.specs.Versions.{newest}
use Rattle.tp_model.specs.Words.actor
use Rattle.tp_model.specs.Words.cause
use Rattle.tp_model.specs.Words.decision
use Rattle.tp_model.specs.Words.what
use Rattle.tp_model.specs.Words.{Action, Actor, Admin, AdminId, Cause, CommitRecord, CredId, Decision, Deed, Fact, Instance, Item, ItemId, Met, Policy, Query, Rule, Scenario, ServerId, Transaction, TxnId, Verdict, Version, What}
use Rattle.tp_machine.specs.Named.{IsCrasher, IsCred}
use Rattle.tp_model.specs.Printable.{are_printable_mets, is_i128, is_printable_cause, is_printable_commit, is_printable_crash, is_printable_decision, is_printable_deed, is_printable_instance, is_printable_met, is_printable_proof, is_printable_what, is_u32, is_u64}
use Rattle.tp_runs.proofs.basics.Facts.{all_from_each}
use Rattle.tp_runs.proofs.basics.Homes.{HaveHomes, on_item}
use Rattle.tp_runs.proofs.bounds.Numbers.{number_low}
use Rattle.tp_runs.proofs.ids.Valid.{IsValid, IsValidItem}
use Rattle.tp_runs.proofs.printable.Numbers.{bounded_is_i128, few_is_u32, low_is_u64, rule_is_u32}
use Rattle.tp_runs.proofs.sizes.World.{few_rounds_asked}
use Rattle.tp_runs.specs.Bounded.{AreBoundedDeeds, IsBoundedCause, IsBoundedDecision, IsBoundedDeed, IsBoundedWhat}
use Rattle.tp_runs.specs.Sound.{AreCreds, IsItemOf, IsSoundCause, IsSoundCommit, IsSoundDecision, IsSoundDeed, IsSoundInstance, IsSoundMet, IsSoundProof, IsSoundWhat, IsVersion, query_in}
use Rattle.tp_server.specs.Verdicts.{HasFewRules}
use Rattle.tp_types.proofs.EachLemmas.{each_get}
use Rattle.tp_types.proofs.ListLemmas.{three_from, three_parts}
use Rattle.tp_types.specs.Each.{Each}

-- ---- what is taken of a scenario

pub record Formed (sc : Scenario) : Type 0 where
  pub valid : IsValid sc
  pub homes : HaveHomes sc
  pub few : HasFewRules sc

-- ---- ids

admin_is : (sc : Scenario) (admin : AdminId) (version : Version) → IsVersion sc admin version → is_admin sc admin ≡ true
admin_is sc admin version h = lt-ltb admin.0 (length sc.admins) (slice_get_within sc.admins admin.0 h.declared h.declared_is)

version_is : (sc : Scenario) (admin : AdminId) (version : Version) → Formed sc → IsVersion sc admin version → is_u32 version.0 ≡ true
version_is sc admin version formed h =
    let few : length h.declared.library ≤ 64 = each_get (λ (a : Admin). length a.library ≤ 64) sc.admins admin.0 h.declared formed.valid.libraries h.declared_is in
    let most = h.in_library.1 in
    few_is_u32 version.0 (omega (arith, few, most))

-- a transaction has at most 16 queries
query_low : (sc : Scenario) (txn : TxnId) (number : ℕ) (asked : Query) → Formed sc → query_in sc txn number ≡ Some asked → number ≤ 16
query_low sc txn number asked formed = by_declared (slice_get sc.txns txn.0) refl
  where
    by_declared : (declared : Option Transaction) → slice_get sc.txns txn.0 ≡ declared → query_in sc txn number ≡ Some asked → number ≤ 16
    by_declared None e h = absurd (cc)
    by_declared (Some declared) e h =
        let here : query_at declared number ≡ Some asked = cc in
        number_low declared number asked (formed.homes.few txn.0 declared e) here

query_is : (sc : Scenario) (txn : TxnId) (number : ℕ) (asked : Query) → Formed sc → query_in sc txn number ≡ Some asked → is_u32 number ≡ true
query_is sc txn number asked formed e = let low = query_low sc txn number asked formed e in few_is_u32 number (omega (arith, low))

-- the server of an item is one of the scenario's
home_is : (sc : Scenario) (at : ServerId) (item : ItemId) → Formed sc → IsItemOf sc at item → is_server sc at ≡ true
home_is sc at item formed h =
    let exists = (each_get (IsValidItem sc) sc.items item.0 h.declared formed.valid.items h.declared_is).server in
    subst (λ (server : ServerId). is_server sc server ≡ true) h.server_is (lt-ltb h.declared.server.0 (length sc.servers) exists)

item_is : (sc : Scenario) (item : ItemId) (declared : Item) → slice_get sc.items item.0 ≡ Some declared → is_item sc item ≡ true
item_is sc item declared e = lt-ltb item.0 (length sc.items) (slice_get_within sc.items item.0 declared e)

creds_are : (sc : Scenario) (creds : List CredId) → AreCreds sc creds → list_all (is_cred sc) creds ≡ true
creds_are sc creds h = all_from_each (IsCred sc) (is_cred sc) (λ cred within. lt-ltb cred.0 (length sc.creds) within) creds h

-- ---- places

-- what lies before a decision is of 64 bits, as the decision's place is
place_is : (txn : TxnId) (decided place : ℕ) (facts : List Fact) → decided < 2 ^ 64 → is_within txn decided facts place ≡ true → is_u64 place ≡ true
place_is txn decided place facts low h =
    low_is_u64 place decided (ltb-true place decided (and_parts (was_submitted txn place facts) (nat_lt place decided) h).1) (omega (arith, low))

-- ---- commits

-- the rule that a certificate names
certified_rule : (sc : Scenario) (facts : List Fact) (declared : Transaction) (proof : Verdict) → HasFewRules sc → is_some proof.rule ≡ true → is_certified sc facts declared proof ≡ true → option_map_or is_u32 proof.rule false ≡ true
certified_rule sc facts declared proof few has_rule h = by_policy (policy_at sc proof.admin proof.version) proof.rule refl refl has_rule
    (and_parts (tests_version (rule_proves sc declared proof.uses proof.rule) sc declared proof.query (policy_at sc proof.admin proof.version)) (list_all (is_usable sc proof.place facts declared) proof.uses) h).0
  where
    by_rule : (policy : Policy) (number : ℕ) (asked : Action) (name : List ℕ) (rule : Option Rule) → policy_at sc proof.admin proof.version ≡ Some policy → rule_of policy (Some number) ≡ rule
        → rule_proves sc declared proof.uses (Some number) asked name policy ≡ true → is_u32 number ≡ true
    by_rule policy number asked name None there e t = absurd (cc)
    by_rule policy number asked name (Some rule) there e t = rule_is_u32 sc proof.admin proof.version policy number rule few there e

    by_item : (policy : Policy) (number : ℕ) (asked : Action) (item : Option Item) → policy_at sc proof.admin proof.version ≡ Some policy
        → tests_item (rule_proves sc declared proof.uses (Some number)) asked item policy ≡ true → is_u32 number ≡ true
    by_item policy number asked None there t = absurd (cc)
    by_item policy number asked (Some item) there t = by_rule policy number asked item.name (rule_of policy (Some number)) there refl t

    by_query : (policy : Policy) (number : ℕ) (query : Option Query) → policy_at sc proof.admin proof.version ≡ Some policy
        → tests_query (rule_proves sc declared proof.uses (Some number)) sc query policy ≡ true → is_u32 number ≡ true
    by_query policy number None there t = absurd (cc)
    by_query policy number (Some query) there t = by_item policy number (action_of query) (slice_get sc.items (item_of query).0) there t

    by_policy : (policy : Option Policy) (rule : Option ℕ) → policy_at sc proof.admin proof.version ≡ policy → proof.rule ≡ rule → is_some rule ≡ true
        → tests_version (rule_proves sc declared proof.uses rule) sc declared proof.query policy ≡ true → option_map_or is_u32 rule false ≡ true
    by_policy policy None there e some t = absurd (cc)
    by_policy None (Some number) there e some t = absurd (cc)
    by_policy (Some policy) (Some number) there e some t = by_query policy number (query_at declared proof.query) there t

proof_is : (sc : Scenario) (txn : TxnId) (declared : Transaction) (place : ℕ) (facts : List Fact) (proof : Verdict) → Formed sc → place < 2 ^ 64 → IsSoundProof sc txn proof → is_trusted_proof sc txn declared place facts proof ≡ true → is_printable_proof sc proof ≡ true
proof_is sc txn declared place facts proof formed low h t =
    let trusted = three_parts (is_true_verdict sc facts declared proof) (is_within txn place facts proof.place) (nat_le proof.version.0 (newest sc proof.admin place facts)) t in
    let true_of = three_parts (is_own_query sc declared proof.query proof.server proof.admin) (is_allowed sc facts declared (question_of proof)) (is_certified sc facts declared proof) trusted.0 in
    let asked = h.sound.query in
    three_from (is_u32 proof.query && is_server sc proof.server && is_admin sc proof.admin) (is_u32 proof.version.0 && is_u64 proof.place && option_map_or is_u32 proof.rule false) (list_all (is_cred sc) proof.uses)
    (three_from (is_u32 proof.query) (is_server sc proof.server) (is_admin sc proof.admin)
    (query_is sc txn proof.query asked.asked formed asked.asked_is)
    (home_is sc proof.server (item_of asked.asked) formed asked.kept)
    (admin_is sc proof.admin proof.version h.sound.version))
    (three_from (is_u32 proof.version.0) (is_u64 proof.place) (option_map_or is_u32 proof.rule false)
    (version_is sc proof.admin proof.version formed h.sound.version)
    (place_is txn place proof.place facts low trusted.1)
    (certified_rule sc facts declared proof formed.few h.has_rule true_of.2))
    (creds_are sc proof.uses h.sound.uses)

proofs_are : (sc : Scenario) (txn : TxnId) (declared : Transaction) (place : ℕ) (facts : List Fact) (proofs : List Verdict) → Formed sc → place < 2 ^ 64 → Each (IsSoundProof sc txn) proofs
    → list_all (is_trusted_proof sc txn declared place facts) proofs ≡ true → list_all (is_printable_proof sc) proofs ≡ true
proofs_are sc txn declared place facts [] formed low h t = refl
proofs_are sc txn declared place facts (proof ∷ proofs) formed low h t =
    let parts = and_parts (is_trusted_proof sc txn declared place facts proof) (list_all (is_trusted_proof sc txn declared place facts) proofs) t in
    and_from _ _ (proof_is sc txn declared place facts proof formed low h.0 parts.0) (proofs_are sc txn declared place facts proofs formed low h.1 parts.1)

reading_is : (txn : TxnId) (place : ℕ) (facts : List Fact) (reading : Option ℕ) → place < 2 ^ 64 → is_timely_reading txn place facts reading ≡ true → option_map_or is_u64 reading true ≡ true
reading_is txn place facts None low t = refl
reading_is txn place facts (Some read) low t = place_is txn place read facts low t

instances_are : (sc : Scenario) (txn : TxnId) (declared : Transaction) (place : ℕ) (facts : List Fact) (instances : List Instance) → Formed sc → place < 2 ^ 64 → Each (IsSoundInstance sc txn) instances
    → list_all (is_trusted_instance sc txn declared place facts) instances ≡ true → list_all (is_printable_instance sc) instances ≡ true
instances_are sc txn declared place facts [] formed low h t = refl
instances_are sc txn declared place facts (instance ∷ instances) formed low h t =
    let parts = and_parts (is_trusted_instance sc txn declared place facts instance) (list_all (is_trusted_instance sc txn declared place facts) instances) t in
    let own = and_parts (list_all (is_trusted_proof sc txn declared place facts) instance.proofs) (is_timely_reading txn place facts instance.reading) parts.0 in
    and_from _ _
    (and_from _ _ (reading_is txn place facts instance.reading low own.1) (proofs_are sc txn declared place facts instance.proofs formed low h.0 own.0))
    (instances_are sc txn declared place facts instances formed low h.1 parts.1)

deed_is : (sc : Scenario) (txn : TxnId) (deed : Deed) → Formed sc → IsSoundDeed sc txn deed → IsBoundedDeed deed → is_printable_deed sc deed ≡ true
deed_is sc txn deed formed h bounded =
    let low : deed.query ≤ 16 = query_low sc txn deed.query h.asked formed h.asked_is in
    three_from (is_u32 deed.query) (is_item sc deed.item) (is_i128 deed.value)
    (few_is_u32 deed.query (omega (arith, low)))
    (subst (λ (item : ItemId). is_item sc item ≡ true) (sym h.item_is) (asked_item (slice_get sc.txns txn.0) refl h.asked_is))
    (bounded_is_i128 deed.query deed.value low bounded)
  where
    asked_item : (declared : Option Transaction) → slice_get sc.txns txn.0 ≡ declared → query_in sc txn deed.query ≡ Some h.asked → is_item sc (item_of h.asked) ≡ true
    asked_item None e asked = absurd (cc)
    asked_item (Some declared) e asked =
        let here : query_at declared deed.query ≡ Some h.asked = cc in
        lt-ltb (item_of h.asked).0 (length sc.items) (on_item sc declared deed.query h.asked (formed.homes.on_items txn.0 declared e) here)

deeds_are : (sc : Scenario) (txn : TxnId) (deeds : List Deed) → Formed sc → Each (IsSoundDeed sc txn) deeds → AreBoundedDeeds deeds → list_all (is_printable_deed sc) deeds ≡ true
deeds_are sc txn [] formed h bounded = refl
deeds_are sc txn (deed ∷ deeds) formed h bounded = and_from _ _ (deed_is sc txn deed formed h.0 bounded.0) (deeds_are sc txn deeds formed h.1 bounded.1)

-- at most as many rounds as the transaction may ask for, or two
rounds_few : (sc : Scenario) (declared : Transaction) (rounds : ℕ) → declared.rounds ≤ 16 → (incremental reads : Bool) → (if incremental then rounds == 0 else nat_le 1 rounds && nat_le rounds (if reads then declared.rounds else 2)) ≡ true → rounds ≤ 16
rounds_few sc declared rounds most true reads h = let none = eqb-true rounds 0 h in omega (arith, none)
rounds_few sc declared rounds most false true h = let few = leb-true rounds declared.rounds (and_parts (nat_le 1 rounds) (nat_le rounds declared.rounds) h).1 in omega (arith, few, most)
rounds_few sc declared rounds most false false h = let few = leb-true rounds 2 (and_parts (nat_le 1 rounds) (nat_le rounds 2) h).1 in omega (arith, few)

commit_by : (sc : Scenario) (txn : TxnId) (declared : Transaction) (place : ℕ) (facts : List Fact) (held : CommitRecord) → Formed sc → slice_get sc.txns txn.0 ≡ Some declared → place < 2 ^ 64 → IsSoundCommit sc txn held → AreBoundedDeeds held.deeds
    → is_trusted_commit sc txn place facts held declared ≡ true → is_printable_commit sc held ≡ true
commit_by sc txn declared place facts held formed e low h bounded t =
    let parts = and_parts (meets_demand sc facts declared held) (list_all (is_trusted_instance sc txn declared place facts) held.instances) t in
    let counted = (length held.instances == count_of declared.scheme (reads_master sc declared) (length declared.queries)) && are_instances sc facts declared 1 held.instances in
    let demand = and_parts (counted && each_follows declared.scheme held.instances) (is_round_count sc declared held.rounds) parts.0 in
    let asked = few_rounds_asked sc declared (each_get (λ (d : Transaction). is_valid_txn sc d ≡ true) sc.txns txn.0 declared formed.valid.txns e) in
    let few : held.rounds ≤ 16 = rounds_few sc declared held.rounds asked (is_incremental declared.scheme) (reads_master sc declared) demand.1 in
    three_from (is_u32 held.rounds) (list_all (is_printable_instance sc) held.instances) (list_all (is_printable_deed sc) held.deeds)
    (few_is_u32 held.rounds (omega (arith, few)))
    (instances_are sc txn declared place facts held.instances formed low h.instances parts.1)
    (deeds_are sc txn held.deeds formed h.deeds bounded)

-- ---- causes

met_is : (sc : Scenario) (txn : TxnId) (declared : Transaction) (place : ℕ) (facts : List Fact) (met : Met) → Formed sc → place < 2 ^ 64 → IsSoundMet sc met → is_met_shown sc txn place facts declared met ≡ true → is_printable_met sc met ≡ true
met_is sc txn declared place facts met formed low h t =
    let own = is_global (level_of declared met.admin) && is_own_admin sc met.admin declared in
    let late = own && is_within txn place facts met.place in
    let newer = late && nat_lt met.used.0 met.newest.0 in
    let parts = and_parts newer (met.newest.0 == newest sc met.admin met.place facts) t in
    let within = (and_parts own (is_within txn place facts met.place) (and_parts late (nat_lt met.used.0 met.newest.0) parts.0).0).1 in
    three_from (is_admin sc met.admin) (is_u32 met.used.0) (is_u32 met.newest.0 && is_u64 met.place)
    (admin_is sc met.admin met.used h.used)
    (version_is sc met.admin met.used formed h.used)
    (and_from _ _ (version_is sc met.admin met.newest formed h.newest) (place_is txn place met.place facts low within))

mets_are : (sc : Scenario) (txn : TxnId) (declared : Transaction) (place : ℕ) (facts : List Fact) (mets : List Met) → Formed sc → place < 2 ^ 64 → Each (IsSoundMet sc) mets → list_all (is_met_shown sc txn place facts declared) mets ≡ true → list_all (is_printable_met sc) mets ≡ true
mets_are sc txn declared place facts [] formed low h t = refl
mets_are sc txn declared place facts (met ∷ mets) formed low h t =
    let parts = and_parts (is_met_shown sc txn place facts declared met) (list_all (is_met_shown sc txn place facts declared) mets) t in
    and_from _ _ (met_is sc txn declared place facts met formed low h.0 parts.0) (mets_are sc txn declared place facts mets formed low h.1 parts.1)

some_mets : (sc : Scenario) (mets : List Met) → 1 ≤ length mets → list_all (is_printable_met sc) mets ≡ true → are_printable_mets sc mets ≡ true
some_mets sc [] some h = absurd (omega (arith, some))
some_mets sc (first ∷ others) some h = h

cause_by : (sc : Scenario) (txn : TxnId) (declared : Transaction) (place : ℕ) (facts : List Fact) (why : Cause) → Formed sc → place < 2 ^ 64 → IsSoundCause sc txn why → IsBoundedCause why → is_shown sc txn place facts why declared ≡ true → is_printable_cause sc why ≡ true
cause_by sc txn declared place facts (cause.Denied denied) formed low h bounded t =
    let own = is_own_query sc declared denied.query denied.server denied.admin in
    let within = is_within txn place facts denied.place in
    let shown = and_parts (own && within && is_denied_version sc place facts declared denied) (not (is_allowed sc facts declared (denied_question denied))) t in
    let late = (three_parts own within (is_denied_version sc place facts declared denied) shown.0).1 in
    three_from (is_u32 denied.query) (is_server sc denied.server) (is_admin sc denied.admin && is_u32 denied.version.0 && is_u64 denied.place)
    (query_is sc txn denied.query h.query.asked formed h.query.asked_is)
    (home_is sc denied.server (item_of h.query.asked) formed h.query.kept)
    (three_from (is_admin sc denied.admin) (is_u32 denied.version.0) (is_u64 denied.place)
    (admin_is sc denied.admin denied.version h.version) (version_is sc denied.admin denied.version formed h.version) (place_is txn place denied.place facts low late))
cause_by sc txn declared place facts (cause.No refused) formed low h bounded t =
    let few : refused.query ≤ 16 = query_low sc txn refused.query h.query.asked formed h.query.asked_is in
    three_from (is_u32 refused.query) (is_server sc refused.server) (is_i128 refused.value)
    (few_is_u32 refused.query (omega (arith, few)))
    (home_is sc refused.server (item_of h.query.asked) formed h.query.kept)
    (bounded_is_i128 refused.query refused.value few bounded)
cause_by sc txn declared place facts (cause.Died died) formed low h bounded t =
    let contested = has_contested_query sc declared died in
    let within = is_within txn place facts died.place in
    let shown = and_parts (contested && within && was_submitted_before died.other txn facts) (not (was_settled_before died.server died.other txn facts)) t in
    let late = (three_parts contested within (was_submitted_before died.other txn facts) shown.0).1 in
    three_from (is_u32 died.query) (is_server sc died.server) (is_txn sc died.other && is_u64 died.place)
    (query_is sc txn died.query h.query.asked formed h.query.asked_is)
    (home_is sc died.server (item_of h.query.asked) formed h.query.kept)
    (and_from _ _ (lt-ltb died.other.0 (length sc.txns) h.other) (place_is txn place died.place facts low late))
cause_by sc txn declared place facts (cause.Newer newer) formed low h bounded t =
    three_from (is_admin sc newer.admin) (is_u32 newer.used.0) (is_u32 newer.found.0)
    (admin_is sc newer.admin newer.used h.used) (version_is sc newer.admin newer.used formed h.used) (version_is sc newer.admin newer.found formed h.found)
cause_by sc txn declared place facts (cause.Rounds mets) formed low h bounded t =
    let many = not (is_incremental declared.scheme) && (length mets == declared.rounds) in
    let all = and_parts (many && list_all (is_met_shown sc txn place facts declared) mets) (are_met_on sc facts mets) t in
    let shown = (and_parts many (list_all (is_met_shown sc txn place facts declared) mets) all.0).1 in
    some_mets sc mets h.has_member (mets_are sc txn declared place facts mets formed low h.each shown)
cause_by sc txn declared place facts (cause.Restarted at) formed low h bounded t = lt-ltb at.0 (length sc.servers) h
cause_by sc txn declared place facts cause.Halted formed low h bounded t = refl

-- ---- what happened

decision_is : (sc : Scenario) (txn : TxnId) (place : ℕ) (facts : List Fact) (decided : Decision) (declared : Option Transaction) → Formed sc → slice_get sc.txns txn.0 ≡ declared → place < 2 ^ 64 → IsSoundDecision sc txn decided → IsBoundedDecision decided
    → keeps_trust_what sc facts place (what.Decided txn decided) ≡ true → keeps_causes_what sc facts place (what.Decided txn decided) ≡ true → is_printable_decision sc decided ≡ true
decision_is sc txn place facts (decision.Commit held) None formed e low h bounded t k = absurd (cc)
decision_is sc txn place facts (decision.Commit held) (Some declared) formed e low h bounded t k =
    let there : is_trusted_commit sc txn place facts held declared ≡ true = sym (ap (λ (d : Option Transaction). option_map_or (is_trusted_commit sc txn place facts held) d false) e) ∙ t in
    commit_by sc txn declared place facts held formed e low h bounded there
decision_is sc txn place facts (decision.Abort why) None formed e low h bounded t k = absurd (cc)
decision_is sc txn place facts (decision.Abort why) (Some declared) formed e low h bounded t k =
    let there : is_shown sc txn place facts why declared ≡ true = sym (ap (λ (d : Option Transaction). option_map_or (is_shown sc txn place facts why) d false) e) ∙ k in
    cause_by sc txn declared place facts why formed low h bounded there

crash_is : (sc : Scenario) (who : Actor) → IsCrasher sc who → is_printable_crash sc who ≡ true
crash_is sc (actor.Server at) h = lt-ltb at.0 (length sc.servers) h
crash_is sc (actor.Coordinator txn) h = lt-ltb txn.0 (length sc.txns) h
crash_is sc actor.Master h = absurd h
crash_is sc actor.Authority h = absurd h

-- numbers that a step says are of 64 bits
abbrev pub IsNumbered : What → Type 0
IsNumbered (what.Ticked by) = by < 2 ^ 64
IsNumbered (what.Lost mail) = mail < 2 ^ 64
IsNumbered _ = Unit {0}

pub what_is : (sc : Scenario) (place : ℕ) (facts : List Fact) (happened : What) → Formed sc → place < 2 ^ 64 → IsSoundWhat sc happened → IsBoundedWhat happened → IsNumbered happened
    → keeps_trust_what sc facts place happened ≡ true → keeps_causes_what sc facts place happened ≡ true → is_printable_what sc happened ≡ true
what_is sc place facts (what.Submitted txn) formed low h bounded n t k = lt-ltb txn.0 (length sc.txns) h
what_is sc place facts (what.Published admin version) formed low h bounded n t k = and_from _ _ (admin_is sc admin version h) (version_is sc admin version formed h)
what_is sc place facts (what.Revoked cred) formed low h bounded n t k = lt-ltb cred.0 (length sc.creds) h
what_is sc place facts (what.Ticked by) formed low h bounded n t k = lt-ltb by (2 ^ 64) n
what_is sc place facts (what.Crashed who) formed low h bounded n t k = crash_is sc who h
what_is sc place facts (what.Lost mail) formed low h bounded n t k = lt-ltb mail (2 ^ 64) n
what_is sc place facts (what.Decided txn decided) formed low h bounded n t k =
    and_from _ _ (lt-ltb txn.0 (length sc.txns) h.0) (decision_is sc txn place facts decided (slice_get sc.txns txn.0) formed refl low h.1 bounded t k)
what_is sc place facts (what.Settled at txn outcome) formed low h bounded n t k = and_from _ _ (lt-ltb at.0 (length sc.servers) h.0) (lt-ltb txn.0 (length sc.txns) h.1)
