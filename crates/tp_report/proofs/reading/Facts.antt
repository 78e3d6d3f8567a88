-- The tokens of a fact lead to the place behind it.
use Rattle.std.proofs.Common.{◌≡◌, option_map, ℕ, ◌+◌, ◌^◌, ◌≤◌, nat_lt, ◌&&◌, Bool, true, false, List, [], ◌∷◌, ◌++◌, Option, Some, None, slice_get, refl, sym, ap, subst, ◌∙◌, arith, codes, decimal}
use Rattle.std.specs.Fmt.{signed_decimal}
use Rattle.std.specs.List.{flat_map, list_all}
use Rattle.std.specs.Option.{option_map_or, option_or}
use Rattle.std.proofs.lemmas.Bool.{and_from, and_parts}
use Rattle.std.proofs.lemmas.List.{append-nil, append_assoc}
use Rattle.tp_types.proofs.ListLemmas.{three_parts}
use Rattle.tp_model.specs.Words.{Action, Actor, AdminId, Cause, CommitRecord, CredId, Decision, Deed, Fact, Instance, Met, Outcome, Scenario, ServerDecl, ServerId, Transaction, TxnId, Verdict, Version, What}
use Rattle.tp_model.specs.Valid.{is_admin, is_cred, is_item, is_server, is_txn}
use Rattle.tp_types.specs.declared.fact.What.TheVariants.{Submitted, Published, Revoked, Ticked, Crashed, Lost, Decided, Settled}
use Rattle.tp_types.specs.declared.policy.Action.TheVariants.{Read, Write}
use Rattle.tp_types.specs.declared.records.Cause.TheVariants.{Denied, No, Died, Newer, Rounds, Restarted, Halted}
use Rattle.tp_types.specs.declared.records.Decision.TheVariants.{Commit as Commits, Abort as Aborts}
use Rattle.tp_types.specs.declared.records.Outcome.TheVariants.{Commit, Abort}
use Rattle.tp_types.specs.declared.scenario.Actor.TheVariants.{Server, Coordinator, Master, Authority}
use Rattle.tp_model.specs.Printable.{are_printable_mets, is_i128, is_printable_cause, is_printable_commit, is_printable_crash, is_printable_deed, is_printable_fact, is_printable_instance, is_printable_met, is_printable_proof, is_printable_what, is_u32, is_u64}
use Rattle.tp_report.specs.ReportText.{action_word, actor_name, admin_name, item_name, at_tokens, below, cause_tokens, cred_name, deed_tokens, earlier_met_tokens, earlier_use, fact_tokens, instance_front, instance_line, instance_tokens, instances_tokens, mets_tokens, outcome_word, policy_tokens, proof_front, proof_line, proof_tokens, query_tokens, query_word, reading_word, rule_word, server_name, some_uses_tokens, txn_name, uses_tokens, what_tokens}
use Rattle.tp_report.specs.Tokens.{Token, last_word, word, word_before_comma}
use Rattle.tp_report.proofs.reading.Names.{Fine, admin_taken, cred_taken, declared_name, item_taken, server_taken, txn_taken}
use Rattle.tp_report.proofs.reading.Report.{items_tree, lines_of, rows, before_deeds, deed_tree, instance_rest, proof_rest, proofs_of, Hub, Line, More, Open, Uses, aborts, at_tree, cause_tree, closed, commit_of, crash_tree, hub, instances_of, listed, mets_tree, next_line, opens, policy_tree, query_tree, record_of, server_names, some_uses_tree, u32_bound, u64_bound, uses_tree, what_tree, with_deed, with_instance, with_proof, with_use}
use Rattle.tp_report.proofs.reading.Steps.{any_decimal_clean, exactly, first_of, known, numbered, second_of, valued}
use Rattle.tp_report.proofs.reading.Tree.{At, Done, Either, Exactly, Leads, Named, Numbered, Takes, Then, Tree, Valued, joined, step, take}
use Rattle.tp_report.proofs.reading.Words.{is_clean, is_ending, is_word_byte}

-- ---- pieces

u32_taken : {to : Hub → Tree Hub} {rest : ℕ → Tree Hub} (front : List ℕ) (ending n : ℕ) → list_all is_word_byte front ≡ true → is_ending ending ≡ true → is_u32 n ≡ true
    → Takes to (Numbered front u32_bound ending rest) (record { word = front ++ decimal n; ending = ending }) (rest n)
u32_taken front ending n f e h = numbered front u32_bound ending n f e (omega arith) h

u64_taken : {to : Hub → Tree Hub} {rest : ℕ → Tree Hub} (ending n : ℕ) → is_ending ending ≡ true → is_u64 n ≡ true
    → Takes to (Numbered [] u64_bound ending rest) (record { word = decimal n; ending = ending }) (rest n)
u64_taken ending n e h = numbered [] u64_bound ending n refl e (omega arith) h

-- a place stands for its tree
come_round : {H : Type 0} (to : H → Tree H) (place : H) {token : Token} {tokens : List Token} {last : Tree H} → ((other : Token) → take to (to place) other ≡ take to (At place) other) → Leads to (to place) (token ∷ tokens) last → Leads to (At place) (token ∷ tokens) last
come_round to place {token} same (Then takes rest) = Then (record { clean = takes.clean; leads = sym (same token) ∙ takes.leads }) rest

-- the members stand behind those before them
said : {to : Hub → Tree Hub} (facts : List Fact) (place : ℕ) (txn : TxnId) (before : List Met) (met next : Met) (others : List Met) {from : Tree Hub} {tokens : List Token}
    → Leads to from tokens (next_line facts place (aborts txn (Rounds ((before ++ met ∷ []) ++ next ∷ others)))) → Leads to from tokens (next_line facts place (aborts txn (Rounds (before ++ met ∷ next ∷ others))))
said {to} facts place txn before met next others {from} {tokens} way = subst (λ (mets : List Met). Leads to from tokens (next_line facts place (aborts txn (Rounds mets)))) (append_assoc before (met ∷ []) (next ∷ others)) way

used : (to : Hub → Tree Hub) (facts : List Fact) (held : Open) (made : Instance) (verdict : Verdict) {one other : List CredId} {from : Tree Hub} {tokens : List Token} → one ≡ other
    → Leads to from tokens (At (Line facts (Some (with_proof held made (record verdict { uses = one }))))) → Leads to from tokens (At (Line facts (Some (with_proof held made (record verdict { uses = other })))))
used to facts held made verdict {one} {other} {from} {tokens} e way = subst (λ (uses : List CredId). Leads to from tokens (At (Line facts (Some (with_proof held made (record verdict { uses = uses })))))) e way

-- a way whose first token is of the first choice
first_way : {H : Type 0} {to : H → Tree H} {one other last : Tree H} {token : Token} {tokens : List Token} → take to one token ≡ step one token → Leads to one (token ∷ tokens) last → Leads to (Either one other) (token ∷ tokens) last
first_way plain (Then takes rest) = Then (first_of takes plain) rest

-- the word of a proof, below an instance and before deeds
proof_word : (sc : Scenario) (facts : List Fact) (held : Open) (made : Instance) → held.current ≡ Some made → held.deeds ≡ []
    → Takes (hub sc) (Either (deed_tree sc facts held Read (codes "read")) (Either (deed_tree sc facts held Write (codes "write")) (before_deeds sc facts held held.deeds))) (word (codes "proof")) (proof_rest sc facts held made)
proof_word sc facts held made current deeds =
    record { clean = refl; leads = ap (λ (ds : List Deed). step (before_deeds sc facts held ds) (word (codes "proof"))) deeds ∙ ap (λ (present : Option Instance). option_or None (step (proofs_of sc facts held present) (word (codes "proof")))) current }

-- the word of an instance, before deeds
instance_word : (sc : Scenario) (facts : List Fact) (held : Open) → held.deeds ≡ []
    → Takes (hub sc) (Either (deed_tree sc facts held Read (codes "read")) (Either (deed_tree sc facts held Write (codes "write")) (before_deeds sc facts held held.deeds))) (word (codes "instance")) (instance_rest facts held)
instance_word sc facts held deeds = record { clean = refl; leads = ap (λ (ds : List Deed). step (before_deeds sc facts held ds) (word (codes "instance"))) deeds }

-- the number of an instance has digits alone
count_clean : (count : ℕ) → is_clean (word (decimal (count + 1))) ≡ true
count_clean count = and_from (list_all is_word_byte (decimal (count + 1))) true (any_decimal_clean (count + 1)) refl

-- ---- the state behind some lines

abbrev after_instance : Open → Instance → Open
after_instance held made = record held { count = held.count + 1; before = instances_of held; current = Some made }

abbrev after_instances : Open → List Instance → Open
after_instances held [] = held
after_instances held (made ∷ instances) = after_instances (after_instance held made) instances

after_deeds : (held : Open) (instances : List Instance) → (after_instances held instances).deeds ≡ held.deeds
after_deeds held [] = refl
after_deeds held (made ∷ instances) = after_deeds (after_instance held made) instances

after_all : (held : Open) (instances : List Instance) → instances_of (after_instances held instances) ≡ instances_of held ++ instances
after_all held [] = sym (append-nil (instances_of held))
after_all held (made ∷ instances) = after_all (after_instance held made) instances ∙ append_assoc (instances_of held) (made ∷ []) instances

after_rounds : (held : Open) (instances : List Instance) → (after_instances held instances).rounds ≡ held.rounds
after_rounds held [] = refl
after_rounds held (made ∷ instances) = after_rounds (after_instance held made) instances

after_head : (held : Open) (instances : List Instance) → ((after_instances held instances).place ≡ held.place) × ((after_instances held instances).txn ≡ held.txn)
after_head held [] = (refl, refl)
after_head held (made ∷ instances) = after_head (after_instance held made) instances

abbrev made_commit : ℕ → TxnId → ℕ → List Instance → List Deed → Fact
made_commit place txn rounds instances deeds = record { place = place; what = Decided txn (Commits (record { rounds = rounds; instances = instances; deeds = deeds })) }

commit_told : (place : ℕ) (txn : TxnId) (held : CommitRecord) → commit_of (record (after_instances (opens place txn held.rounds) held.instances) { deeds = held.deeds }) ≡ record { place = place; what = Decided txn (Commits held) }
commit_told place txn held =
    let done = after_instances (opens place txn held.rounds) held.instances in
    let head = after_head (opens place txn held.rounds) held.instances in
    ap (λ (p : ℕ). made_commit p done.txn done.rounds (instances_of done) held.deeds) head.0
    ∙ (ap (λ (t : TxnId). made_commit place t done.rounds (instances_of done) held.deeds) head.1
    ∙ (ap (λ (r : ℕ). made_commit place txn r (instances_of done) held.deeds) (after_rounds (opens place txn held.rounds) held.instances)
    ∙ ap (λ (is : List Instance). made_commit place txn held.rounds is held.deeds) (after_all (opens place txn held.rounds) held.instances)))

-- tokens lead from a tree to the beginning of a line, and by then this fact was told behind the others
record Behind (sc : Scenario) (before : List Fact) (from : Tree Hub) (tokens : List Token) (fact : Fact) : Type 0 where
  facts : List Fact
  held : Option Open
  way : Leads (hub sc) from tokens (At (Line facts held))
  so : closed facts held ≡ before ++ fact ∷ []

-- tokens lead to the beginning of a line, and by then these facts were told
pub record Told (sc : Scenario) (told : List Fact) (from : Tree Hub) (tokens : List Token) : Type 0 where
  pub facts : List Fact
  pub held : Option Open
  pub way : Leads (hub sc) from tokens (At (Line facts held))
  pub so : closed facts held ≡ told

-- a line of a fact begins with its place
place_taken : (sc : Scenario) (facts : List Fact) (held : Option Open) (place : ℕ) → is_u64 place ≡ true → Takes (hub sc) (At (Line facts held)) (word (decimal place)) (what_tree sc (closed facts held) place)
place_taken sc facts held place h =
    let takes = first_of {other = Either (lines_of sc facts held) (items_tree (closed facts held) (rows sc) [])} (u64_taken {to = hub sc} {rest = λ (p : ℕ). what_tree sc (closed facts held) p} 32 place refl h) refl in
    record { clean = takes.clean; leads = takes.leads }

one_line : {sc : Scenario} {before : List Fact} {from : Tree Hub} {tokens : List Token} {fact : Fact} → Leads (hub sc) from tokens (At (Line (before ++ fact ∷ []) None)) → Behind sc before from tokens fact
one_line {sc} {before} {from} {tokens} {fact} way = record { facts = before ++ fact ∷ []; held = None; way = way; so = refl }

module _ {sc : Scenario} (fine : Fine sc) where
  query_way : (rest : ℕ → ServerId → Tree Hub) {tokens : List Token} {last : Tree Hub} (query : ℕ) (server : ServerId) → is_u32 query ≡ true → is_server sc server ≡ true → Leads (hub sc) (rest query server) tokens last
      → Leads (hub sc) (query_tree sc 32 rest) (query_tokens sc query server ++ tokens) last
  unfolding query_tree
  query_way rest query server q s way = Then (u32_taken (codes "q") 32 query refl refl q) (Then (server_taken fine 32 refl server s) way)

  policy_way : (rest : AdminId → Version → Tree Hub) {tokens : List Token} {last : Tree Hub} (admin : AdminId) (version : Version) → is_admin sc admin ≡ true → is_u32 version.0 ≡ true → Leads (hub sc) (rest admin version) tokens last
      → Leads (hub sc) (policy_tree sc 32 rest) (policy_tokens sc admin version ++ tokens) last
  unfolding policy_tree
  policy_way rest admin version a v way = Then (admin_taken fine 32 refl admin a) (Then (u32_taken [] 32 version.0 refl refl v) way)

  last_policy_way : (rest : AdminId → Version → Tree Hub) (admin : AdminId) (version : Version) → is_admin sc admin ≡ true → is_u32 version.0 ≡ true
      → Leads (hub sc) (policy_tree sc 10 rest) (word (admin_name sc admin) ∷ last_word (decimal version.0) ∷ []) (rest admin version)
  unfolding policy_tree
  last_policy_way rest admin version a v = Then (admin_taken fine 32 refl admin a) (Then (u32_taken [] 10 version.0 refl refl v) Done)

  at_way : (rest : ℕ → Tree Hub) (place : ℕ) → is_u64 place ≡ true → Leads (hub sc) (at_tree 10 rest) (at_tokens place) (rest place)
  unfolding at_tree
  at_way rest place p = Then (known refl refl) (Then (u64_taken 10 place refl p) Done)

  -- ---- causes

  mets_way : (facts : List Fact) (place : ℕ) (txn : TxnId) (before : List Met) (met : Met) (others : List Met) → is_printable_met sc met ≡ true → list_all (is_printable_met sc) others ≡ true
      → Leads (hub sc) (mets_tree sc facts place txn before) (mets_tokens sc met others) (next_line facts place (aborts txn (Rounds (before ++ met ∷ others))))
  mets_way facts place txn before met [] m o =
      let parts = three_parts (is_admin sc met.admin) (is_u32 met.used.0) (is_u32 met.newest.0 && is_u64 met.place) m in
      let numbers = and_parts (is_u32 met.newest.0) (is_u64 met.place) parts.2 in
      Then (admin_taken fine 32 refl met.admin parts.0) (Then (u32_taken [] 32 met.used.0 refl refl parts.1) (Then (u32_taken [] 32 met.newest.0 refl refl numbers.0) (Then (known refl refl)
      (Then (second_of refl (u64_taken 10 met.place refl numbers.1) refl) Done))))
  mets_way facts place txn before met (next ∷ others) m o =
      let parts = three_parts (is_admin sc met.admin) (is_u32 met.used.0) (is_u32 met.newest.0 && is_u64 met.place) m in
      let numbers = and_parts (is_u32 met.newest.0) (is_u64 met.place) parts.2 in
      let rest = and_parts (is_printable_met sc next) (list_all (is_printable_met sc) others) o in
      Then (admin_taken fine 32 refl met.admin parts.0) (Then (u32_taken [] 32 met.used.0 refl refl parts.1) (Then (u32_taken [] 32 met.newest.0 refl refl numbers.0) (Then (known refl refl)
      (Then (first_of (u64_taken 44 met.place refl numbers.1) refl) (Then (known refl refl) (mets_again facts place txn before met next others (mets_way facts place txn (before ++ met ∷ []) next others rest.0 rest.1)))))))
    where
      mets_again : (facts : List Fact) (place : ℕ) (txn : TxnId) (before : List Met) (met next : Met) (others : List Met)
          → Leads (hub sc) (mets_tree sc facts place txn (before ++ met ∷ [])) (mets_tokens sc next others) (next_line facts place (aborts txn (Rounds ((before ++ met ∷ []) ++ next ∷ others))))
          → Leads (hub sc) (At (More facts place txn (before ++ met ∷ []))) (mets_tokens sc next others) (next_line facts place (aborts txn (Rounds (before ++ met ∷ next ∷ others))))
      mets_again facts place txn before met next [] way = said facts place txn before met next [] (come_round (hub sc) (More facts place txn (before ++ met ∷ [])) (λ other. refl) way)
      mets_again facts place txn before met next (later ∷ others) way = said facts place txn before met next (later ∷ others) (come_round (hub sc) (More facts place txn (before ++ met ∷ [])) (λ other. refl) way)

  cause_way : (facts : List Fact) (place : ℕ) (txn : TxnId) (cause : Cause) → is_printable_cause sc cause ≡ true → Leads (hub sc) (cause_tree sc facts place txn) (cause_tokens sc cause) (next_line facts place (aborts txn cause))
  cause_way facts place txn (Denied denied) h =
      let parts = three_parts (is_u32 denied.query) (is_server sc denied.server) (is_admin sc denied.admin && is_u32 denied.version.0 && is_u64 denied.place) h in
      let policy = three_parts (is_admin sc denied.admin) (is_u32 denied.version.0) (is_u64 denied.place) parts.2 in
      Then (known refl refl) (query_way _ denied.query denied.server parts.0 parts.1 (policy_way _ denied.admin denied.version policy.0 policy.1 (at_way _ denied.place policy.2)))
  cause_way facts place txn (No outside) h =
      let parts = three_parts (is_u32 outside.query) (is_server sc outside.server) (is_i128 outside.value) h in
      Then (known refl refl) (query_way _ outside.query outside.server parts.0 parts.1 (Then (valued outside.value parts.2) Done))
  cause_way facts place txn (Died died) h =
      let parts = three_parts (is_u32 died.query) (is_server sc died.server) (is_txn sc died.other && is_u64 died.place) h in
      let other = and_parts (is_txn sc died.other) (is_u64 died.place) parts.2 in
      Then (known refl refl) (query_way _ died.query died.server parts.0 parts.1 (Then (txn_taken fine 32 refl died.other other.0) (at_way _ died.place other.1)))
  cause_way facts place txn (Newer newer) h =
      let parts = three_parts (is_admin sc newer.admin) (is_u32 newer.used.0) (is_u32 newer.found.0) h in
      Then (known refl refl) (policy_way _ newer.admin newer.used parts.0 parts.1 (Then (u32_taken [] 10 newer.found.0 refl refl parts.2) Done))
  cause_way facts place txn (Rounds []) h = absurd (cc)
  cause_way facts place txn (Rounds (met ∷ others)) h =
      let parts = and_parts (is_printable_met sc met) (list_all (is_printable_met sc) others) h in
      Then (known refl refl) (mets_way facts place txn [] met others parts.0 parts.1)
  cause_way facts place txn (Restarted server) h = Then (known refl refl) (Then (server_taken fine 10 refl server h) Done)
  cause_way facts place txn Halted h = Then (known refl refl) Done

  -- ---- the lines of a commit

  -- the state of a commit that has this instance as its last one, and no deeds
  uses_way : (facts : List Fact) (held : Open) (made : Instance) (verdict : Verdict) (cred : CredId) (others : List CredId) → is_cred sc cred ≡ true → list_all (is_cred sc) others ≡ true
      → Leads (hub sc) (some_uses_tree sc facts held made verdict) (some_uses_tokens sc cred others) (At (Line facts (Some (with_proof held made (record verdict { uses = verdict.uses ++ cred ∷ others })))))
  uses_way facts held made verdict cred [] c o = Then (second_of refl (cred_taken fine 10 refl cred c) refl) Done
  uses_way facts held made verdict cred (next ∷ others) c o =
      let rest = and_parts (is_cred sc next) (list_all (is_cred sc) others) o in
      Then (first_of (cred_taken fine 32 refl cred c) refl) (again others (uses_way facts held made (with_use verdict cred) next others rest.0 rest.1))
    where
      again : (others : List CredId)
          → Leads (hub sc) (some_uses_tree sc facts held made (with_use verdict cred)) (some_uses_tokens sc next others) (At (Line facts (Some (with_proof held made (record verdict { uses = (verdict.uses ++ cred ∷ []) ++ next ∷ others })))))
          → Leads (hub sc) (At (Uses facts held made (with_use verdict cred))) (some_uses_tokens sc next others) (At (Line facts (Some (with_proof held made (record verdict { uses = verdict.uses ++ cred ∷ next ∷ others })))))
      again [] way = used (hub sc) facts held made verdict (append_assoc verdict.uses (cred ∷ []) (next ∷ [])) (come_round (hub sc) (Uses facts held made (with_use verdict cred)) (λ other. refl) way)
      again (later ∷ rest) way = used (hub sc) facts held made verdict (append_assoc verdict.uses (cred ∷ []) (next ∷ later ∷ rest)) (come_round (hub sc) (Uses facts held made (with_use verdict cred)) (λ other. refl) way)

  all_uses_way : (facts : List Fact) (held : Open) (made : Instance) (verdict : Verdict) (uses : List CredId) → verdict.uses ≡ [] → list_all (is_cred sc) uses ≡ true
      → Leads (hub sc) (uses_tree sc facts held made verdict) (uses_tokens sc uses) (At (Line facts (Some (with_proof held made (record verdict { uses = uses })))))
  all_uses_way facts held made verdict [] none u = used (hub sc) facts held made verdict (none) (Then (second_of no_cred (known refl refl) refl) Done)
    where
      no_cred : step (some_uses_tree sc facts held made verdict) (last_word (codes "none")) ≡ None
      no_cred = ap (option_map (λ (cred : ℕ). At (Line facts (Some (with_proof held made (with_use verdict (record { 0 = cred }))))))) fine.no_none
  all_uses_way facts held made verdict (cred ∷ []) none u =
      let parts = and_parts (is_cred sc cred) true u in
      first_way refl (used (hub sc) facts held made verdict (ap (λ (uses : List CredId). uses ++ cred ∷ []) none) (uses_way facts held made verdict cred [] parts.0 refl))
  all_uses_way facts held made verdict (cred ∷ next ∷ others) none u =
      let parts = and_parts (is_cred sc cred) (list_all (is_cred sc) (next ∷ others)) u in
      first_way refl (used (hub sc) facts held made verdict (ap (λ (uses : List CredId). uses ++ cred ∷ next ∷ others) none) (uses_way facts held made verdict cred (next ∷ others) parts.0 parts.1))

  -- the proof of a present instance, before there are deeds
  proof_way : (facts : List Fact) (held : Open) (made : Instance) (proof : Verdict) → held.current ≡ Some made → held.deeds ≡ [] → is_printable_proof sc proof ≡ true
      → Leads (hub sc) (At (Line facts (Some held))) (proof_tokens sc proof) (At (Line facts (Some (with_proof held made proof))))
  unfolding proof_tokens proof_line proof_front at_tree
  proof_way facts held made proof current deeds h =
      let whole = three_parts (is_u32 proof.query && is_server sc proof.server && is_admin sc proof.admin) (is_u32 proof.version.0 && is_u64 proof.place && option_map_or is_u32 proof.rule false) (list_all (is_cred sc) proof.uses) h in
      let names = three_parts (is_u32 proof.query) (is_server sc proof.server) (is_admin sc proof.admin) whole.0 in
      let numbers = three_parts (is_u32 proof.version.0) (is_u64 proof.place) (option_map_or is_u32 proof.rule false) whole.1 in
      Then (known refl refl) (Then (known refl refl) (Then (proof_word sc facts held made current deeds)
      (query_way _ proof.query proof.server names.0 names.1 (policy_way _ proof.admin proof.version names.2 numbers.0 (Then (known refl refl) (Then (u64_taken 32 proof.place refl numbers.1) (rule_way facts held made proof numbers.2 whole.2)))))))
    where
      rule_way : (facts : List Fact) (held : Open) (made : Instance) (proof : Verdict) → option_map_or is_u32 proof.rule false ≡ true → list_all (is_cred sc) proof.uses ≡ true
          → Leads (hub sc) (Exactly (word (codes "rule")) (Numbered [] u32_bound 32 (λ rule. Exactly (word (codes "uses"))
          (uses_tree sc facts held made (record { query = proof.query; server = proof.server; admin = proof.admin; version = proof.version; place = proof.place; rule = Some rule; uses = [] })))))
          (word (codes "rule") ∷ word (rule_word proof.rule) ∷ word (codes "uses") ∷ uses_tokens sc proof.uses) (At (Line facts (Some (with_proof held made proof))))
      rule_way facts held made proof r u = by_rule proof.rule refl r
        where
          by_rule : (rule : Option ℕ) → proof.rule ≡ rule → option_map_or is_u32 rule false ≡ true
              → Leads (hub sc) (Exactly (word (codes "rule")) (Numbered [] u32_bound 32 (λ rule. Exactly (word (codes "uses"))
              (uses_tree sc facts held made (record { query = proof.query; server = proof.server; admin = proof.admin; version = proof.version; place = proof.place; rule = Some rule; uses = [] })))))
              (word (codes "rule") ∷ word (rule_word rule) ∷ word (codes "uses") ∷ uses_tokens sc proof.uses) (At (Line facts (Some (with_proof held made proof))))
          by_rule None e h = absurd (cc)
          by_rule (Some n) e h =
              subst (λ (v : Verdict). Leads (hub sc) (Exactly (word (codes "rule")) (Numbered [] u32_bound 32 (λ rule. Exactly (word (codes "uses"))
              (uses_tree sc facts held made (record { query = proof.query; server = proof.server; admin = proof.admin; version = proof.version; place = proof.place; rule = Some rule; uses = [] })))))
              (word (codes "rule") ∷ word (decimal n) ∷ word (codes "uses") ∷ uses_tokens sc proof.uses) (At (Line facts (Some (with_proof held made v)))))
              (ap (λ (rule : Option ℕ). record proof { rule = rule }) (sym e))
              (Then (known refl refl) (Then (u32_taken [] 32 n refl refl h) (Then (known refl refl) (all_uses_way facts held made _ proof.uses refl u))))

  proofs_way : (facts : List Fact) (held : Open) (made : Instance) (proofs : List Verdict) → held.current ≡ Some made → held.deeds ≡ [] → list_all (is_printable_proof sc) proofs ≡ true
      → Leads (hub sc) (At (Line facts (Some held))) (flat_map (proof_tokens sc) proofs) (At (Line facts (Some (record held { current = Some (record made { proofs = made.proofs ++ proofs }) }))))
  proofs_way facts held made [] current deeds h =
      subst (λ (present : Option Instance). Leads (hub sc) (At (Line facts (Some held))) [] (At (Line facts (Some (record held { current = present })))))
      (current ∙ ap (λ (proofs : List Verdict). Some (record made { proofs = proofs })) (sym (append-nil made.proofs))) Done
  proofs_way facts held made (proof ∷ proofs) current deeds h =
      let parts = and_parts (is_printable_proof sc proof) (list_all (is_printable_proof sc) proofs) h in
      let first = proof_way facts held made proof current deeds parts.0 in
      let others = proofs_way facts (with_proof held made proof) (record made { proofs = made.proofs ++ proof ∷ [] }) proofs refl deeds parts.1 in
      joined first
      (subst (λ (all : List Verdict). Leads (hub sc) (At (Line facts (Some (with_proof held made proof)))) (flat_map (proof_tokens sc) proofs) (At (Line facts (Some (record held { current = Some (record made { proofs = all }) })))))
      (append_assoc made.proofs (proof ∷ []) proofs) others)

  -- the line of an instance, before there are deeds
  instance_way : (facts : List Fact) (held : Open) (reading : Option ℕ) → held.deeds ≡ [] → option_map_or is_u64 reading true ≡ true
      → Leads (hub sc) (At (Line facts (Some held))) (below (instance_line (held.count + 1) reading)) (At (Line facts (Some (with_instance held reading))))
  unfolding instance_line instance_front
  instance_way facts held None deeds h =
      Then (known refl refl) (Then (known refl refl) (Then (instance_word sc facts held deeds) (Then (exactly (word (decimal (held.count + 1))) (count_clean held.count)) (Then (known refl refl) (Then (known refl refl) Done)))))
  instance_way facts held (Some place) deeds h =
      Then (known refl refl) (Then (known refl refl) (Then (instance_word sc facts held deeds) (Then (exactly (word (decimal (held.count + 1))) (count_clean held.count)) (Then (known refl refl) (Then (first_of (u64_taken 10 place refl h) refl) Done)))))

  -- an instance, with its proofs
  made_way : (facts : List Fact) (held : Open) (made : Instance) → held.deeds ≡ [] → is_printable_instance sc made ≡ true
      → Leads (hub sc) (At (Line facts (Some held))) (instance_tokens sc (held.count + 1) made) (At (Line facts (Some (after_instance held made))))
  unfolding instance_tokens
  made_way facts held made deeds h =
      let parts = and_parts (option_map_or is_u64 made.reading true) (list_all (is_printable_proof sc) made.proofs) h in
      joined (instance_way facts held made.reading deeds parts.0)
      (proofs_way facts (with_instance held made.reading) (record { reading = made.reading; proofs = [] }) made.proofs refl deeds parts.1)

  instances_way : (facts : List Fact) (held : Open) (instances : List Instance) → held.deeds ≡ [] → list_all (is_printable_instance sc) instances ≡ true
      → Leads (hub sc) (At (Line facts (Some held))) (instances_tokens sc (held.count + 1) instances) (At (Line facts (Some (after_instances held instances))))
  instances_way facts held [] deeds h = Done
  instances_way facts held (made ∷ instances) deeds h =
      let parts = and_parts (is_printable_instance sc made) (list_all (is_printable_instance sc) instances) h in
      joined (made_way facts held made deeds parts.0) (instances_way facts (after_instance held made) instances deeds parts.1)

  deed_way : (facts : List Fact) (held : Open) (deed : Deed) → is_printable_deed sc deed ≡ true
      → Leads (hub sc) (At (Line facts (Some held))) (deed_tokens sc deed) (At (Line facts (Some (with_deed held deed))))
  deed_way facts held deed h =
      let parts = three_parts (is_u32 deed.query) (is_item sc deed.item) (is_i128 deed.value) h in
      by_action deed.action refl parts.0 parts.1 parts.2
    where
      by_action : (action : Action) → deed.action ≡ action → is_u32 deed.query ≡ true → is_item sc deed.item ≡ true → is_i128 deed.value ≡ true
          → Leads (hub sc) (At (Line facts (Some held))) (word [] ∷ word [] ∷ word (action_word action) ∷ word (query_word deed.query) ∷ word (item_name sc deed.item) ∷ last_word (signed_decimal deed.value) ∷ []) (At (Line facts (Some (with_deed held deed))))
      by_action Read e q i v =
          subst (λ (action : Action). Leads (hub sc) (At (Line facts (Some held))) (word [] ∷ word [] ∷ word (codes "read") ∷ word (query_word deed.query) ∷ word (item_name sc deed.item) ∷ last_word (signed_decimal deed.value) ∷ []) (At (Line facts (Some (with_deed held (record deed { action = action }))))))
          (sym e) (Then (known refl refl) (Then (known refl refl) (Then (known refl refl) (Then (u32_taken (codes "q") 32 deed.query refl refl q) (Then (item_taken fine 32 refl deed.item i) (Then (valued deed.value v) Done))))))
      by_action Write e q i v =
          subst (λ (action : Action). Leads (hub sc) (At (Line facts (Some held))) (word [] ∷ word [] ∷ word (codes "write") ∷ word (query_word deed.query) ∷ word (item_name sc deed.item) ∷ last_word (signed_decimal deed.value) ∷ []) (At (Line facts (Some (with_deed held (record deed { action = action }))))))
          (sym e) (Then (known refl refl) (Then (known refl refl) (Then (known refl refl) (Then (u32_taken (codes "q") 32 deed.query refl refl q) (Then (item_taken fine 32 refl deed.item i) (Then (valued deed.value v) Done))))))

  deeds_way : (facts : List Fact) (held : Open) (deeds : List Deed) → list_all (is_printable_deed sc) deeds ≡ true
      → Leads (hub sc) (At (Line facts (Some held))) (flat_map (deed_tokens sc) deeds) (At (Line facts (Some (record held { deeds = held.deeds ++ deeds }))))
  deeds_way facts held [] h =
      subst (λ (all : List Deed). Leads (hub sc) (At (Line facts (Some held))) [] (At (Line facts (Some (record held { deeds = all }))))) (sym (append-nil held.deeds)) Done
  deeds_way facts held (deed ∷ deeds) h =
      let parts = and_parts (is_printable_deed sc deed) (list_all (is_printable_deed sc) deeds) h in
      joined (deed_way facts held deed parts.0)
      (subst (λ (all : List Deed). Leads (hub sc) (At (Line facts (Some (with_deed held deed)))) (flat_map (deed_tokens sc) deeds) (At (Line facts (Some (record held { deeds = all })))))
      (append_assoc held.deeds (deed ∷ []) deeds) (deeds_way facts (with_deed held deed) deeds parts.1))

  -- ---- what happened

  -- the place behind the lines that tell this
  what_way : (facts : List Fact) (place : ℕ) (what : What) → is_printable_what sc what ≡ true → Behind sc facts (what_tree sc facts place) (what_tokens sc what) (record { place = place; what = what })
  what_way facts place (Submitted txn) h = one_line (Then (known refl refl) (Then (txn_taken fine 10 refl txn h) Done))
  what_way facts place (Published admin version) h =
      let parts = and_parts (is_admin sc admin) (is_u32 version.0) h in
      one_line (Then (known refl refl) (last_policy_way _ admin version parts.0 parts.1))
  what_way facts place (Revoked cred) h = one_line (Then (known refl refl) (Then (cred_taken fine 10 refl cred h) Done))
  what_way facts place (Ticked by) h = one_line (Then (known refl refl) (Then (u64_taken 10 by refl h) Done))
  what_way facts place (Crashed (Server id)) h = one_line (Then (known refl refl) (Then (first_of (server_taken fine 10 refl id h) refl) Done))
  what_way facts place (Crashed (Coordinator id)) h =
      one_line (Then (known refl refl) (Then (second_of (no_such_server id h) (txn_taken fine 10 refl id h) refl) Done))
    where
      no_such_server : (id : TxnId) → is_txn sc id ≡ true → step (Named (server_names sc) 10 (λ server. next_line facts place (Crashed (Server (record { 0 = server }))))) (last_word (txn_name sc id)) ≡ None
      no_such_server id h =
          ap (option_map (λ (server : ℕ). next_line facts place (Crashed (Server (record { 0 = server })))))
          (fine.no_server id.0 (txn_name sc id) (declared_name (λ (txn : Transaction). txn.name) sc.txns id.0 fine.txns h).at)
  what_way facts place (Crashed Master) h = absurd (cc)
  what_way facts place (Crashed Authority) h = absurd (cc)
  what_way facts place (Lost mail) h = one_line (Then (known refl refl) (Then (u64_taken 10 mail refl h) Done))
  what_way facts place (Decided txn (Commits held)) h =
      let parts = and_parts (is_txn sc txn) (is_printable_commit sc held) h in
      let commit = three_parts (is_u32 held.rounds) (list_all (is_printable_instance sc) held.instances) (list_all (is_printable_deed sc) held.deeds) parts.1 in
      let opened = opens place txn held.rounds in
      let done = after_instances opened held.instances in
      record {
        facts = facts;
        held = Some (record done { deeds = held.deeds });
        way = Then (known refl refl) (Then (txn_taken fine 32 refl txn parts.0) (Then (known refl refl) (Then (u32_taken [] 10 held.rounds refl refl commit.0)
            (joined (instances_way facts opened held.instances refl commit.1) (to_deeds (after_deeds opened held.instances) (deeds_way facts done held.deeds commit.2))))));
        so = ap (λ (fact : Fact). facts ++ fact ∷ []) (commit_told place txn held);
      }
    where
      to_deeds : {done : Open} → done.deeds ≡ [] → Leads (hub sc) (At (Line facts (Some done))) (flat_map (deed_tokens sc) held.deeds) (At (Line facts (Some (record done { deeds = done.deeds ++ held.deeds }))))
          → Leads (hub sc) (At (Line facts (Some done))) (flat_map (deed_tokens sc) held.deeds) (At (Line facts (Some (record done { deeds = held.deeds }))))
      to_deeds {done} none way = subst (λ (before : List Deed). Leads (hub sc) (At (Line facts (Some done))) (flat_map (deed_tokens sc) held.deeds) (At (Line facts (Some (record done { deeds = before ++ held.deeds }))))) none way
  what_way facts place (Decided txn (Aborts cause)) h =
      let parts = and_parts (is_txn sc txn) (is_printable_cause sc cause) h in
      one_line (Then (known refl refl) (Then (txn_taken fine 32 refl txn parts.0) (cause_way facts place txn cause parts.1)))
  what_way facts place (Settled server txn Commit) h =
      let parts = and_parts (is_server sc server) (is_txn sc txn) h in
      one_line (Then (known refl refl) (Then (server_taken fine 32 refl server parts.0) (Then (txn_taken fine 32 refl txn parts.1) (Then (known refl refl) Done))))
  what_way facts place (Settled server txn Abort) h =
      let parts = and_parts (is_server sc server) (is_txn sc txn) h in
      one_line (Then (known refl refl) (Then (server_taken fine 32 refl server parts.0) (Then (txn_taken fine 32 refl txn parts.1) (Then (known refl refl) Done))))

  fact_way : (facts : List Fact) (held : Option Open) (fact : Fact) → is_printable_fact sc fact ≡ true → Behind sc (closed facts held) (At (Line facts held)) (fact_tokens sc fact) fact
  fact_way facts held fact h =
      let parts = and_parts (is_u64 fact.place) (is_printable_what sc fact.what) h in
      let rest = what_way (closed facts held) fact.place fact.what parts.1 in
      record { facts = rest.facts; held = rest.held; way = Then (place_taken sc facts held fact.place parts.0) rest.way; so = rest.so }

  pub facts_way : (facts : List Fact) (held : Option Open) (more : List Fact) → list_all (is_printable_fact sc) more ≡ true → Told sc (closed facts held ++ more) (At (Line facts held)) (flat_map (fact_tokens sc) more)
  facts_way facts held [] h = record { facts = facts; held = held; way = Done; so = sym (append-nil (closed facts held)) }
  facts_way facts held (fact ∷ more) h =
      let parts = and_parts (is_printable_fact sc fact) (list_all (is_printable_fact sc) more) h in
      let first = fact_way facts held fact parts.0 in
      let rest = facts_way first.facts first.held more parts.1 in
      record { facts = rest.facts; held = rest.held; way = joined first.way rest.way; so = rest.so ∙ (ap (λ (told : List Fact). told ++ more) first.so ∙ append_assoc (closed facts held) (fact ∷ []) more) }
