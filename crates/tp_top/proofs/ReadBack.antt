-- The text of a step is read back as this step.
use Rattle.std.proofs.Common.{◌≡◌, ◌∙◌, ℕ, suc, ◌+◌, ◌≤◌, ◌^◌, ◌&&◌, nat_le, nat_lt, not, Bool, true, false, List, [], ◌∷◌, ◌++◌, length, map, slice_get, Option, Some, None, Ok, option_map, refl, sym, ap, subst, arith, codes, decimal, cond, if◌then◌else◌}
use Rattle.std.specs.List.{list_all, list_any, position_or_len}
use Rattle.std.specs.Option.{option_map_or}
use Rattle.std.proofs.lemmas.Bool.{and_parts, lt-ltb, ltb-true, not-true}
use Rattle.std.proofs.lemmas.Bool.Decides.{nat_tests}
use Rattle.std.proofs.lemmas.List.{append-nil, append_assoc}
use Rattle.std.proofs.lemmas.Option.{slice_get-map}
use Rattle.tp_types.specs.Spelling.{is_name}
use Rattle.tp_types.proofs.EachLemmas.{each_as, each_from_all, each_get, missing}
use Rattle.tp_types.proofs.ListLemmas.{three_parts}
use Rattle.tp_model.proofs.RuleLemmas.{rules_of}
use Rattle.tp_model.specs.Ids.{same_name}
use Rattle.tp_model.specs.Limits.{calls_limit, has_count, is_from_to, steps_limit}
use Rattle.tp_model.specs.SpelledNames.{is_spelled}
use Rattle.tp_model.specs.Valid.{are_distinct, are_valid_from, has_valid_creds, is_admin, is_cred, is_name_of_server, is_number, is_server, is_txn, is_valid, is_valid_admin, is_valid_cred, is_valid_cut, is_valid_query, is_valid_step, is_valid_txn, may_crash, same_admin_name, same_cred_name, same_server_name, same_txn_name}
use Rattle.tp_model.specs.Words.{Actor, Admin, AdminId, CredId, Credential, Item, Scenario, ServerDecl, ServerId, Step, Transaction, TxnId}
use Rattle.tp_model.specs.Words.actor
use Rattle.tp_model.specs.Words.step
use Rattle.tp_report.specs.ReportText.{admin_name, cred_name, server_name, txn_name}
use Rattle.tp_report.specs.StepText.{actor_word, step_text}
use Rattle.tp_report.proofs.reading.Steps.{names_apart, no_place, place_found}
use Rattle.tp_report.proofs.reading.Tree.{place_of as place_in}
use Rattle.tp_scenario.specs.Names.{Names, place_of}
use Rattle.tp_scenario.specs.Spelled.{IsStep}
use Rattle.tp_scenario.specs.Steps.{steps_at}
use Rattle.tp_scenario.specs.Values.{array_of}
use Rattle.tp_scenario.specs.Walk.{names_of}
use Rattle.tp_scenario.proofs.GrowingLists.{any_agrees, any_made}
use Rattle.tp_scenario.proofs.NameLemmas.{same_turned}
use Rattle.tp_scenario.proofs.SaidSteps.{IsDeclared, IsNamed, boot_said, crash_said, cut_said, deliver_said, list_said, lose_said, one_said, publish_said, push_said, revoke_said, submit_said, tick_said, timer_said}
use Rattle.tp_top.specs.Laws.{SaysOnly}

-- ---- names

next_place : (k n : ℕ) → cond (nat_lt (1 + k) (suc n)) (Some (1 + k)) None ≡ option_map suc (cond (nat_lt k n) (Some k) None)
next_place k n = grind (arith, nat_tests)

same_place : (name : List ℕ) (names : Names) → place_of name names ≡ place_in names name
same_place name [] = refl
same_place name (other ∷ names) = by_test (same_name other name) (same_place name names)
  where
    by_test : (b : Bool) → place_of name names ≡ place_in names name → cond (nat_lt (cond (not b) (1 + position_or_len (λ (n : List ℕ). same_name n name) names) 0) (suc (length names)))
        (Some (cond (not b) (1 + position_or_len (λ (n : List ℕ). same_name n name) names) 0)) None ≡ (if b then Some 0 else option_map suc (place_in names name))
    by_test true e = ap (λ (b : Bool). cond b (Some 0) None) (lt-ltb 0 (suc (length names)) (omega arith))
    by_test false e = next_place (position_or_len (λ (n : List ℕ). same_name n name) names) (length names) ∙ ap (option_map suc) e

declared : {A : Type 0} (name : A → List ℕ) (xs : List A) (i : ℕ) → are_distinct (λ (one other : A). same_name (name one) (name other)) xs ≡ true → list_all (λ (x : A). is_name (name x)) xs ≡ true
    → nat_lt i (length xs) ≡ true → IsDeclared (map name xs) i (option_map_or name (slice_get xs i) [])
declared {A} name xs i apart spelled low = by_found (slice_get xs i) refl
  where
    by_found : (found : Option A) → slice_get xs i ≡ found → IsDeclared (map name xs) i (option_map_or name found [])
    by_found None e = absurd (missing xs i (ltb-true i (length xs) low) e)
    by_found (Some x) e = record {
      spelled = each_get (λ (y : A). is_name (name y) ≡ true) xs i x (each_from_all (λ (y : A). is_name (name y)) xs spelled) e;
      found = same_place (name x) (map name xs) ∙ place_found (map name xs) i (name x) (sym (names_apart name xs) ∙ apart) (slice_get-map name xs i ∙ ap (option_map name) e);
    }

-- what a step may name is declared
record AreDeclared (sc : Scenario) : Type 0 where
  admins : (id : AdminId) → is_admin sc id ≡ true → IsDeclared (names_of sc).admins id.0 (admin_name sc id)
  creds : (id : CredId) → is_cred sc id ≡ true → IsDeclared (names_of sc).creds id.0 (cred_name sc id)
  servers : (id : ServerId) → is_server sc id ≡ true → IsDeclared (names_of sc).servers id.0 (server_name sc id)
  txns : (id : TxnId) → is_txn sc id ≡ true → IsDeclared (names_of sc).txns id.0 (txn_name sc id)
  no_server : (id : TxnId) → is_txn sc id ≡ true → place_of (txn_name sc id) (names_of sc).servers ≡ None

-- no server has a transaction's name
not_server : (sc : Scenario) → list_all (is_valid_txn sc) sc.txns ≡ true → (id : TxnId) → is_txn sc id ≡ true → place_of (txn_name sc id) (names_of sc).servers ≡ None
not_server sc valid id low = by_found (slice_get sc.txns id.0) refl
  where
    apart : (txn : Transaction) → is_valid_txn sc txn ≡ true → list_any (λ (server : List ℕ). same_name server txn.name) (names_of sc).servers ≡ false
    apart txn h =
        let parts = three_parts (has_valid_creds sc txn) (is_from_to 1 16 txn.rounds) _ h in
        let work = three_parts (has_count 1 16 txn.queries) (list_all (is_valid_query sc) txn.queries) (not (list_any (is_name_of_server txn) sc.servers)) parts.2 in
        any_made (λ (server : ServerDecl). server.name) (λ (server : List ℕ). same_name server txn.name) sc.servers
        ∙ (any_agrees (λ (server : ServerDecl). same_name server.name txn.name) (is_name_of_server txn) (λ server. same_turned server.name txn.name) sc.servers ∙ not-true _ work.2)

    by_found : (found : Option Transaction) → slice_get sc.txns id.0 ≡ found → place_of (option_map_or (λ (txn : Transaction). txn.name) found []) (names_of sc).servers ≡ None
    by_found None e = absurd (missing sc.txns id.0 (ltb-true id.0 (length sc.txns) low) e)
    by_found (Some txn) e =
        let here = each_get (λ (t : Transaction). is_valid_txn sc t ≡ true) sc.txns id.0 txn (each_from_all (is_valid_txn sc) sc.txns valid) e in
        same_place txn.name (names_of sc).servers ∙ no_place (names_of sc).servers txn.name (apart txn here)

all_declared : (sc : Scenario) → is_valid sc ≡ true → is_spelled sc ≡ true → AreDeclared sc
all_declared sc valid spelled =
    let rules = rules_of sc valid in
    let admins = three_parts (has_count 1 16 sc.admins) (list_all is_valid_admin sc.admins) (are_distinct same_admin_name sc.admins) rules.admins in
    let creds = three_parts (has_count 0 256 sc.creds) (list_all is_valid_cred sc.creds) (are_distinct same_cred_name sc.creds) rules.creds in
    let servers = three_parts (has_count 1 16 sc.servers) (are_valid_from sc 0 sc.servers) (are_distinct same_server_name sc.servers) rules.servers in
    let txns = three_parts (has_count 0 128 sc.txns) (list_all (is_valid_txn sc) sc.txns) (are_distinct same_txn_name sc.txns) rules.txns in
    let last = and_parts _ (list_all (λ (txn : Transaction). is_name txn.name) sc.txns) spelled in
    let fourth = and_parts _ (list_all (λ (item : Item). is_name item.name) sc.items) last.0 in
    let third = and_parts _ (list_all (λ (server : ServerDecl). is_name server.name) sc.servers) fourth.0 in
    let front = and_parts (list_all (λ (admin : Admin). is_name admin.name) sc.admins) (list_all (λ (cred : Credential). is_name cred.name) sc.creds) third.0 in
    record {
      admins = λ id low. declared (λ (admin : Admin). admin.name) sc.admins id.0 admins.2 front.0 low;
      creds = λ id low. declared (λ (cred : Credential). cred.name) sc.creds id.0 creds.2 front.1 low;
      servers = λ id low. declared (λ (server : ServerDecl). server.name) sc.servers id.0 servers.2 third.1 low;
      txns = λ id low. declared (λ (txn : Transaction). txn.name) sc.txns id.0 txns.2 last.1 low;
      no_server = not_server sc txns.1;
    }

-- who may crash is named
actor_named : (sc : Scenario) → AreDeclared sc → (who : Actor) → may_crash sc who ≡ true → IsNamed (names_of sc) who (actor_word sc who)
actor_named sc names (actor.Server at) low = let here = names.servers at low in record { spelled = here.spelled; found = here.found }
actor_named sc names (actor.Coordinator txn) low = let here = names.txns txn low in record { spelled = here.spelled; found = (names.no_server txn low, here.found) }
actor_named sc names actor.Master low = absurd (cc)
actor_named sc names actor.Authority low = absurd (cc)

-- ---- steps

five_parts : (one two three four five : List ℕ) → one ++ two ++ three ++ four ++ five ≡ one ++ (two ++ (three ++ (four ++ five)))
five_parts one two three four five = append_assoc (one ++ two ++ three) four five ∙ (append_assoc (one ++ two) three (four ++ five) ∙ append_assoc one two (three ++ (four ++ five)))

says : (sc : Scenario) (taken : Step) → AreDeclared sc → is_valid_step sc taken ≡ true → IsStep (names_of sc) taken (step_text sc taken)
unfolding step_text
says sc (step.Submit txn) names h = submit_said (names_of sc) txn (txn_name sc txn) (names.txns txn h)
says sc (step.Publish admin) names h = publish_said (names_of sc) admin (admin_name sc admin) (names.admins admin h)
says sc (step.Push admin server) names h =
    let both = and_parts (is_admin sc admin) (is_server sc server) h in
    subst (λ (rest : List ℕ). IsStep (names_of sc) (step.Push admin server) (codes "push" ++ 32 ∷ rest)) (sym (append_assoc (admin_name sc admin) (32 ∷ []) (server_name sc server)))
    (push_said (names_of sc) admin server (admin_name sc admin) (server_name sc server) (names.admins admin both.0) (names.servers server both.1))
says sc (step.Revoke cred) names h = revoke_said (names_of sc) cred (cred_name sc cred) (names.creds cred h)
says sc (step.Tick by) names h = tick_said (names_of sc) by h
says sc (step.Deliver mail) names h = deliver_said (names_of sc) mail (ltb-true mail (10 ^ 15) h)
says sc (step.Lose mail) names h = lose_said (names_of sc) mail (ltb-true mail (10 ^ 15) h)
says sc (step.Crash who None) names h =
    let named = actor_named sc names who (and_parts (may_crash sc who) true h).0 in
    subst (λ (name : List ℕ). IsStep (names_of sc) (step.Crash who None) (codes "crash" ++ 32 ∷ name)) (sym (append-nil (actor_word sc who)))
    (crash_said (names_of sc) who (actor_word sc who) named)
says sc (step.Crash who (Some how)) names h =
    let parts = and_parts (may_crash sc who) (is_valid_cut how) h in
    let outer = and_parts (is_number how.mail && nat_le how.calls calls_limit) (nat_le how.fill 255) parts.1 in
    let numbers = and_parts (is_number how.mail) (nat_le how.calls calls_limit) outer.0 in
    subst (λ (rest : List ℕ). IsStep (names_of sc) (step.Crash who (Some how)) (codes "crash" ++ 32 ∷ (actor_word sc who ++ 32 ∷ (codes "in" ++ 32 ∷ rest))))
    (sym (five_parts (decimal how.mail) (codes " at ") (decimal how.calls) (codes " fill ") (decimal how.fill)))
    (cut_said (names_of sc) who (actor_word sc who) how (actor_named sc names who parts.0) (ltb-true how.mail (10 ^ 15) numbers.0) numbers.1 outer.1)
says sc (step.Boot who) names h = boot_said (names_of sc) who (actor_word sc who) (actor_named sc names who h)
says sc (step.Timer txn) names h = timer_said (names_of sc) txn (txn_name sc txn) (names.txns txn h)

pub step_read_back : (sc : Scenario) (taken : Step) → is_valid sc ≡ true → is_spelled sc ≡ true → is_valid_step sc taken ≡ true → SaysOnly sc taken (step_text sc taken)
step_read_back sc taken valid spelled h =
    let here = says sc taken (all_declared sc valid spelled) h in
    record { says = here; no_other = λ other k. one_said (names_of sc) (step_text sc taken) taken other here k }

pub list_read_back : (sc : Scenario) (steps : List Step) → is_valid sc ≡ true → is_spelled sc ≡ true → length steps ≤ steps_limit → list_all (is_valid_step sc) steps ≡ true
    → steps_at (names_of sc) (Some (array_of (map (step_text sc) steps))) ≡ Ok steps
list_read_back sc steps valid spelled few all =
    let names = all_declared sc valid spelled in
    list_said (names_of sc) (step_text sc) steps few
    (each_as (λ (taken : Step). is_valid_step sc taken ≡ true) (λ (taken : Step). IsStep (names_of sc) taken (step_text sc taken)) (λ taken h. says sc taken names h) steps
    (each_from_all (is_valid_step sc) steps all))
