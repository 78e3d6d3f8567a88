-- A report tells one history.
use Rattle.std.proofs.Common.{◌≡◌, ◌||◌, ◌&&◌, ◌==◌, if◌then◌else◌, not, nat_lt, ℕ, Bool, true, false, List, [], ◌∷◌, ◌++◌, length, map, Option, Some, None, slice_get, ℤ, refl, sym, ap, subst, ◌∙◌, arith, codes}
use Rattle.std.specs.List.{flat_map, list_all, list_any}
use Rattle.std.specs.Option.{option_or}
use Rattle.std.proofs.lemmas.Bool.{and_from, and_parts}
use Rattle.std.proofs.lemmas.Bool.Decides.{nat_tests}
use Rattle.std.proofs.lemmas.List.{append_assoc}
use Rattle.std.proofs.lemmas.Option.{same_Some, slice_get-map}
use Rattle.tp_types.specs.Each.{Each}
use Rattle.tp_types.specs.Spelling.{is_letter, is_name, is_name_byte}
use Rattle.tp_types.proofs.EachLemmas.{each_as, each_from_all, each_get, each_map}
use Rattle.tp_types.proofs.ListLemmas.{three_parts}
use Rattle.tp_model.proofs.RuleLemmas.{rules_of}
use Rattle.tp_model.specs.Words.{Admin, Credential, Ending, Fact, Item, ItemId, Scenario, ServerDecl, Transaction}
use Rattle.tp_model.specs.Ids.{same_name}
use Rattle.tp_model.specs.Limits.{has_count, is_from_to}
use Rattle.tp_model.specs.Valid.{are_by_server, are_distinct, are_valid_from, has_valid_creds, is_name_of_server, is_valid, is_valid_admin, is_valid_cred, is_valid_item, is_valid_query, is_valid_txn, same_admin_name, same_cred_name, same_item_name, same_server_name, same_txn_name}
use Rattle.tp_report.specs.Laws.{IsTold, TellsOneHistory}
use Rattle.tp_model.specs.SpelledNames.{is_spelled}
use Rattle.tp_model.specs.Printable.{has_cred_none, is_called_none, is_i128, is_printable, is_printable_ending, is_printable_fact, is_u64}
use Rattle.tp_report.specs.ReportText.{fact_tokens, quiet_tokens, report_text, report_tokens, server_tokens}
use Rattle.tp_report.specs.Tokens.{Token, last_word, text_of, word}
use Rattle.tp_report.proofs.reading.Facts.{Told, facts_way}
use Rattle.tp_report.proofs.reading.Items.{Ends, all_values, ids_exist, quiet_way, servers_way, value_at}
use Rattle.tp_report.proofs.reading.Names.{AreNames, Fine}
use Rattle.tp_report.proofs.reading.Order.{ids_from, in_order}
use Rattle.tp_report.proofs.reading.Report.{End, Hub, Items, Line, Open, admin_names, closed, cred_names, hub, item_names, items_tree, line_tree, lines_of, rows, rows_of, server_names, start, txn_names, u64_bound, what_tree}
use Rattle.tp_report.proofs.reading.Steps.{known, names_apart, no_place, none_at, same_is, same_itself}
use Rattle.tp_report.proofs.reading.Tree.{At, Done, Exactly, Leads, Numbered, Takes, Then, Tree, clean_all, follow, followed, joined, place_of, same_bytes, same_token, step, take}
use Rattle.tp_report.proofs.reading.Words.{is_word_byte, one_text}

-- ---- names

name_byte_clean : (byte : ℕ) → is_name_byte byte ≡ true → is_word_byte byte ≡ true
name_byte_clean byte h = grind (arith, nat_tests)

bytes_clean : (bytes : List ℕ) → list_all is_name_byte bytes ≡ true → list_all is_word_byte bytes ≡ true
bytes_clean [] h = refl
bytes_clean (byte ∷ bytes) h =
    let parts = and_parts (is_name_byte byte) (list_all is_name_byte bytes) h in
    and_from (is_word_byte byte) (list_all is_word_byte bytes) (name_byte_clean byte parts.0) (bytes_clean bytes parts.1)

letter_clean : (byte : ℕ) → is_letter byte ≡ true → is_word_byte byte ≡ true
letter_clean byte h = grind (arith, nat_tests)

name_clean : (name : List ℕ) → is_name name ≡ true → list_all is_word_byte name ≡ true
name_clean [] h = absurd (cc)
name_clean (first ∷ others) h =
    let parts = three_parts (is_letter first) (nat_lt (length others) 32) (list_all is_name_byte others) h in
    and_from (is_word_byte first) (list_all is_word_byte others) (letter_clean first parts.0) (bytes_clean others parts.2)

names_of : {A : Type 0} (name : A → List ℕ) (xs : List A) → are_distinct (λ (one other : A). same_name (name one) (name other)) xs ≡ true → list_all (λ (x : A). is_name (name x)) xs ≡ true → AreNames (map name xs)
names_of {A} name xs apart spelled =
    record {
      apart = sym (names_apart name xs) ∙ apart;
      clean = each_map (λ (x : A). is_name (name x) ≡ true) (λ (n : List ℕ). list_all is_word_byte n ≡ true) name (λ x h. name_clean (name x) h) xs (each_from_all (λ (x : A). is_name (name x)) xs spelled);
    }

any_named : {A : Type 0} (name : A → List ℕ) (bytes : List ℕ) (xs : List A) → list_any (λ (x : A). same_name (name x) bytes) xs ≡ list_any (λ (n : List ℕ). same_name n bytes) (map name xs)
any_named name bytes [] = refl
any_named name bytes (x ∷ xs) = ap (λ (b : Bool). same_name (name x) bytes || b) (any_named name bytes xs)

swapped : (n m : ℕ) → (n == m) ≡ (m == n)
swapped n m = grind (arith, nat_tests)

turned : (one other : List ℕ) → same_name one other ≡ same_name other one
turned [] [] = refl
turned [] (byte ∷ bytes) = refl
turned (byte ∷ bytes) [] = refl
turned (byte ∷ bytes) (next ∷ nexts) = ap (λ (b : Bool). b && same_name bytes nexts) (swapped byte next) ∙ ap (λ (b : Bool). (next == byte) && b) (turned bytes nexts)

any_turned : (bytes : List ℕ) (servers : List ServerDecl) → list_any (λ (server : ServerDecl). same_name bytes server.name) servers ≡ list_any (λ (server : ServerDecl). same_name server.name bytes) servers
any_turned bytes [] = refl
any_turned bytes (server ∷ servers) = ap (λ (b : Bool). b || list_any (λ (other : ServerDecl). same_name bytes other.name) servers) (turned bytes server.name) ∙ ap (λ (b : Bool). same_name server.name bytes || b) (any_turned bytes servers)

not_false : (b : Bool) → not b ≡ true → b ≡ false
not_false true e = absurd (cc)
not_false false e = refl

fine_of : (sc : Scenario) → is_valid sc ≡ true → is_spelled sc ≡ true → has_cred_none sc ≡ false → Fine sc
fine_of sc valid spelled none =
    let rules = rules_of sc valid in
    let admins = three_parts (has_count 1 16 sc.admins) (list_all is_valid_admin sc.admins) (are_distinct same_admin_name sc.admins) rules.admins in
    let creds = three_parts (has_count 0 256 sc.creds) (list_all is_valid_cred sc.creds) (are_distinct same_cred_name sc.creds) rules.creds in
    let servers = three_parts (has_count 1 16 sc.servers) (are_valid_from sc 0 sc.servers) (are_distinct same_server_name sc.servers) rules.servers in
    let items = three_parts (list_all (is_valid_item sc) sc.items) (are_by_server 0 sc.items) (are_distinct same_item_name sc.items) rules.items in
    let txns = three_parts (has_count 0 128 sc.txns) (list_all (is_valid_txn sc) sc.txns) (are_distinct same_txn_name sc.txns) rules.txns in
    let last = and_parts _ (list_all (λ (txn : Transaction). is_name txn.name) sc.txns) spelled in
    let fourth = and_parts _ (list_all (λ (item : Item). is_name item.name) sc.items) last.0 in
    let third = and_parts _ (list_all (λ (server : ServerDecl). is_name server.name) sc.servers) fourth.0 in
    let front = and_parts (list_all (λ (admin : Admin). is_name admin.name) sc.admins) (list_all (λ (cred : Credential). is_name cred.name) sc.creds) third.0 in
    record {
      admins = names_of (λ (admin : Admin). admin.name) sc.admins admins.2 front.0;
      creds = names_of (λ (cred : Credential). cred.name) sc.creds creds.2 front.1;
      servers = names_of (λ (server : ServerDecl). server.name) sc.servers servers.2 third.1;
      items = names_of (λ (item : Item). item.name) sc.items items.2 fourth.1;
      txns = names_of (λ (txn : Transaction). txn.name) sc.txns txns.2 last.1;
      no_none = no_place (cred_names sc) (codes "none") (sym (any_named (λ (cred : Credential). cred.name) (codes "none") sc.creds) ∙ none);
      no_server = λ n name at. no_server_named sc n name at (slice_get sc.txns n) refl (each_from_all (is_valid_txn sc) sc.txns txns.1);
    }
  where
    no_server_named : (sc : Scenario) (n : ℕ) (name : List ℕ) → slice_get (txn_names sc) n ≡ Some name → (found : Option Transaction) → slice_get sc.txns n ≡ found → Each (λ (txn : Transaction). is_valid_txn sc txn ≡ true) sc.txns → place_of (server_names sc) name ≡ None
    no_server_named sc n name at None e all = absurd (cc (at, slice_get-map (λ (txn : Transaction). txn.name) sc.txns n, e))
    no_server_named sc n name at (Some txn) e all =
        let is : txn.name ≡ name = cc (at, slice_get-map (λ (t : Transaction). t.name) sc.txns n, e) in
        let txn_valid = each_get (λ (t : Transaction). is_valid_txn sc t ≡ true) sc.txns n txn all e in
        let parts = three_parts (has_valid_creds sc txn) (is_from_to 1 16 txn.rounds) _ txn_valid in
        let work = three_parts (has_count 1 16 txn.queries) (list_all (is_valid_query sc) txn.queries) (not (list_any (is_name_of_server txn) sc.servers)) parts.2 in
        subst (λ (bytes : List ℕ). place_of (server_names sc) bytes ≡ None) is
        (no_place (server_names sc) txn.name (sym (any_named (λ (server : ServerDecl). server.name) txn.name sc.servers) ∙ (sym (any_turned txn.name sc.servers) ∙ not_false (list_any (is_name_of_server txn) sc.servers) work.2)))

-- ---- the whole report

-- a token that no line of a fact, and none below a commit, begins with
record IsFirst (sc : Scenario) (facts : List Fact) (held : Option Open) (token : Token) : Type 0 where
  number : step (Numbered [] u64_bound 32 (λ place. what_tree sc (closed facts held) place)) token ≡ None
  line : step (lines_of sc facts held) token ≡ None

same_word : (wanted token : Token) → same_token wanted token ≡ true → wanted ≡ token
same_word wanted token e =
    let both = and_parts (same_bytes wanted.word token.word) (wanted.ending == token.ending) e in
    let last : wanted.ending ≡ token.ending = grind (arith, nat_tests) in
    ap (λ (bytes : List ℕ). made bytes wanted.ending) (same_is wanted.word token.word both.0) ∙ ap (λ (byte : ℕ). made token.word byte) last
  where
    made : List ℕ → ℕ → Token
    made bytes byte = record { word = bytes; ending = byte }

taken_is : {H : Type 0} (wanted token : Token) (rest next : Tree H) → step (Exactly wanted rest) token ≡ Some next → wanted ≡ token
taken_is {H} wanted token rest next e = by_test (same_token wanted token) refl e
  where
    by_test : (b : Bool) → same_token wanted token ≡ b → (if b then Some rest else None) ≡ Some next → wanted ≡ token
    by_test true same f = same_word wanted token same
    by_test false same f = absurd (cc)

quiet_first : (sc : Scenario) (facts : List Fact) (held : Option Open) → IsFirst sc facts held (word (codes "quiet"))
quiet_first sc facts None = record { number = refl; line = refl }
quiet_first sc facts (Some held) = record { number = refl; line = refl }

item_first : (sc : Scenario) (facts : List Fact) (held : Option Open) → IsFirst sc facts held (word (codes "item"))
item_first sc facts None = record { number = refl; line = refl }
item_first sc facts (Some held) = record { number = refl; line = refl }

-- what may come where the items begin is such a token
items_first : (sc : Scenario) (facts : List Fact) (held : Option Open) (left : List (List ℕ × List ℕ)) (token : Token) (next : Tree Hub) → step (items_tree (closed facts held) left []) token ≡ Some next → IsFirst sc facts held token
items_first sc facts held [] token next e = subst (IsFirst sc facts held) (taken_is (word (codes "quiet")) token _ next e) (quiet_first sc facts held)
items_first sc facts held (row ∷ rows) token next e = subst (IsFirst sc facts held) (taken_is (word (codes "item")) token _ next e) (item_first sc facts held)

-- behind the facts the items begin, or the last line
to_items : (sc : Scenario) (facts : List Fact) (held : Option Open) {token : Token} {tokens : List Token} {last : Tree Hub} → Leads (hub sc) (At (Items (closed facts held) (rows sc) [])) (token ∷ tokens) last → Leads (hub sc) (At (Line facts held)) (token ∷ tokens) last
to_items sc facts held {token} (Then {next = next} takes rest) =
    let first = items_first sc facts held (rows sc) token next takes.leads in
    Then (record {
      clean = takes.clean;
      leads = ap (λ (found : Option (Tree Hub)). option_or found (option_or (step (lines_of sc facts held) token) (step (items_tree (closed facts held) (rows sc) []) token))) first.number
          ∙ (ap (λ (found : Option (Tree Hub)). option_or found (step (items_tree (closed facts held) (rows sc) []) token)) first.line ∙ takes.leads);
    }) rest

to_end : (sc : Scenario) (facts : List Fact) (held : Option Open) (ending : Ending) (items : List Token) {last : Tree Hub} → Leads (hub sc) (At (Items (closed facts held) (rows sc) [])) (items ++ quiet_tokens ending) last → Leads (hub sc) (At (Line facts held)) (items ++ quiet_tokens ending) last
to_end sc facts held ending [] way = to_items sc facts held way
to_end sc facts held ending (token ∷ tokens) way = to_items sc facts held way

report_way : (sc : Scenario) (facts : List Fact) (ending : Ending) → Fine sc → flat_map (λ (server : ServerDecl). server.items) sc.servers ≡ ids_from 0 (length sc.items) → is_printable sc facts ending ≡ true
    → Leads (hub sc) start (report_tokens sc facts ending) (At (End facts ending.values ending.steps ending.mails))
report_way sc facts ending fine order h =
    let parts = and_parts (list_all (is_printable_fact sc) facts) (is_printable_ending sc ending) h in
    let last = three_parts (is_u64 ending.steps) (is_u64 ending.mails) (list_all is_i128 ending.values && length ending.values == length sc.items) parts.1 in
    let values = and_parts (list_all is_i128 ending.values) (length ending.values == length sc.items) last.2 in
    let count : length ending.values ≡ length sc.items = grind (arith, nat_tests) in
    let known_is : Ends sc ending = record { names = fine.items; values = values.0; count = count } in
    let told = facts_way fine [] None facts parts.0 in
    let read : map (value_at ending.values) (flat_map (λ (server : ServerDecl). server.items) sc.servers) ≡ ending.values =
    ap (map (value_at ending.values)) order ∙ (ap (λ (n : ℕ). map (value_at ending.values) (ids_from 0 n)) (sym count) ∙ all_values ending.values) in
    let exist : Each (λ (item : ItemId). nat_lt item.0 (length sc.items) ≡ true) (flat_map (λ (server : ServerDecl). server.items) sc.servers) =
    subst (Each (λ (item : ItemId). nat_lt item.0 (length sc.items) ≡ true)) (sym order) (ids_exist (length sc.items)) in
    let items = servers_way known_is (closed told.facts told.held) sc.servers [] (each_unmapped sc.servers fine.servers.clean) exist in
    let end = joined items (quiet_way known_is (closed told.facts told.held) _ last.0 last.1) in
    Then (known refl refl) (Then (known refl refl)
    (subst (λ (tokens : List Token). Leads (hub sc) (At (Line [] None)) tokens (At (End facts ending.values ending.steps ending.mails))) (sym (append_assoc (flat_map (fact_tokens sc) facts) (flat_map (server_tokens sc ending) sc.servers) (quiet_tokens ending)))
    (joined told.way (ended sc told.facts told.held facts ending told.so read (to_end sc told.facts told.held ending (flat_map (server_tokens sc ending) sc.servers) end)))))
  where
    each_unmapped : (servers : List ServerDecl) → Each (λ (name : List ℕ). list_all is_word_byte name ≡ true) (map (λ (server : ServerDecl). server.name) servers) → Each (λ (server : ServerDecl). list_all is_word_byte server.name ≡ true) servers
    each_unmapped [] h = tt
    each_unmapped (server ∷ servers) h = (h.0, each_unmapped servers h.1)

    ended : (sc : Scenario) (told : List Fact) (held : Option Open) (facts : List Fact) (ending : Ending) {tokens : List Token} {values : List ℤ} → closed told held ≡ facts → values ≡ ending.values
        → Leads (hub sc) (At (Line told held)) tokens (At (End (closed told held) values ending.steps ending.mails)) → Leads (hub sc) (At (Line told held)) tokens (At (End facts ending.values ending.steps ending.mails))
    ended sc told held facts ending {tokens} {values} so read way =
        subst (λ (all : List Fact). Leads (hub sc) (At (Line told held)) tokens (At (End all ending.values ending.steps ending.mails))) so
        (subst (λ (vs : List ℤ). Leads (hub sc) (At (Line told held)) tokens (At (End (closed told held) vs ending.steps ending.mails))) read way)

-- ---- one history

same_ending : (facts others : List Fact) (ending last : Ending) → End facts ending.values ending.steps ending.mails ≡ End others last.values last.steps last.mails → (facts ≡ others) × (ending ≡ last)
same_ending facts others ending last e =
    let values : ending.values ≡ last.values = cc in
    let steps : ending.steps ≡ last.steps = cc in
    let mails : ending.mails ≡ last.mails = cc in
    (cc, ap (λ (v : List ℤ). made ending.steps ending.mails v) values ∙ (ap (λ (n : ℕ). made n ending.mails last.values) steps ∙ ap (λ (n : ℕ). made last.steps n last.values) mails))
  where
    made : ℕ → ℕ → List ℤ → Ending
    made steps mails values = record { steps = steps; mails = mails; values = values }

place_is : (one other : Hub) → Some (At one) ≡ Some (At other) → one ≡ other
place_is one other e = cc

pub one_history : TellsOneHistory
one_history sc valid spelled none facts others ending last told =
    let fine = fine_of sc valid spelled none in
    let order = in_order sc valid in
    let way = report_way sc facts ending fine order told.printable in
    let other_way = report_way sc others last fine order told.other_printable in
    let tokens = one_text (report_tokens sc facts ending) (report_tokens sc others last) (clean_all way) (clean_all other_way) told.one_text in
    same_ending facts others ending last
    (place_is _ _ (sym (followed way) ∙ (ap (follow (hub sc) start) tokens ∙ followed other_way)))
