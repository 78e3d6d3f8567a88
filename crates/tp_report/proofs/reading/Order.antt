-- The servers' items, one server after the other, are all items in their order.
use Rattle.std.proofs.Common.{◌≡◌, ◌<◌, ◌≤◌, ℕ, ◌+◌, ◌==◌, ◌&&◌, nat_le, nat_lt, Bool, true, false, if◌then◌else◌, List, [], ◌∷◌, ◌++◌, length, zero, suc, refl, sym, ap, subst, ◌∙◌, arith}
use Rattle.std.specs.Cmp.Lexicographic.{pointwise}
use Rattle.std.specs.List.{flat_map, list_all}
use Rattle.std.proofs.lemmas.Bool.{and_from, and_parts, ltb-true}
use Rattle.std.proofs.lemmas.Bool.Decides.{nat_tests}
use Rattle.tp_types.specs.Each.{Each}
use Rattle.tp_types.proofs.EachLemmas.{each_as, each_from_all}
use Rattle.tp_types.proofs.ListLemmas.{three_parts}
use Rattle.tp_model.proofs.RuleLemmas.{rules_of}
use Rattle.tp_model.specs.Words.{Item, ItemId, Scenario, ServerDecl}
use Rattle.tp_model.specs.Ids.{same_item}
use Rattle.tp_model.specs.Limits.{has_count}
use Rattle.tp_model.specs.Valid.{are_by_server, are_distinct, are_known, are_valid_from, has_valid_range, is_admin, is_server, is_valid, is_valid_item, is_valid_server, owned_from, same_item_name, same_server_name}

-- so many ids, from this number on
abbrev pub ids_from : ℕ → ℕ → List ItemId
ids_from first zero = []
ids_from first (suc count) = record { 0 = first } ∷ ids_from (first + 1) count

-- the items of so many servers, from the server of this number on
abbrev owners : ℕ → ℕ → ℕ → List Item → List ItemId
owners at zero number items = []
owners at (suc count) number items = owned_from at number items ++ owners (at + 1) count number items

same_ids : (one other : List ItemId) → pointwise same_item one other ≡ true → one ≡ other
same_ids [] [] e = refl
same_ids [] (id ∷ ids) e = absurd (cc)
same_ids (id ∷ ids) [] e = absurd (cc)
same_ids (id ∷ ids) (next ∷ nexts) e =
    let both = and_parts (same_item id next) (pointwise same_item ids nexts) e in
    let first : id.0 ≡ next.0 = grind (arith, nat_tests) in
    ap (λ (n : ℕ). record { 0 = n } ∷ ids) first ∙ ap (λ (l : List ItemId). next ∷ l) (same_ids ids nexts both.1)

-- the lists of valid servers are those that they own
listed_owned : (sc : Scenario) (at : ℕ) (servers : List ServerDecl) → are_valid_from sc at servers ≡ true → flat_map (λ (server : ServerDecl). server.items) servers ≡ owners at (length servers) 0 sc.items
listed_owned sc at [] h = refl
listed_owned sc at (server ∷ servers) h =
    let parts = and_parts (is_valid_server sc at server) (are_valid_from sc (at + 1) servers) h in
    let own = three_parts (are_known sc.admins server.knows) (has_count 0 64 server.items) (pointwise same_item server.items (owned_from at 0 sc.items)) parts.0 in
    ap (λ (l : List ItemId). l ++ flat_map (λ (other : ServerDecl). other.items) servers) (same_ids server.items (owned_from at 0 sc.items) own.2)
    ∙ ap (λ (l : List ItemId). owned_from at 0 sc.items ++ l) (listed_owned sc (at + 1) servers parts.1)

owned_other : (at number : ℕ) (item : Item) (items : List Item) → (item.server.0 == at) ≡ false → owned_from at number (item ∷ items) ≡ owned_from at (number + 1) items
owned_other at number item items e = ap (λ (b : Bool). if b then record { 0 = number } ∷ owned_from at (number + 1) items else owned_from at (number + 1) items) e

owned_own : (at number : ℕ) (item : Item) (items : List Item) → (item.server.0 == at) ≡ true → owned_from at number (item ∷ items) ≡ record { 0 = number } ∷ owned_from at (number + 1) items
owned_own at number item items e = ap (λ (b : Bool). if b then record { 0 = number } ∷ owned_from at (number + 1) items else owned_from at (number + 1) items) e

owners_skip : (at count number : ℕ) (item : Item) (items : List Item) → item.server.0 < at → owners at count number (item ∷ items) ≡ owners at count (number + 1) items
owners_skip at zero number item items low = refl
owners_skip at (suc count) number item items low =
    let other : (item.server.0 == at) ≡ false = grind (arith, nat_tests) in
    ap (λ (l : List ItemId). l ++ owners (at + 1) count number (item ∷ items)) (owned_other at number item items other)
    ∙ ap (λ (l : List ItemId). owned_from at (number + 1) items ++ l) (owners_skip (at + 1) count number item items (omega (arith, low)))

owners_none : (at count number : ℕ) → owners at count number [] ≡ []
owners_none at zero number = refl
owners_none at (suc count) number = owners_none (at + 1) count number

at_least : (low n : ℕ) → nat_le low n ≡ true → low ≤ n
at_least low n e = grind (arith, nat_tests)

none_owned : (at low number : ℕ) (items : List Item) → at < low → are_by_server low items ≡ true → owned_from at number items ≡ []
none_owned at low number [] h sorted = refl
none_owned at low number (item ∷ items) h sorted =
    let parts = and_parts (nat_le low item.server.0) (are_by_server item.server.0 items) sorted in
    let behind : at < item.server.0 = omega (arith, h, at_least low item.server.0 parts.0) in
    let other : (item.server.0 == at) ≡ false = grind (arith, nat_tests) in
    owned_other at number item items other ∙ none_owned at item.server.0 (number + 1) items behind parts.1

-- all items from one on, if it is of this server, or if the servers behind this one own them
by_owner : (item : Item) (items : List Item) (number left at : ℕ) → are_by_server item.server.0 items ≡ true → ((rest : ℕ) → item.server.0 + rest ≡ at + suc left → owners item.server.0 rest (number + 1) items ≡ ids_from (number + 1) (length items))
    → (at < item.server.0 → owners (at + 1) left number (item ∷ items) ≡ record { 0 = number } ∷ ids_from (number + 1) (length items)) → at ≤ item.server.0
    → (b : Bool) → (item.server.0 == at) ≡ b → owners at (suc left) number (item ∷ items) ≡ record { 0 = number } ∷ ids_from (number + 1) (length items)
by_owner item items number left at sorted rest behind low true e =
    let same : item.server.0 ≡ at = grind (arith, nat_tests) in
    ap (λ (l : List ItemId). l ++ owners (at + 1) left number (item ∷ items)) (owned_own at number item items e)
    ∙ (ap (λ (l : List ItemId). record { 0 = number } ∷ (owned_from at (number + 1) items ++ l)) (owners_skip (at + 1) left number item items (omega (arith, same)))
    ∙ ap (λ (l : List ItemId). record { 0 = number } ∷ l) (subst (λ (n : ℕ). owners n (suc left) (number + 1) items ≡ ids_from (number + 1) (length items)) same (rest (suc left) (ap (λ (n : ℕ). n + suc left) same))))
by_owner item items number left at sorted rest behind low false e =
    let later : at < item.server.0 = grind (arith, nat_tests) in
    ap (λ (l : List ItemId). l ++ owners (at + 1) left number (item ∷ items)) (owned_other at number item items e ∙ none_owned at item.server.0 (number + 1) items later sorted)
    ∙ behind later

by_count : (item : Item) (items : List Item) (number left at : ℕ) → at ≤ item.server.0 → are_by_server item.server.0 items ≡ true → item.server.0 < at + left
    → ((rest : ℕ) → item.server.0 + rest ≡ at + left → owners item.server.0 rest (number + 1) items ≡ ids_from (number + 1) (length items))
    → owners at left number (item ∷ items) ≡ record { 0 = number } ∷ ids_from (number + 1) (length items)
by_count item items number zero at low sorted bound rest = absurd (omega (arith, low, bound))
by_count item items number (suc left) at low sorted bound rest =
    by_owner item items number left at sorted rest (λ behind. by_count item items number left (at + 1) (omega (arith, behind)) sorted (omega (arith, bound)) (λ more same. rest more (omega (arith, same)))) low (item.server.0 == at) refl

-- where items stand server by server, those that the servers own are all of them, in their order
all_owned : (items : List Item) (at count number : ℕ) → are_by_server at items ≡ true → Each (λ (item : Item). item.server.0 < at + count) items → owners at count number items ≡ ids_from number (length items)
all_owned [] at count number sorted bound = owners_none at count number
all_owned (item ∷ items) at count number sorted bound =
    let parts = and_parts (nat_le at item.server.0) (are_by_server item.server.0 items) sorted in
    by_count item items number count at (at_least at item.server.0 parts.0) parts.1 bound.0
    (λ left same. all_owned items item.server.0 left (number + 1) parts.1 (each_as (λ (i : Item). i.server.0 < at + count) (λ (i : Item). i.server.0 < item.server.0 + left) (λ i low. omega (arith, low, same)) items bound.1))

pub in_order : (sc : Scenario) → is_valid sc ≡ true → flat_map (λ (server : ServerDecl). server.items) sc.servers ≡ ids_from 0 (length sc.items)
in_order sc h =
    let rules = rules_of sc h in
    let servers = three_parts (has_count 1 16 sc.servers) (are_valid_from sc 0 sc.servers) (are_distinct same_server_name sc.servers) rules.servers in
    let items = three_parts (list_all (is_valid_item sc) sc.items) (are_by_server 0 sc.items) (are_distinct same_item_name sc.items) rules.items in
    listed_owned sc 0 sc.servers servers.1
    ∙ all_owned sc.items 0 (length sc.servers) 0 items.1
    (each_as (λ (item : Item). is_valid_item sc item ≡ true) (λ (item : Item). item.server.0 < 0 + length sc.servers)
    (λ item valid. omega (arith, ltb-true item.server.0 (length sc.servers) (three_parts (is_server sc item.server) (is_admin sc item.admin) (has_valid_range item) valid).0))
    sc.items (each_from_all (is_valid_item sc) sc.items items.0))
