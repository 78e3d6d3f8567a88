-- What the walk gives of servers and their items keeps their rules.
use Rattle.std.proofs.Common.{◌≡◌, ℕ, zero, suc, ◌+◌, ◌-◌, ◌<◌, ◌≤◌, ◌==◌, ◌&&◌, nat_le, nat_lt, not, Bool, true, false, List, [], ◌∷◌, ◌++◌, length, map, Option, Some, None, Result, Ok, Err, refl, sym, ap, subst, ◌∙◌, arith, ℤ, neg_ℤ, ◌≤ℤ◌, if◌then◌else◌}
use Rattle.std.specs.Prelude.{ok_or, slice_set}
use Rattle.std.specs.Cmp.{int_ranks}
use Rattle.std.specs.Cmp.Lexicographic.{pointwise}
use Rattle.std.specs.List.{list_all}
use Rattle.std.proofs.lemmas.Bool.{and_parts, and_from, le-leb, lt-ltb, ltb-true, eq-eqb}
use Rattle.std.proofs.lemmas.Bool.Decides.{nat_tests}
use Rattle.std.proofs.lemmas.Int.{ints}
use Rattle.std.proofs.lemmas.List.{length-append, length-map, append_assoc, append-nil}
use Rattle.tp_types.proofs.ListLemmas.{all_push}
use Rattle.serde_json.specs.Data.{Data, Items, Members, no_members, member}
use Rattle.serde_json.specs.Find.{as_object}
use Rattle.tp_types.specs.Spelling.{is_name}
use Rattle.tp_model.specs.Words.{Admin, Item, ItemId, Scenario, ServerDecl, Version}
use Rattle.tp_model.specs.Ids.{same_item}
use Rattle.tp_model.specs.Limits.{has_count, is_between, is_from_to, int_le, value_limit}
use Rattle.tp_model.specs.Valid.{are_by_server, are_distinct, are_known, are_valid_from, has_valid_range, is_known, is_valid_admin, owned_from, same_item_name, same_server_name}
use Rattle.tp_scenario.specs.declared.fault.Fault.{Fault}
use Rattle.tp_scenario.specs.declared.path.Key.TheVariants.{Admin as AdminKey, Items as ItemsKey, Knows, Max, Min, Name, Servers, Value as ValueKey}
use Rattle.tp_scenario.specs.declared.path.Path.TheVariants.{Entry, Field, Member}
use Rattle.tp_scenario.specs.declared.path.Site.{Site}
use Rattle.tp_scenario.specs.declared.servers.Served.{Served}
use Rattle.tp_scenario.specs.Admins.{admin_name}
use Rattle.tp_scenario.specs.Faults.{shape}
use Rattle.tp_scenario.specs.Names.{Names, place_of}
use Rattle.tp_scenario.specs.Servers.{ids_from, item_at, item_in, item_name, items_in, key_at, put_known, known_from, knows_at, nothing_served, opening, opening_number, server_in, server_name, servers_at, version_at, with_site}
use Rattle.tp_scenario.specs.Values.{each, item_count, object_at}
use Rattle.tp_scenario.proofs.GrowingLists.{all_weaker}
use Rattle.tp_scenario.proofs.Inverses.{count_ok, each_keeps, each_length, items_ok, named_apart, new_name_ok, new_name_spelled, ok_same, then_ok, through_count, used_at_ok, whole_ok}

-- ---- what a server knows

-- the opening versions are known
openings_known : (admins : List Admin) → list_all is_valid_admin admins ≡ true → are_known admins (map opening admins) ≡ true
openings_known [] valid = refl
openings_known (admin ∷ admins) valid =
    let parts = and_parts (is_valid_admin admin) (list_all is_valid_admin admins) valid in
    let here : is_from_to 1 (length admin.library) admin.opening.0 ≡ true = (and_parts _ _ parts.0).1 in
    and_from _ _ (at_opening (length admin.library) admin.opening.0 here) (openings_known admins parts.1)
  where
    at_opening : (count version : ℕ) → is_from_to 1 count version ≡ true → is_from_to 1 version version ≡ true
    at_opening count version h = grind (arith, nat_tests)

-- another version that an administrator had by the opening
set_known : (admins : List Admin) (versions : List Version) (place : ℕ) (version : Version) → are_known admins versions ≡ true → is_from_to 1 (opening_number admins place) version.0 ≡ true
    → are_known admins (slice_set versions place version) ≡ true
set_known [] [] place version known here = known
set_known [] (other ∷ versions) place version known here = absurd (cc)
set_known (admin ∷ admins) [] place version known here = known
set_known (admin ∷ admins) (other ∷ versions) zero version known here =
    and_from _ _ here (and_parts (is_known admin other) (are_known admins versions) known).1
set_known (admin ∷ admins) (other ∷ versions) (suc place) version known here =
    let parts = and_parts (is_known admin other) (are_known admins versions) known in
    and_from _ _ parts.0 (set_known admins versions place version parts.1 here)

version_kept : (server : ℕ) (text : List ℕ) (most : ℕ) (d : Data) (version : Version) → version_at server text most d ≡ Ok version → is_from_to 1 most version.0 ≡ true
unfolding version_at
version_kept server text most d version e =
    let count = then_ok _ _ _ e in
    subst (λ (v : Version). is_from_to 1 most v.0 ≡ true) (ok_same (record { 0 = count.0 }) version count.2) (count_ok _ 1 most (Some d) count.0 (not_moved _ _ count.0 count.1))
  where
    not_moved : {A : Type 0} (site : Site) (walked : Result A Fault) (a : A) → with_site site walked ≡ Ok a → walked ≡ Ok a
    not_moved site (Ok given) a h = h
    not_moved site (Err fault) a h = absurd (cc)

known_kept : (admins : List Admin) (server : ℕ) (versions more : List Version) (text : List ℕ) (d : Data) → are_known admins versions ≡ true → put_known admins server versions text d ≡ Ok more
    → are_known admins more ≡ true
unfolding put_known
known_kept admins server versions more text d known e =
    let place = then_ok (key_at (map admin_name admins) server text) _ _ e in
    let version = then_ok (version_at server text (opening_number admins place.0) d) _ _ place.2 in
    subst (λ (vs : List Version). are_known admins vs ≡ true) (ok_same _ more version.2)
    (set_known admins versions place.0 version.0 known (version_kept server text _ d version.0 version.1))

known_from_kept : (admins : List Admin) (server : ℕ) (members : Members) (versions knows : List Version) → are_known admins versions ≡ true → known_from admins server versions members ≡ Ok knows
    → are_known admins knows ≡ true
known_from_kept admins server no_members versions knows known e = subst (λ (vs : List Version). are_known admins vs ≡ true) (ok_same versions knows e) known
known_from_kept admins server (member text d members) versions knows known e =
    let more = then_ok (put_known admins server versions text d) _ knows e in
    known_from_kept admins server members more.0 knows (known_kept admins server versions more.0 text d known more.1) more.2

knows_kept : (admins : List Admin) (server : ℕ) (value : Option Data) (knows : List Version) → list_all is_valid_admin admins ≡ true → knows_at admins server value ≡ Ok knows → are_known admins knows ≡ true
unfolding knows_at
knows_kept admins server None knows valid e = subst (λ (vs : List Version). are_known admins vs ≡ true) (ok_same (map opening admins) knows e) (openings_known admins valid)
knows_kept admins server (Some d) knows valid e =
    let members = then_ok (ok_or (as_object d) (shape (Field Servers server Knows))) _ _ e in
    known_from_kept admins server members.0 (map opening admins) knows (openings_known admins valid) members.2

-- ---- items

-- of so many servers and administrators
abbrev is_item_of : ℕ → ℕ → Item → Bool
is_item_of servers admins item = nat_lt item.server.0 servers && nat_lt item.admin.0 admins && has_valid_range item

pub record IsNewItem (admins names : Names) (server : ℕ) (item : Item) : Type 0 where
  pub of_server : item.server.0 ≡ server
  pub of_admin : nat_lt item.admin.0 (length admins) ≡ true
  pub range : has_valid_range item ≡ true
  pub new : place_of item.name names ≡ None
  pub spelled : is_name item.name ≡ true

le_true : (x y : ℤ) → int_le x y ≡ true → x ≤ℤ y
le_true x y h = grind (arith, nat_tests, ints, int_ranks x y)

true_le : (x y : ℤ) → x ≤ℤ y → int_le x y ≡ true
true_le x y h = grind (arith, nat_tests, ints, int_ranks x y)

-- a bound above another within the limits
bound_above : (low high min max : ℤ) → is_between low high min ≡ true → is_between min high max ≡ true → is_between low high max ≡ true
bound_above low high min max lower upper =
    let lowest = le_true low min (and_parts _ _ lower).0 in
    let rest = and_parts (int_le min max) (int_le max high) upper in
    let least = le_true min max rest.0 in
    and_from _ _ (true_le low max (omega (arith, ints))) rest.1

pub item_kept : (admins names : Names) (server at : ℕ) (d : Data) (item : Item) → item_at admins names server at d ≡ Ok item → IsNewItem admins names server item
unfolding item_at
item_kept admins names server at d item e =
    let fields = then_ok (object_at (Entry Servers server ItemsKey at) (Name ∷ AdminKey ∷ Min ∷ Max ∷ ValueKey ∷ []) [] d) _ _ e in
    let name = then_ok _ _ _ fields.2 in
    let admin = then_ok _ _ _ name.2 in
    let min = then_ok _ _ _ admin.2 in
    let max = then_ok _ _ _ min.2 in
    let value = then_ok _ _ _ max.2 in
    let low = whole_ok _ (neg_ℤ value_limit) value_limit _ min.0 min.1 in
    let high = whole_ok _ min.0 value_limit _ max.0 max.1 in
    subst (IsNewItem admins names server) (ok_same _ item value.2)
    (record {
      of_server = refl;
      of_admin = lt-ltb _ _ (used_at_ok _ admins _ admin.0 admin.1);
      range = and_from _ _ (and_from _ _ low (bound_above (neg_ℤ value_limit) value_limit min.0 max.0 low high)) (whole_ok _ min.0 max.0 _ value.0 value.1);
      new = new_name_ok _ names _ name.0 name.1;
      spelled = new_name_spelled _ names _ name.0 name.1;
    })

-- what was added to the items of earlier servers
record IsAdded (before : List Item) (server admins : ℕ) (made : List Item) : Type 0 where
  more : List Item
  parts : made ≡ before ++ more
  here : list_all (λ (item : Item). item.server.0 == server) more ≡ true
  valid : list_all (is_item_of (server + 1) admins) made ≡ true
  ordered : are_by_server 0 made ≡ true
  apart : are_distinct same_item_name made ≡ true

server_of_item : (servers admins : ℕ) (item : Item) → is_item_of servers admins item ≡ true → item.server.0 < servers
server_of_item servers admins item h = ltb-true item.server.0 servers (and_parts _ _ (and_parts _ _ h).0).0

ordered_more : (at server admins : ℕ) (items : List Item) (item : Item) → at ≤ server → list_all (is_item_of (server + 1) admins) items ≡ true → item.server.0 ≡ server → are_by_server at items ≡ true
    → are_by_server at (items ++ item ∷ []) ≡ true
ordered_more at server admins [] item least valid here ordered = and_from _ _ (le-leb at item.server.0 (omega arith)) refl
ordered_more at server admins (other ∷ items) item least valid here ordered =
    let valids = and_parts (is_item_of (server + 1) admins other) (list_all (is_item_of (server + 1) admins) items) valid in
    let orders = and_parts (nat_le at other.server.0) (are_by_server other.server.0 items) ordered in
    let below = server_of_item (server + 1) admins other valids.0 in
    and_from _ _ orders.0 (ordered_more other.server.0 server admins items item (omega (arith, below)) valids.1 here orders.1)

added_more : (admins : Names) (before made : List Item) (server : ℕ) (item : Item) → IsAdded before server (length admins) made → IsNewItem admins (map item_name made) server item
    → IsAdded before server (length admins) (made ++ item ∷ [])
added_more admins before made server item added new =
    let below : item.server.0 < server + 1 = omega (arith, new.of_server) in
    record {
      more = added.more ++ item ∷ [];
      parts = ap (λ (xs : List Item). xs ++ item ∷ []) added.parts ∙ append_assoc before added.more (item ∷ []);
      here = all_push (λ (i : Item). i.server.0 == server) added.more item added.here (eq-eqb _ _ new.of_server);
      valid = all_push (is_item_of (server + 1) (length admins)) made item added.valid (and_from _ _ (and_from _ _ (lt-ltb _ _ below) new.of_admin) new.range);
      ordered = ordered_more 0 server (length admins) made item (omega arith) added.valid new.of_server added.ordered;
      apart = named_apart item_name made item new.new added.apart;
    }

-- ---- the items that a server lists

owned_append : (at number : ℕ) (items more : List Item) → owned_from at number (items ++ more) ≡ owned_from at number items ++ owned_from at (number + length items) more
owned_append at number [] more = ap (λ (n : ℕ). owned_from at n more) (omega arith)
owned_append at number (item ∷ items) more =
    let rest : owned_from at (number + 1) (items ++ more) ≡ owned_from at (number + 1) items ++ owned_from at (number + length (item ∷ items)) more =
    owned_append at (number + 1) items more ∙ ap (λ (n : ℕ). owned_from at (number + 1) items ++ owned_from at n more) (omega arith) in
    by_server (item.server.0 == at) (owned_from at (number + length (item ∷ items)) more) rest
  where
    by_server : (b : Bool) (last : List ItemId) → owned_from at (number + 1) (items ++ more) ≡ owned_from at (number + 1) items ++ last
        → (if b then record { 0 = number } ∷ owned_from at (number + 1) (items ++ more) else owned_from at (number + 1) (items ++ more))
        ≡ (if b then record { 0 = number } ∷ owned_from at (number + 1) items else owned_from at (number + 1) items) ++ last
    by_server true last e = ap (λ (ids : List ItemId). record { 0 = number } ∷ ids) e
    by_server false last e = e

-- none of the items are of the server
owned_none : (at number : ℕ) (items : List Item) → list_all (λ (item : Item). not (item.server.0 == at)) items ≡ true → owned_from at number items ≡ []
owned_none at number [] none = refl
owned_none at number (item ∷ items) none =
    let parts = and_parts (not (item.server.0 == at)) (list_all (λ (i : Item). not (i.server.0 == at)) items) none in
    other_server (item.server.0 == at) parts.0 (owned_none at (number + 1) items parts.1)
  where
    other_server : (b : Bool) → not b ≡ true → owned_from at (number + 1) items ≡ [] → (if b then record { 0 = number } ∷ owned_from at (number + 1) items else owned_from at (number + 1) items) ≡ []
    other_server true h e = absurd (cc)
    other_server false h e = e

numbered_first : (first count : ℕ) → ids_from first (suc count) ≡ record { 0 = first } ∷ ids_from (first + 1) count
numbered_first first zero = ap (λ (n : ℕ). record { 0 = n } ∷ []) (omega arith)
numbered_first first (suc count) =
    let last : first + suc count ≡ first + 1 + count = omega arith in
    ap (λ (ids : List ItemId). ids ++ record { 0 = first + suc count } ∷ []) (numbered_first first count)
    ∙ ap (λ (n : ℕ). record { 0 = first } ∷ (ids_from (first + 1) count ++ record { 0 = n } ∷ [])) last

-- all of the items are
owned_all : (at number : ℕ) (items : List Item) → list_all (λ (item : Item). item.server.0 == at) items ≡ true → owned_from at number items ≡ ids_from number (length items)
owned_all at number [] all = refl
owned_all at number (item ∷ items) all =
    let parts = and_parts (item.server.0 == at) (list_all (λ (i : Item). i.server.0 == at) items) all in
    this_server (item.server.0 == at) parts.0 ∙ (ap (λ (ids : List ItemId). record { 0 = number } ∷ ids) (owned_all at (number + 1) items parts.1) ∙ sym (numbered_first number (length items)))
  where
    this_server : (b : Bool) → b ≡ true → (if b then record { 0 = number } ∷ owned_from at (number + 1) items else owned_from at (number + 1) items) ≡ record { 0 = number } ∷ owned_from at (number + 1) items
    this_server true h = refl
    this_server false h = absurd (cc)

numbered_length : (first count : ℕ) → length (ids_from first count) ≡ count
numbered_length first zero = refl
numbered_length first (suc count) =
    let rest = numbered_length first count in
    let more = length-append (ids_from first count) (record { 0 = first + count } ∷ []) in
    omega (arith, rest, more)

same_ids : (ids : List ItemId) → pointwise same_item ids ids ≡ true
same_ids [] = refl
same_ids (id ∷ ids) = and_from _ _ (eq-eqb id.0 id.0 refl) (same_ids ids)

-- ---- servers

-- the server knows versions as it may, and lists just its own of these items
abbrev is_served : List Admin → List Item → ℕ → ServerDecl → Bool
is_served admins items at server = are_known admins server.knows && has_count 0 64 server.items && pointwise same_item server.items (owned_from at 0 items)

abbrev are_served : List Admin → List Item → ℕ → List ServerDecl → Bool
are_served admins items at [] = true
are_served admins items at (server ∷ servers) = is_served admins items at server && are_served admins items (at + 1) servers

pub served_valid : (sc : Scenario) (at : ℕ) (servers : List ServerDecl) → are_valid_from sc at servers ≡ are_served sc.admins sc.items at servers
served_valid sc at [] = refl
served_valid sc at (server ∷ servers) = ap (λ (b : Bool). is_served sc.admins sc.items at server && b) (served_valid sc (at + 1) servers)

-- earlier servers list no items of a later one
owned_still : (at server : ℕ) (items more : List Item) → at < server → list_all (λ (item : Item). item.server.0 == server) more ≡ true → owned_from at 0 (items ++ more) ≡ owned_from at 0 items
owned_still at server items more earlier all =
    let none = all_weaker (λ (item : Item). item.server.0 == server) (λ (item : Item). not (item.server.0 == at)) (λ item h. apart item.server.0 h) more all in
    owned_append at 0 items more ∙ (ap (λ (ids : List ItemId). owned_from at 0 items ++ ids) (owned_none at (0 + length items) more none) ∙ append-nil (owned_from at 0 items))
  where
    apart : (n : ℕ) → (n == server) ≡ true → not (n == at) ≡ true
    apart n h = grind (arith, nat_tests)

served_still : (admins : List Admin) (items more : List Item) (at server : ℕ) (servers : List ServerDecl) → at + length servers ≤ server → list_all (λ (item : Item). item.server.0 == server) more ≡ true
    → are_served admins items at servers ≡ true → are_served admins (items ++ more) at servers ≡ true
served_still admins items more at server [] earlier all served = refl
served_still admins items more at server (decl ∷ servers) earlier all served =
    let parts = and_parts (is_served admins items at decl) (are_served admins items (at + 1) servers) served in
    and_from _ _
    (subst (λ (ids : List ItemId). (are_known admins decl.knows && has_count 0 64 decl.items && pointwise same_item decl.items ids) ≡ true)
    (sym (owned_still at server items more (omega arith) all)) parts.0)
    (served_still admins items more (at + 1) server servers (omega arith) all parts.1)

served_more : (admins : List Admin) (items : List Item) (at : ℕ) (servers : List ServerDecl) (decl : ServerDecl) → are_served admins items at servers ≡ true
    → is_served admins items (at + length servers) decl ≡ true → are_served admins items at (servers ++ decl ∷ []) ≡ true
served_more admins items at [] decl served here = and_from _ _ (subst (λ (n : ℕ). is_served admins items n decl ≡ true) (omega arith) here) refl
served_more admins items at (other ∷ servers) decl served here =
    let parts = and_parts (is_served admins items at other) (are_served admins items (at + 1) servers) served in
    and_from _ _ parts.0 (served_more admins items (at + 1) servers decl parts.1 (subst (λ (n : ℕ). is_served admins items n decl ≡ true) (omega arith) here))

-- the servers and items so far keep their rules
pub record IsServed (admins : List Admin) (served : Served) : Type 0 where
  pub servers : are_served admins served.items 0 served.servers ≡ true
  pub apart : are_distinct same_server_name served.servers ≡ true
  pub items : list_all (is_item_of (length served.servers) (length admins)) served.items ≡ true
  pub ordered : are_by_server 0 served.items ≡ true
  pub items_apart : are_distinct same_item_name served.items ≡ true

new_items : (admins : Names) (before : List Item) (server : ℕ) (values : Items) (made : List Item) → IsAdded before server (length admins) before → each (item_in admins server (length before)) before values ≡ Ok made
    → IsAdded before server (length admins) made
new_items admins before server values made none e =
    each_keeps (item_in admins server (length before)) (IsAdded before server (length admins))
    (λ all item d added h. added_more admins before all server item added (item_kept admins (map item_name all) server (length all - length before) d item h))
    values before made none e

-- the server lists the items that were added for it, which are not too many
lists_added : (before made : List Item) (server admins : ℕ) → IsAdded before server admins made → list_all (is_item_of server admins) before ≡ true
    → owned_from server 0 made ≡ ids_from (length before) (length made - length before)
lists_added before made server admins added valid =
    let none = all_weaker (is_item_of server admins) (λ (item : Item). not (item.server.0 == server)) (λ item h. other item.server.0 (server_of_item server admins item h)) before valid in
    let count : length added.more ≡ length made - length before = omega (arith, length-append before added.more, ap length added.parts) in
    ap (owned_from server 0) added.parts
    ∙ (owned_append server 0 before added.more
    ∙ (ap (λ (ids : List ItemId). ids ++ owned_from server (0 + length before) added.more) (owned_none server 0 before none)
    ∙ (ap (λ (n : ℕ). owned_from server n added.more) (omega arith)
    ∙ (owned_all server (length before) added.more added.here ∙ ap (ids_from (length before)) count))))
  where
    other : (n : ℕ) → n < server → not (n == server) ≡ true
    other n h = grind (arith, nat_tests)

record ServerParts (admins : List Admin) (served : Served) (decl : ServerDecl) (made : List Item) : Type 0 where
  knows : are_known admins decl.knows ≡ true
  new : place_of decl.name (map server_name served.servers) ≡ None
  added : IsAdded served.items (length served.servers) (length admins) made
  count : has_count 0 64 decl.items ≡ true
  lists : decl.items ≡ owned_from (length served.servers) 0 made

is_served_now : (admins : List Admin) (served : Served) (decl : ServerDecl) (made : List Item) → IsServed admins served → ServerParts admins served decl made
    → IsServed admins (record { servers = served.servers ++ decl ∷ []; items = made })
is_served_now admins served decl made before parts =
    let added = parts.added in
    let still = served_still admins served.items added.more 0 (length served.servers) served.servers (omega arith) added.here before.servers in
    let here : is_served admins made (0 + length served.servers) decl ≡ true =
    subst (λ (n : ℕ). is_served admins made n decl ≡ true) (omega arith)
    (and_from _ _ (and_from _ _ parts.knows parts.count) (subst (λ (ids : List ItemId). pointwise same_item decl.items ids ≡ true) parts.lists (same_ids decl.items))) in
    let more : length served.servers + 1 ≡ length (served.servers ++ decl ∷ []) = omega (arith, length-append served.servers (decl ∷ [])) in
    record {
      servers = served_more admins made 0 served.servers decl (subst (λ (items : List Item). are_served admins items 0 served.servers ≡ true) (sym added.parts) still) here;
      apart = named_apart server_name served.servers decl parts.new before.apart;
      items = subst (λ (n : ℕ). list_all (is_item_of n (length admins)) made ≡ true) more added.valid;
      ordered = added.ordered;
      items_apart = added.apart;
    }

-- the items of earlier servers alone
none_added : (admins : List Admin) (served : Served) → IsServed admins served → IsAdded served.items (length served.servers) (length admins) served.items
none_added admins served before = record {
  more = [];
  parts = sym (append-nil served.items);
  here = refl;
  valid = all_weaker (is_item_of (length served.servers) (length admins)) (is_item_of (length served.servers + 1) (length admins))
      (λ item h. let parts = and_parts _ _ h in let first = and_parts _ _ parts.0 in
      and_from _ _ (and_from _ _ (later item.server.0 (length served.servers) first.0) first.1) parts.1) served.items before.items;
  ordered = before.ordered;
  apart = before.items_apart;
}
  where
    later : (n m : ℕ) → nat_lt n m ≡ true → nat_lt n (m + 1) ≡ true
    later n m h = grind (arith, nat_tests)

items_kept : (admins : List Admin) (served : Served) (value : Option Data) (made : List Item) → IsServed admins served
    → items_in (map admin_name admins) (length served.servers) served.items value ≡ Ok made
    → IsAdded served.items (length served.servers) (length admins) made × (length made - length served.items ≤ 64)
unfolding items_in
items_kept admins served value made before e =
    let values = then_ok _ _ _ e in
    let names : length (map admin_name admins) ≡ length admins = length-map admins admin_name in
    let none = subst (λ (n : ℕ). IsAdded served.items (length served.servers) n served.items) (sym names) (none_added admins served before) in
    let few = most (item_count values.0) (items_ok _ 0 64 value values.0 values.1) in
    let all = each_length (item_in (map admin_name admins) (length served.servers) (length served.items)) values.0 served.items made values.2 in
    (subst (λ (n : ℕ). IsAdded served.items (length served.servers) n made) names (new_items (map admin_name admins) served.items (length served.servers) values.0 made none values.2), omega (arith, few, all))
  where
    most : (n : ℕ) → is_from_to 0 64 n ≡ true → n ≤ 64
    most n h = grind (arith, nat_tests)

server_kept : (admins : List Admin) (served next : Served) (d : Data) → list_all is_valid_admin admins ≡ true → IsServed admins served → server_in admins served d ≡ Ok next
    → IsServed admins next × (length next.servers ≡ length served.servers + 1)
unfolding server_in
server_kept admins served next d valid before e =
    let fields = then_ok (object_at (Member Servers (length served.servers)) (Name ∷ ItemsKey ∷ []) (Knows ∷ []) d) _ _ e in
    let name = then_ok _ _ _ fields.2 in
    let knows = then_ok _ _ _ name.2 in
    let items = then_ok _ _ _ knows.2 in
    let added = items_kept admins served _ items.0 before items.1 in
    let ids = ids_from (length served.items) (length items.0 - length served.items) in
    let decl : ServerDecl = record { name = name.0; knows = knows.0; items = ids } in
    let count : has_count 0 64 ids ≡ true = few (length ids) (omega (arith, numbered_length (length served.items) (length items.0 - length served.items), added.1)) in
    subst (λ (s : Served). IsServed admins s × (length s.servers ≡ length served.servers + 1)) (ok_same _ next items.2) (
      is_served_now admins served decl items.0 before (record {
        knows = knows_kept admins (length served.servers) _ knows.0 valid knows.1;
        new = new_name_ok _ (map server_name served.servers) _ name.0 name.1;
        added = added.0;
        count = count;
        lists = sym (lists_added served.items items.0 (length served.servers) (length admins) added.0 before.items);
      }),
      omega (arith, length-append served.servers (decl ∷ [])),
    )
  where
    few : (n : ℕ) → n ≤ 64 → is_from_to 0 64 n ≡ true
    few n h = grind (arith, nat_tests)

pub servers_kept : (admins : List Admin) (value : Option Data) (served : Served) → list_all is_valid_admin admins ≡ true → servers_at admins value ≡ Ok served
    → IsServed admins served × (has_count 1 16 served.servers ≡ true)
unfolding servers_at
servers_kept admins value served valid e =
    let values = then_ok _ _ _ e in
    let none : IsServed admins nothing_served = record { servers = refl; apart = refl; items = refl; ordered = refl; items_apart = refl } in
    let all = through_count (server_in admins) (IsServed admins) (λ (s : Served). length s.servers) (λ state next d kept h. server_kept admins state next d valid kept h) values.0 nothing_served served none values.2 in
    (all.0, subst (λ (n : ℕ). is_from_to 1 16 n ≡ true) (counted (length served.servers) (item_count values.0) all.1) (items_ok _ 1 16 value values.0 values.1))
  where
    counted : (n count : ℕ) → n ≡ 0 + count → count ≡ n
    counted n count e = omega arith
