-- JSON values and what they stand for.
use Rattle.std.proofs.Common.{◌≡◌, ℕ, ◌&&◌, ◌||◌, List, [], ◌∷◌, ◌++◌, length, map, Bool, true, false, Ordering, Less, Equal, Greater, is_eq, nat_cmp, refl, sym, ap, ◌∙◌, arith}
use Rattle.std.proofs.lemmas.Map.Text.{is_eq-slice_cmp}
use Rattle.std.proofs.lemmas.Slice.Eq.{bytes_eq-Decides}
use Rattle.std.specs.Cmp.Lexicographic.{slice_cmp}
use Rattle.std.specs.List.{list_all}
use Rattle.std.specs.Ordering.{match_ordering}
use denote.Ref.{Bor}
use Rattle.serde_json.specs.Data.{Data, Members, no_members, member, put}
use Rattle.tp_json.proofs.ViewLemmas.{seen}
use Rattle.tp_json.specs.View.{view, items_view, members_view, with_members}
use Rattle.tp_json.specs.mirrors.Lent.{lent_view}
use Rattle.tp_json.specs.declared.tree.Json.{Json}
use Rattle.tp_scenario.specs.declared.path.Key.{Key}
use Rattle.tp_scenario.specs.mirrors.Entries.{Member, entries_view, lent}
use Rattle.tp_scenario.specs.Values.{item_count, have_keys, is_key}

pub item_count-view : (values : List Json) → item_count (items_view values) ≡ length values
item_count-view [] = refl
item_count-view (value ∷ values) =
    let rest : item_count (items_view values) ≡ length values = item_count-view values in
    omega (arith, rest)

-- ---- the keys of an object

and_twice : (a b : Bool) → (a && b) ≡ (a && (a && b))
and_twice true b = refl
and_twice false b = refl

and_swap : (a b c : Bool) → (a && (b && c)) ≡ (b && (a && c))
and_swap true true c = refl
and_swap true false c = refl
and_swap false true c = refl
and_swap false false c = refl

and_true : (a : Bool) → a ≡ (a && true)
and_true true = refl
and_true false = refl

regroup : (a b c : Bool) → ((a && b) && c) ≡ (b && (a && c))
regroup true true c = refl
regroup true false c = refl
regroup false true c = refl
regroup false false c = refl

keys_put_at : (o : Ordering) (keys : List Key) (k l : List ℕ) (d e : Data) (ms : Members) → slice_cmp nat_cmp k l ≡ o
    → have_keys keys (put k d ms) ≡ (is_key keys k && have_keys keys ms)
    → have_keys keys (match_ordering o (member k d (member l e ms)) (member l d ms) (member l e (put k d ms)))
    ≡ (is_key keys k && (is_key keys l && have_keys keys ms))
keys_put_at Less keys k l d e ms is later = refl
keys_put_at Equal keys k l d e ms is later =
    let same : k ≡ l = (bytes_eq-Decides k l).0 (sym (is_eq-slice_cmp k l) ∙ ap is_eq is) in
    and_twice (is_key keys l) (have_keys keys ms)
    ∙ ap (λ name. is_key keys name && (is_key keys l && have_keys keys ms)) (sym same)
keys_put_at Greater keys k l d e ms is later =
    ap (λ (b : Bool). is_key keys l && b) later ∙ and_swap (is_key keys l) (is_key keys k) (have_keys keys ms)

keys_put : (keys : List Key) (k : List ℕ) (d : Data) (ms : Members)
    → have_keys keys (put k d ms) ≡ (is_key keys k && have_keys keys ms)
keys_put keys k d no_members = refl
keys_put keys k d (member l e ms) = keys_put_at _ keys k l d e ms refl (keys_put keys k d ms)

keys_with : (keys : List Key) (found : Members) (ms : List Member)
    → have_keys keys (with_members found (map seen ms))
    ≡ (have_keys keys found && list_all (λ (m : Member). is_key keys m.0.now) ms)
keys_with keys found [] = and_true (have_keys keys found)
keys_with keys found (m ∷ ms) =
    keys_with keys (put m.0.now (view m.1) found) ms
    ∙ ap (λ (b : Bool). b && list_all (λ (m : Member). is_key keys m.0.now) ms) (keys_put keys m.0.now (view m.1) found)
    ∙ regroup (is_key keys m.0.now) (have_keys keys found) (list_all (λ (m : Member). is_key keys m.0.now) ms)

pub have_keys-view : (keys : List Key) (members : List Member)
    → have_keys keys (members_view members) ≡ list_all (λ (m : Member). is_key keys m.0.now) members
have_keys-view keys members = keys_with keys no_members members

pub is_key-append : (needed others : List Key) (text : List ℕ) → is_key (needed ++ others) text ≡ (is_key needed text || is_key others text)
is_key-append [] others text = refl
is_key-append (key ∷ needed) others text = grind (arith, is_key-append needed others text)

pub ruleset viewed = (item_count-view, have_keys-view, is_key-append)

-- the members that are lent stand for those of the object
pub entries_view-lent : (entries : List (Bor (Bor (List ℕ)) × Bor (Bor Json))) → entries_view entries ≡ lent_view (lent entries)
entries_view-lent [] = refl
entries_view-lent (entry ∷ entries) = ap (λ (ms : Members). member entry.0.now.now (view entry.1.now.now) ms) (entries_view-lent entries)

pub ruleset entered = entries_view-lent
