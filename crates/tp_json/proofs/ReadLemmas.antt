-- What one token stands for, and a list that grows at its end as it is read.
use Rattle.std.proofs.Common.{◌≡◌, ℕ, ◌-◌, ◌<◌, List, [], ◌∷◌, ◌++◌, length, Bool, Option, Some, None, option_map, refl, ap, ◌∙◌}
use Rattle.json.specs.Token.{Token}
use Rattle.json.specs.Json.{parse_map, value, items, members}
use Rattle.json.proofs.Grammar.{value_is, value-begin_array, value-begin_object}
use Rattle.serde_json.specs.Data.{Data, null, boolean, number, string, array, object, Items, no_items, item, no_members}
use Rattle.serde_json.specs.Read.{of_json, of_items, of_members, number_of, converted}
use Rattle.tp_json.proofs.TurnLemmas.{array_of, object_of}
use Rattle.tp_json.specs.View.{items_view, view}
use Rattle.tp_json.specs.declared.tree.Json.{Json}

-- what is read where a value begins
abbrev pub read_at : ℕ → List Token → Option (Data × List Token)
read_at depth ts = converted of_json (value depth ts)

-- ---- one token

pub no_token : (depth : ℕ) → read_at depth [] ≡ None
no_token depth = ap (converted of_json) (value_is depth [])

pub string_read : (depth : ℕ) (s : List ℕ) (ts : List Token) → read_at depth (Token.string s ∷ ts) ≡ Some (string s, ts)
string_read depth s ts = ap (converted of_json) (value_is depth _)

pub boolean_read : (depth : ℕ) (b : Bool) (ts : List Token) → read_at depth (Token.boolean b ∷ ts) ≡ Some (boolean b, ts)
boolean_read depth b ts = ap (converted of_json) (value_is depth _)

pub null_read : (depth : ℕ) (ts : List Token) → read_at depth (Token.null ∷ ts) ≡ Some (null, ts)
null_read depth ts = ap (converted of_json) (value_is depth _)

pub number_read : (depth : ℕ) (s : List ℕ) (ts : List Token)
    → read_at depth (Token.number s ∷ ts) ≡ option_map (λ d. (d, ts)) (option_map number (number_of s))
number_read depth s ts = ap (converted of_json) (value_is depth _)

-- ---- what opens

pub array_read : (depth : ℕ) (ts : List Token) → 0 < depth
    → read_at depth (Token.begin_array ∷ ts) ≡ parse_map array (converted of_items (items (value (depth - 1)) (length ts) ts))
array_read depth ts some =
    ap (converted of_json) (value-begin_array depth ts some) ∙ array_of (items (value (depth - 1)) (length ts) ts)

pub object_read : (depth : ℕ) (ts : List Token) → 0 < depth
    → read_at depth (Token.begin_object ∷ ts)
    ≡ parse_map object (converted (λ ms. of_members ms no_members) (members (value (depth - 1)) (length ts) ts))
object_read depth ts some =
    ap (converted of_json) (value-begin_object depth ts some) ∙ object_of (members (value (depth - 1)) (length ts) ts)

-- ---- a list that grows at its end

-- these members, and then others
abbrev pub then : List Json → Items → Items
then [] rest = rest
then (v ∷ vs) rest = item (view v) (then vs rest)

pub then-nothing : (vs : List Json) → then vs no_items ≡ items_view vs
then-nothing [] = refl
then-nothing (v ∷ vs) = ap (item (view v)) (then-nothing vs)

then-item : (vs : List Json) (v : Json) (rest : Items) → then vs (item (view v) rest) ≡ then (vs ++ v ∷ []) rest
then-item [] v rest = refl
then-item (w ∷ vs) v rest = ap (item (view w)) (then-item vs v rest)

pub then-one : (vs : List Json) (v : Json) (r : Option (Items × List Token))
    → parse_map (then vs) (parse_map (item (view v)) r) ≡ parse_map (then (vs ++ v ∷ [])) r
then-one vs v None = refl
then-one vs v (Some p) = ap (λ ds. Some (ds, p.1)) (then-item vs v p.0)

pub then-first : (r : Option (Items × List Token)) → r ≡ parse_map (then []) r
then-first None = refl
then-first (Some p) = refl

-- ---- nothing opens at the greatest depth

pub no_array : (ts : List Token) → read_at 0 (Token.begin_array ∷ ts) ≡ None
no_array ts = ap (converted of_json) (value_is 0 _)

pub no_object : (ts : List Token) → read_at 0 (Token.begin_object ∷ ts) ≡ None
no_object ts = ap (converted of_json) (value_is 0 _)
