-- A text's arrays and objects, a turn at a time, as the data that they are converted to.
use Rattle.std.proofs.Common.{◌≡◌, ℕ, zero, suc, ◌-◌, ◌<◌, ◌≤◌, List, [], ◌∷◌, length, Option, Some, None, option_map, option_and_then, refl, ap, ◌∙◌}
use Rattle.json.specs.Token.{Token}
use Rattle.json.specs.Json as json
use Rattle.json.specs.Json.{Parse, parse_map, after_end_array, read_key, items_step, if_last, items, members}
use Rattle.json.proofs.Grammar.{items_end, items_more, members_end, members_no_key, members_more}
use Rattle.serde_json.specs.Data.{Data, array, object, no_items, item, Members, no_members, put}
use Rattle.serde_json.specs.Read.{of_json, of_items, of_members, converted}

-- members that follow those found
abbrev pub of_more : Members → json.Members → Option Members
of_more found ms = of_members ms found

-- what was made, with the tokens behind it
abbrev with_rest : {B : Type 0} → List Token → Option B → Option (B × List Token)
with_rest rest made = option_map (λ b. (b, rest)) made

same_made : {A : Type 0} (x y : A) → Some x ≡ Some y → x ≡ y
same_made x y e = cc

made_of : {B : Type 0} (rest r : List Token) (made : Option B) (b : B) → with_rest rest made ≡ Some (b, r) → (rest ≡ r) × (made ≡ Some b)
made_of {B} rest r None b e = absurd (cc)
made_of {B} rest r (Some x) b e =
    let same = same_made {A = B × List Token} (x, rest) (b, r) e in
    (ap (λ q. q.1) same, ap (λ q. Some q.0) same)

none_made : {B : Type 0} (rest : List Token) (made : Option B) → with_rest rest made ≡ None → made ≡ None
none_made rest None e = refl
none_made rest (Some x) e = absurd (cc)

mapped : {A B : Type 0} (f : A → B) (rest : List Token) (made : Option A) → with_rest rest (option_map f made) ≡ parse_map f (with_rest rest made)
mapped f rest None = refl
mapped f rest (Some a) = refl

-- what is converted was read
pub taken : {A B : Type 0} (f : A → Option B) (o : Option (A × List Token)) (b : B) (r : List Token) → converted f o ≡ Some (b, r) → (a : A) × (o ≡ Some (a, r)) × (f a ≡ Some b)
taken f None b r e = absurd (cc)
taken f (Some p) b r e =
    let made = made_of p.1 r (f p.0) b e in
    (p.0, ap (λ rest. Some (p.0, rest)) made.0, made.1)

-- ---- what opens

pub array_of : (o : Option (json.Items × List Token)) → converted of_json (parse_map json.array o) ≡ parse_map array (converted of_items o)
array_of None = refl
array_of (Some p) = mapped array p.1 (of_items p.0)

pub object_of : (o : Option (json.Members × List Token)) → converted of_json (parse_map json.object o) ≡ parse_map object (converted (of_more no_members) o)
object_of None = refl
object_of (Some p) = mapped object p.1 (of_members p.0 no_members)

-- ---- a turn of an array

item_first : (j : json.Json) (d : Data) → of_json j ≡ Some d → (o : Option (json.Items × List Token)) → converted of_items (parse_map (json.item j) o) ≡ parse_map (item d) (converted of_items o)
item_first j d e None = refl
item_first j d e (Some p) = rw e (mapped (item d) p.1 (of_items p.0))

no_item_first : (j : json.Json) → of_json j ≡ None → (o : Option (json.Items × List Token)) → converted of_items (parse_map (json.item j) o) ≡ None
no_item_first j e None = refl
no_item_first j e (Some p) = rw e

pub item_read : (p : Parse json.Json) (n : ℕ) (ts r : List Token) (d : Data) → 0 < n → after_end_array ts ≡ None → converted of_json (p ts) ≡ Some (d, r)
    → converted of_items (items p n ts) ≡ parse_map (item d) (converted of_items (items p (n - 1) r))
item_read p n ts r d some going e =
    let j = taken of_json (p ts) d r e in
    ap (converted of_items) (items_more p n ts r j.0 some going j.1) ∙ item_first j.0 d j.2 (items p (n - 1) r)

refused_item : (more : Parse json.Items) (o : Option (json.Json × List Token)) → converted of_json o ≡ None → converted of_items (option_and_then (λ q. parse_map (json.item q.0) (more q.1)) o) ≡ None
refused_item more None e = refl
refused_item more (Some q) e = no_item_first q.0 (none_made q.1 (of_json q.0) e) (more q.1)

pub item_refused : (p : Parse json.Json) (n : ℕ) (ts : List Token) → after_end_array ts ≡ None → converted of_json (p ts) ≡ None → converted of_items (items p n ts) ≡ None
unfolding items
item_refused p zero ts going e = refl
item_refused p (suc n) ts going e = ap (λ end. converted of_items (items_step p (items p n) ts end)) going ∙ refused_item (items p n) (p ts) e

pub items_over : (p : Parse json.Json) (n : ℕ) (ts r : List Token) → length ts ≤ n → after_end_array ts ≡ Some r → converted of_items (items p n ts) ≡ Some (no_items, r)
items_over p n ts r enough e = ap (converted of_items) (items_end p n ts r enough e)

-- ---- a turn of an object

member_first : (k : List ℕ) (j : json.Json) (d : Data) (found : Members) → of_json j ≡ Some d → (o : Option (json.Members × List Token))
    → converted (of_more found) (parse_map (json.member k j) o) ≡ converted (of_more (put k d found)) o
member_first k j d found e None = refl
member_first k j d found e (Some p) = rw e

no_member_first : (k : List ℕ) (j : json.Json) (found : Members) → of_json j ≡ None → (o : Option (json.Members × List Token)) → converted (of_more found) (parse_map (json.member k j) o) ≡ None
no_member_first k j found e None = refl
no_member_first k j found e (Some p) = rw e

pub member_read : (p : Parse json.Json) (found : Members) (n : ℕ) (k : List ℕ) (ts s r : List Token) (d : Data) → 0 < n → read_key ts ≡ Some (Some k, s) → converted of_json (p s) ≡ Some (d, r)
    → converted (of_more found) (members p n ts) ≡ converted (of_more (put k d found)) (members p (n - 1) r)
member_read p found n k ts s r d some key e =
    let j = taken of_json (p s) d r e in
    ap (converted (of_more found)) (members_more p n k ts s r j.0 some key j.1) ∙ member_first k j.0 d found j.2 (members p (n - 1) r)

refused_member : (k : List ℕ) (found : Members) (more : Parse json.Members) (o : Option (json.Json × List Token)) → converted of_json o ≡ None
    → converted (of_more found) (option_and_then (λ q. parse_map (json.member k q.0) (more q.1)) o) ≡ None
refused_member k found more None e = refl
refused_member k found more (Some q) e = no_member_first k q.0 found (none_made q.1 (of_json q.0) e) (more q.1)

pub member_refused : (p : Parse json.Json) (found : Members) (n : ℕ) (k : List ℕ) (ts s : List Token) → read_key ts ≡ Some (Some k, s) → converted of_json (p s) ≡ None
    → converted (of_more found) (members p n ts) ≡ None
unfolding members
member_refused p found zero k ts s key e = refl
member_refused p found (suc n) k ts s key e = rw key (refused_member k found (members p n) (p s) e)

pub key_refused : (p : Parse json.Json) (found : Members) (n : ℕ) (ts : List Token) → read_key ts ≡ None → converted (of_more found) (members p n ts) ≡ None
key_refused p found n ts e = ap (converted (of_more found)) (members_no_key p n ts e)

pub members_over : (p : Parse json.Json) (found : Members) (n : ℕ) (ts r : List Token) → length ts ≤ n → read_key ts ≡ Some (None, r) → converted (of_more found) (members p n ts) ≡ Some (found, r)
members_over p found n ts r enough e = ap (converted (of_more found)) (members_end p n ts r enough e)

-- ---- the whole text

abbrev whole : Option (json.Json × List Token) → Option Data
whole o = option_and_then of_json (option_and_then (λ p. if_last p.0 p.1) o)

pub whole_read : (o : Option (json.Json × List Token)) (d : Data) → converted of_json o ≡ Some (d, []) → whole o ≡ Some d
whole_read o d e = let j = taken of_json o d [] e in ap whole j.1 ∙ j.2

pub more_behind : (o : Option (json.Json × List Token)) (d : Data) (t : Token) (ts : List Token) → converted of_json o ≡ Some (d, t ∷ ts) → whole o ≡ None
more_behind o d t ts e = ap whole (taken of_json o d (t ∷ ts) e).1

pub nothing_read : (o : Option (json.Json × List Token)) → converted of_json o ≡ None → whole o ≡ None
nothing_read None e = refl
nothing_read (Some (j, [])) e = none_made [] (of_json j) e
nothing_read (Some (j, t ∷ ts)) e = refl
