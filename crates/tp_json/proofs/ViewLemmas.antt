-- A value level by level, and the members of an object one by one.
use Rattle.std.proofs.Common.{◌≡◌, ℕ, List, [], ◌∷◌, ◌++◌, Some, Vec, Global, Ordering, Less, Equal, Greater, nat_cmp, map, Bool, true, false, cond, true≢false, Bor, refl, sym, ap, ◌∙◌, rules}
use Rattle.std.proofs.lemmas.Slice.Eq.{bytes_eq-Decides}
use Rattle.std.specs.BTreeMap.{insert_entry}
use Rattle.std.specs.Cmp.Lexicographic.{slice_cmp}
use Rattle.std.specs.Ordering.{match_ordering}
use Rattle.std.specs.Str.{bytes_eq}
use Rattle.serde_json.specs.Data.{Data, array, object, Members, no_members, put}
use Rattle.serde_json.specs.Find.{get_member}
use Rattle.serde_json.proofs.Views.{get_member-put, get_member-put_other}
use Rattle.tp_json.specs.View.{items_view, members_view, view, with_members}
use Rattle.tp_json.specs.mirrors.Lent.{lent_view}
use Rattle.tp_json.specs.declared.tree.Json.{Json, Array, Object, the_lemmas}

abbrev pub Member : Type 0
Member = Bor (List ℕ) × Json

abbrev Entry : Type 0
Entry = Bor (List ℕ) × Bor Json

abbrev pub seen : Member → Bor (List ℕ) × Data
seen m = (m.0, view m.1)

pub view-Array : (v : Vec Json Global) → view (Array v) ≡ array (items_view v.items)
view-Array v = search (rules, the_lemmas)

pub view-Object : (v : Vec Member Global) → view (Object v) ≡ object (members_view v.items)
view-Object v = search (rules, the_lemmas)

-- ---- one member more

pushed : (found : Members) (ms : List Member) (m : Member)
    → with_members found (map seen (ms ++ m ∷ [])) ≡ put m.0.now (view m.1) (with_members found (map seen ms))
pushed found [] m = refl
pushed found (first ∷ ms) m = pushed (put first.0.now (view first.1) found) ms m

pub members_view-push : (ms : List Member) (m : Member)
    → members_view (ms ++ m ∷ []) ≡ put m.0.now (view m.1) (members_view ms)
members_view-push ms m = pushed no_members ms m

put_found : (b : Bool) (key k : List ℕ) (d : Data) (ms : Members) → bytes_eq k key ≡ b
    → get_member key (put k d ms) ≡ cond b (Some d) (get_member key ms)
put_found true key k d ms e =
    let same : k ≡ key = (bytes_eq-Decides k key).0 e in
    ap (λ q. get_member q (put k d ms)) (sym same) ∙ get_member-put k d ms
put_found false key k d ms e =
    get_member-put_other key k d ms (λ same. true≢false (sym ((bytes_eq-Decides k key).1 (sym same)) ∙ e))

-- the last value of a key counts
pub get_member-push : (key : List ℕ) (ms : List Member) (m : Member)
    → get_member key (members_view (ms ++ m ∷ []))
    ≡ cond (bytes_eq m.0.now key) (Some (view m.1)) (get_member key (members_view ms))
get_member-push key ms m =
    ap (get_member key) (members_view-push ms m)
    ∙ put_found (bytes_eq m.0.now key) key m.0.now (view m.1) (members_view ms) refl

-- ---- members in order

lent_view-ordering : (o : Ordering) (a b c : List Entry)
    → lent_view (match_ordering o a b c) ≡ match_ordering o (lent_view a) (lent_view b) (lent_view c)
lent_view-ordering Less a b c = refl
lent_view-ordering Equal a b c = refl
lent_view-ordering Greater a b c = refl

pub lent_view-insert : (es : List Entry) (k : Bor (List ℕ)) (v : Bor Json)
    → lent_view (insert_entry (λ (x y : Bor (List ℕ)). slice_cmp nat_cmp x.now y.now) es k v)
    ≡ put k.now (view v.now) (lent_view es)
lent_view-insert [] k v = refl
lent_view-insert (e ∷ es) k v =
    lent_view-ordering (slice_cmp nat_cmp k.now e.0.now) _ _ _ ∙ rw (lent_view-insert es k v)
