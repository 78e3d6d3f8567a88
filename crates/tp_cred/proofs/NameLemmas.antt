-- A store that grows by a credential of a new name, and the ids of a subject's credentials, one more at a time.
use Rattle.std.proofs.Common.{◌≡◌, ◌<◌, ◌+◌, ◌^◌, ℕ, true, false, cond, List, [], ◌||◌, ◌∷◌, ◌++◌, filter, length, map, append-nil, Some, None, slice_get, get_or, arith, refl, ap, ◌∙◌}
use Rattle.std.proofs.lemmas.Cmp.{nat_list_eq_equiv}
use Rattle.std.proofs.lemmas.List.{length_push}
use Rattle.std.proofs.lemmas.List.FromFn.{filter_of_map_range_with_len_more}
use Rattle.std.proofs.lemmas.Option.{slice_get_read}
use Rattle.std.proofs.lemmas.Map.Keys.{IsDistinct-push}
use Rattle.std.specs.List.{IsDistinct, list_any, position, range_with_len}
use Rattle.tp_types.proofs.ListLemmas.{none_passes}
use Rattle.tp_model.specs.Words.{Credential}
use Rattle.tp_model.specs.Ids.{same_name}
use Rattle.tp_cred.specs.Names.{IsStore, names_of}
use Rattle.tp_cred.specs.Store.{id_at, is_named, is_of, is_of_at}

-- ---- names

any_named : (name : List ℕ) (store : List Credential) → list_any (same_name name) (names_of store) ≡ list_any (is_named name) store
any_named name [] = refl
any_named name (credential ∷ store) = rw (nat_list_eq_equiv.symm name credential.name) (ap (λ b. is_named name credential || b) (any_named name store))

more : (store : List Credential) (credential : Credential) → names_of (store ++ credential ∷ []) ≡ names_of store ++ credential.name ∷ []
more [] credential = refl
more (first ∷ store) credential = ap (λ names. first.name ∷ names) (more store credential)

pub no_names : IsStore []
unfolding IsDistinct
no_names = record { distinct = tt; fits = omega arith }

pub more_names : (store : List Credential) (credential : Credential) → position (is_named credential.name) store ≡ None
    → length store < 2 ^ 32 → IsStore store → IsStore (store ++ credential ∷ [])
more_names store credential none few is = record {
  distinct = rw more (IsDistinct-push nat_list_eq_equiv (names_of store) credential.name is.distinct (any_named credential.name store ∙ none_passes (is_named credential.name) store none));
  fits = rw length_push (omega arith);
}

-- ---- subjects

next : (store : List Credential) (subject : List ℕ) (place : ℕ)
    → filter (is_of_at store subject) (map id_at (range_with_len 0 (place + 1)))
    ≡ filter (is_of_at store subject) (map id_at (range_with_len 0 place)) ++ cond (is_of_at store subject (id_at place)) (id_at place ∷ []) []
next store subject place = filter_of_map_range_with_len_more (is_of_at store subject) id_at 0 place place (omega arith)

pub next_of_subject : (store : List Credential) (subject : List ℕ) (place : ℕ) (credential : Credential) → place < length store
    → credential ≡ get_or store place credential → is_of subject credential ≡ true
    → filter (is_of_at store subject) (map id_at (range_with_len 0 (place + 1)))
    ≡ filter (is_of_at store subject) (map id_at (range_with_len 0 place)) ++ id_at place ∷ []
next_of_subject store subject place credential lt here is =
    let found : slice_get store place ≡ Some credential = slice_get_read store (length store) place credential refl lt here in
    let kept : is_of_at store subject (id_at place) ≡ true = rw found is in
    next store subject place ∙ ap (λ b. filter (is_of_at store subject) (map id_at (range_with_len 0 place)) ++ cond b (id_at place ∷ []) []) kept

pub next_of_other : (store : List Credential) (subject : List ℕ) (place : ℕ) (credential : Credential) → place < length store
    → credential ≡ get_or store place credential → is_of subject credential ≡ false
    → filter (is_of_at store subject) (map id_at (range_with_len 0 (place + 1))) ≡ filter (is_of_at store subject) (map id_at (range_with_len 0 place))
next_of_other store subject place credential lt here is =
    let found : slice_get store place ≡ Some credential = slice_get_read store (length store) place credential refl lt here in
    let kept : is_of_at store subject (id_at place) ≡ false = rw found is in
    next store subject place
    ∙ ap (λ b. filter (is_of_at store subject) (map id_at (range_with_len 0 place)) ++ cond b (id_at place ∷ []) []) kept
    ∙ append-nil (filter (is_of_at store subject) (map id_at (range_with_len 0 place)))
