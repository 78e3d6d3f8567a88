-- The administrators of proofs, and their targets.
use Rattle.std.proofs.Common.{◌≡◌, ◌⊎◌, inl, inr, ℕ, Bool, true, false, ◌&&◌, ◌||◌, ◌==◌, cond, List, [], ◌∷◌, ◌++◌, append_assoc, filter, map, nat_lt, Some, None, refl, ap, subst, sym, ◌∙◌}
use Rattle.std.proofs.lemmas.Bool.{and_parts, eqb-true, or_cases}
use Rattle.std.proofs.lemmas.List.Folds.{list_any-append}
use Rattle.std.specs.List.{fold, list_all, list_any}
use Rattle.std.proofs.Math.Bool.{and-false, or-false}
use Rattle.tp_types.proofs.ListLemmas.{number_itself}
use Rattle.tp_model.specs.Words.{AdminId, Verdict, Version}
use Rattle.tp_model.specs.Ids.{same_admin}
use Rattle.tp_round.specs.Judge.{is_aimed}
use Rattle.tp_round.specs.Replies.{admins_of, is_of, with_admin, with_its_admin}
use Rattle.tp_model.specs.WantedVersions.{wanted_of}

-- ---- truth values

or_assoc : (a b c : Bool) → (a || (b || c)) ≡ ((a || b) || c)
or_assoc true b c = refl
or_assoc false b c = refl

or_comm : (a b : Bool) → (a || b) ≡ (b || a)
or_comm true true = refl
or_comm true false = refl
or_comm false true = refl
or_comm false false = refl

or_again : (a b : Bool) → (a || b) ≡ ((a || b) || a)
or_again true b = refl
or_again false b = sym (or-false b)

or_within : (s e : Bool) → (e || (s && e)) ≡ e
or_within s true = refl
or_within s false = and-false s

-- ---- ids

pub same_ids : (one other : AdminId) → same_admin one other ≡ true → one ≡ other
same_ids one other e = let make : ℕ → AdminId = λ n. record { 0 = n } in ap make (eqb-true one.0 other.0 e)

-- ---- administrators of proofs

with_where : (P : AdminId → Bool) (first admin : AdminId) (others more : List AdminId) (b s : Bool) → same_admin first admin ≡ s
    → list_any P more ≡ (list_any P others || P admin)
    → list_any P (cond b (first ∷ more) (cond s (first ∷ others) (admin ∷ first ∷ others))) ≡ ((P first || list_any P others) || P admin)
with_where P first admin others more true s e rest = ap (λ b. P first || b) rest ∙ or_assoc (P first) (list_any P others) (P admin)
with_where P first admin others more false true e rest =
    or_again (P first) (list_any P others) ∙ ap (λ one. (P first || list_any P others) || P one) (same_ids first admin e)
with_where P first admin others more false false e rest = or_comm (P admin) (P first || list_any P others)

-- one of the administrators passes a test after one more came, where one passed it before or the new one does
with_any : (P : AdminId → Bool) (admins : List AdminId) (admin : AdminId) → list_any P (with_admin admins admin) ≡ (list_any P admins || P admin)
with_any P [] admin = or-false (P admin)
with_any P (first ∷ others) admin =
    with_where P first admin others (with_admin others admin) (nat_lt first.0 admin.0) (same_admin first admin) refl (with_any P others admin)

any_from : (P : AdminId → Bool) (admins : List AdminId) (proofs : List Verdict)
    → list_any P (fold with_its_admin admins proofs) ≡ (list_any P admins || list_any (λ (verdict : Verdict). P verdict.admin) proofs)
any_from P admins [] = sym (or-false (list_any P admins))
any_from P admins (verdict ∷ proofs) =
    any_from P (with_admin admins verdict.admin) proofs
    ∙ ap (λ b. b || list_any (λ (other : Verdict). P other.admin) proofs) (with_any P admins verdict.admin)
    ∙ sym (or_assoc (list_any P admins) (P verdict.admin) (list_any (λ (other : Verdict). P other.admin) proofs))

-- one of the administrators of proofs passes a test where one of the proofs does
pub any_admin : (P : AdminId → Bool) (proofs : List Verdict) → list_any P (admins_of proofs) ≡ list_any (λ (verdict : Verdict). P verdict.admin) proofs
any_admin P proofs = any_from P [] proofs

-- the administrator is one of these
abbrev pub is_one : List AdminId → AdminId → Bool
is_one admins admin = list_any (λ (other : AdminId). same_admin other admin) admins

abbrev pub has_its_admin : List AdminId → Verdict → Bool
has_its_admin admins verdict = is_one admins verdict.admin

covered_from : (front proofs : List Verdict) → list_all (has_its_admin (admins_of (front ++ proofs))) proofs ≡ true
covered_from front [] = refl
covered_from front (verdict ∷ proofs) =
    let here : is_one (admins_of (front ++ verdict ∷ proofs)) verdict.admin ≡ true =
    any_admin (λ (other : AdminId). same_admin other verdict.admin) (front ++ verdict ∷ proofs)
    ∙ list_any-append (is_of verdict.admin) front (verdict ∷ proofs)
    ∙ ap (λ b. list_any (is_of verdict.admin) front || (b || list_any (is_of verdict.admin) proofs)) (number_itself verdict.admin.0)
    ∙ or_comm (list_any (is_of verdict.admin) front) true in
    let moved : (front ++ verdict ∷ []) ++ proofs ≡ front ++ verdict ∷ proofs = append_assoc front (verdict ∷ []) proofs in
    let rest = subst (λ (all : List Verdict). list_all (has_its_admin (admins_of all)) proofs ≡ true) moved (covered_from (front ++ verdict ∷ []) proofs) in
    rw (here, rest) refl

-- the administrator of each proof is among those of all
pub covered : (proofs : List Verdict) → list_all (has_its_admin (admins_of proofs)) proofs ≡ true
covered proofs = covered_from [] proofs

-- ---- targets of administrators

abbrev pub aimed_at : (AdminId → ℕ) → AdminId → AdminId × Version
aimed_at f admin = (admin, record { 0 = f admin })

aimed_where : (f : AdminId → ℕ) (first admin : AdminId) (version : ℕ) (s rest others : Bool) → same_admin first admin ≡ s
    → rest ≡ (others && (f admin == version)) → ((s && (f first == version)) || rest) ≡ ((s || others) && (f admin == version))
aimed_where f first admin version true rest others e on =
    ap (λ one. (f one == version) || rest) (same_ids first admin e) ∙ ap (λ b. (f admin == version) || b) on ∙ or_within others (f admin == version)
aimed_where f first admin version false rest others e on = on

aimed_from : (f : AdminId → ℕ) (admins : List AdminId) (verdict : Verdict)
    → is_aimed (map (aimed_at f) admins) verdict ≡ (is_one admins verdict.admin && (f verdict.admin == verdict.version.0))
aimed_from f [] verdict = refl
aimed_from f (first ∷ admins) verdict =
    aimed_where f first verdict.admin verdict.version.0 (same_admin first verdict.admin) (is_aimed (map (aimed_at f) admins) verdict) (is_one admins verdict.admin)
    refl (aimed_from f admins verdict)

-- a proof has its administrator's target where the target is its version
pub aimed_is : (f : AdminId → ℕ) (admins : List AdminId) (verdict : Verdict) → has_its_admin admins verdict ≡ true
    → is_aimed (map (aimed_at f) admins) verdict ≡ (f verdict.admin == verdict.version.0)
aimed_is f admins verdict e = aimed_from f admins verdict ∙ ap (λ b. b && (f verdict.admin == verdict.version.0)) e

-- ---- what is wanted

found_where : (f : AdminId → ℕ) (proved : AdminId → Bool) (first admin : AdminId) (rest : List (AdminId × Version)) (s b others : Bool)
    → same_admin first admin ≡ s → proved first ≡ b → wanted_of rest admin ≡ cond (others && proved admin) (Some (f admin)) None
    → wanted_of (cond b (aimed_at f first ∷ rest) rest) admin ≡ cond ((s || others) && proved admin) (Some (f admin)) None
found_where f proved first admin rest true true others e is on =
    let known : proved admin ≡ true = ap proved (sym (same_ids first admin e)) ∙ is in
    rw (e, known) (ap (λ one. Some (f one)) (same_ids first admin e))
found_where f proved first admin rest true false others e is on =
    let known : proved admin ≡ false = ap proved (sym (same_ids first admin e)) ∙ is in
    on ∙ rw known (ap (λ b. cond b (Some (f admin)) None) (and-false others))
found_where f proved first admin rest false true others e is on = rw e on
found_where f proved first admin rest false false others e is on = on

found : (f : AdminId → ℕ) (proved : AdminId → Bool) (admins : List AdminId) (admin : AdminId)
    → wanted_of (filter (λ (aimed : AdminId × Version). proved aimed.0) (map (aimed_at f) admins)) admin
    ≡ cond (is_one admins admin && proved admin) (Some (f admin)) None
found f proved [] admin = refl
found f proved (first ∷ admins) admin =
    found_where f proved first admin (filter (λ (aimed : AdminId × Version). proved aimed.0) (map (aimed_at f) admins)) (same_admin first admin) (proved first) (is_one admins admin)
    refl refl (found f proved admins admin)

known_where : (f : AdminId → ℕ) (admin : AdminId) (one proved : Bool) → (proved ≡ true → one ≡ true)
    → cond (one && proved) (Some (f admin)) None ≡ cond proved (Some (f admin)) None
known_where f admin one true known = rw (known refl) refl
known_where f admin one false known = ap (λ b. cond b (Some (f admin)) None) (and-false one)

one_where : (admins : List AdminId) (admin : AdminId) (verdict : Verdict) (others : List Verdict) → has_its_admin admins verdict ≡ true
    → (list_any (is_of admin) others ≡ true → is_one admins admin ≡ true)
    → (is_of admin verdict ≡ true) ⊎ (list_any (is_of admin) others ≡ true) → is_one admins admin ≡ true
one_where admins admin verdict others here rest (inl e) = ap (is_one admins) (sym (same_ids verdict.admin admin e)) ∙ here
one_where admins admin verdict others here rest (inr e) = rest e

-- the administrator of a proof is among those of which each proof has one
pub one_of_proofs : (admins : List AdminId) (admin : AdminId) (verdicts : List Verdict) → list_all (has_its_admin admins) verdicts ≡ true
    → list_any (is_of admin) verdicts ≡ true → is_one admins admin ≡ true
one_of_proofs admins admin [] all e = cc
one_of_proofs admins admin (verdict ∷ others) all e =
    let parts = and_parts (has_its_admin admins verdict) (list_all (has_its_admin admins) others) all in
    one_where admins admin verdict others parts.0 (one_of_proofs admins admin others parts.1) (or_cases (is_of admin verdict) (list_any (is_of admin) others) e)

-- of a server the target of an administrator is wanted where it has a proof of it
pub wanted_is : (f : AdminId → ℕ) (admins : List AdminId) (verdicts : List Verdict) → list_all (has_its_admin admins) verdicts ≡ true → (admin : AdminId)
    → wanted_of (filter (λ (aimed : AdminId × Version). list_any (is_of aimed.0) verdicts) (map (aimed_at f) admins)) admin
    ≡ cond (list_any (is_of admin) verdicts) (Some (f admin)) None
wanted_is f admins verdicts all admin =
    found f (λ (one : AdminId). list_any (is_of one) verdicts) admins admin
    ∙ known_where f admin (is_one admins admin) (list_any (is_of admin) verdicts) (one_of_proofs admins admin verdicts all)
