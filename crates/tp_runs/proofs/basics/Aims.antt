-- What holds of the versions of all proofs of a round holds of what it aims at, and of what it wants.
use Rattle.std.specs.List.{find, fold, list_any}
use Rattle.std.proofs.Common.{Bool, List, Option, Some, [], ap, arith, cond, false, filter, if◌then◌else◌, inl, inr, map, max, min, nat_lt, option_map, refl, subst, sym, true, ℕ, ⊎_elim, ◌&&◌, ◌<◌, ◌==◌, ◌||◌, ◌∙◌, ◌∷◌, ◌≡◌, ◌≤◌, ◌⊎◌}
use Rattle.std.proofs.lemmas.Bool.{and_from, cases_lt, or_left, or_right}
use Rattle.std.proofs.lemmas.Option.{same_Some}
use Rattle.tp_types.proofs.ListLemmas.{number_itself}
use Rattle.tp_model.specs.Ids.{same_admin}
use Rattle.tp_model.specs.Words.{AdminId, Level, Reading, Verdict, Version}
use Rattle.tp_round.proofs.AdminLemmas.{same_ids}
use Rattle.tp_model.specs.WantedVersions.{is_for, want_number, wanted_of}
use Rattle.tp_round.specs.Judge.{aim_for, aim_of, is_aimed, is_outdated, is_proved_by, newest_in, want_of, wants_of}
use Rattle.tp_model.specs.Levels.{is_global_at}
use Rattle.tp_round.specs.Replies.{admins_of, greatest, is_of, with_admin, with_greater, with_its_admin, with_lesser}
use Rattle.tp_round.specs.declared.round.Target.{Target}
use Rattle.tp_round.specs.declared.round.Wanted.{Wanted}
use Rattle.tp_types.proofs.EachLemmas.{by_cond, each_filter, each_map, each_two}
use Rattle.tp_types.specs.Each.{Each}

-- Q of an administrator and a version
abbrev pub IsOf : (AdminId → ℕ → Type 0) → AdminId × Version → Type 0
IsOf Q aimed = Q aimed.0 aimed.1.0

abbrev pub VerdictOf : (AdminId → ℕ → Type 0) → Verdict → Type 0
VerdictOf Q verdict = Q verdict.admin verdict.version.0

-- ---- the greatest version

-- Q of the greatest so far, or it is that of no proof yet and one is to come
abbrev IsBegun : (ℕ → Type 0) → AdminId → List Verdict → ℕ → Type 0
IsBegun Q admin proofs most = Q most ⊎ ((most ≡ 0) × (list_any (is_of admin) proofs ≡ true))

either : (Q : ℕ → Type 0) (low high : ℕ) → Q low → Q high → Q (max low high)
either Q low high l h =
    ⊎_elim (λ (less : low < high). let is : high ≡ max low high = omega (arith, less) in subst Q is h) (λ (most : high ≤ low). let is : low ≡ max low high = omega (arith, most) in subst Q is l) (cases_lt low high)

greatest_where : (Q : AdminId → ℕ → Type 0) (admin : AdminId) (verdict : Verdict) (proofs : List Verdict) (most : ℕ) (b : Bool) → (b ≡ true → Q admin verdict.version.0)
    → ((n : ℕ) → IsBegun (Q admin) admin proofs n → Q admin (fold (with_greater admin) n proofs)) → (Q admin most ⊎ ((most ≡ 0) × ((b || list_any (is_of admin) proofs) ≡ true)))
    → Q admin (fold (with_greater admin) (cond b (max most verdict.version.0) most) proofs)
greatest_where Q admin verdict proofs most true own later (inl is) = later (max most verdict.version.0) (inl (either (Q admin) most verdict.version.0 is (own refl)))
greatest_where Q admin verdict proofs most true own later (inr coming) =
    let first : verdict.version.0 ≡ max most verdict.version.0 = omega (arith, coming.0) in
    later (max most verdict.version.0) (inl (subst (Q admin) first (own refl)))
greatest_where Q admin verdict proofs most false own later (inl is) = later most (inl is)
greatest_where Q admin verdict proofs most false own later (inr coming) = later most (inr coming)

greatest_from : (Q : AdminId → ℕ → Type 0) (admin : AdminId) (proofs : List Verdict) (most : ℕ) → Each (VerdictOf Q) proofs → IsBegun (Q admin) admin proofs most → Q admin (fold (with_greater admin) most proofs)
greatest_from Q admin [] most h (inl is) = is
greatest_from Q admin [] most h (inr coming) = absurd (let none = coming.1 in cc)
greatest_from Q admin (verdict ∷ proofs) most h begun =
    greatest_where Q admin verdict proofs most (is_of admin verdict) (λ e. subst (λ (a : AdminId). Q a verdict.version.0) (same_ids verdict.admin admin e) h.0) (λ n k. greatest_from Q admin proofs n h.1 k) begun

-- ---- the least version

lesser_low : (version most : ℕ) (b : Bool) → 1 ≤ version → 1 ≤ most → 1 ≤ cond b (min most version) most
lesser_low version most true v m = omega (arith, v, m)
lesser_low version most false v m = m

-- where each is at least 1, so is the least
pub least_from : (admin : AdminId) (proofs : List Verdict) (most : ℕ) → 1 ≤ most → Each (λ (verdict : Verdict). 1 ≤ verdict.version.0) proofs → 1 ≤ fold (with_lesser admin) most proofs
least_from admin [] most low h = low
least_from admin (verdict ∷ proofs) most low h = least_from admin proofs (with_lesser admin most verdict) (lesser_low verdict.version.0 most (is_of admin verdict) h.0 low) h.1

-- ---- the administrators of proofs

each_with : (P : AdminId → Type 0) (admins : List AdminId) (admin : AdminId) → Each P admins → P admin → Each P (with_admin admins admin)
each_with P [] admin h p = (p, tt)
each_with P (first ∷ others) admin h p =
    by_cond (λ (admins : List AdminId). Each P admins) (nat_lt first.0 admin.0) {x = first ∷ with_admin others admin} {y = if same_admin first admin then first ∷ others else admin ∷ first ∷ others}
    (λ e. (h.0, each_with P others admin h.1 p)) (λ e. by_cond (λ (admins : List AdminId). Each P admins) (same_admin first admin) {x = first ∷ others} {y = admin ∷ first ∷ others} (λ f. h) (λ f. (p, h)))

each_admin : (P : AdminId → Type 0) (proofs : List Verdict) (admins : List AdminId) → Each P admins → Each (λ (verdict : Verdict). P verdict.admin) proofs → Each P (fold with_its_admin admins proofs)
each_admin P [] admins h k = h
each_admin P (verdict ∷ proofs) admins h k = each_admin P proofs (with_admin admins verdict.admin) (each_with P admins verdict.admin h k.0) k.1

-- each proof is one of its administrator's
each_own : (proofs whole : List Verdict) → ((admin : AdminId) → list_any (is_of admin) proofs ≡ true → list_any (is_of admin) whole ≡ true) → Each (λ (verdict : Verdict). list_any (is_of verdict.admin) whole ≡ true) proofs
each_own [] whole into = tt
each_own (verdict ∷ proofs) whole into = (
  into verdict.admin (or_left (is_of verdict.admin verdict) (list_any (is_of verdict.admin) proofs) (number_itself verdict.admin.0)),
  each_own proofs whole (λ admin e. into admin (or_right (is_of admin verdict) (list_any (is_of admin) proofs) e)),
)

-- ---- what is aimed at and wanted

aim_is : (Q : AdminId → ℕ → Type 0) (levels : List Level) (reading : Option Reading) (proofs : List Verdict) (admin : AdminId) (b : Bool) → is_global_at levels admin ≡ b
    → (is_global_at levels admin ≡ true → Q admin (newest_in reading admin)) → list_any (is_of admin) proofs ≡ true → Each (VerdictOf Q) proofs → Q admin (cond b (newest_in reading admin) (greatest admin proofs))
aim_is Q levels reading proofs admin true e newest some h = newest e
aim_is Q levels reading proofs admin false e newest some h = greatest_from Q admin proofs 0 h (inr (refl, some))

-- what holds of each proof's version, and of the newest one that was read of its administrator where its level is global,
-- holds of each version that is aimed at
pub aim_has : (Q : AdminId → ℕ → Type 0) (levels : List Level) (reading : Option Reading) (proofs : List Verdict)
    → Each (λ (verdict : Verdict). is_global_at levels verdict.admin ≡ true → Q verdict.admin (newest_in reading verdict.admin)) proofs → Each (VerdictOf Q) proofs → Each (IsOf Q) (aim_of levels reading proofs)
aim_has Q levels reading proofs newest h =
    each_map IsAimable (IsOf Q) (aim_for levels reading proofs) (λ admin k. aim_is Q levels reading proofs admin (is_global_at levels admin) refl k.0 k.1 h) (admins_of proofs)
    (each_admin IsAimable proofs [] tt (each_two (λ (verdict : Verdict). is_global_at levels verdict.admin ≡ true → Q verdict.admin (newest_in reading verdict.admin)) (λ (verdict : Verdict). list_any (is_of verdict.admin) proofs ≡ true)
    proofs newest (each_own proofs proofs (λ admin e. e))))
  where
    IsAimable : AdminId → Type 0
    IsAimable admin = (is_global_at levels admin ≡ true → Q admin (newest_in reading admin)) × (list_any (is_of admin) proofs ≡ true)

-- and so of each that is wanted
pub wants_have : (Q : AdminId → ℕ → Type 0) (aim : List (AdminId × Version)) (targets : List Target) → Each (IsOf Q) aim → Each (λ (named : Wanted). Each (IsOf Q) named.want) (wants_of aim targets)
wants_have Q aim targets h = wanted (filter (is_outdated aim) targets)
  where
    wanted : (some : List Target) → Each (λ (named : Wanted). Each (IsOf Q) named.want) (map (want_of aim) some)
    wanted [] = tt
    wanted (target ∷ others) = (each_filter (IsOf Q) (is_proved_by target) aim h, wanted others)

-- ---- within what is aimed at

-- the version is one that is aimed at
abbrev pub is_within : List (AdminId × Version) → AdminId × Version → Bool
is_within aim wanted = list_any (λ (aimed : AdminId × Version). same_admin aimed.0 wanted.0 && (aimed.1.0 == wanted.1.0)) aim

all_within_in_basics : (aim whole : List (AdminId × Version)) → ((wanted : AdminId × Version) → is_within aim wanted ≡ true → is_within whole wanted ≡ true) → Each (λ (wanted : AdminId × Version). is_within whole wanted ≡ true) aim
all_within_in_basics [] whole into = tt
all_within_in_basics (first ∷ others) whole into = (
  into first (or_left (same_admin first.0 first.0 && (first.1.0 == first.1.0)) (is_within others first) (and_from (same_admin first.0 first.0) (first.1.0 == first.1.0) (number_itself first.0.0) (number_itself first.1.0))),
  all_within_in_basics others whole (λ wanted e. into wanted (or_right (same_admin first.0 wanted.0 && (first.1.0 == wanted.1.0)) (is_within others wanted) e)),
)

-- what is wanted of a server is within what is aimed at
pub wants_within : (aim : List (AdminId × Version)) (targets : List Target) → Each (λ (named : Wanted). Each (λ (wanted : AdminId × Version). is_within aim wanted ≡ true) named.want) (wants_of aim targets)
wants_within aim targets = wanted (filter (is_outdated aim) targets)
  where
    wanted : (some : List Target) → Each (λ (named : Wanted). Each (λ (one : AdminId × Version). is_within aim one ≡ true) named.want) (map (want_of aim) some)
    wanted [] = tt
    wanted (target ∷ others) = (each_filter (λ (one : AdminId × Version). is_within aim one ≡ true) (is_proved_by target) aim (all_within_in_basics aim aim (λ one e. e)), wanted others)

version_is : (aim : List (AdminId × Version)) (first : AdminId × Version) (want : List (AdminId × Version)) (verdict : Verdict) (version : ℕ) (b : Bool) → is_for verdict.admin first ≡ b → is_within aim first ≡ true
    → (wanted_of want verdict.admin ≡ Some version → is_aimed aim verdict ≡ true) → option_map want_number (cond b (Some first) (find (is_for verdict.admin) want)) ≡ Some version → verdict.version.0 ≡ version
    → is_aimed aim verdict ≡ true
version_is aim first want verdict version true e within later found is =
    let admin : first.0 ≡ verdict.admin = same_ids first.0 verdict.admin e in
    let number : first.1.0 ≡ verdict.version.0 = same_Some first.1.0 version found ∙ sym is in
    ap (λ (n : ℕ). list_any (λ (aimed : AdminId × Version). same_admin aimed.0 verdict.admin && (aimed.1.0 == n)) aim) (sym number)
    ∙ (ap (λ (a : AdminId). list_any (λ (aimed : AdminId × Version). same_admin aimed.0 a && (aimed.1.0 == first.1.0)) aim) (sym admin) ∙ within)
version_is aim first want verdict version false e within later found is = later found

-- a verdict at a version that is wanted, which is within what is aimed at
pub wanted_aimed : (aim want : List (AdminId × Version)) (verdict : Verdict) (version : ℕ) → Each (λ (wanted : AdminId × Version). is_within aim wanted ≡ true) want → wanted_of want verdict.admin ≡ Some version
    → verdict.version.0 ≡ version → is_aimed aim verdict ≡ true
wanted_aimed aim [] verdict version h found is = absurd (cc)
wanted_aimed aim (first ∷ want) verdict version h found is =
    version_is aim first want verdict version (is_for verdict.admin first) refl h.0 (λ later. wanted_aimed aim want verdict version h.1 later is) found is
