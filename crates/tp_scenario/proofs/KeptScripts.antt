-- What the walk gives of the scripts of a race keeps their rules.
use Rattle.std.proofs.Common.{◌≡◌, inl, inr, ℕ, zero, suc, ◌+◌, ◌-◌, ◌<◌, ◌≤◌, ◌==◌, ◌&&◌, Bool, true, false, List, [], ◌∷◌, ◌++◌, length, map, Option, Some, Ok, refl, sym, ap, subst, ◌∙◌, arith, if◌then◌else◌}
use Rattle.std.specs.Prelude.{slice_get, slice_set}
use Rattle.std.specs.List.{count_by, list_all, list_any}
use Rattle.std.specs.Option.{option_map_or}
use Rattle.std.proofs.lemmas.Bool.{and_parts, and_from, cases_Bool, eqb-true, le-leb, lt-ltb, or_parts}
use Rattle.std.proofs.lemmas.Bool.Decides.{nat_tests}
use Rattle.std.proofs.lemmas.List.{length-append}
use Rattle.std.proofs.lemmas.List.Sums.{sum_by_push, sum_by-cons}
use Rattle.tp_types.proofs.ListLemmas.{all_push}
use Rattle.serde_json.specs.Data.{Data}
use Rattle.tp_model.specs.Words.{Admin, AdminId, Scenario, Step, Transaction, TxnId}
use Rattle.tp_model.specs.Words.step
use Rattle.tp_model.specs.Ids.{same_txn}
use Rattle.tp_model.specs.Limits.{has_count, is_from_to, steps_limit, tick_limit}
use Rattle.tp_model.specs.Valid.{are_submitted_once, are_valid_clients, are_valid_officers, are_valid_publishers, have_versions_left, is_officer_script, is_officer_step, is_publication_of, is_publisher_script, is_publisher_step, is_script_of_txns, is_txn, is_valid_admin, is_valid_step, publications_of, submissions_of}
use Rattle.tp_scenario.specs.declared.command.CountVerb.TheVariants as counting
use Rattle.tp_scenario.specs.declared.command.NameVerb.TheVariants as verb
use Rattle.tp_scenario.specs.declared.names.Declared.{Declared}
use Rattle.tp_scenario.specs.declared.path.Key.TheVariants.{Clients, Publishers}
use Rattle.tp_scenario.specs.declared.path.Path.{Path}
use Rattle.tp_scenario.specs.declared.path.Path.TheVariants.{Member}
use Rattle.tp_scenario.specs.declared.scripts.Published.{Published}
use Rattle.tp_scenario.specs.declared.scripts.Publishing.{Publishing}
use Rattle.tp_scenario.specs.Names.{Names}
use Rattle.tp_scenario.specs.Scripts.{client_at, clients_at, fewer_or_range, is_official, is_publishing, is_submitted, left_after, officer_at, officers_at, official_step_at, official_step_in, publication_at, publication_in, publisher_at, publishers_at, publishing_from, step_or_range, submission_at, submission_in, versions_left}
use Rattle.tp_scenario.specs.Steps.{Command, of_name, by_number, push, cut, counted_step, named_step, push_step, step_for}
use Rattle.tp_scenario.specs.Values.{array_at, item_count, place_or_unknown, through}
use Rattle.tp_scenario.proofs.Inverses.{each_count, each_keeps, items_ok, items_or_ok, ok_same, refusal_ok, test_ok, then_ok, through_count, through_keeps, used_at_ok}
use Rattle.tp_scenario.proofs.KeptSteps.{IsCommandWell, IsNamesOf, command_well, step_for_kept}

-- ---- clients

one_if : Bool → ℕ
one_if true = 1
one_if false = 0

at_most_one : (b : Bool) → one_if b ≤ 1
unfolding one_if
at_most_one true = omega arith
at_most_one false = omega arith

as_one_if : (b : Bool) → (if b then 1 else 0) ≡ one_if b
unfolding one_if
as_one_if true = refl
as_one_if false = refl

-- a member more, counted
count_more : {A : Type 0} (test : A → Bool) (xs : List A) (x : A) → count_by test (xs ++ x ∷ []) ≡ count_by test xs + one_if (test x)
count_more test xs x = sum_by_push _ xs x ∙ ap (λ (n : ℕ). count_by test xs + n) (as_one_if (test x))

none_counted : {A : Type 0} (test : A → Bool) (xs : List A) → list_any test xs ≡ false → count_by test xs ≡ 0
none_counted test [] none = refl
none_counted test (x ∷ xs) none =
    let parts = or_parts (test x) (list_any test xs) none in
    let rest = none_counted test xs parts.1 in
    grind arith

none_submitted : (txn : TxnId) (scripts : List (List TxnId)) → list_any (list_any (same_txn txn)) scripts ≡ false → submissions_of txn scripts ≡ 0
none_submitted txn [] none = refl
none_submitted txn (script ∷ scripts) none =
    let parts = or_parts (list_any (same_txn txn) script) (list_any (list_any (same_txn txn)) scripts) none in
    let here = none_counted (same_txn txn) script parts.0 in
    let rest = none_submitted txn scripts parts.1 in
    omega (arith, sum_by-cons (count_by (same_txn txn)) script scripts, here, rest)

-- no transaction is submitted twice by these scripts and this beginning of another
abbrev AreOnce : List (List TxnId) → List TxnId → Type 0
AreOnce earlier made = (txn : TxnId) → submissions_of txn earlier + count_by (same_txn txn) made ≤ 1

once_more : (earlier : List (List TxnId)) (made : List TxnId) (txn : TxnId) → AreOnce earlier made → is_submitted earlier made txn ≡ false → AreOnce earlier (made ++ txn ∷ [])
unfolding one_if
once_more earlier made txn once new other = elim (cases_Bool (other.0 == txn.0)) [
  | inl same ↦ let e : txn ≡ other = ap (λ (n : ℕ). record { 0 = n }) (sym (eqb-true other.0 txn.0 same)) in subst (λ (t : TxnId). submissions_of t earlier + count_by (same_txn t) (made ++ txn ∷ []) ≤ 1) e here
  | inr apart ↦ let more = count_more (same_txn other) made txn in let none = ap one_if apart in let before = once other in omega (arith, more, none, before)
]
  where
    here : submissions_of txn earlier + count_by (same_txn txn) (made ++ txn ∷ []) ≤ 1
    here =
        let parts = or_parts (list_any (same_txn txn) made) (list_any (list_any (same_txn txn)) earlier) new in
        omega (arith, count_more (same_txn txn) made txn, none_counted (same_txn txn) made parts.0, none_submitted txn earlier parts.1, at_most_one (txn.0 == txn.0))

once_script : (earlier : List (List TxnId)) (script : List TxnId) → AreOnce earlier script → AreOnce (earlier ++ script ∷ []) []
once_script earlier script once txn = omega (arith, sum_by_push (count_by (same_txn txn)) earlier script, once txn)

submitted_kept : (path : Path) (txns : Names) (earlier : List (List TxnId)) (made : List TxnId) (d : Data) (txn : TxnId) → submission_at path txns earlier made d ≡ Ok txn
    → (txn.0 < length txns) × (is_submitted earlier made txn ≡ false)
unfolding submission_at
submitted_kept path txns earlier made d txn e =
    let place = then_ok _ _ _ e in
    let got = refusal_ok (is_submitted earlier made (record { 0 = place.0 })) (record { 0 = place.0 }) txn _ place.2 in
    subst (λ (t : TxnId). (t.0 < length txns) × (is_submitted earlier made t ≡ false)) got.1 (used_at_ok path txns _ place.0 place.1, got.0)

client_kept : (sc : Scenario) (txns : Names) (earlier : List (List TxnId)) (d : Data) (script : List TxnId) → length txns ≡ length sc.txns → AreOnce earlier [] → client_at txns earlier d ≡ Ok script
    → (is_script_of_txns sc script ≡ true) × AreOnce (earlier ++ script ∷ []) []
unfolding client_at
client_kept sc txns earlier d script count once e =
    let names = then_ok (array_at (Member Clients (length earlier)) (Some d)) _ _ e in
    let all = each_keeps (submission_in txns earlier) (λ made. (list_all (is_txn sc) made ≡ true) × AreOnce earlier made)
    (λ made txn value before h.
    let here = submitted_kept _ txns earlier made value txn h in
    (all_push (is_txn sc) made txn before.0 (lt-ltb _ _ (subst (λ (n : ℕ). txn.0 < n) count here.0)), once_more earlier made txn before.1 here.1))
    names.0 [] script (refl, once) names.2 in
    (all.0, once_script earlier script all.1)

each_once : (clients : List (List TxnId)) (number : ℕ) (txns : List Transaction) → AreOnce clients [] → are_submitted_once clients number txns ≡ true
each_once clients number [] once = refl
each_once clients number (txn ∷ txns) once = and_from _ _ (le-leb _ _ (omega (arith, once (record { 0 = number })))) (each_once clients (number + 1) txns once)

pub clients_kept : (sc : Scenario) (txns : Names) (value : Option Data) → length txns ≡ length sc.txns → clients_at txns value ≡ Ok sc.clients → are_valid_clients sc ≡ true
unfolding clients_at
clients_kept sc txns value count e =
    let values = then_ok _ _ _ e in
    let all = each_keeps (client_at txns) (λ made. (list_all (is_script_of_txns sc) made ≡ true) × AreOnce made [])
    (λ made script d before h.
    let here = client_kept sc txns made d script count before.1 h in
    (all_push (is_script_of_txns sc) made script before.0 here.0, here.1))
    values.0 [] sc.clients (refl, λ txn. omega arith) values.2 in
    and_from _ _ (and_from _ _ (each_count (client_at txns) 0 16 values.0 sc.clients (items_or_ok _ 16 value values.0 values.1) values.2) all.0) (each_once sc.clients 0 sc.txns all.1)

-- ---- publishers

publishing_made : (path : Path) (names : Declared) (command : Command) (made : Step) → is_publishing command ≡ true → step_for path names command ≡ Ok made → is_publisher_step made ≡ true
unfolding named_step push_step
publishing_made path names (of_name verb.Publish name) made h e = let place = then_ok (place_or_unknown path names.admins name) _ _ e in subst (λ (s : Step). is_publisher_step s ≡ true) (ok_same (step.Publish (record { 0 = place.0 })) made place.2) refl
publishing_made path names (push admin server) made h e =
    let from = then_ok (place_or_unknown path names.admins admin) _ _ e in
    let to = then_ok (place_or_unknown path names.servers server) _ _ from.2 in
    subst (λ (s : Step). is_publisher_step s ≡ true) (ok_same (step.Push (record { 0 = from.0 }) (record { 0 = to.0 })) made to.2) refl
publishing_made path names (of_name verb.Submit name) made h e = absurd (cc)
publishing_made path names (of_name verb.Revoke name) made h e = absurd (cc)
publishing_made path names (of_name verb.Crash name) made h e = absurd (cc)
publishing_made path names (of_name verb.Boot name) made h e = absurd (cc)
publishing_made path names (of_name verb.Timer name) made h e = absurd (cc)
publishing_made path names (by_number verb number) made h e = absurd (cc)
publishing_made path names (cut name mail calls fill) made h e = absurd (cc)

-- how many versions are left of the administrator of this number
abbrev left_of : List ℕ → ℕ → ℕ
left_of left place = option_map_or (λ count. count) (slice_get left place) 0

left_here : (left : List ℕ) (place count before : ℕ) → left_of left place ≡ suc before → left_of (slice_set left place count) place ≡ count
left_here [] place count before e = absurd (cc)
left_here (other ∷ left) zero count before e = refl
left_here (other ∷ left) (suc place) count before e = left_here left place count before e

left_other : (left : List ℕ) (place other count : ℕ) → (place == other) ≡ false → left_of (slice_set left place count) other ≡ left_of left other
left_other [] place other count apart = refl
left_other (here ∷ left) zero zero count apart = absurd (cc)
left_other (here ∷ left) zero (suc other) count apart = refl
left_other (here ∷ left) (suc place) zero count apart = refl
left_other (here ∷ left) (suc place) (suc other) count apart = left_other left place other count (lower place other apart)
  where
    lower : (n m : ℕ) → (suc n == suc m) ≡ false → (n == m) ≡ false
    lower n m h = grind (arith, nat_tests)

-- what these scripts and this beginning of another publish, and what is left, is what was there
abbrev Balanced : List Admin → List (List Step) → List Step → List ℕ → Type 0
Balanced admins earlier script left =
    (admin : AdminId) → publications_of admin earlier + count_by (is_publication_of admin) script + left_of left admin.0 ≡ left_of (map versions_left admins) admin.0

no_publication : (admins : List Admin) (earlier : List (List Step)) (script : List Step) (left : List ℕ) (made : Step) → ((admin : AdminId) → is_publication_of admin made ≡ false) → Balanced admins earlier script left
    → Balanced admins earlier (script ++ made ∷ []) left
unfolding one_if
no_publication admins earlier script left made none before admin =
    let more = count_more (is_publication_of admin) script made in
    let nothing = ap one_if (none admin) in
    omega (arith, more, nothing, before admin)

-- one version of an administrator less is left
one_less : (admins : List Admin) (earlier : List (List Step)) (script : List Step) (left : List ℕ) (admin : AdminId) (count : ℕ) → left_of left admin.0 ≡ suc count → Balanced admins earlier script left
    → Balanced admins earlier (script ++ step.Publish admin ∷ []) (slice_set left admin.0 count)
unfolding one_if
one_less admins earlier script left admin count was before other = elim (cases_Bool (admin.0 == other.0)) [
  | inl same ↦ of_admin (eqb-true admin.0 other.0 same) (ap one_if same)
  | inr apart ↦ of_other (left_other left admin.0 other.0 count apart) (ap one_if apart)
]
  where
    more : count_by (is_publication_of other) (script ++ step.Publish admin ∷ []) ≡ count_by (is_publication_of other) script + one_if (admin.0 == other.0)
    more = count_more (is_publication_of other) script (step.Publish admin)

    of_other : left_of (slice_set left admin.0 count) other.0 ≡ left_of left other.0 → one_if (admin.0 == other.0) ≡ 0
        → publications_of other earlier + count_by (is_publication_of other) (script ++ step.Publish admin ∷ []) + left_of (slice_set left admin.0 count) other.0 ≡ left_of (map versions_left admins) other.0
    of_other still none = omega (arith, still, none, more, before other)

    of_admin : admin.0 ≡ other.0 → one_if (admin.0 == other.0) ≡ 1
        → publications_of other earlier + count_by (is_publication_of other) (script ++ step.Publish admin ∷ []) + left_of (slice_set left admin.0 count) other.0 ≡ left_of (map versions_left admins) other.0
    of_admin same one =
        let there : left_of (slice_set left admin.0 count) other.0 ≡ count = subst (λ (n : ℕ). left_of (slice_set left admin.0 count) n ≡ count) same (left_here left admin.0 count count was) in
        let had : left_of left other.0 ≡ suc count = subst (λ (n : ℕ). left_of left n ≡ suc count) same was in
        omega (arith, there, had, one, more, before other)

a_publication : (path : Path) (admins : List Admin) (earlier : List (List Step)) (script : List Step) (left next : List ℕ) (admin : AdminId) (count : ℕ) → left_of left admin.0 ≡ count
    → fewer_or_range path left admin.0 count ≡ Ok next → Balanced admins earlier script left → Balanced admins earlier (script ++ step.Publish admin ∷ []) next
a_publication path admins earlier script left next admin zero was e before = absurd (cc)
a_publication path admins earlier script left next admin (suc count) was e before =
    subst (Balanced admins earlier (script ++ step.Publish admin ∷ [])) (ok_same (slice_set left admin.0 count) next e) (one_less admins earlier script left admin count was before)

balanced_after : (path : Path) (admins : List Admin) (earlier : List (List Step)) (script : List Step) (left next : List ℕ) (made : Step) → is_publisher_step made ≡ true → left_after path left made ≡ Ok next
    → Balanced admins earlier script left → Balanced admins earlier (script ++ made ∷ []) next
balanced_after path admins earlier script left next (step.Publish admin) h e before = a_publication path admins earlier script left next admin (left_of left admin.0) refl e before
balanced_after path admins earlier script left next (step.Push admin server) h e before =
    subst (Balanced admins earlier (script ++ step.Push admin server ∷ [])) (ok_same left next e) (no_publication admins earlier script left (step.Push admin server) (λ a. refl) before)
balanced_after path admins earlier script left next (step.Submit txn) h e before = absurd (cc)
balanced_after path admins earlier script left next (step.Revoke cred) h e before = absurd (cc)
balanced_after path admins earlier script left next (step.Tick by) h e before = absurd (cc)
balanced_after path admins earlier script left next (step.Deliver mail) h e before = absurd (cc)
balanced_after path admins earlier script left next (step.Lose mail) h e before = absurd (cc)
balanced_after path admins earlier script left next (step.Crash who how) h e before = absurd (cc)
balanced_after path admins earlier script left next (step.Boot who) h e before = absurd (cc)
balanced_after path admins earlier script left next (step.Timer txn) h e before = absurd (cc)

-- a script so far, after these
record IsPublished (sc : Scenario) (admins : List Admin) (earlier : List (List Step)) (state : Published) : Type 0 where
  publishes : list_all is_publisher_step state.script ≡ true
  valid : list_all (is_valid_step sc) state.script ≡ true
  balanced : Balanced admins earlier state.script state.left

published_kept : (sc : Scenario) (path : Path) (names : Declared) (admins : List Admin) (earlier : List (List Step)) (state next : Published) (d : Data) → IsNamesOf sc names
    → IsPublished sc admins earlier state → publication_at path names state d ≡ Ok next → IsPublished sc admins earlier next
unfolding publication_at
published_kept sc path names admins earlier state next d of_sc before e =
    let command = then_ok _ _ _ e in
    let made = then_ok _ _ _ command.2 in
    let left = then_ok _ _ _ made.2 in
    let allowed = by_kind command.0 made.0 (is_publishing command.0) refl made.1 in
    let publishes = publishing_made path names command.0 made.0 allowed.0 allowed.1 in
    subst (IsPublished sc admins earlier) (ok_same _ next left.2) (record {
      publishes = all_push is_publisher_step state.script made.0 before.publishes publishes;
      valid = all_push (is_valid_step sc) state.script made.0 before.valid (step_for_kept sc path names command.0 made.0 of_sc (command_well path d command.0 command.1) allowed.1);
      balanced = balanced_after path admins earlier state.script state.left left.0 made.0 publishes left.1 before.balanced;
    })
  where
    by_kind : (command : Command) (made : Step) (b : Bool) → is_publishing command ≡ b → step_or_range b path names command ≡ Ok made → (is_publishing command ≡ true) × (step_for path names command ≡ Ok made)
    by_kind command made true h k = (h, k)
    by_kind command made false h k = absurd (cc)

-- scripts so far
record ArePublished (sc : Scenario) (admins : List Admin) (state : Publishing) : Type 0 where
  scripts : list_all (is_publisher_script sc) state.scripts ≡ true
  balanced : Balanced admins state.scripts [] state.left

publisher_kept : (sc : Scenario) (names : Declared) (admins : List Admin) (state next : Publishing) (d : Data) → IsNamesOf sc names → ArePublished sc admins state → publisher_at names state d ≡ Ok next
    → ArePublished sc admins next × (length next.scripts ≡ length state.scripts + 1)
unfolding publisher_at
publisher_kept sc names admins state next d of_sc before e =
    let steps = then_ok (array_at (Member Publishers (length state.scripts)) (Some d)) _ _ e in
    let published = then_ok (through (publication_in names (length state.scripts)) (record { script = []; left = state.left }) steps.0) _ _ steps.2 in
    let all = through_keeps (publication_in names (length state.scripts)) (IsPublished sc admins state.scripts)
    (λ one other value kept h. published_kept sc _ names admins state.scripts one other value of_sc kept h)
    steps.0 (record { script = []; left = state.left }) published.0 (record { publishes = refl; valid = refl; balanced = before.balanced }) published.1 in
    subst (λ (s : Publishing). ArePublished sc admins s × (length s.scripts ≡ length state.scripts + 1)) (ok_same (record { scripts = state.scripts ++ published.0.script ∷ []; left = published.0.left }) next published.2) (
      record {
        scripts = all_push (is_publisher_script sc) state.scripts published.0.script before.scripts (and_from _ _ all.publishes all.valid);
        balanced = λ admin. omega (arith, sum_by_push (count_by (is_publication_of admin)) state.scripts published.0.script, all.balanced admin);
      },
      omega (arith, length-append state.scripts (published.0.script ∷ [])),
    )

versions_kept : (publishers : List (List Step)) (number : ℕ) (admins : List Admin) → list_all is_valid_admin admins ≡ true
    → ((place : ℕ) → publications_of (record { 0 = number + place }) publishers ≤ left_of (map versions_left admins) place) → have_versions_left publishers number admins ≡ true
versions_kept publishers number [] valid enough = refl
versions_kept publishers number (admin ∷ admins) valid enough =
    let parts = and_parts (is_valid_admin admin) (list_all is_valid_admin admins) valid in
    let opening = most (length admin.library) admin.opening.0 (and_parts _ _ parts.0).1 in
    let here : publications_of (record { 0 = number }) publishers ≤ length admin.library - admin.opening.0 =
    subst (λ (n : ℕ). publications_of (record { 0 = n }) publishers ≤ length admin.library - admin.opening.0) (omega arith) (enough zero) in
    and_from _ _ (le-leb _ _ (omega (arith, here, opening)))
    (versions_kept publishers (number + 1) admins parts.1 (λ place. subst (λ (n : ℕ). publications_of (record { 0 = n }) publishers ≤ left_of (map versions_left admins) place) (omega arith) (enough (suc place))))
  where
    most : (count n : ℕ) → is_from_to 1 count n ≡ true → n ≤ count
    most count n h = grind (arith, nat_tests)

pub publishers_kept : (sc : Scenario) (names : Declared) (value : Option Data) → IsNamesOf sc names → list_all is_valid_admin sc.admins ≡ true → publishers_at names sc.admins value ≡ Ok sc.publishers
    → are_valid_publishers sc ≡ true
unfolding publishers_at publishing_from
publishers_kept sc names value of_sc valid e =
    let publishing = then_ok (publishing_from names sc.admins value) _ _ e in
    let values = then_ok _ _ _ publishing.1 in
    let all = through_count (publisher_at names) (ArePublished sc sc.admins) (λ (s : Publishing). length s.scripts) (λ one other d kept h. publisher_kept sc names sc.admins one other d of_sc kept h)
    values.0 (record { scripts = []; left = map versions_left sc.admins }) publishing.0 (record { scripts = refl; balanced = λ admin. omega arith }) values.2 in
    let few : has_count 0 8 publishing.0.scripts ≡ true = subst (λ (n : ℕ). is_from_to 0 8 n ≡ true) (counted (length publishing.0.scripts) (item_count values.0) all.1) (items_or_ok _ 8 value values.0 values.1) in
    let enough : (place : ℕ) → publications_of (record { 0 = 0 + place }) publishing.0.scripts ≤ left_of (map versions_left sc.admins) place = λ place. enough_at publishing.0.scripts publishing.0.left place (all.0.balanced (record { 0 = place })) in
    subst (λ (publishers : List (List Step)). (has_count 0 8 publishers && list_all (is_publisher_script sc) publishers && have_versions_left publishers 0 sc.admins) ≡ true) (ok_same publishing.0.scripts sc.publishers publishing.2)
    (and_from _ _ (and_from _ _ few all.0.scripts) (versions_kept publishing.0.scripts 0 sc.admins valid enough))
  where
    counted : (n count : ℕ) → n ≡ 0 + count → count ≡ n
    counted n count e = omega arith

    enough_at : (scripts : List (List Step)) (left : List ℕ) (place : ℕ)
        → publications_of (record { 0 = place }) scripts + count_by (is_publication_of (record { 0 = place })) [] + left_of left place ≡ left_of (map versions_left sc.admins) place
        → publications_of (record { 0 = 0 + place }) scripts ≤ left_of (map versions_left sc.admins) place
    enough_at scripts left place e =
        let same : place ≡ 0 + place = omega arith in
        subst (λ (n : ℕ). publications_of (record { 0 = n }) scripts ≤ left_of (map versions_left sc.admins) place) same (omega (arith, e))

-- ---- officers

official_made : (path : Path) (names : Declared) (command : Command) (made : Step) → is_official command ≡ true → step_for path names command ≡ Ok made → is_officer_step made ≡ true
unfolding named_step counted_step
official_made path names (of_name verb.Revoke name) made h e = let place = then_ok (place_or_unknown path names.creds name) _ _ e in subst (λ (s : Step). is_officer_step s ≡ true) (ok_same (step.Revoke (record { 0 = place.0 })) made place.2) refl
official_made path names (by_number counting.Tick number) made h e =
    subst (λ (s : Step). is_officer_step s ≡ true) (test_ok (is_from_to 1 tick_limit number) (step.Tick number) made _ e).1 refl
official_made path names (push admin server) made h e = absurd (cc)
official_made path names (of_name verb.Submit name) made h e = absurd (cc)
official_made path names (of_name verb.Publish name) made h e = absurd (cc)
official_made path names (of_name verb.Crash name) made h e = absurd (cc)
official_made path names (of_name verb.Boot name) made h e = absurd (cc)
official_made path names (of_name verb.Timer name) made h e = absurd (cc)
official_made path names (by_number counting.Deliver number) made h e = absurd (cc)
official_made path names (by_number counting.Lose number) made h e = absurd (cc)
official_made path names (cut name mail calls fill) made h e = absurd (cc)

official_kept : (sc : Scenario) (path : Path) (names : Declared) (d : Data) (made : Step) → IsNamesOf sc names → official_step_at path names d ≡ Ok made
    → (is_officer_step made ≡ true) × (is_valid_step sc made ≡ true)
unfolding official_step_at
official_kept sc path names d made of_sc e = let command = then_ok _ _ _ e in by_kind command.0 (command_well path d command.0 command.1) (is_official command.0) refl command.2
  where
    by_kind : (command : Command) → IsCommandWell command → (b : Bool) → is_official command ≡ b → step_or_range b path names command ≡ Ok made → (is_officer_step made ≡ true) × (is_valid_step sc made ≡ true)
    by_kind command well true h k = (official_made path names command made h k, step_for_kept sc path names command made of_sc well k)
    by_kind command well false h k = absurd (cc)

officer_kept : (sc : Scenario) (names : Declared) (earlier : List (List Step)) (d : Data) (script : List Step) → IsNamesOf sc names → officer_at names earlier d ≡ Ok script → is_officer_script sc script ≡ true
unfolding officer_at
officer_kept sc names earlier d script of_sc e =
    let steps = then_ok _ _ _ e in
    let all = each_keeps (official_step_in names (length earlier)) (λ made. (list_all is_officer_step made ≡ true) × (list_all (is_valid_step sc) made ≡ true))
    (λ made x value before h.
    let here = official_kept sc _ names value x of_sc h in
    (all_push is_officer_step made x before.0 here.0, all_push (is_valid_step sc) made x before.1 here.1))
    steps.0 [] script (refl, refl) steps.2 in
    and_from _ _ all.0 (and_from _ _ (each_count (official_step_in names (length earlier)) 0 steps_limit steps.0 script (items_ok _ 0 steps_limit (Some d) steps.0 steps.1) steps.2) all.1)

pub officers_kept : (sc : Scenario) (names : Declared) (value : Option Data) → IsNamesOf sc names → officers_at names value ≡ Ok sc.officers → are_valid_officers sc ≡ true
unfolding officers_at
officers_kept sc names value of_sc e =
    let values = then_ok _ _ _ e in
    and_from _ _ (each_count (officer_at names) 0 8 values.0 sc.officers (items_or_ok _ 8 value values.0 values.1) values.2)
    (each_keeps (officer_at names) (λ made. list_all (is_officer_script sc) made ≡ true) (λ made script d before h. all_push (is_officer_script sc) made script before (officer_kept sc names made d script of_sc h))
    values.0 [] sc.officers refl values.2)
