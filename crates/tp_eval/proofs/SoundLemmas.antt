-- What a condition takes makes it true, and where it takes none it is false.
use Rattle.std.proofs.Common.{◌≡◌, ℕ, Bool, true, false, ◌&&◌, ◌||◌, List, [], ◌∷◌, map, option_map, Option, Some, None, refl, ap, sym, subst, ◌∙◌, cond as if_so}
use Rattle.std.proofs.lemmas.Bool.{and_parts, eq-eqb, eqb-true, or_right}
use Rattle.std.proofs.lemmas.List.Folds.{list_all-append}
use Rattle.std.specs.List.{find, list_all, list_any}
use Rattle.std.specs.Option.{option_map_or, option_or}
use Rattle.std.proofs.Math.Bool.{and-false}
use Rattle.tp_model.specs.Words.{Cond, CredId, Op, Value}
use Rattle.tp_model.specs.Words.cond
use Rattle.tp_types.specs.declared.policy.Cond.{map-Cond, roll-Cond}
use Rattle.tp_types.specs.declared.policy.Cond.TheFolds.{fold-roll-Cond, ind-Cond}
use Rattle.tp_types.specs.declared.policy.Cond.TheOpen.{Cond-F, True, Atom, And, Or}
use Rattle.tp_model.specs.Ids.{same_cred}
use Rattle.tp_model.specs.Policies.{Triple, holds, level, meets}
use Rattle.tp_model.proofs.ConditionLemmas.{holds_and, holds_atom, holds_or}
use Rattle.tp_model.specs.Credentials.{holdings_in, is_among, is_valid_in, said_in}
use Rattle.tp_cred.specs.Holder.{Holder}
use Rattle.tp_cred.specs.Validity.{shows_in}
use Rattle.tp_cred.proofs.HeldLemmas.{any_held}
use Rattle.tp_eval.specs.Uses as evaluation
use Rattle.tp_eval.specs.Uses.{only, uses_of, uses_of_all, uses_of_first}
use Rattle.tp_eval.proofs.OnceLemmas.{and_others}
use Rattle.tp_eval.proofs.UsesLemmas.{taken_and, taken_atom, taken_or}

-- what an evaluation is asked
pub record Asked : Type 0 where
  pub holder : Holder
  pub presented : List CredId

-- what is held where these credentials are presented
abbrev pub held_with : Asked → List CredId → List Triple
held_with asked uses = holdings_in asked.holder.store asked.holder.subject asked.holder.now asked.holder.revoked uses

abbrev pub is_valid_for : Asked → CredId → Bool
is_valid_for asked = is_valid_in asked.holder.store asked.holder.now asked.holder.revoked

abbrev pub takes : Asked → Cond → Option (List CredId)
takes asked condition = uses_of (shows_in asked.holder) asked.presented condition

-- the condition is true of these credentials
abbrev pub is_true_of : Asked → Cond → List CredId → Bool
is_true_of asked condition uses = holds (held_with asked uses) condition

abbrev pub is_usable : Asked → CredId → Bool
is_usable asked cred = is_among asked.presented cred && is_valid_for asked cred

-- those taken are presented and valid, and the statement is true of each list that has them
pub record Suffices (asked : Asked) (statement : List CredId → Bool) (creds : List CredId) : Type 0 where
  pub usable : list_all (is_usable asked) creds ≡ true
  pub enough : (uses : List CredId) → list_all (is_among uses) creds ≡ true → statement uses ≡ true

abbrev pub Decides : Asked → (List CredId → Bool) → Option (List CredId) → Type 0
Decides asked statement None = statement asked.presented ≡ false
Decides asked statement (Some creds) = Suffices asked statement creds

-- ---- an atom

same_id : (one other : CredId) → same_cred one other ≡ true → one ≡ other
same_id one other same = ap (λ (n : ℕ). record { 0 = n }) (eqb-true one.0 other.0 same)

-- a list that has a credential that passes has one that passes
passes_among_where : (test : CredId → Bool) (cred first : CredId) (uses : List CredId) (same : Bool) → same_cred cred first ≡ same
    → (is_among uses cred ≡ true → list_any test uses ≡ true) → test cred ≡ true → (same || is_among uses cred) ≡ true → list_any test (first ∷ uses) ≡ true
passes_among_where test cred first uses true e rest passes among =
    let here : test first ≡ true = subst (λ x. test x ≡ true) (same_id cred first e) passes in
    rw here refl
passes_among_where test cred first uses false e rest passes among = or_right (test first) (list_any test uses) (rest among)

passes_among : (test : CredId → Bool) (cred : CredId) (uses : List CredId) → test cred ≡ true → is_among uses cred ≡ true → list_any test uses ≡ true
passes_among test cred [] passes among = cc
passes_among test cred (first ∷ uses) passes among =
    passes_among_where test cred first uses (same_cred cred first) refl (λ later. passes_among test cred uses passes later) passes among

none_found_at : (test : CredId → Bool) (cred : CredId) (creds : List CredId) (passes : Bool) → (find test creds ≡ None → list_any test creds ≡ false)
    → if_so passes (Some cred) (find test creds) ≡ None → (passes || list_any test creds) ≡ false
none_found_at test cred creds true rest none = cc
none_found_at test cred creds false rest none = rest none

none_found : (test : CredId → Bool) (creds : List CredId) → find test creds ≡ None → list_any test creds ≡ false
none_found test [] none = refl
none_found test (cred ∷ creds) none = none_found_at test cred creds (test cred) (none_found test creds) none

pub same_as_itself : (cred : CredId) → same_cred cred cred ≡ true
same_as_itself cred = eq-eqb cred.0 cred.0 refl

-- what is found passes, and is there
pub record IsFound (test : CredId → Bool) (creds : List CredId) (cred : CredId) : Type 0 where
  pub passes : test cred ≡ true
  pub among : is_among creds cred ≡ true

found_at : (test : CredId → Bool) (first : CredId) (creds : List CredId) (cred : CredId) (passes : Bool) → test first ≡ passes
    → (find test creds ≡ Some cred → IsFound test creds cred) → if_so passes (Some first) (find test creds) ≡ Some cred → IsFound test (first ∷ creds) cred
found_at test first creds cred true e rest found =
    let same : first ≡ cred = cc in
    record { passes = subst (λ x. test x ≡ true) same e; among = rw same (rw (same_as_itself cred) refl) }
found_at test first creds cred false e rest found =
    let later = rest found in
    record { passes = later.passes; among = or_right (same_cred cred first) (is_among creds cred) later.among }

is_found : (test : CredId → Bool) (creds : List CredId) (cred : CredId) → find test creds ≡ Some cred → IsFound test creds cred
is_found test [] cred found = cc
is_found test (first ∷ creds) cred found = found_at test first creds cred (test first) refl (is_found test creds cred) found

atom_decides : (asked : Asked) (test : Triple → Bool) (found : Option CredId)
    → find (shows_in asked.holder test) asked.presented ≡ found
    → Decides asked (λ uses. list_any (shows_in asked.holder test) uses) (option_map only found)
atom_decides asked test None e = none_found (shows_in asked.holder test) asked.presented e
atom_decides asked test (Some cred) e =
    let here = is_found (shows_in asked.holder test) asked.presented cred e in
    let valid = (and_parts (option_map_or test (said_in asked.holder.store asked.holder.subject cred) false) (is_valid_for asked cred) here.passes).1 in
    record {
      usable = rw (here.among, valid) refl;
      enough = λ uses among. passes_among (shows_in asked.holder test) cred uses here.passes (and_parts (is_among uses cred) true among).0;
    }

-- ---- members

no_members_decide : (asked : Asked) → Suffices asked (λ uses. true) []
no_members_decide asked = record { usable = refl; enough = λ uses among. refl }

and_decides : (asked : Asked) (first others : List CredId → Bool) (taken_first taken_others : Option (List CredId))
    → Decides asked first taken_first → Decides asked others taken_others → Decides asked (λ uses. first uses && others uses) (and_others taken_first taken_others)
and_decides asked first others None taken_others one rest = rw one refl
and_decides asked first others (Some creds) None one rest = rw rest (and-false (first asked.presented))
and_decides asked first others (Some creds) (Some more) one rest = record {
  usable = list_all-append (is_usable asked) creds more ∙ rw (one.usable, rest.usable) refl;
  enough = λ uses among.
      let both = and_parts (list_all (is_among uses) creds) (list_all (is_among uses) more) (sym (list_all-append (is_among uses) creds more) ∙ among) in
      rw (one.enough uses both.0, rest.enough uses both.1) refl;
}

or_decides : (asked : Asked) (first others : List CredId → Bool) (taken_first taken_others : Option (List CredId))
    → Decides asked first taken_first → Decides asked others taken_others → Decides asked (λ uses. first uses || others uses) (option_or taken_first taken_others)
or_decides asked first others None None one rest = rw (one, rest) refl
or_decides asked first others None (Some more) one rest = record {
  usable = rest.usable;
  enough = λ uses among. or_right (first uses) (others uses) (rest.enough uses among);
}
or_decides asked first others (Some creds) taken_others one rest = record {
  usable = one.usable;
  enough = λ uses among. rw (one.enough uses among) refl;
}

abbrev IsSound : Asked → Cond → Type 0
IsSound asked condition = Decides asked (is_true_of asked condition) (takes asked condition)

abbrev conditions : (asked : Asked) → List ((c : Cond) × IsSound asked c) → List Cond
conditions asked members = map (λ e. e.0) members

all_decide : (asked : Asked) (members : List ((c : Cond) × IsSound asked c))
    → Decides asked (λ uses. list_all (λ c. is_true_of asked c uses) (conditions asked members)) (uses_of_all (map (takes asked) (conditions asked members)))
all_decide asked [] = no_members_decide asked
all_decide asked (member ∷ members) =
    and_decides asked (is_true_of asked member.0) (λ uses. list_all (λ c. is_true_of asked c uses) (conditions asked members))
    (takes asked member.0) (uses_of_all (map (takes asked) (conditions asked members))) member.1 (all_decide asked members)

any_decides : (asked : Asked) (members : List ((c : Cond) × IsSound asked c))
    → Decides asked (λ uses. list_any (λ c. is_true_of asked c uses) (conditions asked members)) (uses_of_first (map (takes asked) (conditions asked members)))
any_decides asked [] = refl
any_decides asked (member ∷ members) =
    or_decides asked (is_true_of asked member.0) (λ uses. list_any (λ c. is_true_of asked c uses) (conditions asked members))
    (takes asked member.0) (uses_of_first (map (takes asked) (conditions asked members))) member.1 (any_decides asked members)

-- a statement that is the same of each list is decided by the same
alike : (asked : Asked) (one other : List CredId → Bool) (found : Option (List CredId)) → ((uses : List CredId) → other uses ≡ one uses)
    → Decides asked one found → Decides asked other found
alike asked one other None same decides = same asked.presented ∙ decides
alike asked one other (Some creds) same decides = record { usable = decides.usable; enough = λ uses among. same uses ∙ decides.enough uses among }

-- ---- a condition

decided_by : (asked : Asked) (condition : Cond) (statement : List CredId → Bool) (found : Option (List CredId)) → takes asked condition ≡ found
    → ((uses : List CredId) → is_true_of asked condition uses ≡ statement uses) → Decides asked statement found → IsSound asked condition
decided_by asked condition statement found e same decides =
    subst (Decides asked (is_true_of asked condition)) (sym e) (alike asked statement (is_true_of asked condition) found same decides)

true_is_sound : (asked : Asked) → IsSound asked cond.True
true_is_sound asked =
    decided_by asked cond.True (λ uses. true) (Some [])
    (ap (takes asked) (sym cond.rolls-True)
    ∙ fold-roll-Cond (Option (List CredId)) (evaluation.level (shows_in asked.holder) asked.presented) True)
    (λ uses. ap (λ c. is_true_of asked c uses) (sym cond.rolls-True)
    ∙ fold-roll-Cond Bool (level (held_with asked uses)) True)
    (no_members_decide asked)

atom_is_sound : (asked : Asked) (issuer attr : _) (op : Op) (wanted : Value) → IsSound asked (cond.Atom issuer attr op wanted)
atom_is_sound asked issuer attr op wanted =
    let shows = shows_in asked.holder (meets issuer attr op wanted) in
    decided_by asked (cond.Atom issuer attr op wanted) (λ uses. list_any shows uses) (option_map only (find shows asked.presented))
    (taken_atom (shows_in asked.holder) asked.presented issuer attr op wanted)
    (λ uses. holds_atom (held_with asked uses) issuer attr op wanted
    ∙ any_held asked.holder uses (meets issuer attr op wanted))
    (atom_decides asked (meets issuer attr op wanted) (find shows asked.presented) refl)

and_is_sound : (asked : Asked) (members : List ((c : Cond) × IsSound asked c)) → IsSound asked (cond.And (conditions asked members))
and_is_sound asked members =
    decided_by asked (cond.And (conditions asked members)) (λ uses. list_all (λ c. is_true_of asked c uses) (conditions asked members))
    (uses_of_all (map (takes asked) (conditions asked members)))
    (taken_and (shows_in asked.holder) asked.presented (conditions asked members))
    (λ uses. holds_and (held_with asked uses) (conditions asked members))
    (all_decide asked members)

or_is_sound : (asked : Asked) (members : List ((c : Cond) × IsSound asked c)) → IsSound asked (cond.Or (conditions asked members))
or_is_sound asked members =
    decided_by asked (cond.Or (conditions asked members)) (λ uses. list_any (λ c. is_true_of asked c uses) (conditions asked members))
    (uses_of_first (map (takes asked) (conditions asked members)))
    (taken_or (shows_in asked.holder) asked.presented (conditions asked members))
    (λ uses. holds_or (held_with asked uses) (conditions asked members))
    (any_decides asked members)

level_is_sound : (asked : Asked) (y : Cond-F ((c : Cond) × IsSound asked c)) → IsSound asked (roll-Cond (map-Cond ((c : Cond) × IsSound asked c) Cond (λ e. e.0) y))
level_is_sound asked True = subst (IsSound asked) (sym cond.rolls-True) (true_is_sound asked)
level_is_sound asked (Atom issuer attr op wanted) = subst (IsSound asked) (sym (cond.rolls-Atom issuer attr op wanted)) (atom_is_sound asked issuer attr op wanted)
level_is_sound asked (And members) = subst (IsSound asked) (sym (cond.rolls-And (conditions asked members))) (and_is_sound asked members)
level_is_sound asked (Or members) = subst (IsSound asked) (sym (cond.rolls-Or (conditions asked members))) (or_is_sound asked members)

pub is_sound : (asked : Asked) (condition : Cond) → IsSound asked condition
is_sound asked = ind-Cond (IsSound asked) (λ x y is. subst (λ z. IsSound asked (roll-Cond z)) is (level_is_sound asked y))
