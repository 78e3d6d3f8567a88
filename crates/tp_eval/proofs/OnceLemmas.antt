-- A list to which credentials are added, each once.
use Rattle.std.proofs.Common.{◌≡◌, ◌<◌, ◌+◌, add-one, ℕ, suc, Bool, true, false, cond, List, [], ◌∷◌, ◌++◌, append_assoc, length, map, take, drop, get_or, Option, Some, None, append-nil, refl, ap, sym, ◌∙◌, option_map, option_and_then}
use Rattle.std.proofs.Math.Seq.{drop-cons, take-append_seam}
use Rattle.std.specs.Option.{is_some, option_or}
use Rattle.tp_model.specs.Words.{Cond, CredId}
use Rattle.tp_model.specs.Credentials.{is_among}
use Rattle.tp_eval.specs.declared.evidence.Evidence.{Evidence}
use Rattle.tp_eval.specs.mirrors.Gathered.{gathered, takes}
use Rattle.tp_eval.specs.Uses.{once, uses_of_all, with_cred}

-- adding one list after another is adding both
pub once_both : (uses first others : List CredId) → once (once uses first) others ≡ once uses (first ++ others)
once_both uses [] others = refl
once_both uses (cred ∷ first) others = once_both (with_cred uses cred) first others

-- the list stands in front of the other
pub record Begins (start uses : List CredId) : Type 0 where
  pub more : List CredId
  pub is : uses ≡ start ++ more

pub begins_itself : (start : List CredId) → Begins start start
begins_itself start = record { more = []; is = sym (append-nil start) }

begins_with : (start uses : List CredId) (cred : CredId) (there : Bool) → Begins start uses → Begins start (cond there uses (uses ++ cred ∷ []))
begins_with start uses cred true begins = begins
begins_with start uses cred false begins = record { more = begins.more ++ cred ∷ []; is = ap (λ creds. creds ++ cred ∷ []) begins.is ∙ append_assoc start begins.more (cred ∷ []) }

pub begins_once : (start uses creds : List CredId) → Begins start uses → Begins start (once uses creds)
begins_once start uses [] begins = begins
begins_once start uses (cred ∷ creds) begins =
    begins_once start (with_cred uses cred) creds (begins_with start uses cred (is_among uses cred) begins)

-- what was gathered stands behind what was there
pub begins_gathered : (start uses : List CredId) (taken : Option (List CredId)) → Begins start uses → Begins start (gathered uses taken)
begins_gathered start uses None begins = begins
begins_gathered start uses (Some creds) begins = begins_once start uses creds begins

-- cutting off all behind it gives the list
pub cut_back : (start uses : List CredId) → Begins start uses → take (length start) uses ≡ start
cut_back start uses begins = ap (take (length start)) begins.is ∙ take-append_seam start begins.more

-- ---- a loop over the members of a condition

-- the list at the end, where it was this one at the start: what is left to take is added, or all is cut off
abbrev pub left_by : List CredId → List CredId → Option (List CredId) → List CredId
left_by start uses None = start
left_by start uses (Some creds) = once uses creds

-- what one member takes, and then the others
abbrev pub and_others : Option (List CredId) → Option (List CredId) → Option (List CredId)
and_others member others = option_and_then (λ first. option_map (λ more. first ++ more) others) member

-- a member that takes some passes on to the others
pub goes_on : (start uses : List CredId) (member others : Option (List CredId)) → is_some member ≡ true
    → left_by start uses (and_others member others) ≡ left_by start (gathered uses member) others
goes_on start uses None others some = cc
goes_on start uses (Some first) None some = refl
goes_on start uses (Some first) (Some more) some = sym (once_both uses first more)

pub goes_on_where : (member others : Option (List CredId)) → is_some member ≡ true → is_some (and_others member others) ≡ is_some others
goes_on_where None others some = cc
goes_on_where (Some first) None some = refl
goes_on_where (Some first) (Some more) some = refl

-- a member that takes none ends the loop
pub ends : (member others : Option (List CredId)) → is_some member ≡ false → and_others member others ≡ None
ends None others none = refl
ends (Some first) others none = cc

pub first_where_none : (member others : Option (List CredId)) → is_some member ≡ false → option_or member others ≡ others
first_where_none None others none = refl
first_where_none (Some creds) others none = cc

pub first_where_some : (member others : Option (List CredId)) → is_some member ≡ true → option_or member others ≡ member
first_where_some None others some = cc
first_where_some (Some creds) others some = refl

-- the members that are left decide, and what was there stands in front
pub record AllSoFar (held : Evidence) (members : List Cond) (start : List CredId) (at : ℕ) (uses : List CredId) : Type 0 where
  pub truth : is_some (uses_of_all (map (takes held) (drop at members))) ≡ is_some (uses_of_all (map (takes held) members))
  pub added : left_by start uses (uses_of_all (map (takes held) (drop at members))) ≡ gathered start (uses_of_all (map (takes held) members))
  pub front : Begins start uses

pub all_go_on : (held : Evidence) (members : List Cond) (start uses now : List CredId) (at : ℕ) (member : Cond) → at < length members
    → member ≡ get_or members at member → is_some (takes held member) ≡ true → now ≡ gathered uses (takes held member)
    → AllSoFar held members start at uses → AllSoFar held members start (at + 1) now
all_go_on held members start uses now at member lt here some added so =
    let others = uses_of_all (map (takes held) (drop (at + 1) members)) in
    let left : drop at members ≡ member ∷ drop (at + 1) members = rw add-one (drop-cons members at member lt ∙ ap (λ first. first ∷ drop (suc at) members) (sym here)) in
    let next : uses_of_all (map (takes held) (drop at members)) ≡ and_others (takes held member) others = ap (λ rest. uses_of_all (map (takes held) rest)) left in
    record {
      truth = sym (goes_on_where (takes held member) others some) ∙ ap is_some (sym next) ∙ so.truth;
      added = ap (λ list. left_by start list others) added ∙ sym (goes_on start uses (takes held member) others some) ∙ ap (left_by start uses) (sym next) ∙ so.added;
      front = rw added (begins_gathered start uses (takes held member) so.front);
    }
