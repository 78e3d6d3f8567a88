-- The clock and the revocations at a place, and what counts there.
use Rattle.std.proofs.Common.{◌≡◌, ◌≢◌, ◌<◌, ℕ, Bool, true, false, ◌&&◌, ◌||◌, cond, List, [], ◌∷◌, filter, length, map, Option, Some, None, slice_get, slice_set, unwrap_or, option_and_then, option_map, refl, ap, sym, ◌∙◌, true≢false, eqb-true}
use Rattle.std.proofs.Math.Bool.{or-false, or-true}
use Rattle.std.proofs.lemmas.Bool.{eq-eqb}
use Rattle.std.proofs.lemmas.List.{get_or-replicate, get_or-set_other, get_or-set_same, length-replicate, length-set}
use Rattle.std.proofs.lemmas.Option.{unwrap_or-slice_get}
use Rattle.std.specs.List.{cons_option, filter_map, sum_by}
use Rattle.std.specs.Option.{option_map_or}
use Rattle.std.specs.Prelude.{replicate}
use denote.Ref.{Bor}
use Rattle.tp_model.specs.Words.{CredId, Credential, Fact, Scenario, Transaction, What}
use Rattle.tp_model.specs.Words.what
use Rattle.tp_model.specs.Credentials.{holdings, is_among, is_valid, revoked_at, revoked_by, revoked_what, said_in, tick_of, triple_by, triple_of}
use Rattle.tp_model.specs.Facts.{before, is_earlier}
use Rattle.tp_model.specs.Ids.{same_cred, same_name}
use Rattle.tp_model.specs.Policies.{Triple}
use Rattle.tp_model.proofs.HistoryLemmas.{sum_filter}
use Rattle.tp_why.specs.Held.{counting, counting_as, held}
use Rattle.tp_why.specs.mirrors.Said.{lent, said_by}
use Rattle.tp_why.specs.mirrors.Moments.{IsMarked, marked, marked_what}

-- ---- the clock

-- by how much a fact moves the clock of a place
abbrev pub ticks_by : ℕ → Fact → ℕ
ticks_by place fact = cond (is_earlier place fact) (tick_of fact) 0

-- the clock sums what each fact moves it by
pub clock_sums : (place : ℕ) (facts : List Fact) → sum_by tick_of (before place facts) ≡ sum_by (ticks_by place) facts
clock_sums place facts = sum_filter tick_of (is_earlier place) facts

-- ---- revocations

abbrev mark_of : List Bool → CredId → Bool
mark_of marks cred = unwrap_or (slice_get marks cred.0) false

abbrev is_revoked_what : CredId → What → Bool
is_revoked_what cred said = option_map_or (same_cred cred) (revoked_what said) false

mark_same : (marks : List Bool) (cred : CredId) → cred.0 < length marks → mark_of (slice_set marks cred.0 true) cred ≡ true
mark_same marks cred lt = unwrap_or-slice_get (slice_set marks cred.0 true) cred.0 false ∙ get_or-set_same marks cred.0 true false lt

mark_other : (marks : List Bool) (cred other : CredId) → cred.0 ≢ other.0 → mark_of (slice_set marks other.0 true) cred ≡ mark_of marks cred
mark_other marks cred other apart =
    unwrap_or-slice_get (slice_set marks other.0 true) cred.0 false
    ∙ get_or-set_other marks other.0 cred.0 true false apart
    ∙ sym (unwrap_or-slice_get marks cred.0 false)

mark_by : (marks : List Bool) (cred other : CredId) → cred.0 < length marks → (same : Bool) → same_cred cred other ≡ same
    → mark_of (slice_set marks other.0 true) cred ≡ (mark_of marks cred || same)
mark_by marks cred other lt true e =
    let is : cred.0 ≡ other.0 = eqb-true cred.0 other.0 e in
    ap (λ (n : ℕ). mark_of (slice_set marks n true) cred) (sym is) ∙ mark_same marks cred lt ∙ sym (or-true (mark_of marks cred))
mark_by marks cred other lt false e =
    mark_other marks cred other (λ is. true≢false (sym (eq-eqb cred.0 other.0 is) ∙ e)) ∙ sym (or-false (mark_of marks cred))

mark_what : (marks : List Bool) (cred : CredId) (said : What) → cred.0 < length marks → mark_of (marked_what said marks) cred ≡ (mark_of marks cred || is_revoked_what cred said)
mark_what marks cred (what.Revoked other) lt = mark_by marks cred other lt (same_cred cred other) refl
mark_what marks cred (what.Submitted txn) lt = sym (or-false (mark_of marks cred))
mark_what marks cred (what.Published admin version) lt = sym (or-false (mark_of marks cred))
mark_what marks cred (what.Ticked by) lt = sym (or-false (mark_of marks cred))
mark_what marks cred (what.Crashed who) lt = sym (or-false (mark_of marks cred))
mark_what marks cred (what.Lost mail) lt = sym (or-false (mark_of marks cred))
mark_what marks cred (what.Decided txn decided) lt = sym (or-false (mark_of marks cred))
mark_what marks cred (what.Settled at txn ended) lt = sym (or-false (mark_of marks cred))

as_many : (marks : List Bool) (said : What) → length (marked_what said marks) ≡ length marks
as_many marks (what.Revoked other) = length-set marks other.0 true
as_many marks (what.Submitted txn) = refl
as_many marks (what.Published admin version) = refl
as_many marks (what.Ticked by) = refl
as_many marks (what.Crashed who) = refl
as_many marks (what.Lost mail) = refl
as_many marks (what.Decided txn decided) = refl
as_many marks (what.Settled at txn ended) = refl

either_of_three : (a b c : Bool) → ((a || b) || c) ≡ (a || (b || c))
either_of_three true b c = refl
either_of_three false b c = refl

-- what one more fact shows, and then the others
among_more : (cred : CredId) (shown : Option CredId) (others : List CredId) → is_among (cons_option shown others) cred ≡ (option_map_or (same_cred cred) shown false || is_among others cred)
among_more cred None others = refl
among_more cred (Some other) others = refl

mark_at : (place : ℕ) (fact : Fact) (facts : List Fact) (marks : List Bool) (cred : CredId) → cred.0 < length marks
    → ((marks : List Bool) → cred.0 < length marks → mark_of (marked place facts marks) cred ≡ (mark_of marks cred || is_among (revoked_at place facts) cred)) → (earlier : Bool)
    → mark_of (marked place facts (cond earlier (marked_what fact.what marks) marks)) cred
    ≡ (mark_of marks cred || is_among (filter_map revoked_by (cond earlier (fact ∷ before place facts) (before place facts))) cred)
mark_at place fact facts marks cred lt later false = later marks lt
mark_at place fact facts marks cred lt later true =
    later (marked_what fact.what marks) (rw (as_many marks fact.what) lt)
    ∙ ap (λ (b : Bool). b || is_among (revoked_at place facts) cred) (mark_what marks cred fact.what lt)
    ∙ either_of_three (mark_of marks cred) (is_revoked_what cred fact.what) (is_among (revoked_at place facts) cred)
    ∙ ap (λ (b : Bool). mark_of marks cred || b) (sym (among_more cred (revoked_what fact.what) (revoked_at place facts)))

mark_after : (place : ℕ) (facts : List Fact) (marks : List Bool) (cred : CredId) → cred.0 < length marks
    → mark_of (marked place facts marks) cred ≡ (mark_of marks cred || is_among (revoked_at place facts) cred)
mark_after place [] marks cred lt = sym (or-false (mark_of marks cred))
mark_after place (fact ∷ facts) marks cred lt =
    mark_at place fact facts marks cred lt (λ marks' lt'. mark_after place facts marks' cred lt') (is_earlier place fact)

no_marks : (count : ℕ) (cred : CredId) → cred.0 < count → mark_of (replicate count false) cred ≡ false
no_marks count cred lt = unwrap_or-slice_get (replicate count false) cred.0 false ∙ get_or-replicate count cred.0 false false lt

-- the marks after all facts
pub marked_all : (count place : ℕ) (facts : List Fact) (marks : List Bool) → marks ≡ replicate count false
    → IsMarked count (revoked_at place facts) (marked place facts marks)
marked_all count place facts marks is cred lt =
    let as_long : length marks ≡ count = ap length is ∙ length-replicate count false in
    mark_after place facts marks cred (rw as_long lt)
    ∙ ap (λ (b : Bool). b || is_among (revoked_at place facts) cred) (ap (λ (all : List Bool). mark_of all cred) is ∙ no_marks count cred lt)

-- ---- what counts

counts_where : (credential : Credential) (same valid : Bool)
    → option_map triple_by (cond (same && valid) (Some credential) None) ≡ cond valid (cond same (Some (triple_by credential)) None) None
counts_where credential true true = refl
counts_where credential true false = refl
counts_where credential false true = refl
counts_where credential false false = refl

nothing_said : (valid : Bool) → ◌≡◌ {A = Option Triple} None (cond valid None None)
nothing_said true = refl
nothing_said false = refl

counts : (sc : Scenario) (place : ℕ) (facts : List Fact) (declared : Transaction) (cred : CredId) (found : Option Credential)
    → option_map triple_by (option_and_then (counting_as sc place facts declared cred) found)
    ≡ cond (is_valid sc place facts cred) (option_map_or (triple_of declared.subject) found None) None
counts sc place facts declared cred None = nothing_said (is_valid sc place facts cred)
counts sc place facts declared cred (Some credential) = counts_where credential (same_name credential.subject declared.subject) (is_valid sc place facts cred)

kept_one : (said : CredId → Option Triple) (cred : CredId) (kept : List CredId) (valid : Bool)
    → filter_map said (cond valid (cred ∷ kept) kept) ≡ cons_option (cond valid (said cred) None) (filter_map said kept)
kept_one said cred kept true = refl
kept_one said cred kept false = refl

said_one : (found : Option Credential) (others : List Credential) → map triple_by (cons_option found others) ≡ cons_option (option_map triple_by found) (map triple_by others)
said_one None others = refl
said_one (Some credential) others = refl

says_held : (sc : Scenario) (place : ℕ) (facts : List Fact) (declared : Transaction) (creds : List CredId)
    → map triple_by (filter_map (counting sc place facts declared) creds) ≡ filter_map (said_in sc.creds declared.subject) (filter (is_valid sc place facts) creds)
says_held sc place facts declared [] = refl
says_held sc place facts declared (cred ∷ creds) =
    said_one (counting sc place facts declared cred) (filter_map (counting sc place facts declared) creds)
    ∙ ap (λ (said : Option Triple). cons_option said (map triple_by (filter_map (counting sc place facts declared) creds))) (counts sc place facts declared cred (slice_get sc.creds cred.0))
    ∙ ap (cons_option (cond (is_valid sc place facts cred) (said_in sc.creds declared.subject cred) None)) (says_held sc place facts declared creds)
    ∙ sym (kept_one (said_in sc.creds declared.subject) cred (filter (is_valid sc place facts) creds) (is_valid sc place facts cred))

lent_one : (made : List (Bor Credential)) → said_by made ≡ map triple_by (map lent made)
lent_one [] = refl
lent_one (credential ∷ made) = ap (λ (said : List Triple). triple_by credential.now ∷ said) (lent_one made)

-- the credentials that count say what is held
pub says_holdings : (sc : Scenario) (place : ℕ) (facts : List Fact) (declared : Transaction) (made : List (Bor Credential)) → map lent made ≡ held sc place facts declared
    → said_by made ≡ holdings sc place facts declared
says_holdings sc place facts declared made is = lent_one made ∙ ap (map triple_by) is ∙ says_held sc place facts declared declared.creds
