-- The steps of a race are such as a scenario may list.
use Rattle.std.proofs.Common.{Bool, List, Some, [], ap, arith, false, if◌then◌else◌, length, not, refl, slice_get, subst, suc, sym, true, zero, ℕ, ◌++◌, ◌+◌, ◌<◌, ◌==◌, ◌^◌, ◌∙◌, ◌∷◌, ◌≡◌, ◌≤◌}
use Rattle.tp_model.specs.Words.step
use Rattle.tp_model.specs.Words.what
use Rattle.std.proofs.lemmas.Bool.{and_parts, lt-ltb, ltb-true}
use Rattle.std.proofs.lemmas.Bool.Decides.{nat_tests}
use Rattle.std.proofs.lemmas.List.Sums.{sum_by-cons}
use Rattle.std.specs.List.{count_by, list_all, sum_by}
use Rattle.tp_ends.proofs.TrustedRun.{all_done}
use Rattle.tp_ends.specs.After.{RestsAfter, all_after, automatic_after, final_after}
use Rattle.tp_machine.specs.Machine.{ending_of}
use Rattle.tp_machine.specs.Named.{IsStepOf}
use Rattle.tp_model.proofs.RuleLemmas.{rules_of}
use Rattle.tp_model.specs.Limits.{steps_limit}
use Rattle.tp_model.specs.Outside.{IsOutside, is_from_outside_what, said_by}
use Rattle.tp_model.specs.Printable.{is_printable, is_printable_ending, is_printable_fact, is_printable_what, is_u64}
use Rattle.tp_model.specs.Valid.{is_admin, is_number, is_server, is_txn, is_valid, is_valid_step}
use Rattle.tp_model.specs.Words.{Ending, Fact, Scenario, Step, What}
use Rattle.tp_race.proofs.ListLemmas.{all_pass, one_by, sum_none}
use Rattle.tp_race.proofs.SaidLemmas.{told}
use Rattle.tp_race.proofs.ScriptLemmas.{IsCommand, all_commands}
use Rattle.tp_race.specs.Callers.{scripts_of}
use Rattle.tp_race.specs.WholeRace.{WholeRace, delivers, is_office_step, is_race_step, is_timer}
use Rattle.tp_runs.proofs.basics.Facts.{all_from_each}
use Rattle.tp_types.proofs.EachLemmas.{each_as, each_both, each_from_all, each_placed, each_two}
use Rattle.tp_types.specs.Each.{Each}

-- ---- tests that no member passes, or one

unpassed : (b : Bool) (n : ℕ) → one_by b + n ≡ 0 → (b ≡ false) × (n ≡ 0)
unpassed true n e = absurd (omega (arith, e))
unpassed false n e = (refl, omega (arith, e))

-- where none is counted none passes
none_pass : {A : Type 0} (p : A → Bool) (xs : List A) → count_by p xs ≡ 0 → Each (λ (x : A). p x ≡ false) xs
none_pass p [] e = tt
none_pass {A = A} p (x ∷ xs) e =
    let parts = unpassed (p x) (count_by p xs) (sym (sum_by-cons (λ (y : A). one_by (p y)) x xs) ∙ e) in
    (parts.0, none_pass p xs parts.1)

counted_here : {A : Type 0} (p : A → Bool) (x : A) (xs : List A) → p x ≡ true → 1 ≤ count_by p (x ∷ xs)
counted_here {A = A} p x xs e =
    let here : one_by (p x) ≡ 1 = ap one_by e in
    omega (arith, sum_by-cons (λ (y : A). one_by (p y)) x xs, here)

counted_later : {A : Type 0} (p : A → Bool) (x : A) (xs : List A) → 1 ≤ count_by p xs → 1 ≤ count_by p (x ∷ xs)
counted_later {A = A} p x xs h = omega (arith, sum_by-cons (λ (y : A). one_by (p y)) x xs, h)

-- each member is counted that passes
counted_at : {A : Type 0} (p : A → Bool) (xs : List A) (n : ℕ) (x : A) → slice_get xs n ≡ Some x → p x ≡ true → 1 ≤ count_by p xs
counted_at p [] n x found e = absurd (cc)
counted_at {A = A} p (y ∷ xs) zero x found e =
    let same : y ≡ x = grind arith in
    counted_here p y xs (subst (λ (z : A). p z ≡ true) (sym same) e)
counted_at p (y ∷ xs) (suc n) x found e = counted_later p y xs (counted_at p xs n x found e)

-- ---- submissions are of transactions of the scenario, since facts tell them that may be printed

abbrev submits_known : Scenario → Step → Bool
submits_known sc (step.Submit txn) = is_txn sc txn
submits_known sc _ = true

abbrev tells_known : Scenario → What → Bool
tells_known sc (what.Submitted txn) = is_txn sc txn
tells_known sc _ = true

inside_known : (sc : Scenario) (w : What) → is_from_outside_what w ≡ false → one_by (not (tells_known sc w)) ≡ 0
inside_known sc (what.Submitted txn) e = absurd (cc)
inside_known sc _ e = refl

says_known : (sc : Scenario) (facts : List Fact) (place : ℕ) (taken : Step) → sum_by (λ (w : What). one_by (not (tells_known sc w))) (said_by sc facts place taken) ≡ one_by (not (submits_known sc taken))
says_known sc facts place (step.Submit txn) = omega arith
says_known sc facts place _ = refl

told_known : (sc : Scenario) (w : What) → is_printable_what sc w ≡ true → one_by (not (tells_known sc w)) ≡ 0
told_known sc (what.Submitted txn) e = ap (λ (b : Bool). one_by (not b)) e
told_known sc _ e = refl

submissions_known : (sc : Scenario) (steps : List Step) (facts : List Fact) (ending : Ending) → IsOutside sc steps facts → is_printable sc facts ending ≡ true → list_all (submits_known sc) steps ≡ true
submissions_known sc steps facts ending outside printable =
    let each = each_from_all (is_printable_fact sc) facts (and_parts (list_all (is_printable_fact sc) facts) (is_printable_ending sc ending) printable).0 in
    let none : sum_by (λ (fact : Fact). one_by (not (tells_known sc fact.what))) facts ≡ 0
    = sum_none (λ (fact : Fact). one_by (not (tells_known sc fact.what))) facts
    (each_as (λ (fact : Fact). is_printable_fact sc fact ≡ true) (λ (fact : Fact). one_by (not (tells_known sc fact.what)) ≡ 0)
    (λ fact e. told_known sc fact.what (and_parts (is_u64 fact.place) (is_printable_what sc fact.what) e).1) facts each) in
    all_pass (submits_known sc) steps
    (sym (told sc (λ (w : What). one_by (not (tells_known sc w))) (λ (taken : Step). one_by (not (submits_known sc taken)))
    (record { inside = inside_known sc; says = says_known sc }) steps facts outside) ∙ none)

-- ---- steps of publishers and officers are those of scripts

abbrev is_office_valid : Scenario → Step → Bool
is_office_valid sc taken = if is_office_step taken then is_valid_step sc taken else true

office_only : (office valid : Bool) → not (if office then valid else true) ≡ true → office ≡ true
office_only true valid e = refl
office_only false valid e = absurd (cc)

valid_anyway : (office valid : Bool) → valid ≡ true → one_by (not (if office then valid else true)) ≡ 0
valid_anyway true valid e = ap (λ (b : Bool). one_by (not b)) e
valid_anyway false valid e = refl

offices_valid : (sc : Scenario) (book : List Step) → is_valid sc ≡ true → WholeRace sc book → list_all (is_office_valid sc) (all_after sc book) ≡ true
offices_valid sc book formed whole =
    all_pass (is_office_valid sc) (all_after sc book)
    (whole.as_often (λ (taken : Step). not (is_office_valid sc taken)) (λ taken e. office_only (is_office_step taken) (is_valid_step sc taken) e)
    ∙ sum_none (count_by (λ (taken : Step). not (is_office_valid sc taken))) (scripts_of sc)
    (each_as (λ (script : List Step). Each (IsCommand sc) script) (λ (script : List Step). count_by (λ (taken : Step). not (is_office_valid sc taken)) script ≡ 0)
    (λ script each.
    sum_none (λ (taken : Step). one_by (not (is_office_valid sc taken))) script
    (each_as (IsCommand sc) (λ (taken : Step). one_by (not (is_office_valid sc taken)) ≡ 0) (λ taken c. valid_anyway (is_office_step taken) (is_valid_step sc taken) c.valid) script each))
    (scripts_of sc) (all_commands sc (rules_of sc formed))))

-- ---- all that steps name exists

-- what is known of a step of the book
record IsKnown (sc : Scenario) (taken : Step) : Type 0 where
  race : is_race_step taken ≡ true
  office : is_office_valid sc taken ≡ true
  submits : submits_known sc taken ≡ true

named : (sc : Scenario) (taken : Step) → IsKnown sc taken → is_timer taken ≡ false → IsStepOf sc taken
named sc (step.Submit txn) k untimed = ltb-true _ _ k.submits
named sc (step.Publish admin) k untimed = ltb-true _ _ k.office
named sc (step.Push admin server) k untimed = let parts = and_parts (is_admin sc admin) (is_server sc server) k.office in (ltb-true _ _ parts.0, ltb-true _ _ parts.1)
named sc (step.Revoke cred) k untimed = ltb-true _ _ k.office
named sc (step.Tick by) k untimed = tt
named sc (step.Deliver mail) k untimed = tt
named sc (step.Lose mail) k untimed = tt
named sc (step.Crash who cut) k untimed = let no = k.race in absurd (cc)
named sc (step.Boot who) k untimed = let no = k.race in absurd (cc)
named sc (step.Timer txn) k untimed = absurd (cc)

all_known : (sc : Scenario) (book : List Step) → is_valid sc ≡ true → RestsAfter sc book → WholeRace sc book → Each (IsKnown sc) (all_after sc book)
all_known sc book formed rests whole =
    let submits = submissions_known sc (all_after sc book) (final_after sc book).state.facts (ending_of sc (final_after sc book).state) rests.trusted.so_far.outside rests.printable in
    each_both (λ (taken : Step). (is_race_step taken ≡ true) × (is_office_valid sc taken ≡ true)) (λ (taken : Step). submits_known sc taken ≡ true) (IsKnown sc)
    (λ taken both s. record { race = both.0; office = both.1; submits = s }) (all_after sc book)
    (each_two (λ (taken : Step). is_race_step taken ≡ true) (λ (taken : Step). is_office_valid sc taken ≡ true) (all_after sc book)
    (each_from_all is_race_step (all_after sc book) whole.steps)
    (each_from_all (is_office_valid sc) (all_after sc book) (offices_valid sc book formed whole)))
    (each_from_all (submits_known sc) (all_after sc book) submits)

each_first : {A : Type 0} (P : A → Type 0) (xs ys : List A) → Each P (xs ++ ys) → Each P xs
each_first P [] ys h = tt
each_first P (x ∷ xs) ys h = (h.0, each_first P xs ys h.1)

pub book_named : (sc : Scenario) (book : List Step) → is_valid sc ≡ true → RestsAfter sc book → WholeRace sc book → Each (IsStepOf sc) book
book_named sc book formed rests whole =
    each_both (IsKnown sc) (λ (taken : Step). is_timer taken ≡ false) (IsStepOf sc) (λ taken k untimed. named sc taken k untimed) book
    (each_first (IsKnown sc) book (automatic_after sc book) (all_known sc book formed rests whole))
    (none_pass is_timer book whole.untimed)

-- ---- all steps may be listed

-- a mail's number has at most 15 digits
abbrev is_mail_valid : Step → Bool
is_mail_valid (step.Deliver mail) = is_number mail
is_mail_valid _ = true

mail_valid : (most : ℕ) (taken : Step) → most < 10 ^ 15 → ((mail : ℕ) → delivers mail taken ≡ true → mail < most) → is_mail_valid taken ≡ true
mail_valid most (step.Deliver mail) small within =
    let same : (mail == mail) ≡ true = grind (arith, nat_tests) in
    let low = within mail same in
    lt-ltb mail (10 ^ 15) (omega (arith, low, small))
mail_valid most _ small within = refl

-- few mails are sent in so few steps
few_sent : (sc : Scenario) (book : List Step) → RestsAfter sc book → length (all_after sc book) ≤ steps_limit → length (final_after sc book).state.mails < 10 ^ 15
few_sent sc book rests few = omega (arith, rests.few_mails, few)

mails_valid : (sc : Scenario) (book : List Step) → RestsAfter sc book → WholeRace sc book → length (all_after sc book) ≤ steps_limit → Each (λ (taken : Step). is_mail_valid taken ≡ true) (all_after sc book)
mails_valid sc book rests whole few =
    each_placed (λ (taken : Step). is_mail_valid taken ≡ true) (all_after sc book)
    (λ n taken found.
    mail_valid (length (final_after sc book).state.mails) taken (few_sent sc book rests few)
    (λ mail e. whole.unsent mail (counted_at (delivers mail) (all_after sc book) n taken found e)))

valid_step : (sc : Scenario) (taken : Step) → IsKnown sc taken → IsStepOf sc taken → is_mail_valid taken ≡ true → is_valid_step sc taken ≡ true
valid_step sc (step.Submit txn) k exists mail = k.submits
valid_step sc (step.Publish admin) k exists mail = k.office
valid_step sc (step.Push admin server) k exists mail = k.office
valid_step sc (step.Revoke cred) k exists mail = k.office
valid_step sc (step.Tick by) k exists mail = k.office
valid_step sc (step.Deliver number) k exists mail = mail
valid_step sc (step.Lose number) k exists mail = let no = k.race in absurd (cc)
valid_step sc (step.Crash who cut) k exists mail = let no = k.race in absurd (cc)
valid_step sc (step.Boot who) k exists mail = let no = k.race in absurd (cc)
valid_step sc (step.Timer txn) k exists mail = lt-ltb txn.0 (length sc.txns) exists

pub steps_valid : (sc : Scenario) (book : List Step) → is_valid sc ≡ true → RestsAfter sc book → WholeRace sc book → length (all_after sc book) ≤ steps_limit → list_all (is_valid_step sc) (all_after sc book) ≡ true
steps_valid sc book formed rests whole few =
    let exist = (all_done sc book formed (book_named sc book formed rests whole) rests.lawful).exist in
    all_from_each (λ (taken : Step). is_valid_step sc taken ≡ true) (is_valid_step sc) (λ taken e. e) (all_after sc book)
    (each_both (λ (taken : Step). IsKnown sc taken × IsStepOf sc taken) (λ (taken : Step). is_mail_valid taken ≡ true) (λ (taken : Step). is_valid_step sc taken ≡ true)
    (λ taken both mail. valid_step sc taken both.0 both.1 mail) (all_after sc book)
    (each_two (IsKnown sc) (IsStepOf sc) (all_after sc book) (all_known sc book formed rests whole) exist)
    (mails_valid sc book rests whole few))
