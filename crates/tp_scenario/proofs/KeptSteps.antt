-- What the walk gives of steps keeps their rules.
use Rattle.std.proofs.Common.{◌≡◌, ℕ, ◌<◌, nat_lt, Bool, true, false, List, [], ◌∷◌, length, Option, Some, None, Ok, Err, refl, subst, arith, codes, if◌then◌else◌, option_map}
use Rattle.std.specs.List.{list_all}
use Rattle.std.proofs.lemmas.Bool.{and_parts, and_from, lt-ltb}
use Rattle.std.proofs.lemmas.Option.{same_Some}
use Rattle.tp_types.proofs.ListLemmas.{all_push}
use Rattle.serde_json.specs.Data.{Data}
use Rattle.tp_types.specs.Spelling.{number_of}
use Rattle.tp_model.specs.Words.{Actor, Scenario, Step}
use Rattle.tp_model.specs.Words.actor
use Rattle.tp_model.specs.Words.step
use Rattle.tp_model.specs.Limits.{is_empty, is_from_to, steps_limit, tick_limit}
use Rattle.tp_model.specs.Valid.{are_valid_steps, is_number, is_valid_step, may_crash}
use Rattle.tp_scenario.specs.declared.command.CountVerb.{CountVerb}
use Rattle.tp_scenario.specs.declared.command.CountVerb.TheVariants as counting
use Rattle.tp_scenario.specs.declared.command.NameVerb.{NameVerb}
use Rattle.tp_scenario.specs.declared.command.NameVerb.TheVariants as verb
use Rattle.tp_scenario.specs.declared.names.Declared.{Declared}
use Rattle.tp_scenario.specs.declared.path.Path.{Path}
use Rattle.tp_scenario.specs.Faults.{range, shape}
use Rattle.tp_model.specs.Ids.{same_name}
use Rattle.tp_scenario.specs.Names.{place_of}
use Rattle.tp_scenario.specs.Steps.{Command, of_name, by_number, push, cut, actor_at, actor_or, by_verb, calls_of, command_at, command_by, command_in, command_of, coordinator_at, count_verb, command_by_count_or, counted_step, crash_of, cut_or_range, cut_step, fill_of, cut_with_fill, is_cut, mail_of, name_verb, named_step, one_name, one_number, push_of, push_step, push_to, cut_in_mail, step_at, step_for, step_in, steps_at}
use Rattle.tp_scenario.specs.Values.{text_at}
use Rattle.tp_model.specs.Queries.{only}
use Rattle.tp_scenario.specs.Words.{words_of}
use Rattle.tp_scenario.proofs.GrowingLists.{place_within}
use Rattle.tp_scenario.proofs.Inverses.{each_count, each_keeps, items_or_ok, ok_or_ok, ok_same, test_ok, then_ok, used_ok}
use Rattle.tp_scenario.proofs.KeptQueries.{map_some, number_small, test_some, then_some}

-- as many names of each kind as the scenario has of them
pub record IsNamesOf (sc : Scenario) (names : Declared) : Type 0 where
  pub admins : length names.admins ≡ length sc.admins
  pub creds : length names.creds ≡ length sc.creds
  pub servers : length names.servers ≡ length sc.servers
  pub txns : length names.txns ≡ length sc.txns

within : (place count other : ℕ) → place < count → count ≡ other → nat_lt place other ≡ true
within place count other below same = lt-ltb place other (omega arith)

-- ---- steps as they are spelled

-- a mail's number has at most 15 digits
abbrev pub IsCommandWell : Command → Type 0
IsCommandWell (of_name verb name) = Unit {0}
IsCommandWell (by_number verb number) = is_number number ≡ true
IsCommandWell (push admin server) = Unit {0}
IsCommandWell (cut name mail calls fill) = is_number mail ≡ true

push_kept : (words : List (List ℕ)) (command : Command) → push_of words ≡ Some command → IsCommandWell command
unfolding push_of
push_kept [] command e = absurd (cc)
push_kept (admin ∷ words) command e = by_server (one_name words) e
  where
    by_server : (server : Option (List ℕ)) → push_to admin server ≡ Some command → IsCommandWell command
    by_server None h = absurd (cc)
    by_server (Some server) h = subst IsCommandWell (same_Some _ command (test_some _ _ command h).1) tt

calls_kept : (name : List ℕ) (mail : ℕ) (words : List (List ℕ)) (command : Command) → is_number mail ≡ true → calls_of name mail words ≡ Some command → IsCommandWell command
unfolding calls_of
calls_kept name mail [] command small e = absurd (cc)
calls_kept name mail (key ∷ []) command small e = absurd (cc)
calls_kept name mail (key ∷ calls ∷ words) command small e = by_fill (fill_of words) (test_some _ _ command e).1
  where
    by_fill : (fill : Option ℕ) → cut_with_fill name mail calls fill ≡ Some command → IsCommandWell command
    by_fill None h = absurd (cc)
    by_fill (Some fill) h = subst IsCommandWell (map_some (λ c. cut name mail c fill) (number_of calls) command h).2 small

mail_kept : (name : List ℕ) (words : List (List ℕ)) (command : Command) → mail_of name words ≡ Some command → IsCommandWell command
unfolding mail_of
mail_kept name [] command e = absurd (cc)
mail_kept name (key ∷ []) command e = absurd (cc)
mail_kept name (key ∷ mail ∷ words) command e = by_mail (number_of mail) refl (test_some _ _ command e).1
  where
    by_mail : (number : Option ℕ) → number_of mail ≡ number → cut_in_mail name number words ≡ Some command → IsCommandWell command
    by_mail None n h = absurd (cc)
    by_mail (Some number) n h = calls_kept name number words command (number_small mail number n) h

crash_kept : (words : List (List ℕ)) (command : Command) → crash_of words ≡ Some command → IsCommandWell command
unfolding crash_of
crash_kept [] command e = absurd (cc)
crash_kept (name ∷ words) command e = by_end (is_empty words) (test_some _ _ command e).1
  where
    by_end : (b : Bool) → (if b then Some (of_name verb.Crash name) else mail_of name words) ≡ Some command → IsCommandWell command
    by_end true h = subst IsCommandWell (same_Some _ command h) tt
    by_end false h = mail_kept name words command h

one_kept : (verb : NameVerb) (words : List (List ℕ)) (command : Command) → option_map (of_name verb) (one_name words) ≡ Some command → IsCommandWell command
one_kept verb words command e = subst IsCommandWell (map_some (of_name verb) (one_name words) command e).2 tt

by_verb_kept : (verb : NameVerb) (words : List (List ℕ)) (command : Command) → by_verb verb words ≡ Some command → IsCommandWell command
by_verb_kept verb.Crash words command e = crash_kept words command e
by_verb_kept verb.Submit words command e = one_kept verb.Submit words command e
by_verb_kept verb.Publish words command e = one_kept verb.Publish words command e
by_verb_kept verb.Revoke words command e = one_kept verb.Revoke words command e
by_verb_kept verb.Boot words command e = one_kept verb.Boot words command e
by_verb_kept verb.Timer words command e = one_kept verb.Timer words command e

counted_kept : (count : Option CountVerb) (verb : Option NameVerb) (words : List (List ℕ)) (command : Command) → command_by_count_or count verb words ≡ Some command → IsCommandWell command
counted_kept None None words command e = absurd (cc)
counted_kept None (Some verb) words command e = by_verb_kept verb words command e
counted_kept (Some count) verb words command e =
    let number = map_some (by_number count) (one_number words) command e in
    let word = then_some number_of (only words) number.0 number.1 in
    subst IsCommandWell number.2 (number_small word.0 number.0 word.2)

command_kept : (text : List ℕ) (command : Command) → command_of text ≡ Some command → IsCommandWell command
unfolding command_of command_by
command_kept text command e = by_words (words_of text) e
  where
    by_push : (word : List ℕ) (words : List (List ℕ)) (b : Bool) → (if b then push_of words else command_by_count_or (count_verb word) (name_verb word) words) ≡ Some command → IsCommandWell command
    by_push word words true h = push_kept words command h
    by_push word words false h = counted_kept (count_verb word) (name_verb word) words command h

    by_words : (words : List (List ℕ)) → command_in words ≡ Some command → IsCommandWell command
    by_words [] h = absurd (cc)
    by_words (word ∷ words) h = by_push word words (same_name word (codes "push")) h

-- ---- steps

actor_kept : (sc : Scenario) (path : Path) (names : Declared) (name : List ℕ) (who : Actor) → IsNamesOf sc names → actor_at path names name ≡ Ok who → may_crash sc who ≡ true
unfolding actor_at coordinator_at
actor_kept sc path names name who of_sc e = by_place (place_of name names.servers) refl e
  where
    by_place : (place : Option ℕ) → place_of name names.servers ≡ place → actor_or path names name place ≡ Ok who → may_crash sc who ≡ true
    by_place (Some place) p h =
        subst (λ (a : Actor). may_crash sc a ≡ true) (ok_same (actor.Server (record { 0 = place })) who h)
        (within place (length names.servers) _ (place_within (λ (other : List ℕ). same_name other name) names.servers place p) of_sc.servers)
    by_place None p h =
        let place = then_ok _ _ _ h in
        subst (λ (a : Actor). may_crash sc a ≡ true) (ok_same (actor.Coordinator (record { 0 = place.0 })) who place.2)
        (within place.0 (length names.txns) _ (used_ok path names.txns name place.0 place.1) of_sc.txns)

named_valid : (sc : Scenario) (path : Path) (names : Declared) (verb : NameVerb) (name : List ℕ) (made : Step) → IsNamesOf sc names → named_step path names verb name ≡ Ok made → is_valid_step sc made ≡ true
unfolding named_step
named_valid sc path names verb.Submit name made of_sc e =
    let place = then_ok _ _ _ e in
    subst (λ (s : Step). is_valid_step sc s ≡ true) (ok_same _ made place.2) (within place.0 (length names.txns) _ (used_ok path names.txns name place.0 place.1) of_sc.txns)
named_valid sc path names verb.Publish name made of_sc e =
    let place = then_ok _ _ _ e in
    subst (λ (s : Step). is_valid_step sc s ≡ true) (ok_same _ made place.2) (within place.0 (length names.admins) _ (used_ok path names.admins name place.0 place.1) of_sc.admins)
named_valid sc path names verb.Revoke name made of_sc e =
    let place = then_ok _ _ _ e in
    subst (λ (s : Step). is_valid_step sc s ≡ true) (ok_same _ made place.2) (within place.0 (length names.creds) _ (used_ok path names.creds name place.0 place.1) of_sc.creds)
named_valid sc path names verb.Crash name made of_sc e =
    let who = then_ok _ _ _ e in
    subst (λ (s : Step). is_valid_step sc s ≡ true) (ok_same _ made who.2) (and_from _ _ (actor_kept sc path names name who.0 of_sc who.1) refl)
named_valid sc path names verb.Boot name made of_sc e =
    let who = then_ok _ _ _ e in
    subst (λ (s : Step). is_valid_step sc s ≡ true) (ok_same _ made who.2) (actor_kept sc path names name who.0 of_sc who.1)
named_valid sc path names verb.Timer name made of_sc e =
    let place = then_ok _ _ _ e in
    subst (λ (s : Step). is_valid_step sc s ≡ true) (ok_same _ made place.2) (within place.0 (length names.txns) _ (used_ok path names.txns name place.0 place.1) of_sc.txns)

counted_valid : (sc : Scenario) (path : Path) (verb : CountVerb) (number : ℕ) (made : Step) → is_number number ≡ true → counted_step path verb number ≡ Ok made → is_valid_step sc made ≡ true
unfolding counted_step
counted_valid sc path counting.Tick number made small e =
    let got = test_ok (is_from_to 1 tick_limit number) (step.Tick number) made _ e in
    subst (λ (s : Step). is_valid_step sc s ≡ true) got.1 got.0
counted_valid sc path counting.Deliver number made small e = subst (λ (s : Step). is_valid_step sc s ≡ true) (ok_same (step.Deliver number) made e) small
counted_valid sc path counting.Lose number made small e = subst (λ (s : Step). is_valid_step sc s ≡ true) (ok_same (step.Lose number) made e) small

cut_valid : (sc : Scenario) (path : Path) (names : Declared) (name : List ℕ) (mail calls fill : ℕ) (made : Step) → IsNamesOf sc names → is_number mail ≡ true → cut_or_range path names name mail calls fill ≡ Ok made
    → is_valid_step sc made ≡ true
unfolding cut_step
cut_valid sc path names name mail calls fill made of_sc small e = by_test (is_cut calls fill) refl e
  where
    by_test : (b : Bool) → is_cut calls fill ≡ b → (if b then cut_step path names name mail calls fill else Err (range path)) ≡ Ok made → is_valid_step sc made ≡ true
    by_test true fits h =
        let who = then_ok _ _ _ h in
        let both = and_parts _ _ fits in
        subst (λ (s : Step). is_valid_step sc s ≡ true) (ok_same _ made who.2)
        (and_from _ _ (actor_kept sc path names name who.0 of_sc who.1) (and_from _ _ (and_from _ _ small both.0) both.1))
    by_test false fits h = absurd (cc)

pub step_for_kept : (sc : Scenario) (path : Path) (names : Declared) (command : Command) (made : Step) → IsNamesOf sc names → IsCommandWell command → step_for path names command ≡ Ok made
    → is_valid_step sc made ≡ true
unfolding push_step
step_for_kept sc path names (of_name verb name) made of_sc well e = named_valid sc path names verb name made of_sc e
step_for_kept sc path names (by_number verb number) made of_sc well e = counted_valid sc path verb number made well e
step_for_kept sc path names (push admin server) made of_sc well e =
    let from = then_ok _ _ _ e in
    let to = then_ok _ _ _ from.2 in
    subst (λ (s : Step). is_valid_step sc s ≡ true) (ok_same _ made to.2)
    (and_from _ _ (within from.0 (length names.admins) _ (used_ok path names.admins admin from.0 from.1) of_sc.admins)
    (within to.0 (length names.servers) _ (used_ok path names.servers server to.0 to.1) of_sc.servers))
step_for_kept sc path names (cut name mail calls fill) made of_sc well e = cut_valid sc path names name mail calls fill made of_sc well e

pub command_well : (path : Path) (d : Data) (command : Command) → command_at path d ≡ Ok command → IsCommandWell command
unfolding command_at
command_well path d command e = let text = then_ok (text_at path (Some d)) _ _ e in command_kept text.0 command (ok_or_ok (command_of text.0) command (shape path) text.2)

step_kept : (sc : Scenario) (names : Declared) (path : Path) (d : Data) (made : Step) → IsNamesOf sc names → step_at names path d ≡ Ok made → is_valid_step sc made ≡ true
unfolding step_at
step_kept sc names path d made of_sc e =
    let command = then_ok _ _ _ e in
    step_for_kept sc path names command.0 made of_sc (command_well path d command.0 command.1) command.2

pub steps_kept : (sc : Scenario) (names : Declared) (value : Option Data) (steps : List Step) → IsNamesOf sc names → steps_at names value ≡ Ok steps → are_valid_steps sc steps ≡ true
unfolding steps_at
steps_kept sc names value steps of_sc e =
    let values = then_ok _ _ _ e in
    and_from _ _ (each_count (step_in names) 0 steps_limit values.0 steps (items_or_ok _ steps_limit value values.0 values.1) values.2)
    (each_keeps (step_in names) (λ made. list_all (is_valid_step sc) made ≡ true) (λ made x d before h. all_push (is_valid_step sc) made x before (step_kept sc names _ d x of_sc h))
    values.0 [] steps refl values.2)
