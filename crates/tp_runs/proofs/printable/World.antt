-- Every run may be printed: its facts, and its ending.
use Rattle.std.specs.List.{AllByRecursion, list_all}
use Rattle.std.specs.Option.{option_map_or}
use Rattle.std.proofs.Common.{Bool, List, None, Option, Some, [], ap, arith, false, filter, if◌then◌else◌, is_some, length, refl, slice_get, subst, suc, sym, true, unwrap_or, zero, ℕ, ℤ, ◌&&◌, ◌+◌, ◌<◌, ◌==◌, ◌^◌, ◌∙◌, ◌∷◌, ◌≡◌}
use Rattle.std.proofs.lemmas.Bool.{and_from, lt-ltb, ltb-true}
use Rattle.std.proofs.lemmas.Option.{same_Some}
use Rattle.tp_model.proofs.RunBounds.{IsWithin}
use Rattle.tp_model.specs.Causes.{is_caused, keeps_causes}
use Rattle.tp_model.specs.Facts.{is_earlier}
use Rattle.tp_model.specs.Outside.{IsOutside, at_place, is_from_outside, said_by, said_from}
use Rattle.tp_model.specs.SerialRun.{are_in_range}
use Rattle.tp_model.specs.Trust.{is_trusted, keeps_trust}
use Rattle.tp_model.specs.Words.step
use Rattle.tp_model.specs.Words.what
use Rattle.tp_model.specs.Words.{Fact, Item, Scenario, Step, What}
use Rattle.tp_machine.proofs.basics.Machine.{steps_next}
use Rattle.tp_machine.specs.Machine.{Machine, State, after_step, after_steps, ending_of, item_value, item_values, machine_after, refusal, value_up, values_by_log}
use Rattle.tp_machine.specs.Named.{IsServer}
use Rattle.tp_machine.specs.Parts.{Part}
use Rattle.tp_machine.specs.declared.error.StepError.{StepError}
use Rattle.tp_recover.specs.Log.{values_in}
use Rattle.tp_model.specs.Printable.{is_i128, is_printable_ending, is_printable_fact, is_u64}
use Rattle.tp_runs.proofs.agreement.World.{Agrees}
use Rattle.tp_runs.proofs.basics.Facts.{all_from_each}
use Rattle.tp_runs.proofs.deeds.Lengths.{overlaid_length}
use Rattle.tp_runs.proofs.deeds.Ranges.{IsHeld, all_in_range, range_at, store_within}
use Rattle.tp_runs.proofs.ids.Valid.{IsValid, IsValidItem}
use Rattle.tp_runs.proofs.mails.World.{HasFewMails}
use Rattle.tp_runs.proofs.printable.Facts.{Formed, IsNumbered, what_is}
use Rattle.tp_runs.proofs.printable.Numbers.{item_is_i128, low_is_u64}
use Rattle.tp_runs.proofs.serial_data.End.{serial_values, values_on_log}
use Rattle.tp_runs.proofs.serial_data.World.{Serial}
use Rattle.tp_runs.specs.Bounded.{AreBounded, IsBoundedFact}
use Rattle.tp_runs.specs.Laws.{HasNumbers, IsPrintableState}
use Rattle.tp_runs.specs.Sound.{IsSound, IsSoundFact}
use Rattle.tp_server.specs.State.{Server}
use Rattle.tp_types.proofs.EachLemmas.{each_append, each_from_all, each_get, each_more, each_placed, missing}
use Rattle.tp_types.proofs.ListLemmas.{number_itself, three_from}
use Rattle.tp_types.specs.Each.{Each}

-- ---- numbers that steps say

said_numbered : (sc : Scenario) (facts : List Fact) (place : ℕ) (taken : Step) → HasNumbers taken → Each IsNumbered (said_by sc facts place taken)
said_numbered sc facts place (step.Submit txn) h = (tt, tt)
said_numbered sc facts place (step.Publish admin) h = (tt, tt)
said_numbered sc facts place (step.Push admin server) h = tt
said_numbered sc facts place (step.Revoke cred) h = (tt, tt)
said_numbered sc facts place (step.Tick by) h = (h, tt)
said_numbered sc facts place (step.Deliver mail) h = tt
said_numbered sc facts place (step.Lose mail) h = (h, tt)
said_numbered sc facts place (step.Crash who cut) h = (tt, tt)
said_numbered sc facts place (step.Boot who) h = tt
said_numbered sc facts place (step.Timer txn) h = tt

abbrev IsNumberedFact : Fact → Type 0
IsNumberedFact fact = IsNumbered fact.what

placed_numbered : (place : ℕ) (said : List What) → Each IsNumbered said → Each IsNumberedFact (at_place place said)
placed_numbered place [] h = tt
placed_numbered place (one ∷ others) h = (h.0, placed_numbered place others h.1)

all_said_numbered : (sc : Scenario) (facts : List Fact) (place : ℕ) (steps : List Step) → Each HasNumbers steps → Each IsNumberedFact (said_from sc facts place steps)
all_said_numbered sc facts place [] h = tt
all_said_numbered sc facts place (taken ∷ steps) h =
    each_append IsNumberedFact (at_place place (said_by sc facts place taken)) (said_from sc facts (place + 1) steps)
    (placed_numbered place (said_by sc facts place taken) (said_numbered sc facts place taken h.0)) (all_said_numbered sc facts (place + 1) steps h.1)

-- what is not from outside has no such number
inside_numbered : (fact : Fact) → is_from_outside fact ≡ false → IsNumberedFact fact
inside_numbered fact e = by_what fact.what e
  where
    by_what : (happened : What) → is_from_outside (record { place = fact.place; what = happened }) ≡ false → IsNumbered happened
    by_what (what.Ticked by) e = absurd (cc)
    by_what (what.Lost mail) e = absurd (cc)
    by_what (what.Submitted txn) e = tt
    by_what (what.Published admin version) e = tt
    by_what (what.Revoked cred) e = tt
    by_what (what.Crashed who) e = tt
    by_what (what.Decided txn decided) e = tt
    by_what (what.Settled at txn ended) e = tt

numbered_by : (fact : Fact) (facts : List Fact) (outside : Bool) → is_from_outside fact ≡ outside → (Each IsNumberedFact (filter is_from_outside facts) → Each IsNumberedFact facts)
    → Each IsNumberedFact (if outside then fact ∷ filter is_from_outside facts else filter is_from_outside facts) → IsNumberedFact fact × Each IsNumberedFact facts
numbered_by fact facts true e later h = (h.0, later h.1)
numbered_by fact facts false e later h = (inside_numbered fact e, later h)

facts_numbered : (facts : List Fact) → Each IsNumberedFact (filter is_from_outside facts) → Each IsNumberedFact facts
facts_numbered [] h = tt
facts_numbered (fact ∷ facts) h = numbered_by fact facts (is_from_outside fact) refl (facts_numbered facts) h

-- ---- the steps that were done are among those given

step_kept : (P : Step → Type 0) (sc : Scenario) (m : Machine) (taken : Step) (why : Option StepError) → refusal m.state taken ≡ why → P taken → Each P m.state.steps → Each P (if is_some why then m else machine_after sc m taken).state.steps
step_kept P sc m taken None e h k = subst (Each P) (sym (steps_next sc m taken)) (each_more P m.state.steps taken k h)
step_kept P sc m taken (Some why) e h k = k

pub steps_kept : (P : Step → Type 0) (sc : Scenario) (m : Machine) (steps : List Step) → Each P steps → Each P m.state.steps → Each P (after_steps sc m steps).state.steps
steps_kept P sc m [] h k = k
steps_kept P sc m (taken ∷ steps) h k = steps_kept P sc (after_step sc m taken) steps h.1 (step_kept P sc m taken (refusal m.state taken) refl h.0 k)

-- ---- the values at the end

value_at_place : (sc : Scenario) (servers : List (Part Server)) (first : ℕ) (items : List Item) (n : ℕ) (item : Item) → slice_get items n ≡ Some item → slice_get (item_values sc servers first items) n ≡ Some (item_value sc servers (first + n) item)
value_at_place sc servers first [] n item e = absurd (cc)
value_at_place sc servers first (one ∷ items) zero item e =
    let same : one ≡ item = same_Some one item e in
    let place : first ≡ first + 0 = omega arith in
    subst (λ (k : ℕ). Some (item_value sc servers first one) ≡ Some (item_value sc servers k item)) place (ap (λ (i : Item). Some (item_value sc servers first i)) same)
value_at_place sc servers first (one ∷ items) (suc n) item e =
    let place : (first + 1) + n ≡ first + suc n = omega arith in
    value_at_place sc servers (first + 1) items n item e ∙ ap (λ (k : ℕ). Some (item_value sc servers k item)) place

-- an item has a value in its range
held_here : (sc : Scenario) (w : State) (n : ℕ) (item : Item) (part : Part Server) → IsSound sc w → Serial sc w → AreBounded sc w → slice_get sc.items n ≡ Some item → slice_get w.actors.servers item.server.0 ≡ Some part
    → IsHeld item (Some (value_up sc item.server part n item.value))
held_here sc w n item part sound serial bounded found there =
    let held : IsHeld item (slice_get (values_in sc part.log) n) = range_at sc.items (values_in sc part.log) n item (bounded.servers item.server.0 part there).in_range found in
    let values : values_by_log sc item.server part.log part.up ≡ values_in sc part.log = values_on_log sc w item.server part part.up sound serial there refl in
    record {
      value = held.value;
      found_is = ap (λ (vs : List ℤ). Some (unwrap_or (slice_get vs n) item.value)) values ∙ ap (λ (v : Option ℤ). Some (unwrap_or v item.value)) held.found_is;
      within = held.within;
    }

held_at : (sc : Scenario) (w : State) (n : ℕ) (item : Item) (part : Option (Part Server)) → IsValid sc → IsSound sc w → Agrees sc w → Serial sc w → AreBounded sc w → slice_get sc.items n ≡ Some item → slice_get w.actors.servers item.server.0 ≡ part
    → IsHeld item (Some (item_value sc w.actors.servers n item))
held_at sc w n item None valid sound agrees serial bounded found there =
    let exists : IsServer sc item.server = (each_get (IsValidItem sc) sc.items n item valid.items found).server in
    absurd (missing w.actors.servers item.server.0 (omega (arith, exists, agrees.server_count)) there)
held_at sc w n item (Some part) valid sound agrees serial bounded found there =
    subst (λ (p : Option (Part Server)). IsHeld item (Some (option_map_or (λ (q : Part Server). value_up sc item.server q n item.value) p item.value))) (sym there)
    (held_here sc w n item part sound serial bounded found there)

all_i128 : (values : List ℤ) → AllByRecursion (IsWithin (10 ^ 15)) values → list_all is_i128 values ≡ true
all_i128 [] h = refl
all_i128 (value ∷ values) h = and_from _ _ (item_is_i128 value h.0) (all_i128 values h.1)

ending_is : (sc : Scenario) (w : State) → IsValid sc → IsSound sc w → Agrees sc w → Serial sc w → AreBounded sc w → HasFewMails w → length w.steps < 2 ^ 57 → is_printable_ending sc (ending_of sc w) ≡ true
ending_is sc w valid sound agrees serial bounded few short =
    let values = item_values sc w.actors.servers 0 sc.items in
    let count : length values ≡ length sc.items = ap length (serial_values sc w valid sound agrees serial) ∙ overlaid_length sc w.facts in
    let range : are_in_range sc.items values ≡ true = all_in_range sc.items values
    (λ n item found. subst (IsHeld item) (sym (value_at_place sc w.actors.servers 0 sc.items n item found ∙ ap (λ (k : ℕ). Some (item_value sc w.actors.servers k item)) (from_none n)))
    (held_at sc w n item (slice_get w.actors.servers item.server.0) valid sound agrees serial bounded found refl)) in
    three_from (is_u64 (length w.steps)) (is_u64 (length w.mails)) (list_all is_i128 values && (length values == length sc.items))
    (low_is_u64 (length w.steps) (2 ^ 57) short (omega arith))
    (lt-ltb (length w.mails) (2 ^ 64) (omega (arith, few, short)))
    (and_from _ _ (all_i128 values (store_within sc values valid count range)) (ap (λ (n : ℕ). n == length sc.items) count ∙ number_itself (length sc.items)))
  where
    from_none : (n : ℕ) → 0 + n ≡ n
    from_none n = omega arith

-- ---- the whole

pub record Shows (sc : Scenario) (w : State) : Type 0 where
  pub sound : IsSound sc w
  pub agrees : Agrees sc w
  pub serial : Serial sc w
  pub bounded : AreBounded sc w
  pub few : HasFewMails w
  pub outside : IsOutside sc w.steps w.facts
  pub trusted : is_trusted sc w.facts ≡ true
  pub caused : is_caused sc w.facts ≡ true

pub state_printable : (sc : Scenario) (w : State) → Formed sc → Shows sc w → Each HasNumbers w.steps → length w.steps < 2 ^ 57 → IsPrintableState sc w
state_printable sc w formed h numbered short =
    let said : Each IsNumberedFact (filter is_from_outside w.facts) = subst (Each IsNumberedFact) (sym h.outside.said) (all_said_numbered sc w.facts 0 w.steps numbered) in
    let numbers : Each IsNumberedFact w.facts = facts_numbered w.facts said in
    let trusted = each_from_all (keeps_trust sc w.facts) w.facts h.trusted in
    let caused = each_from_all (keeps_causes sc w.facts) w.facts h.caused in
    let within = each_from_all (is_earlier (length w.steps)) w.facts h.outside.within in
    and_from _ _
    (all_from_each (λ (fact : Fact). is_printable_fact sc fact ≡ true) (is_printable_fact sc) (λ fact k. k) w.facts
    (each_placed (λ (fact : Fact). is_printable_fact sc fact ≡ true) w.facts
    (λ n fact e.
    let early = ltb-true fact.place (length w.steps) (each_get (λ (f : Fact). is_earlier (length w.steps) f ≡ true) w.facts n fact within e) in
    and_from (is_u64 fact.place) _ (low_is_u64 fact.place (length w.steps) early (omega (arith, short)))
    (what_is sc fact.place w.facts fact.what formed (omega (arith, early, short)) (each_get (IsSoundFact sc) w.facts n fact h.sound.facts_are e) (each_get IsBoundedFact w.facts n fact h.bounded.facts_are e)
    (each_get IsNumberedFact w.facts n fact numbers e) (each_get (λ (f : Fact). keeps_trust sc w.facts f ≡ true) w.facts n fact trusted e) (each_get (λ (f : Fact). keeps_causes sc w.facts f ≡ true) w.facts n fact caused e)))))
    (ending_is sc w formed.valid h.sound h.agrees h.serial h.bounded h.few short)
