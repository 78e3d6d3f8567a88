-- Serial data, what it comes to: every commit is serial, each item has what settled commits leave, and once all transactions have
-- ended everywhere that is what all commits leave.
use Rattle.tp_runs.proofs.serial_data.Shares.{server_there}
use Rattle.std.specs.List.{list_any}
use Rattle.std.specs.Option.{option_map_or}
use Rattle.std.proofs.Common.{List, None, Option, Some, [], ap, arith, false, is_some, length, option_map, refl, slice_get, subst, suc, sym, true, unwrap_or, zero, ℕ, ℤ, ⊎_elim, ◌+◌, ◌<◌, ◌||◌, ◌∙◌, ◌∷◌, ◌≡◌}
use Rattle.std.proofs.lemmas.Bool.{and_parts, or_cases}
use Rattle.std.proofs.lemmas.Option.{same_Some, slice_get_within}
use Rattle.tp_model.specs.Agreement.{has_item, has_item_at}
use Rattle.tp_model.specs.Facts.{is_decided_as, is_settled_as, is_submission, same_outcome}
use Rattle.tp_model.specs.Queries.{servers_of}
use Rattle.tp_model.specs.SerialRun.{is_serial, keeps_serial, overlay, store_of}
use Rattle.tp_model.specs.TrustedHistory.{ended_as, has_ended, have_ended, is_settled_everywhere}
use Rattle.tp_model.specs.Words.outcome
use Rattle.tp_model.specs.Words.{Deed, Fact, Item, Outcome, Scenario, ServerId, Settled, Transaction, TxnId}
use Rattle.tp_runs.proofs.agreement.Logs.{outcome_settled, settled_outcome}
use Rattle.tp_runs.proofs.agreement.World.{Agrees}
use Rattle.tp_runs.proofs.basics.Facts.{all_from_each, any_settled}
use Rattle.tp_types.proofs.EachLemmas.{each_from_all}
use Rattle.tp_types.proofs.EachLemmas.{each_get, missing}
use Rattle.tp_runs.proofs.basics.Booted.{records_of_scenario}
use Rattle.tp_runs.proofs.basics.Logs.{listed}
use Rattle.tp_runs.proofs.basics.Servers.{among_servers}
use Rattle.tp_runs.proofs.ids.Valid.{IsValid, IsValidItem}
use Rattle.tp_runs.proofs.deeds.Lengths.{overlaid_length, store_length}
use Rattle.tp_runs.proofs.serial_data.Unsettled.{IsUnsettled}
use Rattle.tp_runs.proofs.serial_data.World.{Serial, up_on_log}
use Rattle.tp_machine.specs.Logs.{settled_at}
use Rattle.tp_machine.specs.Machine.{State, ending_of, item_value, item_values, value_up, values_by_log}
use Rattle.tp_machine.specs.Parts.{Part}
use Rattle.tp_recover.proofs.KeptLemmas.{kept_law}
use Rattle.tp_recover.specs.Log.{values_in}
use Rattle.tp_types.specs.Each.{Each}
use Rattle.tp_machine.specs.Named.{IsServer}
use Rattle.tp_coord.specs.Opened.{servers_at}
use Rattle.tp_server.specs.State.{Server}
use Rattle.tp_runs.specs.Sound.{IsSound}

-- ---- commits

-- every commit did what its transaction does by itself
pub serial_facts : (sc : Scenario) (w : State) → Serial sc w → is_serial sc w.facts ≡ true
serial_facts sc w h = all_from_each (λ (fact : Fact). keeps_serial sc w.facts fact ≡ true) (keeps_serial sc w.facts) (λ fact e. e) w.facts h.facts

-- ---- values

unwrapped : (found : Option ℤ) (default : ℤ) → (found ≡ None → ⊥) → found ≡ Some (unwrap_or found default)
unwrapped None default there = absurd (there refl)
unwrapped (Some value) default there = refl

-- values by their places are the list
values_from : (sc : Scenario) (servers : List (Part Server)) (first : ℕ) (items : List Item) (store : List ℤ) → length store ≡ length items
    → ((n : ℕ) (item : Item) → slice_get items n ≡ Some item → slice_get store n ≡ Some (item_value sc servers (first + n) item)) → item_values sc servers first items ≡ store
values_from sc servers first [] [] e h = refl
values_from sc servers first [] (value ∷ store) e h = absurd (omega (arith, e))
values_from sc servers first (item ∷ items) [] e h = absurd (omega (arith, e))
values_from sc servers first (item ∷ items) (value ∷ store) e h =
    let now : length store ≡ length items = omega (arith, e) in
    let first_is : first + 0 ≡ first = omega arith in
    let here : value ≡ item_value sc servers first item =
    same_Some value (item_value sc servers first item) (h 0 item refl ∙ ap (λ (n : ℕ). Some (item_value sc servers n item)) first_is) in
    let later : item_values sc servers (first + 1) items ≡ store =
    values_from sc servers (first + 1) items store now (λ n other found. h (suc n) other found ∙ ap (λ (m : ℕ). Some (item_value sc servers m other)) (next n)) in
    ap (λ (v : ℤ). v ∷ item_values sc servers (first + 1) items) (sym here) ∙ ap (λ (vs : List ℤ). value ∷ vs) later
  where
    next : (n : ℕ) → first + suc n ≡ (first + 1) + n
    next n = omega arith

-- the values at a server, up or down, are those of its log
pub values_on_log : (sc : Scenario) (w : State) (at : ServerId) (part : Part Server) (up : Option Server) → IsSound sc w → Serial sc w → slice_get w.actors.servers at.0 ≡ Some part → part.up ≡ up
    → values_by_log sc at part.log up ≡ values_in sc part.log
values_on_log sc w at part None sound h found e = (kept_law sc at part.log (records_of_scenario sc at part.log (sound.actors_are.servers at.0 part found).records)).values
values_on_log sc w at part (Some s) sound h found e = (up_on_log sc w at part s h found e).values

-- so the value of an item is the one that settled commits leave
value_here : (sc : Scenario) (w : State) (n : ℕ) (item : Item) (part : Part Server) → IsSound sc w → Serial sc w → slice_get sc.items n ≡ Some item → slice_get w.actors.servers item.server.0 ≡ Some part
    → slice_get (overlay sc w.facts) n ≡ Some (value_up sc item.server part n item.value)
value_here sc w n item part sound h found there =
    let same : slice_get (values_by_log sc item.server part.log part.up) n ≡ slice_get (overlay sc w.facts) n =
    ap (λ (values : List ℤ). slice_get values n) (values_on_log sc w item.server part part.up sound h there refl) ∙ (h.servers item.server.0 part there).kept n item found refl in
    let within : n < length (overlay sc w.facts) = omega (arith, slice_get_within sc.items n item found, overlaid_length sc w.facts) in
    unwrapped (slice_get (overlay sc w.facts) n) item.value (missing (overlay sc w.facts) n within)
    ∙ ap (λ (v : Option ℤ). Some (unwrap_or v item.value)) (sym same)

value_at : (sc : Scenario) (w : State) (n : ℕ) (item : Item) (part : Option (Part Server)) → IsValid sc → IsSound sc w → Agrees sc w → Serial sc w → slice_get sc.items n ≡ Some item → slice_get w.actors.servers item.server.0 ≡ part
    → slice_get (overlay sc w.facts) n ≡ Some (option_map_or (λ (p : Part Server). value_up sc item.server p n item.value) part item.value)
value_at sc w n item None valid sound agrees h found there =
    let exists : IsServer sc item.server = (each_get (IsValidItem sc) sc.items n item valid.items found).server in
    absurd (missing w.actors.servers item.server.0 (omega (arith, exists, agrees.server_count)) there)
value_at sc w n item (Some part) valid sound agrees h found there = value_here sc w n item part sound h found there

-- each item has the value that settled commits leave, whether its server is up or down
pub serial_values : (sc : Scenario) (w : State) → IsValid sc → IsSound sc w → Agrees sc w → Serial sc w → (ending_of sc w).values ≡ overlay sc w.facts
serial_values sc w valid sound agrees h =
    values_from sc w.actors.servers 0 sc.items (overlay sc w.facts) (overlaid_length sc w.facts)
    (λ n item found. value_at sc w n item (slice_get w.actors.servers item.server.0) valid sound agrees h found refl ∙ ap (λ (m : ℕ). Some (item_value sc w.actors.servers m item)) (none_before n))
  where
    none_before : (n : ℕ) → n ≡ 0 + n
    none_before n = omega arith

-- ---- all transactions have ended

ended_at : (sc : Scenario) (facts : List Fact) (first : ℕ) (txns : List Transaction) (n : ℕ) (declared : Transaction) → have_ended sc facts first txns ≡ true → slice_get txns n ≡ Some declared
    → has_ended sc facts (record { 0 = first + n }) declared ≡ true
ended_at sc facts first [] n declared h e = absurd (cc)
ended_at sc facts first (one ∷ txns) zero declared h e =
    let here : first ≡ first + 0 = omega arith in
    subst (λ (k : ℕ). has_ended sc facts (record { 0 = k }) declared ≡ true) here
    (subst (λ (d : Transaction). has_ended sc facts (record { 0 = first }) d ≡ true) (same_Some one declared e) (and_parts (has_ended sc facts (record { 0 = first }) one) (have_ended sc facts (first + 1) txns) h).0)
ended_at sc facts first (one ∷ txns) (suc n) declared h e =
    let later : (first + 1) + n ≡ first + suc n = omega arith in
    subst (λ (k : ℕ). has_ended sc facts (record { 0 = k }) declared ≡ true) later
    (ended_at sc facts (first + 1) txns n declared (and_parts (has_ended sc facts (record { 0 = first }) one) (have_ended sc facts (first + 1) txns) h).1 e)

listed_some : (found : Option Outcome) (ended : Outcome) → list_any (λ (o : Outcome). same_outcome o ended) (listed found) ≡ true → is_some found ≡ true
listed_some None ended e = absurd (cc)
listed_some (Some o) ended e = refl

mapped_some : (found : Option Settled) → is_some (option_map outcome_settled found) ≡ true → is_some found ≡ true
mapped_some None e = absurd (cc)
mapped_some (Some s) e = refl

settled_everywhere : (sc : Scenario) (w : State) (txn : TxnId) (declared : Transaction) (ended : Outcome) (at : ServerId) → Agrees sc w → slice_get sc.txns txn.0 ≡ Some declared
    → ended_as (servers_of sc declared) w.facts txn ended ≡ true → IsServer sc at → has_item_at sc at txn ≡ true → is_some (settled_at w.actors.servers at.0 txn) ≡ true
settled_everywhere sc w txn declared ended at agrees found e exists item =
    let P : ServerId → Type 0 = λ other. list_any (is_settled_as other txn ended) w.facts ≡ true in
    let everywhere : Each P (servers_of sc declared) =
    each_from_all (λ (other : ServerId). list_any (is_settled_as other txn ended) w.facts) (servers_of sc declared) (and_parts (list_any (is_decided_as txn ended) w.facts) (is_settled_everywhere (servers_of sc declared) w.facts txn ended) e).1 in
    let servers : Each P (servers_at sc txn) = subst (λ (d : Option Transaction). Each P (option_map_or (servers_of sc) d [])) (sym found) everywhere in
    let here : P at = among_servers P sc at txn exists item servers in
    mapped_some (settled_at w.actors.servers at.0 txn)
    (listed_some (settled_outcome w.actors.servers at txn) ended
    (sym (any_settled at txn ended w.facts ∙ ap (list_any (λ (o : Outcome). same_outcome o ended)) (agrees.settled at txn)) ∙ here))

-- no commit is unsettled
none_left_in_serial_data : (sc : Scenario) (w : State) (at : ℕ) (deeds : List Deed) → IsValid sc → Agrees sc w → have_ended sc w.facts 0 sc.txns ≡ true → IsUnsettled sc w.actors at deeds → ⊥
none_left_in_serial_data sc w at deeds valid agrees ended u = by_declared (slice_get sc.txns u.txn.0) refl
  where
    exists : IsServer sc (record { 0 = at })
    exists = server_there sc (record { 0 = at }) u.txn valid u.item

    settled : (outcome_is : Outcome) (declared : Transaction) → slice_get sc.txns u.txn.0 ≡ Some declared → ended_as (servers_of sc declared) w.facts u.txn outcome_is ≡ true → ⊥
    settled outcome_is declared found e =
        let there = settled_everywhere sc w u.txn declared outcome_is (record { 0 = at }) agrees found e exists u.item in
        let none = ap is_some u.unsettled in
        cc

    by_declared : (declared : Option Transaction) → slice_get sc.txns u.txn.0 ≡ declared → ⊥
    by_declared None e = let absent : has_item_at sc (record { 0 = at }) u.txn ≡ false = ap (λ (d : Option Transaction). option_map_or (has_item sc (record { 0 = at })) d false) e in let there = u.item in cc
    by_declared (Some declared) e =
        let here : has_ended sc w.facts (record { 0 = 0 + u.txn.0 }) declared ≡ true = ended_at sc w.facts 0 sc.txns u.txn.0 declared ended e in
        let same : 0 + u.txn.0 ≡ u.txn.0 = omega arith in
        let now : has_ended sc w.facts u.txn declared ≡ true = subst (λ (k : ℕ). has_ended sc w.facts (record { 0 = k }) declared ≡ true) same here in
        ⊎_elim (settled outcome.Commit declared e) (settled outcome.Abort declared e)
        (or_cases (ended_as (servers_of sc declared) w.facts u.txn outcome.Commit) (ended_as (servers_of sc declared) w.facts u.txn outcome.Abort)
        (and_parts (list_any (is_submission u.txn) w.facts) (ended_as (servers_of sc declared) w.facts u.txn outcome.Commit || ended_as (servers_of sc declared) w.facts u.txn outcome.Abort) now).1)

-- lists as long as one another with the same at each place
same_places : (xs ys : List ℤ) → length xs ≡ length ys → ((n : ℕ) → n < length xs → slice_get xs n ≡ slice_get ys n) → xs ≡ ys
same_places [] [] e h = refl
same_places [] (y ∷ ys) e h = absurd (omega (arith, e))
same_places (x ∷ xs) [] e h = absurd (omega (arith, e))
same_places (x ∷ xs) (y ∷ ys) e h =
    let first : x ≡ y = same_Some x y (h 0 (omega arith)) in
    ap (λ (z : ℤ). z ∷ xs) first ∙ ap (λ (zs : List ℤ). y ∷ zs) (same_places xs ys (omega (arith, e)) (λ n within. h (suc n) (omega (arith, within))))

-- once all transactions have ended at each of their servers, what is settled is what all commits leave
pub values_at_end : (sc : Scenario) (w : State) → IsValid sc → Agrees sc w → Serial sc w → have_ended sc w.facts 0 sc.txns ≡ true → overlay sc w.facts ≡ store_of sc w.facts
values_at_end sc w valid agrees h ended =
    let counts : length (overlay sc w.facts) ≡ length sc.items = overlaid_length sc w.facts in
    same_places (overlay sc w.facts) (store_of sc w.facts) (counts ∙ sym (store_length sc w.facts))
    (λ n within. by_item n (slice_get sc.items n) refl (omega (arith, within, counts)))
  where
    by_item : (n : ℕ) (item : Option Item) → slice_get sc.items n ≡ item → n < length sc.items → slice_get (overlay sc w.facts) n ≡ slice_get (store_of sc w.facts) n
    by_item n None e within = absurd (missing sc.items n within e)
    by_item n (Some item) e within =
        sym ((h.store item.server.0).bare n (record { declared = item; declared_is = e; at_is = refl }) (λ deeds u. absurd (none_left_in_serial_data sc w item.server.0 deeds valid agrees ended u)))
