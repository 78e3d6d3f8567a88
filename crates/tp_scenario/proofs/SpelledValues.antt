-- The walk gives a query or a step of a JSON value exactly where the value is a text that says it.
use Rattle.std.proofs.Common.{◌≡◌, ◌↔◌, ℕ, Bool, true, false, List, Option, Some, None, Result, Ok, Err, refl, ap, subst, ◌∙◌, if◌then◌else◌}
use Rattle.std.specs.Prelude.{ok_or}
use Rattle.serde_json.specs.Data.{Data}
use Rattle.serde_json.specs.Find.{as_str}
use Rattle.tp_model.specs.Words.{Actor, Query, Step, Term}
use Rattle.tp_model.specs.Words.actor
use Rattle.tp_model.specs.Words.step
use Rattle.tp_types.specs.declared.scenario.Query.TheVariants.{Read, Write}
use Rattle.tp_model.specs.Limits.{is_from_to, tick_limit}
use Rattle.tp_scenario.specs.declared.command.CountVerb.TheVariants as counting
use Rattle.tp_scenario.specs.declared.command.NameVerb.{NameVerb}
use Rattle.tp_scenario.specs.declared.command.NameVerb.TheVariants as verb
use Rattle.tp_scenario.specs.declared.fault.Fault.{Fault}
use Rattle.tp_scenario.specs.declared.names.Declared.{Declared}
use Rattle.tp_scenario.specs.declared.path.Path.{Path}
use Rattle.tp_scenario.specs.Chain.{◌>>=◌}
use Rattle.tp_scenario.specs.Faults.{range, shape, unknown}
use Rattle.tp_scenario.specs.Names.{Names, place_of}
use Rattle.tp_scenario.specs.Queries.{Asked, reads, writes, asked_of, is_short, query_at, query_for, read_from, write_to}
use Rattle.tp_scenario.specs.Spelled.{IsActor, IsQuery, IsStep, IsTextWith, SaysQuery, SaysStep}
use Rattle.tp_scenario.specs.Steps.{Command, of_name, by_number, push, cut, actor_at, actor_or, command_at, command_of, coordinator_at, counted_step, cut_step, is_cut, named_step, push_step, step_at, step_for}
use Rattle.tp_scenario.specs.Values.{place_or_unknown, text_at}
use Rattle.tp_scenario.proofs.Inverses.{ok_or_ok, ok_same, test_ok, then_ok}
use Rattle.tp_scenario.proofs.SpelledQueries.{query_so, so_query}
use Rattle.tp_scenario.proofs.SpelledSteps.{so_step, step_so}

-- ---- texts and places

text_so : (path : Path) (d : Data) (text : List ℕ) → text_at path (Some d) ≡ Ok text → as_str d ≡ Some text
unfolding text_at
text_so path d text e = ok_or_ok (as_str d) text (shape path) e

so_text : (path : Path) (d : Data) (text : List ℕ) → as_str d ≡ Some text → text_at path (Some d) ≡ Ok text
unfolding text_at
so_text path d text e = ap (λ (found : Option (List ℕ)). ok_or found (shape path)) e

place_so : (path : Path) (names : Names) (name : List ℕ) (place : ℕ) → place_or_unknown path names name ≡ Ok place → place_of name names ≡ Some place
unfolding place_or_unknown
place_so path names name place e = ok_or_ok (place_of name names) place (unknown path) e

so_place : (path : Path) (names : Names) (name : List ℕ) (place : ℕ) → place_of name names ≡ Some place → place_or_unknown path names name ≡ Ok place
unfolding place_or_unknown
so_place path names name place e = ap (λ (found : Option ℕ). ok_or found (unknown path)) e

passes : {A : Type 0} (test : Bool) (given : Result A Fault) (fault : Fault) → test ≡ true → (if test then given else Err fault) ≡ given
passes true given fault e = refl
passes false given fault e = absurd (cc)

test_then : {A : Type 0} (test : Bool) (given : Result A Fault) (a : A) (fault : Fault) → (if test then given else Err fault) ≡ Ok a → (test ≡ true) × (given ≡ Ok a)
test_then true given a fault e = (refl, e)
test_then false given a fault e = absurd (cc)

-- ---- queries

asked_so : (path : Path) (items : Names) (asked : Asked) (query : Query) (text : List ℕ) → SaysQuery asked text → query_for path items asked ≡ Ok query → IsQuery items query text
unfolding read_from write_to
asked_so path items (reads name register) query text says e =
    let place = then_ok (place_or_unknown path items name) _ _ e in
    subst (λ (q : Query). IsQuery items q text) (ok_same (Read (record { 0 = place.0 }) register) query place.2) (name, place_so path items name place.0 place.1, says)
asked_so path items (writes name expr) query text says e =
    let got = test_then (is_short expr) (write_to path items name expr) query (range path) e in
    let place = then_ok (place_or_unknown path items name) _ _ got.1 in
    subst (λ (q : Query). IsQuery items q text) (ok_same (Write (record { 0 = place.0 }) expr) query place.2) (name, place_so path items name place.0 place.1, got.0, says)

query_value_so : (path : Path) (items : Names) (d : Data) (query : Query) → query_at path items d ≡ Ok query → IsTextWith (IsQuery items query) d
unfolding query_at
query_value_so path items d query e =
    let text = then_ok (text_at path (Some d)) _ _ e in
    let asked = then_ok (ok_or (asked_of text.0) (shape path)) _ _ text.2 in
    (text.0, text_so path d text.0 text.1, asked_so path items asked.0 query text.0 (query_so text.0 asked.0 (ok_or_ok (asked_of text.0) asked.0 (shape path) asked.1)) asked.2)

so_read : (path : Path) (items : Names) (name : List ℕ) (place register : ℕ) → place_of name items ≡ Some place → read_from path items name register ≡ Ok (Read (record { 0 = place }) register)
unfolding read_from
so_read path items name place register e = ap (λ (r : Result ℕ Fault). r >>= λ p. Ok (Read (record { 0 = p }) register)) (so_place path items name place e)

so_write : (path : Path) (items : Names) (name : List ℕ) (place : ℕ) (expr : List Term) → place_of name items ≡ Some place → write_to path items name expr ≡ Ok (Write (record { 0 = place }) expr)
unfolding write_to
so_write path items name place expr e = ap (λ (r : Result ℕ Fault). r >>= λ p. Ok (Write (record { 0 = p }) expr)) (so_place path items name place e)

so_asked : (path : Path) (items : Names) (query : Query) (text : List ℕ) → IsQuery items query text → (asked : Asked) × SaysQuery asked text × (query_for path items asked ≡ Ok query)
so_asked path items (Read item register) text (name, place, says) = (reads name register, says, so_read path items name item.0 register place)
so_asked path items (Write item expr) text (name, place, short, says) =
    (writes name expr, says, passes (is_short expr) (write_to path items name expr) (range path) short ∙ so_write path items name item.0 expr place)

so_query_value : (path : Path) (items : Names) (d : Data) (query : Query) → IsTextWith (IsQuery items query) d → query_at path items d ≡ Ok query
unfolding query_at
so_query_value path items d query (text, is_text, h) =
    let asked = so_asked path items query text h in
    ap (λ (r : Result (List ℕ) Fault). r >>= λ t. ok_or (asked_of t) (shape path) >>= query_for path items) (so_text path d text is_text)
    ∙ (ap (λ (found : Option Asked). ok_or found (shape path) >>= query_for path items) (so_query text asked.0 asked.1) ∙ asked.2)

pub query_value : (path : Path) (items : Names) (d : Data) (query : Query) → (query_at path items d ≡ Ok query) ↔ IsTextWith (IsQuery items query) d
query_value path items d query = (query_value_so path items d query, so_query_value path items d query)

-- ---- actors

actor_so : (path : Path) (names : Declared) (name : List ℕ) (who : Actor) → actor_at path names name ≡ Ok who → IsActor names who name
unfolding actor_at coordinator_at
actor_so path names name who e = by_place (place_of name names.servers) refl e
  where
    by_place : (place : Option ℕ) → place_of name names.servers ≡ place → actor_or path names name place ≡ Ok who → IsActor names who name
    by_place (Some place) p h = subst (λ (a : Actor). IsActor names a name) (ok_same (actor.Server (record { 0 = place })) who h) p
    by_place None p h =
        let place = then_ok (place_or_unknown path names.txns name) _ _ h in
        subst (λ (a : Actor). IsActor names a name) (ok_same (actor.Coordinator (record { 0 = place.0 })) who place.2) (p, place_so path names.txns name place.0 place.1)

so_actor : (path : Path) (names : Declared) (name : List ℕ) (who : Actor) → IsActor names who name → actor_at path names name ≡ Ok who
unfolding actor_at coordinator_at
so_actor path names name (actor.Server server) h = ap (actor_or path names name) h
so_actor path names name (actor.Coordinator txn) h =
    ap (actor_or path names name) h.0 ∙ ap (λ (r : Result ℕ Fault). r >>= λ p. Ok (actor.Coordinator (record { 0 = p }))) (so_place path names.txns name txn.0 h.1)
so_actor path names name actor.Authority h = absurd h
so_actor path names name actor.Master h = absurd h

-- ---- steps

named_step_so : (path : Path) (names : Declared) (kind : NameVerb) (name : List ℕ) (made : Step) (text : List ℕ) → SaysStep (of_name kind name) text → named_step path names kind name ≡ Ok made → IsStep names made text
unfolding named_step
named_step_so path names verb.Submit name made text says e =
    let place = then_ok (place_or_unknown path names.txns name) _ _ e in
    subst (λ (s : Step). IsStep names s text) (ok_same (step.Submit (record { 0 = place.0 })) made place.2) (name, place_so path names.txns name place.0 place.1, says)
named_step_so path names verb.Publish name made text says e =
    let place = then_ok (place_or_unknown path names.admins name) _ _ e in
    subst (λ (s : Step). IsStep names s text) (ok_same (step.Publish (record { 0 = place.0 })) made place.2) (name, place_so path names.admins name place.0 place.1, says)
named_step_so path names verb.Revoke name made text says e =
    let place = then_ok (place_or_unknown path names.creds name) _ _ e in
    subst (λ (s : Step). IsStep names s text) (ok_same (step.Revoke (record { 0 = place.0 })) made place.2) (name, place_so path names.creds name place.0 place.1, says)
named_step_so path names verb.Crash name made text says e =
    let who = then_ok (actor_at path names name) _ _ e in
    subst (λ (s : Step). IsStep names s text) (ok_same (step.Crash who.0 None) made who.2) (name, actor_so path names name who.0 who.1, says)
named_step_so path names verb.Boot name made text says e =
    let who = then_ok (actor_at path names name) _ _ e in
    subst (λ (s : Step). IsStep names s text) (ok_same (step.Boot who.0) made who.2) (name, actor_so path names name who.0 who.1, says)
named_step_so path names verb.Timer name made text says e =
    let place = then_ok (place_or_unknown path names.txns name) _ _ e in
    subst (λ (s : Step). IsStep names s text) (ok_same (step.Timer (record { 0 = place.0 })) made place.2) (name, place_so path names.txns name place.0 place.1, says)

command_so : (path : Path) (names : Declared) (command : Command) (made : Step) (text : List ℕ) → SaysStep command text → step_for path names command ≡ Ok made → IsStep names made text
unfolding counted_step push_step cut_step
command_so path names (of_name kind name) made text says e = named_step_so path names kind name made text says e
command_so path names (by_number counting.Tick number) made text says e =
    let got = test_ok (is_from_to 1 tick_limit number) (step.Tick number) made (range path) e in
    subst (λ (s : Step). IsStep names s text) got.1 (got.0, says)
command_so path names (by_number counting.Deliver number) made text says e = subst (λ (s : Step). IsStep names s text) (ok_same (step.Deliver number) made e) says
command_so path names (by_number counting.Lose number) made text says e = subst (λ (s : Step). IsStep names s text) (ok_same (step.Lose number) made e) says
command_so path names (push admin server) made text says e =
    let from = then_ok (place_or_unknown path names.admins admin) _ _ e in
    let to = then_ok (place_or_unknown path names.servers server) _ _ from.2 in
    subst (λ (s : Step). IsStep names s text) (ok_same (step.Push (record { 0 = from.0 }) (record { 0 = to.0 })) made to.2)
    (admin, server, place_so path names.admins admin from.0 from.1, place_so path names.servers server to.0 to.1, says)
command_so path names (cut name mail calls fill) made text says e =
    let got = test_then (is_cut calls fill) (cut_step path names name mail calls fill) made (range path) e in
    let who = then_ok (actor_at path names name) _ _ got.1 in
    subst (λ (s : Step). IsStep names s text) (ok_same (step.Crash who.0 (Some (record { mail = mail; calls = calls; fill = fill }))) made who.2)
    (name, actor_so path names name who.0 who.1, got.0, says)

step_value_so : (path : Path) (names : Declared) (d : Data) (made : Step) → step_at names path d ≡ Ok made → IsTextWith (IsStep names made) d
unfolding step_at command_at
step_value_so path names d made e =
    let command = then_ok (command_at path d) _ _ e in
    let text = then_ok (text_at path (Some d)) _ _ command.1 in
    (text.0, text_so path d text.0 text.1, command_so path names command.0 made text.0 (step_so text.0 command.0 (ok_or_ok (command_of text.0) command.0 (shape path) text.2)) command.2)

-- a command of the text that gives the step
record IsMade (path : Path) (names : Declared) (made : Step) (text : List ℕ) : Type 0 where
  command : Command
  says : SaysStep command text
  gives : step_for path names command ≡ Ok made

so_command : (path : Path) (names : Declared) (made : Step) (text : List ℕ) → IsStep names made text → IsMade path names made text
unfolding named_step counted_step push_step cut_step
so_command path names (step.Submit txn) text (name, place, says) = record {
  command = of_name verb.Submit name;
  says = says;
  gives = ap (λ (r : Result ℕ Fault). r >>= λ p. Ok (step.Submit (record { 0 = p }))) (so_place path names.txns name txn.0 place);
}
so_command path names (step.Publish admin) text (name, place, says) = record {
  command = of_name verb.Publish name;
  says = says;
  gives = ap (λ (r : Result ℕ Fault). r >>= λ p. Ok (step.Publish (record { 0 = p }))) (so_place path names.admins name admin.0 place);
}
so_command path names (step.Push admin server) text (from, to, place, other, says) = record {
  command = push from to;
  says = says;
  gives = ap (λ (r : Result ℕ Fault). r >>= λ p. place_or_unknown path names.servers to >>= λ q. Ok (step.Push (record { 0 = p }) (record { 0 = q }))) (so_place path names.admins from admin.0 place)
      ∙ ap (λ (r : Result ℕ Fault). r >>= λ q. Ok (step.Push admin (record { 0 = q }))) (so_place path names.servers to server.0 other);
}
so_command path names (step.Revoke cred) text (name, place, says) = record {
  command = of_name verb.Revoke name;
  says = says;
  gives = ap (λ (r : Result ℕ Fault). r >>= λ p. Ok (step.Revoke (record { 0 = p }))) (so_place path names.creds name cred.0 place);
}
so_command path names (step.Tick by) text (within, says) = record { command = by_number counting.Tick by; says = says; gives = passes (is_from_to 1 tick_limit by) (Ok (step.Tick by)) (range path) within }
so_command path names (step.Deliver mail) text says = record { command = by_number counting.Deliver mail; says = says; gives = refl }
so_command path names (step.Lose mail) text says = record { command = by_number counting.Lose mail; says = says; gives = refl }
so_command path names (step.Crash who None) text (name, is_actor, says) = record {
  command = of_name verb.Crash name;
  says = says;
  gives = ap (λ (r : Result Actor Fault). r >>= λ a. Ok (step.Crash a None)) (so_actor path names name who is_actor);
}
so_command path names (step.Crash who (Some how)) text (name, is_actor, within, says) = record {
  command = cut name how.mail how.calls how.fill;
  says = says;
  gives = passes (is_cut how.calls how.fill) (cut_step path names name how.mail how.calls how.fill) (range path) within
      ∙ ap (λ (r : Result Actor Fault). r >>= λ a. Ok (step.Crash a (Some how))) (so_actor path names name who is_actor);
}
so_command path names (step.Boot who) text (name, is_actor, says) = record {
  command = of_name verb.Boot name;
  says = says;
  gives = ap (λ (r : Result Actor Fault). r >>= λ a. Ok (step.Boot a)) (so_actor path names name who is_actor);
}
so_command path names (step.Timer txn) text (name, place, says) = record {
  command = of_name verb.Timer name;
  says = says;
  gives = ap (λ (r : Result ℕ Fault). r >>= λ p. Ok (step.Timer (record { 0 = p }))) (so_place path names.txns name txn.0 place);
}

so_step_value : (path : Path) (names : Declared) (d : Data) (made : Step) → IsTextWith (IsStep names made) d → step_at names path d ≡ Ok made
unfolding step_at command_at
so_step_value path names d made (text, is_text, h) =
    let found = so_command path names made text h in
    ap (λ (r : Result (List ℕ) Fault). (r >>= λ t. ok_or (command_of t) (shape path)) >>= step_for path names) (so_text path d text is_text)
    ∙ (ap (λ (found : Option Command). ok_or found (shape path) >>= step_for path names) (so_step text found.command found.says) ∙ found.gives)

pub step_value : (path : Path) (names : Declared) (d : Data) (made : Step) → (step_at names path d ≡ Ok made) ↔ IsTextWith (IsStep names made) d
step_value path names d made = (step_value_so path names d made, so_step_value path names d made)
