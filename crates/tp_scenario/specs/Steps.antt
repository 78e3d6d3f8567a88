-- What a step's text says.
use Rattle.std.specs.Prelude.{ℕ, ◌&&◌, nat_le, List, [], ◌∷◌, length, Bool, if◌then◌else◌, Option, Some, None, option_map, option_and_then, Result, Ok, Err, ok_or, codes}
use Rattle.serde_json.specs.Data.{Data}
use Rattle.tp_types.specs.Spelling.{is_name, number_of}
use Rattle.tp_model.specs.Words.{Actor, Step}
use Rattle.tp_model.specs.Words.actor
use Rattle.tp_model.specs.Words.step
use Rattle.tp_model.specs.Limits.{calls_limit, is_empty, is_from_to, steps_limit, tick_limit}
use Rattle.tp_scenario.specs.declared.fault.Fault.{Fault}
use Rattle.tp_scenario.specs.declared.names.Declared.{Declared}
use Rattle.tp_scenario.specs.declared.path.Key.TheVariants.{Steps}
use Rattle.tp_scenario.specs.declared.path.Path.{Path}
use Rattle.tp_scenario.specs.declared.path.Path.TheVariants.{Top, Member}
use Rattle.tp_scenario.specs.declared.command.CountVerb.{CountVerb}
use Rattle.tp_scenario.specs.declared.command.CountVerb.TheVariants as counting
use Rattle.tp_scenario.specs.declared.command.NameVerb.{NameVerb}
use Rattle.tp_scenario.specs.declared.command.NameVerb.TheVariants as verb
use Rattle.tp_scenario.specs.Chain.{◌>>=◌}
use Rattle.tp_scenario.specs.Faults.{range, shape}
use Rattle.tp_model.specs.Ids.{same_name}
use Rattle.tp_scenario.specs.Names.{place_of}
use Rattle.tp_scenario.specs.Values.{each, items_or, place_or_unknown, text_at}
use Rattle.tp_model.specs.Queries.{only}
use Rattle.tp_scenario.specs.Words.{as_name, words_of}

-- ---- steps as they are spelled

pub data Command : Type 0 where
  of_name : NameVerb → List ℕ → Command
  by_number : CountVerb → ℕ → Command
  push : List ℕ → List ℕ → Command
  cut : List ℕ → ℕ → ℕ → ℕ → Command

-- the verbs that a name follows
unfoldable pub name_verb : List ℕ → Option NameVerb
name_verb word =
    if same_name word (codes "submit") then Some verb.Submit
    else (if same_name word (codes "publish") then Some verb.Publish
    else (if same_name word (codes "revoke") then Some verb.Revoke
    else (if same_name word (codes "crash") then Some verb.Crash
    else (if same_name word (codes "boot") then Some verb.Boot
    else (if same_name word (codes "timer") then Some verb.Timer else None)))))

-- the verbs that a number follows
unfoldable pub count_verb : List ℕ → Option CountVerb
count_verb word =
    if same_name word (codes "tick") then Some counting.Tick
    else (if same_name word (codes "deliver") then Some counting.Deliver
    else (if same_name word (codes "lose") then Some counting.Lose else None))

-- exactly one word, which is spelled as a name
abbrev pub one_name : List (List ℕ) → Option (List ℕ)
one_name words = option_and_then as_name (only words)

-- exactly one word, which is a number
abbrev pub one_number : List (List ℕ) → Option ℕ
one_number words = option_and_then number_of (only words)

-- two names
abbrev pub push_to : List ℕ → Option (List ℕ) → Option Command
push_to admin None = None
push_to admin (Some server) = if is_name admin then Some (push admin server) else None

unfoldable pub push_of : List (List ℕ) → Option Command
push_of [] = None
push_of (admin ∷ words) = push_to admin (one_name words)

-- `fill F`
unfoldable pub fill_of : List (List ℕ) → Option ℕ
fill_of [] = None
fill_of (key ∷ words) = if same_name key (codes "fill") then one_number words else None

-- `at C fill F`
abbrev pub cut_with_fill : List ℕ → ℕ → List ℕ → Option ℕ → Option Command
cut_with_fill name mail calls None = None
cut_with_fill name mail calls (Some fill) = option_map (λ c. cut name mail c fill) (number_of calls)

unfoldable pub calls_of : List ℕ → ℕ → List (List ℕ) → Option Command
calls_of name mail [] = None
calls_of name mail (key ∷ []) = None
calls_of name mail (key ∷ calls ∷ words) =
    if same_name key (codes "at") then cut_with_fill name mail calls (fill_of words) else None

-- `in K at C fill F`
abbrev pub cut_in_mail : List ℕ → Option ℕ → List (List ℕ) → Option Command
cut_in_mail name None words = None
cut_in_mail name (Some mail) words = calls_of name mail words

unfoldable pub mail_of : List ℕ → List (List ℕ) → Option Command
mail_of name [] = None
mail_of name (key ∷ []) = None
mail_of name (key ∷ mail ∷ words) =
    if same_name key (codes "in") then cut_in_mail name (number_of mail) words else None

-- `ACTOR`, or `ACTOR in K at C fill F`
abbrev pub crash_by_name : List ℕ → List (List ℕ) → Option Command
crash_by_name name words =
    if is_empty words then Some (of_name verb.Crash name) else mail_of name words

unfoldable pub crash_of : List (List ℕ) → Option Command
crash_of [] = None
crash_of (name ∷ words) = if is_name name then crash_by_name name words else None

-- a crash may be cut; no other verb has more words than a name
abbrev pub by_verb : NameVerb → List (List ℕ) → Option Command
by_verb verb.Crash words = crash_of words
by_verb verb words = option_map (of_name verb) (one_name words)

abbrev pub command_by_name : Option NameVerb → List (List ℕ) → Option Command
command_by_name None words = None
command_by_name (Some verb) words = by_verb verb words

abbrev pub command_by_count_or : Option CountVerb → Option NameVerb → List (List ℕ) → Option Command
command_by_count_or (Some verb) other words = option_map (by_number verb) (one_number words)
command_by_count_or None other words = command_by_name other words

unfoldable pub command_by : List ℕ → List (List ℕ) → Option Command
command_by word words =
    if same_name word (codes "push") then push_of words
    else command_by_count_or (count_verb word) (name_verb word) words

abbrev pub command_in : List (List ℕ) → Option Command
command_in [] = None
command_in (word ∷ words) = command_by word words

-- the step that a text spells
unfoldable pub command_of : List ℕ → Option Command
command_of text = command_in (words_of text)

unfoldable pub command_at : Path → Data → Result Command Fault
command_at path d = do
  text ← text_at path (Some d)
  ok_or (command_of text) (shape path)

-- ---- steps

unfoldable pub coordinator_at : Path → Declared → List ℕ → Result Actor Fault
coordinator_at path names name = do
  place ← place_or_unknown path names.txns name
  Ok (actor.Coordinator (record { 0 = place }))

abbrev pub actor_or : Path → Declared → List ℕ → Option ℕ → Result Actor Fault
actor_or path names name (Some place) = Ok (actor.Server (record { 0 = place }))
actor_or path names name None = coordinator_at path names name

-- a server, or the coordinator of a transaction
unfoldable pub actor_at : Path → Declared → List ℕ → Result Actor Fault
actor_at path names name = actor_or path names name (place_of name names.servers)

-- the step of a verb and a name
unfoldable pub named_step : Path → Declared → NameVerb → List ℕ → Result Step Fault
named_step path names verb.Submit name = do
  place ← place_or_unknown path names.txns name
  Ok (step.Submit (record { 0 = place }))
named_step path names verb.Publish name = do
  place ← place_or_unknown path names.admins name
  Ok (step.Publish (record { 0 = place }))
named_step path names verb.Revoke name = do
  place ← place_or_unknown path names.creds name
  Ok (step.Revoke (record { 0 = place }))
named_step path names verb.Crash name = do
  who ← actor_at path names name
  Ok (step.Crash who None)
named_step path names verb.Boot name = do
  who ← actor_at path names name
  Ok (step.Boot who)
named_step path names verb.Timer name = do
  place ← place_or_unknown path names.txns name
  Ok (step.Timer (record { 0 = place }))

-- the step of a verb and a number: the clock moves by 1 to 1,000,000
unfoldable pub counted_step : Path → CountVerb → ℕ → Result Step Fault
counted_step path counting.Tick number =
    if is_from_to 1 tick_limit number then Ok (step.Tick number) else Err (range path)
counted_step path counting.Deliver number = Ok (step.Deliver number)
counted_step path counting.Lose number = Ok (step.Lose number)

unfoldable pub push_step : Path → Declared → List ℕ → List ℕ → Result Step Fault
push_step path names admin server = do
  from ← place_or_unknown path names.admins admin
  to ← place_or_unknown path names.servers server
  Ok (step.Push (record { 0 = from }) (record { 0 = to }))

-- an append has four device calls, and a fill is a byte
abbrev pub is_cut : ℕ → ℕ → Bool
is_cut calls fill = nat_le calls calls_limit && nat_le fill 255

unfoldable pub cut_step : Path → Declared → List ℕ → ℕ → ℕ → ℕ → Result Step Fault
cut_step path names name mail calls fill = do
  who ← actor_at path names name
  Ok (step.Crash who (Some (record { mail = mail; calls = calls; fill = fill })))

abbrev pub cut_or_range : Path → Declared → List ℕ → ℕ → ℕ → ℕ → Result Step Fault
cut_or_range path names name mail calls fill =
    if is_cut calls fill then cut_step path names name mail calls fill else Err (range path)

-- the step that was spelled: its numbers, and then the names that it uses
abbrev pub step_for : Path → Declared → Command → Result Step Fault
step_for path names (of_name verb name) = named_step path names verb name
step_for path names (by_number verb number) = counted_step path verb number
step_for path names (push admin server) = push_step path names admin server
step_for path names (cut name mail calls fill) = cut_or_range path names name mail calls fill

unfoldable pub step_at : Declared → Path → Data → Result Step Fault
step_at names path d = do
  command ← command_at path d
  step_for path names command

abbrev pub step_in : Declared → List Step → Data → Result Step Fault
step_in names made d = step_at names (Member Steps (length made)) d

-- at most 100,000 steps are listed
unfoldable pub steps_at : Declared → Option Data → Result (List Step) Fault
steps_at names value = do
  steps ← items_or (Top Steps) steps_limit value
  each (step_in names) [] steps
