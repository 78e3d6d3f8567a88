-- What the text of a query and of a step says: relations between its bytes and what it says. They tell how a text is spelled, and
-- nothing of how it is read.
use Rattle.std.specs.Prelude.{◌≡◌, ◌⊎◌, ◌↔◌, ℕ, ◌+◌, ◌≤◌, List, [], ◌∷◌, ◌++◌, length, replicate, Bool, true, false, Some, None, Ok, pos, codes}
use Rattle.std.specs.List.{list_all}
use Rattle.serde_json.specs.Data.{Data}
use Rattle.serde_json.specs.Find.{as_str}
use Rattle.tp_types.specs.Spelling.{IsName, is_number, spelled_from}
use Rattle.tp_model.specs.Words.{Actor, Operand, Query, Step, Term}
use Rattle.tp_model.specs.Words.actor
use Rattle.tp_model.specs.Words.step
use Rattle.tp_types.specs.declared.scenario.Operand.TheVariants.{Constant, Register}
use Rattle.tp_types.specs.declared.scenario.Query.TheVariants.{Read, Write}
use Rattle.tp_model.specs.Limits.{is_from_to, registers_limit, tick_limit}
use Rattle.tp_scenario.specs.declared.command.CountVerb.{CountVerb}
use Rattle.tp_scenario.specs.declared.command.CountVerb.TheVariants as counting
use Rattle.tp_scenario.specs.declared.command.NameVerb.{NameVerb}
use Rattle.tp_scenario.specs.declared.command.NameVerb.TheVariants as verb
use Rattle.tp_scenario.specs.declared.names.Declared.{Declared}
use Rattle.tp_scenario.specs.declared.path.Path.{Path}
use Rattle.tp_scenario.specs.Names.{Names, place_of}
use Rattle.tp_scenario.specs.Queries.{Asked, reads, writes, asked_of, is_short, query_at}
use Rattle.tp_scenario.specs.Steps.{Command, of_name, by_number, push, cut, command_of, is_cut, step_at}
use Rattle.tp_scenario.specs.Words.{is_no_space}

-- ---- words

-- a word has at least one byte, and none of its bytes is a space
pub record IsWord (word : List ℕ) : Type 0 where
  pub some : 1 ≤ length word
  pub solid : list_all is_no_space word ≡ true

-- the text is the word, one or more spaces, and more, of which R holds
pub record GoesOn (R : List ℕ → Type 0) (word text : List ℕ) : Type 0 where
  pub spaces : ℕ
  pub more : List ℕ
  pub some : 1 ≤ spaces
  pub text_is : text ≡ word ++ (replicate spaces 32 ++ more)
  pub rest : R more

-- the text is these words, with one or more spaces between two of them, and none at its ends
abbrev pub AreWords : List (List ℕ) → List ℕ → Type 0
AreWords [] text = ⊥
AreWords (word ∷ words) text =
    IsWord word × (((words ≡ []) × (text ≡ word)) ⊎ GoesOn (AreWords words) word text)

-- ---- numbers and registers

-- the word spells the number
pub record SpellsNumber (number : ℕ) (word : List ℕ) : Type 0 where
  pub digits : is_number word ≡ true
  pub number_is : number ≡ spelled_from 0 word

-- the word is `r` and a digit from 1 to 9
pub record SpellsRegister (register : ℕ) (word : List ℕ) : Type 0 where
  pub least : 1 ≤ register
  pub most : register ≤ registers_limit
  pub word_is : word ≡ codes "r" ++ (48 + register) ∷ []

-- ---- sums

-- a constant is a number
abbrev pub SpellsOperand : Operand → List ℕ → Type 0
SpellsOperand (Constant z) word = (n : ℕ) × (z ≡ pos n) × SpellsNumber n word
SpellsOperand (Register register) word = SpellsRegister register word

-- a number with `-` directly before it
pub record SpellsNegative (operand : Operand) (word : List ℕ) : Type 0 where
  pub number : ℕ
  pub digits : List ℕ
  pub constant : operand ≡ Constant (pos number)
  pub spelled : SpellsNumber number digits
  pub word_is : word ≡ codes "-" ++ digits

-- a first term has no sign, or is a number with its `-`
abbrev pub SpellsFirst : Term → List ℕ → Type 0
SpellsFirst term word =
    ((term.minus ≡ false) × SpellsOperand term.operand word)
    ⊎ ((term.minus ≡ true) × SpellsNegative term.operand word)

-- the word of a sign
abbrev pub sign : Bool → List ℕ
sign false = codes "+"
sign true = codes "-"

-- these terms, each behind its sign
abbrev pub SpellTerms : List Term → List (List ℕ) → Type 0
SpellTerms [] words = words ≡ []
SpellTerms (term ∷ terms) words =
    (word : List ℕ) × (others : List (List ℕ)) × (words ≡ sign term.minus ∷ word ∷ others)
    × SpellsOperand term.operand word × SpellTerms terms others

-- a sum is a first term and others
abbrev pub SpellsSum : List Term → List (List ℕ) → Type 0
SpellsSum [] words = ⊥
SpellsSum (term ∷ terms) words =
    (word : List ℕ) × (others : List (List ℕ)) × (words ≡ word ∷ others) × SpellsFirst term word
    × SpellTerms terms others

-- ---- queries

-- `read ITEM into rK`, or `write ITEM := SUM`
abbrev pub SaysQuery : Asked → List ℕ → Type 0
SaysQuery (reads item register) text =
    IsName item
    × ((word : List ℕ) × SpellsRegister register word
    × AreWords (codes "read" ∷ item ∷ codes "into" ∷ word ∷ []) text)
SaysQuery (writes item expr) text =
    IsName item
    × ((words : List (List ℕ)) × SpellsSum expr words
    × AreWords (codes "write" ∷ item ∷ codes ":=" ∷ words) text)

-- ---- steps

-- the word of a verb
abbrev pub naming_word : NameVerb → List ℕ
naming_word verb.Submit = codes "submit"
naming_word verb.Publish = codes "publish"
naming_word verb.Revoke = codes "revoke"
naming_word verb.Crash = codes "crash"
naming_word verb.Boot = codes "boot"
naming_word verb.Timer = codes "timer"

abbrev pub counting_word : CountVerb → List ℕ
counting_word counting.Tick = codes "tick"
counting_word counting.Deliver = codes "deliver"
counting_word counting.Lose = codes "lose"

-- the numbers of a crash within an append
pub record SpellCut (mail calls fill : ℕ) (name text : List ℕ) : Type 0 where
  pub mail_word : List ℕ
  pub calls_word : List ℕ
  pub fill_word : List ℕ
  pub mail_is : SpellsNumber mail mail_word
  pub calls_is : SpellsNumber calls calls_word
  pub fill_is : SpellsNumber fill fill_word
  pub words : AreWords
      (codes "crash" ∷ name ∷ codes "in" ∷ mail_word ∷ codes "at" ∷ calls_word ∷ codes "fill"
      ∷ fill_word ∷ [])
      text

-- `VERB NAME`, `VERB NUMBER`, `push ADMIN SERVER`, or `crash ACTOR in K at C fill F`
abbrev pub SaysStep : Command → List ℕ → Type 0
SaysStep (of_name verb name) text = IsName name × AreWords (naming_word verb ∷ name ∷ []) text
SaysStep (by_number verb number) text =
    (word : List ℕ) × SpellsNumber number word × AreWords (counting_word verb ∷ word ∷ []) text
SaysStep (push admin server) text =
    IsName admin × IsName server × AreWords (codes "push" ∷ admin ∷ server ∷ []) text
SaysStep (cut name mail calls fill) text = IsName name × SpellCut mail calls fill name text

-- ---- the values that are read, where these names are declared

-- the item is the one of the name, and the counts are kept
abbrev pub IsQuery : Names → Query → List ℕ → Type 0
IsQuery items (Read item register) text =
    (name : List ℕ) × (place_of name items ≡ Some item.0) × SaysQuery (reads name register) text
IsQuery items (Write item expr) text =
    (name : List ℕ) × (place_of name items ≡ Some item.0) × (is_short expr ≡ true)
    × SaysQuery (writes name expr) text

-- an actor is the server of the name, or, where there is none, the coordinator of the transaction
abbrev pub IsActor : Declared → Actor → List ℕ → Type 0
IsActor names (actor.Server server) name = place_of name names.servers ≡ Some server.0
IsActor names (actor.Coordinator txn) name =
    (place_of name names.servers ≡ None) × (place_of name names.txns ≡ Some txn.0)
IsActor names _ name = ⊥

-- numbers are in their ranges, and names stand for what was declared by them
abbrev pub IsStep : Declared → Step → List ℕ → Type 0
IsStep names (step.Submit txn) text =
    (name : List ℕ) × (place_of name names.txns ≡ Some txn.0)
    × SaysStep (of_name verb.Submit name) text
IsStep names (step.Publish admin) text =
    (name : List ℕ) × (place_of name names.admins ≡ Some admin.0)
    × SaysStep (of_name verb.Publish name) text
IsStep names (step.Push admin server) text =
    (from : List ℕ) × (to : List ℕ) × (place_of from names.admins ≡ Some admin.0)
    × (place_of to names.servers ≡ Some server.0) × SaysStep (push from to) text
IsStep names (step.Revoke cred) text =
    (name : List ℕ) × (place_of name names.creds ≡ Some cred.0)
    × SaysStep (of_name verb.Revoke name) text
IsStep names (step.Tick by) text =
    (is_from_to 1 tick_limit by ≡ true) × SaysStep (by_number counting.Tick by) text
IsStep names (step.Deliver mail) text = SaysStep (by_number counting.Deliver mail) text
IsStep names (step.Lose mail) text = SaysStep (by_number counting.Lose mail) text
IsStep names (step.Crash who None) text =
    (name : List ℕ) × IsActor names who name × SaysStep (of_name verb.Crash name) text
IsStep names (step.Crash who (Some how)) text =
    (name : List ℕ) × IsActor names who name × (is_cut how.calls how.fill ≡ true)
    × SaysStep (cut name how.mail how.calls how.fill) text
IsStep names (step.Boot who) text =
    (name : List ℕ) × IsActor names who name × SaysStep (of_name verb.Boot name) text
IsStep names (step.Timer txn) text =
    (name : List ℕ) × (place_of name names.txns ≡ Some txn.0)
    × SaysStep (of_name verb.Timer name) text

-- the JSON value is a text of which this holds
abbrev pub IsTextWith : (List ℕ → Type 0) → Data → Type 0
IsTextWith P d = (text : List ℕ) × (as_str d ≡ Some text) × P text

-- ---- what is promised of them

-- a text has one split into words
abbrev pub HasOneSplit : Type 0
HasOneSplit =
    (text : List ℕ) (one other : List (List ℕ)) → AreWords one text → AreWords other text
    → one ≡ other

-- a query is read of a text exactly where the text says it
abbrev pub ReadsQueries : Type 0
ReadsQueries = (text : List ℕ) (asked : Asked) → (asked_of text ≡ Some asked) ↔ SaysQuery asked text

-- and a text says one query
abbrev pub SaysOneQuery : Type 0
SaysOneQuery =
    (text : List ℕ) (one other : Asked) → SaysQuery one text → SaysQuery other text → one ≡ other

-- a step is read of a text exactly where the text says it
abbrev pub ReadsSteps : Type 0
ReadsSteps =
    (text : List ℕ) (command : Command) → (command_of text ≡ Some command) ↔ SaysStep command text

-- and a text says one step
abbrev pub SaysOneStep : Type 0
SaysOneStep =
    (text : List ℕ) (one other : Command) → SaysStep one text → SaysStep other text → one ≡ other

-- the walk gives a query of a JSON value exactly where the value is a text that says it
abbrev pub GivesQueries : Type 0
GivesQueries =
    (path : Path) (items : Names) (value : Data) (query : Query)
    → (query_at path items value ≡ Ok query) ↔ IsTextWith (IsQuery items query) value

-- and so it gives a step
abbrev pub GivesSteps : Type 0
GivesSteps =
    (path : Path) (names : Declared) (value : Data) (made : Step)
    → (step_at names path value ≡ Ok made) ↔ IsTextWith (IsStep names made) value
