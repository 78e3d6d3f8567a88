-- How `clap` reads the words of a command line.
use Rattle.std.specs.Prelude.{◌≡◌, ◌≢◌, List, [], Option, ℕ, codes, true}
use Rattle.clap.specs.Faults.{fault_of}
use Rattle.clap.specs.Simple.{App, Shape, matches_of, new_app, new_rule, on_top, with_rule}
use Rattle.clap.specs.Walk.{Rule, first_of}

-- the program's name is none of the words, and no word asks for help or for a version
abbrev pub with_words_alone : Shape → Shape
with_words_alone shape = record shape { no_binary_name = true; disable_help_flag = true; disable_version_flag = true }

-- the first word is required
abbrev pub first_word : Rule
first_word = record (new_rule (codes "COMMAND")) { required = true }

-- a second one may follow
abbrev pub second_word : Rule
second_word = new_rule (codes "WORD")

abbrev pub app : App
app = with_rule (with_rule (on_top with_words_alone (new_app (codes "tpvc"))) first_word) second_word

-- the words are read, and give these two
pub record IsRead (words : List (List ℕ)) (first second : Option (List ℕ)) : Type 0 where
  pub taken : fault_of app words ≡ []
  pub first_is : first ≡ first_of (codes "COMMAND") (matches_of app words)
  pub second_is : second ≡ first_of (codes "WORD") (matches_of app words)

-- the words are not read
abbrev pub IsNotRead : List (List ℕ) → Type 0
IsNotRead words = fault_of app words ≢ []
