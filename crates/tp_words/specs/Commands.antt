-- Which lists of words are a command.
use Rattle.std.specs.Prelude.{◌≡◌, ℕ, ◌==◌, ◌&&◌, nat_le, List, map, Option, None, Some, codes, if◌then◌else◌, option_and_then, IsUtf8}
use Rattle.std.specs.Cmp.Lexicographic.{pointwise}
use Rattle.tp_types.specs.Each.{Each}
use Rattle.tp_types.specs.Spelling.{number_of}
use Rattle.tp_types.specs.declared.name.Text.{Text}
use Rattle.tp_words.specs.Reading.{IsRead}
use Rattle.tp_words.specs.declared.commands.Command.{Command}
use Rattle.tp_words.specs.declared.commands.Command.TheVariants.{Run, Trace, Bulk}

-- the bytes of each word
abbrev pub bytes_of : List Text → List (List ℕ)
bytes_of words = map (λ (word : Text). word.0) words

abbrev pub AreUtf8 : List (List ℕ) → Type 0
AreUtf8 words = Each IsUtf8 words

-- from 1 to 128 transactions
abbrev pub bulk_by : ℕ → Option Command
bulk_by count = if nat_le 1 count && nat_le count 128 then Some (Bulk count) else None

-- a number, in its one spelling
abbrev pub bulk_of : List ℕ → Option Command
bulk_of word = option_and_then bulk_by (number_of word)

-- a command that stands alone
abbrev pub alone : Command → Option (List ℕ) → Option Command
alone command None = Some command
alone command (Some word) = None

abbrev pub named : List ℕ → Option (List ℕ) → Option Command
named name word =
    if pointwise ◌==◌ name (codes "run") then alone Run word
    else if pointwise ◌==◌ name (codes "trace") then alone Trace word
    else if pointwise ◌==◌ name (codes "bulk") then option_and_then bulk_of word
    else None

-- the command that the words that are left are
abbrev pub command_by : Option (List ℕ) → Option (List ℕ) → Option Command
command_by None word = None
command_by (Some name) word = named name word

-- each word is UTF-8, the words are read, and what is left is this command
pub record IsCommand (words : List Text) (command : Command) : Type 0 where
  pub utf8 : AreUtf8 (bytes_of words)
  pub first : Option (List ℕ)
  pub second : Option (List ℕ)
  pub read : IsRead (bytes_of words) first second
  pub command_is : command_by first second ≡ Some command

-- the words are no command
abbrev pub IsNoCommand : List Text → Type 0
IsNoCommand words = (command : Command) → IsCommand words command → ⊥
