-- What is shown of all commands at once.
use Rattle.std.proofs.Common.{◌≡◌, ℕ, ◌==◌, ◌&&◌, Bool, List, nat_le, true, false, Option, Some, None, option_and_then, codes, if◌then◌else◌, refl, subst}
use Rattle.std.proofs.lemmas.Bool.{leb-true}
use Rattle.std.proofs.lemmas.Option.{same_Some}
use Rattle.std.specs.Cmp.Lexicographic.{pointwise}
use Rattle.std.specs.Io.KnownBytes.{Appends}
use Rattle.tp_model.specs.Words.{Text}
use Rattle.tp_top.proofs.BulkCases.{bulk_kept}
use Rattle.tp_top.proofs.CommandLemmas.{IsKept}
use Rattle.tp_top.proofs.RunCases.{run_kept}
use Rattle.tp_top.proofs.TraceCases.{trace_kept}
use Rattle.tp_top.specs.Promises.{Promises}
use Rattle.tp_top.specs.Rows.{HasText, Owes, RefusesFor}
use Rattle.tp_ends.specs.Streams.{Call}
use Rattle.tp_ends.specs.declared.status.Status.TheVariants.{Done, Refused}
use Rattle.tp_top.specs.mirrors.Commands.{IsOfCommand}
use Rattle.tp_types.specs.Spelling.{number_of}
use Rattle.tp_words.proofs.TextLemmas.{one_command}
use Rattle.tp_words.specs.Commands.{IsCommand, alone, bulk_by, bulk_of, command_by, named}
use Rattle.tp_words.specs.declared.commands.Command.{Command}
use Rattle.tp_words.specs.declared.commands.Command.TheVariants.{Bulk, Run, Trace}

-- each command keeps what it promises and owes
pub is_kept : (command : Command) → IsKept command
is_kept Run = run_kept
is_kept Trace = trace_kept
is_kept (Bulk count) = bulk_kept count

-- what is so of the command that the words are is so of whichever they are
by_words : (P : Command → Type 0) (words : List Text) (command : Command) → IsCommand words command → P command → (other : Command) → IsCommand words other → P other
by_words P words command are h other also = subst P (one_command words command other are also) h

-- what a command has written keeps its promise
pub promised_by : (call : Call) (command : Command) (text : List ℕ) → IsCommand call.words command → HasText command call.input text → Appends call.out.old call.out.new text
    → (other : Command) → IsCommand call.words other → Promises other call
promised_by call command text are has written = by_words (λ (k : Command). Promises k call) call.words command are ((is_kept command).promised call text has written)

-- with that it has done what it owes
pub done_by : (call : Call) (command : Command) (text : List ℕ) → IsCommand call.words command → HasText command call.input text → (other : Command) → IsCommand call.words other → Owes other call Done
done_by call command text are has = by_words (λ (k : Command). Owes k call Done) call.words command are ((is_kept command).done call text has)

-- and the line of its refusal is what it owes
pub refused_by : (call : Call) (command : Command) (text line : List ℕ) → IsCommand call.words command → RefusesFor command call.input text line → Appends call.notes.old call.notes.new line
    → (other : Command) → IsCommand call.words other → Owes other call Refused
refused_by call command text line are refuses written = by_words (λ (k : Command). Owes k call Refused) call.words command are ((is_kept command).refused call text line refuses written)

-- ---- the number of a command

-- a command that stands alone has none
alone_within : (command : Command) → IsOfCommand command → (word : Option (List ℕ)) (found : Command) → alone command word ≡ Some found → IsOfCommand found
alone_within command within None found e = subst IsOfCommand (same_Some command found e) within
alone_within command within (Some bytes) found e = absurd (cc)

bulk_within : (count : ℕ) (found : Command) → bulk_by count ≡ Some found → IsOfCommand found
bulk_within count found e = by_tests (nat_le 1 count) (nat_le count 128) refl refl e
  where
    by_tests : (least most : Bool) → nat_le 1 count ≡ least → nat_le count 128 ≡ most → (if least && most then Some (Bulk count) else None) ≡ Some found → IsOfCommand found
    by_tests true true low high f = subst IsOfCommand (same_Some (Bulk count) found f) (leb-true 1 count low, leb-true count 128 high)
    by_tests true false low high f = absurd (cc)
    by_tests false most low high f = absurd (cc)

number_within : (number : Option ℕ) (found : Command) → option_and_then bulk_by number ≡ Some found → IsOfCommand found
number_within None found e = absurd (cc)
number_within (Some count) found e = bulk_within count found e

word_within : (word : Option (List ℕ)) (found : Command) → option_and_then bulk_of word ≡ Some found → IsOfCommand found
word_within None found e = absurd (cc)
word_within (Some bytes) found e = number_within (number_of bytes) found e

none_within : (found : Command) → None ≡ Some found → IsOfCommand found
none_within found e = absurd (cc)

-- what is so of both is so of the one that is chosen
chosen : (first : Bool) (one other : Option Command) → ((found : Command) → one ≡ Some found → IsOfCommand found) → ((found : Command) → other ≡ Some found → IsOfCommand found)
    → (found : Command) → (if first then one else other) ≡ Some found → IsOfCommand found
chosen true one other h k found e = h found e
chosen false one other h k found e = k found e

named_within : (name : List ℕ) (word : Option (List ℕ)) (found : Command) → named name word ≡ Some found → IsOfCommand found
named_within name word =
    chosen (pointwise ◌==◌ name (codes "run")) (alone Run word) _ (alone_within Run tt word)
    (chosen (pointwise ◌==◌ name (codes "trace")) (alone Trace word) _ (alone_within Trace tt word)
    (chosen (pointwise ◌==◌ name (codes "bulk")) (option_and_then bulk_of word) _ (word_within word)
    none_within))

first_within : (first second : Option (List ℕ)) (found : Command) → command_by first second ≡ Some found → IsOfCommand found
first_within None second found e = absurd (cc)
first_within (Some name) second found e = named_within name second found e

-- words that are a command name a number within its limits
pub of_command : (words : List Text) (command : Command) → IsCommand words command → IsOfCommand command
of_command words command h = first_within h.first h.second command h.command_is
