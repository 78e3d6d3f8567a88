-- An input that is told, and what is taken of it: at most one scenario is read of it, or it is refused for one reason.
use Rattle.std.proofs.Common.{◌≡◌, ◌⊎◌, inl, inr, ℕ, ◌+◌, ◌<◌, ◌≤◌, List, [], ◌++◌, length, Option, Some, None, Result, Ok, Err, refl, sym, ap, subst, ◌∙◌, arith}
use Rattle.std.proofs.lemmas.List.{length-append, append-nil}
use Rattle.std.proofs.lemmas.Option.{same_Some}
use Rattle.std.specs.Io.KnownBytes.{Consumes, IsAtEnd}
use Rattle.tp_io.specs.Whole.{TakesAtMost, TakesExactly}
use Rattle.tp_model.specs.Words.{Scenario}
use Rattle.tp_scenario.proofs.ReadLemmas.{says_one}
use Rattle.tp_scenario.specs.Reads.{IsOutOfMemory}
use Rattle.tp_scenario.specs.declared.from_bytes.ScenarioError.{ScenarioError}
use Rattle.tp_scenario.specs.declared.from_bytes.ScenarioError.TheVariants as error
use Rattle.tp_ends.specs.Input.{IsRead, Reads}
use Rattle.tp_ends.specs.Streams.{Stream}
use Rattle.tp_ends.specs.Unread.{AreRefused, IsInputRefused, TakesRefused, input_max}
use Rattle.tp_ends.specs.declared.answer.Answer.{Answer}
use Rattle.tp_ends.specs.declared.answer.Answer.TheVariants as answer
use Rattle.tp_ends.specs.Calls.{IsRefusal, IsUnread}

nothing_consumed : (left : Option (List ℕ)) → Consumes left left []
nothing_consumed None = tt
nothing_consumed (Some bytes) = refl

-- where nothing is read nothing is taken
pub none_taken : (most : ℕ) (left : Option (List ℕ)) → TakesAtMost most left left
none_taken most left = record { bytes = []; consumed = nothing_consumed left; limit = omega arith }

-- at most so many are at most more
pub takes_more : (few most : ℕ) (old new : Option (List ℕ)) → TakesAtMost few old new → few ≤ most → TakesAtMost most old new
takes_more few most old new t more = record { bytes = t.bytes; consumed = t.consumed; limit = omega (arith, t.limit, more) }

-- what was taken whole of a told input is the input
pub whole_bytes : (old new : Option (List ℕ)) (told bytes : List ℕ) → old ≡ Some told → Consumes old new bytes → IsAtEnd new → bytes ≡ told
whole_bytes None new told bytes e consumed end = absurd (cc)
whole_bytes (Some own) None told bytes e consumed end = absurd consumed
whole_bytes (Some own) (Some rest) told bytes e consumed end =
    sym (sym (same_Some own told e) ∙ (consumed ∙ (ap (λ left. bytes ++ left) end ∙ append-nil bytes)))

-- a told input of which so many bytes were taken has them
pub long_bytes : (old new : Option (List ℕ)) (told : List ℕ) (count : ℕ) → old ≡ Some told → TakesExactly count old new → count ≤ length told
long_bytes None new told count e t = absurd (cc)
long_bytes (Some own) None told count e t = absurd t.consumed
long_bytes (Some own) (Some rest) told count e t = omega (arith, t.exact, ap length (same_Some own told e), ap length t.consumed, length-append t.bytes rest)

-- ---- an input says one thing

abbrev read_as : Scenario → Result Scenario ScenarioError
read_as sc = Ok sc

abbrev refused_as : ScenarioError → Result Scenario ScenarioError
refused_as why = Err why

pub same_scenario : (bytes : List ℕ) (one other : Scenario) → Reads bytes one → Reads bytes other → one ≡ other
same_scenario bytes one other r s =
    let same : read_as one ≡ read_as other = says_one bytes (Ok one) (Ok other) r s in
    cc

pub same_refusal : (bytes : List ℕ) (one other : ScenarioError) → AreRefused bytes one → AreRefused bytes other → one ≡ other
same_refusal bytes one other r s =
    let same : refused_as one ≡ refused_as other = says_one bytes (Err one) (Err other) r s in
    cc

pub refused_or_read : (bytes : List ℕ) (why : ScenarioError) (sc : Scenario) → AreRefused bytes why → Reads bytes sc → ⊥
refused_or_read bytes why sc r s =
    let same : refused_as why ≡ read_as sc = says_one bytes (Err why) (Ok sc) r s in
    cc

-- too many bytes are refused as such
pub long_refused : (bytes : List ℕ) → input_max < length bytes → AreRefused bytes error.TooLong
long_refused bytes long = inl (record { long = long; answer_is = refl })

-- ---- an input that is told is what was read

pub read_whole : (input : Stream) (told : List ℕ) (sc : Scenario) → input.old ≡ Some told → IsRead input sc → Reads told sc
read_whole input told sc e r = subst (λ (bytes : List ℕ). Reads bytes sc) (whole_bytes input.old input.new told r.bytes e r.taken.consumed r.taken.at_end) r.reads

refused_whole : (input : Stream) (told : List ℕ) (why : ScenarioError) → input.old ≡ Some told → TakesRefused input why → AreRefused told why
refused_whole input told why e t = subst (λ (bytes : List ℕ). AreRefused bytes why) (whole_bytes input.old input.new told t.bytes e t.taken.consumed t.taken.at_end) t.refused

-- whatever it was refused for, its bytes are refused so
pub cause_whole : (input : Stream) (told : List ℕ) (why : ScenarioError) → input.old ≡ Some told → IsInputRefused input why → AreRefused told why
cause_whole input told error.TooLong e t = long_refused told (omega (arith, long_bytes input.old input.new told (input_max + 1) e t))
cause_whole input told error.BadJson e t = refused_whole input told error.BadJson e t
cause_whole input told (error.Shape path) e t = refused_whole input told (error.Shape path) e t
cause_whole input told (error.Range path) e t = refused_whole input told (error.Range path) e t
cause_whole input told (error.Unknown path) e t = refused_whole input told (error.Unknown path) e t
cause_whole input told (error.Policy path fault) e t = refused_whole input told (error.Policy path fault) e t
cause_whole input told error.NoMemory e t = absurd t

-- ---- what comes of an input

-- the line of a refusal is what comes of an input that is refused so
pub unread_refused : (input : Stream) (why : ScenarioError) (answer : Answer) → IsInputRefused input why → IsRefusal why answer → IsUnread input answer
unread_refused input why (answer.Refused text line) cause h = record { why = why; cause = cause; text_is = h.0; line_is = h.1 }
unread_refused input why answer.NoMemory cause h = tt
unread_refused input why (answer.Text text) cause h = absurd h
unread_refused input why answer.ReadFault cause h = absurd h

-- an answer that is a scenario was read
pub read_of_answer : (bytes : List ℕ) (sc : Scenario) → IsOutOfMemory (Ok sc) ⊎ Reads bytes sc → Reads bytes sc
read_of_answer bytes sc (inl out) = cc
read_of_answer bytes sc (inr reads) = reads
