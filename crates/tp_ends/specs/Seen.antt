-- What is said of a call: what it saw of its streams, and which status it has.
use Rattle.std.specs.Prelude.{◌≡◌, ◌⊎◌, List, [], Option, ℕ}
use Rattle.std.specs.Io.KnownBytes.{Appends}
use Rattle.tp_model.specs.Words.{Text}
use Rattle.tp_types.specs.Faults.{Rose}
use Rattle.tp_ends.specs.Streams.{Call, Stream}
use Rattle.tp_ends.specs.declared.status.Status.{Status}
use Rattle.tp_ends.specs.declared.status.Status.TheVariants.{NoMemory, Refused}

-- a stream that tells its bytes and counts its faults so, before a call and after it
abbrev pub seen : {A : Type 0} → (A → Option (List ℕ)) → (A → ℕ) → A → A → Stream
seen told faults a b =
    record { old = told a; new = told b; faults_old = faults a; faults_new = faults b }

-- the call with these words and these streams
abbrev pub call_of : List Text → Stream → Stream → Stream → Call
call_of words input out notes =
    record { words = words; input = input; out = out; notes = notes }

-- nothing was written
abbrev pub IsUntouched : Stream → Type 0
IsUntouched sink = Appends sink.old sink.new []

-- the count of faults rose
abbrev pub HasFailed : Stream → Type 0
HasFailed stream = Rose stream.faults_old stream.faults_new

-- no count rose
pub record NoneFailed (call : Call) : Type 0 where
  pub input : ¬ (HasFailed call.input)
  pub out : ¬ (HasFailed call.out)
  pub notes : ¬ (HasFailed call.notes)

-- this status, or want of memory
abbrev pub Ends : Status → Status → Type 0
Ends status wanted = (status ≡ wanted) ⊎ (status ≡ NoMemory)

-- the refusal with this line, or want of memory
abbrev pub EndsRefused : Status → Stream → List ℕ → Type 0
EndsRefused status notes line =
    ((status ≡ Refused) × Appends notes.old notes.new line) ⊎ (status ≡ NoMemory)
