-- The block of a step, and a whole trace.
use Rattle.std.specs.Prelude.{◌≡◌, ℕ, List, [], ◌∷◌, ◌++◌, ◌&&◌, length, map, drop, slice_get, Bool, true, false, not, nat_lt, Option, Some, None, codes, decimal, option_and_then, if◌then◌else◌}
use Rattle.std.specs.List.{flat_map}
use Rattle.std.specs.Option.{option_map_or}
use Rattle.tp_log.specs.Appends.{is_kept}
use Rattle.tp_machine.specs.Machine.{Machine, State, after, after_step, ending_of, is_down, opening}
use Rattle.tp_machine.specs.Moves.{logged, moved_by}
use Rattle.tp_machine.specs.Views.{coordinator_at, server_at}
use Rattle.tp_model.specs.Facts.{same_outcome}
use Rattle.tp_model.specs.Ids.{same_name}
use Rattle.tp_model.specs.Words.{Actor, Ending, Mail, Record, Scenario, ServerId, Step, TxnId}
use Rattle.tp_model.specs.Words.actor
use Rattle.tp_model.specs.Words.log
use Rattle.tp_model.specs.Words.outcome
use Rattle.tp_model.specs.Words.step
use Rattle.tp_report.specs.ReportText.{quiet_tokens, server_name, server_tokens, txn_name}
use Rattle.tp_report.specs.StepText.{step_text}
use Rattle.tp_report.specs.Tokens.{text_of}
use Rattle.tp_server.specs.State.{Server}
use Rattle.tp_trace.specs.Lines.{Line, line_of, lines_text, mail_line, record_line}
use Rattle.tp_trace.specs.Phases.{awaits_text}
use Rattle.tp_trace.specs.Seen.{changed_lines}
use Rattle.tp_trace.specs.Told.{all_told}
use Rattle.tp_trace.specs.declared.lines.Kind.{Kind}
use Rattle.tp_trace.specs.declared.lines.Kind.TheVariants as kind

-- ---- the step, and the mail that it is about

abbrev pub step_kind : Bool → Kind
step_kind true = kind.Listed
step_kind false = kind.Automatic

-- the mail that a step delivers or loses
abbrev pub mail_at : State → Step → Option Mail
mail_at w (step.Deliver mail) = slice_get w.mails mail
mail_at w (step.Lose mail) = slice_get w.mails mail
mail_at w (step.Crash who (Some cut)) = slice_get w.mails cut.mail
mail_at w _ = None

abbrev pub taken_or_gone : Bool → Kind
taken_or_gone true = kind.Gone
taken_or_gone false = kind.Took

-- what becomes of the mail: it is gone where it is lost, or its recipient is down
abbrev pub fate : State → Step → Mail → Kind
fate w (step.Deliver _) mail = taken_or_gone (is_down w.actors mail.letter.to)
fate w (step.Lose _) mail = kind.Gone
fate w _ mail = kind.Took

abbrev pub fate_lines : Scenario → State → Step → Option Mail → List Line
fate_lines sc w taken None = []
fate_lines sc w taken (Some mail) = mail_line sc (length w.steps) (fate w taken mail) mail ∷ []

-- ---- what became durable

-- whether the actor crashes before the record that the step has it force stands on its log
abbrev pub is_torn : Step → Bool
is_torn (step.Crash who (Some cut)) = not (is_kept cut.calls cut.fill)
is_torn _ = false

abbrev pub forced_or_torn : Bool → Kind
forced_or_torn true = kind.Torn
forced_or_torn false = kind.Forced

-- the record that the step has its actor force, if there is one
abbrev pub durable_lines : Scenario → ℕ → Bool → Option Actor → Option Record → List Line
durable_lines sc place torn (Some who) (Some forced) =
    record_line sc place (forced_or_torn torn) who forced ∷ []
durable_lines sc place torn _ _ = []

-- ---- what changed

-- the transaction whose coordinator sent a mail
abbrev pub sender_of : Actor → Option TxnId
sender_of (actor.Coordinator txn) = Some txn
sender_of _ = None

abbrev pub ended_by : Mail → Option TxnId
ended_by mail = sender_of mail.letter.from

-- a record says that a transaction has committed at its server
abbrev pub is_commit : Record → Bool
is_commit (log.Settled s) = same_outcome s.outcome outcome.Commit
is_commit _ = false

-- the crash of a step leaves such a record on the log
abbrev pub leaves_commit : Bool → Option Record → Bool
leaves_commit torn forced = not torn && option_map_or is_commit forced false

abbrev pub ended_if : Bool → Option Mail → Option TxnId
ended_if true mail = option_and_then ended_by mail
ended_if false mail = None

abbrev pub state_lines : Scenario → State → Step → State → Option Actor → List Line
state_lines sc w taken next (Some (actor.Server at)) =
    changed_lines sc (length w.steps) at (server_at w.actors at) (server_at next.actors at)
    (ended_if (leaves_commit (is_torn taken) (logged sc w taken)) (mail_at w taken))
state_lines sc w taken next _ = []

-- a server went down, or came up
abbrev pub server_now : Scenario → ℕ → ServerId → Option Server → Option Server → List Line
server_now sc place at (Some _) None = line_of place kind.Now (server_name sc at ++ codes " down") ∷ []
server_now sc place at None (Some s) =
    line_of place kind.Now (server_name sc at ++ codes " up epoch=" ++ decimal s.epoch) ∷ []
server_now sc place at _ _ = []

-- what a coordinator awaits is another
abbrev pub coordinator_now : Scenario → ℕ → TxnId → List ℕ → List ℕ → List Line
coordinator_now sc place txn before after =
    if same_name before after then []
    else line_of place kind.Now (txn_name sc txn ++ codes " " ++ after) ∷ []

abbrev pub now_lines : Scenario → State → State → Option Actor → List Line
now_lines sc w next (Some (actor.Server at)) =
    server_now sc (length w.steps) at (server_at w.actors at) (server_at next.actors at)
now_lines sc w next (Some (actor.Coordinator txn)) =
    coordinator_now sc (length w.steps) txn (awaits_text sc (coordinator_at w.actors txn))
    (awaits_text sc (coordinator_at next.actors txn))
now_lines sc w next _ = []

-- ---- a block

-- what stands behind the line of a step: what arrived, what was forced, what became a fact, what changed, what was sent, and what
-- is now awaited. Facts and mails are the end of a list that grew; else it is what differs in the actor whom the step moves
abbrev pub lines_between : Scenario → State → Step → State → List Line
lines_between sc w taken next =
    fate_lines sc w taken (mail_at w taken)
    ++ durable_lines sc (length w.steps) (is_torn taken) (moved_by w.mails taken)
    (logged sc w taken)
    ++ all_told sc next.facts (drop (length w.facts) next.facts)
    ++ state_lines sc w taken next (moved_by w.mails taken)
    ++ map (mail_line sc (length w.steps) kind.Sent) (drop (length w.mails) next.mails)
    ++ now_lines sc w next (moved_by w.mails taken)

abbrev pub block_between : Scenario → Bool → State → Step → State → List Line
block_between sc listed w taken next =
    line_of (length w.steps) (step_kind listed) (step_text sc taken)
    ∷ lines_between sc w taken next

-- the block of a step
abbrev pub block : Scenario → Bool → Machine → Step → List Line
block sc listed m taken =
    block_between sc listed m.state taken (after_step sc m taken).state

-- the blocks of steps, of which the first so many of the whole run are listed
abbrev pub blocks : Scenario → ℕ → Machine → List Step → List Line
blocks sc listed m [] = []
blocks sc listed m (taken ∷ others) =
    block sc (nat_lt (length m.state.steps) listed) m taken
    ++ blocks sc listed (after_step sc m taken) others

-- ---- a trace

-- the lines of these steps from the beginning
abbrev pub trace_lines : Scenario → List Step → List Line
trace_lines sc steps = blocks sc (length sc.steps) (opening sc) steps

-- `trace 1`, and the lines of these steps
abbrev pub trace_text : Scenario → List Step → List ℕ
trace_text sc steps = codes "trace 1\n" ++ lines_text (trace_lines sc steps)

-- how the run has ended: the last lines of its report
abbrev pub ending_text : Scenario → Ending → List ℕ
ending_text sc ending =
    text_of (flat_map (server_tokens sc ending) sc.servers ++ quiet_tokens ending)

-- the trace of a run of these steps
abbrev pub trace_of : Scenario → List Step → List ℕ
trace_of sc steps =
    trace_text sc steps ++ ending_text sc (ending_of sc (after sc steps).state)
