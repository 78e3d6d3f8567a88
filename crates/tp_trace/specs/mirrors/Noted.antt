-- What is noted before a step, and the lines that the code finds by it afterwards.
use Rattle.std.specs.Prelude.{◌≡◌, ℕ, ℤ, List, [], ◌∷◌, ◌++◌, length, map, drop, Bool, true, false, Option, Some, None, is_some, codes, decimal, option_and_then}
use Rattle.tp_machine.specs.Machine.{State}
use Rattle.tp_machine.specs.Views.{coordinator_at, server_at}
use Rattle.tp_model.specs.Words.{Actor, ItemId, Mail, Record, Scenario, ServerId, Step, TxnId}
use Rattle.tp_model.specs.Words.actor
use Rattle.tp_report.specs.ReportText.{server_name}
use Rattle.tp_report.specs.StepText.{step_text}
use Rattle.tp_server.specs.State.{Server}
use Rattle.tp_trace.specs.Blocks.{coordinator_now, durable_lines, ended_by, fate_lines, is_torn, leaves_commit, mail_at, step_kind}
use Rattle.tp_trace.specs.Lines.{Line, line_of, mail_line}
use Rattle.tp_trace.specs.Phases.{awaits_text}
use Rattle.tp_trace.specs.Seen.{items_of, nothing_seen, seen_lines, seen_of, seen_up, values_from, values_to}
use Rattle.tp_trace.specs.Told.{all_told}
use Rattle.tp_trace.specs.declared.blocks.Noted.{Noted}
use Rattle.tp_trace.specs.declared.lines.Kind.TheVariants as kind
use Rattle.tp_trace.specs.declared.seen.Seen.{Seen}

-- ---- before the step

-- what is seen of the actor, if that is a server
abbrev pub seen_before : Scenario → State → Option Actor → Seen
seen_before sc w (Some (actor.Server at)) = seen_up (items_of sc at) (server_at w.actors at)
seen_before sc w _ = nothing_seen

-- the actor is a server that is up
abbrev pub was_up : State → Option Actor → Bool
was_up w (Some (actor.Server at)) = is_some (server_at w.actors at)
was_up w _ = false

-- the values of a server's items to the transaction whose coordinator sent it a mail
abbrev pub values_if : List ItemId → Option Server → Option TxnId → Option (List ℤ)
values_if items (Some s) (Some txn) = Some (values_to items s txn)
values_if items _ _ = None

abbrev pub left_before : Scenario → State → Option Mail → Option Actor → Option (List ℤ)
left_before sc w mail (Some (actor.Server at)) =
    values_if (items_of sc at) (server_at w.actors at) (option_and_then ended_by mail)
left_before sc w mail _ = None

abbrev pub awaited_before : Scenario → State → Option Actor → List ℕ
awaited_before sc w (Some (actor.Coordinator txn)) = awaits_text sc (coordinator_at w.actors txn)
awaited_before sc w _ = []

abbrev pub noted_of : Scenario → State → Step → Option Actor → Noted
noted_of sc w taken who = record {
  place = length w.steps;
  facts = length w.facts;
  mails = length w.mails;
  actor = who;
  torn = is_torn taken;
  seen = seen_before sc w who;
  left = left_before sc w (mail_at w taken) who;
  was_up = was_up w who;
  awaited = awaited_before sc w who;
}

-- the line of a step, and what becomes of its mail
abbrev pub begun : Scenario → Bool → State → Step → List Line
begun sc listed w taken =
    line_of (length w.steps) (step_kind listed) (step_text sc taken)
    ∷ fate_lines sc w taken (mail_at w taken)

-- ---- after it

-- the values that a crash leaves, where its log has gained a commit
abbrev pub left_from : Scenario → ℕ → ServerId → Bool → List ℤ → Option (List ℤ) → List Line
left_from sc place at true before (Some after) = values_from sc place at 0 before after (items_of sc at)
left_from sc place at _ before _ = []

abbrev pub changed_from : Scenario → Noted → ServerId → Bool → Option Record → Option Server
    → List Line
changed_from sc noted at up forced (Some s) =
    seen_lines sc noted.place at noted.seen (seen_of (items_of sc at) s)
changed_from sc noted at true forced None =
    left_from sc noted.place at (leaves_commit noted.torn forced) noted.seen.values noted.left
changed_from sc noted at false forced None = []

abbrev pub state_from : Scenario → Noted → Option Actor → Option Record → State → List Line
state_from sc noted (Some (actor.Server at)) forced next =
    changed_from sc noted at noted.was_up forced (server_at next.actors at)
state_from sc noted _ forced next = []

abbrev pub server_from : Scenario → ℕ → ServerId → Bool → Option Server → List Line
server_from sc place at true None =
    line_of place kind.Now (server_name sc at ++ codes " down") ∷ []
server_from sc place at false (Some s) =
    line_of place kind.Now (server_name sc at ++ codes " up epoch=" ++ decimal s.epoch) ∷ []
server_from sc place at _ _ = []

abbrev pub now_from : Scenario → Noted → Option Actor → State → List Line
now_from sc noted (Some (actor.Server at)) next =
    server_from sc noted.place at noted.was_up (server_at next.actors at)
now_from sc noted (Some (actor.Coordinator txn)) next =
    coordinator_now sc noted.place txn noted.awaited
    (awaits_text sc (coordinator_at next.actors txn))
now_from sc noted _ next = []

abbrev pub lines_from : Scenario → Noted → Option Record → State → List Line
lines_from sc noted forced next =
    durable_lines sc noted.place noted.torn noted.actor forced
    ++ all_told sc next.facts (drop noted.facts next.facts)
    ++ state_from sc noted noted.actor forced next
    ++ map (mail_line sc noted.place kind.Sent) (drop noted.mails next.mails)
    ++ now_from sc noted noted.actor next
