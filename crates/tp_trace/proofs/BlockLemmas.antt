-- What the code finds by what it noted before a step are the lines of its block.
use Rattle.std.proofs.Common.{◌≡◌, ◌∙◌, ℕ, List, [], ◌∷◌, ◌++◌, length, drop, map, Option, Some, None, refl, sym, ap, Bool, true, false, if◌then◌else◌}
use Rattle.std.proofs.lemmas.List.{append_assoc}
use Rattle.std.specs.Prelude.{is_some, option_and_then}
use Rattle.tp_machine.specs.Machine.{Machine, State, after_step, machine_after, refusal}
use Rattle.tp_machine.specs.Moves.{logged, moved_by}
use Rattle.tp_machine.specs.Views.{server_at}
use Rattle.tp_machine.specs.declared.error.StepError.{StepError}
use Rattle.tp_model.specs.Words.{Actor, Mail, Record, Scenario, ServerId, Step, TxnId}
use Rattle.tp_model.specs.Words.actor
use Rattle.tp_report.specs.StepText.{step_text}
use Rattle.tp_server.specs.State.{Server}
use Rattle.tp_trace.specs.Blocks.{block, durable_lines, ended_by, ended_if, fate_lines, is_torn, leaves_commit, lines_between, mail_at, now_lines, server_now, state_lines, step_kind}
use Rattle.tp_trace.specs.Lines.{Line, line_of, lines_text, mail_line}
use Rattle.tp_trace.specs.Seen.{changed_lines, items_of, left_lines, seen_of, seen_up}
use Rattle.tp_trace.specs.Told.{all_told}
use Rattle.tp_trace.specs.declared.blocks.Noted.{Noted}
use Rattle.tp_trace.specs.declared.lines.Kind.TheVariants as kind
use Rattle.tp_trace.specs.mirrors.Noted.{begun, changed_from, left_from, lines_from, noted_of, now_from, server_from, state_from, values_if}
use Rattle.tp_trace.proofs.LineLemmas.{lines_append}

-- ---- what changed

left_ended : (sc : Scenario) (place : ℕ) (at : ServerId) (b : Server) (ended : Option TxnId)
    → left_from sc place at true (seen_of (items_of sc at) b).values (values_if (items_of sc at) (Some b) ended) ≡ left_lines sc place at b ended
left_ended sc place at b None = refl
left_ended sc place at b (Some txn) = refl

left_is : (sc : Scenario) (place : ℕ) (at : ServerId) (b : Server) (commit : Bool) (mail : Option Mail)
    → left_from sc place at commit (seen_of (items_of sc at) b).values (values_if (items_of sc at) (Some b) (option_and_then ended_by mail)) ≡ left_lines sc place at b (ended_if commit mail)
left_is sc place at b true mail = left_ended sc place at b (option_and_then ended_by mail)
left_is sc place at b false mail = refl

-- of the server that the step moves, by what it was and is
module _ (sc : Scenario) (w : State) (taken : Step) (at : ServerId) (forced : Option Record) where
  noted : Option Server → Noted
  noted before = record (noted_of sc w taken (Some (actor.Server at))) {
    seen = seen_up (items_of sc at) before;
    was_up = is_some before;
    left = values_if (items_of sc at) before (option_and_then ended_by (mail_at w taken));
  }

  changed_by : (before after : Option Server)
      → changed_from sc (noted before) at (is_some before) forced after
      ≡ changed_lines sc (length w.steps) at before after (ended_if (leaves_commit (is_torn taken) forced) (mail_at w taken))
  unfolding noted
  changed_by None None = refl
  changed_by (Some b) None = left_is sc (length w.steps) at b (leaves_commit (is_torn taken) forced) (mail_at w taken)
  changed_by None (Some s) = refl
  changed_by (Some b) (Some s) = refl

  pub changed_is : (next : State)
      → changed_from sc (noted_of sc w taken (Some (actor.Server at))) at (is_some (server_at w.actors at)) forced (server_at next.actors at)
      ≡ changed_lines sc (length w.steps) at (server_at w.actors at) (server_at next.actors at) (ended_if (leaves_commit (is_torn taken) forced) (mail_at w taken))
  unfolding noted
  changed_is next = changed_by (server_at w.actors at) (server_at next.actors at)

state_is : (sc : Scenario) (w : State) (taken : Step) (next : State) (who : Option Actor) → state_from sc (noted_of sc w taken who) who (logged sc w taken) next ≡ state_lines sc w taken next who
state_is sc w taken next None = refl
state_is sc w taken next (Some (actor.Server at)) = changed_is sc w taken at (logged sc w taken) next
state_is sc w taken next (Some (actor.Coordinator txn)) = refl
state_is sc w taken next (Some actor.Master) = refl
state_is sc w taken next (Some actor.Authority) = refl

server_now_is : (sc : Scenario) (place : ℕ) (at : ServerId) (before after : Option Server) → server_from sc place at (is_some before) after ≡ server_now sc place at before after
server_now_is sc place at None None = refl
server_now_is sc place at (Some b) None = refl
server_now_is sc place at None (Some s) = refl
server_now_is sc place at (Some b) (Some s) = refl

now_is : (sc : Scenario) (w : State) (taken : Step) (next : State) (who : Option Actor) → now_from sc (noted_of sc w taken who) who next ≡ now_lines sc w next who
now_is sc w taken next None = refl
now_is sc w taken next (Some (actor.Server at)) = server_now_is sc (length w.steps) at (server_at w.actors at) (server_at next.actors at)
now_is sc w taken next (Some (actor.Coordinator txn)) = refl
now_is sc w taken next (Some actor.Master) = refl
now_is sc w taken next (Some actor.Authority) = refl

-- five lists behind one
behind_one : {A : Type 0} (one two three four five six : List A) → one ++ (two ++ three ++ four ++ five ++ six) ≡ one ++ two ++ three ++ four ++ five ++ six
behind_one {A} one two three four five six =
    sym (append_assoc one (two ++ three ++ four ++ five) six)
    ∙ ap (λ (l : List A). l ++ six) (sym (append_assoc one (two ++ three ++ four) five)
    ∙ ap (λ (l : List A). l ++ five) (sym (append_assoc one (two ++ three) four)
    ∙ ap (λ (l : List A). l ++ four) (sym (append_assoc one two three))))

between_is : (sc : Scenario) (w : State) (taken : Step) (next : State) (who : Option Actor) → moved_by w.mails taken ≡ who
    → fate_lines sc w taken (mail_at w taken) ++ lines_from sc (noted_of sc w taken who) (logged sc w taken) next ≡ lines_between sc w taken next
between_is sc w taken next who e =
    let fate = fate_lines sc w taken (mail_at w taken) in
    let told = all_told sc next.facts (drop (length w.facts) next.facts) in
    let sent = map (mail_line sc (length w.steps) kind.Sent) (drop (length w.mails) next.mails) in
    let durable : Option Actor → List Line = λ a. durable_lines sc (length w.steps) (is_torn taken) a (logged sc w taken) in
    let all : Option Actor → List Line → List Line → List Line = λ a changed now. fate ++ durable a ++ told ++ changed ++ sent ++ now in
    behind_one fate (durable who) told (state_from sc (noted_of sc w taken who) who (logged sc w taken) next) sent (now_from sc (noted_of sc w taken who) who next)
    ∙ ap (λ (l : List Line). all who l (now_from sc (noted_of sc w taken who) who next)) (state_is sc w taken next who)
    ∙ ap (λ (l : List Line). all who (state_lines sc w taken next who) l) (now_is sc w taken next who)
    ∙ ap (λ (a : Option Actor). all a (state_lines sc w taken next a) (now_lines sc w next a)) (sym e)

-- ---- the whole block

allowed_is : (sc : Scenario) (m : Machine) (taken : Step) → refusal m.state taken ≡ None → after_step sc m taken ≡ machine_after sc m taken
allowed_is sc m taken ok = ap (λ (why : Option StepError). if is_some why then m else machine_after sc m taken) ok

-- the line of a step that is not refused, what becomes of its mail, and what was found by what was noted
pub block_is : (sc : Scenario) (m : Machine) (taken : Step) (listed : Bool) → refusal m.state taken ≡ None
    → lines_text (begun sc listed m.state taken) ++ lines_text (lines_from sc (noted_of sc m.state taken (moved_by m.state.mails taken)) (logged sc m.state taken) (machine_after sc m taken).state)
    ≡ lines_text (block sc listed m taken)
block_is sc m taken listed ok =
    let after = (machine_after sc m taken).state in
    let first = line_of (length m.state.steps) (step_kind listed) (step_text sc taken) in
    let found = lines_from sc (noted_of sc m.state taken (moved_by m.state.mails taken)) (logged sc m.state taken) after in
    sym (lines_append (begun sc listed m.state taken) found)
    ∙ ap (λ (l : List Line). lines_text (first ∷ l)) (between_is sc m.state taken after (moved_by m.state.mails taken) refl)
    ∙ ap (λ (k : Machine). lines_text (first ∷ lines_between sc m.state taken k.state)) (sym (allowed_is sc m taken ok))
