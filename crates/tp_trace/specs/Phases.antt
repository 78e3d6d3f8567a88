-- What a coordinator awaits, as words.
use Rattle.std.specs.Prelude.{ℕ, List, [], ◌∷◌, ◌++◌, length, slice_get, Option, Some, None, codes, decimal}
use Rattle.std.specs.Option.{option_map_or}
use Rattle.tp_model.specs.Words.{Outcome, Scenario, ServerId, Transaction, TxnId}
use Rattle.tp_coord.specs.State.{Coordinator}
use Rattle.tp_coord.specs.Row.{home_of}
use Rattle.tp_coord.specs.declared.coordinator.Phase.{Phase}
use Rattle.tp_coord.specs.declared.coordinator.Phase.TheVariants as phase
use Rattle.tp_coord.specs.declared.coordinator.Span.{Span}
use Rattle.tp_coord.specs.declared.coordinator.Span.TheVariants as span
use Rattle.tp_report.specs.ReportText.{outcome_word, server_name}
use Rattle.tp_round.specs.Judge.{awaited_in}
use Rattle.tp_round.specs.declared.round.Round.{Round}
use Rattle.tp_trace.specs.Words.{joined}

-- the number of a transaction's queries, which is that of the last
abbrev pub queries_of : Scenario → TxnId → ℕ
queries_of sc txn = option_map_or (λ (found : Transaction). length found.queries) (slice_get sc.txns txn.0) 0

-- the last query that a round is over
abbrev pub last_query : Scenario → TxnId → Span → ℕ
last_query sc txn (span.Validate query) = query
last_query sc txn span.Commit = queries_of sc txn

-- ` turn=T q=Q`
abbrev pub turn_words : ℕ → ℕ → List ℕ
turn_words turn query = codes " turn=" ++ decimal turn ++ codes " q=" ++ decimal query

-- the same in a round, with its number
abbrev pub round_words : Scenario → Coordinator → Span → Round → List ℕ
round_words sc c over round =
    turn_words c.turn (last_query sc c.txn over) ++ codes " round=" ++ decimal round.number

-- ` awaits=S,..`
abbrev pub servers_awaited : Scenario → List ServerId → List ℕ
servers_awaited sc servers = codes " awaits=" ++ joined (server_name sc) servers

-- the server of a query that was sent
abbrev pub home_awaited : Scenario → Option ServerId → List ℕ
home_awaited sc None = codes " awaits=-"
home_awaited sc (Some at) = codes " awaits=" ++ server_name sc at

-- a decision was sent: who has not acknowledged it
abbrev pub ending_words : Scenario → Outcome → List ServerId → List ℕ
ending_words sc outcome [] = codes "finished"
ending_words sc outcome (first ∷ others) =
    codes "ending outcome=" ++ outcome_word outcome ++ servers_awaited sc (first ∷ others)

abbrev pub phase_words : Scenario → Coordinator → Phase → List ℕ
phase_words sc c phase.Idle = codes "idle"
phase_words sc c (phase.Stapling query) =
    codes "asking" ++ turn_words c.turn query ++ codes " awaits=Authority"
phase_words sc c (phase.Querying query staple) =
    codes "querying" ++ turn_words c.turn query ++ home_awaited sc (home_of sc c query)
phase_words sc c (phase.Probing query) =
    codes "reading" ++ turn_words c.turn query ++ codes " awaits=Master"
phase_words sc c (phase.Asking over round) =
    codes "asking" ++ round_words sc c over round ++ codes " awaits=Authority"
phase_words sc c (phase.Checking over round staple) =
    codes "checking" ++ round_words sc c over round
    ++ servers_awaited sc (awaited_in round)
phase_words sc c (phase.Reading over round) =
    codes "reading" ++ round_words sc c over round ++ codes " awaits=Master"
phase_words sc c (phase.Voting awaited) =
    codes "voting" ++ turn_words c.turn (queries_of sc c.txn) ++ servers_awaited sc awaited
phase_words sc c phase.VoteProbing =
    codes "reading" ++ turn_words c.turn (queries_of sc c.txn) ++ codes " awaits=Master"
phase_words sc c (phase.Ending outcome awaited) = ending_words sc outcome awaited

-- what a coordinator awaits, or that it is down
abbrev pub awaits_text : Scenario → Option Coordinator → List ℕ
awaits_text sc None = codes "down"
awaits_text sc (Some c) = phase_words sc c c.phase
