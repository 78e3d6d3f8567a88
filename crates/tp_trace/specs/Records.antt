-- What a record of a log says: its kind, and then each value behind its key.
use Rattle.std.specs.Prelude.{ℕ, List, [], ◌++◌, Option, Some, None, codes, decimal}
use Rattle.tp_model.specs.Words.{Cause, Decided, Decision, No, Prepared, Record, Scenario, Settled}
use Rattle.tp_model.specs.Words.cause
use Rattle.tp_model.specs.Words.decision
use Rattle.tp_model.specs.Words.log
use Rattle.tp_report.specs.ReportText.{outcome_word, txn_name}
use Rattle.tp_trace.specs.Words.{deed_word, joined, no_words, of_admin_words, verdict_word, versions_word}

-- the kind of a record
abbrev pub record_kind : Record → List ℕ
record_kind log.Boot = codes "boot"
record_kind (log.Told _) = codes "told"
record_kind (log.Prepared _) = codes "prepared"
record_kind (log.Settled _) = codes "settled"
record_kind (log.Decided _) = codes "decided"

-- of which transaction a vote is, and to which request
abbrev pub prepared_front : Scenario → Prepared → List ℕ
prepared_front sc prepared =
    codes " txn=" ++ txn_name sc prepared.txn ++ codes " age=" ++ decimal prepared.age
    ++ codes " epoch=" ++ decimal prepared.epoch ++ codes " turn=" ++ decimal prepared.turn

abbrev pub prepared_words : Scenario → Prepared → List ℕ
prepared_words sc prepared =
    prepared_front sc prepared ++ codes " deeds=" ++ joined (deed_word sc) prepared.deeds
    ++ codes " verdicts=" ++ joined (verdict_word sc) prepared.verdicts ++ codes " told="
    ++ versions_word sc prepared.told

abbrev pub why_words_if : Option No → List ℕ
why_words_if None = []
why_words_if (Some why) = no_words why

abbrev pub settled_words : Scenario → Settled → List ℕ
settled_words sc settled =
    codes " txn=" ++ txn_name sc settled.txn ++ codes " outcome=" ++ outcome_word settled.outcome
    ++ why_words_if settled.why

-- the first word of a cause: the fact has the others
abbrev pub cause_word : Cause → List ℕ
cause_word (cause.Denied _) = codes "denied"
cause_word (cause.No _) = codes "no"
cause_word (cause.Died _) = codes "died"
cause_word (cause.Newer _) = codes "newer"
cause_word (cause.Rounds _) = codes "rounds"
cause_word (cause.Restarted _) = codes "restarted"
cause_word cause.Halted = codes "halted"

abbrev pub decision_words : Decision → List ℕ
decision_words (decision.Commit held) = codes "commit rounds=" ++ decimal held.rounds
decision_words (decision.Abort why) = codes "abort cause=" ++ cause_word why

abbrev pub decided_words : Scenario → Decided → List ℕ
decided_words sc decided =
    codes " txn=" ++ txn_name sc decided.txn ++ codes " outcome="
    ++ decision_words decided.decision

-- what stands behind the kind
abbrev pub record_words : Scenario → Record → List ℕ
record_words sc log.Boot = []
record_words sc (log.Told told) = of_admin_words sc told.admin told.version
record_words sc (log.Prepared prepared) = prepared_words sc prepared
record_words sc (log.Settled settled) = settled_words sc settled
record_words sc (log.Decided decided) = decided_words sc decided

unfoldable pub record_text : Scenario → Record → List ℕ
record_text sc kept = record_kind kept ++ record_words sc kept
