-- The records of an actor's log: which of them a log takes, and what a cut leaves of one.
use Rattle.std.specs.Prelude.{length, ◌≤◌, ◌++◌, ◌∷◌, [], List, Option, Some, None, if◌then◌else◌}
use Rattle.tp_log.specs.Appends.{body_max, is_kept}
use Rattle.tp_model.specs.Words.{Cut, Record}
use Rattle.tp_record.specs.Spelling.{spelling}

-- the record is not too long for a log
abbrev pub FitsLog : Record → Type 0
FitsLog kept = length (spelling kept) ≤ body_max

-- a log with what was appended to it
abbrev pub log_with : List Record → Option Record → List Record
log_with kept None = kept
log_with kept (Some forced) = kept ++ forced ∷ []

-- what a cut leaves of the record that was to be forced
abbrev pub cut_record : Cut → Option Record → Option Record
cut_record cut None = None
cut_record cut (Some forced) = if is_kept cut.calls cut.fill then Some forced else None
