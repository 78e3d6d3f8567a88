-- Why an abort came: the lines below it, as a function of the scenario and the facts so far.
use Rattle.std.specs.Prelude.{ℕ, List, [], ◌∷◌, ◌++◌, map, slice_get, codes, if◌then◌else◌}
use Rattle.std.specs.List.{list_any}
use Rattle.std.specs.Option.{option_map_or}
use Rattle.tp_model.specs.Words.{Cause, Denied, Fact, Item, OutOfRange, Query, Scenario, Transaction, TxnId, What}
use Rattle.tp_model.specs.Words.cause
use Rattle.tp_model.specs.Words.decision
use Rattle.tp_model.specs.Words.what
use Rattle.tp_model.specs.Causes.{submitted_at}
use Rattle.tp_model.specs.Credentials.{clock_at}
use Rattle.tp_model.specs.Policies.{matches}
use Rattle.tp_model.specs.Queries.{item_of, query_at}
use Rattle.tp_why.specs.declared.atoms.FalseAtom.{FalseAtom}
use Rattle.tp_why.specs.Denial.{Asked, asked_of, refutation_at}
use Rattle.tp_why.specs.Held.{held}
use Rattle.tp_why.specs.Lines as lines
use Rattle.tp_why.specs.Nearest.{nearest}

-- ---- a denial

-- an atom that is false, and what comes nearest
abbrev pub atom_words : Scenario → ℕ → List Fact → Transaction → FalseAtom → List ℕ
atom_words sc place facts declared entry =
    lines.atom_words sc entry (nearest sc place facts declared entry.atom)

-- the atoms by which each rule is false that is about the action on the item; or that there is no such rule
abbrev pub rule_lines : Scenario → ℕ → List Fact → Transaction → Asked → List (List ℕ)
rule_lines sc place facts declared asked =
    if list_any (matches asked.action asked.item) asked.policy.rules
    then map (atom_words sc place facts declared) (refutation_at sc place facts declared asked)
    else codes "norule" ∷ []

-- what was asked, the credentials that count, and the rules
abbrev pub asked_lines : Scenario → ℕ → List Fact → Transaction → Asked → List (List ℕ)
asked_lines sc place facts declared asked =
    lines.query_words asked (clock_at sc place facts)
    ∷ (map lines.held_words (held sc place facts declared)
    ++ rule_lines sc place facts declared asked)

abbrev pub denial_lines : Scenario → List Fact → Denied → Transaction → List (List ℕ)
denial_lines sc facts denied declared =
    option_map_or (asked_lines sc denied.place facts declared) (asked_of sc declared denied) []

-- ---- a value out of range

abbrev pub range_lines_of : Item → List (List ℕ)
range_lines_of item = lines.range_words item ∷ []

abbrev pub range_lines_by : Scenario → Query → List (List ℕ)
range_lines_by sc query = option_map_or range_lines_of (slice_get sc.items (item_of query).0) []

-- the range of the item that was written
abbrev pub range_lines : Scenario → OutOfRange → Transaction → List (List ℕ)
range_lines sc refused declared =
    option_map_or (range_lines_by sc) (query_at declared refused.query) []

-- ---- all causes

-- the two submissions of a death; other causes say all by themselves
abbrev pub cause_lines : Scenario → List Fact → TxnId → Cause → List (List ℕ)
cause_lines sc facts txn (cause.Denied denied) =
    option_map_or (denial_lines sc facts denied) (slice_get sc.txns txn.0) []
cause_lines sc facts txn (cause.No refused) =
    option_map_or (range_lines sc refused) (slice_get sc.txns txn.0) []
cause_lines sc facts txn (cause.Died died) =
    lines.older_words sc died.other (submitted_at died.other facts) txn (submitted_at txn facts)
    ∷ []
cause_lines sc facts txn _ = []

abbrev pub why_lines_of : Scenario → List Fact → What → List (List ℕ)
why_lines_of sc facts (what.Decided txn (decision.Abort why)) = cause_lines sc facts txn why
why_lines_of sc facts _ = []

-- what stands below an abort, by all facts so far; below another fact nothing
abbrev pub why_lines : Scenario → List Fact → Fact → List (List ℕ)
why_lines sc facts fact = why_lines_of sc facts fact.what
