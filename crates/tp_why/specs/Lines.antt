-- The lines below a decision: what each says.
use Rattle.std.specs.Prelude.{ℕ, List, [], ◌++◌, Option, Some, None, codes, decimal}
use Rattle.std.specs.Fmt.{signed_decimal}
use Rattle.std.specs.List.{flat_map}
use Rattle.tp_model.specs.Words.{Credential, Item, Scenario, TxnId}
use Rattle.tp_types.specs.declared.policy.Op.TheVariants.{Equal}
use Rattle.tp_policy_text.specs.Printed.{atom_text}
use Rattle.tp_report.specs.ReportText.{action_word, cred_name, txn_name}
use Rattle.tp_why.specs.declared.atoms.FalseAtom.{FalseAtom}
use Rattle.tp_why.specs.declared.nearest.Failing.{Failing}
use Rattle.tp_why.specs.declared.nearest.Fault.{Fault}
use Rattle.tp_why.specs.declared.nearest.Fault.TheVariants.{Subject, Value, Early, Late, Revoked}
use Rattle.tp_why.specs.Denial.{Asked}

-- ---- lines

-- `P why WORDS`
abbrev pub why_line : ℕ → List ℕ → List ℕ
why_line place words = decimal place ++ codes " why " ++ words ++ codes "\n"

abbrev pub why_text : ℕ → List (List ℕ) → List ℕ
why_text place lines = flat_map (why_line place) lines

-- `P behind WORDS`
abbrev pub behind_line : ℕ → List ℕ → List ℕ
behind_line place words = decimal place ++ codes " behind " ++ words ++ codes "\n"

abbrev pub behind_text : ℕ → List (List ℕ) → List ℕ
behind_text place lines = flat_map (behind_line place) lines

-- ---- a denial

-- `query read ITEM clock N`: what was asked, and the clock at the place of the denial
abbrev pub query_words : Asked → ℕ → List ℕ
query_words asked clock =
    codes "query " ++ action_word asked.action ++ codes " " ++ asked.item ++ codes " clock "
    ++ decimal clock

-- `held CRED ISSUER.ATTR = VALUE`: a credential that counts
abbrev pub held_words : Credential → List ℕ
held_words credential =
    codes "held " ++ credential.name ++ codes " "
    ++ atom_text credential.issuer credential.attr Equal credential.value

abbrev pub fault_word : Fault → List ℕ
fault_word Subject = codes "subject"
fault_word Value = codes "value"
fault_word Early = codes "early"
fault_word Late = codes "late"
fault_word Revoked = codes "revoked"

-- `absent`, or the test that the credential failed that comes nearest
abbrev pub nearest_words : Scenario → Option Failing → List ℕ
nearest_words sc None = codes "absent"
nearest_words sc (Some failing) = fault_word failing.fault ++ codes " " ++ cred_name sc failing.cred

-- `rule K ISSUER.ATTR OP VALUE absent`: an atom of rule K that is false, and what comes nearest
abbrev pub atom_words : Scenario → FalseAtom → Option Failing → List ℕ
atom_words sc entry failing =
    codes "rule " ++ decimal entry.rule ++ codes " "
    ++ atom_text entry.atom.issuer entry.atom.attr entry.atom.op entry.atom.wanted ++ codes " "
    ++ nearest_words sc failing

-- ---- other aborts

-- `range ITEM MIN MAX`
abbrev pub range_words : Item → List ℕ
range_words item =
    codes "range " ++ item.name ++ codes " " ++ signed_decimal item.min ++ codes " "
    ++ signed_decimal item.max

-- a place, or nothing
abbrev pub place_word : Option ℕ → List ℕ
place_word None = []
place_word (Some place) = decimal place

-- `TXN PLACE`: a transaction and the place of its submission
abbrev pub submission_words : Scenario → TxnId → Option ℕ → List ℕ
submission_words sc txn place = txn_name sc txn ++ codes " " ++ place_word place

-- `older TXN PLACE TXN PLACE`: the older transaction, and the one that aborted
abbrev pub older_words : Scenario → TxnId → Option ℕ → TxnId → Option ℕ → List ℕ
older_words sc older older_place younger younger_place =
    codes "older " ++ submission_words sc older older_place ++ codes " "
    ++ submission_words sc younger younger_place

-- ---- a commit

-- `ADMIN USED NEWEST`
abbrev pub behind_words : List ℕ → ℕ → ℕ → List ℕ
behind_words admin used newest =
    admin ++ codes " " ++ decimal used ++ codes " " ++ decimal newest
