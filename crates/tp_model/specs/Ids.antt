-- Equal ids, equal names, and equal proofs.
use Rattle.std.specs.Prelude.{ℕ, ◌==◌, ◌&&◌, List, Bool, Option}
use Rattle.std.specs.Cmp.Lexicographic.{pointwise}
use Rattle.std.specs.Option.{option_eq}
use Rattle.tp_model.specs.Words.{AdminId, CredId, ItemId, ServerId, TxnId, Verdict, Version}

abbrev pub same_admin : AdminId → AdminId → Bool
same_admin one other = one.0 == other.0

abbrev pub same_cred : CredId → CredId → Bool
same_cred one other = one.0 == other.0

abbrev pub same_item : ItemId → ItemId → Bool
same_item one other = one.0 == other.0

abbrev pub same_server : ServerId → ServerId → Bool
same_server one other = one.0 == other.0

abbrev pub same_txn : TxnId → TxnId → Bool
same_txn one other = one.0 == other.0

-- names are equal by their bytes
abbrev pub same_name : List ℕ → List ℕ → Bool
same_name one other = pointwise ◌==◌ one other

abbrev pub same_version : Version → Version → Bool
same_version one other = one.0 == other.0

-- rules are equal by their numbers; no rule is equal to no rule
abbrev pub same_rule : Option ℕ → Option ℕ → Bool
same_rule one other = option_eq ◌==◌ one other

-- the proofs, true or false, say the same
abbrev pub same_verdict : Verdict → Verdict → Bool
same_verdict one other =
    (one.query == other.query) && same_server one.server other.server
    && same_admin one.admin other.admin
    && same_version one.version other.version
    && (one.place == other.place)
    && same_rule one.rule other.rule
    && pointwise same_cred one.uses other.uses

-- as many proofs, which say the same in turn
abbrev pub same_proofs : List Verdict → List Verdict → Bool
same_proofs one other = pointwise same_verdict one other
