-- Each kind of record is read exactly.
use Rattle.std.proofs.Common.{◌≡◌, ℕ, ◌<◌, ◌^◌, List, ◌++◌, length, Some, refl, ap, arith}
use Rattle.tp_record.proofs.Cases.{Spells, bare, choice, exact_tagged, holding, pair}
use Rattle.tp_record.proofs.Exact.{AreBytes, Exact, exact_as}
use Rattle.tp_record.proofs.Generic.{exact_list, exact_long, exact_option, exact_short}
use Rattle.tp_record.specs.mirrors.Readings.{◌>>=◌, byte_at, mapped}
use Rattle.tp_types.specs.declared.records.Decision.{Decision}
use Rattle.tp_types.specs.declared.records.Decision.TheVariants as decisions
use Rattle.tp_types.specs.declared.records.Record.{Record}
use Rattle.tp_types.specs.declared.records.Record.TheVariants as kinds
use Rattle.tp_record.proofs.PartsRead.{exact_deed, exact_instance, exact_no, exact_outcome, exact_verdict, exact_version}
use Rattle.tp_record.proofs.CausesRead.{exact_cause}
use Rattle.tp_record.specs.Spelling.{commit, decision, told_bytes, prepared_bytes, settled_bytes, decided_bytes, content}
use Rattle.tp_record.specs.Ranges.{IsCommit, IsDecision, IsTold, IsPrepared, IsSettled, IsDecided, IsInRange}
use Rattle.tp_record.specs.mirrors.Readings.{commit_at, decision_at, decision_of, told_at, prepared_at, settled_at, decided_at, content_at, content_of}

pub exact_commit : Exact commit IsCommit commit_at
unfolding commit_at
exact_commit =
    exact_as _ _ _ (λ p. record { rounds = p.0; instances = p.1.0; deeds = p.1.1 })
    (λ d. (d.rounds, (d.instances, d.deeds))) (λ a. refl) (λ d. refl)
    (pair exact_short (pair (exact_list _ _ _ exact_instance) (exact_list _ _ _ exact_deed)))

pub exact_decision : Exact decision IsDecision decision_at
unfolding decision_at
exact_decision = exact_tagged decision IsDecision decision_of takes_tag again_tag solid_tag
  where
    takes_tag : (tag : ℕ) (bytes : List ℕ) (x : Decision) (rest : List ℕ) → AreBytes bytes → decision_of tag bytes ≡ Some (x, rest) → Spells decision IsDecision tag bytes x rest
    takes_tag tag bytes x rest fits h =
        choice tag 0 _ _ (x, rest) h (λ is e. holding exact_commit decision IsDecision decisions.Commit 0 tag bytes x rest (λ a. refl) (λ a i. i) fits is e)
        (λ e. choice tag 1 _ _ (x, rest) e (λ is e. holding exact_cause decision IsDecision decisions.Abort 1 tag bytes x rest (λ a. refl) (λ a i. i) fits is e)
        (λ e. absurd cc))

    again_tag : (x : Decision) (rest : List ℕ) → IsDecision x → length (decision x) < 2 ^ 32 → (byte_at (decision x ++ rest) >>= λ tag. decision_of tag.0 tag.1) ≡ Some (x, rest)
    again_tag (decisions.Commit d) rest fits few = ap (mapped decisions.Commit) (exact_commit.again d rest fits (omega arith))
    again_tag (decisions.Abort d) rest fits few = ap (mapped decisions.Abort) (exact_cause.again d rest fits (omega arith))

    solid_tag : (x : Decision) → 0 < length (decision x)
    solid_tag (decisions.Commit d) = omega arith
    solid_tag (decisions.Abort d) = omega arith

pub exact_told : Exact told_bytes IsTold told_at
unfolding told_at
exact_told =
    exact_as _ _ _ (λ p. record { admin = record { 0 = p.0 }; version = p.1 })
    (λ d. (d.admin.0, d.version)) (λ a. refl) (λ d. refl)
    (pair exact_short exact_version)

pub exact_prepared : Exact prepared_bytes IsPrepared prepared_at
unfolding prepared_at
exact_prepared =
    exact_as _ _ _ (λ p. record { txn = record { 0 = p.0 }; age = p.1.0; epoch = p.1.1.0; turn = p.1.1.1.0; deeds = p.1.1.1.1.0; verdicts = p.1.1.1.1.1.0; told = p.1.1.1.1.1.1 })
    (λ d. (d.txn.0, (d.age, (d.epoch, (d.turn, (d.deeds, (d.verdicts, d.told))))))) (λ a. refl) (λ d. refl)
    (pair exact_short (pair exact_long (pair exact_long (pair exact_short (pair (exact_list _ _ _ exact_deed) (pair (exact_list _ _ _ exact_verdict) (exact_list _ _ _ exact_version)))))))

pub exact_settled : Exact settled_bytes IsSettled settled_at
unfolding settled_at
exact_settled =
    exact_as _ _ _ (λ p. record { txn = record { 0 = p.0 }; outcome = p.1.0; why = p.1.1 })
    (λ d. (d.txn.0, (d.outcome, d.why))) (λ a. refl) (λ d. refl)
    (pair exact_short (pair exact_outcome (exact_option _ _ _ exact_no)))

pub exact_decided : Exact decided_bytes IsDecided decided_at
unfolding decided_at
exact_decided =
    exact_as _ _ _ (λ p. record { txn = record { 0 = p.0 }; decision = p.1 })
    (λ d. (d.txn.0, d.decision)) (λ a. refl) (λ d. refl)
    (pair exact_short exact_decision)

pub exact_content : Exact content IsInRange content_at
unfolding content_at
exact_content = exact_tagged content IsInRange content_of takes_tag again_tag solid_tag
  where
    takes_tag : (tag : ℕ) (bytes : List ℕ) (x : Record) (rest : List ℕ) → AreBytes bytes → content_of tag bytes ≡ Some (x, rest) → Spells content IsInRange tag bytes x rest
    takes_tag tag bytes x rest fits h =
        choice tag 1 _ _ (x, rest) h (λ is e. bare content IsInRange 1 tag bytes kinds.Boot x rest refl tt is e)
        (λ e. choice tag 2 _ _ (x, rest) e (λ is e. holding exact_told content IsInRange kinds.Told 2 tag bytes x rest (λ a. refl) (λ a i. i) fits is e)
        (λ e. choice tag 3 _ _ (x, rest) e (λ is e. holding exact_prepared content IsInRange kinds.Prepared 3 tag bytes x rest (λ a. refl) (λ a i. i) fits is e)
        (λ e. choice tag 4 _ _ (x, rest) e (λ is e. holding exact_settled content IsInRange kinds.Settled 4 tag bytes x rest (λ a. refl) (λ a i. i) fits is e)
        (λ e. choice tag 5 _ _ (x, rest) e (λ is e. holding exact_decided content IsInRange kinds.Decided 5 tag bytes x rest (λ a. refl) (λ a i. i) fits is e)
        (λ e. absurd cc)))))

    again_tag : (x : Record) (rest : List ℕ) → IsInRange x → length (content x) < 2 ^ 32 → (byte_at (content x ++ rest) >>= λ tag. content_of tag.0 tag.1) ≡ Some (x, rest)
    again_tag kinds.Boot rest fits few = refl
    again_tag (kinds.Told d) rest fits few = ap (mapped kinds.Told) (exact_told.again d rest fits (omega arith))
    again_tag (kinds.Prepared d) rest fits few = ap (mapped kinds.Prepared) (exact_prepared.again d rest fits (omega arith))
    again_tag (kinds.Settled d) rest fits few = ap (mapped kinds.Settled) (exact_settled.again d rest fits (omega arith))
    again_tag (kinds.Decided d) rest fits few = ap (mapped kinds.Decided) (exact_decided.again d rest fits (omega arith))

    solid_tag : (x : Record) → 0 < length (content x)
    solid_tag kinds.Boot = omega arith
    solid_tag (kinds.Told d) = omega arith
    solid_tag (kinds.Prepared d) = omega arith
    solid_tag (kinds.Settled d) = omega arith
    solid_tag (kinds.Decided d) = omega arith
