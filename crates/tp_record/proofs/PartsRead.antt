-- The parts of records are read exactly.
use Rattle.std.proofs.Common.{◌≡◌, ℕ, ◌<◌, ◌^◌, List, ◌++◌, length, Some, refl, ap, arith}
use Rattle.tp_record.proofs.Cases.{Spells, bare, choice, exact_tagged, holding, pair}
use Rattle.tp_record.proofs.Exact.{AreBytes, Exact, exact_as}
use Rattle.tp_record.proofs.Generic.{exact_list, exact_long, exact_option, exact_short, exact_value}
use Rattle.tp_record.specs.mirrors.Readings.{◌>>=◌, byte_at, mapped}
use Rattle.tp_types.specs.declared.policy.Action.{Action}
use Rattle.tp_types.specs.declared.policy.Action.TheVariants as actions
use Rattle.tp_types.specs.declared.records.Outcome.{Outcome}
use Rattle.tp_types.specs.declared.records.Outcome.TheVariants as outcomes
use Rattle.tp_types.specs.declared.records.No.{No}
use Rattle.tp_types.specs.declared.records.No.TheVariants as noes
use Rattle.tp_record.specs.Spelling.{action, outcome, credential, version, deed, verdict, instance, no, met_bytes}
use Rattle.tp_record.specs.Ranges.{IsAction, IsOutcome, IsCredential, IsVersion, IsDeed, IsVerdict, IsInstance, IsNo, IsMet}
use Rattle.tp_record.specs.mirrors.Readings.{action_at, action_of, outcome_at, outcome_of, credential_at, version_at, deed_at, verdict_at, instance_at, no_at, no_of, met_at}

pub exact_action : Exact action IsAction action_at
unfolding action_at
exact_action = exact_tagged action IsAction action_of takes_tag again_tag solid_tag
  where
    takes_tag : (tag : ℕ) (bytes : List ℕ) (x : Action) (rest : List ℕ) → AreBytes bytes → action_of tag bytes ≡ Some (x, rest) → Spells action IsAction tag bytes x rest
    takes_tag tag bytes x rest fits h =
        choice tag 0 _ _ (x, rest) h (λ is e. bare action IsAction 0 tag bytes actions.Read x rest refl tt is e)
        (λ e. choice tag 1 _ _ (x, rest) e (λ is e. bare action IsAction 1 tag bytes actions.Write x rest refl tt is e)
        (λ e. absurd cc))

    again_tag : (x : Action) (rest : List ℕ) → IsAction x → length (action x) < 2 ^ 32 → (byte_at (action x ++ rest) >>= λ tag. action_of tag.0 tag.1) ≡ Some (x, rest)
    again_tag actions.Read rest fits few = refl
    again_tag actions.Write rest fits few = refl

    solid_tag : (x : Action) → 0 < length (action x)
    solid_tag actions.Read = omega arith
    solid_tag actions.Write = omega arith

pub exact_outcome : Exact outcome IsOutcome outcome_at
unfolding outcome_at
exact_outcome = exact_tagged outcome IsOutcome outcome_of takes_tag again_tag solid_tag
  where
    takes_tag : (tag : ℕ) (bytes : List ℕ) (x : Outcome) (rest : List ℕ) → AreBytes bytes → outcome_of tag bytes ≡ Some (x, rest) → Spells outcome IsOutcome tag bytes x rest
    takes_tag tag bytes x rest fits h =
        choice tag 0 _ _ (x, rest) h (λ is e. bare outcome IsOutcome 0 tag bytes outcomes.Commit x rest refl tt is e)
        (λ e. choice tag 1 _ _ (x, rest) e (λ is e. bare outcome IsOutcome 1 tag bytes outcomes.Abort x rest refl tt is e)
        (λ e. absurd cc))

    again_tag : (x : Outcome) (rest : List ℕ) → IsOutcome x → length (outcome x) < 2 ^ 32 → (byte_at (outcome x ++ rest) >>= λ tag. outcome_of tag.0 tag.1) ≡ Some (x, rest)
    again_tag outcomes.Commit rest fits few = refl
    again_tag outcomes.Abort rest fits few = refl

    solid_tag : (x : Outcome) → 0 < length (outcome x)
    solid_tag outcomes.Commit = omega arith
    solid_tag outcomes.Abort = omega arith

pub exact_credential : Exact credential IsCredential credential_at
unfolding credential_at
exact_credential = exact_as _ _ _ (λ n. record { 0 = n }) (λ d. d.0) (λ n. refl) (λ d. refl) exact_short

pub exact_version : Exact version IsVersion version_at
unfolding version_at
exact_version = exact_as _ _ _ (λ n. record { 0 = n }) (λ d. d.0) (λ n. refl) (λ d. refl) exact_short

pub exact_deed : Exact deed IsDeed deed_at
unfolding deed_at
exact_deed =
    exact_as _ _ _ (λ p. record { query = p.0; item = record { 0 = p.1.0 }; action = p.1.1.0; value = p.1.1.1 })
    (λ d. (d.query, (d.item.0, (d.action, d.value)))) (λ a. refl) (λ d. refl)
    (pair exact_short (pair exact_short (pair exact_action exact_value)))

pub exact_verdict : Exact verdict IsVerdict verdict_at
unfolding verdict_at
exact_verdict =
    exact_as _ _ _ (λ p. record { query = p.0; server = record { 0 = p.1.0 }; admin = record { 0 = p.1.1.0 }; version = p.1.1.1.0; place = p.1.1.1.1.0; rule = p.1.1.1.1.1.0; uses = p.1.1.1.1.1.1 })
    (λ d. (d.query, (d.server.0, (d.admin.0, (d.version, (d.place, (d.rule, d.uses))))))) (λ a. refl) (λ d. refl)
    (pair exact_short (pair exact_short (pair exact_short (pair exact_version (pair exact_long (pair (exact_option _ _ _ exact_short) (exact_list _ _ _ exact_credential)))))))

pub exact_instance : Exact instance IsInstance instance_at
unfolding instance_at
exact_instance =
    exact_as _ _ _ (λ p. record { reading = p.0; proofs = p.1 })
    (λ d. (d.reading, d.proofs)) (λ a. refl) (λ d. refl)
    (pair (exact_option _ _ _ exact_long) (exact_list _ _ _ exact_verdict))

pub exact_no : Exact no IsNo no_at
unfolding no_at
exact_no = exact_tagged no IsNo no_of takes_tag again_tag solid_tag
  where
    takes_tag : (tag : ℕ) (bytes : List ℕ) (x : No) (rest : List ℕ) → AreBytes bytes → no_of tag bytes ≡ Some (x, rest) → Spells no IsNo tag bytes x rest
    takes_tag tag bytes x rest fits h =
        choice tag 0 _ _ (x, rest) h (λ is e. holding (pair exact_short exact_value) no IsNo (λ p. noes.Range p.0 p.1) 0 tag bytes x rest (λ a. refl) (λ a i. i) fits is e)
        (λ e. choice tag 1 _ _ (x, rest) e (λ is e. bare no IsNo 1 tag bytes noes.Restarted x rest refl tt is e)
        (λ e. absurd cc))

    again_tag : (x : No) (rest : List ℕ) → IsNo x → length (no x) < 2 ^ 32 → (byte_at (no x ++ rest) >>= λ tag. no_of tag.0 tag.1) ≡ Some (x, rest)
    again_tag (noes.Range query z) rest fits few = ap (mapped (λ p. noes.Range p.0 p.1)) (((pair exact_short exact_value)).again (query, z) rest fits (omega arith))
    again_tag noes.Restarted rest fits few = refl

    solid_tag : (x : No) → 0 < length (no x)
    solid_tag (noes.Range query z) = omega arith
    solid_tag noes.Restarted = omega arith

pub exact_met : Exact met_bytes IsMet met_at
unfolding met_at
exact_met =
    exact_as _ _ _ (λ p. record { admin = record { 0 = p.0 }; used = p.1.0; newest = p.1.1.0; place = p.1.1.1 })
    (λ d. (d.admin.0, (d.used, (d.newest, d.place)))) (λ a. refl) (λ d. refl)
    (pair exact_short (pair exact_version (pair exact_version exact_long)))
