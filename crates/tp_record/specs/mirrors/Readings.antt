-- Reading from left to right, as the program does: a value and the bytes after it, or nothing.
use Rattle.std.specs.Prelude.{ℕ, zero, suc, ◌+◌, ◌==◌, nat_lt, List, [], ◌∷◌, length, take, drop, Option, Some, None, if◌then◌else◌, ℤ, Result, Ok, Err}
use Rattle.std.specs.Borrow.{Bor}
use Rattle.std.specs.Int.{w128, cast_signed}
use Rattle.byteorder.specs.Endian.{big_number}
use Rattle.tp_types.specs.declared.ids.CredId.{CredId}
use Rattle.tp_types.specs.declared.ids.Version.{Version}
use Rattle.tp_types.specs.declared.policy.Action.{Action}
use Rattle.tp_types.specs.declared.policy.Action.TheVariants as actions
use Rattle.tp_types.specs.declared.records.Cause.{Cause}
use Rattle.tp_types.specs.declared.records.Cause.TheVariants as causes
use Rattle.tp_types.specs.declared.records.CommitRecord.{CommitRecord}
use Rattle.tp_types.specs.declared.records.Decided.{Decided}
use Rattle.tp_types.specs.declared.records.Decision.{Decision}
use Rattle.tp_types.specs.declared.records.Decision.TheVariants as decisions
use Rattle.tp_types.specs.declared.records.Deed.{Deed}
use Rattle.tp_types.specs.declared.records.Denied.{Denied}
use Rattle.tp_types.specs.declared.records.Died.{Died}
use Rattle.tp_types.specs.declared.records.Instance.{Instance}
use Rattle.tp_types.specs.declared.records.Met.{Met}
use Rattle.tp_types.specs.declared.records.Newer.{Newer}
use Rattle.tp_types.specs.declared.records.No.{No}
use Rattle.tp_types.specs.declared.records.No.TheVariants as noes
use Rattle.tp_types.specs.declared.records.OutOfRange.{OutOfRange}
use Rattle.tp_types.specs.declared.records.Outcome.{Outcome}
use Rattle.tp_types.specs.declared.records.Outcome.TheVariants as outcomes
use Rattle.tp_types.specs.declared.records.Prepared.{Prepared}
use Rattle.tp_types.specs.declared.records.Record.{Record}
use Rattle.tp_types.specs.declared.records.Record.TheVariants as kinds
use Rattle.tp_types.specs.declared.records.Settled.{Settled}
use Rattle.tp_types.specs.declared.records.Told.{Told}
use Rattle.tp_types.specs.declared.records.Verdict.{Verdict}

abbrev pub Read : Type 0 → Type 0
Read A = Option (A × List ℕ)

abbrev pub Reader : Type 0 → Type 0
Reader A = List ℕ → Read A

infixl 10 ◌>>=◌
abbrev pub ◌>>=◌ : {A B : Type 0} → Option A → (A → Option B) → Option B
None >>= f = None
(Some x) >>= f = f x

-- the same bytes, for another value
abbrev pub mapped : {A B : Type 0} → (A → B) → Read A → Read B
mapped f None = None
mapped f (Some x) = Some (f x.0, x.1)

-- one after the other
abbrev pub both : {A B : Type 0} → Reader A → Reader B → Reader (A × B)
both r s bytes = r bytes >>= λ a. s a.1 >>= λ b. Some ((a.0, b.0), b.1)

abbrev pub byte_at : Reader ℕ
byte_at [] = None
byte_at (byte ∷ rest) = Some (byte, rest)

-- so many bytes
abbrev pub front_at : ℕ → Reader (List ℕ)
front_at n bytes = if nat_lt (length bytes) n then None else Some (take n bytes, drop n bytes)

-- the bytes that a reference shows
abbrev pub shown : {E : Type 0} → Result (Bor (List ℕ)) E → Result (List ℕ) E
shown (Ok front) = Ok front.now
shown (Err e) = Err e

abbrev pub number_at : ℕ → Reader ℕ
number_at n bytes =
    if nat_lt (length bytes) n then None else Some (big_number n (take n bytes), drop n bytes)

unfoldable pub value_at : Reader ℤ
value_at bytes = mapped (cast_signed w128) (number_at 16 bytes)

-- an option, behind its flag
abbrev pub flagged : {A : Type 0} → Reader A → ℕ → Reader (Option A)
flagged r flag bytes =
    if flag == 0 then Some (None, bytes) else (if flag == 1 then mapped Some (r bytes) else None)

abbrev pub option_at : {A : Type 0} → Reader A → Reader (Option A)
option_at r bytes = byte_at bytes >>= λ flag. flagged r flag.0 flag.1

-- so many, one after the other
abbrev pub times : {A : Type 0} → Reader A → ℕ → Reader (List A)
times r zero bytes = Some ([], bytes)
times r (suc n) bytes =
    r bytes >>= λ first. times r n first.1 >>= λ others. Some (first.0 ∷ others.0, others.1)

abbrev pub list_at : {A : Type 0} → Reader A → Reader (List A)
list_at r bytes = number_at 4 bytes >>= λ count. times r count.0 count.1

-- ---- the parts of records

abbrev pub action_of : ℕ → Reader Action
action_of tag bytes =
    if tag == 0 then Some (actions.Read, bytes)
    else (if tag == 1 then Some (actions.Write, bytes) else None)

unfoldable pub action_at : Reader Action
action_at bytes = byte_at bytes >>= λ tag. action_of tag.0 tag.1

abbrev pub outcome_of : ℕ → Reader Outcome
outcome_of tag bytes =
    if tag == 0 then Some (outcomes.Commit, bytes)
    else (if tag == 1 then Some (outcomes.Abort, bytes) else None)

unfoldable pub outcome_at : Reader Outcome
outcome_at bytes = byte_at bytes >>= λ tag. outcome_of tag.0 tag.1

unfoldable pub credential_at : Reader CredId
credential_at bytes = mapped (λ n. record { 0 = n }) (number_at 4 bytes)

unfoldable pub version_at : Reader Version
version_at bytes = mapped (λ n. record { 0 = n }) (number_at 4 bytes)

unfoldable pub deed_at : Reader Deed
deed_at bytes =
    mapped (λ p. record {
      query = p.0;
      item = record { 0 = p.1.0 };
      action = p.1.1.0;
      value = p.1.1.1;
    })
    (both (number_at 4) (both (number_at 4) (both action_at value_at)) bytes)

unfoldable pub verdict_at : Reader Verdict
verdict_at bytes =
    mapped (λ p. record {
      query = p.0;
      server = record { 0 = p.1.0 };
      admin = record { 0 = p.1.1.0 };
      version = p.1.1.1.0;
      place = p.1.1.1.1.0;
      rule = p.1.1.1.1.1.0;
      uses = p.1.1.1.1.1.1;
    })
    (both (number_at 4) (both (number_at 4) (both (number_at 4) (both version_at
    (both (number_at 8) (both (option_at (number_at 4)) (list_at credential_at)))))) bytes)

unfoldable pub instance_at : Reader Instance
instance_at bytes =
    mapped (λ p. record { reading = p.0; proofs = p.1 })
    (both (option_at (number_at 8)) (list_at verdict_at) bytes)

abbrev pub no_of : ℕ → Reader No
no_of tag bytes =
    if tag == 0 then mapped (λ p. noes.Range p.0 p.1) (both (number_at 4) value_at bytes)
    else (if tag == 1 then Some (noes.Restarted, bytes) else None)

unfoldable pub no_at : Reader No
no_at bytes = byte_at bytes >>= λ tag. no_of tag.0 tag.1

unfoldable pub met_at : Reader Met
met_at bytes =
    mapped (λ p. record {
      admin = record { 0 = p.0 };
      used = p.1.0;
      newest = p.1.1.0;
      place = p.1.1.1;
    })
    (both (number_at 4) (both version_at (both version_at (number_at 8))) bytes)

-- ---- why a transaction aborted

unfoldable pub denied_at : Reader Denied
denied_at bytes =
    mapped (λ p. record {
      query = p.0;
      server = record { 0 = p.1.0 };
      admin = record { 0 = p.1.1.0 };
      version = p.1.1.1.0;
      place = p.1.1.1.1;
    })
    (both (number_at 4)
    (both (number_at 4) (both (number_at 4) (both version_at (number_at 8)))) bytes)

unfoldable pub out_of_range_at : Reader OutOfRange
out_of_range_at bytes =
    mapped (λ p. record { query = p.0; server = record { 0 = p.1.0 }; value = p.1.1 })
    (both (number_at 4) (both (number_at 4) value_at) bytes)

unfoldable pub died_at : Reader Died
died_at bytes =
    mapped (λ p. record {
      query = p.0;
      server = record { 0 = p.1.0 };
      other = record { 0 = p.1.1.0 };
      place = p.1.1.1;
    })
    (both (number_at 4) (both (number_at 4) (both (number_at 4) (number_at 8))) bytes)

unfoldable pub newer_at : Reader Newer
newer_at bytes =
    mapped (λ p. record { admin = record { 0 = p.0 }; used = p.1.0; found = p.1.1 })
    (both (number_at 4) (both version_at version_at) bytes)

abbrev pub cause_of : ℕ → Reader Cause
cause_of tag bytes =
    if tag == 1 then mapped causes.Denied (denied_at bytes)
    else (if tag == 2 then mapped causes.No (out_of_range_at bytes)
    else (if tag == 3 then mapped causes.Died (died_at bytes)
    else (if tag == 4 then mapped causes.Newer (newer_at bytes)
    else (if tag == 5 then mapped causes.Rounds (list_at met_at bytes)
    else (if tag == 6 then mapped (λ n. causes.Restarted (record { 0 = n })) (number_at 4 bytes)
    else (if tag == 7 then Some (causes.Halted, bytes) else None))))))

unfoldable pub cause_at : Reader Cause
cause_at bytes = byte_at bytes >>= λ tag. cause_of tag.0 tag.1

-- ---- records

unfoldable pub commit_at : Reader CommitRecord
commit_at bytes =
    mapped (λ p. record { rounds = p.0; instances = p.1.0; deeds = p.1.1 })
    (both (number_at 4) (both (list_at instance_at) (list_at deed_at)) bytes)

abbrev pub decision_of : ℕ → Reader Decision
decision_of tag bytes =
    if tag == 0 then mapped decisions.Commit (commit_at bytes)
    else (if tag == 1 then mapped decisions.Abort (cause_at bytes) else None)

unfoldable pub decision_at : Reader Decision
decision_at bytes = byte_at bytes >>= λ tag. decision_of tag.0 tag.1

unfoldable pub told_at : Reader Told
told_at bytes =
    mapped (λ p. record { admin = record { 0 = p.0 }; version = p.1 })
    (both (number_at 4) version_at bytes)

unfoldable pub prepared_at : Reader Prepared
prepared_at bytes =
    mapped (λ p. record {
      txn = record { 0 = p.0 };
      age = p.1.0;
      epoch = p.1.1.0;
      turn = p.1.1.1.0;
      deeds = p.1.1.1.1.0;
      verdicts = p.1.1.1.1.1.0;
      told = p.1.1.1.1.1.1;
    })
    (both (number_at 4) (both (number_at 8) (both (number_at 8) (both (number_at 4)
    (both (list_at deed_at) (both (list_at verdict_at) (list_at version_at)))))) bytes)

unfoldable pub settled_at : Reader Settled
settled_at bytes =
    mapped (λ p. record { txn = record { 0 = p.0 }; outcome = p.1.0; why = p.1.1 })
    (both (number_at 4) (both outcome_at (option_at no_at)) bytes)

unfoldable pub decided_at : Reader Decided
decided_at bytes =
    mapped (λ p. record { txn = record { 0 = p.0 }; decision = p.1 })
    (both (number_at 4) decision_at bytes)

abbrev pub content_of : ℕ → Reader Record
content_of tag bytes =
    if tag == 1 then Some (kinds.Boot, bytes)
    else (if tag == 2 then mapped kinds.Told (told_at bytes)
    else (if tag == 3 then mapped kinds.Prepared (prepared_at bytes)
    else (if tag == 4 then mapped kinds.Settled (settled_at bytes)
    else (if tag == 5 then mapped kinds.Decided (decided_at bytes) else None))))

unfoldable pub content_at : Reader Record
content_at bytes = byte_at bytes >>= λ tag. content_of tag.0 tag.1

-- a body, whose length is that of its content
abbrev pub measured : ℕ → ℕ → Record × List ℕ → Read Record
measured count before r = if length r.1 + count == before then Some r else None

unfoldable pub body_at : Reader Record
body_at bytes =
    number_at 4 bytes >>= λ count. content_at count.1 >>= λ r. measured count.0 (length count.1) r
