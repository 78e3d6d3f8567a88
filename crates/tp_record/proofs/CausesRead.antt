-- Causes are read exactly.
use Rattle.std.proofs.Common.{◌≡◌, ℕ, ◌<◌, ◌^◌, List, ◌++◌, length, Some, refl, ap, arith}
use Rattle.tp_record.proofs.Cases.{Spells, bare, choice, exact_tagged, holding, pair}
use Rattle.tp_record.proofs.Exact.{AreBytes, Exact, exact_as}
use Rattle.tp_record.proofs.Generic.{exact_list, exact_long, exact_short, exact_value}
use Rattle.tp_record.specs.mirrors.Readings.{◌>>=◌, byte_at, mapped}
use Rattle.tp_types.specs.declared.records.Cause.{Cause}
use Rattle.tp_types.specs.declared.records.Cause.TheVariants as causes
use Rattle.tp_record.proofs.PartsRead.{exact_met, exact_version}
use Rattle.tp_record.specs.Spelling.{denied_bytes, out_of_range_bytes, died_bytes, newer_bytes, cause}
use Rattle.tp_record.specs.Ranges.{IsDenied, IsOutOfRange, IsDied, IsNewer, IsCause}
use Rattle.tp_record.specs.mirrors.Readings.{denied_at, out_of_range_at, died_at, newer_at, cause_at, cause_of}

pub exact_denied : Exact denied_bytes IsDenied denied_at
unfolding denied_at
exact_denied =
    exact_as _ _ _ (λ p. record { query = p.0; server = record { 0 = p.1.0 }; admin = record { 0 = p.1.1.0 }; version = p.1.1.1.0; place = p.1.1.1.1 })
    (λ d. (d.query, (d.server.0, (d.admin.0, (d.version, d.place))))) (λ a. refl) (λ d. refl)
    (pair exact_short (pair exact_short (pair exact_short (pair exact_version exact_long))))

pub exact_out_of_range : Exact out_of_range_bytes IsOutOfRange out_of_range_at
unfolding out_of_range_at
exact_out_of_range =
    exact_as _ _ _ (λ p. record { query = p.0; server = record { 0 = p.1.0 }; value = p.1.1 })
    (λ d. (d.query, (d.server.0, d.value))) (λ a. refl) (λ d. refl)
    (pair exact_short (pair exact_short exact_value))

pub exact_died : Exact died_bytes IsDied died_at
unfolding died_at
exact_died =
    exact_as _ _ _ (λ p. record { query = p.0; server = record { 0 = p.1.0 }; other = record { 0 = p.1.1.0 }; place = p.1.1.1 })
    (λ d. (d.query, (d.server.0, (d.other.0, d.place)))) (λ a. refl) (λ d. refl)
    (pair exact_short (pair exact_short (pair exact_short exact_long)))

pub exact_newer : Exact newer_bytes IsNewer newer_at
unfolding newer_at
exact_newer =
    exact_as _ _ _ (λ p. record { admin = record { 0 = p.0 }; used = p.1.0; found = p.1.1 })
    (λ d. (d.admin.0, (d.used, d.found))) (λ a. refl) (λ d. refl)
    (pair exact_short (pair exact_version exact_version))

pub exact_cause : Exact cause IsCause cause_at
unfolding cause_at
exact_cause = exact_tagged cause IsCause cause_of takes_tag again_tag solid_tag
  where
    takes_tag : (tag : ℕ) (bytes : List ℕ) (x : Cause) (rest : List ℕ) → AreBytes bytes → cause_of tag bytes ≡ Some (x, rest) → Spells cause IsCause tag bytes x rest
    takes_tag tag bytes x rest fits h =
        choice tag 1 _ _ (x, rest) h (λ is e. holding exact_denied cause IsCause causes.Denied 1 tag bytes x rest (λ a. refl) (λ a i. i) fits is e)
        (λ e. choice tag 2 _ _ (x, rest) e (λ is e. holding exact_out_of_range cause IsCause causes.No 2 tag bytes x rest (λ a. refl) (λ a i. i) fits is e)
        (λ e. choice tag 3 _ _ (x, rest) e (λ is e. holding exact_died cause IsCause causes.Died 3 tag bytes x rest (λ a. refl) (λ a i. i) fits is e)
        (λ e. choice tag 4 _ _ (x, rest) e (λ is e. holding exact_newer cause IsCause causes.Newer 4 tag bytes x rest (λ a. refl) (λ a i. i) fits is e)
        (λ e. choice tag 5 _ _ (x, rest) e (λ is e. holding (exact_list _ _ _ exact_met) cause IsCause causes.Rounds 5 tag bytes x rest (λ a. refl) (λ a i. i) fits is e)
        (λ e. choice tag 6 _ _ (x, rest) e (λ is e. holding exact_short cause IsCause (λ n. causes.Restarted (record { 0 = n })) 6 tag bytes x rest (λ a. refl) (λ a i. i) fits is e)
        (λ e. choice tag 7 _ _ (x, rest) e (λ is e. bare cause IsCause 7 tag bytes causes.Halted x rest refl tt is e)
        (λ e. absurd cc)))))))

    again_tag : (x : Cause) (rest : List ℕ) → IsCause x → length (cause x) < 2 ^ 32 → (byte_at (cause x ++ rest) >>= λ tag. cause_of tag.0 tag.1) ≡ Some (x, rest)
    again_tag (causes.Denied d) rest fits few = ap (mapped causes.Denied) (exact_denied.again d rest fits (omega arith))
    again_tag (causes.No d) rest fits few = ap (mapped causes.No) (exact_out_of_range.again d rest fits (omega arith))
    again_tag (causes.Died d) rest fits few = ap (mapped causes.Died) (exact_died.again d rest fits (omega arith))
    again_tag (causes.Newer d) rest fits few = ap (mapped causes.Newer) (exact_newer.again d rest fits (omega arith))
    again_tag (causes.Rounds d) rest fits few = ap (mapped causes.Rounds) (((exact_list _ _ _ exact_met)).again d rest fits (omega arith))
    again_tag (causes.Restarted server) rest fits few = ap (mapped (λ n. causes.Restarted (record { 0 = n }))) (exact_short.again server.0 rest fits (omega arith))
    again_tag causes.Halted rest fits few = refl

    solid_tag : (x : Cause) → 0 < length (cause x)
    solid_tag (causes.Denied d) = omega arith
    solid_tag (causes.No d) = omega arith
    solid_tag (causes.Died d) = omega arith
    solid_tag (causes.Newer d) = omega arith
    solid_tag (causes.Rounds d) = omega arith
    solid_tag (causes.Restarted server) = omega arith
    solid_tag causes.Halted = omega arith
