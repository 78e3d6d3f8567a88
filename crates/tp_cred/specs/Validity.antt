-- What a valid credential of a store says.
use Rattle.std.specs.Prelude.{◌&&◌, Bool, false}
use Rattle.std.specs.Option.{option_map_or}
use Rattle.tp_model.specs.Words.{CredId}
use Rattle.tp_model.specs.Credentials.{is_valid_in, said_in}
use Rattle.tp_model.specs.Policies.{Triple}
use Rattle.tp_cred.specs.Holder.{Holder}

-- the credential is valid, and what it says of the subject passes the test
abbrev pub shows_in : Holder → (Triple → Bool) → CredId → Bool
shows_in holder test cred =
    option_map_or test (said_in holder.store holder.subject cred) false
    && is_valid_in holder.store holder.now holder.revoked cred
