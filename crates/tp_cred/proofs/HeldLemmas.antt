-- A test of what is held is a test of the credentials.
use Rattle.std.proofs.Common.{◌≡◌, ℕ, Bool, true, false, ◌&&◌, cond, List, Some, None, refl}
use Rattle.std.specs.List.{list_any}
use Rattle.std.specs.Option.{option_map_or}
use Rattle.tp_types.proofs.ListLemmas.{any_kept}
use Rattle.tp_model.specs.Words.{CredId, Credential}
use Rattle.tp_model.specs.Credentials.{holdings_in, is_valid_in, triple_by, said_in, triple_of}
use Rattle.tp_model.specs.Ids.{same_name}
use Rattle.tp_model.specs.Policies.{Triple}
use Rattle.tp_cred.specs.Holder.{Holder}
use Rattle.tp_cred.specs.Validity.{shows_in}

said_where : (test : Triple → Bool) (triple : Triple) (b : Bool) → option_map_or test (cond b (Some triple) None) false ≡ (b && test triple)
said_where test triple true = refl
said_where test triple false = refl

-- what a credential says of a subject passes a test where it is the subject's and passes
pub said : (test : Triple → Bool) (subject : List ℕ) (credential : Credential)
    → option_map_or test (triple_of subject credential) false ≡ (same_name credential.subject subject && test (triple_by credential))
said test subject credential = said_where test (triple_by credential) (same_name credential.subject subject)

-- what is held passes a test where a credential shows it
pub any_held : (holder : Holder) (creds : List CredId) (test : Triple → Bool)
    → list_any test (holdings_in holder.store holder.subject holder.now holder.revoked creds) ≡ list_any (shows_in holder test) creds
any_held holder creds test =
    any_kept test (said_in holder.store holder.subject) (is_valid_in holder.store holder.now holder.revoked)
    (λ cred. option_map_or test (said_in holder.store holder.subject cred) false) (λ cred. refl) creds
