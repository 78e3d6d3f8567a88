-- What the programs of an evaluation speak of in their contracts.
use Rattle.std.specs.Prelude.{ℕ, List, Bool, false, Option, Some, None}
use Rattle.std.specs.Option.{option_map_or}
use Rattle.tp_model.specs.Words.{Action, Cond, CredId, Rule}
use Rattle.tp_model.specs.Credentials.{said_in}
use Rattle.tp_model.specs.Policies.{Triple}
use Rattle.tp_cred.specs.Holder.{Holder}
use Rattle.tp_cred.specs.Validity.{shows_in}
use Rattle.tp_eval.specs.declared.evidence.Evidence.{Evidence}
use Rattle.tp_eval.specs.Uses.{once, uses_of, uses_of_rule}

-- what the credential says of the subject passes the test
abbrev pub says : Evidence → (Triple → Bool) → CredId → Bool
says held test cred = option_map_or test (said_in held.creds.now held.subject.now cred) false

-- of whom those presented are to speak, and when they are to be valid
abbrev pub holder_in : Evidence → Holder
holder_in held = record {
  store = held.creds.now;
  subject = held.subject.now;
  now = held.clock;
  revoked = held.revoked.now;
}

-- the credential is valid, and what it says of the subject passes the test
abbrev pub shows : Evidence → (Triple → Bool) → CredId → Bool
shows held test cred = shows_in (holder_in held) test cred

abbrev pub takes : Evidence → Cond → Option (List CredId)
takes held condition = uses_of (shows held) held.presented.now condition

abbrev pub takes_by_rule : Evidence → Action → List ℕ → Rule → Option (List CredId)
takes_by_rule held asked item rule = uses_of_rule (shows held) held.presented.now asked item rule

-- a list after what was taken was added, each once; where nothing makes the condition true it stays
abbrev pub gathered : List CredId → Option (List CredId) → List CredId
gathered uses None = uses
gathered uses (Some creds) = once uses creds
