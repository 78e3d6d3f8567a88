-- What the programs over credentials speak of in their contracts.
use Rattle.std.specs.Prelude.{List, Bool}
use Rattle.tp_model.specs.Words.{CredId}
use Rattle.tp_model.specs.Policies.{Triple}
use Rattle.tp_model.specs.Credentials.{holdings_in}
use Rattle.tp_cred.specs.declared.presented.Presented.{Presented}
use Rattle.tp_cred.specs.Holder.{Holder}
use Rattle.tp_cred.specs.Validity.{shows_in}

-- of whom those presented are to speak, and when they are to be valid
abbrev pub holder_in : Presented → Holder
holder_in held = record {
  store = held.store.now;
  subject = held.subject.now;
  now = held.clock;
  revoked = held.revoked.now;
}

abbrev pub held_by : Presented → List Triple
held_by held = holdings_in held.store.now held.subject.now held.clock held.revoked.now held.creds.now

abbrev pub shows : Presented → (Triple → Bool) → CredId → Bool
shows held test cred = shows_in (holder_in held) test cred
