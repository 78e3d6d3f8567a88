-- What credentials say that are lent.
use Rattle.std.specs.Prelude.{List, map}
use denote.Ref.{Bor}
use Rattle.tp_model.specs.Words.{Credential}
use Rattle.tp_model.specs.Credentials.{triple_by}
use Rattle.tp_model.specs.Policies.{Triple}

abbrev pub lent : Bor Credential → Credential
lent credential = credential.now

abbrev pub lent_triple : Bor Credential → Triple
lent_triple credential = triple_by credential.now

-- what credentials say
abbrev pub said_by : List (Bor Credential) → List Triple
said_by held = map lent_triple held
