-- The authority's row, and what moves its clock and its revocations.
use Rattle.std.specs.Prelude.{ℕ, ◌+◌, ◌^◌, List, [], ◌∷◌, length, replicate, slice_set, Option, Some, None}
use Rattle.std.specs.List.{filter_map}
use Rattle.tp_model.specs.Words.{AskRequest, Body, CredId, Mail, Scenario}
use Rattle.tp_model.specs.Words.actor
use Rattle.tp_model.specs.Words.body
use Rattle.tp_types.specs.Effect.{Effect, sends, ignores}
use Rattle.tp_offices.specs.declared.authority.Authority.{Authority}

-- the authority as it stands before the first step: the opening clock, and nothing revoked
abbrev pub opening : Scenario → Authority
opening sc = record { clock = sc.clock; revoked = replicate (length sc.creds) None }

-- a clock stays below this
abbrev pub clock_end : ℕ
clock_end = 2 ^ 63

-- the clock is moved
abbrev pub after_tick : ℕ → Authority → Authority
after_tick by authority = record authority { clock = authority.clock + by }

-- the place of the credential has its id
abbrev pub after_revocation : CredId → Authority → Authority
after_revocation cred authority =
    record authority { revoked = slice_set authority.revoked cred.0 (Some cred) }

abbrev pub in_place : Option CredId → Option CredId
in_place place = place

-- the credentials that are revoked, in the order of their places
abbrev pub revocations : List (Option CredId) → List CredId
revocations places = filter_map in_place places

-- an Ask is answered with the clock and the revocations
abbrev pub tells : Authority → AskRequest → Effect Authority
tells authority ask =
    sends authority
    (record {
      from = actor.Authority;
      to = actor.Coordinator ask.txn;
      body = body.Tell
          (record {
            txn = ask.txn;
            turn = ask.turn;
            clock = authority.clock;
            revoked = revocations authority.revoked;
          });
    } ∷ [])

abbrev pub on_body : Authority → Body → Effect Authority
on_body authority (body.Ask ask) = tells authority ask
on_body authority _ = ignores authority

-- what the authority does on receipt of a mail
abbrev pub authority_row : Authority → Mail → Effect Authority
authority_row authority mail = on_body authority mail.letter.body
