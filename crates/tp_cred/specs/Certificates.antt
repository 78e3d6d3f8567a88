-- What a certificate shows: a rule of the policy that is true of the credentials alone that the certificate uses.
use Rattle.std.specs.Prelude.{ℕ, ◌&&◌, List, Bool, false}
use Rattle.std.specs.List.{list_all}
use Rattle.std.specs.Option.{option_map_or}
use Rattle.tp_model.specs.Words.{Action, CredId, Policy}
use Rattle.tp_model.specs.Credentials.{holdings_in, is_valid_in}
use Rattle.tp_model.specs.Authorisation.{rule_in}
use Rattle.tp_model.specs.Policies.{rule_allows}
use Rattle.tp_cred.specs.Holder.{Holder}

-- the rule exists, counted from 1, matches, and is true of what the used credentials alone say of the subject; each of these exists
-- and is valid
abbrev pub is_checked : Policy → Action → List ℕ → Holder → ℕ → List CredId → Bool
is_checked policy asked item holder rule uses =
    option_map_or
    (rule_allows asked item
    (holdings_in holder.store holder.subject holder.now holder.revoked uses))
    (rule_in policy rule) false
    && list_all (is_valid_in holder.store holder.now holder.revoked) uses
