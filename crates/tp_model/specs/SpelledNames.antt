-- How the names of a scenario are spelled.
use Rattle.std.specs.Prelude.{◌&&◌, Bool}
use Rattle.std.specs.List.{list_all}
use Rattle.tp_types.specs.Spelling.{is_name}
use Rattle.tp_model.specs.Words.{Admin, Credential, Item, Scenario, ServerDecl, Transaction}

-- the names of each kind are spelled as names
abbrev pub is_spelled : Scenario → Bool
is_spelled sc =
    list_all (λ (admin : Admin). is_name admin.name) sc.admins
    && list_all (λ (cred : Credential). is_name cred.name) sc.creds
    && list_all (λ (server : ServerDecl). is_name server.name) sc.servers
    && list_all (λ (item : Item). is_name item.name) sc.items
    && list_all (λ (txn : Transaction). is_name txn.name) sc.txns
