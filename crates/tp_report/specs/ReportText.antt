-- The text of a report, word by word. A space ends a word, and a newline the last one of its line.
use Rattle.std.specs.Prelude.{ℕ, ◌+◌, List, [], ◌∷◌, ◌++◌, Option, None, Some, slice_get, codes, decimal}
use Rattle.std.specs.Fmt.{signed_decimal}
use Rattle.std.specs.List.{flat_map}
use Rattle.std.specs.Option.{option_map_or}
use Rattle.tp_model.specs.Words.{Action, Actor, AdminId, Cause, CommitRecord, CredId, Decision, Deed, Ending, Fact, Instance, ItemId, Met, Outcome, Scenario, ServerDecl, ServerId, TxnId, Verdict, Version, What}
use Rattle.tp_report.specs.Tokens.{Token, last_word, text_of, word, word_before_comma}
use Rattle.tp_types.specs.declared.fact.What.TheVariants.{Submitted, Published, Revoked, Ticked, Crashed, Lost, Decided, Settled}
use Rattle.tp_types.specs.declared.policy.Action.TheVariants.{Read, Write}
use Rattle.tp_types.specs.declared.records.Cause.TheVariants.{Denied, No, Died, Newer, Rounds, Restarted, Halted}
use Rattle.tp_types.specs.declared.records.Decision.TheVariants.{Commit as Commits, Abort as Aborts}
use Rattle.tp_types.specs.declared.records.Outcome.TheVariants.{Commit, Abort}
use Rattle.tp_types.specs.declared.scenario.Actor.TheVariants.{Server, Coordinator, Master, Authority}

-- the name of an administrator, or nothing where the scenario does not have it
abbrev pub admin_name : Scenario → AdminId → List ℕ
admin_name scenario id = option_map_or (λ admin. admin.name) (slice_get scenario.admins id.0) []

-- the name of a credential, or nothing where the scenario does not have it
abbrev pub cred_name : Scenario → CredId → List ℕ
cred_name scenario id = option_map_or (λ cred. cred.name) (slice_get scenario.creds id.0) []

-- the name of an item, or nothing where the scenario does not have it
abbrev pub item_name : Scenario → ItemId → List ℕ
item_name scenario id = option_map_or (λ item. item.name) (slice_get scenario.items id.0) []

-- the name of a server, or nothing where the scenario does not have it
abbrev pub server_name : Scenario → ServerId → List ℕ
server_name scenario id = option_map_or (λ server. server.name) (slice_get scenario.servers id.0) []

-- the name of a transaction, or nothing where the scenario does not have it
abbrev pub txn_name : Scenario → TxnId → List ℕ
txn_name scenario id = option_map_or (λ txn. txn.name) (slice_get scenario.txns id.0) []

-- a coordinator is named as its transaction; the master and the authority have one name each
abbrev pub actor_name : Scenario → Actor → List ℕ
actor_name scenario (Server id) = server_name scenario id
actor_name scenario (Coordinator id) = txn_name scenario id
actor_name scenario Master = codes "master"
actor_name scenario Authority = codes "authority"

-- `qN`: a query, by its number
abbrev pub query_word : ℕ → List ℕ
query_word query = codes "q" ++ decimal query

-- `qN SERVER`: a query, and the server that has its item
abbrev pub query_tokens : Scenario → ℕ → ServerId → List Token
query_tokens scenario query server =
    word (query_word query) ∷ word (server_name scenario server) ∷ []

-- `ADMIN VERSION`: a version of an administrator's policy
abbrev pub policy_tokens : Scenario → AdminId → Version → List Token
policy_tokens scenario admin version =
    word (admin_name scenario admin) ∷ word (decimal version.0) ∷ []

-- `at P`, which ends a line
abbrev pub at_tokens : ℕ → List Token
at_tokens place = word (codes "at") ∷ last_word (decimal place) ∷ []

-- `ADMIN USED NEWEST at`: a newer version that a round met at the master, up to its place
abbrev pub met_front : Scenario → Met → List Token
met_front scenario met =
    word (admin_name scenario met.admin) ∷ word (decimal met.used.0)
    ∷ word (decimal met.newest.0) ∷ word (codes "at") ∷ []

-- what a round met before the last one, with a comma and a space behind it
abbrev pub earlier_met_tokens : Scenario → Met → List Token
earlier_met_tokens scenario met =
    met_front scenario met ++ word_before_comma (decimal met.place) ∷ word [] ∷ []

-- what rounds met, of which there are some
abbrev pub mets_tokens : Scenario → Met → List Met → List Token
mets_tokens scenario met [] = met_front scenario met ++ last_word (decimal met.place) ∷ []
mets_tokens scenario met (next ∷ others) =
    earlier_met_tokens scenario met ++ mets_tokens scenario next others

-- `rounds`, and what they met; the word alone where they met nothing
abbrev pub rounds_tokens : Scenario → List Met → List Token
rounds_tokens scenario [] = last_word (codes "rounds") ∷ []
rounds_tokens scenario (first ∷ others) =
    word (codes "rounds") ∷ mets_tokens scenario first others

-- why a transaction aborted
abbrev pub cause_tokens : Scenario → Cause → List Token
cause_tokens scenario (Denied denied) =
    word (codes "denied")
    ∷ (query_tokens scenario denied.query denied.server
    ++ policy_tokens scenario denied.admin denied.version ++ at_tokens denied.place)
cause_tokens scenario (No outside) =
    word (codes "no")
    ∷ (query_tokens scenario outside.query outside.server
    ++ last_word (signed_decimal outside.value) ∷ [])
cause_tokens scenario (Died died) =
    word (codes "died")
    ∷ (query_tokens scenario died.query died.server
    ++ word (txn_name scenario died.other) ∷ at_tokens died.place)
cause_tokens scenario (Newer newer) =
    word (codes "newer") ∷ word (admin_name scenario newer.admin)
    ∷ word (decimal newer.used.0) ∷ last_word (decimal newer.found.0) ∷ []
cause_tokens scenario (Rounds mets) = rounds_tokens scenario mets
cause_tokens scenario (Restarted server) =
    word (codes "restarted") ∷ last_word (server_name scenario server) ∷ []
cause_tokens scenario Halted = last_word (codes "halted") ∷ []

-- the rule of a proof, counted from 1; a proof that is false has none
abbrev pub rule_word : Option ℕ → List ℕ
rule_word None = codes "none"
rule_word (Some rule) = decimal rule

-- a credential behind which another one stands
abbrev pub earlier_use : Scenario → CredId → Token
earlier_use scenario cred = word (cred_name scenario cred)

-- credentials that a proof uses, of which there are some
abbrev pub some_uses_tokens : Scenario → CredId → List CredId → List Token
some_uses_tokens scenario cred [] = last_word (cred_name scenario cred) ∷ []
some_uses_tokens scenario cred (next ∷ others) =
    earlier_use scenario cred ∷ some_uses_tokens scenario next others

-- the credentials that a proof uses
abbrev pub uses_tokens : Scenario → List CredId → List Token
uses_tokens scenario [] = last_word (codes "none") ∷ []
uses_tokens scenario (first ∷ others) = some_uses_tokens scenario first others

-- a line that stands below a fact, after two spaces
abbrev pub below : List Token → List Token
below line = word [] ∷ word [] ∷ line

-- `proof qN SERVER ADMIN VERSION at P`: which query was proved, by which version, and of which place
unfoldable pub proof_front : Scenario → Verdict → List Token
proof_front scenario proof =
    word (codes "proof")
    ∷ (query_tokens scenario proof.query proof.server
    ++ policy_tokens scenario proof.admin proof.version
    ++ word (codes "at") ∷ word (decimal proof.place) ∷ [])

-- `proof qN SERVER ADMIN VERSION at P rule K uses C1 C2`: a proof of authorisation
unfoldable pub proof_line : Scenario → Verdict → List Token
proof_line scenario proof =
    proof_front scenario proof
    ++ word (codes "rule") ∷ word (rule_word proof.rule) ∷ word (codes "uses")
    ∷ uses_tokens scenario proof.uses

unfoldable pub proof_tokens : Scenario → Verdict → List Token
proof_tokens scenario proof = below (proof_line scenario proof)

-- the place of a reading of the master, if there was one
abbrev pub reading_word : Option ℕ → List ℕ
reading_word None = codes "none"
reading_word (Some place) = decimal place

-- `instance I`: proofs that were looked at together, by their number
unfoldable pub instance_front : ℕ → List Token
instance_front number = word (codes "instance") ∷ word (decimal number) ∷ []

-- `instance I reading P`
unfoldable pub instance_line : ℕ → Option ℕ → List Token
instance_line number reading =
    instance_front number ++ word (codes "reading") ∷ last_word (reading_word reading) ∷ []

-- the line of an instance, and below it its proofs
unfoldable pub instance_tokens : Scenario → ℕ → Instance → List Token
instance_tokens scenario number made =
    below (instance_line number made.reading) ++ flat_map (proof_tokens scenario) made.proofs

-- the instances, numbered on from a number
abbrev pub instances_tokens : Scenario → ℕ → List Instance → List Token
instances_tokens scenario number [] = []
instances_tokens scenario number (first ∷ others) =
    instance_tokens scenario number first ++ instances_tokens scenario (number + 1) others

-- what a query did
abbrev pub action_word : Action → List ℕ
action_word Read = codes "read"
action_word Write = codes "write"

-- `read qN` or `write qN`
abbrev pub deed_front : Deed → List Token
deed_front deed = word (action_word deed.action) ∷ word (query_word deed.query) ∷ []

-- `read qN ITEM VALUE` or `write qN ITEM VALUE`
abbrev pub deed_line : Scenario → Deed → List Token
deed_line scenario deed =
    deed_front deed
    ++ word (item_name scenario deed.item) ∷ last_word (signed_decimal deed.value) ∷ []

abbrev pub deed_tokens : Scenario → Deed → List Token
deed_tokens scenario deed = below (deed_line scenario deed)

-- `commit TXN rounds R`
abbrev pub commit_line : Scenario → TxnId → CommitRecord → List Token
commit_line scenario txn held =
    word (codes "commit") ∷ word (txn_name scenario txn) ∷ word (codes "rounds")
    ∷ last_word (decimal held.rounds) ∷ []

-- its line, and below it the instances, counted from 1, and the deeds
abbrev pub commit_tokens : Scenario → TxnId → CommitRecord → List Token
commit_tokens scenario txn held =
    commit_line scenario txn held
    ++ (instances_tokens scenario 1 held.instances ++ flat_map (deed_tokens scenario) held.deeds)

-- what a coordinator decided: a commit with what it rests on, or an abort with its cause
abbrev pub decision_tokens : Scenario → TxnId → Decision → List Token
decision_tokens scenario txn (Commits held) = commit_tokens scenario txn held
decision_tokens scenario txn (Aborts cause) =
    word (codes "abort") ∷ word (txn_name scenario txn) ∷ cause_tokens scenario cause

-- how a transaction ended at a server
abbrev pub outcome_word : Outcome → List ℕ
outcome_word Commit = codes "commit"
outcome_word Abort = codes "abort"

-- what happened, without its place
abbrev pub what_tokens : Scenario → What → List Token
what_tokens scenario (Submitted txn) =
    word (codes "submit") ∷ last_word (txn_name scenario txn) ∷ []
what_tokens scenario (Published admin version) =
    word (codes "publish") ∷ word (admin_name scenario admin) ∷ last_word (decimal version.0)
    ∷ []
what_tokens scenario (Revoked cred) =
    word (codes "revoke") ∷ last_word (cred_name scenario cred) ∷ []
what_tokens scenario (Ticked by) = word (codes "tick") ∷ last_word (decimal by) ∷ []
what_tokens scenario (Crashed actor) =
    word (codes "crash") ∷ last_word (actor_name scenario actor) ∷ []
what_tokens scenario (Lost mail) = word (codes "lose") ∷ last_word (decimal mail) ∷ []
what_tokens scenario (Decided txn decision) = decision_tokens scenario txn decision
what_tokens scenario (Settled server txn outcome) =
    word (codes "settle") ∷ word (server_name scenario server) ∷ word (txn_name scenario txn)
    ∷ last_word (outcome_word outcome) ∷ []

-- the first line of what happened, without its place: of a commit further lines stand below it
abbrev pub what_line : Scenario → What → List Token
what_line scenario (Decided txn (Commits held)) = commit_line scenario txn held
what_line scenario what = what_tokens scenario what

-- a fact, after the place of its step
abbrev pub fact_tokens : Scenario → Fact → List Token
fact_tokens scenario fact = word (decimal fact.place) ∷ what_tokens scenario fact.what

-- the value of an item at the end, or nothing where the ending does not have it
abbrev pub value_word : Ending → ItemId → List ℕ
value_word ending item = option_map_or signed_decimal (slice_get ending.values item.0) []

-- `item SERVER ITEM VALUE`, under the server's name
abbrev pub item_tokens : Scenario → Ending → List ℕ → ItemId → List Token
item_tokens scenario ending server item =
    word (codes "item") ∷ word server ∷ word (item_name scenario item)
    ∷ last_word (value_word ending item) ∷ []

-- the items of a server
abbrev pub server_tokens : Scenario → Ending → ServerDecl → List Token
server_tokens scenario ending server =
    flat_map (item_tokens scenario ending server.name) server.items

-- `quiet STEPS MAILS`
abbrev pub quiet_tokens : Ending → List Token
quiet_tokens ending =
    word (codes "quiet") ∷ word (decimal ending.steps) ∷ last_word (decimal ending.mails) ∷ []

-- `tpvc 1`, the facts in their order, the items of each server in declared order, and how many steps and mails there were
abbrev pub report_tokens : Scenario → List Fact → Ending → List Token
report_tokens scenario facts ending =
    word (codes "tpvc") ∷ last_word (codes "1")
    ∷ (flat_map (fact_tokens scenario) facts
    ++ flat_map (server_tokens scenario ending) scenario.servers ++ quiet_tokens ending)

-- the whole report
abbrev pub report_text : Scenario → List Fact → Ending → List ℕ
report_text scenario facts ending = text_of (report_tokens scenario facts ending)
