-- What may come next in a report.
use Rattle.std.specs.Prelude.{ℕ, ◌+◌, ◌^◌, List, [], ◌∷◌, ◌++◌, length, map, Option, None, Some, ℤ, codes, decimal}
use Rattle.std.specs.List.{flat_map}
use Rattle.tp_model.specs.Words.{Action, Actor, Admin, AdminId, Cause, CommitRecord, CredId, Credential, Decision, Deed, Fact, Instance, Item, ItemId, Met, Outcome, Scenario, ServerDecl, ServerId, Transaction, TxnId, Verdict, Version, What}
use Rattle.tp_types.specs.declared.fact.What.TheVariants.{Submitted, Published, Revoked, Ticked, Crashed, Lost, Decided, Settled}
use Rattle.tp_types.specs.declared.policy.Action.TheVariants.{Read, Write}
use Rattle.tp_types.specs.declared.records.Cause.TheVariants.{Denied, No, Died, Newer, Rounds, Restarted, Halted}
use Rattle.tp_types.specs.declared.records.Decision.TheVariants.{Commit as Commits, Abort as Aborts}
use Rattle.tp_types.specs.declared.records.Outcome.TheVariants.{Commit, Abort}
use Rattle.tp_types.specs.declared.scenario.Actor.TheVariants.{Server, Coordinator}
use Rattle.tp_report.specs.ReportText.{item_name}
use Rattle.tp_report.specs.Tokens.{Token, last_word, word, word_before_comma}
use Rattle.tp_report.proofs.reading.Tree.{Tree, Nothing, At, Exactly, Named, Numbered, Valued, Either}

-- ---- places where lists come round

-- a commit whose lines are read: its instances before the present one, with their count, that one, and its deeds
pub record Open : Type 0 where
  pub place : ℕ
  pub txn : TxnId
  pub rounds : ℕ
  pub count : ℕ
  pub before : List Instance
  pub current : Option Instance
  pub deeds : List Deed

pub data Hub : Type 0 where
  -- a line begins, behind these facts and the lines of a commit
  Line : List Fact → Option Open → Hub
  -- a proof uses these credentials, and another one
  Uses : List Fact → Open → Instance → Verdict → Hub
  -- rounds met this, and more
  More : List Fact → ℕ → TxnId → List Met → Hub
  -- these rows of items are left, and these values were read
  Items : List Fact → List (List ℕ × List ℕ) → List ℤ → Hub
  End : List Fact → List ℤ → ℕ → ℕ → Hub

abbrev pub listed : Option Instance → List Instance
listed None = []
listed (Some made) = made ∷ []

abbrev pub instances_of : Open → List Instance
instances_of held = held.before ++ listed held.current

abbrev pub record_of : Open → CommitRecord
record_of held = record { rounds = held.rounds; instances = instances_of held; deeds = held.deeds }

abbrev pub commit_of : Open → Fact
commit_of held = record { place = held.place; what = Decided held.txn (Commits (record_of held)) }

-- the facts that the lines so far tell
abbrev pub closed : List Fact → Option Open → List Fact
closed facts None = facts
closed facts (Some held) = facts ++ commit_of held ∷ []

abbrev pub next_line : List Fact → ℕ → What → Tree Hub
next_line facts place what = At (Line (facts ++ record { place = place; what = what } ∷ []) None)

-- ---- names

abbrev pub admin_names : Scenario → List (List ℕ)
admin_names sc = map (λ (admin : Admin). admin.name) sc.admins

abbrev pub cred_names : Scenario → List (List ℕ)
cred_names sc = map (λ (cred : Credential). cred.name) sc.creds

abbrev pub item_names : Scenario → List (List ℕ)
item_names sc = map (λ (item : Item). item.name) sc.items

abbrev pub server_names : Scenario → List (List ℕ)
server_names sc = map (λ (server : ServerDecl). server.name) sc.servers

abbrev pub txn_names : Scenario → List (List ℕ)
txn_names sc = map (λ (txn : Transaction). txn.name) sc.txns

-- ---- pieces of lines

abbrev pub u32_bound : ℕ
u32_bound = 2 ^ 32

abbrev pub u64_bound : ℕ
u64_bound = 2 ^ 64

-- `qN SERVER`
unfoldable pub query_tree : Scenario → ℕ → (ℕ → ServerId → Tree Hub) → Tree Hub
query_tree sc ending rest =
    Numbered (codes "q") u32_bound 32 (λ query. Named (server_names sc) 32 (λ server. rest query (record { 0 = server })))

-- `ADMIN VERSION`
unfoldable pub policy_tree : Scenario → ℕ → (AdminId → Version → Tree Hub) → Tree Hub
policy_tree sc ending rest =
    Named (admin_names sc) 32 (λ admin. Numbered [] u32_bound ending (λ version. rest (record { 0 = admin }) (record { 0 = version })))

-- `at P`
unfoldable pub at_tree : ℕ → (ℕ → Tree Hub) → Tree Hub
at_tree ending rest = Exactly (word (codes "at")) (Numbered [] u64_bound ending rest)

-- ---- why a transaction aborted

abbrev pub aborts : TxnId → Cause → What
aborts txn cause = Decided txn (Aborts cause)

-- a newer version that a round met, before another one or at the end of the line
abbrev pub met_tree : Scenario → (Met → Tree Hub) → (Met → Tree Hub) → Tree Hub
met_tree sc more last =
    Named (admin_names sc) 32 (λ admin. Numbered [] u32_bound 32 (λ used. Numbered [] u32_bound 32 (λ newest.
    Exactly (word (codes "at")) (Either
    (Numbered [] u64_bound 44 (λ place. Exactly (word []) (more (record { admin = record { 0 = admin }; used = record { 0 = used }; newest = record { 0 = newest }; place = place }))))
    (Numbered [] u64_bound 10 (λ place. last (record { admin = record { 0 = admin }; used = record { 0 = used }; newest = record { 0 = newest }; place = place })))))))

abbrev pub mets_tree : Scenario → List Fact → ℕ → TxnId → List Met → Tree Hub
mets_tree sc facts place txn mets =
    met_tree sc (λ met. At (More facts place txn (mets ++ met ∷ [])))
    (λ met. next_line facts place (aborts txn (Rounds (mets ++ met ∷ []))))

abbrev pub cause_tree : Scenario → List Fact → ℕ → TxnId → Tree Hub
cause_tree sc facts place txn =
    Either (Exactly (word (codes "denied")) (query_tree sc 32 (λ query server. policy_tree sc 32 (λ admin version. at_tree 10 (λ at.
    next_line facts place (aborts txn (Denied (record { query = query; server = server; admin = admin; version = version; place = at }))))))))
    (Either (Exactly (word (codes "no")) (query_tree sc 32 (λ query server. Valued (λ value.
    next_line facts place (aborts txn (No (record { query = query; server = server; value = value })))))))
    (Either (Exactly (word (codes "died")) (query_tree sc 32 (λ query server. Named (txn_names sc) 32 (λ other. at_tree 10 (λ at.
    next_line facts place (aborts txn (Died (record { query = query; server = server; other = record { 0 = other }; place = at }))))))))
    (Either (Exactly (word (codes "newer")) (policy_tree sc 32 (λ admin used. Numbered [] u32_bound 10 (λ found.
    next_line facts place (aborts txn (Newer (record { admin = admin; used = used; found = record { 0 = found } })))))))
    (Either (Exactly (word (codes "rounds")) (mets_tree sc facts place txn []))
    (Either (Exactly (word (codes "restarted")) (Named (server_names sc) 10 (λ server. next_line facts place (aborts txn (Restarted (record { 0 = server }))))))
    (Exactly (last_word (codes "halted")) (next_line facts place (aborts txn Halted))))))))

-- ---- what happened

abbrev pub opens : ℕ → TxnId → ℕ → Open
opens place txn rounds =
    record { place = place; txn = txn; rounds = rounds; count = 0; before = []; current = None; deeds = [] }

abbrev pub crash_tree : Scenario → List Fact → ℕ → Tree Hub
crash_tree sc facts place =
    Either (Named (server_names sc) 10 (λ server. next_line facts place (Crashed (Server (record { 0 = server })))))
    (Named (txn_names sc) 10 (λ txn. next_line facts place (Crashed (Coordinator (record { 0 = txn })))))

abbrev pub commit_tree : Scenario → List Fact → ℕ → Tree Hub
commit_tree sc facts place =
    Named (txn_names sc) 32 (λ txn. Exactly (word (codes "rounds")) (Numbered [] u32_bound 10 (λ rounds. At (Line facts (Some (opens place (record { 0 = txn }) rounds))))))

abbrev pub settle_tree : Scenario → List Fact → ℕ → Tree Hub
settle_tree sc facts place =
    Named (server_names sc) 32 (λ server. Named (txn_names sc) 32 (λ txn.
    Either (Exactly (last_word (codes "commit")) (next_line facts place (Settled (record { 0 = server }) (record { 0 = txn }) Commit)))
    (Exactly (last_word (codes "abort")) (next_line facts place (Settled (record { 0 = server }) (record { 0 = txn }) Abort)))))

abbrev pub what_tree : Scenario → List Fact → ℕ → Tree Hub
what_tree sc facts place =
    Either (Exactly (word (codes "submit")) (Named (txn_names sc) 10 (λ txn. next_line facts place (Submitted (record { 0 = txn })))))
    (Either (Exactly (word (codes "publish")) (policy_tree sc 10 (λ admin version. next_line facts place (Published admin version))))
    (Either (Exactly (word (codes "revoke")) (Named (cred_names sc) 10 (λ cred. next_line facts place (Revoked (record { 0 = cred })))))
    (Either (Exactly (word (codes "tick")) (Numbered [] u64_bound 10 (λ by. next_line facts place (Ticked by))))
    (Either (Exactly (word (codes "crash")) (crash_tree sc facts place))
    (Either (Exactly (word (codes "lose")) (Numbered [] u64_bound 10 (λ mail. next_line facts place (Lost mail))))
    (Either (Exactly (word (codes "commit")) (commit_tree sc facts place))
    (Either (Exactly (word (codes "abort")) (Named (txn_names sc) 32 (λ txn. cause_tree sc facts place (record { 0 = txn }))))
    (Exactly (word (codes "settle")) (settle_tree sc facts place)))))))))

-- ---- the lines below a commit

abbrev pub with_use : Verdict → CredId → Verdict
with_use verdict cred = record verdict { uses = verdict.uses ++ cred ∷ [] }

abbrev pub with_proof : Open → Instance → Verdict → Open
with_proof held made verdict = record held { current = Some (record made { proofs = made.proofs ++ verdict ∷ [] }) }

abbrev pub with_instance : Open → Option ℕ → Open
with_instance held reading =
    record held { count = held.count + 1; before = instances_of held; current = Some (record { reading = reading; proofs = [] }) }

abbrev pub with_deed : Open → Deed → Open
with_deed held deed = record held { deeds = held.deeds ++ deed ∷ [] }

-- a credential, before another one or at the end of the line
abbrev pub some_uses_tree : Scenario → List Fact → Open → Instance → Verdict → Tree Hub
some_uses_tree sc facts held made verdict =
    Either (Named (cred_names sc) 32 (λ cred. At (Uses facts held made (with_use verdict (record { 0 = cred })))))
    (Named (cred_names sc) 10 (λ cred. At (Line facts (Some (with_proof held made (with_use verdict (record { 0 = cred })))))))

abbrev pub uses_tree : Scenario → List Fact → Open → Instance → Verdict → Tree Hub
uses_tree sc facts held made verdict =
    Either (some_uses_tree sc facts held made verdict)
    (Exactly (last_word (codes "none")) (At (Line facts (Some (with_proof held made verdict)))))

-- what stands behind the word of a proof
abbrev pub proof_rest : Scenario → List Fact → Open → Instance → Tree Hub
proof_rest sc facts held made =
    query_tree sc 32 (λ query server. policy_tree sc 32 (λ admin version. at_tree 32 (λ at.
    Exactly (word (codes "rule")) (Numbered [] u32_bound 32 (λ rule. Exactly (word (codes "uses"))
    (uses_tree sc facts held made (record { query = query; server = server; admin = admin; version = version; place = at; rule = Some rule; uses = [] })))))))

abbrev pub proof_tree : Scenario → List Fact → Open → Instance → Tree Hub
proof_tree sc facts held made = Exactly (word (codes "proof")) (proof_rest sc facts held made)

-- what stands behind the word of an instance
abbrev pub instance_rest : List Fact → Open → Tree Hub
instance_rest facts held =
    Exactly (word (decimal (held.count + 1))) (Exactly (word (codes "reading"))
    (Either (Numbered [] u64_bound 10 (λ at. At (Line facts (Some (with_instance held (Some at))))))
    (Exactly (last_word (codes "none")) (At (Line facts (Some (with_instance held None)))))))

abbrev pub instance_tree : List Fact → Open → Tree Hub
instance_tree facts held = Exactly (word (codes "instance")) (instance_rest facts held)

abbrev pub deed_tree : Scenario → List Fact → Open → Action → List ℕ → Tree Hub
deed_tree sc facts held action name =
    Exactly (word name) (Numbered (codes "q") u32_bound 32 (λ query. Named (item_names sc) 32 (λ item. Valued (λ value.
    At (Line facts (Some (with_deed held (record { query = query; item = record { 0 = item }; action = action; value = value }))))))))

abbrev pub proofs_of : Scenario → List Fact → Open → Option Instance → Tree Hub
proofs_of sc facts held None = Nothing
proofs_of sc facts held (Some made) = proof_tree sc facts held made

-- instances and proofs stand before deeds
abbrev pub before_deeds : Scenario → List Fact → Open → List Deed → Tree Hub
before_deeds sc facts held [] = Either (instance_tree facts held) (proofs_of sc facts held held.current)
before_deeds sc facts held (deed ∷ deeds) = Nothing

abbrev pub lines_of : Scenario → List Fact → Option Open → Tree Hub
lines_of sc facts None = Nothing
lines_of sc facts (Some held) =
    Exactly (word []) (Exactly (word []) (Either (deed_tree sc facts held Read (codes "read")) (Either (deed_tree sc facts held Write (codes "write")) (before_deeds sc facts held held.deeds))))

-- ---- the end

abbrev pub items_tree : List Fact → List (List ℕ × List ℕ) → List ℤ → Tree Hub
items_tree facts [] values =
    Exactly (word (codes "quiet")) (Numbered [] u64_bound 32 (λ steps. Numbered [] u64_bound 10 (λ mails. At (End facts values steps mails))))
items_tree facts (row ∷ rows) values =
    Exactly (word (codes "item")) (Exactly (word row.0) (Exactly (word row.1) (Valued (λ value. At (Items facts rows (values ++ value ∷ []))))))

-- each item's server and its own name, as the lines name them
abbrev pub rows_of : Scenario → ServerDecl → List (List ℕ × List ℕ)
rows_of sc server = map (λ (item : ItemId). (server.name, item_name sc item)) server.items

abbrev pub rows : Scenario → List (List ℕ × List ℕ)
rows sc = flat_map (rows_of sc) sc.servers

abbrev pub line_tree : Scenario → List Fact → Option Open → Tree Hub
line_tree sc facts held =
    Either (Numbered [] u64_bound 32 (λ place. what_tree sc (closed facts held) place))
    (Either (lines_of sc facts held) (items_tree (closed facts held) (rows sc) []))

-- ---- the whole

abbrev pub hub : Scenario → Hub → Tree Hub
hub sc (Line facts held) = line_tree sc facts held
hub sc (Uses facts held made verdict) = some_uses_tree sc facts held made verdict
hub sc (More facts place txn mets) = mets_tree sc facts place txn mets
hub sc (Items facts left values) = items_tree facts left values
hub sc (End facts values steps mails) = Nothing

abbrev pub start : Tree Hub
start = Exactly (word (codes "tpvc")) (Exactly (last_word (codes "1")) (At (Line [] None)))
