use Rattle.std.proofs.Common.{List, Some, rules, subst, sym, ◌∙◌, ◌≡◌}
use Rattle.std.proofs.lemmas.Option.{same_Some}
use Rattle.std.proofs.lemmas.Result.{IfOk-weaker}
use Rattle.tp_types.specs.Effect.{Gives}
use Rattle.tp_model.specs.Words.{PrepareRequest, Prepared, Reaction, Verdict}
use Rattle.tp_server.specs.Row.{casts, entry_at, prepared_record, votes}
use Rattle.tp_server.specs.State.{Server}
use Rattle.tp_server.specs.declared.server.Entry.{Entry}
use Rattle.tp_server.proofs.server.Server.votes_with.Goals as goal

-- what is cast on the entry that was found is cast on the entry that stands there
found_votes : (s now : Server) (p : PrepareRequest) (verdicts : List Verdict) (found entry : Entry) (forced : Prepared) (reaction : Reaction) → forced ≡ prepared_record s p found verdicts → Some found ≡ entry_at s p.txn
    → ((one : Entry) → entry_at s forced.txn ≡ Some one → Gives (casts s forced one) now reaction) → entry_at s p.txn ≡ Some entry → Gives (votes s p verdicts entry) now reaction
found_votes s now p verdicts found entry forced reaction forced_is here given there =
    let cast = subst (λ (x : Prepared). (one : Entry) → entry_at s x.txn ≡ Some one → Gives (casts s x one) now reaction) forced_is given found (sym here) in
    subst (λ (x : Entry). Gives (votes s p verdicts x) now reaction) (same_Some found entry (here ∙ there)) cast

pub returns : goal.returns
returns g c =
    let here : Some c.in-Some.entry.now ≡ entry_at c.args.self.now c.args.request.now.txn = search rules in
    IfOk-weaker c.votes.result _ _
    (λ reaction given entry there. found_votes c.args.self.now c.votes.new.self c.args.request.now c.args.verdicts c.in-Some.entry.now entry c.in_ok-forced.forced reaction c.in_ok-forced.ensures here given there)
    c.votes.ensures
