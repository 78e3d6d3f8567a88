use Rattle.std.proofs.Common.{◌≡◌, ◌∙◌, false, length, slice_get, unwrap_or, ap, arith, rules}
use Rattle.std.proofs.lemmas.Grind.{common_steps}
use Rattle.std.specs.Prelude.{replicate, List, Bool}
use Rattle.tp_why.specs.mirrors.Moments.{marked}
use Rattle.tp_why.proofs.MomentLemmas.{marked_all}
use Rattle.tp_why.proofs.moment.revoked_at.Goals as goal

pub returns : goal.returns
returns c cred lt =
    let first = c.from_vec-revoked.result in
    let none : first ≡ replicate (length c.args.scenario.now.creds) false = search rules in
    let all : c.loop-fact.revoked ≡ marked c.args.place c.args.facts.now first = grind (arith, common_steps) in
    ap (λ (marks : List Bool). unwrap_or (slice_get marks cred.0) false) all
    ∙ marked_all (length c.args.scenario.now.creds) c.args.place c.args.facts.now first none cred lt
