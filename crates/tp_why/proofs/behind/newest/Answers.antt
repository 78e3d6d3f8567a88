use Rattle.std.proofs.Common.{◌∙◌, List, ap, arith}
use Rattle.std.specs.List.{count_by}
use Rattle.tp_model.specs.Words.{AdminId}
use Rattle.tp_why.specs.mirrors.Publishers.{is_number}
use Rattle.tp_why.proofs.BehindLemmas.{published_before}
use Rattle.tp_why.proofs.behind.newest.Goals as goal

pub returns : goal.returns
returns c =
    let commit = c.args.commit.now in
    let opening = c.from.ensures in
    let count = c.count_of.ensures ∙ ap (λ (all : List AdminId). count_by (is_number c.args.number) all) commit.told ∙ published_before commit.place commit.facts.now c.args.number in
    omega arith
