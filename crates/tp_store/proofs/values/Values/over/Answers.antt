use Rattle.std.proofs.Common.{◌∙◌, ap, replicate, None}
use Rattle.tp_store.specs.mirrors.Values.{laid}
use Rattle.tp_store.proofs.ValueLemmas.{none_laid}
use Rattle.tp_store.proofs.values.Values.over.Goals as goal

pub returns : goal.returns
returns c =
    ap (laid c.args.opening) (c.in_ok-written.ensures ∙ ap (λ count. replicate count None) c.len.ensures)
    ∙ none_laid c.args.opening
