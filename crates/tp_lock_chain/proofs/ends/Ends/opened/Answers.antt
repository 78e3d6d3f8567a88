use Rattle.std.proofs.Common.{◌++◌, ◌∷◌, [], ◌∙◌, ap₂}
use Rattle.tp_lock_chain.specs.mirrors.Ends as mirror
use Rattle.tp_lock_chain.proofs.EndLemmas.{none_written}
use Rattle.tp_lock_chain.proofs.ends.Ends.opened.Goals as goal

pub returns : goal.returns
returns c =
    ap₂ (λ written last. mirror.filled 0 written ++ last ∷ []) c.in_ok-none.ensures c.lone.ensures ∙ none_written c.args.count
