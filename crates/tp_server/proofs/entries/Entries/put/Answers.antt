use Rattle.std.proofs.Common.{◌∙◌, ap, Box, Global, List, Option, Some, slice_set, map, option_map}
use Rattle.std.proofs.lemmas.Result.{on_ok_weaker, on_err_weaker}
use Rattle.tp_server.specs.declared.server.Entry.{Entry}
use Rattle.tp_server.proofs.Tables.{seen_put}
use Rattle.tp_server.proofs.entries.Entries.put.Goals as goal

pub returns-clause-ok : goal.returns-clause-ok
returns-clause-ok c =
    let value : Box Entry Global → Entry = λ b. b.value in
    on_ok_weaker c.put.result
    (λ put.
    ap (λ (places : List (Option (Box Entry Global))). map (option_map value) places) put
    ∙ seen_put value c.self.inside.places c.args.at (Some c.args.entry)
    ∙ ap (λ (entries : List (Option Entry)). slice_set entries c.args.at (Some c.args.entry.value)) c.self.view_is)
    c.put.ensures.ok

pub returns-clause-err : goal.returns-clause-err
returns-clause-err c =
    let value : Box Entry Global → Entry = λ b. b.value in
    on_err_weaker c.put.result
    (λ put. ap (λ (places : List (Option (Box Entry Global))). map (option_map value) places) put ∙ c.self.view_is)
    c.put.ensures.err
