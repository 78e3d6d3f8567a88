use Rattle.std.proofs.Common.{◌∙◌, ap, Box, Global, List, Option, None, slice_set, map, option_map}
use Rattle.tp_server.specs.declared.server.Entry.{Entry}
use Rattle.tp_server.proofs.Tables.{seen_put}
use Rattle.tp_server.proofs.entries.Entries.take.Goals as goal

pub returns-clause-left : goal.returns-clause-left
returns-clause-left c =
    let value : Box Entry Global → Entry = λ b. b.value in
    ap (λ (places : List (Option (Box Entry Global))). map (option_map value) places) c.take.ensures.left
    ∙ seen_put value c.self.inside.places c.args.at None
    ∙ ap (λ (entries : List (Option Entry)). slice_set entries c.args.at None) c.self.view_is
