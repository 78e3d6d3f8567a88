use Rattle.std.proofs.Common.{◌∙◌, ap, Box, Global, List, Option, map, option_map}
use Rattle.tp_server.specs.declared.server.Entry.{Entry}
use Rattle.tp_server.proofs.Tables.{seen_none}
use Rattle.tp_server.proofs.entries.Entries.none.Goals as goal

pub returns : goal.returns
returns c =
    let value : Box Entry Global → Entry = λ b. b.value in
    ap (λ (places : List (Option (Box Entry Global))). map (option_map value) places) c.none.ensures ∙ seen_none value c.args.count
