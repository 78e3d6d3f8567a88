use Rattle.std.proofs.Common.{◌∙◌, ℕ, Box, Global, ap, map, option_map, refl}
use Rattle.tp_places.specs.Padded.{padded}
use Rattle.tp_server.specs.Booted.{restored}
use Rattle.tp_server.specs.declared.server.Entry.{Entry}
use Rattle.tp_server.proofs.Tables.{front_seen}
use Rattle.tp_server.proofs.booted.entries_of.Goals as goal

pub returns : goal.returns
returns c =
    let value : Box Entry Global → Entry = λ b. b.value in
    let seen = map (option_map value) c.in_ok-made.made in
    c.from_made.ensures
    ∙ ap (λ (n : ℕ). padded seen n) c.count.ensures
    ∙ front_seen (option_map restored) refl c.args.table.now c.made.result.now seen c.made.ensures c.in_ok-made.ensures
