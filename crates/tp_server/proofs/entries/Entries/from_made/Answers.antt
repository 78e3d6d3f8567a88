use Rattle.std.proofs.Common.{◌≡◌, ◌∙◌, ◌-◌, ◌++◌, ap, sym, ℕ, Box, Global, List, Option, None, length, replicate, map, option_map}
use Rattle.std.proofs.lemmas.List.{length-map}
use Rattle.tp_places.proofs.PaddedLemmas.{map-padded}
use Rattle.tp_server.specs.declared.server.Entry.{Entry}
use Rattle.tp_server.proofs.entries.Entries.from_made.Goals as goal

pub returns : goal.returns
returns c =
    let value : Box Entry Global → Entry = λ b. b.value in
    let made = c.args.made in
    let same : length (map (option_map value) made) ≡ length made = length-map made (option_map value) in
    ap (λ (places : List (Option (Box Entry Global))). map (option_map value) places) c.from_made.ensures
    ∙ map-padded value made (c.args.count - length made)
    ∙ ap (λ (n : ℕ). map (option_map value) made ++ replicate (c.args.count - n) None) (sym same)
