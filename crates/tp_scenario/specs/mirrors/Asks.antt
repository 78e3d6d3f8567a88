-- Queries as code holds them.
use Rattle.tp_scenario.specs.declared.query.Asked.{Asked as Held}
use Rattle.tp_scenario.specs.declared.query.Asked.TheVariants as held
use Rattle.tp_scenario.specs.Queries.{Asked, reads, writes}

abbrev pub asked : Held → Asked
asked (held.Read item into) = reads item.now into
asked (held.Write item expr) = writes item.now expr
