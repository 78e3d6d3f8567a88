-- The words for what is asked of an office.
use Rattle.std.specs.Prelude.{ℕ, List, codes}
use Rattle.tp_trace.specs.declared.phases.Office.{Office}
use Rattle.tp_trace.specs.declared.phases.Office.TheVariants.{Authority, Master}

abbrev pub office_verb : Office → List ℕ
office_verb Authority = codes "asking"
office_verb Master = codes "reading"

abbrev pub office_awaited : Office → List ℕ
office_awaited Authority = codes " awaits=Authority"
office_awaited Master = codes " awaits=Master"
