-- The faults of a scenario.
use Rattle.tp_policy_text.specs.declared.parsing.ParseError.{ParseError}
use Rattle.tp_scenario.specs.declared.fault.Fault.{Fault}
use Rattle.tp_scenario.specs.declared.fault.Kind.TheVariants.{Shape, Range, Unknown, Policy}
use Rattle.tp_scenario.specs.declared.path.Path.{Path}
use Rattle.tp_scenario.specs.declared.path.Site.TheVariants.{At}

-- the value is of another kind of JSON, or is not spelled as it is to be
abbrev pub shape : Path → Fault
shape path = record { kind = Shape; site = At path }

-- the value is out of its range, or breaks a rule on it
abbrev pub range : Path → Fault
range path = record { kind = Range; site = At path }

-- the value names what the scenario does not have
abbrev pub unknown : Path → Fault
unknown path = record { kind = Unknown; site = At path }

-- the text is no policy
abbrev pub policy : Path → ParseError → Fault
policy path why = record { kind = Policy why; site = At path }
