-- Steps as code holds them while they are read.
use Rattle.tp_scenario.specs.declared.command.Command.{Command as Held}
use Rattle.tp_scenario.specs.declared.command.Command.TheVariants as held
use Rattle.tp_scenario.specs.Steps.{Command, of_name, by_number, push, cut}

abbrev pub command : Held → Command
command (held.OfName verb name) = of_name verb name.now
command (held.ByNumber verb number) = by_number verb number
command (held.Push admin server) = push admin.now server.now
command (held.Cut name mail calls fill) = cut name.now mail calls fill
