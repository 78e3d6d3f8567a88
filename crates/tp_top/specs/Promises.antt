-- What each command promises where its call is done, in words that name no machine.
use Rattle.tp_top.specs.Bulk.{CountsTrusted}
use Rattle.tp_top.specs.Run.{PrintsTrusted}
use Rattle.tp_ends.specs.Streams.{Call}
use Rattle.tp_top.specs.Trace.{TracesTrusted}
use Rattle.tp_words.specs.declared.commands.Command.{Command}
use Rattle.tp_words.specs.declared.commands.Command.TheVariants.{Bulk, Run, Trace}

abbrev pub Promises : Command → Call → Type 0
Promises Run call = PrintsTrusted call.input call.out
Promises Trace call = TracesTrusted call.input call.out
Promises (Bulk count) call = CountsTrusted count call.out
