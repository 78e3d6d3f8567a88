-- What each server of a scenario opens with.
use Rattle.tp_model.specs.SerialRun.{opening_store}
use Rattle.tp_model.specs.Words.{Scenario}
use Rattle.tp_store.specs.Rule.{ranges_of}
use Rattle.tp_machine.specs.declared.opening.Opening.{Opening}

-- the ranges of its items, and their opening values
abbrev pub opening_of : Scenario → Opening
opening_of sc = record { ranges = ranges_of sc; values = opening_store sc }
