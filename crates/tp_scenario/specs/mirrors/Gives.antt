-- What a step of the walk answers, beside what it is to give.
use Rattle.std.specs.Prelude.{◌≡◌, Result, Ok, Err}
use Rattle.tp_scenario.specs.declared.fault.Fault.{Fault}
use Rattle.tp_scenario.specs.declared.path.Site.{Site}
use Rattle.tp_scenario.specs.declared.fault.WalkError.{WalkError}
use Rattle.tp_scenario.specs.declared.fault.WalkError.TheVariants as error

-- this fault is to be given, or memory ran out
abbrev pub IsWalkError : {X : Type 0} → WalkError → Result X Fault → Type 0
IsWalkError (error.Fault fault) walked = walked ≡ Err fault
IsWalkError error.NoMemory walked = Unit {0}

-- the answer, seen as what f makes of it, is what is to be given
abbrev pub GivesAs : {X Y : Type 0} → Result X WalkError → (X → Y) → Result Y Fault → Type 0
GivesAs (Ok x) f walked = walked ≡ Ok (f x)
GivesAs (Err e) f walked = IsWalkError e walked

abbrev pub Gives : {X : Type 0} → Result X WalkError → Result X Fault → Type 0
Gives (Ok x) walked = walked ≡ Ok x
Gives (Err e) walked = IsWalkError e walked

-- the same error at another place
abbrev pub IsMovedError : WalkError → WalkError → Site → Type 0
IsMovedError result (error.Fault fault) site = result ≡ error.Fault (record { kind = fault.kind; site = site })
IsMovedError result error.NoMemory site = result ≡ error.NoMemory

-- the value that a walk leaves behind a reference is what is to be given, whatever else it answers
abbrev pub GivesNew : {X Y : Type 0} → Result Y WalkError → X → Result X Fault → Type 0
GivesNew (Ok done) x walked = walked ≡ Ok x
GivesNew (Err e) x walked = IsWalkError e walked
