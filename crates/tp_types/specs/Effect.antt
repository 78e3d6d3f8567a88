-- What one act of an actor gives.
use Rattle.std.specs.Prelude.{◌≡◌, List, [], Some, None}
use Rattle.tp_types.specs.declared.mail.Letter.{Letter}
use Rattle.tp_types.specs.declared.mail.Reaction.{Reaction}
use Rattle.tp_types.specs.declared.records.Record.{Record}

-- the actor's next state, and what it wants done
pub record Effect (S : Type 0) : Type 0 where
  pub state : S
  pub reaction : Reaction

-- no record, and these letters
abbrev pub sends : {S : Type 0} → S → List Letter → Effect S
sends state letters = record {
  state = state;
  reaction = record { append = None; letters = letters };
}

-- the mail is ignored: the state stays, and nothing is logged or sent
abbrev pub ignores : {S : Type 0} → S → Effect S
ignores state = sends state []

-- a record is forced to the log, and then these letters are sent
abbrev pub logs : {S : Type 0} → S → Record → List Letter → Effect S
logs state forced letters = record {
  state = state;
  reaction = record { append = Some forced; letters = letters };
}

-- the code did what the row gives
pub record Gives {S : Type 0} (effect : Effect S) (state : S) (reaction : Reaction) : Type 0 where
  pub state_is : state ≡ effect.state
  pub reaction_is : reaction ≡ effect.reaction
