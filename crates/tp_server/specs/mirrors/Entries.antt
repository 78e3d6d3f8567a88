-- The entry that a query finds, or the one that is made for it.
use Rattle.std.specs.Prelude.{◌≡◌, ◌++◌, ℕ, List, Option, Some, None, slice_set}
use Rattle.tp_types.specs.Effect.{Effect}
use Rattle.tp_model.specs.Words.{Deed, Letter, QueryRequest, Verdict}
use Rattle.tp_server.specs.declared.server.Entry.{Entry}
use Rattle.tp_server.specs.Row.{age_of, entry_after, entry_at, new_entry}
use Rattle.tp_server.specs.State.{Server}

abbrev pub entry_or_new : Server → ℕ → Option Entry → Entry
entry_or_new s age None = new_entry s age
entry_or_new s age (Some entry) = entry

-- the entry that a request finds or makes
abbrev pub entry_of : Server → ℕ → QueryRequest → Entry
entry_of s sent q = entry_or_new s (age_of q sent) (entry_at s q.txn)

-- a deed was added to it, with its proof if it has one; the epoch is the entry's
pub record IsNoted (old : Server) (sent : ℕ) (q : QueryRequest) (deed : Deed) (verdict : Option Verdict) (now : Server)
    (epoch : ℕ) : Type 0 where
  pub epoch_is : epoch ≡ (entry_of old sent q).epoch
  pub now_is : now
      ≡ record old { entries = slice_set old.entries q.txn.0 (Some (entry_after q (entry_of old sent q) deed verdict)) }

-- what a server did after what it did before: its state, and its letters behind the earlier ones
pub record Continues (effect : Effect Server) (state : Server) (earlier letters : List Letter) : Type 0 where
  pub state_is : state ≡ effect.state
  pub letters_are : letters ≡ earlier ++ effect.reaction.letters
