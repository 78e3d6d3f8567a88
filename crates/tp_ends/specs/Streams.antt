-- What a call saw of a stream: what it tells before the call and after it, and its counts of faults.
use Rattle.std.specs.Prelude.{List, Option, ℕ}
use Rattle.tp_model.specs.Words.{Text}

pub record Stream : Type 0 where
  pub old : Option (List ℕ)
  pub new : Option (List ℕ)
  pub faults_old : ℕ
  pub faults_new : ℕ

-- a call: its words, and what it saw of its streams
pub record Call : Type 0 where
  pub words : List Text
  pub input : Stream
  pub out : Stream
  pub notes : Stream
