-- The entry of a transaction that begins at a server.
use Rattle.std.specs.Prelude.{ℕ, [], None}
use Rattle.tp_server.specs.declared.server.Entry.{Entry}

abbrev pub begun : ℕ → ℕ → Entry
begun age epoch = record {
  age = age;
  epoch = epoch;
  answers = [];
  waiting = None;
  deeds = [];
  ballot = None;
}
