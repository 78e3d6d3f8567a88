use Rattle.std.proofs.Common.{inl}
use Rattle.std.proofs.KnownBytes.{Appends-nil}
use Rattle.tp_top.proofs.TopLemmas.{done_by, promised_by, refused_by}
use Rattle.tp_top.proofs.top.tpvc.Goals as goal

pub returns-in-Ok-clause-complete : goal.returns-in-Ok-clause-complete
returns-in-Ok-clause-complete g c = let none = rw c.in-Ok-None.field-0-is at c.in-Ok-None.ensures in λ command are. absurd (none command are)

pub returns-in-Err-write_all-clause-complete : goal.returns-in-Err-write_all-clause-complete
returns-in-Err-write_all-clause-complete g c = let none = rw c.in-Ok-None.field-0-is at c.in-Ok-None.ensures in λ command are. absurd (none command are)

pub returns-in-Ok-write_all-clause-promised : goal.returns-in-Ok-write_all-clause-promised
returns-in-Ok-write_all-clause-promised g c =
    let are = rw c.in-Ok-Some.field-0-is at c.in-Ok-Some.ensures in
    let written = rw c.as_slice.ensures at c.in-Ok-write_all.ensures.whole in
    λ command is done. promised_by _ c.in-Ok-Some.command c.in-Text.text.0 are c.in-Text.ensures.cause written command is

pub returns-in-Ok-write_all-clause-complete : goal.returns-in-Ok-write_all-clause-complete
returns-in-Ok-write_all-clause-complete g c =
    let are = rw c.in-Ok-Some.field-0-is at c.in-Ok-Some.ensures in
    λ command is. done_by _ c.in-Ok-Some.command c.in-Text.text.0 are c.in-Text.ensures.cause command is

pub returns-in-Text-clause-ended : goal.returns-in-Text-clause-ended
returns-in-Text-clause-ended g c = inl (record {
  command = c.in-Ok-Some.command;
  words_are = rw c.in-Ok-Some.field-0-is at c.in-Ok-Some.ensures;
  text = c.in-Text.text.0;
  has = c.in-Text.ensures.cause;
  front = rw c.as_slice.ensures at c.in-Err-write_all-2.ensures.front;
  rose = c.in-Err-write_all-2.ensures.cause;
  notes_kept = Appends-nil _;
})

pub returns-in-Ok-write_all-3-clause-complete : goal.returns-in-Ok-write_all-3-clause-complete
returns-in-Ok-write_all-3-clause-complete g c =
    let are = rw c.in-Ok-Some.field-0-is at c.in-Ok-Some.ensures in
    let written = rw c.as_slice-in-Ok-write_all-2.ensures at c.in-Ok-write_all-3.ensures.whole in
    λ command is. refused_by _ c.in-Ok-Some.command c.in-Refused.text.0 c.in-Refused.line.0 are c.in-Refused.ensures.cause written command is
