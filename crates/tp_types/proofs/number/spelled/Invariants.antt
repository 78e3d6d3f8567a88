use Rattle.std.proofs.Common.{◌≡◌, ◌<◌, ◌≤◌, ◌^◌, length, drop, true}
use Rattle.std.specs.List.{list_all}
use Rattle.tp_types.specs.Spelling.{is_digit, spelled_from}
use Rattle.tp_types.proofs.number.spelled.Given as goal

abbrev pub invariant-loop-digit : goal.invariant-loop-digit
invariant-loop-digit l = record {
  small : l.value < 10 ^ l.digit-index;
  short : length l.digits ≤ 15;
  digits : list_all is_digit (drop l.digit-index l.digits) ≡ true;
  same : spelled_from l.value (drop l.digit-index l.digits) ≡ spelled_from 0 l.digits;
}
