use Rattle.std.proofs.Common.{◌≡◌, ◌++◌, length, take, All}
use Rattle.std.specs.List.{flat_map}
use Rattle.tp_record.specs.Spelling.{short}
use Rattle.tp_record.proofs.spelled.ListSpelled.write_to.Given as goal

-- the count and the members so far were written
abbrev pub invariant-loop-member : goal.invariant-loop-member
invariant-loop-member g l =
    record {
      written : l.out ≡ l.fn.out ++ (short (length l.member-items) ++ flat_map g.T.Spelled.spelling (take l.member-index l.member-items));
      range : All g.T.Spelled.in_range (take l.member-index l.member-items);
    }
