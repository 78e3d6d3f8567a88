use Rattle.std.proofs.Common.{◌≡◌, drop}
use Rattle.tp_policy_text.specs.mirrors.Readers.{token_at}
use Rattle.tp_policy_text.proofs.reader.Reader.token.Given as goal

-- the rest of the token reads the rest of the text
abbrev pub invariant-loop-byte : goal.invariant-loop-byte
invariant-loop-byte g l = token_at l.apart (drop l.byte-index l.token) l.value l.self.rest.now ≡ token_at l.apart l.token l.value l.initial.self.rest.now
