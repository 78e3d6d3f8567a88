-- How far names and digits reach at the front of a text.
use Rattle.std.specs.Prelude.{ℕ, suc, ◌==◌, ◌&&◌, ◌+◌, not, List, [], ◌∷◌, nat_lt, take, drop, Bool, Option, Some, None, ℤ, if◌then◌else◌}
use Rattle.tp_types.specs.declared.policy.Cond.{Cond}
use Rattle.tp_types.specs.declared.policy.Cond.TheVariants as cond
use Rattle.tp_types.specs.declared.policy.Pattern.{Pattern}
use Rattle.tp_types.specs.declared.policy.Pattern.TheVariants as pattern
use Rattle.tp_types.specs.Spelling.{is_digit, is_letter, is_name_byte}
use Rattle.tp_policy_text.specs.declared.reader.Claim.{Claim}
use Rattle.tp_policy_text.specs.Lexis.{first, in_word, skip}
use Rattle.tp_policy_text.specs.mirrors.Readers.{Compared, Head, comes, head_of, int_end, is_some_text}
use Rattle.tp_policy_text.specs.mirrors.Readings.{Reader, ended, read}

-- how many bytes in front go on, where so many were read before them
abbrev pub reach : (ℕ → ℕ → Bool) → ℕ → List ℕ → ℕ
reach goes count [] = 0
reach goes count (byte ∷ others) =
    if goes count byte then suc (reach goes (count + 1) others) else 0

-- the byte goes on with a name of which so many bytes were read
abbrev pub follows : ℕ → ℕ → Bool
follows count byte = if count == 0 then is_letter byte else is_name_byte byte && nat_lt count 32

-- the byte goes on with a number of which so many digits were read, and which does not begin with 0
abbrev pub is_next_digit : ℕ → ℕ → Bool
is_next_digit count byte =
    is_digit byte && (if count == 0 then not (byte == 48) else nat_lt count 15)

-- a 0 in front is a number by itself, and none behind a sign
abbrev pub digit_reach : Bool → List ℕ → ℕ
digit_reach negative [] = 0
digit_reach negative (byte ∷ others) =
    if byte == 48 then (if negative then 0 else 1) else reach is_next_digit 0 (byte ∷ others)

-- the bytes that a name takes in front, and what is left of the text
abbrev pub name_front : List ℕ → List ℕ
name_front text = take (reach follows 0 text) text

abbrev pub name_rest : List ℕ → List ℕ
name_rest text = drop (reach follows 0 text) text

-- the digits that a number takes in front, and what is left of the text
abbrev pub digit_front : Bool → List ℕ → List ℕ
digit_front negative text = take (digit_reach negative text) text

abbrev pub digit_rest : Bool → List ℕ → List ℕ
digit_rest negative text = drop (digit_reach negative text) text

-- an integer behind its sign, where it has one
abbrev pub digits_at : Bool → Reader ℤ
digits_at negative text =
    ended
    (int_end (record { negative = negative; digits = digit_front negative text })
    (first (digit_rest negative text)))
    (digit_rest negative text)

-- an attribute behind its issuer and the dot
abbrev pub attr_at : List ℕ → Reader (Option Head)
attr_at issuer text =
    ended (head_of issuer (Some (name_front text)) (first (name_rest text))) (name_rest text)

-- what an atom begins with, behind what may be its issuer
abbrev pub head_after : List ℕ → Reader (Option Head)
head_after issuer text =
    if comes 46 (first text) && is_some_text issuer then attr_at issuer (drop 1 text)
    else ended (head_of issuer None (first text)) text

-- a pattern behind its name
abbrev pub starred_after : List ℕ → Reader Pattern
starred_after name text =
    if comes 42 (first text) && is_some_text name
    then read (pattern.Prefix name) (skip (drop 1 text))
    else ended
    (if is_some_text name && not (in_word (first text)) then Some (pattern.Exact name) else None)
    text

-- the issuer and the attribute of what an atom begins with
abbrev pub said_attr : Option (List ℕ) → List ℕ
said_attr None = []
said_attr (Some attr) = attr

abbrev pub claim_of : Option Head → Option Claim
claim_of None = None
claim_of (Some head) = Some (record { issuer = head.issuer; attr = said_attr head.attr })

abbrev pub compared_to : Claim → Compared → Cond
compared_to claim compared = cond.Atom claim.issuer claim.attr compared.op compared.wanted
