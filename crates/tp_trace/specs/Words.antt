-- Words that lines of several kinds share.
use Rattle.std.specs.Prelude.{ℕ, ◌+◌, List, [], ◌∷◌, ◌++◌, Option, Some, None, codes, decimal, length}
use Rattle.std.specs.Fmt.{signed_decimal}
use Rattle.std.specs.List.{flat_map}
use Rattle.tp_model.specs.Words.{AdminId, Deed, No, Scenario, Staple, Verdict, Version}
use Rattle.tp_model.specs.Words.no
use Rattle.tp_report.specs.ReportText.{action_word, admin_name, item_name, query_word}

-- ` KEY=VALUE`, or nothing where there is no value
abbrev pub word_if : List ℕ → Option (List ℕ) → List ℕ
word_if key None = []
word_if key (Some value) = key ++ value

-- ---- lists

-- a member behind the first, after a comma
abbrev pub behind_comma : {A : Type 0} → (A → List ℕ) → A → List ℕ
behind_comma word member = codes "," ++ word member

-- the words of the members with commas between them, and `-` where there is no member
abbrev pub joined : {A : Type 0} → (A → List ℕ) → List A → List ℕ
joined word [] = codes "-"
joined word (first ∷ others) = word first ++ flat_map (behind_comma word) others

-- `ADMIN:VERSION`
abbrev pub version_word : Scenario → AdminId → Version → List ℕ
version_word sc admin version = admin_name sc admin ++ codes ":" ++ decimal version.0

-- `ADMIN:VERSION` of a wanted version
abbrev pub want_word : Scenario → AdminId × Version → List ℕ
want_word sc want = version_word sc want.0 want.1

-- a comma and `ADMIN:VERSION` for each version, the first of which is that of the administrator of this number
abbrev pub versions_behind : Scenario → ℕ → List Version → List ℕ
versions_behind sc admin [] = []
versions_behind sc admin (version ∷ others) =
    codes "," ++ version_word sc (record { 0 = admin }) version
    ++ versions_behind sc (admin + 1) others

-- the version of each administrator, in order
abbrev pub versions_word : Scenario → List Version → List ℕ
versions_word sc [] = codes "-"
versions_word sc (first ∷ others) =
    version_word sc (record { 0 = 0 }) first ++ versions_behind sc 1 others

-- `ruleK`, by which a verdict is true, or `denied`
abbrev pub ruling_word : Option ℕ → List ℕ
ruling_word None = codes "denied"
ruling_word (Some rule) = codes "rule" ++ decimal rule

-- `qN:ADMIN:VERSION:ruleK`, or `:denied`
abbrev pub verdict_word : Scenario → Verdict → List ℕ
verdict_word sc verdict =
    query_word verdict.query ++ codes ":" ++ version_word sc verdict.admin verdict.version
    ++ codes ":" ++ ruling_word verdict.rule

-- `qN:read:ITEM:VALUE`, or `:write:`
abbrev pub deed_word : Scenario → Deed → List ℕ
deed_word sc deed =
    query_word deed.query ++ codes ":" ++ action_word deed.action ++ codes ":"
    ++ item_name sc deed.item ++ codes ":" ++ signed_decimal deed.value

-- ---- words that come together

-- the place and the clock of a staple, and how many credentials it has as revoked
abbrev pub staple_words : Staple → List ℕ
staple_words staple =
    codes " at=" ++ decimal staple.place ++ codes " clock=" ++ decimal staple.clock
    ++ codes " revoked=" ++ decimal (length staple.revoked)

abbrev pub staple_words_if : Option Staple → List ℕ
staple_words_if None = []
staple_words_if (Some staple) = staple_words staple

-- the versions that are wanted, if any are
abbrev pub want_words : Scenario → List (AdminId × Version) → List ℕ
want_words sc [] = []
want_words sc (first ∷ others) = codes " want=" ++ joined (want_word sc) (first ∷ others)

-- an administrator and a version of its policy
abbrev pub of_admin_words : Scenario → AdminId → Version → List ℕ
of_admin_words sc admin version =
    codes " admin=" ++ admin_name sc admin ++ codes " version=" ++ decimal version.0

-- why a server votes NO
abbrev pub no_words : No → List ℕ
no_words (no.Range query value) =
    codes " why=range q=" ++ decimal query ++ codes " value=" ++ signed_decimal value
no_words no.Restarted = codes " why=restarted"
