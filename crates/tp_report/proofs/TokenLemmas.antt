-- The text of tokens that stand one after the other.
use Rattle.std.proofs.Common.{◌≡◌, ◌∙◌, ℕ, List, [], ◌∷◌, ◌++◌, map, refl, sym, ap, codes, decimal}
use Rattle.std.proofs.lemmas.List.{append-nil, append_assoc}
use Rattle.std.proofs.lemmas.Grind.{flat_map-append}
use Rattle.std.specs.List.{flat_map}
use Rattle.tp_model.specs.Words.{CredId, Met, Scenario}
use Rattle.tp_report.specs.ReportText.{cred_name, earlier_met_tokens, earlier_use, instance_front, met_front, mets_tokens, rounds_tokens, uses_tokens}
use Rattle.tp_report.specs.Tokens.{Token, last_word, text_of, token_text, word}

pub text_append : (front others : List Token) → text_of (front ++ others) ≡ text_of front ++ text_of others
text_append front others = flat_map-append token_text front others

-- the last one of some credentials ends the line
pub uses_split : (sc : Scenario) (front : List CredId) (last : CredId) → uses_tokens sc (front ++ last ∷ []) ≡ map (earlier_use sc) front ++ last_word (cred_name sc last) ∷ []
uses_split sc [] last = refl
uses_split sc (first ∷ []) last = refl
uses_split sc (first ∷ next ∷ others) last = ap (λ (tokens : List Token). earlier_use sc first ∷ tokens) (uses_split sc (next ∷ others) last)

-- what rounds met, if there are some
abbrev pub all_mets : Scenario → List Met → List Token
all_mets sc [] = []
all_mets sc (first ∷ others) = mets_tokens sc first others

-- the last of what rounds met ends the line
pub mets_split : (sc : Scenario) (front : List Met) (last : Met) → all_mets sc (front ++ last ∷ []) ≡ flat_map (earlier_met_tokens sc) front ++ (met_front sc last ++ last_word (decimal last.place) ∷ [])
mets_split sc [] last = refl
mets_split sc (first ∷ []) last = refl
mets_split sc (first ∷ next ∷ others) last = ap (λ (tokens : List Token). earlier_met_tokens sc first ++ tokens) (mets_split sc (next ∷ others) last)

pub uses_text : (sc : Scenario) (uses front : List CredId) (last : CredId) → uses ≡ front ++ last ∷ [] → text_of (uses_tokens sc uses) ≡ text_of (map (earlier_use sc) front) ++ (cred_name sc last ++ 10 ∷ [])
uses_text sc uses front last e =
    ap (λ (all : List CredId). text_of (uses_tokens sc all)) e
    ∙ (ap text_of (uses_split sc front last) ∙ (text_append (map (earlier_use sc) front) (last_word (cred_name sc last) ∷ []) ∙ ap (λ (end : List ℕ). text_of (map (earlier_use sc) front) ++ end) (append-nil _)))

pub mets_text : (sc : Scenario) (mets front : List Met) (last : Met) → mets ≡ front ++ last ∷ []
    → text_of (all_mets sc mets) ≡ text_of (flat_map (earlier_met_tokens sc) front) ++ ((text_of (met_front sc last) ++ decimal last.place) ++ 10 ∷ [])
mets_text sc mets front last e =
    ap (λ (all : List Met). text_of (all_mets sc all)) e
    ∙ (ap text_of (mets_split sc front last)
    ∙ (text_append (flat_map (earlier_met_tokens sc) front) (met_front sc last ++ last_word (decimal last.place) ∷ [])
    ∙ ap (λ (end : List ℕ). text_of (flat_map (earlier_met_tokens sc) front) ++ end) (text_append (met_front sc last) (last_word (decimal last.place) ∷ [])
    ∙ (ap (λ (end : List ℕ). text_of (met_front sc last) ++ end) (append-nil (decimal last.place ++ 10 ∷ [])) ∙ sym (append_assoc (text_of (met_front sc last)) (decimal last.place) (10 ∷ []))))))

-- ---- what was put, one piece after the other

pub three_puts : (out one two three first second third all : List ℕ) → one ≡ out ++ first → two ≡ one ++ second → three ≡ two ++ third → all ≡ first ++ (second ++ third) → three ≡ out ++ all
three_puts out one two three first second third all a b c e =
    c ∙ (ap (λ (l : List ℕ). l ++ third) (b ∙ ap (λ (l : List ℕ). l ++ second) a)
    ∙ (append_assoc (out ++ first) second third ∙ (append_assoc out first (second ++ third) ∙ ap (λ (l : List ℕ). out ++ l) (sym e))))

some_mets : (sc : Scenario) (mets front : List Met) (last : Met) → mets ≡ front ++ last ∷ [] → rounds_tokens sc mets ≡ word (codes "rounds") ∷ all_mets sc mets
some_mets sc [] [] last e = cc
some_mets sc [] (first ∷ front) last e = cc
some_mets sc (first ∷ others) front last e = refl

pub rounds_text : (sc : Scenario) (mets front : List Met) (last : Met) → mets ≡ front ++ last ∷ []
    → text_of (rounds_tokens sc mets) ≡ codes "rounds " ++ (text_of (flat_map (earlier_met_tokens sc) front) ++ ((text_of (met_front sc last) ++ decimal last.place) ++ 10 ∷ []))
rounds_text sc mets front last e = ap text_of (some_mets sc mets front last e) ∙ ap (λ (l : List ℕ). codes "rounds " ++ l) (mets_text sc mets front last e)

pub instance_text : (number : ℕ) → text_of (instance_front number) ≡ codes "instance " ++ (decimal number ++ 32 ∷ [])
unfolding instance_front
instance_text number = ap (λ (l : List ℕ). codes "instance " ++ l) (append-nil (decimal number ++ 32 ∷ []))
