-- The text of lines that stand one after the other.
use Rattle.std.proofs.Common.{◌≡◌, ◌∙◌, ℕ, List, [], ◌∷◌, ◌++◌, map, codes, decimal, refl, sym, ap, append_assoc}
use Rattle.std.proofs.lemmas.Grind.{flat_map-append}
use Rattle.tp_trace.specs.Lines.{Line, front_text, line_of, line_text, lines_text}
use Rattle.tp_trace.specs.declared.lines.Kind.TheVariants as kind
use Rattle.tp_why.specs.Lines.{behind_line, behind_text, why_line, why_text}

pub lines_append : (front others : List Line) → lines_text (front ++ others) ≡ lines_text front ++ lines_text others
lines_append front others = flat_map-append line_text front others

-- ---- the lines below a decision, as their crate puts them

why_front : (place : ℕ) → front_text place kind.Why ≡ decimal place ++ codes " why "
unfolding front_text
why_front place = append_assoc (decimal place ++ codes " ") (codes "why") (codes " ") ∙ append_assoc (decimal place) (codes " ") (codes "why ")

why_line_is : (place : ℕ) (words : List ℕ) → line_text (line_of place kind.Why words) ≡ why_line place words
why_line_is place words =
    ap (λ (front : List ℕ). front ++ (words ++ codes "\n")) (why_front place) ∙ sym (append_assoc (decimal place ++ codes " why ") words (codes "\n"))

pub why_is : (place : ℕ) (lines : List (List ℕ)) → lines_text (map (line_of place kind.Why) lines) ≡ why_text place lines
why_is place [] = refl
why_is place (words ∷ lines) =
    ap (λ (t : List ℕ). t ++ lines_text (map (line_of place kind.Why) lines)) (why_line_is place words) ∙ ap (λ (t : List ℕ). why_line place words ++ t) (why_is place lines)

behind_front : (place : ℕ) → front_text place kind.Behind ≡ decimal place ++ codes " behind "
unfolding front_text
behind_front place = append_assoc (decimal place ++ codes " ") (codes "behind") (codes " ") ∙ append_assoc (decimal place) (codes " ") (codes "behind ")

behind_line_is : (place : ℕ) (words : List ℕ) → line_text (line_of place kind.Behind words) ≡ behind_line place words
behind_line_is place words =
    ap (λ (front : List ℕ). front ++ (words ++ codes "\n")) (behind_front place) ∙ sym (append_assoc (decimal place ++ codes " behind ") words (codes "\n"))

pub behind_is : (place : ℕ) (lines : List (List ℕ)) → lines_text (map (line_of place kind.Behind) lines) ≡ behind_text place lines
behind_is place [] = refl
behind_is place (words ∷ lines) =
    ap (λ (t : List ℕ). t ++ lines_text (map (line_of place kind.Behind) lines)) (behind_line_is place words) ∙ ap (λ (t : List ℕ). behind_line place words ++ t) (behind_is place lines)
