-- One word more, and that words are at most one command.
use Rattle.std.proofs.Common.{◌≡◌, ◌<◌, ◌+◌, ◌++◌, List, [], ◌∷◌, ℕ, ap, sym, subst, ◌∙◌, drop, get_or, length, map, suc, arith, Option}
use Rattle.std.proofs.Math.Seq.{drop-cons}
use Rattle.std.proofs.lemmas.List.{append_assoc, map-append}
use Rattle.std.specs.Prelude.{IsUtf8}
use Rattle.tp_types.specs.declared.name.Text.{Text}
use Rattle.std.proofs.lemmas.Option.{same_Some}
use Rattle.tp_words.specs.Commands.{AreUtf8, IsCommand, bytes_of, command_by}
use Rattle.tp_words.specs.declared.commands.Command.{Command}

pub word_here : (words : List Text) (n : ℕ) (word : Text) → n < length words → word ≡ get_or words n word → drop n words ≡ word ∷ drop (n + 1) words
word_here words n word low is =
    let next : suc n ≡ n + 1 = omega arith in
    drop-cons words n word low ∙ (ap (λ (k : ℕ). get_or words n word ∷ drop k words) next ∙ ap (λ (w : Text). w ∷ drop (n + 1) words) (sym is))

-- what was read so far of the words, and what is left
pub record Goes (words left : List Text) (made : List (List ℕ)) : Type 0 where
  pub whole : made ++ bytes_of left ≡ bytes_of words
  pub enough : AreUtf8 (bytes_of left) → AreUtf8 (bytes_of words)
  pub needed : AreUtf8 (bytes_of words) → AreUtf8 (bytes_of left)

pub goes_on : (words left rest : List Text) (word : Text) (made next : List (List ℕ)) → left ≡ word ∷ rest → next ≡ made ++ word.0 ∷ [] → IsUtf8 word.0 → Goes words left made → Goes words rest next
goes_on words left rest word made next here more utf8 h =
    let whole = subst (λ (ws : List Text). made ++ bytes_of ws ≡ bytes_of words) here h.whole in
    record {
      whole = ap (λ (l : List (List ℕ)). l ++ bytes_of rest) more ∙ (append_assoc made (word.0 ∷ []) (bytes_of rest) ∙ whole);
      enough = λ all. h.enough (subst (λ (ws : List Text). AreUtf8 (bytes_of ws)) (sym here) (utf8, all));
      needed = λ all. (subst (λ (ws : List Text). AreUtf8 (bytes_of ws)) here (h.needed all)).1;
    }

pub stops : (words left rest : List Text) (word : Text) (made : List (List ℕ)) → left ≡ word ∷ rest → (IsUtf8 word.0 → ⊥) → Goes words left made → AreUtf8 (bytes_of words) → ⊥
stops words left rest word made here wrong h all = wrong (subst (λ (ws : List Text). AreUtf8 (bytes_of ws)) here (h.needed all)).0

-- words are at most one command
pub one_command : (words : List Text) (command other : Command) → IsCommand words command → IsCommand words other → command ≡ other
one_command words command other one two =
    let first : one.first ≡ two.first = one.read.first_is ∙ sym two.read.first_is in
    let second : one.second ≡ two.second = one.read.second_is ∙ sym two.read.second_is in
    same_Some command other (sym one.command_is ∙ (ap (λ (f : Option (List ℕ)). command_by f one.second) first ∙ (ap (command_by two.first) second ∙ two.command_is)))
