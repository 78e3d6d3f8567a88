-- One level of a printed condition at a time.
use Rattle.std.proofs.Common.{◌≡◌, ℕ, Bool, ◌&&◌, ◌++◌, List, [], ◌∷◌, length, map, nat_le, suc, true, codes, refl, ap, sym, ◌∙◌}
use Rattle.std.specs.List.{flat_map, join_by, list_all}
use Rattle.tp_types.specs.declared.policy.Cond.{Cond}
use Rattle.tp_types.specs.declared.policy.Cond.TheOpen.{True, Atom, And, Or}
use Rattle.tp_types.specs.declared.policy.Cond.TheFolds.{fold-roll-Cond}
use Rattle.tp_types.specs.declared.policy.Cond.TheVariants as cond
use Rattle.tp_types.specs.declared.policy.Op.{Op}
use Rattle.tp_types.specs.declared.policy.Value.{Value}
use Rattle.tp_types.specs.Spelling.{is_name}
use Rattle.tp_policy_text.specs.Printed.{CondText, atom_text, can_be_cond, can_be_level, can_be_value, can_compare, cond_text, conjunction, disjunction, in_parentheses, in_and, in_or, can_be_member, plain, kind_and_text, level_text}

-- ---- the printed form

-- members shown, in any place
others_shown : (f : CondText → List ℕ) (word : List ℕ) (members : List Cond) → flat_map (λ m. word ++ f m) (map kind_and_text members) ≡ flat_map (λ c. word ++ f (kind_and_text c)) members
others_shown f word [] = refl
others_shown f word (member ∷ members) = ap (λ l. (word ++ f (kind_and_text member)) ++ l) (others_shown f word members)

members_shown : (f : CondText → List ℕ) (word : List ℕ) (members : List Cond) → join_by f word (map kind_and_text members) ≡ join_by (λ c. f (kind_and_text c)) word members
members_shown f word [] = refl
members_shown f word (member ∷ members) = ap (λ l. f (kind_and_text member) ++ l) (others_shown f word members)

pub shown_true : kind_and_text cond.True ≡ record { kind = plain; text = codes "true" }
shown_true = ap kind_and_text (sym cond.rolls-True) ∙ fold-roll-Cond CondText level_text True

pub shown_atom : (issuer attr : List ℕ) (op : Op) (wanted : Value) → kind_and_text (cond.Atom issuer attr op wanted) ≡ record { kind = plain; text = atom_text issuer attr op wanted }
shown_atom issuer attr op wanted = ap kind_and_text (sym (cond.rolls-Atom issuer attr op wanted)) ∙ fold-roll-Cond CondText level_text (Atom issuer attr op wanted)

pub shown_and : (members : List Cond) → kind_and_text (cond.And members) ≡ record { kind = conjunction; text = join_by (λ c. in_and (kind_and_text c)) (codes " and ") members }
shown_and members =
    ap kind_and_text (sym (cond.rolls-And members))
    ∙ (fold-roll-Cond CondText level_text (And members) ∙ ap (λ (l : List ℕ). record { kind = conjunction; text = l }) (members_shown in_and (codes " and ") members))

pub shown_or : (members : List Cond) → kind_and_text (cond.Or members) ≡ record { kind = disjunction; text = join_by (λ c. in_or (kind_and_text c)) (codes " or ") members }
shown_or members =
    ap kind_and_text (sym (cond.rolls-Or members))
    ∙ (fold-roll-Cond CondText level_text (Or members) ∙ ap (λ (l : List ℕ). record { kind = disjunction; text = l }) (members_shown in_or (codes " or ") members))

pub text_true : cond_text cond.True ≡ codes "true"
text_true = ap (λ (s : CondText). s.text) shown_true

pub text_atom : (issuer attr : List ℕ) (op : Op) (wanted : Value) → cond_text (cond.Atom issuer attr op wanted) ≡ atom_text issuer attr op wanted
text_atom issuer attr op wanted = ap (λ (s : CondText). s.text) (shown_atom issuer attr op wanted)

pub text_and : (members : List Cond) → cond_text (cond.And members) ≡ join_by (λ c. in_and (kind_and_text c)) (codes " and ") members
text_and members = ap (λ (s : CondText). s.text) (shown_and members)

pub text_or : (members : List Cond) → cond_text (cond.Or members) ≡ join_by (λ c. in_or (kind_and_text c)) (codes " or ") members
text_or members = ap (λ (s : CondText). s.text) (shown_or members)

-- ---- members in their parentheses

pub and_true : in_and (kind_and_text cond.True) ≡ cond_text cond.True
and_true = ap in_and shown_true ∙ sym text_true

pub and_atom : (issuer attr : List ℕ) (op : Op) (wanted : Value) → in_and (kind_and_text (cond.Atom issuer attr op wanted)) ≡ cond_text (cond.Atom issuer attr op wanted)
and_atom issuer attr op wanted = ap in_and (shown_atom issuer attr op wanted) ∙ sym (text_atom issuer attr op wanted)

pub and_and : (members : List Cond) → in_and (kind_and_text (cond.And members)) ≡ in_parentheses (cond_text (cond.And members))
and_and members = ap in_and (shown_and members) ∙ ap in_parentheses (sym (text_and members))

pub and_or : (members : List Cond) → in_and (kind_and_text (cond.Or members)) ≡ in_parentheses (cond_text (cond.Or members))
and_or members = ap in_and (shown_or members) ∙ ap in_parentheses (sym (text_or members))

pub or_true : in_or (kind_and_text cond.True) ≡ cond_text cond.True
or_true = ap in_or shown_true ∙ sym text_true

pub or_atom : (issuer attr : List ℕ) (op : Op) (wanted : Value) → in_or (kind_and_text (cond.Atom issuer attr op wanted)) ≡ cond_text (cond.Atom issuer attr op wanted)
or_atom issuer attr op wanted = ap in_or (shown_atom issuer attr op wanted) ∙ sym (text_atom issuer attr op wanted)

pub or_and : (members : List Cond) → in_or (kind_and_text (cond.And members)) ≡ cond_text (cond.And members)
or_and members = ap in_or (shown_and members) ∙ sym (text_and members)

pub or_or : (members : List Cond) → in_or (kind_and_text (cond.Or members)) ≡ in_parentheses (cond_text (cond.Or members))
or_or members = ap in_or (shown_or members) ∙ ap in_parentheses (sym (text_or members))

-- ---- what the grammar can say

members_can_be : (members : List Cond) → list_all can_be_member (map can_be_cond members) ≡ list_all can_be_cond members
members_can_be [] = refl
members_can_be (member ∷ members) = ap (λ b. can_be_cond member && b) (members_can_be members)

members_many : (members : List Cond) → length (map can_be_cond members) ≡ length members
members_many [] = refl
members_many (member ∷ members) = ap (λ n. suc n) (members_many members)

both_can_be : (members : List Cond) → (nat_le 2 (length (map can_be_cond members)) && list_all can_be_member (map can_be_cond members)) ≡ (nat_le 2 (length members) && list_all can_be_cond members)
both_can_be members =
    ap (λ n. nat_le 2 n && list_all can_be_member (map can_be_cond members)) (members_many members)
    ∙ ap (λ b. nat_le 2 (length members) && b) (members_can_be members)

pub can_be_true : can_be_cond cond.True ≡ true
can_be_true = ap can_be_cond (sym cond.rolls-True) ∙ fold-roll-Cond Bool can_be_level True

pub can_be_atom : (issuer attr : List ℕ) (op : Op) (wanted : Value) → can_be_cond (cond.Atom issuer attr op wanted) ≡ (is_name issuer && is_name attr && can_compare op wanted && can_be_value wanted)
can_be_atom issuer attr op wanted = ap can_be_cond (sym (cond.rolls-Atom issuer attr op wanted)) ∙ fold-roll-Cond Bool can_be_level (Atom issuer attr op wanted)

pub can_be_and : (members : List Cond) → can_be_cond (cond.And members) ≡ (nat_le 2 (length members) && list_all can_be_cond members)
can_be_and members = ap can_be_cond (sym (cond.rolls-And members)) ∙ (fold-roll-Cond Bool can_be_level (And members) ∙ both_can_be members)

pub can_be_or : (members : List Cond) → can_be_cond (cond.Or members) ≡ (nat_le 2 (length members) && list_all can_be_cond members)
can_be_or members = ap can_be_cond (sym (cond.rolls-Or members)) ∙ (fold-roll-Cond Bool can_be_level (Or members) ∙ both_can_be members)

-- ---- members with a word between two of them

-- what is still to come of them, where this stands before the next
abbrev pub joined_after : List ℕ → (Cond → List ℕ) → List ℕ → List Cond → List ℕ
joined_after between f word [] = []
joined_after between f word (c ∷ cs) = between ++ (f c ++ flat_map (λ other. word ++ f other) cs)
