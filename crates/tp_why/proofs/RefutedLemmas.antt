-- What is refuted is not allowed; and what is not allowed is refuted by its cuts.
use Rattle.std.proofs.Common.{◌≡◌, ℕ, ◌+◌, Bool, true, false, not, ◌&&◌, ◌||◌, ◌==◌, cond as if_so, List, [], ◌∷◌, ◌++◌, map, append_assoc, Option, Some, None, refl, ap, sym, subst, ◌∙◌, true≢false}
use Rattle.std.proofs.lemmas.Bool.{and_from, and_parts, or_right}
use Rattle.std.proofs.lemmas.Bool.Decides.{Decides-int_eq}
use Rattle.std.proofs.lemmas.List.Folds.{list_all-append, list_any-append}
use Rattle.std.proofs.Math.Bool.{and-false}
use Rattle.std.specs.Cmp.Lexicographic.{bytes_decides}
use Rattle.std.specs.List.{list_all, list_any}
use Rattle.std.specs.Option.{option_or}
use Rattle.tp_types.proofs.ListLemmas.{number_itself}
use Rattle.tp_model.specs.Words.{Action, Cond, Op, Policy, Rule, Value}
use Rattle.tp_model.specs.Words.cond
use Rattle.tp_model.specs.Words.op
use Rattle.tp_model.specs.Words.value
use Rattle.tp_types.specs.declared.policy.Cond.{map-Cond, roll-Cond}
use Rattle.tp_types.specs.declared.policy.Cond.TheFolds.{fold-roll-Cond, ind-Cond}
use Rattle.tp_types.specs.declared.policy.Cond.TheOpen.{Cond-F, True, Atom, And, Or}
use Rattle.tp_model.specs.Ids.{same_name}
use Rattle.tp_model.specs.Policies as policies
use Rattle.tp_model.specs.Policies.{Triple, allows, holds, matches, meets, rule_allows, same_value}
use Rattle.tp_model.proofs.ConditionLemmas.{holds_and, holds_atom, holds_or}
use Rattle.tp_why.specs.declared.atoms.FalseAtom.{FalseAtom}
use Rattle.tp_why.specs.declared.atoms.Atom as atoms
use Rattle.tp_why.specs.Refutation.{all_cuts, each_rule, atoms_from, cut, cut_atom, first_cut, is_entry, is_false_entry, is_false_under, is_listed, is_open, is_refuted, is_rule_refuted, is_true, level, numbered, open_level, refutation, rule_atoms, same_atom, same_op, under}
use Rattle.tp_why.proofs.CutLemmas.{and_others, cut_of_and, cut_of_atom, cut_of_or}
use Rattle.tp_why.proofs.OpenLemmas.{open_and, open_atom, open_or}

-- ---- atoms that say the same

same_bytes : (one other : List ℕ) → same_name one other ≡ true → one ≡ other
same_bytes one other = (bytes_decides one other).0

itself : (name : List ℕ) → same_name name name ≡ true
itself name = (bytes_decides name name).1 refl

same_values : (one other : Value) → same_value one other ≡ true → one ≡ other
same_values (value.Number one) (value.Number other) e = ap value.Number ((Decides-int_eq one other).0 e)
same_values (value.Word one) (value.Word other) e = ap value.Word (same_bytes one other e)
same_values (value.Number one) (value.Word other) e = absurd (true≢false (sym e))
same_values (value.Word one) (value.Number other) e = absurd (true≢false (sym e))

value_itself : (one : Value) → same_value one one ≡ true
value_itself (value.Number one) = (Decides-int_eq one one).1 refl
value_itself (value.Word one) = itself one

same_ops : (one other : Op) → same_op one other ≡ true → one ≡ other
same_ops op.Equal op.Equal e = refl
same_ops op.AtLeast op.AtLeast e = refl
same_ops op.AtMost op.AtMost e = refl
same_ops op.Equal op.AtLeast e = absurd (true≢false (sym e))
same_ops op.Equal op.AtMost e = absurd (true≢false (sym e))
same_ops op.AtLeast op.Equal e = absurd (true≢false (sym e))
same_ops op.AtLeast op.AtMost e = absurd (true≢false (sym e))
same_ops op.AtMost op.Equal e = absurd (true≢false (sym e))
same_ops op.AtMost op.AtLeast e = absurd (true≢false (sym e))

op_itself : (one : Op) → same_op one one ≡ true
op_itself op.Equal = refl
op_itself op.AtLeast = refl
op_itself op.AtMost = refl

four : (issuer issuer' attr attr' : List ℕ) (compares compares' : Op) (wanted wanted' : Value) → issuer ≡ issuer' → attr ≡ attr' → compares ≡ compares' → wanted ≡ wanted'
    → ◌≡◌ {A = atoms.Atom} (record { issuer = issuer; attr = attr; op = compares; wanted = wanted }) (record { issuer = issuer'; attr = attr'; op = compares'; wanted = wanted' })
four issuer issuer' attr attr' compares compares' wanted wanted' i a o w = cc (i, a, o, w)

same_atoms : (one other : atoms.Atom) → same_atom one other ≡ true → one ≡ other
same_atoms one other e =
    let last = and_parts (same_name one.issuer other.issuer && same_name one.attr other.attr && same_op one.op other.op) (same_value one.wanted other.wanted) e in
    let third = and_parts (same_name one.issuer other.issuer && same_name one.attr other.attr) (same_op one.op other.op) last.0 in
    let names = and_parts (same_name one.issuer other.issuer) (same_name one.attr other.attr) third.0 in
    four one.issuer other.issuer one.attr other.attr one.op other.op one.wanted other.wanted
    (same_bytes one.issuer other.issuer names.0) (same_bytes one.attr other.attr names.1) (same_ops one.op other.op third.1) (same_values one.wanted other.wanted last.1)

atom_itself : (one : atoms.Atom) → same_atom one one ≡ true
atom_itself one = rw (itself one.issuer, itself one.attr, op_itself one.op, value_itself one.wanted) refl

-- ---- sound

-- of two tests the second is true where the first is
abbrev Implies : Bool → Bool → Type 0
Implies one other = one ≡ true → other ≡ true

all_imply : {A : Type 0} (one other : A → Bool) (xs : List ((x : A) × Implies (one x) (other x))) → Implies (list_all one (map (λ e. e.0) xs)) (list_all other (map (λ e. e.0) xs))
all_imply one other [] all = refl
all_imply one other (x ∷ xs) all =
    let parts = and_parts (one x.0) (list_all one (map (λ e. e.0) xs)) all in
    and_from (other x.0) (list_all other (map (λ e. e.0) xs)) (x.1 parts.0) (all_imply one other xs parts.1)

first_or_later : (a b c d : Bool) → Implies a c → Implies b d → Implies (a || b) (c || d)
first_or_later true b c d first later any = rw (first refl) refl
first_or_later false b c d first later any = or_right c d (later any)

any_imply : {A : Type 0} (one other : A → Bool) (xs : List ((x : A) × Implies (one x) (other x))) → Implies (list_any one (map (λ e. e.0) xs)) (list_any other (map (λ e. e.0) xs))
any_imply one other [] any = any
any_imply one other (x ∷ xs) any =
    first_or_later (one x.0) (list_any one (map (λ e. e.0) xs)) (other x.0) (list_any other (map (λ e. e.0) xs)) x.1 (any_imply one other xs) any

-- no atom that is listed is true
abbrev AreFalse : List Triple → (atoms.Atom → Bool) → Type 0
AreFalse held listed = (atom : atoms.Atom) → listed atom ≡ true → is_true held atom ≡ false

-- a condition that is true is so where all atoms that are not listed count as true, if none that is listed is
abbrev IsMonotonic : List Triple → (atoms.Atom → Bool) → Cond → Type 0
IsMonotonic held listed condition = Implies (holds held condition) (is_open listed condition)

by_equations : (held : List Triple) (listed : atoms.Atom → Bool) (condition : Cond) (one other : Bool) → holds held condition ≡ one → is_open listed condition ≡ other → Implies one other
    → IsMonotonic held listed condition
by_equations held listed condition one other e f implies is = f ∙ implies (sym e ∙ is)

not_listed : (truth is : Bool) → (is ≡ true → truth ≡ false) → Implies truth (not is)
not_listed truth false apart e = refl
not_listed truth true apart e = absurd (true≢false (sym e ∙ apart refl))

module _ (held : List Triple) (listed : atoms.Atom → Bool) (are_false : AreFalse held listed) where
  abbrev Part : Type 0
  Part = (c : Cond) × IsMonotonic held listed c

  abbrev conditions : List Part → List Cond
  conditions members = map (λ e. e.0) members

  level_monotonic : (y : Cond-F Part) → IsMonotonic held listed (roll-Cond (map-Cond Part Cond (λ e. e.0) y))
  level_monotonic True =
      by_equations held listed (roll-Cond True) true true (fold-roll-Cond Bool (policies.level held) True) (fold-roll-Cond Bool (open_level listed) True) (λ e. e)
  level_monotonic (Atom issuer attr compares wanted) =
      let atom : atoms.Atom = record { issuer = issuer; attr = attr; op = compares; wanted = wanted } in
      subst (IsMonotonic held listed) (sym (cond.rolls-Atom issuer attr compares wanted))
      (by_equations held listed (cond.Atom issuer attr compares wanted) (is_true held atom) (not (listed atom))
      (holds_atom held issuer attr compares wanted) (open_atom listed issuer attr compares wanted) (not_listed (is_true held atom) (listed atom) (are_false atom)))
  level_monotonic (And members) =
      subst (IsMonotonic held listed) (sym (cond.rolls-And (conditions members)))
      (by_equations held listed (cond.And (conditions members)) (list_all (holds held) (conditions members)) (list_all (is_open listed) (conditions members))
      (holds_and held (conditions members)) (open_and listed (conditions members)) (all_imply (holds held) (is_open listed) members))
  level_monotonic (Or members) =
      subst (IsMonotonic held listed) (sym (cond.rolls-Or (conditions members)))
      (by_equations held listed (cond.Or (conditions members)) (list_any (holds held) (conditions members)) (list_any (is_open listed) (conditions members))
      (holds_or held (conditions members)) (open_or listed (conditions members)) (any_imply (holds held) (is_open listed) members))

  monotonic : (condition : Cond) → IsMonotonic held listed condition
  monotonic = ind-Cond (IsMonotonic held listed) (λ x y is. subst (λ z. IsMonotonic held listed (roll-Cond z)) is (level_monotonic y))

-- an entry of the number is false, and so is an atom that says the same
entry_false : (held : List Triple) (number : ℕ) (atom : atoms.Atom) (entry : FalseAtom) → is_false_under held number entry ≡ true → is_entry number atom entry ≡ true → is_true held atom ≡ false
entry_false held number atom entry under is =
    let parts = and_parts (entry.rule == number) (same_atom entry.atom atom) is in
    let same : entry.atom ≡ atom = same_atoms entry.atom atom parts.1 in
    let false_entry : not (is_true held entry.atom) ≡ true = rw parts.0 at under in
    ap (is_true held) (sym same) ∙ not_true (is_true held entry.atom) false_entry
  where
    not_true : (b : Bool) → not b ≡ true → b ≡ false
    not_true false e = refl
    not_true true e = absurd (true≢false (sym e))

listed_false : (held : List Triple) (number : ℕ) (entries : List FalseAtom) → list_all (is_false_under held number) entries ≡ true → AreFalse held (is_listed entries number)
listed_false held number [] all atom is = absurd (true≢false (sym is))
listed_false held number (entry ∷ entries) all atom is =
    let parts = and_parts (is_false_under held number entry) (list_all (is_false_under held number) entries) all in
    by_first (is_entry number atom entry) refl parts.0 (listed_false held number entries parts.1 atom) is
  where
    by_first : (b : Bool) → is_entry number atom entry ≡ b → is_false_under held number entry ≡ true → (is_listed entries number atom ≡ true → is_true held atom ≡ false)
        → (b || is_listed entries number atom) ≡ true → is_true held atom ≡ false
    by_first true e here later any = entry_false held number atom entry here e
    by_first false e here later any = later any

neither : (fits truth opens false_all : Bool) → (false_all ≡ true → Implies truth opens) → (not fits || (false_all && not opens)) ≡ true → (fits && truth) ≡ false
neither false truth opens false_all implies e = refl
neither true false opens false_all implies e = refl
neither true true true true implies e = absurd (true≢false (sym e))
neither true true false true implies e = absurd (true≢false (sym (implies refl refl)))
neither true true opens false implies e = absurd (true≢false (sym e))

rule_sound : (asked : Action) (item : List ℕ) (held : List Triple) (entries : List FalseAtom) (number : ℕ) (rule : Rule)
    → is_rule_refuted asked item held entries number rule ≡ true → rule_allows asked item held rule ≡ false
rule_sound asked item held entries number rule e =
    neither (matches asked item rule) (holds held rule.cond) (is_open (is_listed entries number) rule.cond) (list_all (is_false_under held number) entries)
    (λ all. monotonic held (is_listed entries number) (listed_false held number entries all) rule.cond) e

rules_sound : (asked : Action) (item : List ℕ) (held : List Triple) (entries : List FalseAtom) (number : ℕ) (rules : List Rule)
    → each_rule (is_rule_refuted asked item held entries) number rules ≡ true → list_any (rule_allows asked item held) rules ≡ false
rules_sound asked item held entries number [] e = refl
rules_sound asked item held entries number (rule ∷ rules) e =
    let parts = and_parts (is_rule_refuted asked item held entries number rule) (each_rule (is_rule_refuted asked item held entries) (number + 1) rules) e in
    rw (rule_sound asked item held entries number rule parts.0, rules_sound asked item held entries (number + 1) rules parts.1) refl

-- what is refuted is not allowed
pub sound : (policy : Policy) (asked : Action) (item : List ℕ) (held : List Triple) (entries : List FalseAtom)
    → is_refuted policy asked item held entries ≡ true → allows policy asked item held ≡ false
sound policy asked item held entries = rules_sound asked item held entries 1 policy.rules

-- ---- complete

abbrev is_false : List Triple → atoms.Atom → Bool
is_false held atom = not (is_true held atom)

-- where a test is cut it is false: these atoms are false, and no test is true of a list that has them
pub record IsCut (held : List Triple) (truth : Bool) (opens : (atoms.Atom → Bool) → Bool) (cuts : List atoms.Atom) : Type 0 where
  pub untrue : truth ≡ false
  pub all_false : list_all (is_false held) cuts ≡ true
  pub enough : (listed : atoms.Atom → Bool) → list_all listed cuts ≡ true → opens listed ≡ false

abbrev pub Cuts : List Triple → Bool → ((atoms.Atom → Bool) → Bool) → Option (List atoms.Atom) → Type 0
Cuts held truth opens None = truth ≡ true
Cuts held truth opens (Some cuts) = IsCut held truth opens cuts

atom_cuts_where : (held : List Triple) (atom : atoms.Atom) (truth : Bool) → is_true held atom ≡ truth
    → Cuts held truth (λ listed. not (listed atom)) (if_so truth None (Some (atom ∷ [])))
atom_cuts_where held atom true e = refl
atom_cuts_where held atom false e = record {
  untrue = refl;
  all_false = rw e refl;
  enough = λ listed all. rw (and_parts (listed atom) true all).0 refl;
}

atom_cuts : (held : List Triple) (atom : atoms.Atom) → Cuts held (is_true held atom) (λ listed. not (listed atom)) (cut_atom held atom)
atom_cuts held atom = atom_cuts_where held atom (is_true held atom) refl

-- an And of one member and the others
and_cuts : (held : List Triple) (first others : Bool) (first_opens others_opens : (atoms.Atom → Bool) → Bool) (one more : Option (List atoms.Atom))
    → Cuts held first first_opens one → Cuts held others others_opens more → Cuts held (first && others) (λ listed. first_opens listed && others_opens listed) (option_or one more)
and_cuts held first others first_opens others_opens None None one more = rw (one, more) refl
and_cuts held first others first_opens others_opens None (Some later) one more = record {
  untrue = rw more.untrue (and-false first);
  all_false = more.all_false;
  enough = λ listed all. rw (more.enough listed all) (and-false (first_opens listed));
}
and_cuts held first others first_opens others_opens (Some cuts) more one rest = record {
  untrue = rw one.untrue refl;
  all_false = one.all_false;
  enough = λ listed all. rw (one.enough listed all) refl;
}

-- an Or of one member and the others
or_cuts : (held : List Triple) (first others : Bool) (first_opens others_opens : (atoms.Atom → Bool) → Bool) (one more : Option (List atoms.Atom))
    → Cuts held first first_opens one → Cuts held others others_opens more → Cuts held (first || others) (λ listed. first_opens listed || others_opens listed) (and_others one more)
or_cuts held first others first_opens others_opens None more one rest = rw one refl
or_cuts held first others first_opens others_opens (Some cuts) None one rest = or_right first others rest
or_cuts held first others first_opens others_opens (Some cuts) (Some later) one rest = record {
  untrue = rw (one.untrue, rest.untrue) refl;
  all_false = list_all-append (is_false held) cuts later ∙ rw (one.all_false, rest.all_false) refl;
  enough = λ listed all.
      let both = and_parts (list_all listed cuts) (list_all listed later) (sym (list_all-append listed cuts later) ∙ all) in
      rw (one.enough listed both.0, rest.enough listed both.1) refl;
}

abbrev pub IsCutBy : List Triple → Cond → Type 0
IsCutBy held condition = Cuts held (holds held condition) (λ listed. is_open listed condition) (cut held condition)

alike : (held : List Triple) (one other : Bool) (one_opens other_opens : (atoms.Atom → Bool) → Bool) (found : Option (List atoms.Atom)) → other ≡ one
    → ((listed : atoms.Atom → Bool) → other_opens listed ≡ one_opens listed) → Cuts held one one_opens found → Cuts held other other_opens found
alike held one other one_opens other_opens None e f cuts = e ∙ cuts
alike held one other one_opens other_opens (Some found) e f cuts = record {
  untrue = e ∙ cuts.untrue;
  all_false = cuts.all_false;
  enough = λ listed all. f listed ∙ cuts.enough listed all;
}

cut_by : (held : List Triple) (condition : Cond) (truth : Bool) (opens : (atoms.Atom → Bool) → Bool) (found : Option (List atoms.Atom)) → cut held condition ≡ found → holds held condition ≡ truth
    → ((listed : atoms.Atom → Bool) → is_open listed condition ≡ opens listed) → Cuts held truth opens found → IsCutBy held condition
cut_by held condition truth opens found e f g cuts =
    subst (Cuts held (holds held condition) (λ listed. is_open listed condition)) (sym e)
    (alike held truth (holds held condition) opens (λ listed. is_open listed condition) found f g cuts)

module _ (held : List Triple) where
  abbrev Member : Type 0
  Member = (c : Cond) × IsCutBy held c

  abbrev conditions_of : List Member → List Cond
  conditions_of members = map (λ e. e.0) members

  all_cut : (members : List Member)
      → Cuts held (list_all (holds held) (conditions_of members)) (λ listed. list_all (is_open listed) (conditions_of members)) (first_cut (map (cut held) (conditions_of members)))
  all_cut [] = refl
  all_cut (member ∷ members) =
      and_cuts held (holds held member.0) (list_all (holds held) (conditions_of members)) (λ listed. is_open listed member.0) (λ listed. list_all (is_open listed) (conditions_of members))
      (cut held member.0) (first_cut (map (cut held) (conditions_of members))) member.1 (all_cut members)

  any_cut : (members : List Member)
      → Cuts held (list_any (holds held) (conditions_of members)) (λ listed. list_any (is_open listed) (conditions_of members)) (all_cuts (map (cut held) (conditions_of members)))
  any_cut [] = record { untrue = refl; all_false = refl; enough = λ listed all. refl }
  any_cut (member ∷ members) =
      or_cuts held (holds held member.0) (list_any (holds held) (conditions_of members)) (λ listed. is_open listed member.0) (λ listed. list_any (is_open listed) (conditions_of members))
      (cut held member.0) (all_cuts (map (cut held) (conditions_of members))) member.1 (any_cut members)

  level_cut : (y : Cond-F Member) → IsCutBy held (roll-Cond (map-Cond Member Cond (λ e. e.0) y))
  level_cut True =
      cut_by held (roll-Cond True) true (λ listed. true) None (fold-roll-Cond (Option (List atoms.Atom)) (level held) True)
      (fold-roll-Cond Bool (policies.level held) True) (λ listed. fold-roll-Cond Bool (open_level listed) True) refl
  level_cut (Atom issuer attr compares wanted) =
      let atom : atoms.Atom = record { issuer = issuer; attr = attr; op = compares; wanted = wanted } in
      subst (IsCutBy held) (sym (cond.rolls-Atom issuer attr compares wanted))
      (cut_by held (cond.Atom issuer attr compares wanted) (is_true held atom) (λ listed. not (listed atom)) (cut_atom held atom)
      (cut_of_atom held issuer attr compares wanted) (holds_atom held issuer attr compares wanted) (λ listed. open_atom listed issuer attr compares wanted) (atom_cuts held atom))
  level_cut (And members) =
      subst (IsCutBy held) (sym (cond.rolls-And (conditions_of members)))
      (cut_by held (cond.And (conditions_of members)) (list_all (holds held) (conditions_of members)) (λ listed. list_all (is_open listed) (conditions_of members))
      (first_cut (map (cut held) (conditions_of members))) (cut_of_and held (conditions_of members)) (holds_and held (conditions_of members)) (λ listed. open_and listed (conditions_of members)) (all_cut members))
  level_cut (Or members) =
      subst (IsCutBy held) (sym (cond.rolls-Or (conditions_of members)))
      (cut_by held (cond.Or (conditions_of members)) (list_any (holds held) (conditions_of members)) (λ listed. list_any (is_open listed) (conditions_of members))
      (all_cuts (map (cut held) (conditions_of members))) (cut_of_or held (conditions_of members)) (holds_or held (conditions_of members)) (λ listed. open_or listed (conditions_of members)) (any_cut members))

  pub is_cut : (condition : Cond) → IsCutBy held condition
  is_cut = ind-Cond (IsCutBy held) (λ x y is. subst (λ z. IsCutBy held (roll-Cond z)) is (level_cut y))

-- ---- the entries of all rules

under_false : (held : List Triple) (number : ℕ) (cuts : List atoms.Atom) → list_all (is_false held) cuts ≡ true → list_all (is_false_entry held) (map (numbered number) cuts) ≡ true
under_false held number [] all = refl
under_false held number (atom ∷ cuts) all =
    let parts = and_parts (is_false held atom) (list_all (is_false held) cuts) all in
    and_from (is_false held atom) (list_all (is_false_entry held) (map (numbered number) cuts)) parts.0 (under_false held number cuts parts.1)

cut_false : (held : List Triple) (number : ℕ) (truth : Bool) (opens : (atoms.Atom → Bool) → Bool) (found : Option (List atoms.Atom)) → Cuts held truth opens found
    → list_all (is_false_entry held) (under number found) ≡ true
cut_false held number truth opens None cuts = refl
cut_false held number truth opens (Some found) cuts = under_false held number found cuts.all_false

rule_false : (held : List Triple) (number : ℕ) (found : Option (List atoms.Atom)) (fits : Bool) → list_all (is_false_entry held) (under number found) ≡ true
    → list_all (is_false_entry held) (if_so fits (under number found) []) ≡ true
rule_false held number found true all = all
rule_false held number found false all = refl

rules_false : (asked : Action) (item : List ℕ) (held : List Triple) (number : ℕ) (rules : List Rule) → list_all (is_false_entry held) (atoms_from (rule_atoms asked item held) number rules) ≡ true
rules_false asked item held number [] = refl
rules_false asked item held number (rule ∷ rules) =
    list_all-append (is_false_entry held) (rule_atoms asked item held number rule) (atoms_from (rule_atoms asked item held) (number + 1) rules)
    ∙ and_from _ _
    (rule_false held number (cut held rule.cond) (matches asked item rule) (cut_false held number (holds held rule.cond) (λ listed. is_open listed rule.cond) (cut held rule.cond) (is_cut held rule.cond)))
    (rules_false asked item held (number + 1) rules)

-- all entries are false
pub all_entries_false : (policy : Policy) (asked : Action) (item : List ℕ) (held : List Triple) → list_all (is_false_entry held) (refutation policy asked item held) ≡ true
all_entries_false policy asked item held = rules_false asked item held 1 policy.rules

-- so are those of one number
false_under : (held : List Triple) (number : ℕ) (entries : List FalseAtom) → list_all (is_false_entry held) entries ≡ true → list_all (is_false_under held number) entries ≡ true
false_under held number [] all = refl
false_under held number (entry ∷ entries) all =
    let parts = and_parts (is_false_entry held entry) (list_all (is_false_entry held) entries) all in
    and_from (is_false_under held number entry) (list_all (is_false_under held number) entries)
    (or_right (not (entry.rule == number)) (is_false_entry held entry) parts.0) (false_under held number entries parts.1)

-- ---- what stands among entries is listed

listed_front : (number : ℕ) (atom : atoms.Atom) (front entries : List FalseAtom) → is_listed entries number atom ≡ true → is_listed (front ++ entries) number atom ≡ true
listed_front number atom front entries is =
    list_any-append (is_entry number atom) front entries ∙ or_right (is_listed front number atom) (is_listed entries number atom) is

listed_back : (number : ℕ) (atom : atoms.Atom) (entries back : List FalseAtom) → is_listed entries number atom ≡ true → is_listed (entries ++ back) number atom ≡ true
listed_back number atom entries back is = list_any-append (is_entry number atom) entries back ∙ rw is refl

all_kept : {A : Type 0} (one other : A → Bool) (xs : List A) → ((x : A) → one x ≡ true → other x ≡ true) → list_all one xs ≡ true → list_all other xs ≡ true
all_kept one other [] each all = refl
all_kept one other (x ∷ xs) each all =
    let parts = and_parts (one x) (list_all one xs) all in
    and_from (other x) (list_all other xs) (each x parts.0) (all_kept one other xs each parts.1)

first_listed : (number : ℕ) (atom : atoms.Atom) (entries : List FalseAtom) → is_listed (numbered number atom ∷ entries) number atom ≡ true
first_listed number atom entries = rw (number_itself number, atom_itself atom) refl

own_listed : (number : ℕ) (cuts : List atoms.Atom) → list_all (is_listed (map (numbered number) cuts) number) cuts ≡ true
own_listed number [] = refl
own_listed number (atom ∷ cuts) =
    and_from (is_listed (map (numbered number) (atom ∷ cuts)) number atom) (list_all (is_listed (map (numbered number) (atom ∷ cuts)) number) cuts)
    (first_listed number atom (map (numbered number) cuts))
    (all_kept (is_listed (map (numbered number) cuts) number) (is_listed (map (numbered number) (atom ∷ cuts)) number) cuts
    (λ other is. listed_front number other (numbered number atom ∷ []) (map (numbered number) cuts) is) (own_listed number cuts))

-- ---- each rule is refuted

rule_complete_where : (held : List Triple) (number : ℕ) (front back : List FalseAtom) (truth : Bool) (opens : (atoms.Atom → Bool) → Bool) (found : Option (List atoms.Atom)) → truth ≡ false → Cuts held truth opens found
    → opens (is_listed (front ++ (under number found ++ back)) number) ≡ false
rule_complete_where held number front back truth opens None e cuts = absurd (true≢false (sym cuts ∙ e))
rule_complete_where held number front back truth opens (Some found) e cuts =
    cuts.enough (is_listed (front ++ (map (numbered number) found ++ back)) number)
    (all_kept (is_listed (map (numbered number) found) number) (is_listed (front ++ (map (numbered number) found ++ back)) number) found
    (λ atom is. listed_front number atom front (map (numbered number) found ++ back) (listed_back number atom (map (numbered number) found) back is))
    (own_listed number found))

rule_complete : (asked : Action) (item : List ℕ) (held : List Triple) (number : ℕ) (rule : Rule) (front back : List FalseAtom) (fits : Bool) → matches asked item rule ≡ fits
    → rule_allows asked item held rule ≡ false → list_all (is_false_entry held) (front ++ (if_so fits (under number (cut held rule.cond)) [] ++ back)) ≡ true
    → is_rule_refuted asked item held (front ++ (if_so fits (under number (cut held rule.cond)) [] ++ back)) number rule ≡ true
rule_complete asked item held number rule front back false e none all = rw e refl
rule_complete asked item held number rule front back true e none all =
    let untrue : holds held rule.cond ≡ false = rw e at none in
    let entries = front ++ (under number (cut held rule.cond) ++ back) in
    let closed : is_open (is_listed entries number) rule.cond ≡ false =
    rule_complete_where held number front back (holds held rule.cond) (λ listed. is_open listed rule.cond) (cut held rule.cond) untrue (is_cut held rule.cond) in
    rw (e, false_under held number entries all, closed) refl

rules_complete : (asked : Action) (item : List ℕ) (held : List Triple) (number : ℕ) (rules : List Rule) (front : List FalseAtom)
    → list_any (rule_allows asked item held) rules ≡ false → list_all (is_false_entry held) (front ++ atoms_from (rule_atoms asked item held) number rules) ≡ true
    → each_rule (is_rule_refuted asked item held (front ++ atoms_from (rule_atoms asked item held) number rules)) number rules ≡ true
rules_complete asked item held number [] front none all = refl
rules_complete asked item held number (rule ∷ rules) front none all =
    let later = atoms_from (rule_atoms asked item held) (number + 1) rules in
    let here = rule_atoms asked item held number rule in
    let first : rule_allows asked item held rule ≡ false = neither_of (rule_allows asked item held rule) (list_any (rule_allows asked item held) rules) none in
    let others : list_any (rule_allows asked item held) rules ≡ false = second_of (rule_allows asked item held rule) (list_any (rule_allows asked item held) rules) none in
    let same : (front ++ here) ++ later ≡ front ++ (here ++ later) = append_assoc front here later in
    and_from (is_rule_refuted asked item held (front ++ (here ++ later)) number rule) (each_rule (is_rule_refuted asked item held (front ++ (here ++ later))) (number + 1) rules)
    (rule_complete asked item held number rule front later (matches asked item rule) refl first all)
    (subst (λ entries. each_rule (is_rule_refuted asked item held entries) (number + 1) rules ≡ true) same
    (rules_complete asked item held (number + 1) rules (front ++ here) others (ap (list_all (is_false_entry held)) same ∙ all)))
  where
    neither_of : (a b : Bool) → (a || b) ≡ false → a ≡ false
    neither_of false b e = refl
    neither_of true b e = absurd (true≢false e)

    second_of : (a b : Bool) → (a || b) ≡ false → b ≡ false
    second_of false b e = e
    second_of true b e = absurd (true≢false e)

-- what is not allowed is refuted by its cuts
pub complete : (policy : Policy) (asked : Action) (item : List ℕ) (held : List Triple) → allows policy asked item held ≡ false
    → is_refuted policy asked item held (refutation policy asked item held) ≡ true
complete policy asked item held none = rules_complete asked item held 1 policy.rules [] none (all_entries_false policy asked item held)
