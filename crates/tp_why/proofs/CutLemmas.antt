-- One level of a cut at a time, and a loop over the members of an Or.
use Rattle.std.proofs.Common.{◌≡◌, ◌<◌, ◌+◌, add-one, ℕ, suc, true, false, List, [], ◌∷◌, ◌++◌, append_assoc, append-nil, length, map, take, drop, get_or, Option, Some, None, refl, ap, sym, ◌∙◌, option_map, option_and_then}
use Rattle.std.proofs.Math.Seq.{drop-cons, take-append_seam}
use Rattle.std.proofs.lemmas.List.{map-append}
use Rattle.std.specs.Option.{is_some, option_or}
use Rattle.tp_model.specs.Words.{Cond, Op, Value}
use Rattle.tp_model.specs.Words.cond
use Rattle.tp_types.specs.declared.policy.Cond.TheOpen.{Atom, And, Or}
use Rattle.tp_types.specs.declared.policy.Cond.TheFolds.{fold-roll-Cond}
use Rattle.tp_model.specs.Policies.{Triple}
use Rattle.tp_why.specs.declared.atoms.FalseAtom.{FalseAtom}
use Rattle.tp_why.specs.declared.atoms.Atom as atoms
use Rattle.tp_why.specs.Refutation.{all_cuts, cut, cut_atom, first_cut, level, numbered, under}

pub cut_of_atom : (held : List Triple) (issuer attr : _) (op : Op) (wanted : Value)
    → cut held (cond.Atom issuer attr op wanted) ≡ cut_atom held (record { issuer = issuer; attr = attr; op = op; wanted = wanted })
cut_of_atom held issuer attr op wanted =
    ap (cut held) (sym (cond.rolls-Atom issuer attr op wanted)) ∙ fold-roll-Cond (Option (List atoms.Atom)) (level held) (Atom issuer attr op wanted)

pub cut_of_and : (held : List Triple) (members : List Cond) → cut held (cond.And members) ≡ first_cut (map (cut held) members)
cut_of_and held members =
    ap (cut held) (sym (cond.rolls-And members)) ∙ fold-roll-Cond (Option (List atoms.Atom)) (level held) (And members)

pub cut_of_or : (held : List Triple) (members : List Cond) → cut held (cond.Or members) ≡ all_cuts (map (cut held) members)
cut_of_or held members =
    ap (cut held) (sym (cond.rolls-Or members)) ∙ fold-roll-Cond (Option (List atoms.Atom)) (level held) (Or members)

-- ---- a loop over the members of an Or

-- the list stands in front of the other
pub record Begins (start found : List FalseAtom) : Type 0 where
  pub more : List FalseAtom
  pub is : found ≡ start ++ more

pub begins_itself : (start : List FalseAtom) → Begins start start
begins_itself start = record { more = []; is = sym (append-nil start) }

begins_with : (start found more : List FalseAtom) → Begins start found → Begins start (found ++ more)
begins_with start found more begins = record { more = begins.more ++ more; is = ap (λ atoms. atoms ++ more) begins.is ∙ append_assoc start begins.more more }

-- cutting off all behind it gives the list
pub cut_back : (start found : List FalseAtom) → Begins start found → take (length start) found ≡ start
cut_back start found begins = ap (take (length start)) begins.is ∙ take-append_seam start begins.more

-- the list at the end, where it was this one at the start: what is left to cut is added, or all is taken back
abbrev pub left_by : ℕ → List FalseAtom → List FalseAtom → Option (List atoms.Atom) → List FalseAtom
left_by number start found None = start
left_by number start found (Some others) = found ++ map (numbered number) others

-- what one member is cut to, and then the others
abbrev pub and_others : Option (List atoms.Atom) → Option (List atoms.Atom) → Option (List atoms.Atom)
and_others member others = option_and_then (λ first. option_map (λ more. first ++ more) others) member

-- a member that is false passes on to the others
pub goes_on : (number : ℕ) (start found : List FalseAtom) (member others : Option (List atoms.Atom)) → is_some member ≡ true
    → left_by number start found (and_others member others) ≡ left_by number start (found ++ under number member) others
goes_on number start found None others some = cc
goes_on number start found (Some first) None some = refl
goes_on number start found (Some first) (Some more) some =
    ap (λ atoms. found ++ atoms) (map-append (numbered number) first more) ∙ sym (append_assoc found (map (numbered number) first) (map (numbered number) more))

pub goes_on_where : (member others : Option (List atoms.Atom)) → is_some member ≡ true → is_some (and_others member others) ≡ is_some others
goes_on_where None others some = cc
goes_on_where (Some first) None some = refl
goes_on_where (Some first) (Some more) some = refl

-- a member that is true ends the loop
pub ends : (member others : Option (List atoms.Atom)) → is_some member ≡ false → and_others member others ≡ None
ends None others none = refl
ends (Some first) others none = cc

pub first_where_none : (member others : Option (List atoms.Atom)) → is_some member ≡ false → option_or member others ≡ others
first_where_none None others none = refl
first_where_none (Some first) others none = cc

pub first_where_some : (member others : Option (List atoms.Atom)) → is_some member ≡ true → option_or member others ≡ member
first_where_some None others some = cc
first_where_some (Some first) others some = refl

-- the members that are left decide, and what was there stands in front
pub record AllSoFar (held : List Triple) (number : ℕ) (members : List Cond) (start : List FalseAtom) (at : ℕ) (found : List FalseAtom) : Type 0 where
  pub truth : is_some (all_cuts (map (cut held) (drop at members))) ≡ is_some (all_cuts (map (cut held) members))
  pub added : left_by number start found (all_cuts (map (cut held) (drop at members))) ≡ start ++ under number (all_cuts (map (cut held) members))
  pub front : Begins start found

pub all_go_on : (held : List Triple) (number : ℕ) (members : List Cond) (start found now : List FalseAtom) (at : ℕ) (member : Cond) → at < length members
    → member ≡ get_or members at member → is_some (cut held member) ≡ true → now ≡ found ++ under number (cut held member)
    → AllSoFar held number members start at found → AllSoFar held number members start (at + 1) now
all_go_on held number members start found now at member lt here some added so =
    let others = all_cuts (map (cut held) (drop (at + 1) members)) in
    let left : drop at members ≡ member ∷ drop (at + 1) members = rw add-one (drop-cons members at member lt ∙ ap (λ first. first ∷ drop (suc at) members) (sym here)) in
    let next : all_cuts (map (cut held) (drop at members)) ≡ and_others (cut held member) others = ap (λ rest. all_cuts (map (cut held) rest)) left in
    record {
      truth = sym (goes_on_where (cut held member) others some) ∙ ap is_some (sym next) ∙ so.truth;
      added = ap (λ list. left_by number start list others) added ∙ sym (goes_on number start found (cut held member) others some) ∙ ap (left_by number start found) (sym next) ∙ so.added;
      front = rw added (begins_with start found (under number (cut held member)) so.front);
    }
