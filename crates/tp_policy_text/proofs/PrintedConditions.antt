-- The printed form of a condition says it.
use Rattle.std.proofs.lemmas.Bool.{and_parts}
use Rattle.std.proofs.Common.{◌≡◌, inl, inr, ℕ, zero, suc, ◌+◌, ◌≤◌, nat_le, List, [], ◌∷◌, ◌++◌, length, map, true, false, refl, sym, ap, subst, ◌∙◌, arith, append_assoc, codes}
use Rattle.std.specs.List.{flat_map, join_by, list_all}
use Rattle.std.proofs.lemmas.List.{append-nil}
use Rattle.tp_types.specs.declared.policy.Cond.{Cond, map-Cond, roll-Cond}
use Rattle.tp_types.specs.declared.policy.Cond.TheOpen.{Cond-F, True, Atom, And, Or}
use Rattle.tp_types.specs.declared.policy.Cond.TheFolds.{ind-Cond}
use Rattle.tp_types.specs.declared.policy.Cond.TheVariants as cond
use Rattle.tp_policy_text.specs.Grammar.{AnyCond, IsAtom, IsCond, IsConj, IsMember, AreJoined}
use Rattle.tp_policy_text.specs.Lexis.{first, in_word, skip}
use Rattle.tp_policy_text.specs.Printed.{can_be_cond, cond_text, in_parentheses, in_and, in_or, kind_and_text}
use Rattle.tp_policy_text.proofs.Exact.{Language}
use Rattle.tp_policy_text.proofs.PrintLemmas.{and_and, and_atom, and_or, and_true, can_be_and, can_be_atom, can_be_or, or_and, or_atom, or_or, or_true, text_and, text_atom, text_or, text_true}
use Rattle.tp_policy_text.proofs.PrintedAtoms.{Prints, atom_prints, true_prints}
use Rattle.tp_policy_text.proofs.Texts.{IsTight}

-- ---- members with a word between two of them

abbrev AllPrint : {A : Type 0} → Language A → (A → List ℕ) → List A → Type 0
AllPrint L f [] = Unit {0}
AllPrint L f (x ∷ xs) = Prints L x (f x) × AllPrint L f xs

-- a word with a blank before it and one behind it
abbrev spaced : List ℕ → List ℕ
spaced word = 32 ∷ (word ++ (32 ∷ []))

regroup : (one word two others r : List ℕ) → (one ++ ((spaced word ++ two) ++ others)) ++ r ≡ one ++ (32 ∷ (word ++ (32 ∷ ((two ++ others) ++ r))))
regroup one word two others r = simp append_assoc

joined_says : {A : Type 0} (L : Language A) (word : List ℕ) (f : A → List ℕ) → ((s : List ℕ) → IsTight (word ++ s)) → (x : A) (xs : List A) → AllPrint L f (x ∷ xs)
    → (r : List ℕ) → in_word (first r) ≡ false → AreJoined word L (x ∷ xs) ((f x ++ flat_map (λ y. spaced word ++ f y) xs) ++ r) (skip r)
joined_says L word f tight x [] all r free = inl (refl, subst (λ s. L x (s ++ r) (skip r)) (sym (append-nil (f x))) (all.0.says r free))
joined_says {A = A} L word f tight x (y ∷ ys) all r free =
    subst (λ s. AreJoined word L (x ∷ y ∷ ys) s (skip r)) (sym whole)
    (inr (
      word ++ (32 ∷ later),
      later,
      subst (λ s. L x (f x ++ (32 ∷ (word ++ (32 ∷ later)))) s) (tight (32 ∷ later)) (all.0.says (32 ∷ (word ++ (32 ∷ later))) refl),
      record { after = 32 ∷ later; begins = refl; is_apart = refl; left_is = sym later_tight },
      joined_says L word f tight y ys all.1 r free,
    ))
  where
    later : List ℕ
    later = (f y ++ flat_map (λ z. spaced word ++ f z) ys) ++ r

    later_tight : IsTight ((f y ++ flat_map (λ z. spaced word ++ f z) ys) ++ r)
    later_tight = subst IsTight (sym (append_assoc (f y) (flat_map (λ z. spaced word ++ f z) ys) r)) (all.1.0.tight (flat_map (λ z. spaced word ++ f z) ys ++ r))

    whole : (f x ++ flat_map (λ z. spaced word ++ f z) (y ∷ ys)) ++ r ≡ f x ++ (32 ∷ (word ++ (32 ∷ ((f y ++ flat_map (λ z. spaced word ++ f z) ys) ++ r))))
    whole = regroup (f x) word (f y) (flat_map (λ z. spaced word ++ f z) ys) r

joined_prints : {A : Type 0} (L : Language A) (word : List ℕ) (f : A → List ℕ) → ((s : List ℕ) → IsTight (word ++ s)) → (x : A) (xs : List A) → AllPrint L f (x ∷ xs)
    → Prints (AreJoined word L) (x ∷ xs) (join_by f (spaced word) (x ∷ xs))
joined_prints L word f tight x xs all = record {
  tight = λ r. subst IsTight (sym (append_assoc (f x) (flat_map (λ y. spaced word ++ f y) xs) r)) (all.0.tight (flat_map (λ y. spaced word ++ f y) xs ++ r));
  says = joined_says L word f tight x xs all;
}

-- ---- one level

part_of_atom : (I : Language Cond) (c : Cond) (text : List ℕ) → Prints IsAtom c text → Prints (IsMember I) c text
part_of_atom I c text h = record { tight = h.tight; says = λ r free. inr (h.says r free) }

conj_of_part : (I : Language Cond) (c : Cond) (text : List ℕ) → Prints (IsMember I) c text → Prints (IsConj I) c text
conj_of_part I c text h = record { tight = h.tight; says = λ r free. (c ∷ [], refl, inl (refl, h.says r free)) }

cond_of_conj : (d : ℕ) (c : Cond) (text : List ℕ) → Prints (IsConj (IsCond d)) c text → Prints (IsCond (suc d)) c text
cond_of_conj d c text h = record { tight = h.tight; says = λ r free. (c ∷ [], refl, inl (refl, h.says r free)) }

part_of_inner : (I : Language Cond) (c : Cond) (text : List ℕ) → Prints I c text → Prints (IsMember I) c (in_parentheses text)
part_of_inner I c text h = record {
  tight = λ r. refl;
  says = λ r free. inl (record {
    opened = text ++ (41 ∷ r);
    closed = 41 ∷ r;
    opens = record { after = text ++ (41 ∷ r); begins = ap (λ l. 40 ∷ l) (append_assoc text (41 ∷ []) r); is_apart = refl; left_is = sym (h.tight (41 ∷ r)) };
    inner = h.says (41 ∷ r) refl;
    closes = record { after = r; begins = refl; is_apart = refl; left_is = refl };
  });
}

-- ---- conditions

-- how a condition is printed as a member of an And, as one of an Or, and by itself
record SaidAt (d : ℕ) (c : Cond) : Type 0 where
  pub part : Prints (IsMember (IsCond d)) c (in_and (kind_and_text c))
  pub conj : Prints (IsConj (IsCond d)) c (in_or (kind_and_text c))
  pub whole : Prints (IsCond (suc d)) c (cond_text c)

-- at each depth but the first few
abbrev Said : Cond → Type 0
Said c = (n : ℕ) × ((d : ℕ) → n ≤ d → SaidAt d c)

abbrev IsSaid : Cond → Type 0
IsSaid c = can_be_cond c ≡ true → Said c

-- an atom or true
said_atom : (c : Cond) → Prints IsAtom c (cond_text c) → in_and (kind_and_text c) ≡ cond_text c → in_or (kind_and_text c) ≡ cond_text c → Said c
said_atom c h and_is or_is = (
  0,
  λ d le. record {
    part = subst (λ l. Prints (IsMember (IsCond d)) c l) (sym and_is) (part_of_atom (IsCond d) c (cond_text c) h);
    conj = subst (λ l. Prints (IsConj (IsCond d)) c l) (sym or_is) (conj_of_part (IsCond d) c (cond_text c) (part_of_atom (IsCond d) c (cond_text c) h));
    whole = cond_of_conj d c (cond_text c) (conj_of_part (IsCond d) c (cond_text c) (part_of_atom (IsCond d) c (cond_text c) h));
  },
)

abbrev AllSaidAt : ℕ → List Cond → Type 0
AllSaidAt d [] = Unit {0}
AllSaidAt d (c ∷ cs) = SaidAt d c × AllSaidAt d cs

all_said : (members : List ((c : Cond) × IsSaid c)) → list_all can_be_cond (map (λ m. m.0) members) ≡ true → (n : ℕ) × ((d : ℕ) → n ≤ d → AllSaidAt d (map (λ m. m.0) members))
all_said [] h = (0, λ d le. tt)
all_said (m ∷ ms) h =
    let tests = and_parts (can_be_cond m.0) (list_all can_be_cond (map (λ m. m.0) ms)) h in
    let one = m.1 tests.0 in
    let others = all_said ms tests.1 in
    (one.0 + others.0, λ d le. (one.1 d (omega (arith, le)), others.1 d (omega (arith, le))))

parts_of : (d : ℕ) (cs : List Cond) → AllSaidAt d cs → AllPrint (IsMember (IsCond d)) (λ c. in_and (kind_and_text c)) cs
parts_of d [] all = tt
parts_of d (c ∷ cs) all = (all.0.part, parts_of d cs all.1)

conjs_of : (d : ℕ) (cs : List Cond) → AllSaidAt d cs → AllPrint (IsConj (IsCond d)) (λ c. in_or (kind_and_text c)) cs
conjs_of d [] all = tt
conjs_of d (c ∷ cs) all = (all.0.conj, conjs_of d cs all.1)

conj_of_many : (d : ℕ) (c k : Cond) (cs : List Cond) → AllSaidAt d (c ∷ k ∷ cs) → Prints (IsConj (IsCond d)) (cond.And (c ∷ k ∷ cs)) (cond_text (cond.And (c ∷ k ∷ cs)))
conj_of_many d c k cs all =
    let joined = joined_prints (IsMember (IsCond d)) (codes "and") (λ m. in_and (kind_and_text m)) (λ s. refl) c (k ∷ cs) (parts_of d (c ∷ k ∷ cs) all) in
    subst (λ l. Prints (IsConj (IsCond d)) (cond.And (c ∷ k ∷ cs)) l) (sym (text_and (c ∷ k ∷ cs)))
    (record { tight = joined.tight; says = λ r free. (c ∷ k ∷ cs, refl, joined.says r free) })

cond_of_many : (d : ℕ) (c k : Cond) (cs : List Cond) → AllSaidAt d (c ∷ k ∷ cs) → Prints (IsCond (suc d)) (cond.Or (c ∷ k ∷ cs)) (cond_text (cond.Or (c ∷ k ∷ cs)))
cond_of_many d c k cs all =
    let joined = joined_prints (IsConj (IsCond d)) (codes "or") (λ m. in_or (kind_and_text m)) (λ s. refl) c (k ∷ cs) (conjs_of d (c ∷ k ∷ cs) all) in
    subst (λ l. Prints (IsCond (suc d)) (cond.Or (c ∷ k ∷ cs)) l) (sym (text_or (c ∷ k ∷ cs)))
    (record { tight = joined.tight; says = λ r free. (c ∷ k ∷ cs, refl, joined.says r free) })

said_and : (cs : List Cond) → nat_le 2 (length cs) ≡ true → (n : ℕ) × ((d : ℕ) → n ≤ d → AllSaidAt d cs) → Said (cond.And cs)
said_and [] many all = absurd (cc)
said_and (c ∷ []) many all = absurd (cc)
said_and (c ∷ k ∷ cs) many all = (suc all.0, λ d le. at d le)
  where
    at : (d : ℕ) → suc all.0 ≤ d → SaidAt d (cond.And (c ∷ k ∷ cs))
    at zero le = absurd (omega (arith, le))
    at (suc d) le =
        let conj = conj_of_many (suc d) c k cs (all.1 (suc d) (omega (arith, le))) in
        let inner = cond_of_conj d (cond.And (c ∷ k ∷ cs)) (cond_text (cond.And (c ∷ k ∷ cs))) (conj_of_many d c k cs (all.1 d (omega (arith, le)))) in
        record {
          part = subst (λ l. Prints (IsMember (IsCond (suc d))) (cond.And (c ∷ k ∷ cs)) l) (sym (and_and (c ∷ k ∷ cs))) (part_of_inner (IsCond (suc d)) (cond.And (c ∷ k ∷ cs)) (cond_text (cond.And (c ∷ k ∷ cs))) inner);
          conj = subst (λ l. Prints (IsConj (IsCond (suc d))) (cond.And (c ∷ k ∷ cs)) l) (sym (or_and (c ∷ k ∷ cs))) conj;
          whole = cond_of_conj (suc d) (cond.And (c ∷ k ∷ cs)) (cond_text (cond.And (c ∷ k ∷ cs))) conj;
        }

said_or : (cs : List Cond) → nat_le 2 (length cs) ≡ true → (n : ℕ) × ((d : ℕ) → n ≤ d → AllSaidAt d cs) → Said (cond.Or cs)
said_or [] many all = absurd (cc)
said_or (c ∷ []) many all = absurd (cc)
said_or (c ∷ k ∷ cs) many all = (suc all.0, λ d le. at d le)
  where
    at : (d : ℕ) → suc all.0 ≤ d → SaidAt d (cond.Or (c ∷ k ∷ cs))
    at zero le = absurd (omega (arith, le))
    at (suc d) le =
        let inner = cond_of_many d c k cs (all.1 d (omega (arith, le))) in
        let part = part_of_inner (IsCond (suc d)) (cond.Or (c ∷ k ∷ cs)) (cond_text (cond.Or (c ∷ k ∷ cs))) inner in
        record {
          part = subst (λ l. Prints (IsMember (IsCond (suc d))) (cond.Or (c ∷ k ∷ cs)) l) (sym (and_or (c ∷ k ∷ cs))) part;
          conj = subst (λ l. Prints (IsConj (IsCond (suc d))) (cond.Or (c ∷ k ∷ cs)) l) (sym (or_or (c ∷ k ∷ cs))) (conj_of_part (IsCond (suc d)) (cond.Or (c ∷ k ∷ cs)) (in_parentheses (cond_text (cond.Or (c ∷ k ∷ cs)))) part);
          whole = cond_of_many (suc d) c k cs (all.1 (suc d) (omega (arith, le)));
        }

-- y is the level x with a proof beside each member
said_level : (x : Cond-F Cond) (y : Cond-F ((c : Cond) × IsSaid c)) → map-Cond ((c : Cond) × IsSaid c) Cond (λ m. m.0) y ≡ x → IsSaid (roll-Cond x)
said_level x True is = subst (λ z. IsSaid (roll-Cond z)) is (subst IsSaid (sym cond.rolls-True)
    (λ h. said_atom cond.True (subst (Prints IsAtom cond.True) (sym text_true) true_prints) and_true or_true))
said_level x (Atom issuer attr op wanted) is = subst (λ z. IsSaid (roll-Cond z)) is (subst IsSaid (sym (cond.rolls-Atom issuer attr op wanted))
    (λ h. said_atom (cond.Atom issuer attr op wanted)
    (subst (Prints IsAtom (cond.Atom issuer attr op wanted)) (sym (text_atom issuer attr op wanted)) (atom_prints issuer attr op wanted (sym (can_be_atom issuer attr op wanted) ∙ h)))
    (and_atom issuer attr op wanted) (or_atom issuer attr op wanted)))
said_level x (And members) is = subst (λ z. IsSaid (roll-Cond z)) is (subst IsSaid (sym (cond.rolls-And (map (λ m. m.0) members)))
    (λ h. let tests = and_parts (nat_le 2 (length (map (λ m. m.0) members))) (list_all can_be_cond (map (λ m. m.0) members)) (sym (can_be_and (map (λ m. m.0) members)) ∙ h) in
    said_and (map (λ m. m.0) members) tests.0 (all_said members tests.1)))
said_level x (Or members) is = subst (λ z. IsSaid (roll-Cond z)) is (subst IsSaid (sym (cond.rolls-Or (map (λ m. m.0) members)))
    (λ h. let tests = and_parts (nat_le 2 (length (map (λ m. m.0) members))) (list_all can_be_cond (map (λ m. m.0) members)) (sym (can_be_or (map (λ m. m.0) members)) ∙ h) in
    said_or (map (λ m. m.0) members) tests.0 (all_said members tests.1)))

said : (c : Cond) → IsSaid c
said = ind-Cond IsSaid (λ x y is. said_level x y is)

-- the printed form of a condition says it
pub cond_prints : (c : Cond) → can_be_cond c ≡ true → Prints AnyCond c (cond_text c)
cond_prints c h =
    let found = said c h in
    let whole = (found.1 found.0 (omega (arith))).whole in
    record { tight = whole.tight; says = λ r free. (suc found.0, whole.says r free) }
