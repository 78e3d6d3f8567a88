-- Patterns are read exactly.
use Rattle.std.proofs.lemmas.Bool.{and_from, and_parts, eqb-true, not-true, not_from_false}
use Rattle.std.proofs.Common.{◌≡◌, ◌⊎◌, inl, inr, ℕ, ◌==◌, ◌&&◌, not, List, [], ◌∷◌, ◌++◌, Bool, true, false, Option, Some, None, refl, sym, ap, subst, ◌∙◌, arith, if◌then◌else◌, codes}
use Rattle.std.proofs.lemmas.Option.{cond_some, same_Some}
use Rattle.std.proofs.lemmas.List.{append-nil, append_assoc}
use Rattle.tp_types.specs.declared.policy.Pattern.{Pattern}
use Rattle.tp_types.specs.declared.policy.Pattern.TheVariants as pattern
use Rattle.tp_types.specs.Spelling.{IsName, is_letter}
use Rattle.tp_policy_text.specs.Grammar.{IsPattern, IsPrefix, IsWholeName}
use Rattle.tp_policy_text.specs.Lexis.{Token, first, in_word, is_blank, skip}
use Rattle.tp_policy_text.specs.mirrors.Readers.{Starred, comes, goes_on, pattern_at, sign_at, is_some_text, name_step, starred_at, starred_end, starred_step, unstarred}
use Rattle.tp_policy_text.specs.mirrors.Readings.{ended, machine, read}
use Rattle.tp_policy_text.proofs.Choices.{Either, choice_exact, retell}
use Rattle.tp_policy_text.proofs.Exact.{Ends, Exact}
use Rattle.tp_policy_text.proofs.Leaves.{Goes, IsLeaf, Sound, any_next, halted, leaf_exact, next_of, went}
use Rattle.tp_policy_text.proofs.Names.{name_parts, Plain, give, name_finish, name_of_some, names_go, names_of, no_further, plain_level, plain_shallow, some_of_name}
use Rattle.tp_policy_text.proofs.Tokens.{Says, plain_token}
use Rattle.tp_policy_text.proofs.Texts.{tight_byte}

-- a name is read, and no `*`
abbrev pub plain_name : List ℕ → Starred
plain_name name = record { name = name; starred = false }

abbrev pub with_star : List ℕ → Starred
with_star name = record { name = name; starred = true }

-- an exact name or a prefix
abbrev pub IsStarred : Pattern → List ℕ → List ℕ → Type 0
IsStarred pattern.All s t = ⊥
IsStarred (pattern.Exact name) s t = IsWholeName name s t
IsStarred (pattern.Prefix name) s t = IsPrefix name s t

pub given_name : (name : List ℕ) (byte : ℕ) (next : List ℕ) → name_step name byte ≡ Some next → name ++ byte ∷ [] ≡ next
given_name name byte next e = (cond_some (goes_on name byte) (name ++ byte ∷ []) next e).1

-- ---- the states

record Reads_name (name text : List ℕ) (last : Starred) : Type 0 where
  pub goes : Goes name_step name text (name ++ text)
  pub is : last ≡ plain_name (name ++ text)

record Reads_star (name text : List ℕ) (last : Starred) : Type 0 where
  pub before : List ℕ
  pub parts : text ≡ before ++ (42 ∷ [])
  pub goes : Goes name_step name before (name ++ before)
  pub some : is_some_text (name ++ before) ≡ true
  pub is : last ≡ with_star (name ++ before)

star_step : (name : List ℕ) (byte : ℕ) (b : Bool) → ((byte == 42) && is_some_text name) ≡ b
    → starred_step (plain_name name) byte ≡ (if b then Some (with_star name) else unstarred (name_step name byte))
star_step name byte b e = ap (λ (v : Bool). if v then Some (with_star name) else unstarred (name_step name byte)) e

unstarred_is : (o : Option (List ℕ)) (next : Starred) → unstarred o ≡ Some next → (name : List ℕ) × ((o ≡ Some name) × (next ≡ plain_name name))
unstarred_is None next e = absurd (cc)
unstarred_is (Some name) next e = (name, (refl, sym (same_Some (plain_name name) next e)))

after_star : (name text : List ℕ) (last : Starred) → Goes starred_step (with_star name) text last → (text ≡ []) × (last ≡ with_star name)
after_star name [] last h = (refl, sym h)
after_star name (byte ∷ text) last (next, e, later) = absurd (cc)

starred_of : (name text : List ℕ) (last : Starred) → Goes starred_step (plain_name name) text last → Reads_name name text last ⊎ Reads_star name text last
starred_of name [] last h = inl (record { goes = sym (append-nil name); is = sym h ∙ ap plain_name (sym (append-nil name)) })
starred_of name (byte ∷ text) last (next, e, later) = by_star ((byte == 42) && is_some_text name) refl (λ name2 step goes. starred_of name2 text last goes)
  where
    by_rest : (name2 : List ℕ) → name_step name byte ≡ Some name2 → name2 ≡ name ++ byte ∷ [] → Reads_name name2 text last ⊎ Reads_star name2 text last → Reads_name name (byte ∷ text) last ⊎ Reads_star name (byte ∷ text) last
    by_rest name2 step same (inl h) =
        let whole : name2 ++ text ≡ name ++ (byte ∷ text) = ap (λ l. l ++ text) same ∙ append_assoc name (byte ∷ []) text in
        inl (record { goes = (name2, step, subst (λ l. Goes name_step name2 text l) whole h.goes); is = h.is ∙ ap plain_name whole })
    by_rest name2 step same (inr h) =
        let whole : name2 ++ h.before ≡ name ++ (byte ∷ h.before) = ap (λ l. l ++ h.before) same ∙ append_assoc name (byte ∷ []) h.before in
        inr (record {
          before = byte ∷ h.before;
          parts = ap (λ l. byte ∷ l) h.parts;
          goes = (name2, step, subst (λ l. Goes name_step name2 h.before l) whole h.goes);
          some = ap is_some_text (sym whole) ∙ h.some;
          is = h.is ∙ ap with_star whole;
        })

    by_star : (b : Bool) → ((byte == 42) && is_some_text name) ≡ b → ((name2 : List ℕ) (step : name_step name byte ≡ Some name2) → Goes starred_step (plain_name name2) text last → Reads_name name2 text last ⊎ Reads_star name2 text last)
        → Reads_name name (byte ∷ text) last ⊎ Reads_star name (byte ∷ text) last
    by_star true star rec =
        let at = same_Some (with_star name) next (sym (star_step name byte true star) ∙ e) in
        let over = after_star name text last (subst (λ s. Goes starred_step s text last) (sym at) later) in
        let test = and_parts (byte == 42) (is_some_text name) star in
        inr (record {
          before = [];
          parts = ap (λ l. byte ∷ l) over.0 ∙ ap (λ (b : ℕ). b ∷ []) (eqb-true byte 42 test.0);
          goes = sym (append-nil name);
          some = ap is_some_text (append-nil name) ∙ test.1;
          is = over.1 ∙ ap with_star (sym (append-nil name));
        })
    by_star false star rec =
        let at = unstarred_is (name_step name byte) next (sym (star_step name byte false star) ∙ e) in
        by_rest at.0 at.1.0 (sym (given_name name byte at.0 at.1.0)) (rec at.0 at.1.0 (subst (λ s. Goes starred_step s text last) at.1.1 later))

pub goes_both : {S : Type 0} (step : S → ℕ → Option S) (state between last : S) (xs ys : List ℕ) → Goes step state xs between → Goes step between ys last → Goes step state (xs ++ ys) last
goes_both step state between last [] ys h k = subst (λ s. Goes step s ys last) (sym h) k
goes_both step state between last (byte ∷ xs) ys (next, e, later) k = (next, e, goes_both step next between last xs ys later k)

-- a step of a name is one of a pattern
lifted : (name : List ℕ) (byte : ℕ) (next : List ℕ) → name_step name byte ≡ Some next → starred_step (plain_name name) byte ≡ Some (plain_name next)
lifted name byte next e = star_step name byte false (by_star (byte == 42) refl) ∙ ap unstarred e
  where
    wrong : None ≡ Some next → ⊥
    wrong e2 = absurd (cc)

    by_star : (b : Bool) → (byte == 42) ≡ b → ((byte == 42) && is_some_text name) ≡ false
    by_star false e2 = ap (λ (b : Bool). b && is_some_text name) e2
    by_star true e2 = absurd (wrong (sym (subst (λ (b : ℕ). name_step name b ≡ None) (sym (eqb-true byte 42 e2)) (no_further name 42 refl)) ∙ e))

lift_goes : (name text last : List ℕ) → Goes name_step name text last → Goes starred_step (plain_name name) text (plain_name last)
lift_goes name [] last h = ap plain_name h
lift_goes name (byte ∷ text) last (next, e, later) = (plain_name next, lifted name byte next e, lift_goes next text last later)

star_goes : (name : List ℕ) → is_some_text name ≡ true → Goes starred_step (plain_name name) (42 ∷ []) (with_star name)
star_goes name some = (with_star name, star_step name 42 true some, refl)

-- ---- the end

-- a byte that no name and no `*` goes on with
no_step : (p : Starred) (byte : ℕ) → ((byte == 42) ≡ false) → name_step p.name byte ≡ None → starred_step p byte ≡ None
no_step p byte other none = by_star p.starred refl
  where
    by_star : (b : Bool) → p.starred ≡ b → starred_step p byte ≡ None
    by_star true e = ap (λ (v : Bool). if v then None else (if (byte == 42) && is_some_text p.name then Some (with_star p.name) else unstarred (name_step p.name byte))) e
    by_star false e =
        ap (λ (v : Bool). if v then None else (if (byte == 42) && is_some_text p.name then Some (with_star p.name) else unstarred (name_step p.name byte))) e
        ∙ (ap (λ (v : Bool). if v then Some (with_star p.name) else unstarred (name_step p.name byte)) (ap (λ (v : Bool). v && is_some_text p.name) other) ∙ ap unstarred none)

exact_ended : (name : List ℕ) (o : Option ℕ) (found : Pattern) → starred_end (plain_name name) o ≡ Some found → (is_some_text name ≡ true) × (in_word o ≡ false) × (pattern.Exact name ≡ found)
exact_ended name o found h =
    let step = cond_some (is_some_text name && not (in_word o)) (pattern.Exact name) found h in
    let parts = and_parts (is_some_text name) (not (in_word o)) step.0 in
    (parts.0, not-true (in_word o) parts.1, step.1)

exact_ends : (name : List ℕ) (o : Option ℕ) → is_some_text name ≡ true → in_word o ≡ false → starred_end (plain_name name) o ≡ Some (pattern.Exact name)
exact_ends name o some free = give (is_some_text name && not (in_word o)) (pattern.Exact name) (and_from (is_some_text name) (not (in_word o)) some (not_from_false (in_word o) free))

starred_plain : Plain starred_step
starred_plain = record { opens = λ p. no_step p 40 refl (no_further p.name 40 refl); closes = λ p. no_step p 41 refl (no_further p.name 41 refl) }

before_blank : (name : List ℕ) (b : Bool) (o : Option ℕ) (found : Pattern) → starred_end (record { name = name; starred = b }) o ≡ Some found → starred_end (record { name = name; starred = b }) (Some 32) ≡ Some found
before_blank name true o found h = h
before_blank name false o found h = let over = exact_ended name o found h in exact_ends name (Some 32) over.0 refl ∙ ap (λ (p : Pattern). Some p) over.2

finished : (name : List ℕ) (b : Bool) → Ends (λ (a : Pattern) s t. machine starred_step starred_end (record { name = name; starred = b }) s ≡ read a t) []
finished name true = record {
  more = 32 ∷ [];
  value = pattern.Prefix name;
  ends = λ u tight. ap (λ l. read (pattern.Prefix name) l) tight;
}
finished name false = let end = name_finish name in record {
  more = end.more ++ (32 ∷ []);
  value = pattern.Exact (name ++ end.more);
  ends = λ u tight. ap (λ l. machine starred_step starred_end (plain_name name) l) (append_assoc end.more (32 ∷ []) u)
      ∙ (went starred_step starred_end (plain_name name) (plain_name (name ++ end.more)) end.more (32 ∷ u) (lift_goes name end.more (name ++ end.more) end.goes)
      ∙ (halted starred_step starred_end (plain_name (name ++ end.more)) (32 ∷ u) (no_step (plain_name (name ++ end.more)) 32 refl (no_further (name ++ end.more) 32 refl))
      ∙ (ap (λ (o : Option Pattern). ended o (32 ∷ u)) (exact_ends (name ++ end.more) (Some 32) end.some refl) ∙ ap (λ l. read (pattern.Exact (name ++ end.more)) l) tight)));
}

starred_sound : (d : ℕ) → Sound starred_step starred_end (plain_name []) d d
starred_sound d = record {
  blank = λ p o found h. (no_step p 32 refl (no_further p.name 32 refl), before_blank p.name p.starred o found h);
  solid = λ o found h. wrong (exact_ended [] o found h).0;
  finish = λ p. finished p.name p.starred;
  some = record {
    byte = 97;
    others = 32 ∷ [];
    value = pattern.Exact (97 ∷ []);
    tight = refl;
    ends = λ u tight. ap (λ l. read (pattern.Exact (97 ∷ [])) l) tight;
  };
  level = λ text last o a goes h. plain_level starred_step starred_plain d (plain_name []) last text goes;
  shallow = λ text last goes. plain_shallow starred_step starred_plain d (plain_name []) last text goes;
}
  where
    wrong : ◌≡◌ {A = Bool} false true → ⊥
    wrong e = absurd (cc)

-- ---- the tie to the grammar

leaf_starred : (a : Pattern) (s t : List ℕ) → IsLeaf starred_step starred_end (plain_name []) a s t → IsStarred a s t
leaf_starred a s t h = by_state (starred_of [] h.text h.last h.goes)
  where
    by_state : Reads_name [] h.text h.last ⊎ Reads_star [] h.text h.last → IsStarred a s t
    by_state (inl k) =
        let over = exact_ended h.text (first h.after) a (subst (λ p. starred_end p (first h.after) ≡ Some a) k.is h.ends) in
        let on = names_of [] h.text h.text k.goes in
        subst (λ p. IsStarred p s t) over.2 (record {
          spelled = name_of_some h.text over.0 (on.so_far (tt));
          word = record { after = h.after; begins = h.parts; is_apart = over.1; left_is = h.left };
        })
    by_state (inr k) =
        let value : pattern.Prefix k.before ≡ a = same_Some (pattern.Prefix k.before) a (subst (λ p. starred_end p (first h.after) ≡ Some a) k.is h.ends) in
        let on = names_of [] k.before k.before k.goes in
        subst (λ p. IsStarred p s t) value (record {
          spelled = name_of_some k.before k.some (on.so_far (tt));
          sign = record { after = h.after; begins = h.parts ∙ ap (λ l. l ++ h.after) k.parts; is_apart = refl; left_is = h.left };
        })

-- a `*` right behind a name belongs to it
abbrev pub not_star : Option ℕ → Bool
not_star o = not (comes 42 o)

no_star : (after t : List ℕ) → t ≡ skip after → not_star (first t) ≡ true → not_star (first after) ≡ true
no_star [] t e may = refl
no_star (byte ∷ others) t e may = by_star (byte == 42) refl
  where
    by_star : (b : Bool) → (byte == 42) ≡ b → not b ≡ true
    by_star false e2 = refl
    by_star true e2 =
        let here : skip (byte ∷ others) ≡ byte ∷ others = tight_byte byte others (ap is_blank (eqb-true byte 42 e2)) in
        let is : not_star (first t) ≡ not (byte == 42) = ap (λ l. not_star (first l)) (e ∙ here) in
        sym (ap not e2) ∙ (sym is ∙ may)

starred_leaf : (a : Pattern) (s t : List ℕ) → not_star (first t) ≡ true → IsStarred a s t → IsLeaf starred_step starred_end (plain_name []) a s t
starred_leaf pattern.All s t may h = absurd (h)
starred_leaf (pattern.Exact name) s t may h = record {
  text = name;
  after = h.word.after;
  last = plain_name name;
  parts = h.word.begins;
  goes = lift_goes [] name name (names_go [] name h.spelled);
  halts = no_next (first h.word.after) h.word.is_apart (no_star h.word.after t h.word.left_is may);
  ends = exact_ends name (first h.word.after) (some_of_name name h.spelled) h.word.is_apart;
  left = h.word.left_is;
}
  where
    no_next : (o : Option ℕ) → in_word o ≡ false → not_star o ≡ true → next_of starred_step (plain_name name) o ≡ None
    no_next None e other = refl
    no_next (Some byte) e other = no_step (plain_name name) byte (not-true (byte == 42) other) (no_further name byte e)
starred_leaf (pattern.Prefix name) s t may h = record {
  text = name ++ codes "*";
  after = h.sign.after;
  last = with_star name;
  parts = h.sign.begins;
  goes = goes_both starred_step (plain_name []) (plain_name name) (with_star name) name (codes "*") (lift_goes [] name name (names_go [] name h.spelled)) (star_goes name (some_of_name name h.spelled));
  halts = no_next (first h.sign.after);
  ends = refl;
  left = h.sign.left_is;
}
  where
    no_next : (o : Option ℕ) → next_of starred_step (with_star name) o ≡ None
    no_next None = refl
    no_next (Some byte) = refl

pub starred_exact : (d n : ℕ) → Exact IsStarred IsStarred not_star d d n starred_at
starred_exact d n =
    retell (IsLeaf starred_step starred_end (plain_name [])) (IsLeaf starred_step starred_end (plain_name [])) IsStarred IsStarred any_next not_star d d n n starred_at
    (leaf_exact starred_step starred_end (plain_name []) d d n (starred_sound d))
    (record {
      to = λ s t a h. leaf_starred a s t h;
      from = λ s t a may h. starred_leaf a s t may h;
      from_wide = λ s t a may h. starred_leaf a s t may h;
      to_wide = λ s t a h. leaf_starred a s t h;
      wide = λ s t a h. h;
      allows = λ o may. refl;
    })
    (omega (arith))

-- ---- all patterns

all_says : (a : Pattern) (s t : List ℕ) → Says false (codes "*") pattern.All a s t → IsPattern a s t
all_says a s t h = subst (λ p. IsPattern p s t) (sym h.0) h.1

starred_says : (a : Pattern) (s t : List ℕ) → IsStarred a s t → IsPattern a s t
starred_says pattern.All s t h = absurd (h)
starred_says (pattern.Exact name) s t h = h
starred_says (pattern.Prefix name) s t h = h

says_either : (a : Pattern) (s t : List ℕ) → IsPattern a s t → Either (Says false (codes "*") pattern.All) IsStarred a s t
says_either pattern.All s t h = inl (refl, h)
says_either (pattern.Exact name) s t h = inr h
says_either (pattern.Prefix name) s t h = inr h

-- what a token begins with
pub token_begins : (apart : Bool) (byte : ℕ) (others s t : List ℕ) → Token apart (byte ∷ others) s t → first s ≡ Some byte
token_begins apart byte others s t h = ap first h.begins

pub name_begins : (apart : Bool) (name others s t : List ℕ) → IsName name → Token apart (name ++ others) s t → (byte : ℕ) × ((first s ≡ Some byte) × (is_letter byte ≡ true))
name_begins apart [] others s t spelled h = absurd (cc)
name_begins apart (head ∷ rest) others s t spelled h = (head, (ap first h.begins, (name_parts head rest spelled).letter))

letter_no_star : (byte : ℕ) → is_letter byte ≡ true → (byte == 42) ≡ false
letter_no_star byte e = by_star (byte == 42) refl
  where
    by_star : (b : Bool) → (byte == 42) ≡ b → b ≡ false
    by_star false e2 = refl
    by_star true e2 = let both = sym e ∙ ap is_letter (eqb-true byte 42 e2) in absurd (cc)

starred_begins : (a : Pattern) (s t : List ℕ) → IsStarred a s t → comes 42 (first s) ≡ false
starred_begins pattern.All s t h = absurd (h)
starred_begins (pattern.Exact name) s t h =
    let at = name_begins true name [] s t h.spelled (subst (λ l. Token true l s t) (sym (append-nil name)) h.word) in
    ap (comes 42) at.1.0 ∙ letter_no_star at.0 at.1.1
starred_begins (pattern.Prefix name) s t h =
    let at = name_begins false name (codes "*") s t h.spelled h.sign in
    ap (comes 42) at.1.0 ∙ letter_no_star at.0 at.1.1

pub pattern_exact : (d n : ℕ) → Exact IsPattern IsPattern not_star d d n pattern_at
pattern_exact d n =
    retell (Either (Says false (codes "*") pattern.All) IsStarred) (Either (Says false (codes "*") pattern.All) IsStarred) IsPattern IsPattern not_star not_star d d n n pattern_at
    (choice_exact (comes 42) (sign_at (codes "*") pattern.All) starred_at (Says false (codes "*") pattern.All) (Says false (codes "*") pattern.All) IsStarred IsStarred not_star d d n
    (plain_token false 42 [] pattern.All not_star d n refl refl refl)
    (starred_exact d n)
    (record {
      one = λ s t a h. ap (comes 42) (token_begins false 42 [] s t h.1);
      two = λ s t a h. starred_begins a s t h;
    }))
    (record {
      to = to;
      from = λ s t a may h. says_either a s t h;
      from_wide = λ s t a may h. says_either a s t h;
      to_wide = to;
      wide = λ s t a h. h;
      allows = λ o may. may;
    })
    (omega (arith))
  where
    to : (s t : List ℕ) (a : Pattern) → Either (Says false (codes "*") pattern.All) IsStarred a s t → IsPattern a s t
    to s t a (inl h) = all_says a s t h
    to s t a (inr h) = starred_says a s t h
