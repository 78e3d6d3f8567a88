-- What the reader of whole texts says of a text, by the grammar.
use Rattle.std.proofs.lemmas.Option.{same_Some}
use Rattle.std.proofs.Common.{◌≡◌, ◌⊎◌, inl, inr, ℕ, suc, ◌+◌, ◌<◌, List, [], ◌∷◌, ◌++◌, length, false, Option, Some, None, Result, Ok, Err, refl, sym, ap, subst, ◌∙◌, arith}
use Rattle.std.proofs.lemmas.List.{append-nil, append_assoc, append_cancel_left}
use Rattle.tp_types.specs.declared.policy.Cond.{Cond}
use Rattle.tp_types.specs.declared.policy.Policy.{Policy}
use Rattle.tp_types.specs.declared.policy.Rule.{Rule}
use Rattle.tp_policy_text.specs.declared.halt.Stop.{Stop}
use Rattle.tp_policy_text.specs.declared.halt.Stop.TheVariants as stop
use Rattle.tp_policy_text.specs.Grammar.{AnyCond, AreRules, Begins, IsCond, IsRule, IsTooDeep, Spells, SpellsBy, Stops}
use Rattle.tp_policy_text.specs.Lexis.{count, first, skip, is_blank}
use Rattle.tp_policy_text.specs.mirrors.Readers.{policy_at, policy_from, rules_at, whole_of}
use Rattle.tp_policy_text.specs.mirrors.Readings.{Reading, read, stopped}
use Rattle.tp_policy_text.proofs.Exact.{GivesUp, Language, left_at, IsShallow}
use Rattle.tp_policy_text.proofs.Leaves.{skip_shorter, skipped, AreBlank, skip_blanks, tight_as, no_parens, no_paren_in}
use Rattle.tp_policy_text.proofs.Rules.{Many, many_begins, rules_exact}
use Rattle.tp_policy_text.proofs.Texts.{IsTight, tight_byte, first_after, count_append, stands_in, InFirst, InSecond, skip_tight, same_heads}

-- ---- rules up to the end

many_are : (C : Language Cond) (rules : List Rule) (s : List ℕ) → Many C rules s [] → AreRules C rules s
many_are C [] s h = absurd (h)
many_are C (rule ∷ rules) s (inl h) = ([], h.1, subst (λ l. AreRules C l []) (sym h.0) refl)
many_are C (rule ∷ rules) s (inr h) = (h.0, h.1, many_are C rules h.0 h.2)

are_many : (C : Language Cond) (rule : Rule) (rules : List Rule) (s : List ℕ) → AreRules C (rule ∷ rules) s → Many C (rule ∷ rules) s []
are_many C rule [] s (left, one, over) = inl (refl, subst (λ l. IsRule C rule s l) over one)
are_many C rule (other ∷ rules) s (left, one, later) = inr (left, one, are_many C other rules left later)

-- ---- the reading of a text

pub at_none : (n d : ℕ) (text : List ℕ) → skip text ≡ [] → policy_at n d text ≡ read (record { rules = [] }) []
at_none n d text e = ap (policy_from n d) e

pub at_some : (n d : ℕ) (text : List ℕ) (byte : ℕ) (others : List ℕ) (o : Result (List Rule) Stop) (t : List ℕ) → skip text ≡ byte ∷ others → rules_at n n d (byte ∷ others) ≡ left_at o t → policy_at n d text ≡ whole_of o t
at_some n d text byte others o t e ran = ap (policy_from n d) e ∙ ap (λ (w : Reading (List Rule)). whole_of w.outcome w.left) ran

-- a text within the depth is read
pub reads_within : (n d : ℕ) (p : Policy) (text : List ℕ) → length text < n → SpellsBy (IsCond (suc d)) p text → policy_at n d text ≡ read p []
reads_within n d p text short h = by_rules p.rules (skip text) refl refl h
  where
    by_rules : (rules : List Rule) (s : List ℕ) → p.rules ≡ rules → skip text ≡ s → AreRules (IsCond (suc d)) p.rules (skip text) → policy_at n d text ≡ read p []
    by_rules [] s none here k =
        let over : skip text ≡ [] = subst (λ l. AreRules (IsCond (suc d)) l (skip text)) none k in
        at_none n d text over ∙ ap (λ (l : List Rule). read (record { rules = l }) []) (sym none)
    by_rules (rule ∷ rules) [] some here k =
        let many = are_many (IsCond (suc d)) rule rules (skip text) (subst (λ l. AreRules (IsCond (suc d)) l (skip text)) some k) in
        absurd (no_rule rule rules (subst (λ l. Many (IsCond (suc d)) (rule ∷ rules) l []) here many))
      where
        no_rule : (one : Rule) (more : List Rule) → Many (IsCond (suc d)) (one ∷ more) [] [] → ⊥
        no_rule one more m = absurd (wrong (sym (many_begins (IsCond (suc d)) (one ∷ more) [] [] m)))
          where
            wrong : ◌≡◌ {A = Option ℕ} (Some 97) None → ⊥
            wrong e = absurd (cc)
    by_rules (rule ∷ rules) (byte ∷ others) some here k =
        let many = are_many (IsCond (suc d)) rule rules (skip text) (subst (λ l. AreRules (IsCond (suc d)) l (skip text)) some k) in
        let less = skip_shorter text in
        let same = ap length here in
        at_some n d text byte others (Ok (rule ∷ rules)) [] here
        ((rules_exact n d n (omega (arith))).full (byte ∷ others) [] (rule ∷ rules) (subst (λ l. Many (IsCond (suc d)) (rule ∷ rules) l []) here many) refl (omega (arith, less, same, short)))
        ∙ ap (λ (l : List Rule). read (record { rules = l }) []) (sym some)

-- ---- where a text stops

at_text : (n d : ℕ) (text s : List ℕ) (o : Result (List Rule) Stop) (t : List ℕ) → skip text ≡ s → (s ≡ [] → ⊥) → rules_at n n d s ≡ left_at o t → policy_at n d text ≡ whole_of o t
at_text n d text [] o t here solid ran = absurd (solid refl)
at_text n d text (byte ∷ others) o t here solid ran = at_some n d text byte others o t here ran

-- a text of any depth is read, or given up
pub reads_any : (n d : ℕ) (p : Policy) (text : List ℕ) → Spells p text → (policy_at n d text ≡ read p []) ⊎ GivesUp (policy_at n d text).outcome
reads_any n d p text h = by_rules p.rules refl h
  where
    some_text : (rule : Rule) (rules : List Rule) (s : List ℕ) → Many AnyCond (rule ∷ rules) s [] → s ≡ [] → ⊥
    some_text rule rules s m none = absurd (wrong (sym (many_begins AnyCond (rule ∷ rules) s [] m) ∙ ap first none))
      where
        wrong : ◌≡◌ {A = Option ℕ} (Some 97) None → ⊥
        wrong e = absurd (cc)

    gave_up : (o : Result (List Rule) Stop) (t : List ℕ) → GivesUp o → GivesUp (whole_of o t).outcome
    gave_up (Ok rules) t g = absurd (g)
    gave_up (Err stop.Deep) t g = tt
    gave_up (Err stop.Syntax) t g = absurd (g)
    gave_up (Err stop.Spent) t g = tt

    by_rules : (rules : List Rule) → p.rules ≡ rules → AreRules AnyCond p.rules (skip text) → (policy_at n d text ≡ read p []) ⊎ GivesUp (policy_at n d text).outcome
    by_rules [] none k =
        let over : skip text ≡ [] = subst (λ l. AreRules AnyCond l (skip text)) none k in
        inl (at_none n d text over ∙ ap (λ (l : List Rule). read (record { rules = l }) []) (sym none))
    by_rules (rule ∷ rules) some k = by_reading ((rules_exact n d n (omega (arith))).again (skip text) [] (rule ∷ rules) many refl)
      where
        many : Many AnyCond (rule ∷ rules) (skip text) []
        many = are_many AnyCond rule rules (skip text) (subst (λ l. AreRules AnyCond l (skip text)) some k)

        by_reading : (rules_at n n d (skip text) ≡ read (rule ∷ rules) []) ⊎ GivesUp (rules_at n n d (skip text)).outcome → (policy_at n d text ≡ read p []) ⊎ GivesUp (policy_at n d text).outcome
        by_reading (inl ran) =
            inl (at_text n d text (skip text) (Ok (rule ∷ rules)) [] refl (some_text rule rules (skip text) many) ran ∙ ap (λ (l : List Rule). read (record { rules = l }) []) (sym some))
        by_reading (inr g) =
            let found = rules_at n n d (skip text) in
            inr (subst (λ (w : Reading Policy). GivesUp w.outcome) (sym (at_text n d text (skip text) found.outcome found.left refl (some_text rule rules (skip text) many) refl)) (gave_up found.outcome found.left g))

tight_first : (l : List ℕ) (byte : ℕ) → first l ≡ Some byte → is_blank byte ≡ false → IsTight l
tight_first [] byte e h = refl
tight_first (b ∷ others) byte e h = tight_byte b others (ap is_blank (same_Some b byte e) ∙ h)

-- blanks and a beginning of rules are a beginning of a text
begins_of : (blanks x more : List ℕ) (rules : List Rule) → AreBlank blanks → Many AnyCond rules (x ++ more) [] → Begins (blanks ++ x)
begins_of blanks x more rules are h = record {
  more = more;
  policy = record { rules = rules };
  spells = subst (λ l. AreRules AnyCond rules l)
      (sym (ap skip (append_assoc blanks x more) ∙ (skip_blanks blanks (x ++ more) are ∙ tight_first (x ++ more) 97 (many_begins AnyCond rules (x ++ more) [] h) refl)))
      (many_are AnyCond rules (x ++ more) h);
}

-- of two texts behind one another, where a third ends: in the first, or behind it
pub record EndsIn (x y w : List ℕ) : Type 0 where
  pub more : List ℕ
  pub whole : x ≡ w ++ more

pub compare_fronts : (x y s t : List ℕ) → x ++ s ≡ y ++ t → EndsIn x y y ⊎ EndsIn y x x
compare_fronts x [] s t e = inl (record { more = x; whole = refl })
compare_fronts [] (b ∷ y) s t e = inr (record { more = b ∷ y; whole = refl })
compare_fronts (a ∷ x) (b ∷ y) s t e = by_rest (compare_fronts x y s t (same_heads a b (x ++ s) (y ++ t) e).1)
  where
    by_rest : EndsIn x y y ⊎ EndsIn y x x → EndsIn (a ∷ x) (b ∷ y) (b ∷ y) ⊎ EndsIn (b ∷ y) (a ∷ x) (a ∷ x)
    by_rest (inl h) = inl (record { more = h.more; whole = ap (λ c. c ∷ x) (same_heads a b (x ++ s) (y ++ t) e).0 ∙ ap (λ l. b ∷ l) h.whole })
    by_rest (inr h) = inr (record { more = h.more; whole = ap (λ c. c ∷ y) (sym (same_heads a b (x ++ s) (y ++ t) e).0) ∙ ap (λ l. a ∷ l) h.whole })

-- a beginning of a beginning
pub begins_shorter : (x y : List ℕ) → Begins (x ++ y) → Begins x
begins_shorter x y b = record { more = y ++ b.more; policy = b.policy; spells = subst (λ l. Spells b.policy l) (append_assoc x y b.more) b.spells }

-- what was read of a text has no parenthesis too many
read_shallow : (n d : ℕ) (text x l : List ℕ) (o : Result (List Rule) Stop) → skip text ≡ x ++ l → rules_at n n d (x ++ l) ≡ left_at o l → IsShallow d ((skipped text).blanks ++ x)
read_shallow n d text x l o here ran p q e = by_place (stands_in (skipped text).blanks x p q 40 e)
  where
    by_place : InFirst (skipped text).blanks p 40 ⊎ InSecond (skipped text).blanks x p q 40 → count 40 p < count 41 p + d
    by_place (inl i) = absurd (no_paren_in (skipped text).blanks p i.after (skipped text).are i.parts)
    by_place (inr i) =
        let none = no_parens (skipped text).blanks (skipped text).are in
        let none_opened = none.0 in
        let inner = (rules_exact n d n (omega (arith))).shallow x l o ran i.before q i.parts in
        let opens = ap (count 40) i.front ∙ count_append 40 (skipped text).blanks i.before in
        let closes = ap (count 41) i.front ∙ count_append 41 (skipped text).blanks i.before in
        omega (arith, inner, none_opened, opens, closes)

pub record StopsAt (d : ℕ) (text t : List ℕ) : Type 0 where
  pub before : List ℕ
  pub parts : text ≡ before ++ t
  pub stops : Stops text before
  pub shallow : IsShallow d before

pub record TooDeepAt (d : ℕ) (text t : List ℕ) : Type 0 where
  pub before : List ℕ
  pub parts : text ≡ before ++ t
  pub deep : IsTooDeep d text before

-- an outcome of which no text is made, whatever comes behind the next byte
record Sticks (o : Result (List Rule) Stop) (t : List ℕ) : Type 0 where
  pub on : (byte : ℕ) (more : List ℕ) → first t ≡ Some byte → whole_of o (byte ∷ more) ≡ stopped stop.Syntax (byte ∷ more)

not_read : (p : Policy) (t l : List ℕ) → read p t ≡ stopped stop.Syntax l → ⊥
not_read p t l e = wrong (ap (λ (w : Reading Policy). w.outcome) e)
  where
    wrong : ◌≡◌ {A = Result Policy Stop} (Ok p) (Err stop.Syntax) → ⊥
    wrong e2 = absurd (cc)

stuck_no_text : (n d : ℕ) (p : Policy) (text t : List ℕ) → policy_at n d text ≡ stopped stop.Syntax t → Spells p text → ⊥
stuck_no_text n d p text t e h = by_reading (reads_any n d p text h)
  where
    by_reading : (policy_at n d text ≡ read p []) ⊎ GivesUp (policy_at n d text).outcome → ⊥
    by_reading (inl ran) = not_read p [] t (sym ran ∙ e)
    by_reading (inr g) = subst (λ (w : Reading Policy). GivesUp w.outcome) e g

no_further : (n d : ℕ) (blanks x t : List ℕ) (o : Result (List Rule) Stop) → AreBlank blanks → IsTight (x ++ t) → rules_at n n d (x ++ t) ≡ left_at o t → Sticks o t
    → (byte : ℕ) (others : List ℕ) → t ≡ byte ∷ others → Begins ((blanks ++ x) ++ byte ∷ []) → ⊥
no_further n d blanks x t o are tight ran sticks byte others next b =
    let rest = byte ∷ b.more in
    let same : first t ≡ first rest = ap first next in
    let text_is : ((blanks ++ x) ++ byte ∷ []) ++ b.more ≡ blanks ++ (x ++ rest) = append_assoc (blanks ++ x) (byte ∷ []) b.more ∙ append_assoc blanks x rest in
    let here : skip (((blanks ++ x) ++ byte ∷ []) ++ b.more) ≡ x ++ rest =
    ap skip text_is ∙ (skip_blanks blanks (x ++ rest) are ∙ tight_as (x ++ t) (x ++ rest) (first_after x t rest same) tight) in
    stuck_no_text n d b.policy (((blanks ++ x) ++ byte ∷ []) ++ b.more) rest
    (at_text n d (((blanks ++ x) ++ byte ∷ []) ++ b.more) (x ++ rest) o rest here (no_end x) ((rules_exact n d n (omega (arith))).local x t rest o ran same)
    ∙ sticks.on byte b.more (ap first next))
    b.spells
  where
    no_end : (y : List ℕ) → y ++ (byte ∷ b.more) ≡ [] → ⊥
    no_end [] e = absurd (cc)
    no_end (c ∷ y) e = absurd (cc)

pub same_why : (a b : Stop) (s t : List ℕ) → stopped {A = Policy} a s ≡ stopped b t → (a ≡ b) × (s ≡ t)
same_why a b s t e = (ap why_of (ap (λ (w : Reading Policy). w.outcome) e), ap (λ (w : Reading Policy). w.left) e)
  where
    why_of : Result Policy Stop → Stop
    why_of (Ok p) = a
    why_of (Err why) = why

-- the reader stops at the longest beginning of a text of the grammar
pub stops_at : (n d : ℕ) (text t : List ℕ) → policy_at n d text ≡ stopped stop.Syntax t → StopsAt d text t
stops_at n d text t h = by_text (skip text) refl
  where
    blanks : List ℕ
    blanks = (skipped text).blanks

    build : (x l : List ℕ) (o : Result (List Rule) Stop) → skip text ≡ x ++ l → rules_at n n d (x ++ l) ≡ left_at o l → Sticks o l → Begins (blanks ++ x) → l ≡ t → StopsAt d text t
    build x l o here ran sticks begins same =
        let parts : text ≡ (blanks ++ x) ++ l = (skipped text).parts ∙ (ap (λ r. blanks ++ r) here ∙ sym (append_assoc blanks x l)) in
        subst (λ r. StopsAt d text r) same (record {
          before = blanks ++ x;
          parts = parts;
          stops = record {
            rest = l;
            parts = parts;
            begins = begins;
            further = no_further n d blanks x l o (skipped text).are (subst IsTight here (skip_tight text)) ran sticks;
            none = λ p k. stuck_no_text n d p text t h k;
          };
          shallow = read_shallow n d text x l o here ran;
        })

    by_outcome : (x l : List ℕ) (o : Result (List Rule) Stop) → skip text ≡ x ++ l → rules_at n n d (x ++ l) ≡ left_at o l → whole_of o l ≡ stopped stop.Syntax t → StopsAt d text t
    by_outcome x l (Err why) here ran e =
        let same = same_why why stop.Syntax l t e in
        let ran2 = ran ∙ ap (λ (w : Stop). stopped w l) same.0 in
        let on = (rules_exact n d n (omega (arith))).viable x l stop.Syntax ran2 in
        build x l (Err stop.Syntax) here ran2 (record { on = λ byte more f. refl })
        (begins_of blanks x (on.more ++ []) on.value (skipped text).are
        ((rules_exact n d n (omega (arith))).wide (x ++ (on.more ++ [])) [] on.value (on.ends [] refl)))
        same.1
    by_outcome x [] (Ok rules) here ran e = absurd (not_read (record { rules = rules }) [] t e)
    by_outcome x (byte ∷ l) (Ok rules) here ran e =
        let R = rules_exact n d n (omega (arith)) in
        build x (byte ∷ l) (Ok rules) here ran (record { on = λ b more f. refl })
        (begins_of blanks x (32 ∷ []) rules (skipped text).are
        (R.wide (x ++ (32 ∷ [])) [] rules (R.takes (x ++ (32 ∷ [])) [] rules (R.spaced x (byte ∷ l) [] rules ran refl refl))))
        (same_why stop.Syntax stop.Syntax (byte ∷ l) t e).1

    by_text : (s : List ℕ) → skip text ≡ s → StopsAt d text t
    by_text [] here = absurd (not_read (record { rules = [] }) [] t (sym (at_none n d text here) ∙ h))
    by_text (byte ∷ others) here =
        let found = rules_at n n d (byte ∷ others) in
        let front = (rules_exact n d n (omega (arith))).front (byte ∷ others) in
        by_outcome front.before found.left found.outcome (here ∙ front.parts)
        (ap (rules_at n n d) (sym front.parts))
        (sym (at_some n d text byte others found.outcome found.left here refl) ∙ h)

-- a parenthesis at which the reader stops is the first that stands within too many others
pub too_deep_at : (n d : ℕ) (text t : List ℕ) → policy_at n d text ≡ stopped stop.Deep t → TooDeepAt d text t
too_deep_at n d text t h = by_text (skip text) refl
  where
    blanks : List ℕ
    blanks = (skipped text).blanks

    no_syntax : (l : List ℕ) → stopped {A = Policy} stop.Syntax l ≡ stopped stop.Deep t → ⊥
    no_syntax l e = wrong (same_why stop.Syntax stop.Deep l t e).0
      where
        wrong : stop.Syntax ≡ stop.Deep → ⊥
        wrong e2 = absurd (cc)

    no_value : (p : Policy) (l : List ℕ) → read p l ≡ stopped stop.Deep t → ⊥
    no_value p l e = wrong (ap (λ (w : Reading Policy). w.outcome) e)
      where
        wrong : ◌≡◌ {A = Result Policy Stop} (Ok p) (Err stop.Deep) → ⊥
        wrong e2 = absurd (cc)

    opened : (l : List ℕ) → first l ≡ Some 40 → (rest : List ℕ) × (l ≡ 40 ∷ rest)
    opened [] e = absurd (cc)
    opened (byte ∷ l) e = (l, ap (λ b. b ∷ l) (same_Some byte 40 e))

    build : (x l : List ℕ) → skip text ≡ x ++ l → rules_at n n d (x ++ l) ≡ stopped stop.Deep l → l ≡ t → TooDeepAt d text t
    build x l here ran same =
        let R = rules_exact n d n (omega (arith)) in
        let parts : text ≡ (blanks ++ x) ++ l = (skipped text).parts ∙ (ap (λ r. blanks ++ r) here ∙ sym (append_assoc blanks x l)) in
        let next = opened l (R.deep x l ran).0 in
        let on = R.opens x l ran in
        let none = no_parens blanks (skipped text).are in
        let none_opened = none.0 in
        let none_closed = none.1 in
        let deep = (R.deep x l ran).1 in
        let opens = count_append 40 blanks x in
        let closes = count_append 41 blanks x in
        subst (λ r. TooDeepAt d text r) same (record {
          before = blanks ++ x;
          parts = parts;
          deep = record {
            rest = next.0;
            parts = parts ∙ ap (λ r. (blanks ++ x) ++ r) next.1;
            begins = subst Begins (sym (append_assoc blanks x (40 ∷ [])))
                (begins_of blanks (x ++ (40 ∷ [])) (on.more ++ []) on.value (skipped text).are (on.ends [] refl));
            within = omega (arith, deep, none_opened, none_closed, opens, closes);
            first = λ p q e. by_place x l ran p q (stands_in blanks x p q 40 e);
          };
        })
      where
        by_place : (y r : List ℕ) → rules_at n n d (y ++ r) ≡ stopped stop.Deep r → (p q : List ℕ) → InFirst blanks p 40 ⊎ InSecond blanks y p q 40 → count 40 p < count 41 p + d
        by_place y r ran2 p q (inl i) = absurd (no_paren_in blanks p i.after (skipped text).are i.parts)
        by_place y r ran2 p q (inr i) =
            let none = no_parens blanks (skipped text).are in
            let none_opened = none.0 in
            let inner = (rules_exact n d n (omega (arith))).shallow y r (Err stop.Deep) ran2 i.before q i.parts in
            let opens = ap (count 40) i.front ∙ count_append 40 blanks i.before in
            let closes = ap (count 41) i.front ∙ count_append 41 blanks i.before in
            omega (arith, inner, none_opened, opens, closes)

    by_outcome : (x l : List ℕ) (o : Result (List Rule) Stop) → skip text ≡ x ++ l → rules_at n n d (x ++ l) ≡ left_at o l → whole_of o l ≡ stopped stop.Deep t → TooDeepAt d text t
    by_outcome x l (Err why) here ran e =
        let same = same_why why stop.Deep l t e in build x l here (ran ∙ ap (λ (w : Stop). stopped w l) same.0) same.1
    by_outcome x [] (Ok rules) here ran e = absurd (no_value (record { rules = rules }) [] e)
    by_outcome x (byte ∷ l) (Ok rules) here ran e = absurd (no_syntax (byte ∷ l) e)

    by_text : (s : List ℕ) → skip text ≡ s → TooDeepAt d text t
    by_text [] here = absurd (no_value (record { rules = [] }) [] (sym (at_none n d text here) ∙ h))
    by_text (byte ∷ others) here =
        let found = rules_at n n d (byte ∷ others) in
        let front = (rules_exact n d n (omega (arith))).front (byte ∷ others) in
        by_outcome front.before found.left found.outcome (here ∙ front.parts)
        (ap (rules_at n n d) (sym front.parts))
        (sym (at_some n d text byte others found.outcome found.left here refl) ∙ h)

-- what is read stands in the text, within the depth
pub says_within : (n d : ℕ) (p : Policy) (text t : List ℕ) → policy_at n d text ≡ read p t → SpellsBy (IsCond (suc d)) p text
says_within n d p text t h = by_text (skip text) refl
  where
    rules_are : (rules : List Rule) → read (record { rules = rules }) [] ≡ read p t → rules ≡ p.rules
    rules_are rules e = ap rules_of (ap (λ (w : Reading Policy). w.outcome) e)
      where
        rules_of : Result Policy Stop → List Rule
        rules_of (Ok q) = q.rules
        rules_of (Err why) = rules

    no_error : (why : Stop) (l : List ℕ) → stopped why l ≡ read p t → ⊥
    no_error why l e = wrong (ap (λ (w : Reading Policy). w.outcome) e)
      where
        wrong : ◌≡◌ {A = Result Policy Stop} (Err why) (Ok p) → ⊥
        wrong e2 = absurd (cc)

    by_outcome : (s l : List ℕ) (o : Result (List Rule) Stop) → skip text ≡ s → rules_at n n d s ≡ left_at o l → whole_of o l ≡ read p t → SpellsBy (IsCond (suc d)) p text
    by_outcome s l (Err why) here ran e = absurd (no_error why l e)
    by_outcome s [] (Ok rules) here ran e =
        subst (λ r. AreRules (IsCond (suc d)) r (skip text)) (rules_are rules e)
        (subst (λ r. AreRules (IsCond (suc d)) rules r) (sym here) (many_are (IsCond (suc d)) rules s ((rules_exact n d n (omega (arith))).takes s [] rules ran)))
    by_outcome s (byte ∷ l) (Ok rules) here ran e = absurd (no_error stop.Syntax (byte ∷ l) e)

    by_text : (s : List ℕ) → skip text ≡ s → SpellsBy (IsCond (suc d)) p text
    by_text [] here = subst (λ r. AreRules (IsCond (suc d)) r (skip text)) (rules_are [] (sym (at_none n d text here) ∙ h)) here
    by_text (byte ∷ others) here =
        let found = rules_at n n d (byte ∷ others) in
        by_outcome (byte ∷ others) found.left found.outcome here refl (sym (at_some n d text byte others found.outcome found.left here refl) ∙ h)

-- a reader with more fuel than the text has bytes is never spent
pub never_spent : (n d : ℕ) (text t : List ℕ) → length text < n → policy_at n d text ≡ stopped stop.Spent t → ⊥
never_spent n d text t short h = by_text (skip text) refl
  where
    no_value : (p : Policy) (l : List ℕ) → read p l ≡ stopped stop.Spent t → ⊥
    no_value p l e = wrong (ap (λ (w : Reading Policy). w.outcome) e)
      where
        wrong : ◌≡◌ {A = Result Policy Stop} (Ok p) (Err stop.Spent) → ⊥
        wrong e2 = absurd (cc)

    no_syntax : (l : List ℕ) → stopped {A = Policy} stop.Syntax l ≡ stopped stop.Spent t → ⊥
    no_syntax l e = wrong (same_why stop.Syntax stop.Spent l t e).0
      where
        wrong : stop.Syntax ≡ stop.Spent → ⊥
        wrong e2 = absurd (cc)

    by_outcome : (s l : List ℕ) (o : Result (List Rule) Stop) → length s < n → rules_at n n d s ≡ left_at o l → whole_of o l ≡ stopped stop.Spent t → ⊥
    by_outcome s l (Err why) less ran e =
        (rules_exact n d n (omega (arith))).lasts s less (ap (λ (w : Reading (List Rule)). w.outcome) ran ∙ ap (λ (w : Stop). Err w) (same_why why stop.Spent l t e).0)
    by_outcome s [] (Ok rules) less ran e = no_value (record { rules = rules }) [] e
    by_outcome s (byte ∷ l) (Ok rules) less ran e = no_syntax (byte ∷ l) e

    by_text : (s : List ℕ) → skip text ≡ s → ⊥
    by_text [] here = no_value (record { rules = [] }) [] (sym (at_none n d text here) ∙ h)
    by_text (byte ∷ others) here =
        let found = rules_at n n d (byte ∷ others) in
        let shorter = skip_shorter text in
        let same = ap length here in
        by_outcome (byte ∷ others) found.left found.outcome (omega (arith, shorter, same, short)) refl (sym (at_some n d text byte others found.outcome found.left here refl) ∙ h)

-- ---- the answers exclude one another

-- where all is read, no parenthesis is one too many
reads_shallow : (n d : ℕ) (p : Policy) (text t : List ℕ) → policy_at n d text ≡ read p t → IsShallow d text
reads_shallow n d p text t h = by_text (skip text) refl
  where
    no_error : (why : Stop) (l : List ℕ) → stopped why l ≡ read p t → ⊥
    no_error why l e = wrong (ap (λ (w : Reading Policy). w.outcome) e)
      where
        wrong : ◌≡◌ {A = Result Policy Stop} (Err why) (Ok p) → ⊥
        wrong e2 = absurd (cc)

    by_outcome : (x l : List ℕ) (o : Result (List Rule) Stop) → skip text ≡ x ++ l → rules_at n n d (x ++ l) ≡ left_at o l → whole_of o l ≡ read p t → IsShallow d text
    by_outcome x l (Err why) here ran e = absurd (no_error why l e)
    by_outcome x (byte ∷ l) (Ok rules) here ran e = absurd (no_error stop.Syntax (byte ∷ l) e)
    by_outcome x [] (Ok rules) here ran e =
        subst (IsShallow d) (sym ((skipped text).parts ∙ (ap (λ r. (skipped text).blanks ++ r) (here ∙ append-nil x)))) (read_shallow n d text x [] (Ok rules) here ran)

    by_text : (s : List ℕ) → skip text ≡ s → IsShallow d text
    by_text [] here = λ p2 q e. absurd (no_paren_in (skipped text).blanks p2 q (skipped text).are
        (sym ((skipped text).parts ∙ (ap (λ r. (skipped text).blanks ++ r) here ∙ append-nil (skipped text).blanks)) ∙ e))
    by_text (byte ∷ others) here =
        let found = rules_at n n d (byte ∷ others) in
        let front = (rules_exact n d n (omega (arith))).front (byte ∷ others) in
        by_outcome front.before found.left found.outcome (here ∙ front.parts)
        (ap (rules_at n n d) (sym front.parts))
        (sym (at_some n d text byte others found.outcome found.left here refl) ∙ h)

not_shallow : (d : ℕ) (text before : List ℕ) (h : IsTooDeep d text before) (x q : List ℕ) → IsShallow d x → x ≡ before ++ (40 ∷ q) → ⊥
not_shallow d text before h x q shallow e = let less = shallow before q e in let same = h.within in omega (arith, less, same)

-- no text stops before a parenthesis too many, nor behind it
pub not_both : (d : ℕ) (text before t : List ℕ) (h : IsTooDeep d text before) (k : StopsAt d text t) → EndsIn before k.before k.before ⊎ EndsIn k.before before before → ⊥
not_both d text before t h k (inl e) = by_more e.more e.whole
  where
    left_is : (more : List ℕ) → before ≡ k.before ++ more → k.stops.rest ≡ more ++ (40 ∷ h.rest)
    left_is more whole = append_cancel_left k.before k.stops.rest (more ++ (40 ∷ h.rest))
        (sym k.stops.parts ∙ (h.parts ∙ (ap (λ l. l ++ (40 ∷ h.rest)) whole ∙ append_assoc k.before more (40 ∷ h.rest))))

    by_more : (more : List ℕ) → before ≡ k.before ++ more → ⊥
    by_more [] whole = k.stops.further 40 h.rest (left_is [] whole) (subst (λ l. Begins (l ++ (40 ∷ []))) (whole ∙ append-nil k.before) h.begins)
    by_more (c ∷ more) whole = k.stops.further c (more ++ (40 ∷ h.rest)) (left_is (c ∷ more) whole)
        (begins_shorter (k.before ++ c ∷ []) (more ++ (40 ∷ []))
        (subst Begins (ap (λ l. l ++ (40 ∷ [])) whole ∙ (append_assoc k.before (c ∷ more) (40 ∷ []) ∙ sym (append_assoc k.before (c ∷ []) (more ++ (40 ∷ []))))) h.begins))
not_both d text before t h k (inr e) = by_more e.more e.whole
  where
    by_more : (more : List ℕ) → k.before ≡ before ++ more → ⊥
    by_more [] whole =
        k.stops.further 40 h.rest
        (append_cancel_left k.before k.stops.rest (40 ∷ h.rest) (sym k.stops.parts ∙ (h.parts ∙ ap (λ l. l ++ (40 ∷ h.rest)) (sym (whole ∙ append-nil before)))))
        (subst (λ l. Begins (l ++ (40 ∷ []))) (sym (whole ∙ append-nil before)) h.begins)
    by_more (c ∷ more) whole =
        let same = append_cancel_left before (40 ∷ h.rest) ((c ∷ more) ++ k.stops.rest)
        (sym h.parts ∙ (k.stops.parts ∙ (ap (λ l. l ++ k.stops.rest) whole ∙ append_assoc before (c ∷ more) k.stops.rest))) in
        let head = (same_heads 40 c h.rest (more ++ k.stops.rest) same).0 in
        not_shallow d text before h k.before more k.shallow (whole ∙ ap (λ b. before ++ (b ∷ more)) (sym head))

-- a text that goes on with a parenthesis too many stops there
pub deep_is : (n d : ℕ) (text before : List ℕ) (h : IsTooDeep d text before) → length text < n → policy_at n d text ≡ stopped stop.Deep (40 ∷ h.rest)
deep_is n d text before h short = by_reading (policy_at n d text).outcome (policy_at n d text).left refl
  where
    same_deep : (t : List ℕ) (k : TooDeepAt d text t) → EndsIn before k.before k.before ⊎ EndsIn k.before before before → t ≡ 40 ∷ h.rest
    same_deep t k (inl e) = by_more e.more e.whole
      where
        by_more : (more : List ℕ) → before ≡ k.before ++ more → t ≡ 40 ∷ h.rest
        by_more [] whole = append_cancel_left k.before t (40 ∷ h.rest) (sym k.parts ∙ (h.parts ∙ ap (λ l. l ++ (40 ∷ h.rest)) (whole ∙ append-nil k.before)))
        by_more (c ∷ more) whole =
            let same = append_cancel_left k.before (40 ∷ k.deep.rest) ((c ∷ more) ++ (40 ∷ h.rest))
            (sym k.deep.parts ∙ (h.parts ∙ (ap (λ l. l ++ (40 ∷ h.rest)) whole ∙ append_assoc k.before (c ∷ more) (40 ∷ h.rest)))) in
            let head = (same_heads 40 c k.deep.rest (more ++ (40 ∷ h.rest)) same).0 in
            let less = h.first k.before more (whole ∙ ap (λ b. k.before ++ (b ∷ more)) (sym head)) in
            let exact = k.deep.within in
            absurd (omega (arith, less, exact))
    same_deep t k (inr e) = by_more e.more e.whole
      where
        by_more : (more : List ℕ) → k.before ≡ before ++ more → t ≡ 40 ∷ h.rest
        by_more [] whole = append_cancel_left before t (40 ∷ h.rest) (ap (λ l. l ++ t) (sym (whole ∙ append-nil before)) ∙ (sym k.parts ∙ h.parts))
        by_more (c ∷ more) whole =
            let same = append_cancel_left before (40 ∷ h.rest) ((c ∷ more) ++ t)
            (sym h.parts ∙ (k.parts ∙ (ap (λ l. l ++ t) whole ∙ append_assoc before (c ∷ more) t))) in
            let head = (same_heads 40 c h.rest (more ++ t) same).0 in
            let less = k.deep.first before more (whole ∙ ap (λ b. before ++ (b ∷ more)) (sym head)) in
            let exact = h.within in
            absurd (omega (arith, less, exact))

    by_reading : (o : Result Policy Stop) (t : List ℕ) → policy_at n d text ≡ left_at o t → policy_at n d text ≡ stopped stop.Deep (40 ∷ h.rest)
    by_reading (Ok p) t e = absurd (not_shallow d text before h text h.rest (reads_shallow n d p text t e) h.parts)
    by_reading (Err stop.Spent) t e = absurd (never_spent n d text t short e)
    by_reading (Err stop.Syntax) t e =
        let k = stops_at n d text t e in absurd (not_both d text before t h k (compare_fronts before k.before (40 ∷ h.rest) t (sym h.parts ∙ k.parts)))
    by_reading (Err stop.Deep) t e =
        let k = too_deep_at n d text t e in e ∙ ap (λ l. stopped stop.Deep l) (same_deep t k (compare_fronts before k.before (40 ∷ h.rest) t (sym h.parts ∙ k.parts)))
