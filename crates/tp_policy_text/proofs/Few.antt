-- A text says no more rules than it has bytes, since each rule takes some.
use Rattle.std.proofs.lemmas.List.{length-append}
use Rattle.std.proofs.Common.{◌≡◌, inl, inr, if◌then◌else◌, ℕ, zero, suc, ◌<◌, ◌≤◌, List, [], ◌∷◌, ◌++◌, length, Bool, true, false, Result, Ok, Err, refl, sym, ap, ◌∙◌, arith}
use Rattle.tp_types.specs.declared.policy.Policy.{Policy}
use Rattle.tp_types.specs.declared.policy.Rule.{Rule}
use Rattle.tp_policy_text.specs.declared.halt.Stop.{Stop}
use Rattle.tp_policy_text.specs.declared.halt.Stop.TheVariants as stop
use Rattle.tp_policy_text.specs.Lexis.{first, skip}
use Rattle.tp_policy_text.specs.mirrors.Readers.{comes, more_of, policy_at, rule_at, rules_at, whole_of}
use Rattle.tp_policy_text.specs.mirrors.Readings.{Reading, go_on, mapped, pick, read, stopped}
use Rattle.tp_policy_text.proofs.Exact.{left_at}
use Rattle.tp_policy_text.proofs.Leaves.{skip_shorter}
use Rattle.tp_policy_text.proofs.Rules.{rule_exact}
use Rattle.tp_policy_text.proofs.Wholes.{at_none, at_some}

-- the value of a reading, or another
value_or : {A : Type 0} → A → Reading A → A
value_or {A = A} other reading = of_outcome reading.outcome
  where
    of_outcome : Result A Stop → A
    of_outcome (Ok a) = a
    of_outcome (Err why) = other

same_value : {A : Type 0} (a b : A) (s t : List ℕ) → read a s ≡ read b t → a ≡ b
unfolding value_or
same_value a b s t e = ap (value_or a) e

no_value : {A : Type 0} (b : A) (why : Stop) (s t : List ℕ) → stopped why s ≡ read b t → ⊥
no_value {A = A} b why s t e = wrong (ap (λ (w : Reading A). w.outcome) e)
  where
    wrong : ◌≡◌ {A = Result A Stop} (Err why) (Ok b) → ⊥
    wrong e2 = absurd (cc)

-- a rule takes some of the text
rule_shortens : (fuel d : ℕ) (s m : List ℕ) (rule : Rule) → rule_at fuel d s ≡ read rule m → length m < length s
rule_shortens fuel d s m rule e = by_front ((rule_exact fuel d).front s).before (((rule_exact fuel d).front s).parts ∙ ap (λ (w : Reading Rule). ((rule_exact fuel d).front s).before ++ w.left) e)
  where
    by_front : (before : List ℕ) → s ≡ before ++ m → length m < length s
    by_front [] parts = absurd ((rule_exact fuel d).solid m rule (sym (ap (rule_at fuel d) parts) ∙ e))
    by_front (byte ∷ before) parts = let sum = ap length parts in let all = length-append before m in omega (arith, sum, all)

rules_few : (n fuel d : ℕ) (s t : List ℕ) (rules : List Rule) → rules_at n fuel d s ≡ read rules t → length rules ≤ length s
rules_few zero fuel d s t rules e = absurd (no_value rules stop.Spent s t e)
rules_few (suc n) fuel d s t rules e = by_rule (λ m others h. rules_few n fuel d m t others h) (rule_at fuel d s).outcome (rule_at fuel d s).left refl e
  where
    -- after a rule
    behind : Rule → List ℕ → Bool → Reading (List Rule)
    behind rule m on = pick (rules_at n fuel d) (if on then inr (λ others. rule ∷ others) else inl (rule ∷ [])) m

    more : ((m : List ℕ) (others : List Rule) → rules_at n fuel d m ≡ read others t → length others ≤ length m) → (rule : Rule) (m : List ℕ) → length m < length s
        → (o : Result (List Rule) Stop) (l : List ℕ) → rules_at n fuel d m ≡ left_at o l → mapped (λ others. rule ∷ others) (left_at o l) ≡ read rules t → length rules ≤ length s
    more later rule m shorter (Ok others) l ran k =
        let fewer = later m others (ran ∙ ap (λ x. read others x) (ap (λ (w : Reading (List Rule)). w.left) k)) in
        let whole = ap length (same_value (rule ∷ others) rules l t k) in
        omega (arith, fewer, whole, shorter)
    more later rule m shorter (Err why) l ran k = absurd (no_value rules why l t k)

    by_next : ((m : List ℕ) (others : List Rule) → rules_at n fuel d m ≡ read others t → length others ≤ length m) → (rule : Rule) (m : List ℕ) → length m < length s
        → (b : Bool) → behind rule m b ≡ read rules t → length rules ≤ length s
    by_next later rule m shorter true k = more later rule m shorter (rules_at n fuel d m).outcome (rules_at n fuel d m).left refl k
    by_next later rule m shorter false k = let one = ap length (same_value (rule ∷ []) rules m t k) in omega (arith, one, shorter)

    by_rule : ((m : List ℕ) (others : List Rule) → rules_at n fuel d m ≡ read others t → length others ≤ length m) → (o : Result Rule Stop) (m : List ℕ) → rule_at fuel d s ≡ left_at o m
        → go_on (λ a l. pick (rules_at n fuel d) (more_of 97 a (first l)) l) o m ≡ read rules t → length rules ≤ length s
    by_rule later (Ok rule) m ran k = by_next later rule m (rule_shortens fuel d s m rule ran) (comes 97 (first m)) k
    by_rule later (Err why) m ran k = absurd (no_value rules why m t k)

pub read_few : (n d : ℕ) (text t : List ℕ) (p : Policy) → policy_at n d text ≡ read p t → length p.rules ≤ length text
read_few n d text t p h = by_text (skip text) refl
  where
    rules_are : (rules : List Rule) (l : List ℕ) → read (record { rules = rules }) l ≡ read p t → rules ≡ p.rules
    rules_are rules l e = ap (λ (q : Policy). q.rules) (same_value (record { rules = rules }) p l t e)

    by_outcome : (s l : List ℕ) (o : Result (List Rule) Stop) → length s ≤ length text → rules_at n n d s ≡ left_at o l → whole_of o l ≡ read p t → length p.rules ≤ length text
    by_outcome s l (Err why) shorter ran e = absurd (no_value p why l t e)
    by_outcome s [] (Ok rules) shorter ran e = let fewer = rules_few n n d s [] rules ran in let same = ap length (rules_are rules [] e) in omega (arith, fewer, same, shorter)
    by_outcome s (byte ∷ l) (Ok rules) shorter ran e = absurd (no_value p stop.Syntax (byte ∷ l) t e)

    by_text : (s : List ℕ) → skip text ≡ s → length p.rules ≤ length text
    by_text [] here = let none = ap length (rules_are [] [] (sym (at_none n d text here) ∙ h)) in omega (arith, none)
    by_text (byte ∷ others) here =
        let found = rules_at n n d (byte ∷ others) in
        let shorter = skip_shorter text in
        let same = ap length here in
        by_outcome (byte ∷ others) found.left found.outcome (omega (arith, shorter, same)) refl (sym (at_some n d text byte others found.outcome found.left here refl) ∙ h)
