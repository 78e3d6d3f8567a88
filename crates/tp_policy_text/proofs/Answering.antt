-- What a reading of a whole text answers, and that no text has two answers.
use Rattle.std.proofs.lemmas.List.{append-nil, append_assoc, append_cancel_left, length-append}
use Rattle.std.proofs.Common.{◌≡◌, ◌⊎◌, inl, inr, ℕ, suc, ◌-◌, ◌<◌, ◌≤◌, List, [], ◌∷◌, ◌++◌, length, Result, Ok, Err, refl, sym, ap, subst, ◌∙◌, arith}
use Rattle.tp_types.specs.declared.policy.Cond.{Cond}
use Rattle.tp_types.specs.declared.policy.Policy.{Policy}
use Rattle.tp_types.specs.declared.policy.Rule.{Rule}
use Rattle.tp_policy_text.specs.declared.halt.Stop.{Stop}
use Rattle.tp_policy_text.specs.declared.halt.Stop.TheVariants as stop
use Rattle.tp_policy_text.specs.declared.parsing.ParseError.{ParseError}
use Rattle.tp_policy_text.specs.declared.parsing.ParseError.TheVariants as refusal
use Rattle.tp_policy_text.specs.Grammar.{AnyCond, AreRules, Begins, IsCond, IsWithin, Spells, SpellsBy, SpellsWithin, Stops}
use Rattle.tp_policy_text.specs.Lexis.{skip}
use Rattle.tp_policy_text.specs.Parses.{Answers, StandsTooDeep, StopsAtPlace, refusal_of}
use Rattle.tp_policy_text.specs.Printed.{IsOfGrammar}
use Rattle.tp_policy_text.specs.mirrors.Readers.{policy_at}
use Rattle.tp_policy_text.specs.mirrors.Readings.{Reading, read, stopped}
use Rattle.tp_policy_text.proofs.Exact.{Language}
use Rattle.tp_policy_text.proofs.Conditions.{any_of}
use Rattle.tp_policy_text.proofs.PrintedGrammar.{spelled_of_grammar}
use Rattle.tp_policy_text.proofs.PrintedWholes.{shallow_reads}
use Rattle.tp_policy_text.proofs.Rules.{rule_wider}
use Rattle.tp_policy_text.proofs.Wholes.{EndsIn, begins_shorter, compare_fronts, deep_is, never_spent, not_both, reads_within, same_why, says_within, stops_at, too_deep_at}

are_wider : (C D : Language Cond) → ((s t : List ℕ) (c : Cond) → C c s t → D c s t) → (rules : List Rule) (s : List ℕ) → AreRules C rules s → AreRules D rules s
are_wider C D wide [] s h = h
are_wider C D wide (rule ∷ rules) s (left, one, later) = (left, rule_wider C D wide s left rule one, are_wider C D wide rules left later)

pub within_spells : (d : ℕ) (p : Policy) (text : List ℕ) → SpellsBy (IsCond d) p text → Spells p text
within_spells d p text h = are_wider (IsCond d) AnyCond (any_of d) p.rules (skip text) h

-- the place of what is left of a text
place_of : (text before left : List ℕ) → text ≡ before ++ left → length text - length left ≡ length before
place_of text before left parts = let sum = ap length parts in let all = length-append before left in omega (arith, sum, all)

left_shorter : (text before left : List ℕ) → text ≡ before ++ left → length left ≤ length text
left_shorter text before left parts = let sum = ap length parts in let all = length-append before left in omega (arith, sum, all)

-- ---- a reading that stops

pub left_within : (n d : ℕ) (text t : List ℕ) (why : Stop) → length text < n → policy_at n d text ≡ stopped why t → length t ≤ length text
left_within n d text t stop.Deep short h = let k = too_deep_at n d text t h in left_shorter text k.before t k.parts
left_within n d text t stop.Syntax short h = let k = stops_at n d text t h in left_shorter text k.before t k.parts
left_within n d text t stop.Spent short h = absurd (never_spent n d text t short h)

pub not_spent : (n d : ℕ) (text t : List ℕ) (why : Stop) → length text < n → policy_at n d text ≡ stopped why t → why ≡ stop.Spent → ⊥
not_spent n d text t why short h e = never_spent n d text t short (h ∙ ap (λ (w : Stop). stopped w t) e)

-- ---- what a reading answers

pub answers_read : (n : ℕ) (text t : List ℕ) (p : Policy) → length text ≤ 4096 → policy_at n 16 text ≡ read p t → Answers text (Ok p)
answers_read n text t p fits h = (fits, says_within n 16 p text t h)

pub answers_stop : (n : ℕ) (text t : List ℕ) (why : Stop) → length text ≤ 4096 → length text < n → policy_at n 16 text ≡ stopped why t → Answers text (Err (refusal_of why (length text - length t)))
answers_stop n text t stop.Deep fits short h =
    let k = too_deep_at n 16 text t h in (fits, record { before = k.before; is = k.deep; place_is = place_of text k.before t k.parts })
answers_stop n text t stop.Syntax fits short h =
    let k = stops_at n 16 text t h in (fits, record { before = k.before; is = k.stops; within = k.shallow; place_is = place_of text k.before t k.parts })
answers_stop n text t stop.Spent fits short h = absurd (never_spent n 16 text t short h)

-- ---- no text has two answers

-- two longest beginnings are one
same_stop : (text one other : List ℕ) → Stops text one → Stops text other → one ≡ other
same_stop text one other h k = by_front (compare_fronts one other h.rest k.rest (sym h.parts ∙ k.parts))
  where
    -- a longer beginning goes on with the next byte
    longer : (x y : List ℕ) (a : Stops text x) (b : Stops text y) (more : List ℕ) → x ≡ y ++ more → x ≡ y
    longer x y a b [] whole = whole ∙ append-nil y
    longer x y a b (c ∷ more) whole = absurd (b.further c (more ++ a.rest)
        (append_cancel_left y b.rest ((c ∷ more) ++ a.rest) (sym b.parts ∙ (a.parts ∙ (ap (λ l. l ++ a.rest) whole ∙ append_assoc y (c ∷ more) a.rest))))
        (begins_shorter (y ++ c ∷ []) more (subst Begins (whole ∙ sym (append_assoc y (c ∷ []) more)) a.begins)))

    by_front : EndsIn one other other ⊎ EndsIn other one one → one ≡ other
    by_front (inl e) = longer one other h k e.more e.whole
    by_front (inr e) = sym (longer other one k h e.more e.whole)

not_stopped : (p : Policy) (why : Stop) (t l : List ℕ) → read p t ≡ stopped why l → ⊥
not_stopped p why t l e = wrong (ap (λ (w : Reading Policy). w.outcome) e)
  where
    wrong : ◌≡◌ {A = Result Policy Stop} (Ok p) (Err why) → ⊥
    wrong e2 = absurd (cc)

too_long : (text : List ℕ) → length text ≤ 4096 → 4096 < length text → ⊥
too_long text fits long = omega (arith, fits, long)

-- a text that is read
pub only_read : (n : ℕ) (text t : List ℕ) (p : Policy) → length text ≤ 4096 → length text < n → policy_at n 16 text ≡ read p t → (a : Result Policy ParseError) → Answers text a → Ok p ≡ a
only_read n text t p fits short h (Ok q) (_, k) = ap (λ x. Ok x) (same_policy (sym h ∙ reads_within n 16 q text short k))
  where
    policy_or : Result Policy Stop → Policy
    policy_or (Ok x) = x
    policy_or (Err why) = p

    same_policy : read p t ≡ read q [] → p ≡ q
    same_policy e = ap policy_or (ap (λ (w : Reading Policy). w.outcome) e)
only_read n text t p fits short h (Err refusal.TooLong) k = absurd (too_long text fits k)
only_read n text t p fits short h (Err (refusal.TooDeep place)) (_, k) = absurd (not_stopped p stop.Deep t (40 ∷ k.is.rest) (sym h ∙ deep_is n 16 text k.before k.is short))
only_read n text t p fits short h (Err (refusal.Syntax place)) (_, k) = absurd (k.is.none p (within_spells 17 p text (says_within n 16 p text t h)))
only_read n text t p fits short h (Err refusal.NoMemory) k = absurd (k)

-- a parenthesis too many, and a text that stops
never_both : (text : List ℕ) (deep_place stop_place : ℕ) → StandsTooDeep text deep_place → StopsAtPlace text stop_place → ⊥
never_both text deep_place stop_place deep other =
    not_both 16 text deep.before other.is.rest deep.is (record { before = other.before; parts = other.is.parts; stops = other.is; shallow = other.within })
    (compare_fronts deep.before other.before (40 ∷ deep.is.rest) other.is.rest (sym deep.is.parts ∙ other.is.parts))

-- a text at which the reader stops
pub only_stop : (n : ℕ) (text t : List ℕ) (why : Stop) → length text ≤ 4096 → length text < n → policy_at n 16 text ≡ stopped why t
    → (a : Result Policy ParseError) → Answers text a → Err (refusal_of why (length text - length t)) ≡ a
only_stop n text t why fits short h (Ok q) (_, k) = absurd (not_stopped q why [] t (sym (reads_within n 16 q text short k) ∙ h))
only_stop n text t why fits short h (Err refusal.TooLong) k = absurd (too_long text fits k)
only_stop n text t why fits short h (Err (refusal.TooDeep place)) (_, k) =
    let same = same_why why stop.Deep t (40 ∷ k.is.rest) (sym h ∙ deep_is n 16 text k.before k.is short) in
    ap (λ w. Err (refusal_of w (length text - length t))) same.0
    ∙ ap (λ (m : ℕ). Err (refusal.TooDeep m)) (place_of text k.before t (k.is.parts ∙ ap (λ l. k.before ++ l) (sym same.1)) ∙ sym k.place_is)
only_stop n text t stop.Syntax fits short h (Err (refusal.Syntax place)) (_, k) =
    let here = stops_at n 16 text t h in
    ap (λ (m : ℕ). Err (refusal.Syntax m)) (place_of text here.before t here.parts ∙ ap length (same_stop text here.before k.before here.stops k.is) ∙ sym k.place_is)
only_stop n text t stop.Deep fits short h (Err (refusal.Syntax place)) (_, k) =
    let here = too_deep_at n 16 text t h in
    absurd (never_both text (length here.before) place (record { before = here.before; is = here.deep; place_is = refl }) k)
only_stop n text t stop.Spent fits short h (Err (refusal.Syntax place)) k = absurd (never_spent n 16 text t short h)
only_stop n text t why fits short h (Err refusal.NoMemory) k = absurd (k)

-- ---- what is printed

-- what a text within the depth says can be printed
pub read_of_grammar : (n d : ℕ) (text t : List ℕ) (p : Policy) → policy_at n d text ≡ read p t → IsOfGrammar p
read_of_grammar n d text t p h = spelled_of_grammar p text (within_spells (suc d) p text (says_within n d p text t h))

-- a text of some policy, within the depth as a text, says it within the depth
pub shallow_within : (text : List ℕ) (p : Policy) → Spells p text → IsWithin 16 text → SpellsWithin 16 p text
shallow_within text p h shallow =
    says_within (suc (length text)) 16 p text [] (shallow_reads (suc (length text)) 16 p text (omega (arith)) h shallow)
