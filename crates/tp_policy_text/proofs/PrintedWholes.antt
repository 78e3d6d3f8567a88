-- A text whose parentheses are not too deep is read, so it says one policy alone.
use Rattle.std.proofs.Common.{◌≡◌, ◌⊎◌, inl, inr, ℕ, suc, ◌<◌, List, [], ◌∷◌, length, Result, Ok, Err, refl, sym, ap, ◌∙◌, arith}
use Rattle.tp_types.specs.declared.policy.Policy.{Policy}
use Rattle.tp_policy_text.specs.declared.halt.Stop.{Stop}
use Rattle.tp_policy_text.specs.declared.halt.Stop.TheVariants as stop
use Rattle.tp_policy_text.specs.Grammar.{Spells}
use Rattle.tp_policy_text.specs.Lexis.{count}
use Rattle.tp_policy_text.specs.mirrors.Readers.{policy_at}
use Rattle.tp_policy_text.specs.mirrors.Readings.{Reading, read}
use Rattle.tp_policy_text.proofs.Exact.{GivesUp, IsShallow, left_at}
use Rattle.tp_policy_text.proofs.Texts.{count_append}
use Rattle.tp_policy_text.proofs.Wholes.{never_spent, reads_any, too_deep_at}

-- a text of some policy in which no parenthesis stands within d others is read
pub shallow_reads : (n d : ℕ) (p : Policy) (text : List ℕ) → length text < n → Spells p text → IsShallow d text → policy_at n d text ≡ read p []
shallow_reads n d p text short h shallow = by_reading (reads_any n d p text h)
  where
    by_outcome : (o : Result Policy Stop) (t : List ℕ) → policy_at n d text ≡ left_at o t → GivesUp o → ⊥
    by_outcome (Ok q) t e g = absurd (g)
    by_outcome (Err stop.Syntax) t e g = absurd (g)
    by_outcome (Err stop.Spent) t e g = never_spent n d text t short e
    by_outcome (Err stop.Deep) t e g =
        let deep = (too_deep_at n d text t e).deep in
        let less = shallow (too_deep_at n d text t e).before deep.rest deep.parts in
        let within = deep.within in
        omega (arith, less, within)

    by_reading : (policy_at n d text ≡ read p []) ⊎ GivesUp (policy_at n d text).outcome → policy_at n d text ≡ read p []
    by_reading (inl ran) = ran
    by_reading (inr g) = absurd (by_outcome (policy_at n d text).outcome (policy_at n d text).left refl g)

-- no parenthesis stands within as many others as the text has
all_shallow : (text : List ℕ) → IsShallow (count 40 text) text
all_shallow text p q parts = let sum = ap (count 40) parts ∙ count_append 40 p (40 ∷ q) in omega (arith, sum)

-- a text says one policy at most
pub spells_alone : (one other : Policy) (text : List ℕ) → Spells one text → Spells other text → one ≡ other
spells_alone one other text h k = ap policy_of (ap (λ (w : Reading Policy). w.outcome) (sym (whole one h) ∙ whole other k))
  where
    whole : (p : Policy) → Spells p text → policy_at (suc (length text)) (count 40 text) text ≡ read p []
    whole p s = shallow_reads (suc (length text)) (count 40 text) p text (omega (arith)) s (all_shallow text)

    policy_of : Result Policy Stop → Policy
    policy_of (Ok p) = p
    policy_of (Err why) = one
