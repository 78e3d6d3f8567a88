-- How the readers of productions go on from one token to the next.
use Rattle.std.proofs.Common.{◌≡◌, inl, inr, if◌then◌else◌, ◌<◌, ◌+◌, ℕ, suc, ◌-◌, List, [], ◌∷◌, ◌++◌, Bool, true, false, Result, Ok, Err, refl, sym, ap, ◌∙◌, arith, append_assoc}
use Rattle.tp_types.specs.declared.policy.Rule.{Rule}
use Rattle.tp_policy_text.specs.declared.halt.Stop.{Stop}
use Rattle.tp_policy_text.specs.declared.halt.Halt.{Halt}
use Rattle.tp_policy_text.specs.declared.halt.Halt.TheVariants as why
use Rattle.tp_policy_text.specs.mirrors.Gives.{Gives}
use Rattle.tp_policy_text.specs.Lexis.{first}
use Rattle.tp_policy_text.specs.mirrors.Readers.{both, second, word_at, more_of, comes, joined_at, rule_at, rules_at}
use Rattle.tp_policy_text.specs.mirrors.Readings.{Reader, Reading, pick, seq, mapped, read}

-- ---- members made so far, before those that are still to be read

abbrev pub with_front : {A : Type 0} → List A → Reading (List A) → Reading (List A)
with_front made reading = mapped (λ others. made ++ others) reading

pub nothing_made : {A : Type 0} (reading : Reading (List A)) → with_front [] reading ≡ reading
nothing_made {A = A} reading = by_outcome reading.outcome reading.left
  where
    by_outcome : (o : Result (List A) Stop) (m : List ℕ) → with_front [] (record { outcome = o; left = m }) ≡ record { outcome = o; left = m }
    by_outcome (Ok xs) m = refl
    by_outcome (Err why) m = refl

-- ---- one turn of joined members

more_members : {A : Type 0} (made : List A) (a : A) (reading : Reading (List A)) → with_front (made ++ a ∷ []) reading ≡ with_front made (mapped (λ others. a ∷ others) reading)
more_members {A = A} made a reading = by_outcome reading.outcome reading.left
  where
    by_outcome : (o : Result (List A) Stop) (m : List ℕ)
        → with_front (made ++ a ∷ []) (record { outcome = o; left = m }) ≡ with_front made (mapped (λ others. a ∷ others) (record { outcome = o; left = m }))
    by_outcome (Ok xs) m = ap (λ l. read l m) (append_assoc made (a ∷ []) xs)
    by_outcome (Err why) m = refl

-- a member, and then its word and more members, or the end
abbrev pub Turned : {A : Type 0} → ℕ → List ℕ → Reader A → ℕ → List A → List ℕ → Reading (List A) → Type 0
Turned byte word r n made s whole = with_front made (joined_at n byte word r s) ≡ whole

one_turn : {A : Type 0} (m byte : ℕ) (word : List ℕ) (r : Reader A) (s mid : List ℕ) (a : A) → r s ≡ read a mid
    → joined_at (suc m) byte word r s ≡ pick (both second (word_at word (tt {0})) (joined_at m byte word r)) (more_of byte a (first mid)) mid
one_turn {A = A} m byte word r s mid a e =
    ap (λ (x : Reading A). seq x (λ b l. pick (both second (word_at word (tt {0})) (joined_at m byte word r)) (more_of byte b (first l)) l)) e

before : (n m : ℕ) → m < n → n - m ≡ suc (n - (m + 1))
before n m less = omega (arith, less)

-- a member where it stops
pub turn_stops : {A : Type 0} (byte : ℕ) (word : List ℕ) (r : Reader A) (n m : ℕ) (made : List A) (s mid : List ℕ) (whole : Reading (List A)) (halt : Halt)
    → m < n → Turned byte word r (n - m) made s whole → Gives {A = A} (Err halt) mid (r s) → Gives {A = List A} (Err halt) mid whole
turn_stops byte word r n m made s mid whole why.NoMemory less turned h = tt
turn_stops {A = A} byte word r n m made s mid whole (why.Stopped stop) less turned h =
    sym turned ∙ ap (λ k. with_front made (joined_at k byte word r s)) (before n m less)
    ∙ ap (λ (x : Reading A). with_front made (seq x (λ b l. pick (both second (word_at word (tt {0})) (joined_at (n - (m + 1)) byte word r)) (more_of byte b (first l)) l))) h

-- the last member
pub turn_ends : {A : Type 0} (byte : ℕ) (word : List ℕ) (r : Reader A) (n m : ℕ) (made : List A) (s mid : List ℕ) (whole : Reading (List A)) (a : A)
    → m < n → Turned byte word r (n - m) made s whole → r s ≡ read a mid → comes byte (first mid) ≡ false → whole ≡ read (made ++ a ∷ []) mid
turn_ends {A = A} byte word r n m made s mid whole a less turned one over =
    sym turned ∙ ap (λ k. with_front made (joined_at k byte word r s)) (before n m less)
    ∙ ap (with_front made) (one_turn (n - (m + 1)) byte word r s mid a one)
    ∙ ap (λ (b : Bool). with_front made (pick (both second (word_at word (tt {0})) (joined_at (n - (m + 1)) byte word r)) (if b then inr (λ others. a ∷ others) else inl (a ∷ [])) mid)) over

-- one more member, with its word behind it
more_turned : {A : Type 0} (byte : ℕ) (word : List ℕ) (r : Reader A) (n m : ℕ) (made : List A) (s mid : List ℕ) (whole : Reading (List A)) (a : A)
    → m < n → Turned byte word r (n - m) made s whole → r s ≡ read a mid → comes byte (first mid) ≡ true
    → with_front made (mapped (λ others. a ∷ others) (both second (word_at word (tt {0})) (joined_at (n - (m + 1)) byte word r) mid)) ≡ whole
more_turned {A = A} byte word r n m made s mid whole a less turned one on =
    sym (ap (λ k. with_front made (joined_at k byte word r s)) (before n m less)
    ∙ ap (with_front made) (one_turn (n - (m + 1)) byte word r s mid a one)
    ∙ ap (λ (b : Bool). with_front made (pick (both second (word_at word (tt {0})) (joined_at (n - (m + 1)) byte word r)) (if b then inr (λ others. a ∷ others) else inl (a ∷ [])) mid)) on)
    ∙ turned

-- the word between two members, where it stops
pub word_stops : {A : Type 0} (byte : ℕ) (word : List ℕ) (r : Reader A) (n m : ℕ) (made : List A) (s mid after : List ℕ) (whole : Reading (List A)) (a : A) (halt : Halt)
    → m < n → Turned byte word r (n - m) made s whole → r s ≡ read a mid → comes byte (first mid) ≡ true
    → Gives {A = Unit {0}} (Err halt) after (word_at word (tt {0}) mid) → Gives {A = List A} (Err halt) after whole
word_stops byte word r n m made s mid after whole a why.NoMemory less turned one on h = tt
word_stops {A = A} byte word r n m made s mid after whole a (why.Stopped stop) less turned one on h =
    sym (more_turned byte word r n m made s mid whole a less turned one on)
    ∙ ap (λ (x : Reading (Unit {0})). with_front made (mapped (λ others. a ∷ others) (seq x (λ b l. mapped (second b) (joined_at (n - (m + 1)) byte word r l))))) h

second_is : {A B : Type 0} (b : A) (reading : Reading B) → mapped (second b) reading ≡ reading
second_is {B = B} b reading = by_outcome reading.outcome reading.left
  where
    by_outcome : (o : Result B Stop) (m : List ℕ) → mapped (second b) (record { outcome = o; left = m }) ≡ record { outcome = o; left = m }
    by_outcome (Ok x) m = refl
    by_outcome (Err why) m = refl

pub turn_goes : {A : Type 0} (byte : ℕ) (word : List ℕ) (r : Reader A) (n m : ℕ) (made : List A) (s mid after : List ℕ) (whole : Reading (List A)) (a : A)
    → m < n → Turned byte word r (n - m) made s whole → r s ≡ read a mid → comes byte (first mid) ≡ true
    → word_at word (tt {0}) mid ≡ read (tt {0}) after → Turned byte word r (n - (m + 1)) (made ++ a ∷ []) after whole
turn_goes {A = A} byte word r n m made s mid after whole a less turned one on h =
    more_members made a (joined_at (n - (m + 1)) byte word r after)
    ∙ ap (λ x. with_front made (mapped (λ others. a ∷ others) x)) (sym (second_is (tt {0}) (joined_at (n - (m + 1)) byte word r after)))
    ∙ sym (ap (λ (x : Reading (Unit {0})). with_front made (mapped (λ others. a ∷ others) (seq x (λ b l. mapped (second b) (joined_at (n - (m + 1)) byte word r l))))) h)
    ∙ more_turned byte word r n m made s mid whole a less turned one on

-- ---- one turn of rules

abbrev pub Ruled : ℕ → ℕ → ℕ → List Rule → List ℕ → Reading (List Rule) → Type 0
Ruled fuel depth n made s whole = with_front made (rules_at n fuel depth s) ≡ whole

-- a rule, and then more rules or the end
abbrev after_rule : ℕ → ℕ → ℕ → Reading Rule → Reading (List Rule)
after_rule fuel depth n one = seq one (λ b l. pick (rules_at n fuel depth) (more_of 97 b (first l)) l)

-- the same, by the byte that comes next
abbrev behind_rule : ℕ → ℕ → ℕ → Rule → List ℕ → Bool → Reading (List Rule)
behind_rule fuel depth n rule mid on = pick (rules_at n fuel depth) (if on then inr (λ others. rule ∷ others) else inl (rule ∷ [])) mid

rule_turned : (fuel depth m : ℕ) (made : List Rule) (s : List ℕ) (whole : Reading (List Rule)) → m < fuel → Ruled fuel depth (fuel - m) made s whole
    → with_front made (after_rule fuel depth (fuel - (m + 1)) (rule_at fuel depth s)) ≡ whole
rule_turned fuel depth m made s whole less turned = sym (ap (λ k. with_front made (rules_at k fuel depth s)) (before fuel m less)) ∙ turned

pub rule_stops : (fuel depth m : ℕ) (made : List Rule) (s mid : List ℕ) (whole : Reading (List Rule)) (halt : Halt) → m < fuel → Ruled fuel depth (fuel - m) made s whole
    → Gives {A = Rule} (Err halt) mid (rule_at fuel depth s) → Gives {A = List Rule} (Err halt) mid whole
rule_stops fuel depth m made s mid whole why.NoMemory less turned h = tt
rule_stops fuel depth m made s mid whole (why.Stopped stop) less turned h =
    sym (rule_turned fuel depth m made s whole less turned) ∙ ap (λ x. with_front made (after_rule fuel depth (fuel - (m + 1)) x)) h

pub rule_ends : (fuel depth m : ℕ) (made : List Rule) (s mid : List ℕ) (whole : Reading (List Rule)) (rule : Rule) → m < fuel → Ruled fuel depth (fuel - m) made s whole
    → rule_at fuel depth s ≡ read rule mid → comes 97 (first mid) ≡ false → whole ≡ read (made ++ rule ∷ []) mid
rule_ends fuel depth m made s mid whole rule less turned one over =
    sym (rule_turned fuel depth m made s whole less turned) ∙ ap (λ x. with_front made (after_rule fuel depth (fuel - (m + 1)) x)) one
    ∙ ap (λ on. with_front made (behind_rule fuel depth (fuel - (m + 1)) rule mid on)) over

pub rule_goes : (fuel depth m : ℕ) (made : List Rule) (s mid : List ℕ) (whole : Reading (List Rule)) (rule : Rule) → m < fuel → Ruled fuel depth (fuel - m) made s whole
    → rule_at fuel depth s ≡ read rule mid → comes 97 (first mid) ≡ true → Ruled fuel depth (fuel - (m + 1)) (made ++ rule ∷ []) mid whole
rule_goes fuel depth m made s mid whole rule less turned one on =
    more_members made rule (rules_at (fuel - (m + 1)) fuel depth mid)
    ∙ ap (λ b. with_front made (behind_rule fuel depth (fuel - (m + 1)) rule mid b)) (sym on)
    ∙ sym (ap (λ x. with_front made (after_rule fuel depth (fuel - (m + 1)) x)) one)
    ∙ rule_turned fuel depth m made s whole less turned
