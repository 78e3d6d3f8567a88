-- What a token takes of a text, by how far its bytes reach.
use Rattle.std.proofs.lemmas.Bool.{and_from, and_left, and_parts, and_right, eqb-true, ltb-true, not-true, not_from_false}
use Rattle.std.proofs.Common.{◌≡◌, ℕ, suc, add-zero, ◌+◌, ◌<◌, ◌≤◌, ◌==◌, ◌&&◌, not, nat_lt, List, [], ◌∷◌, ◌++◌, length, take, drop, Bool, true, false, Option, Some, None, Result, Ok, Err, refl, sym, ap, subst, ◌∙◌, arith, ℤ, if◌then◌else◌}
use Rattle.std.proofs.lemmas.Bool.Decides.{nat_tests}
use Rattle.std.proofs.lemmas.List.{append-nil, append_assoc, length-append, length-take-le, take-append-drop}
use Rattle.std.proofs.lemmas.Option.{same_Some}
use Rattle.std.specs.Cmp.Lexicographic.{pointwise}
use Rattle.std.specs.List.{list_all}
use Rattle.tp_types.specs.declared.policy.Cond.{Cond}
use Rattle.tp_types.specs.declared.policy.Cond.TheVariants as cond
use Rattle.tp_policy_text.specs.declared.halt.Stop.{Stop}
use Rattle.tp_policy_text.specs.declared.reader.Claim.{Claim}
use Rattle.tp_types.specs.declared.policy.Pattern.{Pattern}
use Rattle.tp_types.specs.declared.policy.Pattern.TheVariants as pattern
use Rattle.tp_types.specs.Spelling.{IsName, is_digit, is_letter, is_name_byte}
use Rattle.tp_policy_text.specs.Lexis.{first, skip}
use Rattle.tp_policy_text.specs.mirrors.Readers.{Digits, Head, atom_at, atom_of, compared_at, Starred, attr_step, comes, issuer_step, unstarred, goes_on, head_at, same_text, head_of, int_at, name_at, starred_at, head_end, head_step, int_end, int_step, is_some_text, name_end, name_step, starred_end, starred_step, takes_digit}
use Rattle.tp_policy_text.specs.mirrors.Readings.{Reader, Reading, carried, ended, go_on, machine, mapped, pick, read, seq, taken}
use Rattle.tp_policy_text.specs.mirrors.Scans.{attr_at, compared_to, claim_of, digit_front, digits_at, follows, head_after, is_next_digit, name_front, name_rest, reach, starred_after}
use Rattle.tp_policy_text.proofs.Leaves.{Goes, halted, next_of, went}
use Rattle.tp_policy_text.proofs.Names.{IsSoFar, give, give_none, name_of_some, names_of}

-- ---- bytes that go on

one_longer : (bytes : List ℕ) (byte count : ℕ) → count ≡ length bytes → count + 1 ≡ length (bytes ++ byte ∷ [])
one_longer bytes byte count e = let sum = length-append bytes (byte ∷ []) in omega (arith, sum, e)

-- a machine whose state grows with each byte that goes on, where P holds of what was read
abbrev Grows : {S : Type 0} → (S → ℕ → Option S) → (List ℕ → S) → (ℕ → ℕ → Bool) → (List ℕ → Type 0) → Type 0
Grows step state goes P = (bytes : List ℕ) (byte : ℕ) → P bytes → goes (length bytes) byte ≡ true → (step (state bytes) byte ≡ Some (state (bytes ++ byte ∷ []))) × P (bytes ++ byte ∷ [])

-- it goes as far as the bytes in front go on
record Gone {S : Type 0} (step : S → ℕ → Option S) (state : List ℕ → S) (P : List ℕ → Type 0) (bytes text : List ℕ) : Type 0 where
  pub goes : Goes step (state bytes) text (state (bytes ++ text))
  pub holds : P (bytes ++ text)

reach_goes : {S : Type 0} (step : S → ℕ → Option S) (state : List ℕ → S) (goes : ℕ → ℕ → Bool) (P : List ℕ → Type 0) → Grows step state goes P
    → (bytes s : List ℕ) (count : ℕ) → count ≡ length bytes → P bytes → Gone step state P bytes (take (reach goes count s) s)
reach_goes step state goes P on bytes [] count e h = record { goes = ap state (sym (append-nil bytes)); holds = subst P (sym (append-nil bytes)) h }
reach_goes step state goes P on bytes (byte ∷ others) count e h =
    by_step (λ one. reach_goes step state goes P on (bytes ++ byte ∷ []) others (count + 1) (one_longer bytes byte count e) one) (goes count byte) refl
  where
    text : List ℕ
    text = take (reach goes (count + 1) others) others

    far : Bool → ℕ
    far b = if b then suc (reach goes (count + 1) others) else 0

    by_step : (P (bytes ++ byte ∷ []) → Gone step state P (bytes ++ byte ∷ []) text) → (b : Bool) → goes count byte ≡ b → Gone step state P bytes (take (far b) (byte ∷ others))
    by_step later false e2 = record { goes = ap state (sym (append-nil bytes)); holds = subst P (sym (append-nil bytes)) h }
    by_step later true e2 =
        let one = on bytes byte h (subst (λ n. goes n byte ≡ true) e e2) in
        let rest = later one.1 in
        let same = append_assoc bytes (byte ∷ []) text in
        record {
          goes = (state (bytes ++ byte ∷ []), one.0, subst (λ l. Goes step (state (bytes ++ byte ∷ [])) text (state l)) same rest.goes);
          holds = subst P same rest.holds;
        }

-- and what comes behind them does not
abbrev Halts : (ℕ → ℕ → Bool) → ℕ → Option ℕ → Type 0
Halts goes count None = Unit {0}
Halts goes count (Some byte) = goes count byte ≡ false

reach_halts : (goes : ℕ → ℕ → Bool) (s : List ℕ) (count : ℕ) → Halts goes (count + reach goes count s) (first (drop (reach goes count s) s))
reach_halts goes [] count = tt
reach_halts goes (byte ∷ others) count = by_step (reach_halts goes others (count + 1)) (goes count byte) refl
  where
    far : Bool → ℕ
    far b = if b then suc (reach goes (count + 1) others) else 0

    left : Option ℕ
    left = first (drop (reach goes (count + 1) others) others)

    further : (n : ℕ) → count + 1 + n ≡ count + suc n
    further n = omega (arith)

    by_step : Halts goes (count + 1 + reach goes (count + 1) others) left → (b : Bool) → goes count byte ≡ b → Halts goes (count + far b) (first (drop (far b) (byte ∷ others)))
    by_step later false e2 = subst (λ n. goes n byte ≡ false) (sym (add-zero count)) e2
    by_step later true e2 = subst (λ n. Halts goes n left) (further (reach goes (count + 1) others)) later

reach_within : (goes : ℕ → ℕ → Bool) (s : List ℕ) (count : ℕ) → reach goes count s ≤ length s
reach_within goes [] count = omega (arith)
reach_within goes (byte ∷ others) count = by_step (reach_within goes others (count + 1)) (goes count byte)
  where
    by_step : reach goes (count + 1) others ≤ length others → (b : Bool) → (if b then suc (reach goes (count + 1) others) else 0) ≤ suc (length others)
    by_step later false = omega (arith)
    by_step later true = omega (arith, later)

taken_length : (goes : ℕ → ℕ → Bool) (s : List ℕ) → length (take (reach goes 0 s) s) ≡ reach goes 0 s
taken_length goes s = length-take-le (reach goes 0 s) s (reach_within goes s 0)

runs : {S : Type 0} {A : Type 0} (step : S → ℕ → Option S) (final : S → Option ℕ → Option A) (state : List ℕ → S) (goes : ℕ → ℕ → Bool) (P : List ℕ → Type 0) → Grows step state goes P → P [] → (s : List ℕ)
    → machine step final (state []) s ≡ machine step final (state (take (reach goes 0 s) s)) (drop (reach goes 0 s) s)
runs step final state goes P on h s =
    let n = reach goes 0 s in
    ap (machine step final (state [])) (sym (take-append-drop n s)) ∙ went step final (state []) (state (take n s)) (take n s) (drop n s) (reach_goes step state goes P on [] s 0 refl h).goes

-- what is taken, with what comes behind it
halts_here : (goes : ℕ → ℕ → Bool) (s : List ℕ) → Halts goes (length (take (reach goes 0 s) s)) (first (drop (reach goes 0 s) s))
halts_here goes s =
    let n = reach goes 0 s in
    let same = taken_length goes s in
    subst (λ k. Halts goes k (first (drop n s))) (omega (arith, same)) (reach_halts goes s 0)

-- ---- names

follows_goes : (name : List ℕ) (byte : ℕ) → follows (length name) byte ≡ goes_on name byte
follows_goes [] byte = refl
follows_goes (head ∷ others) byte = by_number (length others)
  where
    less : (n : ℕ) → nat_lt (suc n) 32 ≡ nat_lt n 31
    less n = grind (arith, nat_tests)

    other : (n : ℕ) → (suc n == 0) ≡ false
    other n = grind (arith, nat_tests)

    by_number : (n : ℕ) → follows (suc n) byte ≡ (is_name_byte byte && nat_lt n 31)
    by_number n = ap (λ (b : Bool). if b then is_letter byte else is_name_byte byte && nat_lt (suc n) 32) (other n) ∙ ap (λ (b : Bool). is_name_byte byte && b) (less n)

name_on : (name : List ℕ) (byte : ℕ) → follows (length name) byte ≡ true → name_step name byte ≡ Some (name ++ byte ∷ [])
name_on name byte e = give (goes_on name byte) (name ++ byte ∷ []) (sym (follows_goes name byte) ∙ e)

name_off : (name : List ℕ) (byte : ℕ) → follows (length name) byte ≡ false → name_step name byte ≡ None
name_off name byte e = give_none (goes_on name byte) (name ++ byte ∷ []) (sym (follows_goes name byte) ∙ e)

so_far_on : (name : List ℕ) (byte : ℕ) → follows (length name) byte ≡ true → IsSoFar name → IsSoFar (name ++ byte ∷ [])
so_far_on name byte e h = (names_of name (byte ∷ []) (name ++ byte ∷ []) (name ++ byte ∷ [], name_on name byte e, refl)).so_far h

names_grow : Grows name_step (λ l. l) follows IsSoFar
names_grow bytes byte h e = (name_on bytes byte e, so_far_on bytes byte e h)

names_halt : (name : List ℕ) (o : Option ℕ) → Halts follows (length name) o → next_of name_step name o ≡ None
names_halt name None h = refl
names_halt name (Some byte) h = name_off name byte h

pub name_reads : (s : List ℕ) → name_at s ≡ ended (name_end (name_front s) (first (name_rest s))) (name_rest s)
name_reads s =
    runs name_step name_end (λ l. l) follows IsSoFar names_grow tt s
    ∙ halted name_step name_end (name_front s) (name_rest s) (names_halt (name_front s) (first (name_rest s)) (halts_here follows s))

pub front_is_name : (s : List ℕ) → is_some_text (name_front s) ≡ true → IsName (name_front s)
front_is_name s some = name_of_some (name_front s) some (reach_goes name_step (λ l. l) follows IsSoFar names_grow [] s 0 refl tt).holds

-- ---- what an atom begins with

-- the byte is no part of a name, and so no such byte goes on with one
no_sign : (sign byte count : ℕ) → is_name_byte sign ≡ false → is_letter sign ≡ false → follows count byte ≡ true → (byte == sign) ≡ false
no_sign sign byte count part letter e = by_same (byte == sign) refl
  where
    wrong : (b : Bool) → (if b then is_letter sign else is_name_byte sign && nat_lt count 32) ≡ true → ⊥
    wrong true h = absurd (no_true (is_letter sign) letter h)
      where
        no_true : (c : Bool) → c ≡ false → c ≡ true → ⊥
        no_true false f g = absurd (cc)
        no_true true f g = absurd (cc)
    wrong false h = absurd (no_true (is_name_byte sign) part (and_parts (is_name_byte sign) (nat_lt count 32) h).0)
      where
        no_true : (c : Bool) → c ≡ false → c ≡ true → ⊥
        no_true false f g = absurd (cc)
        no_true true f g = absurd (cc)

    by_same : (b : Bool) → (byte == sign) ≡ b → b ≡ false
    by_same false e2 = refl
    by_same true e2 = absurd (wrong (count == 0) (subst (λ c. follows count c ≡ true) (eqb-true byte sign e2) e))

issuers_grow : Grows head_step (λ l. record { issuer = l; attr = None }) follows (λ l. Unit {0})
issuers_grow issuer byte h e = (
  ap (λ (b : Bool). if b && is_some_text issuer then Some (record { issuer = issuer; attr = Some [] }) else issuer_step (name_step issuer byte)) (no_sign 46 byte (length issuer) refl refl e)
      ∙ ap issuer_step (name_on issuer byte e),
  tt,
)

attrs_grow : (issuer : List ℕ) → Grows head_step (λ l. record { issuer = issuer; attr = Some l }) follows (λ l. Unit {0})
attrs_grow issuer attr byte h e = (ap (attr_step issuer) (name_on attr byte e), tt)

attr_reads : (issuer s : List ℕ) → machine head_step head_end (record { issuer = issuer; attr = Some [] }) s ≡ attr_at issuer s
attr_reads issuer s =
    runs head_step head_end (λ l. record { issuer = issuer; attr = Some l }) follows (λ l. Unit {0}) (attrs_grow issuer) tt s
    ∙ halted head_step head_end (record { issuer = issuer; attr = Some (name_front s) }) (name_rest s) (off (name_front s) (first (name_rest s)) (halts_here follows s))
  where
    off : (attr : List ℕ) (o : Option ℕ) → Halts follows (length attr) o → next_of head_step (record { issuer = issuer; attr = Some attr }) o ≡ None
    off attr None h = refl
    off attr (Some byte) h = ap (attr_step issuer) (name_off attr byte h)

head_goes : (issuer s : List ℕ) → Halts follows (length issuer) (first s) → machine head_step head_end (record { issuer = issuer; attr = None }) s ≡ head_after issuer s
head_goes issuer [] h = refl
head_goes issuer (byte ∷ others) h = by_dot ((byte == 46) && is_some_text issuer) refl
  where
    next : Bool → Option Head
    next b = if b then Some (record { issuer = issuer; attr = Some [] }) else issuer_step (name_step issuer byte)

    here : Reading (Option Head)
    here = ended (head_of issuer None (Some byte)) (byte ∷ others)

    chosen : Bool → Reading (Option Head)
    chosen b = if b then attr_at issuer others else here

    ran : Option Head → Reading (Option Head)
    ran o = taken o here (λ state. machine head_step head_end state others)

    by_dot : (b : Bool) → ((byte == 46) && is_some_text issuer) ≡ b → ran (next ((byte == 46) && is_some_text issuer)) ≡ chosen ((byte == 46) && is_some_text issuer)
    by_dot true e = ap (λ b. ran (next b)) e ∙ (attr_reads issuer others ∙ ap chosen (sym e))
    by_dot false e = ap (λ b. ran (next b)) e ∙ (ap (λ o. ran (issuer_step o)) (name_off issuer byte h) ∙ ap chosen (sym e))

pub head_reads : (s : List ℕ) → head_at s ≡ head_after (name_front s) (name_rest s)
head_reads s =
    runs head_step head_end (λ l. record { issuer = l; attr = None }) follows (λ l. Unit {0}) issuers_grow tt s
    ∙ head_goes (name_front s) (name_rest s) (halts_here follows s)

-- ---- patterns

abbrev unstarred_of : List ℕ → Starred
unstarred_of name = record { name = name; starred = false }

patterns_grow : Grows starred_step unstarred_of follows (λ l. Unit {0})
patterns_grow name byte h e = (
  ap (λ (b : Bool). if b && is_some_text name then Some (record { name = name; starred = true }) else unstarred (name_step name byte)) (no_sign 42 byte (length name) refl refl e)
      ∙ ap unstarred (name_on name byte e),
  tt,
)

starred_ends : (name s : List ℕ) → machine starred_step starred_end (record { name = name; starred = true }) s ≡ read (pattern.Prefix name) (skip s)
starred_ends name [] = refl
starred_ends name (byte ∷ others) = refl

pattern_goes : (name s : List ℕ) → Halts follows (length name) (first s) → machine starred_step starred_end (unstarred_of name) s ≡ starred_after name s
pattern_goes name [] h = refl
pattern_goes name (byte ∷ others) h = by_star ((byte == 42) && is_some_text name) refl
  where
    next : Bool → Option Starred
    next b = if b then Some (record { name = name; starred = true }) else unstarred (name_step name byte)

    here : Reading Pattern
    here = ended (if is_some_text name && not (is_name_byte byte) then Some (pattern.Exact name) else None) (byte ∷ others)

    chosen : Bool → Reading Pattern
    chosen b = if b then read (pattern.Prefix name) (skip others) else here

    ran : Option Starred → Reading Pattern
    ran o = taken o here (λ state. machine starred_step starred_end state others)

    by_star : (b : Bool) → ((byte == 42) && is_some_text name) ≡ b → ran (next ((byte == 42) && is_some_text name)) ≡ chosen ((byte == 42) && is_some_text name)
    by_star true e = ap (λ b. ran (next b)) e ∙ (starred_ends name others ∙ ap chosen (sym e))
    by_star false e = ap (λ b. ran (next b)) e ∙ (ap (λ o. ran (unstarred o)) (name_off name byte h) ∙ ap chosen (sym e))

pub starred_reads : (s : List ℕ) → starred_at s ≡ starred_after (name_front s) (name_rest s)
starred_reads s =
    runs starred_step starred_end unstarred_of follows (λ l. Unit {0}) patterns_grow tt s
    ∙ pattern_goes (name_front s) (name_rest s) (halts_here follows s)

-- ---- integers

-- the digits of a number that does not begin with 0, or none
abbrev LeadsOn : List ℕ → Type 0
LeadsOn [] = Unit {0}
LeadsOn (head ∷ others) = (head == 48) ≡ false

abbrev int_state : Bool → List ℕ → Digits
int_state negative digits = record { negative = negative; digits = digits }

suc_test : (n : ℕ) → (suc n == 0) ≡ false
suc_test n = grind (arith, nat_tests)

suc_less : (n : ℕ) → nat_lt (suc n) 15 ≡ nat_lt n 14
suc_less n = grind (arith, nat_tests)

next_after : (head : ℕ) (others : List ℕ) (byte : ℕ) → is_next_digit (length (head ∷ others)) byte ≡ (is_digit byte && nat_lt (length others) 14)
next_after head others byte =
    ap (λ (b : Bool). is_digit byte && (if b then not (byte == 48) else nat_lt (suc (length others)) 15)) (suc_test (length others))
    ∙ ap (λ (b : Bool). is_digit byte && b) (suc_less (length others))

takes_on : (negative : Bool) (digits : List ℕ) (byte : ℕ) → LeadsOn digits → is_next_digit (length digits) byte ≡ true → (takes_digit negative digits byte ≡ true) × LeadsOn (digits ++ byte ∷ [])
takes_on negative [] byte h e =
    let parts = and_parts (is_digit byte) (not (byte == 48)) e in
    let other = not-true (byte == 48) parts.1 in
    (and_from (is_digit byte) (not (negative && (byte == 48))) parts.0 (not_from_false (negative && (byte == 48)) (and_right negative (byte == 48) other)), other)
takes_on negative (head ∷ others) byte h e =
    let parts = and_parts (is_digit byte) (nat_lt (length others) 14) (sym (next_after head others byte) ∙ e) in
    (and_from (is_digit byte && not (head == 48)) (nat_lt (length others) 14) (and_from (is_digit byte) (not (head == 48)) parts.0 (not_from_false (head == 48) h)) parts.1, h)

digits_grow : (negative : Bool) → Grows int_step (int_state negative) is_next_digit LeadsOn
digits_grow negative digits byte h e =
    let on = takes_on negative digits byte h e in (
      ap (λ (b : Bool). if b then Some (int_state negative (digits ++ byte ∷ [])) else (if (byte == 45) && not negative && not (is_some_text digits) then Some (int_state true []) else None)) on.0,
      on.1,
    )

no_step : (negative : Bool) (digits : List ℕ) (byte : ℕ) → takes_digit negative digits byte ≡ false → ((byte == 45) && not negative && not (is_some_text digits)) ≡ false
    → int_step (int_state negative digits) byte ≡ None
no_step negative digits byte e f =
    ap (λ (b : Bool). if b then Some (int_state negative (digits ++ byte ∷ [])) else (if (byte == 45) && not negative && not (is_some_text digits) then Some (int_state true []) else None)) e
    ∙ ap (λ (b : Bool). if b then Some (int_state true []) else None) f

-- a sign stands in front alone
abbrev pub IsUnsigned : Bool → List ℕ → Type 0
IsUnsigned negative s = (comes 45 (first s) && not negative) ≡ false

takes_off : (negative : Bool) (digits : List ℕ) (byte : ℕ) → LeadsOn digits → is_next_digit (length digits) byte ≡ false → (is_some_text digits ≡ false → ((byte == 45) && not negative) ≡ false) → (is_some_text digits ≡ false → (byte == 48) ≡ false)
    → int_step (int_state negative digits) byte ≡ None
takes_off negative [] byte h e sign nonzero = no_step negative [] byte (and_left (is_digit byte) (not (negative && (byte == 48))) (no_digit (is_digit byte) refl)) (and_left ((byte == 45) && not negative) true (sign refl))
  where
    no_digit : (b : Bool) → is_digit byte ≡ b → b ≡ false
    no_digit false f = refl
    no_digit true f = sym (and_from (is_digit byte) (not (byte == 48)) f (not_from_false (byte == 48) (nonzero refl))) ∙ e
takes_off negative (head ∷ others) byte h e sign nonzero =
    no_step negative (head ∷ others) byte
    (by_digit (is_digit byte) refl)
    (and_right ((byte == 45) && not negative) false refl)
  where
    none : (is_digit byte && nat_lt (length others) 14) ≡ false
    none = sym (next_after head others byte) ∙ e

    by_digit : (b : Bool) → is_digit byte ≡ b → (is_digit byte && not (head == 48) && nat_lt (length others) 14) ≡ false
    by_digit false f = and_left (is_digit byte && not (head == 48)) (nat_lt (length others) 14) (and_left (is_digit byte) (not (head == 48)) f)
    by_digit true f = and_right (is_digit byte && not (head == 48)) (nat_lt (length others) 14) (sym (ap (λ (b : Bool). b && nat_lt (length others) 14) f) ∙ none)

leads_on : (s : List ℕ) → LeadsOn (take (reach is_next_digit 0 s) s)
leads_on s = (reach_goes int_step (int_state false) is_next_digit LeadsOn (digits_grow false) [] s 0 refl tt).holds

after_zero : (o : Option ℕ) → next_of int_step (int_state false (48 ∷ [])) o ≡ None
after_zero None = refl
after_zero (Some byte) =
    no_step false (48 ∷ []) byte (and_left (is_digit byte && false) true (and_right (is_digit byte) false refl)) (and_right ((byte == 45) && true) false refl)

pub digits_read : (negative : Bool) (s : List ℕ) → IsUnsigned negative s → machine int_step int_end (int_state negative []) s ≡ digits_at negative s
digits_read negative [] h = refl
digits_read negative (byte ∷ others) h = by_zero (byte == 48) refl
  where
    -- what is read up to n
    up_to : ℕ → Reading ℤ
    up_to n = ended (int_end (int_state negative (take n (byte ∷ others))) (first (drop n (byte ∷ others)))) (drop n (byte ∷ others))

    far : Bool → ℕ
    far b = if b then (if negative then 0 else 1) else reach is_next_digit 0 (byte ∷ others)

    at_zero : (sign : Bool) → machine int_step int_end (int_state sign []) (48 ∷ others) ≡ digits_at sign (48 ∷ others)
    at_zero true = refl
    at_zero false = halted int_step int_end (int_state false (48 ∷ [])) others (after_zero (first others))

    by_zero : (b : Bool) → (byte == 48) ≡ b → machine int_step int_end (int_state negative []) (byte ∷ others) ≡ digits_at negative (byte ∷ others)
    by_zero true e = subst (λ c. machine int_step int_end (int_state negative []) (c ∷ others) ≡ digits_at negative (c ∷ others)) (sym (eqb-true byte 48 e)) (at_zero negative)
    by_zero false e =
        let n = reach is_next_digit 0 (byte ∷ others) in
        runs int_step int_end (int_state negative) is_next_digit LeadsOn (digits_grow negative) tt (byte ∷ others)
        ∙ (halted int_step int_end (int_state negative (take n (byte ∷ others))) (drop n (byte ∷ others))
        (off (take n (byte ∷ others)) (first (drop n (byte ∷ others))) (leads_on (byte ∷ others)) (halts_here is_next_digit (byte ∷ others)) (at_front (is_next_digit 0 byte)))
        ∙ ap (λ b. up_to (far b)) (sym e))
      where
        at_front : (b : Bool) → is_some_text (take (if b then suc (reach is_next_digit 1 others) else 0) (byte ∷ others)) ≡ false
            → first (drop (if b then suc (reach is_next_digit 1 others) else 0) (byte ∷ others)) ≡ Some byte
        at_front false none = refl
        at_front true none = absurd (cc)

        off : (digits : List ℕ) (o : Option ℕ) → LeadsOn digits → Halts is_next_digit (length digits) o → (is_some_text digits ≡ false → o ≡ Some byte) → next_of int_step (int_state negative digits) o ≡ None
        off digits None leads halts front = refl
        off digits (Some c) leads halts front =
            takes_off negative digits c leads halts
            (λ none. subst (λ d. ((d == 45) && not negative) ≡ false) (sym (same_Some c byte (front none))) h)
            (λ none. subst (λ d. (d == 48) ≡ false) (sym (same_Some c byte (front none))) e)

pub int_plain : (s : List ℕ) → comes 45 (first s) ≡ false → int_at s ≡ digits_at false s
int_plain s e = digits_read false s (and_left (comes 45 (first s)) true e)

pub int_signed : (s : List ℕ) → comes 45 (first s) ≡ true → int_at s ≡ digits_at true (drop 1 s)
int_signed [] e = absurd (cc)
int_signed (byte ∷ others) e =
    ap (λ c. machine int_step int_end (int_state false []) (c ∷ others)) (eqb-true byte 45 e) ∙ digits_read true others (and_right (comes 45 (first others)) false refl)

-- ---- what is taken of digits

reach_all : (goes : ℕ → ℕ → Bool) (p : ℕ → Bool) → ((count byte : ℕ) → goes count byte ≡ true → p byte ≡ true) → (s : List ℕ) (count : ℕ) → list_all p (take (reach goes count s) s) ≡ true
reach_all goes p on [] count = refl
reach_all goes p on (byte ∷ others) count = by_step (reach_all goes p on others (count + 1)) (goes count byte) refl
  where
    by_step : list_all p (take (reach goes (count + 1) others) others) ≡ true → (b : Bool) → goes count byte ≡ b → list_all p (take (if b then suc (reach goes (count + 1) others) else 0) (byte ∷ others)) ≡ true
    by_step later false e = refl
    by_step later true e = and_from (p byte) (list_all p (take (reach goes (count + 1) others) others)) (on count byte e) later

reach_most : (goes : ℕ → ℕ → Bool) (most : ℕ) → ((count byte : ℕ) → goes count byte ≡ true → count < most) → (s : List ℕ) (count : ℕ) → count ≤ most → count + reach goes count s ≤ most
reach_most goes most on [] count h = omega (arith, h)
reach_most goes most on (byte ∷ others) count h = by_step (λ less. reach_most goes most on others (count + 1) less) (goes count byte) refl
  where
    by_step : (count + 1 ≤ most → count + 1 + reach goes (count + 1) others ≤ most) → (b : Bool) → goes count byte ≡ b → count + (if b then suc (reach goes (count + 1) others) else 0) ≤ most
    by_step later false e = omega (arith, h)
    by_step later true e = let less = on count byte e in let rest = later (omega (arith, less)) in omega (arith, rest)

next_is_digit : (count byte : ℕ) → is_next_digit count byte ≡ true → is_digit byte ≡ true
next_is_digit count byte e = (and_parts (is_digit byte) (if count == 0 then not (byte == 48) else nat_lt count 15) e).0

next_is_short : (count byte : ℕ) → is_next_digit count byte ≡ true → count < 15
next_is_short count byte e = by_zero (count == 0) refl (and_parts (is_digit byte) (if count == 0 then not (byte == 48) else nat_lt count 15) e).1
  where
    by_zero : (b : Bool) → (count == 0) ≡ b → (if b then not (byte == 48) else nat_lt count 15) ≡ true → count < 15
    by_zero true same h = let none = eqb-true count 0 same in omega (arith, none)
    by_zero false same h = ltb-true count 15 h

pub front_digits : (negative : Bool) (s : List ℕ) → list_all is_digit (digit_front negative s) ≡ true
front_digits negative [] = refl
front_digits negative (byte ∷ others) = by_zero (byte == 48) refl
  where
    at_zero : (sign : Bool) → list_all is_digit (take (if sign then 0 else 1) (48 ∷ others)) ≡ true
    at_zero true = refl
    at_zero false = refl

    by_zero : (b : Bool) → (byte == 48) ≡ b → list_all is_digit (take (if b then (if negative then 0 else 1) else reach is_next_digit 0 (byte ∷ others)) (byte ∷ others)) ≡ true
    by_zero true e = subst (λ c. list_all is_digit (take (if negative then 0 else 1) (c ∷ others)) ≡ true) (sym (eqb-true byte 48 e)) (at_zero negative)
    by_zero false e = reach_all is_next_digit is_digit next_is_digit (byte ∷ others) 0

pub front_short : (negative : Bool) (s : List ℕ) → length (digit_front negative s) ≤ 15
front_short negative [] = omega (arith)
front_short negative (byte ∷ others) = by_zero (byte == 48) refl
  where
    at_zero : (sign : Bool) → length (take (if sign then 0 else 1) (byte ∷ others)) ≤ 15
    at_zero true = omega (arith)
    at_zero false = omega (arith)

    by_zero : (b : Bool) → (byte == 48) ≡ b → length (take (if b then (if negative then 0 else 1) else reach is_next_digit 0 (byte ∷ others)) (byte ∷ others)) ≤ 15
    by_zero true e = at_zero negative
    by_zero false e =
        let most = reach_most is_next_digit 15 next_is_short (byte ∷ others) 0 (omega (arith)) in
        let same = taken_length is_next_digit (byte ∷ others) in
        omega (arith, most, same)

-- ---- atoms

-- an atom behind what it begins with
abbrev pub atom_from : Option Claim → Reader Cond
atom_from None s = read cond.True s
atom_from (Some claim) s = mapped (compared_to claim) (compared_at s)

pub atom_reads : (s : List ℕ) → atom_at s ≡ seq (mapped claim_of (head_at s)) atom_from
atom_reads s = by_outcome (head_at s).outcome (head_at s).left
  where
    by_head : (issuer : List ℕ) (attr : Option (List ℕ)) (m : List ℕ)
        → pick compared_at (atom_of (Some (record { issuer = issuer; attr = attr })) (first m)) m ≡ atom_from (claim_of (Some (record { issuer = issuer; attr = attr }))) m
    by_head issuer None m = refl
    by_head issuer (Some attr) m = refl

    by_outcome : (o : Result (Option Head) Stop) (m : List ℕ) → go_on (λ a l. pick compared_at (atom_of a (first l)) l) o m ≡ go_on atom_from (carried claim_of o) m
    by_outcome (Err why) m = refl
    by_outcome (Ok None) m = refl
    by_outcome (Ok (Some head)) m = by_head head.issuer head.attr m

pub same_bytes : (xs ys : List ℕ) → same_text xs ys ≡ pointwise ◌==◌ xs ys
same_bytes [] [] = refl
same_bytes [] (y ∷ ys) = refl
same_bytes (x ∷ xs) [] = refl
same_bytes (x ∷ xs) (y ∷ ys) = ap (λ b. (x == y) && b) (same_bytes xs ys)
