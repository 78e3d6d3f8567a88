-- A text with one space between two words says the step that is spelled by them.
use Rattle.std.proofs.Common.{◌≡◌, ◌∙◌, inl, inr, ℕ, zero, suc, ◌<◌, ◌≤◌, ◌^◌, nat_le, Bool, true, List, [], ◌∷◌, ◌++◌, length, map, Some, None, Result, Ok, Err, refl, sym, ap, subst, arith, codes, decimal, pos, neg_ℤ, if◌then◌else◌}
use Rattle.std.proofs.lemmas.Bool.{and_from, lt-ltb}
use Rattle.std.proofs.lemmas.Bool.Decides.{nat_tests}
use Rattle.std.proofs.lemmas.List.{append-nil, append_assoc, length-map}
use Rattle.serde_json.specs.Data.{Items, string}
use Rattle.tp_types.specs.Spelling.{is_name, spelled_from}
use Rattle.tp_types.specs.Each.{Each}
use Rattle.tp_model.proofs.RuleLemmas.{count_most}
use Rattle.tp_model.specs.Limits.{calls_limit, is_from_to, steps_limit, tick_limit}
use Rattle.tp_model.specs.Words.{Actor, AdminId, CredId, Cut, ServerId, Step, TxnId}
use Rattle.tp_model.specs.Words.step
use Rattle.tp_policy_text.specs.Grammar.{IsInt}
use Rattle.tp_policy_text.proofs.PrintedNumbers.{prints_int}
use Rattle.tp_scenario.specs.declared.command.CountVerb.{CountVerb}
use Rattle.tp_scenario.specs.declared.command.CountVerb.TheVariants as counting
use Rattle.tp_scenario.specs.declared.command.NameVerb.{NameVerb}
use Rattle.tp_scenario.specs.declared.command.NameVerb.TheVariants as verb
use Rattle.tp_scenario.specs.declared.fault.Fault.{Fault}
use Rattle.tp_scenario.specs.declared.names.Declared.{Declared}
use Rattle.tp_scenario.specs.declared.path.Key.TheVariants.{Steps}
use Rattle.tp_scenario.specs.declared.path.Path.TheVariants.{Member, Top, Whole}
use Rattle.tp_scenario.specs.Chain.{◌>>=◌}
use Rattle.tp_scenario.specs.Faults.{range}
use Rattle.tp_scenario.specs.Names.{Names, place_of}
use Rattle.tp_scenario.specs.Spelled.{AreWords, IsActor, IsStep, IsWord, SaysStep, SpellsNumber, counting_word, naming_word}
use Rattle.tp_scenario.specs.Steps.{by_number, cut, of_name, step_in, steps_at}
use Rattle.tp_scenario.specs.Values.{array_at, array_of, each, item_count, items_at, items_of, items_or, items_or_range}
use Rattle.tp_scenario.proofs.Inverses.{ok_same}
use Rattle.tp_scenario.proofs.LastWords.{solid_name, solid_number}
use Rattle.tp_scenario.proofs.SpelledQueries.{name_filled, number_filled}
use Rattle.tp_scenario.proofs.SpelledValues.{step_value}
use Rattle.tp_scenario.proofs.SpelledWords.{word_of_filled}

-- ---- words

-- a word, one space, and more words
goes_on : (word text : List ℕ) (words : List (List ℕ)) → IsWord word → AreWords words text → AreWords (word ∷ words) (word ++ 32 ∷ text)
goes_on word text words is rest = (is, inr (record { spaces = 1; more = text; some = omega arith; text_is = refl; rest = rest }))

last_one : (word : List ℕ) → IsWord word → AreWords (word ∷ []) word
last_one word is = (is, inl (refl, refl))

two_words : (one other : List ℕ) → IsWord one → IsWord other → AreWords (one ∷ other ∷ []) (one ++ 32 ∷ other)
two_words one other first second = goes_on one other (other ∷ []) first (last_one other second)

name_word : (name : List ℕ) → is_name name ≡ true → IsWord name
name_word name h = word_of_filled name (name_filled name h) (solid_name name h)

number_word : (number : ℕ) (word : List ℕ) → SpellsNumber number word → IsWord word
number_word number word h = word_of_filled word (number_filled number word h) (solid_number word h.digits)

naming_is_word : (kind : NameVerb) → IsWord (naming_word kind)
naming_is_word verb.Submit = word_of_filled (codes "submit") refl refl
naming_is_word verb.Publish = word_of_filled (codes "publish") refl refl
naming_is_word verb.Revoke = word_of_filled (codes "revoke") refl refl
naming_is_word verb.Crash = word_of_filled (codes "crash") refl refl
naming_is_word verb.Boot = word_of_filled (codes "boot") refl refl
naming_is_word verb.Timer = word_of_filled (codes "timer") refl refl

counting_is_word : (kind : CountVerb) → IsWord (counting_word kind)
counting_is_word counting.Tick = word_of_filled (codes "tick") refl refl
counting_is_word counting.Deliver = word_of_filled (codes "deliver") refl refl
counting_is_word counting.Lose = word_of_filled (codes "lose") refl refl

-- ---- numbers

same_number : (one other : ℕ) → pos one ≡ pos other → one ≡ other
same_number one other e = cc

not_below : (one other : ℕ) → 1 ≤ other → pos one ≡ neg_ℤ (pos other) → ⊥
not_below one zero some e = omega (arith, some)
not_below one (suc other) some e = cc

-- a number of at most 15 digits is spelled by its decimal form
spelled_number : (n : ℕ) → n < 10 ^ 15 → SpellsNumber n (decimal n)
spelled_number n small = natural (prints_int (pos n) (lt-ltb n (10 ^ 15) small))
  where
    natural : IsInt (decimal n) (pos n) → SpellsNumber n (decimal n)
    natural (inl h) = record { digits = h.digits; number_is = same_number n (spelled_from 0 (decimal n)) h.number_is }
    natural (inr h) = absurd (not_below n (spelled_from 0 h.digits) h.not_zero h.number_is)

-- ---- steps as they are spelled

says_name : (kind : NameVerb) (name : List ℕ) → is_name name ≡ true → SaysStep (of_name kind name) (naming_word kind ++ 32 ∷ name)
says_name kind name h = (h, two_words (naming_word kind) name (naming_is_word kind) (name_word name h))

says_number : (kind : CountVerb) (n : ℕ) → n < 10 ^ 15 → SaysStep (by_number kind n) (counting_word kind ++ 32 ∷ decimal n)
says_number kind n small =
    let number = spelled_number n small in
    (decimal n, number, two_words (counting_word kind) (decimal n) (counting_is_word kind) (number_word n (decimal n) number))

says_cut : (name : List ℕ) (mail calls fill : ℕ) → is_name name ≡ true → mail < 10 ^ 15 → calls < 10 ^ 15 → fill < 10 ^ 15
    → SaysStep (cut name mail calls fill) (codes "crash" ++ 32 ∷ (name ++ 32 ∷ (codes "in" ++ 32 ∷ (decimal mail ++ 32 ∷ (codes "at" ++ 32 ∷ (decimal calls ++ 32 ∷ (codes "fill" ++ 32 ∷ decimal fill)))))))
says_cut name mail calls fill h mail_small calls_small fill_small =
    let mail_is = spelled_number mail mail_small in
    let calls_is = spelled_number calls calls_small in
    let fill_is = spelled_number fill fill_small in (
      h,
      record {
        mail_word = decimal mail;
        calls_word = decimal calls;
        fill_word = decimal fill;
        mail_is = mail_is;
        calls_is = calls_is;
        fill_is = fill_is;
        words = goes_on (codes "crash") _ _ (word_of_filled (codes "crash") refl refl)
            (goes_on name _ _ (name_word name h)
            (goes_on (codes "in") _ _ (word_of_filled (codes "in") refl refl)
            (goes_on (decimal mail) _ _ (number_word mail (decimal mail) mail_is)
            (goes_on (codes "at") _ _ (word_of_filled (codes "at") refl refl)
            (goes_on (decimal calls) _ _ (number_word calls (decimal calls) calls_is)
            (two_words (codes "fill") (decimal fill) (word_of_filled (codes "fill") refl refl) (number_word fill (decimal fill) fill_is)))))));
      },
    )

-- ---- steps

-- the name is spelled as one, and found at this place
pub record IsDeclared (names : Names) (place : ℕ) (name : List ℕ) : Type 0 where
  pub spelled : is_name name ≡ true
  pub found : place_of name names ≡ Some place

-- the name is spelled as one, and is that of the actor
pub record IsNamed (names : Declared) (who : Actor) (name : List ℕ) : Type 0 where
  pub spelled : is_name name ≡ true
  pub found : IsActor names who name

pub submit_said : (names : Declared) (txn : TxnId) (name : List ℕ) → IsDeclared names.txns txn.0 name → IsStep names (step.Submit txn) (codes "submit" ++ 32 ∷ name)
submit_said names txn name h = (name, h.found, says_name verb.Submit name h.spelled)

pub publish_said : (names : Declared) (admin : AdminId) (name : List ℕ) → IsDeclared names.admins admin.0 name → IsStep names (step.Publish admin) (codes "publish" ++ 32 ∷ name)
publish_said names admin name h = (name, h.found, says_name verb.Publish name h.spelled)

pub push_said : (names : Declared) (admin : AdminId) (server : ServerId) (from to : List ℕ) → IsDeclared names.admins admin.0 from → IsDeclared names.servers server.0 to
    → IsStep names (step.Push admin server) (codes "push" ++ 32 ∷ (from ++ 32 ∷ to))
push_said names admin server from to h k = (
  from,
  to,
  h.found,
  k.found,
  (h.spelled, k.spelled, goes_on (codes "push") _ _ (word_of_filled (codes "push") refl refl) (two_words from to (name_word from h.spelled) (name_word to k.spelled))),
)

pub revoke_said : (names : Declared) (cred : CredId) (name : List ℕ) → IsDeclared names.creds cred.0 name → IsStep names (step.Revoke cred) (codes "revoke" ++ 32 ∷ name)
revoke_said names cred name h = (name, h.found, says_name verb.Revoke name h.spelled)

pub tick_said : (names : Declared) (by : ℕ) → is_from_to 1 tick_limit by ≡ true → IsStep names (step.Tick by) (codes "tick" ++ 32 ∷ decimal by)
tick_said names by within = let most = count_most 1 tick_limit by within in (within, says_number counting.Tick by (omega (arith, most)))

pub deliver_said : (names : Declared) (mail : ℕ) → mail < 10 ^ 15 → IsStep names (step.Deliver mail) (codes "deliver" ++ 32 ∷ decimal mail)
deliver_said names mail small = says_number counting.Deliver mail small

pub lose_said : (names : Declared) (mail : ℕ) → mail < 10 ^ 15 → IsStep names (step.Lose mail) (codes "lose" ++ 32 ∷ decimal mail)
lose_said names mail small = says_number counting.Lose mail small

pub crash_said : (names : Declared) (who : Actor) (name : List ℕ) → IsNamed names who name → IsStep names (step.Crash who None) (codes "crash" ++ 32 ∷ name)
crash_said names who name h = (name, h.found, says_name verb.Crash name h.spelled)

at_most : (most n : ℕ) → nat_le n most ≡ true → n ≤ most
at_most most n h = grind (arith, nat_tests)

pub cut_said : (names : Declared) (who : Actor) (name : List ℕ) (how : Cut) → IsNamed names who name → how.mail < 10 ^ 15 → nat_le how.calls calls_limit ≡ true → nat_le how.fill 255 ≡ true
    → IsStep names (step.Crash who (Some how)) (codes "crash" ++ 32 ∷ (name ++ 32 ∷ (codes "in" ++ 32 ∷ (decimal how.mail ++ 32 ∷ (codes "at" ++ 32 ∷ (decimal how.calls ++ 32 ∷ (codes "fill" ++ 32 ∷ decimal how.fill)))))))
cut_said names who name how h small calls_fit fill_fits =
    let calls = at_most calls_limit how.calls calls_fit in
    let fill = at_most 255 how.fill fill_fits in (
      name,
      h.found,
      and_from (nat_le how.calls calls_limit) (nat_le how.fill 255) calls_fit fill_fits,
      says_cut name how.mail how.calls how.fill h.spelled small (omega (arith, calls)) (omega (arith, fill)),
    )

pub boot_said : (names : Declared) (who : Actor) (name : List ℕ) → IsNamed names who name → IsStep names (step.Boot who) (codes "boot" ++ 32 ∷ name)
boot_said names who name h = (name, h.found, says_name verb.Boot name h.spelled)

pub timer_said : (names : Declared) (txn : TxnId) (name : List ℕ) → IsDeclared names.txns txn.0 name → IsStep names (step.Timer txn) (codes "timer" ++ 32 ∷ name)
timer_said names txn name h = (name, h.found, says_name verb.Timer name h.spelled)

-- a text says one step
pub one_said : (names : Declared) (text : List ℕ) (one other : Step) → IsStep names one text → IsStep names other text → other ≡ one
one_said names text one other a b =
    let first = (step_value Whole names (string text) one).1 (text, refl, a) in
    let second = (step_value Whole names (string text) other).1 (text, refl, b) in
    ok_same other one (sym second ∙ first)

-- ---- lists of steps

counted : (texts : List (List ℕ)) → item_count (items_of texts) ≡ length texts
counted [] = refl
counted (text ∷ texts) = let rest = counted texts in omega (arith, rest)

-- steps that are said by their texts are read, each after those that were made before it
each_read : (names : Declared) (text : Step → List ℕ) (steps made : List Step) → Each (λ (taken : Step). IsStep names taken (text taken)) steps
    → each (step_in names) made (items_of (map text steps)) ≡ Ok (made ++ steps)
each_read names text [] made said = ap (λ (steps : List Step). Ok steps) (sym (append-nil made))
each_read names text (taken ∷ steps) made said =
    let read = (step_value (Member Steps (length made)) names (string (text taken)) taken).1 (text taken, refl, said.0) in
    ap (λ (walked : Result Step Fault). walked >>= λ next. each (step_in names) (made ++ next ∷ []) (items_of (map text steps))) read
    ∙ (each_read names text steps (made ++ taken ∷ []) said.1 ∙ ap (λ (all : List Step). Ok all) (append_assoc made (taken ∷ []) steps))

few_items : (n : ℕ) → n ≤ steps_limit → is_from_to 0 steps_limit n ≡ true
few_items n few = grind (arith, nat_tests)

within_limit : (texts : List (List ℕ)) → length texts ≤ steps_limit → items_or (Top Steps) steps_limit (Some (array_of texts)) ≡ Ok (items_of texts)
unfolding items_or items_at array_at items_or_range
within_limit texts few =
    ap (λ (b : Bool). if b then Ok (items_of texts) else Err (range (Top Steps)))
    (few_items (item_count (items_of texts)) (subst (λ (n : ℕ). n ≤ steps_limit) (sym (counted texts)) few))

pub list_said : (names : Declared) (text : Step → List ℕ) (steps : List Step) → length steps ≤ steps_limit → Each (λ (taken : Step). IsStep names taken (text taken)) steps
    → steps_at names (Some (array_of (map text steps))) ≡ Ok steps
unfolding steps_at
list_said names text steps few said =
    ap (λ (walked : Result Items Fault). walked >>= each (step_in names) [])
    (within_limit (map text steps) (subst (λ (n : ℕ). n ≤ steps_limit) (sym (length-map steps text)) few))
    ∙ each_read names text steps [] said
