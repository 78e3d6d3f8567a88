-- Every text has an answer, and one alone.
use Rattle.std.proofs.Common.{◌≡◌, ℕ, ◌+◌, ◌-◌, ◌<◌, ◌≤◌, nat_le, List, length, Bool, true, false, Result, Ok, Err, refl, sym, ◌∙◌, arith}
use Rattle.std.proofs.lemmas.Bool.Decides.{nat_tests}
use Rattle.tp_types.specs.declared.policy.Policy.{Policy}
use Rattle.tp_policy_text.specs.declared.halt.Stop.{Stop}
use Rattle.tp_policy_text.specs.declared.parsing.ParseError.{ParseError}
use Rattle.tp_policy_text.specs.declared.parsing.ParseError.TheVariants as refusal
use Rattle.tp_policy_text.specs.Parses.{Answers, refusal_of}
use Rattle.tp_policy_text.specs.mirrors.Readers.{policy_at}
use Rattle.tp_policy_text.proofs.Answering.{answers_read, answers_stop, only_read, only_stop}

-- an answer, which is the only one
pub record Decided (text : List ℕ) : Type 0 where
  pub answer : Result Policy ParseError
  pub is : Answers text answer
  pub only : (other : Result Policy ParseError) → Answers text other → answer ≡ other

by_outcome : (text t : List ℕ) (outcome : Result Policy Stop) → length text ≤ 4096 → policy_at (length text + 1) 16 text ≡ record { outcome = outcome; left = t } → Decided text
by_outcome text t (Ok policy) fits h =
    let short : length text < length text + 1 = omega arith in
    record { answer = Ok policy; is = answers_read (length text + 1) text t policy fits h; only = only_read (length text + 1) text t policy fits short h }
by_outcome text t (Err why) fits h =
    let short : length text < length text + 1 = omega arith in
    record {
      answer = Err (refusal_of why (length text - length t));
      is = answers_stop (length text + 1) text t why fits short h;
      only = only_stop (length text + 1) text t why fits short h;
    }

only_too_long : (text : List ℕ) → 4096 < length text → (other : Result Policy ParseError) → Answers text other → Err refusal.TooLong ≡ other
only_too_long text long (Ok policy) k = absurd (omega (arith, long, k.0))
only_too_long text long (Err refusal.TooLong) k = refl
only_too_long text long (Err (refusal.TooDeep place)) k = absurd (omega (arith, long, k.0))
only_too_long text long (Err (refusal.Syntax place)) k = absurd (omega (arith, long, k.0))
only_too_long text long (Err refusal.NoMemory) k = absurd k

by_length : (text : List ℕ) (fits : Bool) → nat_le (length text) 4096 ≡ fits → Decided text
by_length text true e =
    let reading = policy_at (length text + 1) 16 text in
    by_outcome text reading.left reading.outcome (grind (arith, nat_tests)) refl
by_length text false e =
    let long : 4096 < length text = grind (arith, nat_tests) in
    record { answer = Err refusal.TooLong; is = long; only = only_too_long text long }

pub decided : (text : List ℕ) → Decided text
decided text = by_length text (nat_le (length text) 4096) refl

pub has_answer : (text : List ℕ) → (answer : Result Policy ParseError) × Answers text answer
has_answer text = let d = decided text in (d.answer, d.is)

pub has_one : (text : List ℕ) (one other : Result Policy ParseError) → Answers text one → Answers text other → one ≡ other
has_one text one other a b = let d = decided text in sym (d.only one a) ∙ d.only other b
