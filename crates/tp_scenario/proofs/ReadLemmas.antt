-- Bytes have at most one answer.
use Rattle.std.proofs.Common.{◌≡◌, ◌⊎◌, inl, inr, ℕ, List, true, Some, Result, Ok, Err, sym, ap, ◌∙◌, arith}
use Rattle.std.specs.Prelude.{IfOk}
use Rattle.serde_json.specs.Data.{Data}
use Rattle.serde_json.specs.Read.{read}
use Rattle.tp_model.specs.Words.{Scenario}
use Rattle.tp_model.specs.SpelledNames.{is_spelled}
use Rattle.tp_model.specs.Valid.{is_valid}
use Rattle.tp_scenario.specs.declared.fault.Fault.{Fault}
use Rattle.tp_scenario.specs.declared.from_bytes.ScenarioError.{ScenarioError}
use Rattle.tp_scenario.specs.Reads.{Says, SaysNoJson, SaysValue, IsOutOfMemory, IsText, answer_by, answer_to}
use Rattle.tp_scenario.specs.Walk.{walk_of}
use Rattle.tp_scenario.proofs.KeptRules.{walked_spelled, walked_valid}

same_value : (bytes : List ℕ) (one other : Data) → read bytes ≡ Some one → read bytes ≡ Some other → one ≡ other
same_value bytes one other e f = cc

same_answer : (bytes : List ℕ) (one other : Result Scenario ScenarioError) → SaysValue bytes one → SaysValue bytes other → one ≡ other
same_answer bytes one other s t =
    let same : s.value ≡ t.value = same_value bytes s.value t.value s.text t.text in
    s.answer_is ∙ (ap answer_to same ∙ sym t.answer_is)

no_text_or_value : (bytes : List ℕ) (one other : Result Scenario ScenarioError) → SaysNoJson bytes one → SaysValue bytes other → ⊥
no_text_or_value bytes one other s t = cc (s.no_text t.utf8, t.text)

pub says_one : (bytes : List ℕ) (one other : Result Scenario ScenarioError) → Says bytes one → Says bytes other → one ≡ other
says_one bytes one other (inl s) (inl t) = s.answer_is ∙ sym t.answer_is
says_one bytes one other (inl s) (inr (inl t)) = absurd (omega (arith, s.long, t.short))
says_one bytes one other (inl s) (inr (inr t)) = absurd (omega (arith, s.long, t.short))
says_one bytes one other (inr (inl s)) (inl t) = absurd (omega (arith, s.short, t.long))
says_one bytes one other (inr (inl s)) (inr (inl t)) = s.answer_is ∙ sym t.answer_is
says_one bytes one other (inr (inl s)) (inr (inr t)) = absurd (no_text_or_value bytes one other s t)
says_one bytes one other (inr (inr s)) (inl t) = absurd (omega (arith, s.short, t.long))
says_one bytes one other (inr (inr s)) (inr (inl t)) = absurd (no_text_or_value bytes other one t s)
says_one bytes one other (inr (inr s)) (inr (inr t)) = same_answer bytes one other s t

abbrev as_read : Scenario → Result Scenario Fault
as_read scenario = Ok scenario

pub text_of_one : (bytes : List ℕ) (one other : Scenario) → IsText bytes one → IsText bytes other → one ≡ other
text_of_one bytes one other s t =
    let same : s.value ≡ t.value = same_value bytes s.value t.value s.text t.text in
    let given : walk_of s.value ≡ walk_of t.value = ap walk_of same in
    let same_results : as_read one ≡ as_read other = sym s.form ∙ (given ∙ t.form) in
    cc

-- ---- what an answer tells

read_so : (walk : Result Scenario Fault) (sc : Scenario) → answer_by walk ≡ Ok sc → walk ≡ Ok sc
read_so (Ok made) sc e = let same : made ≡ sc = cc in ap as_read same
read_so (Err fault) sc e = cc

-- what is read of a value keeps every rule, since the walk gave it
pub valid_from : (value : Data) (result : Result Scenario ScenarioError) → IsOutOfMemory result ⊎ (result ≡ answer_to value)
    → IfOk result (λ sc. is_valid sc ≡ true)
valid_from value (Ok sc) (inl out) = cc
valid_from value (Ok sc) (inr e) = walked_valid value sc (read_so (walk_of value) sc (sym e))
valid_from value (Err why) h = tt

-- and its names are spelled as names
pub spelled_from : (value : Data) (result : Result Scenario ScenarioError) → IsOutOfMemory result ⊎ (result ≡ answer_to value)
    → IfOk result (λ sc. is_spelled sc ≡ true)
spelled_from value (Ok sc) (inl out) = cc
spelled_from value (Ok sc) (inr e) = walked_spelled value sc (read_so (walk_of value) sc (sym e))
spelled_from value (Err why) h = tt
