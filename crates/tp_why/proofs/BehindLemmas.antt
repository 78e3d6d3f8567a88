-- How often an administrator published before a place.
use Rattle.std.proofs.Common.{◌≡◌, ℕ, ◌+◌, Bool, true, false, cond, List, [], ◌∷◌, Option, Some, None, refl, ap, arith}
use Rattle.std.proofs.lemmas.List.Sums.{sum_by-cons}
use Rattle.std.specs.List.{cons_option, count_by, filter_map}
use Rattle.std.specs.Option.{option_map_or}
use Rattle.tp_model.specs.Words.{Fact, What}
use Rattle.tp_model.specs.Words.what
use Rattle.tp_model.specs.Facts.{before, is_earlier}
use Rattle.tp_model.specs.Versions.{is_publication, is_publication_what}
use Rattle.tp_why.specs.mirrors.Publishers.{is_number, publisher, publisher_what}

-- what one more member counts
counted : {A : Type 0} (test : A → Bool) (shown : Option A) (others : List A) → count_by test (cons_option shown others) ≡ cond (option_map_or test shown false) 1 0 + count_by test others
counted test None others = omega arith
counted test (Some x) others = sum_by-cons (λ y. cond (test y) 1 0) x others

counted_fact : (test : Fact → Bool) (fact : Fact) (others : List Fact) (earlier : Bool)
    → count_by test (cond earlier (fact ∷ others) others) ≡ cond earlier (cond (test fact) 1 0) 0 + count_by test others
counted_fact test fact others true = sum_by-cons (λ y. cond (test y) 1 0) fact others
counted_fact test fact others false = omega arith

same_what : (number : ℕ) (said : What) → option_map_or (is_number number) (publisher_what said) false ≡ is_publication_what (record { 0 = number }) said
same_what number (what.Published admin version) = refl
same_what number (what.Submitted txn) = refl
same_what number (what.Revoked cred) = refl
same_what number (what.Ticked by) = refl
same_what number (what.Crashed who) = refl
same_what number (what.Lost mail) = refl
same_what number (what.Decided txn decided) = refl
same_what number (what.Settled at txn ended) = refl

same_at : (number : ℕ) (said : What) (earlier : Bool)
    → ◌≡◌ {A = ℕ} (cond (option_map_or (is_number number) (cond earlier (publisher_what said) None) false) 1 0) (cond earlier (cond (is_publication_what (record { 0 = number }) said) 1 0) 0)
same_at number said true = ap (λ (b : Bool). cond b 1 0) (same_what number said)
same_at number said false = refl

-- those who published before a place are counted as the publications before it
pub published_before : (place : ℕ) (facts : List Fact) (number : ℕ)
    → count_by (is_number number) (filter_map (publisher place) facts) ≡ count_by (is_publication (record { 0 = number })) (before place facts)
published_before place [] number = refl
published_before place (fact ∷ facts) number =
    let rest = published_before place facts number in
    let one = counted (is_number number) (publisher place fact) (filter_map (publisher place) facts) in
    let other = counted_fact (is_publication (record { 0 = number })) fact (before place facts) (is_earlier place fact) in
    let same = same_at number fact.what (is_earlier place fact) in
    omega arith
