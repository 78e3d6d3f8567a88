-- Laws of values that may be there, of members of lists, and of answers by their query.
use Rattle.std.proofs.Common.{◌≡◌, ℕ, ◌<◌, ◌==◌, List, [], ◌∷◌, ◌++◌, length, map, Bool, true, false, Option, Some, None, is_some, IfSome, Contains, if◌then◌else◌, refl, sym, ap, subst, ◌∙◌, arith}
use Rattle.std.proofs.Math.ListN.{get_or-map}
use Rattle.std.proofs.lemmas.Bool.{eq-eqb}
use Rattle.std.proofs.lemmas.List.{length-map}
use Rattle.std.proofs.lemmas.Option.{same_Some}
use Rattle.tp_model.specs.Words.{DoneReply}
use Rattle.tp_types.specs.Each.{Each}

-- ---- a value that may be there

-- what holds of a value if it is there holds of the one that is there
pub of_some : {A : Type 0} (P : A → Type 0) (found : Option A) (x : A) → found ≡ Some x → IfSome found P → P x
of_some {A = A} P found x e h = subst (λ (o : Option A). IfSome o P) e h

-- what holds of the value that is there
pub to_some : {A : Type 0} (P : A → Type 0) (found : Option A) (x : A) → found ≡ Some x → P x → IfSome found P
to_some {A = A} P found x e h = subst (λ (o : Option A). IfSome o P) (sym e) h

-- what follows for the value that is there
pub some_as : {A : Type 0} (P Q : A → Type 0) (found : Option A) → ((x : A) → found ≡ Some x → P x → Q x) → IfSome found P → IfSome found Q
some_as P Q None step h = tt
some_as P Q (Some x) step h = step x refl h

-- ---- members

pub contains_none : {A : Type 0} (x : A) → Contains [] x → ⊥
contains_none x h = let within = h.1 in omega (arith, within)

-- a member's image is a member of the images
pub contains_mapped : {A : Type 0} {B : Type 0} (f : A → B) (xs : List A) (x : A) → Contains xs x → Contains (map f xs) (f x)
contains_mapped f xs x h =
    let within : h.0 < length (map f xs) = omega (arith, h.1, length-map xs f) in
    (h.0, within, get_or-map f xs h.0 x ∙ ap f h.2)

-- ---- answers

-- the first answer to the query of this number
abbrev pub answer_in : ℕ → List DoneReply → Option DoneReply
answer_in number [] = None
answer_in number (first ∷ answers) = if first.query == number then Some first else answer_in number answers

more_there : (b : Bool) (first : DoneReply) (old new : Option DoneReply) → (is_some old ≡ true → is_some new ≡ true) → is_some (if b then Some first else old) ≡ true → is_some (if b then Some first else new) ≡ true
more_there true first old new step e = refl
more_there false first old new step e = step e

-- an answered query stays so
pub answer_more : (number : ℕ) (answers : List DoneReply) (new : DoneReply) → is_some (answer_in number answers) ≡ true → is_some (answer_in number (answers ++ new ∷ [])) ≡ true
answer_more number [] new e = absurd (cc)
answer_more number (first ∷ answers) new e =
    more_there (first.query == number) first (answer_in number answers) (answer_in number (answers ++ new ∷ [])) (answer_more number answers new) e

is_there : (b : Bool) (first : DoneReply) (other : Option DoneReply) → is_some other ≡ true → is_some (if b then Some first else other) ≡ true
is_there true first other e = refl
is_there false first other e = e

-- a query is answered by the answer that is given to it
pub answer_new : (number : ℕ) (answers : List DoneReply) (new : DoneReply) → new.query ≡ number → is_some (answer_in number (answers ++ new ∷ [])) ≡ true
answer_new number [] new e = ap (λ (b : Bool). is_some (if b then Some new else None)) (eq-eqb new.query number e)
answer_new number (first ∷ answers) new e = is_there (first.query == number) first (answer_in number (answers ++ new ∷ [])) (answer_new number answers new e)

found_each : (P : DoneReply → Type 0) (b : Bool) (first : DoneReply) (other : Option DoneReply) (found : DoneReply) → P first → (other ≡ Some found → P found) → (if b then Some first else other) ≡ Some found → P found
found_each P true first other found here later e = subst P (same_Some first found e) here
found_each P false first other found here later e = later e

-- what holds of each answer holds of the one that is found
pub answer_each : (P : DoneReply → Type 0) (number : ℕ) (answers : List DoneReply) (found : DoneReply) → Each P answers → answer_in number answers ≡ Some found → P found
answer_each P number [] found h e = absurd (cc)
answer_each P number (first ∷ answers) found h e =
    found_each P (first.query == number) first (answer_in number answers) found h.0 (answer_each P number answers found h.1) e
