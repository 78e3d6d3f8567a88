-- An exact reader with another value.
use Rattle.std.proofs.Common.{◌≡◌, ◌⊎◌, inl, inr, ℕ, List, ◌∷◌, ◌++◌, Bool, Option, Result, Ok, Err, refl, sym, ap, ◌∙◌}
use Rattle.tp_policy_text.specs.declared.halt.Stop.{Stop}
use Rattle.tp_policy_text.specs.declared.halt.Stop.TheVariants as stop
use Rattle.tp_policy_text.specs.mirrors.Readings.{Reader, Reading, carried, mapped, read, stopped}
use Rattle.tp_policy_text.proofs.Exact.{Exact, GivesUp, Language, left_at}
use Rattle.tp_policy_text.proofs.Links.{carried_err, carried_ok, gave_up_carried}

-- the values that come of a language's
pub record Image {A : Type 0} {B : Type 0} (f : A → B) (L : Language A) (b : B) (s t : List ℕ) : Type 0 where
  pub value : A
  pub is : b ≡ f value
  pub says : L value s t

record Unmapped {A : Type 0} {B : Type 0} (f : A → B) (w : Reading A) (o : Result B Stop) (t : List ℕ) : Type 0 where
  pub outcome : Result A Stop
  pub was : w ≡ left_at outcome t
  pub is : o ≡ carried f outcome

unmapped : {A : Type 0} {B : Type 0} (f : A → B) (w : Reading A) (o : Result B Stop) (t : List ℕ) → mapped f w ≡ left_at o t → Unmapped f w o t
unmapped {B = B} f w o t h = record {
  outcome = w.outcome;
  was = ap (λ (l : List ℕ). left_at w.outcome l) (ap (λ (v : Reading B). v.left) h);
  is = sym (ap (λ (v : Reading B). v.outcome) h);
}

record ValueOf {A : Type 0} {B : Type 0} (r : Reader A) (f : A → B) (s t : List ℕ) (b : B) : Type 0 where
  pub value : A
  pub ran : r s ≡ read value t
  pub is : b ≡ f value

pub mapped_exact : {A : Type 0} {B : Type 0} (f : A → B) (L W : Language A) (F : Option ℕ → Bool) (d e n : ℕ) (r : Reader A) → Exact L W F d e n r → Exact (Image f L) (Image f W) F d e n (λ s. mapped f (r s))
mapped_exact {A = A} {B = B} f L W F d e n r R = record {
  front = R.front;
  local = λ x t u o h same. let was = unmapped f (r (x ++ t)) o t h in
      again_mapped (x ++ u) u was.outcome (R.local x t u was.outcome was.was same) ∙ ap (λ (v : Result B Stop). left_at v u) (sym was.is);
  spaced = λ x t u b h tight may. let was = unmapped f (r (x ++ t)) (Ok b) t h in let ok = carried_ok f was.outcome b was.is in
      again_mapped (x ++ (32 ∷ u)) u (Ok ok.value) (R.spaced x t u ok.value (was.was ∙ ap (λ (v : Result A Stop). left_at v t) ok.was) tight may) ∙ ap (λ (v : B). read v u) (sym ok.is);
  takes = λ s t b h. let ok = value_of s t b h in record { value = ok.value; is = ok.is; says = R.takes s t ok.value ok.ran };
  wide = λ s t b h. record { value = h.value; is = h.is; says = R.wide s t h.value h.says };
  again = λ s t b h may. by_reading s t b h (R.again s t h.value h.says may);
  full = λ s t b h may short. again_mapped s t (Ok h.value) (R.full s t h.value h.says may short) ∙ ap (λ (v : B). read v t) (sym h.is);
  lasts = λ s short h. R.lasts s short (carried_err f (r s).outcome stop.Spent (sym h));
  viable = λ x t why h. let on = R.viable x t why (error_of (x ++ t) t why h) in
      record { more = on.more; value = f on.value; ends = λ u tight. record { value = on.value; is = refl; says = on.ends u tight } };
  some = record {
    byte = R.some.byte;
    others = R.some.others;
    value = f R.some.value;
    tight = R.some.tight;
    ends = λ u tight. record { value = R.some.value; is = refl; says = R.some.ends u tight };
  };
  solid = λ t b h. let ok = value_of t t b h in R.solid t ok.value ok.ran;
  level = λ x t b h. let ok = value_of (x ++ t) t b h in R.level x t ok.value ok.ran;
  deep = λ x t h. R.deep x t (error_of (x ++ t) t stop.Deep h);
  opens = λ x t h. let on = R.opens x t (error_of (x ++ t) t stop.Deep h) in
      record { more = on.more; value = f on.value; ends = λ u tight. record { value = on.value; is = refl; says = on.ends u tight } };
  shallow = λ x t o h. let was = unmapped f (r (x ++ t)) o t h in R.shallow x t was.outcome was.was;
}
  where
    again_mapped : (s t : List ℕ) (o : Result A Stop) → r s ≡ left_at o t → mapped f (r s) ≡ left_at (carried f o) t
    again_mapped s t o e = ap (λ (w : Reading A). mapped f w) e

    value_of : (s t : List ℕ) (b : B) → mapped f (r s) ≡ read b t → ValueOf r f s t b
    value_of s t b h = let was = unmapped f (r s) (Ok b) t h in let ok = carried_ok f was.outcome b was.is in
        record { value = ok.value; ran = was.was ∙ ap (λ (v : Result A Stop). left_at v t) ok.was; is = ok.is }

    error_of : (s t : List ℕ) (why : Stop) → mapped f (r s) ≡ stopped why t → r s ≡ stopped why t
    error_of s t why h = let was = unmapped f (r s) (Err why) t h in was.was ∙ ap (λ (v : Result A Stop). left_at v t) (carried_err f was.outcome why was.is)

    by_reading : (s t : List ℕ) (b : B) (h : Image f W b s t) → (r s ≡ read h.value t) ⊎ GivesUp (r s).outcome → (mapped f (r s) ≡ read b t) ⊎ GivesUp (mapped f (r s)).outcome
    by_reading s t b h (inl ran) = inl (again_mapped s t (Ok h.value) ran ∙ ap (λ (v : B). read v t) (sym h.is))
    by_reading s t b h (inr gave) = inr (gave_up_carried f (r s).outcome gave)
