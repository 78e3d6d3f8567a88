-- One reader and then another, whatever comes next.
use Rattle.std.proofs.Common.{◌≡◌, ◌⊎◌, inl, inr, ℕ, ◌≤◌, List, Bool, true, Option, refl, sym, ap, ◌∙◌, arith}
use Rattle.tp_policy_text.specs.Lexis.{first}
use Rattle.tp_policy_text.specs.mirrors.Readers.{both}
use Rattle.tp_policy_text.specs.mirrors.Readings.{Reader}
use Rattle.tp_policy_text.proofs.Choices.{retell}
use Rattle.tp_policy_text.proofs.Exact.{Exact, Language}
use Rattle.tp_policy_text.proofs.Links.{Fits, Linked, link_exact}

pub record Both {A : Type 0} {B : Type 0} {C : Type 0} (f : A → B → C) (L : Language A) (M : Language B) (c : C) (s t : List ℕ) : Type 0 where
  pub value : A
  pub more : B
  pub between : List ℕ
  pub one : L value s between
  pub two : M more between t
  pub is : c ≡ f value more

pub inr_is : {C : Type 0} {B : Type 0} (g h : B → C) → ◌≡◌ {A = C ⊎ (B → C)} (inr g) (inr h) → g ≡ h
inr_is {C = C} {B = B} g h e = ap reader_of e
  where
    reader_of : C ⊎ (B → C) → B → C
    reader_of (inl c) = g
    reader_of (inr k) = k

pub no_end : {C : Type 0} {B : Type 0} (g : B → C) (c : C) → ◌≡◌ {A = C ⊎ (B → C)} (inr g) (inl c) → ⊥
no_end g c e = absurd (cc)

pub both_exact : {A : Type 0} {B : Type 0} {C : Type 0} (f : A → B → C) (r : Reader A) (q : Reader B) (L W : Language A) (M V : Language B) (F G : Option ℕ → Bool) (d e e' n : ℕ)
    → Exact L W F d e n r → Exact M V G e e' n q → ((b : B) (m t : List ℕ) → V b m t → F (first m) ≡ true) → Exact (Both f L M) (Both f W V) G d e' n (both f r q)
both_exact {A = A} {B = B} {C = C} f r q L W M V F G d e e' n R Q follows =
    retell (Linked (λ a o. inr (f a)) L M) (Linked (λ a o. inr (f a)) W V) (Both f L M) (Both f W V) G G d e' n n (both f r q)
    (link_exact (λ a o. inr (f a)) r q L W M V F G G d e e' n n R Q fits (omega (arith)))
    (record {
      to = λ s t c h. to L M s t c h;
      from = λ s t c may h. from L M s t c h;
      from_wide = λ s t c may h. from W V s t c h;
      to_wide = λ s t c h. to W V s t c h;
      wide = λ s t c h. record { value = h.value; more = h.more; between = h.between; one = R.wide s h.between h.value h.one; two = Q.wide h.between t h.more h.two; is = h.is };
      allows = λ o may. may;
    })
    (omega (arith))
  where
    fits : Fits (λ a o. inr (f a)) V F G G e e'
    fits = record {
      follows = follows;
      leads = λ a b m t h. inl (f a, refl);
      done = λ a o c h. absurd (no_end (f a) c h);
      after = λ o may. may;
      even = λ a o c h. absurd (no_end (f a) c h);
    }

    to : (X : Language A) (Y : Language B) (s t : List ℕ) (c : C) → Linked (λ a o. inr (f a)) X Y c s t → Both f X Y c s t
    to X Y s t c (inl h) = absurd (no_end (f h.value) c h.ends)
    to X Y s t c (inr h) = record {
      value = h.value;
      more = h.more;
      between = h.between;
      one = h.one;
      two = h.two;
      is = h.is ∙ ap (λ (g : B → C). g h.more) (sym (inr_is (f h.value) h.with_more h.goes));
    }

    from : (X : Language A) (Y : Language B) (s t : List ℕ) (c : C) → Both f X Y c s t → Linked (λ a o. inr (f a)) X Y c s t
    from X Y s t c h = inr (record { value = h.value; more = h.more; with_more = f h.value; between = h.between; one = h.one; goes = refl; two = h.two; is = h.is })

-- what may come next, said more narrowly
pub narrowed : {A : Type 0} (L W : Language A) (F F' : Option ℕ → Bool) (d e n n' : ℕ) (r : Reader A) → Exact L W F d e n r → ((o : Option ℕ) → F' o ≡ true → F o ≡ true) → n' ≤ n → Exact L W F' d e n' r
narrowed L W F F' d e n n' r R allows fewer =
    retell L W L W F F' d e n n' r R (record { to = λ s t a h. h; from = λ s t a may h. h; from_wide = λ s t a may h. h; to_wide = λ s t a h. h; wide = R.wide; allows = allows }) fewer
