-- A reader after another, or the end, by what comes next: where both are exact, so is the whole.
use Rattle.std.proofs.Common.{◌≡◌, ◌⊎◌, inl, inr, ℕ, suc, ◌+◌, ◌<◌, ◌≤◌, List, [], ◌∷◌, ◌++◌, length, Bool, true, Option, Some, Result, Ok, Err, refl, sym, ap, subst, ◌∙◌, arith}
use Rattle.std.proofs.lemmas.List.{append-nil, append_assoc, append_cancel_right, length-append}
use Rattle.tp_policy_text.specs.declared.halt.Stop.{Stop}
use Rattle.tp_policy_text.specs.declared.halt.Stop.TheVariants as stop
use Rattle.tp_policy_text.specs.Lexis.{count, first}
use Rattle.tp_policy_text.specs.mirrors.Readings.{Reader, Reading, carried, go_on, link, pick, read, seq, stopped}
use Rattle.tp_policy_text.proofs.Exact.{Ends, Exact, Front, GivesUp, IsDeep, IsLevel, IsShallow, Language, Starts, left_at}
use Rattle.tp_policy_text.proofs.Texts.{InFirst, InSecond, IsTight, count_append, empty_front, first_after, stands_in, tight_byte}

-- what comes after a value, where the byte comes next: the end with a value, or another reader
abbrev pub Next : Type 0 → Type 0 → Type 0 → Type 0
Next A B C = A → Option ℕ → C ⊎ (B → C)

-- ---- the language

pub record LinkedOne {A : Type 0} {B : Type 0} {C : Type 0} (k : Next A B C) (L : Language A) (c : C) (s t : List ℕ) : Type 0 where
  pub value : A
  pub one : L value s t
  pub ends : k value (first t) ≡ inl c

pub record LinkedTwo {A : Type 0} {B : Type 0} {C : Type 0} (k : Next A B C) (L : Language A) (M : Language B) (c : C) (s t : List ℕ) : Type 0 where
  pub value : A
  pub more : B
  pub with_more : B → C
  pub between : List ℕ
  pub one : L value s between
  pub goes : k value (first between) ≡ inr with_more
  pub two : M more between t
  pub is : c ≡ with_more more

abbrev pub Linked : {A : Type 0} {B : Type 0} {C : Type 0} → Next A B C → Language A → Language B → Language C
Linked k L M c s t = LinkedOne k L c s t ⊎ LinkedTwo k L M c s t

-- ---- what the reader did

pub run_halted : {A : Type 0} {B : Type 0} {C : Type 0} (k : Next A B C) (r : Reader A) (q : Reader B) (s t : List ℕ) (why : Stop) → r s ≡ stopped why t → link k r q s ≡ stopped why t
run_halted {A = A} {B = B} {C = C} k r q s t why e = ap (λ (w : Reading A). seq w (λ a m. pick q (k a (first m)) m)) e

pub run_finished : {A : Type 0} {B : Type 0} {C : Type 0} (k : Next A B C) (r : Reader A) (q : Reader B) (s t : List ℕ) (a : A) (c : C) → r s ≡ read a t → k a (first t) ≡ inl c → link k r q s ≡ read c t
run_finished {A = A} {B = B} {C = C} k r q s t a c e ends = ap (λ (w : Reading A). seq w (λ a m. pick q (k a (first m)) m)) e ∙ ap (λ (step : C ⊎ (B → C)). pick q step t) ends

pub run_followed : {A : Type 0} {B : Type 0} {C : Type 0} (k : Next A B C) (r : Reader A) (q : Reader B) (s m t : List ℕ) (a : A) (g : B → C) (o : Result B Stop)
    → r s ≡ read a m → k a (first m) ≡ inr g → q m ≡ left_at o t → link k r q s ≡ left_at (carried g o) t
run_followed {A = A} {B = B} {C = C} k r q s m t a g o e goes e2 =
    ap (λ (w : Reading A). seq w (λ a m. pick q (k a (first m)) m)) e ∙ ap (λ (step : C ⊎ (B → C)). pick q step m) goes
    ∙ ap (λ (w : Reading B). left_at (carried g w.outcome) w.left) e2

record Halted {A : Type 0} {C : Type 0} (r : Reader A) (s t : List ℕ) (o : Result C Stop) : Type 0 where
  pub why : Stop
  pub ran : r s ≡ stopped why t
  pub is : o ≡ Err why

record Finished {A : Type 0} {B : Type 0} {C : Type 0} (k : Next A B C) (r : Reader A) (s t : List ℕ) (o : Result C Stop) : Type 0 where
  pub value : A
  pub result : C
  pub ran : r s ≡ read value t
  pub ends : k value (first t) ≡ inl result
  pub is : o ≡ Ok result

record Followed {A : Type 0} {B : Type 0} {C : Type 0} (k : Next A B C) (r : Reader A) (q : Reader B) (x t : List ℕ) (o : Result C Stop) : Type 0 where
  pub value : A
  pub with_more : B → C
  pub one : List ℕ
  pub two : List ℕ
  pub further : Result B Stop
  pub parts : x ≡ one ++ two
  pub ran : r (one ++ (two ++ t)) ≡ read value (two ++ t)
  pub goes : k value (first (two ++ t)) ≡ inr with_more
  pub then_ran : q (two ++ t) ≡ left_at further t
  pub is : o ≡ carried with_more further

abbrev Cut : {A : Type 0} {B : Type 0} {C : Type 0} → Next A B C → Reader A → Reader B → List ℕ → List ℕ → Result C Stop → Type 0
Cut k r q x t o = Halted r (x ++ t) t o ⊎ (Finished k r (x ++ t) t o ⊎ Followed k r q x t o)

cut_outcome : {A : Type 0} {B : Type 0} {C : Type 0} (k : Next A B C) (r : Reader A) (q : Reader B) (x t : List ℕ) (o : Result C Stop)
    → ((s : List ℕ) → Front s (r s).left) → ((s : List ℕ) → Front s (q s).left)
    → (o1 : Result A Stop) (m : List ℕ) → r (x ++ t) ≡ left_at o1 m → go_on (λ a l. pick q (k a (first l)) l) o1 m ≡ left_at o t → Cut k r q x t o
cut_outcome {A = A} {B = B} {C = C} k r q x t o R Q (Err why) m e h =
    inl (record { why = why; ran = subst (λ (l : List ℕ). r (x ++ t) ≡ stopped why l) (ap (λ (w : Reading C). w.left) h) e; is = sym (ap (λ (w : Reading C). w.outcome) h) })
cut_outcome {A = A} {B = B} {C = C} k r q x t o R Q (Ok a) m e h = by_step (k a (first m)) refl h
  where
    by_step : (step : C ⊎ (B → C)) → k a (first m) ≡ step → pick q step m ≡ left_at o t → Cut k r q x t o
    by_step (inl c) is h2 =
        let here : m ≡ t = ap (λ (w : Reading C). w.left) h2 in
        inr (inl (record {
          value = a;
          result = c;
          ran = subst (λ (l : List ℕ). r (x ++ t) ≡ read a l) here e;
          ends = subst (λ (l : List ℕ). k a (first l) ≡ inl c) here is;
          is = sym (ap (λ (w : Reading C). w.outcome) h2);
        }))
    by_step (inr g) is h2 =
        let f1 = R (x ++ t) in
        let f2 = Q m in
        let parts1 : x ++ t ≡ f1.before ++ m = f1.parts ∙ ap (λ (w : Reading A). f1.before ++ w.left) e in
        let left_is : (q m).left ≡ t = ap (λ (w : Reading C). w.left) h2 in
        let parts2 : m ≡ f2.before ++ t = f2.parts ∙ ap (λ (l : List ℕ). f2.before ++ l) left_is in
        let whole : x ++ t ≡ f1.before ++ (f2.before ++ t) = parts1 ∙ ap (λ (l : List ℕ). f1.before ++ l) parts2 in
        let ran : q m ≡ left_at (q m).outcome t = ap (λ (l : List ℕ). left_at (q m).outcome l) left_is in
        inr (inr (record {
          value = a;
          with_more = g;
          one = f1.before;
          two = f2.before;
          further = (q m).outcome;
          parts = append_cancel_right x (f1.before ++ f2.before) t (whole ∙ sym (append_assoc f1.before f2.before t));
          ran = subst (λ (l : List ℕ). r l ≡ read a (f2.before ++ t)) whole (subst (λ (l : List ℕ). r (x ++ t) ≡ read a l) parts2 e);
          goes = subst (λ (l : List ℕ). k a (first l) ≡ inr g) parts2 is;
          then_ran = subst (λ (l : List ℕ). q l ≡ left_at (q m).outcome t) parts2 ran;
          is = sym (ap (λ (w : Reading C). w.outcome) h2);
        }))

cut : {A : Type 0} {B : Type 0} {C : Type 0} (k : Next A B C) (r : Reader A) (q : Reader B) (x t : List ℕ) (o : Result C Stop)
    → ((s : List ℕ) → Front s (r s).left) → ((s : List ℕ) → Front s (q s).left) → link k r q (x ++ t) ≡ left_at o t → Cut k r q x t o
cut {A = A} {B = B} {C = C} k r q x t o R Q h = cut_outcome k r q x t o R Q (r (x ++ t)).outcome (r (x ++ t)).left refl h

-- ---- both

-- a value leads to the second reader, or it is the end whatever comes next
abbrev pub Leads : {A : Type 0} {B : Type 0} {C : Type 0} → Next A B C → A → Option ℕ → Type 0
Leads {B = B} {C = C} k a o = ((g : B → C) × (k a o ≡ inr g)) ⊎ ((c : C) × ((o2 : Option ℕ) → k a o2 ≡ inl c))

-- the first's texts may be followed by the second's, and by what may come next where the first one ends
pub record Fits {A : Type 0} {B : Type 0} {C : Type 0} (k : Next A B C) (V : Language B) (F G H : Option ℕ → Bool) (e f : ℕ) : Type 0 where
  pub follows : (b : B) (m t : List ℕ) → V b m t → F (first m) ≡ true
  pub leads : (a : A) (b : B) (m t : List ℕ) → V b m t → Leads k a (first m)
  pub done : (a : A) (o : Option ℕ) (c : C) → k a o ≡ inl c → (o2 : Option ℕ) → H o2 ≡ true → (k a o2 ≡ inl c) × (F o2 ≡ true)
  pub after : (o : Option ℕ) → H o ≡ true → G o ≡ true
  pub even : (a : A) (o : Option ℕ) (c : C) → k a o ≡ inl c → e ≡ f

pub record Carried {B : Type 0} {C : Type 0} (g : B → C) (o : Result B Stop) (c : C) : Type 0 where
  pub value : B
  pub was : o ≡ Ok value
  pub is : c ≡ g value

same_ok : {C : Type 0} (a b : C) → ◌≡◌ {A = Result C Stop} (Ok a) (Ok b) → a ≡ b
same_ok {C = C} a b e = ap (λ (o : Result C Stop). value_of o) e
  where
    value_of : Result C Stop → C
    value_of (Ok c) = c
    value_of (Err why) = a

pub carried_ok : {B : Type 0} {C : Type 0} (g : B → C) (o : Result B Stop) (c : C) → Ok c ≡ carried g o → Carried g o c
carried_ok g (Ok b) c e = record { value = b; was = refl; is = same_ok c (g b) e }
carried_ok g (Err why) c e = absurd (cc)

pub carried_err : {B : Type 0} {C : Type 0} (g : B → C) (o : Result B Stop) (why : Stop) → Err why ≡ carried g o → o ≡ Err why
carried_err g (Ok b) why e = absurd (cc)
carried_err {C = C} g (Err other) why e = ap (λ (w : Stop). Err w) (sym (ap why_of e))
  where
    why_of : Result C Stop → Stop
    why_of (Ok c) = why
    why_of (Err w) = w

-- an error and no value
-- the same error, in another type
same_err : {B : Type 0} {C : Type 0} (why other : Stop) → ◌≡◌ {A = Result C Stop} (Err why) (Err other) → ◌≡◌ {A = Result B Stop} (Err why) (Err other)
same_err {C = C} why other e = ap (λ (w : Stop). Err w) (ap why_of e)
  where
    why_of : Result C Stop → Stop
    why_of (Ok c) = why
    why_of (Err w) = w

halts_not : {C : Type 0} (c : C) (why : Stop) → ◌≡◌ {A = Result C Stop} (Ok c) (Err why) → ⊥
halts_not c why e = absurd (cc)

-- the end and another reader
not_both : {B : Type 0} {C : Type 0} (c : C) (g : B → C) → ◌≡◌ {A = C ⊎ (B → C)} (inl c) (inr g) → ⊥
not_both c g e = absurd (cc)

gave_up_first : {A : Type 0} {B : Type 0} {C : Type 0} (k : Next A B C) (r : Reader A) (q : Reader B) (s : List ℕ) → GivesUp (r s).outcome → GivesUp (link k r q s).outcome
gave_up_first {A = A} {B = B} {C = C} k r q s h = by_outcome (r s).outcome (r s).left h
  where
    by_outcome : (o : Result A Stop) (m : List ℕ) → GivesUp o → GivesUp (go_on (λ a l. pick q (k a (first l)) l) o m).outcome
    by_outcome (Ok a) m h2 = absurd (h2)
    by_outcome (Err stop.Deep) m h2 = tt
    by_outcome (Err stop.Syntax) m h2 = absurd (h2)
    by_outcome (Err stop.Spent) m h2 = tt

pub gave_up_carried : {B : Type 0} {C : Type 0} (g : B → C) (o : Result B Stop) → GivesUp o → GivesUp (carried g o)
gave_up_carried g (Ok b) h = absurd (h)
gave_up_carried g (Err stop.Deep) h = tt
gave_up_carried g (Err stop.Syntax) h = absurd (h)
gave_up_carried g (Err stop.Spent) h = tt

shallow_both : (d e : ℕ) (y z : List ℕ) → IsShallow d y → IsLevel d e y → IsShallow e z → IsShallow d (y ++ z)
shallow_both d e y z hy level hz p q parts = by_place (stands_in y z p q 40 parts)
  where
    by_place : InFirst y p 40 ⊎ InSecond y z p q 40 → count 40 p < count 41 p + d
    by_place (inl i) = hy p i.after i.parts
    by_place (inr i) =
        let inner = hz i.before q i.parts in
        let opened = ap (count 40) i.front ∙ count_append 40 y i.before in
        let closed = ap (count 41) i.front ∙ count_append 41 y i.before in
        omega (arith, inner, opened, closed, level)

shorter : (s y m : List ℕ) → s ≡ y ++ m → (y ≡ [] → ⊥) → length m < length s
shorter s [] m e solid = absurd (solid refl)
shorter s (b ∷ y) m e solid = let sum = ap length e ∙ length-append (b ∷ y) m in omega (arith, sum)

pub link_exact : {A : Type 0} {B : Type 0} {C : Type 0} (k : Next A B C) (r : Reader A) (q : Reader B) (L W : Language A) (M V : Language B) (F G H : Option ℕ → Bool) (d e f n n' : ℕ)
    → Exact L W F d e n r → Exact M V G e f n' q → Fits k V F G H e f → n ≤ suc n' → Exact (Linked k L M) (Linked k W V) H d f n (link k r q)
link_exact {A = A} {B = B} {C = C} k r q L W M V F G H d e f n n' R Q fits enough = record {
  front = λ s. front_by s (r s).outcome (r s).left (R.front s);
  local = λ x t u o h same. local_by x t u o same (cut k r q x t o R.front Q.front h);
  spaced = λ x t u c h tight may. spaced_by x t u c tight may (cut k r q x t (Ok c) R.front Q.front h);
  takes = takes;
  wide = wide_by;
  again = again_by;
  full = full_by;
  lasts = λ s short h. lasts_by s short (r s).outcome (r s).left refl h;
  viable = λ x t why h. viable_by x t why (cut k r q x t (Err why) R.front Q.front h);
  some = some_by;
  solid = λ t c h. solid_by t c (cut k r q [] t (Ok c) R.front Q.front h);
  level = λ x t c h. level_by x t c (cut k r q x t (Ok c) R.front Q.front h);
  deep = λ x t h. deep_by x t (cut k r q x t (Err stop.Deep) R.front Q.front h);
  opens = λ x t h. opens_by x t (cut k r q x t (Err stop.Deep) R.front Q.front h);
  shallow = λ x t o h. shallow_by x t o (cut k r q x t o R.front Q.front h);
}
  where
    front_by : (s : List ℕ) (o : Result A Stop) (m : List ℕ) → Front s m → Front s (go_on (λ a l. pick q (k a (first l)) l) o m).left
    front_by s (Err why) m h = h
    front_by s (Ok a) m h = by_step (k a (first m))
      where
        by_step : (step : C ⊎ (B → C)) → Front s (pick q step m).left
        by_step (inl c) = h
        by_step (inr g) = let h2 = Q.front m in record {
          before = h.before ++ h2.before;
          parts = h.parts ∙ (ap (λ (l : List ℕ). h.before ++ l) h2.parts ∙ sym (append_assoc h.before h2.before (q m).left));
        }

    at_end : (x y z t : List ℕ) → x ≡ y ++ z → x ++ t ≡ y ++ (z ++ t)
    at_end x y z t parts = ap (λ (l : List ℕ). l ++ t) parts ∙ append_assoc y z t

    local_by : (x t u : List ℕ) (o : Result C Stop) → first t ≡ first u → Cut k r q x t o → link k r q (x ++ u) ≡ left_at o u
    local_by x t u o same (inl h) =
        run_halted k r q (x ++ u) u h.why (R.local x t u (Err h.why) h.ran same) ∙ ap (λ (w : Result C Stop). left_at w u) (sym h.is)
    local_by x t u o same (inr (inl h)) =
        run_finished k r q (x ++ u) u h.value h.result (R.local x t u (Ok h.value) h.ran same) (subst (λ (b : Option ℕ). k h.value b ≡ inl h.result) same h.ends)
        ∙ ap (λ (w : Result C Stop). left_at w u) (sym h.is)
    local_by x t u o same (inr (inr h)) =
        let next_same = first_after h.two t u same in
        ap (link k r q) (at_end x h.one h.two u h.parts)
        ∙ (run_followed k r q (h.one ++ (h.two ++ u)) (h.two ++ u) u h.value h.with_more h.further
        (R.local h.one (h.two ++ t) (h.two ++ u) (Ok h.value) h.ran next_same)
        (subst (λ (b : Option ℕ). k h.value b ≡ inr h.with_more) next_same h.goes)
        (Q.local h.two t u h.further h.then_ran same)
        ∙ ap (λ (w : Result C Stop). left_at w u) (sym h.is))

    spaced_by : (x t u : List ℕ) (c : C) → IsTight u → H (first u) ≡ true → Cut k r q x t (Ok c) → link k r q (x ++ (32 ∷ u)) ≡ read c u
    spaced_by x t u c tight may (inl h) = absurd (halts_not c h.why h.is)
    spaced_by x t u c tight may (inr (inl h)) =
        let over = fits.done h.value (first t) h.result h.ends (first u) may in
        run_finished k r q (x ++ (32 ∷ u)) u h.value h.result (R.spaced x t u h.value h.ran tight over.1) over.0
        ∙ ap (λ (w : Result C Stop). left_at w u) (sym h.is)
    spaced_by x t u c tight may (inr (inr h)) = by_two h.two h.parts h.ran h.goes h.then_ran (carried_ok h.with_more h.further c h.is)
      where
        by_two : (z : List ℕ) → x ≡ h.one ++ z → r (h.one ++ (z ++ t)) ≡ read h.value (z ++ t) → k h.value (first (z ++ t)) ≡ inr h.with_more → q (z ++ t) ≡ left_at h.further t
            → Carried h.with_more h.further c → link k r q (x ++ (32 ∷ u)) ≡ read c u
        by_two [] parts ran goes then_ran last = absurd (Q.solid t last.value (then_ran ∙ ap (λ (w : Result B Stop). left_at w t) last.was))
        by_two (b ∷ z) parts ran goes then_ran last =
            ap (link k r q) (at_end x h.one (b ∷ z) (32 ∷ u) parts)
            ∙ (run_followed k r q (h.one ++ (b ∷ (z ++ (32 ∷ u)))) (b ∷ (z ++ (32 ∷ u))) u h.value h.with_more (Ok last.value)
            (R.local h.one (b ∷ (z ++ t)) (b ∷ (z ++ (32 ∷ u))) (Ok h.value) ran refl)
            goes
            (Q.spaced (b ∷ z) t u last.value (then_ran ∙ ap (λ (w : Result B Stop). left_at w t) last.was) tight (fits.after (first u) may))
            ∙ ap (λ (w : C). read w u) (sym last.is))

    takes_cut : (x t : List ℕ) (c : C) → Cut k r q x t (Ok c) → Linked k L M c (x ++ t) t
    takes_cut x t c (inl h) = absurd (halts_not c h.why h.is)
    takes_cut x t c (inr (inl h)) =
        inl (record { value = h.value; one = R.takes (x ++ t) t h.value h.ran; ends = h.ends ∙ ap (λ (w : C). inl w) (sym (same_ok c h.result h.is)) })
    takes_cut x t c (inr (inr h)) =
        let last = carried_ok h.with_more h.further c h.is in
        inr (record {
          value = h.value;
          more = last.value;
          with_more = h.with_more;
          between = h.two ++ t;
          one = subst (λ (l : List ℕ). L h.value l (h.two ++ t)) (sym (at_end x h.one h.two t h.parts)) (R.takes (h.one ++ (h.two ++ t)) (h.two ++ t) h.value h.ran);
          goes = h.goes;
          two = Q.takes (h.two ++ t) t last.value (h.then_ran ∙ ap (λ (w : Result B Stop). left_at w t) last.was);
          is = last.is;
        })

    takes : (s t : List ℕ) (c : C) → link k r q s ≡ read c t → Linked k L M c s t
    takes s t c h =
        let found = front_by s (r s).outcome (r s).left (R.front s) in
        let parts : s ≡ found.before ++ t = found.parts ∙ ap (λ (w : Reading C). found.before ++ w.left) h in
        subst (λ (l : List ℕ). Linked k L M c l t) (sym parts)
        (takes_cut found.before t c (cut k r q found.before t (Ok c) R.front Q.front (subst (λ (l : List ℕ). link k r q l ≡ read c t) parts h)))

    wide_by : (s t : List ℕ) (c : C) → Linked k L M c s t → Linked k W V c s t
    wide_by s t c (inl h) = inl (record { value = h.value; one = R.wide s t h.value h.one; ends = h.ends })
    wide_by s t c (inr h) = inr (record {
      value = h.value;
      more = h.more;
      with_more = h.with_more;
      between = h.between;
      one = R.wide s h.between h.value h.one;
      goes = h.goes;
      two = Q.wide h.between t h.more h.two;
      is = h.is;
    })

    again_by : (s t : List ℕ) (c : C) → Linked k W V c s t → H (first t) ≡ true → (link k r q s ≡ read c t) ⊎ GivesUp (link k r q s).outcome
    again_by s t c (inl h) may = by_first (R.again s t h.value h.one (fits.done h.value (first t) c h.ends (first t) may).1)
      where
        by_first : (r s ≡ read h.value t) ⊎ GivesUp (r s).outcome → (link k r q s ≡ read c t) ⊎ GivesUp (link k r q s).outcome
        by_first (inl ran) = inl (run_finished k r q s t h.value c ran h.ends)
        by_first (inr gave) = inr (gave_up_first k r q s gave)
    again_by s t c (inr h) may = by_first (R.again s h.between h.value h.one (fits.follows h.more h.between t h.two))
      where
        by_second : r s ≡ read h.value h.between → (q h.between ≡ read h.more t) ⊎ GivesUp (q h.between).outcome → (link k r q s ≡ read c t) ⊎ GivesUp (link k r q s).outcome
        by_second ran (inl then_ran) =
            inl (run_followed k r q s h.between t h.value h.with_more (Ok h.more) ran h.goes then_ran ∙ ap (λ (w : C). read w t) (sym h.is))
        by_second ran (inr gave) =
            inr (subst (λ (w : Reading C). GivesUp w.outcome)
            (sym (run_followed k r q s h.between (q h.between).left h.value h.with_more (q h.between).outcome ran h.goes refl))
            (gave_up_carried h.with_more (q h.between).outcome gave))

        by_first : (r s ≡ read h.value h.between) ⊎ GivesUp (r s).outcome → (link k r q s ≡ read c t) ⊎ GivesUp (link k r q s).outcome
        by_first (inl ran) = by_second ran (Q.again h.between t h.more h.two (fits.after (first t) may))
        by_first (inr gave) = inr (gave_up_first k r q s gave)

    left_shorter : (s m : List ℕ) (a : A) → r s ≡ read a m → length m < length s
    left_shorter s m a ran =
        let found = R.front s in
        let parts : s ≡ found.before ++ m = found.parts ∙ ap (λ (w : Reading A). found.before ++ w.left) ran in
        shorter s found.before m parts
        (λ none. R.solid m a (subst (λ (l : List ℕ). r l ≡ read a m) (parts ∙ ap (λ (l : List ℕ). l ++ m) none) ran))

    full_by : (s t : List ℕ) (c : C) → Linked k L M c s t → H (first t) ≡ true → length s < n → link k r q s ≡ read c t
    full_by s t c (inl h) may short =
        run_finished k r q s t h.value c (R.full s t h.value h.one (fits.done h.value (first t) c h.ends (first t) may).1 short) h.ends
    full_by s t c (inr h) may short =
        let ran = R.full s h.between h.value h.one (fits.follows h.more h.between t (Q.wide h.between t h.more h.two)) short in
        let less = left_shorter s h.between h.value ran in
        run_followed k r q s h.between t h.value h.with_more (Ok h.more) ran h.goes
        (Q.full h.between t h.more h.two (fits.after (first t) may) (omega (arith, less, short, enough)))
        ∙ ap (λ (w : C). read w t) (sym h.is)

    lasts_by : (s : List ℕ) → length s < n → (o : Result A Stop) (m : List ℕ) → r s ≡ left_at o m → (go_on (λ a l. pick q (k a (first l)) l) o m).outcome ≡ Err stop.Spent → ⊥
    lasts_by s short (Err why) m e h = R.lasts s short (ap (λ (w : Reading A). w.outcome) e ∙ same_err {B = A} {C = C} why stop.Spent h)
    lasts_by s short (Ok a) m e h = by_step (k a (first m)) h
      where
        by_step : (step : C ⊎ (B → C)) → (pick q step m).outcome ≡ Err stop.Spent → ⊥
        by_step (inl c) h2 = absurd (halts_not c stop.Spent h2)
        by_step (inr g) h2 = let less = left_shorter s m a e in Q.lasts m (omega (arith, less, short, enough)) (carried_err g (q m).outcome stop.Spent (sym h2))

    known : V Q.some.value (Q.some.byte ∷ (Q.some.others ++ [])) []
    known = Q.wide (Q.some.byte ∷ (Q.some.others ++ [])) [] Q.some.value (Q.some.ends [] refl)

    first_allows : F (Some Q.some.byte) ≡ true
    first_allows = fits.follows Q.some.value (Q.some.byte ∷ (Q.some.others ++ [])) [] known

    leads : (a : A) → Leads k a (Some Q.some.byte)
    leads a = fits.leads a Q.some.value (Q.some.byte ∷ (Q.some.others ++ [])) [] known

    -- a text of the first, and the second's known one
    then_some : (s u : List ℕ) (a : A) (g : B → C) → k a (Some Q.some.byte) ≡ inr g → IsTight u → L a s (Q.some.byte ∷ (Q.some.others ++ u)) → Linked k L M (g Q.some.value) s u
    then_some s u a g goes tight one = inr (record {
      value = a;
      more = Q.some.value;
      with_more = g;
      between = Q.some.byte ∷ (Q.some.others ++ u);
      one = one;
      goes = goes;
      two = Q.some.ends u tight;
      is = refl;
    })

    -- where the first can be led to an end, so can both
    both_end : (x : List ℕ) (first_ends : Ends L x) → Leads k first_ends.value (Some Q.some.byte) → Ends (Linked k L M) x
    both_end x first_ends (inl (g, goes)) = record {
      more = first_ends.more ++ (Q.some.byte ∷ Q.some.others);
      value = g Q.some.value;
      ends = λ u tight. then_some (x ++ ((first_ends.more ++ (Q.some.byte ∷ Q.some.others)) ++ u)) u first_ends.value g goes tight
          (subst (λ (l : List ℕ). L first_ends.value (x ++ l) (Q.some.byte ∷ (Q.some.others ++ u)))
          (sym (append_assoc first_ends.more (Q.some.byte ∷ Q.some.others) u))
          (first_ends.ends (Q.some.byte ∷ (Q.some.others ++ u)) (tight_byte Q.some.byte (Q.some.others ++ u) Q.some.tight)));
    }
    both_end x first_ends (inr (c, over)) = record {
      more = first_ends.more;
      value = c;
      ends = λ u tight. inl (record { value = first_ends.value; one = first_ends.ends u tight; ends = over (first u) });
    }

    viable_by : (x t : List ℕ) (why : Stop) → Cut k r q x t (Err why) → Ends (Linked k L M) x
    viable_by x t why (inl h) = let first_ends = R.viable x t h.why h.ran in both_end x first_ends (leads first_ends.value)
    viable_by x t why (inr (inl h)) = absurd (halts_not h.result why (sym h.is))
    viable_by x t why (inr (inr h)) = by_two h.two h.parts h.ran h.goes h.then_ran (carried_err h.with_more h.further why h.is)
      where
        by_two : (z : List ℕ) → x ≡ h.one ++ z → r (h.one ++ (z ++ t)) ≡ read h.value (z ++ t) → k h.value (first (z ++ t)) ≡ inr h.with_more → q (z ++ t) ≡ left_at h.further t
            → h.further ≡ Err why → Ends (Linked k L M) x
        by_two [] parts ran goes then_ran last = by_leads (leads h.value)
          where
            by_leads : Leads k h.value (Some Q.some.byte) → Ends (Linked k L M) x
            by_leads (inl (g, leads_on)) = record {
              more = 32 ∷ (Q.some.byte ∷ Q.some.others);
              value = g Q.some.value;
              ends = λ u tight. then_some (x ++ (32 ∷ (Q.some.byte ∷ (Q.some.others ++ u)))) u h.value g leads_on tight
                  (R.takes (x ++ (32 ∷ (Q.some.byte ∷ (Q.some.others ++ u)))) (Q.some.byte ∷ (Q.some.others ++ u)) h.value
                  (R.spaced x t (Q.some.byte ∷ (Q.some.others ++ u)) h.value
                  (subst (λ (l : List ℕ). r (l ++ t) ≡ read h.value t) (sym (parts ∙ append-nil h.one)) ran)
                  (tight_byte Q.some.byte (Q.some.others ++ u) Q.some.tight)
                  first_allows));
            }
            by_leads (inr (c, over)) = absurd (not_both c h.with_more (sym (over (first t)) ∙ goes))
        by_two (b ∷ z) parts ran goes then_ran last =
            let second_ends = Q.viable (b ∷ z) t why (then_ran ∙ ap (λ (o : Result B Stop). left_at o t) last) in
            record {
              more = second_ends.more;
              value = h.with_more second_ends.value;
              ends = λ u tight. inr (record {
                value = h.value;
                more = second_ends.value;
                with_more = h.with_more;
                between = b ∷ (z ++ (second_ends.more ++ u));
                one = subst (λ (l : List ℕ). L h.value l (b ∷ (z ++ (second_ends.more ++ u)))) (sym (at_end x h.one (b ∷ z) (second_ends.more ++ u) parts))
                    (R.takes (h.one ++ (b ∷ (z ++ (second_ends.more ++ u)))) (b ∷ (z ++ (second_ends.more ++ u))) h.value
                    (R.local h.one (b ∷ (z ++ t)) (b ∷ (z ++ (second_ends.more ++ u))) (Ok h.value) ran refl));
                goes = goes;
                two = second_ends.ends u tight;
                is = refl;
              });
            }

    some_by : Starts (Linked k L M)
    some_by = by_leads (leads R.some.value)
      where
        by_leads : Leads k R.some.value (Some Q.some.byte) → Starts (Linked k L M)
        by_leads (inl (g, goes)) = record {
          byte = R.some.byte;
          others = R.some.others ++ (Q.some.byte ∷ Q.some.others);
          value = g Q.some.value;
          tight = R.some.tight;
          ends = λ u tight. then_some (R.some.byte ∷ ((R.some.others ++ (Q.some.byte ∷ Q.some.others)) ++ u)) u R.some.value g goes tight
              (subst (λ (l : List ℕ). L R.some.value (R.some.byte ∷ l) (Q.some.byte ∷ (Q.some.others ++ u)))
              (sym (append_assoc R.some.others (Q.some.byte ∷ Q.some.others) u))
              (R.some.ends (Q.some.byte ∷ (Q.some.others ++ u)) (tight_byte Q.some.byte (Q.some.others ++ u) Q.some.tight)));
        }
        by_leads (inr (c, over)) = record {
          byte = R.some.byte;
          others = R.some.others;
          value = c;
          tight = R.some.tight;
          ends = λ u tight. inl (record { value = R.some.value; one = R.some.ends u tight; ends = over (first u) });
        }

    solid_by : (t : List ℕ) (c : C) → Cut k r q [] t (Ok c) → ⊥
    solid_by t c (inl h) = halts_not c h.why h.is
    solid_by t c (inr (inl h)) = R.solid t h.value h.ran
    solid_by t c (inr (inr h)) =
        R.solid (h.two ++ t) h.value (subst (λ (l : List ℕ). r (l ++ (h.two ++ t)) ≡ read h.value (h.two ++ t)) (empty_front h.one h.two h.parts) h.ran)

    level_by : (x t : List ℕ) (c : C) → Cut k r q x t (Ok c) → IsLevel d f x
    level_by x t c (inl h) = absurd (halts_not c h.why h.is)
    level_by x t c (inr (inl h)) = let one = R.level x t h.value h.ran in let same = fits.even h.value (first t) h.result h.ends in omega (arith, one, same)
    level_by x t c (inr (inr h)) =
        let last = carried_ok h.with_more h.further c h.is in
        let one = R.level h.one (h.two ++ t) h.value h.ran in
        let two = Q.level h.two t last.value (h.then_ran ∙ ap (λ (w : Result B Stop). left_at w t) last.was) in
        let opened = ap (count 40) h.parts ∙ count_append 40 h.one h.two in
        let closed = ap (count 41) h.parts ∙ count_append 41 h.one h.two in
        omega (arith, one, two, opened, closed)

    wide_end : (x : List ℕ) (first_ends : Ends W x) → Leads k first_ends.value (Some Q.some.byte) → Ends (Linked k W V) x
    wide_end x first_ends (inl (g, goes)) = record {
      more = first_ends.more ++ (Q.some.byte ∷ Q.some.others);
      value = g Q.some.value;
      ends = λ u tight. inr (record {
        value = first_ends.value;
        more = Q.some.value;
        with_more = g;
        between = Q.some.byte ∷ (Q.some.others ++ u);
        one = subst (λ (l : List ℕ). W first_ends.value (x ++ l) (Q.some.byte ∷ (Q.some.others ++ u)))
            (sym (append_assoc first_ends.more (Q.some.byte ∷ Q.some.others) u))
            (first_ends.ends (Q.some.byte ∷ (Q.some.others ++ u)) (tight_byte Q.some.byte (Q.some.others ++ u) Q.some.tight));
        goes = goes;
        two = Q.wide (Q.some.byte ∷ (Q.some.others ++ u)) u Q.some.value (Q.some.ends u tight);
        is = refl;
      });
    }
    wide_end x first_ends (inr (c, over)) = record {
      more = first_ends.more;
      value = c;
      ends = λ u tight. inl (record { value = first_ends.value; one = first_ends.ends u tight; ends = over (first u) });
    }

    opens_by : (x t : List ℕ) → Cut k r q x t (Err stop.Deep) → Ends (Linked k W V) (x ++ (40 ∷ []))
    opens_by x t (inl h) =
        let first_ends = R.opens x t (h.ran ∙ ap (λ (w : Result A Stop). left_at w t) (same_err {B = A} {C = C} h.why stop.Deep (sym h.is))) in
        wide_end (x ++ (40 ∷ [])) first_ends (leads first_ends.value)
    opens_by x t (inr (inl h)) = absurd (halts_not h.result stop.Deep (sym h.is))
    opens_by x t (inr (inr h)) =
        let stuck = h.then_ran ∙ ap (λ (w : Result B Stop). left_at w t) (carried_err h.with_more h.further stop.Deep h.is) in
        let second_ends = Q.opens h.two t stuck in
        let next = (Q.deep h.two t stuck).0 in
        record {
          more = second_ends.more;
          value = h.with_more second_ends.value;
          ends = λ u tight.
              let rest = second_ends.more ++ u in
              let same = first_after h.two t (40 ∷ rest) next in
              let opened : (h.two ++ (40 ∷ [])) ++ rest ≡ h.two ++ (40 ∷ rest) = append_assoc h.two (40 ∷ []) rest in
              let whole : (x ++ (40 ∷ [])) ++ rest ≡ h.one ++ (h.two ++ (40 ∷ rest)) = append_assoc x (40 ∷ []) rest ∙ at_end x h.one h.two (40 ∷ rest) h.parts in
              inr (record {
                value = h.value;
                more = second_ends.value;
                with_more = h.with_more;
                between = h.two ++ (40 ∷ rest);
                one = subst (λ (l : List ℕ). W h.value l (h.two ++ (40 ∷ rest))) (sym whole)
                    (R.wide (h.one ++ (h.two ++ (40 ∷ rest))) (h.two ++ (40 ∷ rest)) h.value
                    (R.takes (h.one ++ (h.two ++ (40 ∷ rest))) (h.two ++ (40 ∷ rest)) h.value
                    (R.local h.one (h.two ++ t) (h.two ++ (40 ∷ rest)) (Ok h.value) h.ran same)));
                goes = subst (λ (b : Option ℕ). k h.value b ≡ inr h.with_more) same h.goes;
                two = subst (λ (l : List ℕ). V second_ends.value l u) opened (second_ends.ends u tight);
                is = refl;
              });
        }

    deep_by : (x t : List ℕ) → Cut k r q x t (Err stop.Deep) → IsDeep d x t
    deep_by x t (inl h) = R.deep x t (h.ran ∙ ap (λ (w : Result A Stop). left_at w t) (same_err {B = A} {C = C} h.why stop.Deep (sym h.is)))
    deep_by x t (inr (inl h)) = absurd (halts_not h.result stop.Deep (sym h.is))
    deep_by x t (inr (inr h)) =
        let one = R.level h.one (h.two ++ t) h.value h.ran in
        let two = Q.deep h.two t (h.then_ran ∙ ap (λ (w : Result B Stop). left_at w t) (carried_err h.with_more h.further stop.Deep h.is)) in
        let rise = two.1 in
        let opened = ap (count 40) h.parts ∙ count_append 40 h.one h.two in
        let closed = ap (count 41) h.parts ∙ count_append 41 h.one h.two in
        (two.0, omega (arith, one, rise, opened, closed))

    shallow_by : (x t : List ℕ) (o : Result C Stop) → Cut k r q x t o → IsShallow d x
    shallow_by x t o (inl h) = R.shallow x t (Err h.why) h.ran
    shallow_by x t o (inr (inl h)) = R.shallow x t (Ok h.value) h.ran
    shallow_by x t o (inr (inr h)) =
        subst (IsShallow d) (sym h.parts)
        (shallow_both d e h.one h.two (R.shallow h.one (h.two ++ t) (Ok h.value) h.ran) (R.level h.one (h.two ++ t) h.value h.ran) (Q.shallow h.two t h.further h.then_ran))
