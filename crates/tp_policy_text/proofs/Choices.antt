-- Exact readers in other words: another language, one of two by the next byte, and a parenthesis that is one too many.
use Rattle.std.proofs.lemmas.Bool.{eqb-true}
use Rattle.std.proofs.Common.{◌≡◌, ◌⊎◌, inl, inr, ℕ, ◌<◌, ◌≤◌, List, [], ◌∷◌, ◌++◌, length, Bool, true, false, Option, Some, None, Result, Ok, Err, refl, sym, ap, subst, ◌∙◌, arith, if◌then◌else◌}
use Rattle.std.proofs.lemmas.List.{append_cancel_right}
use Rattle.tp_policy_text.specs.declared.halt.Stop.{Stop}
use Rattle.tp_policy_text.specs.declared.halt.Stop.TheVariants as stop
use Rattle.tp_policy_text.specs.Lexis.{count, first}
use Rattle.tp_policy_text.specs.mirrors.Readings.{Reader, Reading, choice, is_open, read, stopped, unopened}
use Rattle.tp_policy_text.proofs.Exact.{Ends, Exact, Front, GivesUp, IsDeep, IsLevel, IsShallow, Language, left_at}
use Rattle.tp_policy_text.proofs.Texts.{IsTight, first_after}

-- ---- the same in other words

pub record SameLanguage {A : Type 0} (L W L' W' : Language A) (F F' : Option ℕ → Bool) : Type 0 where
  pub to : (s t : List ℕ) (a : A) → L a s t → L' a s t
  pub from : (s t : List ℕ) (a : A) → F' (first t) ≡ true → L' a s t → L a s t
  pub from_wide : (s t : List ℕ) (a : A) → F' (first t) ≡ true → W' a s t → W a s t
  pub to_wide : (s t : List ℕ) (a : A) → W a s t → W' a s t
  pub wide : (s t : List ℕ) (a : A) → L' a s t → W' a s t
  pub allows : (o : Option ℕ) → F' o ≡ true → F o ≡ true

pub retell : {A : Type 0} (L W L' W' : Language A) (F F' : Option ℕ → Bool) (d e n n' : ℕ) (r : Reader A) → Exact L W F d e n r → SameLanguage L W L' W' F F' → n' ≤ n → Exact L' W' F' d e n' r
retell L W L' W' F F' d e n n' r R same fewer = record {
  front = R.front;
  local = R.local;
  spaced = λ x t u a h tight may. R.spaced x t u a h tight (same.allows (first u) may);
  takes = λ s t a h. same.to s t a (R.takes s t a h);
  wide = same.wide;
  again = λ s t a h may. R.again s t a (same.from_wide s t a may h) (same.allows (first t) may);
  full = λ s t a h may short. R.full s t a (same.from s t a may h) (same.allows (first t) may) (omega (arith, short, fewer));
  lasts = λ s short h. R.lasts s (omega (arith, short, fewer)) h;
  viable = λ x t why h. let on = R.viable x t why h in record { more = on.more; value = on.value; ends = λ u tight. same.to (x ++ (on.more ++ u)) u on.value (on.ends u tight) };
  some = record {
    byte = R.some.byte;
    others = R.some.others;
    value = R.some.value;
    tight = R.some.tight;
    ends = λ u tight. same.to (R.some.byte ∷ (R.some.others ++ u)) u R.some.value (R.some.ends u tight);
  };
  solid = R.solid;
  level = R.level;
  deep = R.deep;
  opens = λ x t h. let on = R.opens x t h in record { more = on.more; value = on.value; ends = λ u tight. same.to_wide ((x ++ (40 ∷ [])) ++ (on.more ++ u)) u on.value (on.ends u tight) };
  shallow = R.shallow;
}

-- ---- one of two

abbrev pub Either : {A : Type 0} → Language A → Language A → Language A
Either L M a s t = L a s t ⊎ M a s t

-- which of the two a text belongs to
pub record Apart {A : Type 0} (asks : Option ℕ → Bool) (W V : Language A) : Type 0 where
  pub one : (s t : List ℕ) (a : A) → W a s t → asks (first s) ≡ true
  pub two : (s t : List ℕ) (a : A) → V a s t → asks (first s) ≡ false

chosen : {A : Type 0} (asks : Option ℕ → Bool) (r q : Reader A) (s : List ℕ) (b : Bool) → asks (first s) ≡ b → choice asks r q s ≡ (if b then r s else q s)
chosen asks r q s b e = ap (λ (v : Bool). if v then r s else q s) e

front_not_empty : {A : Type 0} (r : Reader A) (x t : List ℕ) (a : A) → ((l : List ℕ) (v : A) → r l ≡ read v l → ⊥) → r (x ++ t) ≡ read a t → (x ≡ [] → ⊥)
front_not_empty r x t a solid h none = solid t a (subst (λ (l : List ℕ). r (l ++ t) ≡ read a t) none h)

first_of_more : (x t u : List ℕ) → (x ≡ [] → ⊥) → first (x ++ t) ≡ first (x ++ u)
first_of_more [] t u solid = absurd (solid refl)
first_of_more (b ∷ x) t u solid = refl

pub choice_exact : {A : Type 0} (asks : Option ℕ → Bool) (r q : Reader A) (L W M V : Language A) (F : Option ℕ → Bool) (d e n : ℕ)
    → Exact L W F d e n r → Exact M V F d e n q → Apart asks W V → Exact (Either L M) (Either W V) F d e n (choice asks r q)
choice_exact {A = A} asks r q L W M V F d e n R Q apart = record {
  front = λ s. front_by s (asks (first s)) refl;
  local = λ x t u o h same. local_by x t u o same (asks (first (x ++ t))) refl h;
  spaced = λ x t u a h tight may. spaced_by x t u a tight may (asks (first (x ++ t))) refl h;
  takes = λ s t a h. takes_by s t a (asks (first s)) refl h;
  wide = wide_by;
  again = again_by;
  full = full_by;
  lasts = λ s short h. lasts_by s short (asks (first s)) refl h;
  viable = λ x t why h. viable_by x t why (asks (first (x ++ t))) refl h;
  some = record {
    byte = R.some.byte;
    others = R.some.others;
    value = R.some.value;
    tight = R.some.tight;
    ends = λ u tight. inl (R.some.ends u tight);
  };
  solid = λ t a h. solid_by t a (asks (first t)) refl h;
  level = λ x t a h. level_by x t a (asks (first (x ++ t))) refl h;
  deep = λ x t h. deep_by x t (asks (first (x ++ t))) refl h;
  opens = λ x t h. opens_by x t (asks (first (x ++ t))) refl h;
  shallow = λ x t o h. shallow_by x t o (asks (first (x ++ t))) refl h;
}
  where
    one : (s : List ℕ) (w : Reading A) → asks (first s) ≡ true → choice asks r q s ≡ w → r s ≡ w
    one s w e h = sym (chosen asks r q s true e) ∙ h

    two : (s : List ℕ) (w : Reading A) → asks (first s) ≡ false → choice asks r q s ≡ w → q s ≡ w
    two s w e h = sym (chosen asks r q s false e) ∙ h

    front_by : (s : List ℕ) (b : Bool) → asks (first s) ≡ b → Front s (choice asks r q s).left
    front_by s true e = subst (λ (w : Reading A). Front s w.left) (sym (chosen asks r q s true e)) (R.front s)
    front_by s false e = subst (λ (w : Reading A). Front s w.left) (sym (chosen asks r q s false e)) (Q.front s)

    local_by : (x t u : List ℕ) (o : Result A Stop) → first t ≡ first u → (b : Bool) → asks (first (x ++ t)) ≡ b → choice asks r q (x ++ t) ≡ left_at o t → choice asks r q (x ++ u) ≡ left_at o u
    local_by x t u o same true e h =
        chosen asks r q (x ++ u) true (ap asks (sym (first_after x t u same)) ∙ e) ∙ R.local x t u o (one (x ++ t) (left_at o t) e h) same
    local_by x t u o same false e h =
        chosen asks r q (x ++ u) false (ap asks (sym (first_after x t u same)) ∙ e) ∙ Q.local x t u o (two (x ++ t) (left_at o t) e h) same

    spaced_by : (x t u : List ℕ) (a : A) → IsTight u → F (first u) ≡ true → (b : Bool) → asks (first (x ++ t)) ≡ b → choice asks r q (x ++ t) ≡ read a t → choice asks r q (x ++ (32 ∷ u)) ≡ read a u
    spaced_by x t u a tight may true e h =
        let ran = one (x ++ t) (read a t) e h in
        chosen asks r q (x ++ (32 ∷ u)) true (ap asks (sym (first_of_more x t (32 ∷ u) (front_not_empty r x t a R.solid ran))) ∙ e) ∙ R.spaced x t u a ran tight may
    spaced_by x t u a tight may false e h =
        let ran = two (x ++ t) (read a t) e h in
        chosen asks r q (x ++ (32 ∷ u)) false (ap asks (sym (first_of_more x t (32 ∷ u) (front_not_empty q x t a Q.solid ran))) ∙ e) ∙ Q.spaced x t u a ran tight may

    takes_by : (s t : List ℕ) (a : A) (b : Bool) → asks (first s) ≡ b → choice asks r q s ≡ read a t → Either L M a s t
    takes_by s t a true e h = inl (R.takes s t a (one s (read a t) e h))
    takes_by s t a false e h = inr (Q.takes s t a (two s (read a t) e h))

    wide_by : (s t : List ℕ) (a : A) → Either L M a s t → Either W V a s t
    wide_by s t a (inl h) = inl (R.wide s t a h)
    wide_by s t a (inr h) = inr (Q.wide s t a h)

    gave_up : (s t : List ℕ) (a : A) (w : Reading A) → choice asks r q s ≡ w → (w ≡ read a t) ⊎ GivesUp w.outcome → (choice asks r q s ≡ read a t) ⊎ GivesUp (choice asks r q s).outcome
    gave_up s t a w e (inl h) = inl (e ∙ h)
    gave_up s t a w e (inr h) = inr (subst (λ (v : Reading A). GivesUp v.outcome) (sym e) h)

    again_by : (s t : List ℕ) (a : A) → Either W V a s t → F (first t) ≡ true → (choice asks r q s ≡ read a t) ⊎ GivesUp (choice asks r q s).outcome
    again_by s t a (inl h) may = gave_up s t a (r s) (chosen asks r q s true (apart.one s t a h)) (R.again s t a h may)
    again_by s t a (inr h) may = gave_up s t a (q s) (chosen asks r q s false (apart.two s t a h)) (Q.again s t a h may)

    full_by : (s t : List ℕ) (a : A) → Either L M a s t → F (first t) ≡ true → length s < n → choice asks r q s ≡ read a t
    full_by s t a (inl h) may short = chosen asks r q s true (apart.one s t a (R.wide s t a h)) ∙ R.full s t a h may short
    full_by s t a (inr h) may short = chosen asks r q s false (apart.two s t a (Q.wide s t a h)) ∙ Q.full s t a h may short

    lasts_by : (s : List ℕ) → length s < n → (b : Bool) → asks (first s) ≡ b → (choice asks r q s).outcome ≡ Err stop.Spent → ⊥
    lasts_by s short true e h = R.lasts s short (ap (λ (w : Reading A). w.outcome) (sym (chosen asks r q s true e)) ∙ h)
    lasts_by s short false e h = Q.lasts s short (ap (λ (w : Reading A). w.outcome) (sym (chosen asks r q s false e)) ∙ h)

    viable_by : (x t : List ℕ) (why : Stop) (b : Bool) → asks (first (x ++ t)) ≡ b → choice asks r q (x ++ t) ≡ stopped why t → Ends (Either L M) x
    viable_by x t why true e h =
        let on = R.viable x t why (one (x ++ t) (stopped why t) e h) in
        record { more = on.more; value = on.value; ends = λ u tight. inl (on.ends u tight) }
    viable_by x t why false e h =
        let on = Q.viable x t why (two (x ++ t) (stopped why t) e h) in
        record { more = on.more; value = on.value; ends = λ u tight. inr (on.ends u tight) }

    solid_by : (t : List ℕ) (a : A) (b : Bool) → asks (first t) ≡ b → choice asks r q t ≡ read a t → ⊥
    solid_by t a true e h = R.solid t a (one t (read a t) e h)
    solid_by t a false e h = Q.solid t a (two t (read a t) e h)

    level_by : (x t : List ℕ) (a : A) (b : Bool) → asks (first (x ++ t)) ≡ b → choice asks r q (x ++ t) ≡ read a t → IsLevel d e x
    level_by x t a true e2 h = R.level x t a (one (x ++ t) (read a t) e2 h)
    level_by x t a false e2 h = Q.level x t a (two (x ++ t) (read a t) e2 h)

    opens_by : (x t : List ℕ) (b : Bool) → asks (first (x ++ t)) ≡ b → choice asks r q (x ++ t) ≡ stopped stop.Deep t → Ends (Either W V) (x ++ (40 ∷ []))
    opens_by x t true e2 h =
        let on = R.opens x t (one (x ++ t) (stopped stop.Deep t) e2 h) in
        record { more = on.more; value = on.value; ends = λ u tight. inl (on.ends u tight) }
    opens_by x t false e2 h =
        let on = Q.opens x t (two (x ++ t) (stopped stop.Deep t) e2 h) in
        record { more = on.more; value = on.value; ends = λ u tight. inr (on.ends u tight) }

    deep_by : (x t : List ℕ) (b : Bool) → asks (first (x ++ t)) ≡ b → choice asks r q (x ++ t) ≡ stopped stop.Deep t → IsDeep d x t
    deep_by x t true e2 h = R.deep x t (one (x ++ t) (stopped stop.Deep t) e2 h)
    deep_by x t false e2 h = Q.deep x t (two (x ++ t) (stopped stop.Deep t) e2 h)

    shallow_by : (x t : List ℕ) (o : Result A Stop) (b : Bool) → asks (first (x ++ t)) ≡ b → choice asks r q (x ++ t) ≡ left_at o t → IsShallow d x
    shallow_by x t o true e2 h = R.shallow x t o (one (x ++ t) (left_at o t) e2 h)
    shallow_by x t o false e2 h = Q.shallow x t o (two (x ++ t) (left_at o t) e2 h)

-- ---- a parenthesis that is one too many

pub record Opened {A : Type 0} (P V : Language A) : Type 0 where
  pub opened : (s t : List ℕ) (a : A) → P a s t → is_open (first s) ≡ true
  pub other : (s t : List ℕ) (a : A) → V a s t → is_open (first s) ≡ false
  pub some : Ends P (40 ∷ [])

opened_is : (o : Option ℕ) → is_open o ≡ true → o ≡ Some 40
opened_is None e = absurd (cc)
opened_is (Some byte) e = ap (λ (b : ℕ). Some b) (eqb-true byte 40 e)

pub unopened_exact : {A : Type 0} (q : Reader A) (M V P : Language A) (F : Option ℕ → Bool) (n : ℕ) → Exact M V F 0 0 n q → Opened P V → Exact M (Either P V) F 0 0 n (unopened q)
unopened_exact {A = A} q M V P F n Q kinds = record {
  front = λ s. front_by s (is_open (first s)) refl;
  local = λ x t u o h same. local_by x t u o same (is_open (first (x ++ t))) refl h;
  spaced = λ x t u a h tight may. spaced_by x t u a tight may (is_open (first (x ++ t))) refl h;
  takes = λ s t a h. Q.takes s t a (reads s (read a t) a t refl (is_open (first s)) refl h);
  wide = λ s t a h. inr (Q.wide s t a h);
  again = again_by;
  full = λ s t a h may short. other s (kinds.other s t a (Q.wide s t a h)) ∙ Q.full s t a h may short;
  lasts = λ s short h. lasts_by s short (is_open (first s)) refl h;
  viable = λ x t why h. viable_by x t why (is_open (first (x ++ t))) refl h;
  some = Q.some;
  solid = λ t a h. Q.solid t a (reads t (read a t) a t refl (is_open (first t)) refl h);
  level = λ x t a h. Q.level x t a (reads (x ++ t) (read a t) a t refl (is_open (first (x ++ t))) refl h);
  deep = λ x t h. deep_by x t (is_open (first (x ++ t))) refl h;
  opens = λ x t h. opens_by x t (is_open (first (x ++ t))) refl h;
  shallow = λ x t o h. shallow_by x t o (is_open (first (x ++ t))) refl h;
}
  where
    open_here : (s : List ℕ) → is_open (first s) ≡ true → unopened q s ≡ stopped stop.Deep s
    open_here s e = ap (λ (b : Bool). if b then stopped stop.Deep s else q s) e

    other : (s : List ℕ) → is_open (first s) ≡ false → unopened q s ≡ q s
    other s e = ap (λ (b : Bool). if b then stopped stop.Deep s else q s) e

    -- what stops here has read nothing
    nothing : (x t : List ℕ) (o : Result A Stop) → is_open (first (x ++ t)) ≡ true → unopened q (x ++ t) ≡ left_at o t → (x ≡ []) × (o ≡ Err stop.Deep)
    nothing x t o e h =
        let at = sym (open_here (x ++ t) e) ∙ h in
        (append_cancel_right x [] t (ap (λ (w : Reading A). w.left) at), sym (ap (λ (w : Reading A). w.outcome) at))

    reads : (s : List ℕ) (w : Reading A) (a : A) (t : List ℕ) → w ≡ read a t → (b : Bool) → is_open (first s) ≡ b → unopened q s ≡ w → q s ≡ w
    reads s w a t is true e h = let at = ap (λ (v : Reading A). v.outcome) (sym (open_here s e) ∙ (h ∙ is)) in absurd (wrong a at)
      where
        wrong : (v : A) → ◌≡◌ {A = Result A Stop} (Err stop.Deep) (Ok v) → ⊥
        wrong v e2 = absurd (cc)
    reads s w a t is false e h = sym (other s e) ∙ h

    front_by : (s : List ℕ) (b : Bool) → is_open (first s) ≡ b → Front s (unopened q s).left
    front_by s true e = subst (λ (w : Reading A). Front s w.left) (sym (open_here s e)) (record { before = []; parts = refl })
    front_by s false e = subst (λ (w : Reading A). Front s w.left) (sym (other s e)) (Q.front s)

    local_by : (x t u : List ℕ) (o : Result A Stop) → first t ≡ first u → (b : Bool) → is_open (first (x ++ t)) ≡ b → unopened q (x ++ t) ≡ left_at o t → unopened q (x ++ u) ≡ left_at o u
    local_by x t u o same true e h =
        let none = nothing x t o e h in
        open_here (x ++ u) (ap is_open (sym (first_after x t u same)) ∙ e)
        ∙ (ap (λ (l : List ℕ). stopped stop.Deep (l ++ u)) none.0 ∙ ap (λ (v : Result A Stop). left_at v u) (sym none.1))
    local_by x t u o same false e h =
        other (x ++ u) (ap is_open (sym (first_after x t u same)) ∙ e) ∙ Q.local x t u o (sym (other (x ++ t) e) ∙ h) same

    spaced_by : (x t u : List ℕ) (a : A) → IsTight u → F (first u) ≡ true → (b : Bool) → is_open (first (x ++ t)) ≡ b → unopened q (x ++ t) ≡ read a t → unopened q (x ++ (32 ∷ u)) ≡ read a u
    spaced_by x t u a tight may b e h =
        let ran = reads (x ++ t) (read a t) a t refl b e h in
        let shut = by_value b e in
        other (x ++ (32 ∷ u)) (ap is_open (sym (first_of_more x t (32 ∷ u) (front_not_empty q x t a Q.solid ran))) ∙ shut) ∙ Q.spaced x t u a ran tight may
      where
        by_value : (v : Bool) → is_open (first (x ++ t)) ≡ v → is_open (first (x ++ t)) ≡ false
        by_value false e2 = e2
        by_value true e2 = absurd (wrong (sym (nothing x t (Ok a) e2 h).1))
          where
            wrong : ◌≡◌ {A = Result A Stop} (Err stop.Deep) (Ok a) → ⊥
            wrong e3 = absurd (cc)

    again_by : (s t : List ℕ) (a : A) → Either P V a s t → F (first t) ≡ true → (unopened q s ≡ read a t) ⊎ GivesUp (unopened q s).outcome
    again_by s t a (inl h) may = inr (subst (λ (w : Reading A). GivesUp w.outcome) (sym (open_here s (kinds.opened s t a h))) tt)
    again_by s t a (inr h) may = by_reading (Q.again s t a h may)
      where
        by_reading : (q s ≡ read a t) ⊎ GivesUp (q s).outcome → (unopened q s ≡ read a t) ⊎ GivesUp (unopened q s).outcome
        by_reading (inl ran) = inl (other s (kinds.other s t a h) ∙ ran)
        by_reading (inr gave) = inr (subst (λ (w : Reading A). GivesUp w.outcome) (sym (other s (kinds.other s t a h))) gave)

    lasts_by : (s : List ℕ) → length s < n → (b : Bool) → is_open (first s) ≡ b → (unopened q s).outcome ≡ Err stop.Spent → ⊥
    lasts_by s short true e h = wrong (ap (λ (w : Reading A). w.outcome) (sym (open_here s e)) ∙ h)
      where
        wrong : ◌≡◌ {A = Result A Stop} (Err stop.Deep) (Err stop.Spent) → ⊥
        wrong e2 = absurd (cc)
    lasts_by s short false e h = Q.lasts s short (ap (λ (w : Reading A). w.outcome) (sym (other s e)) ∙ h)

    viable_by : (x t : List ℕ) (why : Stop) (b : Bool) → is_open (first (x ++ t)) ≡ b → unopened q (x ++ t) ≡ stopped why t → Ends M x
    viable_by x t why true e h =
        let none = (nothing x t (Err why) e h).0 in
        record {
          more = Q.some.byte ∷ Q.some.others;
          value = Q.some.value;
          ends = λ u tight. subst (λ (l : List ℕ). M Q.some.value (l ++ (Q.some.byte ∷ (Q.some.others ++ u))) u) (sym none) (Q.some.ends u tight);
        }
    viable_by x t why false e h = Q.viable x t why (sym (other (x ++ t) e) ∙ h)

    opens_by : (x t : List ℕ) (b : Bool) → is_open (first (x ++ t)) ≡ b → unopened q (x ++ t) ≡ stopped stop.Deep t → Ends (Either P V) (x ++ (40 ∷ []))
    opens_by x t true e h =
        let none = (nothing x t (Err stop.Deep) e h).0 in
        record {
          more = kinds.some.more;
          value = kinds.some.value;
          ends = λ u tight. inl (subst (λ (l : List ℕ). P kinds.some.value ((l ++ (40 ∷ [])) ++ (kinds.some.more ++ u)) u) (sym none) (kinds.some.ends u tight));
        }
    opens_by x t false e h =
        let on = Q.opens x t (sym (other (x ++ t) e) ∙ h) in
        record { more = on.more; value = on.value; ends = λ u tight. inr (on.ends u tight) }

    deep_by : (x t : List ℕ) (b : Bool) → is_open (first (x ++ t)) ≡ b → unopened q (x ++ t) ≡ stopped stop.Deep t → IsDeep 0 x t
    deep_by x t true e h =
        let none = (nothing x t (Err stop.Deep) e h).0 in
        let opened = ap (count 40) none in
        let closed = ap (count 41) none in
        (opened_is (first t) (subst (λ (l : List ℕ). is_open (first (l ++ t)) ≡ true) none e), omega (arith, opened, closed))
    deep_by x t false e h = Q.deep x t (sym (other (x ++ t) e) ∙ h)

    shallow_by : (x t : List ℕ) (o : Result A Stop) (b : Bool) → is_open (first (x ++ t)) ≡ b → unopened q (x ++ t) ≡ left_at o t → IsShallow 0 x
    shallow_by x t o true e h = subst (IsShallow 0) (sym (nothing x t o e h).0) (λ p q2 parts. absurd (no_parts p q2 parts))
      where
        no_parts : (p q2 : List ℕ) → [] ≡ p ++ (40 ∷ q2) → ⊥
        no_parts [] q2 parts = absurd (cc)
        no_parts (c ∷ p) q2 parts = absurd (cc)
    shallow_by x t o false e h = Q.shallow x t o (sym (other (x ++ t) e) ∙ h)
