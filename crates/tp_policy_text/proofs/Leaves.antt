-- Tokens, read byte by byte by a machine of states: where each state can be led to an end, the reader is exact.
use Rattle.std.proofs.lemmas.Bool.{eqb-true}
use Rattle.std.proofs.Common.{◌≡◌, ◌⊎◌, inl, inr, ℕ, ◌+◌, ◌<◌, ◌==◌, List, [], ◌∷◌, ◌++◌, length, Bool, true, false, Option, Some, None, Result, Ok, Err, refl, ◌≤◌, sym, ap, subst, ◌∙◌, arith, if◌then◌else◌}
use Rattle.std.proofs.lemmas.List.{append-nil, append_assoc, append_cancel_right, length-append}
use Rattle.std.proofs.lemmas.Option.{same_Some}
use Rattle.tp_policy_text.specs.declared.halt.Stop.{Stop}
use Rattle.tp_policy_text.specs.declared.halt.Stop.TheVariants as stop
use Rattle.tp_policy_text.specs.Lexis.{count, first, is_blank, skip}
use Rattle.tp_policy_text.specs.mirrors.Readings.{Reading, ended, machine, read, taken}
use Rattle.tp_policy_text.proofs.Exact.{Ends, Exact, Front, IsDeep, IsLevel, IsShallow, Starts, left_at}
use Rattle.tp_policy_text.proofs.Texts.{IsTight, count_append, first_after, skip_skip, stands_in, InFirst, InSecond, empty_front, tight_byte}

-- ---- blanks behind a token

-- a text of blanks
abbrev pub AreBlank : List ℕ → Type 0
AreBlank [] = Unit {0}
AreBlank (byte ∷ others) = (is_blank byte ≡ true) × AreBlank others

pub record Skipped (s : List ℕ) : Type 0 where
  pub blanks : List ℕ
  pub are : AreBlank blanks
  pub parts : s ≡ blanks ++ skip s

pub skipped : (s : List ℕ) → Skipped s
skipped [] = record { blanks = []; are = tt; parts = refl }
skipped (byte ∷ others) = by_blank (is_blank byte) refl (skipped others)
  where
    by_blank : (b : Bool) → is_blank byte ≡ b → Skipped others → Skipped (byte ∷ others)
    by_blank true e later = record {
      blanks = byte ∷ later.blanks;
      are = (e, later.are);
      parts = ap (λ l. byte ∷ l) later.parts ∙ ap (λ (b : Bool). byte ∷ (later.blanks ++ (if b then skip others else byte ∷ others))) (sym e);
    }
    by_blank false e later = record {
      blanks = [];
      are = tt;
      parts = ap (λ (b : Bool). if b then skip others else byte ∷ others) (sym e);
    }

pub skip_blanks : (blanks s : List ℕ) → AreBlank blanks → skip (blanks ++ s) ≡ skip s
skip_blanks [] s h = refl
skip_blanks (byte ∷ blanks) s h = ap (λ (b : Bool). if b then skip (blanks ++ s) else byte ∷ (blanks ++ s)) h.0 ∙ skip_blanks blanks s h.1

pub skip_shorter : (s : List ℕ) → length (skip s) ≤ length s
skip_shorter s = let sum = ap length (skipped s).parts ∙ length-append (skipped s).blanks (skip s) in omega (arith, sum)

-- the first byte of a text that begins with no blank
pub tight_head : (byte : ℕ) (others : List ℕ) → IsTight (byte ∷ others) → is_blank byte ≡ false
tight_head byte others h = by_blank (is_blank byte) refl
  where
    by_blank : (v : Bool) → is_blank byte ≡ v → v ≡ false
    by_blank false e = refl
    by_blank true e =
        let same : skip others ≡ byte ∷ others = sym (ap (λ (w : Bool). if w then skip others else byte ∷ others) e) ∙ h in
        let sum = ap length same in
        let less = skip_shorter others in
        absurd (omega (arith, sum, less))

-- a text with the same first byte begins with no blank either
pub tight_as : (s u : List ℕ) → first s ≡ first u → IsTight s → IsTight u
tight_as s [] same h = refl
tight_as [] (byte ∷ others) same h = absurd (cc)
tight_as (b ∷ bs) (byte ∷ others) same h =
    tight_byte byte others (ap is_blank (sym (same_Some b byte same)) ∙ tight_head b bs h)

-- ---- what a machine did

-- the states of a machine along a text
abbrev pub Goes : {S : Type 0} → (S → ℕ → Option S) → S → List ℕ → S → Type 0
Goes step state [] last = state ≡ last
Goes {S = S} step state (byte ∷ others) last = (next : S) × (step state byte ≡ Some next) × Goes step next others last

-- the state that takes what comes next
abbrev pub next_of : {S : Type 0} → (S → ℕ → Option S) → S → Option ℕ → Option S
next_of step state None = None
next_of step state (Some byte) = step state byte

pub record Run {S : Type 0} {A : Type 0} (step : S → ℕ → Option S) (final : S → Option ℕ → Option A) (state : S) (s : List ℕ) : Type 0 where
  pub text : List ℕ
  pub after : List ℕ
  pub last : S
  pub parts : s ≡ text ++ after
  pub goes : Goes step state text last
  pub halts : next_of step last (first after) ≡ None
  pub is : machine step final state s ≡ ended (final last (first after)) after

pub run : {S : Type 0} {A : Type 0} (step : S → ℕ → Option S) (final : S → Option ℕ → Option A) (state : S) (s : List ℕ) → Run step final state s
run step final state [] = record { text = []; after = []; last = state; parts = refl; goes = refl; halts = refl; is = refl }
run {S = S} {A = A} step final state (byte ∷ others) = by_step (step state byte) refl (λ next. run step final next others)
  where
    here : Reading A
    here = ended (final state (Some byte)) (byte ∷ others)

    by_step : (taken_to : Option S) → step state byte ≡ taken_to → ((next : S) → Run step final next others) → Run step final state (byte ∷ others)
    by_step None e later = record {
      text = [];
      after = byte ∷ others;
      last = state;
      parts = refl;
      goes = refl;
      halts = e;
      is = ap (λ (o : Option S). taken o (ended (final state (Some byte)) (byte ∷ others)) (λ next. machine step final next others)) e;
    }
    by_step (Some next) e later = let rest = later next in record {
      text = byte ∷ rest.text;
      after = rest.after;
      last = rest.last;
      parts = ap (λ l. byte ∷ l) rest.parts;
      goes = (next, e, rest.goes);
      halts = rest.halts;
      is = ap (λ (o : Option S). taken o (ended (final state (Some byte)) (byte ∷ others)) (λ next. machine step final next others)) e ∙ rest.is;
    }

-- a machine that went along a text goes on from there
pub went : {S : Type 0} {A : Type 0} (step : S → ℕ → Option S) (final : S → Option ℕ → Option A) (state last : S) (text after : List ℕ) → Goes step state text last
    → machine step final state (text ++ after) ≡ machine step final last after
went step final state last [] after h = ap (λ st. machine step final st after) h
went {S = S} step final state last (byte ∷ text) after h =
    ap (λ (o : Option S). taken o (ended (final state (Some byte)) (byte ∷ (text ++ after))) (λ next. machine step final next (text ++ after))) h.1
    ∙ went step final h.0 last text after h.2

pub halted : {S : Type 0} {A : Type 0} (step : S → ℕ → Option S) (final : S → Option ℕ → Option A) (last : S) (after : List ℕ) → next_of step last (first after) ≡ None
    → machine step final last after ≡ ended (final last (first after)) after
halted step final last [] h = refl
halted {S = S} step final last (byte ∷ others) h =
    ap (λ (o : Option S). taken o (ended (final last (Some byte)) (byte ∷ others)) (λ next. machine step final next others)) h

-- ---- the language of a machine

pub record IsLeaf {S : Type 0} {A : Type 0} (step : S → ℕ → Option S) (final : S → Option ℕ → Option A) (state : S) (a : A) (s t : List ℕ) : Type 0 where
  pub text : List ℕ
  pub after : List ℕ
  pub last : S
  pub parts : s ≡ text ++ after
  pub goes : Goes step state text last
  pub halts : next_of step last (first after) ≡ None
  pub ends : final last (first after) ≡ Some a
  pub left : t ≡ skip after

-- ---- exact

-- what a machine must keep, for its reader to be exact
pub record Sound {S : Type 0} {A : Type 0} (step : S → ℕ → Option S) (final : S → Option ℕ → Option A) (start : S) (d e : ℕ) : Type 0 where
  -- a token that may end may end before a blank
  pub blank : (state : S) (o : Option ℕ) (a : A) → final state o ≡ Some a → (step state 32 ≡ None) × (final state (Some 32) ≡ Some a)
  -- no token is empty
  pub solid : (o : Option ℕ) (a : A) → final start o ≡ Some a → ⊥
  -- each state can be led to an end
  pub finish : (state : S) → Ends (λ (a : A) s t. machine step final state s ≡ read a t) []
  pub some : Starts (λ (a : A) s t. machine step final start s ≡ read a t)
  -- the parentheses of a token
  pub level : (text : List ℕ) (last : S) (o : Option ℕ) (a : A) → Goes step start text last → final last o ≡ Some a → IsLevel d e text
  pub shallow : (text : List ℕ) (last : S) → Goes step start text last → IsShallow d text

-- a blank is no other byte
not_blank : (byte sign : ℕ) → is_blank byte ≡ true → is_blank sign ≡ false → (byte == sign) ≡ false
not_blank byte sign h other = by_same (byte == sign) refl
  where
    by_same : (b : Bool) → (byte == sign) ≡ b → b ≡ false
    by_same false e = refl
    by_same true e = let both = sym h ∙ (ap is_blank (eqb-true byte sign e) ∙ other) in absurd (cc)

pub no_parens : (blanks : List ℕ) → AreBlank blanks → (count 40 blanks ≡ 0) × (count 41 blanks ≡ 0)
no_parens [] h = (refl, refl)
no_parens (byte ∷ blanks) h =
    let later = no_parens blanks h.1 in
    let none_opened = later.0 in
    let none_closed = later.1 in
    let opens = ap {B = ℕ} (λ (b : Bool). if b then 1 else 0) (not_blank byte 40 h.0 refl) in
    let closes = ap {B = ℕ} (λ (b : Bool). if b then 1 else 0) (not_blank byte 41 h.0 refl) in
    (omega (arith, none_opened, opens), omega (arith, none_closed, closes))

pub no_paren_in : (blanks p q : List ℕ) → AreBlank blanks → blanks ≡ p ++ (40 ∷ q) → ⊥
no_paren_in blanks p q h e =
    let none = (no_parens blanks h).0 in
    let sum = ap (count 40) e ∙ count_append 40 p (40 ∷ q) in
    omega (arith, none, sum)

abbrev pub any_next : Option ℕ → Bool
any_next o = true

pub leaf_exact : {S : Type 0} {A : Type 0} (step : S → ℕ → Option S) (final : S → Option ℕ → Option A) (start : S) (d e n : ℕ) → Sound step final start d e
    → Exact (IsLeaf step final start) (IsLeaf step final start) any_next d e n (machine step final start)
leaf_exact {S = S} {A = A} step final start d e n K = record {
  front = λ s. front_by s (run step final start s);
  local = λ x t u o h same. local_by x t u o same (cut x t o h);
  spaced = λ x t u a h tight may. spaced_by x t u a tight (cut x t (Ok a) h);
  takes = takes;
  wide = λ s t a h. h;
  again = λ s t a h may. inl (reads s t a h);
  full = λ s t a h may short. reads s t a h;
  lasts = λ s short h. lasts_by s (run step final start s) h;
  viable = λ x t why h. viable_by x t why (cut x t (Err why) h);
  some = record {
    byte = K.some.byte;
    others = K.some.others;
    value = K.some.value;
    tight = K.some.tight;
    ends = λ u tight. takes (K.some.byte ∷ (K.some.others ++ u)) u K.some.value (K.some.ends u tight);
  };
  solid = λ t a h. solid_by t a (cut [] t (Ok a) h);
  level = λ x t a h. level_by x t a (cut x t (Ok a) h);
  deep = λ x t h. deep_by x t (cut x t (Err stop.Deep) h);
  opens = λ x t h. absurd (not_deep x t (cut x t (Err stop.Deep) h));
  shallow = λ x t o h. shallow_by x t o (cut x t o h);
}
  where
    ended_front : (o : Option A) (after : List ℕ) → Front after (ended o after).left
    ended_front None after = record { before = []; parts = refl }
    ended_front (Some a) after = record { before = (skipped after).blanks; parts = (skipped after).parts }

    front_by : (s : List ℕ) → Run step final start s → Front s (machine step final start s).left
    front_by s h = let rest = ended_front (final h.last (first h.after)) h.after in record {
      before = h.text ++ rest.before;
      parts = h.parts ∙ (ap (λ l. h.text ++ l) (rest.parts ∙ ap (λ (w : Reading A). rest.before ++ w.left) (sym h.is)) ∙ sym (append_assoc h.text rest.before (machine step final start s).left));
    }

    -- stopped in the token, or ended with blanks behind it
    Stuck : List ℕ → List ℕ → Result A Stop → Type 0
    Stuck x t o = (last : S) × Goes step start x last × (next_of step last (first t) ≡ None) × (final last (first t) ≡ None) × (o ≡ Err stop.Syntax)

    Whole : List ℕ → List ℕ → Result A Stop → Type 0
    Whole x t o = (text : List ℕ) × ((blanks : List ℕ) × ((last : S) × ((a : A) × ((x ≡ text ++ blanks) × AreBlank blanks × Goes step start text last × (next_of step last (first (blanks ++ t)) ≡ None)
        × (final last (first (blanks ++ t)) ≡ Some a) × IsTight t × (o ≡ Ok a)))))

    cut : (x t : List ℕ) (o : Result A Stop) → machine step final start (x ++ t) ≡ left_at o t → Stuck x t o ⊎ Whole x t o
    cut x t o h = by_end (final found.last (first found.after)) refl (sym found.is ∙ h)
      where
        found : Run step final start (x ++ t)
        found = run step final start (x ++ t)

        by_end : (end : Option A) → final found.last (first found.after) ≡ end → ended (final found.last (first found.after)) found.after ≡ left_at o t → Stuck x t o ⊎ Whole x t o
        by_end None is h2 =
            let at = ap (λ (end : Option A). ended end found.after) (sym is) ∙ h2 in
            let here : found.after ≡ t = ap (λ (w : Reading A). w.left) at in
            let text_is : x ≡ found.text = append_cancel_right x found.text t (found.parts ∙ ap (λ l. found.text ++ l) here) in
            inl (
              found.last,
              subst (λ l. Goes step start l found.last) (sym text_is) found.goes,
              subst (λ l. next_of step found.last (first l) ≡ None) here found.halts,
              subst (λ l. final found.last (first l) ≡ None) here is,
              sym (ap (λ (w : Reading A). w.outcome) at),
            )
        by_end (Some a) is h2 =
            let at = ap (λ (end : Option A). ended end found.after) (sym is) ∙ h2 in
            let here : skip found.after ≡ t = ap (λ (w : Reading A). w.left) at in
            let rest = skipped found.after in
            let after_is : found.after ≡ rest.blanks ++ t = rest.parts ∙ ap (λ l. rest.blanks ++ l) here in
            let text_is : x ≡ found.text ++ rest.blanks =
            append_cancel_right x (found.text ++ rest.blanks) t (found.parts ∙ (ap (λ l. found.text ++ l) after_is ∙ sym (append_assoc found.text rest.blanks t))) in
            inr (
              found.text,
              (
                rest.blanks,
                (
                  found.last,
                  (
                    a,
                    (
                      text_is,
                      rest.are,
                      found.goes,
                      subst (λ l. next_of step found.last (first l) ≡ None) after_is found.halts,
                      subst (λ l. final found.last (first l) ≡ Some a) after_is is,
                      subst IsTight here (skip_skip found.after),
                      sym (ap (λ (w : Reading A). w.outcome) at),
                    ),
                  ),
                ),
              ),
            )

    -- a token and what follows it
    goes_to : (text after : List ℕ) (last : S) (end : Option A) → Goes step start text last → next_of step last (first after) ≡ None → final last (first after) ≡ end
        → machine step final start (text ++ after) ≡ ended end after
    goes_to text after last end goes halts is =
        went step final start last text after goes ∙ (halted step final last after halts ∙ ap (λ (o : Option A). ended o after) is)

    local_by : (x t u : List ℕ) (o : Result A Stop) → first t ≡ first u → Stuck x t o ⊎ Whole x t o → machine step final start (x ++ u) ≡ left_at o u
    local_by x t u o same (inl (last, goes, halts, is, outcome)) =
        goes_to x u last None goes (subst (λ b. next_of step last b ≡ None) same halts) (subst (λ b. final last b ≡ None) same is)
        ∙ ap (λ (w : Result A Stop). left_at w u) (sym outcome)
    local_by x t u o same (inr (text, (blanks, (last, (a, (parts, are, goes, halts, is, tight, outcome)))))) =
        let next_same = first_after blanks t u same in
        ap (λ l. machine step final start l) (ap (λ l. l ++ u) parts ∙ append_assoc text blanks u)
        ∙ (goes_to text (blanks ++ u) last (Some a) goes (subst (λ b. next_of step last b ≡ None) next_same halts) (subst (λ b. final last b ≡ Some a) next_same is)
        ∙ (ap (λ l. read a l) (skip_blanks blanks u are ∙ tight_as t u same tight) ∙ ap (λ (w : Result A Stop). left_at w u) (sym outcome)))

    wrong : (a : A) (why : Stop) → ◌≡◌ {A = Result A Stop} (Ok a) (Err why) → ⊥
    wrong a why h = absurd (cc)

    same_value : (a b : A) → ◌≡◌ {A = Result A Stop} (Ok a) (Ok b) → a ≡ b
    same_value a b h = ap value_of h
      where
        value_of : Result A Stop → A
        value_of (Ok c) = c
        value_of (Err why) = a

    spaced_by : (x t u : List ℕ) (a : A) → IsTight u → Stuck x t (Ok a) ⊎ Whole x t (Ok a) → machine step final start (x ++ (32 ∷ u)) ≡ read a u
    spaced_by x t u a tight (inl (last, goes, halts, is, outcome)) = absurd (wrong a stop.Syntax outcome)
    spaced_by x t u a tight (inr (text, (blanks, (last, (b, (parts, are, goes, halts, is, tight_t, outcome)))))) = by_blanks blanks parts are halts is
      where
        by_blanks : (bs : List ℕ) → x ≡ text ++ bs → AreBlank bs → next_of step last (first (bs ++ t)) ≡ None → final last (first (bs ++ t)) ≡ Some b → machine step final start (x ++ (32 ∷ u)) ≡ read a u
        by_blanks [] parts2 are2 halts2 is2 =
            ap (λ l. machine step final start (l ++ (32 ∷ u))) (parts2 ∙ append-nil text)
            ∙ (goes_to text (32 ∷ u) last (Some b) goes (K.blank last (first t) b is2).0 (K.blank last (first t) b is2).1
            ∙ (ap (λ l. read b l) tight ∙ ap (λ (w : A). read w u) (sym (same_value a b outcome))))
        by_blanks (c ∷ bs) parts2 are2 halts2 is2 =
            ap (λ l. machine step final start l) (ap (λ l. l ++ (32 ∷ u)) parts2 ∙ append_assoc text (c ∷ bs) (32 ∷ u))
            ∙ (goes_to text (c ∷ (bs ++ (32 ∷ u))) last (Some b) goes halts2 is2
            ∙ (ap (λ l. read b l) (skip_blanks (c ∷ bs) (32 ∷ u) are2 ∙ tight) ∙ ap (λ (w : A). read w u) (sym (same_value a b outcome))))

    takes : (s t : List ℕ) (a : A) → machine step final start s ≡ read a t → IsLeaf step final start a s t
    takes s t a h = by_end (final found.last (first found.after)) refl (sym found.is ∙ h)
      where
        found : Run step final start s
        found = run step final start s

        by_end : (end : Option A) → final found.last (first found.after) ≡ end → ended (final found.last (first found.after)) found.after ≡ read a t → IsLeaf step final start a s t
        by_end None is h2 =
            let at = ap (λ (end : Option A). ended end found.after) (sym is) ∙ h2 in
            absurd (wrong a stop.Syntax (sym (ap (λ (w : Reading A). w.outcome) at)))
        by_end (Some b) is h2 =
            let at = ap (λ (end : Option A). ended end found.after) (sym is) ∙ h2 in
            record {
              text = found.text;
              after = found.after;
              last = found.last;
              parts = found.parts;
              goes = found.goes;
              halts = found.halts;
              ends = is ∙ ap (λ (w : A). Some w) (same_value b a (ap (λ (w : Reading A). w.outcome) at));
              left = sym (ap (λ (w : Reading A). w.left) at);
            }

    reads : (s t : List ℕ) (a : A) → IsLeaf step final start a s t → machine step final start s ≡ read a t
    reads s t a h =
        ap (λ l. machine step final start l) h.parts
        ∙ (goes_to h.text h.after h.last (Some a) h.goes h.halts h.ends ∙ ap (λ l. read a l) (sym h.left))

    lasts_by : (s : List ℕ) → Run step final start s → (machine step final start s).outcome ≡ Err stop.Spent → ⊥
    lasts_by s h e2 = by_end (final h.last (first h.after)) (sym (ap (λ (w : Reading A). w.outcome) h.is) ∙ e2)
      where
        by_end : (end : Option A) → (ended end h.after).outcome ≡ Err stop.Spent → ⊥
        by_end None e3 = absurd (cc)
        by_end (Some a) e3 = wrong a stop.Spent e3

    viable_by : (x t : List ℕ) (why : Stop) → Stuck x t (Err why) ⊎ Whole x t (Err why) → Ends (IsLeaf step final start) x
    viable_by x t why (inl (last, goes, halts, is, outcome)) =
        let on = K.finish last in
        record {
          more = on.more;
          value = on.value;
          ends = λ u tight. takes (x ++ (on.more ++ u)) u on.value (went step final start last x (on.more ++ u) goes ∙ on.ends u tight);
        }
    viable_by x t why (inr (text, (blanks, (last, (a, (parts, are, goes, halts, is, tight, outcome)))))) = absurd (wrong a why (sym outcome))

    solid_by : (t : List ℕ) (a : A) → Stuck [] t (Ok a) ⊎ Whole [] t (Ok a) → ⊥
    solid_by t a (inl (last, goes, halts, is, outcome)) = wrong a stop.Syntax outcome
    solid_by t a (inr (text, (blanks, (last, (b, (parts, are, goes, halts, is, tight, outcome)))))) =
        let same : start ≡ last = subst (λ l. Goes step start l last) (empty_front text blanks parts) goes in
        K.solid (first (blanks ++ t)) b (subst (λ (w : S). final w (first (blanks ++ t)) ≡ Some b) (sym same) is)

    level_by : (x t : List ℕ) (a : A) → Stuck x t (Ok a) ⊎ Whole x t (Ok a) → IsLevel d e x
    level_by x t a (inl (last, goes, halts, is, outcome)) = absurd (wrong a stop.Syntax outcome)
    level_by x t a (inr (text, (blanks, (last, (b, (parts, are, goes, halts, is, tight, outcome)))))) =
        let level = K.level text last (first (blanks ++ t)) b goes is in
        let none = no_parens blanks are in
        let none_opened = none.0 in
        let none_closed = none.1 in
        let opened = ap (count 40) parts ∙ count_append 40 text blanks in
        let closed = ap (count 41) parts ∙ count_append 41 text blanks in
        omega (arith, level, none_opened, none_closed, opened, closed)

    deep_by : (x t : List ℕ) → Stuck x t (Err stop.Deep) ⊎ Whole x t (Err stop.Deep) → IsDeep d x t
    deep_by x t (inl (last, goes, halts, is, outcome)) = absurd (cc)
    deep_by x t (inr (text, (blanks, (last, (b, (parts, are, goes, halts, is, tight, outcome)))))) = absurd (wrong b stop.Deep (sym outcome))

    not_deep : (x t : List ℕ) → Stuck x t (Err stop.Deep) ⊎ Whole x t (Err stop.Deep) → ⊥
    not_deep x t (inl (last, goes, halts, is, outcome)) = absurd (cc)
    not_deep x t (inr (text, (blanks, (last, (b, (parts, are, goes, halts, is, tight, outcome)))))) = wrong b stop.Deep (sym outcome)

    shallow_by : (x t : List ℕ) (o : Result A Stop) → Stuck x t o ⊎ Whole x t o → IsShallow d x
    shallow_by x t o (inl (last, goes, halts, is, outcome)) = K.shallow x last goes
    shallow_by x t o (inr (text, (blanks, (last, (b, (parts, are, goes, halts, is, tight, outcome)))))) =
        λ p q e2. by_place p q (stands_in text blanks p q 40 (sym parts ∙ e2))
      where
        by_place : (p q : List ℕ) → InFirst text p 40 ⊎ InSecond text blanks p q 40 → count 40 p < count 41 p + d
        by_place p q (inl i) = K.shallow text last goes p i.after i.parts
        by_place p q (inr i) = absurd (no_paren_in blanks i.before q are i.parts)
