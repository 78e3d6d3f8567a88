-- Words and signs are read exactly.
use Rattle.std.proofs.lemmas.Bool.{eqb-true}
use Rattle.std.proofs.Common.{◌≡◌, ℕ, ◌+◌, ◌<◌, ◌==◌, ◌&&◌, List, [], ◌∷◌, ◌++◌, Bool, true, false, Option, Some, None, refl, sym, ap, subst, ◌∙◌, arith, if◌then◌else◌}
use Rattle.std.proofs.lemmas.Option.{same_Some}
use Rattle.std.proofs.lemmas.List.{append-nil, append_assoc}
use Rattle.tp_types.proofs.ListLemmas.{number_itself}
use Rattle.tp_policy_text.specs.Lexis.{Token, count, first, in_word, is_blank}
use Rattle.tp_policy_text.specs.mirrors.Readers.{token_at, word_end, word_step}
use Rattle.tp_policy_text.specs.mirrors.Readings.{ended, machine, read}
use Rattle.tp_policy_text.proofs.Choices.{retell}
use Rattle.tp_policy_text.proofs.Exact.{Exact, IsLevel, IsShallow, Language}
use Rattle.tp_policy_text.proofs.Leaves.{Goes, IsLeaf, Sound, any_next, halted, leaf_exact, next_of, went}
use Rattle.tp_policy_text.proofs.Texts.{IsTight, count_append}

-- the token stands there, with this value
abbrev pub Says : {A : Type 0} → Bool → List ℕ → A → Language A
Says apart token known a s t = (a ≡ known) × Token apart token s t

same_step : (wanted byte : ℕ) (others next : List ℕ) → word_step (wanted ∷ others) byte ≡ Some next → (byte ≡ wanted) × (others ≡ next)
same_step wanted byte others next e = by_same (byte == wanted) refl
  where
    by_same : (b : Bool) → (byte == wanted) ≡ b → (byte ≡ wanted) × (others ≡ next)
    by_same true e2 = (eqb-true byte wanted e2, same_Some others next (sym (ap (λ (b : Bool). if b then Some others else None) e2) ∙ e))
    by_same false e2 = let wrong : None ≡ Some next = sym (ap (λ (b : Bool). if b then Some others else None) e2) ∙ e in absurd (cc)

-- a state is what is left of the token
pub went_along : (token text last : List ℕ) → Goes word_step token text last → token ≡ text ++ last
went_along token [] last h = h
went_along [] (byte ∷ text) last (next, e, later) = absurd (cc)
went_along (wanted ∷ others) (byte ∷ text) last (next, e, later) =
    let same = same_step wanted byte others next e in
    ap (λ (b : ℕ). b ∷ others) (sym same.0) ∙ (ap (λ l. byte ∷ l) same.1 ∙ ap (λ l. byte ∷ l) (went_along next text last later))

pub goes_along : (text last : List ℕ) → Goes word_step (text ++ last) text last
goes_along [] last = refl
goes_along (byte ∷ text) last = (text ++ last, ap (λ (b : Bool). if b then Some (text ++ last) else None) (number_itself byte), goes_along text last)

ended_word : {A : Type 0} (apart : Bool) (known : A) (last : List ℕ) (o : Option ℕ) (a : A) → word_end apart known last o ≡ Some a → (last ≡ []) × ((apart && in_word o) ≡ false) × (a ≡ known)
ended_word {A = A} apart known [] o a e = by_test (apart && in_word o) refl
  where
    by_test : (b : Bool) → (apart && in_word o) ≡ b → (◌≡◌ {A = List ℕ} [] []) × ((apart && in_word o) ≡ false) × (a ≡ known)
    by_test false e2 = (refl, e2, sym (same_Some known a (sym (ap (λ (b : Bool). if b then None else Some known) e2) ∙ e)))
    by_test true e2 = absurd (wrong (sym (ap (λ (b : Bool). if b then None else Some known) e2) ∙ e))
      where
        wrong : ◌≡◌ {A = Option A} None (Some a) → ⊥
        wrong e3 = absurd (cc)
ended_word {A = A} apart known (wanted ∷ others) o a e = absurd (wrong e)
  where
    wrong : ◌≡◌ {A = Option A} None (Some a) → ⊥
    wrong e3 = absurd (cc)

before_blank : {A : Type 0} (apart : Bool) (known : A) → word_end apart known [] (Some 32) ≡ Some known
before_blank true known = refl
before_blank false known = refl

-- from any state, what is left of the token and a blank is the end
to_the_end : {A : Type 0} (apart : Bool) (known : A) (token u : List ℕ) → IsTight u → machine word_step (word_end apart known) token (token ++ (32 ∷ u)) ≡ read known u
to_the_end {A = A} apart known token u tight =
    ap (λ l. machine word_step (word_end apart known) l (token ++ (32 ∷ u))) (sym (append-nil token))
    ∙ (went word_step (word_end apart known) (token ++ []) [] token (32 ∷ u) (goes_along token [])
    ∙ (halted word_step (word_end apart known) [] (32 ∷ u) refl
    ∙ (ap (λ (o : Option A). ended o (32 ∷ u)) (before_blank apart known) ∙ ap (λ l. read known l) tight)))

token_sound : {A : Type 0} (apart : Bool) (byte : ℕ) (others : List ℕ) (known : A) (d e : ℕ) → is_blank byte ≡ false → IsLevel d e (byte ∷ others) → IsShallow d (byte ∷ others)
    → Sound word_step (word_end apart known) (byte ∷ others) d e
token_sound {A = A} apart byte others known d e tight level shallow = record {
  blank = λ last o a h. let over = ended_word apart known last o a h in
      (ap (λ l. word_step l 32) over.0, ap (λ l. word_end apart known l (Some 32)) over.0 ∙ (before_blank apart known ∙ ap (λ (v : A). Some v) (sym over.2)));
  solid = λ o a h. no_end (ended_word apart known (byte ∷ others) o a h).0;
  finish = λ last. record {
    more = last ++ (32 ∷ []);
    value = known;
    ends = λ u tight_u. ap (λ l. machine word_step (word_end apart known) last l) (append_assoc last (32 ∷ []) u) ∙ to_the_end apart known last u tight_u;
  };
  some = record {
    byte = byte;
    others = others ++ (32 ∷ []);
    value = known;
    tight = tight;
    ends = λ u tight_u. ap (λ l. machine word_step (word_end apart known) (byte ∷ others) (byte ∷ l)) (append_assoc others (32 ∷ []) u) ∙ to_the_end apart known (byte ∷ others) u tight_u;
  };
  level = λ text last o a goes h. subst (IsLevel d e)
      (went_along (byte ∷ others) text last goes ∙ (ap (λ l. text ++ l) (ended_word apart known last o a h).0 ∙ append-nil text)) level;
  shallow = λ text last goes p q parts. shallow p (q ++ last)
      (went_along (byte ∷ others) text last goes ∙ (ap (λ l. l ++ last) parts ∙ append_assoc p (40 ∷ q) last));
}
  where
    no_end : byte ∷ others ≡ [] → ⊥
    no_end e2 = absurd (cc)

leaf_says : {A : Type 0} (apart : Bool) (token : List ℕ) (known a : A) (s t : List ℕ) → IsLeaf word_step (word_end apart known) token a s t → Says apart token known a s t
leaf_says apart token known a s t h =
    let over = ended_word apart known h.last (first h.after) a h.ends in
    let text_is : h.text ≡ token = sym (went_along token h.text h.last h.goes ∙ (ap (λ l. h.text ++ l) over.0 ∙ append-nil h.text)) in
    (over.2, record { after = h.after; begins = h.parts ∙ ap (λ l. l ++ h.after) text_is; is_apart = over.1; left_is = h.left })

says_leaf : {A : Type 0} (apart : Bool) (token : List ℕ) (known a : A) (s t : List ℕ) → Says apart token known a s t → IsLeaf word_step (word_end apart known) token a s t
says_leaf {A = A} apart token known a s t h = record {
  text = token;
  after = h.1.after;
  last = [];
  parts = h.1.begins;
  goes = subst (λ l. Goes word_step l token []) (append-nil token) (goes_along token []);
  halts = no_next (first h.1.after);
  ends = ap (λ (b : Bool). if b then None else Some known) h.1.is_apart ∙ ap (λ (v : A). Some v) (sym h.0);
  left = h.1.left_is;
}
  where
    no_next : (o : Option ℕ) → next_of word_step [] o ≡ None
    no_next None = refl
    no_next (Some byte) = refl

pub token_exact : {A : Type 0} (apart : Bool) (byte : ℕ) (others : List ℕ) (known : A) (d e n : ℕ) → is_blank byte ≡ false → IsLevel d e (byte ∷ others) → IsShallow d (byte ∷ others)
    → Exact (Says apart (byte ∷ others) known) (Says apart (byte ∷ others) known) any_next d e n (token_at apart (byte ∷ others) known)
token_exact apart byte others known d e n tight level shallow =
    retell (IsLeaf word_step (word_end apart known) (byte ∷ others)) (IsLeaf word_step (word_end apart known) (byte ∷ others))
    (Says apart (byte ∷ others) known) (Says apart (byte ∷ others) known) any_next any_next d e n n (token_at apart (byte ∷ others) known)
    (leaf_exact word_step (word_end apart known) (byte ∷ others) d e n (token_sound apart byte others known d e tight level shallow))
    (record {
      to = λ s t a h. leaf_says apart (byte ∷ others) known a s t h;
      from = λ s t a may h. says_leaf apart (byte ∷ others) known a s t h;
      from_wide = λ s t a may h. says_leaf apart (byte ∷ others) known a s t h;
      to_wide = λ s t a h. leaf_says apart (byte ∷ others) known a s t h;
      wide = λ s t a h. h;
      allows = λ o may. refl;
    })
    (omega (arith))

-- a token with no parenthesis in it, before whatever may come next
pub plain_token : {A : Type 0} (apart : Bool) (byte : ℕ) (others : List ℕ) (known : A) (F : Option ℕ → Bool) (d n : ℕ) → is_blank byte ≡ false → count 40 (byte ∷ others) ≡ 0 → count 41 (byte ∷ others) ≡ 0
    → Exact (Says apart (byte ∷ others) known) (Says apart (byte ∷ others) known) F d d n (token_at apart (byte ∷ others) known)
plain_token apart byte others known F d n tight opens closes =
    retell (Says apart (byte ∷ others) known) (Says apart (byte ∷ others) known) (Says apart (byte ∷ others) known) (Says apart (byte ∷ others) known) any_next F d d n n (token_at apart (byte ∷ others) known)
    (token_exact apart byte others known d d n tight (omega (arith, opens, closes)) (λ p q parts. shallow p q parts))
    (record {
      to = λ s t a h. h;
      from = λ s t a may h. h;
      from_wide = λ s t a may h. h;
      to_wide = λ s t a h. h;
      wide = λ s t a h. h;
      allows = λ o may. refl;
    })
    (omega (arith))
  where
    shallow : (p q : List ℕ) → byte ∷ others ≡ p ++ (40 ∷ q) → count 40 p < count 41 p + d
    shallow p q parts = let sum = ap (count 40) parts ∙ count_append 40 p (40 ∷ q) in absurd (omega (arith, sum, opens))
