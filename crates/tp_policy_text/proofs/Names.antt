-- Names are read exactly, by themselves and inside of other tokens.
use Rattle.std.proofs.lemmas.Bool.{and_from, and_left, and_parts, eqb-true, lt-ltb, ltb-true, not-true, not_from_false}
use Rattle.std.proofs.Common.{◌≡◌, ℕ, ◌<◌, ◌==◌, ◌&&◌, ◌||◌, not, nat_lt, nat_le, List, [], ◌∷◌, ◌++◌, length, Bool, true, false, Option, Some, None, refl, sym, ap, subst, ◌∙◌, arith, if◌then◌else◌}
use Rattle.std.specs.List.{list_all}
use Rattle.std.proofs.lemmas.List.{append-nil, append_assoc, length-append}
use Rattle.std.proofs.lemmas.List.Folds.{list_all-append}
use Rattle.std.proofs.lemmas.Option.{cond_some}
use Rattle.tp_types.proofs.ListLemmas.{all_push}
use Rattle.tp_types.specs.Spelling.{IsName, is_letter, is_name_byte}
use Rattle.tp_policy_text.specs.Grammar.{IsWholeName}
use Rattle.tp_policy_text.specs.Lexis.{count, first, in_word}
use Rattle.tp_policy_text.specs.mirrors.Readers.{goes_on, is_some_text, name_at, name_end, name_step}
use Rattle.tp_policy_text.specs.mirrors.Readings.{ended, machine, read}
use Rattle.tp_policy_text.proofs.Choices.{retell}
use Rattle.tp_policy_text.proofs.Exact.{Exact, IsLevel, IsShallow}
use Rattle.tp_policy_text.proofs.Leaves.{Goes, IsLeaf, Sound, any_next, halted, leaf_exact, next_of, went}
use Rattle.tp_policy_text.proofs.Texts.{count_append}

-- ---- tests

pub give : {A : Type 0} (b : Bool) (x : A) → b ≡ true → (if b then Some x else None) ≡ Some x
give {A = A} b x e = ap (λ (v : Bool). if v then Some x else None) e

pub give_none : {A : Type 0} (b : Bool) (x : A) → b ≡ false → (if b then Some x else None) ≡ None
give_none {A = A} b x e = ap (λ (v : Bool). if v then Some x else None) e

-- ---- beginnings of names

-- the empty text, or a name
abbrev pub IsSoFar : List ℕ → Type 0
IsSoFar [] = Unit {0}
IsSoFar (byte ∷ others) = IsName (byte ∷ others)

pub record NameParts (head : ℕ) (others : List ℕ) : Type 0 where
  pub letter : is_letter head ≡ true
  pub short : length others < 32
  pub parts : list_all is_name_byte others ≡ true

pub name_parts : (head : ℕ) (others : List ℕ) → IsName (head ∷ others) → NameParts head others
name_parts head others h =
    let one = and_parts (is_letter head && nat_lt (length others) 32) (list_all is_name_byte others) h in
    let two = and_parts (is_letter head) (nat_lt (length others) 32) one.0 in
    record { letter = two.0; short = ltb-true (length others) 32 two.1; parts = one.1 }

pub name_of_parts : (head : ℕ) (others : List ℕ) → NameParts head others → IsName (head ∷ others)
name_of_parts head others h =
    and_from (is_letter head && nat_lt (length others) 32) (list_all is_name_byte others)
    (and_from (is_letter head) (nat_lt (length others) 32) h.letter (lt-ltb (length others) 32 h.short)) h.parts

one_more : (name : List ℕ) (byte : ℕ) → IsSoFar name → goes_on name byte ≡ true → IsSoFar (name ++ byte ∷ [])
one_more [] byte h e = name_of_parts byte [] (record { letter = e; short = omega (arith); parts = refl })
one_more (head ∷ others) byte h e =
    let was = name_parts head others h in
    let may = and_parts (is_name_byte byte) (nat_lt (length others) 31) e in
    let sum = length-append others (byte ∷ []) in
    let less = ltb-true (length others) 31 may.1 in
    name_of_parts head (others ++ byte ∷ []) (record {
      letter = was.letter;
      short = omega (arith, sum, less);
      parts = all_push is_name_byte others byte was.parts may.0;
    })

pub record Named_on (name text last : List ℕ) : Type 0 where
  pub whole : last ≡ name ++ text
  pub so_far : IsSoFar name → IsSoFar last

pub names_of : (name text last : List ℕ) → Goes name_step name text last → Named_on name text last
names_of name [] last h = record { whole = sym h ∙ sym (append-nil name); so_far = λ s. subst IsSoFar h s }
names_of name (byte ∷ text) last (next, e, later) =
    let step = cond_some (goes_on name byte) (name ++ byte ∷ []) next e in
    let rest = names_of next text last later in
    record {
      whole = rest.whole ∙ (ap (λ l. l ++ text) (sym step.1) ∙ append_assoc name (byte ∷ []) text);
      so_far = λ s. rest.so_far (subst IsSoFar step.1 (one_more name byte s step.0));
    }

may_go_on : (name text : List ℕ) (byte : ℕ) → IsName (name ++ (byte ∷ text)) → goes_on name byte ≡ true
may_go_on [] text byte h = (name_parts byte text h).letter
may_go_on (head ∷ others) text byte h =
    let was = name_parts head (others ++ (byte ∷ text)) h in
    let halves = and_parts (list_all is_name_byte others) (list_all is_name_byte (byte ∷ text)) (sym (list_all-append is_name_byte others (byte ∷ text)) ∙ was.parts) in
    let sum = length-append others (byte ∷ text) in
    let short = was.short in
    and_from (is_name_byte byte) (nat_lt (length others) 31) (and_parts (is_name_byte byte) (list_all is_name_byte text) halves.1).0
    (lt-ltb (length others) 31 (omega (arith, sum, short)))

pub names_go : (name text : List ℕ) → IsName (name ++ text) → Goes name_step name text (name ++ text)
names_go name [] h = sym (append-nil name)
names_go name (byte ∷ text) h =
    let same : name ++ (byte ∷ text) ≡ (name ++ byte ∷ []) ++ text = sym (append_assoc name (byte ∷ []) text) in (
      name ++ byte ∷ [],
      give (goes_on name byte) (name ++ byte ∷ []) (may_go_on name text byte h),
      subst (λ l. Goes name_step (name ++ byte ∷ []) text l) (sym same) (names_go (name ++ byte ∷ []) text (subst IsName same h)),
    )

-- what is no part of a word does not go on with a name
letter_part : (byte : ℕ) → is_name_byte byte ≡ false → is_letter byte ≡ false
letter_part byte e = by_letter (is_letter byte) refl
  where
    by_letter : (b : Bool) → is_letter byte ≡ b → b ≡ false
    by_letter false e2 = refl
    by_letter true e2 = let both = sym (ap (λ (b : Bool). b || (nat_le 48 byte && nat_le byte 57) || (byte == 95)) e2) ∙ e in absurd (cc)

pub no_further : (name : List ℕ) (byte : ℕ) → is_name_byte byte ≡ false → name_step name byte ≡ None
no_further [] byte e = give_none (is_letter byte) (byte ∷ []) (letter_part byte e)
no_further (head ∷ others) byte e = give_none (is_name_byte byte && nat_lt (length others) 31) (head ∷ (others ++ byte ∷ [])) (and_left (is_name_byte byte) (nat_lt (length others) 31) e)

pub no_next_name : (name : List ℕ) (o : Option ℕ) → in_word o ≡ false → next_of name_step name o ≡ None
no_next_name name None e = refl
no_next_name name (Some byte) e = no_further name byte e

-- ---- parentheses

-- a machine that takes no parenthesis
no_count : {S : Type 0} (step : S → ℕ → Option S) (sign : ℕ) → ((state : S) → step state sign ≡ None) → (state last : S) (text : List ℕ) → Goes step state text last → count sign text ≡ 0
no_count step sign none state last [] h = refl
no_count {S = S} step sign none state last (byte ∷ text) (next, e, later) =
    let rest = no_count step sign none next last text later in
    by_same (byte == sign) refl rest
  where
    wrong : ◌≡◌ {A = Option S} None (Some next) → ⊥
    wrong e2 = absurd (cc)

    by_same : (b : Bool) → (byte == sign) ≡ b → count sign text ≡ 0 → count sign (byte ∷ text) ≡ 0
    by_same false e2 rest = let test = ap {B = ℕ} (λ (b : Bool). if b then 1 else 0) e2 in omega (arith, test, rest)
    by_same true e2 rest = absurd (wrong (sym (subst (λ (b : ℕ). step state b ≡ None) (sym (eqb-true byte sign e2)) (none state)) ∙ e))

pub record Plain {S : Type 0} (step : S → ℕ → Option S) : Type 0 where
  pub opens : (state : S) → step state 40 ≡ None
  pub closes : (state : S) → step state 41 ≡ None

pub plain_level : {S : Type 0} (step : S → ℕ → Option S) → Plain step → (d : ℕ) (state last : S) (text : List ℕ) → Goes step state text last → IsLevel d d text
plain_level step plain d state last text h =
    let opened = no_count step 40 plain.opens state last text h in
    let closed = no_count step 41 plain.closes state last text h in
    omega (arith, opened, closed)

pub plain_shallow : {S : Type 0} (step : S → ℕ → Option S) → Plain step → (d : ℕ) (state last : S) (text : List ℕ) → Goes step state text last → IsShallow d text
plain_shallow step plain d state last text h p q parts =
    let opened = no_count step 40 plain.opens state last text h in
    let sum = ap (count 40) parts ∙ count_append 40 p (40 ∷ q) in
    absurd (omega (arith, opened, sum))

-- ---- a name by itself

name_plain : Plain name_step
name_plain = record { opens = λ name. no_further name 40 refl; closes = λ name. no_further name 41 refl }

-- the end of a name
pub name_ended : (name : List ℕ) (o : Option ℕ) (found : List ℕ) → name_end name o ≡ Some found → (is_some_text name ≡ true) × (in_word o ≡ false) × (name ≡ found)
name_ended name o found h =
    let step = cond_some (is_some_text name && not (in_word o)) name found h in
    let parts = and_parts (is_some_text name) (not (in_word o)) step.0 in
    (parts.0, not-true (in_word o) parts.1, step.1)

pub name_ends : (name : List ℕ) (o : Option ℕ) → is_some_text name ≡ true → in_word o ≡ false → name_end name o ≡ Some name
name_ends name o some free = give (is_some_text name && not (in_word o)) name (and_from (is_some_text name) (not (in_word o)) some (not_from_false (in_word o) free))

-- from a beginning of a name, a letter where it is empty and then a blank are an end
pub record NameEnd (name : List ℕ) : Type 0 where
  pub more : List ℕ
  pub goes : Goes name_step name more (name ++ more)
  pub some : is_some_text (name ++ more) ≡ true

pub name_finish : (name : List ℕ) → NameEnd name
name_finish [] = record { more = 97 ∷ []; goes = (97 ∷ [], refl, refl); some = refl }
name_finish (head ∷ others) = record { more = []; goes = sym (append-nil (head ∷ others)); some = refl }

name_sound : (d : ℕ) → Sound name_step name_end [] d d
name_sound d = record {
  blank = λ name o found h. let over = name_ended name o found h in
      (no_further name 32 refl, name_ends name (Some 32) over.0 refl ∙ ap (λ l. Some l) over.2);
  solid = λ o found h. wrong (name_ended [] o found h).0;
  finish = λ name. let end = name_finish name in record {
    more = end.more ++ (32 ∷ []);
    value = name ++ end.more;
    ends = λ u tight. ap (λ l. machine name_step name_end name l) (append_assoc end.more (32 ∷ []) u)
        ∙ (went name_step name_end name (name ++ end.more) end.more (32 ∷ u) end.goes
        ∙ (halted name_step name_end (name ++ end.more) (32 ∷ u) (no_further (name ++ end.more) 32 refl)
        ∙ (ap (λ (o : Option (List ℕ)). ended o (32 ∷ u)) (name_ends (name ++ end.more) (Some 32) end.some refl) ∙ ap (λ l. read (name ++ end.more) l) tight)));
  };
  some = record {
    byte = 97;
    others = 32 ∷ [];
    value = 97 ∷ [];
    tight = refl;
    ends = λ u tight. ap (λ l. read (97 ∷ []) l) tight;
  };
  level = λ text last o a goes h. plain_level name_step name_plain d [] last text goes;
  shallow = λ text last goes. plain_shallow name_step name_plain d [] last text goes;
}
  where
    wrong : ◌≡◌ {A = Bool} false true → ⊥
    wrong e = absurd (cc)

pub name_of_some : (name : List ℕ) → is_some_text name ≡ true → IsSoFar name → IsName name
name_of_some [] some h = absurd (wrong some)
  where
    wrong : ◌≡◌ {A = Bool} false true → ⊥
    wrong e = absurd (cc)
name_of_some (head ∷ others) some h = h

pub some_of_name : (name : List ℕ) → IsName name → is_some_text name ≡ true
some_of_name [] h = absurd (cc)
some_of_name (head ∷ others) h = refl

leaf_named : (name s t : List ℕ) → IsLeaf name_step name_end [] name s t → IsWholeName name s t
leaf_named name s t h =
    let over = name_ended h.last (first h.after) name h.ends in
    let on = names_of [] h.text h.last h.goes in
    let text_is : h.text ≡ name = sym on.whole ∙ over.2 in
    record {
      spelled = subst IsName over.2 (name_of_some h.last over.0 (on.so_far (tt)));
      word = record { after = h.after; begins = h.parts ∙ ap (λ l. l ++ h.after) text_is; is_apart = over.1; left_is = h.left };
    }

named_leaf : (name s t : List ℕ) → IsWholeName name s t → IsLeaf name_step name_end [] name s t
named_leaf name s t h = record {
  text = name;
  after = h.word.after;
  last = name;
  parts = h.word.begins;
  goes = names_go [] name h.spelled;
  halts = no_next_name name (first h.word.after) h.word.is_apart;
  ends = name_ends name (first h.word.after) (some_of_name name h.spelled) h.word.is_apart;
  left = h.word.left_is;
}

pub name_exact : (d n : ℕ) → Exact IsWholeName IsWholeName any_next d d n name_at
name_exact d n =
    retell (IsLeaf name_step name_end []) (IsLeaf name_step name_end []) IsWholeName IsWholeName any_next any_next d d n n name_at
    (leaf_exact name_step name_end [] d d n (name_sound d))
    (record {
      to = λ s t a h. leaf_named a s t h;
      from = λ s t a may h. named_leaf a s t h;
      from_wide = λ s t a may h. named_leaf a s t h;
      to_wide = λ s t a h. leaf_named a s t h;
      wide = λ s t a h. h;
      allows = λ o may. refl;
    })
    (omega (arith))
