-- The head of an atom is read exactly: the word true, or an issuer and an attribute.
use Rattle.std.proofs.lemmas.Bool.{and_from, and_parts, eqb-true, not-true, not_from_false}
use Rattle.std.proofs.Common.{◌≡◌, ◌⊎◌, inl, inr, ℕ, ◌==◌, ◌&&◌, not, List, [], ◌∷◌, ◌++◌, Bool, true, false, Option, Some, None, refl, sym, ap, subst, ◌∙◌, arith, if◌then◌else◌, codes}
use Rattle.std.proofs.lemmas.Option.{cond_some, same_Some}
use Rattle.std.proofs.lemmas.List.{append-nil, append_assoc}
use Rattle.tp_policy_text.specs.Grammar.{Claim}
use Rattle.tp_policy_text.specs.Lexis.{Word, first, in_word, is_blank, skip}
use Rattle.tp_policy_text.specs.mirrors.Readers.{Head, attr_step, comes, head_at, head_end, head_step, is_some_text, issuer_step, name_step, same_text}
use Rattle.tp_policy_text.specs.mirrors.Readings.{ended, machine, read}
use Rattle.tp_policy_text.proofs.Choices.{retell}
use Rattle.tp_policy_text.proofs.Exact.{Ends, Exact}
use Rattle.tp_policy_text.proofs.Leaves.{Goes, IsLeaf, Sound, any_next, halted, leaf_exact, next_of, went}
use Rattle.tp_policy_text.proofs.Names.{Plain, give, name_finish, name_of_some, names_go, names_of, no_further, plain_level, plain_shallow, some_of_name}
use Rattle.tp_policy_text.proofs.Patterns.{given_name, goes_both}
use Rattle.tp_policy_text.proofs.Texts.{IsTight, tight_byte}

abbrev pub in_issuer : List ℕ → Head
in_issuer issuer = record { issuer = issuer; attr = None }

abbrev pub in_attr : List ℕ → List ℕ → Head
in_attr issuer attr = record { issuer = issuer; attr = Some attr }

-- None stands for the word true
abbrev pub IsHead : Option Head → List ℕ → List ℕ → Type 0
IsHead None s t = Word (codes "true") s t
IsHead (Some head) s t = IsClaim head.issuer head.attr s t
  where
    IsClaim : List ℕ → Option (List ℕ) → List ℕ → List ℕ → Type 0
    IsClaim issuer None s t = ⊥
    IsClaim issuer (Some attr) s t = Claim issuer attr s t

-- ---- the states

record Reads_issuer (issuer text : List ℕ) (last : Head) : Type 0 where
  pub goes : Goes name_step issuer text (issuer ++ text)
  pub is : last ≡ in_issuer (issuer ++ text)

record Reads_attr (issuer text : List ℕ) (last : Head) : Type 0 where
  pub before : List ℕ
  pub attr : List ℕ
  pub parts : text ≡ before ++ (46 ∷ attr)
  pub goes : Goes name_step issuer before (issuer ++ before)
  pub some : is_some_text (issuer ++ before) ≡ true
  pub then_goes : Goes name_step [] attr attr
  pub is : last ≡ in_attr (issuer ++ before) attr

dot_step : (issuer : List ℕ) (byte : ℕ) (b : Bool) → ((byte == 46) && is_some_text issuer) ≡ b
    → head_step (in_issuer issuer) byte ≡ (if b then Some (in_attr issuer []) else issuer_step (name_step issuer byte))
dot_step issuer byte b e = ap (λ (v : Bool). if v then Some (in_attr issuer []) else issuer_step (name_step issuer byte)) e

issuer_is : (o : Option (List ℕ)) (next : Head) → issuer_step o ≡ Some next → (issuer : List ℕ) × ((o ≡ Some issuer) × (next ≡ in_issuer issuer))
issuer_is None next e = absurd (cc)
issuer_is (Some issuer) next e = (issuer, (refl, sym (same_Some (in_issuer issuer) next e)))

attr_is : (issuer : List ℕ) (o : Option (List ℕ)) (next : Head) → attr_step issuer o ≡ Some next → (attr : List ℕ) × ((o ≡ Some attr) × (next ≡ in_attr issuer attr))
attr_is issuer None next e = absurd (cc)
attr_is issuer (Some attr) next e = (attr, (refl, sym (same_Some (in_attr issuer attr) next e)))

attr_of : (issuer attr text : List ℕ) (last : Head) → Goes head_step (in_attr issuer attr) text last → Goes name_step attr text (attr ++ text) × (last ≡ in_attr issuer (attr ++ text))
attr_of issuer attr [] last h = (sym (append-nil attr), sym h ∙ ap (in_attr issuer) (sym (append-nil attr)))
attr_of issuer attr (byte ∷ text) last (next, e, later) =
    let at = attr_is issuer (name_step attr byte) next e in
    let same = given_name attr byte at.0 at.1.0 in
    let rest = attr_of issuer at.0 text last (subst (λ s. Goes head_step s text last) at.1.1 later) in
    let whole : at.0 ++ text ≡ attr ++ (byte ∷ text) = ap (λ l. l ++ text) (sym same) ∙ append_assoc attr (byte ∷ []) text in
    ((at.0, at.1.0, subst (λ l. Goes name_step at.0 text l) whole rest.0), rest.1 ∙ ap (in_attr issuer) whole)

head_of : (issuer text : List ℕ) (last : Head) → Goes head_step (in_issuer issuer) text last → Reads_issuer issuer text last ⊎ Reads_attr issuer text last
head_of issuer [] last h = inl (record { goes = sym (append-nil issuer); is = sym h ∙ ap in_issuer (sym (append-nil issuer)) })
head_of issuer (byte ∷ text) last (next, e, later) = by_dot ((byte == 46) && is_some_text issuer) refl (λ issuer2 goes. head_of issuer2 text last goes)
  where
    by_rest : (issuer2 : List ℕ) → name_step issuer byte ≡ Some issuer2 → issuer2 ≡ issuer ++ byte ∷ [] → Reads_issuer issuer2 text last ⊎ Reads_attr issuer2 text last → Reads_issuer issuer (byte ∷ text) last ⊎ Reads_attr issuer (byte ∷ text) last
    by_rest issuer2 step same (inl h) =
        let whole : issuer2 ++ text ≡ issuer ++ (byte ∷ text) = ap (λ l. l ++ text) same ∙ append_assoc issuer (byte ∷ []) text in
        inl (record { goes = (issuer2, step, subst (λ l. Goes name_step issuer2 text l) whole h.goes); is = h.is ∙ ap in_issuer whole })
    by_rest issuer2 step same (inr h) =
        let whole : issuer2 ++ h.before ≡ issuer ++ (byte ∷ h.before) = ap (λ l. l ++ h.before) same ∙ append_assoc issuer (byte ∷ []) h.before in
        inr (record {
          before = byte ∷ h.before;
          attr = h.attr;
          parts = ap (λ l. byte ∷ l) h.parts;
          goes = (issuer2, step, subst (λ l. Goes name_step issuer2 h.before l) whole h.goes);
          some = ap is_some_text (sym whole) ∙ h.some;
          then_goes = h.then_goes;
          is = h.is ∙ ap (λ l. in_attr l h.attr) whole;
        })

    by_dot : (b : Bool) → ((byte == 46) && is_some_text issuer) ≡ b → ((issuer2 : List ℕ) → Goes head_step (in_issuer issuer2) text last → Reads_issuer issuer2 text last ⊎ Reads_attr issuer2 text last)
        → Reads_issuer issuer (byte ∷ text) last ⊎ Reads_attr issuer (byte ∷ text) last
    by_dot true dot rec =
        let at = same_Some (in_attr issuer []) next (sym (dot_step issuer byte true dot) ∙ e) in
        let over = attr_of issuer [] text last (subst (λ s. Goes head_step s text last) (sym at) later) in
        let test = and_parts (byte == 46) (is_some_text issuer) dot in
        inr (record {
          before = [];
          attr = text;
          parts = ap (λ (b : ℕ). b ∷ text) (eqb-true byte 46 test.0);
          goes = sym (append-nil issuer);
          some = ap is_some_text (append-nil issuer) ∙ test.1;
          then_goes = over.0;
          is = over.1 ∙ ap (λ l. in_attr l text) (sym (append-nil issuer));
        })
    by_dot false dot rec =
        let at = issuer_is (name_step issuer byte) next (sym (dot_step issuer byte false dot) ∙ e) in
        by_rest at.0 at.1.0 (sym (given_name issuer byte at.0 at.1.0)) (rec at.0 (subst (λ s. Goes head_step s text last) at.1.1 later))

-- a step of a name is one of an issuer, and one of an attribute
issuer_lifted : (issuer : List ℕ) (byte : ℕ) (next : List ℕ) → name_step issuer byte ≡ Some next → head_step (in_issuer issuer) byte ≡ Some (in_issuer next)
issuer_lifted issuer byte next e = dot_step issuer byte false (by_dot (byte == 46) refl) ∙ ap issuer_step e
  where
    wrong : None ≡ Some next → ⊥
    wrong e2 = absurd (cc)

    by_dot : (b : Bool) → (byte == 46) ≡ b → ((byte == 46) && is_some_text issuer) ≡ false
    by_dot false e2 = ap (λ (b : Bool). b && is_some_text issuer) e2
    by_dot true e2 = absurd (wrong (sym (subst (λ (b : ℕ). name_step issuer b ≡ None) (sym (eqb-true byte 46 e2)) (no_further issuer 46 refl)) ∙ e))

issuer_goes : (issuer text last : List ℕ) → Goes name_step issuer text last → Goes head_step (in_issuer issuer) text (in_issuer last)
issuer_goes issuer [] last h = ap in_issuer h
issuer_goes issuer (byte ∷ text) last (next, e, later) = (in_issuer next, issuer_lifted issuer byte next e, issuer_goes next text last later)

attr_goes : (issuer attr text last : List ℕ) → Goes name_step attr text last → Goes head_step (in_attr issuer attr) text (in_attr issuer last)
attr_goes issuer attr [] last h = ap (in_attr issuer) h
attr_goes issuer attr (byte ∷ text) last (next, e, later) = (in_attr issuer next, ap (attr_step issuer) e, attr_goes issuer next text last later)

-- an issuer that is not empty, a dot and an attribute
both_go : (issuer before attr text last : List ℕ) → Goes name_step issuer before attr → is_some_text attr ≡ true → Goes name_step [] text last → Goes head_step (in_issuer issuer) (before ++ (46 ∷ text)) (in_attr attr last)
both_go issuer before attr text last h some k =
    goes_both head_step (in_issuer issuer) (in_issuer attr) (in_attr attr last) before (46 ∷ text) (issuer_goes issuer before attr h)
    (in_attr attr [], dot_step attr 46 true some, attr_goes attr [] text last k)

-- ---- the end

no_step : (h : Head) (byte : ℕ) → (byte == 46) ≡ false → ((name : List ℕ) → name_step name byte ≡ None) → head_step h byte ≡ None
no_step h byte other none = by_attr h.attr refl
  where
    by_attr : (attr : Option (List ℕ)) → h.attr ≡ attr → head_step h byte ≡ None
    by_attr None e =
        ap (λ (a : Option (List ℕ)). head_step (record { issuer = h.issuer; attr = a }) byte) e
        ∙ (dot_step h.issuer byte false (ap (λ (v : Bool). v && is_some_text h.issuer) other) ∙ ap issuer_step (none h.issuer))
    by_attr (Some attr) e =
        ap (λ (a : Option (List ℕ)). head_step (record { issuer = h.issuer; attr = a }) byte) e ∙ ap (attr_step h.issuer) (none attr)

head_plain : Plain head_step
head_plain = record { opens = λ h. no_step h 40 refl (λ name. no_further name 40 refl); closes = λ h. no_step h 41 refl (λ name. no_further name 41 refl) }

true_ended : (issuer : List ℕ) (o : Option ℕ) (found : Option Head) → head_end (in_issuer issuer) o ≡ Some found → (same_text issuer (codes "true") ≡ true) × (in_word o ≡ false) × (None ≡ found)
true_ended issuer o found h =
    let step = cond_some (same_text issuer (codes "true") && not (in_word o)) None found h in
    let parts = and_parts (same_text issuer (codes "true")) (not (in_word o)) step.0 in
    (parts.0, not-true (in_word o) parts.1, step.1)

claim_ended : (issuer attr : List ℕ) (o : Option ℕ) (found : Option Head) → head_end (in_attr issuer attr) o ≡ Some found → (is_some_text attr ≡ true) × (in_word o ≡ false) × (Some (in_attr issuer attr) ≡ found)
claim_ended issuer attr o found h =
    let step = cond_some (is_some_text attr && not (in_word o)) (Some (in_attr issuer attr)) found h in
    let parts = and_parts (is_some_text attr) (not (in_word o)) step.0 in
    (parts.0, not-true (in_word o) parts.1, step.1)

claim_ends : (issuer attr : List ℕ) (o : Option ℕ) → is_some_text attr ≡ true → in_word o ≡ false → head_end (in_attr issuer attr) o ≡ Some (Some (in_attr issuer attr))
claim_ends issuer attr o some free = give (is_some_text attr && not (in_word o)) (Some (in_attr issuer attr)) (and_from (is_some_text attr) (not (in_word o)) some (not_from_false (in_word o) free))

before_blank : (issuer : List ℕ) (attr : Option (List ℕ)) (o : Option ℕ) (found : Option Head) → head_end (record { issuer = issuer; attr = attr }) o ≡ Some found → head_end (record { issuer = issuer; attr = attr }) (Some 32) ≡ Some found
before_blank issuer None o found h =
    let over = true_ended issuer o found h in
    give (same_text issuer (codes "true") && true) None (and_from (same_text issuer (codes "true")) true over.0 refl) ∙ ap (λ (v : Option Head). Some v) over.2
before_blank issuer (Some attr) o found h = let over = claim_ended issuer attr o found h in claim_ends issuer attr (Some 32) over.0 refl ∙ ap (λ (v : Option Head). Some v) over.2

-- a text that leads to a claim, and a blank
led : (h : Head) (text issuer attr u : List ℕ) → Goes head_step h text (in_attr issuer attr) → is_some_text attr ≡ true → IsTight u → machine head_step head_end h ((text ++ (32 ∷ [])) ++ u) ≡ read (Some (in_attr issuer attr)) u
led h text issuer attr u goes some tight =
    ap (λ l. machine head_step head_end h l) (append_assoc text (32 ∷ []) u)
    ∙ (went head_step head_end h (in_attr issuer attr) text (32 ∷ u) goes
    ∙ (halted head_step head_end (in_attr issuer attr) (32 ∷ u) (no_step (in_attr issuer attr) 32 refl (λ name. no_further name 32 refl))
    ∙ (ap (λ (o : Option (Option Head)). ended o (32 ∷ u)) (claim_ends issuer attr (Some 32) some refl) ∙ ap (λ l. read (Some (in_attr issuer attr)) l) tight)))

finished : (issuer : List ℕ) (attr : Option (List ℕ)) → Ends (λ (a : Option Head) s t. machine head_step head_end (record { issuer = issuer; attr = attr }) s ≡ read a t) []
finished issuer None = let end = name_finish issuer in record {
  more = (end.more ++ (46 ∷ 97 ∷ [])) ++ (32 ∷ []);
  value = Some (in_attr (issuer ++ end.more) (97 ∷ []));
  ends = λ u tight. led (in_issuer issuer) (end.more ++ (46 ∷ 97 ∷ [])) (issuer ++ end.more) (97 ∷ []) u
      (both_go issuer end.more (issuer ++ end.more) (97 ∷ []) (97 ∷ []) end.goes end.some (97 ∷ [], refl, refl)) refl tight;
}
finished issuer (Some attr) = let end = name_finish attr in record {
  more = end.more ++ (32 ∷ []);
  value = Some (in_attr issuer (attr ++ end.more));
  ends = λ u tight. led (in_attr issuer attr) end.more issuer (attr ++ end.more) u (attr_goes issuer attr end.more (attr ++ end.more) end.goes) end.some tight;
}

head_sound : (d : ℕ) → Sound head_step head_end (in_issuer []) d d
head_sound d = record {
  blank = λ h o found e. (no_step h 32 refl (λ name. no_further name 32 refl), before_blank h.issuer h.attr o found e);
  solid = λ o found e. wrong (true_ended [] o found e).0;
  finish = λ h. finished h.issuer h.attr;
  some = record {
    byte = 116;
    others = 114 ∷ 117 ∷ 101 ∷ 32 ∷ [];
    value = None;
    tight = refl;
    ends = λ u tight. ap (λ l. read None l) tight;
  };
  level = λ text last o a goes e. plain_level head_step head_plain d (in_issuer []) last text goes;
  shallow = λ text last goes. plain_shallow head_step head_plain d (in_issuer []) last text goes;
}
  where
    wrong : ◌≡◌ {A = Bool} false true → ⊥
    wrong e = absurd (cc)

-- ---- the tie to the grammar

same_text_is : (xs ys : List ℕ) → same_text xs ys ≡ true → xs ≡ ys
same_text_is [] [] e = refl
same_text_is [] (y ∷ ys) e = absurd (cc)
same_text_is (x ∷ xs) [] e = absurd (cc)
same_text_is (x ∷ xs) (y ∷ ys) e =
    let parts = and_parts (x == y) (same_text xs ys) e in
    ap (λ b. b ∷ xs) (eqb-true x y parts.0) ∙ ap (λ l. y ∷ l) (same_text_is xs ys parts.1)

leaf_head : (a : Option Head) (s t : List ℕ) → IsLeaf head_step head_end (in_issuer []) a s t → IsHead a s t
leaf_head a s t h = by_state (head_of [] h.text h.last h.goes)
  where
    by_state : Reads_issuer [] h.text h.last ⊎ Reads_attr [] h.text h.last → IsHead a s t
    by_state (inl k) =
        let over = true_ended h.text (first h.after) a (subst (λ p. head_end p (first h.after) ≡ Some a) k.is h.ends) in
        subst (λ p. IsHead p s t) over.2 (record {
          after = h.after;
          begins = h.parts ∙ ap (λ l. l ++ h.after) (same_text_is h.text (codes "true") over.0);
          is_apart = over.1;
          left_is = h.left;
        })
    by_state (inr k) =
        let over = claim_ended k.before k.attr (first h.after) a (subst (λ p. head_end p (first h.after) ≡ Some a) k.is h.ends) in
        let issuer_on = names_of [] k.before k.before k.goes in
        let attr_on = names_of [] k.attr k.attr k.then_goes in
        subst (λ p. IsHead p s t) over.2 (record {
          issuer_is = name_of_some k.before k.some (issuer_on.so_far (tt));
          attr_is = name_of_some k.attr over.0 (attr_on.so_far (tt));
          word = record { after = h.after; begins = h.parts ∙ ap (λ l. l ++ h.after) (k.parts ∙ sym (append_assoc k.before (codes ".") k.attr)); is_apart = over.1; left_is = h.left };
        })

-- a dot right behind the word true makes a claim of it
abbrev pub not_dot : Option ℕ → Bool
not_dot o = not (comes 46 o)

no_dot : (after t : List ℕ) → t ≡ skip after → not_dot (first t) ≡ true → not_dot (first after) ≡ true
no_dot [] t e may = refl
no_dot (byte ∷ others) t e may = by_dot (byte == 46) refl
  where
    by_dot : (b : Bool) → (byte == 46) ≡ b → not b ≡ true
    by_dot false e2 = refl
    by_dot true e2 =
        let here : skip (byte ∷ others) ≡ byte ∷ others = tight_byte byte others (ap is_blank (eqb-true byte 46 e2)) in
        let is : not_dot (first t) ≡ not (byte == 46) = ap (λ l. not_dot (first l)) (e ∙ here) in
        sym (ap not e2) ∙ (sym is ∙ may)

head_leaf : (a : Option Head) (s t : List ℕ) → not_dot (first t) ≡ true → IsHead a s t → IsLeaf head_step head_end (in_issuer []) a s t
head_leaf None s t may h = record {
  text = codes "true";
  after = h.after;
  last = in_issuer (codes "true");
  parts = h.begins;
  goes = issuer_goes [] (codes "true") (codes "true") (names_go [] (codes "true") refl);
  halts = no_next (first h.after) h.is_apart (no_dot h.after t h.left_is may);
  ends = give (not (in_word (first h.after))) None (not_from_false (in_word (first h.after)) h.is_apart);
  left = h.left_is;
}
  where
    no_next : (o : Option ℕ) → in_word o ≡ false → not_dot o ≡ true → next_of head_step (in_issuer (codes "true")) o ≡ None
    no_next None e other = refl
    no_next (Some byte) e other = no_step (in_issuer (codes "true")) byte (not-true (byte == 46) other) (λ name. no_further name byte e)
head_leaf (Some head) s t may h = by_attr head.attr refl
  where
    wrong : IsHead (Some (in_issuer head.issuer)) s t → ⊥
    wrong k = k

    by_attr : (attr : Option (List ℕ)) → head.attr ≡ attr → IsLeaf head_step head_end (in_issuer []) (Some head) s t
    by_attr None e = absurd (wrong (subst (λ (a : Option (List ℕ)). IsHead (Some (record { issuer = head.issuer; attr = a })) s t) e h))
    by_attr (Some attr) e =
        let k : Claim head.issuer attr s t = subst (λ (a : Option (List ℕ)). IsHead (Some (record { issuer = head.issuer; attr = a })) s t) e h in
        subst (λ (a : Option (List ℕ)). IsLeaf head_step head_end (in_issuer []) (Some (record { issuer = head.issuer; attr = a })) s t) (sym e) (record {
          text = head.issuer ++ (46 ∷ attr);
          after = k.word.after;
          last = in_attr head.issuer attr;
          parts = k.word.begins ∙ ap (λ l. l ++ k.word.after) (append_assoc head.issuer (codes ".") attr);
          goes = both_go [] head.issuer head.issuer attr attr (names_go [] head.issuer k.issuer_is) (some_of_name head.issuer k.issuer_is) (names_go [] attr k.attr_is);
          halts = no_next attr (first k.word.after) k.word.is_apart;
          ends = claim_ends head.issuer attr (first k.word.after) (some_of_name attr k.attr_is) k.word.is_apart;
          left = k.word.left_is;
        })
      where
        no_next : (attr2 : List ℕ) (o : Option ℕ) → in_word o ≡ false → next_of head_step (in_attr head.issuer attr2) o ≡ None
        no_next attr2 None e2 = refl
        no_next attr2 (Some byte) e2 = ap (attr_step head.issuer) (no_further attr2 byte e2)

pub head_exact : (d n : ℕ) → Exact IsHead IsHead not_dot d d n head_at
head_exact d n =
    retell (IsLeaf head_step head_end (in_issuer [])) (IsLeaf head_step head_end (in_issuer [])) IsHead IsHead any_next not_dot d d n n head_at
    (leaf_exact head_step head_end (in_issuer []) d d n (head_sound d))
    (record {
      to = λ s t a h. leaf_head a s t h;
      from = λ s t a may h. head_leaf a s t may h;
      from_wide = λ s t a may h. head_leaf a s t may h;
      to_wide = λ s t a h. leaf_head a s t h;
      wide = λ s t a h. h;
      allows = λ o may. refl;
    })
    (omega (arith))
