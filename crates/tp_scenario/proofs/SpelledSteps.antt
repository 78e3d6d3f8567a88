-- A step is read of a text exactly where the text says it.
use Rattle.std.proofs.Common.{◌≡◌, ℕ, Bool, true, false, List, [], ◌∷◌, Option, Some, None, refl, sym, ap, subst, ◌∙◌, codes, option_map, if◌then◌else◌}
use Rattle.std.proofs.lemmas.Bool.{and_from}
use Rattle.std.proofs.lemmas.Option.{same_Some}
use Rattle.tp_types.specs.Spelling.{is_name, number_of}
use Rattle.tp_scenario.specs.declared.command.CountVerb.{CountVerb}
use Rattle.tp_scenario.specs.declared.command.CountVerb.TheVariants as counting
use Rattle.tp_scenario.specs.declared.command.NameVerb.{NameVerb}
use Rattle.tp_scenario.specs.declared.command.NameVerb.TheVariants as verb
use Rattle.tp_model.specs.Ids.{same_name}
use Rattle.tp_scenario.specs.Spelled.{SaysStep, SpellsNumber, counting_word, naming_word}
use Rattle.tp_scenario.specs.Steps.{Command, of_name, by_number, push, cut, by_verb, calls_of, command_by, command_in, command_of, count_verb, command_by_count_or, crash_of, crash_by_name, fill_of, cut_with_fill, mail_of, name_verb, one_name, one_number, push_of, push_to, cut_in_mail}
use Rattle.tp_model.specs.Limits.{is_empty}
use Rattle.tp_model.specs.Queries.{only}
use Rattle.tp_scenario.specs.Words.{as_name, is_filled, words_of}
use Rattle.tp_scenario.proofs.KeptQueries.{map_some, test_some, then_some}
use Rattle.tp_scenario.proofs.SpelledQueries.{name_filled, number_filled, number_so, only_one, same_bytes, so_number, test_passes}
use Rattle.tp_scenario.proofs.SpelledWords.{split_so, words_so}

-- ---- verbs

-- one of two tests
either : {A : Type 0} (test : Bool) (found other : Option A) (a : A) (P : Type 0) → (if test then found else other) ≡ Some a → (test ≡ true → found ≡ Some a → P) → (other ≡ Some a → P) → P
either true found other a P e first second = first refl e
either false found other a P e first second = second e

naming_so : (word : List ℕ) (kind : NameVerb) → name_verb word ≡ Some kind → word ≡ naming_word kind
unfolding name_verb
naming_so word kind e =
    either (same_name word (codes "submit")) _ _ kind _ e (λ t h. is_word (codes "submit") verb.Submit t h refl)
    (λ e2. either (same_name word (codes "publish")) _ _ kind _ e2 (λ t h. is_word (codes "publish") verb.Publish t h refl)
    (λ e3. either (same_name word (codes "revoke")) _ _ kind _ e3 (λ t h. is_word (codes "revoke") verb.Revoke t h refl)
    (λ e4. either (same_name word (codes "crash")) _ _ kind _ e4 (λ t h. is_word (codes "crash") verb.Crash t h refl)
    (λ e5. either (same_name word (codes "boot")) _ _ kind _ e5 (λ t h. is_word (codes "boot") verb.Boot t h refl)
    (λ e6. let got = test_some (same_name word (codes "timer")) (Some verb.Timer) kind e6 in is_word (codes "timer") verb.Timer got.0 got.1 refl)))))
  where
    is_word : (text : List ℕ) (given : NameVerb) → same_name word text ≡ true → Some given ≡ Some kind → text ≡ naming_word given → word ≡ naming_word kind
    is_word text given t h spelled = same_bytes word text t ∙ (spelled ∙ ap naming_word (same_Some given kind h))

counting_so : (word : List ℕ) (kind : CountVerb) → count_verb word ≡ Some kind → word ≡ counting_word kind
unfolding count_verb
counting_so word kind e =
    either (same_name word (codes "tick")) _ _ kind _ e (λ t h. is_word (codes "tick") counting.Tick t h refl)
    (λ e2. either (same_name word (codes "deliver")) _ _ kind _ e2 (λ t h. is_word (codes "deliver") counting.Deliver t h refl)
    (λ e3. let got = test_some (same_name word (codes "lose")) (Some counting.Lose) kind e3 in is_word (codes "lose") counting.Lose got.0 got.1 refl))
  where
    is_word : (text : List ℕ) (given : CountVerb) → same_name word text ≡ true → Some given ≡ Some kind → text ≡ counting_word given → word ≡ counting_word kind
    is_word text given t h spelled = same_bytes word text t ∙ (spelled ∙ ap counting_word (same_Some given kind h))

naming_filled : (kind : NameVerb) → is_filled (naming_word kind) ≡ true
naming_filled verb.Submit = refl
naming_filled verb.Publish = refl
naming_filled verb.Revoke = refl
naming_filled verb.Crash = refl
naming_filled verb.Boot = refl
naming_filled verb.Timer = refl

counting_filled : (kind : CountVerb) → is_filled (counting_word kind) ≡ true
counting_filled counting.Tick = refl
counting_filled counting.Deliver = refl
counting_filled counting.Lose = refl

-- ---- one word that is left

record IsOneName (name : List ℕ) (words : List (List ℕ)) : Type 0 where
  words_are : words ≡ name ∷ []
  spelled : is_name name ≡ true

name_so : (words : List (List ℕ)) (name : List ℕ) → one_name words ≡ Some name → IsOneName name words
name_so words name e =
    let word = then_some as_name (only words) name e in
    let got = test_some (is_name word.0) (Some word.0) name word.2 in
    let same = same_Some word.0 name got.1 in
    record { words_are = only_one words word.0 word.1 ∙ ap (λ (w : List ℕ). w ∷ []) same; spelled = subst (λ (w : List ℕ). is_name w ≡ true) same got.0 }

so_name : (name : List ℕ) → is_name name ≡ true → one_name (name ∷ []) ≡ Some name
so_name name e = test_passes (is_name name) (Some name) e

record IsOneNumber (number : ℕ) (words : List (List ℕ)) : Type 0 where
  word : List ℕ
  words_are : words ≡ word ∷ []
  spelled : SpellsNumber number word

one_number_so : (words : List (List ℕ)) (number : ℕ) → one_number words ≡ Some number → IsOneNumber number words
one_number_so words number e =
    let word = then_some number_of (only words) number e in
    record { word = word.0; words_are = only_one words word.0 word.1; spelled = number_so word.0 number word.2 }

-- ---- steps that are read

-- the first word is this one
abbrev Begins : List ℕ → List (List ℕ) → List ℕ → Type 0
Begins word words text = words_of text ≡ word ∷ words

push_so : (text : List ℕ) (words : List (List ℕ)) (command : Command) → Begins (codes "push") words text → push_of words ≡ Some command → SaysStep command text
unfolding push_of
push_so text [] command split e = absurd (cc)
push_so text (admin ∷ words) command split e = by_server (one_name words) refl e
  where
    by_server : (server : Option (List ℕ)) → one_name words ≡ server → push_to admin server ≡ Some command → SaysStep command text
    by_server None s h = absurd (cc)
    by_server (Some server) s h =
        let got = test_some (is_name admin) (Some (push admin server)) command h in
        let one = name_so words server s in
        let whole : words_of text ≡ codes "push" ∷ admin ∷ server ∷ [] = split ∙ ap (λ (ws : List (List ℕ)). codes "push" ∷ admin ∷ ws) one.words_are in
        let all = and_from _ _ refl (and_from _ _ (name_filled admin got.0) (and_from _ _ (name_filled server one.spelled) refl)) in
        subst (λ (c : Command). SaysStep c text) (same_Some (push admin server) command got.1) (got.0, one.spelled, words_so text (codes "push") (admin ∷ server ∷ []) whole all)

named_so : (text : List ℕ) (kind : NameVerb) (words : List (List ℕ)) (command : Command) → Begins (naming_word kind) words text → option_map (of_name kind) (one_name words) ≡ Some command → SaysStep command text
named_so text kind words command split e =
    let name = map_some (of_name kind) (one_name words) command e in
    let one = name_so words name.0 name.1 in
    let whole : words_of text ≡ naming_word kind ∷ name.0 ∷ [] = split ∙ ap (λ (ws : List (List ℕ)). naming_word kind ∷ ws) one.words_are in
    let all = and_from _ _ (naming_filled kind) (and_from _ _ (name_filled name.0 one.spelled) refl) in
    subst (λ (c : Command). SaysStep c text) name.2 (one.spelled, words_so text (naming_word kind) (name.0 ∷ []) whole all)

-- the numbers of a cut, and the words that are left for them
record IsFill (fill : ℕ) (words : List (List ℕ)) : Type 0 where
  word : List ℕ
  words_are : words ≡ codes "fill" ∷ word ∷ []
  spelled : SpellsNumber fill word

fill_so : (words : List (List ℕ)) (fill : ℕ) → fill_of words ≡ Some fill → IsFill fill words
unfolding fill_of
fill_so [] fill e = absurd (cc)
fill_so (key ∷ words) fill e =
    let got = test_some (same_name key (codes "fill")) (one_number words) fill e in
    let one = one_number_so words fill got.1 in
    record {
      word = one.word;
      words_are = ap (λ (w : List ℕ). w ∷ words) (same_bytes key (codes "fill") got.0) ∙ ap (λ (ws : List (List ℕ)). codes "fill" ∷ ws) one.words_are;
      spelled = one.spelled;
    }

record IsCalls (name : List ℕ) (mail : ℕ) (command : Command) (words : List (List ℕ)) : Type 0 where
  calls : ℕ
  fill : ℕ
  calls_word : List ℕ
  fill_word : List ℕ
  calls_is : SpellsNumber calls calls_word
  fill_is : SpellsNumber fill fill_word
  words_are : words ≡ codes "at" ∷ calls_word ∷ codes "fill" ∷ fill_word ∷ []
  command_is : cut name mail calls fill ≡ command

calls_so : (name : List ℕ) (mail : ℕ) (words : List (List ℕ)) (command : Command) → calls_of name mail words ≡ Some command → IsCalls name mail command words
unfolding calls_of
calls_so name mail [] command e = absurd (cc)
calls_so name mail (key ∷ []) command e = absurd (cc)
calls_so name mail (key ∷ calls ∷ words) command e =
    let got = test_some (same_name key (codes "at")) (cut_with_fill name mail calls (fill_of words)) command e in
    by_fill (same_bytes key (codes "at") got.0) (fill_of words) refl got.1
  where
    by_fill : key ≡ codes "at" → (fill : Option ℕ) → fill_of words ≡ fill → cut_with_fill name mail calls fill ≡ Some command → IsCalls name mail command (key ∷ calls ∷ words)
    by_fill same None f h = absurd (cc)
    by_fill same (Some fill) f h =
        let number = map_some (λ c. cut name mail c fill) (number_of calls) command h in
        let last = fill_so words fill f in
        record {
          calls = number.0;
          fill = fill;
          calls_word = calls;
          fill_word = last.word;
          calls_is = number_so calls number.0 number.1;
          fill_is = last.spelled;
          words_are = ap (λ (w : List ℕ). w ∷ calls ∷ words) same ∙ ap (λ (ws : List (List ℕ)). codes "at" ∷ calls ∷ ws) last.words_are;
          command_is = number.2;
        }

mail_so : (text name : List ℕ) (words : List (List ℕ)) (command : Command) → is_name name ≡ true → Begins (codes "crash") (name ∷ words) text → mail_of name words ≡ Some command → SaysStep command text
unfolding mail_of
mail_so text name [] command spelled split e = absurd (cc)
mail_so text name (key ∷ []) command spelled split e = absurd (cc)
mail_so text name (key ∷ mail ∷ words) command spelled split e =
    let got = test_some (same_name key (codes "in")) (cut_in_mail name (number_of mail) words) command e in
    by_mail (same_bytes key (codes "in") got.0) (number_of mail) refl got.1
  where
    by_mail : key ≡ codes "in" → (number : Option ℕ) → number_of mail ≡ number → cut_in_mail name number words ≡ Some command → SaysStep command text
    by_mail same None n h = absurd (cc)
    by_mail same (Some number) n h =
        let rest = calls_so name number words command h in
        let mail_is = number_so mail number n in
        let whole : words_of text ≡ codes "crash" ∷ name ∷ codes "in" ∷ mail ∷ codes "at" ∷ rest.calls_word ∷ codes "fill" ∷ rest.fill_word ∷ [] =
        split ∙ (ap (λ (w : List ℕ). codes "crash" ∷ name ∷ w ∷ mail ∷ words) same ∙ ap (λ (ws : List (List ℕ)). codes "crash" ∷ name ∷ codes "in" ∷ mail ∷ ws) rest.words_are) in
        let all = and_from _ _ refl (and_from _ _ (name_filled name spelled) (and_from _ _ refl (and_from _ _ (number_filled number mail mail_is) (and_from _ _ refl
        (and_from _ _ (number_filled rest.calls rest.calls_word rest.calls_is) (and_from _ _ refl (and_from _ _ (number_filled rest.fill rest.fill_word rest.fill_is) refl))))))) in
        subst (λ (c : Command). SaysStep c text) rest.command_is (
          spelled,
          record {
            mail_word = mail;
            calls_word = rest.calls_word;
            fill_word = rest.fill_word;
            mail_is = mail_is;
            calls_is = rest.calls_is;
            fill_is = rest.fill_is;
            words = words_so text (codes "crash") (name ∷ codes "in" ∷ mail ∷ codes "at" ∷ rest.calls_word ∷ codes "fill" ∷ rest.fill_word ∷ []) whole all;
          },
        )

end_of : (words : List (List ℕ)) → is_empty words ≡ true → words ≡ []
end_of [] e = refl
end_of (word ∷ words) e = absurd (cc)

crash_so : (text : List ℕ) (words : List (List ℕ)) (command : Command) → Begins (codes "crash") words text → crash_of words ≡ Some command → SaysStep command text
unfolding crash_of
crash_so text [] command split e = absurd (cc)
crash_so text (name ∷ words) command split e =
    let got = test_some (is_name name) (crash_by_name name words) command e in
    either (is_empty words) (Some (of_name verb.Crash name)) (mail_of name words) command (SaysStep command text) got.1
    (λ t h.
    let whole : words_of text ≡ codes "crash" ∷ name ∷ [] = split ∙ ap (λ (ws : List (List ℕ)). codes "crash" ∷ name ∷ ws) (end_of words t) in
    let all = and_from _ _ refl (and_from _ _ (name_filled name got.0) refl) in
    subst (λ (c : Command). SaysStep c text) (same_Some (of_name verb.Crash name) command h) (got.0, words_so text (codes "crash") (name ∷ []) whole all))
    (λ h. mail_so text name words command got.0 split h)

verb_so : (text : List ℕ) (kind : NameVerb) (words : List (List ℕ)) (command : Command) → Begins (naming_word kind) words text → by_verb kind words ≡ Some command → SaysStep command text
verb_so text verb.Crash words command split e = crash_so text words command split e
verb_so text verb.Submit words command split e = named_so text verb.Submit words command split e
verb_so text verb.Publish words command split e = named_so text verb.Publish words command split e
verb_so text verb.Revoke words command split e = named_so text verb.Revoke words command split e
verb_so text verb.Boot words command split e = named_so text verb.Boot words command split e
verb_so text verb.Timer words command split e = named_so text verb.Timer words command split e

counted_so : (text : List ℕ) (kind : CountVerb) (words : List (List ℕ)) (command : Command) → Begins (counting_word kind) words text → option_map (by_number kind) (one_number words) ≡ Some command → SaysStep command text
counted_so text kind words command split e =
    let number = map_some (by_number kind) (one_number words) command e in
    let one = one_number_so words number.0 number.1 in
    let whole : words_of text ≡ counting_word kind ∷ one.word ∷ [] = split ∙ ap (λ (ws : List (List ℕ)). counting_word kind ∷ ws) one.words_are in
    let all = and_from _ _ (counting_filled kind) (and_from _ _ (number_filled number.0 one.word one.spelled) refl) in
    subst (λ (c : Command). SaysStep c text) number.2 (one.word, one.spelled, words_so text (counting_word kind) (one.word ∷ []) whole all)

other_so : (text word : List ℕ) (words : List (List ℕ)) (command : Command) (count : Option CountVerb) (kind : Option NameVerb) → count_verb word ≡ count → name_verb word ≡ kind → Begins word words text
    → command_by_count_or count kind words ≡ Some command → SaysStep command text
other_so text word words command (Some count) kind c n split e = counted_so text count words command (split ∙ ap (λ (w : List ℕ). w ∷ words) (counting_so word count c)) e
other_so text word words command None (Some kind) c n split e = verb_so text kind words command (split ∙ ap (λ (w : List ℕ). w ∷ words) (naming_so word kind n)) e
other_so text word words command None None c n split e = absurd (cc)

in_words_so : (text : List ℕ) (words : List (List ℕ)) (command : Command) → words_of text ≡ words → command_in words ≡ Some command → SaysStep command text
unfolding command_by
in_words_so text [] command split e = absurd (cc)
in_words_so text (word ∷ words) command split e =
    either (same_name word (codes "push")) (push_of words) (command_by_count_or (count_verb word) (name_verb word) words) command (SaysStep command text) e
    (λ t h. push_so text words command (split ∙ ap (λ (w : List ℕ). w ∷ words) (same_bytes word (codes "push") t)) h)
    (λ h. other_so text word words command (count_verb word) (name_verb word) refl refl split h)

pub step_so : (text : List ℕ) (command : Command) → command_of text ≡ Some command → SaysStep command text
unfolding command_of
step_so text command e = in_words_so text (words_of text) command refl e

-- ---- steps that are said

so_named : (kind : NameVerb) (name : List ℕ) → is_name name ≡ true → command_in (naming_word kind ∷ name ∷ []) ≡ Some (of_name kind name)
unfolding command_by count_verb name_verb crash_of
so_named verb.Submit name e = ap (option_map (of_name verb.Submit)) (so_name name e)
so_named verb.Publish name e = ap (option_map (of_name verb.Publish)) (so_name name e)
so_named verb.Revoke name e = ap (option_map (of_name verb.Revoke)) (so_name name e)
so_named verb.Crash name e = test_passes (is_name name) (Some (of_name verb.Crash name)) e
so_named verb.Boot name e = ap (option_map (of_name verb.Boot)) (so_name name e)
so_named verb.Timer name e = ap (option_map (of_name verb.Timer)) (so_name name e)

so_counted : (kind : CountVerb) (number : ℕ) (word : List ℕ) → SpellsNumber number word → command_in (counting_word kind ∷ word ∷ []) ≡ Some (by_number kind number)
unfolding command_by count_verb
so_counted counting.Tick number word h = ap (option_map (by_number counting.Tick)) (so_number word number h)
so_counted counting.Deliver number word h = ap (option_map (by_number counting.Deliver)) (so_number word number h)
so_counted counting.Lose number word h = ap (option_map (by_number counting.Lose)) (so_number word number h)

so_cut : (name mail calls fill : List ℕ) (k c f : ℕ) → is_name name ≡ true → SpellsNumber k mail → SpellsNumber c calls → SpellsNumber f fill
    → command_in (codes "crash" ∷ name ∷ codes "in" ∷ mail ∷ codes "at" ∷ calls ∷ codes "fill" ∷ fill ∷ []) ≡ Some (cut name k c f)
unfolding command_by count_verb name_verb crash_of mail_of calls_of fill_of
so_cut name mail calls fill k c f named_so mail_is calls_is fill_is =
    test_passes (is_name name) (cut_in_mail name (number_of mail) (codes "at" ∷ calls ∷ codes "fill" ∷ fill ∷ [])) named_so
    ∙ (ap (λ (n : Option ℕ). cut_in_mail name n (codes "at" ∷ calls ∷ codes "fill" ∷ fill ∷ [])) (so_number mail k mail_is)
    ∙ (ap (cut_with_fill name k calls) (so_number fill f fill_is) ∙ ap (option_map (λ (n : ℕ). cut name k n f)) (so_number calls c calls_is)))

pub so_step : (text : List ℕ) (command : Command) → SaysStep command text → command_of text ≡ Some command
unfolding command_of command_by push_of
so_step text (of_name kind name) (spelled, words) = ap command_in (split_so (naming_word kind ∷ name ∷ []) text words).split ∙ so_named kind name spelled
so_step text (by_number kind number) (word, spelled, words) = ap command_in (split_so (counting_word kind ∷ word ∷ []) text words).split ∙ so_counted kind number word spelled
so_step text (push admin server) (one, other, words) =
    ap command_in (split_so (codes "push" ∷ admin ∷ server ∷ []) text words).split ∙ (ap (push_to admin) (so_name server other) ∙ test_passes (is_name admin) (Some (push admin server)) one)
so_step text (cut name mail calls fill) (spelled, h) =
    ap command_in (split_so (codes "crash" ∷ name ∷ codes "in" ∷ h.mail_word ∷ codes "at" ∷ h.calls_word ∷ codes "fill" ∷ h.fill_word ∷ []) text h.words).split
    ∙ so_cut name h.mail_word h.calls_word h.fill_word mail calls fill spelled h.mail_is h.calls_is h.fill_is

pub one_step : (text : List ℕ) (one other : Command) → SaysStep one text → SaysStep other text → one ≡ other
one_step text one other a b = same_Some one other (sym (so_step text one a) ∙ so_step text other b)
