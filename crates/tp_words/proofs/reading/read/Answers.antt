use Rattle.std.proofs.Common.{rules, ◌≡◌, ◌⊎◌, inl, inr, ap, ap₂, refl, sym, subst, true, codes, map, option_map, List, [], ◌∷◌, ◌∙◌, ℕ}
use Rattle.clap.specs.Faults.{fault_of, is_simple_and_free}
use Rattle.clap.specs.Kinds.{HasKind}
use Rattle.clap.specs.Matches.{found_of}
use Rattle.clap.specs.Simple.{App, app_of, app_of_fields, is_simple, matches_of, new_app, on_top, with_rule}
use Rattle.clap.specs.Walk.{first_of, rule_of, rows_of}
use Rattle.clap.proofs.OnLiterals.{clap_on_literals}
use Rattle.clap.proofs.WalkLemmas.{first_value-rows}
use Rattle.tp_words.specs.Reading.{app, first_word, second_word, with_words_alone}
use Rattle.tp_words.proofs.reading.read.Goals as goal

simple : is_simple app ≡ true
unfolding clap_on_literals
simple = refl

free : is_simple_and_free app ≡ true
unfolding clap_on_literals
free = refl

pub returns-in-Ok : goal.returns-in-Ok
returns-in-Ok c =
    let first_is : rule_of c.required-name.result ≡ first_word = search rules in
    let second_is : rule_of c.new-word.result ≡ second_word = search rules in
    let top_is : app_of c.disable_version_flag.result ≡ on_top with_words_alone (new_app (codes "tpvc")) =
    ap app_of_fields c.disable_version_flag.ensures
    ∙ (ap (λ f. app_of_fields (record f { disable_version_flag = true })) c.disable_help_flag.ensures
    ∙ (ap (λ f. app_of_fields (record f { disable_help_flag = true; disable_version_flag = true })) c.no_binary_name.ensures
    ∙ ap (on_top with_words_alone) c.new-2.ensures.app)) in
    let app_is : app_of c.in_ok-command.command ≡ app = c.in_ok-command.ensures.shape (search rules) ∙ ap₂ with_rule (c.in_ok-arg.ensures.shape (search rules) ∙ ap₂ with_rule top_is first_is) second_is in
    let rows = (c.in-Ok.ensures.matches (ap is_simple app_is ∙ simple)).0 in
    record {
      taken = ap (λ (a : App). fault_of a (map (λ word. word.now) c.args.words.now)) (sym app_is) ∙ c.in-Ok.ensures.kinds (ap is_simple_and_free app_is ∙ free);
      first_is = c.get_str.ensures ∙ (first_value-rows (found_of c.in-Ok.matches) (codes "COMMAND") ∙ ap (first_of (codes "COMMAND")) (rows ∙ ap (λ (a : App). matches_of a (map (λ word. word.now) c.args.words.now)) app_is));
      second_is = c.get_str-in-Ok.ensures ∙ (first_value-rows (found_of c.in-Ok.matches) (codes "WORD") ∙ ap (first_of (codes "WORD")) (rows ∙ ap (λ (a : App). matches_of a (map (λ word. word.now) c.args.words.now)) app_is));
    }

pub returns : goal.returns
returns c =
    let first_is : rule_of c.required-name.result ≡ first_word = search rules in
    let second_is : rule_of c.new-word.result ≡ second_word = search rules in
    let top_is : app_of c.disable_version_flag.result ≡ on_top with_words_alone (new_app (codes "tpvc")) =
    ap app_of_fields c.disable_version_flag.ensures
    ∙ (ap (λ f. app_of_fields (record f { disable_version_flag = true })) c.disable_help_flag.ensures
    ∙ (ap (λ f. app_of_fields (record f { disable_help_flag = true; disable_version_flag = true })) c.no_binary_name.ensures
    ∙ ap (on_top with_words_alone) c.new-2.ensures.app)) in
    let app_is : app_of c.in_ok-command.command ≡ app = c.in_ok-command.ensures.shape (search rules) ∙ ap₂ with_rule (c.in_ok-arg.ensures.shape (search rules) ∙ ap₂ with_rule top_is first_is) second_is in
    let why = c.in-Err.ensures.kinds (ap is_simple_and_free app_is ∙ free) in
    λ none. by_kind (subst (λ kinds. HasKind kinds c.in-Err.error) (ap (λ (a : App). fault_of a (map (λ word. word.now) c.args.words.now)) app_is ∙ none) why)
  where
    by_kind : HasKind [] c.in-Err.error → ⊥
    by_kind (inl e) = c.in_default.not-OutOfMemory (c.kind.ensures ∙ e)
    by_kind (inr none) = none
