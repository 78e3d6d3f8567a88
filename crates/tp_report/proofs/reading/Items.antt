-- The lines of items and the last line lead to the end, where the values of all items were read.
use Rattle.std.proofs.Common.{◌≡◌, ◌<◌, ℕ, ◌+◌, nat_lt, ◌&&◌, ◌==◌, Bool, true, false, List, [], ◌∷◌, ◌++◌, length, map, Option, Some, None, slice_get, zero, suc, ℤ, pos, refl, sym, ap, subst, ◌∙◌, arith, codes, decimal}
use Rattle.std.specs.Fmt.{signed_decimal}
use Rattle.std.specs.List.{flat_map, list_all}
use Rattle.std.specs.Option.{option_map_or}
use Rattle.std.proofs.lemmas.Bool.{and_from, lt-ltb, ltb-true}
use Rattle.std.proofs.lemmas.List.{append-nil, append_assoc, map-append}
use Rattle.tp_types.specs.Each.{Each}
use Rattle.tp_types.proofs.EachLemmas.{each_from_all, each_get, missing}
use Rattle.tp_model.specs.Words.{Ending, Fact, Item, ItemId, Scenario, ServerDecl}
use Rattle.tp_model.specs.Printable.{is_i128, is_u64}
use Rattle.tp_report.specs.ReportText.{item_name, item_tokens, quiet_tokens, server_tokens, value_word}
use Rattle.tp_report.specs.Tokens.{Token, last_word, word}
use Rattle.tp_report.proofs.reading.Names.{AreNames, Fine, declared_name}
use Rattle.tp_report.proofs.reading.Order.{ids_from}
use Rattle.tp_report.proofs.reading.Report.{End, Hub, Items, hub, item_names, rows_of, u64_bound}
use Rattle.tp_report.proofs.reading.Steps.{exactly, known, numbered, valued}
use Rattle.tp_report.proofs.reading.Tree.{At, Done, Leads, Takes, Then, Tree, Valued, joined}
use Rattle.tp_report.proofs.reading.Words.{is_clean, is_word_byte}

-- the value that an ending has for an item
abbrev pub value_at : List ℤ → ItemId → ℤ
value_at values item = option_map_or (λ (value : ℤ). value) (slice_get values item.0) (pos 0)

-- an item that exists has its value, of the type of values
record HasValue (ending : Ending) (item : ItemId) : Type 0 where
  word_is : value_word ending item ≡ signed_decimal (value_at ending.values item)
  fits : is_i128 (value_at ending.values item) ≡ true

value_there : (ending : Ending) (item : ItemId) → list_all is_i128 ending.values ≡ true → item.0 < length ending.values → HasValue ending item
value_there ending item all low = by_found (slice_get ending.values item.0) refl
  where
    by_found : (found : Option ℤ) → slice_get ending.values item.0 ≡ found → HasValue ending item
    by_found None e = absurd (missing ending.values item.0 low e)
    by_found (Some value) e =
        record {
          word_is = ap (λ (f : Option ℤ). option_map_or signed_decimal f []) e ∙ ap (λ (f : Option ℤ). signed_decimal (option_map_or (λ (v : ℤ). v) f (pos 0))) (sym e);
          fits = ap (λ (f : Option ℤ). is_i128 (option_map_or (λ (v : ℤ). v) f (pos 0))) e ∙ each_get (λ (v : ℤ). is_i128 v ≡ true) ending.values item.0 value (each_from_all is_i128 ending.values all) e;
        }

-- what is known of a scenario's items and of its ending
pub record Ends (sc : Scenario) (ending : Ending) : Type 0 where
  pub names : AreNames (item_names sc)
  pub values : list_all is_i128 ending.values ≡ true
  pub count : length ending.values ≡ length sc.items

clean_word : (bytes : List ℕ) → list_all is_word_byte bytes ≡ true → is_clean (word bytes) ≡ true
clean_word bytes clean = and_from (list_all is_word_byte bytes) true clean refl

module _ {sc : Scenario} {ending : Ending} (known_is : Ends sc ending) (facts : List Fact) where
  item_way : (server : List ℕ) (item : ItemId) (left : List (List ℕ × List ℕ)) (before : List ℤ) → list_all is_word_byte server ≡ true → nat_lt item.0 (length sc.items) ≡ true
      → Leads (hub sc) (At (Items facts ((server, item_name sc item) ∷ left) before)) (item_tokens sc ending server item) (At (Items facts left (before ++ value_at ending.values item ∷ [])))
  item_way server item left before clean low =
      let name = declared_name (λ (declared : Item). declared.name) sc.items item.0 known_is.names low in
      let has = value_there ending item known_is.values (subst (λ (n : ℕ). item.0 < n) (sym known_is.count) (ltb-true item.0 (length sc.items) low)) in
      Then (known refl refl) (Then (exactly (word server) (clean_word server clean)) (Then (exactly (word (item_name sc item)) (clean_word (item_name sc item) name.clean))
      (subst (λ (bytes : List ℕ). Leads (hub sc) (Valued (λ value. At (Items facts left (before ++ value ∷ [])))) (last_word bytes ∷ []) (At (Items facts left (before ++ value_at ending.values item ∷ [])))) (sym has.word_is) (Then (valued (value_at ending.values item) has.fits) Done))))

  server_way : (server : List ℕ) (items : List ItemId) (left : List (List ℕ × List ℕ)) (before : List ℤ) → list_all is_word_byte server ≡ true → Each (λ (item : ItemId). nat_lt item.0 (length sc.items) ≡ true) items
      → Leads (hub sc) (At (Items facts (map (λ (item : ItemId). (server, item_name sc item)) items ++ left) before)) (flat_map (item_tokens sc ending server) items) (At (Items facts left (before ++ map (value_at ending.values) items)))
  server_way server [] left before clean low = subst (λ (values : List ℤ). Leads (hub sc) (At (Items facts left before)) [] (At (Items facts left values))) (sym (append-nil before)) Done
  server_way server (item ∷ items) left before clean low =
      joined (item_way server item (map (λ (i : ItemId). (server, item_name sc i)) items ++ left) before clean low.0)
      (subst (λ (values : List ℤ). Leads (hub sc) (At (Items facts (map (λ (i : ItemId). (server, item_name sc i)) items ++ left) (before ++ value_at ending.values item ∷ []))) (flat_map (item_tokens sc ending server) items) (At (Items facts left values)))
      (append_assoc before (value_at ending.values item ∷ []) (map (value_at ending.values) items)) (server_way server items left (before ++ value_at ending.values item ∷ []) clean low.1))

  each_parts : {A : Type 0} (P : A → Type 0) (xs ys : List A) → Each P (xs ++ ys) → Each P xs × Each P ys
  each_parts P [] ys h = (tt, h)
  each_parts P (x ∷ xs) ys h = let rest = each_parts P xs ys h.1 in ((h.0, rest.0), rest.1)

  pub servers_way : (servers : List ServerDecl) (before : List ℤ) → Each (λ (server : ServerDecl). list_all is_word_byte server.name ≡ true) servers
      → Each (λ (item : ItemId). nat_lt item.0 (length sc.items) ≡ true) (flat_map (λ (server : ServerDecl). server.items) servers)
      → Leads (hub sc) (At (Items facts (flat_map (rows_of sc) servers) before)) (flat_map (server_tokens sc ending) servers) (At (Items facts [] (before ++ map (value_at ending.values) (flat_map (λ (server : ServerDecl). server.items) servers))))
  servers_way [] before clean low = subst (λ (values : List ℤ). Leads (hub sc) (At (Items facts [] before)) [] (At (Items facts [] values))) (sym (append-nil before)) Done
  servers_way (server ∷ servers) before clean low =
      let parts = each_parts (λ (item : ItemId). nat_lt item.0 (length sc.items) ≡ true) server.items (flat_map (λ (other : ServerDecl). other.items) servers) low in
      joined (server_way server.name server.items (flat_map (rows_of sc) servers) before clean.0 parts.0)
      (subst (λ (values : List ℤ). Leads (hub sc) (At (Items facts (flat_map (rows_of sc) servers) (before ++ map (value_at ending.values) server.items))) (flat_map (server_tokens sc ending) servers) (At (Items facts [] values)))
      (append_assoc before (map (value_at ending.values) server.items) (map (value_at ending.values) (flat_map (λ (other : ServerDecl). other.items) servers))
      ∙ ap (λ (values : List ℤ). before ++ values) (sym (map-append (value_at ending.values) server.items (flat_map (λ (other : ServerDecl). other.items) servers))))
      (servers_way servers (before ++ map (value_at ending.values) server.items) clean.1 parts.1))

  pub quiet_way : (values : List ℤ) → is_u64 ending.steps ≡ true → is_u64 ending.mails ≡ true → Leads (hub sc) (At (Items facts [] values)) (quiet_tokens ending) (At (End facts values ending.steps ending.mails))
  quiet_way values steps mails =
      Then (known refl refl) (Then (numbered [] u64_bound 32 ending.steps refl refl (omega arith) steps) (Then (numbered [] u64_bound 10 ending.mails refl refl (omega arith) mails) Done))

-- ---- the values of all items

values_from : (before values : List ℤ) → map (value_at (before ++ values)) (ids_from (length before) (length values)) ≡ values
values_from before [] = refl
values_from before (value ∷ values) =
    let rest = values_from (before ++ value ∷ []) values in
    ap (λ (found : Option ℤ). option_map_or (λ (v : ℤ). v) found (pos 0) ∷ map (value_at (before ++ value ∷ values)) (ids_from (length before + 1) (length values))) (there before)
    ∙ ap (λ (l : List ℤ). value ∷ l) (ap (λ (all : List ℤ). map (value_at all) (ids_from (length before + 1) (length values))) (sym (append_assoc before (value ∷ []) values))
    ∙ (ap (λ (n : ℕ). map (value_at ((before ++ value ∷ []) ++ values)) (ids_from n (length values))) (sym (longer before)) ∙ rest))
  where
    there : (front : List ℤ) → slice_get (front ++ value ∷ values) (length front) ≡ Some value
    there [] = refl
    there (first ∷ front) = there front

    longer : (front : List ℤ) → length (front ++ value ∷ []) ≡ length front + 1
    longer [] = refl
    longer (first ∷ front) = omega (arith, longer front)

pub all_values : (values : List ℤ) → map (value_at values) (ids_from 0 (length values)) ≡ values
all_values values = values_from [] values

-- the ids of so many items exist
pub ids_exist : (count : ℕ) → Each (λ (item : ItemId). nat_lt item.0 count ≡ true) (ids_from 0 count)
ids_exist count = from count 0 (omega arith)
  where
    from : (left first : ℕ) → first + left ≡ count → Each (λ (item : ItemId). nat_lt item.0 count ≡ true) (ids_from first left)
    from zero first e = tt
    from (suc left) first e = (lt-ltb first count (omega (arith, e)), from left (first + 1) (omega (arith, e)))
