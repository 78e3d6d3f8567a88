use Rattle.std.proofs.Common.{◌≡◌, ◌-◌, ◌<◌, [], ◌∷◌, length, Some, None, sym, ap, ap₂, ◌∙◌, arith, rules}
use Rattle.json.specs.Token.{Token}
use Rattle.json.specs.Json.{parse_map, after_end_array, read_key, items, members, value}
use Rattle.json.specs.Reads.{token_of}
use Rattle.json.proofs.Grammar.{read_key-shorter, value_is}
use Rattle.serde_json.specs.Data.{null, boolean, number, string, array, object, put}
use Rattle.serde_json.specs.Read.{of_json, of_items, of_members, converted}
use Rattle.tp_json.proofs.TurnLemmas.{item_read, item_refused, items_over, member_read, member_refused, key_refused, members_over}
use Rattle.tp_json.specs.View.{members_view, number_view, view}
use Rattle.tp_json.specs.declared.tree.Json.{String, Number, Bool, Null, the_lemmas}
use Rattle.tp_json.proofs.ViewLemmas.{members_view-push, view-Array, view-Object}
use Rattle.tp_json.proofs.ReadLemmas.{read_at, no_token, no_array, no_object, null_read, boolean_read, string_read, number_read, array_read, object_read, then, then-first, then-nothing, then-one}
use Rattle.tp_json.proofs.reading.+value_at.Goals as goal

-- ---- a value

pub value_at-returns-in_err-token-clause-err : goal.value_at-returns-in_err-token-clause-err
value_at-returns-in_err-token-clause-err t c refused =
    let over : c.args.reader.now ≡ [] = grind arith in
    ap (read_at c.args.depth) over ∙ no_token c.args.depth

pub value_at-returns-in-Null-clause-ok : goal.value_at-returns-in-Null-clause-ok
value_at-returns-in-Null-clause-ok t c =
    let first : c.args.reader.now ≡ token_of c.in_ok-token.token ∷ c.next.new.self = grind arith in
    let is : c.args.reader.now ≡ Token.null ∷ c.next.new.self = grind (arith, first) in
    let seen : view Null ≡ null = search (rules, the_lemmas) in
    ap (read_at c.args.depth) is ∙ null_read c.args.depth _ ∙ ap (λ d. Some (d, c.next.new.self)) (sym seen)

pub value_at-returns-in-Bool-clause-ok : goal.value_at-returns-in-Bool-clause-ok
value_at-returns-in-Bool-clause-ok t c =
    let first : c.args.reader.now ≡ token_of c.in_ok-token.token ∷ c.next.new.self = grind arith in
    let is : c.args.reader.now ≡ Token.boolean c.in-Bool.truth ∷ c.next.new.self = grind (arith, first) in
    let seen : view (Bool c.in-Bool.truth) ≡ boolean c.in-Bool.truth = search (rules, the_lemmas) in
    ap (read_at c.args.depth) is ∙ boolean_read c.args.depth _ _ ∙ ap (λ d. Some (d, c.next.new.self)) (sym seen)

pub value_at-returns-in-String-clause-ok : goal.value_at-returns-in-String-clause-ok
value_at-returns-in-String-clause-ok t c =
    let first : c.args.reader.now ≡ token_of c.in_ok-token.token ∷ c.next.new.self = grind arith in
    let is : c.args.reader.now ≡ Token.string c.in-String.text.now ∷ c.next.new.self = grind (arith, first) in
    let seen : view (String c.in-String.text) ≡ string c.in-String.text.now = search (rules, the_lemmas) in
    ap (read_at c.args.depth) is ∙ string_read c.args.depth _ _ ∙ ap (λ d. Some (d, c.next.new.self)) (sym seen)

pub value_at-returns-in-Some-clause-ok : goal.value_at-returns-in-Some-clause-ok
value_at-returns-in-Some-clause-ok t c =
    let first : c.args.reader.now ≡ token_of c.in_ok-token.token ∷ c.next.new.self = grind arith in
    let is : c.args.reader.now ≡ Token.number c.in-Number.text.now ∷ c.next.new.self = grind (arith, first) in
    let seen : view (Number c.in-Some.number) ≡ number (number_view c.in-Some.number) = search (rules, the_lemmas) in
    ap (read_at c.args.depth) is ∙ number_read c.args.depth _ _ ∙ rw (← c.in-Some.ensures, seen)

pub value_at-returns-in-None-clause-err : goal.value_at-returns-in-None-clause-err
value_at-returns-in-None-clause-err t c refused =
    let first : c.args.reader.now ≡ token_of c.in_ok-token.token ∷ c.next.new.self = grind arith in
    let is : c.args.reader.now ≡ Token.number c.in-Number.text.now ∷ c.next.new.self = grind (arith, first) in
    ap (read_at c.args.depth) is ∙ number_read c.args.depth _ _ ∙ rw (← c.in-None.ensures)

-- ---- the members of an array

pub items_at-items-init : goal.items_at-items-init
items_at-items-init t c =
    let all = converted of_items (items (value c.args.depth) (length c.args.reader.now) c.args.reader.now) in (
      length c.args.reader.now,
      omega arith,
      then-first all ∙ ap (λ vs. parse_map (then vs) all) (sym c.new-found.ensures.items),
      omega arith,
    )

pub items_at-returns-in_err-item-clause-err : goal.items_at-returns-in_err-item-clause-err
items_at-returns-in_err-item-clause-err t c refused =
    let loop = c.items in
    let going : (after_end_array loop.reader ≡ None) × (c.take_end_array.new.self ≡ loop.reader) = grind arith in
    loop.invariant.2
    ∙ ap (parse_map (then loop.found.items))
    (item_refused (value c.args.depth) loop.invariant.0 loop.reader going.0
    (rw (← going.1) (c.value_at.ensures.err (grind arith))))

pub items_at-items-preserved : goal.items_at-items-preserved
items_at-items-preserved t c =
    let loop = c.items in
    let n = loop.invariant.0 in
    let going : (after_end_array loop.reader ≡ None) × (c.take_end_array.new.self ≡ loop.reader) = grind arith in
    let done = c.in_ok-item.ensures in
    let v = c.in_ok-item.item in
    let rest = c.value_at.new.reader in
    let less : length rest < length loop.reader = rw (← going.1) done.shorter in
    let turn = item_read (value c.args.depth) n loop.reader rest (view v) (omega (arith, loop.invariant.1)) going.0
    (rw (← going.1) done.ok) in (
      n - 1,
      omega (arith, loop.invariant.1),
      loop.invariant.2 ∙ ap (parse_map (then loop.found.items)) turn ∙ then-one loop.found.items v _
          ∙ ap (λ vs. parse_map (then vs) (converted of_items (items (value c.args.depth) (n - 1) rest)))
          (sym c.in_ok-push.ensures.items),
      omega (arith, loop.invariant.3),
    )

pub items_at-returns-clause-ok : goal.items_at-returns-clause-ok
items_at-returns-clause-ok t c =
    let loop = c.items in
    let rest = c.take_end_array.new.self in
    loop.invariant.2
    ∙ ap (parse_map (then loop.found.items))
    (items_over (value c.args.depth) loop.invariant.0 loop.reader rest loop.invariant.1 (grind arith))
    ∙ ap (λ ds. Some (ds, rest)) (then-nothing loop.found.items)

-- ---- the members of an object

pub members_at-members-init : goal.members_at-members-init
members_at-members-init t c =
    let all = members (value c.args.depth) (length c.args.reader.now) c.args.reader.now in (
      length c.args.reader.now,
      omega arith,
      ap (λ found. converted (λ ms. of_members ms (members_view found)) all) (sym c.new-found.ensures.items),
      omega arith,
    )

pub members_at-returns-in_err-key-clause-err : goal.members_at-returns-in_err-key-clause-err
members_at-returns-in_err-key-clause-err t c refused =
    let loop = c.members in
    loop.invariant.2
    ∙ key_refused (value c.args.depth) (members_view loop.found.items) loop.invariant.0 loop.reader
    c.in_err-key.ensures.value

pub members_at-returns-in_err-member-clause-err : goal.members_at-returns-in_err-member-clause-err
members_at-returns-in_err-member-clause-err t c refused =
    let loop = c.members in
    let key = c.in-Some.key.now in
    let behind = c.next_key.new.self in
    let named : read_key loop.reader ≡ Some (Some key, behind) = grind arith in
    loop.invariant.2
    ∙ member_refused (value c.args.depth) (members_view loop.found.items) loop.invariant.0 key loop.reader behind
    named (c.value_at.ensures.err (grind arith))

pub members_at-members-preserved : goal.members_at-members-preserved
members_at-members-preserved t c =
    let p = value c.args.depth in
    let loop = c.members in
    let n = loop.invariant.0 in
    let before = members_view loop.found.items in
    let key = c.in-Some.key.now in
    let behind = c.next_key.new.self in
    let named : read_key loop.reader ≡ Some (Some key, behind) = grind arith in
    let done = c.in_ok-member.ensures in
    let v = c.in_ok-member.member in
    let rest = c.value_at.new.reader in
    let less = read_key-shorter loop.reader (Some key) behind named in
    let lesser = done.shorter in
    let added : members_view c.push.new.self.items ≡ put key (view v) before =
    ap members_view c.in_ok-push.ensures.items ∙ members_view-push loop.found.items (c.in-Some.key, v) in (
      n - 1,
      omega (arith, loop.invariant.1),
      loop.invariant.2
          ∙ member_read p before n key loop.reader behind rest (view v) (omega (arith, loop.invariant.1)) named done.ok
          ∙ ap (λ found. converted (λ ms. of_members ms found) (members p (n - 1) rest)) (sym added),
      omega (arith, loop.invariant.3),
    )

pub members_at-returns-clause-ok : goal.members_at-returns-clause-ok
members_at-returns-clause-ok t c =
    let loop = c.members in
    loop.invariant.2
    ∙ members_over (value c.args.depth) (members_view loop.found.items) loop.invariant.0 loop.reader
    c.next_key.new.self loop.invariant.1 (grind arith)

-- ---- what opens

pub value_at-returns-in_ok-items_at-in-BeginArray-clause-ok : goal.value_at-returns-in_ok-items_at-in-BeginArray-clause-ok
value_at-returns-in_ok-items_at-in-BeginArray-clause-ok t c =
    let first : c.args.reader.now ≡ token_of c.in_ok-token.token ∷ c.next.new.self = grind arith in
    let is = first ∙ ap (λ k. token_of k ∷ c.next.new.self) c.in-BeginArray.is in
    let found = c.in_ok-items_at-in-BeginArray in
    ap (read_at c.args.depth) is ∙ array_read c.args.depth c.next.new.self (omega arith)
    ∙ ap (parse_map array) found.ensures.ok ∙ ap (λ d. Some (d, c.items_at.new.reader)) (sym (view-Array found.field-0))

pub value_at-returns-in_ok-members_at-in-BeginObject-clause-ok : goal.value_at-returns-in_ok-members_at-in-BeginObject-clause-ok
value_at-returns-in_ok-members_at-in-BeginObject-clause-ok t c =
    let first : c.args.reader.now ≡ token_of c.in_ok-token.token ∷ c.next.new.self = grind arith in
    let is = first ∙ ap (λ k. token_of k ∷ c.next.new.self) c.in-BeginObject.is in
    let found = c.in_ok-members_at-in-BeginObject in
    ap (read_at c.args.depth) is ∙ object_read c.args.depth c.next.new.self (omega arith)
    ∙ ap (parse_map object) found.ensures.ok ∙ ap (λ d. Some (d, c.members_at.new.reader)) (sym (view-Object found.field-0))

pub value_at-returns-in_err-items_at-in-BeginArray-clause-err : goal.value_at-returns-in_err-items_at-in-BeginArray-clause-err
value_at-returns-in_err-items_at-in-BeginArray-clause-err t c refused =
    let first : c.args.reader.now ≡ token_of c.in_ok-token.token ∷ c.next.new.self = grind arith in
    let is = first ∙ ap (λ k. token_of k ∷ c.next.new.self) c.in-BeginArray.is in
    ap (read_at c.args.depth) is ∙ array_read c.args.depth c.next.new.self (omega arith)
    ∙ ap (parse_map array) (c.items_at.ensures.err (grind arith))

pub value_at-returns-in_err-members_at-in-BeginObject-clause-err : goal.value_at-returns-in_err-members_at-in-BeginObject-clause-err
value_at-returns-in_err-members_at-in-BeginObject-clause-err t c refused =
    let first : c.args.reader.now ≡ token_of c.in_ok-token.token ∷ c.next.new.self = grind arith in
    let is = first ∙ ap (λ k. token_of k ∷ c.next.new.self) c.in-BeginObject.is in
    ap (read_at c.args.depth) is ∙ object_read c.args.depth c.next.new.self (omega arith)
    ∙ ap (parse_map object) (c.members_at.ensures.err (grind arith))

pub value_at-returns-then-depth-eq0-clause-err : goal.value_at-returns-then-depth-eq0-clause-err
value_at-returns-then-depth-eq0-clause-err t c never =
    let first : c.args.reader.now ≡ token_of c.in_ok-token.token ∷ c.next.new.self = grind arith in
    let none : c.args.depth ≡ 0 = omega arith in
    ap₂ read_at none (first ∙ ap (λ k. token_of k ∷ c.next.new.self) c.in-BeginArray.is) ∙ no_array c.next.new.self

pub value_at-returns-then-depth-eq0-2-clause-err : goal.value_at-returns-then-depth-eq0-2-clause-err
value_at-returns-then-depth-eq0-2-clause-err t c never =
    let first : c.args.reader.now ≡ token_of c.in_ok-token.token ∷ c.next.new.self = grind arith in
    let none : c.args.depth ≡ 0 = omega arith in
    ap₂ read_at none (first ∙ ap (λ k. token_of k ∷ c.next.new.self) c.in-BeginObject.is) ∙ no_object c.next.new.self

pub value_at-returns-in-EndArray-clause-err : goal.value_at-returns-in-EndArray-clause-err
value_at-returns-in-EndArray-clause-err t c refused =
    let first : c.args.reader.now ≡ token_of c.in_ok-token.token ∷ c.next.new.self = grind arith in
    let none : value c.args.depth c.args.reader.now ≡ None = rw (value_is c.args.depth c.args.reader.now, first) (grind arith) in
    ap (converted of_json) none
