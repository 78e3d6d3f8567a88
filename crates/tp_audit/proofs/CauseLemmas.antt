-- Which servers are a transaction's.
use Rattle.std.proofs.Common.{◌≡◌, ℕ, zero, suc, ◌+◌, ◌==◌, Bool, true, false, ◌&&◌, ◌||◌, cond, nat_le, nat_lt, List, ◌∷◌, length, refl, ap, ◌∙◌, arith}
use Rattle.std.proofs.lemmas.Bool.Decides.{nat_tests}
use Rattle.std.specs.List.{list_any}
use Rattle.tp_model.specs.Words.{Query, Scenario, ServerId, Transaction}
use Rattle.tp_model.specs.Causes.{is_server_of}
use Rattle.tp_model.specs.Ids.{same_server}
use Rattle.tp_model.specs.Queries.{is_at_server, servers_from}

one_kept : {A : Type 0} (test : A → Bool) (x : A) (xs : List A) (b : Bool) → list_any test (cond b (x ∷ xs) xs) ≡ ((b && test x) || list_any test xs)
one_kept test x xs true = refl
one_kept test x xs false = refl

turn : (at server left : ℕ) (asked here : Bool) → (at ≡ server → asked ≡ here)
    → ((here && (at == server)) || (nat_le (server + 1) at && nat_lt at (server + 1 + left) && asked)) ≡ (nat_le server at && nat_lt at (server + suc left) && asked)
turn at server left asked here h = grind (arith, nat_tests)

walked : (sc : Scenario) (queries : List Query) (at : ServerId) (server left : ℕ)
    → list_any (same_server at) (servers_from sc queries server left) ≡ (nat_le server at.0 && nat_lt at.0 (server + left) && list_any (is_at_server sc at.0) queries)
walked sc queries at server zero = grind (arith, nat_tests)
walked sc queries at server (suc left) =
    one_kept (same_server at) (record { 0 = server }) (servers_from sc queries (server + 1) left) (list_any (is_at_server sc server) queries)
    ∙ ap (λ b. (list_any (is_at_server sc server) queries && (at.0 == server)) || b) (walked sc queries at (server + 1) left)
    ∙ turn at.0 server left (list_any (is_at_server sc at.0) queries) (list_any (is_at_server sc server) queries) (λ e. ap (λ n. list_any (is_at_server sc n) queries) e)

-- a server is one of the transaction's where it is declared, and a query is on an item of it
pub server_of : (sc : Scenario) (at : ServerId) (txn : Transaction)
    → is_server_of sc at txn ≡ (nat_lt at.0 (length sc.servers) && list_any (is_at_server sc at.0) txn.queries)
server_of sc at txn =
    let all = walked sc txn.queries at 0 (length sc.servers) in
    grind (arith, nat_tests)
