-- What a scheme demands of a commit (Iskander et al. 2011). The instances of a commit count from 1, as a transaction's queries do:
--     deferred       one instance, over all queries
--     punctual       one for each query, with its proof alone, and then one over all queries
--     incremental    one for each query, over the queries up to it, which keeps the proofs of the one before; where the master is
--                    read, one more over all queries, with the same proofs and a later reading
--     continuous     one for each query, over the queries up to it, and then one over all queries
-- Under punctual and continuous the proofs of each are made anew, later than all of the one before.
use Rattle.std.specs.Prelude.{ℕ, ◌+◌, ◌==◌, ◌&&◌, nat_le, nat_lt, min, List, [], ◌∷◌, drop, take, length, map, Bool, true, false, Option, Some, None, is_none, if◌then◌else◌}
use Rattle.std.specs.Cmp.Lexicographic.{pointwise}
use Rattle.std.specs.List.{list_all, range_with_len}
use Rattle.tp_model.specs.Words.{CommitRecord, Fact, Instance, Scenario, Scheme, Transaction, Verdict}
use Rattle.tp_model.specs.Limits.{view_rounds}
use Rattle.tp_model.specs.Words.scheme
use Rattle.tp_model.specs.Ids.{same_proofs}
use Rattle.tp_model.specs.Levels.{reads_master}
use Rattle.tp_model.specs.Versions.{is_consistent}

abbrev pub is_incremental : Scheme → Bool
is_incremental scheme.Incremental = true
is_incremental _ = false

-- ---- an instance by its number, of a transaction with so many queries

-- the first query that it is over
abbrev pub first_of : Scheme → ℕ → ℕ → ℕ
first_of scheme.Punctual queries number = if nat_le number queries then number else 1
first_of _ queries number = 1

-- how many queries it is over, from the first on
abbrev pub many_of : Scheme → ℕ → ℕ → ℕ
many_of scheme.Deferred queries number = queries
many_of scheme.Punctual queries number = if nat_le number queries then 1 else queries
many_of _ queries number = min number queries

-- whether it is to be consistent; the proof of a query alone is not, and has no reading
abbrev pub agrees_at : Scheme → ℕ → ℕ → Bool
agrees_at scheme.Punctual queries number = nat_lt queries number
agrees_at _ queries number = true

-- how many instances there are, where the transaction reads the master or does not
abbrev pub count_of : Scheme → Bool → ℕ → ℕ
count_of scheme.Deferred reads queries = 1
count_of scheme.Incremental false queries = queries
count_of _ reads queries = queries + 1

-- the query of a proof, by its number
abbrev pub query_of : Verdict → ℕ
query_of verdict = verdict.query

-- exactly one proof for each of so many queries from the first on, in order
abbrev pub is_over : ℕ → ℕ → List Verdict → Bool
is_over first many proofs = pointwise ◌==◌ (map query_of proofs) (range_with_len first many)

-- the instance is what the scheme asks for at this number
abbrev pub is_instance : Scenario → List Fact → Transaction → ℕ → Instance → Bool
is_instance sc facts txn number instance =
    is_over (first_of txn.scheme (length txn.queries) number)
    (many_of txn.scheme (length txn.queries) number) instance.proofs
    && (if agrees_at txn.scheme (length txn.queries) number
    then is_consistent sc txn facts instance
    else is_none instance.reading)

-- so are the instances, from this number on
abbrev pub are_instances : Scenario → List Fact → Transaction → ℕ → List Instance → Bool
are_instances sc facts txn number [] = true
are_instances sc facts txn number (instance ∷ instances) =
    is_instance sc facts txn number instance && are_instances sc facts txn (number + 1) instances

-- ---- one instance after another

-- the place comes after the reading, if there is one
abbrev pub is_after_reading : Option ℕ → ℕ → Bool
is_after_reading None place = true
is_after_reading (Some reading) place = nat_lt reading place

abbrev pub is_earlier_proof : Verdict → Verdict → Bool
is_earlier_proof proof other = nat_lt other.place proof.place

-- the proof was made after each proof of the instance, and after its reading, if it has one
abbrev pub is_later : Instance → Verdict → Bool
is_later instance proof =
    list_all (is_earlier_proof proof) instance.proofs
    && is_after_reading instance.reading proof.place

-- where there was a reading there is a later one
abbrev pub reads_later : Option ℕ → Option ℕ → Bool
reads_later None next = true
reads_later (Some reading) None = false
reads_later (Some reading) (Some next) = nat_lt reading next

-- the next instance begins with the same proofs, and what is new in it is later: further proofs, and the reading
abbrev pub goes_on : Instance → Instance → Bool
goes_on one next =
    same_proofs one.proofs (take (length one.proofs) next.proofs)
    && list_all (is_later one) (drop (length one.proofs) next.proofs)
    && reads_later one.reading next.reading

-- how an instance follows the one before it: incremental goes on with its proofs, punctual and continuous make all proofs later,
-- and deferred has one instance alone
abbrev pub follows : Scheme → Instance → Instance → Bool
follows scheme.Deferred one next = true
follows scheme.Incremental one next = goes_on one next
follows _ one next = list_all (is_later one) next.proofs

-- each instance follows the one before it
abbrev pub each_follows : Scheme → List Instance → Bool
each_follows scheme [] = true
each_follows scheme (one ∷ []) = true
each_follows scheme (one ∷ next ∷ instances) =
    follows scheme one next && each_follows scheme (next ∷ instances)

-- ---- rounds

-- as many rounds as the master may be read in, where it is read; else one, and one more to bring versions together
abbrev pub most_rounds : Scenario → Transaction → ℕ
most_rounds sc txn = if reads_master sc txn then txn.rounds else view_rounds

-- so many rounds of evaluation at commit are at least one and at most the most; incremental evaluates nothing at commit
abbrev pub is_round_count : Scenario → Transaction → ℕ → Bool
is_round_count sc txn rounds =
    if is_incremental txn.scheme then rounds == 0
    else nat_le 1 rounds && nat_le rounds (most_rounds sc txn)

-- ---- a commit

-- the commit is what the transaction's scheme demands
abbrev pub meets_demand : Scenario → List Fact → Transaction → CommitRecord → Bool
meets_demand sc facts txn committed =
    (length committed.instances
    == count_of txn.scheme (reads_master sc txn) (length txn.queries))
    && are_instances sc facts txn 1 committed.instances
    && each_follows txn.scheme committed.instances
    && is_round_count sc txn committed.rounds
