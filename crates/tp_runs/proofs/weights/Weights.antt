-- Weights: of mails, by what they bring about at most, and of the requests that a coordinator may still make; and how
-- they add up.
use Rattle.std.proofs.Common.{Bool, List, [], arith, ap, false, if◌then◌else◌, length, map, slice_get, true, ℕ, ◌*◌, ◌++◌, ◌+◌, ◌-◌, ◌<◌, ◌∷◌, ◌≡◌, ◌≤◌}
use Rattle.std.specs.Option.{option_map_or}
use Rattle.tp_model.specs.Words.body
use Rattle.tp_model.specs.Words.{Body, Letter, Mail, ServerId}
use Rattle.tp_coord.specs.State.{Coordinator}
use Rattle.tp_runs.proofs.basics.Phases.{is_undecided}
use Rattle.tp_types.proofs.EachLemmas.{by_cond}

-- ---- mails

-- an answer, an acknowledgement and a push bring about nothing more. A request brings an answer, and a question for the
-- outcome an order
abbrev pub weight_of : Body → ℕ
weight_of (body.Inquire inquiry) = 3
weight_of (body.Query q) = 2
weight_of (body.Ask ask) = 2
weight_of (body.Validate v) = 2
weight_of (body.Prepare p) = 2
weight_of (body.Probe probe) = 2
weight_of (body.Decide order) = 2
weight_of _ = 1

pub weighs_some : (said : Body) → 1 ≤ weight_of said
weighs_some (body.Inquire inquiry) = omega arith
weighs_some (body.Query q) = omega arith
weighs_some (body.Ask ask) = omega arith
weighs_some (body.Validate v) = omega arith
weighs_some (body.Prepare p) = omega arith
weighs_some (body.Probe probe) = omega arith
weighs_some (body.Decide order) = omega arith
weighs_some (body.Done done) = omega arith
weighs_some (body.Tell tell) = omega arith
weighs_some (body.Verdicts reply) = omega arith
weighs_some (body.Vote reply) = omega arith
weighs_some (body.Newest reply) = omega arith
weighs_some (body.Ack ack) = omega arith
weighs_some (body.Push push) = omega arith

pub weighs_three : (said : Body) → weight_of said ≤ 3
weighs_three (body.Inquire inquiry) = omega arith
weighs_three (body.Query q) = omega arith
weighs_three (body.Ask ask) = omega arith
weighs_three (body.Validate v) = omega arith
weighs_three (body.Prepare p) = omega arith
weighs_three (body.Probe probe) = omega arith
weighs_three (body.Decide order) = omega arith
weighs_three (body.Done done) = omega arith
weighs_three (body.Tell tell) = omega arith
weighs_three (body.Verdicts reply) = omega arith
weighs_three (body.Vote reply) = omega arith
weighs_three (body.Newest reply) = omega arith
weighs_three (body.Ack ack) = omega arith
weighs_three (body.Push push) = omega arith

abbrev pub weigh_together : List Letter → ℕ
weigh_together [] = 0
weigh_together (letter ∷ letters) = weight_of letter.body + weigh_together letters

pub together_more : (letters more : List Letter) → weigh_together (letters ++ more) ≡ weigh_together letters + weigh_together more
together_more [] more = omega arith
together_more (letter ∷ letters) more = let later = together_more letters more in omega (arith, later)

-- the letters to some servers, of which each weighs as much
pub mapped_weigh : (write : ServerId → Letter) (weight : ℕ) (servers : List ServerId) → ((at : ServerId) → weight_of (write at).body ≡ weight) → weigh_together (map write servers) ≡ weight * length servers
mapped_weigh write weight [] same = omega arith
mapped_weigh write weight (at ∷ servers) same =
    let later = mapped_weigh write weight servers same in
    let here = same at in
    let more : weight * length (at ∷ servers) ≡ weight + weight * length servers = omega arith in
    omega (arith, later, here, more)

-- the mail of this number weighs so much; nothing, where it was not sent
abbrev pub weight_at : List Mail → ℕ → ℕ
weight_at mails number = option_map_or (λ (mail : Mail). weight_of mail.letter.body) (slice_get mails number) 0

-- so much the mails of these numbers
abbrev pub weights_at : List Mail → List ℕ → ℕ
weights_at mails [] = 0
weights_at mails (number ∷ numbers) = weight_at mails number + weights_at mails numbers

-- ---- requests

-- the most requests of a transaction, of so many queries at most
abbrev pub most_requests : ℕ → ℕ
most_requests queries = (queries + 1) * 54

-- how many requests a coordinator may still make at most, its decision one of them
abbrev pub left_to_ask : ℕ → Coordinator → ℕ
left_to_ask queries c = if is_undecided c.phase then most_requests queries - c.turn else 0

-- one that has decided makes none
pub decided_none : (queries : ℕ) (c : Coordinator) → is_undecided c.phase ≡ false → left_to_ask queries c ≡ 0
decided_none queries c e = ap (λ (b : Bool). if b then most_requests queries - c.turn else 0) e

pub undecided_left : (queries : ℕ) (c : Coordinator) → is_undecided c.phase ≡ true → left_to_ask queries c ≡ most_requests queries - c.turn
undecided_left queries c e = ap (λ (b : Bool). if b then most_requests queries - c.turn else 0) e

pub left_most : (queries : ℕ) (c : Coordinator) → left_to_ask queries c ≤ most_requests queries - c.turn
left_most queries c = by_cond (λ (n : ℕ). n ≤ most_requests queries - c.turn) (is_undecided c.phase) (λ e. omega arith) (λ e. omega arith)

-- a request is one less
pub one_less : (queries : ℕ) (c next : Coordinator) → is_undecided c.phase ≡ true → c.turn < most_requests queries → next.turn ≡ c.turn + 1 → left_to_ask queries next + 1 ≤ left_to_ask queries c
one_less queries c next undecided low rises = omega (arith, undecided_left queries c undecided, left_most queries next, low, rises)

-- so is a decision
pub none_left : (queries : ℕ) (c next : Coordinator) → is_undecided c.phase ≡ true → c.turn < most_requests queries → is_undecided next.phase ≡ false → left_to_ask queries next + 1 ≤ left_to_ask queries c
none_left queries c next undecided low ends = omega (arith, undecided_left queries c undecided, decided_none queries next ends, low)

-- as many are left in the same turn
pub as_many : (queries : ℕ) (c next : Coordinator) → is_undecided c.phase ≡ true → next.turn ≡ c.turn → left_to_ask queries next ≤ left_to_ask queries c
as_many queries c next undecided same = omega (arith, undecided_left queries c undecided, left_most queries next, same)
