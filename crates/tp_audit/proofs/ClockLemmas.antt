-- What the facts before a place sum to.
use Rattle.std.proofs.Common.{◌≡◌, ℕ, cond, List}
use Rattle.std.specs.List.{sum_by}
use Rattle.tp_model.specs.Words.{Fact}
use Rattle.tp_model.specs.Credentials.{tick_of}
use Rattle.tp_model.specs.Facts.{before, is_earlier}
use Rattle.tp_model.proofs.HistoryLemmas.{sum_filter}

-- by how much a fact moves the clock of a place
abbrev pub ticks_by : ℕ → Fact → ℕ
ticks_by place fact = cond (is_earlier place fact) (tick_of fact) 0

-- the clock sums what each fact moves it by
pub clock_sums : (place : ℕ) (facts : List Fact) → sum_by tick_of (before place facts) ≡ sum_by (ticks_by place) facts
clock_sums place facts = sum_filter tick_of (is_earlier place) facts
