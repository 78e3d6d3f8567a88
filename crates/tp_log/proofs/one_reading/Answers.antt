use Rattle.std.proofs.Common.{ℕ, suc, arith, ◌<◌, ◌^◌, List, [], ◌∷◌}
use Rattle.std.specs.Prelude.{All}
use Rattle.tp_record.proofs.Exact.{AreBytes}
use Rattle.tp_log.proofs.Answering.{has_reading}
use Rattle.tp_log.proofs.Blocks.{fails_not, fails_one, gives_one}
use Rattle.tp_log.proofs.Found.{gives_found}
use Rattle.tp_log.proofs.one_reading.Goals as goal

pub returns-clause-records : goal.returns-clause-records
returns-clause-records c = gives_one

pub returns-clause-place : goal.returns-clause-place
returns-clause-place c = fails_one

pub returns-clause-apart : goal.returns-clause-apart
returns-clause-apart c = fails_not

pub returns-clause-found : goal.returns-clause-found
returns-clause-found c = gives_found

bytes_are : (image : List ℕ) → All (λ (byte : ℕ). byte < 2 ^ 8) image → AreBytes image
bytes_are [] all = tt
bytes_are (byte ∷ image) all = (all 0 0 (omega arith), bytes_are image (λ k d lt. all (suc k) d (omega (arith, lt))))

pub returns-clause-some : goal.returns-clause-some
returns-clause-some c image all = has_reading image (bytes_are image all)
