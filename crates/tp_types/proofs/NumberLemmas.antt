-- Numbers of at most 15 digits.
use Rattle.std.proofs.Common.{ℕ, ◌^◌, ◌<◌, ◌≤◌, arith, lit<}
use Rattle.std.proofs.Math.Nat.{pow-le-pow_right}

pub value_below : (value count most : ℕ) → value < 10 ^ count → count ≤ most → value < 10 ^ most
value_below value count most small short =
    let wide : 10 ^ count ≤ 10 ^ most = pow-le-pow_right (lit< tt) {i = count} {j = most} short in
    omega arith
