-- The full scale of the summing interpolator.
use Rattle.std.specs.Prelude.{ℕ}

abbrev pub sum_scale : ℕ
sum_scale = 99999999
