-- A start and a signed gap, as two counts.
use Rattle.std.specs.Prelude.{ℕ, Bool, ℤ, pos, ◌+ℤ◌, int_le, unsigned_abs}

-- the full scale of the gap kind
abbrev pub gap_scale : ℕ
gap_scale = 16777215

-- the stop lies at 0 or above it
abbrev pub stands : ℕ → ℤ → Bool
stands m g = int_le (pos 0) (pos m +ℤ g)

-- the stop of a start and a gap
abbrev pub stop_at : ℕ → ℤ → ℕ
stop_at m g = unsigned_abs (pos m +ℤ g)
