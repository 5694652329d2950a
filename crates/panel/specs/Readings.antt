-- Readings: how one is made, the number it shows, and when two are the same.
use Rattle.std.specs.Prelude.{ℕ, Bool, false, ℤ, pos, negsuc, ◌==◌}
use Rattle.panel.specs.declared.reading.Reading.{Reading}

-- a reading of a board that shows n
abbrev pub made : ℕ → ℤ → Reading
made b n = record { board = b; number = n }

-- the number that a reading shows
abbrev pub told : Reading → ℤ
told r = r.number

-- two numbers are equal
abbrev pub equal : ℤ → ℤ → Bool
equal (pos m) (pos n) = m == n
equal (pos m) (negsuc n) = false
equal (negsuc m) (pos n) = false
equal (negsuc m) (negsuc n) = m == n

-- two readings are the same: their numbers are equal
abbrev pub alike : Reading → Reading → Bool
alike r s = equal (told r) (told s)
