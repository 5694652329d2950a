-- The number by which each refusal of a lock is told.
use Rattle.std.specs.Prelude.{ℕ}
use Rattle.lock.specs.declared.station.Refusal.{Refusal}
use Rattle.lock.specs.declared.station.Refusal.TheVariants.{NoSuchBoard, NotOut, NotEngaged, NotInside}

abbrev pub refused_by : Refusal → ℕ
refused_by NoSuchBoard = 1
refused_by NotOut = 2
refused_by NotEngaged = 4
refused_by NotInside = 5
