-- The number by which each refusal of a filling list is told.
use Rattle.std.specs.Prelude.{ℕ}
use Rattle.filling.specs.declared.refusal.Refusal.{Refusal}
use Rattle.filling.specs.declared.refusal.Refusal.TheVariants.{NoFreePlace}

abbrev pub refused_by : Refusal → ℕ
refused_by NoFreePlace = 6
