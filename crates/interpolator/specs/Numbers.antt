-- The number by which each refusal of an interpolator is told.
use Rattle.std.specs.Prelude.{ℕ}
use Rattle.interpolator.specs.declared.refusal.Refusal.{Refusal}
use Rattle.interpolator.specs.declared.refusal.Refusal.TheVariants.{AboveFullScale}

abbrev pub refused_by : Refusal → ℕ
refused_by AboveFullScale = 3
