-- The interval between two counts, under a full scale.
use Rattle.std.specs.Prelude.{ℕ, cond, ◌&&◌, ℤ, pos, ◌-ℤ◌, Ok, Err, Result, nat_le}
use Rattle.interpolator.specs.declared.refusal.Refusal.{Refusal}
use Rattle.interpolator.specs.declared.refusal.Refusal.TheVariants.{AboveFullScale}

-- the stop n minus the start m, or a refusal where one of them lies above full scale
abbrev pub told : ℕ → ℕ → ℕ → Result ℤ Refusal
told full m n = cond (nat_le m full && nat_le n full) (Ok (pos n -ℤ pos m)) (Err AboveFullScale)
