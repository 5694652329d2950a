-- A put of a count, under a full scale.
use Rattle.std.specs.Prelude.{ℕ, cond, Ok, Err, Result, nat_le}
use Rattle.interpolator.specs.declared.refusal.Refusal.{Refusal}
use Rattle.interpolator.specs.declared.refusal.Refusal.TheVariants.{AboveFullScale}

-- a put within full scale is accepted, one above it refused
abbrev pub put_answered : ℕ → ℕ → Result Unit Refusal
put_answered full n = cond (nat_le n full) (Ok tt) (Err AboveFullScale)

-- what the count is after the put, where it was old before
abbrev pub put : ℕ → ℕ → ℕ → ℕ
put full n old = cond (nat_le n full) n old
