-- Fitting a board to a list of n boards: what is answered, and how many there are then.
use Rattle.std.specs.Prelude.{ℕ, ◌+◌, cond, Ok, Err, Result, nat_lt}
use Rattle.lock.specs.declared.fitting.FitRefusal.{FitRefusal}
use Rattle.lock.specs.declared.fitting.FitRefusal.TheVariants.{Full}
use Rattle.lock.specs.Most.{most}

-- the number by which the refusal is told
abbrev pub fit_number : FitRefusal → ℕ
fit_number Full = 7

abbrev pub fit_answered : ℕ → Result Unit FitRefusal
fit_answered n = cond (nat_lt n most) (Ok tt) (Err Full)

abbrev pub fitted : ℕ → ℕ
fitted n = cond (nat_lt n most) (n + 1) n
