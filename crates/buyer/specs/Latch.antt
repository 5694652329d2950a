-- The rule of the latch lock, on a backplane whose one thing is a latch, read and set in a single operation.
use Rattle.std.specs.Prelude.{ℕ, cond, Option}
use Rattle.lock.specs.declared.station.Call.{Call}
use Rattle.backplane.specs.declared.plane.Backplane.{Backplane}
use Rattle.backplane.specs.Rule.{has, taken}
use Rattle.backplane.specs.Rule as backplane

-- what a call leaves: a trying board's step sets a free latch; one that finds its own goes inside, and one that finds another's stays trying
abbrev pub after : Backplane → Call → Backplane
after = backplane.after taken has

-- the own steps that take b inside, while all others are out: one if it has set the latch, else two
abbrev pub to_enter : Option ℕ → ℕ → ℕ
to_enter h b = cond (has h b) 1 2
