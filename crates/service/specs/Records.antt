-- A board's record: how each move changes it.
use Rattle.std.specs.Prelude.{ℕ, Bool, true, false}
use Rattle.service.specs.declared.record.Record.{Record}
use Rattle.service.specs.declared.record.Stage.{Stage}
use Rattle.service.specs.declared.record.Stage.TheVariants.{Arrived}
use Rattle.service.specs.declared.standing.Standing.{Standing}
use Rattle.service.specs.declared.standing.Standing.TheVariants.{Out, Doorway, Waiting, Inside, Leaving}

-- a board that is out and has never asked
abbrev pub blank : Record
blank = record { standing = Out; start = 0; stop = 0; stage = Arrived }

-- a board that has asked with these counts
abbrev pub given : Record → ℕ → ℕ → Record
given r m k = record { standing = Doorway; start = m; stop = k; stage = r.stage }

abbrev pub gone : Record → Standing → Record
gone r s = record { standing = s; start = r.start; stop = r.stop; stage = r.stage }

abbrev pub arrived : Record → Record
arrived r = record { standing = Inside; start = r.start; stop = r.stop; stage = Arrived }

abbrev pub staged : Record → Stage → Record
staged r s = record { standing = r.standing; start = r.start; stop = r.stop; stage = s }

abbrev pub is_waiting : Standing → Bool
is_waiting Out = false
is_waiting Doorway = false
is_waiting Waiting = true
is_waiting Inside = false
is_waiting Leaving = false

abbrev pub waits : Record → Bool
waits r = is_waiting r.standing
