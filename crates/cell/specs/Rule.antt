-- The rule of the cell lock, on a backplane whose one thing is a cell, read and set in a single operation.
use Rattle.std.specs.Prelude.{ℕ, Bool, true, false, List, Some, None, Option}
use Rattle.lock.specs.declared.boards.Boards.{Boards}
use Rattle.lock.specs.declared.station.Call.{Call}
use Rattle.lock.specs.declared.station.Station.{Station}
use Rattle.backplane.specs.declared.plane.Backplane.{Backplane}
use Rattle.backplane.specs.Rule as backplane

-- every board is out, and the cell is free
abbrev pub fresh : Boards → Backplane
fresh = backplane.fresh

-- the stations of boards 1 to N
abbrev pub shown : Backplane → List Station
shown = backplane.shown

-- a trying board's step takes a free cell and goes inside, or finds it taken and stays trying
abbrev pub enters : Option ℕ → ℕ → Bool
enters None b = true
enters (Some j) b = false

-- what a call leaves
abbrev pub after : Backplane → Call → Backplane
after = backplane.after backplane.taken enters
