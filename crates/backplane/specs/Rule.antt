-- The rule of a lock that goes by one thing: a backplane with that thing, read and taken in a single operation.
use Rattle.std.specs.Prelude.{◌≡◌, ℕ, Bool, true, false, cond, List, Some, None, Option, ◌==◌}
use Rattle.lock.specs.declared.boards.Boards.{Boards}
use Rattle.lock.specs.declared.station.Call.{Call}
use Rattle.lock.specs.declared.station.Call.TheVariants.{Start, Step, Leave, Pull}
use Rattle.lock.specs.declared.station.Station.{Station}
use Rattle.lock.specs.declared.station.Station.TheVariants.{Out, Trying, Inside, Leaving}
use Rattle.lock.specs.Stations.{at, accepted, Stands}
use Rattle.lock.specs.Tables.{filled, listed, written}
use Rattle.backplane.specs.declared.plane.Backplane.{Backplane}

-- every board is out, and nobody has the thing
abbrev pub fresh : Boards → Backplane
fresh n = record { table = filled n Out; holder = None }

-- the stations of boards 1 to N
abbrev pub shown : Backplane → List Station
shown p = listed p.table

-- board b goes to a station; h is the holder from now on
abbrev pub put : Backplane → ℕ → Station → Backplane
put p b s = record { table = written p.table b s; holder = p.holder }

abbrev pub with_holder : Backplane → Option ℕ → Backplane
with_holder p h = record { table = p.table; holder = h }

-- whether board b has the thing
abbrev pub has : Option ℕ → ℕ → Bool
has None b = false
has (Some j) b = j == b

-- the holder once board b has taken the thing, if it was free
abbrev pub taken : Option ℕ → ℕ → Option ℕ
taken None b = Some b
taken (Some j) b = Some j

-- the holder once board b has given the thing back, if b has it
abbrev pub freed : Option ℕ → ℕ → Option ℕ
freed h b = cond (has h b) None h

-- tries says who has the thing after a step of a trying board, and enters whether that step takes the board inside
module _ (tries : Option ℕ → ℕ → Option ℕ) (enters : Option ℕ → ℕ → Bool) where
  abbrev pub tried : Backplane → ℕ → Backplane
  tried p b = cond (enters p.holder b) (put (with_holder p (tries p.holder b)) b Inside) (with_holder p (tries p.holder b))

  -- a leaving board's step gives the thing back if that board has it, and the board is out
  abbrev pub step_at : Backplane → ℕ → Station → Backplane
  step_at p b Out = p
  step_at p b Trying = tried p b
  step_at p b Inside = p
  step_at p b Leaving = put (with_holder p (freed p.holder b)) b Out

  -- an accepted call; a leave and a pull never give the thing back
  abbrev pub done : Backplane → Call → Backplane
  done p (Start b) = put p b Trying
  done p (Step b bit) = step_at p b (at (shown p) b)
  done p (Leave b) = put p b Leaving
  done p (Pull b) = put p b Leaving

  -- what a call leaves
  abbrev pub after : Backplane → Call → Backplane
  after p c = cond (accepted (shown p) c) (done p c) p

-- the board inside has the thing
abbrev pub Held : Backplane → Type 0
Held p = (b : ℕ) → Stands (shown p) b Inside → has p.holder b ≡ true
