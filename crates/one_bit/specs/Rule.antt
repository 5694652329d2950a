-- The rule of the one-bit lock, on flags and places: Lamport's one-bit algorithm, cut into steps.
use Rattle.std.specs.Prelude.{ℕ, Bool, cond, List, map, Some, None, Ok, Err, Option, Result, nat_lt}
use Rattle.line.specs.declared.Level.{Level}
use Rattle.line.specs.declared.Level.TheVariants as to
use Rattle.line.specs.declared.Line.{Line}
use Rattle.line.specs.declared.Line.TheVariants.{Low}
use Rattle.line.specs.Rule.{begun, ended, moving, reading, high}
use Rattle.lock.specs.declared.boards.Boards.{Boards}
use Rattle.lock.specs.declared.station.Call.{Call}
use Rattle.lock.specs.declared.station.Call.TheVariants.{Start, Step, Leave, Pull}
use Rattle.lock.specs.declared.station.Refusal.{Refusal}
use Rattle.lock.specs.declared.station.Refusal.TheVariants.{NoSuchBoard}
use Rattle.lock.specs.declared.station.Station.{Station}
use Rattle.lock.specs.declared.station.Station.TheVariants as at
use Rattle.lock.specs.Others.{other_after}
use Rattle.lock.specs.Stations.{accepted}
use Rattle.lock.specs.Tables.{filled, listed, kept_for, asked, written}
use Rattle.one_bit.specs.declared.lines.Board.{Board}
use Rattle.one_bit.specs.declared.lines.Lines.{Lines}
use Rattle.one_bit.specs.declared.lines.Place.{Place}
use Rattle.one_bit.specs.declared.lines.Place.TheVariants.{Out, Raising, Reading, Lowering, Awaiting, Inside, Leaving}

-- a board with this flag, at this place
abbrev pub board : Line → Place → Board
board flag place = record { flag = flag; place = place }

-- every board is out, with its flag low
abbrev pub fresh : Boards → Lines
fresh n = record { table = filled n (board Low Out) }

-- the station that a place belongs to
abbrev pub station : Place → Station
station Out = at.Out
station Raising = at.Trying
station (Reading j) = at.Trying
station (Lowering j) = at.Trying
station (Awaiting j) = at.Trying
station Inside = at.Inside
station Leaving = at.Leaving

-- the stations of boards 1 to N
abbrev pub shown : Lines → List Station
shown l = map (λ x. station x.place) (listed l.table)

-- board b; one that is not there is out, and drives no line: its flag is low
abbrev pub there : Result Board Refusal → Board
there (Ok x) = x
there (Err e) = board Low Out

abbrev pub seat : Lines → ℕ → Board
seat l b = there (asked l.table b (board Low Out))

-- what is told of board b's flag
abbrev pub flag_told : Lines → ℕ → Result Line Refusal
flag_told l b = cond (kept_for l.table b) (Ok (seat l b).flag) (Err NoSuchBoard)

-- board b becomes x, and no other changes
abbrev pub put : Lines → ℕ → Board → Lines
put l b x = record { table = written l.table b x }

-- what a step reads, by its board's place: the flag of the board that the place names; low where it reads none
abbrev pub seen : Lines → Bool → Place → Level
seen l bit Out = to.Low
seen l bit Raising = to.Low
seen l bit (Reading j) = reading (seat l j).flag bit
seen l bit (Lowering j) = to.Low
seen l bit (Awaiting j) = reading (seat l j).flag bit
seen l bit Inside = to.Low
seen l bit Leaving = to.Low

-- where board b goes once it has read the flags up to board j's: to read the next one but its own, or, with none left, inside
abbrev pub reads : Option ℕ → Place
reads (Some k) = Reading k
reads None = Inside

abbrev pub onward : ℕ → ℕ → ℕ → Place
onward n b j = reads (other_after n b j)

-- board b has read board j's flag: low, it goes on; high, it lowers its own for a lower board, and reads a higher one's again
abbrev pub read_on : ℕ → ℕ → ℕ → Level → Place
read_on n b j to.Low = onward n b j
read_on n b j to.High = cond (nat_lt j b) (Lowering j) (Reading j)

-- it waits for board j's flag to be low, and then raises its own again
abbrev pub wait_on : ℕ → Level → Place
wait_on j to.Low = Raising
wait_on j to.High = Awaiting j

-- one half of a change of flag f to a level: the first, after which the board stays, or the second, after which it goes on
abbrev pub changed : Line → Level → Place → Place → Board
changed f level here next = cond (moving f) (board (ended f) next) (board (begun f level) here)

-- a leaving board puts a high flag in change to low; any other flag it makes low, and is out
abbrev pub lowered : Line → Board
lowered f = cond (high f) (board (begun f to.Low) Leaving) (board (ended f) Out)

-- one step of board b of n, whose flag is f, and which reads what `level` says
abbrev pub stepped : ℕ → ℕ → Level → Line → Place → Board
stepped n b level f Out = board f Out
stepped n b level f Raising = changed f to.High Raising (onward n b 0)
stepped n b level f (Reading j) = board f (read_on n b j level)
stepped n b level f (Lowering j) = changed f to.Low (Lowering j) (Awaiting j)
stepped n b level f (Awaiting j) = board f (wait_on j level)
stepped n b level f Inside = board f Inside
stepped n b level f Leaving = lowered f

abbrev pub step_of : Lines → ℕ → Bool → Board → Board
step_of l b bit x = stepped l.table.boards.count b (seen l bit x.place) x.flag x.place

-- what an accepted call makes of its board
abbrev pub next : Lines → Call → Board
next l (Start b) = board (seat l b).flag Raising
next l (Step b bit) = step_of l b bit (seat l b)
next l (Leave b) = board (seat l b).flag Leaving
next l (Pull b) = board (begun (seat l b).flag to.Low) Leaving

-- an accepted call: a start and a leave move no flag, and a pull puts a flag in change to low, unless it rests there
abbrev pub done : Lines → Call → Lines
done l (Start b) = put l b (board (seat l b).flag Raising)
done l (Step b bit) = put l b (step_of l b bit (seat l b))
done l (Leave b) = put l b (board (seat l b).flag Leaving)
done l (Pull b) = put l b (board (begun (seat l b).flag to.Low) Leaving)

-- what a call leaves
abbrev pub after : Lines → Call → Lines
after l c = cond (accepted (shown l) c) (done l c) l
