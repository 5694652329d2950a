-- The rule of the queue layer, on lines, phases and the lock below.
use Rattle.std.specs.Prelude.{ℕ, ◌+◌, Bool, true, false, cond, not, ◌&&◌, List, [], ◌∷◌, map, replicate, Some, None, Ok, Err, Option, Result, nat_lt, slice_index_or, slice_set}
use Rattle.line.specs.declared.Level.{Level}
use Rattle.line.specs.declared.Level.TheVariants as to
use Rattle.line.specs.declared.Line.{Line}
use Rattle.line.specs.declared.Line.TheVariants.{Low}
use Rattle.line.specs.Rule.{begun, ended, heading, moving, opposite, reading, high}
use Rattle.lock.specs.declared.boards.Boards.{Boards}
use Rattle.lock.specs.declared.station.Call.{Call}
use Rattle.lock.specs.declared.station.Call.TheVariants.{Start, Step, Leave, Pull}
use Rattle.lock.specs.declared.station.Refusal.{Refusal}
use Rattle.lock.specs.declared.station.Station.{Station}
use Rattle.lock.specs.declared.station.Station.TheVariants as at
use Rattle.lock.specs.Most.{most}
use Rattle.lock.specs.Runs.{MovesAt}
use Rattle.lock.specs.Others.{other_after}
use Rattle.lock.specs.Stations.{accepted, board, place_of}
use Rattle.lock.specs.Stations as stations
use Rattle.lock.specs.Tables.{filled, kept_for, listed, asked, written}
use Rattle.queue.specs.declared.state.Door.{Door}
use Rattle.queue.specs.declared.state.Phase.{Phase}
use Rattle.queue.specs.declared.state.Phase.TheVariants.{Out, Pairing, Turning, Noting, Raising, Watching, Comparing, Below, Leaving}
use Rattle.queue.specs.declared.state.Queue.{Queue}
use Rattle.queue.specs.declared.state.Row.{Row}

-- a board with this y, at this phase, with these boards noted
abbrev pub door : Line → Phase → List Bool → Door
door y phase notes = record { y = y; phase = phase; notes = notes }

abbrev pub none : List Bool
none = replicate most false

abbrev pub low_row : Row
low_row = record { z = replicate most Low }

-- a board that is not there is out, and its lines are low
abbrev pub door_there : Result Door Refusal → Door
door_there (Ok d) = d
door_there (Err e) = door Low Out none

abbrev pub row_there : Result Row Refusal → Row
row_there (Ok r) = r
row_there (Err e) = low_row

-- an array is read and written at a board's place, if it has one
abbrev pub line_at : List Line → Option ℕ → Line
line_at zs None = Low
line_at zs (Some i) = slice_index_or zs i Low

abbrev pub put_at : {X : Type 0} → List X → Option ℕ → X → List X
put_at xs None x = xs
put_at xs (Some i) x = slice_set xs i x

abbrev pub station_there : Result Station Refusal → Station
station_there (Ok s) = s
station_there (Err e) = at.Out

-- the z line of a row for board j
abbrev pub z_of : Row → ℕ → Line
z_of r j = line_at r.z (place_of j)

-- of a pair, two z lines at one level favour the lower-numbered board, and differing levels the higher
abbrev pub same : Level → Level → Bool
same to.Low to.Low = true
same to.Low to.High = false
same to.High to.Low = false
same to.High to.High = true

abbrev pub favours : ℕ → Level → ℕ → Level → Bool
favours b own j other = cond (same own other) (nat_lt b j) (nat_lt j b)

-- notes: board j is noted, is struck off; the lowest that is noted
abbrev pub note : List Bool → ℕ → List Bool
note notes j = put_at notes (place_of j) true

abbrev pub strike : List Bool → ℕ → List Bool
strike notes j = put_at notes (place_of j) false

abbrev pub lowest_from : ℕ → List Bool → Option ℕ
lowest_from j [] = None
lowest_from j (true ∷ notes) = Some j
lowest_from j (false ∷ notes) = lowest_from (j + 1) notes

abbrev pub lowest : List Bool → Option ℕ
lowest notes = lowest_from 1 notes

-- the phases of the doorway: the pairs with the other boards in rising order, then their y in rising order, then the own y
abbrev pub noting : Option ℕ → Phase
noting (Some k) = Noting k
noting None = Raising

abbrev pub pairing : ℕ → ℕ → Option ℕ → Phase
pairing n b (Some k) = Pairing k
pairing n b None = noting (other_after n b 0)

-- the pair with board j has been judged: where it favours b, b changes its z line for j
abbrev pub paired : ℕ → ℕ → ℕ → Bool → Phase
paired n b j fav = cond fav (Turning j) (pairing n b (other_after n b j))

-- the z line for board j is in change to its new level, or has got it
abbrev pub turned_on : ℕ → ℕ → ℕ → Bool → Phase
turned_on n b j ends = cond ends (pairing n b (other_after n b j)) (Turning j)

-- the y of board j has been read
abbrev pub noted : List Bool → ℕ → Level → List Bool
noted notes j to.Low = notes
noted notes j to.High = note notes j

-- the y of the lowest noted board has been read: low, it is struck off; high, the pair is judged next;
-- with none noted, the board has been started in the lock below
abbrev pub watched : Line → List Bool → Bool → Level → Option ℕ → Door
watched y notes out level None = door y (cond out Below Watching) notes
watched y notes out to.Low (Some j) = door y Watching (strike notes j)
watched y notes out to.High (Some j) = door y Comparing notes

-- the pair with the lowest noted board has been judged: where it favours b, the board is struck off
abbrev pub compared : ℕ → Row → Level → Line → List Bool → Option ℕ → Door
compared b r level y notes None = door y Watching notes
compared b r level y notes (Some j) = door y Watching (cond (favours b (heading (z_of r j)) j level) (strike notes j) notes)

-- one half of raising y; the second half passes the doorway
abbrev pub raised : Line → List Bool → Door
raised y notes = cond (moving y) (door (ended y) Watching notes) (door (begun y to.High) Raising notes)

-- a leaving board that is out below puts a high y in change to low; any other it makes low, and is out
abbrev pub lowered : Line → List Bool → Door
lowered y notes = cond (high y) (door (begun y to.Low) Leaving notes) (door (ended y) Out notes)

-- one step of board b of n: r is its row, `level` what it reads, and `out` says whether it is out below
abbrev pub door_step : ℕ → ℕ → Row → Level → Bool → Line → List Bool → Phase → Door
door_step n b r level out y notes Out = door y Out notes
door_step n b r level out y notes (Pairing j) = door y (paired n b j (favours b (heading (z_of r j)) j level)) notes
door_step n b r level out y notes (Turning j) = door y (turned_on n b j (moving (z_of r j))) notes
door_step n b r level out y notes (Noting j) = door y (noting (other_after n b j)) (noted notes j level)
door_step n b r level out y notes Raising = raised y notes
door_step n b r level out y notes Watching = watched y notes out level (lowest notes)
door_step n b r level out y notes Comparing = compared b r level y notes (lowest notes)
door_step n b r level out y notes Below = door y Below notes
door_step n b r level out y notes Leaving = cond out (lowered y notes) (door y Leaving notes)

-- one half of a change of a z line
abbrev pub half_turned : Line → Line
half_turned z = cond (moving z) (ended z) (begun z (opposite (heading z)))

abbrev pub turned : Row → ℕ → Row
turned r j = record { z = put_at r.z (place_of j) (half_turned (z_of r j)) }

-- a z line in change gets its new level
abbrev pub settled : Row → Row
settled r = record { z = map ended r.z }

-- the row of a board after its step
abbrev pub row_step : Row → Bool → Line → Phase → Row
row_step r out y Out = r
row_step r out y (Pairing j) = r
row_step r out y (Turning j) = turned r j
row_step r out y (Noting j) = r
row_step r out y Raising = r
row_step r out y Watching = r
row_step r out y Comparing = r
row_step r out y Below = r
row_step r out y Leaving = cond (out && not (high y)) (settled r) r

-- the call that a step of board b makes in the lock below
abbrev pub started : ℕ → Option ℕ → Option Call
started b None = Some (Start b)
started b (Some j) = None

abbrev pub sent_step : ℕ → Bool → Bool → List Bool → Phase → Option Call
sent_step b bit out notes Out = None
sent_step b bit out notes (Pairing j) = None
sent_step b bit out notes (Turning j) = None
sent_step b bit out notes (Noting j) = None
sent_step b bit out notes Raising = None
sent_step b bit out notes Watching = started b (lowest notes)
sent_step b bit out notes Comparing = None
sent_step b bit out notes Below = Some (Step b bit)
sent_step b bit out notes Leaving = cond out None (Some (Step b bit))

module _ {L : Type 0} where
  abbrev pub door_at : Queue L → ℕ → Door
  door_at q b = door_there (asked q.doors b (door Low Out none))

  abbrev pub row_at : Queue L → ℕ → Row
  row_at q b = row_there (asked q.rows b low_row)

  -- what a step of board b reads: a z line of another board for b, another board's y, or nothing
  abbrev pub read_z : Queue L → ℕ → Bool → Option ℕ → Level
  read_z q b bit None = to.Low
  read_z q b bit (Some j) = reading (z_of (row_at q j) b) bit

  abbrev pub read_y : Queue L → Bool → Option ℕ → Level
  read_y q bit None = to.Low
  read_y q bit (Some j) = reading (door_at q j).y bit

  abbrev pub seen : Queue L → ℕ → Bool → List Bool → Phase → Level
  seen q b bit notes Out = to.Low
  seen q b bit notes (Pairing j) = read_z q b bit (Some j)
  seen q b bit notes (Turning j) = to.Low
  seen q b bit notes (Noting j) = read_y q bit (Some j)
  seen q b bit notes Raising = to.Low
  seen q b bit notes Watching = read_y q bit (lowest notes)
  seen q b bit notes Comparing = read_z q b bit (lowest notes)
  seen q b bit notes Below = to.Low
  seen q b bit notes Leaving = to.Low

-- a layer over a lock, as a layer over that lock's state
abbrev pub over : {L S : Type 0} → (L → S) → Queue L → Queue S
over state q = record { doors = q.doors; rows = q.rows; below = state q.below }

module _ {L : Type 0} (fresh : Boards → L) where
  -- every board is out, every line is low, and the lock below is new
  abbrev pub new_queue : Boards → Queue L
  new_queue n = record { doors = filled n (door Low Out none); rows = filled n low_row; below = fresh n }

-- the station of a board, by its phase and its station below
abbrev pub station : Station → Phase → Station
station s Out = at.Out
station s (Pairing j) = at.Trying
station s (Turning j) = at.Trying
station s (Noting j) = at.Trying
station s Raising = at.Trying
station s Watching = at.Trying
station s Comparing = at.Trying
station s Below = s
station s Leaving = at.Leaving

-- a board at this phase, and at this station below, has passed its doorway and is not yet inside
abbrev pub tries : Station → Bool
tries at.Out = false
tries at.Trying = true
tries at.Inside = false
tries at.Leaving = false

abbrev pub waits_at : Station → Phase → Bool
waits_at s Out = false
waits_at s (Pairing j) = false
waits_at s (Turning j) = false
waits_at s (Noting j) = false
waits_at s Raising = false
waits_at s Watching = true
waits_at s Comparing = true
waits_at s Below = tries s
waits_at s Leaving = false

abbrev pub shown_from : List Station → ℕ → List Door → List Station
shown_from ss b [] = []
shown_from ss b (d ∷ ds) = station (stations.at ss b) d.phase ∷ shown_from ss (b + 1) ds

module _ {L : Type 0} (below : L → List Station) where
  -- the stations of boards 1 to N
  abbrev pub shown : Queue L → List Station
  shown q = shown_from (below q.below) 1 (listed q.doors)

  -- board b has passed its doorway and is not yet inside
  abbrev pub waits : Queue L → ℕ → Bool
  waits q b = cond (kept_for q.doors b) (waits_at (stations.at (below q.below) b) (door_at q b).phase) false

  -- b is out below: it could be started there
  abbrev pub out_below : Queue L → ℕ → Bool
  out_below q b = accepted (below q.below) (Start b)

  -- the one call that an accepted call makes in the lock below, if any
  abbrev pub sent : Queue L → Call → Option Call
  sent q (Start b) = None
  sent q (Step b bit) = sent_step b bit (out_below q b) (door_at q b).notes (door_at q b).phase
  sent q (Leave b) = Some (Leave b)
  sent q (Pull b) = cond (accepted (below q.below) (Pull b)) (Some (Pull b)) None

  -- what an accepted call makes of its board, and of its row of z lines
  abbrev pub next_door : Queue L → Call → Door
  next_door q (Start b) = door (door_at q b).y (pairing q.doors.boards.count b (other_after q.doors.boards.count b 0)) none
  next_door q (Step b bit) =
      door_step q.doors.boards.count b (row_at q b) (seen q b bit (door_at q b).notes (door_at q b).phase) (out_below q b)
      (door_at q b).y (door_at q b).notes (door_at q b).phase
  next_door q (Leave b) = door (door_at q b).y Leaving (door_at q b).notes
  next_door q (Pull b) = door (begun (door_at q b).y to.Low) Leaving (door_at q b).notes

  abbrev pub next_row : Queue L → Call → Row
  next_row q (Start b) = row_at q b
  next_row q (Step b bit) = row_step (row_at q b) (out_below q b) (door_at q b).y (door_at q b).phase
  next_row q (Leave b) = row_at q b
  next_row q (Pull b) = row_at q b

module _ {L : Type 0} (after : L → Call → L) (below : L → List Station) where
  abbrev pub passed_on : L → Option Call → L
  passed_on l None = l
  passed_on l (Some c) = after l c

  -- the lock below obeys its meaning at the call that is made there
  abbrev pub MovedBelow : (Boards → L) → L → Option Call → Type 0
  MovedBelow fresh l None = Unit {0}
  MovedBelow fresh l (Some c) = MovesAt fresh after below l c

  -- board b's door and row are written, and the call, if any, is made below
  abbrev pub acted : Queue L → ℕ → Door → Row → Option Call → Queue L
  acted q b d r o = record { doors = written q.doors b d; rows = written q.rows b r; below = passed_on q.below o }

  -- what an accepted call leaves
  abbrev pub done : Queue L → Call → Queue L
  done q c = acted q (board c) (next_door below q c) (next_row below q c) (sent below q c)

  -- what a call leaves
  abbrev pub queue_after : Queue L → Call → Queue L
  queue_after q c = cond (accepted (shown below q) c) (done q c) q
