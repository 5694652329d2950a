-- Whose lines a call moves, and how many z lines of a board are in change.
use Rattle.std.specs.Prelude.{◌≡◌, ℕ, true, cond, List, Ok, Err, Result, ◌≢◌}
use Rattle.line.specs.declared.Line.{Line}
use Rattle.line.specs.Rule.{moving}
use Rattle.lock.specs.declared.boards.Boards.{Boards}
use Rattle.lock.specs.declared.station.Call.{Call}
use Rattle.lock.specs.declared.station.Refusal.{Refusal}
use Rattle.lock.specs.declared.station.Refusal.TheVariants.{NoSuchBoard}
use Rattle.lock.specs.declared.station.Station.{Station}
use Rattle.lock.specs.Runs.{run}
use Rattle.lock.specs.Stations.{board}
use Rattle.lock.specs.Tables.{kept_for}
use Rattle.queue.specs.declared.state.Queue.{Queue}
use Rattle.queue.specs.declared.state.Row.{Row}
use Rattle.queue.specs.Rule.{z_of, door_at, row_at, new_queue, queue_after}

-- what is told of board b's y
abbrev pub y_told : {L : Type 0} → Queue L → ℕ → Result Line Refusal
y_told q b = cond (kept_for q.doors b) (Ok (door_at q b).y) (Err NoSuchBoard)

-- at most one z line of the row is in change
abbrev pub OneMoves : Row → Type 0
OneMoves r = (i k : ℕ) → moving (z_of r i) ≡ true → moving (z_of r k) ≡ true → i ≡ k

module _ {L : Type 0} (fresh : Boards → L) (after : L → Call → L) (below : L → List Station) where
  -- after any calls on a new layer, a call moves no y and no z line of a board that it does not name
  abbrev pub OwnLines : Type 0
  OwnLines = (n : Boards) (cs : List Call) (c : Call) (j : ℕ) → (board c ≢ j)
      → ((door_at (queue_after after below (run (queue_after after below) (new_queue fresh n) cs) c) j).y ≡ (door_at (run (queue_after after below) (new_queue fresh n) cs) j).y)
      × (row_at (queue_after after below (run (queue_after after below) (new_queue fresh n) cs) c) j ≡ row_at (run (queue_after after below) (new_queue fresh n) cs) j)

  -- and of no board is more than one z line in change
  abbrev pub OneInChange : Type 0
  OneInChange = (n : Boards) (cs : List Call) (b : ℕ) → OneMoves (row_at (run (queue_after after below) (new_queue fresh n) cs) b)
