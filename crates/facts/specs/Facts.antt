-- Facts of the rules at small numbers of boards, found by computing.
use Rattle.std.specs.Prelude.{◌≡◌, ℕ, zero, suc, Bool, true, false, List, [], ◌∷◌, ◌++◌, Ok}
use Rattle.std.proofs.Common.{lit≤}
use Rattle.line.specs.declared.Line.TheVariants.{High}
use Rattle.lock.specs.declared.boards.Boards.{Boards}
use Rattle.lock.specs.declared.station.Call.{Call}
use Rattle.lock.specs.declared.station.Call.TheVariants.{Start, Step, Leave}
use Rattle.lock.specs.declared.station.Station.{Station}
use Rattle.lock.specs.declared.station.Station.TheVariants.{Out, Trying, Inside, Leaving}
use Rattle.lock.specs.Runs.{run}
use Rattle.lock.specs.Stations.{told}
use Rattle.backplane.specs.contracts.held_lock.HeldLockLock.TheImpl as held
use Rattle.backplane.specs.declared.plane.Backplane.{Backplane}
use Rattle.buyer.specs.contracts.latch.Latch as the_latch
use Rattle.buyer.specs.contracts.latch.LatchTaking.TheImpl as latch_taking
use Rattle.buyer.specs.Latch as latch
use Rattle.cell.specs.contracts.Cell as the_cell
use Rattle.cell.specs.contracts.CellTaking.TheImpl as cell_taking
use Rattle.cell.specs.Rule as cell
use Rattle.one_bit.specs.declared.lines.Lines.{Lines}
use Rattle.one_bit.specs.Rule.{after, flag_told, fresh, shown}
use Rattle.queue.specs.declared.state.Queue.{Queue}
use Rattle.queue.specs.Rule.{new_queue, queue_after, waits}
use Rattle.queue.specs.Rule as queue

abbrev pub one : Boards
one = record { count = 1; some = lit≤ tt; few = lit≤ tt }

abbrev pub two : Boards
two = record { count = 2; some = lit≤ tt; few = lit≤ tt }

-- what calls on a new one-bit lock for n boards lead to
abbrev calls_on : Boards → List Call → Lines
calls_on n cs = run after (fresh n) cs

-- two boards raise their flags; 2 then reads 1's flag, and 1 reads 2's
abbrev both_high : Bool → List Call
both_high bit = Start 1 ∷ Start 2 ∷ Step 1 bit ∷ Step 1 bit ∷ Step 2 bit ∷ Step 2 bit ∷ Step 2 bit ∷ Step 1 bit ∷ []

-- 2 steps, and then 1 steps with its own bit
abbrev then_one : Bool → Bool → List Call
then_one bit its = both_high bit ++ (Step 2 bit ∷ Step 1 its ∷ [])

-- what calls on a new queue layer for two boards lead to, over the one-bit lock
abbrev queued_on : Boards → List Call → Queue Lines
queued_on n cs = run (queue_after after shown) (new_queue fresh n) cs

-- k steps of board b
abbrev steps_of : ℕ → ℕ → List Call
steps_of zero b = []
steps_of (suc k) b = Step b true ∷ steps_of k b

-- the layer over the layer over the cell lock
abbrev twice_on : Boards → List Call → Queue (Queue Backplane)
twice_on n cs =
    run (queue_after (queue_after cell.after cell.shown) (queue.shown cell.shown)) (new_queue (new_queue cell.fresh) n) cs

abbrev twice_shown : Queue (Queue Backplane) → List Station
twice_shown q = queue.shown (queue.shown cell.shown) q

pub record Facts : Type 0 where
  -- a single board over the one-bit lock is inside on its second step, and not before
  pub single_waits : (bit : Bool) → told (shown (calls_on one (Start 1 ∷ Step 1 bit ∷ []))) 1 ≡ Ok Trying
  pub single_enters : (bit : Bool) → told (shown (calls_on one (Start 1 ∷ Step 1 bit ∷ Step 1 bit ∷ []))) 1 ≡ Ok Inside
  -- both flags are high, and both boards are trying, whatever the bits were
  pub first_flag : (bit : Bool) → flag_told (calls_on two (both_high bit)) 1 ≡ Ok High
  pub second_flag : (bit : Bool) → flag_told (calls_on two (both_high bit)) 2 ≡ Ok High
  pub first_tries : (bit : Bool) → told (shown (calls_on two (both_high bit))) 1 ≡ Ok Trying
  pub second_tries : (bit : Bool) → told (shown (calls_on two (both_high bit))) 2 ≡ Ok Trying
  -- then board 1 reads 2's flag in change: bit 0 takes it inside, bit 1 leaves it trying
  pub reads_low : (bit : Bool) → told (shown (calls_on two (then_one bit false))) 1 ≡ Ok Inside
  pub reads_high : (bit : Bool) → told (shown (calls_on two (then_one bit true))) 1 ≡ Ok Trying
  -- over the queue layer, two boards, all lines low: board 1 alone passes its doorway on step six, board 2 alone on step four
  pub first_before : waits shown (queued_on two (Start 1 ∷ steps_of 5 1)) 1 ≡ false
  pub first_passes : waits shown (queued_on two (Start 1 ∷ steps_of 6 1)) 1 ≡ true
  pub second_before : waits shown (queued_on two (Start 2 ∷ steps_of 3 2)) 2 ≡ false
  pub second_passes : waits shown (queued_on two (Start 2 ∷ steps_of 4 2)) 2 ≡ true
  -- the layer over the layer over the cell lock, two boards: S is 7 + 7 + 1 and E is 2 + 2 + 1, and both are reached
  pub twice_tries : told (twice_shown (twice_on two (Start 1 ∷ steps_of 14 1))) 1 ≡ Ok Trying
  pub twice_enters : told (twice_shown (twice_on two (Start 1 ∷ steps_of 15 1))) 1 ≡ Ok Inside
  pub twice_leaves : told (twice_shown (twice_on two (Start 1 ∷ (steps_of 15 1 ++ (Leave 1 ∷ steps_of 4 1))))) 1 ≡ Ok Leaving
  pub twice_out : told (twice_shown (twice_on two (Start 1 ∷ (steps_of 15 1 ++ (Leave 1 ∷ steps_of 5 1))))) 1 ≡ Ok Out
  -- the published rules of the cell lock and of the latch lock are those by which their code acts
  pub cell_begins : (held.ghosts the_cell.the_row cell_taking.ghosts cell_taking.dict).fresh ≡ cell.fresh
  pub cell_acts : (held.ghosts the_cell.the_row cell_taking.ghosts cell_taking.dict).after ≡ cell.after
  pub cell_shows : (held.ghosts the_cell.the_row cell_taking.ghosts cell_taking.dict).stations ≡ cell.shown
  pub latch_acts : (held.ghosts the_latch.the_row latch_taking.ghosts latch_taking.dict).after ≡ latch.after
