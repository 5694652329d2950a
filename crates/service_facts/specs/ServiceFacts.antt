-- Facts of an analyser in service, at one and at two boards, found by computing.
use Rattle.std.specs.Prelude.{◌≡◌, ℕ, Bool, true, List, [], ◌∷◌, ◌++◌, map, replicate, pos, neg_ℤ, Some, None, Ok, Err, Option}
use Rattle.backplane.specs.contracts.held_lock.HeldLockLock.TheImpl as held
use Rattle.backplane.specs.declared.plane.Backplane.{Backplane}
use Rattle.cell.specs.contracts.Cell as the_cell
use Rattle.cell.specs.contracts.CellTaking.TheImpl as cell
use Rattle.interpolator.specs.contracts.gap_kind.GapInterpolator.TheImpl as gap
use Rattle.interpolator.specs.contracts.register.RegisterInterpolator.TheImpl as register
use Rattle.lock.specs.declared.boards.Boards.{Boards}
use Rattle.one_bit.specs.contracts.OneBitLock.TheImpl as one_bit
use Rattle.one_bit.specs.declared.lines.Lines.{Lines}
use Rattle.queue.specs.declared.state.Queue.{Queue}
use Rattle.service.specs.declared.answer.Answer.{Answer}
use Rattle.service.specs.declared.answer.Letter.TheVariants.{A, S, P}
use Rattle.service.specs.declared.event.Event.{Event}
use Rattle.service.specs.declared.event.Event.TheVariants.{Ask, Step, Pull}
use Rattle.service.specs.declared.progress.Progress.{Progress}
use Rattle.service.specs.declared.progress.Progress.TheVariants.{Working, Passed, Shown}
use Rattle.service.specs.declared.refusal.Refusal.TheVariants.{NotOut, AboveFullScale, NotEngaged}
use Rattle.service.specs.Answers.{accepted, refused}
use Rattle.service.specs.History.{Entry, Asked, Stepped, answer_of}
use Rattle.service.specs.Rule.{Lockwork, View, new_view, ahead_told}
use Rattle.service.specs.Runs.{replies, after_all}
use Rattle.analyser.specs.Service.{queued}
use Rattle.facts.specs.Facts.{one, two}

-- the queue layer on each of the two locks
abbrev on_one_bit : Lockwork (Queue Lines)
on_one_bit = queued one_bit.ghosts

abbrev on_cell : Lockwork (Queue Backplane)
on_cell = queued (held.ghosts the_cell.the_row cell.ghosts cell.dict)

-- the full scale of each kind of interpolator: 4,294,967,295 and 16,777,215
abbrev register_scale : ℕ
register_scale = (register.ghosts).FULL_SCALE

abbrev gap_scale : ℕ
gap_scale = (gap.ghosts).FULL_SCALE

module _ {State : Type 0} (W : Lockwork State) (full : ℕ) (n : Boards) where
  -- the events on a new analyser of n boards, with their answers
  abbrev told : List Event → List Entry
  told es = replies W full (new_view W full n) es

  -- what they leave
  abbrev left : List Event → View State
  left es = after_all W full (new_view W full n) es

-- the last call, with its answer
abbrev last : List Entry → Option Entry
last [] = None
last (x ∷ []) = Some x
last (x ∷ (y ∷ xs)) = last (y ∷ xs)

-- so many steps of board b, all with one bit
abbrev steps : Bool → ℕ → ℕ → List Event
steps bit many b = replicate many (Step b bit)

-- a step of board b, with its answer
abbrev stepped : Bool → ℕ → Progress → Entry
stepped bit b p = Stepped b bit (Ok p)

-- a single board asks with the counts m and k, and takes so many steps: the last of them
abbrev alone : {State : Type 0} → Lockwork State → Bool → ℕ → ℕ → ℕ → Option Entry
alone W bit many m k = last (told W register_scale one (Ask 1 m k ∷ steps bit many 1))

-- events on two boards over the one_bit lock
abbrev told_two : List Event → List Entry
told_two es = told on_one_bit register_scale two es

abbrev left_two : List Event → View (Queue Lines)
left_two es = left on_one_bit register_scale two es

-- board 1 asks and passes its doorway, then board 2 asks
abbrev one_behind : Bool → List Event
one_behind bit = Ask 1 350 100 ∷ (steps bit 6 1 ++ (Ask 2 5 5 ∷ []))

-- events on a single board over the one_bit lock, with the gap kind: the last of them
abbrev last_by_gap : List Event → Option Entry
last_by_gap es = last (told on_one_bit gap_scale one es)

-- a stay of a single board, an ask while it leaves, its way out, and a pull once it is out
abbrev example : List Event
example = Ask 1 350 100 ∷ (steps true 9 1 ++ (Ask 1 5 5 ∷ (steps true 3 1 ++ (Pull 1 ∷ []))))

-- an accepted step of board 1 that shows no number, as printed
abbrev plain : ℕ → Answer
plain number = accepted S 1 number (pos 0)

pub record ServiceFacts : Type 0 where
  -- start 4,294,967,295 and stop 0 show -4,294,967,295: over the one_bit lock on step ten, over the cell lock on step nine
  pub widest_one_bit : (bit : Bool) → alone on_one_bit bit 10 4294967295 0 ≡ Some (stepped bit 1 (Shown (neg_ℤ (pos 4294967295))))
  pub widest_cell : (bit : Bool) → alone on_cell bit 9 4294967295 0 ≡ Some (stepped bit 1 (Shown (neg_ℤ (pos 4294967295))))
  -- equal counts show 0
  pub equal_one_bit : (bit : Bool) → alone on_one_bit bit 10 5 5 ≡ Some (stepped bit 1 (Shown (pos 0)))
  pub equal_cell : (bit : Bool) → alone on_cell bit 9 5 5 ≡ Some (stepped bit 1 (Shown (pos 0)))
  -- two boards, all lines low: board 1 alone passes its doorway on step six, board 2 alone on step four
  pub first_passes : (bit : Bool) → told_two (Ask 1 350 100 ∷ steps bit 6 1)
      ≡ Asked 1 350 100 (Ok 0) ∷ (replicate 5 (stepped bit 1 Working) ++ (stepped bit 1 Passed ∷ []))
  pub second_passes : (bit : Bool) → told_two (Ask 2 350 100 ∷ steps bit 4 2)
      ≡ Asked 2 350 100 (Ok 0) ∷ (replicate 3 (stepped bit 2 Working) ++ (stepped bit 2 Passed ∷ []))
  -- board 2 asks once board 1 has passed its doorway: its ask is answered with the set of board 1 alone, the question tells the
  -- same, and once board 1 is pulled the question tells the empty set
  pub second_asks : (bit : Bool) → last (told_two (one_behind bit)) ≡ Some (Asked 2 5 5 (Ok 1))
  pub first_ahead : (bit : Bool) → ahead_told (left_two (one_behind bit)) 2 ≡ Ok 1
  pub first_pulled : (bit : Bool) → ahead_told (left_two (one_behind bit ++ (Pull 1 ∷ []))) 2 ≡ Ok 0
  -- a whole example over the cell lock, as it is printed; -250 is shown
  pub printed : map answer_of (told on_cell register_scale one example)
      ≡ accepted A 1 0 (pos 0)
      ∷ plain 1 ∷ plain 2 ∷ plain 1 ∷ plain 3 ∷ plain 1 ∷ plain 1 ∷ plain 1 ∷ plain 1 ∷ accepted S 1 4 (neg_ℤ (pos 250))
      ∷ refused A 1 NotOut
      ∷ plain 1 ∷ plain 1 ∷ plain 5
      ∷ refused P 1 NotEngaged ∷ []
  -- with the gap kind, an ask with a count of 16,777,216 is refused: a busy board since it is not out, a board that is out for
  -- its count, be it start or stop; 16,777,215 is accepted
  pub busy : last_by_gap (Ask 1 350 100 ∷ Ask 1 16777216 100 ∷ []) ≡ Some (Asked 1 16777216 100 (Err NotOut))
  pub start_above : last_by_gap (Ask 1 16777216 100 ∷ []) ≡ Some (Asked 1 16777216 100 (Err AboveFullScale))
  pub stop_above : last_by_gap (Ask 1 350 16777216 ∷ []) ≡ Some (Asked 1 350 16777216 (Err AboveFullScale))
  pub at_full_scale : last_by_gap (Ask 1 16777215 16777215 ∷ []) ≡ Some (Asked 1 16777215 16777215 (Ok 0))
