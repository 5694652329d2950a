-- An analyser in service, by what matters of it, and the law that each call carries on.
use Rattle.std.specs.Prelude.{◌≡◌, ℕ, ◌+◌, ◌-◌, ◌*◌, Bool, true, false, cond, ◌&&◌, ◌∷◌, Ok, Err, Result}
use Rattle.interpolator.specs.declared.Interpolator as interpolator
use Rattle.lock.specs.declared.Lock as lock
use Rattle.lock.specs.declared.boards.Boards.{Boards}
use Rattle.lock.specs.Stations.{among, told}
use Rattle.queue.specs.declared.state.Queue.{Queue}
use Rattle.queue.specs.Rule as queue
use Rattle.service.specs.declared.progress.Progress.{Progress}
use Rattle.service.specs.declared.progress.Progress.TheVariants.{Working, Passed, Entered, CameOut}
use Rattle.service.specs.declared.record.Stage.{Stage}
use Rattle.service.specs.declared.record.Stage.TheVariants.{Arrived, StartPut, StopPut, StartTaken, StopTaken}
use Rattle.service.specs.declared.refusal.Refusal.{Refusal}
use Rattle.service.specs.declared.refusal.Refusal.TheVariants.{NoSuchBoard}
use Rattle.service.specs.declared.standing.Standing.{Standing}
use Rattle.service.specs.declared.standing.Standing.TheVariants.{Out, Doorway, Waiting, Inside, Leaving}
use Rattle.service.specs.History.{Entry, History, panel_of}
use Rattle.service.specs.Law.{Lawful}
use Rattle.service.specs.Rule.{Lockwork, View, is_inside, is_out, own, passed, there, trace, Given}
use Rattle.analyser.specs.declared.state.Analyser.{Analyser}

module _ {Q S I : Type 0} (state : Q → S) (P : interpolator.Ghosts I) where
  -- what matters of an analyser: the lock by its state, the interpolator by its two counts
  abbrev pub view : Analyser Q I → View S
  view a = record {
    boards = a.boards;
    lock = state a.lock;
    counts = record { start = P.start a.interpolator; stop = P.stop a.interpolator };
    records = a.desk.records;
    sets = a.desk.sets;
  }

-- what a step of board b has come to in its lock, by the lock's state after it and the board's station before it
abbrev pub come_to : {S : Type 0} → Lockwork S → S → ℕ → Standing → Progress
come_to W l b Out = Working
come_to W l b Doorway = cond (passed W l b) Passed Working
come_to W l b Waiting = cond (is_inside (told (W.stations l) b)) Entered Working
come_to W l b Inside = Working
come_to W l b Leaving = cond (is_out (told (W.stations l) b)) CameOut Working

-- the next step of a board puts a count into the interpolator
abbrev pub putting : Stage → Bool
putting Arrived = true
putting StartPut = true
putting StopPut = false
putting (StartTaken m) = false
putting (StopTaken m k) = false

abbrev pub putting_at : Standing → Stage → Bool
putting_at Out g = false
putting_at Doorway g = false
putting_at Waiting g = false
putting_at Inside g = putting g
putting_at Leaving g = false

abbrev pub puts : {S : Type 0} → View S → ℕ → Bool
puts v b = there v b && putting_at (own v b).standing (own v b).stage

-- the queue layer over a lock, as an ordered lock; S is 4 N - 1 plus the S below
abbrev pub queued : {L S : Type 0} → lock.Ghosts L S → Lockwork (Queue S)
queued D = record {
  fresh = queue.new_queue D.fresh;
  after = queue.queue_after D.after D.stations;
  stations = queue.shown D.stations;
  waits = queue.waits D.stations;
  alone = λ n. 4 * n - 1 + D.alone n;
}

-- a board that asks alone has shown its number by the end of this own step: the lock's S, and five steps inside
abbrev pub showing : {S : Type 0} → Lockwork S → ℕ → ℕ
showing W n = W.alone n + 5

-- the history h, from a new analyser of n boards, leads to the analyser a, with these answers
pub record Leads {Q S I : Type 0} (W : Lockwork S) (state : Q → S) (P : interpolator.Ghosts I) (n : Boards) (h : History) (a : Analyser Q I) : Type 0 where
  pub comes : view state P a ≡ trace W P.FULL_SCALE n h
  pub answers : Given W P.FULL_SCALE n h

module _ {Q S I : Type 0} (W : Lockwork S) (state : Q → S) (P : interpolator.Ghosts I) where
  -- one call more, x, took a to c: it belongs to the history from now on, the whole history is lawful, and the panel is the one that it gives
  abbrev pub Carries : Analyser Q I → Entry → Analyser Q I → Type 0
  Carries a x c = (n : Boards) (h : History) → Leads W state P n h a
      → Leads W state P n (x ∷ h) c × Lawful n.count P.FULL_SCALE (showing W n.count) (x ∷ h)
      × (a.panel ≡ panel_of h → c.panel ≡ panel_of (x ∷ h))

  -- what is told is what every history that leads here says of board b, of n boards
  abbrev pub Tells : {X : Type 0} → Analyser Q I → ℕ → (ℕ → History → X) → Result X Refusal → Type 0
  Tells a b says r = (n : Boards) (h : History) → Leads W state P n h a → r ≡ cond (among n.count b) (Ok (says n.count h)) (Err NoSuchBoard)
