-- What an outsider sees: the calls with their answers, newest first. Nothing here names a field of the program.
use Rattle.std.specs.Prelude.{ℕ, zero, suc, ◌+◌, ◌^◌, Bool, false, cond, List, [], ◌∷◌, ℤ, pos, ◌-ℤ◌, Some, None, Ok, Err, Option, Result, ◌==◌}
use Rattle.panel.specs.declared.display.Panel.{Panel}
use Rattle.panel.specs.declared.reading.Reading.{Reading}
use Rattle.panel.specs.Panels as panels
use Rattle.panel.specs.Readings.{made}
use Rattle.service.specs.declared.answer.Answer.{Answer}
use Rattle.service.specs.declared.event.Event.{Event}
use Rattle.service.specs.declared.event.Event.TheVariants.{Ask, Step, Pull}
use Rattle.service.specs.declared.progress.Progress.{Progress}
use Rattle.service.specs.declared.progress.Progress.TheVariants.{Idle, Working, Passed, Entered, Shown, CameOut}
use Rattle.service.specs.declared.refusal.Refusal.{Refusal}
use Rattle.service.specs.declared.standing.Standing.{Standing}
use Rattle.service.specs.declared.standing.Standing.TheVariants.{Out, Doorway, Waiting, Inside, Leaving}
use Rattle.service.specs.Answers.{of_ask, of_step, of_pull}
use Rattle.service.specs.Records.{is_waiting}

-- one call with its answer; an accepted ask tells a set of boards
pub data Entry : Type 0 where
  Asked : ℕ → ℕ → ℕ → Result ℕ Refusal → Entry
  Stepped : ℕ → Bool → Result Progress Refusal → Entry
  Pulled : ℕ → Result Unit Refusal → Entry

abbrev pub History : Type 0
History = List Entry

abbrev pub event_of : Entry → Event
event_of (Asked b m k r) = Ask b m k
event_of (Stepped b bit r) = Step b bit
event_of (Pulled b r) = Pull b

-- the answer as printed
abbrev pub answer_of : Entry → Answer
answer_of (Asked b m k r) = of_ask b r
answer_of (Stepped b bit r) = of_step b r
answer_of (Pulled b r) = of_pull b r

-- A board's station, by its own calls: out at first and from an answer 5, doorway from an accepted ask, waiting from an answer 2,
-- inside from an answer 3, leaving from an answer 4 or an accepted pull.
abbrev pub after_ask : Result ℕ Refusal → Standing → Standing
after_ask (Ok boards) s = Doorway
after_ask (Err e) s = s

abbrev pub after_step : Result Progress Refusal → Standing → Standing
after_step (Ok Idle) s = s
after_step (Ok Working) s = s
after_step (Ok Passed) s = Waiting
after_step (Ok Entered) s = Inside
after_step (Ok (Shown z)) s = Leaving
after_step (Ok CameOut) s = Out
after_step (Err e) s = s

abbrev pub after_pull : Result Unit Refusal → Standing → Standing
after_pull (Ok u) s = Leaving
after_pull (Err e) s = s

abbrev pub station : History → ℕ → Standing
station [] b = Out
station (Asked j m k r ∷ h) b = cond (j == b) (after_ask r (station h b)) (station h b)
station (Stepped j bit r ∷ h) b = cond (j == b) (after_step r (station h b)) (station h b)
station (Pulled j r ∷ h) b = cond (j == b) (after_pull r (station h b)) (station h b)

-- board j has passed its doorway and waits
abbrev pub waiting : History → ℕ → Bool
waiting h j = is_waiting (station h j)

-- Board j stands ahead of b: it was waiting when b's last ask was accepted, and since then was neither inside nor pulled.
abbrev pub ahead_ask : Result ℕ Refusal → Bool → Bool → Bool
ahead_ask (Ok boards) waits was = waits
ahead_ask (Err e) waits was = was

abbrev pub ahead_step : Result Progress Refusal → Bool → Bool
ahead_step (Ok Idle) was = was
ahead_step (Ok Working) was = was
ahead_step (Ok Passed) was = was
ahead_step (Ok Entered) was = false
ahead_step (Ok (Shown z)) was = was
ahead_step (Ok CameOut) was = was
ahead_step (Err e) was = was

abbrev pub ahead_pull : Result Unit Refusal → Bool → Bool
ahead_pull (Ok u) was = false
ahead_pull (Err e) was = was

abbrev pub ahead : History → ℕ → ℕ → Bool
ahead [] b j = false
ahead (Asked i m k r ∷ h) b j = cond (i == b) (ahead_ask r (waiting h j) (ahead h b j)) (ahead h b j)
ahead (Stepped i bit r ∷ h) b j = cond (i == j) (ahead_step r (ahead h b j)) (ahead h b j)
ahead (Pulled i r ∷ h) b j = cond (i == j) (ahead_pull r (ahead h b j)) (ahead h b j)

-- the boards of 1 to n that f holds of, as a number: bit j - 1 stands for board j
abbrev pub bits : (ℕ → Bool) → ℕ → ℕ
bits f zero = 0
bits f (suc n) = bits f n + cond (f (suc n)) (2 ^ n) 0

-- the boards ahead of one that has this station: none, unless it is in its doorway or waiting
abbrev pub ahead_at : Standing → ℕ → ℕ
ahead_at Out boards = 0
ahead_at Doorway boards = boards
ahead_at Waiting boards = boards
ahead_at Inside boards = 0
ahead_at Leaving boards = 0

-- the set that is told of board b, of n boards
abbrev pub set_ahead : ℕ → History → ℕ → ℕ
set_ahead n h b = ahead_at (station h b) (bits (ahead h b) n)

-- the counts of a board's last accepted ask
pub record Asking : Type 0 where
  pub from : ℕ
  pub to : ℕ

abbrev pub asking_by : Result ℕ Refusal → ℕ → ℕ → Asking → Asking
asking_by (Ok boards) m k a = record { from = m; to = k }
asking_by (Err e) m k a = a

abbrev pub asked : History → ℕ → Asking
asked [] b = record { from = 0; to = 0 }
asked (Asked j m k r ∷ h) b = cond (j == b) (asking_by r m k (asked h b)) (asked h b)
asked (Stepped j bit r ∷ h) b = asked h b
asked (Pulled j r ∷ h) b = asked h b

-- stop minus start, signed
abbrev pub difference : Asking → ℤ
difference a = pos a.to -ℤ pos a.from

-- a board's steps since it last went inside
abbrev pub count_by : Result Progress Refusal → ℕ → ℕ
count_by (Ok Idle) d = suc d
count_by (Ok Working) d = suc d
count_by (Ok Passed) d = suc d
count_by (Ok Entered) d = 0
count_by (Ok (Shown z)) d = suc d
count_by (Ok CameOut) d = suc d
count_by (Err e) d = d

abbrev pub since_entry : History → ℕ → ℕ
since_entry [] b = 0
since_entry (Asked j m k r ∷ h) b = since_entry h b
since_entry (Stepped j bit r ∷ h) b = cond (j == b) (count_by r (since_entry h b)) (since_entry h b)
since_entry (Pulled j r ∷ h) b = since_entry h b

-- how many steps of board b there are
abbrev pub own_steps : ℕ → History → ℕ
own_steps b [] = 0
own_steps b (Asked j m k r ∷ h) = own_steps b h
own_steps b (Stepped j bit r ∷ h) = cond (j == b) 1 0 + own_steps b h
own_steps b (Pulled j r ∷ h) = own_steps b h

-- the reading that a call put on the panel: an answer 4 shows its board and number
abbrev pub step_reading : ℕ → Result Progress Refusal → Option Reading
step_reading b (Ok Idle) = None
step_reading b (Ok Working) = None
step_reading b (Ok Passed) = None
step_reading b (Ok Entered) = None
step_reading b (Ok (Shown z)) = Some (made b z)
step_reading b (Ok CameOut) = None
step_reading b (Err e) = None

abbrev pub reading_of : Entry → Option Reading
reading_of (Asked b m k r) = None
reading_of (Stepped b bit r) = step_reading b r
reading_of (Pulled b r) = None

abbrev pub painted : Panel → Option Reading → Panel
painted p None = p
painted p (Some r) = panels.shown p r

-- the reading of the last answer 4, if there was one
abbrev pub later : Option Reading → Option Reading → Option Reading
later None before = before
later (Some r) before = Some r

abbrev pub last_shown : History → Option Reading
last_shown [] = None
last_shown (x ∷ h) = later (reading_of x) (last_shown h)

-- the panel after a history, by the panel's rule
abbrev pub panel_of : History → Panel
panel_of [] = panels.blank
panel_of (x ∷ h) = painted (panel_of h) (reading_of x)
