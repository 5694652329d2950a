-- What each call does, on what matters of an analyser: its boards, its lock, the interpolator's two counts, the records, the sets ahead.
use Rattle.std.specs.Prelude.{◌≡◌, ℕ, ◌-◌, Bool, true, false, cond, ◌&&◌, List, [], ◌∷◌, map, length, replicate, pos, ◌-ℤ◌, Ok, Err, Result, nat_le, slice_index_or, slice_set}
use Rattle.interpolator.specs.Counts.{put}
use Rattle.lock.specs.declared.Lock as lock
use Rattle.lock.specs.declared.Ordered as ordered
use Rattle.lock.specs.declared.boards.Boards.{Boards}
use Rattle.lock.specs.declared.station.Call.{Call}
use Rattle.lock.specs.declared.station.Call.TheVariants.{Start, Step, Leave, Pull}
use Rattle.lock.specs.declared.station.Refusal.{Refusal as Denied}
use Rattle.lock.specs.declared.station.Station.{Station}
use Rattle.lock.specs.declared.station.Station.TheVariants.{Out as Outside, Trying, Inside as Within, Leaving as Going}
use Rattle.lock.specs.Most.{most}
use Rattle.lock.specs.Stations.{among, told}
use Rattle.service.specs.declared.progress.Progress.{Progress}
use Rattle.service.specs.declared.progress.Progress.TheVariants.{Idle, Working, Passed, Entered, Shown, CameOut}
use Rattle.service.specs.declared.record.Record.{Record}
use Rattle.service.specs.declared.record.Stage.{Stage}
use Rattle.service.specs.declared.record.Stage.TheVariants.{Arrived, StartPut, StopPut, StartTaken, StopTaken}
use Rattle.service.specs.declared.refusal.Refusal.{Refusal}
use Rattle.service.specs.declared.refusal.Refusal.TheVariants.{NoSuchBoard}
use Rattle.service.specs.declared.standing.Standing.{Standing}
use Rattle.service.specs.declared.standing.Standing.TheVariants.{Out, Doorway, Waiting, Inside, Leaving}
use Rattle.service.specs.History.{Asked, Stepped, Pulled, History, bits, ahead_at}
use Rattle.service.specs.Law.{ask_at, pull_at}
use Rattle.service.specs.Records.{blank, given, gone, arrived, staged, waits}

-- an ordered lock, by the states that its rule speaks of
pub record Lockwork (S : Type 0) : Type 0 where
  pub fresh : Boards → S
  pub after : S → Call → S
  pub stations : S → List Station
  pub waits : S → ℕ → Bool
  -- the own steps, by N, in which a board that is started alone goes inside
  pub alone : ℕ → ℕ

abbrev pub lockwork : {Q S : Type 0} → lock.Ghosts Q S → ordered.Ghosts Q S → Lockwork S
lockwork D O = record { fresh = D.fresh; after = D.after; stations = D.stations; waits = O.waits; alone = D.alone }

-- the interpolator's two counts
pub record Counts : Type 0 where
  pub start : ℕ
  pub stop : ℕ

-- place b - 1 of the records is board b's, and place b - 1 of the sets says for each board, in order, whether it stands ahead of b
pub record View (S : Type 0) : Type 0 where
  pub boards : Boards
  pub lock : S
  pub counts : Counts
  pub records : List Record
  pub sets : List (List Bool)

-- a list of answers for boards 1, 2 and so on, by the board
abbrev pub marked : List Bool → ℕ → Bool
marked row j = slice_index_or row (j - 1) false

module _ {S : Type 0} where
  abbrev pub own : View S → ℕ → Record
  own v b = slice_index_or v.records (b - 1) blank

  -- a view that has changed in one part
  abbrev pub with_lock : View S → S → View S
  with_lock v l = record { boards = v.boards; lock = l; counts = v.counts; records = v.records; sets = v.sets }

  abbrev pub with_counts : View S → ℕ → ℕ → View S
  with_counts v m k = record { boards = v.boards; lock = v.lock; counts = record { start = m; stop = k }; records = v.records; sets = v.sets }

  abbrev pub with_own : View S → ℕ → Record → View S
  with_own v b r = record { boards = v.boards; lock = v.lock; counts = v.counts; records = slice_set v.records (b - 1) r; sets = v.sets }

  abbrev pub with_sets : View S → List (List Bool) → View S
  with_sets v ss = record { boards = v.boards; lock = v.lock; counts = v.counts; records = v.records; sets = ss }

  -- who is waiting now, board by board
  abbrev pub waiting_now : View S → List Bool
  waiting_now v = map waits v.records

  -- these boards stand ahead of b from now on
  abbrev pub put_ahead : View S → ℕ → List Bool → View S
  put_ahead v b row = with_sets v (slice_set v.sets (b - 1) row)

  -- board j stands ahead of nobody any more
  abbrev pub struck : View S → ℕ → View S
  struck v j = with_sets v (map (λ row. slice_set row (j - 1) false) v.sets)

  abbrev pub there : View S → ℕ → Bool
  there v b = among v.boards.count b

  abbrev pub found : View S → ℕ → Result Record Refusal
  found v b = cond (there v b) (Ok (own v b)) (Err NoSuchBoard)

  -- what is told of a board
  abbrev pub station_told : View S → ℕ → Result Standing Refusal
  station_told v b = cond (there v b) (Ok (own v b).standing) (Err NoSuchBoard)

  abbrev pub ahead_told : View S → ℕ → Result ℕ Refusal
  ahead_told v b = cond (there v b) (Ok (ahead_at (own v b).standing (bits (marked (slice_index_or v.sets (b - 1) [])) v.boards.count))) (Err NoSuchBoard)

-- what a lock tells of a station, or of a board that may be waiting
abbrev pub is_inside : Result Station Denied → Bool
is_inside (Ok Outside) = false
is_inside (Ok Trying) = false
is_inside (Ok Within) = true
is_inside (Ok Going) = false
is_inside (Err e) = false

abbrev pub is_out : Result Station Denied → Bool
is_out (Ok Outside) = true
is_out (Ok Trying) = false
is_out (Ok Within) = false
is_out (Ok Going) = false
is_out (Err e) = false

-- what a step leaves and tells
pub record Outcome (S : Type 0) : Type 0 where
  pub left : View S
  pub tells : Progress

abbrev pub outcome : {S : Type 0} → View S → Progress → Outcome S
outcome v p = record { left = v; tells = p }

module _ {S : Type 0} (W : Lockwork S) where
  -- the lock tells that board b has passed its doorway
  abbrev pub passed : S → ℕ → Bool
  passed l b = among (length (W.stations l)) b && W.waits l b

  abbrev pub doorway_step : View S → ℕ → Bool → Record → Outcome S
  doorway_step v b bit r =
      let w = with_lock v (W.after v.lock (Step b bit)) in
      cond (passed w.lock b) (outcome (with_own w b (gone r Waiting)) Passed) (outcome w Working)

  abbrev pub waiting_step : View S → ℕ → Bool → Record → Outcome S
  waiting_step v b bit r =
      let w = with_lock v (W.after v.lock (Step b bit)) in
      cond (is_inside (told (W.stations w.lock) b)) (outcome (struck (with_own w b (arrived r)) b) Entered) (outcome w Working)

  abbrev pub leaving_step : View S → ℕ → Bool → Record → Outcome S
  leaving_step v b bit r =
      let w = with_lock v (W.after v.lock (Step b bit)) in
      cond (is_out (told (W.stations w.lock) b)) (outcome (with_own w b (gone r Out)) CameOut) (outcome w Working)

module _ {S : Type 0} (W : Lockwork S) (full : ℕ) where
  abbrev pub new_view : Boards → View S
  new_view n = record { boards = n; lock = W.fresh n; counts = record { start = 0; stop = 0 }; records = replicate most blank; sets = replicate most (replicate most false) }

  -- inside: put start, put stop, take start, take stop; then show the second taken minus the first, and leave
  abbrev pub inside_step : View S → ℕ → Record → Stage → Outcome S
  inside_step v b r Arrived = outcome (with_own (with_counts v (put full r.start v.counts.start) v.counts.stop) b (staged r StartPut)) Working
  inside_step v b r StartPut = outcome (with_own (with_counts v v.counts.start (put full r.stop v.counts.stop)) b (staged r StopPut)) Working
  inside_step v b r StopPut = outcome (with_own v b (staged r (StartTaken v.counts.start))) Working
  inside_step v b r (StartTaken m) = outcome (with_own v b (staged r (StopTaken m v.counts.stop))) Working
  inside_step v b r (StopTaken m k) = outcome (with_own (with_lock v (W.after v.lock (Leave b))) b (gone r Leaving)) (Shown (pos k -ℤ pos m))

  abbrev pub step_at : View S → ℕ → Bool → Record → Standing → Outcome S
  step_at v b bit r Out = outcome v Idle
  step_at v b bit r Doorway = doorway_step W v b bit r
  step_at v b bit r Waiting = waiting_step W v b bit r
  step_at v b bit r Inside = inside_step v b r r.stage
  step_at v b bit r Leaving = leaving_step W v b bit r

  abbrev pub step_outcome : View S → ℕ → Bool → Outcome S
  step_outcome v b bit = step_at v b bit (own v b) (own v b).standing

  abbrev pub step_answer : View S → ℕ → Bool → Result Progress Refusal
  step_answer v b bit = cond (there v b) (Ok (step_outcome v b bit).tells) (Err NoSuchBoard)

  abbrev pub step_leaves : View S → ℕ → Bool → View S
  step_leaves v b bit = cond (there v b) (step_outcome v b bit).left v

  -- board, station and counts are judged in this order; an accepted ask tells who is waiting
  abbrev pub ask_answer : View S → ℕ → ℕ → ℕ → Result ℕ Refusal
  ask_answer v b m k =
      cond (there v b) (ask_at (own v b).standing (nat_le m full && nat_le k full) (bits (marked (waiting_now v)) v.boards.count)) (Err NoSuchBoard)

  abbrev pub ask_leaves : View S → ℕ → ℕ → ℕ → Result ℕ Refusal → View S
  ask_leaves v b m k (Ok boards) = put_ahead (with_own (with_lock v (W.after v.lock (Start b))) b (given (own v b) m k)) b (waiting_now v)
  ask_leaves v b m k (Err e) = v

  abbrev pub pull_answer : View S → ℕ → Result Unit Refusal
  pull_answer v b = cond (there v b) (pull_at (own v b).standing) (Err NoSuchBoard)

  abbrev pub pull_leaves : View S → ℕ → Result Unit Refusal → View S
  pull_leaves v b (Ok u) = struck (with_own (with_lock v (W.after v.lock (Pull b))) b (gone (own v b) Leaving)) b
  pull_leaves v b (Err e) = v

  -- the view that a history leads to, and that its answers are the ones given
  abbrev pub trace : Boards → History → View S
  trace n [] = new_view n
  trace n (Asked b m k r ∷ h) = ask_leaves (trace n h) b m k r
  trace n (Stepped b bit r ∷ h) = step_leaves (trace n h) b bit
  trace n (Pulled b r ∷ h) = pull_leaves (trace n h) b r

  abbrev pub Given : Boards → History → Type 0
  Given n [] = Unit {0}
  Given n (Asked b m k r ∷ h) = (r ≡ ask_answer (trace n h) b m k) × Given n h
  Given n (Stepped b bit r ∷ h) = (r ≡ step_answer (trace n h) b bit) × Given n h
  Given n (Pulled b r ∷ h) = (r ≡ pull_answer (trace n h) b) × Given n h
