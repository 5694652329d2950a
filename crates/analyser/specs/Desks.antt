-- The desk, as the analyser keeps it: its sets ahead, and what is noted of a step.
use Rattle.std.specs.Prelude.{ℕ, ◌-◌, Bool, false, List, map, replicate, slice_index_or, slice_set}
use Rattle.lock.specs.Most.{most}
use Rattle.service.specs.declared.progress.Progress.{Progress}
use Rattle.service.specs.declared.progress.Progress.TheVariants.{Idle, Working, Passed, Entered, Shown, CameOut}
use Rattle.service.specs.declared.record.Record.{Record}
use Rattle.service.specs.declared.standing.Standing.TheVariants.{Out, Waiting}
use Rattle.service.specs.Records.{arrived, blank, gone}
use Rattle.analyser.specs.declared.state.Desk.{Desk}

-- nobody
abbrev pub none : List Bool
none = replicate most false

-- the set without board j
abbrev pub struck : ℕ → List Bool → List Bool
struck j marks = slice_set marks (j - 1) false

-- the desk once board b's record is changed
abbrev pub with_record : Desk → ℕ → (Record → Record) → Desk
with_record d b f = record { records = slice_set d.records (b - 1) (f (slice_index_or d.records (b - 1) blank)); sets = d.sets }

-- the desk once board j stands ahead of nobody any more
abbrev pub cleared : Desk → ℕ → Desk
cleared d j = record { records = d.records; sets = map (struck j) d.sets }

-- the desk once it is noted what a step of board b has come to
abbrev pub noted : Desk → ℕ → Progress → Desk
noted d b Idle = d
noted d b Working = d
noted d b Passed = with_record d b (λ r. gone r Waiting)
noted d b Entered = cleared (with_record d b arrived) b
noted d b (Shown z) = d
noted d b CameOut = with_record d b (λ r. gone r Out)
