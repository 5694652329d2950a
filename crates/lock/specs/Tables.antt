-- A table with one record for each board: what it tells and how it is written.
use Rattle.std.specs.Prelude.{ℕ, ◌-◌, Bool, cond, List, length, take, replicate, Ok, Err, Result, slice_index_or, slice_set}
use Rattle.lock.specs.declared.boards.Boards.{Boards}
use Rattle.lock.specs.declared.station.Refusal.{Refusal}
use Rattle.lock.specs.declared.station.Refusal.TheVariants.{NoSuchBoard}
use Rattle.lock.specs.declared.table.Table.{Table}
use Rattle.lock.specs.Most.{most}
use Rattle.lock.specs.Stations.{among}

module _ {T : Type 0} where
  -- the same record for every board
  abbrev pub filled : Boards → T → Table T
  filled n x = record { boards = n; records = replicate most x }

  -- the records of boards 1 to N, in order
  abbrev pub listed : Table T → List T
  listed t = take t.boards.count t.records

  -- board b has a record
  abbrev pub kept_for : Table T → ℕ → Bool
  kept_for t b = among (length (listed t)) b

  -- the place of board b's record
  abbrev pub placed : Table T → ℕ → Result ℕ Refusal
  placed t b = cond (kept_for t b) (Ok (b - 1)) (Err NoSuchBoard)

  -- what is told of board b; d stands where there is no record
  abbrev pub asked : Table T → ℕ → T → Result T Refusal
  asked t b d = cond (kept_for t b) (Ok (slice_index_or (listed t) (b - 1) d)) (Err NoSuchBoard)

  -- what a writing for board b answers, and what it leaves
  abbrev pub judged : Table T → ℕ → Result Unit Refusal
  judged t b = cond (kept_for t b) (Ok tt) (Err NoSuchBoard)

  abbrev pub written : Table T → ℕ → T → Table T
  written t b x = cond (kept_for t b) (record { boards = t.boards; records = slice_set t.records (b - 1) x }) t
