-- What holds of the flags and places of every one-bit lock that exists.
use Rattle.std.specs.Prelude.{◌≡◌, ℕ, ◌≤◌, Bool, true, false, not, ◌&&◌, ◌||◌, length, ◌==◌, ◌≢◌, nat_lt}
use Rattle.line.specs.Rule.{falling, high, low, rising}
use Rattle.line.specs.declared.Line.{Line}
use Rattle.lock.specs.declared.station.Call.{Call}
use Rattle.lock.specs.declared.station.Station.TheVariants as at
use Rattle.lock.specs.Stations.{board, Stands}
use Rattle.lock.specs.Tables.{listed}
use Rattle.one_bit.specs.declared.lines.Lines.{Lines}
use Rattle.one_bit.specs.declared.lines.Place.{Place}
use Rattle.one_bit.specs.declared.lines.Place.TheVariants.{Out, Raising, Reading, Lowering, Awaiting, Inside, Leaving}
use Rattle.one_bit.specs.Rule.{seat, shown, flag_told, after}

-- which flag goes with which place of board b
abbrev pub fits : ℕ → Line → Place → Bool
fits b f Out = low f
fits b f Raising = low f || rising f
fits b f (Reading j) = high f && not (j == b)
fits b f (Lowering j) = high f || falling f
fits b f (Awaiting j) = low f
fits b f Inside = high f
fits b f Leaving = not (rising f)

-- a board at this place has found board j's flag low since it raised its own
abbrev pub passed : Place → ℕ → Bool
passed Out j = false
passed Raising j = false
passed (Reading k) j = nat_lt j k
passed (Lowering k) j = false
passed (Awaiting k) j = false
passed Inside j = true
passed Leaving j = false

-- no board is inside with its flag low or in change
abbrev pub Raised : Lines → Type 0
Raised l = (b : ℕ) → Stands (shown l) b at.Inside → high (seat l b).flag ≡ true

-- every board's flag fits its place
abbrev pub Fits : Lines → Type 0
Fits l = (b : ℕ) → 1 ≤ b → b ≤ length (listed l.table) → fits b (seat l b).flag (seat l b).place ≡ true

-- board i has passed board j
abbrev pub Passed : Lines → ℕ → ℕ → Type 0
Passed l i j = (1 ≤ i) × (i ≤ length (listed l.table)) × (passed (seat l i).place j ≡ true)

-- no two boards have passed each other
abbrev pub Apart : Lines → Type 0
Apart l = (i j : ℕ) → (i ≢ j) × Passed l i j × Passed l j i → ⊥

-- only board b's own calls move its flag
abbrev pub OwnFlag : Lines → ℕ → Type 0
OwnFlag l b = (c : Call) → (board c ≢ b) → flag_told (after l c) b ≡ flag_told l b
