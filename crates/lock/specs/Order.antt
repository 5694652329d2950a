-- Order: who stands ahead of a board, and that nobody goes inside past it.
use Rattle.std.specs.Prelude.{◌≡◌, ℕ, ◌≤◌, Bool, true, false, cond, ◌⊎◌, List, length, Ok, Err, Result, ◌≢◌}
use Rattle.lock.specs.declared.boards.Boards.{Boards}
use Rattle.lock.specs.declared.station.Call.{Call}
use Rattle.lock.specs.declared.station.Call.TheVariants.{Start, Step, Leave, Pull}
use Rattle.lock.specs.declared.station.Refusal.{Refusal}
use Rattle.lock.specs.declared.station.Refusal.TheVariants.{NoSuchBoard}
use Rattle.lock.specs.declared.station.Station.{Station}
use Rattle.lock.specs.declared.station.Station.TheVariants.{Trying, Inside}
use Rattle.lock.specs.Stations.{accepted, among, board, Stands}
use Rattle.lock.specs.Runs.{run, steps, Sometime, Each}

-- the call neither pulls j nor starts b again
abbrev pub Leaves : ℕ → ℕ → Call → Type 0
Leaves j b (Start i) = i ≡ b → ⊥
Leaves j b (Step i bit) = Unit {0}
Leaves j b (Leave i) = Unit {0}
Leaves j b (Pull i) = i ≡ j → ⊥

module _ {L : Type 0} (fresh : Boards → L) (after : L → Call → L) (stations : L → List Station) (waits : L → ℕ → Bool) where
  -- Board j stands ahead of b from an accepted start of b on at which j waits, past its doorway and not yet inside, and as
  -- long as j is neither inside nor pulled. After any calls, while j stands ahead of b, b is not inside.
  abbrev pub InOrder : Type 0
  InOrder = (n : Boards) (cs ds : List Call) (b j : ℕ)
      → accepted (stations (run after (fresh n) cs)) (Start b) ≡ true
      → waits (run after (fresh n) cs) j ≡ true
      → Each after (λ l c. accepted (stations l) c ≡ true → Leaves j b c) (after (run after (fresh n) cs) (Start b)) ds
      → (Sometime after (λ l. Stands (stations l) j Inside) (after (run after (fresh n) cs) (Start b)) ds → ⊥)
      → Stands (stations (run after (after (run after (fresh n) cs) (Start b)) ds)) b Inside → ⊥

  -- After any calls, a board that is started has passed its doorway within as many of its own steps as `doorway` says,
  -- whatever the others do, unless it is pulled.
  abbrev pub PassesWithin : (ℕ → ℕ) → Type 0
  PassesWithin doorway = (n : Boards) (cs ds : List Call) (b : ℕ)
      → accepted (stations (run after (fresh n) cs)) (Start b) ≡ true
      → Each after (λ l c. accepted (stations l) c ≡ true → c ≢ Pull b) (after (run after (fresh n) cs) (Start b)) ds
      → doorway n.count ≤ steps b ds
      → Sometime after (λ l. waits l b ≡ true) (after (run after (fresh n) cs) (Start b)) ds

  -- after any calls, a board that waits is trying
  abbrev pub WaitsTrying : Type 0
  WaitsTrying = (n : Boards) (cs : List Call) (b : ℕ) → waits (run after (fresh n) cs) b ≡ true → Stands (stations (run after (fresh n) cs)) b Trying

  -- what a call does to its own board's doorway: a start begins it, a step in it leaves the board trying, and a step of a
  -- board that waits leaves it waiting or takes it inside
  abbrev pub OwnDoorway : L → Call → Type 0
  OwnDoorway l (Start b) = waits (after l (Start b)) b ≡ false
  OwnDoorway l (Step b bit) = (Stands (stations l) b Trying → waits l b ≡ false → Stands (stations (after l (Step b bit))) b Trying)
      × (waits l b ≡ true → (waits (after l (Step b bit)) b ≡ true) ⊎ Stands (stations (after l (Step b bit))) b Inside)
  OwnDoorway l (Leave b) = Unit {0}
  OwnDoorway l (Pull b) = Unit {0}

  -- after any calls, an accepted call does this to its own board's doorway, and nothing to another's
  abbrev pub Doorways : Type 0
  Doorways = (n : Boards) (cs : List Call) (c : Call) → accepted (stations (run after (fresh n) cs)) c ≡ true
      → OwnDoorway (run after (fresh n) cs) c
      × ((j : ℕ) → (j ≢ board c) → waits (after (run after (fresh n) cs) c) j ≡ waits (run after (fresh n) cs) j)

  -- what is told of a board: whether it waits
  abbrev pub waits_told : L → ℕ → Result Bool Refusal
  waits_told l b = cond (among (length (stations l)) b) (Ok (waits l b)) (Err NoSuchBoard)
