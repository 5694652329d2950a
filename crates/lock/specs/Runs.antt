-- The laws of a lock, over every list of calls on a new one, refused calls included.
use Rattle.std.specs.Prelude.{◌≡◌, ℕ, ◌+◌, ◌≤◌, true, false, cond, ◌⊎◌, List, [], ◌∷◌, length, replicate, ◌==◌, ◌≢◌}
use Rattle.lock.specs.declared.boards.Boards.{Boards}
use Rattle.lock.specs.declared.station.Call.{Call}
use Rattle.lock.specs.declared.station.Call.TheVariants.{Start, Step, Leave, Pull}
use Rattle.lock.specs.declared.station.Station.{Station}
use Rattle.lock.specs.declared.station.Station.TheVariants.{Out, Inside, Leaving}
use Rattle.lock.specs.Stations.{at, accepted, Moves, Stands, AtMostOne}

-- how many steps of board b are in a list of calls
abbrev pub own : ℕ → Call → ℕ
own b (Start j) = 0
own b (Step j bit) = cond (j == b) 1 0
own b (Leave j) = 0
own b (Pull j) = 0

abbrev pub steps : ℕ → List Call → ℕ
steps b [] = 0
steps b (c ∷ cs) = own b c + steps b cs

-- the call neither pulls b nor starts another board
abbrev pub Spares : ℕ → Call → Type 0
Spares b (Start j) = j ≡ b
Spares b (Step j bit) = Unit {0}
Spares b (Leave j) = Unit {0}
Spares b (Pull j) = j ≡ b → ⊥

-- every board but b is out
abbrev pub OthersOut : List Station → ℕ → Type 0
OthersOut ss b = (j : ℕ) → (j ≢ b) → 1 ≤ j → j ≤ length ss → at ss j ≡ Out

module _ {L : Type 0} (after : L → Call → L) where
  -- what a list of calls leaves
  abbrev pub run : L → List Call → L
  run l [] = l
  run l (c ∷ cs) = run (after l c) cs

  -- P holds at some moment of the calls cs, made from l: before, between or after them
  abbrev pub Sometime : (L → Type 0) → L → List Call → Type 0
  Sometime P l [] = P l
  Sometime P l (c ∷ cs) = P l ⊎ Sometime P (after l c) cs

  -- P holds of each call of cs, at the moment at which it is made
  abbrev pub Each : (L → Call → Type 0) → L → List Call → Type 0
  Each P l [] = Unit {0}
  Each P l (c ∷ cs) = P l c × Each P (after l c) cs

module _ {L : Type 0} (fresh : Boards → L) (stations : L → List Station) where
  -- every board of a new lock is out
  abbrev pub AllOut : Type 0
  AllOut = (n : Boards) → stations (fresh n) ≡ replicate n.count Out

module _ {L : Type 0} (fresh : Boards → L) (after : L → Call → L) (stations : L → List Station) where
  -- a refused call changes nothing, and an accepted one moves what it may move
  abbrev pub MovesAt : L → Call → Type 0
  MovesAt l c = (accepted (stations l) c ≡ false → after l c ≡ l) × (accepted (stations l) c ≡ true → Moves (stations l) c (stations (after l c)))

  -- so does every call, after any calls
  abbrev pub CallsMove : Type 0
  CallsMove = (n : Boards) (cs : List Call) (c : Call) → MovesAt (run after (fresh n) cs) c

  -- after any calls, at most one board is inside
  abbrev pub Exclusive : Type 0
  Exclusive = (n : Boards) (cs : List Call) → AtMostOne (stations (run after (fresh n) cs))

  -- after any calls, a board that is started while all others are out goes inside within as many of its own steps
  -- as `alone` says, if it is not pulled and no other board is started
  abbrev pub EntersWithin : (ℕ → ℕ) → Type 0
  EntersWithin alone = (n : Boards) (cs ds : List Call) (b : ℕ)
      → accepted (stations (run after (fresh n) cs)) (Start b) ≡ true
      → OthersOut (stations (run after (fresh n) cs)) b
      → Each after (λ l c. accepted (stations l) c ≡ true → Spares b c) (after (run after (fresh n) cs) (Start b)) ds
      → alone n.count ≤ steps b ds
      → Sometime after (λ l. Stands (stations l) b Inside) (after (run after (fresh n) cs) (Start b)) ds

  -- after any calls, a leaving board is out within as many of its own steps as `settle` says
  abbrev pub OutWithin : (ℕ → ℕ) → Type 0
  OutWithin settle = (n : Boards) (cs ds : List Call) (b : ℕ)
      → Stands (stations (run after (fresh n) cs)) b Leaving
      → settle n.count ≤ steps b ds
      → Sometime after (λ l. Stands (stations l) b Out) (run after (fresh n) cs) ds
