-- The rules of a lock on the stations of its boards: what each call answers, and whom it moves.
use Rattle.std.specs.Prelude.{◌≡◌, ℕ, ◌-◌, ◌≤◌, Bool, cond, ◌&&◌, ◌⊎◌, List, length, is_ok, Some, None, Ok, Err, Option, Result, ◌≢◌, nat_le, slice_index_or, slice_set}
use Rattle.lock.specs.declared.station.Call.{Call}
use Rattle.lock.specs.declared.station.Call.TheVariants.{Start, Step, Leave, Pull}
use Rattle.lock.specs.declared.station.Refusal.{Refusal}
use Rattle.lock.specs.declared.station.Refusal.TheVariants.{NoSuchBoard, NotOut, NotEngaged, NotInside}
use Rattle.lock.specs.declared.station.Station.{Station}
use Rattle.lock.specs.Most.{most}
use Rattle.lock.specs.declared.station.Station.TheVariants.{Out, Trying, Inside, Leaving}

-- the board that a call names
abbrev pub board : Call → ℕ
board (Start b) = b
board (Step b bit) = b
board (Leave b) = b
board (Pull b) = b

-- b is one of the boards 1 to n
abbrev pub among : ℕ → ℕ → Bool
among n b = nat_le 1 b && nat_le b n

-- where board b stands in an array with a place for every board that there can be
abbrev pub place_of : ℕ → Option ℕ
place_of b = cond (among most b) (Some (b - 1)) None

-- the station of board b
abbrev pub at : List Station → ℕ → Station
at ss b = slice_index_or ss (b - 1) Out

-- the stations once board b has gone to s, and nobody else has moved
abbrev pub with : List Station → ℕ → Station → List Station
with ss b s = slice_set ss (b - 1) s

-- what is told of board b
abbrev pub told : List Station → ℕ → Result Station Refusal
told ss b = cond (among (length ss) b) (Ok (at ss b)) (Err NoSuchBoard)

-- what a start, a leave and a pull answer, by the board's station
abbrev pub start_at : Station → Result Unit Refusal
start_at Out = Ok tt
start_at Trying = Err NotOut
start_at Inside = Err NotOut
start_at Leaving = Err NotOut

abbrev pub leave_at : Station → Result Unit Refusal
leave_at Out = Err NotInside
leave_at Trying = Err NotInside
leave_at Inside = Ok tt
leave_at Leaving = Err NotInside

abbrev pub pull_at : Station → Result Unit Refusal
pull_at Out = Err NotEngaged
pull_at Trying = Ok tt
pull_at Inside = Ok tt
pull_at Leaving = Err NotEngaged

-- what a call answers, by the station of its board
abbrev pub judged_at : Call → Station → Result Unit Refusal
judged_at (Start b) s = start_at s
judged_at (Step b bit) s = Ok tt
judged_at (Leave b) s = leave_at s
judged_at (Pull b) s = pull_at s

-- what a call answers: the board is judged first, then its station
abbrev pub answer : List Station → Call → Result Unit Refusal
answer ss c = cond (among (length ss) (board c)) (judged_at c (at ss (board c))) (Err NoSuchBoard)

abbrev pub accepted : List Station → Call → Bool
accepted ss c = is_ok (answer ss c)

-- b is one of the boards, and is at station s
abbrev pub Stands : List Station → ℕ → Station → Type 0
Stands ss b s = (1 ≤ b) × (b ≤ length ss) × (at ss b ≡ s)

-- no board but b is inside
abbrev pub NoneElse : List Station → ℕ → Type 0
NoneElse ss b = (j : ℕ) → (j ≢ b) → Stands ss j Inside → ⊥

-- no two boards are inside
abbrev pub AtMostOne : List Station → Type 0
AtMostOne ss = (i j : ℕ) → Stands ss i Inside → Stands ss j Inside → i ≡ j

-- where a step may take board b: nowhere, from trying to inside when no other is inside, or from leaving to out
abbrev pub StepsTo : List Station → ℕ → Station → Type 0
StepsTo ss b s = (s ≡ at ss b) ⊎ (((at ss b ≡ Trying) × (s ≡ Inside) × NoneElse ss b) ⊎ ((at ss b ≡ Leaving) × (s ≡ Out)))

-- the stations before and after an accepted call
abbrev pub Moves : List Station → Call → List Station → Type 0
Moves ss (Start b) ts = ts ≡ with ss b Trying
Moves ss (Step b bit) ts = (s : Station) × (ts ≡ with ss b s) × StepsTo ss b s
Moves ss (Leave b) ts = ts ≡ with ss b Leaving
Moves ss (Pull b) ts = ts ≡ with ss b Leaving
