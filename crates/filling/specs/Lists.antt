-- A list over a slice: xs are the places of the slice, and the first n of them hold the list.
use Rattle.std.specs.Prelude.{ℕ, ◌+◌, ◌-◌, Bool, cond, List, length, None, Ok, Err, Option, Result, nat_lt, slice_set}
use Rattle.std.specs.List.{slice_get}
use Rattle.filling.specs.declared.refusal.Refusal.{Refusal}
use Rattle.filling.specs.declared.refusal.Refusal.TheVariants.{NoFreePlace}

module _ {X : Type 0} where
  -- the record at index i, if the list holds one
  abbrev pub element : List X → ℕ → ℕ → Option X
  element xs n i = cond (nat_lt i n) (slice_get xs i) None

  abbrev pub free_places : List X → ℕ → ℕ
  free_places xs n = length xs - n

  -- there is a free place
  abbrev pub room : List X → ℕ → Bool
  room xs n = nat_lt n (length xs)

  -- what a filling answers, and the slice and the length that it leaves
  abbrev pub push_answered : List X → ℕ → Result Unit Refusal
  push_answered xs n = cond (room xs n) (Ok tt) (Err NoFreePlace)

  abbrev pub slice_after : List X → ℕ → X → List X
  slice_after xs n x = cond (room xs n) (slice_set xs n x) xs

  abbrev pub count_after : List X → ℕ → ℕ
  count_after xs n = cond (room xs n) (n + 1) n
