-- The other boards, in rising order.
use Rattle.std.specs.Prelude.{ℕ, ◌+◌, cond, Some, None, Option, ◌==◌, nat_lt}

-- j, or b where b comes right after j
abbrev pub skipped : ℕ → ℕ → ℕ
skipped b j = cond (j + 1 == b) b j

-- the lowest board above j, of boards 1 to n without b
abbrev pub other_after : ℕ → ℕ → ℕ → Option ℕ
other_after n b j = cond (nat_lt (skipped b j) n) (Some (skipped b j + 1)) None
