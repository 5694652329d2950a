-- The rows so far, and those that the calls still to come give, are the rows of all the calls.
use Rattle.std.proofs.Common.{◌≡◌, ◌++◌, drop, vec_items}
use Rattle.turns.specs.Rows.{rows_of}
use Rattle.turns.proofs.play.play.Given as goal

abbrev pub invariant-loop-call : goal.invariant-loop-call
invariant-loop-call l = vec_items l.rows ++ rows_of l.lock.lines (drop l.call-index l.calls) ≡ rows_of l.initial.lock.lines l.calls
