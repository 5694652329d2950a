-- The calls that are still to come lead from the lock so far to where all of them lead from the new one.
use Rattle.std.proofs.Common.{◌≡◌, drop}
use Rattle.lock.specs.Runs.{run}
use Rattle.lock.proofs.replay.Given as goal

abbrev pub invariant-loop-call : goal.invariant-loop-call
invariant-loop-call g l =
    run g.L.Lock.after (g.L.Lock.state l.lock) (drop l.call-index l.calls) ≡ run g.L.Lock.after (g.L.Lock.state l.initial.lock) l.calls
