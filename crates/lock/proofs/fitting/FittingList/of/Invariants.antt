-- As many boards are fitted as there were turns.
use Rattle.std.proofs.Common.{◌≡◌}
use Rattle.lock.proofs.fitting.FittingList.of.Given as goal

abbrev pub invariant-loop-fitted : goal.invariant-loop-fitted
invariant-loop-fitted l = l.list.boards.count ≡ l.fitted
