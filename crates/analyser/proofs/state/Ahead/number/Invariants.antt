-- The number so far is that of the boards up to here.
use Rattle.std.proofs.Common.{◌≡◌, ◌^◌, ◌<◌}
use Rattle.service.specs.History.{bits}
use Rattle.service.specs.Rule.{marked}
use Rattle.analyser.proofs.state.Ahead.number.Given as goal

abbrev pub invariant-loop-j : goal.invariant-loop-j
invariant-loop-j l = (l.number ≡ bits (marked l.fn.self) l.j) × (l.number < 2 ^ l.j)
