-- The sets up to here are without the board, and those from here on are as they were.
use Rattle.std.proofs.Common.{◌≡◌, ◌++◌, map, length, take, drop}
use Rattle.lock.specs.Most.{most}
use Rattle.analyser.specs.Desks.{struck}
use Rattle.analyser.proofs.state.Desk.strike.Given as goal

abbrev pub invariant-loop-ahead : goal.invariant-loop-ahead
invariant-loop-ahead l =
    (l.ahead-items ≡ map (struck l.seat.board) (take l.ahead-index l.initial.ahead-items) ++ drop l.ahead-index l.initial.ahead-items)
    × (length l.initial.ahead-items ≡ most)
    × (length l.ahead-items ≡ most)
