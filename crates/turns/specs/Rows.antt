-- What each call of a list does, on the flags and places of a one-bit lock.
use Rattle.std.specs.Prelude.{List, [], ◌∷◌}
use Rattle.lock.specs.declared.station.Call.{Call}
use Rattle.lock.specs.Stations.{answer, board, told}
use Rattle.one_bit.specs.declared.lines.Lines.{Lines}
use Rattle.one_bit.specs.Rule.{after, seat, shown}
use Rattle.turns.specs.declared.row.Row.{Row}

-- one call: its answer at l, and the flags and the station that it leaves
abbrev pub row_of : Lines → Call → Row
row_of l c = record {
  call = c;
  answer = answer (shown l) c;
  flags = (seat (after l c) 1).flag ∷ ((seat (after l c) 2).flag ∷ ((seat (after l c) 3).flag ∷ []));
  station = told (shown (after l c)) (board c);
}

abbrev pub rows_of : Lines → List Call → List Row
rows_of l [] = []
rows_of l (c ∷ cs) = row_of l c ∷ rows_of (after l c) cs
