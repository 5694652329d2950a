-- Whose lines a call moves, over any lock.
use Rattle.queue.proofs.Owned.{own_lines, one_in_change}
use Rattle.queue.proofs.state.Queue.y.Goals as goal

pub returns : goal.returns
returns g c =
    let D = g.L.Lock in let M = g.met.L.Lock in
    record {
      tells = c.line_y.ensures;
      owned = own_lines D.fresh D.after D.stations M.begins M.moves;
      single = one_in_change D.fresh D.after D.stations M.begins M.moves;
    }
