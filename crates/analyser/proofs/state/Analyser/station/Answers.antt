-- The station that is kept is the one that the history says.
use Rattle.std.proofs.Common.{◌∙◌}
use Rattle.analyser.proofs.Carried.{keeps, tells_station}
use Rattle.service.specs.Rule.{lockwork}
use Rattle.analyser.proofs.state.Analyser.station.Goals as goal

pub returns-clause-law : goal.returns-clause-law
returns-clause-law g c =
    let M = g.met.Q.Lock in let O = g.met.Q.Ordered in
    let K = keeps g.Q.Lock g.Q.Ordered M.begins M.moves M.excludes M.enters O.tries O.doorways O.order in
    λ n h ld. c.standing.ensures ∙ tells_station (lockwork g.Q.Lock g.Q.Ordered) g.Q.Lock.state g.I.Interpolator K c.args.self.now c.args.board n h ld
