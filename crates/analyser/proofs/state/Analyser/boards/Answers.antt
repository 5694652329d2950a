-- The number of boards stays.
use Rattle.std.proofs.Common.{◌∙◌}
use Rattle.analyser.proofs.Carried.{keeps, tells_boards}
use Rattle.service.specs.Rule.{lockwork}
use Rattle.analyser.proofs.state.Analyser.boards.Goals as goal

pub returns-clause-law : goal.returns-clause-law
returns-clause-law g c =
    let M = g.met.Q.Lock in let O = g.met.Q.Ordered in
    let K = keeps g.Q.Lock g.Q.Ordered M.begins M.moves M.excludes M.enters O.tries O.doorways O.order in
    λ n h ld. c.count.ensures ∙ tells_boards (lockwork g.Q.Lock g.Q.Ordered) g.Q.Lock.state g.I.Interpolator K c.args.self.now n h ld
