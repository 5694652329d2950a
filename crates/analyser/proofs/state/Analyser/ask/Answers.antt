-- The work is done by its rule, and so carries the law on.
use Rattle.analyser.proofs.Carried.{keeps, ask_carries}
use Rattle.service.specs.Rule.{lockwork}
use Rattle.analyser.proofs.state.Analyser.ask.Goals as goal

pub returns-clause-law : goal.returns-clause-law
returns-clause-law g c =
    let M = g.met.Q.Lock in let O = g.met.Q.Ordered in
    let K = keeps g.Q.Lock g.Q.Ordered M.begins M.moves M.excludes M.enters O.tries O.doorways O.order in
    let d = c.do_ask in
    ask_carries (lockwork g.Q.Lock g.Q.Ordered) g.Q.Lock.state g.I.Interpolator K c.args.self.now d.new.self c.args.board c.args.start c.args.stop
    d.result d.ensures.answers d.ensures.leaves d.ensures.panel
