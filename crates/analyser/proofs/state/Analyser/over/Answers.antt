-- A new analyser has no history.
use Rattle.analyser.proofs.Carried.{keeps, new_lawful, new_leads}
use Rattle.service.specs.Rule.{lockwork}
use Rattle.analyser.proofs.state.Analyser.over.Goals as goal

pub returns-clause-law : goal.returns-clause-law
returns-clause-law g c =
    let M = g.met.Q.Lock in let O = g.met.Q.Ordered in
    let K = keeps g.Q.Lock g.Q.Ordered M.begins M.moves M.excludes M.enters O.tries O.doorways O.order in
    new_lawful (lockwork g.Q.Lock g.Q.Ordered) g.Q.Lock.state g.I.Interpolator K c.args.boards

pub returns-clause-leads : goal.returns-clause-leads
returns-clause-leads g c =
    new_leads (lockwork g.Q.Lock g.Q.Ordered) g.Q.Lock.state g.I.Interpolator c.args.boards c.new.result c.new-2.result c.new-3.result c.new-4.result
    c.new.ensures c.new-2.ensures.start c.new-2.ensures.stop c.new-3.ensures
