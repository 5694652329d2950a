-- The queue layer over the lock is an ordered lock, whose S gives the steps of a board that asks alone.
use Rattle.std.proofs.Common.{List, [], subst}
use Rattle.lock.specs.declared.boards.Boards.{Boards}
use Rattle.queue.specs.Rule.{over}
use Rattle.service.specs.declared.event.Event.{Event}
use Rattle.service.specs.Law.{Lawful}
use Rattle.service.specs.Rule.{new_view}
use Rattle.service.specs.Runs.{grown}
use Rattle.analyser.specs.Service.{Leads, queued, showing}
use Rattle.analyser.proofs.Carried.{over_queue}
use Rattle.analyser.proofs.Analyser+Queue+L+I.put_into_service.Goals as goal

pub returns-clause-leads : goal.returns-clause-leads
returns-clause-leads g c =
    subst (λ (m : Boards). Leads (queued g.L.Lock) (over g.L.Lock.state) g.I.Interpolator m [] c.over.result) c.boards.ensures c.over.ensures.leads

pub returns-clause-law : goal.returns-clause-law
returns-clause-law g c =
    let W = queued g.L.Lock in let P = g.I.Interpolator in let n = c.args.list.boards in
    let law : (es : List Event) → Lawful n.count P.FULL_SCALE (showing W n.count) (grown W P.FULL_SCALE (new_view W P.FULL_SCALE n) [] es) =
    subst (λ (m : Boards). (es : List Event) → Lawful m.count P.FULL_SCALE (showing W m.count) (grown W P.FULL_SCALE (new_view W P.FULL_SCALE m) [] es)) c.boards.ensures c.over.ensures.law in
    λ es. subst (λ k. Lawful n.count P.FULL_SCALE k (grown W P.FULL_SCALE (new_view W P.FULL_SCALE n) [] es)) (over_queue n (g.L.Lock.alone n.count)) (law es)
