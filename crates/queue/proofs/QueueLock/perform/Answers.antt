-- An accepted call moves what it may move, given that the call made below does.
use Rattle.std.proofs.Common.{◌≡◌, Ok, refl, subst, arith}
use Rattle.std.proofs.lemmas.Grind.{common_steps}
use Rattle.lock.specs.Stations.{answer}
use Rattle.lock.proofs.Local.{owed}
use Rattle.queue.specs.Moves.{moves_at}
use Rattle.queue.specs.Rule.{MovedBelow, new_queue, over, queue_after, shown}
use Rattle.queue.proofs.QueueLock.perform.Goals as goal

pub returns-clause-moves : goal.returns-clause-moves
returns-clause-moves g c =
    let D = g.L.Lock in let q = over D.state c.args.self.now in let r = over D.state c.act.new.self in let call = c.args.call in
    let moved = subst (MovedBelow D.after D.stations D.fresh q.below) c.next.ensures.call c.act.ensures.moved in
    let answers : Ok tt ≡ answer (shown D.stations q) call = grind (arith, common_steps) in
    let leaves : r ≡ queue_after D.after D.stations q call = grind (arith, common_steps) in
    let newly = new_queue D.fresh in let rule = queue_after D.after D.stations in
    λ ok. (owed newly rule (shown D.stations) q r call (Ok tt) (moves_at D.fresh D.after D.stations newly q call moved) answers leaves).0 refl
