-- The rule keeps the thing with the board inside, and moves what it may.
use Rattle.std.proofs.Common.{sym, subst}
use Rattle.lock.proofs.Local.{owed}
use Rattle.backplane.specs.Rule.{Held, after, fresh, shown}
use Rattle.backplane.specs.Keeps.{after_held, moves_at}
use Rattle.backplane.proofs.held_lock.HeldLockLock.perform.Goals as goal

pub invariant_of-self : goal.invariant_of-self
invariant_of-self g c =
    let lock = c.args.self.now in
    record { held = subst Held (sym c.perform.ensures.leaves) (after_held g.met.T.Taking.sound lock.plane c.args.call lock.held) }

pub returns-clause-moves : goal.returns-clause-moves
returns-clause-moves g c =
    let lock = c.args.self.now in
    let k = moves_at g.met.T.Taking.sound lock.plane c.args.call lock.held in
    (owed fresh (after g.T.Taking.tries g.T.Taking.enters) shown lock.plane c.perform.new.self c.args.call c.perform.result k
    c.perform.ensures.answers c.perform.ensures.leaves).0
