-- The rule keeps flags and places sound, and a refused call changes nothing.
use Rattle.std.proofs.Common.{sym, subst}
use Rattle.lock.proofs.Local.{owed}
use Rattle.one_bit.specs.Rule.{fresh, shown, after}
use Rattle.one_bit.specs.Keeps.{Sound, after_sound, moves_at, raised}
use Rattle.one_bit.proofs.Same.{same_lock}
use Rattle.one_bit.proofs.OneBitLock.perform.Goals as goal

pub invariant_of-self : goal.invariant_of-self
invariant_of-self c =
    let l = c.args.self.now in let m = c.perform.new.self in
    let sound = subst Sound (sym c.perform.ensures.leaves) (after_sound l.lines c.args.call (l.fits, l.apart)) in
    record { raised = raised m sound.0; fits = sound.0; apart = sound.1 }

pub returns : goal.returns
returns c =
    let l = c.args.self.now in let call = c.perform.ensures in
    let k = owed fresh after shown l.lines c.perform.new.self c.args.call c.perform.result (moves_at l.lines c.args.call (l.fits, l.apart)) call.answers call.leaves in
    record { answers = call.answers; leaves = call.leaves; moves = k.0; kept = λ bad. same_lock _ _ (k.1 bad) }
