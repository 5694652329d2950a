-- In a new lock every flag is low, and nobody has passed anybody.
use Rattle.std.proofs.Common.{sym, subst}
use Rattle.one_bit.specs.Keeps.{Sound, fresh_sound, raised}
use Rattle.one_bit.proofs.OneBitLock.new.Goals as goal

pub invariant_of-result : goal.invariant_of-result
invariant_of-result c =
    let sound = subst Sound (sym c.new.ensures) (fresh_sound c.args.boards) in
    record { raised = raised c.new.result sound.0; fits = sound.0; apart = sound.1 }
