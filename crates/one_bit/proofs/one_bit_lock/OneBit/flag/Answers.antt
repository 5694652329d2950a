-- No call of another board moves the flag that is told.
use Rattle.one_bit.specs.Seats.{own_flag}
use Rattle.one_bit.proofs.one_bit_lock.OneBit.flag.Goals as goal

pub returns-clause-owned : goal.returns-clause-owned
returns-clause-owned c = own_flag c.args.self.now.lines c.args.board
