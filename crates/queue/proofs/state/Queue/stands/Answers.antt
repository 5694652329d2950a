-- The station of a board, by its phase and its station below.
use Rattle.std.proofs.Common.{Ok, Err, sym, ap, ◌∙◌}
use Rattle.std.proofs.lemmas.Result.{err_from_is_err_and}
use Rattle.line.specs.declared.Line.TheVariants.{Low}
use Rattle.queue.specs.declared.state.Phase.TheVariants.{Out}
use Rattle.queue.specs.Rule.{door, none}
use Rattle.queue.specs.Shown.{told_record, told_refused}
use Rattle.queue.proofs.state.Queue.stands.Goals as goal

pub returns-in_err-own : goal.returns-in_err-own
returns-in_err-own g c =
    let p = err_from_is_err_and c.from_residual.result c.from_residual.ensures.1 in
    p.1 ∙ ap Err p.2 ∙ told_refused (λ l. g.L.Lock.stations (g.L.Lock.state l)) c.args.self.now c.args.board _ (sym (c.record.ensures (door Low Out none)) ∙ c.in_err-own.was)

pub returns : goal.returns
returns g c =
    ap Ok c.station.ensures
    ∙ told_record (λ l. g.L.Lock.stations (g.L.Lock.state l)) c.args.self.now c.args.board c.in_ok-own.own c.station_below.result
    (sym (c.record.ensures (door Low Out none)) ∙ c.in_ok-own.was) c.station_below.ensures
