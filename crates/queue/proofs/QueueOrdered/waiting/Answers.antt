-- Whether a board waits, by its phase and its station below.
use Rattle.std.proofs.Common.{Ok, Err, sym, ap, ◌∙◌}
use Rattle.std.proofs.lemmas.Result.{err_from_is_err_and}
use Rattle.line.specs.declared.Line.TheVariants.{Low}
use Rattle.queue.specs.declared.state.Phase.TheVariants.{Out}
use Rattle.queue.specs.Rule.{door, none, over}
use Rattle.queue.specs.Shown.{waits_record, waits_refused}
use Rattle.queue.proofs.QueueOrdered.waiting.Goals as goal

pub returns-in_err-own : goal.returns-in_err-own
returns-in_err-own g c =
    let D = g.L.Lock in
    let p = err_from_is_err_and c.from_residual.result c.from_residual.ensures.1 in
    p.1 ∙ ap Err p.2 ∙ waits_refused D.fresh D.after D.stations (over D.state c.args.self.now) c.args.board _ (sym (c.record.ensures (door Low Out none)) ∙ c.in_err-own.was)

pub returns : goal.returns
returns g c =
    let D = g.L.Lock in
    ap Ok c.waits.ensures
    ∙ waits_record D.fresh D.after D.stations (over D.state c.args.self.now) c.args.board c.in_ok-own.own c.station_below.result
    (sym (c.record.ensures (door Low Out none)) ∙ c.in_ok-own.was) c.station_below.ensures
