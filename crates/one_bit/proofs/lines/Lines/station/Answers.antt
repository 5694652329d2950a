-- The station of a board is that of its place.
use Rattle.std.proofs.Common.{◌≡◌, ℕ, Ok, Err, Result, sym, ap, ◌∙◌}
use Rattle.std.proofs.lemmas.Result.{err_from_is_err_and}
use Rattle.line.specs.declared.Line.TheVariants.{Low}
use Rattle.lock.specs.declared.station.Refusal.{Refusal}
use Rattle.lock.specs.Stations.{told}
use Rattle.lock.specs.Tables.{asked}
use Rattle.lock.proofs.Tables.{through, told_through}
use Rattle.one_bit.specs.declared.lines.Board.{Board}
use Rattle.one_bit.specs.declared.lines.Lines.{Lines}
use Rattle.one_bit.specs.declared.lines.Place.TheVariants.{Out}
use Rattle.one_bit.specs.Rule.{board, station, shown}
use Rattle.one_bit.proofs.lines.Lines.station.Goals as goal

tells : (l : Lines) (b : ℕ) (r s : Result Board Refusal) → r ≡ s → r ≡ asked l.table b (board Low Out) → through (λ x. station x.place) s ≡ told (shown l) b
tells l b r s e h = ap (through (λ x. station x.place)) (sym e ∙ h) ∙ sym (told_through (λ x. station x.place) l.table b (board Low Out))

pub returns-in_err-own : goal.returns-in_err-own
returns-in_err-own c =
    let p = err_from_is_err_and c.from_residual.result c.from_residual.ensures.1 in
    p.1 ∙ ap Err p.2 ∙ tells c.args.self.now c.args.board c.record.result _ c.in_err-own.was (c.record.ensures (board Low Out))

pub returns : goal.returns
returns c =
    ap Ok c.from.ensures
    ∙ tells c.args.self.now c.args.board c.record.result _ c.in_ok-own.was (c.record.ensures (board Low Out))
