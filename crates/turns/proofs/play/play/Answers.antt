-- A turn adds the row of the next call; at the end none is still to come.
use Rattle.std.proofs.Common.{◌++◌, vec_items, sym, ap, ◌∙◌, append-nil}
use Rattle.std.proofs.lemmas.List.{drop_all}
use Rattle.std.proofs.lemmas.Result.{err_from_is_err_and}
use Rattle.turns.specs.Rows.{rows_of}
use Rattle.turns.proofs.Played.{one_more, one_inside}
use Rattle.turns.proofs.play.play.Goals as goal

pub loop-call-init : goal.loop-call-init
loop-call-init c = ap (λ xs. xs ++ rows_of c.new-lock.result.lines c.args.calls.now) c.new-rows.ensures.items

pub loop-call-preserved : goal.loop-call-preserved
loop-call-preserved c =
    one_more c.loop-call.lock.lines c.turn.new.lock.lines c.args.calls.now c.loop-call.call-index
    (vec_items c.loop-call.rows) (vec_items c.push.new.self) _ c.turn.result
    c.loop-call-test.true c.turn.ensures.tells c.turn.ensures.leaves c.in_ok-push.ensures.items c.loop-call.invariant

pub returns-in_err-push : goal.returns-in_err-push
returns-in_err-push c =
    let p = err_from_is_err_and c.from_residual.result c.from_residual.ensures.1 in
    record { tells = rw p.1 tt; excludes = one_inside c.args.boards c.args.calls.now }

pub returns : goal.returns
returns c =
    let left = drop_all c.loop-call.call-index c.args.calls.now c.loop-call-test.false in
    record {
      tells =
          sym (append-nil (vec_items c.loop-call.rows))
          ∙ ap (λ cs. vec_items c.loop-call.rows ++ rows_of c.loop-call.lock.lines cs) (sym left)
          ∙ c.loop-call.invariant
          ∙ ap (λ l. rows_of l c.args.calls.now) c.new-lock.ensures;
      excludes = one_inside c.args.boards c.args.calls.now;
    }
