-- Each turn answers one event.
use Rattle.std.proofs.Common.{◌+◌, map, length, drop, set, sym, ap, ◌∙◌, arith}
use Rattle.std.proofs.lemmas.List.{drop_all, length-set}
use Rattle.filling.specs.Lists.{free_places}
use Rattle.service.specs.declared.event.Event.TheVariants.{Ask}
use Rattle.service.specs.History.{answer_of}
use Rattle.service.specs.Rule.{lockwork}
use Rattle.service.specs.Runs.{after_all, painted_all, replies}
use Rattle.runs.specs.Runs.{filled, numbered, readings}
use Rattle.analyser.specs.Service.{view}
use Rattle.analyser.proofs.Carried.{keeps}
use Rattle.runs.proofs.Ran.{run_carries}
use Rattle.runs.proofs.Turns.{enough, pushed, none_free, after_again, panel_again, answers_again, readings_none, readings_some, filled_one}
use Rattle.runs.proofs.run.Goals as goal
use Rattle.runs.proofs.run.Goals.{in-Some+in_ok-push-2, in_default}

pub loop-place-preserved : goal.loop-place-preserved
loop-place-preserved g c =
    let W = lockwork g.Q.Lock g.Q.Ordered in let full = g.I.Interpolator.FULL_SCALE in
    let see = view g.Q.Lock.state g.I.Interpolator in
    let v = see c.loop-place.analyser in let v' = see c.handle-reply.new.analyser in
    let xs = c.args.events.now in let i = c.loop-place.place in let lt = c.loop-place-test.true in
    let inv = c.loop-place.invariant in let did = c.handle-reply.ensures in
    let A = c.loop-place.answers in let R = c.loop-place.readings in
    let put = c.in_ok-push.ensures in
    let p = pushed A.places.now A.len c.new.result put.answers in
    let at_place = put.places ∙ p.0 in
    let one_more = put.len ∙ p.1 in
    let l0 = after_again W full v v' xs i (Ask 0 0 0) lt did.leaves _ inv.0 in
    let l1 = panel_again W full v v' xs i (Ask 0 0 0) lt did.leaves c.loop-place.analyser.panel c.handle-reply.new.analyser.panel _ did.panel inv.1 in
    let l2 = answers_again W full v v' xs i (Ask 0 0 0) lt did.leaves A.places.now c.push.new.self.places.now A.len c.push.new.self.len c.handle-reply.result.answer _
    did.answer (at_place ∙ ap (set A.places.now A.len) c.new.ensures) one_more inv.2 in
    let l4 = ap length at_place ∙ length-set _ _ _ ∙ inv.4 in
    let l9 = put.lender ∙ inv.9 in
    let left = readings (i + 1) (replies W full v' (drop (i + 1) xs)) in
    let o = c.handle-reply.result.shown in
    elim c.match-reply.branch [
      | in-Some+in_ok-push-2 w ↦
          let put₂ = w.in_ok-push-2.ensures in
          let q = pushed R.places.now R.len w.new-in-Some.result put₂.answers in
          let at_place₂ = put₂.places ∙ q.0 ∙ ap (set R.places.now R.len) w.new-in-Some.ensures in
          let one_more₂ = put₂.len ∙ q.1 in
          let more = readings_some W full v v' xs i (Ask 0 0 0) lt did.leaves o w.in-Some.reading did.shown w.in-Some.is in
          let e = w.readings-is in (
            l0,
            l1,
            l2,
            omega (arith, one_more, inv.3),
            l4,
            ap (λ s. filled s.places.now s.len left) e ∙ filled_one R.places.now _ R.len _ _ left at_place₂ one_more₂ ∙ ap (filled R.places.now R.len) (sym more) ∙ inv.5,
            omega (arith, ap (λ s. s.len) e, ap length more, one_more₂, inv.6),
            omega (arith, ap (λ s. s.len) e, one_more₂, inv.7),
            ap (λ s. length s.places.now) e ∙ ap length at_place₂ ∙ length-set _ _ _ ∙ inv.8,
            l9,
            ap (λ s. s.places.ghost_name) e ∙ put₂.lender ∙ inv.10,
          )
      | in_default w ↦
          let none = readings_none W full v v' xs i (Ask 0 0 0) lt did.leaves o did.shown w.in_default.is in
          let e = w.readings-is in (
            l0,
            l1,
            l2,
            omega (arith, one_more, inv.3),
            l4,
            ap (λ s. filled s.places.now s.len left) e ∙ ap (filled R.places.now R.len) (sym none) ∙ inv.5,
            omega (arith, ap (λ s. s.len) e, ap length none, inv.6),
            omega (arith, ap (λ s. s.len) e, inv.7),
            ap (λ s. length s.places.now) e ∙ inv.8,
            l9,
            ap (λ s. s.places.ghost_name) e ∙ inv.10,
          )
    ]

pub returns-in_err-push : goal.returns-in_err-push
returns-in_err-push g c =
    let inv = c.loop-place.invariant in let A = c.loop-place.answers in
    let full = none_free A.places.now A.len _ c.in_err-push.ensures.answers in
    absurd (omega (arith, full, inv.3, inv.4))

pub returns-in_err-push-2 : goal.returns-in_err-push-2
returns-in_err-push-2 g c =
    let inv = c.loop-place.invariant in let R = c.loop-place.readings in
    let full = none_free R.places.now R.len _ c.in_err-push-2.ensures.answers in
    absurd (omega (arith, full, inv.7, inv.8))

pub returns : goal.returns
returns g c =
    let M = g.met.Q.Lock in let O = g.met.Q.Ordered in
    let K = keeps g.Q.Lock g.Q.Ordered M.begins M.moves M.excludes M.enters O.tries O.doorways O.order in
    let W = lockwork g.Q.Lock g.Q.Ordered in let P = g.I.Interpolator in
    let v = view g.Q.Lock.state P c.loop-place.analyser in
    let es = c.args.events.now in let i = c.loop-place.place in
    let inv = c.loop-place.invariant in
    let none = drop_all i es c.loop-place-test.false in
    let leaves = ap (after_all W P.FULL_SCALE v) (sym none) ∙ inv.0 in
    let paints = ap (λ ys. painted_all c.loop-place.analyser.panel (replies W P.FULL_SCALE v ys)) (sym none) ∙ inv.1 in
    let A = c.loop-place.answers in let R = c.loop-place.readings in
    record {
      result = enough (free_places c.args.answers.now.places.now c.args.answers.now.len) (free_places c.args.readings.now.places.now c.args.readings.now.len) (length es)
          (omega arith) (omega arith);
      leaves = leaves;
      panel = paints;
      answers = ap (λ ys. filled A.places.now A.len (numbered i (map answer_of (replies W P.FULL_SCALE v ys)))) (sym none) ∙ inv.2;
      answers_len = omega (arith, inv.3);
      answers_lender = inv.9;
      readings = ap (λ ys. filled R.places.now R.len (readings i (replies W P.FULL_SCALE v ys))) (sym none) ∙ inv.5;
      readings_len = let k = ap (λ ys. length (readings i (replies W P.FULL_SCALE v ys))) none in omega (arith, inv.6, k);
      readings_lender = inv.10;
      law = run_carries W g.Q.Lock.state P K c.args.analyser.now c.loop-place.analyser es leaves paints;
    }
