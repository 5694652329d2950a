-- The calls of a run on a new analyser are its whole history.
use Rattle.std.proofs.Common.{◌≡◌, [], map, reverse, is_ok, sym, ap, ◌∙◌, subst}
use Rattle.std.proofs.lemmas.List.{append-nil}
use Rattle.std.proofs.lemmas.Bool.{true≢false}
use Rattle.service.specs.History.{answer_of, panel_of}
use Rattle.service.specs.Law.{Lawful}
use Rattle.service.specs.Rule.{new_view}
use Rattle.service.specs.Runs.{replies, grown, painted_all}
use Rattle.service.proofs.Grown.{grown_panel, grown_replies, replies_events}
use Rattle.runs.specs.Runs.{filled, numbered, readings}
use Rattle.analyser.specs.Service.{queued}
use Rattle.runs.proofs.serve.Goals as goal

pub returns : goal.returns
returns g c =
    let W = queued g.L.Lock in let full = g.I.Interpolator.FULL_SCALE in let n = c.args.list.boards in let es = c.args.events.now in
    let made = c.put_into_service-analyser.ensures in let ran = c.in_ok-run.ensures in
    let v = new_view W full n in let calls = replies W full v es in
    let comes = made.leads.comes in
    let A = c.args.answers.now in let R = c.args.readings.now in
    let whole : grown W full v [] es ≡ reverse calls = grown_replies W full v [] es ∙ append-nil (reverse calls) in
    record {
      result = ap is_ok ran.result;
      law = record {
        calls = calls;
        events = replies_events W full v es;
        answers = ran.answers ∙ ap (λ w. filled A.places.now A.len (numbered 0 (map answer_of (replies W full w es)))) comes;
        shown = ran.readings ∙ ap (λ w. filled R.places.now R.len (readings 0 (replies W full w es))) comes;
        panel = ran.panel ∙ ap (λ w. painted_all c.put_into_service-analyser.result.panel (replies W full w es)) comes ∙ ap (λ p. painted_all p calls) made.panel
            ∙ sym (grown_panel W full v [] es) ∙ ap panel_of whole;
        lawful = subst (Lawful n.count full _) whole (made.law es);
      };
      leads = (ran.law n [] made.leads).0;
      answers = λ not_so. absurd (true≢false not_so);
      answers_lender = ran.answers_lender;
      readings = λ not_so. absurd (true≢false not_so);
      readings_lender = ran.readings_lender;
    }
