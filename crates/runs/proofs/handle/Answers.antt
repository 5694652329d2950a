-- Each event is one call.
use Rattle.std.proofs.Common.{sym}
use Rattle.service.specs.History.{Asked, Stepped, Pulled}
use Rattle.runs.proofs.handle.Goals as goal

pub returns-in-Ask-clause-law : goal.returns-in-Ask-clause-law
returns-in-Ask-clause-law g c = record {
  call = Asked c.in-Ask.board c.in-Ask.start c.in-Ask.stop c.ask.result;
  event = sym c.in-Ask.is;
  answer = sym c.of_ask.ensures;
  law = c.ask.ensures.law;
}

pub returns-in-Step-clause-law : goal.returns-in-Step-clause-law
returns-in-Step-clause-law g c = record {
  call = Stepped c.in-Step.board c.in-Step.bit c.step-told.result;
  event = sym c.in-Step.is;
  answer = sym c.of_step.ensures;
  law = c.step-told.ensures.law;
}

pub returns-in-Pull-clause-law : goal.returns-in-Pull-clause-law
returns-in-Pull-clause-law g c = record {
  call = Pulled c.in-Pull.board c.pull.result;
  event = sym c.in-Pull.is;
  answer = sym c.of_pull.ensures;
  law = c.pull.ensures.law;
}
