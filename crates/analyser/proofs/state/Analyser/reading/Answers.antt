-- The panel after a history shows the reading of the last answer 4.
use Rattle.std.proofs.Common.{ap, ◌∙◌}
use Rattle.service.proofs.Grown.{panel_last}
use Rattle.analyser.proofs.state.Analyser.reading.Goals as goal

pub returns-clause-law : goal.returns-clause-law
returns-clause-law g c = λ h e. c.reading.ensures ∙ ap (λ p. p.last) e ∙ panel_last h
