-- One event, and its answer.
use Rattle.std.specs.Prelude.{◌≡◌, Bool, false}
use Rattle.interpolator.specs.declared.Interpolator as interpolator
use Rattle.service.specs.declared.answer.Answer.{Answer}
use Rattle.service.specs.declared.event.Event.{Event}
use Rattle.service.specs.declared.event.Event.TheVariants.{Ask, Step, Pull}
use Rattle.service.specs.History.{Entry, event_of, answer_of}
use Rattle.service.specs.Rule.{Lockwork, View}
use Rattle.analyser.specs.declared.state.Analyser.{Analyser}
use Rattle.analyser.specs.Service.{Carries, puts}

-- one call has this event and this answer, and took a to c: it carries the law on
pub record Performed {Q S I : Type 0} (W : Lockwork S) (state : Q → S) (P : interpolator.Ghosts I) (a : Analyser Q I) (e : Event) (r : Answer) (c : Analyser Q I) : Type 0 where
  pub call : Entry
  pub event : event_of call ≡ e
  pub answer : answer_of call ≡ r
  pub law : Carries W state P a call c

-- the event puts a count into the interpolator: it is a step of a board whose next step inside does
abbrev pub puts_by : {S : Type 0} → View S → Event → Bool
puts_by v (Ask b m k) = false
puts_by v (Step b bit) = puts v b
puts_by v (Pull b) = false
