-- A run over a list of events: the two lists that it fills, and the law that it carries on.
use Rattle.std.specs.Prelude.{◌≡◌, ℕ, ◌+◌, cond, ◌||◌, List, [], ◌∷◌, ◌++◌, map, reverse, Some, None, Ok, Err, Option, Result, nat_lt, slice_set}
use Rattle.filling.specs.declared.refusal.Refusal.{Refusal}
use Rattle.filling.specs.declared.refusal.Refusal.TheVariants.{NoFreePlace}
use Rattle.filling.specs.declared.stamped.Stamped.{Stamped}
use Rattle.filling.specs.Stamps.{stamp}
use Rattle.interpolator.specs.declared.Interpolator as interpolator
use Rattle.lock.specs.declared.boards.Boards.{Boards}
use Rattle.panel.specs.declared.display.Panel.{Panel}
use Rattle.panel.specs.declared.reading.Reading.{Reading}
use Rattle.service.specs.declared.answer.Answer.{Answer}
use Rattle.service.specs.declared.event.Event.{Event}
use Rattle.service.specs.History.{Entry, History, event_of, answer_of, reading_of, panel_of}
use Rattle.service.specs.Law.{Lawful}
use Rattle.service.specs.Rule.{Lockwork, trace}
use Rattle.service.specs.Runs.{grown}
use Rattle.analyser.specs.declared.state.Analyser.{Analyser}
use Rattle.analyser.specs.Service.{Leads, showing}

-- too few places are free, in a list or in another, for so many events
abbrev pub run_answer : ℕ → ℕ → ℕ → Result Unit Refusal
run_answer free free' events = cond (nat_lt free events || nat_lt free' events) (Err NoFreePlace) (Ok tt)

-- records with their places, the first of which is i
abbrev pub numbered : {X : Type 0} → ℕ → List X → List (Stamped X)
numbered i [] = []
numbered i (x ∷ xs) = stamp i x ∷ numbered (i + 1) xs

-- the readings that calls put on the panel, each with the place of its call; the first call has place i
abbrev pub stamp_some : ℕ → Option Reading → List (Stamped Reading)
stamp_some i None = []
stamp_some i (Some r) = stamp i r ∷ []

abbrev pub readings : ℕ → List Entry → List (Stamped Reading)
readings i [] = []
readings i (x ∷ xs) = stamp_some i (reading_of x) ++ readings (i + 1) xs

-- the places xs, the first n of them filled before, once the records ys have come
abbrev pub filled : {X : Type 0} → List X → ℕ → List X → List X
filled xs n [] = xs
filled xs n (y ∷ ys) = filled (slice_set xs n y) (n + 1) ys

-- the events es took a to c: they belong to the history from now on, the whole history is lawful, and the panel is the one that it gives
abbrev pub Ran : {Q S I : Type 0} → Lockwork S → (Q → S) → interpolator.Ghosts I → Analyser Q I → List Event → Analyser Q I → Type 0
Ran W state P a es c = (n : Boards) (h : History) → Leads W state P n h a
    → Leads W state P n (grown W P.FULL_SCALE (trace W P.FULL_SCALE n h) h es) c
    × Lawful n.count P.FULL_SCALE (showing W n.count) (grown W P.FULL_SCALE (trace W P.FULL_SCALE n h) h es)
    × (a.panel ≡ panel_of h → c.panel ≡ panel_of (grown W P.FULL_SCALE (trace W P.FULL_SCALE n h) h es))

-- The events es were put to a new analyser of n boards. There are calls, in order, with exactly these events, whose answers and readings
-- were filled into the two lists, each with its place; the panel is the one that they give; and their history is lawful.
pub record Served (n full within : ℕ) (es : List Event) (xs : List (Stamped Answer)) (k : ℕ) (xs' : List (Stamped Answer)) (ys : List (Stamped Reading)) (m : ℕ)
    (ys' : List (Stamped Reading)) (p : Panel) : Type 0 where
  pub calls : List Entry
  pub events : map event_of calls ≡ es
  pub answers : xs' ≡ filled xs k (numbered 0 (map answer_of calls))
  pub shown : ys' ≡ filled ys m (readings 0 calls)
  pub panel : p ≡ panel_of (reverse calls)
  pub lawful : Lawful n full within (reverse calls)
