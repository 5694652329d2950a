-- A list of events, by the rule: each is answered in turn.
use Rattle.std.specs.Prelude.{ℕ, List, [], ◌∷◌}
use Rattle.panel.specs.declared.display.Panel.{Panel}
use Rattle.service.specs.declared.event.Event.{Event}
use Rattle.service.specs.declared.event.Event.TheVariants.{Ask, Step, Pull}
use Rattle.service.specs.History.{Entry, Asked, Stepped, Pulled, History, reading_of, painted}
use Rattle.service.specs.Rule.{Lockwork, View, ask_answer, ask_leaves, step_answer, step_leaves, pull_answer, pull_leaves}

module _ {S : Type 0} (W : Lockwork S) (full : ℕ) where
  -- one event with its answer, and what it leaves
  abbrev pub reply : View S → Event → Entry
  reply v (Ask b m k) = Asked b m k (ask_answer W full v b m k)
  reply v (Step b bit) = Stepped b bit (step_answer W full v b bit)
  reply v (Pull b) = Pulled b (pull_answer W full v b)

  abbrev pub next : View S → Event → View S
  next v (Ask b m k) = ask_leaves W full v b m k (ask_answer W full v b m k)
  next v (Step b bit) = step_leaves W full v b bit
  next v (Pull b) = pull_leaves W full v b (pull_answer W full v b)

  -- the events in order, with their answers, and what they leave
  abbrev pub replies : View S → List Event → List Entry
  replies v [] = []
  replies v (e ∷ es) = reply v e ∷ replies (next v e) es

  abbrev pub after_all : View S → List Event → View S
  after_all v [] = v
  after_all v (e ∷ es) = after_all (next v e) es

  -- the history h with these events added, newest first
  abbrev pub grown : View S → History → List Event → History
  grown v h [] = h
  grown v h (e ∷ es) = grown (next v e) (reply v e ∷ h) es

-- the panel after calls in order
abbrev pub painted_all : Panel → List Entry → Panel
painted_all p [] = p
painted_all p (x ∷ xs) = painted_all (painted p (reading_of x)) xs
