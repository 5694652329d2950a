-- A history to which events are added by the rule.
use Rattle.std.proofs.Common.{◌≡◌, ℕ, List, [], ◌∷◌, ◌++◌, map, reverse, Some, None, Option, sym, refl, ap, ◌∙◌, subst}
use Rattle.std.proofs.lemmas.List.{reverse-append, append_assoc}
use Rattle.lock.specs.declared.boards.Boards.{Boards}
use Rattle.panel.specs.declared.display.Panel.{Panel}
use Rattle.panel.specs.declared.reading.Reading.{Reading}
use Rattle.service.specs.declared.event.Event.{Event}
use Rattle.service.specs.declared.event.Event.TheVariants.{Ask, Step, Pull}
use Rattle.service.specs.History.{History, event_of, reading_of, painted, panel_of, later, last_shown}
use Rattle.service.specs.Rule.{Lockwork, View, trace, Given}
use Rattle.service.specs.Runs.{reply, next, replies, after_all, grown, painted_all}

module _ {S : Type 0} (W : Lockwork S) (full : ℕ) where
  given_reply : (n : Boards) (h : History) (e : Event) → Given W full n h → Given W full n (reply W full (trace W full n h) e ∷ h)
  given_reply n h (Ask b m k) g = (refl, g)
  given_reply n h (Step b bit) g = (refl, g)
  given_reply n h (Pull b) g = (refl, g)

  trace_reply : (n : Boards) (h : History) (e : Event) → trace W full n (reply W full (trace W full n h) e ∷ h) ≡ next W full (trace W full n h) e
  trace_reply n h (Ask b m k) = refl
  trace_reply n h (Step b bit) = refl
  trace_reply n h (Pull b) = refl

  event_reply : (v : View S) (e : Event) → event_of (reply W full v e) ≡ e
  event_reply v (Ask b m k) = refl
  event_reply v (Step b bit) = refl
  event_reply v (Pull b) = refl

  -- the answers of a grown history are those of the rule, and it leads where the events lead
  pub grown_given : (n : Boards) (h : History) (v : View S) (es : List Event) → v ≡ trace W full n h → Given W full n h → Given W full n (grown W full v h es)
  grown_given n h v [] e g = g
  grown_given n h v (x ∷ es) e g =
      subst (λ w. Given W full n (grown W full (next W full w x) (reply W full w x ∷ h) es)) (sym e)
      (grown_given n (reply W full (trace W full n h) x ∷ h) (next W full (trace W full n h) x) es (sym (trace_reply n h x)) (given_reply n h x g))

  pub grown_trace : (n : Boards) (h : History) (v : View S) (es : List Event) → v ≡ trace W full n h → trace W full n (grown W full v h es) ≡ after_all W full v es
  grown_trace n h v [] e = sym e
  grown_trace n h v (x ∷ es) e =
      subst (λ w. trace W full n (grown W full (next W full w x) (reply W full w x ∷ h) es) ≡ after_all W full (next W full w x) es) (sym e)
      (grown_trace n (reply W full (trace W full n h) x ∷ h) (next W full (trace W full n h) x) es (sym (trace_reply n h x)))

  pub grown_panel : (v : View S) (h : History) (es : List Event) → panel_of (grown W full v h es) ≡ painted_all (panel_of h) (replies W full v es)
  grown_panel v h [] = refl
  grown_panel v h (x ∷ es) = grown_panel (next W full v x) (reply W full v x ∷ h) es

  -- it is the replies, newest first, and their events are those that were added
  pub grown_replies : (v : View S) (h : History) (es : List Event) → grown W full v h es ≡ reverse (replies W full v es) ++ h
  grown_replies v h [] = refl
  grown_replies v h (x ∷ es) =
      let r = reply W full v x in let rs = replies W full (next W full v x) es in
      grown_replies (next W full v x) (r ∷ h) es ∙ sym (ap (λ ys. ys ++ h) (reverse-append (r ∷ []) rs) ∙ append_assoc (reverse rs) (r ∷ []) h)

  pub replies_events : (v : View S) (es : List Event) → map event_of (replies W full v es) ≡ es
  replies_events v [] = refl
  replies_events v (x ∷ es) = ap (λ y. y ∷ map event_of (replies W full (next W full v x) es)) (event_reply v x) ∙ ap (λ ys. x ∷ ys) (replies_events (next W full v x) es)

-- what the panel shows is the reading of the last answer 4
painted_last : (p : Panel) (o : Option Reading) → (painted p o).last ≡ later o p.last
painted_last p None = refl
painted_last p (Some r) = refl

pub panel_last : (h : History) → (panel_of h).last ≡ last_shown h
panel_last [] = refl
panel_last (x ∷ h) = painted_last (panel_of h) (reading_of x) ∙ ap (later (reading_of x)) (panel_last h)
