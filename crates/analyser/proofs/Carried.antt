-- Each call carries the law on.
use Rattle.std.proofs.Common.{◌≡◌, ℕ, ◌+◌, ◌-◌, ◌*◌, Bool, List, [], ◌∷◌, replicate, Ok, Err, Result, refl, ap, ◌∙◌, arith}
use Rattle.interpolator.specs.declared.Interpolator as interpolator
use Rattle.lock.specs.declared.boards.Boards.{Boards}
use Rattle.lock.specs.declared.Lock as lock
use Rattle.lock.specs.declared.Ordered as ordered
use Rattle.lock.specs.Order.{InOrder, WaitsTrying, Doorways}
use Rattle.lock.specs.Runs.{AllOut, CallsMove, Exclusive, EntersWithin}
use Rattle.lock.specs.Most.{most}
use Rattle.panel.specs.declared.display.Panel.{Panel}
use Rattle.service.specs.declared.event.Event.{Event}
use Rattle.service.specs.declared.progress.Progress.{Progress}
use Rattle.service.specs.declared.refusal.Refusal.{Refusal}
use Rattle.service.specs.declared.refusal.Refusal.TheVariants.{NoSuchBoard}
use Rattle.service.specs.History.{Asked, Stepped, Pulled, History, station, set_ahead, step_reading, painted}
use Rattle.service.specs.Law.{Lawful}
use Rattle.service.specs.Records.{blank}
use Rattle.service.specs.Rule.{Lockwork, lockwork, View, new_view, station_told, ahead_told, ask_answer, ask_leaves, step_answer, step_leaves, pull_answer, pull_leaves, trace}
use Rattle.service.specs.Runs.{grown}
use Rattle.service.proofs.Reached.{Keeps}
use Rattle.service.proofs.Answered.{agrees, by_history}
use Rattle.service.proofs.Sets.{told_ahead}
use Rattle.service.proofs.Lawful.{lawful}
use Rattle.service.proofs.Grown.{grown_given}
use Rattle.analyser.specs.declared.state.Analyser.{Analyser}
use Rattle.analyser.specs.declared.state.Desk.{Desk}
use Rattle.analyser.specs.Desks.{none}
use Rattle.analyser.specs.Service.{view, showing, Leads, Carries, Tells}

-- the laws of an ordered lock, together
pub keeps : {Q S : Type 0} (D : lock.Ghosts Q S) (O : ordered.Ghosts Q S) → AllOut D.fresh D.stations → CallsMove D.fresh D.after D.stations
    → Exclusive D.fresh D.after D.stations → EntersWithin D.fresh D.after D.stations D.alone → WaitsTrying D.fresh D.after D.stations O.waits
    → Doorways D.fresh D.after D.stations O.waits → InOrder D.fresh D.after D.stations O.waits → Keeps (lockwork D O)
keeps D O begins moves excludes enters tries doorways order = record {
  begins = begins;
  moves = moves;
  excludes = excludes;
  enters = enters;
  tries = tries;
  doorways = doorways;
  order = order;
}

module _ {Q S I : Type 0} (W : Lockwork S) (state : Q → S) (P : interpolator.Ghosts I) (K : Keeps W) where
  pub by_law : (n : Boards) (h : History) (a : Analyser Q I) → Leads W state P n h a → Lawful n.count P.FULL_SCALE (showing W n.count) h
  by_law n h a k = lawful W P.FULL_SCALE K n h k.answers

  -- every list of events on a new analyser
  pub new_lawful : (n : Boards) (es : List Event) → Lawful n.count P.FULL_SCALE (showing W n.count) (grown W P.FULL_SCALE (new_view W P.FULL_SCALE n) [] es)
  new_lawful n es = lawful W P.FULL_SCALE K n (grown W P.FULL_SCALE (new_view W P.FULL_SCALE n) [] es) (grown_given W P.FULL_SCALE n [] (new_view W P.FULL_SCALE n) es refl tt)

  pub ask_carries : (a c : Analyser Q I) (b m k : ℕ) (r : Result ℕ Refusal)
      → r ≡ ask_answer W P.FULL_SCALE (view state P a) b m k → view state P c ≡ ask_leaves W P.FULL_SCALE (view state P a) b m k r → c.panel ≡ a.panel
      → Carries W state P a (Asked b m k r) c
  ask_carries a c b m k r e e' same n h ld =
      let next : Leads W state P n (Asked b m k r ∷ h) c = record {
        comes = e' ∙ ap (λ v. ask_leaves W P.FULL_SCALE v b m k r) ld.comes;
        answers = (e ∙ ap (λ v. ask_answer W P.FULL_SCALE v b m k) ld.comes, ld.answers);
      } in (next, by_law n (Asked b m k r ∷ h) c next, λ p. same ∙ p)

  pub step_carries : (a c : Analyser Q I) (b : ℕ) (bit : Bool) (r : Result Progress Refusal)
      → r ≡ step_answer W P.FULL_SCALE (view state P a) b bit → view state P c ≡ step_leaves W P.FULL_SCALE (view state P a) b bit
      → c.panel ≡ painted a.panel (step_reading b r) → Carries W state P a (Stepped b bit r) c
  step_carries a c b bit r e e' paints n h ld =
      let next : Leads W state P n (Stepped b bit r ∷ h) c = record {
        comes = e' ∙ ap (λ v. step_leaves W P.FULL_SCALE v b bit) ld.comes;
        answers = (e ∙ ap (λ v. step_answer W P.FULL_SCALE v b bit) ld.comes, ld.answers);
      } in (next, by_law n (Stepped b bit r ∷ h) c next, λ p. paints ∙ ap (λ q. painted q (step_reading b r)) p)

  pub pull_carries : (a c : Analyser Q I) (b : ℕ) (r : Result Unit Refusal)
      → r ≡ pull_answer W P.FULL_SCALE (view state P a) b → view state P c ≡ pull_leaves W P.FULL_SCALE (view state P a) b r → c.panel ≡ a.panel
      → Carries W state P a (Pulled b r) c
  pull_carries a c b r e e' same n h ld =
      let next : Leads W state P n (Pulled b r ∷ h) c = record {
        comes = e' ∙ ap (λ v. pull_leaves W P.FULL_SCALE v b r) ld.comes;
        answers = (e ∙ ap (λ v. pull_answer W P.FULL_SCALE v b) ld.comes, ld.answers);
      } in (next, by_law n (Pulled b r ∷ h) c next, λ p. same ∙ p)

  -- what the questions tell
  pub tells_station : (a : Analyser Q I) (b : ℕ) → Tells W state P a b (λ _ h. station h b) (station_told (view state P a) b)
  tells_station a b n h ld =
      ap (λ v. station_told v b) ld.comes
      ∙ by_history W P.FULL_SCALE K n h (trace W P.FULL_SCALE n h) b (λ s. Ok s) (Err NoSuchBoard) (agrees W P.FULL_SCALE K n h ld.answers)

  pub tells_ahead : (a : Analyser Q I) (b : ℕ) → Tells W state P a b (λ n h. set_ahead n h b) (ahead_told (view state P a) b)
  tells_ahead a b n h ld = ap (λ v. ahead_told v b) ld.comes ∙ told_ahead W P.FULL_SCALE K n h b ld.answers

  pub tells_boards : (a : Analyser Q I) (n : Boards) (h : History) → Leads W state P n h a → a.boards.count ≡ n.count
  tells_boards a n h ld = ap (λ v. v.boards.count) ld.comes ∙ ap (λ m. m.count) (agrees W P.FULL_SCALE K n h ld.answers).boards

module _ {Q S I : Type 0} (W : Lockwork S) (state : Q → S) (P : interpolator.Ghosts I) where
  -- a new analyser is the one that no events lead to
  pub new_leads : (n : Boards) (l : Q) (i : I) (d : Desk) (p : Panel) → state l ≡ W.fresh n → P.start i ≡ 0 → P.stop i ≡ 0
      → d ≡ record { records = replicate most blank; sets = replicate most none } → Leads W state P n [] (record { boards = n; lock = l; interpolator = i; desk = d; panel = p })
  new_leads n l i d p el es et ed = record {
    comes = ap (λ x. seen x (P.start i) (P.stop i) d) el ∙ ap (λ x. seen (W.fresh n) x (P.stop i) d) es ∙ ap (λ x. seen (W.fresh n) 0 x d) et ∙ ap (seen (W.fresh n) 0 0) ed;
    answers = tt;
  }
    where
      seen : S → ℕ → ℕ → Desk → View S
      seen x m k d' = record { boards = n; lock = x; counts = record { start = m; stop = k }; records = d'.records; sets = d'.sets }

-- the steps in which a board that asks alone shows its number over the queue layer, S being that of the lock below
pub over_queue : (n : Boards) (s : ℕ) → 4 * n.count - 1 + s + 5 ≡ 4 * n.count + 4 + s
over_queue n s = let some = n.some in omega arith
