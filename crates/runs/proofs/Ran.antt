-- A run carries the law on.
use Rattle.std.proofs.Common.{◌≡◌, List, sym, refl, ap, ◌∙◌}
use Rattle.interpolator.specs.declared.Interpolator as interpolator
use Rattle.service.specs.declared.event.Event.{Event}
use Rattle.service.specs.Rule.{Lockwork, trace}
use Rattle.service.specs.Runs.{replies, after_all, grown, painted_all}
use Rattle.service.proofs.Grown.{grown_given, grown_trace, grown_panel}
use Rattle.service.proofs.Reached.{Keeps}
use Rattle.analyser.specs.declared.state.Analyser.{Analyser}
use Rattle.analyser.specs.Service.{view, Leads}
use Rattle.analyser.proofs.Carried.{by_law}
use Rattle.runs.specs.Runs.{Ran}

module _ {Q S I : Type 0} (W : Lockwork S) (state : Q → S) (P : interpolator.Ghosts I) (K : Keeps W) where
  pub run_carries : (a c : Analyser Q I) (es : List Event) → view state P c ≡ after_all W P.FULL_SCALE (view state P a) es
      → c.panel ≡ painted_all a.panel (replies W P.FULL_SCALE (view state P a) es) → Ran W state P a es c
  run_carries a c es e paints n h ld =
      let v = trace W P.FULL_SCALE n h in
      let next : Leads W state P n (grown W P.FULL_SCALE v h es) c = record {
        comes = e ∙ ap (λ w. after_all W P.FULL_SCALE w es) ld.comes ∙ sym (grown_trace W P.FULL_SCALE n h v es refl);
        answers = grown_given W P.FULL_SCALE n h v es refl ld.answers;
      } in (
        next,
        by_law W state P K n (grown W P.FULL_SCALE v h es) c next,
        λ p. paints ∙ ap (λ w. painted_all a.panel (replies W P.FULL_SCALE w es)) ld.comes ∙ ap (λ q. painted_all q (replies W P.FULL_SCALE v es)) p ∙ sym (grown_panel W P.FULL_SCALE v h es),
      )
