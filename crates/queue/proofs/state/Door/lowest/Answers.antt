-- The lowest noted board is the one at the first place that is noted.
use Rattle.std.proofs.Common.{◌≡◌, ℕ, ◌+◌, Bool, true, false, List, [], ◌∷◌, Some, None, Option, refl, sym, ap, ◌∙◌, rules, tests}
use Rattle.std.specs.List.{position_from}
use Rattle.std.specs.Option.{option_map}
use Rattle.std.proofs.lemmas.Iterator.{YieldsList-from_slice}
use Rattle.std.proofs.lemmas.Iterator.Adapters.{position_from-zero}
use Rattle.std.proofs.lemmas.Iterator.Search.{position_from_yields_List}
use Rattle.queue.specs.Rule.{lowest, lowest_from}
use Rattle.queue.proofs.state.Door.lowest.Goals as goal

lowest_at : (k : ℕ) (notes : List Bool) → option_map (λ i. i + 1) (position_from (λ t. t) k notes) ≡ lowest_from (k + 1) notes
lowest_at k [] = refl
lowest_at k (true ∷ notes) = refl
lowest_at k (false ∷ notes) = lowest_at (k + 1) notes

-- what `position` finds, a place further
place_found : (notes : List Bool) (found : Option ℕ) → found ≡ position_from (λ t. t) 0 notes → option_map (λ i. i + 1) found ≡ lowest notes
place_found notes found e = ap (option_map (λ i. i + 1)) e ∙ lowest_at 0 notes

pub returns-in_err-place : goal.returns-in_err-place
returns-in_err-place c =
    let found =
    position_from_yields_List (λ t. t) _ _ c.position.result c.position.ensures.ran (YieldsList-from_slice c.args.self.notes cc) (λ x b q k. search (rules, tests))
    ∙ position_from-zero (λ t. t) c.args.self.notes in
    c.from_residual.ensures ∙ place_found c.args.self.notes None (sym c.in_err-place.was ∙ found)

pub returns : goal.returns
returns c =
    let found =
    position_from_yields_List (λ t. t) _ _ c.position.result c.position.ensures.ran (YieldsList-from_slice c.args.self.notes cc) (λ x b q k. search (rules, tests))
    ∙ position_from-zero (λ t. t) c.args.self.notes in
    place_found c.args.self.notes (Some c.in_ok-place.place) (sym c.in_ok-place.was ∙ found)
