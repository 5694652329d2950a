-- One turn of a run: from what is left at place i to what is left at the next.
use Rattle.std.proofs.Common.{◌≡◌, ℕ, ◌+◌, ◌<◌, ◌≤◌, Bool, true, false, cond, ltb, List, ◌∷◌, ◌++◌, map, length, get_or, drop, set, Some, None, Ok, Err, Option, Result, sym, refl, ap, ◌∙◌, arith}
use Rattle.std.proofs.lemmas.List.{at_drop_more}
use Rattle.std.proofs.lemmas.Bool.{ltb-false, le-ltb}
use Rattle.filling.specs.declared.refusal.Refusal.{Refusal}
use Rattle.filling.specs.declared.refusal.Refusal.TheVariants.{NoFreePlace}
use Rattle.filling.specs.declared.stamped.Stamped.{Stamped}
use Rattle.filling.specs.Lists.{push_answered, slice_after, count_after}
use Rattle.filling.specs.Stamps.{stamp}
use Rattle.panel.specs.declared.display.Panel.{Panel}
use Rattle.panel.specs.declared.reading.Reading.{Reading}
use Rattle.service.specs.declared.answer.Answer.{Answer}
use Rattle.service.specs.declared.event.Event.{Event}
use Rattle.service.specs.History.{answer_of, reading_of, painted}
use Rattle.service.specs.Rule.{Lockwork, View}
use Rattle.service.specs.Runs.{reply, next, replies, after_all, painted_all}
use Rattle.runs.specs.Runs.{run_answer, numbered, stamp_some, readings, filled}

-- a record that was accepted stands in the first free place; one is refused only where none is free
pub pushed : {X : Type 0} (xs : List X) (n : ℕ) (x : X) → ◌≡◌ {A = Result Unit Refusal} (Ok tt) (push_answered xs n) → (slice_after xs n x ≡ set xs n x) × (count_after xs n ≡ n + 1)
pushed xs n x e = go (ltb n (length xs)) e
  where
    go : (k : Bool) → ◌≡◌ {A = Result Unit Refusal} (Ok tt) (cond k (Ok tt) (Err NoFreePlace)) → (cond k (set xs n x) xs ≡ set xs n x) × (cond k (n + 1) n ≡ n + 1)
    go true q = (refl, refl)
    go false q = let z : ◌≡◌ {A = ℕ} 0 1 = cc in absurd (omega arith)

pub none_free : {X : Type 0} (xs : List X) (n : ℕ) (r : Refusal) → ◌≡◌ {A = Result Unit Refusal} (Err r) (push_answered xs n) → length xs ≤ n
none_free xs n r e = ltb-false n (length xs) (go (ltb n (length xs)) e)
  where
    go : (k : Bool) → ◌≡◌ {A = Result Unit Refusal} (Err r) (cond k (Ok tt) (Err NoFreePlace)) → k ≡ false
    go true q = let z : ◌≡◌ {A = ℕ} 0 1 = cc in absurd (omega arith)
    go false q = refl

-- with enough free places in both lists a run is accepted
pub enough : (free free' events : ℕ) → events ≤ free → events ≤ free' → Ok tt ≡ run_answer free free' events
enough free free' events p q = let a = le-ltb free events p in let b = le-ltb free' events q in rw (a, b)

module _ {S : Type 0} (W : Lockwork S) (full : ℕ) (v v' : View S) (xs : List Event) (i : ℕ) (d : Event) (lt : i < length xs) (e : v' ≡ next W full v (get_or xs i d)) where
  abbrev x : Event
  x = get_or xs i d

  abbrev rest : List Event
  rest = drop (i + 1) xs

  pub after_again : (z : View S) → after_all W full v (drop i xs) ≡ z → after_all W full v' rest ≡ z
  after_again z h = ap (λ w. after_all W full w rest) e ∙ sym (at_drop_more (after_all W full v) xs i d lt) ∙ h

  pub panel_again : (p p' z : Panel) → p' ≡ painted p (reading_of (reply W full v x)) → painted_all p (replies W full v (drop i xs)) ≡ z → painted_all p' (replies W full v' rest) ≡ z
  panel_again p p' z ep h =
      ap (λ w. painted_all p' (replies W full w rest)) e ∙ ap (λ q. painted_all q (replies W full (next W full v x) rest)) ep
      ∙ sym (at_drop_more (λ ys. painted_all p (replies W full v ys)) xs i d lt) ∙ h

  pub answers_again : (ps qs : List (Stamped Answer)) (n k : ℕ) (a : Answer) (z : List (Stamped Answer)) → a ≡ answer_of (reply W full v x) → qs ≡ set ps n (stamp i a) → k ≡ n + 1
      → filled ps n (numbered i (map answer_of (replies W full v (drop i xs)))) ≡ z → filled qs k (numbered (i + 1) (map answer_of (replies W full v' rest))) ≡ z
  answers_again ps qs n k a z ea eq ek h =
      ap (λ y. filled qs y (numbered (i + 1) (map answer_of (replies W full v' rest)))) ek
      ∙ ap (λ y. filled y (n + 1) (numbered (i + 1) (map answer_of (replies W full v' rest)))) eq
      ∙ ap (λ y. filled (set ps n (stamp i y)) (n + 1) (numbered (i + 1) (map answer_of (replies W full v' rest)))) ea
      ∙ ap (λ w. filled (set ps n (stamp i (answer_of (reply W full v x)))) (n + 1) (numbered (i + 1) (map answer_of (replies W full w rest)))) e
      ∙ sym (at_drop_more (λ ys. filled ps n (numbered i (map answer_of (replies W full v ys)))) xs i d lt) ∙ h

  readings_more : (o : Option Reading) → o ≡ reading_of (reply W full v x) → readings i (replies W full v (drop i xs)) ≡ stamp_some i o ++ readings (i + 1) (replies W full v' rest)
  readings_more o eo =
      at_drop_more (λ ys. readings i (replies W full v ys)) xs i d lt
      ∙ ap (λ y. stamp_some i y ++ readings (i + 1) (replies W full (next W full v x) rest)) (sym eo)
      ∙ ap (λ w. stamp_some i o ++ readings (i + 1) (replies W full w rest)) (sym e)

  pub readings_none : (o : Option Reading) → o ≡ reading_of (reply W full v x) → o ≡ None → readings i (replies W full v (drop i xs)) ≡ readings (i + 1) (replies W full v' rest)
  readings_none o eo en = readings_more o eo ∙ ap (λ y. stamp_some i y ++ readings (i + 1) (replies W full v' rest)) en

  pub readings_some : (o : Option Reading) (r : Reading) → o ≡ reading_of (reply W full v x) → o ≡ Some r → readings i (replies W full v (drop i xs)) ≡ stamp i r ∷ readings (i + 1) (replies W full v' rest)
  readings_some o r eo en = readings_more o eo ∙ ap (λ y. stamp_some i y ++ readings (i + 1) (replies W full v' rest)) en

pub filled_one : {X : Type 0} (ps qs : List X) (n k : ℕ) (y : X) (ys : List X) → qs ≡ set ps n y → k ≡ n + 1 → filled qs k ys ≡ filled ps n (y ∷ ys)
filled_one ps qs n k y ys eq ek = ap (λ x. filled qs x ys) ek ∙ ap (λ x. filled x (n + 1) ys) eq
