-- A lock that goes by one thing keeps the meaning of a lock, whichever way a trying board takes the thing.
use Rattle.std.specs.Prelude.{◌≡◌, ℕ, ◌+◌, ◌-◌, ◌≤◌, Bool, true, false, cond, ◌⊎◌, length, Some, None, Option, ◌≢◌, refl}
use Rattle.std.proofs.Common.{sym, ap, subst, ◌∙◌, inl, inr, arith}
use Rattle.std.proofs.lemmas.Bool.{cases_eq, cases_Bool, eqb-true, eq-eqb}
use Rattle.std.proofs.lemmas.List.{set-get_or, take-replicate}
use Rattle.lock.specs.declared.boards.Boards.{Boards}
use Rattle.lock.specs.declared.station.Call.{Call}
use Rattle.lock.specs.declared.station.Call.TheVariants.{Start, Step, Leave, Pull}
use Rattle.lock.specs.declared.station.Station.{Station}
use Rattle.lock.specs.declared.station.Station.TheVariants.{Out, Trying, Inside, Leaving}
use Rattle.lock.specs.Most.{most}
use Rattle.lock.specs.Stations.{board, at, with, accepted, Stands, NoneElse, StepsTo, Moves}
use Rattle.lock.specs.Runs.{OthersOut, AllOut, MovesAt, CallsMove, Exclusive, EntersWithin, OutWithin}
use Rattle.lock.proofs.Stations.{out≢inside, trying≢inside, inside≢leaving, true≢false, start_accepted, board_there, accepted_step, stands_with, other_stands, stands_other, replicate_at}
use Rattle.lock.proofs.Tables.{listed_written}
use Rattle.lock.proofs.Local.{Local}
use Rattle.lock.proofs.Local
use Rattle.backplane.specs.declared.plane.Backplane.{Backplane}
use Rattle.backplane.specs.Rule.{fresh, shown, put, with_holder, has, freed, step_at, done, after, Held}
use Rattle.backplane.specs.Taking.{FreeFor, Sound}

one_has : (h : Option ℕ) (i j : ℕ) → has h i ≡ true → has h j ≡ true → i ≡ j
one_has None i j p q = absurd (true≢false false p refl)
one_has (Some k) i j p q = sym (eqb-true k i p) ∙ eqb-true k j q

freed_own : (h : Option ℕ) (b : ℕ) → has (freed h b) b ≡ true → ⊥
freed_own h b k = go (has h b) refl k
  where
    go : (t : Bool) → has h b ≡ t → has (cond t None h) b ≡ true → ⊥
    go true e w = true≢false false w refl
    go false e w = true≢false (has h b) w e

freed_other : (h : Option ℕ) (b j : ℕ) → (j ≢ b) → has (freed h b) j ≡ has h j
freed_other h b j ne = go (has h b) refl
  where
    not_its : (t : Bool) → has h j ≡ t → has h b ≡ true → false ≡ t
    not_its true its own = absurd (ne (one_has h j b its own))
    not_its false its own = refl

    go : (t : Bool) → has h b ≡ t → has (cond t None h) j ≡ has h j
    go true e = not_its (has h j) refl e
    go false e = refl

-- in a new lock nobody is inside, and nobody has the thing
pub fresh_held : (n : Boards) → Held (fresh n)
fresh_held n b h = absurd (out≢inside (sym (ap (λ ss. at ss b) (take-replicate n.count most Out n.few) ∙ replicate_at Out n.count (b - 1)) ∙ h.2))

module _ {tries : Option ℕ → ℕ → Option ℕ} {enters : Option ℕ → ℕ → Bool} {early : Bool} {to_enter : Option ℕ → ℕ → ℕ} {alone : ℕ}
    (sound : Sound tries enters early to_enter alone) where
  -- at which stations a board may have the thing
  abbrev pub May : Station → Type 0
  May Out = ⊥
  May Trying = early ≡ true
  May Inside = Unit {0}
  May Leaving = Unit {0}

  -- a board that has the thing is one of the boards, and where it may have it
  abbrev pub Owned : Backplane → Type 0
  Owned p = (b : ℕ) → has p.holder b ≡ true → (1 ≤ b) × (b ≤ length (shown p)) × May (at (shown p) b)

  -- what holds of every backplane that calls on a new lock lead to
  abbrev pub Good : Boards → Backplane → Type 0
  Good n p = Held p × Owned p

  -- from p to q board b goes to s
  module _ (p q : Backplane) (b : ℕ) (s : Station) (low : 1 ≤ b) (high : b ≤ length (shown p)) (shows : shown q ≡ with (shown p) b s) where
    there : Stands (shown q) b s
    there = subst (λ ss. Stands ss b s) (sym shows) (stands_with (shown p) b s low high)

    -- no other board loses the thing
    module _ (keeps : (j : ℕ) → (j ≢ b) → has p.holder j ≡ true → has q.holder j ≡ true) (held : Held p) where
      still_held : (s ≡ Inside → has q.holder b ≡ true) → Held q
      still_held inside j h =
          elim (cases_eq j b) [
            | inl same ↦ subst (λ i. has q.holder i ≡ true) (sym same) (inside (sym there.2 ∙ ap (at (shown q)) (sym same) ∙ h.2))
            | inr ne ↦ keeps j ne (held j (other_stands (shown p) b j s Inside low ne (subst (λ ss. Stands ss j Inside) shows h)))
          ]

      none_else : has q.holder b ≡ true → NoneElse (shown p) b
      none_else its j ne h = ne (one_has q.holder j b (keeps j ne (held j h)) its)

    -- no other board comes by the thing, and b may have it at s
    still_owned : ((j : ℕ) → (j ≢ b) → has q.holder j ≡ true → has p.holder j ≡ true) → (has q.holder b ≡ true → May s) → Owned p → Owned q
    still_owned back may owned j h =
        elim (cases_eq j b) [
          | inl same ↦ subst (λ i. (1 ≤ i) × (i ≤ length (shown q)) × May (at (shown q) i)) (sym same)
              (there.0, there.1, subst May (sym there.2) (may (subst (λ i. has q.holder i ≡ true) same h)))
          | inr ne ↦
              let w = owned j (back j ne h) in
              let k = subst (λ ss. Stands ss j (at (shown p) j)) (sym shows) (stands_other (shown p) b j s (at (shown p) j) low ne (w.0, w.1, refl)) in
              (k.0, k.1, subst May (sym k.2) w.2)
        ]

  -- from p to q board b goes to s, and every other board has the thing as before
  record Goes (p : Backplane) (b : ℕ) (s : Station) (q : Backplane) : Type 0 where
    shows : shown q ≡ with (shown p) b s
    others : (j : ℕ) → (j ≢ b) → has q.holder j ≡ has p.holder j

  -- board b goes to s or is there, and the holder is h from now on
  module _ (p : Backplane) (h : Option ℕ) (b : ℕ) (s : Station) (others : (j : ℕ) → (j ≢ b) → has h j ≡ has p.holder j) where
    moved : 1 ≤ b → b ≤ length (shown p) → Goes p b s (put (with_holder p h) b s)
    moved low high = record { shows = listed_written p.table b s low high; others = others }

    stayed : at (shown p) b ≡ s → Goes p b s (with_holder p h)
    stayed e = record { shows = sym (set-get_or (shown p) (b - 1) Out) ∙ ap (with (shown p) b) e; others = others }

  -- where the board of an accepted call is after it
  abbrev stepped : Option ℕ → ℕ → Station → Station
  stepped h b Out = Out
  stepped h b Trying = cond (enters h b) Inside Trying
  stepped h b Inside = Inside
  stepped h b Leaving = Out

  abbrev target : Backplane → Call → Station
  target p (Start b) = Trying
  target p (Step b bit) = stepped p.holder b (at (shown p) b)
  target p (Leave b) = Leaving
  target p (Pull b) = Leaving

  tried_goes : (p : Backplane) (b : ℕ) (t : Bool) → enters p.holder b ≡ t → Stands (shown p) b Trying
      → Goes p b (cond t Inside Trying) (cond t (put (with_holder p (tries p.holder b)) b Inside) (with_holder p (tries p.holder b)))
  tried_goes p b true e k = moved p (tries p.holder b) b Inside (sound.spares p.holder b) k.0 k.1
  tried_goes p b false e k = stayed p (tries p.holder b) b Trying (sound.spares p.holder b) k.2

  step_goes : (p : Backplane) (b : ℕ) (s : Station) → Stands (shown p) b s → Goes p b (stepped p.holder b s) (step_at tries enters p b s)
  step_goes p b Out k = stayed p p.holder b Out (λ _ _. refl) k.2
  step_goes p b Trying k = tried_goes p b (enters p.holder b) refl k
  step_goes p b Inside k = stayed p p.holder b Inside (λ _ _. refl) k.2
  step_goes p b Leaving k = moved p (freed p.holder b) b Out (freed_other p.holder b) k.0 k.1

  leaves : (p : Backplane) (b : ℕ) → (1 ≤ b) × (b ≤ length (shown p)) → Goes p b Leaving (put p b Leaving)
  leaves p b k = moved p p.holder b Leaving (λ _ _. refl) k.0 k.1

  done_goes : (p : Backplane) (c : Call) → accepted (shown p) c ≡ true → Goes p (board c) (target p c) (done tries enters p c)
  done_goes p (Start b) acc = let k = board_there (shown p) (Start b) acc in moved p p.holder b Trying (λ _ _. refl) k.0 k.1
  done_goes p (Step b bit) acc = let k = board_there (shown p) (Step b bit) acc in step_goes p b (at (shown p) b) (k.0, k.1, refl)
  done_goes p (Leave b) acc = leaves p b (board_there (shown p) (Leave b) acc)
  done_goes p (Pull b) acc = leaves p b (board_there (shown p) (Pull b) acc)

  -- a board that is inside after its call has the thing
  tried_has : (p : Backplane) (b : ℕ) (t : Bool) → enters p.holder b ≡ t → cond t Inside Trying ≡ Inside
      → has (cond t (put (with_holder p (tries p.holder b)) b Inside) (with_holder p (tries p.holder b))).holder b ≡ true
  tried_has p b true e i = sound.holds p.holder b e
  tried_has p b false e i = absurd (trying≢inside i)

  step_has : (p : Backplane) (b : ℕ) (s : Station) → Held p → Stands (shown p) b s → stepped p.holder b s ≡ Inside
      → has (step_at tries enters p b s).holder b ≡ true
  step_has p b Out held k i = absurd (out≢inside i)
  step_has p b Trying held k i = tried_has p b (enters p.holder b) refl i
  step_has p b Inside held k i = held b k
  step_has p b Leaving held k i = absurd (out≢inside i)

  done_has : (p : Backplane) (c : Call) → Held p → accepted (shown p) c ≡ true → target p c ≡ Inside → has (done tries enters p c).holder (board c) ≡ true
  done_has p (Start b) held acc i = absurd (trying≢inside i)
  done_has p (Step b bit) held acc i = let k = board_there (shown p) (Step b bit) acc in step_has p b (at (shown p) b) held (k.0, k.1, refl) i
  done_has p (Leave b) held acc i = absurd (inside≢leaving (sym i))
  done_has p (Pull b) held acc i = absurd (inside≢leaving (sym i))

  -- a board that has the thing after its call may have it where it is then
  step_may : (p : Backplane) (b : ℕ) (s : Station) → (has p.holder b ≡ true → May s) → has (step_at tries enters p b s).holder b ≡ true
      → May (stepped p.holder b s)
  step_may p b Out may = may
  step_may p b Trying may = go (enters p.holder b) refl
    where
      go : (t : Bool) → enters p.holder b ≡ t
          → has (cond t (put (with_holder p (tries p.holder b)) b Inside) (with_holder p (tries p.holder b))).holder b ≡ true → May (cond t Inside Trying)
      go true e w = tt
      go false e w = sound.waits p.holder b may e w
  step_may p b Inside may = λ w. tt
  step_may p b Leaving may = λ w. absurd (freed_own p.holder b w)

  done_may : (p : Backplane) (c : Call) → Owned p → accepted (shown p) c ≡ true → has (done tries enters p c).holder (board c) ≡ true
      → May (target p c)
  done_may p (Start b) owned acc w = absurd (subst May (start_accepted (shown p) b acc).2 (owned b w).2)
  done_may p (Step b bit) owned acc w = step_may p b (at (shown p) b) (λ h. (owned b h).2) w
  done_may p (Leave b) owned acc w = tt
  done_may p (Pull b) owned acc w = tt

  took : (p : Backplane) (c : Call) → accepted (shown p) c ≡ true → after tries enters p c ≡ done tries enters p c
  took p c acc = rw acc

  done_held : (p : Backplane) (c : Call) → Held p → accepted (shown p) c ≡ true → Held (done tries enters p c)
  done_held p c held acc =
      let k = board_there (shown p) c acc in
      let g = done_goes p c acc in
      still_held p (done tries enters p c) (board c) (target p c) k.0 k.1 g.shows (λ j ne w. g.others j ne ∙ w) held (done_has p c held acc)

  pub after_held : (p : Backplane) (c : Call) → Held p → Held (after tries enters p c)
  after_held p c held =
      elim (cases_Bool (accepted (shown p) c)) [
        | inl t ↦ subst Held (sym (took p c t)) (done_held p c held t)
        | inr f ↦ rw f held
      ]

  done_owned : (p : Backplane) (c : Call) → Owned p → accepted (shown p) c ≡ true → Owned (done tries enters p c)
  done_owned p c owned acc =
      let k = board_there (shown p) c acc in
      let g = done_goes p c acc in
      still_owned p (done tries enters p c) (board c) (target p c) k.0 k.1 g.shows (λ j ne w. sym (g.others j ne) ∙ w) (done_may p c owned acc) owned

  after_owned : (p : Backplane) (c : Call) → Owned p → accepted (shown p) c ≡ true → Owned (after tries enters p c)
  after_owned p c owned acc = subst Owned (sym (took p c acc)) (done_owned p c owned acc)

  -- where a step may take its board
  steps_to : (p : Backplane) (b : ℕ) (s : Station) → at (shown p) b ≡ s → (stepped p.holder b s ≡ Inside → NoneElse (shown p) b)
      → StepsTo (shown p) b (stepped p.holder b s)
  steps_to p b Out e alone = inl (sym e)
  steps_to p b Trying e alone = go (enters p.holder b) alone
    where
      go : (t : Bool) → (cond t Inside Trying ≡ Inside → NoneElse (shown p) b) → StepsTo (shown p) b (cond t Inside Trying)
      go true alone' = inr (inl (e, refl, alone' refl))
      go false alone' = inl (sym e)
  steps_to p b Inside e alone = inl (sym e)
  steps_to p b Leaving e alone = inr (inr (e, refl))

  done_moves : (p : Backplane) (c : Call) → Held p → accepted (shown p) c ≡ true → Moves (shown p) c (shown (done tries enters p c))
  done_moves p (Start b) held acc = (done_goes p (Start b) acc).shows
  done_moves p (Step b bit) held acc =
      let k = board_there (shown p) (Step b bit) acc in
      let g = done_goes p (Step b bit) acc in
      let q = done tries enters p (Step b bit) in
      let alone : target p (Step b bit) ≡ Inside → NoneElse (shown p) b = λ i. none_else p q b (target p (Step b bit)) k.0 k.1 g.shows (λ j ne w. g.others j ne ∙ w) held (done_has p (Step b bit) held acc i) in
      (target p (Step b bit), g.shows, steps_to p b (at (shown p) b) refl alone)
  done_moves p (Leave b) held acc = (done_goes p (Leave b) acc).shows
  done_moves p (Pull b) held acc = (done_goes p (Pull b) acc).shows

  pub moves_at : (p : Backplane) (c : Call) → Held p → MovesAt fresh (after tries enters) shown p c
  moves_at p c held = (λ f. rw f, λ t. subst (λ q. Moves (shown p) c (shown q)) (sym (took p c t)) (done_moves p c held t))

  -- a board that stands at s steps as one at s
  steps_as : (p : Backplane) (b : ℕ) (bit : Bool) (s : Station) → Stands (shown p) b s
      → after tries enters p (Step b bit) ≡ step_at tries enters p b s
  steps_as p b bit s k = took p (Step b bit) (accepted_step (shown p) b bit k.0 k.1) ∙ ap (step_at tries enters p b) k.2

  -- while all others are out, nobody but b has the thing
  free_for : (p : Backplane) (b : ℕ) (h : Option ℕ) → p.holder ≡ h → Owned p → Stands (shown p) b Trying → OthersOut (shown p) b → FreeFor early h b
  free_for p b None e owned k others = tt
  free_for p b (Some j) e owned k others =
      let w = owned j (ap (λ h. has h j) e ∙ eq-eqb j j refl) in
      elim (cases_eq j b) [
        | inl same ↦ (same, subst May (ap (at (shown p)) same ∙ k.2) w.2)
        | inr ne ↦ absurd (subst May (others j ne w.0 w.1) w.2)
      ]

  -- b is inside at q, or needs fewer own steps there than at p
  abbrev Nearer : Backplane → ℕ → Backplane → Type 0
  Nearer p b q = Stands (shown q) b Inside ⊎ (1 + to_enter q.holder b ≤ to_enter p.holder b)

  goes_in : (p : Backplane) (b : ℕ) (bit : Bool) → Owned p → Stands (shown p) b Trying → OthersOut (shown p) b
      → Nearer p b (after tries enters p (Step b bit))
  goes_in p b bit owned k others = subst (Nearer p b) (sym (steps_as p b bit Trying k)) (go (enters p.holder b) refl)
    where
      go : (t : Bool) → enters p.holder b ≡ t → Nearer p b (cond t (put (with_holder p (tries p.holder b)) b Inside) (with_holder p (tries p.holder b)))
      go true e = inl (there p (put (with_holder p (tries p.holder b)) b Inside) b Inside k.0 k.1 (tried_goes p b true e k).shows)
      go false e =
          elim (sound.nears p.holder b (free_for p b p.holder refl owned k others)) [
            | inl w ↦ absurd (true≢false (enters p.holder b) w e)
            | inr w ↦ inr w
          ]

  goes_out : (p : Backplane) (b : ℕ) (bit : Bool) → Stands (shown p) b Leaving → Stands (shown (after tries enters p (Step b bit))) b Out
  goes_out p b bit k =
      subst (λ q. Stands (shown q) b Out) (sym (steps_as p b bit Leaving k))
      (there p (step_at tries enters p b Leaving) b Out k.0 k.1
      (moved p (freed p.holder b) b Out (freed_other p.holder b) k.0 k.1).shows)

  -- a step of a board that is out does nothing
  no_further : (p : Backplane) (b j : ℕ) (bit : Bool) → Stands (shown p) j Out
      → to_enter (after tries enters p (Step j bit)).holder b ≤ to_enter p.holder b
  no_further p b j bit out =
      let same : to_enter (after tries enters p (Step j bit)).holder b ≡ to_enter p.holder b = ap (λ q. to_enter q.holder b) (steps_as p j bit Out out) in
      omega arith

  abbrev pub left_to_enter : Backplane → ℕ → ℕ
  left_to_enter p b = to_enter p.holder b

  pub local : Local fresh (after tries enters) shown (λ n. alone) (λ n. 1) Good left_to_enter (λ p b. 1)
  local = record {
    calls = record {
      new = λ n. take-replicate n.count most Out n.few;
      first = λ n. (fresh_held n, λ b w. absurd (true≢false false w refl));
      next = λ n p c k acc. (after_held p c k.0, after_owned p c k.1 acc);
      moved = λ n p c k. moves_at p c k.0;
    };
    enter_most = λ n p b k h others. (sound.within (after tries enters p (Start b)).holder b).1;
    enter_left = λ n p b k h others. (sound.within p.holder b).0;
    enter_own = λ n p b bit k h others. goes_in p b bit k.1 h others;
    enter_other = λ n p b j bit k h others ne out. no_further p b j bit out;
    settle_most = λ n p b k h. omega arith;
    settle_left = λ n p b k h. omega arith;
    settle_own = λ n p b bit k h. inl (goes_out p b bit h);
    settle_other = λ n p b c k h ne acc. omega arith;
  }

  -- the laws of a lock
  pub begins : AllOut fresh shown
  begins = local.calls.new

  pub calls_move : CallsMove fresh (after tries enters) shown
  calls_move = Local.calls_move fresh (after tries enters) shown Good local.calls

  pub exclusive : Exclusive fresh (after tries enters) shown
  exclusive = Local.exclusive fresh (after tries enters) shown Good local.calls

  pub enters_within : EntersWithin fresh (after tries enters) shown (λ n. alone)
  enters_within = Local.enters_within fresh (after tries enters) shown (λ n. alone) (λ n. 1) Good left_to_enter (λ p b. 1) local

  pub out_within : OutWithin fresh (after tries enters) shown (λ n. 1)
  out_within = Local.out_within fresh (after tries enters) shown (λ n. alone) (λ n. 1) Good left_to_enter (λ p b. 1) local
