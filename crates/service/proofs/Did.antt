-- What a step does to the lock and to the sets ahead.
use Rattle.std.proofs.Common.{◌≡◌, ℕ, ◌-◌, Bool, true, false, cond, ◌⊎◌, List, map, set, Ok, Err, Result, sym, refl, subst, inl, inr}
use Rattle.lock.specs.declared.station.Call.TheVariants.{Step, Leave}
use Rattle.lock.specs.Stations.{told}
use Rattle.service.specs.declared.progress.Progress.{Progress}
use Rattle.service.specs.declared.progress.Progress.TheVariants.{Idle, Working, Passed, Entered, Shown, CameOut}
use Rattle.service.specs.declared.record.Stage.{Stage}
use Rattle.service.specs.declared.record.Stage.TheVariants.{Arrived, StartPut, StopPut, StartTaken, StopTaken}
use Rattle.service.specs.declared.refusal.Refusal.{Refusal}
use Rattle.service.specs.declared.refusal.Refusal.TheVariants.{NoSuchBoard}
use Rattle.service.specs.declared.standing.Standing.{Standing}
use Rattle.service.specs.declared.standing.Standing.TheVariants.{Out, Doorway, Waiting, Inside, Leaving}
use Rattle.service.specs.Records.{gone, arrived}
use Rattle.service.specs.Rule.{Lockwork, View, own, there, with_own, with_lock, struck, is_inside, is_out, Outcome, outcome, passed, inside_step, step_at, step_outcome, step_answer, step_leaves}

-- board i stands ahead of nobody any more
abbrev pub strike : ℕ → List (List Bool) → List (List Bool)
strike i ss = map (λ row. set row (i - 1) false) ss

-- the sets after a step of board i with this answer
abbrev pub sets_by : Result Progress Refusal → ℕ → List (List Bool) → List (List Bool)
sets_by (Ok Idle) i ss = ss
sets_by (Ok Working) i ss = ss
sets_by (Ok Passed) i ss = ss
sets_by (Ok Entered) i ss = strike i ss
sets_by (Ok (Shown z)) i ss = ss
sets_by (Ok CameOut) i ss = ss
sets_by (Err e) i ss = ss

module _ {S : Type 0} (W : Lockwork S) (full : ℕ) (v : View S) (i : ℕ) (bit : Bool) where
  -- a step makes no call on the lock, its step, or a leave
  abbrev pub StepCall : S → Type 0
  StepCall l = (l ≡ v.lock) ⊎ ((l ≡ W.after v.lock (Step i bit)) ⊎ (l ≡ W.after v.lock (Leave i)))

  pub record Did (w : View S) (r : Result Progress Refusal) : Type 0 where
    pub call : StepCall w.lock
    pub sets : w.sets ≡ sets_by r i v.sets

  abbrev stepped : View S
  stepped = with_lock v (W.after v.lock (Step i bit))

  by_stage : (s : Stage) → Did (inside_step W full v i (own v i) s).left (Ok (inside_step W full v i (own v i) s).tells)
  by_stage Arrived = record { call = inl refl; sets = refl }
  by_stage StartPut = record { call = inl refl; sets = refl }
  by_stage StopPut = record { call = inl refl; sets = refl }
  by_stage (StartTaken m) = record { call = inl refl; sets = refl }
  by_stage (StopTaken m k) = record { call = inr (inr refl); sets = refl }

  abbrev DidAs : Outcome S → Type 0
  DidAs o = Did o.left (Ok o.tells)

  by_standing : (s : Standing) → DidAs (step_at W full v i bit (own v i) s)
  by_standing Out = record { call = inl refl; sets = refl }
  by_standing Doorway =
      elim (passed W stepped.lock i) as (λ y. DidAs (cond y (outcome (with_own stepped i (gone (own v i) Waiting)) Passed) (outcome stepped Working))) [
        | true ↦ record { call = inr (inl refl); sets = refl }
        | false ↦ record { call = inr (inl refl); sets = refl }
      ]
  by_standing Waiting =
      elim (is_inside (told (W.stations stepped.lock) i)) as (λ y. DidAs (cond y (outcome (struck (with_own stepped i (arrived (own v i))) i) Entered) (outcome stepped Working))) [
        | true ↦ record { call = inr (inl refl); sets = refl }
        | false ↦ record { call = inr (inl refl); sets = refl }
      ]
  by_standing Inside = by_stage (own v i).stage
  by_standing Leaving =
      elim (is_out (told (W.stations stepped.lock) i)) as (λ y. DidAs (cond y (outcome (with_own stepped i (gone (own v i) Out)) CameOut) (outcome stepped Working))) [
        | true ↦ record { call = inr (inl refl); sets = refl }
        | false ↦ record { call = inr (inl refl); sets = refl }
      ]

  pub did : (r : Result Progress Refusal) → r ≡ step_answer W full v i bit → Did (step_leaves W full v i bit) r
  did r e =
      subst (Did (step_leaves W full v i bit)) (sym e)
      (elim (there v i) as (λ y. Did (cond y (step_outcome W full v i bit).left v) (cond y (Ok (step_outcome W full v i bit).tells) (Err NoSuchBoard))) [
        | true ↦ by_standing (own v i).standing
        | false ↦ record { call = inl refl; sets = refl }
      ])
