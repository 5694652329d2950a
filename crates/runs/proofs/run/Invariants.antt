-- What is left of the events gives, from here, what all of them give from the beginning.
use Rattle.std.proofs.Common.{◌≡◌, ◌+◌, ◌≤◌, map, length, drop}
use Rattle.service.specs.History.{answer_of}
use Rattle.service.specs.Rule.{lockwork}
use Rattle.service.specs.Runs.{after_all, painted_all, replies}
use Rattle.runs.specs.Runs.{filled, numbered, readings}
use Rattle.analyser.specs.Service.{view}
use Rattle.runs.proofs.run.Given as goal

abbrev pub invariant-loop-place : goal.invariant-loop-place
invariant-loop-place g l =
    let W = lockwork g.Q.Lock g.Q.Ordered in let full = g.I.Interpolator.FULL_SCALE in
    let v = view g.Q.Lock.state g.I.Interpolator l.analyser in let v₀ = view g.Q.Lock.state g.I.Interpolator l.initial.analyser in
    let left = replies W full v (drop l.place l.events) in let all = replies W full v₀ l.events in
    (after_all W full v (drop l.place l.events) ≡ after_all W full v₀ l.events)
    × (painted_all l.analyser.panel left ≡ painted_all l.initial.analyser.panel all)
    × (filled l.answers.places.now l.answers.len (numbered l.place (map answer_of left)) ≡ filled l.initial.answers.places.now l.initial.answers.len (numbered 0 (map answer_of all)))
    × (l.answers.len ≡ l.initial.answers.len + l.place)
    × (length l.answers.places.now ≡ length l.initial.answers.places.now)
    × (filled l.readings.places.now l.readings.len (readings l.place left) ≡ filled l.initial.readings.places.now l.initial.readings.len (readings 0 all))
    × (l.readings.len + length (readings l.place left) ≡ l.initial.readings.len + length (readings 0 all))
    × (l.readings.len ≤ l.initial.readings.len + l.place)
    × (length l.readings.places.now ≡ length l.initial.readings.places.now)
    × (l.answers.places.ghost_name ≡ l.initial.answers.places.ghost_name)
    × (l.readings.places.ghost_name ≡ l.initial.readings.places.ghost_name)
