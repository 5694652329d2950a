-- The panel's rule: what a reading does to the last reading and to the repaint count.
use Rattle.std.specs.Prelude.{ℕ, ◌+◌, min, Bool, true, cond, not, Some, None, Option}
use Rattle.panel.specs.declared.display.Panel.{Panel}
use Rattle.panel.specs.declared.reading.Reading.{Reading}
use Rattle.panel.specs.Readings.{alike}

-- a new panel
abbrev pub blank : Panel
blank = record { last = None; repaints = 0 }

-- one more repaint; the count stays at its end
abbrev pub risen : ℕ → ℕ
risen n = min (n + 1) 4294967295

-- a reading is news where it is the first, or not the same as the one before
abbrev pub news : Option Reading → Reading → Bool
news None r = true
news (Some s) r = not (alike s r)

-- the panel after a reading
abbrev pub shown : Panel → Reading → Panel
shown p r = record { last = Some r; repaints = cond (news p.last r) (risen p.repaints) p.repaints }
