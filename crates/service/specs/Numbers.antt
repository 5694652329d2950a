-- The numbers by which answers and refusals are told.
use Rattle.std.specs.Prelude.{ℕ, ℤ, pos}
use Rattle.interpolator.specs.declared.refusal.Refusal.{Refusal as Judged}
use Rattle.service.specs.declared.progress.Progress.{Progress}
use Rattle.service.specs.declared.progress.Progress.TheVariants.{Idle, Working, Passed, Entered, Shown, CameOut}
use Rattle.service.specs.declared.refusal.Refusal.{Refusal}
use Rattle.service.specs.declared.refusal.Refusal.TheVariants.{NoSuchBoard, NotOut, AboveFullScale, NotEngaged}

abbrev pub told_by : Progress → ℕ
told_by Idle = 0
told_by Working = 1
told_by Passed = 2
told_by Entered = 3
told_by (Shown z) = 4
told_by CameOut = 5

-- the value that goes with an answer
abbrev pub value_of : Progress → ℤ
value_of Idle = pos 0
value_of Working = pos 0
value_of Passed = pos 0
value_of Entered = pos 0
value_of (Shown z) = z
value_of CameOut = pos 0

abbrev pub refused_by : Refusal → ℕ
refused_by NoSuchBoard = 1
refused_by NotOut = 2
refused_by AboveFullScale = 3
refused_by NotEngaged = 4

-- the refusal that comes of an interpolator's, whichever that is
abbrev pub passed_on : Judged → Refusal
passed_on _ = AboveFullScale
