-- What a reading of a line gives, and the two halves of a change.
use Rattle.std.specs.Prelude.{Bool, true, false, cond}
use Rattle.line.specs.declared.Level.{Level}
use Rattle.line.specs.declared.Level.TheVariants as to
use Rattle.line.specs.declared.Line.{Line}
use Rattle.line.specs.declared.Line.TheVariants.{Low, Rising, High, Falling}

-- a step's bit as a level: 0 is low, 1 is high
abbrev pub level : Bool → Level
level bit = cond bit to.High to.Low

-- the other level
abbrev pub opposite : Level → Level
opposite to.Low = to.High
opposite to.High = to.Low

-- the line is in change
abbrev pub moving : Line → Bool
moving Low = false
moving Rising = true
moving High = false
moving Falling = true

-- the level that a line rests at, or is in change to
abbrev pub heading : Line → Level
heading Low = to.Low
heading Rising = to.High
heading High = to.High
heading Falling = to.Low

-- the line at rest at a level
abbrev pub resting : Level → Line
resting to.Low = Low
resting to.High = High

-- what a reading gives: of a line in change the bit, of any other the level
abbrev pub reading : Line → Bool → Level
reading line bit = cond (moving line) (level bit) (heading line)

-- the first half of a change to a level; no line is changed to the level it has
abbrev pub begun : Line → Level → Line
begun Low to.Low = Low
begun Rising to.Low = Falling
begun High to.Low = Falling
begun Falling to.Low = Falling
begun Low to.High = Rising
begun Rising to.High = Rising
begun High to.High = High
begun Falling to.High = Rising

-- the second half of a change
abbrev pub ended : Line → Line
ended line = resting (heading line)

-- one half of a change to a level: the second of a line in change, else the first
abbrev pub changed : Line → Level → Line
changed line to = cond (moving line) (ended line) (begun line to)

-- the line is low, at rest; rising; high, at rest; falling
abbrev pub low : Line → Bool
low Low = true
low Rising = false
low High = false
low Falling = false

abbrev pub rising : Line → Bool
rising Low = false
rising Rising = true
rising High = false
rising Falling = false

abbrev pub high : Line → Bool
high Low = false
high Rising = false
high High = true
high Falling = false

abbrev pub falling : Line → Bool
falling Low = false
falling Rising = false
falling High = false
falling Falling = true
