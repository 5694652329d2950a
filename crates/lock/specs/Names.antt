-- The name by which each station is printed.
use Rattle.std.specs.Prelude.{ℕ, List, codes}
use Rattle.lock.specs.declared.station.Station.{Station}
use Rattle.lock.specs.declared.station.Station.TheVariants.{Out, Trying, Inside, Leaving}

abbrev pub station_name : Station → List ℕ
station_name Out = codes "out"
station_name Trying = codes "trying"
station_name Inside = codes "inside"
station_name Leaving = codes "leaving"
