-- Why a run stops, by the end of its input.
use Rattle.frames.specs.Reading.{End}
use Rattle.frames.specs.Reading.End.{Whole as WholeEnd, Long as LongEnd, Cut as CutEnd, Spent as SpentEnd}
use Rattle.turn_loop.specs.declared.stop.Stop.{Stop}
use Rattle.turn_loop.specs.declared.stop.Stop.TheVariants as stops

-- the stop of a run that came to the end of its input
abbrev pub stop_of : End → Stop
stop_of WholeEnd = stops.Whole
stop_of LongEnd = stops.Long
stop_of CutEnd = stops.Cut
stop_of SpentEnd = stops.Spent
