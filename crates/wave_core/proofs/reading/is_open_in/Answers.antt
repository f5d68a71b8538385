use Rattle.std.proofs.Common.{◌≤◌, length, sym, arith}
use Rattle.std.specs.Prelude.{not}
use Rattle.std.proofs.lemmas.List.{length-take-le}
use Rattle.std.proofs.lemmas.List.Sums.{prefix_len-le-length}
use Rattle.wave_core.specs.Waves.{lists}
use Rattle.wave_core.proofs.reading.is_open_in.Goals as goal

pub slice_bounds-have_enough-end-2 : goal.slice_bounds-have_enough-end-2
slice_bounds-have_enough-end-2 c =
    let within : c.place_of-place.result ≤ length c.args.counts.now
    = omega (arith, prefix_len-le-length (λ step. not (lists c.args.device.now step)) c.args.wave.now.steps, c.place_of-place.ensures, c.requires) in
    sym (length-take-le c.place_of-place.result c.args.counts.now within)
