use Rattle.std.proofs.Common.{◌≡◌, ◌*◌, refl}
use Rattle.device_state.proofs.Leaves.{many}
use Rattle.device_state.proofs.sound.has_leaves.Goals as goal

pub returns-then-bits-ge64 : goal.returns-then-bits-ge64
returns-then-bits-ge64 c =
    let bits : c.from.result * c.from-2.result ≡ c.args.params.levels * c.args.params.height = rw (c.from.ensures, c.from-2.ensures) refl in
    many c.args.params c.args.leaves (c.from.result * c.from-2.result) c.ranges.leaves.fits bits c.if-bits-ge64.true
