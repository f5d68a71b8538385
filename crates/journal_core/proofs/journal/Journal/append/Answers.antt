use Rattle.std.proofs.Common.{◌≡◌, ◌≤◌, ◌+◌, ◌∷◌, [], length, length-append, ap, arith}
use Rattle.board_core.proofs.Public.Chaining.{widened}
use Rattle.journal_core.specs.Frames.{frames}
use Rattle.journal_core.specs.Kept.{IsWithin}
use Rattle.journal_core.proofs.Unframing.{length-one}
use Rattle.journal_core.proofs.Scan.{half_after}
use Rattle.journal_core.proofs.Changes.{append_leaves, append_done, in_region}
use Rattle.journal_core.proofs.journal.Journal.append.Goals as goal

pub returns-clause-done : goal.returns-clause-done
returns-clause-done g c = λ told.
    let b = g.B.Board in
    let old = b.view c.args.board.now in
    let within : IsWithin c.args.self.now.region (length old.now.disk.bytes) = omega (arith, c.requires.within, (g.met.B.Board.laws c.args.board.now told).measured) in
    let room : c.args.self.now.used + (length c.behind_gate.result.now + 1) ≤ c.args.self.now.region.half = omega (arith, ap length c.behind_gate.ensures, ap length c.bytes.ensures.bytes) in
    let wrote = c.in_ok-write_gated.ensures.written told in
    record {
      fits = λ bodies fits.
          append_done c.args.self.now old bodies fits within c.behind_gate.result.now c.gate_at-gate.result c.gate_at-gate.ensures.at room c.args.framed.now c.requires.one c.behind_gate.ensures c.lengths-lengths.ensures.bodies
          c.take_in_reserved.new.self (b.view c.write_gated.new.board).now.disk.bytes c.lengths-lengths.result.now wrote.bytes_are c.lengths-lengths.ensures.lengths c.take_in_reserved.ensures.taken;
      clean = wrote.clean;
    }

pub returns-clause-moments : goal.returns-clause-moments
returns-clause-moments g c = λ told clean bodies fits.
    let old = g.B.Board.view c.args.board.now in
    let within : IsWithin c.args.self.now.region (length old.now.disk.bytes) = omega (arith, c.requires.within, (g.met.B.Board.laws c.args.board.now told).measured) in
    let room : c.args.self.now.used + (length c.behind_gate.result.now + 1) ≤ c.args.self.now.region.half = omega (arith, ap length c.behind_gate.ensures, ap length c.bytes.ensures.bytes) in
    widened (c.write_gated.ensures.moments told clean) (λ sent image w.
    append_leaves c.args.self.now old bodies fits within c.behind_gate.result.now c.gate_at-gate.result c.gate_at-gate.ensures.at room c.args.framed.now c.requires.one c.behind_gate.ensures c.lengths-lengths.ensures.bodies sent image w)

pub returns-in_err-write_gated-clause-moments : goal.returns-in_err-write_gated-clause-moments
returns-in_err-write_gated-clause-moments g c = λ told clean bodies fits.
    let old = g.B.Board.view c.args.board.now in
    let within : IsWithin c.args.self.now.region (length old.now.disk.bytes) = omega (arith, c.requires.within, (g.met.B.Board.laws c.args.board.now told).measured) in
    let room : c.args.self.now.used + (length c.behind_gate.result.now + 1) ≤ c.args.self.now.region.half = omega (arith, ap length c.behind_gate.ensures, ap length c.bytes.ensures.bytes) in
    widened (c.write_gated.ensures.moments told clean) (λ sent image w.
    append_leaves c.args.self.now old bodies fits within c.behind_gate.result.now c.gate_at-gate.result c.gate_at-gate.ensures.at room c.args.framed.now c.requires.one c.behind_gate.ensures c.lengths-lengths.ensures.bodies sent image w)

pub returns-clause-untouched : goal.returns-clause-untouched
returns-clause-untouched g c = λ told.
    in_region c.args.self.now.region (omega (arith, c.gate_at-gate.ensures.at, half_after c.args.self.now.region c.args.self.now.second)) (omega arith)
    (omega (arith, c.gate_at-gate.ensures.below, ap length c.behind_gate.ensures, ap length c.bytes.ensures.bytes)) (omega (arith, ap length c.behind_gate.ensures, length-append (frames c.args.framed.now) (0 ∷ [])))
    (c.write_gated.ensures.within told)

pub returns-in_err-write_gated-clause-untouched : goal.returns-in_err-write_gated-clause-untouched
returns-in_err-write_gated-clause-untouched g c = λ told.
    in_region c.args.self.now.region (omega (arith, c.gate_at-gate.ensures.at, half_after c.args.self.now.region c.args.self.now.second)) (omega arith)
    (omega (arith, c.gate_at-gate.ensures.below, ap length c.behind_gate.ensures, ap length c.bytes.ensures.bytes)) (omega (arith, ap length c.behind_gate.ensures, length-append (frames c.args.framed.now) (0 ∷ [])))
    (c.write_gated.ensures.within told)

pub take_in_reserved-requires-clause-fits : goal.take_in_reserved-requires-clause-fits
take_in_reserved-requires-clause-fits g c = omega (arith, length-one c.args.framed.now c.lengths-lengths.result.now c.requires.one c.lengths-lengths.ensures.lengths, ap length c.bytes.ensures.bytes)
