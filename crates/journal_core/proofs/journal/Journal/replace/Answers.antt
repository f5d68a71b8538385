use Rattle.std.proofs.Common.{◌≡◌, ◌≤◌, ◌∙◌, ◌∷◌, [], not, ℕ, length, length-append, subst, ap, arith}
use Rattle.board_core.specs.Gates.{WithinGated}
use Rattle.board_core.specs.Moments.{written}
use Rattle.board_core.proofs.Public.Chaining.{widened}
use Rattle.journal_core.specs.Region.{half_at}
use Rattle.journal_core.specs.Frames.{frames}
use Rattle.journal_core.specs.Kept.{IsWithin}
use Rattle.journal_core.proofs.Scan.{half_inside, half_after}
use Rattle.journal_core.proofs.Changes.{replace_leaves, replace_done, in_region}
use Rattle.journal_core.proofs.journal.Journal.replace.Goals as goal

pub returns-in_err-write_gated-clause-moments : goal.returns-in_err-write_gated-clause-moments
returns-in_err-write_gated-clause-moments g c = λ told clean bodies fits.
    let old = g.B.Board.view c.args.board.now in
    let within : IsWithin c.args.self.now.region (length old.now.disk.bytes) = omega (arith, c.requires.within, (g.met.B.Board.laws c.args.board.now told).measured) in
    let room : length c.bytes-2.result.now ≤ c.args.self.now.region.half = omega (arith, ap length c.bytes.ensures.bytes, ap length c.bytes-2.ensures.bytes, c.half.ensures) in
    widened (c.write_gated.ensures.moments told clean) (λ sent image w.
    replace_leaves c.args.self.now old bodies fits within c.bytes-2.result.now c.args.framed.now c.bytes-2.ensures.bytes c.bytes-2.ensures.bodies room sent image
    (subst (λ (k : ℕ). WithinGated k c.bytes-2.result.now c.args.self.now.region.at old sent image) c.other_at-at.ensures.at
    (subst (λ (k : ℕ). WithinGated c.other_at-at.result c.bytes-2.result.now k old sent image) c.selector_at-gate.ensures w)))

pub returns-clause-moments : goal.returns-clause-moments
returns-clause-moments g c = λ told clean bodies fits.
    let old = g.B.Board.view c.args.board.now in
    let within : IsWithin c.args.self.now.region (length old.now.disk.bytes) = omega (arith, c.requires.within, (g.met.B.Board.laws c.args.board.now told).measured) in
    let room : length c.bytes-2.result.now ≤ c.args.self.now.region.half = omega (arith, ap length c.bytes.ensures.bytes, ap length c.bytes-2.ensures.bytes, c.half.ensures) in
    widened (c.write_gated.ensures.moments told clean) (λ sent image w.
    replace_leaves c.args.self.now old bodies fits within c.bytes-2.result.now c.args.framed.now c.bytes-2.ensures.bytes c.bytes-2.ensures.bodies room sent image
    (subst (λ (k : ℕ). WithinGated k c.bytes-2.result.now c.args.self.now.region.at old sent image) c.other_at-at.ensures.at
    (subst (λ (k : ℕ). WithinGated c.other_at-at.result c.bytes-2.result.now k old sent image) c.selector_at-gate.ensures w)))

pub returns-clause-done : goal.returns-clause-done
returns-clause-done g c = λ told.
    let b = g.B.Board in
    let old = b.view c.args.board.now in
    let within : IsWithin c.args.self.now.region (length old.now.disk.bytes) = omega (arith, c.requires.within, (g.met.B.Board.laws c.args.board.now told).measured) in
    let room : length c.bytes-2.result.now ≤ c.args.self.now.region.half = omega (arith, ap length c.bytes.ensures.bytes, ap length c.bytes-2.ensures.bytes, c.half.ensures) in
    let wrote = c.in_ok-write_gated.ensures.written told in
    record {
      fits = λ bodies fits.
          replace_done c.args.self.now old bodies fits within c.bytes-2.result.now c.args.framed.now c.bytes-2.ensures.bytes c.bytes-2.ensures.bodies room
          c.take_all.new.self (b.view c.write_gated.new.board).now.disk.bytes c.other_selector-selector.result
          (wrote.bytes_are
          ∙ ap (λ (k : ℕ). written (written old.now.disk.bytes k c.bytes-2.result.now) c.selector_at-gate.result (c.other_selector-selector.result ∷ [])) c.other_at-at.ensures.at
          ∙ ap (λ (k : ℕ). written (written old.now.disk.bytes (half_at c.args.self.now.region (not c.args.self.now.second)) c.bytes-2.result.now) k (c.other_selector-selector.result ∷ [])) c.selector_at-gate.ensures)
          c.other_selector-selector.ensures (c.take_all.ensures.of.region ∙ c.begin_other.ensures.region) (c.take_all.ensures.of.second ∙ c.begin_other.ensures.second) c.take_all.ensures.keeps;
      clean = wrote.clean;
    }

pub returns-clause-untouched : goal.returns-clause-untouched
returns-clause-untouched g c = λ told.
    in_region c.args.self.now.region (omega (arith, c.selector_at-gate.ensures)) (omega (arith, c.selector_at-gate.ensures, c.other_at-at.ensures.at, half_after c.args.self.now.region (not c.args.self.now.second)))
    (omega (arith, c.other_at-at.ensures.at, half_inside c.args.self.now.region (not c.args.self.now.second), ap length c.bytes.ensures.bytes, ap length c.bytes-2.ensures.bytes, c.half.ensures))
    (omega (arith, ap length c.bytes-2.ensures.bytes, length-append (frames c.args.framed.now) (0 ∷ []))) (c.write_gated.ensures.within told)

pub returns-in_err-write_gated-clause-untouched : goal.returns-in_err-write_gated-clause-untouched
returns-in_err-write_gated-clause-untouched g c = λ told.
    in_region c.args.self.now.region (omega (arith, c.selector_at-gate.ensures)) (omega (arith, c.selector_at-gate.ensures, c.other_at-at.ensures.at, half_after c.args.self.now.region (not c.args.self.now.second)))
    (omega (arith, c.other_at-at.ensures.at, half_inside c.args.self.now.region (not c.args.self.now.second), ap length c.bytes.ensures.bytes, ap length c.bytes-2.ensures.bytes, c.half.ensures))
    (omega (arith, ap length c.bytes-2.ensures.bytes, length-append (frames c.args.framed.now) (0 ∷ []))) (c.write_gated.ensures.within told)
