use Rattle.std.proofs.Common.{◌<◌, ◌∙◌, [], List, ℕ, length, take, get_or, sym, ap, subst, arith}
use Rattle.std.proofs.lemmas.List.{take_more}
use Rattle.journal_core.specs.Kept.{Keeps}
use Rattle.journal_core.proofs.Unframing.{length-next, next_fits}
use Rattle.journal_core.proofs.Scanned.{keeps_more}
use Rattle.journal_core.proofs.journal.Journal.take_all.Goals as goal

pub take_in_reserved-requires-clause-fits : goal.take_in_reserved-requires-clause-fits
take_in_reserved-requires-clause-fits c =
    let i = c.loop-length.length-index in
    let within : i < length c.args.framed.now = omega (arith, c.loop-length-test.true, c.lengths-length-items.ensures.count) in
    omega (arith, next_fits c.args.framed.now c.lengths-length-items.result.now i c.lengths-length-items.ensures.lengths within, c.loop-length.invariant.keeps.used, ap (λ r. r.half) c.loop-length.invariant.is_of.region, c.requires.fits)

pub loop-length-preserved : goal.loop-length-preserved
loop-length-preserved c =
    let i = c.loop-length.length-index in
    let bodies = c.args.framed.now in
    let within : i < length bodies = omega (arith, c.loop-length-test.true, c.lengths-length-items.ensures.count) in
    record {
      is_of = record { region = c.take_in_reserved.ensures.taken.is_of.region ∙ c.loop-length.invariant.is_of.region; second = c.take_in_reserved.ensures.taken.is_of.second ∙ c.loop-length.invariant.is_of.second };
      keeps = subst (λ (bs : List (List ℕ)). Keeps c.take_in_reserved.new.self bs) (sym (take_more bodies i [] within))
          (keeps_more c.loop-length.self c.take_in_reserved.new.self (take i bodies) (get_or bodies i []) (get_or c.lengths-length-items.result.now i 0) c.loop-length.invariant.keeps
          (length-next bodies c.lengths-length-items.result.now i c.lengths-length-items.ensures.lengths within) c.take_in_reserved.ensures.taken);
      spare = omega (arith, c.take_in_reserved.ensures.spare, c.loop-length.invariant.spare);
    }
