use Rattle.std.proofs.lemmas.Result.{err_from_is_err_and}
use Rattle.item_codec.proofs.Public.Answers.{stop}
use Rattle.teep_messages.proofs.read_options.read_pairs.Goals as goal

pub returns-in_err-token : goal.returns-in_err-token
returns-in_err-token c =
    let p = err_from_is_err_and c.from_residual-in_err-token.result c.from_residual-in_err-token.ensures.1 in
    rw (
      p.1,
      p.2,
      c.in_ok-challenge.ensures,
      c.in_ok-versions.ensures,
      c.in_ok-selected.ensures,
      c.in_ok-evidence.ensures,
      c.in_ok-reported.ensures,
      c.in_ok-manifests.ensures,
      c.in_ok-msg.ensures,
      c.in_ok-err_msg.ensures,
      c.in_ok-evidence_format.ensures,
      c.in_ok-requested.ensures,
      c.in_ok-unneeded.ensures,
    ) (stop _ _ _ _ c.in_err-token.ensures)
