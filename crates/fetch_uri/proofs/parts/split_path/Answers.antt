use Rattle.std.proofs.Common.{Some, None, arith}
use Rattle.std.proofs.lemmas.Str.Pattern.{find_char}
use Rattle.fetch_uri.proofs.Cuts.{cut_at}
use Rattle.fetch_uri.proofs.parts.split_path.Goals as goal

pub returns-in_err-slash : goal.returns-in_err-slash
returns-in_err-slash c =
    let lacks = find_char 47 c.args.text.now None c.in_err-slash.ensures.cases (omega arith) in
    rw c.from_residual.ensures lacks

pub returns : goal.returns
returns c =
    let at = find_char 47 c.args.text.now (Some c.in_ok-slash.slash) c.in_ok-slash.ensures.cases (omega arith) in
    rw (c.split_at.ensures.front, c.split_at.ensures.back) (cut_at c.args.text.now c.in_ok-slash.slash at.0 at.1 at.2)
