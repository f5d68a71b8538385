use Rattle.std.proofs.Common.{rules, arith}
use Rattle.std.specs.List.{AllByRecursion}
use Rattle.std.proofs.lemmas.Result.{err_from_is_err_and}
use Rattle.trust_anchors.specs.Anchors.{IsString}
use Rattle.trust_anchors.proofs.Readers.{manager_fault, author_fault}
use Rattle.trust_anchors.proofs.anchors.read_roles.Goals as goal

pub returns-in_err-manager : goal.returns-in_err-manager
returns-in_err-manager c =
    let p = err_from_is_err_and c.from_residual.result c.from_residual.ensures.1 in
    let m : AllByRecursion IsString c.args.managers.now = search rules in
    let b : AllByRecursion IsString c.args.authors.now = search rules in
    rw (p.1, p.2) (manager_fault c.args.managers.now c.args.authors.now c.in_err-manager.field-0.0 (m, b) (omega arith, omega arith) c.in_err-manager.ensures)

pub returns-in_err-author : goal.returns-in_err-author
returns-in_err-author c =
    let p = err_from_is_err_and c.from_residual-in_err-author.result c.from_residual-in_err-author.ensures.1 in
    let m : AllByRecursion IsString c.args.managers.now = search rules in
    let b : AllByRecursion IsString c.args.authors.now = search rules in
    rw (p.1, p.2) (author_fault c.args.managers.now c.args.authors.now c.in_ok-manager.manager c.in_err-author.field-0.0 (m, b) (omega arith, omega arith) c.in_ok-manager.ensures c.in_err-author.ensures)
