use Rattle.std.proofs.Common.{◌∙◌}
use Rattle.std.specs.Prelude.{codes, ◌++◌}
use Rattle.http_wire.specs.Writing.{field_line}
use Rattle.http_wire.proofs.Written.{on_ok, two_lines}
use Rattle.http_wire.proofs.write.push_request.Goals as goal

pub returns-in-Get : goal.returns-in-Get
returns-in-Get c =
    rw c.in-Get.is (on_ok (λ e. e ∙ two_lines c.args.head.now (codes "GET " ++ c.args.path.now ++ codes " HTTP/1.1") (field_line (codes "Host") c.args.host.now)) c.push_target.result c.push_target.ensures)
