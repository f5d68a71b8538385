use Rattle.std.proofs.Common.{◌≡◌, take, string_bytes}
use Rattle.std.specs.List.{flat_map}
use Rattle.device_reports.specs.Audit.{finding_line}
use Rattle.device_reports.proofs.findings.report.Given as goal

abbrev pub invariant-loop-audited : goal.invariant-loop-audited
invariant-loop-audited l = string_bytes l.out ≡ flat_map finding_line (take l.audited-index l.all)
