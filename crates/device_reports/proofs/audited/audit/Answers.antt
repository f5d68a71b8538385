use Rattle.std.proofs.Common.{◌∙◌, ap}
use Rattle.device_reports.specs.Audit.{report_of}
use Rattle.device_reports.proofs.Same.{same_findings}
use Rattle.device_reports.proofs.audited.audit.Goals as goal

pub returns-clause-text : goal.returns-clause-text
returns-clause-text g c = λ told kept.
    c.in_ok-report.ensures
    ∙ ap report_of (c.as_slice.ensures.value ∙ c.in_ok-all.ensures.audited told kept ∙ same_findings (g.S.Store.state c.args.store.now) c.weight-weight.ensures.valid)
