use Rattle.std.proofs.Common.{refl, ◌∙◌}
use Rattle.fetch_uri.proofs.Ports.{port_found, port_only, first_digit}
use Rattle.fetch_uri.proofs.parts.read_port.Goals as goal

pub returns-then-leads_above_zero-clause-found : goal.returns-then-leads_above_zero-clause-found
returns-then-leads_above_zero-clause-found c =
    rw c.ok.ensures.value (port_found c.args.digits.now c.parse.result c.parse.ensures.value.0 (c.if-leads_above_zero.ensures.0 refl).0)

pub returns-then-leads_above_zero-clause-only : goal.returns-then-leads_above_zero-clause-only
returns-then-leads_above_zero-clause-only c = λ port least most is. c.ok.ensures.value ∙ port_only c.args.digits.now c.parse.result port c.parse.ensures.value.0 most is

pub returns-else-leads_above_zero-clause-only : goal.returns-else-leads_above_zero-clause-only
returns-else-leads_above_zero-clause-only c = λ port least most is.
    let impossible = c.if-leads_above_zero.ensures.1 (first_digit c.args.digits.now port is least most) in cc
