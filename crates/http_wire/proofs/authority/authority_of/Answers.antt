use Rattle.std.proofs.Common.{◌∙◌, sym, append_assoc, codes, decimal, arith}
use Rattle.http_wire.proofs.authority.authority_of.Goals as goal

pub returns-clause-authority : goal.returns-clause-authority
returns-clause-authority c = record {
  host = c.args.host.now;
  port = c.args.port;
  spelled = c.from_string.ensures ∙ c.in_ok-text.ensures.ok ∙ sym (append_assoc c.args.host.now (codes ":") (decimal c.args.port));
  host_is = c.requires.host;
  port_least = c.requires.port;
  port_most = omega arith;
}
