use Rattle.std.proofs.Common.{◌≡◌, Some, None, sym, subst}
use Rattle.fetch_uri.specs.Address.{IsHost, IsPath}
use Rattle.fetch_uri.proofs.Cuts.{host_is, digits_are, has_slash}
use Rattle.fetch_uri.proofs.uri.read_uri.Goals as goal
use Rattle.fetch_uri.proofs.uri.read_uri.Goals.{else-is_host-via-then-is_host+else-is_path, else-is_host-via-else-is_host}

pub returns-in_err-host-clause-only : goal.returns-in_err-host-clause-only
returns-in_err-host-clause-only c = λ host path port is. absurd (host_is c.args.text.now host port path c.in_ok-rest.rest.now None is c.in_ok-rest.ensures c.in_err-host.ensures.cases)

pub returns-in_err-digits-clause-only : goal.returns-in_err-digits-clause-only
returns-in_err-digits-clause-only c = λ host path port is.
    let front = host_is c.args.text.now host port path c.in_ok-rest.rest.now (Some (c.in_ok-host.host, c.in_ok-host.rest)) is c.in_ok-rest.ensures c.in_ok-host.ensures.cases in
    absurd (has_slash _ _ path front.1 is.path_is.slash c.in_err-digits.ensures)

pub returns-in_err-port-clause-only : goal.returns-in_err-port-clause-only
returns-in_err-port-clause-only c = λ host path port is.
    let front = host_is c.args.text.now host port path c.in_ok-rest.rest.now (Some (c.in_ok-host.host, c.in_ok-host.rest)) is c.in_ok-rest.ensures c.in_ok-host.ensures.cases in
    let back = digits_are c.args.text.now host port path c.in_ok-host.rest.now c.in_ok-digits.digits.now c.in_ok-digits.path.now is front.1 c.in_ok-digits.ensures in
    let missed = c.in_err-port.ensures.only port is.port_least is.port_most back.0 in
    cc

pub returns-then-is_path-clause-only : goal.returns-then-is_path-clause-only
returns-then-is_path-clause-only c = λ host path port is.
    let front = host_is c.args.text.now host port path c.in_ok-rest.rest.now (Some (c.in_ok-host.host, c.in_ok-host.rest)) is c.in_ok-rest.ensures c.in_ok-host.ensures.cases in
    let back = digits_are c.args.text.now host port path c.in_ok-host.rest.now c.in_ok-digits.digits.now c.in_ok-digits.path.now is front.1 c.in_ok-digits.ensures in
    let same = c.in_ok-port.ensures.only port is.port_least is.port_most back.0 in
    let number : c.in_ok-port.port ≡ port = cc in
    (front.0, number, back.1)

pub returns-else-is_host-clause-only : goal.returns-else-is_host-clause-only
returns-else-is_host-clause-only c = λ host path port is.
    let front = host_is c.args.text.now host port path c.in_ok-rest.rest.now (Some (c.in_ok-host.host, c.in_ok-host.rest)) is c.in_ok-rest.ensures c.in_ok-host.ensures.cases in
    let back = digits_are c.args.text.now host port path c.in_ok-host.rest.now c.in_ok-digits.digits.now c.in_ok-digits.path.now is front.1 c.in_ok-digits.ensures in
    let a_host : IsHost c.in_ok-host.host.now = subst IsHost (sym front.0) is.host_is in
    let a_path : IsPath c.in_ok-digits.path.now = subst IsPath (sym back.1) is.path_is in
    elim c.else-is_host.branch [
      | else-is_host-via-then-is_host+else-is_path w ↦ let impossible = w.if-is_path.ensures.1 a_path in cc
      | else-is_host-via-else-is_host w ↦ let impossible = w.if-is_host.ensures.1 a_host in cc
    ]
