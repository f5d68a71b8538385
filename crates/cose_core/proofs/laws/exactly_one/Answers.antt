use Rattle.cose_core.proofs.Public.Envelopes.{envelope_or_refused}
use Rattle.cose_core.proofs.Public.OneKey.{key_or_refused}
use Rattle.cose_core.proofs.laws.exactly_one.Goals as goal

pub returns-clause-envelope : goal.returns-clause-envelope
returns-clause-envelope c = envelope_or_refused

pub returns-clause-key : goal.returns-clause-key
returns-clause-key c = key_or_refused
