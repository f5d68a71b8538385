use Rattle.std.proofs.Common.{◌∙◌}
use Rattle.hss_sign.proofs.key.Key.grow_with.Goals as goal

pub invariant_of-result : goal.invariant_of-result
invariant_of-result g c = record {
  proper = c.requires.proper;
  workers_some = c.requires.workers.0;
  public_key = c.in_ok-public.ensures.value;
  secret = c.in_ok-top.ensures.1 ∙ c.top.ensures;
  grown = rw c.top.ensures at c.in_ok-top.ensures.0;
  below = c.in_ok-lower.ensures.value;
}
