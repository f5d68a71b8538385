use Rattle.std.proofs.Common.{◌∙◌, sym, arith}
use Rattle.board_core.proofs.Stopping.{ends_synced, none_more}
use Rattle.board_core.proofs.crash.up_to_sync.Goals as goal

pub loop-count-preserved : goal.loop-count-preserved
loop-count-preserved c = record {
  within = omega arith;
  none_since = none_more c.args.calls.now c.loop-count.count c.index-calls-count.result c.loop-count-test.true c.loop-count.invariant.within c.index-calls-count.is
      (sym c.is_synced.ensures ∙ c.if-not-is_synced.true) c.loop-count.invariant.none_since;
}

pub returns-else-not-is_synced-clause-last : goal.returns-else-not-is_synced-clause-last
returns-else-not-is_synced-clause-last c = ends_synced c.args.calls.now c.loop-count.count c.index-calls-count.result c.loop-count-test.true c.loop-count.invariant.within c.index-calls-count.is
    (sym c.is_synced.ensures ∙ c.if-not-is_synced.false)
