use Rattle.cose_core.proofs.Headings.{map_checked, map_memory, no_map}
use Rattle.cose_core.proofs.wrapped.check_map.Goals as goal

pub returns-in-Some-clause-checked : goal.returns-in-Some-clause-checked
returns-in-Some-clause-checked c =
    map_checked c.args.protected.now c.in-Some.count c.in-Some.pairs.now c.judge_pairs.result c.requires (c.in-Some.ensures c.requires.0 c.requires.1) c.judge_pairs.ensures

pub returns-in-Some-clause-memory : goal.returns-in-Some-clause-memory
returns-in-Some-clause-memory c =
    map_memory c.args.protected.now c.in-Some.count c.in-Some.pairs.now c.judge_pairs.result c.requires (c.in-Some.ensures c.requires.0 c.requires.1) c.judge_pairs.ensures

pub returns-in-None-clause-checked : goal.returns-in-None-clause-checked
returns-in-None-clause-checked c = no_map c.args.protected.now c.requires (c.in-None.ensures c.requires.0 c.requires.1)
