use Rattle.std.proofs.Common.{◌≡◌, ◌++◌, length, take, slice_index}
use Rattle.lms_core.specs.Bytes.{u32_bytes}
use Rattle.lms_core.proofs.Slots.{Advanced}
use Rattle.lms_core.proofs.chains.step_all.Given as goal

-- the input is that of step j of a chain, and the chains so far have taken the step
abbrev pub invariant-loop-i : goal.invariant-loop-i
invariant-loop-i l = record {
  size : length l.values ≡ length l.initial.values;
  front : take 20 l.input ≡ l.identifier ++ u32_bytes l.q;
  digit : slice_index l.input 22 ≡ l.j;
  advanced : Advanced l.identifier l.q l.j l.digits l.initial.values l.values l.i;
}
