use Rattle.std.proofs.Common.{◌≡◌, ◌-◌, ◌++◌, drop, length, take}
use Rattle.lms_core.specs.Bytes.{u16_bytes, u32_bytes}
use Rattle.lms_core.specs.Chains.{chain}
use Rattle.lms_core.proofs.chains.chain.Given as goal

-- the input ends with the chain so far, and begins as each step's input does
abbrev pub invariant-loop-j : goal.invariant-loop-j
invariant-loop-j l = record {
  size : length l.input ≡ 55;
  front : take 22 l.input ≡ l.identifier ++ u32_bytes l.q ++ u16_bytes l.i;
  steps : drop 23 l.input ≡ chain l.identifier l.q l.i l.from (l.j - l.from) l.start;
}
