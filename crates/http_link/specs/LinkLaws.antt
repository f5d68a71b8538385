-- Calls of a connection in memory, one behind the other, leave its setting.
use Rattle.std.proofs.Common.{refl, ◌∙◌}
use Rattle.http_link.specs.Links.{KeepsSetting}
use Rattle.http_link.specs.declared.memory_link.MemoryLink.{MemoryLink}

-- no call
pub keeps_same : (l : MemoryLink) → KeepsSetting l l
keeps_same l = record { piece = refl; failing = refl }

-- a call behind another
pub keeps_both : {old mid new : MemoryLink} → KeepsSetting old mid → KeepsSetting mid new → KeepsSetting old new
keeps_both first second = record {
  piece = second.piece ∙ first.piece;
  failing = second.failing ∙ first.failing;
}
