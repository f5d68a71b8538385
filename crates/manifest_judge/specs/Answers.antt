-- What parts of the code answer.
use Rattle.std.specs.Prelude.{◌≡◌, List, true}
use Rattle.device_config.specs.declared.config.Config.{Config}
use Rattle.suit_envelope.specs.declared.envelope.Envelope.{Envelope}
use Rattle.suit_envelope.specs.declared.manifest.Manifest.{Manifest}
use Rattle.suit_engine.specs.Contents.{Contents}
use Rattle.device_state.specs.declared.heads.RowHead.{RowHead}
use Rattle.device_state.specs.declared.rows.ComponentRow.{ComponentRow}
use Rattle.device_state.specs.declared.rows.ManifestRow.{ManifestRow}
use Rattle.manifest_judge.specs.declared.candidate.Target.{Target}
use Rattle.manifest_judge.specs.declared.candidate.Entry.{Entry}
use Rattle.manifest_judge.specs.declared.candidate.Entry.TheVariants as entries
use Rattle.manifest_judge.specs.Openings.{FromDigest, FromSequence, IsTarget, Enters}

-- the entry of an envelope, from its sequence number on
abbrev pub SequenceEnters : Config → List RowHead → Envelope → Entry → Type 0
SequenceEnters config rows e entry = FromSequence rows (λ word. entry ≡ entries.Fails word) (λ plan. Enters config.device rows e plan entry) e

-- the same, from its digest on
abbrev pub DigestEnters : Config → List RowHead → Envelope → Entry → Type 0
DigestEnters config rows e entry = FromDigest config.anchors rows (λ word. entry ≡ entries.Fails word) (λ plan. Enters config.device rows e plan entry) e

-- what may be run is this engine, with the parts of the manifest's row
abbrev pub Carries : List RowHead → Manifest → Contents → Entry → Type 0
Carries rows m engine (entries.Goes candidate) = (candidate.engine ≡ engine) × IsTarget rows m candidate.target
Carries rows m engine (entries.Fails word) = ⊥

-- the row of these parts, with components
abbrev pub row_with : Target → List ComponentRow → ManifestRow
row_with t components = record { id = t.id; sequence = t.sequence; present = true; components = components }
