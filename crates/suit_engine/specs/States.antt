-- What a run holds: which component is the current one, and what is known of each.
use Rattle.std.specs.Prelude.{ℕ, List, slice_index_or, slice_set, Option, None}
use Rattle.std.specs.Option.{option_or}
use Rattle.suit_commands.specs.declared.parameters.Parameters.{Parameters}
use Rattle.suit_engine.specs.declared.state.Setting.{Setting}
use Rattle.suit_engine.specs.declared.state.Part.{Part}
use Rattle.suit_engine.specs.declared.state.State.{State}

-- no parameter is set
abbrev pub unset : Setting
unset = record { vendor = None; class = None; image_digest = None; image_size = None; content = None; uri = None; source = None; device = None }

-- nothing is known of a component
abbrev pub untouched : Part
untouched = record { setting = unset; bytes = None }

-- the component of an index; of one that is not there nothing is known
abbrev pub part_at : List Part → ℕ → Part
part_at parts index = slice_index_or parts index untouched

-- the current component
abbrev pub current : State → Part
current s = part_at s.parts s.index

-- the state with another index
abbrev pub at_index : ℕ → State → State
at_index index s = record s { index = index }

-- the current component becomes this one; where it is not there, nothing changes
abbrev pub with_current : State → Part → State
with_current s part = record s { parts = slice_set s.parts s.index part }

-- a component with other bytes
abbrev pub with_bytes : Option (List ℕ) → Part → Part
with_bytes bytes part = record part { bytes = bytes }

-- the given parameters are set, and the others stay (draft-ietf-suit-manifest, "suit-directive-override-parameters")
abbrev pub overridden : Parameters → Setting → Setting
overridden given old = record {
  vendor = option_or given.vendor old.vendor;
  class = option_or given.class old.class;
  image_digest = option_or given.image_digest old.image_digest;
  image_size = option_or given.image_size old.image_size;
  content = option_or given.content old.content;
  uri = option_or given.uri old.uri;
  source = option_or given.source old.source;
  device = option_or given.device old.device;
}

-- a component with such parameters
abbrev pub with_given : Parameters → Part → Part
with_given given part = record part { setting = overridden given part.setting }
