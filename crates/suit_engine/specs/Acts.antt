-- What each command does (draft-ietf-suit-manifest, "SUIT_Command_Sequence").
use Rattle.std.specs.Prelude.{ℕ, Bool, true, false, ◌&&◌, ◌==◌, nat_eq, nat_le, List, ◌++◌, length, map, slice_index, Option, Some, None, if◌then◌else◌}
use Rattle.std.specs.List.{find}
use Rattle.std.specs.Cmp.Lexicographic.{pointwise}
use Rattle.base_types.specs.declared.limits.TheConstants.{PAYLOAD_LIMIT, FETCHES_LIMIT}
use Rattle.fetch_uri.specs.Tests.{is_address}
use Rattle.evidence.specs.declared.ids.DeviceIds.{DeviceIds}
use Rattle.suit_commands.specs.declared.command.Command.{Command}
use Rattle.suit_commands.specs.declared.command.Command.TheOpen.{Command-F}
use Rattle.suit_commands.specs.declared.command.Command.TheFolds.{fold-Command}
use Rattle.suit_commands.specs.declared.digest.Digest.{Digest}
use Rattle.suit_commands.specs.Digests.{hash_of}
use Rattle.suit_commands.specs.Sequences.{Sequence}
use Rattle.suit_envelope.specs.declared.envelope.Attached.{Attached}
use Rattle.suit_engine.specs.declared.outcome.Fetched.{Fetched}
use Rattle.suit_engine.specs.declared.outcome.Word.TheVariants.{Condition, Payload, Fetches}
use Rattle.suit_engine.specs.declared.state.Part.{Part}
use Rattle.suit_engine.specs.declared.state.State.{State}
use Rattle.suit_engine.specs.States.{part_at, current, at_index, with_current, with_bytes, with_given}
use Rattle.suit_engine.specs.Steps.{Went, Fails, Needs, Act, in_turn, tried}

-- what a run has around it: the payloads in the envelope, the device, and what was fetched
pub record World : Type 0 where
  pub attached : List Attached
  pub device : DeviceIds
  pub env : List Fetched

-- the same with more that was fetched behind
abbrev pub later : World → List Fetched → World
later w more = record w { env = w.env ++ more }

-- the same bytes
abbrev pub are_same : List ℕ → List ℕ → Bool
are_same a b = pointwise nat_eq a b

-- ---- conditions

-- where the test holds the run goes on from the state, and else it fails
abbrev pub only_if : Bool → Act
only_if holds s = if holds then Went s else Fails Condition

-- the parameter is set, to these bytes
abbrev pub is_set_to : Option (List ℕ) → List ℕ → Bool
is_set_to None bytes = false
is_set_to (Some value) bytes = are_same value bytes

-- the bytes have the size, where one is set
abbrev pub has_size : Option ℕ → List ℕ → Bool
has_size None bytes = true
has_size (Some size) bytes = length bytes == size

-- a digest is set, there are bytes, the digest is theirs, and they have the size where one is set
abbrev pub is_image : Option Digest → Option ℕ → Option (List ℕ) → Bool
is_image (Some digest) size (Some bytes) = are_same digest.bytes (hash_of digest.algorithm bytes) && has_size size bytes
is_image (Some digest) size None = false
is_image None size bytes = false

-- the component is the image that its parameters name
abbrev pub is_right : Part → Bool
is_right part = is_image part.setting.image_digest part.setting.image_size part.bytes

-- ---- bytes for the current component

-- bytes that are there, and are not above the limit, become those of the current component
abbrev pub takes : Option (List ℕ) → Act
takes None s = Fails Payload
takes (Some bytes) s = if nat_le (length bytes) PAYLOAD_LIMIT then Went (with_current s (with_bytes (Some bytes) (current s))) else Fails Payload

-- the bytes of the component that an index names
abbrev pub source_bytes : Option ℕ → State → Option (List ℕ)
source_bytes None s = None
source_bytes (Some index) s = (part_at s.parts index).bytes

-- the attached payload of a name
abbrev pub attached_as : List ℕ → List Attached → Option Attached
attached_as name attached = find (λ a. are_same a.name name) attached

-- its bytes, and none where there is no such payload
abbrev pub attached_bytes : Option Attached → Option (List ℕ)
attached_bytes None = None
attached_bytes (Some a) = Some a.bytes

-- what was fetched for a URI
abbrev pub fetched_as : List ℕ → List Fetched → Option Fetched
fetched_as uri env = find (λ f. are_same f.uri uri) env

-- the bytes that were fetched, or a failure where the fetch failed; where nothing was fetched for the URI it is needed first, unless 16 others are there
abbrev pub takes_fetched : World → List ℕ → Option Fetched → Act
takes_fetched w uri (Some f) s = takes f.bytes s
takes_fetched w uri None s = if nat_le FETCHES_LIMIT (length w.env) then Fails Fetches else Needs uri

-- an attached payload where the URI begins with `#`, what was fetched where it is an address, and else a failure
abbrev pub fetches : World → List ℕ → Act
fetches w uri s =
    if slice_index uri 0 == 35 then takes (attached_bytes (attached_as uri w.attached)) s
    else (if is_address uri then takes_fetched w uri (fetched_as uri w.env) s else Fails Payload)

-- from where the URI says, where one is set
abbrev pub fetches_from : World → Option (List ℕ) → Act
fetches_from w None s = Fails Payload
fetches_from w (Some uri) s = fetches w uri s

-- ---- commands

-- what a command does, by its layer, from what the commands in it do
abbrev pub act_by : World → Command-F Act → Act
act_by w (Command-F.Vendor policy) s = only_if (is_set_to (current s).setting.vendor w.device.vendor) s
act_by w (Command-F.Class policy) s = only_if (is_set_to (current s).setting.class w.device.class) s
act_by w (Command-F.ImageMatch policy) s = only_if (is_right (current s)) s
act_by w (Command-F.Device policy) s = only_if (is_set_to (current s).setting.device w.device.device) s
act_by w (Command-F.Abort policy) s = Fails Condition
act_by w (Command-F.Write policy) s = takes (current s).setting.content s
act_by w (Command-F.Fetch policy) s = fetches_from w (current s).setting.uri s
act_by w (Command-F.Copy policy) s = takes (source_bytes (current s).setting.source s) s
act_by w (Command-F.SetIndex index) s = Went (at_index index s)
act_by w (Command-F.TryEach alternatives null_last) s = tried null_last Condition (map in_turn alternatives) s
act_by w (Command-F.Override given) s = Went (with_current s (with_given given (current s)))
act_by w (Command-F.RunSequence acts) s = in_turn acts s

-- what a command does
abbrev pub does : World → Command → Act
does w = fold-Command Act (act_by w)

-- what commands do, one after the other
abbrev pub do_all : World → Sequence → Act
do_all w commands = in_turn (map (does w) commands)
