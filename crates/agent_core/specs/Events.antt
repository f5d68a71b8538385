-- What a frame into the agent is.
use Rattle.std.specs.Prelude.{ℕ, List, length, ◌==◌, ◌&&◌, if◌then◌else◌}
use Rattle.frames.specs.Frames.{Frame}
use Rattle.agent_core.specs.declared.event.Event.{Event}
use Rattle.agent_core.specs.declared.event.Event.TheVariants.{Message, Payload, FetchFailed, Strange}

-- kind 1 is a message, 2 a payload, 3 with no body a failed fetch; all else is strange
abbrev pub event_by : ℕ → List ℕ → Event
event_by kind body =
    if kind == 1 then Message body
    else if kind == 2 then Payload body
    else if (kind == 3) && (length body == 0) then FetchFailed
    else Strange

-- what a frame in brings
abbrev pub event_in : Frame → Event
event_in f = event_by f.kind f.body
