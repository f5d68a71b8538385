use Rattle.std.proofs.Common.{◌≡◌, ◌++◌, List, ℕ, string_bytes, codes, ap, ◌∙◌}
use Rattle.diag_text.specs.Printed.{printed}
use Rattle.teep_tool.proofs.show.line_of.Goals as goal

pub returns-in_ok-push_str-in-Ok : goal.returns-in_ok-push_str-in-Ok
returns-in_ok-push_str-in-Ok c =
    let text : string_bytes c.into_string-text.result ≡ printed c.in-Ok.item = c.into_string-text.ensures ∙ c.in_ok-print-in-Ok.ensures in
    (record { item = c.in-Ok.item; spelled = c.in-Ok.ensures.found; line = c.in_ok-push_str-in-Ok.ensures.bytes ∙ ap (λ (t : List ℕ). t ++ codes "\n") text }, λ fault h. c.in-Ok.ensures.refused fault h)
