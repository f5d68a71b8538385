use Rattle.std.proofs.lemmas.Str.{IsUtf8-past_char}
use Rattle.diag_text.proofs.Characters.{characters_end, next_character}
use Rattle.diag_text.proofs.printer.push_text.Goals as goal

pub loop-c-preserved : goal.loop-c-preserved
loop-c-preserved c =
    let held = c.loop-c.invariant in
    let parts = c.in-Some.ensures.steps.0 in
    (IsUtf8-past_char _ _ c.in-Some.c held.0 parts, rw (c.in_ok-push_char.ensures) (next_character _ _ _ c.in-Some.c _ parts held.1))

pub returns : goal.returns
returns c = characters_end _ _ _ c.in-None.ensures.steps.0.0 c.loop-c.invariant.1
