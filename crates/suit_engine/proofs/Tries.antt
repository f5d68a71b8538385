-- What a try-each does is what it tries.
use Rattle.std.proofs.Common.{◌≡◌, Bool, List, [], ◌∷◌, map, refl, sym, ap, subst, ◌∙◌}
use Rattle.std.specs.Prelude.{Result}
use Rattle.suit_commands.specs.declared.command.Command.{Command, out-Command}
use Rattle.suit_commands.specs.declared.command.Command.TheOpen.{Command-F}
use Rattle.suit_commands.specs.declared.command.Command.TheVariants as c
use Rattle.suit_commands.specs.declared.command.Command.TheFolds.{fold-roll-Command}
use Rattle.suit_commands.specs.Sequences.{Sequence}
use Rattle.suit_engine.specs.declared.outcome.Word.TheVariants.{Condition}
use Rattle.suit_engine.specs.declared.state.State.{State}
use Rattle.suit_engine.specs.declared.stop.Stop.{Stop}
use Rattle.suit_engine.specs.Steps.{Step, Act, in_turn, tried}
use Rattle.suit_engine.specs.Acts.{World, act_by, does, do_all}
use Rattle.suit_engine.specs.Answers.{Gives, tries_by, tries}

mapped_twice : (w : World) (sequences : List Sequence) → map in_turn (map (λ (s : Sequence). map (does w) s) sequences) ≡ map (do_all w) sequences
mapped_twice w [] = refl
mapped_twice w (s ∷ ss) = ap (λ (acts : List Act). do_all w s ∷ acts) (mapped_twice w ss)

pub tries_are : (w : World) (sequences : List Sequence) (null_last : Bool) (s : State) → does w (c.TryEach sequences null_last) s ≡ tried null_last Condition (map (do_all w) sequences) s
tries_are w sequences null_last s =
    ap (λ (x : Command). does w x s) (sym (c.rolls-TryEach sequences null_last))
    ∙ ap (λ (a : Act). a s) (fold-roll-Command Act (act_by w) (Command-F.TryEach sequences null_last))
    ∙ ap (λ (acts : List Act). tried null_last Condition acts s) (mapped_twice w sequences)

-- what a command tries is what it does
pub tries_do : (w : World) (command : Command) (sequences : List Sequence) (null_last : Bool) (s : State) → command ≡ c.TryEach sequences null_last
    → tries w command 0 Condition s ≡ does w command s
tries_do w command sequences null_last s is =
    ap (λ (l : Command-F Command). tries_by w 0 Condition l s) (ap out-Command is ∙ c.outs-TryEach sequences null_last)
    ∙ sym (ap (λ (x : Command). does w x s) is ∙ tries_are w sequences null_last s)

-- what is answered for what it tries is answered for it
pub tries_give : (w : World) (command : Command) (sequences : List Sequence) (null_last : Bool) (s : State) (r : Result State Stop) → command ≡ c.TryEach sequences null_last
    → Gives (tries w command 0 Condition s) r → Gives (does w command s) r
tries_give w command sequences null_last s r is gives = let P : Step → Type 0 = λ x. Gives x r in subst P (tries_do w command sequences null_last s is) gives
