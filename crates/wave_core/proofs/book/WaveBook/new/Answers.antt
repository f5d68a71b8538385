use Rattle.std.proofs.Common.{ℕ, List, length, map, replicate, sym, ap, subst, ◌∙◌}
use Rattle.std.specs.List.{AllZip}
use Rattle.wave_core.specs.declared.wave.Wave.{Wave}
use Rattle.wave_core.specs.Book.{HasCounts}
use Rattle.wave_core.proofs.Shapes.{none_counted, zeros_whole}
use Rattle.wave_core.proofs.book.WaveBook.new.Goals as goal

pub invariant_of-result : goal.invariant_of-result
invariant_of-result c =
    let zeros = c.in_ok-counts.ensures ∙ ap (λ (ws : List Wave). map (λ (wave : Wave). replicate (length wave.steps) 0) ws) c.as_slice.ensures in
    record { proper = c.requires; whole = subst (λ (all : List (List ℕ)). AllZip HasCounts c.args.waves all) (sym zeros) (zeros_whole c.args.waves) }

pub returns-clause-empty : goal.returns-clause-empty
returns-clause-empty c =
    let zeros = c.in_ok-counts.ensures ∙ ap (λ (ws : List Wave). map (λ (wave : Wave). replicate (length wave.steps) 0) ws) c.as_slice.ensures in
    record { counts = zeros ∙ none_counted c.args.waves }
