use Rattle.std.proofs.Common.{◌≡◌, ℕ, List, length, sym, ap, subst, ◌∙◌, arith}
use Rattle.std.specs.List.{AllZip}
use Rattle.std.proofs.lemmas.List.Elements.{recursion_from_All}
use Rattle.wave_core.specs.declared.wave.Wave.{Wave}
use Rattle.wave_core.specs.Waves.{IsProperWave}
use Rattle.wave_core.specs.Book.{Book, HasCounts, StandsFor}
use Rattle.wave_core.specs.Counting.{noted}
use Rattle.wave_core.proofs.Shapes.{noted_whole, whole_length}
use Rattle.wave_core.proofs.Rising.{noted_all}
use Rattle.wave_core.proofs.book.WaveBook.note.Goals as goal

are_noted : (c : goal.After-note_each) → c.note_each.new.counts.items ≡ noted c.args.device.now c.args.id.now c.args.before c.args.after c.self.inside.waves c.self.inside.counts.items
are_noted c = c.note_each.ensures ∙ ap (λ (ws : List Wave). noted c.args.device.now c.args.id.now c.args.before c.args.after ws c.self.inside.counts.items) c.as_slice.ensures

pub note_each-requires : goal.note_each-requires
note_each-requires c = omega (arith, ap length c.as_slice.ensures, whole_length c.self.inside.waves c.self.inside.counts.items c.self.invariant.whole)

pub invariant_of-self : goal.invariant_of-self
invariant_of-self c = record {
  proper = c.self.invariant.proper;
  whole = subst (λ (all : List (List ℕ)). AllZip HasCounts c.self.inside.waves all) (sym (are_noted c))
      (noted_whole c.args.device.now c.args.id.now c.args.before c.args.after c.self.inside.waves c.self.inside.counts.items c.self.invariant.whole);
}

pub returns-clause-noted : goal.returns-clause-noted
returns-clause-noted c = λ ledger stands rises.
    let waves = c.self.inside.waves in
    let then : StandsFor (record { waves = waves; counts = c.self.inside.counts.items }) ledger = subst (λ (book : Book). StandsFor book ledger) (sym c.self.view_is) stands in
    record {
      counts = are_noted c
          ∙ ap (λ (all : List (List ℕ)). noted c.args.device.now c.args.id.now c.args.before c.args.after waves all) then.counts
          ∙ sym (noted_all ledger c.args.device.now c.args.id.now c.args.before c.args.after rises waves (recursion_from_All IsProperWave waves c.self.invariant.proper.each));
    }
