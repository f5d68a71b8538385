use Rattle.std.proofs.Common.{◌≡◌, ◌∙◌, ◌<◌, List, length, refl, sym, ap, subst}
use Rattle.std.proofs.lemmas.Option.{slice_get_read}
use Rattle.std.specs.List.{slice_get}
use Rattle.journal_core.specs.declared.place.Place.{Place}
use Rattle.journal_core.specs.Kept.{Kept}
use Rattle.journal_core.proofs.Placed.{fits_at}
use Rattle.journal_core.proofs.journal.Journal.place.Goals as goal

pub returns-clause-body : goal.returns-clause-body
returns-clause-body c =
    let kept : List Place = c.self.inside.places.items in
    let places : kept ≡ c.args.self.now.places = ap (λ (k : Kept). k.places) c.self.view_is in
    let within : c.args.index < length kept = subst (λ (l : List Place). c.args.index < length l) (sym places) c.requires in
    fits_at c.args.self.now c.args.index c.index-place.result.now
    (ap (λ (l : List Place). slice_get l c.args.index) (sym places) ∙ slice_get_read kept (length kept) c.args.index c.index-place.result.now refl within c.index-place.ensures)
