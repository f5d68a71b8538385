use Rattle.std.proofs.Common.{◌≡◌, ◌↔◌, List, length, map, get_or, sym, ap, subst, ◌∙◌, arith}
use Rattle.std.specs.Prelude.{IsTrue}
use Rattle.wave_core.specs.declared.wave.Wave.{Wave}
use Rattle.wave_core.specs.Waves.{Open, IsOpenIn, place_in, recorded}
use Rattle.wave_core.specs.Book.{Book, StandsFor}
use Rattle.wave_core.specs.Counting.{IsWaveAt}
use Rattle.wave_core.proofs.Shapes.{whole_length, whole_at, counts_there}
use Rattle.wave_core.proofs.Opening.{told, open_at}
use Rattle.wave_core.proofs.book.WaveBook.open.Goals as goal

pub index-requires : goal.index-requires
index-requires c = omega (arith, c.in-Some.ensures.within, ap length c.as_slice-waves.ensures, whole_length c.self.inside.waves c.self.inside.counts.items c.self.invariant.whole)

pub is_open_in-requires : goal.is_open_in-requires
is_open_in-requires c =
    let waves = c.self.inside.waves in
    let number = c.in-Some.number in
    let wave = c.index-waves-number.result in
    let at : IsWaveAt waves c.args.class.now c.args.id.now number = subst (λ (ws : List Wave). IsWaveAt ws c.args.class.now c.args.id.now number) c.as_slice-waves.ensures c.in-Some.ensures in
    let wave_is : wave ≡ get_or waves number wave = c.index-waves-number.is ∙ ap (λ (ws : List Wave). get_or ws number wave) c.as_slice-waves.ensures in
    ap length c.as_slice.ensures ∙ whole_at waves c.self.inside.counts.items number wave c.index.result.now c.self.invariant.whole at.within wave_is c.index.ensures

pub returns-in-Some : goal.returns-in-Some
returns-in-Some c = λ ledger stands.
    let waves = c.self.inside.waves in
    let number = c.in-Some.number in
    let wave = c.index-waves-number.result in
    let device = c.args.device.now in
    let at : IsWaveAt waves c.args.class.now c.args.id.now number = subst (λ (ws : List Wave). IsWaveAt ws c.args.class.now c.args.id.now number) c.as_slice-waves.ensures c.in-Some.ensures in
    let wave_is : wave ≡ get_or waves number wave = c.index-waves-number.is ∙ ap (λ (ws : List Wave). get_or ws number wave) c.as_slice-waves.ensures in
    let then : StandsFor (record { waves = waves; counts = c.self.inside.counts.items }) ledger = subst (λ (book : Book). StandsFor book ledger) (sym c.self.view_is) stands in
    let counts : c.as_slice.result.now ≡ map (recorded ledger wave) wave.steps
    = c.as_slice.ensures ∙ counts_there ledger waves c.self.inside.counts.items number wave c.index.result.now then.counts at.within wave_is c.index.ensures in
    let here : IsTrue c.is_open_in.result ↔ IsOpenIn wave ledger device = told ledger wave c.is_open_in.result (place_in wave device) c.as_slice.result.now c.is_open_in.ensures counts in
    let all : IsOpenIn wave ledger device ↔ Open waves ledger c.args.class.now c.args.id.now device
    = open_at waves c.self.invariant.proper ledger c.args.class.now c.args.id.now device number wave at wave_is in
    subst (λ (book : Book). IsTrue c.is_open_in.result ↔ Open book.waves ledger c.args.class.now c.args.id.now device) c.self.view_is
    (λ passes. all.0 (here.0 passes), λ is_open. here.1 (all.1 is_open))
