use Rattle.std.proofs.Common.{◌≡◌, ◌∙◌, Err, Ok, sym, subst}
use Rattle.std.proofs.lemmas.Result.{err_from_is_err_and}
use Rattle.board_core.specs.Contents.{Disk}
use Rattle.journal_core.specs.Kept.{Fits}
use Rattle.device_image.specs.Replay.{BegunAs, FitsAlone}
use Rattle.device_image.proofs.Loading.{is_device, small_quota, begun_new, begun_small, finished_safe, config_refused, begun_refused, finished_as}
use Rattle.device_image.proofs.image.load.Goals as goal

pub returns-in_err-config-clause-loaded : goal.returns-in_err-config-clause-loaded
returns-in_err-config-clause-loaded g c = λ told.
    let p = err_from_is_err_and c.from_residual.result c.from_residual.ensures.1 in
    rw (p.1, p.2) (config_refused (g.B.Board.view c.args.board.now).now.disk.bytes c.in_err-config.field-0.0 (c.in_err-config.ensures.loaded told))

pub returns-in_err-begin-clause-loaded : goal.returns-in_err-begin-clause-loaded
returns-in_err-begin-clause-loaded g c = λ told.
    let image = (g.B.Board.view c.args.board.now).now.disk.bytes in
    let config = c.in_ok-config.config in
    let fault = c.in_err-begin.field-0.0 in
    let begun : BegunAs config image (Err fault) = subst (λ (d : Disk). BegunAs config d.bytes (Err fault)) (c.load_config.ensures.same told).disk (c.in_err-begin.ensures.begun told) in
    let p = err_from_is_err_and c.from_residual-in_err-begin.result c.from_residual-in_err-begin.ensures.1 in
    rw (p.1, p.2) (begun_refused image config (c.in_ok-config.ensures.loaded told) fault begun)

pub returns-clause-loaded : goal.returns-clause-loaded
returns-clause-loaded g c = λ told.
    let image = (g.B.Board.view c.args.board.now).now.disk.bytes in
    let config = c.in_ok-config.config in
    let held = c.in_ok-begin.field-0 in
    let begun : FitsAlone held.journal image = subst (λ (d : Disk). FitsAlone held.journal d.bytes) (c.load_config.ensures.same told).disk (c.in_ok-begin.ensures.begun told) in
    let fits : Fits held.journal (g.B.Board.view c.begin.new.board).now.disk.bytes begun.bodies =
    subst (λ (d : Disk). Fits held.journal d.bytes begun.bodies) (sym ((c.begin.ensures.same told).disk ∙ (c.load_config.ensures.same told).disk)) begun.fits in
    finished_as image config (c.in_ok-config.ensures.loaded told) held c.in_ok-begin.ensures.new begun c.finish.result (c.finish.ensures.finished told begun.bodies fits) c.finish.ensures.is_of

pub begin-requires-clause-quota : goal.begin-requires-clause-quota
begin-requires-clause-quota g c = small_quota c.in_ok-config.config c.in_ok-config.ensures.config

pub finish-requires-clause-new : goal.finish-requires-clause-new
finish-requires-clause-new g c = begun_new c.in_ok-config.config c.in_ok-begin.field-0 c.in_ok-begin.ensures.new

pub finish-requires-clause-quota : goal.finish-requires-clause-quota
finish-requires-clause-quota g c = begun_small c.in_ok-config.config c.in_ok-begin.field-0 c.in_ok-begin.ensures.new (small_quota c.in_ok-config.config c.in_ok-config.ensures.config)

pub returns-clause-safe : goal.returns-clause-safe
returns-clause-safe g c =
    finished_safe c.in_ok-config.config c.in_ok-begin.field-0 (g.B.Board.view c.args.board.now).extent c.finish.result c.in_ok-begin.ensures.new
    (is_device c.in_ok-config.config c.in_ok-config.ensures.config) c.in_ok-config.ensures.within c.finish.ensures.valid c.finish.ensures.is_of
