use Rattle.std.proofs.Common.{Err, refl, subst}
use Rattle.device_config.specs.declared.fault.MountFault.{MountFault}
use Rattle.component_store.specs.Outcome.{MountedAs}
use Rattle.component_store.specs.Stores.{state, keeps}
use Rattle.component_store.specs.StoreLaws.{any_stands}
use Rattle.agent_run.proofs.Caused.{since_mount}
use Rattle.agent_run.proofs.Mounting.{not_started, survived, mounted, to_end, ran_as, ended_as}
use Rattle.agent_run.proofs.run.run_agent.Goals as goal

pub returns-in-Ok-clause-any_moment : goal.returns-in-Ok-clause-any_moment
returns-in-Ok-clause-any_moment g c = λ told is_run clean s stood.
    let old = g.B.Board.view c.args.board.now in
    let mid = g.B.Board.view c.mount.new.board in
    let new = g.B.Board.view c.run_store.new.board in
    let same = c.mount.ensures.same told in
    survived old mid (g.met.B.Board.laws c.args.board.now told) clean s stood same.silent same.bytes (c.mount.ensures.moments told) new c.run_store.result
    (ran_as old mid c.one_state.ensures c.in-Ok.store (c.in-Ok.ensures.mounted told) s stood same.bytes new c.run_store.result (c.run_store.ensures.ran told (c.in-Ok.ensures.clean told)))

pub returns-in-Ok-clause-ran : goal.returns-in-Ok-clause-ran
returns-in-Ok-clause-ran g c = λ told is_run clean s stood.
    let old = g.B.Board.view c.args.board.now in
    let mid = g.B.Board.view c.mount.new.board in
    let new = g.B.Board.view c.run_store.new.board in
    let same = c.mount.ensures.same told in
    mounted old mid (g.met.B.Board.laws c.args.board.now told) clean s stood same.silent same.bytes (c.mount.ensures.moments told) new c.run_store.result
    (ran_as old mid c.one_state.ensures c.in-Ok.store (c.in-Ok.ensures.mounted told) s stood same.bytes new c.run_store.result (c.run_store.ensures.ran told (c.in-Ok.ensures.clean told)))

pub returns-in-Ok-clause-unmounted : goal.returns-in-Ok-clause-unmounted
returns-in-Ok-clause-unmounted g c = λ told is_run none.
    absurd (none (state c.in-Ok.store) (any_stands c.in-Ok.store (g.B.Board.view c.args.board.now).now.disk.bytes (c.in-Ok.ensures.mounted told)))

pub returns-in-Ok-clause-complete : goal.returns-in-Ok-clause-complete
returns-in-Ok-clause-complete g c = λ told is_run clean s stood nothing memory frames end events.
    let old = g.B.Board.view c.args.board.now in
    let mid = g.B.Board.view c.mount.new.board in
    let new = g.B.Board.view c.run_store.new.board in
    let same = c.mount.ensures.same told in
    to_end old mid (g.met.B.Board.laws c.args.board.now told) clean s stood same.silent same.bytes (c.mount.ensures.moments told) new c.run_store.result end frames
    (ended_as old mid c.one_state.ensures c.in-Ok.store (c.in-Ok.ensures.mounted told) s stood same.bytes same.silent new c.run_store.result frames end events (λ kept ends. c.run_store.ensures.exactly told (c.in-Ok.ensures.clean told) kept (since_mount c.in-Ok.ensures.cause (λ is. cc) nothing) memory frames end ends))

pub returns-in-Err-BadImage-clause-bad_image : goal.returns-in-Err-BadImage-clause-bad_image
returns-in-Err-BadImage-clause-bad_image g c = λ told bad s stood.
    subst (λ (e : MountFault). MountedAs keeps (g.B.Board.view c.args.board.now).now.disk.bytes (Err e)) c.in-Err-BadImage.field-0-is (c.in-Err-BadImage.ensures.mounted told) s stood

pub returns-in-Err-BadImage-clause-any_moment : goal.returns-in-Err-BadImage-clause-any_moment
returns-in-Err-BadImage-clause-any_moment g c = λ told is_run clean s stood. absurd (returns-in-Err-BadImage-clause-bad_image g c told refl s stood)

pub returns-in-Err-BadImage-clause-ran : goal.returns-in-Err-BadImage-clause-ran
returns-in-Err-BadImage-clause-ran g c = λ told is_run clean s stood. absurd (returns-in-Err-BadImage-clause-bad_image g c told refl s stood)

pub returns-in-Err-BadImage-clause-complete : goal.returns-in-Err-BadImage-clause-complete
returns-in-Err-BadImage-clause-complete g c = λ told is_run clean s stood nothing memory frames end events. absurd (returns-in-Err-BadImage-clause-bad_image g c told refl s stood)

pub returns-in-Err-DiskFault-clause-any_moment : goal.returns-in-Err-DiskFault-clause-any_moment
returns-in-Err-DiskFault-clause-any_moment g c = λ told is_run clean s stood.
    let same = c.mount.ensures.same told in
    not_started (g.B.Board.view c.args.board.now) (g.B.Board.view c.mount.new.board) (g.met.B.Board.laws c.args.board.now told) clean s stood same.silent same.bytes (c.mount.ensures.moments told)

pub returns-in-Err-NoMemory-clause-any_moment : goal.returns-in-Err-NoMemory-clause-any_moment
returns-in-Err-NoMemory-clause-any_moment g c = λ told is_run clean s stood.
    let same = c.mount.ensures.same told in
    not_started (g.B.Board.view c.args.board.now) (g.B.Board.view c.mount.new.board) (g.met.B.Board.laws c.args.board.now told) clean s stood same.silent same.bytes (c.mount.ensures.moments told)
