use Rattle.std.proofs.Common.{sym, ap, ◌∙◌, ◌++◌, List, ℕ, arith}
use Rattle.device_config.proofs.Heads.{head_is, no_head, no_layout}
use Rattle.device_config.proofs.head.config_in.Goals as goal

pub returns-then-are_zeros : goal.returns-then-are_zeros
returns-then-are_zeros c =
    head_is c.args.head.now c.in_ok-rest.rest.now c.in_ok-rest-2.rest.now c.number_in-size.result.1.now c.split_at.result.0.now c.split_at.result.1.now c.number_in-size.result.0
    c.in_ok-rest.ensures (c.in_ok-rest-2.ensures ∙ ap (λ (l : List ℕ). l ++ c.in_ok-rest-2.rest.now) c.to_be_bytes.ensures) c.number_in-size.ensures c.split_at.ensures.by_index.0 c.split_at.ensures.front_len
    (omega (arith, c.if-size-gt-CONFIG_LIMIT.false)) c.requires (rw (sym c.are_zeros.ensures) c.if-are_zeros.true)

pub returns-else-are_zeros : goal.returns-else-are_zeros
returns-else-are_zeros c =
    no_head c.args.head.now c.in_ok-rest.rest.now c.in_ok-rest-2.rest.now c.number_in-size.result.1.now c.split_at.result.0.now c.split_at.result.1.now c.number_in-size.result.0
    c.in_ok-rest.ensures (c.in_ok-rest-2.ensures ∙ ap (λ (l : List ℕ). l ++ c.in_ok-rest-2.rest.now) c.to_be_bytes.ensures) c.number_in-size.ensures c.split_at.ensures.by_index.0 c.split_at.ensures.front_len
    (omega (arith, c.if-size-gt-CONFIG_LIMIT.false)) (rw (sym c.are_zeros.ensures) c.if-are_zeros.false)

pub returns-in_err-rest-2 : goal.returns-in_err-rest-2
returns-in_err-rest-2 c =
    rw c.from_residual-in_err-rest-2.ensures (no_layout c.args.head.now c.in_ok-rest.rest.now c.to_be_bytes.result c.in_ok-rest.ensures c.to_be_bytes.ensures c.in_err-rest-2.ensures)
