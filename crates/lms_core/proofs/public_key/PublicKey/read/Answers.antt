use Rattle.std.proofs.Common.{◌≡◌, ℕ, ◌<◌, Some, length, get_or, sym, ◌∙◌, ap, arith}
use Rattle.lms_core.specs.Parameters.{ots_table}
use Rattle.lms_core.proofs.Keys.{fields_at, one_key, spelled_at}
use Rattle.lms_core.proofs.Public.Parts.{length-part}
use Rattle.lms_core.proofs.public_key.PublicKey.read.Goals as goal

pub returns-in_err-params-clause-only : goal.returns-in_err-params-clause-only
returns-in_err-params-clause-only c = λ key spells.
    let place = fields_at c.args.bytes.now key spells in
    let known = c.in_err-params.ensures.table ∙ ap ots_table (c.read_u32-ots_type.ensures ∙ place.ots_type) ∙ spells.known.ots_known in
    cc

pub returns-clause-found : goal.returns-clause-found
returns-clause-found c =
    let size : length c.args.bytes.now ≡ 56 = omega arith in
    let identifier = length-part c.args.bytes.now 8 24 (omega arith) (omega arith) in
    let root = length-part c.args.bytes.now 24 56 (omega arith) (omega arith) in
    let fits : (i : ℕ) → get_or c.args.bytes.now i 0 < 256 = λ i. omega (arith, c.type_inv.bytes i) in
    record {
      known = record {
        lms_known = sym c.in_ok-height.ensures.table;
        ots_known = sym c.in_ok-params.ensures.table;
        identifier_length = ap length c.array_at.ensures ∙ identifier;
        root_length = ap length c.array_at-2.ensures ∙ root;
      };
      spelled = rw (c.read_u32-lms_type.ensures, c.read_u32-ots_type.ensures, c.array_at.ensures, c.array_at-2.ensures) (spelled_at c.args.bytes.now fits size);
    }

pub returns-clause-only : goal.returns-clause-only
returns-clause-only c = λ key spells. ap Some (one_key c.args.bytes.now _ key (returns-clause-found c) spells)
