use Rattle.std.proofs.Common.{◌<◌, length, arith}
use Rattle.lms_core.specs.Lms.{LmsValid}
use Rattle.lms_core.proofs.Public.Forms.{valid_is_formed}
use Rattle.hss_verify.proofs.Links.{chained, length_read, link_read, linked, linked_from}
use Rattle.hss_verify.proofs.verify.+verifies.Goals as goal

pub returns-in_default : goal.returns-in_default
returns-in_default t c =
    let some : 0 < c.args.links = omega arith in (
      λ yes. absurd (cc),
      λ chain.
          let link = linked LmsValid valid_is_formed c.args.key.now c.args.links c.args.bytes.now c.args.message.now some chain in
          absurd (c.in_default.not-Some (length link.signature) (length_read LmsValid valid_is_formed c.args.key.now c.args.links c.args.bytes.now c.args.message.now c.first_len.result c.first_len.ensures.only link)),
    )

pub returns-then-lms_verify : goal.returns-then-lms_verify
returns-then-lms_verify t c =
    let some : 0 < c.args.links = omega arith in (
      λ yes. chained LmsValid c.args.key.now c.args.links c.args.bytes.now c.args.message.now some
          (linked_from LmsValid c.args.key.now c.args.links c.in-Some.len c.args.bytes.now c.args.message.now (record {
            room = c.in-Some.ensures.room;
            valid = c.lms_verify.ensures.0 c.if-lms_verify.true;
            more = c.verifies.ensures.0 yes;
          })),
      λ chain. c.verifies.ensures.1
          (link_read LmsValid valid_is_formed c.args.key.now c.args.links c.in-Some.len c.args.bytes.now c.args.message.now c.in-Some.ensures.only some chain).more,
    )

pub returns-else-lms_verify : goal.returns-else-lms_verify
returns-else-lms_verify t c =
    let some : 0 < c.args.links = omega arith in (
      λ yes. absurd (cc),
      λ chain. c.lms_verify.ensures.1
          (link_read LmsValid valid_is_formed c.args.key.now c.args.links c.in-Some.len c.args.bytes.now c.args.message.now c.in-Some.ensures.only some chain).valid,
    )
