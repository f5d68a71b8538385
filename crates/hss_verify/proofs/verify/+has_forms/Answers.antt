use Rattle.std.proofs.Common.{◌<◌, [], length, arith}
use Rattle.hss_verify.specs.Hss.{HasKeyForm}
use Rattle.hss_verify.proofs.Links.{chained, form_itself, length_read, link_read, linked, linked_from}
use Rattle.hss_verify.proofs.verify.+has_forms.Goals as goal

pub returns-in_default : goal.returns-in_default
returns-in_default t c =
    let some : 0 < c.args.links = omega arith in (
      λ yes. absurd (cc),
      λ chain.
          let link = linked HasKeyForm form_itself c.args.key.now c.args.links c.args.bytes.now [] some chain in
          absurd (c.in_default.not-Some (length link.signature) (length_read HasKeyForm form_itself c.args.key.now c.args.links c.args.bytes.now [] c.first_len.result c.first_len.ensures.only link)),
    )

pub returns-then-lms_has_form : goal.returns-then-lms_has_form
returns-then-lms_has_form t c =
    let some : 0 < c.args.links = omega arith in (
      λ yes. chained HasKeyForm c.args.key.now c.args.links c.args.bytes.now [] some
          (linked_from HasKeyForm c.args.key.now c.args.links c.in-Some.len c.args.bytes.now [] (record {
            room = c.in-Some.ensures.room;
            valid = c.lms_has_form-2.ensures.form.0 c.if-lms_has_form.true;
            more = c.has_forms.ensures.0 yes;
          })),
      λ chain. c.has_forms.ensures.1
          (link_read HasKeyForm form_itself c.args.key.now c.args.links c.in-Some.len c.args.bytes.now [] c.in-Some.ensures.only some chain).more,
    )

pub returns-else-lms_has_form : goal.returns-else-lms_has_form
returns-else-lms_has_form t c =
    let some : 0 < c.args.links = omega arith in (
      λ yes. absurd (cc),
      λ chain. c.lms_has_form-2.ensures.form.1
          (link_read HasKeyForm form_itself c.args.key.now c.args.links c.in-Some.len c.args.bytes.now [] c.in-Some.ensures.only some chain).valid,
    )
