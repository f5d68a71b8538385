use Rattle.std.proofs.Common.{◌≡◌, ◌-◌, ◌<◌, length, ◌++◌, ◌∙◌, sym, arith}
use Rattle.cbor_core.specs.Spelling.{pair_spellings}
use Rattle.cbor_span.proofs.Remaining.{next, behind_next, no_field, has_field, passes_field, past_field, is_there, is_not_there}
use Rattle.cbor_span.proofs.fields.seek.Goals as goal

pub returns-in_default : goal.returns-in_default
returns-in_default c ps more s len =
    let lt : 0 < c.args.count - c.loop-index.index = omega (arith, c.loop-index-test.true) in
    let q = c.loop-index.invariant ps more s len in
    let n = next q.0 (c.args.count - c.loop-index.index) c.loop-index.rest.now more lt q.1 q.2 in
    absurd (c.in_default.ensures n.pair (pair_spellings n.others ++ more) (n.key, n.value, n.bytes))

pub returns-then-is_labelled : goal.returns-then-is_labelled
returns-then-is_labelled c ps more s len =
    let lt : 0 < c.args.count - c.loop-index.index = omega (arith, c.loop-index-test.true) in
    let q = c.loop-index.invariant ps more s len in
    let n = next q.0 (c.args.count - c.loop-index.index) c.loop-index.rest.now more lt q.1 q.2 in
    let r = c.in-Some.ensures n.pair (pair_spellings n.others ++ more) (n.key, n.value, n.bytes) in
    let has = sym (c.is_labelled.ensures n.pair.key r.0) ∙ c.if-is_labelled.true in
    (is_there (λ x. x.now) _ n.pair.value c.in-Some.pair.value (q.3 ∙ has_field c.args.label q.0 _ _ more n has) n.value r.1, (n.others, behind_next q.0 _ _ more n _ r.2, omega (arith, n.count)))

pub loop-index-preserved : goal.loop-index-preserved
loop-index-preserved c ps more s len =
    let lt : 0 < c.args.count - c.loop-index.index = omega (arith, c.loop-index-test.true) in
    let q = c.loop-index.invariant ps more s len in
    let n = next q.0 (c.args.count - c.loop-index.index) c.loop-index.rest.now more lt q.1 q.2 in
    let r = c.in-Some.ensures n.pair (pair_spellings n.others ++ more) (n.key, n.value, n.bytes) in
    let has = sym (c.is_labelled.ensures n.pair.key r.0) ∙ c.if-is_labelled.false in
    (n.others, behind_next q.0 _ _ more n _ r.2, omega (arith, n.count), q.3 ∙ passes_field c.args.label q.0 _ _ more n has)

pub returns : goal.returns
returns c ps more s len =
    let q = c.loop-index.invariant ps more s len in
    let none : length q.0 ≡ 0 = omega (arith, c.loop-index-test.false, q.2) in
    (is_not_there (λ x. x.now) _ (q.3 ∙ no_field c.args.label q.0 none), (q.0, q.1, none))

pub returns-then-is_past_label : goal.returns-then-is_past_label
returns-then-is_past_label c ps more s len =
    let lt : 0 < c.args.count - c.loop-index.index = omega (arith, c.loop-index-test.true) in
    let q = c.loop-index.invariant ps more s len in
    let n = next q.0 (c.args.count - c.loop-index.index) c.loop-index.rest.now more lt q.1 q.2 in
    let r = c.in-Some.ensures n.pair (pair_spellings n.others ++ more) (n.key, n.value, n.bytes) in
    let has = sym (c.is_labelled.ensures n.pair.key r.0) ∙ c.if-is_labelled.false in
    let past = sym c.is_past_label.ensures ∙ c.if-is_past_label.true in
    let none = past_field c.args.label q.0 _ _ more n c.in-Some.pair.key has c.if-label-lt-ONE_BYTE_LIMIT.true r.0 past in
    (is_not_there (λ x. x.now) _ (q.3 ∙ none), (n.others, behind_next q.0 _ _ more n _ r.2, omega (arith, n.count)))
