use Rattle.std.proofs.Common.{◌≡◌, ℕ, List, Option, Result, Ok, Err, ap, ◌∙◌}
use Rattle.std.specs.Prelude.{IfOk}
use Rattle.base_types.specs.declared.memory.NoMemory.{NoMemory}
use Rattle.cbor_core.specs.declared.item.Pair.{Pair}
use Rattle.cbor_fields.specs.Written.{decoded, put_if}
use Rattle.teep_messages.specs.Written.{unsigned, bytes, text, array, reported, requested}
use Rattle.teep_messages.proofs.write_options.write_pairs.Goals as goal

-- the last option is put among the pairs that the others gave
behind : (token : Option (List ℕ)) (ps so_far : List Pair) (r : Result (List Pair) NoMemory) → ps ≡ so_far → IfOk r (λ qs. qs ≡ put_if bytes 20 token ps) → IfOk r (λ qs. qs ≡ put_if bytes 20 token so_far)
behind token ps so_far (Ok qs) same is = is ∙ ap (put_if bytes 20 token) same
behind token ps so_far (Err e) same is = tt

pub returns : goal.returns
returns c =
    let v = c.args.options.now in
    let kept = c.in_ok-pairs.ensures ∙ c.as_slice.ensures in
    let challenge = c.in_ok-pairs-2.ensures ∙ ap (put_if bytes 2 v.challenge) kept in
    let versions = c.in_ok-pairs-3.ensures ∙ ap (put_if (array unsigned) 3 v.versions) challenge in
    let selected = c.in_ok-pairs-4.ensures ∙ ap (put_if unsigned 6 v.selected) versions in
    let evidence = c.in_ok-pairs-5.ensures ∙ ap (put_if bytes 7 v.evidence) selected in
    let reports = c.in_ok-pairs-6.ensures ∙ ap (put_if (array reported) 8 v.reported) evidence in
    let manifests = c.in_ok-pairs-7.ensures ∙ ap (put_if (array bytes) 10 v.manifests) reports in
    let msg = c.in_ok-pairs-8.ensures ∙ ap (put_if text 11 v.msg) manifests in
    let err_msg = c.in_ok-pairs-9.ensures ∙ ap (put_if text 12 v.err_msg) msg in
    let evidence_format = c.in_ok-pairs-10.ensures ∙ ap (put_if text 13 v.evidence_format) err_msg in
    let requests = c.in_ok-pairs-11.ensures ∙ ap (put_if (array requested) 14 v.requested) evidence_format in
    let unneeded = c.in_ok-pairs-12.ensures ∙ ap (put_if (array decoded) 15 v.unneeded) requests in
    behind v.token c.in_ok-pairs-12.pairs _ c.put_field-12.result unneeded c.put_field-12.ensures
