use Rattle.std.proofs.Common.{◌≡◌, ◌/◌, ◌+◌, drop, length, refl, arith}
use Rattle.std.proofs.lemmas.List.{take_rest}
use Rattle.lms_core.specs.Lms.{root_candidate}
use Rattle.lms_core.specs.Layout.{chains_end, signature_at}
use Rattle.lms_core.proofs.Keys.{height_of}
use Rattle.lms_core.proofs.Public.Rows.{leaf_count}
use Rattle.lms_core.proofs.Signatures.{path_size}
use Rattle.lms_core.proofs.verify.root_candidate.Goals as goal

pub returns : goal.returns
unfolding root_candidate signature_at
returns c =
    let key = c.args.key.now in
    let bytes = c.args.signature.now in
    let leaves = leaf_count key.height (height_of key.lms_type key.height c.requires.known.lms_known) in
    let path = take_rest bytes (chains_end key + 4) in
    let path_length = path_size key bytes c.requires.form.size in
    let count : length (drop (chains_end key + 4) bytes) / 32 ≡ key.height = omega (arith, path_length) in
    rw (c.root_above.ensures, c.leaf_hash-leaf.ensures, c.key_candidate-one_time_key.ensures, c.message_hash-digest.ensures, c.array_at.ensures, c.read_u32-q.ensures, c.ots_end-end.ensures, leaves, path, count) refl
