use Rattle.std.proofs.Common.{◌≡◌, refl, sym, subst, ◌∙◌}
use Rattle.hss_verify.specs.Hss.{IsHssPublic}
use Rattle.hss_sign.specs.Sign.{public_of}
use Rattle.hss_sign.proofs.Valid.{is_public}
use Rattle.hss_sign.proofs.key.public_of.Goals as goal

pub unwrap-requires : goal.unwrap-requires
unfolding public_of
unwrap-requires c =
    let bytes : c.deref.result.now ≡ public_of c.args.params c.args.seed.now =
    c.deref.ensures.value ∙ c.in_ok-write_public.ensures.value ∙ rw (c.in_ok-extend_from_slice.ensures.items, c.new-bytes.ensures.items, c.to_be_bytes.ensures, c.requires.secret) refl in
    c.read.ensures.known.1 (subst IsHssPublic (sym bytes) (is_public c.args.params c.args.seed.now c.requires.proper))

pub returns : goal.returns
unfolding public_of
returns c =
    let bytes : c.deref.result.now ≡ public_of c.args.params c.args.seed.now =
    c.deref.ensures.value ∙ c.in_ok-write_public.ensures.value ∙ rw (c.in_ok-extend_from_slice.ensures.items, c.new-bytes.ensures.items, c.to_be_bytes.ensures, c.requires.secret) refl in
    record { value = (rw c.unwrap.ensures at c.read.ensures.value) ∙ bytes }
