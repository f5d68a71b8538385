use Rattle.std.proofs.Common.{refl, ◌∙◌}
use Rattle.hss_sign.specs.Sign.{signed_key}
use Rattle.hss_sign.proofs.key.lower_tree.Goals as goal

pub returns : goal.returns
unfolding signed_key
returns g c =
    let secret = c.below.ensures ∙ rw c.requires.secret refl in
    record {
      value = (
        record {
          secret = c.in_ok-tree.ensures.1 ∙ secret;
          grown = rw secret at c.in_ok-tree.ensures.0;
          signed = c.in_ok-extend_from_slice.ensures.items ∙ rw (
            c.in_ok-write_signature.ensures.value,
            c.new-signed.ensures.items,
            c.deref-2.ensures.value,
            c.deref.ensures.value,
            c.in_ok-write_public.ensures.value,
            c.new-public.ensures.items,
            c.in_ok-tree.ensures.1,
            secret,
            c.requires.secret,
          ) refl;
        },
        refl,
      );
    }
