-- Each kind and its major type, and what is taken one behind the other.
use Rattle.std.proofs.Common.{◌≡◌, ℕ, zero, suc, ◌<◌, List, [], ◌++◌, Ok, refl, sym, ap, subst, ◌∙◌, append_assoc, arith}
use Rattle.std.proofs.lemmas.List.{length-append}
use Rattle.base_types.specs.Bytes.{IsBytes}
use Rattle.cbor_heads.specs.declared.head.Kind.{Kind}
use Rattle.cbor_heads.specs.declared.head.Kind.TheVariants as k
use Rattle.cbor_heads.specs.declared.head.Head.{Head}
use Rattle.cbor_heads.specs.Place.{Place}
use Rattle.cbor_heads.specs.Head.{kind_of}
use Rattle.cbor_heads.specs.HeadReading.{head_at}
use Rattle.cbor_heads.proofs.Public.Heads.{Took, HeadTook, head_takes}

pub Took-none : (p : Place) → IsBytes p.rest → Took p [] p
Took-none p fits = record { rest = refl; at = omega arith; fits = fits }

pub Took-then : (p : Place) (x : List ℕ) (q : Place) (y : List ℕ) (r : Place) → Took p x q → Took q y r → Took p (x ++ y) r
Took-then p x q y r a b = record {
  rest = a.rest ∙ ap (λ (t : List ℕ). x ++ t) b.rest ∙ sym (append_assoc x y r.rest);
  at = omega (arith, a.at, b.at, length-append x y);
  fits = b.fits;
}

abbrev pub major_of : Kind → ℕ
major_of k.Unsigned = 0
major_of k.Negative = 1
major_of k.Bytes = 2
major_of k.Text = 3
major_of k.Array = 4
major_of k.Map = 5
major_of k.Tag = 6
major_of k.Simple = 7

major_of-kind : (m : ℕ) → m < 8 → major_of (kind_of m) ≡ m
major_of-kind zero lt = refl
major_of-kind (suc zero) lt = refl
major_of-kind (suc (suc zero)) lt = refl
major_of-kind (suc (suc (suc zero))) lt = refl
major_of-kind (suc (suc (suc (suc zero)))) lt = refl
major_of-kind (suc (suc (suc (suc (suc zero))))) lt = refl
major_of-kind (suc (suc (suc (suc (suc (suc zero)))))) lt = refl
major_of-kind (suc (suc (suc (suc (suc (suc (suc zero))))))) lt = refl
major_of-kind (suc (suc (suc (suc (suc (suc (suc (suc m)))))))) lt = absurd (omega arith)

pub kind_takes : (p : Place) (x : Head × Place) → IsBytes p.rest → head_at p ≡ Ok x → HeadTook (major_of x.0.kind) p x.0 x.1
kind_takes p x fits e =
    let h = head_takes p x fits e in
    let is : h.0 ≡ major_of x.0.kind = sym (ap major_of h.2.kind ∙ major_of-kind h.0 h.1) in
    subst (λ (m : ℕ). HeadTook m p x.0 x.1) is h.2
