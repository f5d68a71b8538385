use Rattle.std.proofs.Common.{◌≡◌, ℕ, List, [], ◌∷◌, ◌++◌, length, Some, refl, sym, ap, subst, ◌∙◌, arith}
use Rattle.base_types.specs.Bytes.{IsBytes}
use Rattle.cbor_core.specs.declared.item.Item.{Item}
use Rattle.cbor_core.specs.declared.item.Item.TheVariants as i
use Rattle.cbor_core.specs.declared.item.Pair.{Pair}
use Rattle.cbor_core.specs.Spelling.{IsProper}
use Rattle.cbor_core.proofs.Public.KeyOrder.{layers}
use Rattle.cbor_fields.specs.Written.{labelled, put, put_if}
use Rattle.cbor_fields.proofs.Public.Puts.{put_here, put_behind}
use Rattle.teep_messages.specs.declared.options.Options.{Options}
use Rattle.teep_messages.specs.declared.message.Message.TheVariants.{Update}
use Rattle.teep_messages.specs.Options.{no_options}
use Rattle.teep_messages.specs.Proper.{AreProperOptions, IsProperMessage}
use Rattle.teep_messages.specs.Written.{bytes, text, array, option_pairs}
use Rattle.teep_messages.proofs.tests.made.Goals as goal

abbrev filled : Options → List (List ℕ) → List ℕ → List ℕ → List Pair → Options
filled v manifests msg token other = record v { manifests = Some manifests; msg = Some msg; token = Some token; other = other }

abbrev unknown : List Pair
unknown = labelled 24 i.Null ∷ []

pairs : (a t b : Item) → put 20 b (put 11 t (put 10 a unknown)) ≡ labelled 10 a ∷ labelled 11 t ∷ labelled 20 b ∷ unknown
pairs a t b =
    let first : put 10 a unknown ≡ labelled 10 a ∷ unknown = put_here 10 a (labelled 24 i.Null) [] (rw i.outs-Unsigned refl) in
    let second : put 11 t (labelled 10 a ∷ unknown) ≡ labelled 10 a ∷ labelled 11 t ∷ unknown =
    put_behind 11 t (labelled 10 a) unknown (rw i.outs-Unsigned refl) ∙ ap (λ (ps : List Pair). labelled 10 a ∷ ps) (put_here 11 t (labelled 24 i.Null) [] (rw i.outs-Unsigned refl)) in
    let third : put 20 b (labelled 11 t ∷ unknown) ≡ labelled 11 t ∷ labelled 20 b ∷ unknown =
    put_behind 20 b (labelled 11 t) unknown (rw i.outs-Unsigned refl) ∙ ap (λ (ps : List Pair). labelled 11 t ∷ ps) (put_here 20 b (labelled 24 i.Null) [] (rw i.outs-Unsigned refl)) in
    ap (put 20 b) (ap (put 11 t) first ∙ second) ∙ put_behind 20 b (labelled 10 a) (labelled 11 t ∷ unknown) (rw i.outs-Unsigned refl) ∙ ap (λ (ps : List Pair). labelled 10 a ∷ ps) third

option_pairs_are : (manifests : List (List ℕ)) (msg token : List ℕ) → option_pairs (filled no_options manifests msg token unknown) ≡ labelled 10 (array bytes manifests) ∷ labelled 11 (text msg) ∷ labelled 20 (bytes token) ∷ unknown
unfolding put_if
option_pairs_are manifests msg token = pairs (array bytes manifests) (text msg) (bytes token)

item_proper : (manifest msg token : List ℕ) → IsProper (i.Array (i.Unsigned 3 ∷ i.Map (labelled 10 (i.Array (i.Bytes manifest ∷ [])) ∷ labelled 11 (i.Text msg) ∷ labelled 20 (i.Bytes token) ∷ unknown) ∷ []))
item_proper manifest msg token = grind (arith, layers)

options_proper : (manifests : List (List ℕ)) (msg token : List ℕ) → IsBytes token → length token ≡ 8 → AreProperOptions (filled no_options manifests msg token unknown)
options_proper manifests msg token are eight = record {
  challenge_size = tt;
  token_size = (are, omega arith, omega arith);
  reported = tt;
  requested = tt;
  unneeded = tt;
  other = (rw i.outs-Unsigned refl, tt);
}

message_proper : (v : Options) (manifests : List (List ℕ)) (manifest msg token : List ℕ) (other : List Pair) → v ≡ no_options → manifests ≡ manifest ∷ [] → other ≡ unknown → IsBytes token → length token ≡ 8
    → IsProperMessage (Update (filled v manifests msg token other))
message_proper v manifests manifest msg token other none one kept are eight =
    let item : IsProper (i.Array (i.Unsigned 3 ∷ i.Map (option_pairs (filled no_options (manifest ∷ []) msg token unknown)) ∷ [])) =
    subst (λ (ps : List Pair). IsProper (i.Array (i.Unsigned 3 ∷ i.Map ps ∷ []))) (sym (option_pairs_are (manifest ∷ []) msg token)) (item_proper manifest msg token) in
    let made : IsProperMessage (Update (filled no_options (manifest ∷ []) msg token unknown)) = record { fields = options_proper (manifest ∷ []) msg token are eight; item = item } in
    let with_other : IsProperMessage (Update (filled no_options (manifest ∷ []) msg token other)) = subst (λ (ps : List Pair). IsProperMessage (Update (filled no_options (manifest ∷ []) msg token ps))) (sym kept) made in
    let with_manifests : IsProperMessage (Update (filled no_options manifests msg token other)) = subst (λ (ms : List (List ℕ)). IsProperMessage (Update (filled no_options ms msg token other))) (sym one) with_other in
    subst (λ (u : Options). IsProperMessage (Update (filled u manifests msg token other))) (sym none) with_manifests

pub returns : goal.returns
returns c =
    let one = c.in_ok-push.ensures.ok ∙ ap (λ (xs : List (List ℕ)). xs ++ c.in_ok-from_slice.field-0 ∷ []) c.new-manifests.ensures in
    let kept = c.in_ok-push-2.ensures.ok ∙ ap (λ (v : Options). v.other ++ unknown) c.new-options.ensures in
    message_proper c.new-options.result c.push.new.self c.in_ok-from_slice.field-0 c.in_ok-from_str.field-0 c.in_ok-from_slice-2.field-0 c.push-2.new.self c.new-options.ensures one kept
    (subst IsBytes (sym c.in_ok-from_slice-2.ensures) (λ k. omega (arith, c.type_inv.token k))) (ap length c.in_ok-from_slice-2.ensures ∙ c.requires)
