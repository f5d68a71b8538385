-- Of the items that bytes spell, one at most has a value in a form.
use Rattle.std.proofs.Common.{◌≡◌, ℕ, ◌<◌, Bool, true, false, List, [], ◌∷◌, length, drop, Option, Some, None, map, refl, sym, ap, subst, ◌∙◌, inl, inr, arith, cond}
use Rattle.std.specs.Prelude.{option_map, option_and_then}
use Rattle.std.specs.List.{AllByRecursion}
use Rattle.std.proofs.lemmas.List.{drop_all, drop_more}
use Rattle.cbor_core.specs.declared.item.Item.{Item}
use Rattle.cbor_core.specs.declared.item.Item.TheVariants as i
use Rattle.cbor_heads.specs.declared.fault.Fault.{Fault}
use Rattle.cbor_core.specs.Spelling.{spelling, Spells}
use Rattle.cbor_core.specs.Law.{SpellsFront, IsFaultyWhole}
use Rattle.cbor_core.specs.Views.{unsigned_of, bytes_of, text_of, truth_of, array_of}
use Rattle.cbor_core.proofs.Public.Whole.{reads, refuses, whole_front}
use Rattle.cbor_fields.specs.Views.{each_of, list_of, is_id, id_of}
use Rattle.cbor_fields.specs.Written.{IsSpelled, Determines, whole, decoded_by, decoded}
use Rattle.cbor_fields.specs.Law.{FormsDetermine}
use Rattle.cbor_fields.proofs.Public.Spelled.{members_spelled}
use Rattle.cbor_core.proofs.Public.Views.{unsigned_is, bytes_is, text_is, truth_is, array_is}

pub unsigned_determines : Determines unsigned_of (λ n. i.Unsigned n)
unsigned_determines x n s e = unsigned_is x n e

pub bytes_determines : Determines bytes_of (λ b. i.Bytes b)
bytes_determines x b s e = bytes_is x b e

pub text_determines : Determines text_of (λ t. i.Text t)
text_determines x t s e = text_is x t e

pub truth_determines : Determines truth_of (λ b. i.Truth b)
truth_determines x b s e = truth_is x b e

-- ---- lists

module _ {V : Type 0} (view : Item → Option V) (item : V → Item) (determines : Determines view item) where
  each_is : (xs : List Item) (vs : List V) → AllByRecursion IsSpelled xs → each_of view xs ≡ Some vs → xs ≡ map item vs
  each_is [] [] all e = refl
  each_is [] (v ∷ vs) all e = absurd cc
  each_is (x ∷ xs) vs all e = by_first (view x) refl (λ us h. each_is xs us all.1 h) vs e where
    by_rest : (v : V) → view x ≡ Some v → ((us : List V) → each_of view xs ≡ Some us → xs ≡ map item us) → (o : Option (List V)) → each_of view xs ≡ o → (vs : List V) → option_map (λ ys. v ∷ ys) o ≡ Some vs → x ∷ xs ≡ map item vs
    by_rest v is later None rest vs e = absurd cc
    by_rest v is later (Some ws) rest [] e = absurd cc
    by_rest v is later (Some ws) rest (u ∷ us) e =
        let first : v ≡ u = cc in
        let more : ws ≡ us = cc in
        let x_is : x ≡ item u = determines x u all.0 (is ∙ ap (λ (z : V). Some z) first) in
        let xs_are : xs ≡ map item us = later us (rest ∙ ap (λ (zs : List V). Some zs) more) in
        cc

    by_first : (o : Option V) → view x ≡ o → ((us : List V) → each_of view xs ≡ Some us → xs ≡ map item us) → (vs : List V) → option_and_then (λ y. option_map (λ ys. y ∷ ys) (each_of view xs)) o ≡ Some vs → x ∷ xs ≡ map item vs
    by_first None is later vs e = absurd cc
    by_first (Some v) is later vs e = by_rest v is later (each_of view xs) refl vs e

  by_array : (x : Item) → IsSpelled x → (o : Option (List Item)) → array_of x ≡ o → (vs : List V) → option_and_then (each_of view) o ≡ Some vs → x ≡ i.Array (map item vs)
  by_array x s None is vs e = absurd cc
  by_array x s (Some xs) is vs e = array_is x xs is ∙ ap (λ (ys : List Item). i.Array ys) (each_is xs vs (members_spelled x xs s is) e)

  pub list_determines : Determines (list_of view) (λ vs. i.Array (map item vs))
  list_determines x vs s e = by_array x s (array_of x) refl vs e

-- ---- identifiers

whole_end : (x : Item) (bytes : List ℕ) → bytes ≡ [] → whole x bytes ≡ x
whole_end x [] e = refl
whole_end x (byte ∷ bytes) e = absurd cc

-- what bytes spell is decoded
pub decoded_is : (bytes : List ℕ) (x : Item) → Spells x bytes → decoded bytes ≡ x
unfolding decoded
decoded_is bytes x s =
    let front = whole_front bytes x s in
    ap decoded_by (reads bytes x (length bytes) front.0 front.1) ∙ whole_end x (drop (length bytes) bytes) (drop_all (length bytes) bytes (omega arith))

decoded_front : (bytes : List ℕ) (x : Item) (n : ℕ) → SpellsFront bytes x n → n < length bytes → decoded bytes ≡ i.Null
unfolding decoded
decoded_front bytes x n front more =
    ap decoded_by (reads bytes x n front.0 front.1) ∙ ap (whole x) (drop_more bytes n 0 more)

-- bytes that spell no item
pub decoded_none : (bytes : List ℕ) (f : Fault) → IsFaultyWhole bytes f → decoded bytes ≡ i.Null
unfolding decoded
decoded_none bytes f (inl faulty) = ap decoded_by (refuses bytes f faulty)
decoded_none bytes f (inr extra) = decoded_front bytes extra.item f.at extra.front extra.more

by_id : (x : Item) (bytes : List ℕ) (b : Bool) → IsSpelled x → is_id x ≡ b → cond b (Some (spelling x)) None ≡ Some bytes → x ≡ decoded bytes
by_id x bytes true s is e =
    let same : spelling x ≡ bytes = cc in
    sym (decoded_is bytes x (subst (λ (t : List ℕ). Spells x t) same s))
by_id x bytes false s is e = absurd cc

pub id_determines : Determines id_of decoded
id_determines x bytes s e = by_id x bytes (is_id x) s refl e

pub forms_determine : FormsDetermine
forms_determine = record {
  unsigned = unsigned_determines;
  bytes = bytes_determines;
  text = text_determines;
  truth = truth_determines;
  id = id_determines;
}
