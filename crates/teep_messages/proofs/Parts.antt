-- Messages, part by part.
use Rattle.std.proofs.Common.{◌≡◌, ℕ, List, [], ◌∷◌, refl}
use Rattle.std.specs.Prelude.{Ok, Err}
use Rattle.std.specs.List.{AllByRecursion}
use Rattle.cbor_core.specs.declared.item.Item.{Item}
use Rattle.cbor_fields.specs.Views.{list_of}
use Rattle.item_codec.specs.Part.{Any, Part}
use Rattle.item_codec.specs.Fields.{shaped}
use Rattle.item_codec.proofs.Public.Forms.{any_list, list_exact}
use Rattle.item_codec.proofs.Public.Arrays.{Makes, part_makes, all_made, none_made, choice_makes, part_seen, array_part}
use Rattle.teep_messages.specs.declared.fault.MessageFault.{MessageFault}
use Rattle.teep_messages.specs.declared.fault.MessageFault.TheVariants.{Kind, Shape, NoMemory}
use Rattle.teep_messages.specs.declared.options.Options.{Options}
use Rattle.teep_messages.specs.declared.operation.Operation.{Operation}
use Rattle.teep_messages.specs.declared.message.Message.{Message}
use Rattle.teep_messages.specs.declared.message.Message.TheVariants.{QueryRequest, QueryResponse, Update, Success, Error}
use Rattle.teep_messages.specs.Forms.{suite_of, profile_of}
use Rattle.teep_messages.specs.Messages.{question_in, plain_in, error_in, parts_in, members_in, message_of}
use Rattle.teep_messages.specs.Proper.{AreProperOptions, HasAlgorithm, HasProperFields}
use Rattle.teep_messages.specs.Written.{unsigned, array, suite, profile, members, written}
use Rattle.teep_messages.proofs.Values.{suite_exact, profile_exact}
use Rattle.teep_messages.proofs.Fields.{shape, at_field, number, options_part}

kind_told : (n : ℕ) → Kind n ≡ NoMemory → ⊥
kind_told n e = cc

suites : Part NoMemory (shaped (Shape 102) (list_of suite_of)) (array suite) (AllByRecursion (AllByRecursion Any))
suites = at_field 102 (list_exact suite_exact)

profiles : Part NoMemory (shaped (Shape 103) (list_of profile_of)) (array profile) (AllByRecursion HasAlgorithm)
profiles = at_field 103 (list_exact profile_exact)

-- ---- what was read

-- what is read behind a kind's number
abbrev Behind : ℕ → List Item → Type 0
Behind kind parts = Makes NoMemory members (parts_in kind parts) (unsigned kind ∷ parts) (λ value. Unit {0} → HasProperFields value)

another : (kind : ℕ) (parts : List Item) → Makes NoMemory members (Err (Shape 100)) (unsigned kind ∷ parts) (λ value. Unit {0} → HasProperFields value)
another kind parts = none_made NoMemory members (Shape 100) (unsigned kind ∷ parts) (shape 100)

question_makes : (parts : List Item) → Behind 1 parts
question_makes (o ∷ s ∷ p ∷ n ∷ []) =
    part_makes options_part o members _ (λ x. unsigned 1 ∷ x ∷ s ∷ p ∷ n ∷ []) (λ all. all.1.0) (λ options.
    part_makes suites s members _ (λ x. unsigned 1 ∷ _ ∷ x ∷ p ∷ n ∷ []) (λ all. all.1.1.0) (λ suites.
    part_makes profiles p members _ (λ x. unsigned 1 ∷ _ ∷ _ ∷ x ∷ n ∷ []) (λ all. all.1.1.1.0) (λ profiles.
    part_makes (number 104) n members _ (λ x. unsigned 1 ∷ _ ∷ _ ∷ _ ∷ x ∷ []) (λ all. all.1.1.1.1.0) (λ items.
    all_made NoMemory members _ _ refl (λ items profiles suites options kind. (options, profiles))))))
question_makes parts = another 1 parts

error_makes : (parts : List Item) → Behind 6 parts
error_makes (o ∷ c ∷ []) =
    part_makes options_part o members _ (λ x. unsigned 6 ∷ x ∷ c ∷ []) (λ all. all.1.0) (λ options.
    part_makes (number 105) c members _ (λ x. unsigned 6 ∷ _ ∷ x ∷ []) (λ all. all.1.1.0) (λ code.
    all_made NoMemory members _ _ refl (λ code options kind. options)))
error_makes parts = another 6 parts

response_makes : (parts : List Item) → Behind 2 parts
response_makes (o ∷ []) = part_makes options_part o members _ (λ x. unsigned 2 ∷ x ∷ []) (λ all. all.1.0) (λ options. all_made NoMemory members _ _ refl (λ options kind. options))
response_makes parts = another 2 parts

update_makes : (parts : List Item) → Behind 3 parts
update_makes (o ∷ []) = part_makes options_part o members _ (λ x. unsigned 3 ∷ x ∷ []) (λ all. all.1.0) (λ options. all_made NoMemory members _ _ refl (λ options kind. options))
update_makes parts = another 3 parts

success_makes : (parts : List Item) → Behind 5 parts
success_makes (o ∷ []) = part_makes options_part o members _ (λ x. unsigned 5 ∷ x ∷ []) (λ all. all.1.0) (λ options. all_made NoMemory members _ _ refl (λ options kind. options))
success_makes parts = another 5 parts

kind_makes : (kind : ℕ) (parts : List Item) → Behind kind parts
kind_makes kind parts =
    choice_makes kind 1 members _ _ (λ k. unsigned k ∷ parts) (question_makes parts)
    (choice_makes kind 2 members _ _ (λ k. unsigned k ∷ parts) (response_makes parts)
    (choice_makes kind 3 members _ _ (λ k. unsigned k ∷ parts) (update_makes parts)
    (choice_makes kind 5 members _ _ (λ k. unsigned k ∷ parts) (success_makes parts)
    (choice_makes kind 6 members _ _ (λ k. unsigned k ∷ parts) (error_makes parts)
    (none_made NoMemory members (Kind kind) (unsigned kind ∷ parts) (kind_told kind))))))

makes : (xs : List Item) → Makes NoMemory members (members_in xs) xs HasProperFields
makes [] = none_made NoMemory members (Shape 100) [] (shape 100)
makes (k ∷ parts) = part_makes (number 100) k members _ (λ x. x ∷ parts) (λ all. all.0) (λ kind. kind_makes kind parts)

-- ---- what was written

seen : (m : Message) → HasProperFields m → members_in (members m) ≡ Ok m
seen (QueryRequest options s p n) proper =
    part_seen (number 100) 1 _ _ tt (
    part_seen options_part options _ _ proper.0 (
    part_seen suites s _ _ (any_lists s) (
    part_seen profiles p _ _ proper.1 (
    part_seen (number 104) n _ _ tt refl)))) where
      any_lists : (vs : List (List Operation)) → AllByRecursion (AllByRecursion Any) vs
      any_lists [] = tt
      any_lists (v ∷ vs) = (any_list v, any_lists vs)
seen (QueryResponse options) proper = part_seen (number 100) 2 _ _ tt (part_seen options_part options _ _ proper refl)
seen (Update options) proper = part_seen (number 100) 3 _ _ tt (part_seen options_part options _ _ proper refl)
seen (Success options) proper = part_seen (number 100) 5 _ _ tt (part_seen options_part options _ _ proper refl)
seen (Error options code) proper =
    part_seen (number 100) 6 _ _ tt (
    part_seen options_part options _ _ proper (
    part_seen (number 105) code _ _ tt refl))

pub message_part : Part NoMemory message_of written HasProperFields
unfolding message_of
message_part = array_part NoMemory (Shape 100) members_in members HasProperFields (shape 100) makes seen
