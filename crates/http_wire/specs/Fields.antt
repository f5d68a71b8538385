-- The fields of a head (RFC 9110, sections 5 and 8): each a name, and a value without the white space around it.
use Rattle.std.specs.Prelude.{ℕ, Bool, true, false, ◌&&◌, ◌==◌, nat_lt, nat_le, List, [], ◌∷◌, length, map, filter, codes, if◌then◌else◌}
use Rattle.std.specs.List.{list_all, before_first}
use Rattle.std.specs.Char.{to_ascii_lowercase, is_ascii_digit}
use Rattle.std.specs.Str.{bytes_eq}
use Rattle.std.specs.Str.Parse.{digits_value}
use Rattle.http_wire.specs.declared.fields.BodyLength.{BodyLength}
use Rattle.http_wire.specs.declared.fields.BodyLength.TheVariants.{Unsaid, Said, Bad}

-- a name and a value
abbrev pub Part : Type 0
Part = List ℕ × List ℕ

-- the texts are the same but for the case of ASCII letters
abbrev pub is_same_text : List ℕ → List ℕ → Bool
is_same_text a b = bytes_eq (map to_ascii_lowercase a) (map to_ascii_lowercase b)

-- the values of the fields of a name, in order; names have no case (RFC 9110, section 5.1)
abbrev pub values : List ℕ → List Part → List (List ℕ)
values name parts = map (λ (p : Part). p.1) (filter (λ (p : Part). is_same_text p.0 name) parts)

-- 1 to 18 digits
abbrev pub is_length : List ℕ → Bool
is_length value = (nat_lt 0 (length value) && nat_le (length value) 18) && list_all is_ascii_digit value

-- none, one, or a length that is bad: repeated, or not 1 to 18 digits (RFC 9110, section 8.6)
abbrev pub length_in : List (List ℕ) → BodyLength
length_in [] = Unsaid
length_in (value ∷ []) = if is_length value then Said (digits_value 10 value) else Bad
length_in (value ∷ other ∷ more) = Bad

-- the length that a head says of its body
abbrev pub content_length : List Part → BodyLength
content_length parts = length_in (values (codes "content-length") parts)

-- what stands before the parameters of a media type (RFC 9110, section 8.3.1)
abbrev pub without_parameters : List ℕ → List ℕ
without_parameters value = before_first (λ byte. byte == 59) value

-- the values are none
abbrev pub are_none : List (List ℕ) → Bool
are_none [] = true
are_none (value ∷ more) = false

-- the first of the values is this media type
abbrev pub is_media : List ℕ → List (List ℕ) → Bool
is_media media [] = false
is_media media (value ∷ more) = is_same_text (without_parameters value) media
