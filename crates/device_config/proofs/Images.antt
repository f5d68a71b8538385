-- What an image says of its device.
use Rattle.std.proofs.Common.{◌≡◌, ◌≤◌, ◌<◌, ◌+◌, ◌-◌, ◌^◌, ℕ, List, [], ◌++◌, length, take, drop, codes, replicate, refl, sym, ap, subst, ◌∙◌, arith}
use Rattle.std.specs.Int.{to_be_bytes, from_be_bytes, w32}
use Rattle.std.proofs.lemmas.Nat.{from_be_bytes-to_be_bytes_4}
use Rattle.std.proofs.lemmas.List.{length-append, take-append-drop, length-replicate, take_at, take_all}
use Rattle.device_config.specs.declared.config.Config.{Config}
use Rattle.device_config.specs.declared.config.TheConstants.{CONFIG_LIMIT}
use Rattle.device_config.specs.Config.{ConfigIs}
use Rattle.device_config.specs.Image.{IsHead, IsImage, IsNewImage, head_bytes, journal_region}
use Rattle.journal_core.specs.Region.{region_size, RegionStands}
use Rattle.journal_core.specs.declared.region.Region.{Region}
use Rattle.journal_core.proofs.Public.Elsewhere.{zeros_law}
use Rattle.std.proofs.Math.Seq.{drop-append_seam}
use Rattle.device_config.proofs.Readers.{one_config}

-- the zeros at the end of a head
abbrev zeros_behind : List ℕ → List ℕ
zeros_behind config = replicate {A = ℕ} (CONFIG_LIMIT - length config) 0

-- a head has 65,536 bytes
head_size : (config : List ℕ) → length config ≤ CONFIG_LIMIT → length (head_bytes config) ≡ 65536
head_size config short =
    let mark : length (codes "TEEPIMG1") ≡ 8 = refl in
    let layout : length (to_be_bytes w32 1) ≡ 4 = refl in
    let number : length (to_be_bytes w32 (length config)) ≡ 4 = refl in
    omega (
      arith,
      short,
      mark,
      layout,
      number,
      length-append (codes "TEEPIMG1") (to_be_bytes w32 1 ++ (to_be_bytes w32 (length config) ++ (config ++ zeros_behind config))),
      length-append (to_be_bytes w32 1) (to_be_bytes w32 (length config) ++ (config ++ zeros_behind config)),
      length-append (to_be_bytes w32 (length config)) (config ++ zeros_behind config),
      length-append config (zeros_behind config),
      length-replicate {A = ℕ} (CONFIG_LIMIT - length config) 0,
    )

-- a head is that of one configuration
one_head : (a b : List ℕ) → length a ≤ CONFIG_LIMIT → length b ≤ CONFIG_LIMIT → head_bytes a ≡ head_bytes b → a ≡ b
one_head a b short_a short_b same =
    let numbers : to_be_bytes w32 (length a) ≡ to_be_bytes w32 (length b) = ap (λ (l : List ℕ). take 4 (drop 12 l)) same in
    let fits_a : length a < 2 ^ 32 = omega (arith, short_a) in
    let fits_b : length b < 2 ^ 32 = omega (arith, short_b) in
    let sizes : length a ≡ length b = sym (from_be_bytes-to_be_bytes_4 (length a) fits_a) ∙ ap (from_be_bytes w32) numbers ∙ from_be_bytes-to_be_bytes_4 (length b) fits_b in
    let bodies : a ++ zeros_behind a ≡ b ++ zeros_behind b = ap (drop 16) same in
    sym (take_at a (zeros_behind a) (length a) refl) ∙ ap (take (length a)) bodies ∙ take_at b (zeros_behind b) (length a) (sym sizes)

-- the first 65,536 bytes of an image are the head of its configuration
pub at_front : (image : List ℕ) (v : Config) (is : IsImage v image) → take 65536 image ≡ head_bytes is.config
at_front image v is = ap (take 65536) is.spelled ∙ take_at (head_bytes is.config) is.region 65536 (head_size is.config is.is.short)

-- an image is that of one configuration
pub one_image : (image : List ℕ) (v w : Config) → IsImage v image → IsImage w image → v ≡ w
one_image image v w first second =
    let same : first.config ≡ second.config = one_head first.config second.config first.is.short second.is.short (sym (at_front image v first) ∙ at_front image w second) in
    one_config second.config v w (subst (λ (c : List ℕ). ConfigIs v c) same first.is) second.is

module _ (image head : List ℕ) (front : head ≡ take 65536 image) where
  -- an image without a head is none
  pub without_head : ((config : List ℕ) → IsHead config head → ⊥) → (v : Config) → IsImage v image → ⊥
  without_head none v is = none is.config (record { short = is.is.short; spelled = front ∙ at_front image v is })

  module _ (bytes : List ℕ) (head_is : IsHead bytes head) where
    -- the configuration in the head is that of the image
    config_at : (v : Config) → IsImage v image → ConfigIs v bytes
    config_at v is =
        let same : is.config ≡ bytes = one_head is.config bytes is.is.short head_is.short (sym (at_front image v is) ∙ sym front ∙ head_is.spelled) in
        subst (λ (c : List ℕ). ConfigIs v c) same is.is

    pub without_config : ((v : Config) → ConfigIs v bytes → ⊥) → (v : Config) → IsImage v image → ⊥
    without_config none v is = none v (config_at v is)

    whole : (v : Config) (is : IsImage v image) → length image ≡ 65536 + length is.region
    whole v is = ap length is.spelled ∙ length-append (head_bytes is.config) is.region ∙ ap (λ (n : ℕ). n + length is.region) (head_size is.config is.is.short)

    pub without_room : (w : Config) → ConfigIs w bytes → length image < 65536 + region_size (journal_region w.quota) → (v : Config) → IsImage v image → ⊥
    without_room w config small v is =
        let same : v ≡ w = one_config bytes v w (config_at v is) config in
        let room : region_size (journal_region w.quota) ≤ length is.region = subst (λ (c : Config). region_size (journal_region c.quota) ≤ length is.region) same is.room in
        omega (arith, small, room, whole v is)

    pub with_room : (w : Config) → ConfigIs w bytes → 65536 + region_size (journal_region w.quota) ≤ length image → IsImage w image
    with_room w config enough =
        let split : image ≡ head_bytes bytes ++ drop 65536 image = sym (take-append-drop 65536 image) ∙ ap (λ (l : List ℕ). l ++ drop 65536 image) (sym front ∙ head_is.spelled) in
        record {
          config = bytes;
          is = config;
          region = drop 65536 image;
          spelled = split;
          room = omega (arith, enough, ap length split, length-append (head_bytes bytes) (drop 65536 image), head_size bytes head_is.short);
        }

-- an image of the same head and size is that of the same configuration
pub kept_image : (v : Config) (old new : List ℕ) → IsImage v old → length new ≡ length old → take 65536 new ≡ take 65536 old → IsImage v new
kept_image v old new is size front =
    let long : length old ≡ 65536 + length is.region = ap length is.spelled ∙ length-append (head_bytes is.config) is.region ∙ ap (λ (n : ℕ). n + length is.region) (head_size is.config is.is.short) in
    let head_is : IsHead is.config (take 65536 old) = record { short = is.is.short; spelled = at_front old v is } in
    with_room new (take 65536 old) (sym front) is.config head_is v is.is (omega (arith, size, long, is.room))

-- a new image is that of its configuration
pub new_image : (v : Config) (image : List ℕ) → IsNewImage v image → IsImage v image
new_image v image new = record {
  config = new.config;
  is = new.is;
  region = replicate {A = ℕ} (region_size (journal_region v.quota)) 0;
  spelled = new.spelled;
  room = omega (arith, length-replicate {A = ℕ} (region_size (journal_region v.quota)) 0);
}

-- zeros behind so many bytes stand for the empty list
zeros_behind_front : (region : Region) (front image : List ℕ) → length front ≡ region.at → 0 < region.half → image ≡ front ++ replicate {A = ℕ} (region_size region) 0 → RegionStands region image []
zeros_behind_front region front image size room spelled =
    let zeros = replicate {A = ℕ} (region_size region) 0 in
    let count : length zeros ≡ region_size region = length-replicate {A = ℕ} (region_size region) 0 in
    let long : length image ≡ region.at + region_size region = ap length spelled ∙ length-append front zeros ∙ omega (arith, size, count) in
    let behind : drop region.at image ≡ zeros = ap (drop region.at) spelled ∙ ap (λ (k : ℕ). drop k (front ++ zeros)) (sym size) ∙ drop-append_seam front zeros in
    zeros_law region image (omega (arith, long)) room (ap (take (region_size region)) behind ∙ take_all (region_size region) zeros (omega (arith, count)))

-- the journal of a new image stands for the empty list
pub empty_journal : (v : Config) (image : List ℕ) → IsNewImage v image → RegionStands (journal_region v.quota) image []
empty_journal v image new = zeros_behind_front (journal_region v.quota) (head_bytes new.config) image (head_size new.config new.is.short) (omega arith) new.spelled
