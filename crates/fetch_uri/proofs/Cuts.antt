-- Where a text is cut: at its first colon, and at the first slash behind it.
use Rattle.std.proofs.Common.{◌≡◌, ◌≢◌, ℕ, suc, ◌+◌, ◌<◌, ◌≤◌, true, false, List, [], ◌∷◌, ◌++◌, length, get_or, take, drop, Option, MatchOption, codes, decimal, Bor}
use Rattle.std.proofs.Common.{refl, sym, ap, ◌∙◌, arith, append_assoc, length-append, take-append-drop, length-take-le, add-zero}
use Rattle.std.specs.List.{AllPass}
use Rattle.std.proofs.lemmas.Fmt.{decimal_is_IsNumeral}
use Rattle.std.proofs.lemmas.Str.Parse.{digit_at}
use Rattle.std.proofs.lemmas.Str.Pattern.{IsSplitOnceResult, split_after}
use Rattle.std.proofs.lemmas.List.{append_cancel_left, get_or-append-add, get_or-take, get_or-drop}
use Rattle.fetch_uri.specs.Address.{is_host_byte, UriIs}
use Rattle.fetch_uri.specs.Parts.{LacksByte}

-- no colon stands in a host
pub host_lacks_colon : (host : List ℕ) → AllPass is_host_byte host → LacksByte 58 host
host_lacks_colon host all i below colon =
    let e : is_host_byte (get_or host i 0) ≡ true = all i 0 below in
    let impossible : false ≡ true = rw colon at e in
    cc

-- no slash stands in the digits of a port
pub digits_lack_slash : (port : ℕ) → port ≤ 65535 → LacksByte 47 (decimal port)
digits_lack_slash port most i below slash =
    let range = digit_at (decimal port) i (decimal_is_IsNumeral port (omega arith)).0.1 below in
    omega (arith, range)

-- two cuts at the first slash are the same cut
pub one_cut : (xs ys us vs : List ℕ) → xs ++ ys ≡ us ++ vs → LacksByte 47 xs → LacksByte 47 us → get_or ys 0 0 ≡ 47 → get_or vs 0 0 ≡ 47 → (xs ≡ us) × (ys ≡ vs)
one_cut [] ys [] vs e lacks lacks' at at' = (refl, e)
one_cut [] ys (u ∷ us) vs e lacks lacks' at at' = absurd (lacks' 0 (omega arith) (sym (ap (λ (l : List ℕ). get_or l 0 0) e) ∙ at))
one_cut (x ∷ xs) ys [] vs e lacks lacks' at at' = absurd (lacks 0 (omega arith) (ap (λ (l : List ℕ). get_or l 0 0) e ∙ at'))
one_cut (x ∷ xs) ys (u ∷ us) vs e lacks lacks' at at' =
    let first : x ≡ u = cc in
    let behind : xs ++ ys ≡ us ++ vs = cc in
    let tails = one_cut xs ys us vs behind (λ i below. lacks (suc i) (omega arith)) (λ i below. lacks' (suc i) (omega arith)) at at' in
    (cc, tails.1)

-- a text with a slash in it does not lack one
pub has_slash : (text xs ys : List ℕ) → text ≡ xs ++ ys → get_or ys 0 0 ≡ 47 → LacksByte 47 text → ⊥
has_slash text xs [] is at lacks = absurd (omega arith)
has_slash text xs (y ∷ ys) is at lacks =
    let e : get_or text (length xs + 0) 0 ≡ 47 = rw (is, get_or-append-add) at in
    lacks (length xs + 0) (omega (arith, ap length is, length-append xs (y ∷ ys))) e

-- the cut at an index where a slash stands
pub cut_at : (text : List ℕ) (k : ℕ) → k < length text → get_or text k 0 ≡ 47 → ((i : ℕ) → i < k → get_or text i 0 ≢ 47)
    → (text ≡ take k text ++ drop k text) × (get_or (drop k text) 0 0 ≡ 47) × LacksByte 47 (take k text)
cut_at text k below at before =
    let size : length (take k text) ≡ k = length-take-le k text (omega arith) in
    let lacks : LacksByte 47 (take k text) = λ i short e. (let early : i < k = omega arith in before i early (sym (get_or-take k text i 0 early) ∙ e)) in
    (sym (take-append-drop k text), rw (get_or-drop, add-zero) at, lacks)

-- what stands in front of the first colon behind the scheme, and behind it
pub host_is : (text host : List ℕ) (port : ℕ) (path rest : List ℕ) (r : Option (Bor (List ℕ) × Bor (List ℕ))) → UriIs text host port path → text ≡ codes "http://" ++ rest → IsSplitOnceResult 58 rest r
    → MatchOption r ⊥ (λ x. (x.0.now ≡ host) × (x.1.now ≡ decimal port ++ path))
host_is text host port path rest r is cut split =
    let whole : text ≡ codes "http://" ++ (host ++ (58 ∷ (decimal port ++ path))) = is.spelled ∙ simp append_assoc in
    let behind = append_cancel_left (codes "http://") rest (host ++ (58 ∷ (decimal port ++ path))) (sym cut ∙ whole) in
    split_after 58 rest host (decimal port ++ path) r split (omega arith) behind (host_lacks_colon host is.host_is.bytes)

-- what stands in front of the first slash behind the colon, and from it on
pub digits_are : (text host : List ℕ) (port : ℕ) (path back digits tail : List ℕ) → UriIs text host port path → back ≡ decimal port ++ path
    → (back ≡ digits ++ tail) × (get_or tail 0 0 ≡ 47) × LacksByte 47 digits → (digits ≡ decimal port) × (tail ≡ path)
digits_are text host port path back digits tail is behind cut =
    one_cut digits tail (decimal port) path (sym cut.0 ∙ behind) cut.2 (digits_lack_slash port is.port_most) cut.1 is.path_is.slash
