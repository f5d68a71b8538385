-- The test tells the addresses, and no other texts.
use Rattle.std.proofs.Common.{◌≡◌, ◌≢◌, ◌↔◌, ℕ, zero, suc, ◌+◌, ◌<◌, ◌≤◌, ◌^◌, Bool, true, false, List, [], ◌∷◌, ◌++◌, length, get_or, take, drop, codes, decimal, cond, IsTrue}
use Rattle.std.proofs.Common.{refl, sym, ap, ◌∙◌, subst, arith, append_assoc, length-append, take-append-drop, length-take-le}
use Rattle.std.specs.Prelude.{◌&&◌, ◌==◌, nat_eq, nat_le}
use Rattle.std.specs.Char.{is_ascii_digit, is_ascii_graphic}
use Rattle.std.specs.List.{AllPass, take_while, prefix_len, list_all}
use Rattle.std.specs.Cmp.Lexicographic.{pointwise, same_text, other_text}
use Rattle.std.specs.Str.Parse.{digits_value, AllDigits}
use Rattle.std.proofs.lemmas.Bool.{and_parts, and_from}
use Rattle.std.proofs.Math.Seq.{take-append_seam, drop-append_seam}
use Rattle.std.proofs.lemmas.Bool.{leb-true, le-leb, eq-eqb, eqb-true}
use Rattle.std.proofs.lemmas.Fmt.{decimal_is_IsNumeral}
use Rattle.std.proofs.lemmas.List.{get_or-take}
use Rattle.std.proofs.lemmas.Grind.{get_or_default_zero}
use Rattle.std.proofs.lemmas.List.Sums.{prefix_len_passes, prefix_len-le-length, AllPass-from_list_all, list_all-from_AllPass}
use Rattle.std.proofs.lemmas.Str.Parse.{digit_at}
use Rattle.fetch_uri.specs.Address.{is_host_byte, IsHost, IsPath, UriIs, IsUri}
use Rattle.fetch_uri.specs.Tests.{begins, behind_run, is_port, is_path, is_port_and_path, is_host_long, is_behind_host, is_behind_scheme, is_address}

-- ---- texts that begin with a front

tested : (xs ys : List ℕ) (r : Bool) → r ≡ pointwise nat_eq xs ys → xs ≡ ys → r ≡ true
tested xs ys true e same = refl
tested xs ys false e same = absurd (other_text xs ys e same)

begun : (front text : List ℕ) → begins front text ≡ true → text ≡ front ++ drop (length front) text
begun front text is =
    sym (take-append-drop (length front) text) ∙ ap (λ (l : List ℕ). l ++ drop (length front) text) (same_text (take (length front) text) front (sym is))

begins_with : (front rest : List ℕ) → begins front (front ++ rest) ≡ true
begins_with front rest = tested (take (length front) (front ++ rest)) front (begins front (front ++ rest)) refl (take-append_seam front rest)

-- ---- the longest run of bytes that pass

run_is : (p : ℕ → Bool) (xs : List ℕ) (y : ℕ) (ys : List ℕ) → AllPass p xs → p y ≡ false → prefix_len p (xs ++ (y ∷ ys)) ≡ length xs
run_is p [] y ys all stops = rw stops refl
run_is p (x ∷ xs) y ys all stops =
    let first : p x ≡ true = all 0 x (omega arith) in
    let behind : prefix_len p (xs ++ (y ∷ ys)) ≡ length xs = run_is p xs y ys (λ k d below. all (suc k) d (omega arith)) stops in
    rw first (omega (arith, behind))

module _ (p : ℕ → Bool) (xs : List ℕ) (y : ℕ) (ys : List ℕ) (all : AllPass p xs) (stops : p y ≡ false) where
  run_taken : take_while p (xs ++ (y ∷ ys)) ≡ xs
  run_taken = ap (λ (n : ℕ). take n (xs ++ (y ∷ ys))) (run_is p xs y ys all stops) ∙ take-append_seam xs (y ∷ ys)

  run_dropped : behind_run p (xs ++ (y ∷ ys)) ≡ y ∷ ys
  run_dropped = ap (λ (n : ℕ). drop n (xs ++ (y ∷ ys))) (run_is p xs y ys all stops) ∙ drop-append_seam xs (y ∷ ys)

run_passes : (p : ℕ → Bool) (xs : List ℕ) → AllPass p (take_while p xs)
run_passes p xs k d below =
    let within : k < prefix_len p xs = omega (arith, length-take-le (prefix_len p xs) xs (prefix_len-le-length p xs)) in
    rw (get_or-take (prefix_len p xs) xs k d within) (prefix_len_passes p xs k d within)

-- ---- ports and paths

port_is : (digits : List ℕ) → is_port digits ≡ true → (1 ≤ digits_value 10 digits) × (digits_value 10 digits ≤ 65535) × (digits ≡ decimal (digits_value 10 digits))
port_is digits is =
    let n = digits_value 10 digits in
    let outer = and_parts (nat_le 1 n && nat_le n 65535) (pointwise nat_eq digits (decimal n)) is in
    let inner = and_parts (nat_le 1 n) (nat_le n 65535) outer.0 in
    (leb-true 1 n inner.0, leb-true n 65535 inner.1, same_text digits (decimal n) (sym outer.1))

is_port_of : (port : ℕ) → 1 ≤ port → port ≤ 65535 → is_port (decimal port) ≡ true
is_port_of port least most =
    let value : digits_value 10 (decimal port) ≡ port = (decimal_is_IsNumeral port (omega arith)).1 in
    let same : pointwise nat_eq (decimal port) (decimal port) ≡ true = tested (decimal port) (decimal port) (pointwise nat_eq (decimal port) (decimal port)) refl refl in
    rw value (and_from (nat_le 1 port && nat_le port 65535) (pointwise nat_eq (decimal port) (decimal port))
    (and_from (nat_le 1 port) (nat_le port 65535) (le-leb 1 port least) (le-leb port 65535 most)) same)

digits_pass : (port : ℕ) → port ≤ 65535 → AllPass is_ascii_digit (decimal port)
digits_pass port most k d below =
    let range = digit_at (decimal port) k (decimal_is_IsNumeral port (omega arith)).0.1 below in
    let at : get_or (decimal port) k d ≡ get_or (decimal port) k 0 = get_or_default_zero (decimal port) k d below in
    rw at (and_from (nat_le 48 (get_or (decimal port) k 0)) (nat_le (get_or (decimal port) k 0) 57) (le-leb 48 (get_or (decimal port) k 0) range.0) (le-leb (get_or (decimal port) k 0) 57 range.1))

path_is : (path : List ℕ) → is_path path ≡ true → IsPath path
path_is path is =
    let parts = and_parts (get_or path 0 0 == 47) (list_all is_ascii_graphic path) is in
    record { slash = eqb-true (get_or path 0 0) 47 parts.0; bytes = AllPass-from_list_all is_ascii_graphic path parts.1 }

is_path_of : (path : List ℕ) → IsPath path → is_path path ≡ true
is_path_of path is = and_from (get_or path 0 0 == 47) (list_all is_ascii_graphic path) (eq-eqb (get_or path 0 0) 47 is.slash) (list_all-from_AllPass is_ascii_graphic path is.bytes)

-- ---- addresses

spell : (scheme host colon digits path text behind back rest : List ℕ) → text ≡ scheme ++ behind → behind ≡ host ++ back → back ≡ colon ++ rest → rest ≡ digits ++ path
    → text ≡ scheme ++ host ++ colon ++ digits ++ path
spell scheme host colon digits path text behind back rest a b c d =
    simp append_assoc (a ∙ ap (λ (l : List ℕ). scheme ++ l) (b ∙ ap (λ (l : List ℕ). host ++ l) (c ∙ ap (λ (l : List ℕ). colon ++ l) d)))

parted : (p : ℕ → Bool) (xs : List ℕ) → xs ≡ take_while p xs ++ behind_run p xs
parted p xs = sym (take-append-drop (prefix_len p xs) xs)

-- a port and then a path
port_and_path_is : (rest : List ℕ) → is_port_and_path rest ≡ true → (port : ℕ) × (path : List ℕ) × ((rest ≡ decimal port ++ path) × (1 ≤ port) × (port ≤ 65535) × IsPath path)
port_and_path_is rest is =
    let digits = take_while is_ascii_digit rest in
    let path = behind_run is_ascii_digit rest in
    let parts = and_parts (is_port digits) (is_path path) is in
    let port = port_is digits parts.0 in
    (digits_value 10 digits, path, (parted is_ascii_digit rest ∙ ap (λ (l : List ℕ). l ++ path) port.2, port.0, port.1, path_is path parts.1))

host_is : (behind : List ℕ) → is_host_long (take_while is_host_byte behind) ≡ true → IsHost (take_while is_host_byte behind)
host_is behind is =
    let host = take_while is_host_byte behind in
    let parts = and_parts (nat_le 1 (length host)) (nat_le (length host) 255) is in
    record { least = leb-true 1 (length host) parts.0; most = leb-true (length host) 255 parts.1; bytes = run_passes is_host_byte behind }

found : (text : List ℕ) → is_address text ≡ true → IsUri text
unfolding is_address
found text is =
    let behind = drop 7 text in
    let host = take_while is_host_byte behind in
    let back = behind_run is_host_byte behind in
    let outer = and_parts (nat_le (length text) 1024 && begins (codes "http://") text) (is_behind_scheme behind) is in
    let front = and_parts (nat_le (length text) 1024) (begins (codes "http://") text) outer.0 in
    let parts = and_parts (is_host_long host) (is_behind_host back) outer.1 in
    let colon = and_parts (begins (codes ":") back) (is_port_and_path (drop 1 back)) parts.1 in
    let last = port_and_path_is (drop 1 back) colon.1 in
    let spelled : text ≡ codes "http://" ++ host ++ codes ":" ++ decimal last.0 ++ last.1 =
    spell (codes "http://") host (codes ":") (decimal last.0) last.1 text behind back (drop 1 back) (begun (codes "http://") text front.1) (parted is_host_byte behind) (begun (codes ":") back colon.0) last.2.0 in
    (host, last.0, last.1, record { spelled = spelled; size = leb-true (length text) 1024 front.0; host_is = host_is behind parts.0; port_least = last.2.1; port_most = last.2.2; path_is = last.2.3 })

passes_port_and_path : (port : ℕ) (path : List ℕ) → 1 ≤ port → port ≤ 65535 → IsPath path → is_port_and_path (decimal port ++ path) ≡ true
passes_port_and_path port [] least most is = absurd (omega (arith, is.slash))
passes_port_and_path port (y ∷ ys) least most is =
    let slash : y ≡ 47 = is.slash in
    let stops : is_ascii_digit y ≡ false = rw slash refl in
    and_from (is_port (take_while is_ascii_digit (decimal port ++ (y ∷ ys)))) (is_path (behind_run is_ascii_digit (decimal port ++ (y ∷ ys))))
    (ap is_port (run_taken is_ascii_digit (decimal port) y ys (digits_pass port most) stops) ∙ is_port_of port least most)
    (ap is_path (run_dropped is_ascii_digit (decimal port) y ys (digits_pass port most) stops) ∙ is_path_of (y ∷ ys) is)

passes_behind_scheme : (host rest : List ℕ) → IsHost host → is_port_and_path rest ≡ true → is_behind_scheme (host ++ (58 ∷ rest)) ≡ true
passes_behind_scheme host rest is passes =
    and_from (is_host_long (take_while is_host_byte (host ++ (58 ∷ rest)))) (is_behind_host (behind_run is_host_byte (host ++ (58 ∷ rest))))
    (ap is_host_long (run_taken is_host_byte host 58 rest is.bytes refl) ∙ and_from (nat_le 1 (length host)) (nat_le (length host) 255) (le-leb 1 (length host) is.least) (le-leb (length host) 255 is.most))
    (ap is_behind_host (run_dropped is_host_byte host 58 rest is.bytes refl) ∙ and_from (begins (codes ":") (58 ∷ rest)) (is_port_and_path rest) (begins_with (codes ":") rest) passes)

only : (text : List ℕ) → IsUri text → is_address text ≡ true
unfolding is_address
only text (host, port, path, is) =
    let behind = host ++ (58 ∷ (decimal port ++ path)) in
    let whole : text ≡ codes "http://" ++ (host ++ (58 ∷ (decimal port ++ path))) = is.spelled ∙ simp append_assoc in
    let back : drop 7 text ≡ behind = ap (drop 7) whole ∙ drop-append_seam (codes "http://") behind in
    and_from (nat_le (length text) 1024 && begins (codes "http://") text) (is_behind_scheme (drop 7 text))
    (and_from (nat_le (length text) 1024) (begins (codes "http://") text) (le-leb (length text) 1024 is.size) (ap (begins (codes "http://")) whole ∙ begins_with (codes "http://") behind))
    (ap is_behind_scheme back ∙ passes_behind_scheme host (decimal port ++ path) is.host_is (passes_port_and_path port path is.port_least is.port_most is.path_is))

-- a text passes the test exactly where it is an address
pub is_address_iff : (text : List ℕ) → IsTrue (is_address text) ↔ IsUri text
is_address_iff text = (found text, only text)
