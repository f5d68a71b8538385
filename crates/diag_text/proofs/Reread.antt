-- The text of each item is read as that item, whatever follows that does not go on with it.
use Rattle.std.proofs.Common.{◌≡◌, ◌≢◌, ℕ, zero, suc, ◌+◌, ◌-◌, ◌^◌, ◌<◌, ◌≤◌, Bool, true, false, nat_lt, List, [], ◌∷◌, ◌++◌, length, Ok, Option, Some, None, refl, sym, ap, subst, ◌∙◌}
use Rattle.std.proofs.Common.{append_assoc, append-nil, arith, codes, decimal, ne_eqb, lt-ltb, length-append}
use Rattle.std.specs.List.{flat_map, AllByRecursion}
use Rattle.std.specs.Str.{IsUtf8}
use Rattle.std.specs.Str.Parse.{AllDigits}
use Rattle.std.proofs.lemmas.Fmt.{decimal_is_IsNumeral_wide}
use Rattle.std.proofs.lemmas.Str.{is_utf8-from_IsUtf8}
use Rattle.std.proofs.lemmas.Str.Parse.{digit_at}
use Rattle.cbor_core.specs.declared.item.Item.{Item, out-Item}
use Rattle.cbor_core.specs.declared.item.Item.TheOpen.{Item-F}
use Rattle.cbor_core.specs.declared.item.Item.TheViews.{roll-Item, roll-out-Item}
use Rattle.cbor_core.specs.declared.item.Item.TheVariants as i
use Rattle.cbor_core.specs.declared.item.Pair.{Pair}
use Rattle.cbor_heads.specs.Place.{Place, begins}
use Rattle.cbor_core.specs.Faulty.{last_key}
use Rattle.cbor_core.specs.Spelling.{spelling, bytes_below, KeysAscend, IsSpellable}
use Rattle.base_types.specs.Bytes.{IsBytes}
use Rattle.cbor_core.proofs.Public.Levels.{IsWholeBy, from_spellable, has_room, IsPart}
use Rattle.diag_text.specs.Printed.{hex_byte, escaped, listed, printed, pair_printed}
use Rattle.cbor_heads.specs.Reading.{Outcome, Reader, nested}
use Rattle.diag_text.specs.Reading.{hex_guess, text_guess, inside_at, member_at, pair_at, plain_at, item_by, item_at}
use Rattle.diag_text.proofs.Texts.{printed_Unsigned, printed_Negative, printed_Bytes, printed_Text, printed_Array, printed_Map, printed_Tag, printed_Truth, printed_Null, pair_printed_out}
use Rattle.diag_text.proofs.Loops.{member_is, last_key_more}
use Rattle.diag_text.specs.Faulty.{NoDigit, EndsNumber, EndsBy, Ends}
use Rattle.diag_text.proofs.Fronts.{begins_front, not_begins, stops_colon, stops_bracket, stops_ends}
use Rattle.diag_text.proofs.Again.{place, skip_front, hex_guess_back, hex_not_close, pieces_again, number_again, digits_stop, digits_bracket, AgainBy, IsMark, square as square_mark}
use Rattle.diag_text.proofs.Again.{curly as curly_mark, Each, parts_again, flat_long, form_of, text_back_by, text_open_by, text_some_by}

-- the first byte of an item's text, which closes no container
pub record Front (text : List ℕ) : Type 0 where
  pub first : ℕ
  pub more : List ℕ
  pub is : text ≡ first ∷ more
  pub square : 93 ≢ first
  pub curly : 125 ≢ first

digits_start : (ds : List ℕ) → 0 < length ds → AllDigits 10 ds → Front ds
digits_start [] some all = absurd (omega arith)
digits_start (d ∷ ds) some all =
    let range = digit_at (d ∷ ds) 0 all (omega arith) in
    record { first = d; more = ds; is = refl; square = λ e. omega (arith, range.1); curly = λ e. omega (arith, range.1) }

decimal_start : (n : ℕ) (text more : List ℕ) → n < 10 ^ 64 → text ≡ decimal n ++ more → Front text
decimal_start n text more lt is =
    let numeral = (decimal_is_IsNumeral_wide n lt).0 in
    let f = digits_start (decimal n) numeral.0 numeral.1 in
    record { first = f.first; more = f.more ++ more; is = is ∙ ap (λ (t : List ℕ). t ++ more) f.is; square = f.square; curly = f.curly }

literal : (c : ℕ) (text more : List ℕ) → 93 ≢ c → 125 ≢ c → text ≡ c ∷ more → Front text
literal c text more s u is = record { first = c; more = more; is = is; square = s; curly = u }

front_rolled : (room : Bool) (P : Item → Type 0) (l : Item-F Item Pair) → IsWholeBy room P l → Front (printed (roll-Item l))
front_rolled room P (Item-F.Unsigned n) h = decimal_start n _ [] (omega arith) (ap printed (i.rolls-Unsigned n) ∙ printed_Unsigned n ∙ sym (append-nil (decimal n)))
front_rolled room P (Item-F.Negative n) h = literal 45 _ (decimal (n + 1)) (λ e. omega arith) (λ e. omega arith) (ap printed (i.rolls-Negative n) ∙ printed_Negative n)
front_rolled room P (Item-F.Bytes bytes) h = literal 104 _ (39 ∷ (flat_map hex_byte bytes ++ codes "'")) (λ e. omega arith) (λ e. omega arith) (ap printed (i.rolls-Bytes bytes) ∙ printed_Bytes bytes)
front_rolled room P (Item-F.Text text) h = literal 34 _ (flat_map escaped text ++ codes "\"") (λ e. omega arith) (λ e. omega arith) (ap printed (i.rolls-Text text) ∙ printed_Text text)
front_rolled room P (Item-F.Array xs) h = literal 91 _ (listed printed xs ++ codes "]") (λ e. omega arith) (λ e. omega arith) (ap printed (i.rolls-Array xs) ∙ printed_Array xs)
front_rolled room P (Item-F.Map ps) h = literal 123 _ (listed pair_printed ps ++ codes "}") (λ e. omega arith) (λ e. omega arith) (ap printed (i.rolls-Map ps) ∙ printed_Map ps)
front_rolled room P (Item-F.Tag n x) h = decimal_start n _ (codes "(" ++ (printed x ++ codes ")")) (omega (arith, h.2)) (ap printed (i.rolls-Tag n x) ∙ printed_Tag n x)
front_rolled room P (Item-F.Truth true) h = literal 116 _ (codes "rue") (λ e. omega arith) (λ e. omega arith) (ap printed (i.rolls-Truth true) ∙ printed_Truth true)
front_rolled room P (Item-F.Truth false) h = literal 102 _ (codes "alse") (λ e. omega arith) (λ e. omega arith) (ap printed (i.rolls-Truth false) ∙ printed_Truth false)
front_rolled room P Item-F.Null h = literal 110 _ (codes "ull") (λ e. omega arith) (λ e. omega arith) (ap printed i.rolls-Null ∙ printed_Null)

-- what an inner reader reads again, and how its texts start
pub record Law (inner : Reader ℕ Item) (Q : Item → Type 0) : Type 0 where
  pub again : (x : Item) → Q x → AgainBy inner printed (Ends x) x
  pub front : (x : Item) → Q x → Front (printed x)

abbrev ReadsText : (Place → Outcome ℕ Item) → Item → (List ℕ → Type 0) → List ℕ → Type 0
ReadsText read x ends text = (b : ℕ) (more : List ℕ) → ends more → read (place b (text ++ more)) ≡ Ok (x, place (b + length text) more)

by_text : (read : Reader ℕ Item) (x : Item) (ends : List ℕ → Type 0) (text : List ℕ) → printed x ≡ text → ReadsText read x ends text → AgainBy read printed ends x
by_text read x ends text is law = subst (λ (t : List ℕ). ReadsText read x ends t) (sym is) law

-- an item whose text ends by itself
abbrev Anything : List ℕ → Type 0
Anything more = Unit {0}

module _ (inner : Option (Reader ℕ Item)) where
  bytes_again : (bytes : List ℕ) → AllByRecursion (λ v. v < 256) bytes → AgainBy (item_by inner) printed Anything (i.Bytes bytes)
  bytes_again bytes each = by_text (item_by inner) (i.Bytes bytes) Anything _ (printed_Bytes bytes) (λ b more stop.
      (let text : List ℕ = flat_map hex_byte bytes in
      let long = flat_long hex_byte (λ v. omega arith) bytes in
      let room : length bytes < length (text ++ (codes "'" ++ more)) = omega (arith, long, length-append text (codes "'" ++ more)) in
      let read = pieces_again hex_byte hex_guess (codes "'") (λ v. v < 256) hex_guess_back hex_not_close b bytes [] (length (text ++ (codes "'" ++ more))) (b + 2) more each room in
      let len : b + 2 + length (text ++ codes "'") ≡ b + length (codes "h'" ++ (text ++ codes "'")) = omega arith in
      let step : item_by inner (place b (codes "h'" ++ (text ++ (codes "'" ++ more)))) ≡ Ok (i.Bytes bytes, place (b + 2 + length (text ++ codes "'")) more) = rw read refl in
      ap (λ (t : List ℕ). item_by inner (place b (codes "h'" ++ t))) (append_assoc text (codes "'") more) ∙ step ∙ ap (λ (k : ℕ). Ok (i.Bytes bytes, place k more)) len))

  text_again : (bytes : List ℕ) → AllByRecursion (λ v. Unit {0}) bytes → IsUtf8 bytes → AgainBy (item_by inner) printed Anything (i.Text bytes)
  text_again bytes each utf8 = by_text (item_by inner) (i.Text bytes) Anything _ (printed_Text bytes) (λ b more stop.
      (let text : List ℕ = flat_map escaped bytes in
      let long = flat_long escaped (λ v. text_some_by v (form_of v)) bytes in
      let room : length bytes < length (text ++ (codes "\"" ++ more)) = omega (arith, long, length-append text (codes "\"" ++ more)) in
      let read = pieces_again escaped text_guess (codes "\"") (λ v. Unit {0}) (λ v good more. text_back_by v (form_of v) more) (λ v good more. text_open_by v (form_of v) more) b bytes [] (length (text ++ (codes "\"" ++ more)))
      (b + 1) more each room in
      let len : b + 1 + length (text ++ codes "\"") ≡ b + length (codes "\"" ++ (text ++ codes "\"")) = omega arith in
      let step : item_by inner (place b (codes "\"" ++ (text ++ (codes "\"" ++ more)))) ≡ Ok (i.Text bytes, place (b + 1 + length (text ++ codes "\"")) more) = rw (read, is_utf8-from_IsUtf8 bytes utf8) refl in
      ap (λ (t : List ℕ). item_by inner (place b (codes "\"" ++ t))) (append_assoc text (codes "\"") more) ∙ step ∙ ap (λ (k : ℕ). Ok (i.Text bytes, place k more)) len))

  negative_again : (n : ℕ) → n < 2 ^ 64 → AgainBy (item_by inner) printed NoDigit (i.Negative n)
  negative_again n lt = by_text (item_by inner) (i.Negative n) NoDigit _ (printed_Negative n) (λ b more stop.
      (let read = number_again b (2 ^ 64 + 1) (n + 1) (b + 1) more (omega arith) (omega arith) (digits_stop more stop) in
      let some : nat_lt 0 (n + 1) ≡ true = lt-ltb 0 (n + 1) (omega arith) in
      let back : n + 1 - 1 ≡ n = omega arith in
      let len : b + 1 + length (decimal (n + 1)) ≡ b + length (codes "-" ++ decimal (n + 1)) = omega arith in
      let step : item_by inner (place b (codes "-" ++ (decimal (n + 1) ++ more))) ≡ Ok (i.Negative (n + 1 - 1), place (b + 1 + length (decimal (n + 1))) more) = rw (read, some) refl in
      step ∙ ap (λ (k : ℕ). Ok (i.Negative k, place (b + 1 + length (decimal (n + 1))) more)) back ∙ ap (λ (k : ℕ). Ok (i.Negative n, place k more)) len))

  true_again : AgainBy (item_by inner) printed Anything (i.Truth true)
  true_again = by_text (item_by inner) (i.Truth true) Anything (codes "true") (printed_Truth true) (λ b more stop. refl)

  false_again : AgainBy (item_by inner) printed Anything (i.Truth false)
  false_again = by_text (item_by inner) (i.Truth false) Anything (codes "false") (printed_Truth false) (λ b more stop. refl)

  null_again : AgainBy (item_by inner) printed Anything i.Null
  null_again = by_text (item_by inner) i.Null Anything (codes "null") printed_Null (λ b more stop. refl)

  digits_plain : (ds more : List ℕ) (b : ℕ) → 0 < length ds → AllDigits 10 ds → item_by inner (place b (ds ++ more)) ≡ plain_at inner (place b (ds ++ more))
  digits_plain [] more b some all = absurd (omega arith)
  digits_plain (d ∷ ds) more b some all =
      let range = digit_at (d ∷ ds) 0 all (omega arith) in
      let t : 116 ≢ d = λ e. omega (arith, range.1) in
      let f : 102 ≢ d = λ e. omega (arith, range.1) in
      let n : 110 ≢ d = λ e. omega (arith, range.1) in
      let h : 104 ≢ d = λ e. omega (arith, range.1) in
      let q : 34 ≢ d = λ e. omega (arith, range.0) in
      let s : 91 ≢ d = λ e. omega (arith, range.1) in
      let c : 123 ≢ d = λ e. omega (arith, range.1) in
      let m : 45 ≢ d = λ e. omega (arith, range.0) in
      rw (ne_eqb 116 d t, ne_eqb 102 d f, ne_eqb 110 d n, ne_eqb 104 d h, ne_eqb 34 d q, ne_eqb 91 d s, ne_eqb 123 d c, ne_eqb 45 d m) refl

  pub plain_is : (n b : ℕ) (more : List ℕ) → n < 10 ^ 64 → item_by inner (place b (decimal n ++ more)) ≡ plain_at inner (place b (decimal n ++ more))
  plain_is n b more lt = let numeral = (decimal_is_IsNumeral_wide n lt).0 in digits_plain (decimal n) more b numeral.0 numeral.1

  unsigned_again : (n : ℕ) → n < 2 ^ 64 → AgainBy (item_by inner) printed EndsNumber (i.Unsigned n)
  unsigned_again n lt = by_text (item_by inner) (i.Unsigned n) EndsNumber (decimal n) (printed_Unsigned n) (λ b more stop.
      (let read = number_again b (2 ^ 64) n b more lt (omega arith) (digits_stop more stop.0) in
      plain_is n b more (omega arith) ∙ (rw (read, not_begins (codes "(") more stop.1) refl)))

-- ---- containers

inside_again : {X : Type 0} (part : List X → Reader ℕ X) (text : X → List ℕ) (close : List ℕ) (mark : IsMark close) (xs : List X) (b : ℕ) (more : List ℕ)
    → Each part text close mark [] xs → 1 ≤ length close → ((x : X) (others : List X) → xs ≡ x ∷ others → begins close (listed text (x ∷ others) ++ (close ++ more)) ≡ false)
    → inside_at part close (place b (listed text xs ++ (close ++ more))) ≡ Ok (xs, place (b + length (listed text xs ++ close)) more)
inside_again part text close mark [] b more each some open_still = rw (begins_front close more, skip_front b close more) refl
inside_again part text close mark (x ∷ xs) b more each some open_still =
    let bytes : List ℕ = listed text (x ∷ xs) ++ (close ++ more) in
    let long = flat_long (λ y. codes ", " ++ text y) (λ y. omega arith) xs in
    let room : length (x ∷ xs) ≤ length bytes = omega (arith, long, some, length-append (listed text (x ∷ xs)) (close ++ more), length-append close more, length-append (text x) (flat_map (λ y. codes ", " ++ text y) xs)) in
    rw (open_still x xs refl) (parts_again part text close mark xs x [] (length bytes) b more each room)

module _ (inner : Reader ℕ Item) (Q : Item → Type 0) (law : Law inner Q) where
  pub each_member : (found xs : List Item) → AllByRecursion Q xs → Each (member_at inner) printed (codes "]") square_mark found xs
  each_member found [] all = tt
  each_member found (x ∷ xs) all = ((λ b more stop. (member_is inner found (place b (printed x ++ more)) ∙ law.again x all.0 b more (stops_ends x more stop))), each_member (found ++ x ∷ []) xs all.1)

  pair_again : (found : List Pair) (p : Pair) → Q p.key → Q p.value → bytes_below (last_key [] found) (spelling p.key) ≡ true → AgainBy (pair_at inner found) pair_printed EndsNumber p
  pair_again found p key value below b more stop =
      let k : List ℕ = printed p.key in
      let v : List ℕ = printed p.value in
      let bytes : pair_printed p ++ more ≡ k ++ (codes ": " ++ (v ++ more)) = ap (λ (t : List ℕ). t ++ more) (pair_printed_out p) ∙ append_assoc k (codes ": " ++ v) more in
      let one = law.again p.key key b (codes ": " ++ (v ++ more)) (stops_ends p.key _ (stops_colon (v ++ more))) in
      let two = law.again p.value value (b + length k + 2) more (stops_ends p.value more stop) in
      let len : b + length k + 2 + length v ≡ b + length (pair_printed p) = omega (arith, ap length (pair_printed_out p), length-append k (codes ": " ++ v)) in
      let step : pair_at inner found (place b (k ++ (codes ": " ++ (v ++ more)))) ≡ Ok (p, place (b + length k + 2 + length v) more) = rw (one, below, two) refl in
      ap (λ (t : List ℕ). pair_at inner found (place b t)) bytes ∙ step ∙ ap (λ (n : ℕ). Ok (p, place n more)) len

  pub each_pair : (found ps : List Pair) → AllByRecursion (λ p. Q p.key × Q p.value) ps → KeysAscend (last_key [] found) ps → Each (pair_at inner) pair_printed (codes "}") curly_mark found ps
  each_pair found [] all ascend = tt
  each_pair found (p ∷ ps) all ascend =
      (pair_again found p all.0.0 all.0.1 ascend.0, each_pair (found ++ p ∷ []) ps all.1 (subst (λ (t : List ℕ). KeysAscend t ps) (sym (last_key_more [] found p)) ascend.1))

  members_open : (xs : List Item) → AllByRecursion Q xs → (more : List ℕ) (x : Item) (others : List Item) → xs ≡ x ∷ others → begins (codes "]") (listed printed (x ∷ others) ++ (codes "]" ++ more)) ≡ false
  members_open [] all more x others e = absurd cc
  members_open (y ∷ ys) all more x others e =
      let same : y ≡ x = cc in
      let f = subst (λ (z : Item). Front (printed z)) same (law.front y all.0) in
      rw (f.is, ne_eqb 93 f.first f.square) refl

  pairs_open : (ps : List Pair) → AllByRecursion (λ p. Q p.key × Q p.value) ps → (more : List ℕ) (p : Pair) (others : List Pair) → ps ≡ p ∷ others → begins (codes "}") (listed pair_printed (p ∷ others) ++ (codes "}" ++ more)) ≡ false
  pairs_open [] all more p others e = absurd cc
  pairs_open (y ∷ ys) all more p others e =
      let same : y ≡ p = cc in
      let f = subst (λ (z : Pair). Front (printed z.key)) same (law.front y.key all.0.0) in
      rw (pair_printed_out p, f.is, ne_eqb 125 f.first f.curly) refl

  array_again : (xs : List Item) → AllByRecursion Q xs → AgainBy (item_by (Some inner)) printed Anything (i.Array xs)
  array_again xs all = by_text (item_by (Some inner)) (i.Array xs) Anything _ (printed_Array xs) (λ b more stop.
      (let text : List ℕ = listed printed xs in
      let read = inside_again (member_at inner) printed (codes "]") square_mark xs (b + 1) more (each_member [] xs all) (omega arith) (members_open xs all more) in
      let len : b + 1 + length (text ++ codes "]") ≡ b + length (codes "[" ++ (text ++ codes "]")) = omega arith in
      let step : item_by (Some inner) (place b (codes "[" ++ (text ++ (codes "]" ++ more)))) ≡ Ok (i.Array xs, place (b + 1 + length (text ++ codes "]")) more) = rw read refl in
      ap (λ (t : List ℕ). item_by (Some inner) (place b (codes "[" ++ t))) (append_assoc text (codes "]") more) ∙ step ∙ ap (λ (k : ℕ). Ok (i.Array xs, place k more)) len))

  map_again : (ps : List Pair) → AllByRecursion (λ p. Q p.key × Q p.value) ps → KeysAscend [] ps → AgainBy (item_by (Some inner)) printed Anything (i.Map ps)
  map_again ps all ascend = by_text (item_by (Some inner)) (i.Map ps) Anything _ (printed_Map ps) (λ b more stop.
      (let text : List ℕ = listed pair_printed ps in
      let read = inside_again (pair_at inner) pair_printed (codes "}") curly_mark ps (b + 1) more (each_pair [] ps all ascend) (omega arith) (pairs_open ps all more) in
      let len : b + 1 + length (text ++ codes "}") ≡ b + length (codes "{" ++ (text ++ codes "}")) = omega arith in
      let step : item_by (Some inner) (place b (codes "{" ++ (text ++ (codes "}" ++ more)))) ≡ Ok (i.Map ps, place (b + 1 + length (text ++ codes "}")) more) = rw read refl in
      ap (λ (t : List ℕ). item_by (Some inner) (place b (codes "{" ++ t))) (append_assoc text (codes "}") more) ∙ step ∙ ap (λ (k : ℕ). Ok (i.Map ps, place k more)) len))

  tag_again : (n : ℕ) (x : Item) → n < 2 ^ 64 → Q x → AgainBy (item_by (Some inner)) printed Anything (i.Tag n x)
  tag_again n x lt ok = by_text (item_by (Some inner)) (i.Tag n x) Anything _ (printed_Tag n x) (λ b more stop.
      (let d : List ℕ = decimal n in
      let t : List ℕ = printed x in
      let bytes : (d ++ (codes "(" ++ (t ++ codes ")"))) ++ more ≡ d ++ (codes "(" ++ (t ++ (codes ")" ++ more))) =
      append_assoc d (codes "(" ++ (t ++ codes ")")) more ∙ ap (λ (s : List ℕ). d ++ (codes "(" ++ s)) (append_assoc t (codes ")") more) in
      let rest : List ℕ = codes "(" ++ (t ++ (codes ")" ++ more)) in
      let read = number_again b (2 ^ 64) n b rest lt (omega arith) (digits_bracket (t ++ (codes ")" ++ more))) in
      let one = law.again x ok (b + length d + 1) (codes ")" ++ more) (stops_ends x _ (stops_bracket more)) in
      let len : b + length d + 1 + length t + 1 ≡ b + length (d ++ (codes "(" ++ (t ++ codes ")"))) = omega (arith, length-append d (codes "(" ++ (t ++ codes ")")), length-append t (codes ")")) in
      let step : plain_at (Some inner) (place b (d ++ rest)) ≡ Ok (i.Tag n x, place (b + length d + 1 + length t + 1) more) = rw (read, one) refl in
      ap (λ (s : List ℕ). item_by (Some inner) (place b s)) bytes ∙ plain_is (Some inner) n b rest (omega arith) ∙ step ∙ ap (λ (k : ℕ). Ok (i.Tag n x, place k more)) len))

-- ---- an item

bytes_each : (bytes : List ℕ) → IsBytes bytes → AllByRecursion (λ v. v < 256) bytes
bytes_each [] fits = tt
bytes_each (v ∷ vs) fits = (fits 0, bytes_each vs (λ k. fits (suc k)))

text_each : (bytes : List ℕ) → AllByRecursion (λ v. Unit {0}) bytes
text_each [] = tt
text_each (v ∷ vs) = (tt, text_each vs)

inside_layer : (inner : Reader ℕ Item) (Q : Item → Type 0) → Law inner Q → (l : Item-F Item Pair) → IsWholeBy true Q l → AgainBy (item_by (Some inner)) printed (EndsBy l) (roll-Item l)
inside_layer inner Q law (Item-F.Unsigned n) h = subst (AgainBy (item_by (Some inner)) printed EndsNumber) (sym (i.rolls-Unsigned n)) (unsigned_again (Some inner) n h)
inside_layer inner Q law (Item-F.Negative n) h = subst (AgainBy (item_by (Some inner)) printed NoDigit) (sym (i.rolls-Negative n)) (negative_again (Some inner) n h)
inside_layer inner Q law (Item-F.Bytes bytes) h = subst (AgainBy (item_by (Some inner)) printed Anything) (sym (i.rolls-Bytes bytes)) (bytes_again (Some inner) bytes (bytes_each bytes h.0))
inside_layer inner Q law (Item-F.Text text) h = subst (AgainBy (item_by (Some inner)) printed Anything) (sym (i.rolls-Text text)) (text_again (Some inner) text (text_each text) h.0)
inside_layer inner Q law (Item-F.Array xs) h = subst (AgainBy (item_by (Some inner)) printed Anything) (sym (i.rolls-Array xs)) (array_again inner Q law xs h.1)
inside_layer inner Q law (Item-F.Map ps) h = subst (AgainBy (item_by (Some inner)) printed Anything) (sym (i.rolls-Map ps)) (map_again inner Q law ps h.1 h.3)
inside_layer inner Q law (Item-F.Tag n x) h = subst (AgainBy (item_by (Some inner)) printed Anything) (sym (i.rolls-Tag n x)) (tag_again inner Q law n x h.2 h.1)
inside_layer inner Q law (Item-F.Truth true) h = subst (AgainBy (item_by (Some inner)) printed Anything) (sym (i.rolls-Truth true)) (true_again (Some inner))
inside_layer inner Q law (Item-F.Truth false) h = subst (AgainBy (item_by (Some inner)) printed Anything) (sym (i.rolls-Truth false)) (false_again (Some inner))
inside_layer inner Q law Item-F.Null h = subst (AgainBy (item_by (Some inner)) printed Anything) (sym i.rolls-Null) (null_again (Some inner))

leaf_layer : (inner : Option (Reader ℕ Item)) (l : Item-F Item Pair) → IsWholeBy false (λ _. ⊥) l → AgainBy (item_by inner) printed (EndsBy l) (roll-Item l)
leaf_layer inner (Item-F.Unsigned n) h = subst (AgainBy (item_by inner) printed EndsNumber) (sym (i.rolls-Unsigned n)) (unsigned_again inner n h)
leaf_layer inner (Item-F.Negative n) h = subst (AgainBy (item_by inner) printed NoDigit) (sym (i.rolls-Negative n)) (negative_again inner n h)
leaf_layer inner (Item-F.Bytes bytes) h = subst (AgainBy (item_by inner) printed Anything) (sym (i.rolls-Bytes bytes)) (bytes_again inner bytes (bytes_each bytes h.0))
leaf_layer inner (Item-F.Text text) h = subst (AgainBy (item_by inner) printed Anything) (sym (i.rolls-Text text)) (text_again inner text (text_each text) h.0)
leaf_layer inner (Item-F.Array xs) h = absurd (let e : false ≡ true = h.0 in cc)
leaf_layer inner (Item-F.Map ps) h = absurd (let e : false ≡ true = h.0 in cc)
leaf_layer inner (Item-F.Tag n x) h = absurd (let e : false ≡ true = h.0 in cc)
leaf_layer inner (Item-F.Truth true) h = subst (AgainBy (item_by inner) printed Anything) (sym (i.rolls-Truth true)) (true_again inner)
leaf_layer inner (Item-F.Truth false) h = subst (AgainBy (item_by inner) printed Anything) (sym (i.rolls-Truth false)) (false_again inner)
leaf_layer inner Item-F.Null h = subst (AgainBy (item_by inner) printed Anything) (sym i.rolls-Null) (null_again inner)

pub spellable_front : (d : ℕ) (x : Item) → IsSpellable d x → Front (printed x)
spellable_front d x h = subst (λ (y : Item). Front (printed y)) (roll-out-Item x) (front_rolled (has_room d) (IsPart d) (out-Item x) (from_spellable d x h))

abbrev LayerAgain : Reader ℕ Item → Item-F Item Pair → Item → Type 0
LayerAgain read l x = AgainBy read printed (EndsBy l) x

-- an item that is no container is read, whatever stands inside containers
pub scalar_again : (inner : Option (Reader ℕ Item)) (x : Item) → IsSpellable 0 x → AgainBy (item_by inner) printed (Ends x) x
scalar_again inner x h = subst (LayerAgain (item_by inner) (out-Item x)) (roll-out-Item x) (leaf_layer inner (out-Item x) (from_spellable 0 x h))

-- the text of an item is read as that item
pub item_again : (d : ℕ) (x : Item) → IsSpellable d x → AgainBy (item_at d) printed (Ends x) x
unfolding nested
item_again zero x h = scalar_again None x h
item_again (suc d) x h =
    subst (LayerAgain (item_by (Some (item_at d))) (out-Item x)) (roll-out-Item x) (inside_layer (item_at d) (IsSpellable d) (record { again = item_again d; front = spellable_front d }) (out-Item x) (from_spellable (suc d) x h))
