-- Where more was fetched, a run does what it did, unless it stopped for want of a payload; and what it needs is an address for which nothing was fetched.
use Rattle.std.proofs.Common.{◌≡◌, ◌≢◌, ℕ, zero, suc, Bool, true, false, cond, List, [], ◌∷◌, ◌++◌, length, map, Option, Some, None, refl, sym, ap, subst, ◌∙◌, arith}
use Rattle.std.specs.Prelude.{◌==◌, nat_le, slice_index}
use Rattle.std.specs.Option.{option_or}
use Rattle.std.specs.List.{All}
use Rattle.std.specs.Cmp.Lexicographic.{other_text}
use Rattle.std.proofs.lemmas.List.Folds.{find-append}
use Rattle.base_types.specs.declared.limits.TheConstants.{PAYLOAD_LIMIT, FETCHES_LIMIT}
use Rattle.fetch_uri.specs.Tests.{is_address}
use Rattle.fetch_uri.proofs.Public.Tests.{is_address_iff}
use Rattle.suit_commands.specs.declared.command.Command.{Command}
use Rattle.suit_commands.specs.declared.command.Command.TheOpen.{Command-F}
use Rattle.suit_commands.specs.declared.command.Command.TheViews.{roll-Command}
use Rattle.suit_commands.specs.declared.command.Command.TheFolds.{map-Command, fold-roll-Command, ind-Command}
use Rattle.suit_commands.specs.Sequences.{Sequence}
use Rattle.suit_engine.specs.declared.outcome.Fetched.{Fetched}
use Rattle.suit_engine.specs.declared.outcome.Word.{Word}
use Rattle.suit_engine.specs.declared.outcome.Word.TheVariants.{Condition, Payload, Fetches}
use Rattle.suit_engine.specs.declared.state.State.{State}
use Rattle.suit_engine.specs.States.{current}
use Rattle.suit_engine.specs.Steps.{Step, Went, Fails, Needs, Act, and_then, in_turn, unless_caught, tried}
use Rattle.suit_engine.specs.Acts.{World, later, are_same, is_set_to, is_right, only_if, takes, source_bytes, attached_bytes, attached_as, fetched_as, takes_fetched, fetches_from, act_by, does, do_all}
use Rattle.suit_engine.specs.Law.{IsAwaited}

-- a URI that can be fetched, and for which nothing is found
pub record IsUnknown (env : List Fetched) (uri : List ℕ) : Type 0 where
  pub address : is_address uri ≡ true
  pub missed : fetched_as uri env ≡ None

-- the second step is the first, unless that stopped for want of a payload; and then the payload is one that can be fetched and was not
abbrev pub Keeps : List Fetched → Step → Step → Type 0
Keeps env (Went s) later = later ≡ Went s
Keeps env (Fails Condition) later = later ≡ Fails Condition
Keeps env (Fails Payload) later = later ≡ Fails Payload
Keeps env (Fails Fetches) later = Unit {0}
Keeps env (Needs uri) later = IsUnknown env uri

module _ (env : List Fetched) where
  abbrev pub KeepsAct : Act → Act → Type 0
  KeepsAct a b = (s : State) → Keeps env (a s) (b s)

  -- ---- acts in turn, and alternatives

  pub keeps_then : (a b : Act) → KeepsAct a b → (x y : Step) → Keeps env x y → Keeps env (and_then a x) (and_then b y)
  keeps_then a b next (Went s) y is = let P : Step → Type 0 = λ z. Keeps env (a s) (and_then b z) in subst P (sym is) (next s)
  keeps_then a b next (Fails Condition) y is = ap (and_then b) is
  keeps_then a b next (Fails Payload) y is = ap (and_then b) is
  keeps_then a b next (Fails Fetches) y is = tt
  keeps_then a b next (Needs uri) y is = is

  pub keeps_unless : (a b : Word → Step) → ((word : Word) → Keeps env (a word) (b word)) → (x y : Step) → Keeps env x y → Keeps env (unless_caught a x) (unless_caught b y)
  keeps_unless a b next (Went s) y is = ap (unless_caught b) is
  keeps_unless a b next (Fails Condition) y is = let P : Step → Type 0 = λ z. Keeps env (a Condition) (unless_caught b z) in subst P (sym is) (next Condition)
  keeps_unless a b next (Fails Payload) y is = let P : Step → Type 0 = λ z. Keeps env (a Payload) (unless_caught b z) in subst P (sym is) (next Payload)
  keeps_unless a b next (Fails Fetches) y is = tt
  keeps_unless a b next (Needs uri) y is = is

  keeps_last : (null_last : Bool) (word : Word) (s : State) → Keeps env (cond null_last (Went s) (Fails word)) (cond null_last (Went s) (Fails word))
  keeps_last true word s = refl
  keeps_last false Condition s = refl
  keeps_last false Payload s = refl
  keeps_last false Fetches s = tt

  module _ {X : Type 0} (f g : X → Act) (each : (x : X) → KeepsAct (f x) (g x)) where
    pub keeps_turn : (xs : List X) → KeepsAct (in_turn (map f xs)) (in_turn (map g xs))
    keeps_turn [] s = refl
    keeps_turn (x ∷ xs) s = keeps_then (in_turn (map f xs)) (in_turn (map g xs)) (keeps_turn xs) (f x s) (g x s) (each x s)

    pub keeps_tries : (null_last : Bool) (word : Word) (xs : List X) → KeepsAct (tried null_last word (map f xs)) (tried null_last word (map g xs))
    keeps_tries null_last word [] s = keeps_last null_last word s
    keeps_tries null_last word (x ∷ xs) s =
        keeps_unless (λ w. tried null_last w (map f xs) s) (λ w. tried null_last w (map g xs) s) (λ w. keeps_tries null_last w xs s) (f x s) (g x s) (each x s)

  -- ---- commands by themselves

  keeps_only_if : (holds : Bool) (s : State) → Keeps env (only_if holds s) (only_if holds s)
  keeps_only_if true s = refl
  keeps_only_if false s = refl

  keeps_test : (fits : Bool) (s t : State) → Keeps env (cond fits (Went t) (Fails Payload)) (cond fits (Went t) (Fails Payload))
  keeps_test true s t = refl
  keeps_test false s t = refl

  keeps_takes : (bytes : Option (List ℕ)) (s : State) → Keeps env (takes bytes s) (takes bytes s)
  keeps_takes None s = refl
  keeps_takes (Some bytes) s = keeps_test (nat_le (length bytes) PAYLOAD_LIMIT) s _

module _ (w : World) (more : List Fetched) where
  no_room : (full : Bool) (uri : List ℕ) (next : Step) → is_address uri ≡ true → fetched_as uri w.env ≡ None → Keeps w.env (cond full (Fails Fetches) (Needs uri)) next
  no_room true uri next address missed = tt
  no_room false uri next address missed = record { address = address; missed = missed }

  keeps_fetched : (uri : List ℕ) (o p : Option Fetched) → is_address uri ≡ true → fetched_as uri w.env ≡ o → p ≡ option_or o (fetched_as uri more) → (s : State)
      → Keeps w.env (takes_fetched w uri o s) (takes_fetched (later w more) uri p s)
  keeps_fetched uri (Some f) p address is found s =
      let P : Option Fetched → Type 0 = λ q. Keeps w.env (takes f.bytes s) (takes_fetched (later w more) uri q s) in subst P (sym found) (keeps_takes w.env f.bytes s)
  keeps_fetched uri None p address is found s = no_room (nat_le FETCHES_LIMIT (length w.env)) uri _ address is

  keeps_address : (uri : List ℕ) (b : Bool) → is_address uri ≡ b → (s : State)
      → Keeps w.env (cond b (takes_fetched w uri (fetched_as uri w.env) s) (Fails Payload)) (cond b (takes_fetched (later w more) uri (fetched_as uri (w.env ++ more)) s) (Fails Payload))
  keeps_address uri true is s = keeps_fetched uri (fetched_as uri w.env) (fetched_as uri (w.env ++ more)) is refl (find-append (λ (f : Fetched). are_same f.uri uri) w.env more) s
  keeps_address uri false is s = refl

  keeps_named : (uri : List ℕ) (b : Bool) (s : State)
      → Keeps w.env (cond b (takes (attached_bytes (attached_as uri w.attached)) s) (cond (is_address uri) (takes_fetched w uri (fetched_as uri w.env) s) (Fails Payload)))
      (cond b (takes (attached_bytes (attached_as uri w.attached)) s) (cond (is_address uri) (takes_fetched (later w more) uri (fetched_as uri (w.env ++ more)) s) (Fails Payload)))
  keeps_named uri true s = keeps_takes w.env (attached_bytes (attached_as uri w.attached)) s
  keeps_named uri false s = keeps_address uri (is_address uri) refl s

  pub keeps_from : (o : Option (List ℕ)) (s : State) → Keeps w.env (fetches_from w o s) (fetches_from (later w more) o s)
  keeps_from None s = refl
  keeps_from (Some uri) s = keeps_named uri (slice_index uri 0 == 35) s

  -- ---- all commands

  abbrev IsKept : Command → Type 0
  IsKept c = KeepsAct w.env (does w c) (does (later w more) c)

  abbrev Kept : Type 0
  Kept = (c : Command) × IsKept c

  kept_all : (es : List Kept) → KeepsAct w.env (in_turn (map (does w) (map (λ e. e.0) es))) (in_turn (map (does (later w more)) (map (λ e. e.0) es)))
  kept_all [] s = refl
  kept_all (e ∷ es) s = keeps_then w.env _ _ (kept_all es) (does w e.0 s) (does (later w more) e.0 s) (e.1 s)

  abbrev acts_of : World → List (List Kept) → List Act
  acts_of v ess = map in_turn (map (λ (cs : List Command). map (does v) cs) (map (λ (es : List Kept). map (λ e. e.0) es) ess))

  kept_tries : (null_last : Bool) (word : Word) (ess : List (List Kept)) → KeepsAct w.env (tried null_last word (acts_of w ess)) (tried null_last word (acts_of (later w more) ess))
  kept_tries null_last word [] s = keeps_last w.env null_last word s
  kept_tries null_last word (es ∷ ess) s =
      keeps_unless w.env (λ v. tried null_last v (acts_of w ess) s) (λ v. tried null_last v (acts_of (later w more) ess) s) (λ v. kept_tries null_last v ess s) _ _ (kept_all es s)

  abbrev layer : World → Command-F Command → Act
  layer v x = act_by v (map-Command Command Act (does v) x)

  kept_layer : (y : Command-F Kept) → KeepsAct w.env (layer w (map-Command Kept Command (λ e. e.0) y)) (layer (later w more) (map-Command Kept Command (λ e. e.0) y))
  kept_layer (Command-F.Vendor n) s = keeps_only_if w.env (is_set_to (current s).setting.vendor w.device.vendor) s
  kept_layer (Command-F.Class n) s = keeps_only_if w.env (is_set_to (current s).setting.class w.device.class) s
  kept_layer (Command-F.ImageMatch n) s = keeps_only_if w.env (is_right (current s)) s
  kept_layer (Command-F.Device n) s = keeps_only_if w.env (is_set_to (current s).setting.device w.device.device) s
  kept_layer (Command-F.Abort n) s = refl
  kept_layer (Command-F.Write n) s = keeps_takes w.env (current s).setting.content s
  kept_layer (Command-F.Fetch n) s = keeps_from (current s).setting.uri s
  kept_layer (Command-F.Copy n) s = keeps_takes w.env (source_bytes (current s).setting.source s) s
  kept_layer (Command-F.SetIndex n) s = refl
  kept_layer (Command-F.TryEach ess null_last) s = kept_tries null_last Condition ess s
  kept_layer (Command-F.Override v) s = refl
  kept_layer (Command-F.RunSequence es) s = kept_all es s

  pub kept : (c : Command) → IsKept c
  kept = ind-Command IsKept (λ x y is s.
      let P : Command-F Command → Type 0 = λ z. KeepsAct w.env (layer w z) (layer (later w more) z) in
      let one : does w (roll-Command x) ≡ layer w x = fold-roll-Command Act (act_by w) x in
      let two : does (later w more) (roll-Command x) ≡ layer (later w more) x = fold-roll-Command Act (act_by (later w more)) x in
      let Q : Act → Type 0 = λ a. Keeps w.env (a s) (does (later w more) (roll-Command x) s) in
      let R : Act → Type 0 = λ b. Keeps w.env (layer w x s) (b s) in
      subst Q (sym one) (subst R (sym two) (subst P is (kept_layer y) s)))

  pub kept_sequence : (commands : Sequence) → KeepsAct w.env (do_all w commands) (do_all (later w more) commands)
  kept_sequence commands = keeps_turn w.env (does w) (does (later w more)) kept commands

-- ---- what is not found

not_found : (uri : List ℕ) (env : List Fetched) → fetched_as uri env ≡ None → All (λ f. f.uri ≢ uri) env
not_found uri [] missed = λ k d below. absurd (omega arith)
not_found uri (f ∷ env) missed = by_test (are_same f.uri uri) refl (not_found uri env) where
  by_test : (b : Bool) → b ≡ are_same f.uri uri → (fetched_as uri env ≡ None → All (λ g. g.uri ≢ uri) env) → All (λ g. g.uri ≢ uri) (f ∷ env)
  by_test true is behind = absurd (let wrong : Some f ≡ None = ap (λ (b : Bool). cond b (Some f) (fetched_as uri env)) is ∙ missed in cc)
  by_test false is behind = both (behind (ap (λ (b : Bool). cond b (Some f) (fetched_as uri env)) is ∙ missed)) where
    both : All (λ g. g.uri ≢ uri) env → All (λ g. g.uri ≢ uri) (f ∷ env)
    both others zero d below = other_text f.uri uri is
    both others (suc k) d below = others k d (omega arith)

pub awaited : (env : List Fetched) (uri : List ℕ) → IsUnknown env uri → IsAwaited env uri
awaited env uri is = record { address = (is_address_iff uri).0 is.address; unknown = not_found uri env is.missed }
