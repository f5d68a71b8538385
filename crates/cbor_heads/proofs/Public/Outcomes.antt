-- What an outcome is: a value or a fault, by which steps it came, and by which tests.
use Rattle.std.proofs.Common.{◌≡◌, ◌⊎◌, Bool, true, false, cond, Result, Ok, Err, refl, ap, inl, inr}
use Rattle.cbor_heads.specs.Place.{Place}
use Rattle.cbor_heads.specs.Reading.{Outcome, ◌>>=◌}

abbrev pub done : {E A : Type 0} → A → Result A E
done x = Ok x

abbrev pub failed : {E A : Type 0} → E → Result A E
failed f = Err f

pub not_ok : {E A : Type 0} (f : E) (x : A) → failed f ≡ Ok x → ⊥
not_ok f x e = cc

pub not_err : {E A : Type 0} (x : A) (f : E) → done x ≡ Err f → ⊥
not_err x f e = cc

pub ok_is : {E A : Type 0} (x y : A) → done {E = E} x ≡ done y → x ≡ y
ok_is x y e = cc

pub err_is : {E A : Type 0} (f g : E) → failed {A = A} f ≡ Err g → f ≡ g
err_is f g e = cc

-- the value of a step that did not fail
pub bind_ok : {E A B : Type 0} (r : Outcome E A) (f : A × Place → Outcome E B) (y : B × Place) → (r >>= f) ≡ Ok y → (x : A × Place) × (r ≡ Ok x) × (f x ≡ Ok y)
bind_ok (Ok x) f y e = (x, refl, e)
bind_ok (Err d) f y e = absurd cc

-- which step failed
pub bind_err : {E A B : Type 0} (r : Outcome E A) (f : A × Place → Outcome E B) (g : E) → (r >>= f) ≡ Err g → (r ≡ Err g) ⊎ ((x : A × Place) × (r ≡ Ok x) × (f x ≡ Err g))
bind_err (Ok x) f g e = inr (x, refl, e)
bind_err {E} (Err d) f g e = inl (let h : failed d ≡ Err g = e in ap (λ (y : E). Err y) (err_is d g h))

-- which way a test went
pub chosen : {A : Type 0} (b : Bool) (x y z : A) → cond b x y ≡ z → ((b ≡ true) × (x ≡ z)) ⊎ ((b ≡ false) × (y ≡ z))
chosen true x y z e = inl (refl, e)
chosen false x y z e = inr (refl, e)

-- the outcome behind a test that would have been a fault
pub passed : {E A : Type 0} (b : Bool) (f : E) (r : Result A E) (y : A) → cond b (Err f) r ≡ Ok y → (b ≡ false) × (r ≡ Ok y)
passed true f r y e = absurd cc
passed false f r y e = (refl, e)

-- a test that held, since otherwise there would be a fault
pub held : {E A : Type 0} (b : Bool) (r : Result A E) (f : E) (y : A) → cond b r (Err f) ≡ Ok y → (b ≡ true) × (r ≡ Ok y)
held true r f y e = (refl, e)
held false r f y e = absurd cc
