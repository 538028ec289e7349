-- The Write check of a field: its formula is true exactly where the machine's test is, approved fields included.
use Rattle.std.proofs.Common.{◌≡◌, ℕ, Bool, true, false, not, ◌&&◌, ◌||◌, if◌then◌else◌, List, [], ◌∷◌, refl, sym, subst}
use Rattle.std.proofs.Math.Bool.{and-true}
use Rattle.method.specs.declared.program.Program.{Program}
use Rattle.method.specs.Tables.{is_volatile, is_approved}
use Rattle.terms.specs.Formula.{Formula}
use Rattle.conditions.specs.Formulas.{false_formula, and', or', any_of}
use Rattle.conditions.specs.Code.{Spot, State, mutable, is_listed}
use Rattle.conditions.specs.Actions.{may_count, may_change}

or_nothing : (a b : Bool) → b ≡ false → a ≡ (a || b)
or_nothing true b e = refl
or_nothing false b e = sym e

and_nothing : (a b : Bool) → b ≡ false → false ≡ (a && b)
and_nothing true b e = sym e
and_nothing false b e = refl

nothing_and : (a b : Bool) → a ≡ false → false ≡ (a && b)
nothing_and true b e = absurd (cc)
nothing_and false b e = refl

-- in one environment a formula is true, or false
module _ (Is : Formula → Bool → Type 0)
    (is_and : (x y : Formula) (a b : Bool) → Is x a → Is y b → Is (and' x y) (a && b))
    (is_or : (x y : Formula) (a b : Bool) → Is x a → Is y b → Is (or' x y) (a || b))
    (is_never : Is false_formula false)
    (never_is : (b : Bool) → Is false_formula b → b ≡ false)
  where
    pub is_first : (x : Formula) (fs : List Formula) (a b : Bool) → Is x a → Is (any_of fs) b → Is (any_of (x ∷ fs)) (a || b)
    is_first x [] a b i j = subst (λ c. Is x c) (or_nothing a b (never_is b j)) i
    is_first x (f ∷ fs) a b i j = is_or x (any_of (f ∷ fs)) a b i j

    changes : (inside vol app : Bool) (ls : List Formula) (x : Formula) (li c : Bool) → (inside ≡ false → li ≡ false) → Is (any_of ls) li → Is x c → Is (any_of (if inside && vol then (if app then and' (any_of ls) x ∷ [] else ls) else [])) (li && (vol && (not app || c)))
    changes false vol app ls x li c out i j = subst (λ b. Is false_formula b) (nothing_and li (vol && (not app || c)) (out refl)) is_never
    changes true false app ls x li c out i j = subst (λ b. Is false_formula b) (and_nothing li false refl) is_never
    changes true true true ls x li c out i j = is_and (any_of ls) x li c i j
    changes true true false ls x li c out i j = subst (λ b. Is (any_of ls) b) (sym (and-true li)) i

    -- the store of o->g: mutable, or listed, volatile and, where approved, with the owner's part
    pub write_is : (p : Program) (a : Spot) (st : State) (o : Formula) (g : ℕ) (m li c : Bool) → (a.inside ≡ false → li ≡ false) → Is (mutable st o) m → Is (any_of (is_listed p a o)) li → Is (may_count p a st.heap o) c → Is (any_of (mutable st o ∷ may_change p a o g st.heap)) (m || (li && (is_volatile p g && (not (is_approved p g) || c))))
    write_is p a st o g m li c out i j k = is_first (mutable st o) (may_change p a o g st.heap) m (li && (is_volatile p g && (not (is_approved p g) || c))) i (changes a.inside (is_volatile p g) (is_approved p g) (is_listed p a o) (may_count p a st.heap o) li c out j k)
