-- The formula of a wrap's members: each is wrapped and writable.
use Rattle.std.proofs.Common.{◌≡◌, ℕ, Bool, true, false, not, ◌&&◌, ◌||◌, List, [], ◌∷◌, ◌++◌, map, ℤ, pos, refl, sym, ap, ◌∙◌, subst}
use Rattle.std.proofs.Math.Bool.{or-false}
use Rattle.object_types.specs.declared.references.Ref.{Ref}
use Rattle.object_types.specs.declared.values.Value.{Value as Scalar}
use Rattle.object_types.specs.declared.values.Value.TheVariants.{Int, Ref as Refers}
use Rattle.object_types.specs.References.{same_ref}
use Rattle.object_types.specs.Values.{says, same_value}
use Rattle.object_types.specs.Sets.{is_in}
use Rattle.object_types.specs.Heap.{Heap, closed_in, wrapped, writable}
use Rattle.object_types.proofs.Orders.{value_order}
use Rattle.method.specs.declared.program.Program.{Program}
use Rattle.method.proofs.Global.{same_value_is}
use Rattle.terms.specs.declared.term.Kind.{Kind}
use Rattle.terms.specs.declared.term.Kind.TheVariants as k
use Rattle.terms.specs.Formula.{Formula, Node, Stop, With}
use Rattle.term_meaning.specs.RawHeaps.{RawHeap, raw, mode_number}
use Rattle.term_meaning.specs.Meaning.{Value, BoolValue, PlainValue, HeapValue, Env, GivesBy, MeansBy, scalar, ref_value}
use Rattle.conditions.specs.Formulas.{nat, not', and', or', imp, eq, any_of, is_any, get, mode, owner, owns, closed, wrapped as wrapped_formula, writable as writable_formula, owned_column}
use Rattle.conditions.specs.Quantified.{members_body}
use Rattle.action_conditions.proofs.Words.{any, any_both, any_same, closed_mode_is, one_is}

-- The value of a formula that names no invariant and no quantified formula, whatever these are.
module _ (p : Program) (A : ℕ → List Value → Type 0) (I : Ref → RawHeap → RawHeap → Type 0) (e : Env) where
  abbrev Gives : Formula → Value → Type 0
  Gives = GivesBy p A I e

  abbrev Is : Formula → Bool → Type 0
  Is f b = Gives f (BoolValue b)

  abbrev Has : Formula → Scalar → Type 0
  Has f v = Gives f (PlainValue v)

  unary : (kind : Kind) (n : ℤ) (f : Formula) (x y : Value) → Gives f x → MeansBy p A I e kind n (x ∷ []) y → Gives (Node kind n (With f Stop)) y
  unary kind n f x y g m = (x ∷ [], (x, [], refl, g, refl), m)

  binary : (kind : Kind) (n : ℤ) (f g : Formula) (x y z : Value) → Gives f x → Gives g y → MeansBy p A I e kind n (x ∷ y ∷ []) z → Gives (Node kind n (With f (With g Stop))) z
  binary kind n f g x y z a b m = (x ∷ y ∷ [], (x, y ∷ [], refl, a, (y, [], refl, b, refl)), m)

  pub third : (kind : Kind) (n : ℤ) (f g h : Formula) (x y w z : Value) → Gives f x → Gives g y → Gives h w → MeansBy p A I e kind n (x ∷ y ∷ w ∷ []) z → Gives (Node kind n (With f (With g (With h Stop)))) z
  third kind n f g h x y w z a b c m = (x ∷ y ∷ w ∷ [], (x, y ∷ w ∷ [], refl, a, (y, w ∷ [], refl, b, (w, [], refl, c, refl))), m)

  pub has_nat : (n : ℕ) → Has (nat n) (Int (pos n))
  has_nat n = ([], refl, refl)

  pub is_not : (f : Formula) (b : Bool) → Is f b → Is (not' f) (not b)
  is_not f b i = unary k.Not (pos 0) f (BoolValue b) (BoolValue (not b)) i refl

  is_and : (f g : Formula) (b c : Bool) → Is f b → Is g c → Is (and' f g) (b && c)
  is_and f g b c i j = binary k.And (pos 0) f g (BoolValue b) (BoolValue c) (BoolValue (b && c)) i j refl

  pub is_or : (f g : Formula) (b c : Bool) → Is f b → Is g c → Is (or' f g) (b || c)
  is_or f g b c i j = binary k.Or (pos 0) f g (BoolValue b) (BoolValue c) (BoolValue (b || c)) i j refl

  pub is_imp : (f g : Formula) (b c : Bool) → Is f b → Is g c → Is (imp f g) (not b || c)
  is_imp f g b c i j = binary k.Imp (pos 0) f g (BoolValue b) (BoolValue c) (BoolValue (not b || c)) i j refl

  pub is_eq : (f g : Formula) (a b : Scalar) → Has f a → Has g b → Is (eq f g) (same_value a b)
  is_eq f g a b i j = binary k.Eq (pos 0) f g (PlainValue a) (PlainValue b) (BoolValue (same_value a b)) i j (record { is_bool = refl; yes = λ h. ap PlainValue (same_value_is a b h); holds = λ h. subst (λ c. same_value a (scalar c) ≡ true) h (value_order.itself a) })

  pub is_so : (f : Formula) (b c : Bool) → b ≡ c → Is f b → Is f c
  is_so f b c same i = subst (λ d. Is f d) same i

  abbrev HeapIs : Formula → Heap → Type 0
  HeapIs f h = Gives f (HeapValue (raw p h))

  module _ (x o : Formula) (h : Heap) (r : Ref) (hx : HeapIs x h) (ho : Has o (Refers r)) where
    has_mode : Has (mode x o) (Int (mode_number (h.get r).mode))
    has_mode = binary k.Get (pos 0) x o (HeapValue (raw p h)) (ref_value r) _ hx ho refl

    has_owner : Has (owner x o) (Refers (h.get r).owner)
    has_owner = binary k.Get (pos 1) x o (HeapValue (raw p h)) (ref_value r) _ hx ho refl

    is_owned_by : (w : Formula) (q : Ref) → Has w (Refers q) → Is (eq (owner x o) w) (same_ref (h.get r).owner q)
    is_owned_by w q hw = is_eq (owner x o) w (Refers (h.get r).owner) (Refers q) has_owner hw

    is_closed : Is (closed x o) (closed_in h r)
    is_closed = is_so (closed x o) (same_value (Int (mode_number (h.get r).mode)) (Int (pos 2))) (closed_in h r) (closed_mode_is (h.get r).mode) (is_eq (mode x o) (nat 2) (Int (mode_number (h.get r).mode)) (Int (pos 2)) has_mode (has_nat 2))

    is_wrapped : (w : Formula) (q : Ref) → Has w (Refers q) → Is (wrapped_formula w x o) (wrapped q h r)
    is_wrapped w q hw = is_and (closed x o) (eq (owner x o) w) (closed_in h r) (same_ref (h.get r).owner q) is_closed (is_owned_by w q hw)

    is_member : (w : Formula) (q : Ref) → Has w (Refers q) → Is (owns x o w) (is_in q (h.get r).owned)
    is_member w q hw =
        is_so (owns x o w) (same_value (says (is_in q (h.get r).owned)) (Int (pos 1))) (is_in q (h.get r).owned) (one_is (is_in q (h.get r).owned))
        (is_eq (get owned_column x (o ∷ w ∷ [])) (nat 1) (says (is_in q (h.get r).owned)) (Int (pos 1)) (third k.Get (pos 3) x o w (HeapValue (raw p h)) (ref_value r) (ref_value q) _ hx ho hw refl) (has_nat 1))

  -- the terms have these references as values
  abbrev pub Refer : List Formula → List Ref → Type 0
  Refer [] [] = Unit {0}
  Refer [] (r ∷ rs) = ⊥
  Refer (f ∷ fs) [] = ⊥
  Refer (f ∷ fs) (r ∷ rs) = Has f (Refers r) × Refer fs rs

  -- among these, or something more
  is_among : (o g : Formula) (r : Ref) (b : Bool) → Has o (Refers r) → Is g b → (ws : List Formula) (qs : List Ref) → Refer ws qs → Is (any_of (is_any o ws ++ g ∷ [])) (any (map (same_ref r) qs ++ b ∷ []))
  is_among o g r b ho hg [] [] a = is_so g b (b || false) (sym (or-false b)) hg
  is_among o g r b ho hg [] (q ∷ qs) a = absurd a
  is_among o g r b ho hg (w ∷ ws) [] a = absurd a
  is_among o g r b ho hg (w ∷ []) (q ∷ []) a = is_or (eq o w) g (same_ref r q) (b || false) (is_eq o w (Refers r) (Refers q) ho a.0) (is_so g b (b || false) (sym (or-false b)) hg)
  is_among o g r b ho hg (w ∷ []) (q ∷ r' ∷ qs) a = absurd a.1
  is_among o g r b ho hg (w ∷ v ∷ ws) (q ∷ []) a = absurd a.1
  is_among o g r b ho hg (w ∷ v ∷ ws) (q ∷ s ∷ qs) a = is_or (eq o w) (any_of (is_any o (v ∷ ws) ++ g ∷ [])) (same_ref r q) (any (map (same_ref r) (s ∷ qs) ++ b ∷ [])) (is_eq o w (Refers r) (Refers q) ho a.0) (is_among o g r b ho hg (v ∷ ws) (s ∷ qs) a.1)

  is_writable : (x o : Formula) (h : Heap) (r : Ref) → HeapIs x h → Has o (Refers r) → (w : Formula) (t : Ref) → Has w (Refers t) → (ws : List Formula) (qs : List Ref) → Refer ws qs → Is (writable_formula w x ws o) (writable t h qs r)
  is_writable x o h r hx ho w t hw ws qs a =
      let last = not (same_ref (h.get r).owner t) in
      is_so (writable_formula w x ws o) (any (map (same_ref r) qs ++ last ∷ [])) (writable t h qs r)
      (any_both (map (same_ref r) qs) (last ∷ []) ∙ ap (λ b. b || (last || false)) (any_same r qs) ∙ ap (λ b. is_in r qs || b) (or-false last))
      (is_among o (not' (eq (owner x o) w)) r last ho (is_not (eq (owner x o) w) (same_ref (h.get r).owner t) (is_owned_by x o h r hx ho w t hw)) ws qs a)

  -- the body for one reference
  pub members_is : (set o h t z w : Formula) (ws : List Formula) (hs hh he : Heap) (r me q : Ref) (qs : List Ref) → HeapIs set hs → Has o (Refers r) → HeapIs h hh → Has t (Refers me) → Refer ws qs → HeapIs z he → Has w (Refers q)
      → Is (members_body set o h t z ws w) (not (is_in q (hs.get r).owned) || (wrapped me hh q && writable me he qs q))
  members_is set o h t z w ws hs hh he r me q qs gs ao ah at_ aw az aq =
      is_imp (owns set o w) (and' (wrapped_formula t h w) (writable_formula t z ws w)) (is_in q (hs.get r).owned) (wrapped me hh q && writable me he qs q) (is_member set o hs r gs ao w q aq)
      (is_and (wrapped_formula t h w) (writable_formula t z ws w) (wrapped me hh q) (writable me he qs q) (is_wrapped h w hh q ah aq t me at_) (is_writable z w he q az aq t me at_ ws qs aw))
