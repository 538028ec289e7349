-- Scenes that differ in variables and a result that an annotation doesn't name: what is written over them differs in the numbers of constants alone.
use Rattle.std.proofs.Common.{drop, ◌++◌, ◌≡◌, ℕ, zero, suc, ◌+◌, ◌-◌, ◌<◌, ◌≤◌, ◌⊎◌, inl, inr, ◌==◌, nat_lt, Bool, true, false, ◌&&◌, if◌then◌else◌, List, [], ◌∷◌, map, length, get_or, refl, sym, ap, ◌∙◌, subst, arith}
use Rattle.std.proofs.lemmas.Bool.{eqb-true, eq-eqb, and_parts, ltb-true}
use Rattle.object_types.specs.Sets.{every}
use Rattle.method.specs.declared.program.DeclaredType.{DeclaredType}
use Rattle.method.specs.declared.program.DeclaredType.TheVariants.{Integer, Pointer, Object, Claim}
use Rattle.method.specs.declared.program.Operator.{Operator}
use Rattle.method.specs.declared.program.Operator.TheVariants as o
use Rattle.method.specs.declared.program.Comparison.{Comparison}
use Rattle.method.specs.declared.program.Comparison.TheVariants as c
use Rattle.method.specs.declared.program.Hole.{Hole}
use Rattle.method.specs.declared.program.Hole.TheVariants.{OfVariable, OfBound, OfMe, OfThis, OfResult}
use Rattle.method.specs.declared.program.Spec.{Spec, Row_of-Spec, end_of-Spec, more_of-Spec}
use Rattle.method.specs.declared.program.Spec.TheVariants as s
use Rattle.method.specs.declared.program.Program.{Program}
use Rattle.method.specs.Tables.{type_of_field}
use Rattle.terms.specs.Formula.{Formula}
use Rattle.conditions.specs.Formulas.{row, nat, null, reference, eq, owner, mode, all_of, and', owns, constants, any_of, is_any, lists}
use Rattle.conditions.specs.Symbolic.{Symbolic, Truth, Number, Reference, term, symbolic_of_type, ranges, compute, compare}
use Rattle.conditions.specs.Annotations.{Scene, old_as_present, old_scene, bind_ref, with_subject, current_heap, symbolic_at, variable, bound_ref, hole_value, parts, formal_scene, constant_like, constants_like, references_like, subject_of, and_left, body_of_all, body_of_some, free_parts, translate, tests, body_of_only, terms_of, quantifier}
use Rattle.condition_meaning.specs.Fits.{names, row_names, hole_names, is_ref}
use Rattle.condition_meaning.proofs.Constants.{but}
use Rattle.condition_meaning.proofs.Forms.{parts_size, back_at, back_size, constants_like_size, references_like_size}
use Rattle.condition_meaning.proofs.Places.{below_or, part, local_part, entry_part, bound_part, like_at, like_past, bound_like_at, bound_like_past}
use Rattle.condition_meaning.proofs.SameTrees.{SameTree, SameTrees, SameValue, Pairs, same_term, same_test, same_sort, same_choice, constants_same, but_same}

pub record SceneSame (Rel : ℕ → ℕ → Type 0) (few : ℕ) (result_shown : Bool) (y z : Scene) : Type 0 where
  pub past : y.past ≡ z.past
  pub after : SameTree Rel y.after z.after
  pub before : SameTree Rel y.before z.before
  pub me : SameTree Rel y.me z.me
  pub this : SameTree Rel y.this z.this
  pub result : result_shown ≡ true → SameValue Rel y.result z.result
  pub locals : (i : ℕ) → i < few → SameValue Rel (symbolic_at y.locals i) (symbolic_at z.locals i)
  pub few_first : few ≤ length y.locals
  pub few_second : few ≤ length z.locals
  pub entry : (i : ℕ) → SameValue Rel (symbolic_at y.entry i) (symbolic_at z.entry i)
  pub entry_size : length y.entry ≡ length z.entry
  pub params_first : length y.entry ≤ few
  pub bound : (i : ℕ) → SameTree Rel (bound_ref y i) (bound_ref z i)
  pub bound_size : length y.bound ≡ length z.bound
  pub subject : SameTree Rel y.subject z.subject

-- The places of one scene and of another with other variables behind the first few.
abbrev pub Shift : Bool → ℕ → ℕ → ℕ → ℕ → ℕ → Type 0
Shift result_shown few a b n m = ((n < 5 + few) × (m ≡ n) × ((n ≡ 4) → result_shown ≡ true)) ⊎ ((5 + a ≤ n) × (5 + b ≤ m) × (n + b ≡ m + a))

unlike : (n m : ℕ) → ((n ≡ m) → ⊥) → n == m ≡ false
unlike n m h = by_test (n == m) refl
  where
    by_test : (t : Bool) → n == m ≡ t → t ≡ false
    by_test true e = absurd (h (eqb-true n m e))
    by_test false e = refl

alike : (i j n m : ℕ) → ((i ≡ j) → n ≡ m) → ((n ≡ m) → i ≡ j) → (i == j) ≡ (n == m)
alike i j n m f g = by_test (i == j) refl
  where
    by_test : (t : Bool) → i == j ≡ t → t ≡ (n == m)
    by_test true e = sym (eq-eqb n m (f (eqb-true i j e)))
    by_test false e = sym (unlike n m (λ h. let z : i == j ≡ true = eq-eqb i j (g h) in cc))

pub shift_unique : (r : Bool) (few a b : ℕ) → few ≤ a → few ≤ b → (i j n m : ℕ) → Shift r few a b i n → Shift r few a b j m → (i == j) ≡ (n == m)
shift_unique r few a b x y i j n m (inl f) (inl g) = alike i j n m (λ h. omega (arith, h, f.1, g.1)) (λ h. omega (arith, h, f.1, g.1))
shift_unique r few a b x y i j n m (inl f) (inr g) = alike i j n m (λ h. absurd (omega (arith, h, f.0, g.0, x))) (λ h. absurd (omega (arith, h, f.0, f.1, g.1, y)))
shift_unique r few a b x y i j n m (inr f) (inl g) = alike i j n m (λ h. absurd (omega (arith, h, g.0, f.0, x))) (λ h. absurd (omega (arith, h, g.0, g.1, f.1, y)))
shift_unique r few a b x y i j n m (inr f) (inr g) = alike i j n m (λ h. omega (arith, h, f.2, g.2)) (λ h. omega (arith, h, f.2, g.2))

module _ (Rel : ℕ → ℕ → Type 0) (few : ℕ) (r : Bool) where
  now_same : (y z : Scene) → SceneSame Rel few r y z → SameTree Rel (current_heap y) (current_heap z)
  now_same y z a = by_past y.past z.past a.past
    where
      by_past : (s t : Bool) → s ≡ t → SameTree Rel (if s then y.before else y.after) (if t then z.before else z.after)
      by_past true true e = a.before
      by_past true false e = absurd (cc)
      by_past false true e = absurd (cc)
      by_past false false e = a.after

  variable_same : (y z : Scene) (i : ℕ) → SceneSame Rel few r y z → i < few → SameValue Rel (variable y i) (variable z i)
  variable_same y z i a h = by_test (y.past && nat_lt i (length y.entry)) (z.past && nat_lt i (length z.entry)) (λ d. a.past d && nat_lt i (a.entry_size d))
    where
      by_test : (s t : Bool) → s ≡ t → SameValue Rel (if s then symbolic_at y.entry i else symbolic_at y.locals i) (if t then symbolic_at z.entry i else symbolic_at z.locals i)
      by_test true true e = a.entry i
      by_test true false e = absurd (cc)
      by_test false true e = absurd (cc)
      by_test false false e = a.locals i h

  filling_same : (y z : Scene) (h : Hole) → SceneSame Rel few r y z → hole_names few r h ≡ true → SameValue Rel (hole_value y h) (hole_value z h)
  filling_same y z (OfVariable i) a n = variable_same y z i a (ltb-true _ _ n)
  filling_same y z (OfBound i) a n = a.bound i
  filling_same y z OfMe a n = a.me
  filling_same y z OfThis a n = a.this
  filling_same y z OfResult a n = a.result n

  fillings_same : (y z : Scene) (hs : List Hole) → SceneSame Rel few r y z → every (hole_names few r) hs ≡ true → SameTrees Rel (row (map (λ h. term (hole_value y h)) hs)) (row (map (λ h. term (hole_value z h)) hs))
  fillings_same y z [] a n = tt
  fillings_same y z (h ∷ hs) a n = let t = and_parts (hole_names few r h) (every (hole_names few r) hs) n in (same_term Rel (hole_value y h) (hole_value z h) (filling_same y z h a t.0), fillings_same y z hs a t.1)

  pub old_same : (y z : Scene) → SceneSame Rel few r y z → SceneSame Rel few r (old_scene y) (old_scene z)
  old_same y z a = record { past = refl; after = a.after; before = a.before; me = a.me; this = a.this; result = a.result; locals = a.locals; few_first = a.few_first; few_second = a.few_second; entry = a.entry; entry_size = a.entry_size; params_first = a.params_first; bound = a.bound; bound_size = a.bound_size; subject = a.subject }

  back_same : (y z : Scene) → SceneSame Rel few r y z → SceneSame Rel few r (old_as_present y) (old_as_present z)
  back_same y z a = record {
    past = a.past;
    after = a.before;
    before = a.before;
    me = a.me;
    this = a.this;
    result = a.result;
    locals = λ i h. back_at (λ w. SameValue Rel (symbolic_at (y.entry ++ drop (length y.entry) y.locals) i) w) z.entry z.locals i
        (λ g. back_at (λ w. SameValue Rel w (symbolic_at z.entry i)) y.entry y.locals i (λ k. a.entry i) (λ k. absurd (omega (arith, g, k, a.entry_size))))
        (λ g. back_at (λ w. SameValue Rel w (symbolic_at z.locals i)) y.entry y.locals i (λ k. absurd (omega (arith, g, k, a.entry_size))) (λ k. a.locals i h));
    few_first = omega (arith, a.few_first, back_size y.entry y.locals);
    few_second = omega (arith, a.few_second, back_size z.entry z.locals);
    entry = a.entry;
    entry_size = a.entry_size;
    params_first = a.params_first;
    bound = a.bound;
    bound_size = a.bound_size;
    subject = a.subject;
  }

  about_same : (y z : Scene) (f g : Formula) → SameTree Rel f g → SceneSame Rel few r y z → SceneSame Rel few r (with_subject f y) (with_subject g z)
  about_same y z f g h a = record { past = a.past; after = a.after; before = a.before; me = a.me; this = a.this; result = a.result; locals = a.locals; few_first = a.few_first; few_second = a.few_second; entry = a.entry; entry_size = a.entry_size; params_first = a.params_first; bound = a.bound; bound_size = a.bound_size; subject = h }

  pub bind_same : (y z : Scene) (f g : Formula) → SameTree Rel f g → SceneSame Rel few r y z → SceneSame Rel few r (bind_ref f y) (bind_ref g z)
  bind_same y z f g h a = record { past = a.past; after = a.after; before = a.before; me = a.me; this = a.this; result = a.result; locals = a.locals; few_first = a.few_first; few_second = a.few_second; entry = a.entry; entry_size = a.entry_size; params_first = a.params_first; bound = bound; bound_size = ap suc a.bound_size; subject = a.subject }
    where
      bound : (i : ℕ) → SameTree Rel (bound_ref (bind_ref f y) i) (bound_ref (bind_ref g z) i)
      bound zero = h
      bound (suc i) = a.bound i

  type_same : (ty : DeclaredType) (f g : Formula) → SameTree Rel f g → SameValue Rel (symbolic_of_type ty f) (symbolic_of_type ty g)
  type_same (Integer k) f g h = h
  type_same (Pointer n) f g h = h
  type_same Object f g h = h
  type_same Claim f g h = h

  compute_same : (op : Operator) (a b d e : Formula) → SameTree Rel a d → SameTree Rel b e → SameTree Rel (compute op a b) (compute op d e)
  compute_same o.Plus a b d e i j = (refl, refl, (i, (j, tt)))
  compute_same o.Minus a b d e i j = (refl, refl, (i, (j, tt)))
  compute_same o.Times a b d e i j = (refl, refl, (i, (j, tt)))
  compute_same o.Over a b d e i j = (refl, refl, (i, (j, tt)))
  compute_same o.Modulo a b d e i j = (refl, refl, (i, (j, tt)))

  compare_same : (op : Comparison) (a b d e : Formula) → SameTree Rel a d → SameTree Rel b e → SameTree Rel (compare op a b) (compare op d e)
  compare_same c.Equal a b d e i j = (refl, refl, (i, (j, tt)))
  compare_same c.NotEqual a b d e i j = (refl, refl, ((refl, refl, (i, (j, tt))), tt))
  compare_same c.Less a b d e i j = (refl, refl, ((refl, refl, (j, (i, tt))), tt))
  compare_same c.LessEqual a b d e i j = (refl, refl, (i, (j, tt)))
  compare_same c.Greater a b d e i j = (refl, refl, ((refl, refl, (i, (j, tt))), tt))
  compare_same c.GreaterEqual a b d e i j = (refl, refl, (j, (i, tt)))

  status_same : (y z : Scene) → SceneSame Rel few r y z → (f g : Formula) → SameTree Rel f g → SameTrees Rel (row (eq (mode (current_heap y) f) (nat 1) ∷ eq (owner (current_heap y) f) y.me ∷ [])) (row (eq (mode (current_heap z) g) (nat 1) ∷ eq (owner (current_heap z) g) z.me ∷ []))
  status_same y z a f g h =
      let n = now_same y z a in
      ((refl, refl, ((refl, refl, (n, (h, tt))), ((refl, refl, tt), tt))), ((refl, refl, ((refl, refl, (n, (h, tt))), (a.me, tt))), tt))

  abbrev pub EachSame : List Formula → List Formula → Type 0
  EachSame [] [] = Unit {0}
  EachSame [] (g ∷ gs) = ⊥
  EachSame (f ∷ fs) [] = ⊥
  EachSame (f ∷ fs) (g ∷ gs) = SameTree Rel f g × EachSame fs gs

  all_same : (fs gs : List Formula) → EachSame fs gs → SameTree Rel (all_of fs) (all_of gs)
  all_same [] [] h = (refl, refl, tt)
  all_same [] (g ∷ gs) h = absurd h
  all_same (f ∷ fs) [] h = absurd h
  all_same (f ∷ []) (g ∷ []) h = h.0
  all_same (f ∷ []) (g ∷ g2 ∷ gs) h = absurd h.1
  all_same (f ∷ f2 ∷ fs) (g ∷ []) h = absurd h.1
  all_same (f ∷ f2 ∷ fs) (g ∷ g2 ∷ gs) h = (refl, refl, (h.0, (all_same (f2 ∷ fs) (g2 ∷ gs) h.1, tt)))

  left_same : (f g : Formula) (fs gs : List Formula) → SameTree Rel f g → EachSame fs gs → SameTree Rel (and_left f fs) (and_left g gs)
  left_same f g [] [] h a = h
  left_same f g [] (b ∷ gs) h a = absurd a
  left_same f g (b ∷ fs) [] h a = absurd a
  left_same f g (b ∷ fs) (d ∷ gs) h a = left_same (and' f b) (and' g d) fs gs (refl, refl, (h, (a.0, tt))) a.1

  any_same : (f g : Formula) (fs gs : List Formula) → SameTree Rel f g → EachSame fs gs → SameTree Rel (any_of (is_any f fs)) (any_of (is_any g gs))
  any_same f g [] [] h a = (refl, refl, ((refl, refl, tt), tt))
  any_same f g [] (d ∷ gs) h a = absurd a
  any_same f g (b ∷ fs) [] h a = absurd a
  any_same f g (b ∷ []) (d ∷ []) h a = (refl, refl, (h, (a.0, tt)))
  any_same f g (b ∷ []) (d ∷ d2 ∷ gs) h a = absurd a.1
  any_same f g (b ∷ b2 ∷ fs) (d ∷ []) h a = absurd a.1
  any_same f g (b ∷ b2 ∷ fs) (d ∷ d2 ∷ gs) h a = (refl, refl, ((refl, refl, (h, (a.0, tt))), (any_same f g (b2 ∷ fs) (d2 ∷ gs) h a.1, tt)))

  listed_same : (h k c d : Formula) (fs gs : List Formula) (f g : Formula) → SameTree Rel h k → SameTree Rel c d → EachSame fs gs → SameTree Rel f g → EachSame (map (lists h c) fs ++ f ∷ []) (map (lists k d) gs ++ g ∷ [])
  listed_same h k c d [] [] f g i j e last = (last, tt)
  listed_same h k c d [] (o ∷ gs) f g i j e last = absurd e
  listed_same h k c d (o ∷ fs) [] f g i j e last = absurd e
  listed_same h k c d (o ∷ fs) (q ∷ gs) f g i j e last = ((refl, refl, ((refl, refl, (i, (j, (e.0, tt)))), ((refl, refl, tt), tt))), listed_same h k c d fs gs f g i j e.1 last)

  ranges_same : (ty : DeclaredType) (f g : Formula) → SameTree Rel f g → EachSame (ranges ty f) (ranges ty g)
  ranges_same (Integer k) f g h = ((refl, refl, ((refl, refl, tt), (h, tt))), ((refl, refl, (h, ((refl, refl, tt), tt))), tt))
  ranges_same (Pointer n) f g h = ((refl, refl, ((refl, refl, (h, ((refl, refl, tt), tt))), ((refl, refl, ((refl, refl, (h, tt)), ((refl, refl, tt), tt))), tt))), tt)
  ranges_same Object f g h = ((refl, refl, ((refl, refl, ((refl, refl, (h, tt)), ((refl, refl, tt), tt))), tt)), tt)
  ranges_same Claim f g h = ((refl, refl, ((refl, refl, (h, ((refl, refl, tt), tt))), ((refl, refl, ((refl, refl, (h, tt)), ((refl, refl, tt), tt))), tt))), tt)

-- At places that are shifted the parts are the same.
module _ (Rel : ℕ → ℕ → Type 0) (few : ℕ) (r : Bool) (y z : Scene) (a : SceneSame Rel few r y z) where
  abbrev a_size : ℕ
  a_size = length y.locals

  abbrev b_size : ℕ
  b_size = length z.locals

  abbrev Places : ℕ → ℕ → Type 0
  Places = Shift r few a_size b_size

  moved_to : (n m n' m' : ℕ) → n ≡ n' → m ≡ m' → SameTree Rel (part y n') (part z m') → SameTree Rel (part y n) (part z m)
  moved_to n m n' m' e f h = subst (λ i. SameTree Rel (part y i) (part z m)) (sym e) (subst (λ i. SameTree Rel (part y n') (part z i)) (sym f) h)

  first_parts : (n : ℕ) → n < 5 + few → ((n ≡ 4) → r ≡ true) → SameTree Rel (part y n) (part z n)
  first_parts zero h s = a.after
  first_parts (suc zero) h s = a.before
  first_parts (suc (suc zero)) h s = a.me
  first_parts (suc (suc (suc zero))) h s = a.this
  first_parts (suc (suc (suc (suc zero)))) h s = same_term Rel y.result z.result (a.result (s refl))
  first_parts (suc (suc (suc (suc (suc i))))) h s =
      let below : i < few = omega (arith, h) in
      let five : suc (suc (suc (suc (suc i)))) ≡ 5 + i = omega arith in
      moved_to (suc (suc (suc (suc (suc i))))) (suc (suc (suc (suc (suc i))))) (5 + i) (5 + i) five five
      (subst (λ f. SameTree Rel f (part z (5 + i))) (sym (local_part y i (omega (arith, below, a.few_first)))) (subst (λ f. SameTree Rel (term (symbolic_at y.locals i)) f) (sym (local_part z i (omega (arith, below, a.few_second)))) (same_term Rel (symbolic_at y.locals i) (symbolic_at z.locals i) (a.locals i below))))

  later_parts : (k : ℕ) → SameTree Rel (part y (5 + a_size + k)) (part z (5 + b_size + k))
  later_parts k =
      elim (below_or k (length y.entry)) [
        | inl h ↦
            let g : k < length z.entry = omega (arith, h, a.entry_size) in
            subst (λ f. SameTree Rel f (part z (5 + b_size + k))) (sym (entry_part y k h)) (subst (λ f. SameTree Rel (term (symbolic_at y.entry k)) f) (sym (entry_part z k g)) (same_term Rel (symbolic_at y.entry k) (symbolic_at z.entry k) (a.entry k)))
        | inr h ↦
            let j = k - length y.entry in
            moved_to (5 + a_size + k) (5 + b_size + k) (5 + a_size + length y.entry + j) (5 + b_size + length z.entry + j) (omega (arith, h)) (omega (arith, h, a.entry_size))
            (subst (λ f. SameTree Rel f (part z (5 + b_size + length z.entry + j))) (sym (bound_part y j)) (subst (λ f. SameTree Rel (bound_ref y j) f) (sym (bound_part z j)) (a.bound j)))
      ]

  pub parts_same : (n m : ℕ) → Places n m → SameTree Rel (part y n) (part z m)
  parts_same n m (inl h) = subst (λ i. SameTree Rel (part y n) (part z i)) (sym h.1) (first_parts n h.0 h.2)
  parts_same n m (inr h) = let k = n - (5 + a_size) in moved_to n m (5 + a_size + k) (5 + b_size + k) (omega (arith, h.0)) (omega (arith, h.0, h.1, h.2)) (later_parts k)

  all_parts_same : (ms ns : List ℕ) → Pairs Places ms ns → SameTrees Rel (row (map (λ n. part y n) ms)) (row (map (λ n. part z n) ns))
  all_parts_same [] [] h = tt
  all_parts_same [] (n ∷ ns) h = absurd h
  all_parts_same (m ∷ ms) [] h = absurd h
  all_parts_same (m ∷ ms) (n ∷ ns) h = (parts_same m n h.0, all_parts_same ms ns h.1)

  pub last_places : Places (length (parts y)) (length (parts z))
  last_places = inr (omega (arith, parts_size y), omega (arith, parts_size z), omega (arith, parts_size y, parts_size z, a.entry_size, a.bound_size))

  pub free_same : (f g : Formula) → SameTree Places f g → SameTrees Rel (row (free_parts y f)) (row (free_parts z g))
  free_same f g h =
      all_parts_same (but (length (parts y)) (constants f [])) (but (length (parts z)) (constants g [])) (but_same Places (shift_unique r few a_size b_size a.few_first a.few_second) (length (parts y)) (length (parts z)) (constants f []) (constants g []) last_places (constants_same Places (shift_unique r few a_size b_size a.few_first a.few_second) f g [] [] h tt))

  -- the scenes of constants

  like_same : (n m : ℕ) (x w : Symbolic) → is_ref x ≡ is_ref w → Places n m → SameValue Places (constant_like n x) (constant_like m w)
  like_same n m (Truth f) (Truth g) e h = (refl, h, tt)
  like_same n m (Truth f) (Number g) e h = (refl, h, tt)
  like_same n m (Truth f) (Reference g) e h = absurd (cc)
  like_same n m (Number f) (Truth g) e h = (refl, h, tt)
  like_same n m (Number f) (Number g) e h = (refl, h, tt)
  like_same n m (Number f) (Reference g) e h = absurd (cc)
  like_same n m (Reference f) (Truth g) e h = absurd (cc)
  like_same n m (Reference f) (Number g) e h = absurd (cc)
  like_same n m (Reference f) (Reference g) e h = (refl, h, tt)

  zero_same : SameValue Places (Number (nat 0)) (Number (nat 0))
  zero_same = (refl, refl, tt)

  locals_like : (i : ℕ) → i < few → SameValue Places (symbolic_at (constants_like 5 y.locals) i) (symbolic_at (constants_like 5 z.locals) i)
  locals_like i h =
      subst (λ w. SameValue Places w (symbolic_at (constants_like 5 z.locals) i)) (sym (like_at 5 y.locals i (omega (arith, h, a.few_first)))) (subst (λ w. SameValue Places (constant_like (5 + i) (symbolic_at y.locals i)) w) (sym (like_at 5 z.locals i (omega (arith, h, a.few_second)))) (like_same (5 + i) (5 + i) (symbolic_at y.locals i) (symbolic_at z.locals i) (same_sort Rel (symbolic_at y.locals i) (symbolic_at z.locals i) (a.locals i h)) (inl (omega (arith, h), refl, λ e. absurd (omega (arith, e))))))

  entry_like : (i : ℕ) → SameValue Places (symbolic_at (constants_like (5 + a_size) y.entry) i) (symbolic_at (constants_like (5 + b_size) z.entry) i)
  entry_like i =
      elim (below_or i (length y.entry)) [
        | inl h ↦
            subst (λ w. SameValue Places w (symbolic_at (constants_like (5 + b_size) z.entry) i)) (sym (like_at (5 + a_size) y.entry i h)) (subst (λ w. SameValue Places (constant_like (5 + a_size + i) (symbolic_at y.entry i)) w) (sym (like_at (5 + b_size) z.entry i (omega (arith, h, a.entry_size)))) (like_same (5 + a_size + i) (5 + b_size + i) (symbolic_at y.entry i) (symbolic_at z.entry i) (same_sort Rel (symbolic_at y.entry i) (symbolic_at z.entry i) (a.entry i)) (inr (omega arith, omega arith, omega arith))))
        | inr h ↦ subst (λ w. SameValue Places w (symbolic_at (constants_like (5 + b_size) z.entry) i)) (sym (like_past (5 + a_size) y.entry i h)) (subst (λ w. SameValue Places (Number (nat 0)) w) (sym (like_past (5 + b_size) z.entry i (omega (arith, h, a.entry_size)))) zero_same)
      ]

  bound_like : (i : ℕ) → SameTree Places (get_or (references_like (5 + a_size + length y.entry) y.bound) i null) (get_or (references_like (5 + b_size + length z.entry) z.bound) i null)
  bound_like i =
      elim (below_or i (length y.bound)) [
        | inl h ↦
            subst (λ w. SameTree Places w (get_or (references_like (5 + b_size + length z.entry) z.bound) i null)) (sym (bound_like_at (5 + a_size + length y.entry) y.bound i h)) (subst (λ w. SameTree Places (reference (5 + a_size + length y.entry + i)) w) (sym (bound_like_at (5 + b_size + length z.entry) z.bound i (omega (arith, h, a.bound_size)))) (refl, inr (omega arith, omega arith, omega (arith, a.entry_size)), tt))
        | inr h ↦ subst (λ w. SameTree Places w (get_or (references_like (5 + b_size + length z.entry) z.bound) i null)) (sym (bound_like_past (5 + a_size + length y.entry) y.bound i h)) (subst (λ w. SameTree Places null w) (sym (bound_like_past (5 + b_size + length z.entry) z.bound i (omega (arith, h, a.bound_size)))) (refl, refl, tt))
      ]

  pub formal_scenes : SceneSame Places few r (formal_scene y) (formal_scene z)
  formal_scenes = record {
    past = a.past;
    after = (refl, inl (omega arith, refl, λ e. absurd (omega (arith, e))), tt);
    before = (refl, inl (omega arith, refl, λ e. absurd (omega (arith, e))), tt);
    me = (refl, inl (omega arith, refl, λ e. absurd (omega (arith, e))), tt);
    this = (refl, inl (omega arith, refl, λ e. absurd (omega (arith, e))), tt);
    result = λ s. like_same 4 4 y.result z.result (same_sort Rel y.result z.result (a.result s)) (inl (omega arith, refl, λ e. s));
    locals = locals_like;
    few_first = omega (arith, a.few_first, constants_like_size 5 y.locals);
    few_second = omega (arith, a.few_second, constants_like_size 5 z.locals);
    entry = entry_like;
    entry_size = constants_like_size (5 + a_size) y.entry ∙ a.entry_size ∙ sym (constants_like_size (5 + b_size) z.entry);
    params_first = omega (arith, constants_like_size (5 + a_size) y.entry, a.params_first);
    bound = bound_like;
    bound_size = references_like_size (5 + a_size + length y.entry) y.bound ∙ a.bound_size ∙ sym (references_like_size (5 + b_size + length z.entry) z.bound);
    subject = (refl, refl, tt);
  }

  pub subject_same : SameTree Places (subject_of y) (subject_of z)
  subject_same = (refl, last_places, tt)

  pub inner_scenes : SceneSame Places few r (bind_ref (subject_of y) (formal_scene y)) (bind_ref (subject_of z) (formal_scene z))
  inner_scenes = bind_same Places few r (formal_scene y) (formal_scene z) (subject_of y) (subject_of z) subject_same formal_scenes

  owns_same : (o p : Symbolic) → SameValue Places o p → SameTree Places (owns (current_heap (formal_scene y)) (term o) (subject_of y)) (owns (current_heap (formal_scene z)) (term p) (subject_of z))
  owns_same o p h = (refl, refl, ((refl, refl, (now_same Places few r (formal_scene y) (formal_scene z) formal_scenes, (same_term Places o p h, (subject_same, tt)))), ((refl, refl, tt), tt)))

  pub all_bodies_same : (ty : DeclaredType) (o p v w : Symbolic) → SameValue Places o p → SameValue Places v w → SameTree Places (body_of_all ty y o v) (body_of_all ty z p w)
  all_bodies_same ty o p v w h i =
      (refl, refl, (all_same Places few r (ranges ty (subject_of y)) (ranges ty (subject_of z)) (ranges_same Places few r ty (subject_of y) (subject_of z) subject_same), ((refl, refl, (owns_same o p h, (same_test Places v w i, tt))), tt)))

  pub some_bodies_same : (ty : DeclaredType) (o p : Symbolic) (fs gs : List Formula) → SameValue Places o p → EachSame Places few r fs gs → SameTree Places (body_of_some ty y o fs) (body_of_some ty z p gs)
  some_bodies_same ty o p fs gs h i =
      (refl, refl, (all_same Places few r (ranges ty (subject_of y)) (ranges ty (subject_of z)) (ranges_same Places few r ty (subject_of y) (subject_of z) subject_same), ((refl, refl, (left_same Places few r (owns (current_heap (formal_scene y)) (term o) (subject_of y)) (owns (current_heap (formal_scene z)) (term p) (subject_of z)) fs gs (owns_same o p h) i, tt)), tt)))

  pub only_bodies_same : (o p : Symbolic) (fs gs : List Formula) → SameValue Places o p → EachSame Places few r fs gs → SameTree Places (body_of_only y o fs) (body_of_only z p gs)
  only_bodies_same o p fs gs h i =
      (refl, refl, ((refl, refl, ((refl, refl, (now_same Places few r (formal_scene y) (formal_scene z) formal_scenes, (same_term Places o p h, (subject_same, tt)))), ((refl, refl, tt), tt))), (any_same Places few r (subject_of y) (subject_of z) fs gs subject_same i, tt)))

module _ (p : Program) where
  mutual
    -- over such scenes an annotation becomes such formulas
    pub translated_same : (e : Spec) (Rel : ℕ → ℕ → Type 0) (few : ℕ) (r : Bool) (y z : Scene) → SceneSame Rel few r y z → names few r e ≡ true → SameValue Rel (translate p e y) (translate p e z)
    translated_same (s.Number k) R few r y z a n = (refl, refl, tt)
    translated_same (s.Truth true) R few r y z a n = (refl, refl, tt)
    translated_same (s.Truth false) R few r y z a n = (refl, refl, ((refl, refl, tt), tt))
    translated_same s.Null R few r y z a n = (refl, refl, tt)
    translated_same (s.Variable i) R few r y z a n = variable_same R few r y z i a (ltb-true _ _ n)
    translated_same (s.Bound i) R few r y z a n = a.bound i
    translated_same s.This R few r y z a n = a.this
    translated_same s.Me R few r y z a n = a.me
    translated_same s.Result R few r y z a n = a.result n
    translated_same (s.Field' q e f) R few r y z a n = type_same R few r (type_of_field p f) _ _ (refl, refl, (now_same R few r y z a, (same_term R _ _ (translated_same e R few r y z a n), tt)))
    translated_same (s.Closed' q e) R few r y z a n = (refl, refl, ((refl, refl, (now_same R few r y z a, (same_term R _ _ (translated_same e R few r y z a n), tt))), ((refl, refl, tt), tt)))
    translated_same (s.Owner' q e) R few r y z a n = (refl, refl, (now_same R few r y z a, (same_term R _ _ (translated_same e R few r y z a n), tt)))
    translated_same (s.ClaimCount' q e) R few r y z a n = (refl, refl, (now_same R few r y z a, (same_term R _ _ (translated_same e R few r y z a n), tt)))
    translated_same (s.Member' q b t d) R few r y z a n =
        let m = and_parts (names few r b) (names few r d) n in
        (refl, refl, ((refl, refl, (now_same R few r y z a, (same_term R _ _ (translated_same d R few r y z a m.1), (same_term R _ _ (translated_same b R few r y z a m.0), tt)))), ((refl, refl, tt), tt)))
    translated_same (s.Not' q e) R few r y z a n = (refl, refl, (same_test R _ _ (translated_same e R few r y z a n), tt))
    translated_same (s.Negate' q e) R few r y z a n = (refl, refl, ((refl, refl, tt), (same_term R _ _ (translated_same e R few r y z a n), tt)))
    translated_same (s.Arithmetic' op q b t d) R few r y z a n = let m = and_parts (names few r b) (names few r d) n in compute_same R few r op _ _ _ _ (same_term R _ _ (translated_same b R few r y z a m.0)) (same_term R _ _ (translated_same d R few r y z a m.1))
    translated_same (s.Compare' op q b t d) R few r y z a n = let m = and_parts (names few r b) (names few r d) n in compare_same R few r op _ _ _ _ (same_term R _ _ (translated_same b R few r y z a m.0)) (same_term R _ _ (translated_same d R few r y z a m.1))
    translated_same (s.And' q b t d) R few r y z a n = let m = and_parts (names few r b) (names few r d) n in (refl, refl, (same_test R _ _ (translated_same b R few r y z a m.0), (same_test R _ _ (translated_same d R few r y z a m.1), tt)))
    translated_same (s.Or' q b t d) R few r y z a n = let m = and_parts (names few r b) (names few r d) n in (refl, refl, (same_test R _ _ (translated_same b R few r y z a m.0), (same_test R _ _ (translated_same d R few r y z a m.1), tt)))
    translated_same (s.Implies' q b t d) R few r y z a n = let m = and_parts (names few r b) (names few r d) n in (refl, refl, (same_test R _ _ (translated_same b R few r y z a m.0), (same_test R _ _ (translated_same d R few r y z a m.1), tt)))
    translated_same (s.Iff' q b t d) R few r y z a n =
        let m = and_parts (names few r b) (names few r d) n in
        let i = same_test R _ _ (translated_same b R few r y z a m.0) in
        let j = same_test R _ _ (translated_same d R few r y z a m.1) in
        (refl, refl, ((refl, refl, (i, (j, tt))), ((refl, refl, (j, (i, tt))), tt)))
    translated_same (s.Choose' q b t d u e) R few r y z a n =
        let m = and_parts (names few r b) (names few r d && names few r e) n in
        let l = and_parts (names few r d) (names few r e) m.1 in
        same_choice R _ _ _ _ _ _ (same_test R _ _ (translated_same b R few r y z a m.0)) (translated_same d R few r y z a l.0) (translated_same e R few r y z a l.1)
    translated_same (s.Old' q e) R few r y z a n = translated_same e R few r (old_scene y) (old_scene z) (old_same R few r y z a) n
    translated_same (s.Unchanged' q e) R few r y z a n = (refl, refl, (same_term R _ _ (translated_same e R few r (old_as_present y) (old_as_present z) (back_same R few r y z a) n), (same_term R _ _ (translated_same e R few r y z a n), tt)))
    translated_same (s.Wrapped' q e) R few r y z a n =
        let i = now_same R few r y z a in
        let j = same_term R _ _ (translated_same e R few r y z a n) in
        (refl, refl, ((refl, refl, ((refl, refl, (i, (j, tt))), ((refl, refl, tt), tt))), ((refl, refl, ((refl, refl, (i, (j, tt))), (a.me, tt))), tt)))
    translated_same (s.Wrapped0' q e) R few r y z a n =
        let i = now_same R few r y z a in
        let j = same_term R _ _ (translated_same e R few r y z a n) in
        (refl, refl, ((refl, refl, ((refl, refl, (i, (j, tt))), ((refl, refl, tt), tt))), ((refl, refl, ((refl, refl, ((refl, refl, (i, (j, tt))), (a.me, tt))), ((refl, refl, ((refl, refl, (i, (j, tt))), ((refl, refl, tt), tt))), tt))), tt)))
    translated_same (s.Mutable' q e) R few r y z a n = (refl, refl, status_same R few r y z a _ _ (same_term R _ _ (translated_same e R few r y z a n)))
    translated_same (s.Fresh' q e) R few r y z a n = (refl, refl, ((refl, refl, ((refl, refl, (a.before, (same_term R _ _ (translated_same e R few r y z a n), tt))), (a.me, tt))), tt))
    translated_same (s.ClaimsObject' q b t d) R few r y z a n =
        let m = and_parts (names few r b) (names few r d) n in
        (refl, refl, ((refl, refl, (now_same R few r y z a, (same_term R _ _ (translated_same b R few r y z a m.0), (same_term R _ _ (translated_same d R few r y z a m.1), tt)))), ((refl, refl, tt), tt)))
    translated_same (s.Claims' q d k row) R few r y z a n =
        let m = and_parts (names few r d) (row_names few r row) n in
        all_same R few r _ _ (row_same row R few r (with_subject (term (translate p d y)) y) (with_subject (term (translate p d z)) z) (about_same R few r y z _ _ (same_term R _ _ (translated_same d R few r y z a m.0)) a) m.1)
    translated_same (s.Lists' q e) R few r y z a n = (refl, refl, ((refl, refl, (now_same R few r y z a, (a.subject, (same_term R _ _ (translated_same e R few r y z a n), tt)))), ((refl, refl, tt), tt)))
    translated_same (s.Has k) R few r y z a n = (refl, refl, ((refl, refl, (now_same R few r y z a, (a.subject, fillings_same R few r y z k.holes.items a n))), ((refl, refl, tt), tt)))
    translated_same (s.ForAll' k ty q e t body) R few r y z a n =
        let m = and_parts (names few r e) (names few r body) n in
        let P = Shift r few (length y.locals) (length z.locals) in
        (refl, refl, free_same R few r y z a (body_of_all ty y (translate p e (formal_scene y)) (translate p body (bind_ref (subject_of y) (formal_scene y)))) (body_of_all ty z (translate p e (formal_scene z)) (translate p body (bind_ref (subject_of z) (formal_scene z)))) (all_bodies_same R few r y z a ty (translate p e (formal_scene y)) (translate p e (formal_scene z)) (translate p body (bind_ref (subject_of y) (formal_scene y))) (translate p body (bind_ref (subject_of z) (formal_scene z))) (translated_same e P few r (formal_scene y) (formal_scene z) (formal_scenes R few r y z a) m.0) (translated_same body P few r (bind_ref (subject_of y) (formal_scene y)) (bind_ref (subject_of z) (formal_scene z)) (inner_scenes R few r y z a) m.1)))
    translated_same (s.Exists' k ty q e j row) R few r y z a n =
        let m = and_parts (names few r e) (row_names few r row) n in
        let P = Shift r few (length y.locals) (length z.locals) in
        (refl, refl, ((refl, refl, free_same R few r y z a (body_of_some ty y (translate p e (formal_scene y)) (tests p row (bind_ref (subject_of y) (formal_scene y)))) (body_of_some ty z (translate p e (formal_scene z)) (tests p row (bind_ref (subject_of z) (formal_scene z)))) (some_bodies_same R few r y z a ty (translate p e (formal_scene y)) (translate p e (formal_scene z)) (tests p row (bind_ref (subject_of y) (formal_scene y))) (tests p row (bind_ref (subject_of z) (formal_scene z))) (translated_same e P few r (formal_scene y) (formal_scene z) (formal_scenes R few r y z a) m.0) (row_same row P few r (bind_ref (subject_of y) (formal_scene y)) (bind_ref (subject_of z) (formal_scene z)) (inner_scenes R few r y z a) m.1))), tt))
    translated_same (s.ClaimsOnly' k q d j row) R few r y z a n =
        let m = and_parts (names few r d) (row_names few r row) n in
        let P = Shift r few (length y.locals) (length z.locals) in
        let f_y = body_of_only y (translate p d (formal_scene y)) (terms_of p row (formal_scene y)) in
        let f_z = body_of_only z (translate p d (formal_scene z)) (terms_of p row (formal_scene z)) in
        let same = only_bodies_same R few r y z a (translate p d (formal_scene y)) (translate p d (formal_scene z)) (terms_of p row (formal_scene y)) (terms_of p row (formal_scene z)) (translated_same d P few r (formal_scene y) (formal_scene z) (formal_scenes R few r y z a) m.0) (terms_same row P few r (formal_scene y) (formal_scene z) (formal_scenes R few r y z a) m.1) in
        all_same R few r _ _ (listed_same R few r (current_heap y) (current_heap z) (term (translate p d y)) (term (translate p d z)) (terms_of p row y) (terms_of p row z) (quantifier y k f_y) (quantifier z k f_z) (now_same R few r y z a) (same_term R _ _ (translated_same d R few r y z a m.0)) (terms_same row R few r y z a m.1) (refl, refl, free_same R few r y z a f_y f_z same))

    pub row_same : {k : _} (row : Row_of-Spec k) (Rel : ℕ → ℕ → Type 0) (few : ℕ) (r : Bool) (y z : Scene) → SceneSame Rel few r y z → row_names few r row ≡ true → EachSame Rel few r (tests p row y) (tests p row z)
    row_same end_of-Spec R few r y z a n = tt
    row_same (more_of-Spec e row) R few r y z a n = let m = and_parts (names few r e) (row_names few r row) n in (same_test R _ _ (translated_same e R few r y z a m.0), row_same row R few r y z a m.1)

    pub terms_same : {k : _} (row : Row_of-Spec k) (Rel : ℕ → ℕ → Type 0) (few : ℕ) (r : Bool) (y z : Scene) → SceneSame Rel few r y z → row_names few r row ≡ true → EachSame Rel few r (terms_of p row y) (terms_of p row z)
    terms_same end_of-Spec R few r y z a n = tt
    terms_same (more_of-Spec e row) R few r y z a n = let m = and_parts (names few r e) (row_names few r row) n in (same_term R _ _ (translated_same e R few r y z a m.0), terms_same row R few r y z a m.1)
