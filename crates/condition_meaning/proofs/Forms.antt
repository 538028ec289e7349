-- Scenes of one form: what stands in them is of the same sorts. What is written over them differs in its terms alone.
use Rattle.std.proofs.lemmas.List.{length-map, length-append}
use Rattle.std.proofs.lemmas.Bool.{and_parts, and_from}
use Rattle.std.proofs.Common.{drop, subst, ◌<◌, ◌≤◌, ◌≡◌, ℕ, zero, suc, ◌+◌, ◌&&◌, Bool, true, false, if◌then◌else◌, List, [], ◌∷◌, ◌++◌, map, length, refl, sym, ap, ◌∙◌, arith}
use Rattle.std.specs.Prelude.{nat_lt, slice_index_or, pos}
use Rattle.method.specs.declared.program.DeclaredType.{DeclaredType}
use Rattle.method.specs.declared.program.DeclaredType.TheVariants.{Integer, Pointer, Object, Claim}
use Rattle.method.specs.declared.program.Spec.{Spec}
use Rattle.method.specs.declared.program.Spec.TheVariants as s
use Rattle.method.specs.declared.program.Program.{Program}
use Rattle.method.specs.Tables.{type_of_field}
use Rattle.terms.specs.Formula.{Formula}
use Rattle.conditions.specs.Formulas.{null, integer, reference, heap, ite}
use Rattle.conditions.specs.Symbolic.{Symbolic, Truth, Number, Reference, term, choose, symbolic_of_type, is_int}
use Rattle.condition_meaning.specs.Fits.{is_ref, same_bool, params_fit}
use Rattle.conditions.specs.Annotations.{Scene, old_as_present, old_scene, bind_ref, with_subject, symbolic_at, variable, parts, constant_like, constants_like, references_like, formal_scene, translate}

pub record SameForm (x w : Scene) : Type 0 where
  pub past : x.past ≡ w.past
  pub result : is_ref x.result ≡ is_ref w.result
  pub locals : map is_ref x.locals ≡ map is_ref w.locals
  pub entry : map is_ref x.entry ≡ map is_ref w.entry
  pub bound : length x.bound ≡ length w.bound

pub form_self : (x : Scene) → SameForm x x
form_self x = record { past = refl; result = refl; locals = refl; entry = refl; bound = refl }

pub form_then : (x y z : Scene) → SameForm x y → SameForm y z → SameForm x z
form_then x y z a b = record { past = a.past ∙ b.past; result = a.result ∙ b.result; locals = a.locals ∙ b.locals; entry = a.entry ∙ b.entry; bound = a.bound ∙ b.bound }

pub form_old : (x w : Scene) → SameForm x w → SameForm (old_scene x) (old_scene w)
form_old x w a = record { past = refl; result = a.result; locals = a.locals; entry = a.entry; bound = a.bound }

pub form_bind : (x w : Scene) (r q : Formula) → SameForm x w → SameForm (bind_ref r x) (bind_ref q w)
form_bind x w r q a = record { past = a.past; result = a.result; locals = a.locals; entry = a.entry; bound = ap suc a.bound }

pub form_about : (x w : Scene) (c : Formula) → SameForm x w → SameForm (with_subject c x) w
form_about x w c a = record { past = a.past; result = a.result; locals = a.locals; entry = a.entry; bound = a.bound }

-- What is put back to the earlier state: the parameters have their first values, the other variables stay.

pub back_at : (P : Symbolic → Type 0) (es ls : List Symbolic) (i : ℕ) → (i < length es → P (symbolic_at es i)) → (length es ≤ i → P (symbolic_at ls i)) → P (symbolic_at (es ++ drop (length es) ls) i)
back_at P [] ls i f g = g (omega arith)
back_at P (e ∷ es) ls zero f g = f (omega arith)
back_at P (e ∷ es) [] (suc i) f g = subst (λ rest. P (symbolic_at (es ++ rest) i)) (none_left (length es)) (back_at P es [] i (λ h. f (omega (arith, h))) (λ h. subst P (nothing i) (g (omega (arith, h)))))
  where
    none_left : (n : ℕ) → drop {A = Symbolic} n [] ≡ []
    none_left zero = refl
    none_left (suc n) = refl

    nothing : (i : ℕ) → symbolic_at [] (suc i) ≡ symbolic_at [] i
    nothing zero = refl
    nothing (suc i) = refl
back_at P (e ∷ es) (l ∷ ls) (suc i) f g = back_at P es ls i (λ h. f (omega (arith, h))) (λ h. g (omega (arith, h)))

pub back_size : (es ls : List Symbolic) → length ls ≤ length (es ++ drop (length es) ls)
back_size [] ls = omega arith
back_size (e ∷ es) [] = omega arith
back_size (e ∷ es) (l ∷ ls) = omega (arith, back_size es ls)

pub same_is : (a b : Bool) → same_bool a b ≡ true → a ≡ b
same_is true true h = refl
same_is true false h = absurd (cc)
same_is false true h = absurd (cc)
same_is false false h = refl

kinds_fit : List Bool → List Bool → Bool
kinds_fit [] bs = true
kinds_fit (a ∷ as') [] = false
kinds_fit (a ∷ as') (b ∷ bs) = same_bool a b && kinds_fit as' bs

params_kinds : (es ls : List Symbolic) → params_fit es ls ≡ kinds_fit (map is_ref es) (map is_ref ls)
unfolding kinds_fit
params_kinds [] ls = refl
params_kinds (e ∷ es) [] = refl
params_kinds (e ∷ es) (l ∷ ls) = ap (λ b. same_bool (is_ref e) (is_ref l) && b) (params_kinds es ls)

back_kinds : (es ls : List Symbolic) → params_fit es ls ≡ true → map is_ref (es ++ drop (length es) ls) ≡ map is_ref ls
back_kinds [] ls h = refl
back_kinds (e ∷ es) [] h = absurd (cc)
back_kinds (e ∷ es) (l ∷ ls) h = let z = and_parts (same_bool (is_ref e) (is_ref l)) (params_fit es ls) h in λ i. same_is (is_ref e) (is_ref l) z.0 i ∷ back_kinds es ls z.1 i

pub form_put_back : (x w : Scene) → SameForm x w → params_fit w.entry w.locals ≡ true → SameForm (old_as_present x) w
form_put_back x w a h =
    let here : params_fit x.entry x.locals ≡ true = params_kinds x.entry x.locals ∙ (λ i. kinds_fit (a.entry i) (a.locals i)) ∙ sym (params_kinds w.entry w.locals) ∙ h in
    record { past = a.past; result = a.result; locals = back_kinds x.entry x.locals here ∙ a.locals; entry = a.entry; bound = a.bound }

-- by the places of the first variables
pub params_at : (es ls : List Symbolic) → params_fit es ls ≡ true → (i : ℕ) → i < length es → is_ref (symbolic_at es i) ≡ is_ref (symbolic_at ls i)
params_at [] ls h i b = absurd (omega (arith, b))
params_at (e ∷ es) [] h i b = absurd (cc)
params_at (e ∷ es) (l ∷ ls) h zero b = same_is (is_ref e) (is_ref l) (and_parts (same_bool (is_ref e) (is_ref l)) (params_fit es ls) h).0
params_at (e ∷ es) (l ∷ ls) h (suc i) b = params_at es ls (and_parts (same_bool (is_ref e) (is_ref l)) (params_fit es ls) h).1 i (omega (arith, b))

pub params_from : (es ls : List Symbolic) → length es ≤ length ls → ((i : ℕ) → i < length es → is_ref (symbolic_at es i) ≡ is_ref (symbolic_at ls i)) → params_fit es ls ≡ true
params_from [] ls s h = refl
params_from (e ∷ es) [] s h = absurd (omega (arith, s))
params_from (e ∷ es) (l ∷ ls) s h = and_from _ _ (same_from (is_ref e) (is_ref l) (h 0 (omega arith))) (params_from es ls (omega (arith, s)) (λ i b. h (suc i) (omega (arith, b))))
  where
    same_from : (a b : Bool) → a ≡ b → same_bool a b ≡ true
    same_from true true e = refl
    same_from true false e = absurd (cc)
    same_from false true e = absurd (cc)
    same_from false false e = refl

-- Formal scenes.

constant_of : ℕ → Bool → Symbolic
constant_of n b = if b then Reference (reference n) else Number (integer n)

constants_of : ℕ → List Bool → List Symbolic
constants_of n [] = []
constants_of n (b ∷ bs) = constant_of n b ∷ constants_of (n + 1) bs

references_of : ℕ → ℕ → List Formula
references_of n zero = []
references_of n (suc m) = reference n ∷ references_of (n + 1) m

constant_same : (n : ℕ) (w : Symbolic) → constant_like n w ≡ constant_of n (is_ref w)
unfolding constant_of
constant_same n (Truth b) = refl
constant_same n (Number x) = refl
constant_same n (Reference r) = refl

constants_same : (n : ℕ) (ws : List Symbolic) → constants_like n ws ≡ constants_of n (map is_ref ws)
unfolding constants_of
constants_same n [] = refl
constants_same n (w ∷ ws) = λ i. constant_same n w i ∷ constants_same (n + 1) ws i

references_same : (n : ℕ) (rs : List Formula) → references_like n rs ≡ references_of n (length rs)
unfolding references_of
references_same n [] = refl
references_same n (r ∷ rs) = ap (λ qs. reference n ∷ qs) (references_same (n + 1) rs)

size_same : (ws : List Symbolic) → length ws ≡ length (map is_ref ws)
size_same [] = refl
size_same (w ∷ ws) = ap suc (size_same ws)

formal_of : Bool → Bool → List Bool → List Bool → ℕ → Scene
formal_of past result locals entry bound =
    record { after = heap 0; before = heap 1; past = past; me = reference 2; this = reference 3; result = constant_of 4 result; locals = constants_of 5 locals; entry = constants_of (5 + length locals) entry; bound = references_of (5 + length locals + length entry) bound; subject = null }

formal_is : (x : Scene) → formal_scene x ≡ formal_of x.past (is_ref x.result) (map is_ref x.locals) (map is_ref x.entry) (length x.bound)
unfolding formal_of
formal_is x = λ i. record {
  after = heap 0;
  before = heap 1;
  past = x.past;
  me = reference 2;
  this = reference 3;
  result = constant_same 4 x.result i;
  locals = constants_same 5 x.locals i;
  entry = (constants_same (5 + length x.locals) x.entry ∙ ap (λ n. constants_of (5 + n) (map is_ref x.entry)) (size_same x.locals)) i;
  bound = (references_same (5 + length x.locals + length x.entry) x.bound ∙ (λ j. references_of (5 + size_same x.locals j + size_same x.entry j) (length x.bound))) i;
  subject = null;
}

pub formal_same : (x w : Scene) → SameForm x w → formal_scene x ≡ formal_scene w
formal_same x w a = formal_is x ∙ (λ i. formal_of (a.past i) (a.result i) (a.locals i) (a.entry i) (a.bound i)) ∙ sym (formal_is w)

pub parts_size : (x : Scene) → length (parts x) ≡ 5 + length x.locals + length x.entry + length x.bound
parts_size x = omega (arith, length-append (map term x.locals ++ map term x.entry) x.bound, length-append (map term x.locals) (map term x.entry), length-map x.locals term, length-map x.entry term)

pub locals_size : (x w : Scene) → SameForm x w → length x.locals ≡ length w.locals
locals_size x w a = size_same x.locals ∙ ap length a.locals ∙ sym (size_same w.locals)

pub entry_size : (x w : Scene) → SameForm x w → length x.entry ≡ length w.entry
entry_size x w a = size_same x.entry ∙ ap length a.entry ∙ sym (size_same w.entry)

pub size_of_parts : (x w : Scene) → SameForm x w → length (parts x) ≡ length (parts w)
size_of_parts x w a = omega (arith, parts_size x, parts_size w, locals_size x w a, entry_size x w a, a.bound)

like_sort : (n : ℕ) (w : Symbolic) → is_ref (constant_like n w) ≡ is_ref w
like_sort n (Truth b) = refl
like_sort n (Number x) = refl
like_sort n (Reference r) = refl

like_sorts : (n : ℕ) (ws : List Symbolic) → map is_ref (constants_like n ws) ≡ map is_ref ws
like_sorts n [] = refl
like_sorts n (w ∷ ws) = λ i. like_sort n w i ∷ like_sorts (n + 1) ws i

pub references_like_size : (n : ℕ) (rs : List Formula) → length (references_like n rs) ≡ length rs
references_like_size n [] = refl
references_like_size n (r ∷ rs) = ap suc (references_like_size (n + 1) rs)

pub constants_like_size : (n : ℕ) (ws : List Symbolic) → length (constants_like n ws) ≡ length ws
constants_like_size n [] = refl
constants_like_size n (w ∷ ws) = ap suc (constants_like_size (n + 1) ws)

pub form_formal : (x : Scene) → SameForm (formal_scene x) x
form_formal x = record { past = refl; result = like_sort 4 x.result; locals = like_sorts 5 x.locals; entry = like_sorts (5 + length x.locals) x.entry; bound = references_like_size (5 + length x.locals + length x.entry) x.bound }

-- What is written over scenes of one form is of one sort.

sort_at : (ws : List Symbolic) (i : ℕ) → is_ref (symbolic_at ws i) ≡ slice_index_or (map is_ref ws) i false
sort_at [] zero = refl
sort_at [] (suc i) = refl
sort_at (w ∷ ws) zero = refl
sort_at (w ∷ ws) (suc i) = sort_at ws i

choice_sort : (b : Formula) (x y : Symbolic) → is_ref (choose b x y) ≡ is_ref x
choice_sort b (Truth x) y = refl
choice_sort b (Number x) y = by_test (is_int (pos 1) (Number x) && is_int (pos 0) y)
  where
    by_test : (t : Bool) → is_ref (if t then Truth b else Number (ite b x (term y))) ≡ false
    by_test true = refl
    by_test false = refl
choice_sort b (Reference x) y = refl

variable_sort : (x : Scene) (i : ℕ) → is_ref (variable x i) ≡ (if x.past && nat_lt i (length (map is_ref x.entry)) then slice_index_or (map is_ref x.entry) i false else slice_index_or (map is_ref x.locals) i false)
variable_sort x i = by_test (x.past && nat_lt i (length x.entry)) ∙ ap (λ n. if x.past && nat_lt i n then slice_index_or (map is_ref x.entry) i false else slice_index_or (map is_ref x.locals) i false) (size_same x.entry)
  where
    by_test : (t : Bool) → is_ref (if t then symbolic_at x.entry i else symbolic_at x.locals i) ≡ (if t then slice_index_or (map is_ref x.entry) i false else slice_index_or (map is_ref x.locals) i false)
    by_test true = sort_at x.entry i
    by_test false = sort_at x.locals i

type_sort : (ty : DeclaredType) (f g : Formula) → is_ref (symbolic_of_type ty f) ≡ is_ref (symbolic_of_type ty g)
type_sort (Integer c) f g = refl
type_sort (Pointer n) f g = refl
type_sort Object f g = refl
type_sort Claim f g = refl

pub sort_same : (p : Program) (e : Spec) (x w : Scene) → SameForm x w → is_ref (translate p e x) ≡ is_ref (translate p e w)
sort_same p (s.Variable i) x w a = variable_sort x i ∙ (λ j. if a.past j && nat_lt i (length (a.entry j)) then slice_index_or (a.entry j) i false else slice_index_or (a.locals j) i false) ∙ sym (variable_sort w i)
sort_same p s.Result x w a = a.result
sort_same p (s.Field' q e f) x w a = type_sort (type_of_field p f) _ _
sort_same p (s.Choose' q a r b t c) x w form = choice_sort _ (translate p b x) (translate p c x) ∙ sort_same p b x w form ∙ sym (choice_sort _ (translate p b w) (translate p c w))
sort_same p (s.Old' q e) x w a = sort_same p e (old_scene x) (old_scene w) (form_old x w a)
sort_same p _ x w a = refl
