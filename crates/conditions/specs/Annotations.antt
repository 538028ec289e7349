-- Annotations as terms. From VCC: a contract or invariant becomes a formula. The words of an annotation stand for terms here, as they stand for values in its value (SpecValue of method). Own: a quantifier becomes one term by the number of its formula, whose arguments are what stands free in the formula's body.
use Rattle.std.specs.Prelude.{ℕ, ◌+◌, ◌==◌, Bool, true, false, not, ◌&&◌, if◌then◌else◌, nat_lt, pos, List, [], ◌∷◌, ◌++◌, map, drop, filter, length, slice_get, slice_index_or, Option, Some, None}
use Rattle.method.specs.declared.program.DeclaredType.{DeclaredType}
use Rattle.method.specs.declared.program.Hole.{Hole}
use Rattle.method.specs.declared.program.Hole.TheVariants.{OfVariable, OfBound, OfMe, OfThis, OfResult}
use Rattle.method.specs.declared.program.Conjunct.{Conjunct}
use Rattle.method.specs.declared.program.Shape.{Shape}
use Rattle.method.specs.declared.program.Program.{Program}
use Rattle.method.specs.declared.program.Spec.{Spec, Row_of-Spec, end_of-Spec, more_of-Spec}
use Rattle.method.specs.declared.program.Spec.TheVariants as s
use Rattle.method.specs.Tables.{type_of_field}
use Rattle.terms.specs.declared.term.Kind.TheVariants as k
use Rattle.terms.specs.Formula.{Formula, Node, binary}
use Rattle.conditions.specs.Formulas.{row, int, nat, null, true_formula, false_formula, not', and', or', imp, eq, integer, reference, heap, all_of, any_of, is_any, get, field_column, owner, count, owns, lists, has_shape, closed, mutable, wrapped, constants}
use Rattle.conditions.specs.Symbolic.{Symbolic, Truth, Number, Reference, term, test, choose, symbolic_of_type, ranges, compute, compare}

-- What the words of an annotation stand for; inside `\old` it is past. The bound variables stand innermost first; `subject` is the claim that a \claims around it speaks of.
pub record Scene : Type 0 where
  pub before : Formula
  pub after : Formula
  pub past : Bool
  pub me : Formula
  pub this : Formula
  pub locals : List Symbolic
  pub entry : List Symbolic
  pub result : Symbolic
  pub bound : List Formula
  pub subject : Formula

-- the words inside `\old`
abbrev pub old_scene : Scene → Scene
old_scene s = record s { past = true }

-- the earlier state as the present one; what is quantified there stays one formula
abbrev pub old_as_present : Scene → Scene
old_as_present s = record s { after = s.before; locals = s.entry ++ drop (length s.entry) s.locals }

-- the words under a quantifier
abbrev pub bind_ref : Formula → Scene → Scene
bind_ref r s = record s { bound = r ∷ s.bound }

-- the words of what a `\claims` says of its claim
abbrev pub with_subject : Formula → Scene → Scene
with_subject c s = record s { subject = c }

-- the heap that is spoken of
abbrev pub current_heap : Scene → Formula
current_heap s = if s.past then s.before else s.after

-- the term of a variable by its number
abbrev pub symbolic_at : List Symbolic → ℕ → Symbolic
symbolic_at ws i = slice_index_or ws i (Number (nat 0))

-- in the past a parameter has its value at entry
abbrev pub variable : Scene → ℕ → Symbolic
variable s i = if s.past && nat_lt i (length s.entry) then symbolic_at s.entry i else symbolic_at s.locals i

-- the term of a bound variable by its number
abbrev pub bound_ref : Scene → ℕ → Formula
bound_ref s i = slice_index_or s.bound i null

-- what a hole of a conjunct is filled with
abbrev pub hole_value : Scene → Hole → Symbolic
hole_value s (OfVariable i) = variable s i
hole_value s (OfBound i) = Reference (bound_ref s i)
hole_value s OfMe = Reference s.me
hole_value s OfThis = Reference s.this
hole_value s OfResult = s.result

-- a conjunct of a claim: its shape, and what its holes stand for
pub record Entry : Type 0 where
  pub shape : ℕ
  pub values : List Symbolic

-- a conjunct with the terms that fill it
abbrev pub entry_of : Scene → Conjunct → Entry
entry_of s c = record { shape = c.shape; values = map (hole_value s) c.holes.items }

-- Quantified formulas. What a scene holds, in a fixed order; a scene of the same form that holds constants, each with the number of its place; and the arguments: what stands at the places whose constants the body has.

-- what a scene holds, in a fixed order
abbrev pub parts : Scene → List Formula
parts s = s.after ∷ s.before ∷ s.me ∷ s.this ∷ term s.result ∷ map term s.locals ++ map term s.entry ++ s.bound

-- constant number n of the term's sort
abbrev pub constant_like : ℕ → Symbolic → Symbolic
constant_like n (Truth b) = Number (integer n)
constant_like n (Number x) = Number (integer n)
constant_like n (Reference r) = Reference (reference n)

abbrev pub constants_like : ℕ → List Symbolic → List Symbolic
constants_like n [] = []
constants_like n (w ∷ ws) = constant_like n w ∷ constants_like (n + 1) ws

abbrev pub references_like : ℕ → List Formula → List Formula
references_like n [] = []
references_like n (r ∷ rs) = reference n ∷ references_like (n + 1) rs

-- the scene of constants
abbrev pub formal_scene : Scene → Scene
formal_scene s =
    record { after = heap 0; before = heap 1; past = s.past; me = reference 2; this = reference 3; result = constant_like 4 s.result; locals = constants_like 5 s.locals; entry = constants_like (5 + length s.locals) s.entry; bound = references_like (5 + length s.locals + length s.entry) s.bound; subject = null }

-- the reference that a body is about
abbrev pub subject_of : Scene → Formula
subject_of s = reference (length (parts s))

-- the arguments of a body
abbrev pub free_parts : Scene → Formula → List Formula
free_parts s body = map (λ n. slice_index_or (parts s) n null) (filter (λ n. not (n == length (parts s))) (constants body []))

-- formula number q, whose body over the formal scene is given
abbrev pub quantifier : Scene → ℕ → Formula → Formula
quantifier s q body = Node k.All (pos q) (row (free_parts s body))

-- f, of references of the type
abbrev pub imp_in_type : DeclaredType → Formula → Formula → Formula
imp_in_type ty r f = imp (all_of (ranges ty r)) f

-- each gives the other
abbrev pub iff : Formula → Formula → Formula
iff f g = and' (imp f g) (imp g f)

-- conjuncts behind a first one, grouped to the left
abbrev pub and_left : Formula → List Formula → Formula
and_left f [] = f
and_left f (g ∷ gs) = and_left (and' f g) gs

-- the bodies of \forall and \exists, which is the denial of one that denies: each reference of the type that is a member of the object's set passes
abbrev pub body_of_all : DeclaredType → Scene → Symbolic → Symbolic → Formula
body_of_all ty x object passes = imp_in_type ty (subject_of x) (imp (owns (current_heap (formal_scene x)) (term object) (subject_of x)) (test passes))

abbrev pub body_of_some : DeclaredType → Scene → Symbolic → List Formula → Formula
body_of_some ty x object pass = imp_in_type ty (subject_of x) (not' (and_left (owns (current_heap (formal_scene x)) (term object) (subject_of x)) pass))

-- the body of \claims_only: what the claim lists is one of the objects
abbrev pub body_of_only : Scene → Symbolic → List Formula → Formula
body_of_only x claim objects = imp (lists (current_heap (formal_scene x)) (term claim) (subject_of x)) (any_of (is_any (subject_of x) objects))

-- wrapped, and no claim lists it
abbrev pub wrapped0 : Scene → Formula → Formula
wrapped0 x o = and' (closed (current_heap x) o) (and' (eq (owner (current_heap x) o) x.me) (eq (count (current_heap x) o) (nat 0)))

module _ (p : Program) where
  abbrev mutual
    pub translate : Spec → Scene → Symbolic
    translate (s.Number z) x = Number (int z)
    translate (s.Truth b) x = Truth (if b then true_formula else false_formula)
    translate s.Null x = Reference null
    translate (s.Variable i) x = variable x i
    translate (s.Bound i) x = Reference (bound_ref x i)
    translate s.This x = Reference x.this
    translate s.Me x = Reference x.me
    translate s.Result x = x.result
    translate (s.Field' q e f) x = symbolic_of_type (type_of_field p f) (get (field_column f) (current_heap x) (term (translate e x) ∷ []))
    translate (s.Closed' q e) x = Truth (closed (current_heap x) (term (translate e x)))
    translate (s.Owner' q e) x = Reference (owner (current_heap x) (term (translate e x)))
    translate (s.ClaimCount' q e) x = Number (count (current_heap x) (term (translate e x)))
    translate (s.Member' q a r b) x = Truth (owns (current_heap x) (term (translate b x)) (term (translate a x)))
    translate (s.Not' q e) x = Truth (not' (test (translate e x)))
    translate (s.Negate' q e) x = Number (binary k.Sub (nat 0) (term (translate e x)))
    translate (s.Arithmetic' op q a r b) x = Number (compute op (term (translate a x)) (term (translate b x)))
    translate (s.Compare' op q a r b) x = Truth (compare op (term (translate a x)) (term (translate b x)))
    translate (s.And' q a r b) x = Truth (and' (test (translate a x)) (test (translate b x)))
    translate (s.Or' q a r b) x = Truth (or' (test (translate a x)) (test (translate b x)))
    translate (s.Implies' q a r b) x = Truth (imp (test (translate a x)) (test (translate b x)))
    translate (s.Iff' q a r b) x = Truth (iff (test (translate a x)) (test (translate b x)))
    translate (s.Choose' q a r b t c) x = choose (test (translate a x)) (translate b x) (translate c x)
    translate (s.Old' q e) x = translate e (old_scene x)
    translate (s.Unchanged' q e) x = Truth (eq (term (translate e (old_as_present x))) (term (translate e x)))
    translate (s.Wrapped' q e) x = Truth (wrapped x.me (current_heap x) (term (translate e x)))
    translate (s.Wrapped0' q e) x = Truth (wrapped0 x (term (translate e x)))
    translate (s.Mutable' q e) x = Truth (mutable x.me (current_heap x) (term (translate e x)))
    translate (s.Fresh' q e) x = Truth (not' (eq (owner x.before (term (translate e x))) x.me))
    translate (s.ClaimsObject' q c r o) x = Truth (lists (current_heap x) (term (translate c x)) (term (translate o x)))
    translate (s.ClaimsOnly' n q c m row) x =
        Truth (all_of (map (lists (current_heap x) (term (translate c x))) (terms_of row x) ++ quantifier x n (body_of_only x (translate c (formal_scene x)) (terms_of row (formal_scene x))) ∷ []))
    translate (s.Claims' q c m row) x = Truth (all_of (tests row (with_subject (term (translate c x)) x)))
    translate (s.Lists' q o) x = Truth (lists (current_heap x) x.subject (term (translate o x)))
    translate (s.Has c) x = Truth (has_shape p (current_heap x) x.subject c.shape (map (λ h. term (hole_value x h)) c.holes.items))
    translate (s.ForAll' n ty q e r body) x = Truth (quantifier x n (body_of_all ty x (translate e (formal_scene x)) (translate body (bind_ref (subject_of x) (formal_scene x)))))
    translate (s.Exists' n ty q e m row) x = Truth (not' (quantifier x n (body_of_some ty x (translate e (formal_scene x)) (tests row (bind_ref (subject_of x) (formal_scene x))))))

    -- the truths of annotations
    pub tests : {m : _} → Row_of-Spec m → Scene → List Formula
    tests end_of-Spec x = []
    tests (more_of-Spec e row) x = test (translate e x) ∷ tests row x

    -- the terms of annotations
    pub terms_of : {m : _} → Row_of-Spec m → Scene → List Formula
    terms_of end_of-Spec x = []
    terms_of (more_of-Spec e row) x = term (translate e x) ∷ terms_of row x

  -- the truth of an annotation
  abbrev pub formula : Spec → Scene → Formula
  formula e x = test (translate e x)

  -- a conjunct with these values, on a heap
  abbrev pub claim_scene : Formula → List Symbolic → Scene
  claim_scene h ws = record { before = h; after = h; past = false; me = null; this = null; locals = ws; entry = []; result = Number (nat 0); bound = []; subject = null }

  -- a conjunct of the shape's with these values; one that isn't in the table is true
  abbrev pub shape_formula : Option Shape → Formula → List Symbolic → Formula
  shape_formula None h ws = true_formula
  shape_formula (Some sh) h ws = formula sh.conjunct (claim_scene h ws)

  -- a claim's conjunct, on a heap
  abbrev pub entry_formula : Formula → Entry → Formula
  entry_formula h e = shape_formula (slice_get p.shapes.items e.shape) h e.values
