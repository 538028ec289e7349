-- Expressions of code as terms, with the checks on the way; and new constants. From VCC. It goes as `eval` (Expressions of method) goes.
use Rattle.std.specs.Prelude.{ℕ, suc, Bool, false, if◌then◌else◌, List, [], ◌∷◌, ◌++◌}
use Rattle.int_ranges.specs.declared.ctype.CType.{CType}
use Rattle.method.specs.declared.program.DeclaredType.{DeclaredType}
use Rattle.method.specs.declared.program.DeclaredType.TheVariants.{Integer, Pointer, Object, Claim}
use Rattle.method.specs.declared.program.Operator.{Operator}
use Rattle.method.specs.declared.program.Operator.TheVariants as o
use Rattle.method.specs.declared.program.Expr.{Expr}
use Rattle.method.specs.declared.program.Expr.TheVariants as e
use Rattle.method.specs.declared.program.Program.{Program}
use Rattle.method.specs.Tables.{type_of_field, is_volatile}
use Rattle.method.specs.Expressions.{divides}
use Rattle.terms.specs.declared.term.Kind.TheVariants as k
use Rattle.terms.specs.Formula.{Formula, binary}
use Rattle.conditions.specs.Formulas.{node, int, nat, null, me, integer, reference, heap, not', and', or', imp, eq, all_of, any_of, is_any, get, field_column, owner}
use Rattle.conditions.specs.Formulas as f
use Rattle.conditions.specs.Symbolic.{Symbolic, Truth, Number, Reference, term, test, choose, symbolic_of_type, bounds, ranges, compute, compare}
use Rattle.conditions.specs.Annotations.{Scene, Entry, symbolic_at}
use Rattle.conditions.specs.Paths.{Execution, Gives, after, check, all_facts, guard}

-- what stays the same in a function: the heap at its entry, its writes list and its arguments there; and whether this is inside an atomic block, and the objects that it lists
pub record Spot : Type 0 where
  pub entry : Formula
  pub writes : List Formula
  pub args : List Symbolic
  pub inside : Bool
  pub listed : List Formula

-- an object whose invariant is to be checked at the block's end, where the tests on the way to it were passed; and a claim whose conjuncts are
pub record DeferredObject : Type 0 where
  pub guards : List Formula
  pub which : Formula

-- a claim that a block has made, whose conjuncts are to be checked at its end
pub record DeferredClaim : Type 0 where
  pub guards : List Formula
  pub which : Formula
  pub entries : List Entry

-- What the code changes on its way: the heap, the variables, and how many constants of each sort are made.
pub record State : Type 0 where
  pub heap : Formula
  pub locals : List Symbolic
  pub integers : ℕ
  pub references : ℕ
  pub heaps : ℕ
  pub changed : List DeferredObject
  pub made : List DeferredClaim

-- a value, and the state behind it
pub record ValueAndState : Type 0 where
  pub value : Symbolic
  pub state : State

-- the state with this heap
abbrev pub with_heap : State → Formula → State
with_heap st h = record st { heap = h }

-- New constants.

-- an integer constant
abbrev pub new_integer : State → ValueAndState
new_integer st = record { value = Number (integer st.integers); state = record st { integers = suc st.integers } }

-- a reference constant
abbrev pub new_reference : State → ValueAndState
new_reference st = record { value = Reference (reference st.references); state = record st { references = suc st.references } }

-- the heap becomes any
abbrev pub new_heap : State → State
new_heap st = record st { heap = heap st.heaps; heaps = suc st.heaps }

-- a constant for a value of the type
abbrev pub new_of : DeclaredType → State → ValueAndState
new_of (Integer c) st = new_integer st
new_of (Pointer n) st = new_reference st
new_of Object st = new_reference st
new_of Claim st = new_reference st

-- the value is one of its type
abbrev pub range_facts : DeclaredType → ValueAndState → Execution ValueAndState
range_facts ty v = all_facts (ranges ty (term v.value)) (Gives v)

-- any value of the type
abbrev pub new_value : DeclaredType → State → Execution ValueAndState
new_value ty st = range_facts ty (new_of ty st)

-- Status of objects.

-- o is open, and me its owner
abbrev pub mutable : State → Formula → Formula
mutable st o = f.mutable me st.heap o

-- o is closed, and me its owner
abbrev pub wrapped : State → Formula → Formula
wrapped st o = f.wrapped me st.heap o

-- the invariant of o over two heaps
abbrev pub inv : Formula → Formula → Formula → Formula
inv o h0 h1 = node k.Inv (o ∷ h0 ∷ h1 ∷ [])

module _ (p : Program) (a : Spot) where
  -- o may be written: it is in the writes list, or `\me` didn't own it at entry
  abbrev pub writable : Formula → Formula
  writable o = f.writable me a.entry a.writes o

  -- o is one that the block lists
  abbrev pub is_listed : Formula → List Formula
  is_listed o = if a.inside then is_any o a.listed else []

  -- a read of o->f: o is mutable, or f doesn't change while o is in the stable set, or the block lists o
  abbrev pub readable : State → Formula → ℕ → Formula
  readable st o g = any_of (mutable st o ∷ (if is_volatile p g then [] else node k.Stab (me ∷ st.heap ∷ o ∷ st.heap ∷ []) ∷ []) ++ is_listed o)

  -- the number whose range is checked: of a remainder, the quotient's
  abbrev pub checked_result : Operator → Formula → Formula → Formula
  checked_result o.Plus = compute o.Plus
  checked_result o.Minus = compute o.Minus
  checked_result o.Times = compute o.Times
  checked_result o.Over = compute o.Over
  checked_result o.Modulo = compute o.Over

  -- x is a number of the type
  abbrev pub in_range : CType → Formula → Formula
  in_range c x = all_of (bounds c x)

  -- a sum, difference, product, quotient or remainder: a divisor isn't 0, and the result is in range
  abbrev pub arithmetic : Operator → CType → Formula → Formula → Execution Symbolic
  arithmetic op c x y =
      if divides op
      then check (not' (eq y (nat 0))) (check (in_range c (checked_result op x y)) (Gives (Number (compute op x y))))
      else check (in_range c (checked_result op x y)) (Gives (Number (compute op x y)))

  -- a conversion, whose value must be in range
  abbrev pub converted : CType → Symbolic → Execution Symbolic
  converted c w = check (in_range c (term w)) (Gives w)

  -- a negative, in range
  abbrev pub negated : CType → Formula → Execution Symbolic
  negated c x = check (in_range c x) (Gives (Number x))

  -- a field is read
  abbrev pub field_read : State → Formula → ℕ → Execution Symbolic
  field_read st o g = check (readable st o g) (Gives (symbolic_of_type (type_of_field p g) (get (field_column g) st.heap (o ∷ []))))

  module _ (st : State) where
    -- an expression: its checks from left to right, those behind a test only where it is passed
    abbrev pub code : Expr → Execution Symbolic
    code (e.Number z) = Gives (Number (int z))
    code e.Null = Gives (Reference null)
    code (e.Variable i) = Gives (symbolic_at st.locals i)
    code (e.Field' q x g) = after (code x) (λ v. field_read st (term v) g)
    code (e.Not' q x) = after (code x) (λ v. Gives (Truth (not' (test v))))
    code (e.Negate' q x c) = after (code x) (λ v. negated c (binary k.Sub (nat 0) (term v)))
    code (e.Arithmetic' op q x r y c) = after (code x) (λ v. after (code y) (λ w. arithmetic op c (term v) (term w)))
    code (e.Compare' op q x r y) = after (code x) (λ v. after (code y) (λ w. Gives (Truth (compare op (term v) (term w)))))
    code (e.And' q x r y) = after (code x) (λ v. after (guard (test v) (code y)) (λ w. Gives (Truth (and' (test v) (test w)))))
    code (e.Or' q x r y) = after (code x) (λ v. after (guard (not' (test v)) (code y)) (λ w. Gives (Truth (or' (test v) (test w)))))
    code (e.Choose' q x r y t z) = after (code x) (λ u. after (guard (test u) (code y)) (λ v. after (guard (not' (test u)) (code z)) (λ w. Gives (choose (test u) v w))))
    code (e.Convert' q x c) = after (code x) (λ v. converted c v)

    -- several expressions, as terms
    abbrev pub all_code : List Expr → Execution (List Formula)
    all_code [] = Gives []
    all_code (x ∷ xs) = after (code x) (λ v. after (all_code xs) (λ vs. Gives (term v ∷ vs)))

    abbrev pub all_symbolic : List Expr → Execution (List Symbolic)
    all_symbolic [] = Gives []
    all_symbolic (x ∷ xs) = after (code x) (λ v. after (all_symbolic xs) (λ vs. Gives (v ∷ vs)))

-- the words of an annotation at a place in a function
abbrev pub scene : Spot → State → Scene
scene a st = record { before = a.entry; after = st.heap; past = false; me = me; this = null; locals = st.locals; entry = a.args; result = Number (nat 0); bound = []; subject = null }

-- the words of a contract at a call, and at the return
abbrev pub call_scene : Formula → Formula → List Symbolic → Scene
call_scene t h args = record { before = h; after = h; past = false; me = t; this = null; locals = args; entry = args; result = Number (nat 0); bound = []; subject = null }

-- the words of a contract at the return, with the function's value
abbrev pub return_scene : Formula → List Symbolic → Formula → Symbolic → Scene
return_scene entry args h result = record { before = entry; after = h; past = false; me = me; this = null; locals = args; entry = args; result = result; bound = []; subject = null }

-- the words of an invariant of the object o
abbrev pub inv_scene : Formula → Formula → Formula → Scene
inv_scene o h0 h1 = record { before = h0; after = h1; past = false; me = null; this = o; locals = []; entry = []; result = Number (nat 0); bound = []; subject = null }
