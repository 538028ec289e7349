-- Environments, and the value of a term in one, for every kind of term. From many-sorted first-order logic: a structure, an assignment, and truth in every structure. Own: what atoms say of raw heaps, and how the formula of an annotation is read.
use Rattle.std.specs.Prelude.{◌≡◌, ℕ, suc, ◌-◌, ◌==◌, nat_le, ◌⊎◌, Bool, true, false, not, ◌&&◌, ◌||◌, if◌then◌else◌, List, [], ◌∷◌, ◌++◌, map, drop, length, Option, Some, None, slice_get, get_or, ℤ, pos, negsuc, ◌+ℤ◌, ◌-ℤ◌, ◌*ℤ◌, ◌≤ℤ◌, IsTrue, option_and_then}
use Rattle.object_types.specs.declared.references.Ref.{Ref}
use Rattle.object_types.specs.declared.values.Value.{Value as Scalar}
use Rattle.object_types.specs.declared.values.Value.TheVariants.{Int, Ref as Refers}
use Rattle.object_types.specs.References.{null, is_reference, is_thread, is_claim, ref_lt}
use Rattle.object_types.specs.Values.{int, referent}
use Rattle.object_types.specs.Heap.{Heap}
use Rattle.method.specs.declared.program.Program.{Program}
use Rattle.method.specs.WellFormed.{have_sorts}
use Rattle.method.specs.SpecValue.{quotient, remainder, shape_holds}
use Rattle.method.specs.Tables.{struct_of}
use Rattle.method.specs.Invariants.{struct_holds, inv_scene}
use Rattle.terms.specs.declared.term.Term.{Term}
use Rattle.terms.specs.declared.term.Literal.{Literal}
use Rattle.terms.specs.declared.term.Kind.{Kind}
use Rattle.terms.specs.declared.term.Kind.TheVariants as k
use Rattle.terms.specs.declared.sort.Sort.{Sort}
use Rattle.terms.specs.Sorts.{sort_in as sort_of}
use Rattle.terms.specs.Formula.{Formula, Formulas, Node, Stop, With}
use Rattle.term_meaning.specs.Columns.{Column, columns_of, column_sorts, holes}
use Rattle.term_meaning.specs.RawHeaps.{RawHeap, ShapeAt, place_of, Shows, is_one, closed, store_at, open_object, close_object, clear_set}
use Rattle.term_meaning.specs.RawRelations.{IsSys, IsGood, IsLegal, IsKept, IsRely, IsFrame, IsTouched, IsInStableSet, IsIdle}

-- What a term stands for: a truth value, what a field can hold (an integer or a reference), or a raw heap.
pub data Value : Type 0 where
  BoolValue : Bool → Value
  PlainValue : Scalar → Value
  HeapValue : RawHeap → Value

-- What the running thread and the constants `ci`, `cr` and `ch` stand for, by their kinds and numbers.
pub record Env : Type 0 where
  pub me : Ref
  pub constant : Kind → ℤ → Value

-- An environment of the program: a thread, integers, references, and heaps of the program.
pub record IsEnv (p : Program) (e : Env) : Type 0 where
  pub me : IsTrue (is_thread e.me)
  pub integers : (n : ℤ) → (z : ℤ) × (e.constant k.Ci n ≡ PlainValue (Int z))
  pub references : (n : ℤ) → (r : Ref) × (e.constant k.Cr n ≡ PlainValue (Refers r)) × IsTrue (is_reference r)
  pub heaps : (n : ℤ) → (h : Heap) × (x : RawHeap) × (e.constant k.Ch n ≡ HeapValue x) × Shows p h x

-- A value as one of each sort; one of another sort counts as zero.
abbrev pub truth : Value → Bool
truth (BoolValue b) = b
truth _ = false

abbrev pub scalar : Value → Scalar
scalar (PlainValue v) = v
scalar _ = Int (pos 0)

abbrev pub number : Value → ℤ
number x = int (scalar x)

abbrev pub reference : Value → Ref
reference x = referent (scalar x)

abbrev pub heap : Value → RawHeap
heap (HeapValue h) = h
heap _ = λ c o. Int (pos 0)

-- an integer, and a reference, as values
abbrev pub int_value : ℤ → Value
int_value z = PlainValue (Int z)

abbrev pub ref_value : Ref → Value
ref_value r = PlainValue (Refers r)

-- the argument with this number, from 0; NULL where there is none
abbrev pub argument : List Value → ℕ → Value
argument xs n = get_or xs n (ref_value null)

-- the arguments from this number on, as scalars and as references; all of a list but its last, and its last
abbrev pub scalars_from : ℕ → List Value → List Scalar
scalars_from n xs = map scalar (drop n xs)

abbrev pub references_from : ℕ → List Value → List Ref
references_from n xs = map reference (drop n xs)

abbrev pub but_last : List Scalar → List Scalar
but_last [] = []
but_last (v ∷ []) = []
but_last (v ∷ w ∷ vs) = v ∷ but_last (w ∷ vs)

abbrev pub last : List Scalar → Scalar
last [] = Int (pos 0)
last (v ∷ []) = v
last (v ∷ w ∷ vs) = last (w ∷ vs)

-- x is the truth value of P
pub record Decides (x : Value) (P : Type 0) : Type 0 where
  pub is_bool : x ≡ BoolValue (truth x)
  pub yes : truth x ≡ true → P
  pub holds : P → truth x ≡ true

-- r is the least reference at which P fails, or NULL where there is none
abbrev pub IsLeastFailure : (Ref → Type 0) → Ref → Type 0
IsLeastFailure P r =
    (IsTrue (is_reference r) × (P r → ⊥) × ((q : Ref) → IsTrue (is_reference q) → IsTrue (ref_lt q r) → P q))
    ⊎ (((q : Ref) → IsTrue (is_reference q) → P q) × (r ≡ null))

-- the column with this number
abbrev pub column_at : Program → ℤ → Option Column
column_at p (pos n) = slice_get (columns_of p) n
column_at p (negsuc n) = None

-- what a term `get` reads: the heap and the reference come first, then the further keys
abbrev pub read_in : Option Column → List Value → Value
read_in None xs = int_value (pos 0)
read_in (Some c) xs = PlainValue (heap (argument xs 0) (place_of c (scalars_from 2 xs)) (reference (argument xs 1)))

-- what a term `set` stores: the same, and the value behind them
abbrev pub store_in : Option Column → List Value → Value
store_in None xs = argument xs 0
store_in (Some c) xs = HeapValue (store_at (heap (argument xs 0)) (place_of c (but_last (scalars_from 2 xs))) (reference (argument xs 1)) (last (scalars_from 2 xs)))

-- the number of a quantified formula
abbrev pub formula_number : ℤ → ℕ
formula_number (pos n) = n
formula_number (negsuc n) = 0

-- each reference, of which NULL alone has type 0: what a quantifier ranges over
abbrev pub ForEach : (Ref → Type 0) → Type 0
ForEach P = (r : Ref) → IsTrue (is_reference r) → P r

-- a literal, and a clause, at a valuation
abbrev pub literal_true : (ℕ → Value) → Literal → Bool
literal_true v l = if l.positive then truth (v l.term) else not (truth (v l.term))

abbrev pub clause_true : (ℕ → Value) → List Literal → Bool
clause_true v [] = false
clause_true v (l ∷ ls) = literal_true v l || clause_true v ls

-- What the value of a term is, by the values of its arguments; All n xs says that the body of the quantified formula n holds with these values in its holes, Inv o x y that the invariant of o holds from x to y.
abbrev pub MeansBy : Program → (ℕ → List Value → Type 0) → (Ref → RawHeap → RawHeap → Type 0) → Env → Kind → ℤ → List Value → Value → Type 0
MeansBy p All Inv e k.Int n xs x = x ≡ int_value n
MeansBy p All Inv e k.Ci n xs x = x ≡ e.constant k.Ci n
MeansBy p All Inv e k.Add n xs x = x ≡ int_value (number (argument xs 0) +ℤ number (argument xs 1))
MeansBy p All Inv e k.Sub n xs x = x ≡ int_value (number (argument xs 0) -ℤ number (argument xs 1))
MeansBy p All Inv e k.Mul n xs x = x ≡ int_value (number (argument xs 0) *ℤ number (argument xs 1))
MeansBy p All Inv e k.Div n xs x = x ≡ int_value (quotient (number (argument xs 0)) (number (argument xs 1)))
MeansBy p All Inv e k.Mod n xs x = x ≡ int_value (remainder (number (argument xs 0)) (number (argument xs 1)))
MeansBy p All Inv e k.Typ n xs x = x ≡ int_value (pos (reference (argument xs 0)).ty)
MeansBy p All Inv e k.Get n xs x = x ≡ read_in (column_at p n) xs
MeansBy p All Inv e k.Ite n xs x = x ≡ (if truth (argument xs 0) then argument xs 1 else argument xs 2)
MeansBy p All Inv e k.Null n xs x = x ≡ ref_value null
MeansBy p All Inv e k.Me n xs x = x ≡ ref_value e.me
MeansBy p All Inv e k.Cr n xs x = x ≡ e.constant k.Cr n
MeansBy p All Inv e k.Cex n xs x = (r : Ref) × (x ≡ ref_value r) × IsLeastFailure (λ q. All (formula_number n) (xs ++ ref_value q ∷ [])) r
MeansBy p All Inv e k.Ch n xs x = x ≡ e.constant k.Ch n
MeansBy p All Inv e k.Set n xs x = x ≡ store_in (column_at p n) xs
MeansBy p All Inv e k.Open n xs x = x ≡ HeapValue (open_object (heap (argument xs 0)) (reference (argument xs 1)) (reference (argument xs 2)))
MeansBy p All Inv e k.Close n xs x = x ≡ HeapValue (close_object (heap (argument xs 0)) (reference (argument xs 1)))
MeansBy p All Inv e k.Clear n xs x = x ≡ HeapValue (clear_set (heap (argument xs 0)) (reference (argument xs 1)))
MeansBy p All Inv e k.True n xs x = x ≡ BoolValue true
MeansBy p All Inv e k.Not n xs x = x ≡ BoolValue (not (truth (argument xs 0)))
MeansBy p All Inv e k.And n xs x = x ≡ BoolValue (truth (argument xs 0) && truth (argument xs 1))
MeansBy p All Inv e k.Or n xs x = x ≡ BoolValue (truth (argument xs 0) || truth (argument xs 1))
MeansBy p All Inv e k.Imp n xs x = x ≡ BoolValue (not (truth (argument xs 0)) || truth (argument xs 1))
MeansBy p All Inv e k.Eq n xs x = Decides x (argument xs 0 ≡ argument xs 1)
MeansBy p All Inv e k.Le n xs x = Decides x (number (argument xs 0) ≤ℤ number (argument xs 1))
MeansBy p All Inv e k.All n xs x = Decides x (ForEach (λ q. All (formula_number n) (xs ++ ref_value q ∷ [])))
MeansBy p All Inv e k.Good n xs x = Decides x (IsGood p (heap (argument xs 0)))
MeansBy p All Inv e k.Sys n xs x = Decides x (IsSys p (heap (argument xs 0)))
MeansBy p All Inv e k.Inv n xs x = Decides x (Inv (reference (argument xs 0)) (heap (argument xs 1)) (heap (argument xs 2)))
MeansBy p All Inv e k.Legal n xs x = Decides x (IsLegal p (heap (argument xs 0)) (heap (argument xs 1)))
MeansBy p All Inv e k.Kept n xs x = Decides x (IsKept p (heap (argument xs 0)) (heap (argument xs 1)))
MeansBy p All Inv e k.Touched n xs x = Decides x (IsTouched p (reference (argument xs 0)) (heap (argument xs 1)) (heap (argument xs 2)))
MeansBy p All Inv e k.Rely n xs x = Decides x (IsRely p (reference (argument xs 0)) (heap (argument xs 1)) (heap (argument xs 2)))
MeansBy p All Inv e k.Frame n xs x = Decides x (IsFrame p (reference (argument xs 0)) (heap (argument xs 1)) (heap (argument xs 2)) (heap (argument xs 3)) (references_from 4 xs))
MeansBy p All Inv e k.Stab n xs x = Decides x (IsInStableSet p (reference (argument xs 0)) (heap (argument xs 1)) (heap (argument xs 3)) (references_from 4 xs) (reference (argument xs 2)))
MeansBy p All Inv e k.Idle n xs x = Decides x (IsIdle (reference (argument xs 0)) (heap (argument xs 1)))

abbrev mutual
  -- the formula has this value
  pub GivesBy : Program → (ℕ → List Value → Type 0) → (Ref → RawHeap → RawHeap → Type 0) → Env → Formula → Value → Type 0
  GivesBy p All Inv e (Node k n fs) x = (xs : List Value) × AllGiveBy p All Inv e fs xs × MeansBy p All Inv e k n xs x

  pub AllGiveBy : Program → (ℕ → List Value → Type 0) → (Ref → RawHeap → RawHeap → Type 0) → Env → Formulas → List Value → Type 0
  AllGiveBy p All Inv e Stop xs = xs ≡ []
  AllGiveBy p All Inv e (With f fs) xs = (y : Value) × (ys : List Value) × (xs ≡ y ∷ ys) × GivesBy p All Inv e f y × AllGiveBy p All Inv e fs ys

-- A quantified formula: the sorts of its arguments, and its body, in which the constant with a place's number stands for the argument there, and the one behind all for the bound variable.
pub record Quantified : Type 0 where
  pub holes : List Sort
  pub body : Formula

-- A program with the formulas that its annotations become: the quantified ones by their numbers; of each struct its invariants, with the object, the earlier and the later heap as constants 0 to 2; of each shape its conjunct, with the heap as constant 0 and the values behind it.
pub record Language : Type 0 where
  pub program : Program
  pub quantified : List Quantified
  pub invariants : List Formula
  pub conjuncts : List Formula

-- the environment of an annotation's formula: the constant with number n stands for the value n, whatever its kind
abbrev pub env_of : Ref → List Value → Env
env_of me xs = record { me = me; constant = λ k n. entry n }
  where
    entry : ℤ → Value
    entry (pos n) = argument xs n
    entry (negsuc n) = ref_value null

-- A where the test is true, else B
abbrev pub If : Bool → Type 0 → Type 0 → Type 0
If true A B = A
If false A B = B

-- the formula, in which no invariant is named, is true with these values for its constants
abbrev pub SaysBy : Program → (ℕ → List Value → Type 0) → Ref → Formula → List Value → Type 0
SaysBy p All me f xs = (y : Value) → GivesBy p All (λ o h k. Unit {0}) (env_of me xs) f y → truth y ≡ true

-- the body of the formula with number n holds, these being those from number `first` on; each speaks of later ones alone
abbrev pub BodyHolds : Program → Ref → ℕ → List Quantified → ℕ → List Value → Type 0
BodyHolds p me first [] n xs = Unit {0}
BodyHolds p me first (q ∷ qs) n xs = If (n == first) (SaysBy p (BodyHolds p me (suc first) qs) me q.body xs) (BodyHolds p me (suc first) qs n xs)

module _ (l : Language) where
  -- the body of the quantified formula with this number holds with these values in its holes
  abbrev pub AllHolds : Ref → ℕ → List Value → Type 0
  AllHolds me = BodyHolds l.program me 0 l.quantified

  -- the annotation's formula is true with these values for its constants
  abbrev pub Says : Ref → Formula → List Value → Type 0
  Says me = SaysBy l.program (AllHolds me) me

  -- the formula of the invariants of a struct, by its type number
  abbrev pub invariant_of : ℕ → Option Formula
  invariant_of ty = if nat_le 3 ty then slice_get l.invariants (ty - 3) else None

  -- the invariants of o, of a struct, hold from x to y; what has none is free
  abbrev pub StructSays : Ref → Option Formula → Ref → RawHeap → RawHeap → Type 0
  StructSays me None o x y = Unit {0}
  StructSays me (Some f) o x y = Says me f (ref_value o ∷ HeapValue x ∷ HeapValue y ∷ [])

  -- where the claim c is closed, the conjuncts hold that it was made with: those whose column holds 1, at values of the sorts of their holes
  abbrev pub ClaimSays : Ref → Ref → RawHeap → Type 0
  ClaimSays me c y =
      IsTrue (closed y c) → (n : ℕ) (f : Formula) → slice_get l.conjuncts n ≡ Some f → (vs : List Scalar) →
      IsTrue (have_sorts (holes (slice_get l.program.shapes.items n)) vs) → IsTrue (is_one (y (ShapeAt n vs) c)) → Says me f (HeapValue y ∷ map PlainValue vs)

  -- the invariant of o holds from x to y, which may be any raw heaps: what the atom `inv` says
  abbrev pub InvHolds : Ref → Ref → RawHeap → RawHeap → Type 0
  InvHolds me o x y = If (is_claim o) (ClaimSays me o y) (StructSays me (invariant_of o.ty) o x y)

  -- what the value of a term is in e, by the values of its arguments
  abbrev pub Means : Env → Kind → ℤ → List Value → Value → Type 0
  Means e = MeansBy l.program (AllHolds e.me) (InvHolds e.me) e

  -- the formula has this value in e
  abbrev pub Gives : Env → Formula → Value → Type 0
  Gives e = GivesBy l.program (AllHolds e.me) (InvHolds e.me) e

  -- the formulas have these values in e, one each
  abbrev pub AllGive : Env → Formulas → List Value → Type 0
  AllGive e = AllGiveBy l.program (AllHolds e.me) (InvHolds e.me) e

  -- v gives each term of the list its value
  pub record IsValuation (e : Env) (terms : List Term) (v : ℕ → Value) : Type 0 where
    pub term : (i : ℕ) (t : Term) → slice_get terms i ≡ Some t → Means e t.kind t.index (map v t.args) (v i)

  -- the term with this number is true in every environment
  abbrev pub IsAlwaysTrue : List Term → ℕ → Type 0
  IsAlwaysTrue terms root = (e : Env) (v : ℕ → Value) → IsEnv l.program e → IsValuation e terms v → truth (v root) ≡ true

  -- the formula is true in every environment
  abbrev pub IsValid : Formula → Type 0
  IsValid f = (e : Env) (x : Value) → IsEnv l.program e → Gives e f x → truth x ≡ true

  -- the sorts of the holes of the quantified formulas, by their numbers
  abbrev pub quantified_sorts : List (List Sort)
  quantified_sorts = map (λ (q : Quantified). q.holes) l.quantified

  abbrev mutual
    -- the sort of a formula, if it has one
    pub sort_in : Formula → Option Sort
    sort_in (Node k n fs) = option_and_then (λ args. sort_of k n args (column_sorts l.program) quantified_sorts) (sorts_in fs)

    pub sorts_in : Formulas → Option (List Sort)
    sorts_in Stop = Some []
    sorts_in (With f fs) = option_and_then (λ a. option_and_then (λ as'. Some (a ∷ as')) (sorts_in fs)) (sort_in f)

  -- What the formulas of annotations say of heaps of the program is what the annotations say: each shape has a formula, and formulas and annotations hold together.
  pub record IsFaithful : Type 0 where
    pub each_shape : length l.conjuncts ≡ length l.program.shapes.items
    pub invariant : (me o : Ref) (h k : Heap) (x y : RawHeap) → IsTrue (is_thread me) → Shows l.program h x → Shows l.program k y →
        (IsTrue (struct_holds l.program (struct_of l.program o.ty) (inv_scene o h k)) → StructSays me (invariant_of o.ty) o x y)
        × (StructSays me (invariant_of o.ty) o x y → IsTrue (struct_holds l.program (struct_of l.program o.ty) (inv_scene o h k)))
    pub conjunct : (me : Ref) (n : ℕ) (f : Formula) (h : Heap) (x : RawHeap) (vs : List Scalar) → IsTrue (is_thread me) → Shows l.program h x → slice_get l.conjuncts n ≡ Some f →
        IsTrue (have_sorts (holes (slice_get l.program.shapes.items n)) vs) →
        (IsTrue (shape_holds l.program (slice_get l.program.shapes.items n) h vs) → Says me f (HeapValue x ∷ map PlainValue vs))
        × (Says me f (HeapValue x ∷ map PlainValue vs) → IsTrue (shape_holds l.program (slice_get l.program.shapes.items n) h vs))
