-- Expressions on two heaps of a few objects, by computation; what they come to was worked by hand. Own.
use Rattle.std.specs.Prelude.{◌≡◌, ℕ, Bool, true, false, ℤ, pos, ◌-ℤ◌, List, [], ◌∷◌, map, Option, Some, None, Result, Ok, Err, slice_get, refl}
use Rattle.int_ranges.specs.declared.ctype.CType.TheVariants.{LongLong}
use Rattle.object_types.specs.declared.references.Ref.{Ref}
use Rattle.object_types.specs.declared.values.Value.{Value}
use Rattle.object_types.specs.declared.values.Value.TheVariants.{Int, Ref as Refers}
use Rattle.object_types.specs.declared.shapes.Entry.{Entry}
use Rattle.object_types.specs.declared.records.Mode.TheVariants.{Open, Closed, Freed}
use Rattle.object_types.specs.declared.records.Change.TheVariants.{Status, Count, Field as Write, Owned, Listed, Shape as Conjunct}
use Rattle.object_types.specs.References.{ref, null, same_ref}
use Rattle.object_types.specs.Sets.{is_in}
use Rattle.object_types.specs.Heap.{Heap, put}
use Rattle.method.specs.declared.program.Operator.TheVariants.{Plus, Minus, Times, Over, Modulo}
use Rattle.method.specs.declared.program.Comparison.TheVariants.{Equal, NotEqual, Less, LessEqual, Greater, GreaterEqual}
use Rattle.method.specs.declared.program.DeclaredType.{DeclaredType}
use Rattle.method.specs.declared.program.DeclaredType.TheVariants.{Integer, Pointer, Object, Claim}
use Rattle.method.specs.declared.program.Sort.TheVariants.{IntSort, RefSort}
use Rattle.method.specs.declared.program.Hole.{Hole}
use Rattle.method.specs.declared.program.Hole.TheVariants.{OfVariable, OfBound, OfMe, OfThis, OfResult}
use Rattle.method.specs.declared.program.FieldInfo.{FieldInfo}
use Rattle.method.specs.declared.program.Program.{Program}
use Rattle.method.specs.declared.program.Spec.{Spec, end_of-Spec, more_of-Spec}
use Rattle.method.specs.declared.program.Spec.TheVariants.{Number, Truth, Null, Variable, Bound, This, Me, Result as Returned, Field', Closed', Owner', ClaimCount', Member', Not', Negate', Arithmetic', Compare', And', Or', Implies', Iff', Choose', Old', Unchanged', Wrapped', Wrapped0', Mutable', Fresh', ClaimsObject', ClaimsOnly', Claims', Lists', Has, ForAll', Exists'}
use Rattle.method.specs.Tables.{in_type}
use Rattle.method.specs.SpecValue.{Scene, value, holds, entry_holds}
use Rattle.method.specs.Invariants.{inv_scene}
use Rattle.method.specs.Overflow.{Overflow, overflow, shape_overflow}
use Rattle.method.specs.Trace.{Memory, vec, box}
use Rattle.value_rows.specs.Heaps.{heap_of, behind}

abbrev pub below_zero : ℕ → ℤ
below_zero n = pos 0 -ℤ pos n

-- the greatest and the least number of 128 bits
abbrev pub great : ℤ
great = pos 170141183460469231731687303715884105727

abbrev pub least : ℤ
least = below_zero 170141183460469231731687303715884105728

abbrev pub entry : ℕ → List Value → Entry
entry shape values = record { shape = shape; values = values }

-- what an expression comes to: what it is worth, or the operands of the first result on the way that leaves 128 bits
abbrev pub comes_to : {X : Type 0} → Option Overflow → X → Result X Overflow
comes_to None v = Ok v
comes_to (Some over) v = Err over

abbrev pub wide : {X : Type 0} → ℤ → ℤ → Result X Overflow
wide left right = Err (record { left = left; right = right })

-- an expression, and what it comes to
abbrev pub Row : Type 0
Row = Spec × Result Value Overflow

abbrev pub is_int : ℤ → Result Value Overflow
is_int z = Ok (Int z)

abbrev pub is : ℕ → Result Value Overflow
is n = is_int (pos n)

abbrev pub is_minus : ℕ → Result Value Overflow
is_minus n = is_int (below_zero n)

abbrev pub at : ℕ → ℕ → Result Value Overflow
at ty serial = Ok (Refers (ref ty serial))

abbrev pub wanted : List Row → List (Result Value Overflow)
wanted = map (λ r. r.1)

module _ (m : Memory) where
  -- the words, each before its operands
  abbrev pub number : ℕ → Spec
  number n = Number (pos n)

  abbrev pub minus : ℕ → Spec
  minus n = Number (below_zero n)

  abbrev pub field_n : Spec → Spec
  field_n e = Field' (box m) e 0

  abbrev pub field_p : Spec → Spec
  field_p e = Field' (box m) e 1

  abbrev pub closed : Spec → Spec
  closed e = Closed' (box m) e

  abbrev pub owner : Spec → Spec
  owner e = Owner' (box m) e

  abbrev pub count : Spec → Spec
  count e = ClaimCount' (box m) e

  abbrev pub negation : Spec → Spec
  negation e = Not' (box m) e

  abbrev pub opposite : Spec → Spec
  opposite e = Negate' (box m) e

  abbrev pub old : Spec → Spec
  old e = Old' (box m) e

  abbrev pub unchanged : Spec → Spec
  unchanged e = Unchanged' (box m) e

  abbrev pub wrapped : Spec → Spec
  wrapped e = Wrapped' (box m) e

  abbrev pub wrapped0 : Spec → Spec
  wrapped0 e = Wrapped0' (box m) e

  abbrev pub mutable : Spec → Spec
  mutable e = Mutable' (box m) e

  abbrev pub fresh : Spec → Spec
  fresh e = Fresh' (box m) e

  abbrev pub lists : Spec → Spec
  lists e = Lists' (box m) e

  abbrev pub plus : Spec → Spec → Spec
  plus e r = Arithmetic' Plus (box m) e (box m) r

  abbrev pub less : Spec → Spec → Spec
  less e r = Arithmetic' Minus (box m) e (box m) r

  abbrev pub times : Spec → Spec → Spec
  times e r = Arithmetic' Times (box m) e (box m) r

  abbrev pub over : Spec → Spec → Spec
  over e r = Arithmetic' Over (box m) e (box m) r

  abbrev pub modulo : Spec → Spec → Spec
  modulo e r = Arithmetic' Modulo (box m) e (box m) r

  abbrev pub equal : Spec → Spec → Spec
  equal e r = Compare' Equal (box m) e (box m) r

  abbrev pub unequal : Spec → Spec → Spec
  unequal e r = Compare' NotEqual (box m) e (box m) r

  abbrev pub below : Spec → Spec → Spec
  below e r = Compare' Less (box m) e (box m) r

  abbrev pub at_most : Spec → Spec → Spec
  at_most e r = Compare' LessEqual (box m) e (box m) r

  abbrev pub above : Spec → Spec → Spec
  above e r = Compare' Greater (box m) e (box m) r

  abbrev pub at_least : Spec → Spec → Spec
  at_least e r = Compare' GreaterEqual (box m) e (box m) r

  abbrev pub and : Spec → Spec → Spec
  and e r = And' (box m) e (box m) r

  abbrev pub or : Spec → Spec → Spec
  or e r = Or' (box m) e (box m) r

  abbrev pub implies : Spec → Spec → Spec
  implies e r = Implies' (box m) e (box m) r

  abbrev pub iff : Spec → Spec → Spec
  iff e r = Iff' (box m) e (box m) r

  abbrev pub member : Spec → Spec → Spec
  member e r = Member' (box m) e (box m) r

  abbrev pub claims_object : Spec → Spec → Spec
  claims_object e r = ClaimsObject' (box m) e (box m) r

  abbrev pub choose : Spec → Spec → Spec → Spec
  choose e r s = Choose' (box m) e (box m) r (box m) s

  abbrev pub has : ℕ → List Hole → Spec
  has shape holes = Has (record { shape = shape; holes = vec m holes })

  abbrev pub all : DeclaredType → Spec → Spec → Spec
  all ty e r = ForAll' 0 ty (box m) e (box m) r

  -- a word of several operands has their number
  abbrev pub claims0 : Spec → Spec
  claims0 e = Claims' (box m) e (vec m []) end_of-Spec

  abbrev pub claims1 : Spec → Spec → Spec
  claims1 e r = Claims' (box m) e (vec m (tt ∷ [])) (more_of-Spec r end_of-Spec)

  abbrev pub claims2 : Spec → Spec → Spec → Spec
  claims2 e r s = Claims' (box m) e (vec m (tt ∷ tt ∷ [])) (more_of-Spec r (more_of-Spec s end_of-Spec))

  abbrev pub claims_only0 : Spec → Spec
  claims_only0 e = ClaimsOnly' 0 (box m) e (vec m []) end_of-Spec

  abbrev pub claims_only1 : Spec → Spec → Spec
  claims_only1 e r = ClaimsOnly' 0 (box m) e (vec m (tt ∷ [])) (more_of-Spec r end_of-Spec)

  abbrev pub claims_only2 : Spec → Spec → Spec → Spec
  claims_only2 e r s = ClaimsOnly' 0 (box m) e (vec m (tt ∷ tt ∷ [])) (more_of-Spec r (more_of-Spec s end_of-Spec))

  abbrev pub claims_only3 : Spec → Spec → Spec → Spec → Spec
  claims_only3 e r s t = ClaimsOnly' 0 (box m) e (vec m (tt ∷ tt ∷ tt ∷ [])) (more_of-Spec r (more_of-Spec s (more_of-Spec t end_of-Spec)))

  abbrev pub claims_only4 : Spec → Spec → Spec → Spec → Spec → Spec
  claims_only4 e r s t u = ClaimsOnly' 0 (box m) e (vec m (tt ∷ tt ∷ tt ∷ tt ∷ [])) (more_of-Spec r (more_of-Spec s (more_of-Spec t (more_of-Spec u end_of-Spec))))

  abbrev pub one1 : DeclaredType → Spec → Spec → Spec
  one1 ty e r = Exists' 0 ty (box m) e (vec m (tt ∷ [])) (more_of-Spec r end_of-Spec)

  abbrev pub one2 : DeclaredType → Spec → Spec → Spec → Spec
  one2 ty e r s = Exists' 0 ty (box m) e (vec m (tt ∷ tt ∷ [])) (more_of-Spec r (more_of-Spec s end_of-Spec))

  -- the variables; the function has no z
  abbrev pub x : Spec
  x = Variable 0

  abbrev pub p : Spec
  p = Variable 1

  abbrev pub y : Spec
  y = Variable 2

  abbrev pub big : Spec
  big = Variable 3

  abbrev pub low : Spec
  low = Variable 4

  abbrev pub a : Spec
  a = Variable 5

  abbrev pub b : Spec
  b = Variable 6

  abbrev pub c : Spec
  c = Variable 7

  abbrev pub d : Spec
  d = Variable 8

  abbrev pub k : Spec
  k = Variable 9

  abbrev pub o : Spec
  o = Variable 10

  abbrev pub w : Spec
  w = Variable 11

  abbrev pub f : Spec
  f = Variable 12

  abbrev pub g : Spec
  g = Variable 13

  abbrev pub e : Spec
  e = Variable 14

  abbrev pub z : Spec
  z = Variable 99

  -- The objects: a, b, o, w, f, g are of struct type 3, c and d of 4, the claims k and e of 2. Now o is open and mine, w wrapped and claimed, f freed, g open and another thread's.
  abbrev pub earlier : Heap
  earlier =
      heap_of
      ((ref 3 1, Status Open (ref 1 2)) ∷ (ref 3 1, Write 0 (Int (pos 4)))
      ∷ (ref 3 2, Status Closed (ref 1 1)) ∷ (ref 3 2, Write 0 (Int (pos 10)))
      ∷ (ref 4 1, Status Closed (ref 3 1)) ∷ (ref 4 1, Write 0 (Int (below_zero 3)))
      ∷ (ref 3 4, Status Closed (ref 1 1)) ∷ (ref 3 4, Write 0 (Int (pos 0)))
      ∷ (ref 3 1, Owned (ref 3 2) true)
      ∷ (ref 3 2, Count (pos 1))
      ∷ [])

  abbrev pub now : Heap
  now =
      heap_of
      ((ref 3 1, Status Closed (ref 1 1)) ∷ (ref 3 1, Write 0 (Int (pos 5)))
      ∷ (ref 3 2, Status Closed (ref 3 1)) ∷ (ref 3 2, Write 0 (Int (pos 10)))
      ∷ (ref 4 1, Status Closed (ref 3 1)) ∷ (ref 4 1, Write 0 (Int (below_zero 3)))
      ∷ (ref 4 2, Status Closed (ref 3 1)) ∷ (ref 4 2, Write 0 (Int great))
      ∷ (ref 2 1, Status Closed (ref 1 1)) ∷ (ref 2 1, Write 0 (Int (pos 0)))
      ∷ (ref 2 2, Status Closed (ref 1 1)) ∷ (ref 2 2, Write 0 (Int (pos 0)))
      ∷ (ref 3 3, Status Open (ref 1 1)) ∷ (ref 3 3, Write 0 (Int (pos 0)))
      ∷ (ref 3 4, Status Closed (ref 1 1)) ∷ (ref 3 4, Write 0 (Int (pos 0)))
      ∷ (ref 3 5, Status Freed null) ∷ (ref 3 5, Write 0 (Int (pos 0)))
      ∷ (ref 3 6, Status Open (ref 1 2)) ∷ (ref 3 6, Write 0 (Int (pos 0)))
      ∷ (ref 3 1, Write 1 (Refers (ref 3 2)))
      ∷ (ref 3 1, Owned (ref 3 2) true) ∷ (ref 3 1, Owned (ref 4 1) true) ∷ (ref 3 1, Owned (ref 4 2) true)
      ∷ (ref 3 2, Count (pos 2)) ∷ (ref 3 4, Count (pos 1))
      ∷ (ref 2 1, Listed (ref 3 2) true) ∷ (ref 2 1, Listed (ref 3 4) true)
      ∷ (ref 2 1, Conjunct (entry 0 (Refers (ref 3 2) ∷ Int (pos 7) ∷ [])) true)
      ∷ (ref 2 1, Conjunct (entry 1 (Refers (ref 1 1) ∷ Refers (ref 3 1) ∷ Int (pos 42) ∷ [])) true)
      ∷ (ref 2 1, Conjunct (entry 2 (Refers (ref 4 1) ∷ [])) true)
      ∷ [])

  abbrev pub field_of : DeclaredType → FieldInfo
  field_of ty = record { name = m.text; of = 3; ty = ty; is_volatile = false; is_ghost = false; is_approved = false }

  -- the fields n and p; two shapes of conjuncts: hole 0 -> n == hole 1, and hole 0 + 1 > 0
  abbrev pub program : Program
  program = record {
    structs = vec m [];
    fields = vec m (field_of (Integer LongLong) ∷ field_of (Pointer 3) ∷ []);
    functions = vec m [];
    sites = vec m [];
    shapes = vec m (record { holes = vec m (RefSort ∷ IntSort ∷ []); conjunct = equal (field_n x) p } ∷ record { holes = vec m (IntSort ∷ []); conjunct = above (plus x (number 1)) (number 0) } ∷ []);
    items = vec m [];
    main = 0;
  }

  -- the variables of a function with the parameters x and p, and their values at its entry
  abbrev pub scene : Scene
  scene = record {
    before = earlier;
    after = now;
    me = ref 1 1;
    this = ref 3 1;
    locals = Int (pos 7) ∷ Refers (ref 3 1) ∷ Int (pos 100) ∷ Int great ∷ Int least ∷ Refers (ref 3 1) ∷ Refers (ref 3 2) ∷ Refers (ref 4 1) ∷ Refers (ref 4 2) ∷ Refers (ref 2 1) ∷ Refers (ref 3 3) ∷ Refers (ref 3 4) ∷ Refers (ref 3 5) ∷ Refers (ref 3 6) ∷ Refers (ref 2 2) ∷ [];
    entry = Int (pos 6) ∷ Refers (ref 3 2) ∷ [];
    result = Int (pos 42);
    bound = [];
    subject = null;
  }

  abbrev pub found : List Row → List (Result Value Overflow)
  found = map (λ r. comes_to (overflow program r.0 scene) (value program r.0 scene))

  abbrev words_and_numbers : List Row
  words_and_numbers =
      (number 7, is 7)
      ∷ (minus 170141183460469231731687303715884105728, is_int least)
      ∷ (Truth true, is 1)
      ∷ (Truth false, is 0)
      ∷ (Null, at 0 0)
      ∷ (x, is 7)
      ∷ (p, at 3 1)
      ∷ (y, is 100)
      ∷ (z, is 0)
      ∷ (Bound 0, at 0 0)
      ∷ (This, at 3 1)
      ∷ (Me, at 1 1)
      ∷ (Returned, is 42)
      ∷ (negation (number 5), is 0)
      ∷ (negation Null, is 1)
      ∷ (negation a, is 0)
      ∷ []

  words_and_numbers_give : found words_and_numbers ≡ wanted words_and_numbers
  unfolding same_ref is_in put in_type
  words_and_numbers_give = refl

  abbrev arithmetic : List Row
  arithmetic =
      (plus (number 2) (number 3), is 5)
      ∷ (less (number 2) (number 5), is_minus 3)
      ∷ (times (minus 4) (number 5), is_minus 20)
      ∷ (over (number 7) (number 2), is 3)
      ∷ (over (minus 7) (number 2), is_minus 3)
      ∷ (over (number 7) (minus 2), is_minus 3)
      ∷ (modulo (minus 7) (number 2), is_minus 1)
      ∷ (modulo (number 7) (minus 2), is 1)
      ∷ (over (number 7) (number 0), is 0)
      ∷ (modulo (number 7) (number 0), is 7)
      ∷ (modulo (minus 7) (number 0), is_minus 7)
      ∷ (over low (minus 1), wide least (below_zero 1))
      ∷ (modulo low (minus 1), is 0)
      ∷ (opposite (number 5), is_minus 5)
      ∷ (opposite low, wide (pos 0) least)
      ∷ (opposite big, is_minus 170141183460469231731687303715884105727)
      ∷ (opposite (plus big (number 1)), wide great (pos 1))
      ∷ (plus big (number 1), wide great (pos 1))
      ∷ (less low (number 1), wide least (pos 1))
      ∷ (times big (number 2), wide great (pos 2))
      ∷ (times (number 2) big, wide (pos 2) great)
      ∷ (plus (plus big (number 1)) (less low (number 1)), wide great (pos 1))
      ∷ (less (number 1) (less low (number 1)), wide least (pos 1))
      ∷ (less (plus big (minus 1)) (minus 1), is_int great)
      ∷ []

  arithmetic_give : found arithmetic ≡ wanted arithmetic
  unfolding same_ref is_in put in_type
  arithmetic_give = refl

  abbrev comparisons : List Row
  comparisons =
      (below (number 2) (number 3), is 1)
      ∷ (below (number 3) (number 3), is 0)
      ∷ (at_most (number 3) (number 3), is 1)
      ∷ (at_most (number 4) (number 3), is 0)
      ∷ (above (number 3) (number 2), is 1)
      ∷ (above (number 2) (number 2), is 0)
      ∷ (at_least (number 2) (number 2), is 1)
      ∷ (at_least (minus 3) (number 2), is 0)
      ∷ (equal (minus 5) (minus 5), is 1)
      ∷ (equal (number 5) (minus 5), is 0)
      ∷ (unequal (number 2) (number 2), is 0)
      ∷ (unequal (number 2) (number 3), is 1)
      ∷ (equal p a, is 1)
      ∷ (unequal p b, is 1)
      ∷ (equal Null (Bound 0), is 1)
      ∷ (equal Null (number 0), is 0)
      ∷ (equal (plus big (number 1)) (less low (number 1)), wide great (pos 1))
      ∷ (below (number 1) (less low (number 1)), wide least (pos 1))
      ∷ []

  comparisons_give : found comparisons ≡ wanted comparisons
  unfolding same_ref is_in put in_type
  comparisons_give = refl

  abbrev connectives : List Row
  connectives =
      (and (number 2) (number 3), is 1)
      ∷ (and (number 2) Null, is 0)
      ∷ (and (number 0) (plus big (number 1)), is 0)
      ∷ (and (number 1) (plus big (number 1)), wide great (pos 1))
      ∷ (and (plus big (number 1)) (number 0), wide great (pos 1))
      ∷ (or (number 5) (plus big (number 1)), is 1)
      ∷ (or (number 0) (number 0), is 0)
      ∷ (or (number 0) (number 7), is 1)
      ∷ (or (number 0) (plus big (number 1)), wide great (pos 1))
      ∷ (implies (number 0) (plus big (number 1)), is 1)
      ∷ (implies (number 1) (number 0), is 0)
      ∷ (implies (number 1) (number 9), is 1)
      ∷ (implies (number 1) (plus big (number 1)), wide great (pos 1))
      ∷ (iff (number 2) (number 3), is 1)
      ∷ (iff (number 0) (number 0), is 1)
      ∷ (iff (number 1) (number 0), is 0)
      ∷ (iff (number 0) (number 1), is 0)
      ∷ (iff (number 0) (plus big (number 1)), wide great (pos 1))
      ∷ (choose (number 1) (number 7) (plus big (number 1)), is 7)
      ∷ (choose (number 0) (plus big (number 1)) (number 8), is 8)
      ∷ (choose (plus big (number 1)) (number 7) (number 8), wide great (pos 1))
      ∷ (choose Null a b, at 3 2)
      ∷ []

  connectives_give : found connectives ≡ wanted connectives
  unfolding same_ref is_in put in_type
  connectives_give = refl

  abbrev heaps_and_statuses : List Row
  heaps_and_statuses =
      (field_n a, is 5)
      ∷ (field_n Null, is 0)
      ∷ (field_p b, at 0 0)
      ∷ (field_n (field_p a), is 10)
      ∷ (closed a, is 1)
      ∷ (closed o, is 0)
      ∷ (closed f, is 0)
      ∷ (closed Null, is 0)
      ∷ (owner b, at 3 1)
      ∷ (owner Null, at 0 0)
      ∷ (count b, is 2)
      ∷ (member b a, is 1)
      ∷ (member a a, is 0)
      ∷ (member b b, is 0)
      ∷ (member (plus big (number 1)) (less low (number 1)), wide great (pos 1))
      ∷ (wrapped a, is 1)
      ∷ (wrapped b, is 0)
      ∷ (wrapped o, is 0)
      ∷ (wrapped w, is 1)
      ∷ (wrapped0 a, is 1)
      ∷ (wrapped0 w, is 0)
      ∷ (mutable o, is 1)
      ∷ (mutable a, is 0)
      ∷ (mutable g, is 0)
      ∷ (mutable f, is 0)
      ∷ []

  heaps_and_statuses_give : found heaps_and_statuses ≡ wanted heaps_and_statuses
  unfolding same_ref is_in put in_type
  heaps_and_statuses_give = refl

  -- At the function's entry x is 6, p is b, a is open, another thread's and owns b alone, and a->n is 4.
  abbrev the_earlier_heap : List Row
  the_earlier_heap =
      (old x, is 6)
      ∷ (old p, at 3 2)
      ∷ (old y, is 100)
      ∷ (old z, is 0)
      ∷ (old (field_n a), is 4)
      ∷ (field_n p, is 5)
      ∷ (old (field_n p), is 10)
      ∷ (field_n (old p), is 10)
      ∷ (old (old (field_n a)), is 4)
      ∷ (old (closed a), is 0)
      ∷ (old (mutable a), is 0)
      ∷ (old (wrapped b), is 1)
      ∷ (old (count b), is 1)
      ∷ (old (member c a), is 0)
      ∷ (old Returned, is 42)
      ∷ (fresh a, is 1)
      ∷ (fresh b, is 0)
      ∷ (fresh d, is 1)
      ∷ (fresh Null, is 1)
      ∷ (fresh w, is 0)
      ∷ (unchanged y, is 1)
      ∷ (unchanged x, is 0)
      ∷ (unchanged (field_n b), is 1)
      ∷ (unchanged (field_n a), is 0)
      ∷ (unchanged (plus big (less x (number 6))), wide great (pos 1))
      ∷ (unchanged (plus big x), wide great (pos 6))
      ∷ []

  the_earlier_heap_give : found the_earlier_heap ≡ wanted the_earlier_heap
  unfolding same_ref is_in put in_type
  the_earlier_heap_give = refl

  -- The claim k claims b and w. It was made with shape 0 at b and 7, shape 1 at me, a and 42, and shape 2 at c.
  abbrev claims : List Row
  claims =
      (claims_object k b, is 1)
      ∷ (claims_object k c, is 0)
      ∷ (claims_object Null b, is 0)
      ∷ (claims_object (plus big (number 1)) (less low (number 1)), wide great (pos 1))
      ∷ (claims1 k (lists w), is 1)
      ∷ (claims1 k (has 0 (OfVariable 6 ∷ OfVariable 0 ∷ [])), is 1)
      ∷ (claims1 k (has 0 (OfVariable 1 ∷ OfVariable 0 ∷ [])), is 0)
      ∷ (claims1 k (has 0 (OfVariable 6 ∷ OfVariable 2 ∷ [])), is 0)
      ∷ (claims1 k (has 3 (OfVariable 6 ∷ OfVariable 0 ∷ [])), is 0)
      ∷ (claims1 k (has 0 (OfVariable 6 ∷ [])), is 0)
      ∷ (claims1 k (has 0 (OfVariable 6 ∷ OfVariable 0 ∷ OfVariable 0 ∷ [])), is 0)
      ∷ (claims1 k (has 1 (OfMe ∷ OfThis ∷ OfResult ∷ [])), is 1)
      ∷ (claims1 k (has 1 (OfMe ∷ OfVariable 5 ∷ OfResult ∷ [])), is 1)
      ∷ (claims1 k (has 1 (OfMe ∷ OfMe ∷ OfResult ∷ [])), is 0)
      ∷ (claims2 k (has 0 (OfVariable 6 ∷ OfVariable 0 ∷ [])) (lists b), is 1)
      ∷ (claims2 k (lists c) (has 0 (OfVariable 6 ∷ OfVariable 0 ∷ [])), is 0)
      ∷ (claims1 w (has 0 (OfVariable 6 ∷ OfVariable 0 ∷ [])), is 0)
      ∷ (claims1 w (has 0 (OfVariable 99 ∷ OfVariable 99 ∷ [])), is 0)
      ∷ (claims0 Null, is 1)
      ∷ (claims2 k (lists c) (lists (plus big (number 1))), is 0)
      ∷ (claims2 k (lists b) (lists (plus big (number 1))), wide great (pos 1))
      ∷ (claims1 (plus big (number 1)) (lists (less low (number 1))), wide great (pos 1))
      ∷ (old (claims1 k (lists w)), is 0)
      ∷ (one1 Object a (claims1 k (has 2 (OfBound 0 ∷ []))), is 1)
      ∷ (all Object a (claims1 k (has 2 (OfBound 0 ∷ []))), is 0)
      ∷ []

  claims_give : found claims ≡ wanted claims
  unfolding same_ref is_in put in_type
  claims_give = refl

  -- The claim e claims nothing, and what is no claim has no claimed set.
  abbrev claimed_sets : List Row
  claimed_sets =
      (claims_only2 k b w, is 1)
      ∷ (claims_only1 k b, is 0)
      ∷ (claims_only1 k w, is 0)
      ∷ (claims_only0 k, is 0)
      ∷ (claims_only3 k b w c, is 0)
      ∷ (claims_only2 k b c, is 0)
      ∷ (claims_only3 k b Null w, is 0)
      ∷ (claims_only2 k w b, is 1)
      ∷ (claims_only4 k w b w b, is 1)
      ∷ (claims_only2 k w w, is 0)
      ∷ (claims_only2 k (old p) w, is 1)
      ∷ (claims_only0 e, is 1)
      ∷ (claims_only1 e b, is 0)
      ∷ (claims_only0 a, is 1)
      ∷ (claims_only3 a b c d, is 0)
      ∷ (claims_only0 Null, is 1)
      ∷ (claims_only2 k c (plus big (number 1)), wide great (pos 1))
      ∷ (claims_only3 e b (less low (number 1)) (plus big (number 1)), wide least (pos 1))
      ∷ (claims_only1 (plus big (number 1)) (less low (number 1)), wide great (pos 1))
      ∷ (old (claims_only2 k b w), is 0)
      ∷ (old (claims_only0 k), is 1)
      ∷ []

  claimed_sets_give : found claimed_sets ≡ wanted claimed_sets
  unfolding same_ref is_in put in_type
  claimed_sets_give = refl

  -- Now a owns b, c and d, of the types 3, 4 and 4, with 10, -3 and the greatest number in n.
  abbrev quantifiers : List Row
  quantifiers =
      (all (Pointer 3) a (equal (field_n (Bound 0)) (number 10)), is 1)
      ∷ (all (Pointer 4) a (below (field_n (Bound 0)) (number 0)), is 0)
      ∷ (all Object a (at_most (field_n (Bound 0)) big), is 1)
      ∷ (all Object a (unequal (Bound 0) b), is 0)
      ∷ (all Object b (Truth false), is 1)
      ∷ (all Claim a (Truth false), is 1)
      ∷ (all Object a (above (plus (field_n (Bound 0)) (number 1)) (number 0)), is 0)
      ∷ (all (Pointer 4) a (at_most (plus (field_n (Bound 0)) (number 1)) (number 0)), wide great (pos 1))
      ∷ (all Object a (at_most (plus (field_n (Bound 0)) (number 1)) (number 20)), wide great (pos 1))
      ∷ (all Claim (plus big (number 1)) (Truth false), wide great (pos 1))
      ∷ (one1 (Pointer 3) a (equal (field_n (Bound 0)) (number 10)), is 1)
      ∷ (one1 (Pointer 4) a (above (field_n (Bound 0)) (number 0)), is 1)
      ∷ (one1 (Pointer 4) a (equal (Bound 0) b), is 0)
      ∷ (one2 Object a (above (field_n (Bound 0)) (number 0)) (equal (Bound 0) d), is 1)
      ∷ (one2 Object a (below (field_n (Bound 0)) (number 0)) (equal (Bound 0) d), is 0)
      ∷ (one1 Object b (Truth true), is 0)
      ∷ (one1 Claim a (Truth true), is 0)
      ∷ (one1 Object a (above (plus (field_n (Bound 0)) (number 1)) (number 0)), is 1)
      ∷ (one1 (Pointer 4) a (above (plus (field_n (Bound 0)) (number 1)) (number 0)), wide great (pos 1))
      ∷ (one2 (Pointer 4) a (below (field_n (Bound 0)) (number 0)) (above (plus big (number 1)) (number 0)), wide great (pos 1))
      ∷ (one1 Claim (plus big (number 1)) (Truth true), wide great (pos 1))
      ∷ (all (Pointer 3) a (one1 (Pointer 4) a (and (equal (Bound 1) b) (equal (Bound 0) c))), is 1)
      ∷ (all (Pointer 3) a (one1 (Pointer 4) a (and (equal (Bound 0) b) (equal (Bound 1) c))), is 0)
      ∷ (old (all Object a (equal (Bound 0) b)), is 1)
      ∷ (all Object (old p) (Truth false), is 1)
      ∷ (and (member b This) (member c This), is 1)
      ∷ (and (member a This) (member (plus big (number 1)) This), is 0)
      ∷ []

  quantifiers_give : found quantifiers ≡ wanted quantifiers
  unfolding same_ref is_in put in_type
  quantifiers_give = refl

  -- what k claims in six heaps, and whether it claims b and w and nothing else
  abbrev pub claimed : List (List Ref × Result Value Overflow)
  claimed =
      ([], is 0)
      ∷ (ref 3 2 ∷ [], is 0)
      ∷ (ref 3 4 ∷ [], is 0)
      ∷ (ref 3 2 ∷ ref 3 4 ∷ [], is 1)
      ∷ (ref 3 2 ∷ ref 4 1 ∷ [], is 0)
      ∷ (ref 3 2 ∷ ref 4 1 ∷ ref 3 4 ∷ [], is 0)
      ∷ []

  -- now k claims these of b, c and w
  abbrev pub claiming : List Ref → Scene
  claiming os = record scene { after = behind now (map (λ o. (ref 2 1, Listed o (is_in o os))) (ref 3 2 ∷ ref 4 1 ∷ ref 3 4 ∷ [])) }

  abbrev pub both : Spec
  both = claims_only2 k b w

  claimed_give : map (λ r. comes_to (overflow program both (claiming r.0)) (value program both (claiming r.0))) claimed ≡ map (λ r. r.1) claimed
  unfolding same_ref is_in put in_type
  claimed_give = refl

  -- whether it holds: of the function, of an object, or of what a claim was made with in the later heap
  abbrev pub holds_here : List (Spec × Result Bool Overflow)
  holds_here =
      (x, Ok true)
      ∷ (Null, Ok false)
      ∷ (equal x (number 6), Ok false)
      ∷ (old (equal x (number 6)), Ok true)
      ∷ (plus big (number 1), wide great (pos 1))
      ∷ []

  holds_here_gives : map (λ r. comes_to (overflow program r.0 scene) (holds program r.0 scene)) holds_here ≡ map (λ r. r.1) holds_here
  unfolding same_ref is_in put in_type
  holds_here_gives = refl

  -- the words of an invariant are \this and \old; all others are NULL or 0
  abbrev pub holds_of : List (Spec × Ref × Result Bool Overflow)
  holds_of =
      (equal (field_n This) (number 5), ref 3 1, Ok true)
      ∷ (equal (field_n This) (number 5), ref 3 2, Ok false)
      ∷ (old (equal (field_n This) (number 4)), ref 3 1, Ok true)
      ∷ (unchanged (field_n This), ref 3 2, Ok true)
      ∷ (equal Me Null, ref 3 1, Ok true)
      ∷ (equal big (number 0), ref 3 1, Ok true)
      ∷ (equal Returned (number 0), ref 3 1, Ok true)
      ∷ (plus (field_n This) (number 170141183460469231731687303715884105723), ref 3 1, wide (pos 5) (pos 170141183460469231731687303715884105723))
      ∷ []

  holds_of_gives : map (λ r. comes_to (overflow program r.0 (inv_scene r.1 earlier now)) (holds program r.0 (inv_scene r.1 earlier now))) holds_of ≡ map (λ r. r.2) holds_of
  unfolding same_ref is_in put in_type
  holds_of_gives = refl

  -- there is no shape 7
  abbrev pub entries : List (Entry × Result Bool Overflow)
  entries =
      (entry 0 (Refers (ref 3 2) ∷ Int (pos 10) ∷ []), Ok true)
      ∷ (entry 0 (Refers (ref 3 2) ∷ Int (pos 9) ∷ []), Ok false)
      ∷ (entry 0 (Refers (ref 3 1) ∷ Int (pos 4) ∷ []), Ok false)
      ∷ (entry 0 (Refers (ref 3 1) ∷ []), Ok false)
      ∷ (entry 1 (Int (pos 0) ∷ []), Ok true)
      ∷ (entry 1 (Int (below_zero 1) ∷ []), Ok false)
      ∷ (entry 1 (Int great ∷ []), wide great (pos 1))
      ∷ (entry 7 [], Ok true)
      ∷ []

  entries_give : map (λ r. comes_to (shape_overflow program (slice_get program.shapes.items r.0.shape) now r.0.values) (entry_holds program now r.0)) entries ≡ map (λ r. r.1) entries
  unfolding same_ref is_in put in_type
  entries_give = refl
