-- Values of terms, written down by hand. Own. The heap is the good one of RowGood of `method`: the closed G, 4.1, owns the closed F, 3.1, whose a is 5; the closed claim 2.1 lists G, with the conjunct g -> p -> a == 5; thread 1 owns G and the claim. Columns 5 and 6 are a and p, column 7 is the conjunct.
use Rattle.std.specs.Prelude.{ℕ, zero, suc, ℤ, pos, negsuc, true, false, List, [], ◌∷◌}
use Rattle.object_types.specs.declared.references.Ref.{Ref}
use Rattle.object_types.specs.References.{thread, null as no_ref}
use Rattle.method.specs.RowGood.{program, f1, g1, c1, heap as good_heap}
use Rattle.method.specs.Trace.{Memory}
use Rattle.terms.specs.declared.term.Kind.{Kind}
use Rattle.terms.specs.declared.term.Kind.TheVariants as k
use Rattle.terms.specs.Formula.{Formula, Node, Stop, binary}
use Rattle.conditions.specs.Formulas.{node, int, nat, null, me, integer, reference, heap, true_formula, false_formula, and', or', imp, eq, le, ite, typ, get, set}
use Rattle.term_meaning.specs.RawHeaps.{raw}
use Rattle.term_meaning.specs.Meaning.{Language, Env, Value, BoolValue, HeapValue, int_value, ref_value, Gives}

-- Formula 0 always holds and formula 1 never does; neither has an argument.
abbrev pub language : Memory → Language
language m =
    record {
      program = program m;
      quantified = record { holes = []; body = true_formula } ∷ record { holes = []; body = false_formula } ∷ [];
      invariants = true_formula ∷ true_formula ∷ [];
      conjuncts = true_formula ∷ [];
    }

-- `ci n` is n; `cr 0`, `cr 1` and `cr 2` are G, F and the claim; each `ch` is the heap
abbrev object : ℤ → Ref
object (pos zero) = g1
object (pos (suc zero)) = f1
object (pos (suc (suc n))) = c1
object (negsuc n) = no_ref

abbrev constant : Memory → Kind → ℤ → Value
constant m k.Ci n = int_value n
constant m k.Cr n = ref_value (object n)
constant m _ n = HeapValue (raw (program m) good_heap)

abbrev pub env : Memory → Env
env m = record { me = thread 1; constant = constant m }

-- the terms have these values, each its own
abbrev pub HaveValues : Memory → List (Formula × Value) → Type 0
HaveValues m [] = Unit {0}
HaveValues m (r ∷ rs) = Gives (language m) (env m) r.0 r.1 × HaveValues m rs

abbrev is_int : Formula → ℤ → Formula × Value
is_int f z = (f, int_value z)

abbrev is_nat : Formula → ℕ → Formula × Value
is_nat f n = (f, int_value (pos n))

abbrev is_ref : Formula → Ref → Formula × Value
is_ref f r = (f, ref_value r)

abbrev holds : Formula → Formula × Value
holds f = (f, BoolValue true)

abbrev fails : Formula → Formula × Value
fails f = (f, BoolValue false)

-- the objects and the heap, as terms
abbrev g : Formula
g = reference 0

abbrev f : Formula
f = reference 1

abbrev c : Formula
c = reference 2

abbrev h : Formula
h = heap 0

-- 2^127 - 1, and minus a number
abbrev most : Formula
most = nat 170141183460469231731687303715884105727

abbrev minus_two : Formula
minus_two = int (negsuc 1)

abbrev minus_seven : Formula
minus_seven = int (negsuc 6)

-- Numbers are those of mathematics; a quotient goes towards zero, and by 0 it is 0, with the dividend as the remainder.
abbrev pub numbers : List (Formula × Value)
numbers =
    is_nat (nat 5) 5
    ∷ is_int minus_two (negsuc 1)
    ∷ is_nat (integer 7) 7
    ∷ is_nat (binary k.Add (integer 7) minus_two) 5
    ∷ is_nat (binary k.Sub (integer 7) minus_two) 9
    ∷ is_int (binary k.Sub minus_two (integer 7)) (negsuc 8)
    ∷ is_int (binary k.Mul (integer 7) minus_two) (negsuc 13)
    ∷ is_nat (binary k.Mul most (nat 2)) 340282366920938463463374607431768211454
    ∷ is_nat (binary k.Div (nat 7) (nat 2)) 3
    ∷ is_int (binary k.Div minus_seven (nat 2)) (negsuc 2)
    ∷ is_int (binary k.Div (nat 7) minus_two) (negsuc 2)
    ∷ is_nat (binary k.Div minus_seven minus_two) 3
    ∷ is_nat (binary k.Div (nat 7) (nat 0)) 0
    ∷ is_nat (binary k.Mod (nat 7) (nat 2)) 1
    ∷ is_int (binary k.Mod minus_seven (nat 2)) (negsuc 0)
    ∷ is_nat (binary k.Mod (nat 7) minus_two) 1
    ∷ is_nat (binary k.Mod (nat 7) (nat 0)) 7
    ∷ is_int (binary k.Mod minus_seven (nat 0)) (negsuc 6)
    ∷ is_nat (ite true_formula (nat 5) (nat 6)) 5
    ∷ is_nat (ite false_formula (nat 5) (nat 6)) 6
    ∷ []

abbrev pub references : List (Formula × Value)
references =
    is_ref null no_ref
    ∷ is_ref me (thread 1)
    ∷ is_ref g g1
    ∷ is_ref (ite false_formula g f) f1
    ∷ is_nat (typ null) 0
    ∷ is_nat (typ me) 1
    ∷ is_nat (typ g) 4
    ∷ []

-- The columns of the heap, at what is there and at what isn't.
abbrev pub reads : List (Formula × Value)
reads =
    is_nat (get 0 h (g ∷ [])) 2
    ∷ is_nat (get 0 h (null ∷ [])) 0
    ∷ is_ref (get 1 h (g ∷ [])) (thread 1)
    ∷ is_ref (get 1 h (f ∷ [])) g1
    ∷ is_ref (get 1 h (null ∷ [])) no_ref
    ∷ is_nat (get 2 h (g ∷ [])) 1
    ∷ is_nat (get 2 h (f ∷ [])) 0
    ∷ is_nat (get 3 h (g ∷ f ∷ [])) 1
    ∷ is_nat (get 3 h (g ∷ g ∷ [])) 0
    ∷ is_nat (get 4 h (c ∷ g ∷ [])) 1
    ∷ is_nat (get 4 h (g ∷ f ∷ [])) 0
    ∷ is_nat (get 5 h (f ∷ [])) 5
    ∷ is_nat (get 5 h (null ∷ [])) 0
    ∷ is_ref (get 6 h (g ∷ [])) f1
    ∷ is_ref (get 6 h (f ∷ [])) no_ref
    ∷ is_nat (get 5 h (get 6 h (g ∷ []) ∷ [])) 5
    ∷ is_nat (get 7 h (c ∷ g ∷ [])) 1
    ∷ is_nat (get 7 h (c ∷ f ∷ [])) 0
    ∷ []

-- a heap with a mode that is none, and one in whose set of G the claim isn't, since what is stored isn't 1
abbrev odd_mode : Formula
odd_mode = set 0 h (f ∷ []) (nat 7)

abbrev odd_set : Formula
odd_set = set 3 h (g ∷ c ∷ []) (nat 5)

abbrev wider_set : Formula
wider_set = set 3 h (g ∷ c ∷ []) (nat 1)

abbrev pub stores : List (Formula × Value)
stores =
    is_nat (get 0 odd_mode (f ∷ [])) 7
    ∷ is_nat (get 0 odd_mode (g ∷ [])) 2
    ∷ is_ref (get 1 odd_mode (f ∷ [])) g1
    ∷ is_nat (get 3 odd_set (g ∷ c ∷ [])) 5
    ∷ is_nat (get 3 odd_set (g ∷ f ∷ [])) 1
    ∷ is_nat (get 3 odd_set (c ∷ g ∷ [])) 0
    ∷ is_nat (get 5 (set 5 (set 5 h (f ∷ []) (nat 8)) (f ∷ []) (nat 9)) (f ∷ [])) 9
    ∷ is_nat (get 7 (set 7 h (c ∷ f ∷ []) (nat 1)) (c ∷ g ∷ [])) 1
    ∷ []

-- Opening and closing change the mode of the object and the owners of its members; what stands after a closed object doesn't matter.
abbrev pub changes : List (Formula × Value)
changes =
    is_nat (get 0 (node k.Open (h ∷ g ∷ c ∷ [])) (g ∷ [])) 1
    ∷ is_nat (get 0 (node k.Open (h ∷ g ∷ c ∷ [])) (f ∷ [])) 2
    ∷ is_ref (get 1 (node k.Open (h ∷ g ∷ c ∷ [])) (f ∷ [])) c1
    ∷ is_ref (get 1 (node k.Open (h ∷ g ∷ c ∷ [])) (g ∷ [])) (thread 1)
    ∷ is_nat (get 3 (node k.Open (h ∷ g ∷ c ∷ [])) (g ∷ f ∷ [])) 1
    ∷ is_ref (get 1 (node k.Open (odd_set ∷ g ∷ f ∷ [])) (c ∷ [])) (thread 1)
    ∷ is_ref (get 1 (node k.Open (wider_set ∷ g ∷ f ∷ [])) (c ∷ [])) f1
    ∷ is_nat (get 0 (node k.Close (h ∷ null ∷ me ∷ [])) (null ∷ [])) 2
    ∷ is_ref (get 1 (node k.Close (wider_set ∷ g ∷ f ∷ [])) (c ∷ [])) g1
    ∷ is_ref (get 1 (node k.Close (h ∷ g ∷ f ∷ [])) (g ∷ [])) (thread 1)
    ∷ is_nat (get 3 (node k.Clear (h ∷ g ∷ [])) (g ∷ f ∷ [])) 0
    ∷ is_nat (get 3 (node k.Clear (h ∷ f ∷ [])) (g ∷ f ∷ [])) 1
    ∷ is_nat (get 0 (node k.Clear (h ∷ g ∷ [])) (g ∷ [])) 2
    ∷ []

abbrev pub truths : List (Formula × Value)
truths =
    holds true_formula
    ∷ fails false_formula
    ∷ fails (and' true_formula false_formula)
    ∷ holds (or' false_formula true_formula)
    ∷ fails (or' false_formula false_formula)
    ∷ holds (imp false_formula false_formula)
    ∷ fails (imp true_formula false_formula)
    ∷ holds (eq (nat 5) (binary k.Add (nat 2) (nat 3)))
    ∷ fails (eq (nat 5) minus_two)
    ∷ holds (eq (get 1 h (f ∷ [])) g)
    ∷ fails (eq null g)
    ∷ holds (le (nat 5) (nat 5))
    ∷ fails (le (nat 6) (nat 5))
    ∷ holds (le minus_seven minus_two)
    ∷ []

-- A formula that always holds has no counterexample, and NULL stands for none.
abbrev pub quantified : List (Formula × Value)
quantified =
    holds (Node k.All (pos 0) Stop)
    ∷ fails (Node k.All (pos 1) Stop)
    ∷ is_ref (Node k.Cex (pos 0) Stop) no_ref
    ∷ []

abbrev pub TermsHaveValues : Type 0
TermsHaveValues =
    (m : Memory) →
    HaveValues m numbers × HaveValues m references × HaveValues m reads × HaveValues m stores
    × HaveValues m changes × HaveValues m truths × HaveValues m quantified
