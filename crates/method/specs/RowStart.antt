-- Starts: arguments that don't fit, each requires clause false, a writes list past 128 bits. Own.
use Rattle.std.specs.Prelude.{◌≡◌, pos, true, false, [], ◌∷◌, None, Some, refl}
use Rattle.object_types.specs.declared.values.Value.{Value}
use Rattle.object_types.specs.declared.values.Value.TheVariants.{Int, Ref as Refers}
use Rattle.int_ranges.specs.declared.ctype.CType.TheVariants.{LongLong}
use Rattle.method.specs.declared.program.DeclaredType.TheVariants.{Integer, Object}
use Rattle.method.specs.declared.program.CheckKind.TheVariants.{Requires}
use Rattle.method.specs.declared.program.Operator.TheVariants.{Times}
use Rattle.method.specs.declared.program.Comparison.TheVariants.{NotEqual, Greater, GreaterEqual}
use Rattle.method.specs.declared.program.Spec.{Spec}
use Rattle.method.specs.declared.program.Spec.TheVariants.{Number as SNumber, Variable as SVariable, Arithmetic' as SArithmetic, Compare' as SCompare, Choose' as SChoose}
use Rattle.method.specs.declared.program.Item.TheVariants.{Function}
use Rattle.method.specs.declared.program.FunctionInfo.{FunctionInfo}
use Rattle.method.specs.declared.program.Program.{Program}
use Rattle.object_types.specs.References.{ref, same_ref}
use Rattle.object_types.specs.Heap.{empty_heap}
use Rattle.method.specs.Tables.{in_type}
use Rattle.method.specs.Expressions.{Outcome, Gives, Misfit, Failed}
use Rattle.method.specs.Machine.{State}
use Rattle.method.specs.Starts.{start}
use Rattle.method.specs.Trace.{Memory, vec, box, state_of}

-- void main(long long x, \object o)
--   _(requires x > 0)                     line 2
--   _(requires x != 5)                    line 3
--   _(writes x * x * x >= 0 ? o : o)      line 4
-- { }
module _ (m : Memory) where
  abbrev pub positive : Spec
  positive = SCompare Greater (box m) (SVariable 0) (box m) (SNumber (pos 0))

  abbrev pub not_five : Spec
  not_five = SCompare NotEqual (box m) (SVariable 0) (box m) (SNumber (pos 5))

  abbrev pub cube : Spec
  cube = SArithmetic Times (box m) (SArithmetic Times (box m) (SVariable 0) (box m) (SVariable 0)) (box m) (SVariable 0)

  abbrev pub item : Spec
  item = SChoose (box m) (SCompare GreaterEqual (box m) cube (box m) (SNumber (pos 0))) (box m) (SVariable 1) (box m) (SVariable 1)

  abbrev pub main : FunctionInfo
  main = record {
    name = m.text;
    result = None;
    parameters = 2;
    variables = vec m (record { name = m.text; ty = Integer LongLong; is_ghost = false } ∷ record { name = m.text; ty = Object; is_ghost = true } ∷ []);
    requires_ = vec m (record { line = 2; spec = positive } ∷ record { line = 3; spec = not_five } ∷ []);
    ensures_ = vec m [];
    writes = vec m (item ∷ []);
    body = vec m [];
    end = 5;
  }

  abbrev pub program : Program
  program = record { structs = vec m []; fields = vec m []; functions = vec m (main ∷ []); sites = vec m []; shapes = vec m []; items = vec m (Function 0 ∷ []); main = 0 }

  abbrev pub starts : Value → Outcome State
  starts x = start program empty_heap (x ∷ Refers (ref 3 1) ∷ [])

  pub begins : starts (Int (pos 7)) ≡ Gives (state_of program main 0 empty_heap (Int (pos 7) ∷ Refers (ref 3 1) ∷ []))
  unfolding in_type same_ref
  begins = refl

  pub one_argument : (start program empty_heap (Int (pos 7) ∷ [])).end ≡ Misfit
  unfolding in_type same_ref
  one_argument = refl

  pub no_integer : (starts (Refers (ref 3 1))).end ≡ Misfit
  unfolding in_type same_ref
  no_integer = refl

  pub first_clause : starts (Int (pos 0)) ≡ record { overflow = None; end = Failed 0 Requires 2 }
  unfolding in_type same_ref
  first_clause = refl

  pub second_clause : starts (Int (pos 5)) ≡ record { overflow = None; end = Failed 0 Requires 3 }
  unfolding in_type same_ref
  second_clause = refl

  pub past_the_bits : (starts (Int (pos 4611686018427387904))).overflow ≡ Some (record { left = pos 21267647932558653966460912964485513216; right = pos 4611686018427387904 })
  unfolding in_type same_ref
  past_the_bits = refl
