-- The value of a term, worked out, where it is an equation or a test: numbers, references, columns of heaps, connectives, equalities of scalars, order. Own. Of quantified formulas and of relations of heaps nothing is worked out.
use Rattle.std.specs.Prelude.{ℤ, ◌+ℤ◌, ◌-ℤ◌, ◌*ℤ◌, pos, int_le, not, ◌&&◌, ◌||◌, if◌then◌else◌, true, List, [], ◌∷◌, Option, Some, None, option_and_then}
use Rattle.object_types.specs.References.{null}
use Rattle.object_types.specs.Values.{same_value}
use Rattle.method.specs.declared.program.Program.{Program}
use Rattle.method.specs.SpecValue.{quotient, remainder}
use Rattle.terms.specs.declared.term.Kind.{Kind}
use Rattle.terms.specs.declared.term.Kind.TheVariants as k
use Rattle.terms.specs.Formula.{Formula, Formulas, Node, Stop, With}
use Rattle.term_meaning.specs.RawHeaps.{open_object, close_object, clear_set}
use Rattle.term_meaning.specs.Meaning.{Env, Value, BoolValue, PlainValue, HeapValue, truth, number, reference, heap, int_value, ref_value, argument, read_in, store_in, column_at}

-- whether two integers or two references are the same
abbrev pub same_scalars : List Value → Option Value
same_scalars (PlainValue v ∷ PlainValue w ∷ []) = Some (BoolValue (same_value v w))
same_scalars _ = None

module _ (p : Program) (e : Env) where
  abbrev pub computed : Kind → ℤ → List Value → Option Value
  computed k.Int n xs = Some (int_value n)
  computed k.Ci n xs = Some (e.constant k.Ci n)
  computed k.Add n xs = Some (int_value (number (argument xs 0) +ℤ number (argument xs 1)))
  computed k.Sub n xs = Some (int_value (number (argument xs 0) -ℤ number (argument xs 1)))
  computed k.Mul n xs = Some (int_value (number (argument xs 0) *ℤ number (argument xs 1)))
  computed k.Div n xs = Some (int_value (quotient (number (argument xs 0)) (number (argument xs 1))))
  computed k.Mod n xs = Some (int_value (remainder (number (argument xs 0)) (number (argument xs 1))))
  computed k.Typ n xs = Some (int_value (pos (reference (argument xs 0)).ty))
  computed k.Get n xs = Some (read_in (column_at p n) xs)
  computed k.Ite n xs = Some (if truth (argument xs 0) then argument xs 1 else argument xs 2)
  computed k.Null n xs = Some (ref_value null)
  computed k.Me n xs = Some (ref_value e.me)
  computed k.Cr n xs = Some (e.constant k.Cr n)
  computed k.Ch n xs = Some (e.constant k.Ch n)
  computed k.Set n xs = Some (store_in (column_at p n) xs)
  computed k.Open n xs = Some (HeapValue (open_object (heap (argument xs 0)) (reference (argument xs 1)) (reference (argument xs 2))))
  computed k.Close n xs = Some (HeapValue (close_object (heap (argument xs 0)) (reference (argument xs 1))))
  computed k.Clear n xs = Some (HeapValue (clear_set (heap (argument xs 0)) (reference (argument xs 1))))
  computed k.True n xs = Some (BoolValue true)
  computed k.Not n xs = Some (BoolValue (not (truth (argument xs 0))))
  computed k.And n xs = Some (BoolValue (truth (argument xs 0) && truth (argument xs 1)))
  computed k.Or n xs = Some (BoolValue (truth (argument xs 0) || truth (argument xs 1)))
  computed k.Imp n xs = Some (BoolValue (not (truth (argument xs 0)) || truth (argument xs 1)))
  computed k.Eq n xs = same_scalars xs
  computed k.Le n xs = Some (BoolValue (int_le (number (argument xs 0)) (number (argument xs 1))))
  computed _ n xs = None

  abbrev mutual
    pub value_of : Formula → Option Value
    value_of (Node kind n fs) = option_and_then (λ xs. computed kind n xs) (values_of fs)

    pub values_of : Formulas → Option (List Value)
    values_of Stop = Some []
    values_of (With f fs) = option_and_then (λ x. option_and_then (λ xs. Some (x ∷ xs)) (values_of fs)) (value_of f)
