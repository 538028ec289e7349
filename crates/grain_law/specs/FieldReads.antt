-- An expression of code, worked out read by read: values that were read before stand for its first reads, and what comes next is said. Own; the order of parts, reads and checks is that of `eval` (method).
use Rattle.std.specs.Prelude.{Bool, true, false, not, if◌then◌else◌, ◌-ℤ◌, pos, List, [], ◌∷◌}
use Rattle.object_types.specs.declared.values.Value.{Value}
use Rattle.object_types.specs.declared.values.Value.TheVariants.{Int, Ref as Refers}
use Rattle.object_types.specs.References.{null}
use Rattle.object_types.specs.Values.{int, referent, truth, says}
use Rattle.object_types.specs.Heap.{Heap}
use Rattle.int_ranges.specs.Ranges.{in_range}
use Rattle.method.specs.declared.program.CheckKind.TheVariants.{Range}
use Rattle.method.specs.declared.program.Expr.{Expr}
use Rattle.method.specs.declared.program.Expr.TheVariants.{Number, Null, Variable, Field', Not', Negate', Arithmetic', Compare', And', Or', Choose', Convert'}
use Rattle.method.specs.declared.program.Program.{Program}
use Rattle.method.specs.Tables.{local, read}
use Rattle.method.specs.SpecValue.{compute, compare}
use Rattle.method.specs.Expressions.{Outcome, Gives, after, Spot, check, readable, arithmetic, converted}

-- How far a text is worked out: it comes to one more read, which may not be made; to one more read, of this value; or to its end, with what it gives and the values that are left.
pub data Reading (A : Type 0) : Type 0 where
  Refuses : Reading A
  Reads : Value → Reading A
  Ends : A → List Value → Reading A

-- one text and then another
abbrev pub with_reading : {A B : Type 0} → Reading A → (A → List Value → Outcome (Reading B)) → Outcome (Reading B)
with_reading Refuses f = Gives Refuses
with_reading (Reads v) f = Gives (Reads v)
with_reading (Ends a us) f = f a us

abbrev pub after_reading : {A B : Type 0} → Outcome (Reading A) → (A → List Value → Outcome (Reading B)) → Outcome (Reading B)
after_reading o f = after o (λ r. with_reading r f)

-- a read of a field: the next of the values that were read before; or else it is made now, if it may be
abbrev pub next_read : List Value → Bool → Value → Outcome (Reading Value)
next_read [] may v = Gives (if may then Reads v else Refuses)
next_read (u ∷ us) may v = Gives (Ends u us)

-- a check, made once no value is left, so with the first read behind it; before that its value alone counts
abbrev pub late_check : List Value → Outcome Value → Value → Outcome (Reading Value)
late_check [] o v = after o (λ w. Gives (Ends w []))
late_check (u ∷ us) o v = Gives (Ends v (u ∷ us))

module _ (p : Program) (at_ : Spot) (h : Heap) (l : List Value) where
  -- an expression, with these values read before
  abbrev pub eval_with : Expr → List Value → Outcome (Reading Value)
  eval_with (Number z) us = Gives (Ends (Int z) us)
  eval_with Null us = Gives (Ends (Refers null) us)
  eval_with (Variable i) us = Gives (Ends (local l i) us)
  eval_with (Field' q e f) us = after_reading (eval_with e us) (λ v vs. next_read vs (readable p at_ h (referent v) f) (read p h (referent v) f))
  eval_with (Not' q e) us = after_reading (eval_with e us) (λ v vs. Gives (Ends (says (not (truth v))) vs))
  eval_with (Negate' q e c) us =
      after_reading (eval_with e us) (λ v vs.
      late_check vs (check at_ (in_range c (pos 0 -ℤ int v)) 0 Range (Gives (Int (pos 0 -ℤ int v)))) (Int (pos 0 -ℤ int v))
      )
  eval_with (Arithmetic' op q a r b c) us =
      after_reading (eval_with a us) (λ v vs.
      after_reading (eval_with b vs) (λ w ws.
      late_check ws (arithmetic at_ op c (int v) (int w) 0) (Int (compute op (int v) (int w)))
      )
      )
  eval_with (Compare' k q a r b) us = after_reading (eval_with a us) (λ v vs. after_reading (eval_with b vs) (λ w ws. Gives (Ends (says (compare k v w)) ws)))
  eval_with (And' q a r b) us =
      after_reading (eval_with a us) (λ v vs.
      if truth v then after_reading (eval_with b vs) (λ w ws. Gives (Ends (says (truth w)) ws)) else Gives (Ends (says false) vs)
      )
  eval_with (Or' q a r b) us =
      after_reading (eval_with a us) (λ v vs.
      if truth v then Gives (Ends (says true) vs) else after_reading (eval_with b vs) (λ w ws. Gives (Ends (says (truth w)) ws))
      )
  eval_with (Choose' q a r b t c) us = after_reading (eval_with a us) (λ v vs. if truth v then eval_with b vs else eval_with c vs)
  eval_with (Convert' q e c) us = after_reading (eval_with e us) (λ v vs. late_check vs (converted at_ c v 0) v)
