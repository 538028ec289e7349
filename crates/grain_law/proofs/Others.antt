-- What others do changes nothing of what a thread works out.
use Rattle.std.proofs.Common.{◌≡◌, ℕ, Bool, true, false, not, List, [], ◌∷◌, refl, sym, ap, subst}
use Rattle.std.specs.Prelude.{◌-ℤ◌, pos, if◌then◌else◌}
use Rattle.std.proofs.lemmas.Bool.{both_ways}
use Rattle.object_types.specs.declared.values.Value.{Value}
use Rattle.object_types.specs.declared.values.Value.TheVariants.{Int}
use Rattle.method.specs.declared.program.CheckKind.TheVariants.{Range}
use Rattle.method.specs.declared.program.Expr.{Expr}
use Rattle.method.specs.declared.program.Expr.TheVariants.{Number, Null, Variable, Field', Not', Negate', Arithmetic', Compare', And', Or', Choose', Convert'}
use Rattle.method.specs.declared.program.Program.{Program}
use Rattle.object_types.specs.Values.{truth, says, int, referent}
use Rattle.object_types.specs.Heap.{Heap}
use Rattle.int_ranges.specs.Ranges.{in_range}
use Rattle.method.specs.Rely.{Rely}
use Rattle.method.specs.Tables.{read}
use Rattle.method.specs.SpecValue.{compare, compute}
use Rattle.method.specs.Expressions.{Gives, Context, Spot, check, readable, arithmetic, converted}
use Rattle.method.specs.Actions.{spot}
use Rattle.quiet_law.proofs.QuietReads.{readable_same, read_same}
use Rattle.grain_law.specs.FieldReads.{Ends, after_reading, next_read, late_check, eval_with}
use Rattle.grain_law.specs.Plans.{Plan, Rest, Work}
use Rattle.grain_law.specs.FineSteps.{work}
use Rattle.grain_law.proofs.Traces.{InTurn}

next_read_same : (us : List Value) (b c : Bool) (v w : Value) → c ≡ b → (b ≡ true → w ≡ v) → next_read us c w ≡ next_read us b v
next_read_same [] true true v w e same = ap (next_read [] true) (same refl)
next_read_same [] true false v w e same = absurd (both_ways false refl e)
next_read_same [] false true v w e same = absurd (both_ways true e refl)
next_read_same [] false false v w e same = refl
next_read_same (u ∷ us) b c v w e same = refl

module _ (p : Program) (x : Context) (h k : Heap) (r : Rely p x.me h k) (line : ℕ) (l : List Value) where
  abbrev at_ : Spot
  at_ = spot x [] line

  eval_same : (e : Expr) (us : List Value) → eval_with p at_ k l e us ≡ eval_with p at_ h l e us
  eval_same (Number z) us = refl
  eval_same Null us = refl
  eval_same (Variable i) us = refl
  eval_same (Field' q e f) us =
      λ i. after_reading (eval_same e us i) (λ v vs. next_read_same vs (readable p at_ h (referent v) f) (readable p at_ k (referent v) f) (read p h (referent v) f) (read p k (referent v) f) (readable_same p x h k r [] line l (referent v) f) (read_same p x h k r [] line l (referent v) f) i)
  eval_same (Not' q e) us = λ i. after_reading (eval_same e us i) (λ v vs. Gives (Ends (says (not (truth v))) vs))
  eval_same (Negate' q e c) us = λ i. after_reading (eval_same e us i) (λ v vs. late_check vs (check at_ (in_range c (pos 0 -ℤ int v)) 0 Range (Gives (Int (pos 0 -ℤ int v)))) (Int (pos 0 -ℤ int v)))
  eval_same (Arithmetic' op q a s b c) us = λ i. after_reading (eval_same a us i) (λ v vs. after_reading (eval_same b vs i) (λ w ws. late_check ws (arithmetic at_ op c (int v) (int w) 0) (Int (compute op (int v) (int w)))))
  eval_same (Compare' c q a s b) us = λ i. after_reading (eval_same a us i) (λ v vs. after_reading (eval_same b vs i) (λ w ws. Gives (Ends (says (compare c v w)) ws)))
  eval_same (And' q a s b) us = λ i. after_reading (eval_same a us i) (λ v vs. if truth v then after_reading (eval_same b vs i) (λ w ws. Gives (Ends (says (truth w)) ws)) else Gives (Ends (says false) vs))
  eval_same (Or' q a s b) us = λ i. after_reading (eval_same a us i) (λ v vs. if truth v then Gives (Ends (says true) vs) else after_reading (eval_same b vs i) (λ w ws. Gives (Ends (says (truth w)) ws)))
  eval_same (Choose' q a s b t c) us = λ i. after_reading (eval_same a us i) (λ v vs. if truth v then eval_same b vs i else eval_same c vs i)
  eval_same (Convert' q e c) us = λ i. after_reading (eval_same e us i) (λ v vs. late_check vs (converted at_ c v 0) v)

  work_same : {A : Type 0} (plan : Plan A) (us : List Value) → work p at_ k l plan us ≡ work p at_ h l plan us
  work_same (Rest a) us = refl
  work_same (Work e f) us = λ i. after_reading (eval_same e us i) (λ v vs. work_same (f v) vs i)

  pub reads_stay : {A : Type 0} (plan : Plan A) (us : List Value) → InTurn (work p at_ h l plan) us → InTurn (work p at_ k l plan) us
  reads_stay plan us x = subst (λ F. InTurn F us) (λ i vs. sym (work_same plan vs) i) x
