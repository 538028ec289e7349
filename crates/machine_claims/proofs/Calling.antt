-- How an Interlocked call goes on behind its exchange.
use Rattle.std.proofs.Common.{◌≡◌, ℕ, ◌+◌, not, cond, List, Result, Ok, Err, refl, sym, ap, subst, ◌∙◌}
use Rattle.object_types.specs.declared.references.Ref.{Ref}
use Rattle.object_types.specs.declared.values.Value.{Value}
use Rattle.object_types.specs.Values.{referent, says, same_value}
use Rattle.object_types.specs.Heap.{IsFinite}
use Rattle.method.specs.declared.program.Expr.{Expr}
use Rattle.method.specs.declared.program.Operation.{Operation}
use Rattle.method.specs.declared.program.InterlockedResult.{InterlockedResult}
use Rattle.method.specs.declared.program.InterlockedResult.TheVariants.{Plainly, Compared}
use Rattle.method.specs.declared.program.Program.{Program}
use Rattle.method.specs.Expressions.{Outcome, Gives, after, Spot, checks, all_checks}
use Rattle.method.specs.Actions as m
use Rattle.machine_values.specs.declared.stop.Stop.{Stop}
use Rattle.machine_values.specs.Spots.{heap_at}
use Rattle.machine_values.specs.Answers.{Stops, Yields}
use Rattle.machine_values.proofs.Outcomes.{stops_after, after_assoc}
use Rattle.machine_objects.specs.declared.progress.Progress.{Progress}
use Rattle.machine_objects.specs.Runs.{Extra, progress_at, Lands, Leaves, RunsTo, ended_value}
use Rattle.machine_objects.proofs.Checks.{lands_gives}
use Rattle.machine_objects.proofs.Landing.{then_comes, of_leaver}
use Rattle.machine_claims.specs.Calls.{run_call}

-- an item that changes nothing gives its value with the progress so far

module _ (v : m.Valued) where
  abbrev with_value : Value → Outcome m.Valued
  with_value x = Gives (record v { value = x })

  abbrev its_value : m.Valued → Outcome Value
  its_value w = Gives w.value

  abbrev Keeps : Outcome m.Valued → Type 0
  Keeps o = o ≡ after (ended_value o) with_value

  keeps_value : (q : Outcome Value) → Keeps (after q with_value)
  keeps_value q = sym (ap (λ z. after z with_value) (after_assoc q with_value its_value) ∙ after_assoc q (λ a. Gives a) with_value)

  keeps_after : {X : Type 0} (q : Outcome X) (f : X → Outcome m.Valued) → ((x : X) → Keeps (f x)) → Keeps (after q f)
  keeps_after q f each =
      sym (ap (λ z. after z with_value) (after_assoc q f its_value)
      ∙ after_assoc q (λ x. after (f x) its_value) with_value
      ∙ ap (after q) (λ i x. sym (each x) i))

  afterwards_keep : (p : Program) (at_ : Spot) (n : ℕ) (ending : InterlockedResult) → Keeps (m.afterwards p at_ ending n v)
  afterwards_keep p at_ n (Plainly c) = keeps_value (m.convert_to at_ c v.value n)
  afterwards_keep p at_ n (Compared c equal e d) =
      keeps_after (m.convert_to at_ c v.value n) _ (λ a.
      keeps_after (m.run_expr p at_ e (n + m.conversion_checks c) v.starting) _ (λ b.
      keeps_value (m.convert_to at_ d (says (cond equal (same_value a b) (not (same_value a b)))) (n + m.conversion_checks c + checks e))))

module _ (p : Program) (at_ : Spot) (n : ℕ) (ending : InterlockedResult) (new : Progress) (v : Value) (e : Extra) (finite : IsFinite (heap_at e.support new.heap)) where
  abbrev so_far : m.Valued
  so_far = record { value = v; starting = progress_at e new }

  ends_comes : (r : Result Value Stop) → Yields r (ended_value (m.afterwards p at_ ending n so_far)) → RunsTo r new (m.afterwards p at_ ending n so_far)
  ends_comes (Ok x) h =
      lands_gives (Leaves new x) (m.afterwards p at_ ending n so_far) (record { value = x; starting = progress_at e new })
      (afterwards_keep so_far p at_ n ending ∙ ap (λ z. after z (with_value so_far)) h)
      (record { value = refl; starting = record { extra = e; finite = finite; is = refl } })
  ends_comes (Err s) h = subst (Stops s) (sym (afterwards_keep so_far p at_ n ending)) (stops_after s (ended_value (m.afterwards p at_ ending n so_far)) (with_value so_far) h)

module _ (p : Program) (at_ : Spot) (object : Expr) (f : ℕ) (op : Operation) (ending : InterlockedResult) (n : ℕ) (g : m.Progress) (o : Value) (vs : List Value) (gives : m.run_expr p at_ object n g ≡ Gives o) (others : (k : ℕ) → m.run_exprs p at_ (m.operands op) k g ≡ Gives vs) (q : Ref) (us : List Value) (object_is : q ≡ referent o) (operands_are : us ≡ vs) where
  abbrev whole : Outcome m.Valued
  whole = run_call p at_ object f op ending n g

  -- where the exchange's checks begin, and those behind it
  abbrev pub at_exchange : ℕ
  at_exchange = n + checks object + all_checks (m.operands op)

  abbrev pub at_end : ℕ
  at_end = n + checks object + m.operation_checks op

  abbrev exchanged : Outcome m.Valued
  exchanged = m.exchange p at_ op q f us at_exchange g

  abbrev exchange_of : Value → List Value → Outcome m.Valued
  exchange_of w ws = after (m.exchange p at_ op (referent w) f ws at_exchange g) (m.afterwards p at_ ending at_end)

  whole_is : whole ≡ after exchanged (m.afterwards p at_ ending at_end)
  whole_is =
      ap (λ z. after z (λ w. after (m.run_exprs p at_ (m.operands op) (n + checks object) g) (λ ws. exchange_of w ws))) gives
      ∙ ap (λ z. after z (λ ws. exchange_of o ws)) (others (n + checks object))
      ∙ λ i. after (m.exchange p at_ op (sym object_is i) f (sym operands_are i) at_exchange g) (m.afterwards p at_ ending at_end)

  pub call_stops : (s : Stop) → Stops s exchanged → Stops s whole
  call_stops s h = subst (Stops s) (sym whole_is) (stops_after s exchanged (m.afterwards p at_ ending at_end) h)

  pub call_comes : (new : Progress) (v : Value) → Lands (Leaves new v) exchanged → (r : Result Value Stop) → ((e : Extra) → IsFinite (heap_at e.support new.heap) → Yields r (ended_value (m.afterwards p at_ ending at_end (record { value = v; starting = progress_at e new })))) → RunsTo r new whole
  call_comes new v lands r ends =
      subst (RunsTo r new) (sym whole_is)
      (then_comes (Leaves new v) exchanged (m.afterwards p at_ ending at_end) lands r (Leaves new)
      (λ w leaves. of_leaver (λ z. RunsTo r new (m.afterwards p at_ ending at_end z)) new v w leaves (λ e finite. ends_comes p at_ at_end ending new v e finite r (ends e finite))))
