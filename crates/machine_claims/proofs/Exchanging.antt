-- What an exchange comes to, from its checks.
use Rattle.std.proofs.Common.{◌≡◌, ℕ, ◌+◌, Bool, true, false, cond, not, ◌||◌, ℤ, pos, negsuc, ◌+ℤ◌, List, refl, sym, ap, subst, ◌∙◌}
use Rattle.object_types.specs.declared.references.Ref.{Ref}
use Rattle.object_types.specs.declared.values.Value.{Value}
use Rattle.object_types.specs.declared.values.Value.TheVariants.{Int}
use Rattle.object_types.specs.Values.{int}
use Rattle.int_ranges.specs.Exact.{Leaves as Leaves128}
use Rattle.method.specs.declared.program.CheckKind.TheVariants.{Read, Range}
use Rattle.method.specs.declared.program.DeclaredType.{DeclaredType}
use Rattle.method.specs.declared.program.DeclaredType.TheVariants.{Integer, Pointer, Object, Claim}
use Rattle.method.specs.declared.program.Operation.{Operation}
use Rattle.method.specs.declared.program.Operation.TheVariants.{CompareExchange, Exchange, Increment, Decrement}
use Rattle.method.specs.declared.program.Program.{Program}
use Rattle.method.specs.Tables.{in_type, type_of_field, read}
use Rattle.method.specs.Expressions.{Outcome, Fault, Gives, after, Spot, check, readable}
use Rattle.method.specs.Actions as m
use Rattle.machine_values.specs.declared.stop.Stop.{Stop}
use Rattle.machine_values.specs.Answers.{Stops}
use Rattle.machine_values.proofs.Outcomes.{stops_after}
use Rattle.machine_values.proofs.Ranges.{leaves_range}
use Rattle.machine_objects.specs.declared.progress.Progress.{Progress}
use Rattle.machine_objects.specs.Runs.{Follows, Lands, Leaves}
use Rattle.machine_objects.proofs.Checks.{fails, passes, lands_gives}
use Rattle.machine_objects.proofs.Landing.{then_lands}

-- no type has a number that leaves 128 bits
no_number : (ty : DeclaredType) (z : ℤ) → Leaves128 z → in_type ty (Int z) ≡ false
unfolding in_type
no_number (Integer c) z out = leaves_range c z out
no_number (Pointer k) z out = refl
no_number Object z out = refl
no_number Claim z out = refl

no_count : (ty : DeclaredType) (op : Operation) (vs : List Value) (was : Value) → m.counts op ≡ true → Leaves128 (int (m.replaced op vs was)) → in_type ty (m.replaced op vs was) ≡ false
no_count ty (CompareExchange a b) vs was counts out = absurd (cc)
no_count ty (Exchange a) vs was counts out = absurd (cc)
no_count ty Increment vs was counts out = no_number ty (int was +ℤ pos 1) out
no_count ty Decrement vs was counts out = no_number ty (int was +ℤ negsuc 0) out

module _ (p : Program) (at_ : Spot) (op : Operation) (o : Ref) (f : ℕ) (vs : List Value) (n : ℕ) (g : m.Progress) (was : Value) (reads : readable p at_ g.heap o f ≡ true) (here : was ≡ read p g.heap o f) where
  abbrev whole : Outcome m.Valued
  whole = m.exchange p at_ op o f vs n g

  -- the value may be stored: it is no count, or of the field's type
  abbrev fits : Value → Bool
  fits v = not (m.counts op) || in_type (type_of_field p f) v

  abbrev storing : Value → Outcome m.Progress
  storing v = m.store p at_ (m.InField o f) v (cond (m.counts op) (n + 2) (n + 1)) g

  abbrev given : Value → Value → m.Progress → Outcome m.Valued
  given w v g' = Gives (record { value = m.given op w v; starting = g' })

  abbrev stored : Value → Value → Outcome m.Valued
  stored w v = after (storing v) (given w v)

  abbrev ranged : Value → Value → Outcome m.Valued
  ranged w v = check at_ (fits v) (n + 1) Range (stored w v)

  now_is : whole ≡ ranged was (m.replaced op vs was)
  now_is = passes at_ (readable p at_ g.heap o f) n Read (ranged (read p g.heap o f) (m.replaced op vs (read p g.heap o f))) reads ∙ ap (λ w. ranged w (m.replaced op vs w)) (sym here)

  pub no_value : Leaves128 (int (m.replaced op vs was)) → m.counts op ≡ true → whole ≡ Fault (n + 1) Range at_.line
  no_value out counts =
      let v = m.replaced op vs was in
      now_is ∙ fails at_ (fits v) (n + 1) Range (stored was v) (ap (λ b. not b || in_type (type_of_field p f) v) counts ∙ no_count (type_of_field p f) op vs was counts out)

  module _ (v : Value) (is : m.replaced op vs was ≡ v) where
    value_is : whole ≡ ranged was v
    value_is = now_is ∙ ap (ranged was) is

    pub no_room : fits v ≡ false → whole ≡ Fault (n + 1) Range at_.line
    no_room e = value_is ∙ fails at_ (fits v) (n + 1) Range (stored was v) e

    module _ (room : fits v ≡ true) where
      store_is : whole ≡ stored was v
      store_is = value_is ∙ passes at_ (fits v) (n + 1) Range (stored was v) room

      pub store_stops : (s : Stop) → ((k : ℕ) → Stops s (m.store p at_ (m.InField o f) v k g)) → Stops s whole
      store_stops s stops = subst (Stops s) (sym store_is) (stops_after s (storing v) (given was v) (stops (cond (m.counts op) (n + 2) (n + 1))))

      pub store_lands : (new : Progress) (r : Value) → r ≡ m.given op was v → ((k : ℕ) → Lands (Follows new) (m.store p at_ (m.InField o f) v k g)) → Lands (Leaves new r) whole
      store_lands new r is_given lands =
          subst (Lands (Leaves new r)) (sym store_is)
          (then_lands (Follows new) (storing v) (given was v) (lands (cond (m.counts op) (n + 2) (n + 1))) (Leaves new r)
          (λ g' follows. lands_gives (Leaves new r) (given was v g') (record { value = m.given op was v; starting = g' }) refl (record { value = sym is_given; starting = follows })))
