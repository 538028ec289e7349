-- A start passes the requires clauses of main one by one, and what passes them is a start.
use Rattle.std.proofs.Common.{◌≡◌, Bool, true, false, List, [], ◌∷◌, Option, Some, None, slice_get, refl, sym, ap, ◌∙◌}
use Rattle.object_types.specs.declared.values.Value.{Value}
use Rattle.method.specs.declared.program.CheckKind.TheVariants.{Requires}
use Rattle.method.specs.declared.program.Clause.{Clause}
use Rattle.method.specs.declared.program.FunctionInfo.{FunctionInfo}
use Rattle.method.specs.declared.program.Program.{Program}
use Rattle.object_types.specs.References.{thread}
use Rattle.method.specs.SpecValue.{holds}
use Rattle.method.specs.Overflow.{Overflow}
use Rattle.method.specs.Expressions.{End, Misfit, Failed, Gave, Outcome, Context, Spot, call_scene, spec_test, check, weighed}
use Rattle.method.specs.Actions.{spot, fitting, callee, clauses_hold, items_overflow}
use Rattle.method.specs.Machine.{State, Thread, all_true, fit_parameters, IsStart}
use Rattle.method.specs.Starts.{requires_checked, alone, start_in, start_of, start, StartLaw}

abbrev given : {A : Type 0} → A → End A → A
given a Misfit = a
given a (Failed n kind line) = a
given a (Gave b) = b

module _ (p : Program) (x : Context) {A : Type 0} (o : Outcome A) where
  passed : (at_ : Spot) (w : Option Overflow) (b : Bool) (bs : List Bool) (rest : Outcome A) → all_true (b ∷ bs) ≡ true → (all_true bs ≡ true → rest.end ≡ o.end) → (weighed w (check at_ b 0 Requires rest)).end ≡ o.end
  passed at_ w true bs rest e f = f e
  passed at_ w false bs rest e f = absurd (cc)

  clauses_pass : (cs : List Clause) → all_true (clauses_hold p cs (call_scene x.me x.entry x.args)) ≡ true → (requires_checked p x cs o).end ≡ o.end
  clauses_pass [] e = refl
  clauses_pass (c ∷ cs) e =
      let s = call_scene x.me x.entry x.args in
      passed (spot x [] c.line) (spec_test p c.spec s).overflow (holds p c.spec s) (clauses_hold p cs s) (requires_checked p x cs o) e (clauses_pass cs)

  passing : (at_ : Spot) (w : Option Overflow) (b : Bool) (bs : List Bool) (rest : Outcome A) (a : A) → (weighed w (check at_ b 0 Requires rest)).end ≡ Gave a → (rest.end ≡ Gave a → (all_true bs ≡ true) × (o.end ≡ Gave a)) → (all_true (b ∷ bs) ≡ true) × (o.end ≡ Gave a)
  passing at_ w true bs rest a e f = f e
  passing at_ w false bs rest a e f = absurd (cc)

  clauses_passed : (cs : List Clause) (a : A) → (requires_checked p x cs o).end ≡ Gave a → (all_true (clauses_hold p cs (call_scene x.me x.entry x.args)) ≡ true) × (o.end ≡ Gave a)
  clauses_passed [] a e = (refl, e)
  clauses_passed (c ∷ cs) a e =
      let s = call_scene x.me x.entry x.args in
      passing (spot x [] c.line) (spec_test p c.spec s).overflow (holds p c.spec s) (clauses_hold p cs s) (requires_checked p x cs o) a e (clauses_passed cs a)

-- what follows main's clauses
abbrev begun : Program → FunctionInfo → Context → Outcome State
begun p f x = weighed (items_overflow p f.writes.items (call_scene x.me x.entry x.args)) (record { overflow = None; end = Gave (alone p x) })

module _ (p : Program) (s : State) where
  gives : IsStart p s → (args : List Value) × ((start p s.heap args).end ≡ Gave s)
  gives i =
      let x = callee p p.main i.function (thread 1) s.heap i.args in (
        i.args,
        ap (λ f. (start_of p f s.heap i.args).end) i.is ∙ (ap (λ b. (fitting b (start_in p i.function x)).end) i.ranges
            ∙ (clauses_pass p x (begun p i.function x) i.function.requires_.items i.pre ∙ ap (λ (ts : List Thread). Gave (record { heap = s.heap; threads = ts })) (sym i.threads))),
      )

  fits : (f : FunctionInfo) (args : List Value) (b : Bool) → slice_get p.functions.items p.main ≡ Some f → fit_parameters f args ≡ b → (fitting b (start_in p f (callee p p.main f (thread 1) s.heap args))).end ≡ Gave s → IsStart p s
  fits f args false is e g = absurd (cc)
  fits f args true is e g =
      let x = callee p p.main f (thread 1) s.heap args in
      let d = clauses_passed p x (begun p f x) f.requires_.items s g in
      record { function = f; args = args; is = is; ranges = e; pre = d.0; threads = sym (ap (λ z. (given s z).threads) d.1) }

  from_main : (args : List Value) (f : Option FunctionInfo) → slice_get p.functions.items p.main ≡ f → (start_of p f s.heap args).end ≡ Gave s → IsStart p s
  from_main args None is g = absurd (cc)
  from_main args (Some f) is g = fits f args (fit_parameters f args) is refl g

  is_start : ((args : List Value) × ((start p s.heap args).end ≡ Gave s)) → IsStart p s
  is_start d = from_main d.0 (slice_get p.functions.items p.main) refl d.1

pub start_law : StartLaw
start_law p s = (gives p s, is_start p s)
